-- How objects parse from a file, from place to place: behind an allowed id, a leaf's body or a group's; in a group a count, the members and the end.
use Rattle.std.specs.Prelude.{◌≡◌, refl, Bool, true, false, cond, ℕ, zero, suc, ◌+◌, ◌-◌, ◌≤◌, List, ◌++◌, eqb, ltb, length, drop}
use Rattle.std.proofs.Common.{sym, ap, ◌∙◌, arith, length-append, length-drop, drop_at, drop-drop, lt-ltb, ne_eqb}
use Prim.Native.Char.{code}
use Rattle.format.specs.Digits.{Below}
use Rattle.format.specs.Kind.{Kind, Allowed}
use Rattle.format.specs.LeafLaws.{below_drop}
use Rattle.format.specs.Codec.{Outcome, found, refused, and_then}
use Rattle.format.specs.FixedLayoutLaws.{parsed_spelt}
use Rattle.format.specs.Layout.{Layout, field, either, renamed, counted, repeat}
use Rattle.format.specs.Parse.{parse}
use Rattle.format.specs.FormatLaws.{each-length}
use Rattle.format.specs.ParsingLaws.{and_then_and_then, parse-field, parse-implied, parse-either, parse-case, parse-renamed, parse_pair, and_then_same}
use Rattle.drawing.specs.Codecs.{byte_fields}
use Rattle.drawing.specs.Reading.{bytes}
use Rattle.drawing.specs.Fields.{member_count, object_fault, object_id}
use Rattle.drawing.specs.String.{String}
use Rattle.drawing.specs.Object.{Object, leaf, group, Objects, of_list, list_of}
use Rattle.drawing.specs.ObjectId.{object_letter, leaf_of, group_of}
use Rattle.drawing.specs.ObjectLaws.{list_of_list, leaf_tells, object_tells}
use Rattle.drawing.proofs.ObjectLaws.{group_no_leaf}
use Rattle.drawing.specs.LeafLayout.{is_leaf, leaf_body, object_end}
use Rattle.drawing.specs.ObjectLayout.{object, leaf_object, group_object, group_body}
use Rattle.laws.specs.CodecLaws.{bytes_sensible}

-- ---- places

-- What is left behind something that was parsed is the file from a later place on.
pub record Behind (file : List ℕ) (at : ℕ) (rest : List ℕ) : Type 0 where
  pub rest-is : rest ≡ drop (length file - length rest) file
  pub forward : at ≤ length file - length rest
  pub inside : length file - length rest ≤ length file

pub behind : {A : Type 0} (L : Layout A) (file : List ℕ) (at : ℕ) → Below 256 file → at ≤ length file → (a : A) (rest : List ℕ)
    → parse bytes L (drop at file) ≡ found a rest → Behind file at rest
behind L file at below inside a rest e =
    let spelt = parsed_spelt byte_fields bytes_sensible L (drop at file) (below_drop 256 at file below) a rest e in
    let front = spelt.front in
    let split : drop at file ≡ front ++ rest = spelt.split in
    let long : length file - at ≡ length front + length rest = sym (length-drop at file) ∙ ap length split ∙ length-append front rest in
    let place : at + length front ≡ length file - length rest = omega arith in
    record {
      rest-is =
          sym (drop_at front rest (length front) refl)
          ∙ ap (drop (length front)) (sym split)
          ∙ drop-drop (length front) at file
          ∙ ap (λ n. drop n file) place;
      forward = omega arith;
      inside = omega arith;
    }

-- ---- an object, by its id

-- An allowed id that is not a group's is a leaf's, and a group's is allowed only where one may nest.
pub leaf_id : (v c : ℕ) (deeper : Bool) → Allowed (object_id (is_leaf v) deeper) c → (c ≡ code "G" → ⊥) → is_leaf v c ≡ true
leaf_id v c deeper a other = by (is_leaf v c) (eqb c (code "G")) (ne_eqb c (code "G") other) a.faultless
  where
    by : (l g : Bool) → g ≡ false → object_fault l g deeper ≡ 0 → l ≡ true
    by true g n e = refl
    by false true n e = let z : ◌≡◌ {A = ℕ} 0 1 = cc in absurd (omega arith)
    by false false n e = absurd (omega arith)

pub group_id : (v : ℕ) (deeper : Bool) → Allowed (object_id (is_leaf v) deeper) (code "G") → deeper ≡ true
group_id v true a = refl
group_id v false a = let no : ◌≡◌ {A = ℕ} 10 0 = ap (λ t. object_fault t true false) (sym (group_no_leaf v)) ∙ a.faultless in absurd (omega arith)

-- An object that cannot be a group, and one that can.
lone : (v : ℕ) (us : List ℕ) → parse bytes (object v zero) us ≡ and_then (bytes.read (object_id (is_leaf v) false) us) (λ c rest. parse bytes (leaf_object v c) rest)
lone v us =
    parse-implied bytes (field (object_id (is_leaf v) false)) (leaf_object v) object_letter (leaf_tells v) us
    ∙ ap (λ o. and_then o (λ c rest. parse bytes (leaf_object v c) rest)) (parse-field bytes (object_id (is_leaf v) false) us)

nested : (v deep : ℕ) (us : List ℕ)
    → parse bytes (object v (suc deep)) us
    ≡ and_then (bytes.read (object_id (is_leaf v) true) us) (λ c rest. cond (is_leaf v c) (parse bytes (leaf_object v c) rest) (parse bytes (group_object v (object v deep)) rest))
nested v deep us =
    parse-implied bytes (field (object_id (is_leaf v) true)) (λ c. either (is_leaf v c) (leaf_object v c) (group_object v (object v deep))) object_letter (object_tells v (group_body v (object v deep))) us
    ∙ ap (λ o. and_then o (λ c rest. parse bytes (either (is_leaf v c) (leaf_object v c) (group_object v (object v deep))) rest)) (parse-field bytes (object_id (is_leaf v) true) us)
    ∙ and_then_same (bytes.read (object_id (is_leaf v) true) us) (λ c rest. parse-either bytes (is_leaf v c) (leaf_object v c) (group_object v (object v deep)) rest)

-- The id's kind, where so many groups may still nest.
abbrev pub id_kind : (version deep : ℕ) → Kind
id_kind v deep = object_id (is_leaf v) (ltb 0 deep)

more_than_none : (deep : ℕ) → ltb 0 (suc deep) ≡ true
more_than_none deep = lt-ltb 0 (suc deep) (omega arith)

pub object-refused : (v deep : ℕ) (us : List ℕ) (n : ℕ) (place : List ℕ) → bytes.read (id_kind v deep) us ≡ refused n place → parse bytes (object v deep) us ≡ refused n place
object-refused v zero us n place e = lone v us ∙ ap (λ o. and_then o (λ c rest. parse bytes (leaf_object v c) rest)) e
object-refused v (suc deep) us n place e =
    let e' : bytes.read (object_id (is_leaf v) true) us ≡ refused n place = ap (λ t. bytes.read (object_id (is_leaf v) t) us) (sym (more_than_none deep)) ∙ e in
    nested v deep us
    ∙ ap (λ o. and_then o (λ c rest. cond (is_leaf v c) (parse bytes (leaf_object v c) rest) (parse bytes (group_object v (object v deep)) rest))) e'

pub object_leaf : (v deep : ℕ) (us : List ℕ) (c : ℕ) (rest : List ℕ) → bytes.read (id_kind v deep) us ≡ found c rest → is_leaf v c ≡ true
    → parse bytes (object v deep) us ≡ and_then (parse bytes (leaf_body v c) rest) (λ (l, d) rest₂. found (leaf l d) rest₂)
object_leaf v zero us c rest e l =
    lone v us
    ∙ ap (λ o. and_then o (λ c rest. parse bytes (leaf_object v c) rest)) e
    ∙ parse-case bytes (leaf_body v c) (λ (l, d). leaf l d) leaf_of (λ t good. refl) rest
object_leaf v (suc deep) us c rest e l =
    let e' : bytes.read (object_id (is_leaf v) true) us ≡ found c rest = ap (λ t. bytes.read (object_id (is_leaf v) t) us) (sym (more_than_none deep)) ∙ e in
    nested v deep us
    ∙ ap (λ o. and_then o (λ c rest. cond (is_leaf v c) (parse bytes (leaf_object v c) rest) (parse bytes (group_object v (object v deep)) rest))) e'
    ∙ ap (λ t. cond t (parse bytes (leaf_object v c) rest) (parse bytes (group_object v (object v deep)) rest)) l
    ∙ parse-case bytes (leaf_body v c) (λ (l, d). leaf l d) leaf_of (λ t good. refl) rest

pub object_group : (v deep : ℕ) (us rest : List ℕ) → bytes.read (object_id (is_leaf v) true) us ≡ found (code "G") rest
    → parse bytes (object v (suc deep)) us ≡ and_then (parse bytes (group_body v (object v deep)) rest) (λ (os, d) rest₂. found (group os d) rest₂)
object_group v deep us rest e =
    nested v deep us
    ∙ ap (λ o. and_then o (λ c rest. cond (is_leaf v c) (parse bytes (leaf_object v c) rest) (parse bytes (group_object v (object v deep)) rest))) e
    ∙ ap (λ t. cond t (parse bytes (leaf_object v (code "G")) rest) (parse bytes (group_object v (object v deep)) rest)) (group_no_leaf v)
    ∙ parse-case bytes (group_body v (object v deep)) (λ (os, d). group os d) group_of (λ t good. refl) rest

-- ---- a group: its count, its members, its end

-- What is found, renamed and gone on from, in one.
onward : {X Y Z : Type 0} (o : Outcome X) (name : X → Y) (then : Y → List ℕ → Outcome Z) → and_then (and_then o (λ x rest. found (name x) rest)) then ≡ and_then o (λ x rest. then (name x) rest)
onward (found x rest) name then = refl
onward (refused n place) name then = refl

pub group_parse : (v : ℕ) (each : Layout Object) (us : List ℕ)
    → parse bytes (group_body v each) us
    ≡ and_then (bytes.read member_count us) (λ n rest.
    and_then (parse bytes (repeat n each) rest) (λ os rest₂. and_then (parse bytes (object_end v) rest₂) (λ d rest₃. found (of_list os, d) rest₃)))
group_parse v each us =
    parse_pair bytes (renamed (counted member_count each) of_list list_of (λ os good. list_of_list os)) (λ os. object_end v) us
    ∙ ap (λ o. and_then o tail) (parse-renamed bytes (counted member_count each) of_list list_of (λ os good. list_of_list os) us)
    ∙ onward (parse bytes (counted member_count each) us) of_list tail
    ∙ ap (λ o. and_then o (λ os rest. tail (of_list os) rest)) (count ∙ ap (λ o. and_then o (λ n rest. parse bytes (repeat n each) rest)) (parse-field bytes member_count us))
    ∙ and_then_and_then (bytes.read member_count us) (λ n rest. parse bytes (repeat n each) rest) (λ os rest. tail (of_list os) rest)
  where
    tail : Objects → List ℕ → Outcome (Objects × String)
    tail os rest = and_then (parse bytes (object_end v) rest) (λ d rest₂. found (os, d) rest₂)

    count : parse bytes (counted member_count each) us ≡ and_then (parse bytes (field member_count) us) (λ n rest. parse bytes (repeat n each) rest)
    count =
        parse-implied bytes (field member_count) (λ n. repeat n each) length
        (λ n as' allowed each'. each-length (λ s. each.Good) (λ s a. s) n tt as' each') us
