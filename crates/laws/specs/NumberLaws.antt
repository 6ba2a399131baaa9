-- Which numbers a file is refused with: layout by layout, the faults of each field are from 1 to 12, and never 5 (R-4).
use Rattle.std.specs.Prelude.{◌≡◌, refl, ◌⊎◌, Bool, true, false, cond, not, ◌&&◌, ◌||◌, ℕ, zero, suc, ◌+◌, ◌-◌, ◌%◌, ◌^◌, ◌<◌, ◌≤◌, List, [], ◌∷◌, eqb, leb, ltb, pos}
use Rattle.std.proofs.Common.{sym, ap, ◌∙◌, inl, inr, arith, to_z, lt-ltb, leb-true, eq-eqb}
use Rattle.std.proofs.Math.Option.{Option, none, some}
use Prim.Native.Char.{code}
use Rattle.std.specs.Int.Signed.{le_z}
use Rattle.std.specs.Float.{binary32}
use Rattle.std.specs.Int.{w8, w32}
use Rattle.format.specs.Digits.{Below, number}
use Rattle.format.specs.DigitsLaws.{number_below}
use Rattle.format.specs.Kind.{Kind, size, values}
use Rattle.format.specs.FixedCodec.{Cut, Faulty, number_fault}
use Rattle.format.specs.FixedCodecLaws.{below_front, below_behind}
use Rattle.format.specs.EveryLaws.{Every, every_field}
use Rattle.format.specs.FloatRange.{from_zero_to, from_zero_below}
use Rattle.format.specs.Layout.{field, when, ◌&◌}
use Rattle.format.specs.Alternative.{among, chosen}
use Rattle.drawing.specs.Limits.{last_minor, depth_limit, marker_limit}
use Rattle.drawing.specs.Codecs.{meant, byte_fields}
use Rattle.drawing.specs.Reading.{refusal, drawing_of}
use Rattle.drawing.specs.Fields as F
use Rattle.drawing.specs.Fields.{unless, or_else, object_fault}
use Rattle.drawing.specs.FieldLaws.{and_both}
use Rattle.drawing.specs.Choices.{if_flag}
use Rattle.drawing.specs.String as S
use Rattle.drawing.specs.Paint as P
use Rattle.drawing.specs.Paint.{transparent_case, plain_cases}
use Rattle.drawing.specs.Marker as M
use Rattle.drawing.specs.MarkerChain as C
use Rattle.drawing.specs.LineStyle as L
use Rattle.drawing.specs.Path as Path
use Rattle.drawing.specs.Text as Text
use Rattle.drawing.specs.Bitmap as Bitmap
use Rattle.drawing.specs.TextPath as TextPath
use Rattle.drawing.specs.LeafLayout as Leaf
use Rattle.drawing.specs.ObjectLayout as Object
use Rattle.drawing.specs.Settings as Settings
use Rattle.drawing.specs.Drawing as Drawing
use Rattle.drawing.specs.Refusal.{Refused}
use Rattle.drawing.specs.FlagLaws.{meant-fits}
use Rattle.laws.specs.DrawingLaws.{refusal-of-bytes}

-- A fault of a file's field, or none.
abbrev ordinary : ℕ → Bool
ordinary n = leb n 12 && not (eqb n 5)

abbrev Mild : Kind → Type 0
Mild k = (v : ℕ) → ordinary (k.fault v) ≡ true

-- ---- kinds of field

unless_mild : (t : Bool) (n : ℕ) → ordinary n ≡ true → ordinary (unless t n) ≡ true
unless_mild true n small = refl
unless_mild false n small = small

either_mild : (a b : ℕ) → ordinary a ≡ true → ordinary b ≡ true → ordinary (or_else a b) ≡ true
either_mild zero b first second = second
either_mild (suc a) b first second = first

object_mild : (leaf group deeper : Bool) → ordinary (object_fault leaf group deeper) ≡ true
object_mild true group deeper = refl
object_mild false true deeper = unless_mild deeper 10 refl
object_mild false false deeper = refl

any : (v : ℕ) → ordinary 0 ≡ true
any v = refl

byte : (low high : ℕ) → Mild (F.byte_in low high)
byte low high v = unless_mild (F.in_range low high (to_z w8 v)) 6 refl

integer : (low high : ℕ) → Mild (F.integer_in low high)
integer low high v = unless_mild (F.in_range low high (to_z w32 v)) 6 refl

font_size : Mild F.font_size
font_size v = unless_mild (le_z (pos 0) (to_z w32 v)) 6 refl

count : (least : ℕ) → Mild (F.count least)
count least v = unless_mild (le_z (pos least) (to_z w32 v)) 8 refl

dash_count : Mild F.dash_count
dash_count v = unless_mild (le_z (pos 0) (to_z w32 v) && eqb (v % 2) 0) 8 refl

char : (allowed : ℕ → Bool) → Mild (F.char_where allowed)
char allowed v = unless_mild (allowed v) 7 refl

flow_flag : Mild F.flow_flag
flow_flag v = unless_mild (eqb v 0) 11 refl

component : Mild F.component
component v = unless_mild (from_zero_to binary32 1 v) 9 refl

hue : Mild F.hue
hue v = unless_mild (from_zero_below binary32 360 v) 9 refl

joined : (bits : ℕ) → Mild (F.joined bits)
joined bits v = unless_mild (eqb v bits) 12 refl

marker_id : (high : ℕ) (more : Bool) → Mild (F.marker_id high more)
marker_id high more v =
    either_mild (unless (F.in_range 0 high (to_z w8 v)) 6) (unless (more || eqb v 0) 10) (unless_mild (F.in_range 0 high (to_z w8 v)) 6 refl) (unless_mild (more || eqb v 0) 10 refl)

object_id : (leaf : ℕ → Bool) (deeper : Bool) → Mild (F.object_id leaf deeper)
object_id leaf deeper v = object_mild (leaf v) (eqb v (code "G")) deeper

-- ---- strings, paints, markers

string : (least : ℕ) → Every Mild (S.string least).format
string least = (count least, λ n t. any)

plains : (v c : ℕ) → Every Mild (chosen transparent_case (plain_cases v) c).format
plains v c = (
  (component, λ a. (component, λ b. (component, λ d. component))),
  (
    (component, λ a. (component, λ b. (component, λ d. (component, λ e. component)))),
    ((component, λ a. component), ((hue, λ a. (component, λ b. (component, λ d. component))), tt)),
  ),
)

plain_paint : (v : ℕ) → Every Mild (P.plain_paint v).format
plain_paint v = (char (among transparent_case (plain_cases v)), plains v)

gradient : (v high : ℕ) → Every Mild (P.plain_paint v & P.plain_paint v & field (F.integer_in 0 high)).format
gradient v high = (plain_paint v, λ a. (plain_paint v, λ b. integer 0 high))

paint : (v : ℕ) → Every Mild (P.paint v).format
paint v =
    let plain = plains v 0 in
    (char (among (P.as_paint transparent_case) (P.paint_cases v)), λ c. (plain.0, (plain.1.0, (plain.1.1.0, (plain.1.1.1.0, (gradient v 7, (gradient v 8, tt)))))))

marker : (v id : ℕ) → Every Mild (M.marker_body v id).format
marker v id =
    let if_float : Every Mild (if_flag (field F.float)).format = (any, λ f. (any, tt)) in (
      (any, λ a. (byte 1 3, λ b. (any, λ d. ((any, λ f. (any, tt)), λ e. (plain_paint v, λ g. (any, λ h. ((if_float, λ i. if_float), tt))))))),
      (any, λ a. (any, λ b. any)),
    )

chain : (v left : ℕ) → Every Mild (C.chain v left).format
chain v zero = (marker_id (M.last_marker v) false, λ id. tt)
chain v (suc left) = (marker_id (M.last_marker v) true, λ id. (tt, (marker v id, λ m. (chain v left, tt))))

line_style : (v : ℕ) → Every Mild (L.line_style v).format
line_style v =
    let markers = chain v marker_limit in (
      any,
      λ a. (
        ((dash_count, λ n t. any), λ b. (any, tt)),
        λ b. (byte 0 2, λ d. ((byte 0 2, λ e. (any, tt)), λ e. (byte 0 1, λ f. (markers, λ g. ((markers, tt), λ h. markers))))),
      ),
    )

-- ---- leaves

point : Every Mild (Path.point).format
point = (any, λ x. any)

start : (own : Bool) (before : Option Path.Point) → Every Mild (when own (Path.joined_point before) Path.origin).format
start own none = (point, tt)
start own (some p) = ((joined p.x, λ x. joined p.y), tt)

segment : (own : Bool) (before : Option Path.Point) → Every Mild (Path.segment own before).format
segment own before =
    let first = start own before in
    (λ c. unless_mild (eqb c (code "L") || (eqb c (code "M") || eqb c (code "B"))) 7 refl, λ c. ((first, λ s. point), ((first, λ s. point), (first, λ s. (point, λ p. (point, λ q. point))))))

outline : (v : ℕ) → Every Mild (Path.outline v).format
outline v = (char (F.one_of_chars (code "O" ∷ code "C" ∷ [])), λ e. (count 1, λ n. ((point, tt), λ p. segment (ltb v 3))))

path : (v : ℕ) → Every Mild (Path.path v).format
path v = (paint v, λ a. (paint v, λ b. (line_style v, λ d. outline v)))

text_style : Every Mild (Text.text_style).format
text_style =
    let latex : Every Mild (Text.latex).format = (string 0, λ a. (string 0, λ b. (string 0, λ d. (string 0, λ e. (byte 0 2, λ f. (byte 0 3, λ g. string 0)))))) in (
      (string 0, λ a. (byte 0 1, λ b. (byte 0 1, λ d. (font_size, λ e. λ t. any)))),
      λ f. (any, λ g. (latex, tt)),
    )

text : (v : ℕ) → Every Mild (Text.text v).format
text v = (text_style, λ s. (paint v, λ p. string 1))

text_path : (v : ℕ) → Every Mild (TextPath.text_path v).format
text_path v = (paint v, λ p. (text_style, λ s. (string 1, λ t. outline v)))

bitmap : Every Mild (Bitmap.bitmap).format
bitmap = (string 1, λ a. ((any, λ f. ((string 0, λ b. string 0), tt)), λ l. λ t. any))

-- ---- objects, and the file

object_end : (v : ℕ) → Every Mild (Leaf.object_end v).format
object_end v = (flow_flag, λ f. (string 0, tt))

leaf_body : (v letter : ℕ) → Every Mild (Leaf.leaf_body v letter).format
leaf_body v letter = ((text v, (bitmap, (text_path v, path v))), λ l. object_end v)

object : (v deep : ℕ) → Every Mild (Object.object v deep).format
object v zero = (object_id (Leaf.is_leaf v) false, λ c. leaf_body v c)
object v (suc deep) = (object_id (Leaf.is_leaf v) true, λ c. (leaf_body v c, ((count 0, λ n t. object v deep), λ os. object_end v)))

paper : (v : ℕ) → Every Mild (Settings.paper v).format
paper v = (byte 0 (cond (leb 3 v) 72 18), λ s. ((any, λ w. (any, λ h. (any, tt))), tt))

settings : (v : ℕ) → Every Mild (Settings.settings v).format
settings v =
    let all : Every Mild (Settings.all_settings v).format = (any, λ a. (any, λ b. (any, λ d. (integer 0 7, λ e. (any, λ f. (paper v, λ g. (byte 0 3, λ h. (any, λ i. any)))))))) in
    ((byte 0 2, λ c. (all, (paper v, tt))), (any, λ c. (all, tt)))

file : Every Mild (Drawing.file).format
file = (
  λ v. unless_mild (eqb v F.jdr) 3 refl,
  λ m. (
    λ v. unless_mild (eqb v 3) 4 refl,
    λ l. (
      λ c. unless_mild (leb F.version_zero c && leb c (F.version_zero + last_minor)) 4 refl,
      λ v. (settings v, λ s. (char (λ c. eqb c (code "G")), λ c. ((count 0, λ n t. object v (depth_limit - 1)), λ os. object_end v))),
    ),
  ),
)

-- ---- the number of a refusal

-- In a file every number of a field stands for a value, so a field that is there is refused by its kind alone.
field_mild : (k : Kind) (us : List ℕ) (n : ℕ) → Mild k → Below 256 us → Cut byte_fields k us n ⊎ Faulty byte_fields k us n → ordinary n ≡ true
field_mild k us n mild below (inl h) = rw h.number_is refl
field_mild k us n mild below (inr h) =
    let x = number 256 h.front in
    let small : x < 256 ^ size k.shape = rw (← h.whole) (number_below 256 h.front (below_front 256 h.front h.rest (rw h.split at below))) in
    let fits : meant k.shape x < values k.shape = meant-fits k.shape x small in
    let is : k.fault (meant k.shape x) ≡ n =
    sym (ap (λ t. number_fault byte_fields k (cond t (some (meant k.shape x)) none)) (lt-ltb (meant k.shape x) (values k.shape) fits)) ∙ h.fault-is in
    rw is at (mild (meant k.shape x))

-- What no file is refused with.
pub refusal-numbers : (bs : List ℕ) → Below 256 bs → (n offset : ℕ) → Refused bs n offset → (n ≤ 13) × (n ≡ 5 → ⊥)
refusal-numbers bs below n offset (inl h) = (omega (arith, h.number_is), λ e. omega (arith, h.number_is))
refusal-numbers bs below n offset (inr (inr h)) = (omega (arith, h.number_is), λ e. omega (arith, h.number_is))
refusal-numbers bs below n offset (inr (inl h)) =
    let here : Below 256 h.back = below_behind 256 h.front h.back (rw h.split at below) in
    told n (field_mild h.kind h.back n (every_field Mild (Drawing.file).format h.fields h.kind file h.asks) here h.at-fault)
  where
    told : (n : ℕ) → ordinary n ≡ true → (n ≤ 13) × (n ≡ 5 → ⊥)
    told n e =
        let both = and_both (leb n 12) (not (eqb n 5)) e in
        let small = leb-true n 12 both.0 in
        (omega arith, λ is. let z : ◌≡◌ {A = Bool} false true = sym (ap (λ t. not t) (eq-eqb n 5 is)) ∙ both.1 in let n : ◌≡◌ {A = ℕ} 0 1 = cc in omega arith)

pub number_small : (bs : List ℕ) → Below 256 bs → (n offset : ℕ) → drawing_of bs ≡ refusal n offset → n ≤ 13
number_small bs below n offset e = (refusal-numbers bs below n offset ((refusal-of-bytes bs below n offset).0 e)).0
