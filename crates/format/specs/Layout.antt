-- Layouts of values, and what layouts are put together with. A layout says which values are good and which fields they have.
--
--   layout                  its fields                                        a value is good when
--   field k                 one of kind k                                     the kind allows it
--   nothing x               none                                              it is x
--   f & g                   those of f, then those of g                       both of its parts are
--   f ▸ g                   those of f, then those of g of the first part     both of its parts are
--   either t f g            those of f where t holds, otherwise those of g    it is good there
--   when t f x              those of f where t holds, otherwise none          it is good for f there, otherwise it is x
--   repeat n f              n times those of f                                it is a list of n elements, each good for f
--   threaded n each next s  n times those of `each` of a state: s at first,   it is a list of n elements, each good where it stands
--                           then what `next` makes of state and element
--   counted k f             a count of kind k, then so many times those of f  its length is an allowed count, and each element good
--   constant k x f          one of kind k, which can only be x, then f's      x is allowed, and it is good for f
--   renamed f make apart    those of f                                        it is made of a value that is good for f
--   case f make apart       those of f                                        the same, where it can be taken apart
--   implied f g told        those of f, then those of g                       what it tells is good for f, and it is good for g of that
--   one_of k fallback rest   a tag of kind k, then those of the alternative    its own tag is allowed, and it is good for that alternative (Choice.antt)
--                           that has the tag
--   optional k yes no f     a flag of kind k, then f's where it is `yes`      it is none, or some value that is good for f (Choice.antt)
--
-- The arguments left out here are proofs: that what is made can be taken apart, that a value tells its count, tag or flag.
use Rattle.std.specs.Prelude.{◌≡◌, Bool, cond, ℕ, List, length}
use Rattle.std.proofs.Common.{sym, ap}
use Rattle.std.proofs.Math.Option.{Option, some}
use Rattle.format.specs.Kind.{Kind, Allowed}
use Rattle.format.specs.Spelling.{Spelling, spell_all}
use Rattle.format.specs.Format.{Format, known, one, pair, many, lead, pick, via, Each, Made, fields}
use Rattle.format.specs.FormatLaws.{each-length}

infixr 30 ◌&◌
infixr 30 ◌▸◌
pub record Layout (A : Type 0) : Type 1 where
  pub Good : A → Type 0
  pub format : Format A Good

-- The units that lay out a value.
abbrev pub encode : {A : Type 0} → Spelling → Layout A → A → List ℕ
encode spell L a = spell_all spell (fields L.format a)

abbrev pub field : Kind → Layout ℕ
field k = record { Good = Allowed k; format = one k }

abbrev pub nothing : {A : Type 0} → A → Layout A
nothing x = record { Good = λ a. a ≡ x; format = known x }

-- One part and then another, which may depend on the first.
abbrev pub ◌▸◌ : {A B : Type 0} → Layout A → (A → Layout B) → Layout (A × B)
◌▸◌ f g = record { Good = λ t. f.Good t.0 × (g t.0).Good t.1; format = pair f.format (λ a. (g a).format) }

abbrev pub ◌&◌ : {A B : Type 0} → Layout A → Layout B → Layout (A × B)
◌&◌ f g = f ▸ λ a. g

-- One of two, by a test.
abbrev pub either : {A : Type 0} → Bool → Layout A → Layout A → Layout A
either t f g = record { Good = λ a. cond t (f.Good a) (g.Good a); format = pick t f.format g.format }

-- There where the test holds; elsewhere no field, and the value is the default.
abbrev pub when : {A : Type 0} → Bool → Layout A → A → Layout A
when t f default = either t f (nothing default)

-- n elements, each laid out by a state that the ones before it have led to.
abbrev pub threaded : {S A : Type 0} → ℕ → (S → Layout A) → (S → A → S) → S → Layout (List A)
threaded n each next s =
    record { Good = Each (λ t. (each t).Good) next n s; format = many n (λ t. (each t).format) next s }

abbrev pub repeat : {A : Type 0} → ℕ → Layout A → Layout (List A)
repeat n f = threaded {S = Unit {0}} n (λ s. f) (λ s a. s) tt

-- The same fields for values of one case of a type of several.
abbrev pub case : {A B : Type 0} (f : Layout A) (make : A → B) (apart : B → Option A) → ((a : A) → f.Good a → apart (make a) ≡ some a) → Layout B
case f make apart same =
    record { Good = λ b. Made f.Good make b (apart b); format = via f.format make apart same }

-- The same fields for values of a type with names for them.
abbrev pub renamed : {A B : Type 0} (f : Layout A) (make : A → B) (apart : B → A) → ((a : A) → f.Good a → apart (make a) ≡ a) → Layout B
renamed f make apart same = case f make (λ b. some (apart b)) (λ a good. ap {B = Option _} some (same a good))

-- A first part that the rest tells again, so that the value does without it.
abbrev pub implied : {A B : Type 0} (f : Layout A) (g : A → Layout B) (told : B → A) → ((a : A) (b : B) → f.Good a → (g a).Good b → told b ≡ a) → Layout B
implied f g told same =
    record {
      Good = λ b. f.Good (told b) × (g (told b)).Good b;
      format = lead f.format (λ a. (g a).format) told same;
    }

-- A count, and as many elements.
abbrev pub counted : {A : Type 0} → Kind → Layout A → Layout (List A)
counted k f = implied (field k) (λ n. repeat n f) length (λ n as' allowed each. each-length (λ s. f.Good) (λ s a. s) n tt as' each)

-- A field that can have one value only, so that no value is kept of it, in front of a layout.
abbrev pub constant : {A : Type 0} (k : Kind) (x : ℕ) → ((v : ℕ) → Allowed k v → v ≡ x) → Layout A → Layout A
constant k x only f = implied (field k) (λ v. f) (λ a. x) (λ v a allowed good. sym (only v allowed))
