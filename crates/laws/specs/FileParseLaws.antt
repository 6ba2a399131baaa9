-- How a file parses: one constant field, the version, the settings and the outer group, each behind the one before.
use Rattle.std.specs.Prelude.{◌≡◌, refl, ℕ, ◌+◌, ◌-◌, List, eqb}
use Rattle.std.proofs.Common.{sym, ap, ◌∙◌}
use Prim.Native.Char.{code}
use Rattle.format.specs.Kind.{Kind, Allowed}
use Rattle.format.specs.Codec.{Outcome, found, refused, and_then}
use Rattle.format.specs.Layout.{Layout, field, constant, ◌&◌, ◌▸◌}
use Rattle.format.specs.Parse.{parse}
use Rattle.format.specs.ParsingLaws.{parse-field, parse-implied, parse-renamed, parse_pair, and_then_same}
use Rattle.drawing.specs.Reading.{bytes}
use Rattle.drawing.specs.Limits.{depth_limit}
use Rattle.drawing.specs.Fields.{magic, jdr, version_length, version_chars, version_zero, char_where}
use Rattle.drawing.specs.FieldLaws.{magic-only, version-length-only, outer-only, version-back}
use Rattle.drawing.specs.String.{String}
use Rattle.drawing.specs.Object.{Objects}
use Rattle.drawing.specs.ObjectLayout.{object, group_body}
use Rattle.drawing.specs.Settings.{Settings, settings}
use Rattle.drawing.specs.Drawing.{Drawing, version, outer_group, drawing_from, file}

-- A drawing of this version, from its settings on.
abbrev pub from_settings : ℕ → List ℕ → Outcome Drawing
from_settings v us =
    and_then (parse bytes (settings v) us) (λ s rest.
    and_then (parse bytes (outer_group v) rest) (λ (members, description) rest₂.
    found (record { version = v; settings = s; members = members; description = description }) rest₂))

-- A drawing from its version's length on.
abbrev pub from_version : List ℕ → Outcome Drawing
from_version us =
    and_then (bytes.read version_length us) (λ three rest. and_then (bytes.read version_chars rest) (λ c rest₂. from_settings (c - version_zero) rest₂))

parse-constant : {A : Type 0} (k : Kind) (x : ℕ) (only : (v : ℕ) → Allowed k v → v ≡ x) (f : Layout A) (us : List ℕ)
    → parse bytes (constant k x only f) us ≡ and_then (bytes.read k us) (λ v rest. parse bytes f rest)
parse-constant k x only f us =
    parse-implied bytes (field k) (λ v. f) (λ a. x) (λ v a allowed good. sym (only v allowed)) us
    ∙ ap (λ o. and_then o (λ v rest. parse bytes f rest)) (parse-field bytes k us)

pub outer-parse : (v : ℕ) (us : List ℕ)
    → parse bytes (outer_group v) us ≡ and_then (bytes.read (char_where (λ c. eqb c (code "G"))) us) (λ c rest. parse bytes (group_body v (object v (depth_limit - 1))) rest)
outer-parse v us = parse-constant (char_where (λ c. eqb c (code "G"))) (code "G") outer-only (group_body v (object v (depth_limit - 1))) us

-- A first part, kept under another name, and a second that depends on it, made into one.
made_of : {A B C D : Type 0} (o : Outcome A) (name : A → B) (second : B → List ℕ → Outcome C) (make : B × C → D)
    → and_then (and_then (and_then o (λ a rest. found (name a) rest)) (λ b rest. and_then (second b rest) (λ c rest₂. found (b, c) rest₂))) (λ t rest. found (make t) rest)
    ≡ and_then o (λ a rest. and_then (second (name a) rest) (λ c rest₂. found (make (name a, c)) rest₂))
made_of (found a rest) name second make = by (second (name a) rest)
  where
    by : (o : Outcome _) → and_then (and_then o (λ c rest₂. found (name a, c) rest₂)) (λ t rest₂. found (make t) rest₂) ≡ and_then o (λ c rest₂. found (make (name a, c)) rest₂)
    by (found c rest₂) = refl
    by (refused n place) = refl
made_of (refused n place) name second make = refl

both-made : {A B D : Type 0} (o : Outcome A) (second : List ℕ → Outcome B) (make : A × B → D)
    → and_then (and_then o (λ a rest. and_then (second rest) (λ b rest₂. found (a, b) rest₂))) (λ t rest. found (make t) rest)
    ≡ and_then o (λ a rest. and_then (second rest) (λ b rest₂. found (make (a, b)) rest₂))
both-made (found a rest) second make = by (second rest)
  where
    by : (o : Outcome _) → and_then (and_then o (λ b rest₂. found (a, b) rest₂)) (λ t rest₂. found (make t) rest₂) ≡ and_then o (λ b rest₂. found (make (a, b)) rest₂)
    by (found b rest₂) = refl
    by (refused n place) = refl
both-made (refused n place) second make = refl

-- The parts of a drawing, put together.
abbrev drawing_made : ℕ × (Settings × (Objects × String)) → Drawing
drawing_made (version, (settings, (members, description))) = record { version = version; settings = settings; members = members; description = description }

from-settings : (v : ℕ) (us : List ℕ)
    → and_then (parse bytes (settings v & outer_group v) us) (λ t rest. found (drawing_made (v, t)) rest) ≡ from_settings v us
from-settings v us =
    ap (λ o. and_then o (λ t rest. found (drawing_made (v, t)) rest)) (parse_pair bytes (settings v) (λ s. outer_group v) us)
    ∙ both-made (parse bytes (settings v) us) (λ rest. parse bytes (outer_group v) rest) (λ t. drawing_made (v, t))

drawing-parse : (us : List ℕ) → parse bytes (drawing_from version) us ≡ and_then (bytes.read version_chars us) (λ c rest. from_settings (c - version_zero) rest)
drawing-parse us =
    parse-renamed bytes (version ▸ λ v. settings v & outer_group v) drawing_made (λ d. (d.version, (d.settings, (d.members, d.description)))) (λ t good. refl) us
    ∙ ap (λ o. and_then o (λ t rest. found (drawing_made t) rest)) (parse_pair bytes version (λ v. settings v & outer_group v) us)
    ∙ ap (λ o. and_then (and_then o (λ b rest. and_then (parse bytes (settings b & outer_group b) rest) (λ c rest₂. found (b, c) rest₂))) (λ t rest. found (drawing_made t) rest))
    (parse-renamed bytes (field version_chars) (λ c. c - version_zero) (λ m. version_zero + m) version-back us
    ∙ ap (λ o. and_then o (λ c rest. found (c - version_zero) rest)) (parse-field bytes version_chars us))
    ∙ made_of (bytes.read version_chars us) (λ c. c - version_zero) (λ b rest. parse bytes (settings b & outer_group b) rest) drawing_made
    ∙ and_then_same (bytes.read version_chars us) (λ c rest. from-settings (c - version_zero) rest)

pub file-parse : (us : List ℕ) → parse bytes file us ≡ and_then (bytes.read magic us) (λ m rest. from_version rest)
file-parse us =
    parse-constant magic jdr magic-only (constant version_length 3 version-length-only (drawing_from version)) us
    ∙ and_then_same (bytes.read magic us) (λ m rest.
    parse-constant version_length 3 version-length-only (drawing_from version) rest
    ∙ and_then_same (bytes.read version_length rest) (λ three rest₂. drawing-parse rest₂))
