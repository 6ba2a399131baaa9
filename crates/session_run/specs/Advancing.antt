-- What running a session over some bytes promises.
use Rattle.std.specs.Prelude.{◌≡◌, cond, ℕ, ◌+◌, ◌^◌, ◌<◌, ◌≤◌, List, ltb, length, get_or}
use Rattle.std.proofs.Common.{sym, ap, subst, arith}
use Rattle.drawing.specs.Limits.{length_limit}
use Rattle.ways.specs.Passes.{Ready}
use Rattle.pieces.specs.declared.Session.{Session}
use Rattle.pieces.specs.Session.{inside_of}
use Rattle.session_run.specs.declared.place.Place.{Place}
use Rattle.session_run.specs.declared.run.Ran.{Ran}
use Rattle.session_run.specs.declared.advance.Fed.{Fed}
use Rattle.session_run.specs.Objects.{Sound}
use Rattle.session_run.specs.Running.{Runs}

abbrev pub place_of : Session → Place
place_of s = record { stage = s.stage; version = s.version; depth = s.depth; rows = s.rows; inside = inside_of s }

-- What a run came to, in a session.
abbrev pub after_run : Session → Ran → List ℕ → ℕ → Session
after_run s ran ms base =
    record {
      spent = s.spent;
      depth = ran.place.depth;
      bytes = s.bytes;
      number = cond (ltb ran.number 14) ran.number 2;
      offset = base + ran.stop;
      rows = ran.place.rows;
      words = ran.to;
      version = ran.place.version;
      stage = ran.place.stage;
      width = ran.place.inside.width;
      segments = ran.place.inside.segments;
      held = s.held;
      parts = ran.place.inside.parts;
      run = ran.place.inside.run;
      x = ran.place.inside.x;
      y = ran.place.inside.y;
      members = ms;
      buffer = s.buffer;
    }

-- A session that can be run: no fault was found, and no number is too large. All that opening began are.
pub record Tame (s : Session) : Type 0 where
  pub sound : Sound (place_of s)
  pub few-rows : s.rows ≤ length_limit
  pub few_words : s.words ≤ length_limit

-- So many of them are the same.
pub record Copied (from to : List ℕ) : Type 0 where
  pub same : (i : ℕ) → i < 16 → get_or to i 0 ≡ get_or from i 0

pub record Advances (s : Session) (us : List ℕ) (base : ℕ) (r : Fed) : Type 0 where
  pub ran : Ran
  pub before : List ℕ
  pub copied : Copied s.members before
  pub members : List ℕ
  pub runs : Runs (place_of s) before members us s.words ran
  pub at-is : r.at ≡ ran.at
  pub session-is : r.session ≡ after_run s ran members base

-- A session at the beginning of some bytes.
pub begins : (s : Session) (us : List ℕ) (base : ℕ) → Tame s → base + length us ≤ length_limit → Ready (length us) 0 s.words
begins s us base tame short =
    let few = tame.few_words in
    record { short = omega arith; near = omega arith; inside = λ h. omega arith; few = λ h. omega arith }

-- What `after_run` returns.
pub after_is : (s : Session) (ran : Ran) (ms : List ℕ) (base : ℕ) {n : ℕ} → n ≡ cond (ltb ran.number 14) ran.number 2
    → ◌≡◌ {A = Session}
    (record { spent = s.spent; depth = ran.place.depth; bytes = s.bytes; number = n; offset = base + ran.stop; rows = ran.place.rows; words = ran.to; version = ran.place.version; stage = ran.place.stage; width = ran.place.inside.width; segments = ran.place.inside.segments; held = s.held; parts = ran.place.inside.parts; run = ran.place.inside.run; x = ran.place.inside.x; y = ran.place.inside.y; members = ms; buffer = s.buffer })
    (after_run s ran ms base)
after_is s ran ms base is =
    ap {B = Session}
    (λ n. record { spent = s.spent; depth = ran.place.depth; bytes = s.bytes; number = n; offset = base + ran.stop; rows = ran.place.rows; words = ran.to; version = ran.place.version; stage = ran.place.stage; width = ran.place.inside.width; segments = ran.place.inside.segments; held = s.held; parts = ran.place.inside.parts; run = ran.place.inside.run; x = ran.place.inside.x; y = ran.place.inside.y; members = ms; buffer = s.buffer })
    is

-- What `run` needs.
pub run_ready : (s : Session) (us : List ℕ) (base : ℕ) → Tame s → base + length us ≤ length_limit → {p : Place} → p ≡ place_of s → (ms : List ℕ) → length ms ≡ 16
    → Ready (length us) 0 s.words × (Sound p × (p.rows ≤ 2 ^ 20) × (length ms ≡ 16))
run_ready s us base tame short {p} is ms full =
    let few = tame.few-rows in
    let rows : p.rows ≡ s.rows = ap (λ (p : Place). p.rows) is in
    (begins s us base tame short, (subst Sound (sym is) tame.sound, omega arith, full))
