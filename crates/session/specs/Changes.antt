-- What the calls change in a session.
use Rattle.std.specs.Prelude.{ℕ, List}
use Rattle.pieces.specs.declared.Session.{Session}
use Rattle.pieces.specs.Session.{stopped}

-- Bytes are held in it.
abbrev pub with_held : Session → List ℕ → ℕ → Session
with_held s buffer held =
    record {
      spent = s.spent;
      depth = s.depth;
      bytes = s.bytes;
      number = s.number;
      offset = s.offset;
      rows = s.rows;
      words = s.words;
      version = s.version;
      stage = s.stage;
      width = s.width;
      segments = s.segments;
      held = held;
      parts = s.parts;
      run = s.run;
      x = s.x;
      y = s.y;
      members = s.members;
      buffer = buffer;
    }

-- A fault was found.
abbrev pub stop : Session → Session
stop s =
    record {
      spent = s.spent;
      depth = s.depth;
      bytes = s.bytes;
      number = s.number;
      offset = s.offset;
      rows = s.rows;
      words = s.words;
      version = s.version;
      stage = stopped;
      width = s.width;
      segments = s.segments;
      held = s.held;
      parts = s.parts;
      run = s.run;
      x = s.x;
      y = s.y;
      members = s.members;
      buffer = s.buffer;
    }

-- So many bytes were given.
abbrev pub with_bytes : Session → ℕ → Session
with_bytes s bytes =
    record {
      spent = s.spent;
      depth = s.depth;
      bytes = bytes;
      number = s.number;
      offset = s.offset;
      rows = s.rows;
      words = s.words;
      version = s.version;
      stage = s.stage;
      width = s.width;
      segments = s.segments;
      held = s.held;
      parts = s.parts;
      run = s.run;
      x = s.x;
      y = s.y;
      members = s.members;
      buffer = s.buffer;
    }
