-- The numbers of parts and of stages.
use Rattle.std.specs.Prelude.{◌≡◌, ℕ, ◌≤◌}
use Rattle.session_run.specs.declared.parts.Part.{Part}
use Rattle.session_run.specs.declared.parts.Part.TheVariants as P
use Rattle.session_run.specs.declared.stage.Stage.{Stage}
use Rattle.session_run.specs.declared.stage.Stage.TheVariants as S

-- The digit of a part, by which it stands in a number of parts.
abbrev pub digit : Part → ℕ
digit P.Nothing = 0
digit P.Paint = 1
digit P.Width = 2
digit P.LineEnd = 3
digit P.Markers = 4
digit P.Point = 5
digit P.Controls = 6
digit P.Join = 7
digit P.Face = 8
digit P.Transformation = 9
digit P.Alignment = 10
digit P.Dashes = 11
digit P.String = 12
digit P.Words = 13
digit P.Latex = 14
digit P.LatexAlong = 15
digit P.Links = 16
digit P.Outline = 17
digit P.Count = 18
digit P.Segment = 19
digit P.First = 20
digit P.Joined = 21
digit P.EndX = 22
digit P.EndY = 23
digit P.End = 24

-- The stage that a number is.
abbrev pub StageFrom : ℕ → Stage → Type 0
StageFrom n S.Magic = n ≡ 0
StageFrom n S.VersionLength = n ≡ 1
StageFrom n S.Version = n ≡ 2
StageFrom n S.Settings = n ≡ 3
StageFrom n S.Outer = n ≡ 4
StageFrom n S.Counting = n ≡ 5
StageFrom n S.Objects = n ≡ 6
StageFrom n S.Stopped = 7 ≤ n
