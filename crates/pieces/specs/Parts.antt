-- The parts of a file by which a session goes on, and what is left behind them: scripts, put together of the layouts of the drawing.
use Rattle.std.specs.Prelude.{◌≡◌, Bool, true, false, cond, ℕ, zero, suc, ◌+◌, ◌-◌, ◌/◌, ◌%◌, List, [], ◌∷◌, get_or, eqb}
use Rattle.std.proofs.Math.Option.{Option, none, some}
use Rattle.format.specs.Kind.{Kind, char}
use Rattle.format.specs.Script.{Script, end, ask}
use Rattle.format.specs.Format.{script}
use Rattle.format.specs.Layout.{Layout, field, constant, repeat, ◌&◌}
use Rattle.format.specs.Pass.{◌⟫◌, done}
use Rattle.format.specs.ParsingLaws.{followed}
use Rattle.drawing.specs.Limits.{depth_limit}
use Rattle.drawing.specs.Fields as F
use Rattle.drawing.specs.FieldLaws.{version-length-only}
use Rattle.drawing.specs.String.{string}
use Rattle.drawing.specs.Choices.{if_flag}
use Rattle.drawing.specs.Settings.{settings}
use Rattle.drawing.specs.Paint.{paint}
use Rattle.drawing.specs.MarkerChain.{markers}
use Rattle.drawing.specs.Path.{Point, outline, counted_segments}
use Rattle.drawing.specs.Text.{latex, transformation}
use Rattle.drawing.specs.Bitmap.{bitmap_latex}
use Rattle.drawing.specs.Object.{of_list}
use Rattle.drawing.specs.LeafLayout.{object_end}
use Rattle.drawing.specs.ObjectLayout.{object}
use Rattle.drawing.specs.Drawing.{Drawing, version, drawing_from, file, outer_group}
use Rattle.drawing.specs.Table.{rows_all}
use Rattle.drawing.specs.Answers.{rows_of}
use Rattle.ways.specs.LineStyleLaws.{dashes, join}
use Rattle.ways.specs.Segments.{segments_of}
use Rattle.ways.specs.TextLaws.{face}
use Rattle.pieces.specs.declared.Inside.{Inside}

-- ---- inside an object

-- A field of so many bytes, of any value.
abbrev pub any_of : ℕ → Kind
any_of w = cond (eqb w 2) (F.any char) (cond (eqb w 4) F.float F.double)

-- What ends an object.
abbrev pub end_on : ℕ → Script (Unit {0})
end_on v = object_end v ⟫ done

-- The segments from the next one on, behind one that ended here, and the object's end.
abbrev pub joined_on : (version left x y : ℕ) → Script (Unit {0})
joined_on v n x y = segments_of true n (some (record { x = x; y = y })) ⟫ end_on v

-- A part with this digit, and what is left behind it. From LATEX on a part is the last of its number: it tells what is left itself.
unfoldable pub part_then : (version left x y digit : ℕ) → Script (Unit {0}) → Script (Unit {0})
part_then v n x y c K =
    elim (eqb c 1) [
      | true ↦ paint v ⟫ K
      | false ↦
          elim (eqb c 2) [
            | true ↦ field F.float ⟫ K
            | false ↦
                elim (eqb c 3) [
                  | true ↦ (field (F.byte_in 0 2) & join & field (F.byte_in 0 1)) ⟫ K
                  | false ↦
                      elim (eqb c 4) [
                        | true ↦ markers v ⟫ K
                        | false ↦
                            elim (eqb c 5) [
                              | true ↦ repeat 2 (field F.double) ⟫ K
                              | false ↦
                                  elim (eqb c 6) [
                                    | true ↦ repeat 4 (field F.double) ⟫ K
                                    | false ↦
                                        elim (eqb c 7) [
                                          | true ↦ (field (F.joined x) & field (F.joined y)) ⟫ K
                                          | false ↦
                                              elim (eqb c 8) [
                                                | true ↦ face ⟫ K
                                                | false ↦
                                                    elim (eqb c 9) [
                                                      | true ↦ transformation ⟫ K
                                                      | false ↦
                                                          elim (eqb c 10) [
                                                            | true ↦ (field (F.byte_in 0 2) & field (F.byte_in 0 3)) ⟫ K
                                                            | false ↦
                                                                elim (eqb c 11) [
                                                                  | true ↦ dashes ⟫ K
                                                                  | false ↦
                                                                      elim (eqb c 12) [
                                                                        | true ↦ string 0 ⟫ K
                                                                        | false ↦
                                                                            elim (eqb c 13) [
                                                                              | true ↦ string 1 ⟫ K
                                                                              | false ↦
                                                                                  elim (eqb c 14) [
                                                                                    | true ↦ if_flag latex ⟫ paint v ⟫ string 1 ⟫ end_on v
                                                                                    | false ↦
                                                                                        elim (eqb c 15) [
                                                                                          | true ↦ if_flag latex ⟫ string 1 ⟫ outline v ⟫ end_on v
                                                                                          | false ↦
                                                                                              elim (eqb c 16) [
                                                                                                | true ↦ if_flag bitmap_latex ⟫ transformation ⟫ end_on v
                                                                                                | false ↦
                                                                                                    elim (eqb c 17) [
                                                                                                      | true ↦ outline v ⟫ end_on v
                                                                                                      | false ↦
                                                                                                          elim (eqb c 18) [
                                                                                                            | true ↦ counted_segments v ⟫ end_on v
                                                                                                            | false ↦
                                                                                                                elim (eqb c 19) [
                                                                                                                  | true ↦ segments_of false (suc n) none ⟫ end_on v
                                                                                                                  | false ↦
                                                                                                                      elim (eqb c 20) [
                                                                                                                        | true ↦ segments_of true (suc n) none ⟫ end_on v
                                                                                                                        | false ↦
                                                                                                                            elim (eqb c 21) [
                                                                                                                              | true ↦ joined_on v (suc n) x y
                                                                                                                              | false ↦
                                                                                                                                  elim (eqb c 22) [
                                                                                                                                    | true ↦ ask F.double (λ x'. ask F.double (λ y'. joined_on v n x' y'))
                                                                                                                                    | false ↦
                                                                                                                                        elim (eqb c 23) [
                                                                                                                                          | true ↦ ask F.double (λ y'. joined_on v n x y')
                                                                                                                                          | false ↦
                                                                                                                                              elim (eqb c 24) [
                                                                                                                                                | true ↦ end_on v
                                                                                                                                                | false ↦
                                                                                                                                                    done
                                                                                                                                              ]
                                                                                                                                        ]
                                                                                                                                  ]
                                                                                                                            ]
                                                                                                                      ]
                                                                                                                ]
                                                                                                          ]
                                                                                                    ]
                                                                                              ]
                                                                                        ]
                                                                                  ]
                                                                            ]
                                                                      ]
                                                                ]
                                                          ]
                                                    ]
                                              ]
                                        ]
                                  ]
                            ]
                      ]
                ]
          ]
    ]

-- The parts of a number, so many digits of it at most.
unfoldable pub parts_on : (version left x y digits : ℕ) → ℕ → Script (Unit {0})
parts_on v n x y zero p = done
parts_on v n x y (suc digits) p = part_then v n x y (p % 25) (parts_on v n x y digits (p / 25))

-- What is left of the object that is open.
unfoldable pub inside : (version : ℕ) → Inside → Script (Unit {0})
inside v s = repeat s.run (field (any_of s.width)) ⟫ parts_on v s.segments s.x s.y 14 s.parts

-- ---- around it

-- Of the groups that are open the members left, and each one's end; and how many rows there are in all, with those so far.
unfoldable pub groups : (version : ℕ) (members : List ℕ) (depth rows : ℕ) → Script ℕ
groups v ms zero r = end r
groups v ms (suc d) r =
    script (repeat (get_or ms d 0) (object v (depth_limit - suc d))).format (λ os.
    script (object_end v).format (λ t. groups v ms d (r + rows_all (of_list os))))

-- The same behind the count of a group that opens, within those.
abbrev pub opening : (version : ℕ) (members : List ℕ) (depth rows count : ℕ) → Script ℕ
opening v ms d r n =
    script (repeat n (object v (depth_limit - suc d))).format (λ os. script (object_end v).format (λ t. groups v ms d (r + rows_all (of_list os))))

-- The rows of a drawing, from one of its first fields on.
abbrev pub head_on : Layout Drawing → Script ℕ
head_on L = script L.format (λ d. end (rows_of d))

abbrev pub outer_on : ℕ → Script ℕ
outer_on v = script (outer_group v).format (λ t. end (suc (rows_all t.0)))

-- Where a session stands in a file.
pub record Standing : Type 0 where
  pub version : ℕ
  -- which part of the head comes next: JDR, the version's length, its chars, the settings, the outer id; or a group's count, or objects
  pub stage : ℕ
  -- how many groups are open, and of each the members left, the outer one first
  pub depth : ℕ
  pub members : List ℕ
  pub rows : ℕ
  pub within : Inside

-- What is left of a file from a stage on: the number of its rows comes of it.
unfoldable pub rest_at : (stage : ℕ) → Standing → Script ℕ
rest_at stage s =
    elim (eqb stage 0) [
      | true ↦ head_on file
      | false ↦
          elim (eqb stage 1) [
            | true ↦ head_on (constant F.version_length 3 version-length-only (drawing_from version))
            | false ↦
                elim (eqb stage 2) [
                  | true ↦ head_on (drawing_from version)
                  | false ↦
                      elim (eqb stage 3) [
                        | true ↦ script (settings s.version).format (λ t. outer_on s.version)
                        | false ↦
                            elim (eqb stage 4) [
                              | true ↦ outer_on s.version
                              | false ↦
                                  elim (eqb stage 5) [
                                    | true ↦ ask F.member_count (opening s.version s.members s.depth s.rows)
                                    | false ↦
                                        followed (inside s.version s.within) (λ u. groups s.version s.members s.depth s.rows)
                                  ]
                            ]
                      ]
                ]
          ]
    ]

abbrev pub rest : Standing → Script ℕ
rest s = rest_at s.stage s
