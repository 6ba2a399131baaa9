use Rattle.session_run.specs.Digit.{digit}
use Rattle.session_run.specs.Insides.{next_is, string_spells, words_spell, latex_tells, along_tells, links_tell, first_tells, joined_tells}
use mathlib.Core.Path.{ap}
use Rattle.session_run.proofs.step.part_step.Goals as goal

pub string_step-requires : goal.string_step-requires
string_step-requires c = string_spells c.args.version c.args.s (next_is (ap digit c.in-String.is) c.requires.0)

pub string_step-requires-in-Words : goal.string_step-requires-in-Words
string_step-requires-in-Words c = words_spell c.args.version c.args.s (next_is (ap digit c.in-Words.is) c.requires.0)

pub flag_step-requires : goal.flag_step-requires
flag_step-requires c = latex_tells c.args.version c.args.s (next_is (ap digit c.in-Latex.is) c.requires.0)

pub flag_step-requires-in-LatexAlong : goal.flag_step-requires-in-LatexAlong
flag_step-requires-in-LatexAlong c = along_tells c.args.version c.args.s (next_is (ap digit c.in-LatexAlong.is) c.requires.0)

pub flag_step-requires-in-Links : goal.flag_step-requires-in-Links
flag_step-requires-in-Links c = links_tell c.args.version c.args.s (next_is (ap digit c.in-Links.is) c.requires.0)

pub own_step-requires : goal.own_step-requires
own_step-requires c = first_tells c.args.version c.args.s (next_is (ap digit c.in-First.is) c.requires.0)

pub own_step-requires-in-Joined : goal.own_step-requires-in-Joined
own_step-requires-in-Joined c = joined_tells c.args.version c.args.s (next_is (ap digit c.in-Joined.is) c.requires.0)
