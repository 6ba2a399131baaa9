use Rattle.session_run.specs.Cursors.{units_below}
use Rattle.session_run.specs.Told.{judged-there, judged_cut}
use Rattle.session_run.proofs.field.judged.Goals as goal

pub returns-then-there : goal.returns-then-there
returns-then-there g c =
    let h = c.args.here in judged-there (g.K.Field.laws c.args.field) (units_below h) h.ready h.inside c.size-size.ensures (c.there.ensures.fits.yes c.if-there.true) c.number_at-value.ensures c.fault.ensures c.told.ensures

pub returns : goal.returns
returns g c =
    let h = c.args.here in judged_cut (g.K.Field.laws c.args.field) (units_below h) h.ready h.inside c.size-size.ensures (c.there.ensures.fits.no c.if-there.false) c.refusal.ensures
