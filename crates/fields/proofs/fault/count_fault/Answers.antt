-- `fields::fault::count_fault` meets its contract: what the callee says of the number that is read back from its bits.
use mir.Facts.{to_z-of_z}
use Rattle.fields.proofs.fault.count_fault.Goals as goal

pub returns : goal.returns
returns c =
    rw (c.unless.ensures, c.reaches.ensures, to_z-of_z (record { sfits = c.signed-number.type_inv }), c.signed-number.ensures)
