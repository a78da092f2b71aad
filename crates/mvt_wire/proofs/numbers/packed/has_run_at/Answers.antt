use Rattle.std.proofs.lemmas.Bool.{not-false}
use Rattle.mvt_wire.proofs.FieldNumbers.ShortNumbers.{HasNoRun-fours}
use Rattle.mvt_wire.proofs.numbers.packed.has_run_at.Goals as goal

pub returns : goal.returns
returns g c none = HasNoRun-fours c.args.part.now c.args.at g.row.WIDTH c.type_inv.part c.requires.within c.requires.lanes (not-false _ none)
