use Rattle.std.proofs.lemmas.Bool.{not-false, not-true}
use Rattle.mvt_wire.proofs.Encoding.Ascii.{IsAsciiWithin-lanes}
use Rattle.mvt_wire.proofs.utf8.ascii.is_ascii_at.Goals as goal

pub returns : goal.returns
returns g c none = IsAsciiWithin-lanes c.args.part.now c.args.at g.row.WIDTH c.requires.within c.requires.lanes (not-false _ (not-true _ none))
