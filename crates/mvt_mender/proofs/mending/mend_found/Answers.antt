use Rattle.std.proofs.Common.{inl}
use Rattle.mvt_mender.proofs.Refusals.{first_is_least}
use Rattle.mvt_mender.proofs.mending.mend_found.Goals as goal

pub returns-in-Some : goal.returns-in-Some
returns-in-Some c =
    let r = c.requires in
    inl (first_is_least c.args.profile c.args.bytes.now c.args.faults.now r.list c.args.places.now r.places c.args.features.now r.found _ c.in-Some.ensures.found)
