use Rattle.std.proofs.Common.{sym, subst}
use Rattle.mvt_fault.specs.declared.profile.Profile.TheVariants.{Feature}
use Rattle.mvt_wire.proofs.NothingFound.{IfNone-any}
use Rattle.mvt_sweep.specs.Rings.{rings_of}
use Rattle.mvt_gate.proofs.FeatureSearches.{least_for, valid_for}
use Rattle.mvt_gate.specs.Calls.Polygons.{IsFeatureAnswerFor}
use Rattle.mvt_gate.specs.Quick.{IsFirstOfRingsFor}
use Rattle.mvt_gate.proofs.polygons.apart.find_apart.Goals as goal

pub returns-in_default-clause-valid : goal.returns-in_default-clause-valid
returns-in_default-clause-valid c =
    let answer = subst (IsFeatureAnswerFor c.args.search (rings_of c.args.rings.now)) c.in_default.is c.in_ok-first.ensures in
    IfNone-any c.args.found.now (valid_for c.args.search (rings_of c.args.rings.now) c.requires.sound answer)

pub returns-clause-found : goal.returns-clause-found
returns-clause-found c =
    let answer = subst (IsFeatureAnswerFor c.args.search (rings_of c.args.rings.now)) c.in-Some.is c.in_ok-first.ensures in
    subst (IsFirstOfRingsFor c.args.search Feature (rings_of c.args.rings.now) c.args.layer c.args.feature) (sym c.cause_fault.ensures)
    (least_for c.args.search (rings_of c.args.rings.now) c.args.layer c.args.feature c.in-Some.first c.requires.sound answer)
