use Rattle.std.proofs.Common.{inr, refl, sym, subst, List, arith}
use Rattle.std.proofs.lemmas.Option.{slice_get-get_or}
use Rattle.mvt_splice.specs.Splice.{AreChangesInOrder, IsSpliced}
use Rattle.mvt_splice.specs.declared.change.Change.{Change}
use Rattle.mvt_mender.proofs.MendedTiles.{in_order, mended, tile_there, unmended}
use Rattle.mvt_mender.proofs.mending.mend_features.Goals as goal

pub splice-requires-clause-tile : goal.splice-requires-clause-tile
splice-requires-clause-tile c =
    let r = c.requires in
    tile_there c.args.profile c.args.drop_unmended c.args.bytes.now c.args.faults.now r.list r.some c.args.places.now r.places c.args.features.now r.found r.polygons r.all

pub splice-requires-clause-in_order : goal.splice-requires-clause-in_order
splice-requires-clause-in_order c =
    let r = c.requires in
    subst (λ (list : List Change). AreChangesInOrder list) (sym c.deref.ensures.value)
    (in_order c.args.profile c.args.drop_unmended c.args.bytes.now c.args.faults.now r.list r.some c.args.places.now r.places c.args.features.now r.found r.polygons r.all
    c.in-All.changes.told.items c.in-All.changes.made.items (rw c.in-All.is at c.in_ok-changes.ensures))

pub returns-in_ok-mended-in-All : goal.returns-in_ok-mended-in-All
returns-in_ok-mended-in-All c =
    let r = c.requires in
    mended c.args.profile c.args.drop_unmended c.args.bytes.now c.args.faults.now r.list r.some c.args.places.now r.places c.args.features.now r.found r.polygons r.all
    c.in-All.changes.told.items c.in-All.changes.made.items (rw c.in-All.is at c.in_ok-changes.ensures)
    (record { bytes = c.in_ok-mended-in-All.mended; changes = c.in-All.changes.told })
    (subst (λ (list : List Change). IsSpliced list c.args.bytes.now c.in_ok-mended-in-All.mended.items) c.deref.ensures.value c.in_ok-mended-in-All.ensures.spliced) refl

pub returns-in-Unmended : goal.returns-in-Unmended
returns-in-Unmended c =
    let r = c.requires in
    let stays = rw c.in-Unmended.is at c.in_ok-changes.ensures in
    inr (unmended c.args.profile c.args.drop_unmended c.args.bytes.now c.args.faults.now r.list r.some c.args.places.now r.places c.args.features.now r.found r.polygons r.all c.in-Unmended.at _
    (slice_get-get_or c.args.faults.now c.in-Unmended.at _ (omega (arith, stays.0, r.all))) stays.1)
