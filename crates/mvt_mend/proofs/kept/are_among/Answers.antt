use Rattle.std.proofs.Common.{◌+◌, Some, false, ℕ, sym, ◌∙◌, ap, subst, arith}
use Rattle.std.proofs.lemmas.Option.{slice_get-get_or}
use Rattle.mvt_sweep.specs.Rings.{rings_of}
use Rattle.mvt_polygon.proofs.ApartFaults.{rings_at, rings_listed}
use Rattle.mvt_feature.proofs.Placed.AddedPassings.{ends_read}
use Rattle.mvt_mend.proofs.KeptPolygons.{AreKeptBefore, all_kept, found_is_same, none_kept, one_kept, one_passed}
use Rattle.mvt_mend.proofs.kept.are_among.Goals as goal
use Rattle.mvt_mend.proofs.kept.are_among.Goals.{then-right-polygon+in-Some, else-right-polygon}

pub loop-polygon-preserved : goal.loop-polygon-preserved
loop-polygon-preserved c =
    let old = c.args.old.now in
    let new = rings_of c.args.new.now in
    let right = c.args.right.now in
    let polygons = c.args.polygons.now in
    let polygon = c.loop-polygon.polygon in
    let it = rings_at polygons polygon in
    elim c.if-right-polygon.branch [
      | then-right-polygon+in-Some w ↦
          let found = w.in-Some.ensures in
          let same = found_is_same old new polygon it c.args.others.now c.loop-polygon.next w.in-Some.place (rings_listed (rings_of old) polygons polygon c.requires.judged.listed c.loop-polygon-test.true) found in
          subst (λ (next : ℕ). AreKeptBefore (rings_of old) new right (polygon + 1) next) (sym w.next-is) (one_kept (rings_of old) new right polygon c.loop-polygon.next w.in-Some.place c.loop-polygon.invariant found.following same)
      | else-right-polygon w ↦
          subst (λ (next : ℕ). AreKeptBefore (rings_of old) new right (polygon + 1) next) (sym w.next-is) (one_passed (rings_of old) new right polygon c.loop-polygon.next c.loop-polygon.invariant (slice_get-get_or right polygon false (omega (arith, c.requires.judged.as_many, c.loop-polygon-test.true)) ∙ ap Some w.if-right-polygon.false))
    ]

pub returns : goal.returns
returns c = λ _. all_kept (rings_of c.args.old.now) (rings_of c.args.new.now) c.args.polygons.now c.args.right.now c.loop-polygon.polygon c.loop-polygon.next c.requires.judged c.loop-polygon-test.false c.loop-polygon.invariant

pub find_from-requires-clause-in_order : goal.find_from-requires-clause-in_order
find_from-requires-clause-in_order c = (ends_read c.args.old.now c.args.polygons.now c.loop-polygon.polygon c.requires.judged.listed c.loop-polygon-test.true).0

pub find_from-requires-clause-within : goal.find_from-requires-clause-within
find_from-requires-clause-within c = (ends_read c.args.old.now c.args.polygons.now c.loop-polygon.polygon c.requires.judged.listed c.loop-polygon-test.true).1

pub loop-polygon-init : goal.loop-polygon-init
loop-polygon-init c = none_kept (rings_of c.args.old.now) (rings_of c.args.new.now) c.args.right.now 0
