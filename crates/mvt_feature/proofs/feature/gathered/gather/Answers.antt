use Rattle.std.proofs.Common.{ℕ, ◌-◌, ◌<◌, [], ◌∷◌, ◌∙◌, ap, arith}
use Rattle.std.specs.List.{range_with_len}
use Rattle.mvt_rules.specs.Parts.Rings.{part_of}
use Rattle.mvt_feature.specs.Calls.FeatureParts.{listed_at}
use Rattle.mvt_sweep.specs.Rings.{rings_of}
use Rattle.mvt_feature.specs.declared.feature.gathered.Gathered.{Gathered}
use Rattle.mvt_feature.proofs.Features.GatheredLists.{gathered_marked, gathered_unmarked}
use Rattle.mvt_polygon.proofs.ApartFaults.{rings_listed, ends_within}
use Rattle.mvt_sweep.proofs.Vertices.RingReads.{count_of_rings}
use Rattle.mvt_feature.proofs.feature.gathered.gather.Goals as goal
use Rattle.mvt_feature.proofs.feature.gathered.gather.Goals.{then-marks-polygon+in_ok-push+in_ok-add_rings, else-marks-polygon}

pub add_rings-requires-clause-in_order : goal.add_rings-requires-clause-in_order
add_rings-requires-clause-in_order c =
    let further : (listed_at c.args.polygons.now c.loop-polygon.polygon).exterior < (listed_at c.args.polygons.now c.loop-polygon.polygon).after =
    (rings_listed (rings_of c.args.rings.now) c.args.polygons.now c.loop-polygon.polygon c.requires.listed (omega arith)).further in
    omega arith

pub add_rings-requires-clause-within : goal.add_rings-requires-clause-within
add_rings-requires-clause-within c =
    let rings = rings_of c.args.rings.now in
    let polygons = c.args.polygons.now in
    let polygon = c.loop-polygon.polygon in
    let count = count_of_rings c.args.rings.now in
    let ends = ends_within rings polygon (listed_at polygons polygon) (rings_listed rings polygons polygon c.requires.listed (omega arith)) in
    omega arith

pub loop-polygon-preserved : goal.loop-polygon-preserved
loop-polygon-preserved c =
    let rings = rings_of c.args.rings.now in
    let polygons = c.args.polygons.now in
    let marks = c.args.marks.now in
    let polygon = c.loop-polygon.polygon in
    let so_far = c.loop-polygon.invariant in
    elim c.if-marks-polygon.branch [
      | then-marks-polygon+in_ok-push+in_ok-add_rings w ↦
          let marked = w.if-marks-polygon.true in
          let added = w.in_ok-add_rings.ensures in
          record {
            rings = ap (λ (its : Gathered). rings_of its.rings.items) w.gathered-is ∙ added.rings
                ∙ gathered_marked marks (λ (number : ℕ). part_of rings (listed_at polygons number)) polygon _ so_far.rings marked;
            places = ap (λ (its : Gathered). its.ring_of.items) w.gathered-is ∙ added.places
                ∙ gathered_marked marks (λ (number : ℕ). range_with_len (listed_at polygons number).exterior ((listed_at polygons number).after - (listed_at polygons number).exterior)) polygon _ so_far.places marked;
            numbers = ap (λ (its : Gathered). its.polygon_of.items) w.gathered-is ∙ added.numbers ∙ w.in_ok-push.ensures.items
                ∙ gathered_marked marks (λ (number : ℕ). number ∷ []) polygon _ so_far.numbers marked;
          }
      | else-marks-polygon w ↦
          let unmarked = w.if-marks-polygon.false in
          record {
            rings = ap (λ (its : Gathered). rings_of its.rings.items) w.gathered-is
                ∙ gathered_unmarked marks (λ (number : ℕ). part_of rings (listed_at polygons number)) polygon _ so_far.rings unmarked;
            places = ap (λ (its : Gathered). its.ring_of.items) w.gathered-is
                ∙ gathered_unmarked marks (λ (number : ℕ). range_with_len (listed_at polygons number).exterior ((listed_at polygons number).after - (listed_at polygons number).exterior)) polygon _ so_far.places unmarked;
            numbers = ap (λ (its : Gathered). its.polygon_of.items) w.gathered-is
                ∙ gathered_unmarked marks (λ (number : ℕ). number ∷ []) polygon _ so_far.numbers unmarked;
          }
    ]
