use Rattle.std.proofs.Common.{ℕ, List, length, slice_get, sym, ◌∙◌, ap, subst, below_more, arith}
use Rattle.mvt_plane.specs.Counted.{Counted}
use Rattle.mvt_sweep.specs.Work.{vertex_count}
use Rattle.mvt_feature.specs.Calls.FeatureParts.{AreAllPlaced}
use Rattle.mvt_feature.specs.Calls.Passings.{ArePassings}
use Rattle.mvt_sweep.specs.Rings.{rings_of}
use Rattle.mvt_feature.specs.declared.feature.passing.Passing.{Passing}
use Rattle.mvt_feature.proofs.Placed.AddedPassings.{AddsParts, ends_read}
use Rattle.mvt_polygon.proofs.ApartFaults.{rings_listed}
use Rattle.mvt_feature.proofs.Placed.PlacedFeatures.{placed_as_listed, all_placed, placed_by_notes, not_placed, in_order, are_counts, around_exteriors}
use Rattle.mvt_feature.proofs.Placed.PolygonCounts.{around_count}
use Rattle.mvt_sweep.proofs.Vertices.RingReads.{count_of_rings}
use Rattle.mvt_feature.proofs.feature.placed.first_misplaced.Goals as goal

pub are_placed-requires : goal.are_placed-requires
are_placed-requires c = λ polygon within.
    let ends = ends_read c.args.rings.now c.args.polygons.now polygon c.requires.listed within in
    let count = count_of_rings c.args.rings.now in
    let size = c.requires.noted.noted.count in
    (omega arith, omega arith)

pub returns-then-are_placed-clause-none : goal.returns-then-are_placed-clause-none
returns-then-are_placed-clause-none c =
    placed_by_notes (rings_of c.args.rings.now) c.args.polygons.now c.args.notes.now c.requires.sound c.requires.drawn c.requires.listed c.requires.noted (c.are_placed.ensures.0 c.if-are_placed.true)

pub polygons_around-requires-clause-inwards : goal.polygons_around-requires-clause-inwards
polygons_around-requires-clause-inwards c =
    let size = ap (λ (passings : List Passing). length passings) c.deref.ensures.value ∙ c.in_ok-passings.ensures.size ∙ sym (count_of_rings c.args.rings.now) in
    in_order (rings_of c.args.rings.now) c.args.notes.now.around.items c.args.notes.now.come_to.items (length c.deref.result.now) c.requires.noted.noted (sym size)

pub polygons_around-requires-clause-some : goal.polygons_around-requires-clause-some
polygons_around-requires-clause-some c =
    let rings = rings_of c.args.rings.now in
    let size = ap (λ (passings : List Passing). length passings) c.deref.ensures.value ∙ c.in_ok-passings.ensures.size ∙ sym (count_of_rings c.args.rings.now) in
    let passed = subst (ArePassings rings) (sym c.deref.ensures.value) c.in_ok-passings.ensures.each in (
      around_count rings c.args.polygons.now,
      are_counts rings c.args.polygons.now c.args.notes.now.around.items c.args.notes.now.come_to.items c.deref.result.now c.requires.sound c.requires.listed c.requires.noted.noted passed size c.deref.type_inv.0,
    )

pub cause_of-requires-clause-counted : goal.cause_of-requires-clause-counted
cause_of-requires-clause-counted c =
    let rings = rings_of c.args.rings.now in
    let size = ap (λ (passings : List Passing). length passings) c.deref.ensures.value ∙ c.in_ok-passings.ensures.size ∙ sym (count_of_rings c.args.rings.now) in
    let passed = subst (ArePassings rings) (sym c.deref.ensures.value) c.in_ok-passings.ensures.each in
    let counts = are_counts rings c.args.polygons.now c.args.notes.now.around.items c.args.notes.now.come_to.items c.deref.result.now c.requires.sound c.requires.listed c.requires.noted.noted passed size c.deref.type_inv.0 in
    let around = c.deref-in-loop-polygon-2.result.now in
    let same = c.deref-in-loop-polygon-2.ensures.value in
    around_exteriors rings c.args.polygons.now around c.requires.noted.clear c.requires.listed (ap (λ (counts : List ℕ). length counts) same ∙ c.in_ok-around.ensures.size ∙ size)
    (λ ring within. ap (λ (counts : List ℕ). slice_get counts ring) same ∙ c.in_ok-around.ensures.counts (around_count rings c.args.polygons.now) counts ring (omega (arith, size)))

pub returns-in-Some-clause-first : goal.returns-in-Some-clause-first
returns-in-Some-clause-first c =
    let rings = rings_of c.args.rings.now in
    let polygons = c.args.polygons.now in
    record {
      there = rings_listed rings polygons c.loop-polygon.polygon c.requires.listed c.loop-polygon-test.true;
      before = λ polygon it less is_it. placed_as_listed rings polygons polygon it c.requires.listed is_it (c.loop-polygon.invariant.placed polygon less);
      is = c.in-Some.ensures.some;
    }

pub loop-polygon-preserved : goal.loop-polygon-preserved
loop-polygon-preserved c = record {
  placed = below_more _ _ c.loop-polygon.invariant.placed c.in_default.ensures.none;
  counted = subst (λ (count : Counted). AddsParts (vertex_count (rings_of c.args.rings.now)) (vertex_count (rings_of c.args.rings.now)) c.args.count.now count) (sym c.in_default.ensures.uncounted)
      c.loop-polygon.invariant.counted;
}

-- all polygons are placed
placed : (c : goal.After-drop-passings-2) → AreAllPlaced (rings_of c.args.rings.now)
placed c = all_placed (rings_of c.args.rings.now) c.args.polygons.now c.requires.listed (λ polygon within. c.loop-polygon.invariant.placed polygon (omega (arith, c.loop-polygon-test.false)))

pub returns-clause-none : goal.returns-clause-none
returns-clause-none c = placed c

pub returns-clause-unswept : goal.returns-clause-unswept
returns-clause-unswept c =
    absurd (not_placed (rings_of c.args.rings.now) c.args.polygons.now c.args.notes.now c.are_placed.result c.requires.sound c.requires.drawn c.requires.listed c.requires.noted c.are_placed.ensures
    c.if-are_placed.false (placed c))

pub passings-requires-clause-clear : goal.passings-requires-clause-clear
passings-requires-clause-clear c =
    c.requires.noted.clear

pub cause_of-requires-clause-clear : goal.cause_of-requires-clause-clear
cause_of-requires-clause-clear c =
    c.requires.noted.clear

pub cause_of-requires-clause-size : goal.cause_of-requires-clause-size
cause_of-requires-clause-size c =
    rw c.deref-in-loop-polygon.ensures.value c.in_ok-passings.ensures.size

pub cause_of-requires-clause-passed : goal.cause_of-requires-clause-passed
cause_of-requires-clause-passed c =
    rw c.deref-in-loop-polygon.ensures.value c.in_ok-passings.ensures.each
