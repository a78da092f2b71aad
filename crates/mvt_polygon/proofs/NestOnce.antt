-- Faults of a polygon's holes where no two edges meet wrongly: a hole's first vertex shows them all.
use Rattle.std.proofs.Common.{◌≡◌, ◌≢◌, ℕ, ◌+◌, ◌-◌, ◌*◌, ◌<◌, ◌≤◌, inl, inr, List, length, get_or, slice_get, take, Some, refl, sym, arith}
use Rattle.std.proofs.lemmas.Bool.{cases_order}
use Rattle.std.proofs.lemmas.Option.{slice_get_within, slice_get-get_or}
use Rattle.mvt_plane.specs.Counted.{Counted}
use Rattle.mvt_plane.specs.Geometry.Inside.{IsInside}
use Rattle.mvt_rules.specs.Nesting.{IsOutside, IsInHole}
use Rattle.mvt_plane.specs.Position.{Position}
use Rattle.mvt_plane.proofs.Insides.InsideAsAWhole.{one_vertex_decides}
use Rattle.mvt_sweep.specs.Work.{AddsWork, vertex_count}
use Rattle.mvt_sweep.specs.Meeting.{NoMeeting}
use Rattle.mvt_polygon.specs.Nesting.{one_polygon, IsNestFault, outside, in_hole, IsFirstOf, IsOfVertex}
use Rattle.mvt_polygon.specs.Calls.Nesting.{IsOfHole, IsHoleAround, IsFirstHoleAround}
use Rattle.mvt_polygon.specs.declared.nesting.NestFault.{NestFault}
use Rattle.mvt_polygon.specs.declared.nesting.NestFault.TheVariants.{Outside, InHole}
use Rattle.mvt_sweep.proofs.Vertices.VertexNumbers.{count_another, count_up}
use Rattle.mvt_polygon.proofs.NestFaults.{first_vertex}
use Rattle.mvt_sweep.proofs.Sweeps.StatusCounts.{work_then, work_within}
use Rattle.mvt_sweep.proofs.Vertices.SharedVertices.{nothing_in_common}

-- The first vertex of a hole

-- a ring with a vertex has a first one
first_there : (ring : List Position) (vertex : ℕ) (position : Position) → slice_get ring vertex ≡ Some position → slice_get ring 0 ≡ Some (get_or ring 0 position)
first_there ring vertex position here = let within = slice_get_within ring vertex position here in slice_get-get_or ring 0 position (omega arith)

-- where a vertex is outside the exterior, the first one is
first_outside : (rings : List (List Position)) (hole vertex : ℕ) → NoMeeting rings → IsOutside rings (one_polygon rings) hole vertex → IsOutside rings (one_polygon rings) hole 0
first_outside rings hole vertex none it =
    let ring = it.here.vertices in
    let first = get_or ring 0 it.position in
    let here = first_there ring vertex it.position it.here.here in
    let following : 0 < hole = it.hole.following in
    let nothing = nothing_in_common rings none hole 0 ring it.exterior (omega arith) it.here.there it.there in
    record {
      hole = it.hole;
      position = first;
      here = record { vertices = ring; there = it.here.there; here = here };
      exterior = it.exterior;
      there = it.there;
      outside = λ inside. it.outside (one_vertex_decides ring it.exterior nothing 0 vertex first it.position here it.here.here inside);
    }

-- where a vertex is in another hole, the first one is
first_in_hole : (rings : List (List Position)) (hole vertex other : ℕ) → NoMeeting rings → IsInHole rings (one_polygon rings) hole vertex other
    → IsInHole rings (one_polygon rings) hole 0 other
first_in_hole rings hole vertex other none it =
    let ring = it.here.vertices in
    let first = get_or ring 0 it.position in
    let here = first_there ring vertex it.position it.here.here in
    let nothing = nothing_in_common rings none hole other ring it.around (λ same. it.different (sym same)) it.here.there it.there in
    record {
      hole = it.hole;
      position = first;
      here = record { vertices = ring; there = it.here.there; here = here };
      other_hole = it.other_hole;
      different = it.different;
      around = it.around;
      there = it.there;
      inside = one_vertex_decides ring it.around nothing vertex 0 it.position first it.here.here here it.inside;
    }

-- where the first vertex of a hole has no fault the hole has none
pub no_first_vertex : (rings : List (List Position)) (hole : ℕ) → NoMeeting rings → ((fault : NestFault) → IsOfVertex hole 0 fault → ¬ IsNestFault rings fault)
    → (fault : NestFault) → IsOfHole hole fault → ¬ IsNestFault rings fault
no_first_vertex rings hole none clear _ is (outside ring vertex it) =
    clear (Outside ring 0) (is, refl) (outside ring 0 (first_outside rings ring vertex none it))
no_first_vertex rings hole none clear _ is (in_hole ring vertex other it) =
    clear (InHole ring 0 other) (is, refl) (in_hole ring 0 other (first_in_hole rings ring vertex other none it))

-- the first fault of its first vertex is the first of the hole
pub first_of_first_vertex : (rings : List (List Position)) (hole : ℕ) (fault : NestFault) → IsFirstOf rings (IsOfVertex hole 0) fault → IsFirstOf rings (IsOfHole hole) fault
first_of_first_vertex rings hole fault found = first_vertex rings hole 0 fault (λ before less. absurd (omega arith)) found

-- Holes around it

-- where no earlier ring is a hole around it, a hole that it is inside is the first one
pub first_around : (rings : List (List Position)) (hole : ℕ) (position : Position) (other : ℕ) (around : List Position) → 0 < other → other ≢ hole
    → slice_get rings other ≡ Some around → IsInside position around → ((before : ℕ) → before < other → ¬ IsHoleAround rings hole position before)
    → IsFirstHoleAround rings hole position other
first_around rings hole position other around following different there inside none = record {
  around = record { hole = following; different = different; around = around; there = there; inside = inside };
  first = λ another it. elim (cases_order other another) [
    | inl same ↦ omega arith
    | inr (inl less) ↦ omega arith
    | inr (inr more) ↦ absurd (none another more it)
  ];
}

-- Probes

-- one time more
once_more : (ring each : ℕ) → 1 ≤ ring → (ring - 1) * each + each ≤ (ring + 1 - 1) * each
once_more ring each following = grind arith

-- they are also no more than a greater bound
pub probes_within : {fewer more : ℕ} {before after : Counted} → fewer ≤ more → AddsWork 0 fewer 0 before after → AddsWork 0 more 0 before after
probes_within most work = work_within (omega arith) most (omega arith) work

-- one for each vertex of one more ring after the first
pub one_more_ring : (rings : List (List Position)) (other : ℕ) (ring : List Position) {start before after : Counted} → slice_get rings other ≡ Some ring → 1 ≤ other
    → AddsWork 0 (vertex_count (take other rings) - vertex_count (take 1 rings)) 0 start before → AddsWork 0 (length ring) 0 before after
    → AddsWork 0 (vertex_count (take (other + 1) rings) - vertex_count (take 1 rings)) 0 start after
one_more_ring rings other ring there following passed work =
    probes_within (omega (arith, count_another rings other ring there, count_up rings 1 other following)) (work_then passed work)

-- none for a ring that is passed over
pub ring_passed : (rings : List (List Position)) (other : ℕ) {start after : Counted} → AddsWork 0 (vertex_count (take other rings) - vertex_count (take 1 rings)) 0 start after
    → AddsWork 0 (vertex_count (take (other + 1) rings) - vertex_count (take 1 rings)) 0 start after
ring_passed rings other work = probes_within (omega (arith, count_up rings other (other + 1) (omega arith))) work

-- one for each vertex for one more hole
pub one_more_hole : (rings : List (List Position)) (ring : ℕ) {start before after : Counted} → 1 ≤ ring → AddsWork 0 ((ring - 1) * vertex_count rings) 0 start before
    → AddsWork 0 (vertex_count rings) 0 before after → AddsWork 0 ((ring + 1 - 1) * vertex_count rings) 0 start after
one_more_hole rings ring following passed work = probes_within (once_more ring (vertex_count rings) following) (work_then passed work)
