-- The rings around one whose first vertex is directly above an edge of another ring: those around the other ring, and
-- that ring itself where an odd number of its edges pass below the vertex.
use Rattle.std.proofs.Common.{◌≡◌, ◌≢◌, ◌<◌, ◌⊎◌, inl, inr, ◌↔◌, ℕ, Bool, true, false, not, IsTrue, List, length, get_or, slice_get, Some, ◌<ℤ◌, ◌≤ℤ◌, refl, sym, ◌∙◌, ap, subst, arith}
use Rattle.std.proofs.lemmas.Bool.{cases_eq}
use Rattle.std.proofs.lemmas.Option.{get_or_from_slice_get, none-some, same_Some, slice_get_within, slice_get-get_or}
use Rattle.mvt_plane.specs.Geometry.Apart.{HaveNothingInCommon}
use Rattle.mvt_plane.specs.Geometry.Below.{PassesBelow, HasOddBelow}
use Rattle.mvt_plane.specs.Geometry.Inside.{IsInside}
use Rattle.mvt_plane.specs.Geometry.Measure.{key_of}
use Rattle.mvt_plane.specs.Position.{Position, IsPosition}
use Rattle.mvt_plane.specs.Geometry.RationalPoint.{LiesOn, whole}
use Rattle.mvt_plane.specs.Geometry.Ring.{edges}
use Rattle.mvt_plane.specs.declared.geometry.edge.Edge.{Edge}
use Rattle.mvt_plane.proofs.Insides.DirectlyBelow.{odd_as_below_the_edge}
use Rattle.mvt_plane.proofs.Insides.EdgesBelow.{inside_by_edges_below}
use Rattle.mvt_plane.proofs.Insides.InsideParity.{apart, no_truth}
use Rattle.mvt_plane.proofs.Insides.InsideAsAWhole.{one_vertex_decides}
use Rattle.mvt_plane.proofs.Orders.Order.{zs}
use Rattle.mvt_plane.proofs.Points.RationalPoints.{begin_lies_on}
use Rattle.mvt_plane.proofs.Rings.RingEdges.{count_of_edges, ends_of_edge}
use Rattle.mvt_sweep.specs.Meeting.{NoMeeting}
use Rattle.mvt_sweep.specs.Calls.RingNotes.{around_directly, IsNoteAbove, IsNoteOf}
use Rattle.mvt_sweep.specs.RingsAround.{IsAround, odd_at, odd_in}
use Rattle.mvt_sweep.specs.Rings.{AreRingsInRange}
use Rattle.mvt_sweep.specs.Calls.RingsBelow.{HaveOddBelow, HaveNoneBelow, IsRingAround, IsRingBelow, IsLeastVertex}
use Rattle.mvt_sweep.specs.declared.sweep.notes.Around.{Around}
use Rattle.mvt_sweep.specs.declared.sweep.notes.Around.TheVariants.{Unknown, Nothing}
use Rattle.mvt_sweep.proofs.Notes.NoteWrites.{nearest_directly, odd_directly}
use Rattle.mvt_sweep.proofs.Vertices.SharedVertices.{nothing_in_common}
use Rattle.mvt_sweep.proofs.Notes.RingParities.{none_odd, odd_below, odd_below_decides, one_test, no_test, alike_tests, odd_rings, odd_rings_decide, none_has_odd, all_but_one}

-- ---- a first vertex

-- the position comes before all vertices of the ring, by key
abbrev pub ComesFirst : Position → List Position → Type 0
ComesFirst position ring = (number : ℕ) (vertex : Position) → slice_get ring number ≡ Some vertex → key_of position ≤ℤ key_of vertex

-- no edge passes below a position before both of its ends
none_before : (position : Position) (edge : Edge) → key_of position ≤ℤ key_of edge.a → key_of position ≤ℤ key_of edge.b → ¬ PassesBelow position edge
none_before position edge begin end below =
    elim below.parted [
      | inl (less, _) ↦ omega (arith, zs)
      | inr (_, less) ↦ omega (arith, zs)
    ]

-- so none of the ring does
none_of_ring : (position : Position) (ring : List Position) → ComesFirst position ring → (number : ℕ) (edge : Edge) → slice_get (edges ring) number ≡ Some edge
    → ¬ PassesBelow position edge
none_of_ring position ring first number edge there =
    let ends = ends_of_edge ring number edge there in
    none_before position edge (first _ edge.a ends.0) (first _ edge.b ends.1)

-- nor an odd number
pub no_odd_of_ring : (position : Position) (ring : List Position) → ComesFirst position ring → ¬ HasOddBelow position ring
no_odd_of_ring position ring first = none_odd (PassesBelow position) (edges ring) (none_of_ring position ring first)

-- an edge that passes below a position has an end before it, by key
end_before : (position low : Position) (edge : Edge) → PassesBelow position edge → key_of low ≤ℤ key_of edge.a → key_of low ≤ℤ key_of edge.b → key_of low <ℤ key_of position
end_before position low edge below begin end =
    elim below.parted [
      | inl (less, _) ↦ omega (arith, zs)
      | inr (_, less) ↦ omega (arith, zs)
    ]

-- the first vertex of a ring comes before its vertices
first_of_ring : (rings : List (List Position)) (ring : ℕ) (position : Position) (vertices : List Position) → IsLeastVertex rings ring position → slice_get rings ring ≡ Some vertices
    → ComesFirst position vertices
first_of_ring rings ring position vertices first there =
    let same : first.vertices ≡ vertices = same_Some first.vertices vertices (sym first.there ∙ there) in
    subst (λ (its : List Position). ComesFirst position its) same first.first

-- and is one of them
pub vertex_of_ring : (rings : List (List Position)) (ring : ℕ) (position : Position) (vertices : List Position) (first : IsLeastVertex rings ring position) → slice_get rings ring ≡ Some vertices
    → slice_get vertices first.vertex ≡ Some position
vertex_of_ring rings ring position vertices first there =
    let same : first.vertices ≡ vertices = same_Some first.vertices vertices (sym first.there ∙ there) in
    subst (λ (its : List Position). slice_get its first.vertex ≡ Some position) same first.here

-- ---- the other rings

-- each vertex begins an edge
edge_of_vertex : (ring : List Position) (number : ℕ) (vertex : Position) → slice_get ring number ≡ Some vertex
    → (edge : Edge) × (slice_get (edges ring) number ≡ Some edge) × (edge.a ≡ vertex)
edge_of_vertex ring number vertex here =
    let within : number < length (edges ring) = subst (λ (count : ℕ). number < count) (sym (count_of_edges ring)) (slice_get_within ring number vertex here) in
    let edge : Edge = get_or (edges ring) number (record { a = vertex; b = vertex }) in
    let there : slice_get (edges ring) number ≡ Some edge = slice_get-get_or (edges ring) number (record { a = vertex; b = vertex }) within in
    let ends = ends_of_edge ring number edge there in
    (edge, there, same_Some edge.a vertex (sym ends.0 ∙ here))

-- a vertex lies on no edge of a ring that has nothing in common with its own
pub vertex_off : (ring other : List Position) → HaveNothingInCommon ring other → (number : ℕ) (vertex : Position) → slice_get ring number ≡ Some vertex
    → (another : ℕ) (edge : Edge) → slice_get (edges other) another ≡ Some edge → ¬ LiesOn (whole vertex) edge
vertex_off ring other nothing number vertex here another edge there =
    let its = edge_of_vertex ring number vertex here in
    let lies : LiesOn (whole vertex) its.0 = subst (λ (it : Position). LiesOn (whole it) its.0) its.2 (begin_lies_on its.0) in
    nothing number another its.0 edge (whole vertex) its.1 there lies

-- of the vertices of a ring that has nothing in common with another, one is above an odd number of the other's edges
-- where any is
vertices_alike : (ring other : List Position) → HaveNothingInCommon ring other → ((number : ℕ) (vertex : Position) → slice_get ring number ≡ Some vertex → IsPosition vertex)
    → ((number : ℕ) (vertex : Position) → slice_get other number ≡ Some vertex → IsPosition vertex) → (one two : ℕ) (vertex another : Position)
    → slice_get ring one ≡ Some vertex → slice_get ring two ≡ Some another → HasOddBelow vertex other → HasOddBelow another other
vertices_alike ring other nothing in_range its_range one two vertex another here there has =
    let first = inside_by_edges_below vertex other (in_range one vertex here) its_range (vertex_off ring other nothing one vertex here) in
    let second = inside_by_edges_below another other (in_range two another there) its_range (vertex_off ring other nothing two another there) in
    second.0 (one_vertex_decides ring other nothing one two vertex another here there (first.1 has))

-- a ring's first vertex is directly above an edge of another ring, whose first vertex this is
record IsAbove (rings : List (List Position)) (ring below : ℕ) (position other : Position) : Type 0 where
  none : NoMeeting rings
  in_range : AreRingsInRange rings
  first : IsLeastVertex rings ring position
  under : IsRingBelow position rings below
  its_first : IsLeastVertex rings below other
  its_ring : List Position
  there : slice_get rings below ≡ Some its_ring
  here : slice_get (edges its_ring) under.number.edge ≡ Some under.edge

-- the ring below is there
above_there : (rings : List (List Position)) (ring below : ℕ) (position other : Position) → NoMeeting rings → AreRingsInRange rings → IsLeastVertex rings ring position
    → IsRingBelow position rings below → IsLeastVertex rings below other → IsAbove rings ring below position other
above_there rings ring below position other none in_range first under its_first = record {
  none = none;
  in_range = in_range;
  first = first;
  under = under;
  its_first = its_first;
  its_ring = under.there.ring;
  there = subst (λ (number : ℕ). slice_get rings number ≡ Some under.there.ring) under.of_ring under.there.there;
  here = under.there.here;
}

-- its first vertex comes before the other's, by key
first_before : (rings : List (List Position)) (ring below : ℕ) (position other : Position) → IsAbove rings ring below position other → key_of other <ℤ key_of position
first_before rings ring below position other it =
    let ends = ends_of_edge it.its_ring it.under.number.edge it.under.edge it.here in
    let first = first_of_ring rings below other it.its_ring it.its_first it.there in
    end_before position other it.under.edge it.under.below (first _ it.under.edge.a ends.0) (first _ it.under.edge.b ends.1)

-- so no odd number of the upper ring's edges pass below it
upper_not_below : (rings : List (List Position)) (ring below : ℕ) (position other : Position) (it : IsAbove rings ring below position other) → ¬ HasOddBelow other it.first.vertices
upper_not_below rings ring below position other it =
    let comes_first : ComesFirst other it.first.vertices = λ number vertex there.
    let before = first_before rings ring below position other it in
    let least = it.first.first number vertex there in
    omega (arith, zs) in
    no_odd_of_ring other it.first.vertices comes_first

-- of another ring than these two an odd number of edges pass below the one where it is so of the end of the edge below
-- it
odd_as_below : (rings : List (List Position)) (ring below : ℕ) (position other : Position) (it : IsAbove rings ring below position other) (number : ℕ) (third : List Position)
    → number ≢ ring → number ≢ below → slice_get rings number ≡ Some third → HasOddBelow position third ↔ HasOddBelow it.under.edge.a third
odd_as_below rings ring below position other it number third not_ring not_below there =
    let edge : Edge = it.under.edge in
    let ends = ends_of_edge it.its_ring it.under.number.edge edge it.here in
    let own = nothing_in_common rings it.none ring number it.first.vertices third (λ same. not_ring (sym same)) it.first.there there in
    let its = nothing_in_common rings it.none below number it.its_ring third (λ same. not_below (sym same)) it.there there in
    odd_as_below_the_edge position edge third
    (it.in_range ring it.first.vertex it.first.vertices position it.first.there it.first.here)
    (it.in_range below _ it.its_ring edge.a it.there ends.0)
    (it.in_range below _ it.its_ring edge.b it.there ends.1)
    (λ vertex its_position here. it.in_range number vertex third its_position there here)
    (vertex_off it.first.vertices third own it.first.vertex position it.first.here)
    (λ another its_edge point its_there on_edge. its it.under.number.edge another edge its_edge point it.here its_there on_edge)
    (record {
      below = it.under.below;
      none_above = λ another its_edge its_there passes.
          it.under.none_above (record { ring = number; edge = another }) its_edge (record { ring = third; there = there; here = its_there }) passes;
    })

-- and where it is so of that ring's first vertex
third_alike : (rings : List (List Position)) (ring below : ℕ) (position other : Position) → IsAbove rings ring below position other → (number : ℕ) (third : List Position)
    → number ≢ ring → number ≢ below → slice_get rings number ≡ Some third → HasOddBelow position third ↔ HasOddBelow other third
third_alike rings ring below position other it number third not_ring not_below there =
    let nothing : HaveNothingInCommon it.its_ring third = nothing_in_common rings it.none below number it.its_ring third (λ same. not_below (sym same)) it.there there in
    let move : (one two : ℕ) (vertex another : Position) → slice_get it.its_ring one ≡ Some vertex → slice_get it.its_ring two ≡ Some another → HasOddBelow vertex third → HasOddBelow another third = vertices_alike it.its_ring third nothing
    (λ at vertex here. it.in_range below at it.its_ring vertex it.there here) (λ at vertex here. it.in_range number at third vertex there here) in
    let ends = ends_of_edge it.its_ring it.under.number.edge it.under.edge it.here in
    let law = odd_as_below rings ring below position other it number third not_ring not_below there in
    let here = vertex_of_ring rings below other it.its_ring it.its_first it.there in (
      λ has. move it.under.number.edge it.its_first.vertex it.under.edge.a other ends.0 here (law.0 has),
      λ has. law.1 (move it.its_first.vertex it.under.number.edge other it.under.edge.a here ends.0 has),
    )

-- so it is of each ring but the one below
alike_but_below : (rings : List (List Position)) (ring below : ℕ) (position other : Position) → IsAbove rings ring below position other → (number : ℕ) (third : List Position)
    → number ≢ below → slice_get rings number ≡ Some third → HasOddBelow position third ↔ HasOddBelow other third
alike_but_below rings ring below position other it number third not_below there =
    let upper : number ≡ ring → HasOddBelow position third ↔ HasOddBelow other third = λ same.
    let its : slice_get rings ring ≡ Some third = subst (λ (at : ℕ). slice_get rings at ≡ Some third) same there in
    let is : it.first.vertices ≡ third = same_Some it.first.vertices third (sym it.first.there ∙ its) in
    let none : ¬ HasOddBelow position third = no_odd_of_ring position third (first_of_ring rings ring position third it.first its) in
    let neither : ¬ HasOddBelow other third = subst (λ (vertices : List Position). ¬ HasOddBelow other vertices) is (upper_not_below rings ring below position other it) in
    (λ has. absurd (none has), λ has. absurd (neither has)) in
    elim (cases_eq number ring) [
      | inl same ↦ upper same
      | inr differ ↦ third_alike rings ring below position other it number third differ not_below there
    ]

-- no odd number of the edges of the ring below pass below its own first vertex
lower_not_below : (rings : List (List Position)) (ring below : ℕ) (position other : Position) (it : IsAbove rings ring below position other) → ¬ HasOddBelow other it.its_ring
lower_not_below rings ring below position other it = no_odd_of_ring other it.its_ring (first_of_ring rings below other it.its_ring it.its_first it.there)

-- ---- what is around the upper ring

-- the rings around one position are those around another, but maybe for this one, which isn't around the other
record AreAlikeBut (rings : List (List Position)) (position other : Position) (below : ℕ) : Type 0 where
  there : (number : ℕ) → number ≢ below → IsRingAround rings position number → IsRingAround rings other number
  back : (number : ℕ) → number ≢ below → IsRingAround rings other number → IsRingAround rings position number
  without : ¬ IsRingAround rings other below

-- the rings around both first vertices are the same but maybe for the one below
around_alike : (rings : List (List Position)) (ring below : ℕ) (position other : Position) → IsAbove rings ring below position other → AreAlikeBut rings position other below
around_alike rings ring below position other it = record {
  there = λ number differ around. record {
    ring = around.ring;
    there = around.there;
    odd = (alike_but_below rings ring below position other it number around.ring differ around.there).0 around.odd;
  };
  back = λ number differ around. record {
    ring = around.ring;
    there = around.there;
    odd = (alike_but_below rings ring below position other it number around.ring differ around.there).1 around.odd;
  };
  without = λ around.
      let same : around.ring ≡ it.its_ring = same_Some around.ring it.its_ring (sym around.there ∙ it.there) in
      lower_not_below rings ring below position other it (subst (λ (vertices : List Position). HasOddBelow other vertices) same around.odd);
}

-- the parities differ where an odd number of the edges of the ring below pass below the upper one
parities : (rings : List (List Position)) (ring below : ℕ) (position other : Position) (it : IsAbove rings ring below position other)
    → odd_rings (odd_below position) rings ≡ apart (odd_below position it.its_ring) (odd_rings (odd_below other) rings)
parities rings ring below position other it =
    all_but_one (odd_below position) (odd_below other) rings below it.its_ring it.there
    (no_test (odd_below other it.its_ring) (odd_below_decides other it.its_ring) (lower_not_below rings ring below position other it))
    (λ number third differ there. alike_tests (odd_below position third) (odd_below other third) (odd_below_decides position third) (odd_below_decides other third)
    (alike_but_below rings ring below position other it number third differ there))

-- the test of a ring says whether it is around the position
ring_decides : (rings : List (List Position)) (position : Position) (number : ℕ) (ring : List Position) → slice_get rings number ≡ Some ring
    → IsTrue (odd_below position ring) ↔ IsRingAround rings position number
ring_decides rings position number ring there = (
  λ it. record { ring = ring; there = there; odd = (odd_below_decides position ring).0 it },
  λ around.
      let same : around.ring ≡ ring = same_Some around.ring ring (sym around.there ∙ there) in
      (odd_below_decides position ring).1 (subst (λ (vertices : List Position). HasOddBelow position vertices) same around.odd),
)

-- ---- rings around rings

-- any vertex is inside another ring exactly where an odd number of the other's edges pass below this one
inside_as_below : (rings : List (List Position)) → NoMeeting rings → AreRingsInRange rings → (hole number : ℕ) (ring other : List Position) → hole ≢ number
    → slice_get rings hole ≡ Some ring → slice_get rings number ≡ Some other → (first vertex : ℕ) (position its : Position) → slice_get ring first ≡ Some position
    → slice_get ring vertex ≡ Some its → IsInside its other ↔ HasOddBelow position other
inside_as_below rings none in_range hole number ring other differ there its_there first vertex position its here its_here =
    let apart : HaveNothingInCommon ring other = nothing_in_common rings none hole number ring other differ there its_there in
    let below : IsInside position other ↔ HasOddBelow position other = inside_by_edges_below position other (in_range hole first ring position there here)
    (λ vertex it is. in_range number vertex other it its_there is) (vertex_off ring other apart first position here) in (
      λ inside. below.0 (one_vertex_decides ring other apart vertex first its position its_here here inside),
      λ has. one_vertex_decides ring other apart first vertex position its here its_here (below.1 has),
    )

-- so a ring is around another exactly where an odd number of its edges pass below the other's first vertex
around_by_below : (rings : List (List Position)) (ring : ℕ) (position : Position) → NoMeeting rings → AreRingsInRange rings → IsLeastVertex rings ring position → (outer : ℕ)
    → IsAround rings outer ring ↔ IsRingAround rings position outer
around_by_below rings ring position none in_range first outer = (there, back)
  where
    there : IsAround rings outer ring → IsRingAround rings position outer
    there it = record {
      ring = it.around;
      there = it.there;
      odd = (inside_as_below rings none in_range ring outer it.here.vertices it.around (λ same. it.different (sym same)) it.here.there it.there first.vertex 0 position it.position
          (vertex_of_ring rings ring position it.here.vertices first it.here.there) it.here.here).0 it.inside;
    }

    its : Position
    its = get_or first.vertices 0 position

    here : slice_get first.vertices 0 ≡ Some its
    here = let within = slice_get_within first.vertices first.vertex position first.here in slice_get-get_or first.vertices 0 position (omega (arith, within))

    back : IsRingAround rings position outer → IsAround rings outer ring
    back it =
        let different : outer ≢ ring = λ same.
        let alike : it.ring ≡ first.vertices = same_Some it.ring first.vertices (sym it.there ∙ ap (slice_get rings) same ∙ first.there) in
        no_odd_of_ring position first.vertices first.first (subst (HasOddBelow position) alike it.odd) in
        record {
          different = different;
          around = it.ring;
          there = it.there;
          position = its;
          here = record { vertices = first.vertices; there = first.there; here = here };
          inside = (inside_as_below rings none in_range ring outer first.vertices it.ring (λ same. different (sym same)) first.there it.there first.vertex 0 position its first.here here).1 it.odd;
        }

-- ---- what is noted

-- where no edge passes below its first vertex, no ring is around a ring
pub note_of_none : (rings : List (List Position)) (notes : List Around) (ring : ℕ) (position : Position) → NoMeeting rings → AreRingsInRange rings → IsLeastVertex rings ring position
    → HaveNoneBelow position rings → IsNoteOf rings notes ring Nothing
note_of_none rings notes ring position none in_range first nothing =
    let none_of : (number : ℕ) (vertices : List Position) → slice_get rings number ≡ Some vertices → ¬ HasOddBelow position vertices = λ number vertices there.
    none_odd (PassesBelow position) (edges vertices)
    (λ edge it here. nothing (record { ring = number; edge = edge }) it (record { ring = vertices; there = there; here = here })) in
    record {
      position = position;
      first = first;
      odd = (λ impossible. absurd (no_truth impossible), λ odd. absurd (none_has_odd position rings none_of odd));
      alone = λ same outer around. let it = (around_by_below rings ring position none in_range first outer).0 around in none_of outer it.ring it.there it.odd;
      even = λ same. refl;
      around = λ nearest same. absurd (cc);
      turned = λ nearest same. absurd (cc);
    }

-- a test that leaves another as it is fails
leaves : (has one odd : Bool) → odd ≡ one → odd ≡ apart has one → ¬ IsTrue has
leaves true true odd same is it = absurd (cc)
leaves true false odd same is it = absurd (cc)
leaves false one odd same is it = no_truth it

-- one that turns it is met
turns : (has one odd : Bool) → odd ≡ not one → odd ≡ apart has one → IsTrue has
turns true one odd same is = refl
turns false true odd same is = absurd (cc)
turns false false odd same is = absurd (cc)

-- what is noted of a ring whose first vertex is directly above an edge of another is right
pub note_of_above : (rings : List (List Position)) (notes : List Around) (ring below : ℕ) (position : Position) (one new : Around) (odd : Bool) → NoMeeting rings → AreRingsInRange rings
    → IsLeastVertex rings ring position → IsRingBelow position rings below → slice_get notes below ≡ Some one → IsNoteOf rings notes below one → IsNoteAbove one below odd new
    → IsTrue odd ↔ HaveOddBelow position rings → IsNoteOf rings notes ring new
note_of_above rings notes ring below position one new odd none in_range first under there noted is_above decides = either is_above
  where
    it : IsAbove rings ring below position noted.position
    it = above_there rings ring below position noted.position none in_range first under noted.first

    has : Bool
    has = odd_below position it.its_ring

    parity : odd ≡ apart has (odd_in one)
    parity =
        one_test odd (odd_rings (odd_below position) rings) decides (odd_rings_decide position rings) ∙ parities rings ring below position noted.position it
        ∙ ap (apart has) (one_test (odd_rings (odd_below noted.position) rings) (odd_in one) (odd_rings_decide noted.position rings) noted.odd)

    own : (outer : ℕ) → IsAround rings outer ring ↔ IsRingAround rings position outer
    own outer = around_by_below rings ring position none in_range first outer

    its : (outer : ℕ) → IsAround rings outer below ↔ IsRingAround rings noted.position outer
    its outer = around_by_below rings below noted.position none in_range noted.first outer

    decides_below : IsTrue has ↔ IsAround rings below ring
    decides_below = let told = ring_decides rings position below it.its_ring it.there in (λ true_it. (own below).1 (told.0 true_it), λ around. told.1 ((own below).0 around))

    alike : AreAlikeBut rings position noted.position below
    alike = around_alike rings ring below position noted.position it

    others : (outer : ℕ) → outer ≢ below → IsAround rings outer ring ↔ IsAround rings outer below
    others outer differ = (λ around. (its outer).1 (alike.there outer differ ((own outer).0 around)), λ around. (own outer).1 (alike.back outer differ ((its outer).0 around)))

    all : ¬ IsTrue has → (outer : ℕ) → IsAround rings outer ring ↔ IsAround rings outer below
    all not outer = elim (cases_eq outer below) [
      | inl same ↦ (λ around. absurd (not (decides_below.1 (subst (λ (n : ℕ). IsAround rings n ring) same around))), λ around. absurd (around.different same))
      | inr differ ↦ others outer differ
    ]

    kept : odd ≡ odd_in one → IsNoteOf rings notes ring one
    kept same =
        let around = all (leaves has (odd_in one) odd same parity) in
        record {
          position = position;
          first = first;
          odd = subst (λ (b : Bool). IsTrue b ↔ HaveOddBelow position rings) same decides;
          alone = λ nothing outer has_it. noted.alone nothing outer ((around outer).0 has_it);
          even = noted.even;
          around = λ nearest is outer. (λ has_it. (noted.around nearest is outer).0 ((around outer).0 has_it), λ either. (around outer).1 ((noted.around nearest is outer).1 either));
          turned = noted.turned;
        }

    directly : IsTrue has → (outer : ℕ) → IsAround rings outer ring ↔ ((outer ≡ below) ⊎ IsAround rings outer below)
    directly is outer = elim (cases_eq outer below) [
      | inl same ↦ (λ around. inl same, λ either. subst (λ (n : ℕ). IsAround rings n ring) (sym same) (decides_below.0 is))
      | inr differ ↦ (λ around. inr ((others outer differ).0 around), λ either. elim either [ inl same ↦ absurd (differ same) | inr around ↦ (others outer differ).1 around ])
    ]

    added : odd ≡ not (odd_in one) → IsNoteOf rings notes ring (around_directly below odd)
    added turned =
        record {
          position = position;
          first = first;
          odd = subst (λ (b : Bool). IsTrue b ↔ HaveOddBelow position rings) (sym (odd_directly below odd)) decides;
          alone = λ nothing. absurd (none-some below (sym nothing ∙ nearest_directly below odd));
          even = λ nothing. absurd (none-some below (sym nothing ∙ nearest_directly below odd));
          around = λ nearest is outer. subst (λ (n : ℕ). IsAround rings outer ring ↔ ((outer ≡ n) ⊎ IsAround rings outer n)) (same_Some below nearest (sym (nearest_directly below odd) ∙ is)) (directly (turns has (odd_in one) odd turned parity) outer);
          turned = λ nearest is. odd_directly below odd
              ∙ subst (λ (n : ℕ). odd ≡ not (odd_at notes n)) (same_Some below nearest (sym (nearest_directly below odd) ∙ is))
              (turned ∙ ap (λ (it : Around). not (odd_in it)) (sym (get_or_from_slice_get notes below one Unknown there)));
        }

    either : IsNoteAbove one below odd new → IsNoteOf rings notes ring new
    either (inl (same, is)) = subst (IsNoteOf rings notes ring) (sym is) (kept same)
    either (inr (turned, is)) = subst (IsNoteOf rings notes ring) (sym is) (added turned)
