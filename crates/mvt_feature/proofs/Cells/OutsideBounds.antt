-- A position outside the bounds of a ring isn't inside the ring: to the left or right of them no edge goes by its x, above
-- them no edge has a higher point, and below them each edge that goes by its x passes over it, an even number of them.
use Rattle.std.proofs.Common.{◌≡◌, inl, inr, ◌↔◌, ℕ, Bool, false, IsTrue, List, [], ◌∷◌, slice_get, Some, ℤ, pos, ◌-ℤ◌, ◌*ℤ◌, ◌≤ℤ◌, ◌<ℤ◌, refl, sym, ◌∙◌, subst, arith}
use Rattle.std.proofs.Math.IntN.{*ℤ-zero}
use Rattle.std.proofs.lemmas.Option.{same_Some}
use Rattle.mvt_plane.specs.Geometry.Inside.{Differ, PassesOver, IsInside}
use Rattle.mvt_rules.specs.Nesting.{IsInsidePolygon}
use Rattle.mvt_rules.specs.Polygon.{PolygonRings}
use Rattle.mvt_plane.specs.Position.{Position}
use Rattle.mvt_plane.specs.Geometry.Ring.{edges}
use Rattle.mvt_plane.specs.declared.geometry.edge.Edge.{Edge}
use Rattle.mvt_plane.proofs.Insides.EdgeParity.{test, test_decides, odd, odd_decides, same_by_marks}
use Rattle.mvt_plane.proofs.Insides.EdgeRows.{passes_over_decide, apart_by_ends}
use Rattle.mvt_plane.proofs.Insides.InsideEdges.{rectangle, passes_rightward, passes_back}
use Rattle.mvt_plane.proofs.Insides.InsideParity.{apart, apart_false, false_apart, no_truth, parts_differ}
use Rattle.mvt_plane.proofs.Orders.Order.{zs, le_or_lt, le_decide, mono_le, mono_lt, mono_le_right}
use Rattle.mvt_plane.proofs.Orders.Polynomials.{◌⊕◌, ◌⊖◌, ◌⊗◌, identity}
use Rattle.mvt_plane.proofs.Rings.RingEdges.{ends_of_edge}
use Rattle.mvt_sweep.specs.Bounds.{AreBoundsOf, IsInBounds}
use Rattle.mvt_sweep.specs.declared.bounds.Bounds.{Bounds}
use Rattle.mvt_sweep.proofs.Notes.RingParities.{alike_tests, none_odd}

-- ---- orders

-- what isn't at most another number is greater
beyond : (a b : ℤ) → ¬ (a ≤ℤ b) → b <ℤ a
beyond a b following = elim (le_or_lt a b) [ inl most ↦ absurd (following most) | inr more ↦ more ]

-- what isn't greater is at most the other
at_most : {a b : ℤ} → ¬ (b <ℤ a) → a ≤ℤ b
at_most {a} {b} none = elim (le_or_lt a b) [ inl most ↦ most | inr more ↦ absurd (none more) ]

-- ---- edges of which none passes over

-- to the left
left_of : (position : Position) (bounds : Bounds) (edge : Edge) → IsInBounds bounds edge.a → IsInBounds bounds edge.b → position.x <ℤ bounds.left → ¬ PassesOver position edge
left_of position bounds edge from to outside =
    let begins = from.left in
    let ends = to.left in
    apart_by_ends position edge (λ most. absurd (omega (arith, zs)), λ most. absurd (omega (arith, zs)))

-- to the right
right_of : (position : Position) (bounds : Bounds) (edge : Edge) → IsInBounds bounds edge.a → IsInBounds bounds edge.b → bounds.right <ℤ position.x → ¬ PassesOver position edge
right_of position bounds edge from to outside =
    let begins = from.right in
    let ends = to.right in
    let begun : edge.a.x ≤ℤ position.x = omega (arith, zs) in
    let ended : edge.b.x ≤ℤ position.x = omega (arith, zs) in
    apart_by_ends position edge (λ _. ended, λ _. begun)

-- above
above : (position : Position) (bounds : Bounds) (edge : Edge) → IsInBounds bounds edge.a → IsInBounds bounds edge.b → bounds.high <ℤ position.y → ¬ PassesOver position edge
above position bounds edge from to outside passes =
    let w = passes.point.w in
    let positive = passes.on_edge.positive in
    let least : pos 0 ≤ℤ w = omega (arith, zs) in
    let begins = from.high in
    let ends = to.high in
    let begun : edge.a.y ≤ℤ position.y = omega (arith, zs) in
    let ended : edge.b.y ≤ℤ position.y = omega (arith, zs) in
    let first : (edge.a.y *ℤ w) ≤ℤ (position.y *ℤ w) = mono_le_right begun least in
    let second : (edge.b.y *ℤ w) ≤ℤ (position.y *ℤ w) = mono_le_right ended least in
    let greater = passes.greater_y in
    elim passes.on_edge.y_between [ inl between ↦ (let most = between.1 in omega (arith, zs)) | inr between ↦ (let most = between.1 in omega (arith, zs)) ]

-- ---- below

-- an edge to the right with both ends above the position passes over it
over_rightward : (p a b : Position) → p.y <ℤ a.y → p.y <ℤ b.y → a.x ≤ℤ p.x → p.x <ℤ b.x → PassesOver p (record { a = a; b = b })
over_rightward p a b first second begun ended =
    let before : pos 0 ≤ℤ (p.x -ℤ a.x) = omega (arith, zs) in
    let following : pos 0 <ℤ (b.x -ℤ p.x) = omega (arith, zs) in
    let fall : (p.y -ℤ a.y) <ℤ pos 0 = omega (arith, zs) in
    let rise : (p.y -ℤ a.y) ≤ℤ (b.y -ℤ a.y) = omega (arith, zs) in
    let one = mono_lt following fall in
    let other = mono_le before rise in
    let parts = identity (p.x ∷ p.y ∷ a.x ∷ a.y ∷ b.x ∷ []) (λ px py ax ay bx. ((bx ⊖ ax) ⊗ (py ⊖ ay), (bx ⊖ px) ⊗ (py ⊖ ay) ⊕ (px ⊖ ax) ⊗ (py ⊖ ay))) tt in
    let less : rectangle a b p <ℤ rectangle a p b = omega (arith, zs, *ℤ-zero (b.x -ℤ p.x)) in
    (passes_rightward p a b begun ended).0 less

-- any edge with both ends above the position does where they are on two sides of its x
over_where_parted : (p : Position) (edge : Edge) → p.y <ℤ edge.a.y → p.y <ℤ edge.b.y → PassesOver p edge ↔ Differ (edge.a.x ≤ℤ p.x) (edge.b.x ≤ℤ p.x)
over_where_parted p edge first second = (λ passes. passes.parted, back)
  where
    back : Differ (edge.a.x ≤ℤ p.x) (edge.b.x ≤ℤ p.x) → PassesOver p edge
    back (inl (begun, following)) = over_rightward p edge.a edge.b first second begun (beyond edge.b.x p.x following)
    back (inr (following, ended)) = passes_back p edge.b edge.a (over_rightward p edge.b edge.a second first ended (beyond edge.a.x p.x following))

-- so its test is whether marks of its ends differ
marks_of_edge : (p : Position) (edge : Edge) → p.y <ℤ edge.a.y → p.y <ℤ edge.b.y
    → apart (test (passes_over_decide p edge)) false ≡ apart (test (le_decide edge.a.x p.x)) (test (le_decide edge.b.x p.x))
marks_of_edge p edge first second =
    let begins = le_decide edge.a.x p.x in
    let ends = le_decide edge.b.x p.x in
    apart_false (test (passes_over_decide p edge))
    ∙ alike_tests (test (passes_over_decide p edge)) (apart (test begins) (test ends)) (test_decides (passes_over_decide p edge))
    (parts_differ (test begins) (test ends) _ _ (test_decides begins) (test_decides ends)) (over_where_parted p edge first second)

-- none of the edges meets a test that always fails
odd_of_nothing : (all : List Edge) → odd (λ (edge : Edge). false) all ≡ false
odd_of_nothing [] = refl
odd_of_nothing (edge ∷ rest) = false_apart (odd (λ (edge : Edge). false) rest) ∙ odd_of_nothing rest

-- below all vertices of a ring
below : (position : Position) (bounds : Bounds) (ring : List Position) → AreBoundsOf ring bounds → position.y <ℤ bounds.low → ¬ IsInside position ring
below position bounds ring are outside inside =
    let over : Edge → Bool = λ (edge : Edge). test (passes_over_decide position edge) in
    let decides = odd_decides (PassesOver position) over (λ edge. test_decides (passes_over_decide position edge)) (edges ring) in
    let same : odd over (edges ring) ≡ odd (λ (edge : Edge). false) (edges ring) =
    same_by_marks over (λ (edge : Edge). false) (λ (vertex : Position). test (le_decide vertex.x position.x)) ring differ in
    no_truth (subst (λ (parity : Bool). IsTrue parity) (same ∙ odd_of_nothing (edges ring)) (decides.1 inside))
  where
    differ : (number : ℕ) (edge : Edge) → slice_get (edges ring) number ≡ Some edge
        → apart (test (passes_over_decide position edge)) false ≡ apart (test (le_decide edge.a.x position.x)) (test (le_decide edge.b.x position.x))
    differ number edge there =
        let ends = ends_of_edge ring number edge there in
        let from = (are _ edge.a ends.0).low in
        let to = (are _ edge.b ends.1).low in
        marks_of_edge position edge (omega (arith, zs)) (omega (arith, zs))

-- ---- rings and polygons

-- a position that no edge passes over is not inside
by_edges : (position : Position) (bounds : Bounds) (ring : List Position) → AreBoundsOf ring bounds
    → ((edge : Edge) → IsInBounds bounds edge.a → IsInBounds bounds edge.b → ¬ PassesOver position edge) → ¬ IsInside position ring
by_edges position bounds ring are none =
    none_odd (PassesOver position) (edges ring)
    (λ number edge there. let ends = ends_of_edge ring number edge there in none edge (are _ edge.a ends.0) (are _ edge.b ends.1))

-- a position outside the bounds of a ring isn't inside it
pub outside_bounds : (position : Position) (bounds : Bounds) (ring : List Position) → AreBoundsOf ring bounds → ¬ IsInBounds bounds position → ¬ IsInside position ring
outside_bounds position bounds ring are outside inside =
    outside (record {
      left = at_most (λ less. by_edges position bounds ring are (λ edge from to. left_of position bounds edge from to less) inside);
      right = at_most (λ less. by_edges position bounds ring are (λ edge from to. right_of position bounds edge from to less) inside);
      low = at_most (λ less. below position bounds ring are less inside);
      high = at_most (λ less. by_edges position bounds ring are (λ edge from to. above position bounds edge from to less) inside);
    })

-- so where they are those of a polygon's exterior, it isn't inside the polygon
pub outside_polygon : (rings : List (List Position)) (it : PolygonRings) (position : Position) (bounds : Bounds)
    → ((exterior : List Position) → slice_get rings it.exterior ≡ Some exterior → AreBoundsOf exterior bounds) → ¬ IsInBounds bounds position → ¬ IsInsidePolygon rings it position
outside_polygon rings it position bounds are outside inside = outside_bounds position bounds inside.around (are inside.around inside.there) outside inside.inside

-- nor is the vertex that has this position
pub not_this_one : (rings : List (List Position)) (it : PolygonRings) (vertices : List Position) (vertex : ℕ) (position : Position) → slice_get vertices vertex ≡ Some position
    → ¬ IsInsidePolygon rings it position → (its : Position) → slice_get vertices vertex ≡ Some its → ¬ IsInsidePolygon rings it its
not_this_one rings it vertices vertex position here not its there inside =
    not (subst (IsInsidePolygon rings it) (same_Some its position (sym there ∙ here)) inside)
