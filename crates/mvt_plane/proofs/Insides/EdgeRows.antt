-- Edges one after another: the parity of those that pass over a position, and their doubled area.
use Rattle.std.proofs.Common.{◌≡◌, ◌⊎◌, inl, inr, ◌↔◌, ◌++◌, ◌^◌, IsTrue, List, [], ◌∷◌, ℤ, pos, ◌+ℤ◌, ◌-ℤ◌, ◌≤ℤ◌, ◌<ℤ◌, ap, arith}
use Rattle.std.proofs.Math.IntN.{*ℤ_comm}
use Rattle.mvt_plane.specs.Bound.{IsWithin}
use Rattle.mvt_plane.specs.Geometry.Inside.{Differ, PassesOver, HoldsOfOdd}
use Rattle.mvt_plane.specs.Geometry.Measure.{orientation}
use Rattle.mvt_plane.specs.Position.{Position, IsPosition}
use Rattle.mvt_plane.specs.Geometry.Ring.{edge_area, area_of_edges}
use Rattle.mvt_plane.specs.declared.geometry.edge.Edge.{Edge}
use Rattle.std.proofs.Math.Decide.{map_dec}
use Rattle.mvt_plane.proofs.Points.Bounds.{product_within, difference_within}
use Rattle.mvt_plane.proofs.Insides.EdgeParity.{test, test_decides}
use Rattle.mvt_plane.proofs.Insides.InsideEdges.{rectangle, differ_back, not_differ, passes_rightward, passes_leftward, passes_apart}
use Rattle.mvt_plane.proofs.Insides.InsideParity.{apart, apart_assoc, parts_differ}
use Rattle.mvt_plane.proofs.Orders.Order.{zs, le_or_lt, lt_decide}

-- ---- by the orientation

-- it is what the rectangles differ by
by_rectangles : (a b position : Position) → orientation a b position ≡ rectangle a b position -ℤ rectangle a position b
by_rectangles a b position = ap (λ (z : ℤ). rectangle a b position -ℤ z) (*ℤ_comm (b.y -ℤ a.y) (position.x -ℤ a.x))

-- negative where the first one is less
negative_by_less : (z first second : ℤ) → z ≡ first -ℤ second → (z <ℤ pos 0) ↔ (first <ℤ second)
negative_by_less z first second same = (λ negative. omega (arith, zs), λ less. omega (arith, zs))

-- positive where it is greater
positive_by_more : (z first second : ℤ) → z ≡ first -ℤ second → (pos 0 <ℤ z) ↔ (second <ℤ first)
positive_by_more z first second same = (λ positive. omega (arith, zs), λ more. omega (arith, zs))

-- of an edge that goes to the right past the position's x
pub rightward_by_orientation : (position : Position) (edge : Edge) → edge.a.x ≤ℤ position.x → position.x <ℤ edge.b.x → (orientation edge.a edge.b position <ℤ pos 0) ↔ PassesOver position edge
rightward_by_orientation position edge begun ended =
    let passes = passes_rightward position edge.a edge.b begun ended in
    let sign = negative_by_less _ _ _ (by_rectangles edge.a edge.b position) in
    (λ negative. passes.0 (sign.0 negative), λ over. sign.1 (passes.1 over))

-- of one that goes to the left
pub leftward_by_orientation : (position : Position) (edge : Edge) → edge.b.x ≤ℤ position.x → position.x <ℤ edge.a.x → (pos 0 <ℤ orientation edge.a edge.b position) ↔ PassesOver position edge
leftward_by_orientation position edge begun ended =
    let passes = passes_leftward position edge.a edge.b begun ended in
    let sign = positive_by_more _ _ _ (by_rectangles edge.a edge.b position) in
    (λ positive. passes.0 (sign.0 positive), λ over. sign.1 (passes.1 over))

-- none passes over whose ends are on one side of it
pub apart_by_ends : (position : Position) (edge : Edge) → ((edge.a.x ≤ℤ position.x) ↔ (edge.b.x ≤ℤ position.x)) → ¬ PassesOver position edge
apart_by_ends position edge together = passes_apart position edge.a edge.b together

-- ---- an edge passes over a position or doesn't

-- whether it does is decided
pub passes_over_decide : (position : Position) (edge : Edge) → Dec (PassesOver position edge)
passes_over_decide position edge = by_ends (le_or_lt edge.a.x position.x) (le_or_lt edge.b.x position.x)
  where
    by_ends : (edge.a.x ≤ℤ position.x) ⊎ (position.x <ℤ edge.a.x) → (edge.b.x ≤ℤ position.x) ⊎ (position.x <ℤ edge.b.x) → Dec (PassesOver position edge)
    by_ends (inl begins) (inl ends) = no (apart_by_ends position edge (λ _. ends, λ _. begins))
    by_ends (inl begins) (inr beyond) = let decides = rightward_by_orientation position edge begins beyond in map_dec decides.0 decides.1 (lt_decide _ _)
    by_ends (inr beyond) (inl ends) = let decides = leftward_by_orientation position edge ends beyond in map_dec decides.0 decides.1 (lt_decide _ _)
    by_ends (inr begins) (inr ends) = no (apart_by_ends position edge (λ not_begins. absurd (omega (arith, zs)), λ not_ends. absurd (omega (arith, zs))))

-- ---- the parity of one more

-- whether just one of two facts holds is decided where they are
differ_decide : {One Other : Type 0} → Dec One → Dec Other → Dec (Differ One Other)
differ_decide (yes one) (yes other) = no (not_differ (λ _. other, λ _. one))
differ_decide (yes one) (no none) = yes (inl (one, none))
differ_decide (no none) (yes other) = yes (inr (none, other))
differ_decide (no none) (no neither) = no (not_differ (λ one. absurd (none one), λ other. absurd (neither other)))

-- so is the parity of edges
odd_decide : (Holds : Edge → Type 0) → ((edge : Edge) → Dec (Holds edge)) → (passed : List Edge) → Dec (HoldsOfOdd Holds passed)
odd_decide Holds decide [] = no (λ impossible. impossible)
odd_decide Holds decide (edge ∷ rest) = differ_decide (decide edge) (odd_decide Holds decide rest)

-- it doesn't matter which two of three facts are held against each other first
differ_assoc : {First Second Third Others : Type 0} → Dec First → Dec Second → Dec Third → Others ↔ Differ Second Third → Differ First Others ↔ Differ (Differ First Second) Third
differ_assoc {First} {Second} {Third} {Others} first second third same =
    let following = parts_differ (test second) (test third) Second Third (test_decides second) (test_decides third) in
    let others : IsTrue (apart (test second) (test third)) ↔ Others = (λ holds. same.1 (following.0 holds), λ holds. following.1 (same.0 holds)) in
    let left = parts_differ (test first) (apart (test second) (test third)) First Others (test_decides first) others in
    let before = parts_differ (test first) (test second) First Second (test_decides first) (test_decides second) in
    let right = parts_differ (apart (test first) (test second)) (test third) (Differ First Second) Third before (test_decides third) in
    let moved = rw (apart_assoc (test first) (test second) (test third)) at right in
    (λ differ. moved.0 (left.1 differ), λ differ. left.0 (moved.1 differ))

-- one more edge at the end turns the parity where the fact holds of it
odd_after : (Holds : Edge → Type 0) → ((edge : Edge) → Dec (Holds edge)) → (passed : List Edge) (edge : Edge) → HoldsOfOdd Holds (passed ++ (edge ∷ [])) ↔ Differ (HoldsOfOdd Holds passed) (Holds edge)
odd_after Holds decide [] edge = (differ_back, differ_back)
odd_after Holds decide (first ∷ rest) edge = differ_assoc (decide first) (odd_decide Holds decide rest) (decide edge) (odd_after Holds decide rest edge)

-- so of those that pass over a position
pub parity_after : (position : Position) (passed : List Edge) (edge : Edge) → HoldsOfOdd (PassesOver position) (passed ++ (edge ∷ [])) ↔ Differ (HoldsOfOdd (PassesOver position) passed) (PassesOver position edge)
parity_after position passed edge = odd_after (PassesOver position) (passes_over_decide position) passed edge

-- ---- the area of one more

-- its part is added
pub area_after : (passed : List Edge) (edge : Edge) → area_of_edges (passed ++ (edge ∷ [])) ≡ area_of_edges passed +ℤ edge_area edge
area_after [] edge = omega (arith, zs)
area_after (first ∷ rest) edge = omega (arith, zs, area_after rest edge)

-- which is this large at most
pub part_within : (edge : Edge) → IsPosition edge.a → IsPosition edge.b → IsWithin (2 ^ 61) (edge_area edge)
part_within edge a b =
    difference_within (2 ^ 60) (2 ^ 60) _ _ (product_within (2 ^ 30) (2 ^ 30) edge.a.x edge.b.y a.x b.y) (product_within (2 ^ 30) (2 ^ 30) edge.b.x edge.a.y b.x a.y)
