-- Edges that have at most the vertices between them in common don't meet wrongly.
use Rattle.std.proofs.Common.{◌≡◌, ℕ, zero, suc, ◌⊎◌, inl, inr, List, [], ◌∷◌, length, slice_get, Some, sym, ◌∙◌, ap₂, subst}
use Rattle.mvt_plane.proofs.Rings.RingEdges.{ends_of_edge}
use Rattle.mvt_rules.specs.Meeting.{IsEdgeOf, forward, backward, MeetsWrongly}
use Rattle.mvt_fault.specs.declared.ring.RingEdge.{RingEdge}
use Rattle.mvt_plane.specs.Position.{Position}
use Rattle.mvt_plane.specs.Geometry.RationalPoint.{RationalPoint, IsAt, LiesOn}
use Rattle.mvt_plane.specs.Geometry.Ring.{edges, next_round}
use Rattle.mvt_plane.specs.declared.geometry.edge.Edge.{Edge}

-- something of each edge, by its number
abbrev pub AllNumbered : (ℕ → Edge → Type 0) → List Edge → Type 0
AllNumbered Holds [] = Unit {0}
AllNumbered Holds (edge ∷ rest) = Holds 0 edge × AllNumbered (λ number. Holds (suc number)) rest

-- of the edge of this number
of_edge : (Holds : ℕ → Edge → Type 0) (some : List Edge) (number : ℕ) (edge : Edge) → AllNumbered Holds some → slice_get some number ≡ Some edge → Holds number edge
of_edge Holds [] number edge all here = absurd (cc)
of_edge Holds (first ∷ rest) zero edge all here = let same : first ≡ edge = cc in subst (Holds 0) same all.0
of_edge Holds (first ∷ rest) (suc number) edge all here = of_edge (λ n. Holds (suc n)) rest number edge all.1 here

-- an edge of a known ring is that of its number
edge_here : (rings : List (List Position)) (number : RingEdge) (ring : List Position) (edge : Edge) → slice_get rings number.ring ≡ Some ring → IsEdgeOf rings number edge
    → slice_get (edges ring) number.edge ≡ Some edge
edge_here rings number ring edge there its =
    let same : its.ring ≡ ring = cc in
    subst (λ (ring : List Position). slice_get (edges ring) number.edge ≡ Some edge) same its.here

-- each point of an edge of the one list and of one of the other has a property
abbrev pub AllCommon : (ℕ → ℕ → Edge → Edge → RationalPoint → Type 0) → List Edge → List Edge → Type 0
AllCommon Holds some others = (point : RationalPoint)
    → AllNumbered (λ i one. AllNumbered (λ j other. LiesOn point one → LiesOn point other → Holds i j one other point) others) some

-- so has each where edges of two rings meet
of_meeting : (Holds : ℕ → ℕ → Edge → Edge → RationalPoint → Type 0) (rings : List (List Position)) (first second : RingEdge) (ring other : List Position) (point : RationalPoint)
    → slice_get rings first.ring ≡ Some ring → slice_get rings second.ring ≡ Some other → AllCommon Holds (edges ring) (edges other)
    → (meets : MeetsWrongly rings first second point) → Holds first.edge second.edge meets.one meets.other point
of_meeting Holds rings first second ring other point there other_there all meets =
    let here = edge_here rings first ring meets.one there meets.one_there in
    let other_here = edge_here rings second other meets.other other_there meets.other_there in
    of_edge (λ j another. LiesOn point meets.one → LiesOn point another → Holds first.edge j meets.one another point) (edges other) second.edge meets.other
    (of_edge (λ i one. AllNumbered (λ j another. LiesOn point one → LiesOn point another → Holds i j one another point) (edges other)) (edges ring) first.edge meets.one (all point) here)
    other_here meets.on_one meets.on_other

-- edges of rings that have no point in common don't meet
pub rings_miss : (rings : List (List Position)) (first second : RingEdge) (ring other : List Position) (point : RationalPoint)
    → slice_get rings first.ring ≡ Some ring → slice_get rings second.ring ≡ Some other → AllCommon (λ i j one other point. ⊥) (edges ring) (edges other)
    → ¬ MeetsWrongly rings first second point
rings_miss rings first second ring other point = of_meeting (λ i j one another point. ⊥) rings first second ring other point

-- a point of two edges of a ring is the vertex between them
abbrev pub IsVertexBetween : ℕ → ℕ → ℕ → Edge → Edge → RationalPoint → Type 0
IsVertexBetween count i j one other point =
    (i ≡ j) ⊎ (((j ≡ next_round count i) × IsAt point other.a) ⊎ ((i ≡ next_round count j) × IsAt point one.a))

-- where all are such, the edges don't meet wrongly
pub ring_apart : (rings : List (List Position)) (number : ℕ) (ring : List Position) (first second : RingEdge) (point : RationalPoint) → slice_get rings number ≡ Some ring
    → AllCommon (IsVertexBetween (length ring)) (edges ring) (edges ring) → first.ring ≡ number → second.ring ≡ number → ¬ MeetsWrongly rings first second point
ring_apart rings number ring first second point here apart one another meets = elim (of_meeting (IsVertexBetween (length ring)) rings first second ring ring point there other_there apart meets) [
  | inl same ↦ meets.different (ap₂ (λ (r e : ℕ). record { ring = r; edge = e }) (one ∙ sym another) same)
  | inr shared ↦ elim shared [
    | inl next ↦
        meets.forbidden meets.other.a (forward (record { ring = ring; there = there; same = another ∙ sym one; next = next.0; between = begins second meets.other other_there meets.other_there })) next.1
    | inr next ↦
        meets.forbidden meets.one.a (backward (record { ring = ring; there = other_there; same = one ∙ sym another; next = next.0; between = begins first meets.one there meets.one_there })) next.1
  ]
]
  where
    there : slice_get rings first.ring ≡ Some ring
    there = cc

    other_there : slice_get rings second.ring ≡ Some ring
    other_there = cc

    begins : (number : RingEdge) (edge : Edge) → slice_get rings number.ring ≡ Some ring → IsEdgeOf rings number edge → slice_get ring number.edge ≡ Some edge.a
    begins number edge there its = (ends_of_edge ring number.edge edge (edge_here rings number ring edge there its)).0
