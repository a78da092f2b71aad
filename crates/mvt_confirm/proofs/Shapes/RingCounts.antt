-- A walk over rings: which of them a step gives, and where they end.
use Rattle.std.proofs.Common.{◌≡◌, ◌↔◌, ℕ, suc, ◌+◌, ◌≤◌, ◌<◌, true, IsTrue, List, [], ◌∷◌, length, drop, get_or, slice_get, Option, Some, None, IfSome, is_some, ℤ, pos, ◌<ℤ◌, FitsSigned, to_z, of_z, nat_eq, eqb-true, eq-eqb, sym, ◌∙◌, ap, subst, arith, length-drop}
use Rattle.std.proofs.Math.Seq.{drop-cons}
use Rattle.std.proofs.lemmas.Int.{ints, to_z-of_z}
use Rattle.std.proofs.lemmas.Option.{slice_get-get_or, slice_get_within}
use Rattle.std.specs.Int.{w128}
use lib.Signed.{lt_z}
use Rattle.mvt_confirm.specs.Calls.Vertices.{VertexWalk, RingsLeft, EndsVertices}
use Rattle.mvt_plane.specs.Calls.Rings.{IsClosed}
use Rattle.mvt_confirm.specs.Calls.Rings.{GivesRing, IsMeasured}
use Rattle.mvt_confirm.specs.declared.rings.Measure.{Measure}
use Rattle.mvt_plane.specs.Position.{Position}
use Rattle.mvt_plane.specs.Geometry.Ring.{doubled_area}
use Rattle.mvt_rules.specs.Ring.{EndsAtItsBeginning, HasNoArea, BeginsWithHole, BreaksRings, ends_at_its_beginning, no_area, begins_with_hole}

-- Steps

-- so many of the rings were passed: the others are left
pub record HavePassed (rings : List (List Position)) (walk : VertexWalk) (passed : ℕ) : Type 0 where
  pub within : passed ≤ length rings
  pub left : RingsLeft walk (drop passed rings)

-- none, in front of the first
pub none_passed : (rings : List (List Position)) (walk : VertexWalk) → RingsLeft walk rings → HavePassed rings walk 0
none_passed rings walk left = record { within = omega arith; left = left }

-- a list's rest from a place on, where that begins with something
rest_at : {X : Type 0} (xs rest : List X) (i : ℕ) (x : X) → drop i xs ≡ x ∷ rest → (i < length xs) × (slice_get xs i ≡ Some x) × (drop (suc i) xs ≡ rest)
rest_at xs rest i x is =
    let within : i < length xs = omega (arith, length-drop i xs, ap length is) in
    let split : drop i xs ≡ get_or xs i x ∷ drop (suc i) xs = drop-cons xs i x within in
    let read : slice_get xs i ≡ Some (get_or xs i x) = slice_get-get_or xs i x within in
    let same : get_or xs i x ≡ x = cc in
    (within, read ∙ ap Some same, (cc))

-- the ring of this number has this measure
pub record IsMeasureOf (rings : List (List Position)) (number : ℕ) (measure : Measure) : Type 0 where
  pub ring : List Position
  pub there : slice_get rings number ≡ Some ring
  pub decided : IsMeasured ring measure

-- the measure that a step gives is that of the next ring
pub next_passed : (rings : List (List Position)) (old new : VertexWalk) (passed : ℕ) (measure : Measure) → HavePassed rings old passed → GivesRing old new measure
    → IsMeasureOf rings passed measure × HavePassed rings new (passed + 1)
next_passed rings old new passed measure so_far given =
    let front = given (drop passed rings) so_far.left in
    let next = rest_at rings front.1 passed front.0 front.2 in
    let more : suc passed ≡ passed + 1 = omega arith in (
      record { ring = front.0; there = next.1; decided = front.3 },
      subst (HavePassed rings new) more (record { within = next.0; left = subst (RingsLeft new) (sym next.2) front.4 }),
    )

-- where it gives none, all of them were passed
pub all_passed : (rings : List (List Position)) (walk : VertexWalk) (passed : ℕ) → HavePassed rings walk passed → EndsVertices walk → length rings ≡ passed
all_passed rings walk passed so_far ends =
    let empty : drop passed rings ≡ [] = ends (drop passed rings) so_far.left in
    let within = so_far.within in
    omega (arith, length-drop passed rings, ap length empty)

-- Options whose case a test decides

-- there is one
pub where_some : {X : Type 0} (found : Option X) (P : X → Type 0) → is_some found ≡ true → IfSome found P → (x : X) × P x
where_some None P is holds = absurd (cc)
where_some (Some x) P is holds = (x, holds)

-- Faults

-- the ring of a number is one
pub same_ring : (rings : List (List Position)) (number : ℕ) (ring other : List Position) → slice_get rings number ≡ Some ring → slice_get rings number ≡ Some other → ring ≡ other
same_ring rings number ring other here there = cc

-- the measure of a ring decides whether the ring ends at its beginning
pub ends_decided : (rings : List (List Position)) (number : ℕ) (measure : Measure) → IsMeasureOf rings number measure → IsTrue measure.is_closed ↔ EndsAtItsBeginning rings number
ends_decided rings number measure is = (
  λ holds.
      let closed = is.decided.closed.0 holds in
      record { ring = is.ring; there = is.there; position = closed.position; first = closed.first; last = closed.last },
  λ ends.
      let same = same_ring rings number ends.ring is.ring ends.there is.there in
      is.decided.closed.1 (subst IsClosed same (record { position = ends.position; first = ends.first; last = ends.last })),
)

-- it has no area
pub area_decided : (rings : List (List Position)) (number : ℕ) (measure : Measure) → IsMeasureOf rings number measure → (measure.doubled_area ≡ pos 0) ↔ HasNoArea rings number
area_decided rings number measure is = (
  λ none. record { ring = is.ring; there = is.there; none = sym is.decided.area ∙ none },
  λ flat.
      let same = same_ring rings number is.ring flat.ring is.there flat.there in
      is.decided.area ∙ ap doubled_area same ∙ flat.none,
)

-- it is a hole, and the first
pub hole_decided : (rings : List (List Position)) (number : ℕ) (measure : Measure) → IsMeasureOf rings number measure → number ≡ 0 → (measure.doubled_area <ℤ pos 0) ↔ BeginsWithHole rings number
hole_decided rings number measure is first = (
  λ negative. record { first = first; ring = is.ring; there = is.there; negative = subst (λ area. area <ℤ pos 0) is.decided.area negative },
  λ hole.
      let same = same_ring rings number hole.ring is.ring hole.there is.there in
      subst (λ area. area <ℤ pos 0) (ap doubled_area same ∙ sym is.decided.area) hole.negative,
)

-- a ring with any of them is there
pub broken_within : (rings : List (List Position)) (code number : ℕ) → BreaksRings rings code number → number < length rings
broken_within rings _ _ (ends_at_its_beginning is ends) = slice_get_within rings _ ends.ring ends.there
broken_within rings _ _ (no_area is flat) = slice_get_within rings _ flat.ring flat.there
broken_within rings _ _ (begins_with_hole is hole) = slice_get_within rings _ hole.ring hole.there

-- the fault of each code
pub of_501 : (rings : List (List Position)) (code number : ℕ) → code ≡ 501 → EndsAtItsBeginning rings number ↔ BreaksRings rings code number
of_501 rings code number own = (ends_at_its_beginning own, back code number own)
  where
    back : (code number : ℕ) → code ≡ 501 → BreaksRings rings code number → EndsAtItsBeginning rings number
    back code number own (ends_at_its_beginning is ends) = ends
    back code number own (no_area is flat) = absurd (omega arith)
    back code number own (begins_with_hole is hole) = absurd (omega arith)

pub of_502 : (rings : List (List Position)) (code number : ℕ) → code ≡ 502 → HasNoArea rings number ↔ BreaksRings rings code number
of_502 rings code number own = (no_area own, back code number own)
  where
    back : (code number : ℕ) → code ≡ 502 → BreaksRings rings code number → HasNoArea rings number
    back code number own (ends_at_its_beginning is ends) = absurd (omega arith)
    back code number own (no_area is flat) = flat
    back code number own (begins_with_hole is hole) = absurd (omega arith)

pub of_503 : (rings : List (List Position)) (code number : ℕ) → code ≡ 503 → BeginsWithHole rings number ↔ BreaksRings rings code number
of_503 rings code number own = (begins_with_hole own, back code number own)
  where
    back : (code number : ℕ) → code ≡ 503 → BreaksRings rings code number → BeginsWithHole rings number
    back code number own (ends_at_its_beginning is ends) = absurd (omega arith)
    back code number own (no_area is flat) = absurd (omega arith)
    back code number own (begins_with_hole is hole) = hole

-- Areas as the code compares them

-- with none
pub flat_by_bits : (area : ℤ) → FitsSigned w128 area → IsTrue (nat_eq (of_z w128 area) 0) ↔ (area ≡ pos 0)
flat_by_bits area fits = (λ found. sym (to_z-of_z w128 area fits) ∙ ap (to_z w128) (eqb-true _ _ found), λ none. eq-eqb _ _ (ap (of_z w128) none))

-- one with another
less_by_test : (a b : ℤ) → IsTrue (lt_z a b) ↔ (a <ℤ b)
less_by_test a b = (λ found. below found, λ less. tested less)
  where
    below : lt_z a b ≡ true → a <ℤ b
    below found = grind (arith, ints)

    tested : a <ℤ b → lt_z a b ≡ true
    tested less = grind (arith, ints)

-- with that of a hole
pub negative_by_bits : (area : ℤ) → FitsSigned w128 area → IsTrue (lt_z (to_z w128 (of_z w128 area)) (pos 0)) ↔ (area <ℤ pos 0)
negative_by_bits area fits = subst (λ it. IsTrue (lt_z (to_z w128 (of_z w128 area)) (pos 0)) ↔ (it <ℤ pos 0)) (to_z-of_z w128 area fits) (less_by_test (to_z w128 (of_z w128 area)) (pos 0))

-- with that of an exterior
pub positive_by_bits : (area : ℤ) → FitsSigned w128 area → IsTrue (lt_z (pos 0) (to_z w128 (of_z w128 area))) ↔ (pos 0 <ℤ area)
positive_by_bits area fits = subst (λ it. IsTrue (lt_z (pos 0) (to_z w128 (of_z w128 area))) ↔ (pos 0 <ℤ it)) (to_z-of_z w128 area fits) (less_by_test (pos 0) (to_z w128 (of_z w128 area)))
