-- In the slanted plane, where keys are columns and what is below is over: an edge passes below a position where it
-- passes there over the position's place, or over another point of the same column that is on the same side of the
-- edge.
use Rattle.std.proofs.Common.{◌≡◌, ◌^◌, ◌⊎◌, inl, inr, ◌↔◌, ℕ, suc, List, [], ◌∷◌, map, slice_get, Some, ℤ, pos, ◌*ℤ◌, ◌≤ℤ◌, ◌<ℤ◌, refl, sym, subst, arith}
use borrow.Author.Differences.{product_is}
use Rattle.mvt_plane.specs.Geometry.Below.{PassesBelow, HasOddBelow}
use Rattle.mvt_plane.specs.Geometry.Inside.{PassesOverPoint, IsPointInside, HoldsOfOdd}
use Rattle.mvt_plane.specs.Geometry.Measure.{key_of, orientation}
use Rattle.mvt_plane.specs.Position.{Position, IsPosition}
use Rattle.mvt_plane.specs.Geometry.RationalPoint.{RationalPoint, LiesOn, whole}
use Rattle.mvt_plane.specs.Geometry.Ring.{edges}
use Rattle.mvt_plane.specs.declared.geometry.edge.Edge.{Edge}
use Rattle.mvt_plane.proofs.Insides.EdgeParity.{differ_together}
use Rattle.mvt_plane.proofs.Insides.EdgesBelow.{below_back, below_rising, below_apart}
use Rattle.mvt_plane.proofs.Orders.Gaps.{same_key}
use Rattle.mvt_plane.proofs.Orders.Order.{zs, le_or_lt, mono_le_right, mono_lt_right}
use Rattle.mvt_plane.proofs.Insides.PointsUnder.{above, passes_where_above, passes_reversed, none_passes}
use Rattle.mvt_plane.proofs.Orders.Polynomials.{constant, negated, once, ◌⊕◌, ◌⊖◌, ◌⊗◌, identity}
use Rattle.mvt_plane.proofs.Points.RationalPoints.{begin_lies_on, end_lies_on, times_one}
use Rattle.mvt_plane.proofs.Insides.SlantedPlane.{slant, slant_edge, edges_slanted}

-- ---- edges of a list, one for one

-- what holds of the same edges of a list, as another fact of their images, holds of an odd number of them alike
pub odd_mapped : (Holds Other : Edge → Type 0) (image : Edge → Edge) (all : List Edge)
    → ((number : ℕ) (edge : Edge) → slice_get all number ≡ Some edge → Holds edge ↔ Other (image edge)) → HoldsOfOdd Holds all ↔ HoldsOfOdd Other (map image all)
odd_mapped Holds Other image [] same = (λ impossible. impossible, λ impossible. impossible)
odd_mapped Holds Other image (edge ∷ rest) same =
    let first = same 0 edge refl in
    let others = odd_mapped Holds Other image rest (λ number other there. same (suc number) other there) in
    (differ_together first others, differ_together (first.1, first.0) (others.1, others.0))

-- ---- keys

-- no end of the edge has this key
pub record HasOtherKeys (key : ℤ) (edge : Edge) : Type 0 where
  pub begins : ¬ (key_of edge.a ≡ key)
  pub ends : ¬ (key_of edge.b ≡ key)

-- so it is with the key of a position that isn't on the edge
pub other_keys : (position : Position) (edge : Edge) → IsPosition position → IsPosition edge.a → IsPosition edge.b → ¬ LiesOn (whole position) edge
    → HasOtherKeys (key_of position) edge
other_keys position edge here from to off = record {
  begins = λ same. off (subst (λ (it : Position). LiesOn (whole it) edge) (same_key edge.a position from here same) (begin_lies_on edge));
  ends = λ same. off (subst (λ (it : Position). LiesOn (whole it) edge) (same_key edge.b position to here same) (end_lies_on edge));
}

-- ---- points in the position's column

-- a rational point of the slanted plane is in the column of the position
pub record IsInColumn (position : Position) (point : RationalPoint) : Type 0 where
  pub positive : pos 1 ≤ℤ point.w
  pub at : point.x ≡ key_of position *ℤ point.w

-- where the edge between two positions rises past the position's key, it is below that where it is over the point
abbrev pub AreAlike : Position → RationalPoint → Position → Position → Type 0
AreAlike position point a b = key_of a <ℤ key_of position → key_of position <ℤ key_of b
    → (pos 0 <ℤ orientation a b position) ↔ (pos 0 <ℤ above (record { a = slant a; b = slant b }) point)

-- what comes before the key does so in the column
at_or_before : (position end : Position) (point : RationalPoint) → IsInColumn position point → key_of end ≤ℤ key_of position → (key_of end *ℤ point.w) ≤ℤ point.x
at_or_before position end point column order =
    let positive = column.positive in
    let same = column.at in
    omega (arith, zs, mono_le_right {a = key_of end} {b = key_of position} {c = point.w} order (omega (arith, zs)))

-- so does what comes after it
past : (position end : Position) (point : RationalPoint) → IsInColumn position point → key_of position <ℤ key_of end → point.x <ℤ (key_of end *ℤ point.w)
past position end point column order =
    let positive = column.positive in
    let same = column.at in
    omega (arith, zs, mono_lt_right {a = key_of position} {b = key_of end} {c = point.w} order (omega (arith, zs)))

-- one that rises past the key passes below the position where it passes over the point
rising_alike : (position : Position) (point : RationalPoint) (a b : Position) → IsInColumn position point → key_of a <ℤ key_of position → key_of position <ℤ key_of b
    → AreAlike position point a b → PassesBelow position (record { a = a; b = b }) ↔ PassesOverPoint point (record { a = slant a; b = slant b })
rising_alike position point a b column begun ended alike =
    let below = below_rising position a b begun (omega (arith, zs)) in
    let over = passes_where_above (slant a) (slant b) point column.positive (at_or_before position a point column (omega (arith, zs))) (past position b point column ended) in
    let same = alike begun ended in
    (λ its. over.0 (same.0 (below.1 its)), λ its. below.0 (same.1 (over.1 its)))

-- one whose ends are on one side does neither
neither_alike : (position : Position) (point : RationalPoint) (a b : Position) → (key_of a <ℤ key_of position) ↔ (key_of b <ℤ key_of position)
    → ((key_of a *ℤ point.w) ≤ℤ point.x) ↔ ((key_of b *ℤ point.w) ≤ℤ point.x)
    → PassesBelow position (record { a = a; b = b }) ↔ PassesOverPoint point (record { a = slant a; b = slant b })
neither_alike position point a b together scaled =
    (λ its. absurd (below_apart position a b together its), λ its. absurd (none_passes (slant a) (slant b) point scaled its))

-- any edge without an end of the position's key
pub passes_alike : (position : Position) (point : RationalPoint) (edge : Edge) → IsInColumn position point → HasOtherKeys (key_of position) edge
    → AreAlike position point edge.a edge.b → AreAlike position point edge.b edge.a → PassesBelow position edge ↔ PassesOverPoint point (slant_edge edge)
passes_alike position point edge column other alike back_alike = by_keys (le_or_lt (key_of position) (key_of edge.a)) (le_or_lt (key_of position) (key_of edge.b))
  where
    strict : (key end : ℤ) → ¬ (end ≡ key) → key ≤ℤ end → key <ℤ end
    strict key end apart order = by_order (le_or_lt end key)
      where
        by_order : (end ≤ℤ key) ⊎ (key <ℤ end) → key <ℤ end
        by_order (inl most) = absurd (apart (omega (arith, zs)))
        by_order (inr more) = more

    before : (end : Position) → key_of end <ℤ key_of position → (key_of end *ℤ point.w) ≤ℤ point.x
    before end less = at_or_before position end point column (omega (arith, zs))

    by_keys : (key_of position ≤ℤ key_of edge.a) ⊎ (key_of edge.a <ℤ key_of position) → (key_of position ≤ℤ key_of edge.b) ⊎ (key_of edge.b <ℤ key_of position)
        → PassesBelow position edge ↔ PassesOverPoint point (slant_edge edge)
    by_keys (inl after) (inl following) =
        let one = past position edge.a point column (strict (key_of position) (key_of edge.a) other.begins after) in
        let two = past position edge.b point column (strict (key_of position) (key_of edge.b) other.ends following) in
        neither_alike position point edge.a edge.b (λ less. absurd (omega (arith, zs)), λ less. absurd (omega (arith, zs)))
        (λ most. absurd (omega (arith, zs)), λ most. absurd (omega (arith, zs)))
    by_keys (inr first) (inl following) = rising_alike position point edge.a edge.b column first (strict (key_of position) (key_of edge.b) other.ends following) alike
    by_keys (inl after) (inr first) =
        let turned = rising_alike position point edge.b edge.a column first (strict (key_of position) (key_of edge.a) other.begins after) back_alike in (
          λ its. passes_reversed (slant edge.b) (slant edge.a) point (turned.0 (below_back position edge.a edge.b its)),
          λ its. below_back position edge.b edge.a (turned.1 (passes_reversed (slant edge.a) (slant edge.b) point its)),
        )
    by_keys (inr first) (inr second) =
        neither_alike position point edge.a edge.b (λ _. second, λ _. first) (λ _. before edge.b second, λ _. before edge.a first)

-- ---- round a ring

-- so an odd number of a ring's edges pass below the position where the point is inside the slanted ring
pub odd_alike : (position : Position) (point : RationalPoint) (ring : List Position) → IsInColumn position point
    → ((number : ℕ) (edge : Edge) → slice_get (edges ring) number ≡ Some edge
    → HasOtherKeys (key_of position) edge × AreAlike position point edge.a edge.b × AreAlike position point edge.b edge.a)
    → HasOddBelow position ring ↔ IsPointInside point (map slant ring)
odd_alike position point ring column each =
    let decides = odd_mapped (PassesBelow position) (PassesOverPoint point) slant_edge (edges ring) same in
    subst (λ (all : List Edge). HasOddBelow position ring ↔ HoldsOfOdd (PassesOverPoint point) all) (sym (edges_slanted ring)) decides
  where
    same : (number : ℕ) (edge : Edge) → slice_get (edges ring) number ≡ Some edge → PassesBelow position edge ↔ PassesOverPoint point (slant_edge edge)
    same number edge there = let its = each number edge there in passes_alike position point edge column its.0 its.1 its.2

-- ---- the position's own place

-- by how much an edge is above it, in the slanted plane
above_slanted : (a b position : Position) → above (record { a = slant a; b = slant b }) (whole (slant position)) ≡ pos (2 ^ 32) *ℤ orientation a b position
above_slanted a b position =
    identity (a.x ∷ a.y ∷ b.x ∷ b.y ∷ position.x ∷ position.y ∷ [])
    (λ AX AY BX BY X Y. let k = constant (pos (2 ^ 32)) in let A = AX ⊗ k ⊕ AY in let B = BX ⊗ k ⊕ BY in let P = X ⊗ k ⊕ Y in ((negated BY ⊖ negated AY) ⊗ (P ⊖ A ⊗ once) ⊖ (B ⊖ A) ⊗ (negated Y ⊖ negated AY ⊗ once), k ⊗ ((BX ⊖ AX) ⊗ (Y ⊖ AY) ⊖ (BY ⊖ AY) ⊗ (X ⊖ AX)))) tt

-- an edge is over it where the position is above the edge
own_alike : (position a b : Position) → AreAlike position (whole (slant position)) a b
own_alike position a b begun ended = by_scale _ (orientation a b position) (above_slanted a b position)
  where
    by_scale : (up z : ℤ) → up ≡ pos (2 ^ 32) *ℤ z → (pos 0 <ℤ z) ↔ (pos 0 <ℤ up)
    by_scale up z same = let product = product_is (pos (2 ^ 32)) z in (λ sign. omega (arith, zs), λ sign. omega (arith, zs))

-- so an odd number of a ring's edges pass below a position on none of them where its own place is inside the slanted
-- ring
pub odd_at_own_place : (position : Position) (ring : List Position)
    → ((number : ℕ) (edge : Edge) → slice_get (edges ring) number ≡ Some edge → HasOtherKeys (key_of position) edge)
    → HasOddBelow position ring ↔ IsPointInside (whole (slant position)) (map slant ring)
odd_at_own_place position ring other =
    odd_alike position (whole (slant position)) ring (record { positive = omega (arith, zs); at = sym (times_one (key_of position)) })
    (λ number edge there. (other number edge there, own_alike position edge.a edge.b, own_alike position edge.b edge.a))
