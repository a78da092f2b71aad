-- A position on no edge of a ring is inside it where an odd number of the ring's edges pass below it. Of the edges that
-- go by its x each passes either over it or below it, and the others do neither.
use Rattle.std.proofs.Common.{◌≡◌, ◌^◌, ◌⊎◌, inl, inr, ◌↔◌, ℕ, Bool, true, false, IsTrue, List, [], ◌∷◌, slice_get, Some, ℤ, pos, ◌-ℤ◌, ◌*ℤ◌, ◌≤ℤ◌, ◌<ℤ◌, sym, ◌∙◌, ap, ap₂, subst, refl, arith}
use Rattle.std.proofs.Math.IntN.{*ℤ-zero}
use borrow.Author.Differences.{product_is}
use Rattle.mvt_plane.specs.Geometry.Below.{IsAboveRising, PassesBelow, HasOddBelow}
use Rattle.mvt_plane.specs.Geometry.Inside.{PassesOver, IsInside}
use Rattle.mvt_plane.specs.Geometry.Measure.{key_of, orientation}
use Rattle.mvt_plane.specs.Position.{Position, IsPosition}
use Rattle.mvt_plane.specs.Geometry.RationalPoint.{LiesOn, whole}
use Rattle.mvt_plane.specs.Geometry.Ring.{edges}
use Rattle.mvt_plane.specs.declared.geometry.edge.Edge.{Edge}
use Rattle.std.proofs.Math.Decide.{map_dec}
use Rattle.mvt_plane.proofs.Points.CrossingLines.{on_line_by_side}
use Rattle.mvt_plane.proofs.Insides.EdgeParity.{test, test_decides, failed_test, odd, odd_decides, same_by_marks}
use Rattle.mvt_plane.proofs.Insides.EdgeRows.{passes_over_decide, rightward_by_orientation, apart_by_ends}
use Rattle.mvt_plane.proofs.Insides.InsideEdges.{differ_back, not_differ, passes_back}
use Rattle.mvt_plane.proofs.Insides.InsideParity.{apart}
use Rattle.mvt_plane.proofs.Orders.Order.{zs, le_or_lt, le_decide, lt_decide, sign_cases, mul_nonneg_nonpos}
use Rattle.mvt_plane.proofs.Points.Overlaps.{lies_on_flat}
use Rattle.mvt_plane.proofs.Orders.Polynomials.{◌⊖◌, ◌⊗◌, identity}
use Rattle.mvt_plane.proofs.Points.RationalPoints.{lies_on_reversed, times_one}
use Rattle.mvt_plane.proofs.Rings.RingEdges.{ends_of_edge}

-- ---- keys

-- a position further to the right has the greater key
pub key_by_x : (position other : Position) → IsPosition position → IsPosition other → position.x <ℤ other.x → key_of position <ℤ key_of other
key_by_x position other here there less =
    let low = there.y.0 in
    let high = here.y.1 in
    let first = product_is position.x (pos (2 ^ 32)) in
    let second = product_is other.x (pos (2 ^ 32)) in
    omega (arith, zs)

-- one that isn't, and doesn't come before by key, is at the same x and not below
over_by_key : (position other : Position) → IsPosition position → IsPosition other → position.x ≤ℤ other.x → key_of other ≤ℤ key_of position
    → (position.x ≡ other.x) × (other.y ≤ℤ position.y)
over_by_key position other here there most after =
    let low = there.y.0 in
    let high = here.y.1 in
    let first = product_is position.x (pos (2 ^ 32)) in
    let second = product_is other.x (pos (2 ^ 32)) in
    (omega (arith, zs), omega (arith, zs))

-- a product with a difference of what is the same
no_step : (factor x other : ℤ) → x ≡ other → factor *ℤ (other -ℤ x) ≡ pos 0
no_step factor x other same = let none : other -ℤ x ≡ pos 0 = omega (arith, zs) in ap (λ (z : ℤ). factor *ℤ z) none ∙ *ℤ-zero factor

-- a position isn't above an edge that begins at its x and not below it
under_begin : (p a b : Position) → a.x ≤ℤ b.x → a.x ≡ p.x → p.y ≤ℤ a.y → orientation a b p ≤ℤ pos 0
under_begin p a b order same most =
    let fall = mul_nonneg_nonpos {a = b.x -ℤ a.x} {b = p.y -ℤ a.y} (omega (arith, zs)) (omega (arith, zs)) in
    omega (arith, zs, no_step (b.y -ℤ a.y) a.x p.x same)

-- nor above one that ends so
under_end : (p a b : Position) → a.x ≤ℤ b.x → b.x ≡ p.x → p.y ≤ℤ b.y → orientation a b p ≤ℤ pos 0
under_end p a b order same most =
    let fall = mul_nonneg_nonpos {a = b.x -ℤ a.x} {b = p.y -ℤ b.y} (omega (arith, zs)) (omega (arith, zs)) in
    let moved = identity (p.x ∷ p.y ∷ a.x ∷ a.y ∷ b.x ∷ b.y ∷ [])
    (λ X Y AX AY BX BY. ((BX ⊖ AX) ⊗ (Y ⊖ AY) ⊖ (BY ⊖ AY) ⊗ (X ⊖ AX), (BX ⊖ AX) ⊗ (Y ⊖ BY) ⊖ (BY ⊖ AY) ⊗ (X ⊖ BX))) tt in
    omega (arith, zs, no_step (b.y -ℤ a.y) b.x p.x same)

-- ---- an edge passes below a position or doesn't

-- the edge that goes back passes below the same positions
pub below_back : (p a b : Position) → PassesBelow p (record { a = a; b = b }) → PassesBelow p (record { a = b; b = a })
below_back p a b below = record { parted = differ_back below.parted; above = elim below.above [ inl it ↦ inr it | inr it ↦ inl it ] }

-- one that rises past its key does exactly where the position is above it
pub below_rising : (p a b : Position) → key_of a <ℤ key_of p → key_of p ≤ℤ key_of b → (pos 0 <ℤ orientation a b p) ↔ PassesBelow p (record { a = a; b = b })
below_rising p a b begun ended = (there, λ below. back below.above)
  where
    there : pos 0 <ℤ orientation a b p → PassesBelow p (record { a = a; b = b })
    there above = record {
      parted = inl (begun, λ (ends : key_of b <ℤ key_of p). omega (arith, zs));
      above = inl (record { rising = omega (arith, zs); above = above });
    }

    back : IsAboveRising p a b ⊎ IsAboveRising p b a → pos 0 <ℤ orientation a b p
    back (inl it) = it.above
    back (inr it) = let falls = it.rising in absurd (omega (arith, zs))

-- one whose ends both come before it by key, or both don't, doesn't
pub below_apart : (p a b : Position) → (key_of a <ℤ key_of p) ↔ (key_of b <ℤ key_of p) → ¬ PassesBelow p (record { a = a; b = b })
below_apart p a b together below = not_differ together below.parted

-- it does or it doesn't, where it rises past the key
rising_or_not : (p a b : Position) → key_of a <ℤ key_of p → key_of p ≤ℤ key_of b → Dec (PassesBelow p (record { a = a; b = b }))
rising_or_not p a b begun ended = let decides = below_rising p a b begun ended in map_dec decides.0 decides.1 (lt_decide _ _)

-- any edge
pub below_or_not : (p a b : Position) → Dec (PassesBelow p (record { a = a; b = b }))
below_or_not p a b = by_keys (le_or_lt (key_of p) (key_of a)) (le_or_lt (key_of p) (key_of b))
  where
    by_keys : (key_of p ≤ℤ key_of a) ⊎ (key_of a <ℤ key_of p) → (key_of p ≤ℤ key_of b) ⊎ (key_of b <ℤ key_of p) → Dec (PassesBelow p (record { a = a; b = b }))
    by_keys (inl after) (inl following) = no (below_apart p a b (λ before. absurd (omega (arith, zs)), λ before. absurd (omega (arith, zs))))
    by_keys (inr before) (inl following) = rising_or_not p a b before following
    by_keys (inl after) (inr before) = map_dec (below_back p b a) (below_back p a b) (rising_or_not p b a before after)
    by_keys (inr before) (inr first) = no (below_apart p a b (λ _. first, λ _. before))

-- ---- an edge that goes by a position's x

-- it has a point of the position's x, so where that is the position, the position lies on it
lies_rightward : (p a b : Position) → a.x ≤ℤ p.x → p.x <ℤ b.x → orientation a b p ≡ pos 0 → LiesOn (whole p) (record { a = a; b = b })
lies_rightward p a b begun ended none =
    let edge : Edge = record { a = a; b = b } in
    lies_on_flat edge p (λ flat. omega (arith, zs)) (on_line_by_side edge p none) (inl (omega (arith, zs, times_one a.x), omega (arith, zs, times_one b.x)))

-- one of two facts holds, and not both
abbrev IsEither : Type 0 → Type 0 → Type 0
IsEither One Other = (One → ¬ Other) × (¬ Other → One)

-- where the first holds if a number is positive, the second if it is negative, and the number isn't 0
either_by_sign : {One Other : Type 0} (z : ℤ) → (pos 0 <ℤ z) ↔ One → (z <ℤ pos 0) ↔ Other → ¬ (z ≡ pos 0) → IsEither One Other
either_by_sign {One} {Other} z one other apart = (λ it its. clash (one.1 it) (other.1 its), λ none. by_sign none (sign_cases z))
  where
    clash : pos 0 <ℤ z → z <ℤ pos 0 → ⊥
    clash more less = omega (arith, zs)

    by_sign : ¬ Other → (z <ℤ pos 0) ⊎ ((z ≡ pos 0) ⊎ (pos 0 <ℤ z)) → One
    by_sign none (inl less) = absurd (none (other.0 less))
    by_sign none (inr (inl zero)) = absurd (apart zero)
    by_sign none (inr (inr more)) = one.0 more

-- where the first doesn't hold, and the second holds if a number is negative
either_by_other : {One Other : Type 0} (z : ℤ) → ¬ One → (z <ℤ pos 0) ↔ Other → ¬ (z ≡ pos 0) → z ≤ℤ pos 0 → IsEither One Other
either_by_other {One} {Other} z none other apart most =
    (λ it. absurd (none it), λ without. absurd (without (other.0 (strict (sign_cases z)))))
  where
    strict : (z <ℤ pos 0) ⊎ ((z ≡ pos 0) ⊎ (pos 0 <ℤ z)) → z <ℤ pos 0
    strict (inl less) = less
    strict (inr (inl zero)) = absurd (apart zero)
    strict (inr (inr more)) = absurd (omega (arith, zs))

-- one that goes to the right passes either below or over a position that isn't on it
either_rightward : (p a b : Position) → IsPosition p → IsPosition a → IsPosition b → a.x ≤ℤ p.x → p.x <ℤ b.x → ¬ LiesOn (whole p) (record { a = a; b = b })
    → IsEither (PassesBelow p (record { a = a; b = b })) (PassesOver p (record { a = a; b = b }))
either_rightward p a b here from to begun ended off = by_key (le_or_lt (key_of p) (key_of a))
  where
    over : (orientation a b p <ℤ pos 0) ↔ PassesOver p (record { a = a; b = b })
    over = rightward_by_orientation p (record { a = a; b = b }) begun ended

    beside : ¬ (orientation a b p ≡ pos 0)
    beside none = off (lies_rightward p a b begun ended none)

    following : key_of p <ℤ key_of b
    following = key_by_x p b here to ended

    by_key : (key_of p ≤ℤ key_of a) ⊎ (key_of a <ℤ key_of p) → IsEither (PassesBelow p (record { a = a; b = b })) (PassesOver p (record { a = a; b = b }))
    by_key (inr before) =
        let least : key_of p ≤ℤ key_of b = let more = following in omega (arith, zs) in
        either_by_sign (orientation a b p) (below_rising p a b before least) over beside
    by_key (inl after) =
        let more = following in
        let column = over_by_key a p from here begun after in
        let none = below_apart p a b (λ before. absurd (omega (arith, zs)), λ before. absurd (omega (arith, zs))) in
        either_by_other (orientation a b p) none over beside (under_begin p a b (omega (arith, zs)) column.0 column.1)

-- so does one that goes to the left
either_leftward : (p a b : Position) → IsPosition p → IsPosition a → IsPosition b → b.x ≤ℤ p.x → p.x <ℤ a.x → ¬ LiesOn (whole p) (record { a = a; b = b })
    → IsEither (PassesBelow p (record { a = a; b = b })) (PassesOver p (record { a = a; b = b }))
either_leftward p a b here from to begun ended off =
    let either = either_rightward p b a here to from begun ended (λ lies. off (lies_on_reversed (whole p) (record { a = b; b = a }) lies)) in (
      λ below over. either.0 (below_back p a b below) (passes_back p a b over),
      λ none. below_back p b a (either.1 (λ over. none (passes_back p b a over))),
    )

-- ---- an edge that doesn't go by the position's x

-- one that rises past the key at the position's x or to the left doesn't pass below it
none_rising : (p a b : Position) → IsPosition p → IsPosition b → a.x ≤ℤ p.x → b.x ≤ℤ p.x → key_of a <ℤ key_of p → key_of p ≤ℤ key_of b
    → ¬ PassesBelow p (record { a = a; b = b })
none_rising p a b here to begins ends before following below =
    let column = over_by_key b p to here ends following in
    let same = column.0 in
    let more = (below_rising p a b before following).1 below in
    let most = under_end p a b (omega (arith, zs)) same column.1 in
    omega (arith, zs)

-- one that ends at its x or to the left, and begins so, doesn't pass below it
none_left : (p a b : Position) → IsPosition p → IsPosition a → IsPosition b → a.x ≤ℤ p.x → b.x ≤ℤ p.x → ¬ PassesBelow p (record { a = a; b = b })
none_left p a b here from to begins ends below = by_keys (le_or_lt (key_of p) (key_of a)) (le_or_lt (key_of p) (key_of b))
  where
    by_keys : (key_of p ≤ℤ key_of a) ⊎ (key_of a <ℤ key_of p) → (key_of p ≤ℤ key_of b) ⊎ (key_of b <ℤ key_of p) → ⊥
    by_keys (inl after) (inl following) = below_apart p a b (λ before. absurd (omega (arith, zs)), λ before. absurd (omega (arith, zs))) below
    by_keys (inr before) (inl following) = none_rising p a b here to begins ends before following below
    by_keys (inl after) (inr before) = none_rising p b a here from ends begins before after (below_back p a b below)
    by_keys (inr before) (inr first) = below_apart p a b (λ _. first, λ _. before) below

-- nor does one to the right
none_right : (p a b : Position) → IsPosition p → IsPosition a → IsPosition b → p.x <ℤ a.x → p.x <ℤ b.x → ¬ PassesBelow p (record { a = a; b = b })
none_right p a b here from to begins ends below =
    let after = key_by_x p a here from begins in
    let following = key_by_x p b here to ends in
    below_apart p a b (λ before. absurd (omega (arith, zs)), λ before. absurd (omega (arith, zs))) below

-- ---- tests

-- tests differ where one of two facts holds and not both
either_apart : {One Other : Type 0} (one : Dec One) (other : Dec Other) → IsEither One Other → apart (test one) (test other) ≡ true
either_apart (yes it) (yes its) either = absurd (either.0 it its)
either_apart (yes it) (no without) either = refl
either_apart (no none) (yes its) either = refl
either_apart (no none) (no without) either = absurd (none (either.1 without))

-- and don't where none holds
neither_apart : {One Other : Type 0} (one : Dec One) (other : Dec Other) → ¬ One → ¬ Other → apart (test one) (test other) ≡ false
neither_apart one other none without = ap₂ apart (failed_test one none) (failed_test other without)

-- nor where both hold
both_apart : {One Other : Type 0} (one : Dec One) (other : Dec Other) → One → Other → apart (test one) (test other) ≡ false
both_apart (yes it) (yes its) one other = refl
both_apart (no none) other_test one other = absurd (none one)
both_apart (yes it) (no without) one other = absurd (without other)

-- an edge passes below the position, and not over it or the other way round, where its ends are on two sides of the
-- position's x
differ_by_side : (p a b : Position) → IsPosition p → IsPosition a → IsPosition b → ¬ LiesOn (whole p) (record { a = a; b = b })
    → apart (test (below_or_not p a b)) (test (passes_over_decide p (record { a = a; b = b }))) ≡ apart (test (le_decide a.x p.x)) (test (le_decide b.x p.x))
differ_by_side p a b here from to off = by_ends (le_or_lt a.x p.x) (le_or_lt b.x p.x)
  where
    by_ends : (a.x ≤ℤ p.x) ⊎ (p.x <ℤ a.x) → (b.x ≤ℤ p.x) ⊎ (p.x <ℤ b.x)
        → apart (test (below_or_not p a b)) (test (passes_over_decide p (record { a = a; b = b }))) ≡ apart (test (le_decide a.x p.x)) (test (le_decide b.x p.x))
    by_ends (inl begins) (inl ends) =
        neither_apart _ _ (none_left p a b here from to begins ends) (apart_by_ends p (record { a = a; b = b }) (λ _. ends, λ _. begins))
        ∙ sym (both_apart (le_decide a.x p.x) (le_decide b.x p.x) begins ends)
    by_ends (inl begins) (inr beyond) =
        either_apart _ _ (either_rightward p a b here from to begins beyond off)
        ∙ sym (either_apart (le_decide a.x p.x) (le_decide b.x p.x) (λ _ most. omega (arith, zs), λ _. begins))
    by_ends (inr beyond) (inl ends) =
        either_apart _ _ (either_leftward p a b here from to ends beyond off)
        ∙ sym (either_apart (le_decide a.x p.x) (le_decide b.x p.x) (λ most _. omega (arith, zs), λ none. absurd (none ends)))
    by_ends (inr begins) (inr ends) =
        neither_apart _ _ (none_right p a b here from to begins ends)
        (apart_by_ends p (record { a = a; b = b }) (λ most. absurd (omega (arith, zs)), λ most. absurd (omega (arith, zs))))
        ∙ sym (neither_apart (le_decide a.x p.x) (le_decide b.x p.x) (λ most. omega (arith, zs)) (λ most. omega (arith, zs)))

-- ---- round a ring

-- a position in range on no edge of a ring is inside it exactly where an odd number of the ring's edges pass below it
pub inside_by_edges_below : (position : Position) (ring : List Position) → IsPosition position
    → ((number : ℕ) (vertex : Position) → slice_get ring number ≡ Some vertex → IsPosition vertex)
    → ((number : ℕ) (edge : Edge) → slice_get (edges ring) number ≡ Some edge → ¬ LiesOn (whole position) edge)
    → IsInside position ring ↔ HasOddBelow position ring
inside_by_edges_below position ring here in_range off =
    let below : Edge → Bool = λ (edge : Edge). test (below_or_not position edge.a edge.b) in
    let over : Edge → Bool = λ (edge : Edge). test (passes_over_decide position edge) in
    let same : odd below (edges ring) ≡ odd over (edges ring) = same_by_marks below over (λ (vertex : Position). test (le_decide vertex.x position.x)) ring differ in
    let of_below = odd_decides (PassesBelow position) below (λ edge. test_decides (below_or_not position edge.a edge.b)) (edges ring) in
    let of_over = odd_decides (PassesOver position) over (λ edge. test_decides (passes_over_decide position edge)) (edges ring) in (
      λ inside. of_below.0 (subst (λ (parity : Bool). IsTrue parity) (sym same) (of_over.1 inside)),
      λ has. of_over.0 (subst (λ (parity : Bool). IsTrue parity) same (of_below.1 has)),
    )
  where
    differ : (number : ℕ) (edge : Edge) → slice_get (edges ring) number ≡ Some edge
        → apart (test (below_or_not position edge.a edge.b)) (test (passes_over_decide position edge))
        ≡ apart (test (le_decide edge.a.x position.x)) (test (le_decide edge.b.x position.x))
    differ number edge there =
        let ends = ends_of_edge ring number edge there in
        differ_by_side position edge.a edge.b here (in_range _ edge.a ends.0) (in_range _ edge.b ends.1) (off number edge there)
