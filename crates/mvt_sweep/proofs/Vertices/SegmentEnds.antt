-- The ends of an edge between two positions, from the lesser key on.
use Rattle.std.proofs.Common.{◌≡◌, ◌≢◌, ◌↔◌, ◌⊎◌, inl, inr, [], ◌∷◌, Bool, true, false, IsTrue, Ordering, ℤ, pos, ◌+ℤ◌, ◌<ℤ◌, ◌≤ℤ◌, int_cmp, SFits, to_z, of_z, w64, refl, sym, ◌∙◌, ap, subst, arith}
use Rattle.std.specs.Ordering.{MatchOrdering, is_gt, is_ne}
use Rattle.std.specs.declared.cmp.Ordering.TheVariants.{Less, Equal, Greater}
use Rattle.std.proofs.lemmas.Cmp.{int_ranked}
use lib.Signed.{lt_z}
use Rattle.std.proofs.lemmas.Bool.{cond-true, cond-false}
use Rattle.std.proofs.lemmas.Int.{ints, to_z-of_z}
use Rattle.mvt_plane.specs.Geometry.EdgeOrder.{Segment, segment, IsRising, segment_between}
use Rattle.mvt_plane.specs.Calls.EdgeOrder.{IsEndOf}
use Rattle.mvt_plane.specs.Geometry.Measure.{key_of, orientation}
use Rattle.mvt_plane.specs.Position.{Position, IsPosition}
use Rattle.mvt_plane.proofs.Orders.Gaps.{same_key}
use Rattle.mvt_plane.proofs.Orders.Order.{le_or_lt, antisym_ℤ}
use Rattle.mvt_plane.proofs.Orders.Polynomials.{unknown, constant, ◌⊕◌, ◌⊖◌, ◌⊗◌, ring}

-- the edge between two positions goes one way or the other
pub data IsBetweenThem (one other : Position) : Type 0 where
  up : key_of one <ℤ key_of other → segment_between one other ≡ segment one other → IsBetweenThem one other
  down : key_of other ≤ℤ key_of one → segment_between one other ≡ segment other one → IsBetweenThem one other

-- a lesser number passes the test of the code
less : (a b : ℤ) → a <ℤ b → lt_z a b ≡ true
less a b is = grind (arith, ints)

-- and one that isn't doesn't
not_less : (a b : ℤ) → b ≤ℤ a → lt_z a b ≡ false
not_less a b is = grind (arith, ints)

-- and it is known which
pub between_them : (one other : Position) → IsBetweenThem one other
between_them one other =
    elim (le_or_lt (key_of other) (key_of one)) [
      | inl falls ↦ down falls (cond-false (lt_z (key_of one) (key_of other)) (segment one other) (segment other one) (not_less (key_of one) (key_of other) falls))
      | inr rises ↦ up rises (cond-true (lt_z (key_of one) (key_of other)) (segment one other) (segment other one) (less (key_of one) (key_of other) rises))
    ]

-- it rises where its ends are apart
pub rising_between : (one other : Position) → IsPosition one → IsPosition other → one ≢ other → IsRising (segment_between one other)
rising_between one other within inside apart = either (between_them one other)
  where
    either : IsBetweenThem one other → IsRising (segment_between one other)
    either (up rises is) = subst IsRising (sym is) rises
    either (down falls is) = subst IsRising (sym is) (strict (le_or_lt (key_of one) (key_of other)))
      where
        strict : (key_of one ≤ℤ key_of other) ⊎ (key_of other <ℤ key_of one) → key_of other <ℤ key_of one
        strict (inl no_more) = absurd (apart (same_key one other within inside (antisym_ℤ no_more falls)))
        strict (inr fewer) = fewer

-- one position is an end of it
pub end_first : (one other : Position) → IsEndOf one (segment_between one other)
end_first one other =
    elim (between_them one other) [
      | up rises is ↦ subst (IsEndOf one) (sym is) (inl refl)
      | down falls is ↦ subst (IsEndOf one) (sym is) (inr refl)
    ]

-- so is the other
pub end_second : (one other : Position) → IsEndOf other (segment_between one other)
end_second one other =
    elim (between_them one other) [
      | up rises is ↦ subst (IsEndOf other) (sym is) (inr refl)
      | down falls is ↦ subst (IsEndOf other) (sym is) (inl refl)
    ]

-- Which end is which

-- the lower end is one of the positions
pub low_is : (one other : Position) → ((segment_between one other).low ≡ one) ⊎ ((segment_between one other).low ≡ other)
low_is one other =
    elim (between_them one other) [
      | up rises is ↦ inl (ap (λ (it : Segment). it.low) is)
      | down falls is ↦ inr (ap (λ (it : Segment). it.low) is)
    ]

-- so is the upper one
pub high_is : (one other : Position) → ((segment_between one other).high ≡ one) ⊎ ((segment_between one other).high ≡ other)
high_is one other =
    elim (between_them one other) [
      | up rises is ↦ inr (ap (λ (it : Segment). it.high) is)
      | down falls is ↦ inl (ap (λ (it : Segment). it.high) is)
    ]

-- a comparison of keys, as the code makes it
pub test_of_keys : (one other : Position) (left right : ℤ) (answer : Bool) → SFits w64 left → SFits w64 right → left ≡ key_of one → right ≡ key_of other
    → lt_z (to_z w64 (of_z w64 left)) (to_z w64 (of_z w64 right)) ≡ answer → lt_z (key_of one) (key_of other) ≡ answer
test_of_keys one other left right answer left_fits right_fits left_is right_is test =
    rw (← (to_z-of_z w64 left left_fits ∙ left_is), ← (to_z-of_z w64 right right_fits ∙ right_is)) test

-- where the first has the lesser key, the edge begins in it
pub rises_between : (one other : Position) → lt_z (key_of one) (key_of other) ≡ true → segment_between one other ≡ segment one other
rises_between one other less = cond-true (lt_z (key_of one) (key_of other)) (segment one other) (segment other one) less

-- and otherwise it ends there
pub falls_between : (one other : Position) → lt_z (key_of one) (key_of other) ≡ false → segment_between one other ≡ segment other one
falls_between one other not = cond-false (lt_z (key_of one) (key_of other)) (segment one other) (segment other one) not

-- an edge that begins in the first position ends in the second
pub high_from_first : (one other : Position) → (segment_between one other).low ≡ one → (segment_between one other).high ≡ other
high_from_first one other begins =
    elim (between_them one other) [
      | up rises is ↦ ap (λ (it : Segment). it.high) is
      | down falls is ↦ ap (λ (it : Segment). it.high) is ∙ sym begins ∙ ap (λ (it : Segment). it.low) is
    ]

-- and one that begins in the second ends in the first
pub high_from_second : (one other : Position) → (segment_between one other).low ≡ other → (segment_between one other).high ≡ one
high_from_second one other begins =
    elim (between_them one other) [
      | up rises is ↦ ap (λ (it : Segment). it.high) is ∙ sym begins ∙ ap (λ (it : Segment). it.low) is
      | down falls is ↦ ap (λ (it : Segment). it.high) is
    ]

-- Turns

-- the other way round it is as much to the other side
pub turned_round : (low one other : Position) → orientation low one other +ℤ orientation low other one ≡ pos 0
turned_round low one other =
    let LX = unknown 0 in
    let LY = unknown 1 in
    let AX = unknown 2 in
    let AY = unknown 3 in
    let BX = unknown 4 in
    let BY = unknown 5 in
    ring (low.x ∷ low.y ∷ one.x ∷ one.y ∷ other.x ∷ other.y ∷ [])
    (((AX ⊖ LX) ⊗ (BY ⊖ LY) ⊖ (AY ⊖ LY) ⊗ (BX ⊖ LX)) ⊕ ((BX ⊖ LX) ⊗ (AY ⊖ LY) ⊖ (BY ⊖ LY) ⊗ (AX ⊖ LX))) (constant (pos 0)) tt

-- a turn is positive where it compares so with 0
pub positive_by_side : (turn : ℤ) (side : Ordering) → side ≡ int_cmp turn (pos 0) → IsTrue (is_gt side) ↔ (pos 0 <ℤ turn)
positive_by_side turn side is = by_case side (int_ranked turn (pos 0) side is)
  where
    by_case : (side : Ordering) → MatchOrdering side (turn <ℤ pos 0) (turn ≡ pos 0) (pos 0 <ℤ turn) → IsTrue (is_gt side) ↔ (pos 0 <ℤ turn)
    by_case Less below = ((λ yes. absurd (cc yes)), (λ above. absurd (omega (arith, ints))))
    by_case Equal same = ((λ yes. absurd (cc yes)), (λ above. absurd (omega (arith, ints))))
    by_case Greater above = ((λ yes. above), (λ above'. refl))

-- and not 0 where it doesn't compare as equal
pub turning_by_side : (turn : ℤ) (side : Ordering) → side ≡ int_cmp turn (pos 0) → IsTrue (is_ne side) → ¬ (turn ≡ pos 0)
turning_by_side turn side is = by_case side (int_ranked turn (pos 0) side is)
  where
    by_case : (side : Ordering) → MatchOrdering side (turn <ℤ pos 0) (turn ≡ pos 0) (pos 0 <ℤ turn) → IsTrue (is_ne side) → ¬ (turn ≡ pos 0)
    by_case Less below = λ turns flat. absurd (omega (arith, ints))
    by_case Equal same = λ turns flat. absurd (cc turns)
    by_case Greater above = λ turns flat. absurd (omega (arith, ints))
