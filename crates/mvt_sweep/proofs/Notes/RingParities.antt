-- Whether an odd number of all the rings' edges pass below a position, as tests: what one ring makes of it.
use Rattle.std.proofs.Common.{◌≡◌, ◌≢◌, inl, inr, ◌↔◌, ℕ, zero, suc, Bool, true, false, IsTrue, List, [], ◌∷◌, slice_get, Some, refl, sym, ◌∙◌, ap, ap₂, arith}
use Rattle.std.proofs.lemmas.Option.{same_Some}
use Rattle.mvt_plane.specs.Geometry.Below.{PassesBelow, HasOddBelow}
use Rattle.mvt_plane.specs.Geometry.Inside.{HoldsOfOdd}
use Rattle.mvt_plane.specs.Position.{Position}
use Rattle.mvt_plane.specs.Geometry.Ring.{edges}
use Rattle.mvt_plane.specs.declared.geometry.edge.Edge.{Edge}
use Rattle.mvt_plane.proofs.Insides.EdgeParity.{test, test_decides, odd, odd_decides, apart_either_way}
use Rattle.mvt_plane.proofs.Insides.EdgesBelow.{below_or_not}
use Rattle.mvt_plane.proofs.Insides.InsideParity.{apart, apart_assoc, false_apart, no_truth, parts_differ}
use Rattle.mvt_sweep.specs.Calls.RingsBelow.{HaveOddBelow}

-- ---- one ring

-- where something holds of no edge, it doesn't hold of an odd number of them
pub none_odd : (Holds : Edge → Type 0) (all : List Edge) → ((number : ℕ) (edge : Edge) → slice_get all number ≡ Some edge → ¬ Holds edge) → ¬ HoldsOfOdd Holds all
none_odd Holds [] none impossible = impossible
none_odd Holds (edge ∷ rest) none (inl (it, _)) = none 0 edge refl it
none_odd Holds (edge ∷ rest) none (inr (_, further)) = none_odd Holds rest (λ number other there. none (suc number) other there) further

-- whether an odd number of its edges pass below the position
abbrev pub odd_below : Position → List Position → Bool
odd_below position ring = odd (λ (edge : Edge). test (below_or_not position edge.a edge.b)) (edges ring)

-- the test says whether it is so
pub odd_below_decides : (position : Position) (ring : List Position) → IsTrue (odd_below position ring) ↔ HasOddBelow position ring
odd_below_decides position ring =
    let below : Edge → Bool = λ (edge : Edge). test (below_or_not position edge.a edge.b) in
    odd_decides (PassesBelow position) below (λ edge. test_decides (below_or_not position edge.a edge.b)) (edges ring)

-- ---- tests

-- tests of what is the same are the same
pub one_test : {Fact : Type 0} (one other : Bool) → IsTrue one ↔ Fact → IsTrue other ↔ Fact → one ≡ other
one_test true true decides its = refl
one_test true false decides its = absurd (no_truth (its.1 (decides.0 refl)))
one_test false true decides its = absurd (no_truth (decides.1 (its.0 refl)))
one_test false false decides its = refl

-- what doesn't hold fails its test
pub no_test : {Fact : Type 0} (one : Bool) → IsTrue one ↔ Fact → ¬ Fact → one ≡ false
no_test true decides none = absurd (none (decides.0 refl))
no_test false decides none = refl

-- tests of what holds together are the same
pub alike_tests : {Fact Other : Type 0} (one other : Bool) → IsTrue one ↔ Fact → IsTrue other ↔ Other → Fact ↔ Other → one ≡ other
alike_tests one other decides its same = one_test one other decides (λ it. same.1 (its.0 it), λ it. its.1 (same.0 it))

-- of three tests the first two may change places
first_swapped : (x y z : Bool) → apart x (apart y z) ≡ apart y (apart x z)
first_swapped x y z = sym (apart_assoc x y z) ∙ ap (λ (it : Bool). apart it z) (apart_either_way x y) ∙ apart_assoc y x z

-- ---- all rings

-- whether an odd number of rings meet the test
abbrev pub odd_rings : (List Position → Bool) → List (List Position) → Bool
odd_rings meets [] = false
odd_rings meets (ring ∷ rest) = apart (meets ring) (odd_rings meets rest)

-- it says whether an odd number of all the rings' edges pass below the position
pub odd_rings_decide : (position : Position) (rings : List (List Position)) → IsTrue (odd_rings (odd_below position) rings) ↔ HaveOddBelow position rings
odd_rings_decide position [] = (no_truth, λ impossible. absurd impossible)
odd_rings_decide position (ring ∷ rest) =
    parts_differ (odd_below position ring) (odd_rings (odd_below position) rest) _ _ (odd_below_decides position ring) (odd_rings_decide position rest)

-- where no ring has an odd number of edges below the position, all together don't
pub none_has_odd : (position : Position) (rings : List (List Position)) → ((number : ℕ) (ring : List Position) → slice_get rings number ≡ Some ring → ¬ HasOddBelow position ring)
    → ¬ HaveOddBelow position rings
none_has_odd position [] none impossible = impossible
none_has_odd position (ring ∷ rest) none (inl (it, _)) = none 0 ring refl it
none_has_odd position (ring ∷ rest) none (inr (_, others)) = none_has_odd position rest (λ number other there. none (suc number) other there) others

-- tests that are the same of each ring have the same parity
same_rings : (one two : List Position → Bool) (rings : List (List Position))
    → ((number : ℕ) (ring : List Position) → slice_get rings number ≡ Some ring → one ring ≡ two ring) → odd_rings one rings ≡ odd_rings two rings
same_rings one two [] same = refl
same_rings one two (ring ∷ rest) same = ap₂ apart (same 0 ring refl) (same_rings one two rest (λ number other there. same (suc number) other there))

-- where they are the same of each ring but one, of which the second test fails, the parities differ where the first
-- test holds of that
pub all_but_one : (one two : List Position → Bool) (rings : List (List Position)) (at : ℕ) (ring : List Position) → slice_get rings at ≡ Some ring → two ring ≡ false
    → ((number : ℕ) (other : List Position) → number ≢ at → slice_get rings number ≡ Some other → one other ≡ two other)
    → odd_rings one rings ≡ apart (one ring) (odd_rings two rings)
all_but_one one two [] at ring here fails same = absurd (cc)
all_but_one one two (first ∷ rest) zero ring here fails same =
    let is : first ≡ ring = same_Some first ring here in
    let further : odd_rings one rest ≡ odd_rings two rest = same_rings one two rest (λ number other there. same (suc number) other (λ none. omega arith) there) in
    let off : two first ≡ false = ap two is ∙ fails in
    let whole : odd_rings two (first ∷ rest) ≡ odd_rings two rest = ap (λ (it : Bool). apart it (odd_rings two rest)) off ∙ false_apart (odd_rings two rest) in
    ap₂ apart (ap one is) (further ∙ sym whole)
all_but_one one two (first ∷ rest) (suc at) ring here fails same =
    let further : odd_rings one rest ≡ apart (one ring) (odd_rings two rest) =
    all_but_one one two rest at ring here fails (λ number other differ there. same (suc number) other (λ it. differ (omega arith)) there) in
    let now : one first ≡ two first = same 0 first (λ none. omega arith) refl in
    ap₂ apart now further ∙ first_swapped (two first) (one ring) (odd_rings two rest)
