-- The parity of the edges of a ring for which something holds, as tests. Where two tests of each edge differ just as
-- marks of its ends do, an odd number of edges meet the one where an odd number meet the other, since marks cancel
-- going round.
use Rattle.std.proofs.Common.{◌≡◌, inl, inr, ◌↔◌, ℕ, suc, Bool, true, false, IsTrue, List, [], ◌∷◌, slice_get, Some, refl, sym, ◌∙◌, ap, ap₂}
use Rattle.mvt_plane.specs.Geometry.Inside.{Differ, HoldsOfOdd}
use Rattle.mvt_plane.specs.Position.{Position}
use Rattle.mvt_plane.specs.Geometry.Ring.{edges_through, edges}
use Rattle.mvt_plane.specs.declared.geometry.edge.Edge.{Edge}
use Rattle.mvt_plane.proofs.Insides.InsideParity.{apart, apart_assoc, apart_false, false_apart, no_truth, parts_differ}

-- ---- tests of what is decided

-- the test of it
abbrev pub test : {Fact : Type 0} → Dec Fact → Bool
test (yes it) = true
test (no apart) = false

-- the test says whether it holds
pub test_decides : {Fact : Type 0} (decided : Dec Fact) → IsTrue (test decided) ↔ Fact
test_decides (yes it) = (λ _. it, λ _. refl)
test_decides (no apart) = (λ impossible. absurd (no_truth impossible), λ it. absurd (apart it))

-- tests of what holds together are the same
pub same_test : {First Second : Type 0} (one : Dec First) (other : Dec Second) → (First → Second) → (Second → First) → test one ≡ test other
same_test (yes it) (yes its) there back = refl
same_test (yes it) (no apart) there back = absurd (apart (there it))
same_test (no apart) (yes its) there back = absurd (apart (back its))
same_test (no apart) (no other) there back = refl

-- what doesn't hold fails its test
pub failed_test : {Fact : Type 0} (decided : Dec Fact) → ¬ Fact → test decided ≡ false
failed_test (yes it) apart = absurd (apart it)
failed_test (no other) apart = refl

-- ---- tests that differ

-- either way
pub apart_either_way : (x y : Bool) → apart x y ≡ apart y x
apart_either_way true true = refl
apart_either_way true false = refl
apart_either_way false true = refl
apart_either_way false false = refl

-- no test differs from itself
pub not_apart : (x : Bool) → apart x x ≡ false
not_apart true = refl
not_apart false = refl

-- tests that don't differ are the same
same_unless_apart : (x y : Bool) → apart x y ≡ false → x ≡ y
same_unless_apart true true none = refl
same_unless_apart true false none = absurd (cc)
same_unless_apart false true none = absurd (cc)
same_unless_apart false false none = refl

-- of four tests the middle ones may change places
pub middle_swapped : (x y z t : Bool) → apart (apart x y) (apart z t) ≡ apart (apart x z) (apart y t)
middle_swapped x y z t =
    apart_assoc x y (apart z t)
    ∙ ap (apart x) (sym (apart_assoc y z t) ∙ ap (λ (s : Bool). apart s t) (apart_either_way y z) ∙ apart_assoc z y t)
    ∙ sym (apart_assoc x z (apart y t))

-- a mark between two others cancels
mark_cancels : (x y z : Bool) → apart (apart x y) (apart y z) ≡ apart x z
mark_cancels x y z = apart_assoc x y (apart y z) ∙ ap (apart x) (sym (apart_assoc y y z) ∙ ap (λ (s : Bool). apart s z) (not_apart y) ∙ false_apart z)

-- ---- the parity

-- an odd number of edges meet the test
abbrev pub odd : (Edge → Bool) → List Edge → Bool
odd meets [] = false
odd meets (edge ∷ rest) = apart (meets edge) (odd meets rest)

-- where the test says whether something holds of an edge, the parity says whether it holds of an odd number of them
pub odd_decides : (Holds : Edge → Type 0) (meets : Edge → Bool) → ((edge : Edge) → IsTrue (meets edge) ↔ Holds edge)
    → (all : List Edge) → IsTrue (odd meets all) ↔ HoldsOfOdd Holds all
odd_decides Holds meets decides [] = (no_truth, λ impossible. absurd impossible)
odd_decides Holds meets decides (edge ∷ rest) = parts_differ (meets edge) (odd meets rest) _ _ (decides edge) (odd_decides Holds meets decides rest)

-- of two facts one holds, where it is so of two others that hold with them
pub differ_together : {First Second One Two : Type 0} → First ↔ One → Second ↔ Two → Differ First Second → Differ One Two
differ_together first second (inl (it, none)) = inl (first.0 it, λ other. none (second.1 other))
differ_together first second (inr (none, it)) = inr (λ other. none (first.1 other), second.0 it)

-- what holds of the same edges holds of an odd number of them alike
pub odd_together : (Holds Other : Edge → Type 0) → ((edge : Edge) → Holds edge ↔ Other edge) → (all : List Edge) → HoldsOfOdd Holds all → HoldsOfOdd Other all
odd_together Holds Other same [] impossible = impossible
odd_together Holds Other same (edge ∷ rest) holds =
    differ_together (same edge) (odd_together Holds Other same rest, odd_together Other Holds (λ it. ((same it).1, (same it).0)) rest) holds

-- ---- round a ring

-- two tests of each of these edges differ just as the marks of its ends do
abbrev pub DifferByMarks : (Edge → Bool) → (Edge → Bool) → (Position → Bool) → List Edge → Type 0
DifferByMarks meets others mark all = (number : ℕ) (edge : Edge) → slice_get all number ≡ Some edge → apart (meets edge) (others edge) ≡ apart (mark edge.a) (mark edge.b)

-- from a vertex on, the parities differ as the marks of that and of the first vertex do
differ_through : (meets others : Edge → Bool) (mark : Position → Bool) (first from : Position) (rest : List Position)
    → DifferByMarks meets others mark (edges_through first from rest)
    → apart (odd meets (edges_through first from rest)) (odd others (edges_through first from rest)) ≡ apart (mark from) (mark first)
differ_through meets others mark first from [] differ =
    let edge : Edge = record { a = from; b = first } in
    middle_swapped (meets edge) false (others edge) false ∙ apart_false (apart (meets edge) (others edge)) ∙ differ 0 edge refl
differ_through meets others mark first from (to ∷ rest) differ =
    let edge : Edge = record { a = from; b = to } in
    let all = edges_through first to rest in
    let further = differ_through meets others mark first to rest (λ number another there. differ (suc number) another there) in
    middle_swapped (meets edge) (odd meets all) (others edge) (odd others all) ∙ ap₂ apart (differ 0 edge refl) further ∙ mark_cancels (mark from) (mark to) (mark first)

-- round a ring they are the same
pub same_by_marks : (meets others : Edge → Bool) (mark : Position → Bool) (ring : List Position) → DifferByMarks meets others mark (edges ring)
    → odd meets (edges ring) ≡ odd others (edges ring)
same_by_marks meets others mark [] differ = refl
same_by_marks meets others mark (first ∷ rest) differ =
    same_unless_apart _ _ (differ_through meets others mark first first rest differ ∙ not_apart (mark first))
