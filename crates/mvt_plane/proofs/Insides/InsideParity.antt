-- The parity of the edges that pass over a position, met one after another.
use Rattle.std.proofs.Common.{◌≡◌, inl, inr, ◌↔◌, Bool, true, false, IsTrue, List, [], ◌∷◌, refl, subst}
use Rattle.std.proofs.Math.Bool.{not, beq}
use Rattle.mvt_plane.specs.Position.{Position}
use Rattle.mvt_plane.specs.Geometry.Inside.{Differ, PassesOver, HoldsOfOdd, IsInside}
use Rattle.mvt_plane.specs.Geometry.Ring.{edges_through}

-- ---- tests that differ

-- the test whether two others differ, as the code has it
abbrev pub apart : Bool → Bool → Bool
apart x y = not (beq x y)

-- a test that fails doesn't hold
pub no_truth : IsTrue false → ⊥
no_truth impossible = cc

-- one of two facts holds and not the other, where their tests differ
pub parts_differ : (x y : Bool) (First Second : Type 0) → (IsTrue x ↔ First) → (IsTrue y ↔ Second) → IsTrue (apart x y) ↔ Differ First Second
parts_differ true true First Second first second = (λ impossible. absurd (no_truth impossible), refuse)
  where
    refuse : Differ First Second → IsTrue false
    refuse (inl (_, not_second)) = absurd (not_second (second.0 refl))
    refuse (inr (not_first, _)) = absurd (not_first (first.0 refl))
parts_differ true false First Second first second = (λ _. inl (first.0 refl, λ it. no_truth (second.1 it)), λ _. refl)
parts_differ false true First Second first second = (λ _. inr (λ it. no_truth (first.1 it), second.0 refl), λ _. refl)
parts_differ false false First Second first second = (λ impossible. absurd (no_truth impossible), refuse)
  where
    refuse : Differ First Second → IsTrue false
    refuse (inl (it, _)) = first.1 it
    refuse (inr (_, it)) = second.1 it

-- it doesn't matter which two come first
pub apart_assoc : (x y z : Bool) → apart (apart x y) z ≡ apart x (apart y z)
apart_assoc true true true = refl
apart_assoc true true false = refl
apart_assoc true false true = refl
apart_assoc true false false = refl
apart_assoc false true true = refl
apart_assoc false true false = refl
apart_assoc false false true = refl
apart_assoc false false false = refl

-- a test differs from one that fails where it holds itself
pub apart_false : (x : Bool) → apart x false ≡ x
apart_false true = refl
apart_false false = refl

-- the same, with the one that fails first
pub false_apart : (x : Bool) → apart false x ≡ x
false_apart true = refl
false_apart false = refl

-- ---- the parity so far

-- with that of the edges to come, a parity so far gives the whole
abbrev pub Completes : Bool → Type 0 → Type 0 → Type 0
Completes so_far Rest Whole = (rest : Bool) → (IsTrue rest ↔ Rest) → (IsTrue (apart so_far rest) ↔ Whole)

-- an odd number of the edges to come pass over the position
abbrev pub OddToCome : Position → Position → Position → List Position → Type 0
OddToCome p first from rest = HoldsOfOdd (PassesOver p) (edges_through first from rest)

-- before the first edge
pub completes_start : (p first : Position) (rest ring : List Position) → ring ≡ first ∷ rest → Completes false (OddToCome p first first rest) (IsInside p ring)
completes_start p first rest ring same parity decides =
    rw (false_apart parity, same) decides

-- after an edge
pub completes_edge : (p first from to : Position) (rest left : List Position) (Whole : Type 0) (so_far passes : Bool) → rest ≡ to ∷ left →
    (IsTrue passes ↔ PassesOver p (record { a = from; b = to })) → Completes so_far (OddToCome p first from rest) Whole →
    Completes (apart so_far passes) (OddToCome p first to left) Whole
completes_edge p first from to rest left Whole so_far passes same decides completes parity decides_left =
    let opened = subst (λ (positions : List Position). Completes so_far (OddToCome p first from positions) Whole) same completes in
    let both = parts_differ passes parity _ _ decides decides_left in
    rw (apart_assoc so_far passes parity) (opened (apart passes parity) both)

-- after the last one, which leads back to the first vertex
pub completes_last : (p first from : Position) (rest : List Position) (Whole : Type 0) (so_far passes : Bool) → rest ≡ [] →
    (IsTrue passes ↔ PassesOver p (record { a = from; b = first })) → Completes so_far (OddToCome p first from rest) Whole →
    IsTrue (apart so_far passes) ↔ Whole
completes_last p first from rest Whole so_far passes same decides completes =
    let opened = subst (λ (positions : List Position). Completes so_far (OddToCome p first from positions) Whole) same completes in
    let none : IsTrue false ↔ ⊥ = (no_truth, λ impossible. absurd impossible) in
    let both = parts_differ passes false (PassesOver p (record { a = from; b = first })) ⊥ decides none in
    opened passes (rw apart_false at both)
