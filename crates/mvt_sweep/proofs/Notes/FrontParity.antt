-- The parity of numbers that meet a test: of a list of them, of those in a row, and of the edges of rings that have
-- them.
use Rattle.std.proofs.Common.{◌≡◌, ◌≢◌, ℕ, zero, suc, ◌+◌, ◌<◌, ◌≤◌, ◌==◌, ◌⊎◌, inl, inr, Bool, true, false, not, List, [], ◌∷◌, length, slice_get, Some, take, refl, sym, ◌∙◌, ap, ap₂, arith}
use Rattle.std.proofs.lemmas.Bool.{cases_order, eq-eqb, ne_eqb}
use Rattle.mvt_rules.specs.Meeting.{IsEdgeOf}
use Rattle.mvt_fault.specs.declared.ring.RingEdge.{RingEdge}
use Rattle.mvt_plane.specs.Position.{Position}
use Rattle.mvt_plane.specs.Geometry.Ring.{edges}
use Rattle.mvt_plane.specs.declared.geometry.edge.Edge.{Edge}
use Rattle.mvt_plane.proofs.Insides.EdgeParity.{middle_swapped, odd}
use Rattle.mvt_plane.proofs.Insides.InsideParity.{apart, apart_assoc, false_apart, no_truth}
use Rattle.mvt_plane.proofs.Rings.RingEdges.{count_of_edges}
use Rattle.mvt_sweep.specs.Calls.Chain.{Has, EachOne, Ordered}
use Rattle.mvt_sweep.specs.Work.{vertex_count}
use Rattle.mvt_sweep.specs.Calls.RingsBelow.{is_odd_number}
use Rattle.mvt_sweep.proofs.Chains.ChainParts.{each_has}
use Rattle.mvt_sweep.proofs.Vertices.VertexNumbers.{count_cons, count_take}

-- Tests that differ

-- a test differs from one that holds where it fails
true_apart : (x : Bool) → apart true x ≡ not x
true_apart true = refl
true_apart false = refl

-- Numbers in a row

-- from this number on, an odd number of so many meet the test
abbrev pub odd_from : (ℕ → Bool) → ℕ → ℕ → Bool
odd_from meets from zero = false
odd_from meets from (suc many) = apart (meets from) (odd_from meets (suc from) many)

-- tests that are the same of each of them have one parity
pub odd_alike : (meets others : ℕ → Bool) (from many : ℕ) → ((number : ℕ) → from ≤ number → number < from + many → meets number ≡ others number)
    → odd_from meets from many ≡ odd_from others from many
odd_alike meets others from zero same = refl
odd_alike meets others from (suc many) same =
    ap₂ apart (same from (omega arith) (omega arith)) (odd_alike meets others (suc from) many (λ number least most. same number (omega arith) (omega arith)))

-- where two tests differ is an odd number, if just one of them is met by an odd number
pub odd_apart : (meets others : ℕ → Bool) (from many : ℕ)
    → odd_from (λ (number : ℕ). apart (meets number) (others number)) from many ≡ apart (odd_from meets from many) (odd_from others from many)
odd_apart meets others from zero = refl
odd_apart meets others from (suc many) =
    ap (apart (apart (meets from) (others from))) (odd_apart meets others (suc from) many)
    ∙ middle_swapped (meets from) (others from) (odd_from meets (suc from) many) (odd_from others (suc from) many)

-- of none, if none meets the test
pub odd_of_none : (from many : ℕ) → odd_from (λ (number : ℕ). false) from many ≡ false
odd_of_none from zero = refl
odd_of_none from (suc many) = false_apart _ ∙ odd_of_none (suc from) many

-- numbers after this one are others
odd_after : (it from many : ℕ) → it < from → odd_from (λ (number : ℕ). it == number) from many ≡ false
odd_after it from many before = odd_alike _ (λ (number : ℕ). false) from many (λ number least most. ne_eqb it number (λ same. omega arith)) ∙ odd_of_none from many

-- one number is an odd number
pub odd_of_one : (it from many : ℕ) → from ≤ it → it < from + many → odd_from (λ (number : ℕ). it == number) from many ≡ true
odd_of_one it from zero least most = absurd (omega arith)
odd_of_one it from (suc many) least most = either (λ less. odd_of_one it (suc from) many (omega arith) (omega arith)) (cases_order from it)
  where
    either : (from < it → odd_from (λ (number : ℕ). it == number) (suc from) many ≡ true) → (from ≡ it) ⊎ ((from < it) ⊎ (it < from))
        → odd_from (λ (number : ℕ). it == number) from (suc many) ≡ true
    either following (inl same) = ap₂ apart (eq-eqb it from (sym same)) (odd_after it (suc from) many (omega arith))
    either following (inr (inl less)) =
        ap (λ (first : Bool). apart first (odd_from (λ (number : ℕ). it == number) (suc from) many)) (ne_eqb it from (λ same. omega arith))
        ∙ false_apart _ ∙ following less
    either following (inr (inr more)) = absurd (omega arith)

-- a row is one before another
pub odd_joined : (meets : ℕ → Bool) (from many more : ℕ) → odd_from meets from (many + more) ≡ apart (odd_from meets from many) (odd_from meets (from + many) more)
odd_joined meets from zero more =
    let same : from + 0 ≡ from = omega arith in
    let none : 0 + more ≡ more = omega arith in
    ap (odd_from meets from) none ∙ sym (false_apart (odd_from meets (from + 0) more) ∙ ap (λ (n : ℕ). odd_from meets n more) same)
odd_joined meets from (suc many) more =
    let same : suc from + many ≡ from + suc many = omega arith in
    let all : suc many + more ≡ suc (many + more) = omega arith in
    ap (odd_from meets from) all
    ∙ ap (apart (meets from)) (odd_joined meets (suc from) many more ∙ ap (λ (n : ℕ). apart (odd_from meets (suc from) many) (odd_from meets n more)) same)
    ∙ sym (apart_assoc (meets from) (odd_from meets (suc from) many) (odd_from meets (from + suc many) more))

-- Numbers of a list

-- an odd number of the list's are this one
abbrev pub is_in : List ℕ → ℕ → Bool
is_in [] number = false
is_in (first ∷ rest) number = apart (first == number) (is_in rest number)

-- what isn't in the list isn't counted
not_in : (xs : List ℕ) (number : ℕ) → EachOne (λ (other : ℕ). number ≢ other) xs → is_in xs number ≡ false
not_in [] number apart_all = refl
not_in (first ∷ rest) number apart_all =
    ap (λ (here : Bool). apart here (is_in rest number)) (ne_eqb first number (λ same. apart_all.0 (sym same))) ∙ false_apart _ ∙ not_in rest number apart_all.1

-- where each is there once, what is in the list is counted
pub in_by_has : (xs : List ℕ) (number : ℕ) → Ordered (λ (one other : ℕ). one ≢ other) xs → Has xs number → is_in xs number ≡ true
in_by_has [] number once has = absurd has
in_by_has (first ∷ rest) number once (inl same) =
    ap₂ apart (eq-eqb first number same) (ap (is_in rest) (sym same) ∙ not_in rest first once.0)
in_by_has (first ∷ rest) number once (inr more) =
    ap (λ (here : Bool). apart here (is_in rest number)) (ne_eqb first number (each_has (λ (other : ℕ). first ≢ other) rest number once.0 more))
    ∙ false_apart _ ∙ in_by_has rest number once.1 more

-- what is counted is in it
pub has_by_in : (xs : List ℕ) (number : ℕ) → is_in xs number ≡ true → Has xs number
has_by_in [] number there = absurd (no_truth there)
has_by_in (first ∷ rest) number there = either (has_by_in rest number) (cases_order first number)
  where
    following : (is_in rest number ≡ true → Has rest number) → first ≢ number → Has (first ∷ rest) number
    following further other = inr (further (sym (ap (λ (here : Bool). apart here (is_in rest number)) (ne_eqb first number other) ∙ false_apart _) ∙ there))

    either : (is_in rest number ≡ true → Has rest number) → (first ≡ number) ⊎ ((first < number) ⊎ (number < first)) → Has (first ∷ rest) number
    either further (inl same) = inl same
    either further (inr (inl less)) = following further (λ same. omega arith)
    either further (inr (inr more)) = following further (λ same. omega arith)

-- the list's length is an odd number where an odd number of the row is in it
pub odd_of_list : (xs : List ℕ) (many : ℕ) → EachOne (λ (number : ℕ). number < many) xs → is_odd_number (length xs) ≡ odd_from (is_in xs) 0 many
odd_of_list [] many known = sym (odd_of_none 0 many)
odd_of_list (first ∷ rest) many known =
    let less : first < many = known.0 in
    sym
    (odd_apart (λ (number : ℕ). first == number) (is_in rest) 0 many
    ∙ ap₂ apart (odd_of_one first 0 many (omega arith) (omega arith)) (sym (odd_of_list rest many known.1)) ∙ true_apart (is_odd_number (length rest)))

-- Edges

-- the edges of a list, in a row
odd_of_edges : (meets : ℕ → Bool) (decides : Edge → Bool) (all : List Edge) (from : ℕ)
    → ((number : ℕ) (edge : Edge) → slice_get all number ≡ Some edge → meets (from + number) ≡ decides edge) → odd_from meets from (length all) ≡ odd decides all
odd_of_edges meets decides [] from same = refl
odd_of_edges meets decides (edge ∷ rest) from same =
    let here : from + 0 ≡ from = omega arith in
    ap₂ apart (ap meets (sym here) ∙ same 0 edge refl)
    (odd_of_edges meets decides rest (suc from) (λ number other there.
    let next : suc from + number ≡ from + suc number = omega arith in
    ap meets next ∙ same (suc number) other there))

-- an odd number of all the rings' edges meet the test
abbrev pub odd_of_all : (Edge → Bool) → List (List Position) → Bool
odd_of_all decides [] = false
odd_of_all decides (ring ∷ rest) = apart (odd decides (edges ring)) (odd_of_all decides rest)

-- the edges of rings, in a row
pub odd_of_rings : (meets : ℕ → Bool) (decides : Edge → Bool) (rings : List (List Position)) (from : ℕ)
    → ((number : RingEdge) (edge : Edge) → IsEdgeOf rings number edge → meets (from + (vertex_count (take number.ring rings) + number.edge)) ≡ decides edge)
    → odd_from meets from (vertex_count rings) ≡ odd_of_all decides rings
odd_of_rings meets decides [] from same = refl
odd_of_rings meets decides (ring ∷ rest) from same =
    let here : (number : ℕ) (edge : Edge) → slice_get (edges ring) number ≡ Some edge → meets (from + number) ≡ decides edge = λ number edge there.
    let at : from + number ≡ from + (0 + number) = omega arith in
    ap meets at ∙ same (record { ring = 0; edge = number }) edge (record { ring = ring; there = refl; here = there }) in
    let first : odd_from meets from (length ring) ≡ odd decides (edges ring) =
    ap (odd_from meets from) (sym (count_of_edges ring))
    ∙ odd_of_edges meets decides (edges ring) from here in
    let following : (number : RingEdge) (edge : Edge) → IsEdgeOf rest number edge → meets (from + length ring + (vertex_count (take number.ring rest) + number.edge)) ≡ decides edge = λ number edge is.
    let before = count_take ring rest number.ring in
    let at : from + length ring + (vertex_count (take number.ring rest) + number.edge) ≡ from + (vertex_count (take (suc number.ring) (ring ∷ rest)) + number.edge) =
    omega (arith, before) in
    ap meets at ∙ same (record { ring = suc number.ring; edge = number.edge }) edge (record { ring = is.ring; there = is.there; here = is.here }) in
    ap (odd_from meets from) (count_cons ring rest) ∙ odd_joined meets from (length ring) (vertex_count rest)
    ∙ ap₂ apart first (odd_of_rings meets decides rest (from + length ring) following)
