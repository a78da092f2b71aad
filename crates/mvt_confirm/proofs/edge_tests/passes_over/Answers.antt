use Rattle.std.proofs.Common.{◌≡◌, ◌↔◌, Bool, IsTrue, true, false, true≢false, ℤ, pos, ◌≤ℤ◌, ◌<ℤ◌, FitsSigned, to_z, of_z, inl, inr, refl, sym, ◌∙◌, subst, arith}
use Rattle.std.proofs.Math.Bool.{beq}
use Rattle.std.proofs.lemmas.Int.{ints, to_z-of_z}
use mir.Syntax.{w32, w128}
use lib.Signed.{le_z, lt_z}
use Rattle.mvt_plane.proofs.Orders.Order.{le_or_lt}
use Rattle.mvt_plane.proofs.Insides.EdgeRows.{rightward_by_orientation, leftward_by_orientation, apart_by_ends}
use Rattle.mvt_confirm.proofs.edge_tests.passes_over.Goals as goal

-- what a test of two numbers decides
less_decided : (a b : ℤ) → IsTrue (lt_z a b) ↔ (a <ℤ b)
less_decided a b = (λ found. omega (arith, ints), λ less. grind (arith, ints))

at_most_decided : (a b : ℤ) → IsTrue (le_z a b) ↔ (a ≤ℤ b)
at_most_decided a b = (λ found. omega (arith, ints), λ less. grind (arith, ints))

above : (a b : ℤ) → ¬ (a ≤ℤ b) → b <ℤ a
above a b over = elim (le_or_lt a b) [
  | inl less ↦ absurd (over less)
  | inr more ↦ more
]

-- of coordinates as they were read
read_decided : (read_a read_b a b : ℤ) → FitsSigned w32 read_a → FitsSigned w32 read_b → read_a ≡ a → read_b ≡ b
    → IsTrue (le_z (to_z w32 (of_z w32 read_a)) (to_z w32 (of_z w32 read_b))) ↔ (a ≤ℤ b)
read_decided read_a read_b a b a_fits b_fits a_is b_is =
    let one : to_z w32 (of_z w32 read_a) ≡ a = to_z-of_z w32 read_a a_fits ∙ a_is in
    let other : to_z w32 (of_z w32 read_b) ≡ b = to_z-of_z w32 read_b b_fits ∙ b_is in
    subst (λ z. IsTrue (le_z z (to_z w32 (of_z w32 read_b))) ↔ (a ≤ℤ b)) (sym one) (subst (λ z. IsTrue (le_z a z) ↔ (a ≤ℤ b)) (sym other) (at_most_decided a b))

-- two tests that are alike
alike : (one other : Bool) → beq one other ≡ true → IsTrue one → IsTrue other
alike true true same holds = refl
alike true false same holds = absurd (cc)
alike false other same holds = absurd (cc)

alike_back : (one other : Bool) → beq one other ≡ true → IsTrue other → IsTrue one
alike_back true other same holds = refl
alike_back false true same holds = absurd (cc)
alike_back false false same holds = absurd (cc)

-- and two that differ
differ : (one other : Bool) → beq one other ≡ false → IsTrue one → ¬ IsTrue other
differ true true apart holds both = absurd (cc)
differ true false apart holds both = absurd (cc)
differ false other apart holds both = absurd (cc)

differ_back : (one other : Bool) → beq one other ≡ false → one ≡ false → IsTrue other
differ_back true other apart fails = absurd (cc)
differ_back false true apart fails = refl
differ_back false false apart fails = absurd (cc)

-- the turn as the code compares it
negative_turn : (turn z : ℤ) → FitsSigned w128 turn → turn ≡ z → IsTrue (lt_z (to_z w128 (of_z w128 turn)) (pos 0)) ↔ (z <ℤ pos 0)
negative_turn turn z fits same = subst (λ it. IsTrue (lt_z it (pos 0)) ↔ (z <ℤ pos 0)) (sym (to_z-of_z w128 turn fits ∙ same)) (less_decided z (pos 0))

positive_turn : (turn z : ℤ) → FitsSigned w128 turn → turn ≡ z → IsTrue (lt_z (pos 0) (to_z w128 (of_z w128 turn))) ↔ (pos 0 <ℤ z)
positive_turn turn z fits same = subst (λ it. IsTrue (lt_z (pos 0) it) ↔ (pos 0 <ℤ z)) (sym (to_z-of_z w128 turn fits ∙ same)) (less_decided (pos 0) z)

pub returns-then-begins_up_to-ends_up_to : goal.returns-then-begins_up_to-ends_up_to
returns-then-begins_up_to-ends_up_to c =
    let begins = read_decided c.x.result c.x-2.result c.args.a.x c.args.position.x (record { sfits = c.x.type_inv }) (record { sfits = c.x-2.type_inv }) c.x.ensures.value c.x-2.ensures.value in
    let ends = read_decided c.x-3.result c.x-4.result c.args.b.x c.args.position.x (record { sfits = c.x-3.type_inv }) (record { sfits = c.x-4.type_inv }) c.x-3.ensures.value c.x-4.ensures.value in
    let same = c.if-begins_up_to-ends_up_to.true in
    let there : c.args.a.x ≤ℤ c.args.position.x → c.args.b.x ≤ℤ c.args.position.x = λ less. ends.0 (alike _ _ same (begins.1 less)) in
    let back : c.args.b.x ≤ℤ c.args.position.x → c.args.a.x ≤ℤ c.args.position.x = λ less. begins.0 (alike_back _ _ same (ends.1 less)) in
    (λ impossible. absurd (true≢false (sym impossible)), λ passes. absurd (apart_by_ends c.args.position (record { a = c.args.a; b = c.args.b }) (there, back) passes))

pub returns-then-begins_up_to : goal.returns-then-begins_up_to
returns-then-begins_up_to c =
    let read = read_decided c.x.result c.x-2.result c.args.a.x c.args.position.x (record { sfits = c.x.type_inv }) (record { sfits = c.x-2.type_inv }) c.x.ensures.value c.x-2.ensures.value in
    let other = read_decided c.x-3.result c.x-4.result c.args.b.x c.args.position.x (record { sfits = c.x-3.type_inv }) (record { sfits = c.x-4.type_inv }) c.x-3.ensures.value c.x-4.ensures.value in
    let begins : c.args.a.x ≤ℤ c.args.position.x = read.0 c.if-begins_up_to.true in
    let ends : c.args.position.x <ℤ c.args.b.x = above c.args.b.x c.args.position.x (λ less. differ _ _ c.if-begins_up_to-ends_up_to.false c.if-begins_up_to.true (other.1 less)) in
    let passes = rightward_by_orientation c.args.position (record { a = c.args.a; b = c.args.b }) begins ends in
    let sign = negative_turn c.orient-turn.result _ (record { sfits = c.orient-turn.type_inv }) c.orient-turn.ensures in
    (λ less. passes.0 (sign.0 less), λ over. sign.1 (passes.1 over))

pub returns-else-begins_up_to : goal.returns-else-begins_up_to
returns-else-begins_up_to c =
    let read = read_decided c.x.result c.x-2.result c.args.a.x c.args.position.x (record { sfits = c.x.type_inv }) (record { sfits = c.x-2.type_inv }) c.x.ensures.value c.x-2.ensures.value in
    let other = read_decided c.x-3.result c.x-4.result c.args.b.x c.args.position.x (record { sfits = c.x-3.type_inv }) (record { sfits = c.x-4.type_inv }) c.x-3.ensures.value c.x-4.ensures.value in
    let begins : c.args.position.x <ℤ c.args.a.x = above c.args.a.x c.args.position.x (λ less. true≢false (sym (read.1 less) ∙ c.if-begins_up_to.false)) in
    let ends : c.args.b.x ≤ℤ c.args.position.x = other.0 (differ_back _ _ c.if-begins_up_to-ends_up_to.false c.if-begins_up_to.false) in
    let passes = leftward_by_orientation c.args.position (record { a = c.args.a; b = c.args.b }) ends begins in
    let sign = positive_turn c.orient-turn.result _ (record { sfits = c.orient-turn.type_inv }) c.orient-turn.ensures in
    (λ more. passes.0 (sign.0 more), λ over. sign.1 (passes.1 over))
