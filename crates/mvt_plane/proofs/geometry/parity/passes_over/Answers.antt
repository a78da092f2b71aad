-- The rectangles say which edges pass over the position, of those that go by its x.
use Rattle.std.proofs.Common.{◌≡◌, ◌↔◌, Bool, true, false, IsTrue, inl, inr, ℤ, ◌≤ℤ◌, ◌<ℤ◌, refl, sym, ◌∙◌, arith}
use Rattle.std.proofs.Math.Bool.{beq}
use Rattle.std.proofs.lemmas.Int.{ints}
use Rattle.mvt_plane.proofs.Insides.InsideEdges.{passes_rightward, passes_leftward, passes_apart}
use Rattle.mvt_plane.proofs.Orders.Order.{le_or_lt}
use Rattle.mvt_plane.proofs.geometry.parity.passes_over.Goals as goal

same_truth : (p q : Bool) → beq p q ≡ true → p ≡ q
same_truth true true same = refl
same_truth false false same = refl
same_truth true false same = sym same
same_truth false true same = same

one_holds : (p q : Bool) → beq p q ≡ false → p ≡ false → q ≡ true
one_holds p true differ fails = refl
one_holds p false differ fails = absurd (cc (fails, differ))

one_fails : (p q : Bool) → beq p q ≡ false → p ≡ true → q ≡ false
one_fails p false differ holds = refl
one_fails p true differ holds = absurd (cc (holds, differ))

-- what is not later is beyond
beyond : (p : Bool) (x y : ℤ) → (IsTrue p ↔ (x ≤ℤ y)) → p ≡ false → y <ℤ x
beyond p x y following fails = elim (le_or_lt x y) [
  | inl least ↦ let holds = following.1 least in absurd (cc (holds, fails))
  | inr more ↦ more
]

pub returns-then-begins_up_to-ends_up_to : goal.returns-then-begins_up_to-ends_up_to
returns-then-begins_up_to-ends_up_to c =
    let same = same_truth c.is_up_to-begins_up_to.result c.is_up_to-ends_up_to.result c.if-begins_up_to-ends_up_to.true in
    let there : c.args.a.x ≤ℤ c.args.point.x → c.args.b.x ≤ℤ c.args.point.x = λ begins. c.is_up_to-ends_up_to.ensures.0 (sym same ∙ c.is_up_to-begins_up_to.ensures.1 begins) in
    let back : c.args.b.x ≤ℤ c.args.point.x → c.args.a.x ≤ℤ c.args.point.x = λ ends. c.is_up_to-begins_up_to.ensures.0 (same ∙ c.is_up_to-ends_up_to.ensures.1 ends) in
    (λ impossible. absurd (cc impossible), λ passes. absurd (passes_apart c.args.point c.args.a c.args.b (there, back) passes))

pub returns-then-begins_up_to : goal.returns-then-begins_up_to
returns-then-begins_up_to c =
    let begins = c.is_up_to-begins_up_to.ensures.0 c.if-begins_up_to.true in
    let fails = one_fails c.is_up_to-begins_up_to.result c.is_up_to-ends_up_to.result c.if-begins_up_to-ends_up_to.false c.if-begins_up_to.true in
    let ends = beyond c.is_up_to-ends_up_to.result c.args.b.x c.args.point.x c.is_up_to-ends_up_to.ensures fails in
    let passes = passes_rightward c.args.point c.args.a c.args.b begins ends in
    (λ less. passes.0 (grind (arith, ints)), λ over. let less = passes.1 over in grind (arith, ints))

pub returns-else-begins_up_to : goal.returns-else-begins_up_to
returns-else-begins_up_to c =
    let begins = beyond c.is_up_to-begins_up_to.result c.args.a.x c.args.point.x c.is_up_to-begins_up_to.ensures c.if-begins_up_to.false in
    let holds = one_holds c.is_up_to-begins_up_to.result c.is_up_to-ends_up_to.result c.if-begins_up_to-ends_up_to.false c.if-begins_up_to.false in
    let ends = c.is_up_to-ends_up_to.ensures.0 holds in
    let passes = passes_leftward c.args.point c.args.a c.args.b ends begins in
    (λ less. passes.0 (grind (arith, ints)), λ over. let less = passes.1 over in grind (arith, ints))
