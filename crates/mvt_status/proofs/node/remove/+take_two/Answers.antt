use Rattle.std.proofs.Common.{ℕ, ◌≡◌, ◌+◌, ◌-◌, ◌++◌, ◌∙◌, IsFalse, IsTrue, length, refl, ap, subst, sym, arith}
use Rattle.mvt_status.specs.Calls.Tree.{edges_of, height_of}
use Rattle.mvt_status.proofs.Heights.{as_high_as_before}
use Rattle.mvt_status.proofs.Removals.{IsWithoutTwo, without_two_between, without_two_left, without_two_right}
use Rattle.mvt_status.proofs.node.remove.+take_two.Goals as goal
use Rattle.mvt_status.proofs.node.remove.+take_two.Goals.{After-is_filled-2, After-len, then-at-before, else-at-before+then-at-following, else-at-before+else-at-following}

-- the edges of the node before
same : (t : ℕ) (c : After-len t) → edges_of c.top.inside.left ++ (c.top.inside.own.items ++ edges_of c.top.inside.right) ≡ edges_of c.args.side.now
same t c = ap (λ seen. seen.0) (c.top.view_is ∙ c.deref_mut-top.ensures.value) ∙ sym (ap edges_of c.in-Some.is)

-- what is left of the node, where two edges go out
without_two : (t : ℕ) (c : After-is_filled-2 t) → IsTrue c.if-at-before.is_out.0
    → IsWithoutTwo (edges_of c.if-at-before.top-inside.left) c.if-at-before.top-inside.own.items (edges_of c.if-at-before.top-inside.right)
    (edges_of c.args.side.now) c.top.inside.size c.args.at c.if-at-before.out.0 c.if-at-before.out.1
without_two t c is_out =
    let many : c.size-before.result + c.len.result ≡ length (edges_of c.top.inside.left) + length c.top.inside.own.items = omega (arith, c.size-before.ensures, c.len.ensures.value) in
    let whole : edges_of c.top.inside.left ++ (c.top.inside.own.items ++ edges_of c.top.inside.right) ≡ edges_of c.args.side.now
    = ap (λ seen. seen.0) (c.top.view_is ∙ c.deref_mut-top.ensures.value) ∙ sym (ap edges_of c.in-Some.is) in
    elim c.if-at-before.branch [
      | then-at-before w ↦
          (let done = subst (λ answer. IsTrue answer.0) w.is_out-is is_out in
          rw (w.top-inside-is, w.out-is) (without_two_left _ _ _ _ _ _ _ _ _ whole c.top.invariant.counted c.top.invariant.some (w.take_two.ensures.within done)
          (w.take_two.ensures.edges done) (w.take_two.ensures.lower done) (w.take_two.ensures.upper done)))
      | else-at-before+then-at-following w ↦
          (let done = subst (λ answer. IsTrue answer.0) w.is_out-is is_out in
          rw (w.top-inside-is, w.out-is) (without_two_between _ _ _ _ _ _ _ _ _ _ whole c.top.invariant.counted (w.take_two_own.ensures.others done) c.size-before.ensures w.if-at-before.false
          (w.take_two_own.ensures.within done) (w.take_two_own.ensures.edges done) (w.take_two_own.ensures.lower done) (w.take_two_own.ensures.upper done)))
      | else-at-before+else-at-following w ↦
          (let done = subst (λ answer. IsTrue answer.0) w.is_out-is is_out in
          rw (w.top-inside-is, w.out-is) (without_two_right _ _ _ _ _ _ _ _ _ _ whole c.top.invariant.counted c.top.invariant.some many w.if-at-following.false (w.take_two-else-at-following.ensures.within done)
          (w.take_two-else-at-following.ensures.edges done) (w.take_two-else-at-following.ensures.lower done) (w.take_two-else-at-following.ensures.upper done)))
    ]

pub invariant_of-top : goal.invariant_of-top
invariant_of-top t c =
    let left = without_two t (goal.at.invariant_of-top t c).After-is_filled-2 c.if-is_out.true in
    let as_high : c.if-at-before.top-inside.height ≡ c.top.inside.height = elim c.if-at-before.branch [
      | then-at-before w ↦ rw w.top-inside-is refl
      | else-at-before+then-at-following w ↦ rw w.top-inside-is refl
      | else-at-before+else-at-following w ↦ rw w.top-inside-is refl
    ] in
    let as_many : c.if-at-before.top-inside.size ≡ c.top.inside.size = elim c.if-at-before.branch [
      | then-at-before w ↦ rw w.top-inside-is refl
      | else-at-before+then-at-following w ↦ rw w.top-inside-is refl
      | else-at-before+else-at-following w ↦ rw w.top-inside-is refl
    ] in
    let left_as_high : height_of c.if-at-before.top-inside.left ≡ height_of c.top.inside.left = elim c.if-at-before.branch [
      | then-at-before w ↦ rw w.top-inside-is w.take_two.ensures.height
      | else-at-before+then-at-following w ↦ rw w.top-inside-is refl
      | else-at-before+else-at-following w ↦ rw w.top-inside-is refl
    ] in
    let right_as_high : height_of c.if-at-before.top-inside.right ≡ height_of c.top.inside.right = elim c.if-at-before.branch [
      | then-at-before w ↦ rw w.top-inside-is refl
      | else-at-before+then-at-following w ↦ rw w.top-inside-is refl
      | else-at-before+else-at-following w ↦ rw w.top-inside-is w.take_two-else-at-following.ensures.height
    ] in
    as_high_as_before _ _ _ _ _ _ _ _ _ _ c.top.invariant left.some (ap (λ (size : ℕ). size - 2) as_many ∙ left.counted) as_high left_as_high right_as_high c.is_filled-2.ensures.filled c.is_filled-3.ensures.filled

pub returns-then-is_out-clause-edges : goal.returns-then-is_out-clause-edges
returns-then-is_out-clause-edges t c = λ is_out. (without_two t (goal.at.returns-then-is_out-clause-edges t c).After-is_filled-2 is_out).edges

pub returns-then-is_out-clause-lower : goal.returns-then-is_out-clause-lower
returns-then-is_out-clause-lower t c = λ is_out. (without_two t (goal.at.returns-then-is_out-clause-lower t c).After-is_filled-2 is_out).lower

pub returns-then-is_out-clause-upper : goal.returns-then-is_out-clause-upper
returns-then-is_out-clause-upper t c = λ is_out. (without_two t (goal.at.returns-then-is_out-clause-upper t c).After-is_filled-2 is_out).upper

pub returns-then-is_out-clause-within : goal.returns-then-is_out-clause-within
returns-then-is_out-clause-within t c = λ is_out. (without_two t (goal.at.returns-then-is_out-clause-within t c).After-is_filled-2 is_out).within

pub returns-else-is_out-clause-unchanged : goal.returns-else-is_out-clause-unchanged
returns-else-is_out-clause-unchanged t c = λ kept.
    let whole = same t (goal.at.returns-else-is_out-clause-unchanged t c).After-len in
    elim c.if-at-before.branch [
      | then-at-before w ↦ rw w.top-inside-is (ap (λ list. list ++ (c.top.inside.own.items ++ edges_of c.top.inside.right)) (w.take_two.ensures.unchanged (subst (λ answer. IsFalse answer.0) w.is_out-is kept)) ∙ whole)
      | else-at-before+then-at-following w ↦
          rw w.top-inside-is (ap (λ own. edges_of c.top.inside.left ++ (own.items ++ edges_of c.top.inside.right)) (w.take_two_own.ensures.unchanged (subst (λ answer. IsFalse answer.0) w.is_out-is kept)) ∙ whole)
      | else-at-before+else-at-following w ↦
          rw w.top-inside-is (ap (λ list. edges_of c.top.inside.left ++ (c.top.inside.own.items ++ list)) (w.take_two-else-at-following.ensures.unchanged (subst (λ answer. IsFalse answer.0) w.is_out-is kept)) ∙ whole)
    ]
