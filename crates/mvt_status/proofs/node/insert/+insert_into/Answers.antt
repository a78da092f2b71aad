use Rattle.std.proofs.Common.{◌≡◌, ◌++◌, ◌∙◌, ◌+◌, ◌-◌, ℕ, ap, append-nil, drop, length, length-append, refl, subst, sym, take, arith}
use Rattle.mvt_status.specs.Calls.Tree.{edges_of, fewest, height_of}
use Rattle.mvt_status.proofs.Heights.{as_high_as_before, node_alone}
use Rattle.mvt_status.proofs.Insertions.{HasBetween, HasPutIn, has_between, length_put_in, put_in_left, put_in_own, put_in_right, put_in_upper}
use Rattle.mvt_status.proofs.node.insert.+insert_into.Goals as goal
use Rattle.mvt_status.proofs.node.insert.+insert_into.Goals.{After-len, Joined-at-before, in-Some-settle, in_default-settle}
use Rattle.mvt_status.proofs.node.insert.+insert_into.Goals.{then-at-before, else-at-before+then-following-at, else-at-before+else-following-at+then-len-new-le-ROOM, else-at-before+else-following-at+else-len-new-le-ROOM+then-at-before-2, else-at-before+else-following-at+else-len-new-le-ROOM+else-at-before-2+then-at-following, else-at-before+else-following-at+else-len-new-le-ROOM+else-at-before-2+else-at-following}

-- the node and its sides before
before : (t : ℕ) (c : After-len t) → HasBetween (edges_of c.top.inside.left) c.top.inside.own.items (edges_of c.top.inside.right) c.top.inside.size (edges_of c.args.side.now)
before t c =
    has_between c.top.inside.left c.top.inside.right c.top.inside.own.items c.top.inside.size c.top.inside.height (edges_of c.args.side.now)
    (ap (λ seen. seen.0) (c.top.view_is ∙ c.deref_mut-top.ensures.value) ∙ sym (ap edges_of c.in-Some.is)) c.top.invariant

-- after all ways
put_in_all : (t : ℕ) (c : Joined-at-before t) → HasPutIn (edges_of c.if-at-before.top-inside.left) c.if-at-before.top-inside.own.items (edges_of c.if-at-before.top-inside.right)
    c.if-at-before.top-inside.size (edges_of c.args.side.now) c.args.new.now c.args.at
put_in_all t c =
    let node : HasBetween (edges_of c.top.inside.left) c.top.inside.own.items (edges_of c.top.inside.right) c.top.inside.size (edges_of c.args.side.now)
    = has_between c.top.inside.left c.top.inside.right c.top.inside.own.items c.top.inside.size c.top.inside.height (edges_of c.args.side.now)
    (ap (λ seen. seen.0) (c.top.view_is ∙ c.deref_mut-top.ensures.value) ∙ sym (ap edges_of c.in-Some.is)) c.top.invariant in
    elim c.if-at-before.branch [
      | then-at-before w ↦
          rw w.top-inside-is (put_in_left _ _ _ (edges_of w.insert_into.new.side) _ _ _ c.args.at c.size-before.result node c.size-before.ensures (omega arith) w.insert_into.ensures.edges)
      | else-at-before+then-following-at w ↦
          rw w.top-inside-is (put_in_right _ _ _ (edges_of w.insert_into-then-following-at.new.side) _ _ _ c.args.at (c.size-before.result + c.len.result) node (omega arith) (omega arith) w.insert_into-then-following-at.ensures.edges)
      | else-at-before+else-following-at+then-len-new-le-ROOM w ↦
          rw w.top-inside-is (put_in_own _ _ _ w.put_in.new.own.items _ _ _ c.args.at c.size-before.result node c.size-before.ensures (omega arith) (omega arith) w.put_in.ensures)
      | else-at-before+else-following-at+else-len-new-le-ROOM+then-at-before-2 w ↦
          rw w.top-inside-is (put_in_left _ _ _ (edges_of w.insert_into-then-at-before-2.new.side) _ _ _ c.args.at c.size-before.result node c.size-before.ensures (omega arith) w.insert_into-then-at-before-2.ensures.edges)
      | else-at-before+else-following-at+else-len-new-le-ROOM+else-at-before-2+then-at-following w ↦
          rw w.top-inside-is
          (put_in_upper _ _ _ w.halved-upper.new.own.items w.halved-upper.result.value.0 (edges_of w.put_first.new.side) _ _ _ c.args.at c.size-before.result node c.size-before.ensures (omega arith) (omega arith)
          w.halved-upper.ensures.some w.halved-upper.ensures.edges w.put_first.ensures.edges)
      | else-at-before+else-following-at+else-len-new-le-ROOM+else-at-before-2+else-at-following w ↦
          (let at_end : c.args.at - (c.size-before.result + c.len.result) ≡ 0 = omega (arith, w.if-following-at.false, w.if-at-following.false) in
          rw w.top-inside-is (put_in_right _ _ _ (edges_of w.insert_into-else-at-following.new.side) _ _ _ c.args.at (c.size-before.result + c.len.result) node (omega arith) w.if-at-following.false
          (subst (λ (place : ℕ). edges_of w.insert_into-else-at-following.new.side ≡ take place (edges_of c.top.inside.right) ++ (c.args.new.now ++ drop place (edges_of c.top.inside.right))) (sym at_end) w.insert_into-else-at-following.ensures.edges)))
    ]

pub returns-in_default-clause-filled : goal.returns-in_default-clause-filled
unfolding fewest
returns-in_default-clause-filled t c = rw c.in_default.is (omega arith)

pub put_first-requires-clause-room : goal.put_first-requires-clause-room
put_first-requires-clause-room t c =
    omega (
      arith,
      length_put_in c.top.inside.own.items (c.halved-upper.new.own.items ++ c.halved-upper.result.value.0) c.args.new.now (c.args.at - c.size-before.result) c.halved-upper.ensures.edges,
      length-append c.halved-upper.new.own.items c.halved-upper.result.value.0,
      (before t (goal.at.put_first-requires-clause-room t c).After-len).counted,
    )

pub invariant_of-top : goal.invariant_of-top
invariant_of-top t c =
    let put = put_in_all t (goal.at.invariant_of-top t c).Joined-at-before in
    let as_high : c.if-at-before.top-inside.height ≡ c.top.inside.height = elim c.if-at-before.branch [
      | then-at-before w ↦ rw w.top-inside-is refl
      | else-at-before+then-following-at w ↦ rw w.top-inside-is refl
      | else-at-before+else-following-at+then-len-new-le-ROOM w ↦ rw w.top-inside-is refl
      | else-at-before+else-following-at+else-len-new-le-ROOM+then-at-before-2 w ↦ rw w.top-inside-is refl
      | else-at-before+else-following-at+else-len-new-le-ROOM+else-at-before-2+then-at-following w ↦ rw w.top-inside-is refl
      | else-at-before+else-following-at+else-len-new-le-ROOM+else-at-before-2+else-at-following w ↦ rw w.top-inside-is refl
    ] in
    let left_as_high : height_of c.if-at-before.top-inside.left ≡ height_of c.top.inside.left = elim c.if-at-before.branch [
      | then-at-before w ↦ rw w.top-inside-is (w.insert_into.ensures.level (ap (λ answer. answer.0) (sym w.is_changed-is) ∙ c.if-not-is_changed.true))
      | else-at-before+then-following-at w ↦ rw w.top-inside-is refl
      | else-at-before+else-following-at+then-len-new-le-ROOM w ↦ rw w.top-inside-is refl
      | else-at-before+else-following-at+else-len-new-le-ROOM+then-at-before-2 w ↦ rw w.top-inside-is (w.insert_into-then-at-before-2.ensures.level (ap (λ answer. answer.0) (sym w.is_changed-is) ∙ c.if-not-is_changed.true))
      | else-at-before+else-following-at+else-len-new-le-ROOM+else-at-before-2+then-at-following w ↦ rw w.top-inside-is refl
      | else-at-before+else-following-at+else-len-new-le-ROOM+else-at-before-2+else-at-following w ↦ rw w.top-inside-is refl
    ] in
    let right_as_high : height_of c.if-at-before.top-inside.right ≡ height_of c.top.inside.right = elim c.if-at-before.branch [
      | then-at-before w ↦ rw w.top-inside-is refl
      | else-at-before+then-following-at w ↦ rw w.top-inside-is (w.insert_into-then-following-at.ensures.level (ap (λ answer. answer.0) (sym w.is_changed-is) ∙ c.if-not-is_changed.true))
      | else-at-before+else-following-at+then-len-new-le-ROOM w ↦ rw w.top-inside-is refl
      | else-at-before+else-following-at+else-len-new-le-ROOM+then-at-before-2 w ↦ rw w.top-inside-is refl
      | else-at-before+else-following-at+else-len-new-le-ROOM+else-at-before-2+then-at-following w ↦ rw w.top-inside-is (w.put_first.ensures.level (ap (λ answer. answer.0) (sym w.is_changed-is) ∙ c.if-not-is_changed.true))
      | else-at-before+else-following-at+else-len-new-le-ROOM+else-at-before-2+else-at-following w ↦ rw w.top-inside-is (w.insert_into-else-at-following.ensures.level (ap (λ answer. answer.0) (sym w.is_changed-is) ∙ c.if-not-is_changed.true))
    ] in
    as_high_as_before _ _ _ _ _ _ _ _ _ _ c.top.invariant put.some put.counted as_high left_as_high right_as_high c.is_filled.ensures.filled c.is_filled-2.ensures.filled

pub returns-then-not-is_changed-clause-edges : goal.returns-then-not-is_changed-clause-edges
returns-then-not-is_changed-clause-edges t c = (put_in_all t (goal.at.returns-then-not-is_changed-clause-edges t c).Joined-at-before).edges

pub settle-requires : goal.settle-requires
settle-requires t c =
    let put = put_in_all t (goal.at.settle-requires t c).Joined-at-before in
    record { room = omega (arith, put.counted, put.more) }

pub invariant_of-top-in-Some-settle : goal.invariant_of-top-in-Some-settle
invariant_of-top-in-Some-settle t c =
    rw (c.len-top-inside.ensures.value, c.in-Some-settle.ensures.low)
    (node_alone _ _ _ c.in-Some-settle.ensures.no_left c.in-Some-settle.ensures.no_right (put_in_all t (goal.at.invariant_of-top-in-Some-settle t c).Joined-at-before).some)

pub join_over-requires-clause-room : goal.join_over-requires-clause-room
join_over-requires-clause-room t c =
    let put = put_in_all t (goal.at.join_over-requires-clause-room t c).Joined-at-before in
    rw (c.in-Some-settle.ensures.out_left, c.in-Some-settle.ensures.out_right, c.in-Some-settle.ensures.no_left, c.in-Some-settle.ensures.no_right)
    (omega (arith, put.counted, put.more, ap length (append-nil c.if-at-before.top-inside.own.items)))

pub invariant_of-top-in_default-settle : goal.invariant_of-top-in_default-settle
invariant_of-top-in_default-settle t c =
    let put = put_in_all t (goal.at.invariant_of-top-in_default-settle t c).Joined-at-before in
    rw (c.in_default-settle.ensures.kept_left, c.in_default-settle.ensures.kept_right)
    (record {
      some = put.some;
      counted = put.counted;
      measured = c.in_default-settle.ensures.measured;
      near = c.in_default-settle.ensures.near;
      filled = omega (arith, put.counted, c.in_default-settle.ensures.filled);
    })

pub returns-clause-edges : goal.returns-clause-edges
returns-clause-edges t c =
    let put = put_in_all t (goal.at.returns-clause-edges t c).Joined-at-before in
    elim c.match-settle.branch [
      | in-Some-settle w ↦
          rw (w.side-is, w.join_over.ensures.edges, w.in-Some-settle.ensures.out_left, w.in-Some-settle.ensures.out_right, w.in-Some-settle.ensures.no_left, w.in-Some-settle.ensures.no_right, append-nil) put.edges
      | in_default-settle w ↦ rw (w.side-is, w.in_default-settle.ensures.kept_left, w.in_default-settle.ensures.kept_right) put.edges
    ]
