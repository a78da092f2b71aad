use Rattle.std.proofs.Common.{◌≡◌, ◌++◌, ◌∙◌, ◌+◌, ℕ, ap, append-nil, length, length-append, refl, subst, sym, arith}
use Rattle.mvt_status.specs.Calls.Tree.{edges_of}
use Rattle.mvt_status.proofs.Heights.{as_high_as_before, node_alone}
use Rattle.mvt_status.proofs.Insertions.{HasPutIn, has_between, put_in_left}
use Rattle.mvt_status.proofs.node.insert.+put_first.Goals as goal
use Rattle.mvt_status.proofs.node.insert.+put_first.Goals.{After-put_first-is_changed, in-Some-settle, in_default-settle}

-- the node, with others in front
put_in_front : (t : ℕ) (c : After-put_first-is_changed t) → HasPutIn (edges_of c.put_first-is_changed.new.side) c.top.inside.own.items (edges_of c.top.inside.right)
    (c.top.inside.size + c.behind-new.inside.size) (edges_of c.args.side.now) c.args.new.value.0 0
put_in_front t c =
    let left = edges_of c.top.inside.left in
    let own = c.top.inside.own.items in
    let right = edges_of c.top.inside.right in
    let all = edges_of c.args.side.now in
    let new = c.args.new.value.0 in
    let part = edges_of c.put_first-is_changed.new.side in
    let node = has_between c.top.inside.left c.top.inside.right own c.top.inside.size c.top.inside.height all
    (ap (λ seen. seen.0) (c.top.view_is ∙ c.deref_mut-top.ensures.value) ∙ sym (ap edges_of c.in-Some.is)) c.top.invariant in
    let behind = c.behind-new.inside in
    let many : length new ≡ behind.size = omega (
      arith,
      c.behind-new.invariant.counted,
      length-append (edges_of behind.left) (behind.own.items ++ edges_of behind.right),
      length-append behind.own.items (edges_of behind.right),
      ap (λ seen. length seen.0) (c.behind-new.view_is ∙ c.deref.ensures),
    ) in
    subst (λ (more : ℕ). HasPutIn part own right (c.top.inside.size + more) all new 0) many
    (put_in_left left own right part c.top.inside.size all new 0 (length left) node refl (omega arith) c.put_first-is_changed.ensures.edges)

pub overflow_add-top : goal.overflow_add-top
overflow_add-top t c =
    omega (arith, (put_in_front t (goal.at.overflow_add-top t c).After-put_first-is_changed).more, c.requires.room)

pub invariant_of-top : goal.invariant_of-top
invariant_of-top t c =
    let put = put_in_front t (goal.at.invariant_of-top t c).After-put_first-is_changed in
    as_high_as_before _ _ _ _ _ _ _ _ _ _ c.top.invariant put.some put.counted refl (c.put_first-is_changed.ensures.level c.if-not-is_changed.true) refl c.is_filled.ensures.filled c.is_filled-2.ensures.filled

pub returns-then-not-is_changed-clause-edges : goal.returns-then-not-is_changed-clause-edges
returns-then-not-is_changed-clause-edges t c =
    (put_in_front t (goal.at.returns-then-not-is_changed-clause-edges t c).After-put_first-is_changed).edges

pub settle-requires : goal.settle-requires
settle-requires t c =
    let put = put_in_front t (goal.at.settle-requires t c).After-put_first-is_changed in
    record { room = omega (arith, put.counted, put.more, c.requires.room) }

pub invariant_of-top-in-Some-settle : goal.invariant_of-top-in-Some-settle
invariant_of-top-in-Some-settle t c =
    rw (c.len-top-inside.ensures.value, c.in-Some-settle.ensures.low)
    (node_alone _ _ _ c.in-Some-settle.ensures.no_left c.in-Some-settle.ensures.no_right c.top.invariant.some)

pub join_over-requires-clause-room : goal.join_over-requires-clause-room
join_over-requires-clause-room t c =
    let put = put_in_front t (goal.at.join_over-requires-clause-room t c).After-put_first-is_changed in
    rw (c.in-Some-settle.ensures.out_left, c.in-Some-settle.ensures.out_right, c.in-Some-settle.ensures.no_left, c.in-Some-settle.ensures.no_right)
    (omega (arith, put.counted, put.more, c.requires.room, ap length (append-nil c.top.inside.own.items)))

pub invariant_of-top-in_default-settle : goal.invariant_of-top-in_default-settle
invariant_of-top-in_default-settle t c =
    let put = put_in_front t (goal.at.invariant_of-top-in_default-settle t c).After-put_first-is_changed in
    rw (c.in_default-settle.ensures.kept_left, c.in_default-settle.ensures.kept_right)
    (record {
      some = put.some;
      counted = put.counted;
      measured = c.in_default-settle.ensures.measured;
      near = c.in_default-settle.ensures.near;
      filled = omega (arith, put.counted, c.in_default-settle.ensures.filled);
    })

pub returns-clause-edges : goal.returns-clause-edges
returns-clause-edges t c =
    let put = put_in_front t (goal.at.returns-clause-edges t c).After-put_first-is_changed in
    elim c.match-settle.branch [
      | in-Some-settle w ↦
          rw (w.side-is, w.join_over.ensures.edges, w.in-Some-settle.ensures.out_left, w.in-Some-settle.ensures.out_right, w.in-Some-settle.ensures.no_left, w.in-Some-settle.ensures.no_right, append-nil) put.edges
      | in_default-settle w ↦ rw (w.side-is, w.in_default-settle.ensures.kept_left, w.in_default-settle.ensures.kept_right) put.edges
    ]
