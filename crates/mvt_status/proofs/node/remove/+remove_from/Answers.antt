use Rattle.std.proofs.Common.{◌≡◌, ℕ, None, suc, max, ◌+◌, ◌≤◌, ◌++◌, ◌∙◌, length, append-nil, remove, slice_index, refl, ap, sym, subst, arith}
use Rattle.std.proofs.lemmas.List.Edits.{length-remove}
use Rattle.mvt_status.specs.Calls.Tree.{IsNode, edges_of, fewest, height_of}
use Rattle.mvt_status.proofs.Heights.{as_high_as_before, more_levels, no_side, node_alone, visits_below}
use Rattle.mvt_status.proofs.Levels.{IsHigher, higher_left, higher_right}
use Rattle.mvt_status.proofs.Removals.{IsWithout, all_counted, found_first, lower_both, taken_between, without_left, without_own, without_right}
use Rattle.mvt_status.proofs.node.remove.+remove_from.Goals as goal
use Rattle.mvt_status.proofs.node.remove.+remove_from.Goals.{Then-top-before, After-len, After-height-else-top-before, After-settle, then-at-before+else-height-level, else-at-before+else-at-following+else-top-before+else-height-level-2, else-at-following-via-then-at-following+else-len-gt1, else-at-following-via-else-at-following, then-at-following-2, else-at-following-2}

-- what is left of the node where the edge did not go out on the left
without_after : (t : ℕ) (c : After-height-else-top-before t) → IsWithout (edges_of c.if-at-following-2.top-inside.left) c.if-at-following-2.top-inside.own.items (edges_of c.if-at-following-2.top-inside.right)
    (edges_of c.args.side.now) (c.if-at-following-2.top-inside.size) c.args.at c.if-at-following-2.out
without_after t c =
    let same : edges_of c.top.inside.left ++ (c.top.inside.own.items ++ edges_of c.top.inside.right) ≡ edges_of c.args.side.now
    = ap (λ seen. seen.0) (c.top.view_is ∙ c.deref_mut-top.ensures.value) ∙ sym (ap edges_of c.in-Some.is) in
    let many : c.size-before.result + c.len.result ≡ length (edges_of c.top.inside.left) + length c.top.inside.own.items = omega (arith, c.size-before.ensures, c.len.ensures.value) in
    elim c.if-at-following-2.branch [
      | then-at-following-2 next ↦
          (let few : length c.top.inside.own.items ≤ 1 = elim c.else-at-following.branch [
            | else-at-following-via-then-at-following+else-len-gt1 w ↦ omega (arith, w.if-len-gt1.false, w.len-then-at-following.ensures.value)
            | else-at-following-via-else-at-following w ↦ absurd (omega (arith, w.if-at-following.false, next.if-at-following-2.true))
          ] in
          rw (next.top-inside-is, next.out-is) (without_own _ _ _ _ _ _ _ _ _ _ same c.top.invariant.counted next.own_from-out.ensures.some c.size-before.ensures c.if-at-before.false
          (omega (arith, next.if-at-following-2.true, many, c.size-before.ensures)) few next.own_from-out.ensures.edges next.own_from-out.ensures.out))
      | else-at-following-2 further ↦ rw (further.top-inside-is, further.out-is) (without_right _ _ _ _ _ _ _ _ _ same c.top.invariant.counted c.top.invariant.some many further.if-at-following-2.false c.requires.within
          further.remove_from-out-else-at-following-2.ensures.edges further.remove_from-out-else-at-following-2.ensures.out)
    ]

-- what is left of the node where a side is a level lower
without : (t : ℕ) (c : After-settle t) → IsWithout (edges_of c.if-at-before.top-inside.left) c.if-at-before.top-inside.own.items (edges_of c.if-at-before.top-inside.right)
    (edges_of c.args.side.now) c.if-at-before.top-inside.size c.args.at c.if-at-before.out
without t c =
    let same : edges_of c.top.inside.left ++ (c.top.inside.own.items ++ edges_of c.top.inside.right) ≡ edges_of c.args.side.now
    = ap (λ seen. seen.0) (c.top.view_is ∙ c.deref_mut-top.ensures.value) ∙ sym (ap edges_of c.in-Some.is) in
    let many : c.size-before.result + c.len.result ≡ length (edges_of c.top.inside.left) + length c.top.inside.own.items = omega (arith, c.size-before.ensures, c.len.ensures.value) in
    elim c.if-at-before.branch [
      | then-at-before+else-height-level w ↦
          rw (w.top-inside-is, w.out-is) (without_left _ _ _ _ _ _ _ _ same c.top.invariant.counted c.top.invariant.some (omega (arith, c.size-before.ensures, w.if-at-before.true)) w.remove_from-out.ensures.edges w.remove_from-out.ensures.out)
      | else-at-before+else-at-following+else-top-before+else-height-level-2 w ↦ elim w.if-at-following-2.branch [
        | then-at-following-2 next ↦
            (let few : length c.top.inside.own.items ≤ 1 = elim w.else-at-following.branch [
              | else-at-following-via-then-at-following+else-len-gt1 v ↦ omega (arith, v.if-len-gt1.false, v.len-then-at-following.ensures.value)
              | else-at-following-via-else-at-following v ↦ absurd (omega (arith, v.if-at-following.false, next.if-at-following-2.true))
            ] in
            rw (w.top-inside-is, w.out-is, next.top-inside-is, next.out-is) (without_own _ _ _ _ _ _ _ _ _ _ same c.top.invariant.counted next.own_from-out.ensures.some c.size-before.ensures w.if-at-before.false
            (omega (arith, next.if-at-following-2.true, many, c.size-before.ensures)) few next.own_from-out.ensures.edges next.own_from-out.ensures.out))
        | else-at-following-2 further ↦ rw (w.top-inside-is, w.out-is, further.top-inside-is, further.out-is) (without_right _ _ _ _ _ _ _ _ _ same c.top.invariant.counted c.top.invariant.some many
            further.if-at-following-2.false c.requires.within further.remove_from-out-else-at-following-2.ensures.edges further.remove_from-out-else-at-following-2.ensures.out)
      ]
    ]

-- the levels of the node before
tall : (t : ℕ) (c : After-len t) → c.top.inside.height ≡ height_of c.args.side.now
tall t c = ap (λ seen. seen.1) (c.top.view_is ∙ c.deref_mut-top.ensures.value) ∙ sym (ap height_of c.in-Some.is)

-- it has enough edges for them
filled_before : (t : ℕ) (c : After-len t) → fewest (height_of c.args.side.now) ≤ suc (length (edges_of c.args.side.now))
filled_before t c =
    let same : edges_of c.top.inside.left ++ (c.top.inside.own.items ++ edges_of c.top.inside.right) ≡ edges_of c.args.side.now
    = ap (λ seen. seen.0) (c.top.view_is ∙ c.deref_mut-top.ensures.value) ∙ sym (ap edges_of c.in-Some.is) in
    subst (λ (height : ℕ). fewest height ≤ suc (length (edges_of c.args.side.now))) (tall t c)
    (omega (arith, all_counted (edges_of c.top.inside.left) c.top.inside.own.items (edges_of c.top.inside.right) (edges_of c.args.side.now) same, c.top.invariant.counted, c.top.invariant.some, c.top.invariant.filled))

-- the levels of its sides where the edge did not go out on the left, and what was counted
lower_after : (t : ℕ) (c : After-height-else-top-before t) → IsHigher (height_of c.if-at-following-2.top-inside.left) (height_of c.if-at-following-2.top-inside.right) (height_of c.top.inside.left) (height_of c.top.inside.right)
    (max (height_of c.top.inside.left) (height_of c.top.inside.right)) (height_of c.if-at-following-2.spare) c.visit.new.count c.if-at-following-2.count
lower_after t c = elim c.if-at-following-2.branch [
  | then-at-following-2 next ↦
      rw (next.top-inside-is, next.spare-is, next.count-is)
      (higher_right _ _ _ _ _ _ _ _ next.own_from-out.ensures.not_higher next.own_from-out.ensures.at_most_one_lower next.own_from-out.ensures.spare next.own_from-out.ensures.counted (omega arith))
  | else-at-following-2 further ↦ rw (further.top-inside-is, further.spare-is, further.count-is) (higher_right _ _ _ _ _ _ _ _ further.remove_from-out-else-at-following-2.ensures.not_higher
      further.remove_from-out-else-at-following-2.ensures.at_most_one_lower further.remove_from-out-else-at-following-2.ensures.spare further.remove_from-out-else-at-following-2.ensures.counted (omega arith))
]

-- and where it went out on either
lower : (t : ℕ) (c : After-settle t) → IsHigher (height_of c.if-at-before.top-inside.left) (height_of c.if-at-before.top-inside.right) (height_of c.top.inside.left) (height_of c.top.inside.right)
    (max (height_of c.top.inside.left) (height_of c.top.inside.right)) (height_of c.if-at-before.spare) c.visit.new.count c.if-at-before.count
lower t c = elim c.if-at-before.branch [
  | then-at-before+else-height-level w ↦
      rw (w.top-inside-is, w.spare-is, w.count-is)
      (higher_left _ _ _ _ _ _ _ _ w.remove_from-out.ensures.not_higher w.remove_from-out.ensures.at_most_one_lower w.remove_from-out.ensures.spare w.remove_from-out.ensures.counted (omega arith))
  | else-at-before+else-at-following+else-top-before+else-height-level-2 w ↦ elim w.if-at-following-2.branch [
    | then-at-following-2 next ↦
        rw (w.top-inside-is, w.spare-is, w.count-is, next.top-inside-is, next.spare-is, next.count-is)
        (higher_right _ _ _ _ _ _ _ _ next.own_from-out.ensures.not_higher next.own_from-out.ensures.at_most_one_lower next.own_from-out.ensures.spare next.own_from-out.ensures.counted (omega arith))
    | else-at-following-2 further ↦
        rw (w.top-inside-is, w.spare-is, w.count-is, further.top-inside-is, further.spare-is, further.count-is)
        (higher_right _ _ _ _ _ _ _ _ further.remove_from-out-else-at-following-2.ensures.not_higher further.remove_from-out-else-at-following-2.ensures.at_most_one_lower
        further.remove_from-out-else-at-following-2.ensures.spare further.remove_from-out-else-at-following-2.ensures.counted (omega arith))
  ]
]

pub invariant_of-top : goal.invariant_of-top
invariant_of-top t c =
    as_high_as_before _ _ _ _ _ _ _ _ _ _ c.top.invariant c.top.invariant.some
    (omega (arith, c.top.invariant.counted, ap length c.remove_from-out.ensures.edges, length-remove (edges_of c.top.inside.left) c.args.at (omega (arith, c.size-before.ensures, c.if-at-before.true))))
    refl (omega (arith, c.height.ensures.value, c.height-level.ensures.value, c.if-height-level.true)) refl c.height.ensures.filled c.is_filled-2.ensures.filled

pub returns-then-len-gt1-clause-edges : goal.returns-then-len-gt1-clause-edges
returns-then-len-gt1-clause-edges t c =
    let same : edges_of c.top.inside.left ++ (c.top.inside.own.items ++ edges_of c.top.inside.right) ≡ edges_of c.args.side.now
    = ap (λ seen. seen.0) (c.top.view_is ∙ c.deref_mut-top.ensures.value) ∙ sym (ap edges_of c.in-Some.is) in
    taken_between _ _ _ _ _ _ _ same c.size-before.ensures c.if-at-before.false (omega (arith, c.if-at-following.true, c.len.ensures.value)) c.take_out.ensures.items

-- the node's only edge goes out, and nothing is on the right
is_only : (t : ℕ) (c : Then-top-before t) → (length c.top.inside.own.items ≡ 1) × (c.top.inside.right ≡ None)
is_only t c =
    let many : length (edges_of c.top.inside.left) + length c.top.inside.own.items + length (edges_of c.top.inside.right) ≡ length (edges_of c.top.inside.left) + 1
    = omega (arith, c.top.invariant.counted, c.top.invariant.some, c.size-before.ensures, c.if-top-before.true) in
    (omega (arith, many, c.top.invariant.some), no_side c.top.inside.right c.is_filled-2.ensures.some c.is_filled-2.ensures.filled (omega (arith, many, c.top.invariant.some)))

pub invariant_of-top-then-top-before : goal.invariant_of-top-then-top-before
invariant_of-top-then-top-before t c =
    let only = is_only t (goal.at.invariant_of-top-then-top-before t c).Then-top-before in
    subst (λ (size : ℕ). IsNode c.take-left.new.self c.top.inside.own.items c.top.inside.right size 1) only.0 (node_alone _ _ _ c.take-left.ensures.after only.1 c.top.invariant.some)

pub returns-then-top-before-clause-out : goal.returns-then-top-before-clause-out
returns-then-top-before-clause-out t c =
    let same : edges_of c.top.inside.left ++ (c.top.inside.own.items ++ edges_of c.top.inside.right) ≡ edges_of c.args.side.now
    = ap (λ seen. seen.0) (c.top.view_is ∙ c.deref_mut-top.ensures.value) ∙ sym (ap edges_of c.in-Some.is) in
    let first : c.args.at ≡ length (edges_of c.top.inside.left)
    = omega (arith, all_counted (edges_of c.top.inside.left) c.top.inside.own.items (edges_of c.top.inside.right) (edges_of c.args.side.now) same, c.top.invariant.counted, c.size-before.ensures, c.if-at-before.false, c.if-top-before.true, c.requires.within) in
    found_first (edges_of c.top.inside.left) (c.top.inside.own.items ++ edges_of c.top.inside.right) (edges_of c.args.side.now) c.args.at c.lift_edge.result same first
    (c.lift_edge.ensures.out ∙ ap (λ front. slice_index (edges_of front ++ (c.top.inside.own.items ++ edges_of c.top.inside.right)) 0) c.take-left.ensures.after)

pub returns-then-top-before-clause-at_most_one_lower : goal.returns-then-top-before-clause-at_most_one_lower
returns-then-top-before-clause-at_most_one_lower t c =
    let only = is_only t (goal.at.returns-then-top-before-clause-at_most_one_lower t c).Then-top-before in
    let tall : c.top.inside.height ≡ height_of c.args.side.now = ap (λ seen. seen.1) (c.top.view_is ∙ c.deref_mut-top.ensures.value) ∙ sym (ap height_of c.in-Some.is) in
    rw (c.lift_edge.ensures.rest, c.take-left.ensures.value) (omega (arith, tall, c.top.invariant.measured, ap height_of only.1))

pub invariant_of-top-then-height-level-2 : goal.invariant_of-top-then-height-level-2
invariant_of-top-then-height-level-2 t c =
    let left = without_after t (goal.at.invariant_of-top-then-height-level-2 t c).After-height-else-top-before in
    let as_high : c.if-at-following-2.top-inside.height ≡ c.top.inside.height = elim c.if-at-following-2.branch [
      | then-at-following-2 next ↦ rw next.top-inside-is refl
      | else-at-following-2 further ↦ rw further.top-inside-is refl
    ] in
    let left_same : c.if-at-following-2.top-inside.left ≡ c.top.inside.left = elim c.if-at-following-2.branch [
      | then-at-following-2 next ↦ rw next.top-inside-is refl
      | else-at-following-2 further ↦ rw further.top-inside-is refl
    ] in
    as_high_as_before _ _ _ _ _ _ _ _ _ _ c.top.invariant left.some left.counted as_high (ap height_of left_same)
    (omega (arith, c.height-else-top-before.ensures.value, c.height-level-else-top-before.ensures.value, c.if-height-level-2.true)) (rw left_same c.is_filled.ensures.filled) c.height-else-top-before.ensures.filled

pub returns-then-height-level-2-clause-edges : goal.returns-then-height-level-2-clause-edges
returns-then-height-level-2-clause-edges t c = (without_after t (goal.at.returns-then-height-level-2-clause-edges t c).After-height-else-top-before).edges

pub invariant_of-top-in_default-settle : goal.invariant_of-top-in_default-settle
invariant_of-top-in_default-settle t c =
    let left = without t (goal.at.invariant_of-top-in_default-settle t c).After-settle in
    rw (c.in_default-settle.ensures.kept_left, c.in_default-settle.ensures.kept_right)
    (record {
      some = left.some;
      counted = left.counted;
      measured = c.in_default-settle.ensures.measured;
      near = c.in_default-settle.ensures.near;
      filled = omega (arith, c.in_default-settle.ensures.filled, left.counted);
    })

pub returns-in_default-settle-clause-edges : goal.returns-in_default-settle-clause-edges
returns-in_default-settle-clause-edges t c =
    rw (c.in_default-settle.ensures.kept_left, c.in_default-settle.ensures.kept_right)
    (without t (goal.at.returns-in_default-settle-clause-edges t c).After-settle).edges

pub returns-in_default-settle-clause-out : goal.returns-in_default-settle-clause-out
returns-in_default-settle-clause-out t c = (without t (goal.at.returns-in_default-settle-clause-out t c).After-settle).found

pub invariant_of-top-in-Some-settle : goal.invariant_of-top-in-Some-settle
invariant_of-top-in-Some-settle t c =
    rw (c.len-top-inside.ensures.value, c.in-Some-settle.ensures.low)
    (node_alone _ _ _ c.in-Some-settle.ensures.no_left c.in-Some-settle.ensures.no_right (without t (goal.at.invariant_of-top-in-Some-settle t c).After-settle).some)

pub join_over-requires-clause-room : goal.join_over-requires-clause-room
join_over-requires-clause-room t c =
    let left = without t (goal.at.join_over-requires-clause-room t c).After-settle in
    let same : edges_of c.top.inside.left ++ (c.top.inside.own.items ++ edges_of c.top.inside.right) ≡ edges_of c.args.side.now
    = ap (λ seen. seen.0) (c.top.view_is ∙ c.deref_mut-top.ensures.value) ∙ sym (ap edges_of c.in-Some.is) in
    let before : length (edges_of c.args.side.now) ≡ c.top.inside.size = omega (arith, all_counted (edges_of c.top.inside.left) c.top.inside.own.items (edges_of c.top.inside.right) (edges_of c.args.side.now) same, c.top.invariant.counted) in
    let after : length (remove (edges_of c.args.side.now) c.args.at) ≡ length (edges_of c.if-at-before.top-inside.left) + length c.if-at-before.top-inside.own.items + length (edges_of c.if-at-before.top-inside.right)
    = all_counted _ _ _ _ left.edges in
    rw (c.in-Some-settle.ensures.out_left, c.in-Some-settle.ensures.out_right, c.in-Some-settle.ensures.no_left, c.in-Some-settle.ensures.no_right, append-nil)
    (omega (arith, before, after, length-remove (edges_of c.args.side.now) c.args.at c.requires.within, c.top.ranges))

pub returns-in-Some-settle-clause-edges : goal.returns-in-Some-settle-clause-edges
returns-in-Some-settle-clause-edges t c =
    rw (c.join_over.ensures.edges, c.in-Some-settle.ensures.out_left, c.in-Some-settle.ensures.out_right, c.in-Some-settle.ensures.no_left, c.in-Some-settle.ensures.no_right, append-nil)
    (without t (goal.at.returns-in-Some-settle-clause-edges t c).After-settle).edges

pub returns-in-Some-settle-clause-out : goal.returns-in-Some-settle-clause-out
returns-in-Some-settle-clause-out t c = (without t (goal.at.returns-in-Some-settle-clause-out t c).After-settle).found

pub returns-then-height-level-clause-filled : goal.returns-then-height-level-clause-filled
returns-then-height-level-clause-filled t c = filled_before t (goal.at.returns-then-height-level-clause-filled t c).After-len

pub returns-then-len-gt1-clause-filled : goal.returns-then-len-gt1-clause-filled
returns-then-len-gt1-clause-filled t c = filled_before t (goal.at.returns-then-len-gt1-clause-filled t c).After-len

pub returns-then-top-before-clause-filled : goal.returns-then-top-before-clause-filled
returns-then-top-before-clause-filled t c = filled_before t (goal.at.returns-then-top-before-clause-filled t c).After-len

pub returns-then-height-level-2-clause-filled : goal.returns-then-height-level-2-clause-filled
returns-then-height-level-2-clause-filled t c = filled_before t (goal.at.returns-then-height-level-2-clause-filled t c).After-len

pub returns-in_default-settle-clause-filled : goal.returns-in_default-settle-clause-filled
returns-in_default-settle-clause-filled t c = filled_before t (goal.at.returns-in_default-settle-clause-filled t c).After-len

pub returns-in-Some-settle-clause-filled : goal.returns-in-Some-settle-clause-filled
returns-in-Some-settle-clause-filled t c = filled_before t (goal.at.returns-in-Some-settle-clause-filled t c).After-len

pub returns-then-height-level-clause-counted : goal.returns-then-height-level-clause-counted
returns-then-height-level-clause-counted t c =
    visits_below (height_of c.top.inside.left) c.visit.ensures.counted c.remove_from-out.ensures.counted
    (omega (arith, tall t (goal.at.returns-then-height-level-clause-counted t c).After-len, c.top.invariant.measured))

pub returns-then-height-level-2-clause-spare : goal.returns-then-height-level-2-clause-spare
returns-then-height-level-2-clause-spare t c = (lower_after t (goal.at.returns-then-height-level-2-clause-spare t c).After-height-else-top-before).spared

pub returns-then-height-level-2-clause-counted : goal.returns-then-height-level-2-clause-counted
returns-then-height-level-2-clause-counted t c =
    visits_below _ c.visit.ensures.counted (lower_after t (goal.at.returns-then-height-level-2-clause-counted t c).After-height-else-top-before).counted
    (omega (arith, tall t (goal.at.returns-then-height-level-2-clause-counted t c).After-len, c.top.invariant.measured))

pub returns-then-height-level-2-clause-visited : goal.returns-then-height-level-2-clause-visited
returns-then-height-level-2-clause-visited t c =
    let down = lower_after t (goal.at.returns-then-height-level-2-clause-visited t c).After-height-else-top-before in
    omega (arith, c.visit.ensures.visited, down.counted.no_fewer_visits)

pub returns-in_default-settle-clause-spare : goal.returns-in_default-settle-clause-spare
returns-in_default-settle-clause-spare t c = (lower t (goal.at.returns-in_default-settle-clause-spare t c).After-settle).spared

pub returns-in_default-settle-clause-counted : goal.returns-in_default-settle-clause-counted
returns-in_default-settle-clause-counted t c =
    visits_below _ c.visit.ensures.counted (lower t (goal.at.returns-in_default-settle-clause-counted t c).After-settle).counted
    (omega (arith, tall t (goal.at.returns-in_default-settle-clause-counted t c).After-len, c.top.invariant.measured))

pub returns-in_default-settle-clause-visited : goal.returns-in_default-settle-clause-visited
returns-in_default-settle-clause-visited t c =
    let down = lower t (goal.at.returns-in_default-settle-clause-visited t c).After-settle in
    omega (arith, c.visit.ensures.visited, down.counted.no_fewer_visits)

pub returns-in-Some-settle-clause-spare : goal.returns-in-Some-settle-clause-spare
returns-in-Some-settle-clause-spare t c = (lower t (goal.at.returns-in-Some-settle-clause-spare t c).After-settle).spared

pub returns-in-Some-settle-clause-counted : goal.returns-in-Some-settle-clause-counted
returns-in-Some-settle-clause-counted t c =
    visits_below _ c.visit.ensures.counted (lower t (goal.at.returns-in-Some-settle-clause-counted t c).After-settle).counted
    (omega (arith, tall t (goal.at.returns-in-Some-settle-clause-counted t c).After-len, c.top.invariant.measured))

pub returns-in-Some-settle-clause-visited : goal.returns-in-Some-settle-clause-visited
returns-in-Some-settle-clause-visited t c =
    let down = lower t (goal.at.returns-in-Some-settle-clause-visited t c).After-settle in
    omega (arith, c.visit.ensures.visited, down.counted.no_fewer_visits)

pub returns-in_default-settle-clause-not_higher : goal.returns-in_default-settle-clause-not_higher
returns-in_default-settle-clause-not_higher t c =
    let down = lower t (goal.at.returns-in_default-settle-clause-not_higher t c).After-settle in
    omega (arith, down.left, down.right, c.in_default-settle.ensures.measured, tall t (goal.at.returns-in_default-settle-clause-not_higher t c).After-len, c.top.invariant.measured)

pub returns-in_default-settle-clause-at_most_one_lower : goal.returns-in_default-settle-clause-at_most_one_lower
returns-in_default-settle-clause-at_most_one_lower t c =
    let down = lower t (goal.at.returns-in_default-settle-clause-at_most_one_lower t c).After-settle in
    omega (arith, down.left, down.right, down.at_most_one, c.in_default-settle.ensures.measured, tall t (goal.at.returns-in_default-settle-clause-at_most_one_lower t c).After-len, c.top.invariant.measured)

pub returns-in-Some-settle-clause-not_higher : goal.returns-in-Some-settle-clause-not_higher
returns-in-Some-settle-clause-not_higher t c =
    let down = lower t (goal.at.returns-in-Some-settle-clause-not_higher t c).After-settle in
    let height = c.join_over.ensures.height in
    omega (
      arith,
      height.at_most_one_higher,
      ap height_of c.in-Some-settle.ensures.out_left,
      ap height_of c.in-Some-settle.ensures.out_right,
      down.left,
      down.right,
      tall t (goal.at.returns-in-Some-settle-clause-not_higher t c).After-len,
      c.top.invariant.measured,
    )

pub returns-in-Some-settle-clause-at_most_one_lower : goal.returns-in-Some-settle-clause-at_most_one_lower
returns-in-Some-settle-clause-at_most_one_lower t c =
    let down = lower t (goal.at.returns-in-Some-settle-clause-at_most_one_lower t c).After-settle in
    let highest = lower_both c.top.invariant.near down (ap height_of c.in-Some-settle.ensures.out_left) (ap height_of c.in-Some-settle.ensures.out_right) c.join_over.ensures.height in
    omega (arith, highest, tall t (goal.at.returns-in-Some-settle-clause-at_most_one_lower t c).After-len, c.top.invariant.measured)

pub join_over-requires-clause-near : goal.join_over-requires-clause-near
join_over-requires-clause-near t c =
    let down = lower t (goal.at.join_over-requires-clause-near t c).After-settle in
    record {
      first = omega (arith, ap height_of c.in-Some-settle.ensures.out_left, ap height_of c.in-Some-settle.ensures.out_right, c.top.invariant.near, down.left, down.right, down.at_most_one);
      second = omega (arith, ap height_of c.in-Some-settle.ensures.out_left, ap height_of c.in-Some-settle.ensures.out_right, c.top.invariant.near, down.left, down.right, down.at_most_one);
    }

pub returns-then-len-gt1-clause-counted : goal.returns-then-len-gt1-clause-counted
returns-then-len-gt1-clause-counted t c =
    more_levels 1 _ _ _ c.visit.ensures.counted (omega (arith, tall t (goal.at.returns-then-len-gt1-clause-counted t c).After-len, c.top.invariant.measured))

pub returns-then-top-before-clause-counted : goal.returns-then-top-before-clause-counted
returns-then-top-before-clause-counted t c =
    more_levels 1 _ _ _ c.visit.ensures.counted (omega (arith, tall t (goal.at.returns-then-top-before-clause-counted t c).After-len, c.top.invariant.measured))
