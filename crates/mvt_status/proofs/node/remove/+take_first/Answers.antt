use Rattle.std.proofs.Common.{◌≡◌, ◌+◌, ◌∙◌, length, length-append, refl, ap, sym, arith}
use Rattle.mvt_status.specs.Calls.Tree.{edges_of, height_of}
use Rattle.mvt_status.proofs.Heights.{as_high_as_before, edge_of_levels, level_of_none, node_alone, visits_below}
use Rattle.mvt_status.proofs.Levels.{higher_left}
use Rattle.mvt_status.proofs.Removals.{lower_both}
use Rattle.mvt_status.proofs.node.remove.+take_first.Goals as goal

pub invariant_of-top : goal.invariant_of-top
invariant_of-top t c =
    rw c.len-top-inside.ensures.value
    (node_alone _ _ _ (level_of_none c.top.inside.left c.height-level.ensures.some (omega (arith, c.height-level.ensures.value, c.if-level-eq0.true))) c.take-right.ensures.after c.top.invariant.some)

pub take_first-first-requires : goal.take_first-first-requires
take_first-first-requires t c =
    let tall : c.top.inside.height ≡ height_of c.args.side.now = ap (λ seen. seen.1) (c.top.view_is ∙ c.deref_mut-top.ensures.value) ∙ sym (ap height_of c.in-Some.is) in
    (omega (arith, tall, c.top.invariant.measured), edge_of_levels _ _ (omega (arith, c.height-level.ensures.value, c.if-level-eq0.false)) c.height-level.ensures.filled)

pub invariant_of-top-then-height-level : goal.invariant_of-top-then-height-level
invariant_of-top-then-height-level t c =
    let taken : length (edges_of c.top.inside.left) ≡ length c.take_first-first.result.value.0 + length (edges_of c.take_first-first.new.side)
    = ap length c.take_first-first.ensures.edges ∙ length-append c.take_first-first.result.value.0 (edges_of c.take_first-first.new.side) in
    as_high_as_before _ _ _ _ _ _ _ _ _ _ c.top.invariant c.top.invariant.some
    (omega (arith, c.top.invariant.counted, c.size_of.ensures ∙ ap (λ seen. length seen.0) c.deref.ensures, taken))
    refl (omega (arith, c.height.ensures.value, c.height-level.ensures.value, c.if-height-level.true)) refl c.height.ensures.filled c.is_filled.ensures.filled

pub invariant_of-top-in-Some-settle : goal.invariant_of-top-in-Some-settle
invariant_of-top-in-Some-settle t c =
    rw (c.len-top-inside-in-Some-settle.ensures.value, c.in-Some-settle.ensures.low)
    (node_alone _ _ _ c.in-Some-settle.ensures.no_left c.in-Some-settle.ensures.no_right c.top.invariant.some)

pub returns-then-height-level-clause-counted : goal.returns-then-height-level-clause-counted
returns-then-height-level-clause-counted t c =
    let tall : c.top.inside.height ≡ height_of c.args.side.now = ap (λ seen. seen.1) (c.top.view_is ∙ c.deref_mut-top.ensures.value) ∙ sym (ap height_of c.in-Some.is) in
    visits_below (height_of c.top.inside.left) c.visit.ensures.counted c.take_first-first.ensures.counted (omega (arith, tall, c.top.invariant.measured))

pub returns-in_default-settle-clause-counted : goal.returns-in_default-settle-clause-counted
returns-in_default-settle-clause-counted t c =
    let tall : c.top.inside.height ≡ height_of c.args.side.now = ap (λ seen. seen.1) (c.top.view_is ∙ c.deref_mut-top.ensures.value) ∙ sym (ap height_of c.in-Some.is) in
    visits_below (height_of c.top.inside.left) c.visit.ensures.counted c.take_first-first.ensures.counted (omega (arith, tall, c.top.invariant.measured))

pub returns-in-Some-settle-clause-counted : goal.returns-in-Some-settle-clause-counted
returns-in-Some-settle-clause-counted t c =
    let tall : c.top.inside.height ≡ height_of c.args.side.now = ap (λ seen. seen.1) (c.top.view_is ∙ c.deref_mut-top.ensures.value) ∙ sym (ap height_of c.in-Some.is) in
    visits_below (height_of c.top.inside.left) c.visit.ensures.counted c.take_first-first.ensures.counted (omega (arith, tall, c.top.invariant.measured))

pub returns-in_default-settle-clause-not_higher : goal.returns-in_default-settle-clause-not_higher
returns-in_default-settle-clause-not_higher t c =
    let tall : c.top.inside.height ≡ height_of c.args.side.now = ap (λ seen. seen.1) (c.top.view_is ∙ c.deref_mut-top.ensures.value) ∙ sym (ap height_of c.in-Some.is) in
    let down = higher_left (height_of c.take_first-first.new.side) (height_of c.top.inside.left) (height_of c.top.inside.right) (height_of c.top.inside.left) (height_of c.top.inside.left) 0 _ _ c.take_first-first.ensures.not_higher c.take_first-first.ensures.at_most_one_lower (omega arith) c.take_first-first.ensures.counted (omega arith) in
    omega (arith, down.left, down.right, down.at_most_one, c.in_default-settle.ensures.measured, tall, c.top.invariant.measured)

pub returns-in_default-settle-clause-at_most_one_lower : goal.returns-in_default-settle-clause-at_most_one_lower
returns-in_default-settle-clause-at_most_one_lower t c =
    let tall : c.top.inside.height ≡ height_of c.args.side.now = ap (λ seen. seen.1) (c.top.view_is ∙ c.deref_mut-top.ensures.value) ∙ sym (ap height_of c.in-Some.is) in
    let down = higher_left (height_of c.take_first-first.new.side) (height_of c.top.inside.left) (height_of c.top.inside.right) (height_of c.top.inside.left) (height_of c.top.inside.left) 0 _ _ c.take_first-first.ensures.not_higher c.take_first-first.ensures.at_most_one_lower (omega arith) c.take_first-first.ensures.counted (omega arith) in
    omega (arith, down.left, down.right, down.at_most_one, c.in_default-settle.ensures.measured, tall, c.top.invariant.measured)

pub returns-in-Some-settle-clause-not_higher : goal.returns-in-Some-settle-clause-not_higher
returns-in-Some-settle-clause-not_higher t c =
    let tall : c.top.inside.height ≡ height_of c.args.side.now = ap (λ seen. seen.1) (c.top.view_is ∙ c.deref_mut-top.ensures.value) ∙ sym (ap height_of c.in-Some.is) in
    let down = higher_left (height_of c.take_first-first.new.side) (height_of c.top.inside.left) (height_of c.top.inside.right) (height_of c.top.inside.left) (height_of c.top.inside.left) 0 _ _ c.take_first-first.ensures.not_higher c.take_first-first.ensures.at_most_one_lower (omega arith) c.take_first-first.ensures.counted (omega arith) in
    let height = c.join_over.ensures.height in
    omega (arith, height.at_most_one_higher, ap height_of c.in-Some-settle.ensures.out_left, ap height_of c.in-Some-settle.ensures.out_right, down.left, down.right, down.at_most_one, tall, c.top.invariant.measured)

pub returns-in-Some-settle-clause-at_most_one_lower : goal.returns-in-Some-settle-clause-at_most_one_lower
returns-in-Some-settle-clause-at_most_one_lower t c =
    let tall : c.top.inside.height ≡ height_of c.args.side.now = ap (λ seen. seen.1) (c.top.view_is ∙ c.deref_mut-top.ensures.value) ∙ sym (ap height_of c.in-Some.is) in
    let down = higher_left (height_of c.take_first-first.new.side) (height_of c.top.inside.left) (height_of c.top.inside.right) (height_of c.top.inside.left) (height_of c.top.inside.left) 0 _ _ c.take_first-first.ensures.not_higher c.take_first-first.ensures.at_most_one_lower (omega arith) c.take_first-first.ensures.counted (omega arith) in
    omega (arith, lower_both c.top.invariant.near down (ap height_of c.in-Some-settle.ensures.out_left) (ap height_of c.in-Some-settle.ensures.out_right) c.join_over.ensures.height, tall, c.top.invariant.measured)

pub join_over-requires-clause-near : goal.join_over-requires-clause-near
join_over-requires-clause-near t c =
    let down = higher_left (height_of c.take_first-first.new.side) (height_of c.top.inside.left) (height_of c.top.inside.right) (height_of c.top.inside.left) (height_of c.top.inside.left) 0 _ _ c.take_first-first.ensures.not_higher c.take_first-first.ensures.at_most_one_lower (omega arith) c.take_first-first.ensures.counted (omega arith) in
    record {
      first = omega (arith, ap height_of c.in-Some-settle.ensures.out_left, ap height_of c.in-Some-settle.ensures.out_right, c.top.invariant.near, down.left, down.right, down.at_most_one);
      second = omega (arith, ap height_of c.in-Some-settle.ensures.out_left, ap height_of c.in-Some-settle.ensures.out_right, c.top.invariant.near, down.left, down.right, down.at_most_one);
    }
