use Rattle.std.proofs.Common.{◌≡◌, ◌+◌, ◌-◌, ◌++◌, ◌∙◌, length, length-set, slice_set, ap, sym, arith}
use Rattle.arrayvec.proofs.ArrayVecLemmas.{items-with_items}
use Rattle.mvt_status.specs.Calls.Tree.{edges_of}
use Rattle.mvt_status.proofs.Removals.{put_between, put_right}
use Rattle.mvt_status.proofs.node.remove.+replace_in.Goals as goal

pub returns-then-at-following-clause-edges : goal.returns-then-at-following-clause-edges
returns-then-at-following-clause-edges t c =
    let same : edges_of c.top.inside.left ++ (c.top.inside.own.items ++ edges_of c.top.inside.right) ≡ edges_of c.args.side.now
    = ap (λ seen. seen.0) (c.top.view_is ∙ c.deref_mut-top.ensures.value) ∙ sym (ap edges_of c.in-Some.is) in
    let place = c.args.at - c.size-before.result in
    let full : length (slice_set c.deref_mut.result.now place c.args.edge) ≡ length c.top.inside.own.items = length-set c.deref_mut.result.now place c.args.edge ∙ ap length c.deref_mut.ensures.value in
    put_between (edges_of c.top.inside.left) c.top.inside.own.items (edges_of c.top.inside.right) _ (edges_of c.args.side.now) c.args.at c.size-before.result c.args.edge same
    c.size-before.ensures c.if-at-before.false (omega (arith, c.if-at-following.true, c.len.ensures.value))
    (items-with_items c.top.inside.own (slice_set c.deref_mut.result.now place c.args.edge) full ∙ ap (λ list. slice_set list place c.args.edge) c.deref_mut.ensures.value)

pub returns-else-at-following-clause-edges : goal.returns-else-at-following-clause-edges
returns-else-at-following-clause-edges t c =
    let same : edges_of c.top.inside.left ++ (c.top.inside.own.items ++ edges_of c.top.inside.right) ≡ edges_of c.args.side.now
    = ap (λ seen. seen.0) (c.top.view_is ∙ c.deref_mut-top.ensures.value) ∙ sym (ap edges_of c.in-Some.is) in
    let many : c.size-before.result + c.len.result ≡ length (edges_of c.top.inside.left) + length c.top.inside.own.items = omega (arith, c.size-before.ensures, c.len.ensures.value) in
    put_right _ _ _ _ _ _ _ _ same many c.if-at-following.false c.requires c.replace_in-else-at-following.ensures.edges
