use Rattle.std.proofs.Common.{ℕ, List, ◌++◌, ◌∙◌, ap, sym}
use Rattle.mvt_status.specs.Calls.Tree.{edges_of}
use Rattle.mvt_status.proofs.ListEdits.{turned}
use Rattle.mvt_status.proofs.node.rotate_left.Goals as goal

pub returns-then-height-clause-edges : goal.returns-then-height-clause-edges
returns-then-height-clause-edges c =
    let left = edges_of c.args.left in
    let middle = c.args.middle.value.0 in
    let inner = edges_of c.open-inner.result.0 in
    let rest = c.open-inner.result.1.value.0 ++ edges_of c.open-inner.result.2 in
    c.close-then-height.ensures.edges ∙ ap (λ (its : List ℕ). its ++ rest) c.close.ensures.edges ∙ sym (turned left middle inner rest)
    ∙ ap (λ (its : List ℕ). left ++ (middle ++ its)) (sym (ap edges_of c.in-Some.is ∙ c.open-inner.ensures.edges))

pub returns-clause-edges : goal.returns-clause-edges
returns-clause-edges c =
    let left = edges_of c.args.left in
    let middle = c.args.middle.value.0 in
    let far = edges_of c.open-far.result.0 in
    let raised = c.open-far.result.1.value.0 in
    let near = edges_of c.open-far.result.2 in
    let rest = c.open-inner.result.1.value.0 ++ edges_of c.open-inner.result.2 in
    c.close-4.ensures.edges ∙ ap (λ (its : List ℕ). its ++ (raised ++ c.close-3.result.value.0)) c.close-2.ensures.edges
    ∙ ap (λ (its : List ℕ). (left ++ (middle ++ far)) ++ (raised ++ its)) c.close-3.ensures.edges
    ∙ sym (turned left middle far (raised ++ (near ++ rest))) ∙ ap (λ (its : List ℕ). left ++ (middle ++ its)) (turned far raised near rest)
    ∙ ap (λ (its : List ℕ). left ++ (middle ++ (its ++ rest))) (sym (ap edges_of c.in-Some-inner.is ∙ c.open-far.ensures.edges))
    ∙ ap (λ (its : List ℕ). left ++ (middle ++ its)) (sym (ap edges_of c.in-Some.is ∙ c.open-inner.ensures.edges))
