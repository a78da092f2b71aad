use Rattle.std.proofs.Common.{ℕ, List, ◌++◌, ◌∙◌, ap, sym}
use Rattle.mvt_status.specs.Calls.Tree.{edges_of}
use Rattle.mvt_status.proofs.ListEdits.{turned}
use Rattle.mvt_status.proofs.node.rotate_right.Goals as goal

pub returns-then-height-clause-edges : goal.returns-then-height-clause-edges
returns-then-height-clause-edges c =
    let outer = edges_of c.open-outer.result.0 in
    let top = c.open-outer.result.1.value.0 in
    let inner = edges_of c.open-outer.result.2 in
    let rest = c.args.middle.value.0 ++ edges_of c.args.right in
    c.close-then-height.ensures.edges ∙ ap (λ (its : List ℕ). outer ++ (top ++ its)) c.close.ensures.edges ∙ turned outer top inner rest
    ∙ ap (λ (its : List ℕ). its ++ rest) (sym (ap edges_of c.in-Some.is ∙ c.open-outer.ensures.edges))

pub returns-clause-edges : goal.returns-clause-edges
returns-clause-edges c =
    let outer = edges_of c.open-outer.result.0 in
    let top = c.open-outer.result.1.value.0 in
    let inner = edges_of c.open-outer.result.2 in
    let near = edges_of c.open-near.result.0 in
    let raised = c.open-near.result.1.value.0 in
    let far = edges_of c.open-near.result.2 in
    let rest = c.args.middle.value.0 ++ edges_of c.args.right in
    c.close-4.ensures.edges ∙ ap (λ (its : List ℕ). its ++ (raised ++ c.close-3.result.value.0)) c.close-2.ensures.edges
    ∙ ap (λ (its : List ℕ). (outer ++ (top ++ near)) ++ (raised ++ its)) c.close-3.ensures.edges
    ∙ sym (turned outer top near (raised ++ (far ++ rest))) ∙ ap (λ (its : List ℕ). outer ++ (top ++ its)) (turned near raised far rest)
    ∙ ap (λ (its : List ℕ). outer ++ (top ++ (its ++ rest))) (sym (ap edges_of c.in-Some-inner.is ∙ c.open-near.ensures.edges))
    ∙ turned outer top inner rest ∙ ap (λ (its : List ℕ). its ++ rest) (sym (ap edges_of c.in-Some.is ∙ c.open-outer.ensures.edges))
