use Rattle.std.proofs.Common.{◌≡◌, ◌∙◌, sym, ap, subst, List, ◌++◌, Vec, Global, length}
use Rattle.std.proofs.lemmas.List.{append-nil, length-map}
use Rattle.std.proofs.lemmas.Result.{on_ok_weaker}
use Rattle.mvt_tile.specs.Advice.{KeyAt, IdAt, no_feature}
use Rattle.mvt_tile.specs.Calls.Equal.{AreFirstPlaces}
use Rattle.mvt_tile.specs.View.{feature_of, layer_of}
use Rattle.mvt_tile.specs.declared.advice.Advice.{Advice}
use Rattle.mvt_tile.proofs.RuleFaults.Advised.{layer_advice, of_none, of_some}
use Rattle.mvt_tile.proofs.advice.advise_layer.Goals.{then-is_empty+in_ok-push, else-is_empty}
use Rattle.mvt_tile.proofs.advice.advise_layer.Goals as goal

-- the list of advice, of a Vec
abbrev items_of : Vec Advice Global → List Advice
items_of advice = advice.items

pub returns : goal.returns
returns c =
    let layer = layer_of c.args.layer.now in
    let number = c.args.number in
    let features = c.args.layer.now.features in
    let old = c.args.advice.now.items in
    let size : features.len ≡ length layer.features = features.ok.0 ∙ sym (length-map features.items feature_of) in
    let first : c.if-is_empty.advice.items ≡ old ++ no_feature number layer.features = elim c.if-is_empty.branch [
      | then-is_empty+in_ok-push w ↦
          ap items_of w.advice-is ∙ w.in_ok-push.ensures.items
          ∙ ap (λ (list : List Advice). old ++ list) (sym (of_none number layer.features features.len size (sym c.is_empty.ensures ∙ w.if-is_empty.true)))
      | else-is_empty w ↦
          ap items_of w.advice-is ∙ sym (append-nil old)
          ∙ ap (λ (list : List Advice). old ++ list) (sym (of_some number layer.features features.len size (sym c.is_empty.ensures ∙ w.if-is_empty.false)))
    ] in
    let keys = subst (AreFirstPlaces (KeyAt layer)) (sym c.deref.ensures.value) c.in_ok-first_equal_keys.ensures in
    let ids = subst (AreFirstPlaces (IdAt layer)) (sym c.deref-2.ensures.value) c.in_ok-first_equal_ids.ensures in
    on_ok_weaker c.push_equal-2.result
    (λ third. layer_advice number layer c.deref.result.now c.deref-2.result.now keys ids old c.if-is_empty.advice.items c.push_equal.new.advice.items c.push_equal-2.new.advice.items first c.in_ok-push_equal.ensures third)
    c.push_equal-2.ensures
