use Rattle.std.proofs.Common.{◌≡◌, ◌∙◌, sym, ap, List, [], ◌∷◌, ◌++◌, Vec, Global, get_or, Some, None, arith}
use Rattle.std.proofs.lemmas.List.{append_assoc, get_or_default}
use Rattle.mvt_tile.specs.Calls.Equal.{equal_advice}
use Rattle.mvt_tile.specs.declared.advice.Advice.{Advice}
use Rattle.mvt_tile.proofs.RuleFaults.Advised.{pairs_kept, pair_pushed, equal_more, all_pairs}
use Rattle.mvt_tile.proofs.advice.push_equal.Goals.{in-Some+in_ok-push, in_default}
use Rattle.mvt_tile.proofs.advice.push_equal.Goals as goal

-- the list of advice, of a Vec
abbrev items_of : Vec Advice Global → List Advice
items_of advice = advice.items

pub loop-second-preserved : goal.loop-second-preserved
loop-second-preserved c =
    let firsts = c.args.firsts.now in
    let second = c.loop-second.second in
    let pairs = c.loop-second.invariant.0 in
    let so_far = c.loop-second.invariant.1 in
    elim c.match-place.branch [
      | in-Some+in_ok-push w ↦
          let there : get_or firsts second None ≡ Some w.in-Some.first = get_or_default firsts second None _ c.loop-second-test.true ∙ w.in-Some.is in
          let more : equal_advice c.args.equal c.args.layer ((w.in-Some.first, second) ∷ []) ≡ w.advice.result ∷ [] = w.advice.ensures in (
            pairs ++ (w.in-Some.first, second) ∷ [],
            pair_pushed firsts second pairs so_far w.in-Some.first there,
            ap items_of w.advice-is ∙ w.in_ok-push.ensures.items
                ∙ ap (λ (list : List Advice). list ++ w.advice.result ∷ []) c.loop-second.invariant.2
                ∙ append_assoc c.args.advice.now.items (equal_advice c.args.equal c.args.layer pairs) (w.advice.result ∷ [])
                ∙ ap (λ (list : List Advice). c.args.advice.now.items ++ (equal_advice c.args.equal c.args.layer pairs ++ list)) (sym more)
                ∙ ap (λ (list : List Advice). c.args.advice.now.items ++ list) (sym (equal_more c.args.equal c.args.layer pairs ((w.in-Some.first, second) ∷ []))),
          )
      | in_default w ↦
          let none : get_or firsts second None ≡ None = get_or_default firsts second None _ c.loop-second-test.true ∙ w.in_default.is in
          (pairs, pairs_kept firsts second pairs so_far none, ap items_of w.advice-is ∙ c.loop-second.invariant.2)
    ]

pub returns : goal.returns
returns c = (
  c.loop-second.invariant.0,
  all_pairs c.args.firsts.now c.loop-second.second c.loop-second.invariant.0 (omega (arith, c.loop-second-test.false)) c.loop-second.invariant.1,
  c.loop-second.invariant.2,
)
