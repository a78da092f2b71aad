use Rattle.std.proofs.Common.{◌≡◌, ◌++◌, ◌∙◌, ◌-◌, List, ℕ, ap, length, drop, take, subst, sym, arith}
use Rattle.std.proofs.lemmas.List.{length-take-le, take-append-drop, take_rest}
use Rattle.mvt_status.proofs.Insertions.{put_in_after, put_in_front}
use Rattle.mvt_status.proofs.node.insert.halved.Goals as goal

pub returns-then-at-le-HALF-clause-edges : goal.returns-then-at-le-HALF-clause-edges
returns-then-at-le-HALF-clause-edges c =
    let lower : length (take 16 c.args.own.now.items) ≡ 16 = length-take-le 16 c.args.own.now.items (omega arith) in
    let upper : c.refilled-upper.result.value.0 ≡ drop 16 c.args.own.now.items = ap (λ seen. seen.0) c.refilled-upper.ensures ∙ take_rest c.deref.result.now 16 ∙ ap (drop 16) c.deref.ensures.0 in
    let put : c.put_in.new.own.items ≡ take c.args.at (take 16 c.args.own.now.items) ++ (c.args.new.now ++ drop c.args.at (take 16 c.args.own.now.items))
    = subst (λ (kept : List ℕ). c.put_in.new.own.items ≡ take c.args.at kept ++ (c.args.new.now ++ drop c.args.at kept)) c.truncate.ensures.items c.put_in.ensures in
    ap (λ (rest : List ℕ). c.put_in.new.own.items ++ rest) upper
    ∙ put_in_front (take 16 c.args.own.now.items) (drop 16 c.args.own.now.items) c.put_in.new.own.items c.args.own.now.items c.args.new.now c.args.at (take-append-drop 16 c.args.own.now.items) (omega arith) put

pub returns-else-at-le-HALF-clause-edges : goal.returns-else-at-le-HALF-clause-edges
returns-else-at-le-HALF-clause-edges c =
    let lower : length (take 16 c.args.own.now.items) ≡ 16 = length-take-le 16 c.args.own.now.items (omega arith) in
    let upper : c.refilled-upper.result.value.0 ≡ drop 16 c.args.own.now.items = ap (λ seen. seen.0) c.refilled-upper.ensures ∙ take_rest c.deref.result.now 16 ∙ ap (drop 16) c.deref.ensures.0 in
    let put : c.put_in_alone.result.value.0 ≡ take (c.args.at - 16) (drop 16 c.args.own.now.items) ++ (c.args.new.now ++ drop (c.args.at - 16) (drop 16 c.args.own.now.items))
    = subst (λ (moved : List ℕ). c.put_in_alone.result.value.0 ≡ take (c.args.at - 16) moved ++ (c.args.new.now ++ drop (c.args.at - 16) moved)) upper (ap (λ seen. seen.0) c.put_in_alone.ensures) in
    ap (λ (kept : List ℕ). kept ++ c.put_in_alone.result.value.0) c.truncate.ensures.items
    ∙ put_in_after (take 16 c.args.own.now.items) (drop 16 c.args.own.now.items) c.put_in_alone.result.value.0 c.args.own.now.items c.args.new.now c.args.at 16 (take-append-drop 16 c.args.own.now.items) (sym lower) (omega arith) put
