use Rattle.std.proofs.Common.{◌≡◌, ◌∙◌, ◌≤◌, sym, ap, refl, ◌∷◌, length, slice_get, Some, arith}
use Rattle.std.proofs.lemmas.List.{length-map}
use Rattle.std.proofs.lemmas.Option.{same_Some, slice_get_within}
use Rattle.std.proofs.lemmas.Result.{IfOk-weaker}
use Rattle.mvt_tile.specs.Advice.{KeyAt}
use Rattle.mvt_tile.specs.Calls.Equal.{HeldAt, held_value}
use Rattle.mvt_tile.specs.Calls.Names.{name_key}
use Rattle.mvt_tile.specs.View.{layer_of}
use Rattle.mvt_tile.proofs.RuleFaults.HeldPlaces.{place_of, KeyHeldAt, held_is, through_only, mapped_there}
use Rattle.mvt_tile.proofs.RuleFaults.Repetitions.{IsNaming-pushed, through_function}
use Rattle.mvt_tile.proofs.advice.repeated.first_equal_keys.Goals as goal

pub loop-place-preserved : goal.loop-place-preserved
loop-place-preserved c =
    let layer = layer_of c.args.layer.now in
    let place = c.loop-place.place in
    let text = c.as_bytes-text.result.now in
    let there : slice_get layer.keys place ≡ Some text =
    mapped_there (λ key. key.now) c.args.layer.now.keys.items c.deref-key-items.result.now place _ text c.deref-key-items.ensures.value c.loop-place-test.true c.as_bytes-text.ensures.value in
    let value : c.name_key-number.result ∷ text ≡ name_key text ∷ text = λ i. c.name_key-number.ensures i ∷ text in
    IsNaming-pushed held_value place_of (KeyHeldAt layer) place c.loop-place.held.items c.loop-place.invariant c.push.new.self.items _ c.in_ok-push.ensures.items refl (text, there, value)
    (λ it held. value ∙ through_only (λ key. name_key key ∷ key) (KeyAt layer) place text (λ other again. same_Some _ _ (sym there ∙ again)) it held)

pub returns : goal.returns
returns c =
    let layer = layer_of c.args.layer.now in
    let end : length layer.keys ≤ c.loop-place.place = omega (arith, length-map c.args.layer.now.keys.items (λ key. key.now), ap length c.deref-key-items.ensures.value, c.loop-place-test.false, c.loop-place.auto.place-end) in
    IfOk-weaker c.first_places.result _ _
    (λ firsts noted.
    through_function (λ key. name_key key ∷ key) (KeyAt layer) (HeldAt c.loop-place.held.items) firsts.items (λ one other same. cc same)
    (held_is (KeyHeldAt layer) (length layer.keys) c.loop-place.place c.loop-place.held.items end (λ place value held. slice_get_within layer.keys place held.0 held.1) c.loop-place.invariant) noted)
    c.first_places.ensures
