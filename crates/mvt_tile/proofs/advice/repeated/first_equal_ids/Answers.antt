use Rattle.std.proofs.Common.{◌≡◌, ◌∙◌, ◌+◌, ◌≤◌, sym, ap, subst, refl, List, [], ◌∷◌, Vec, Global, length, slice_get, Some, None, arith}
use Rattle.std.proofs.lemmas.List.{length-map}
use Rattle.std.proofs.lemmas.Option.{same_Some, slice_get_within}
use Rattle.std.proofs.lemmas.Result.{IfOk-weaker}
use Rattle.mvt_rules.specs.Tile.{FeatureRecord}
use Rattle.mvt_tile.specs.Advice.{IdAt}
use Rattle.mvt_tile.specs.Calls.Equal.{HeldAt, held_value}
use Rattle.mvt_tile.specs.View.{feature_of, layer_of}
use Rattle.mvt_tile.specs.declared.first_places.Held.{Held}
use Rattle.mvt_tile.proofs.RuleFaults.HeldPlaces.{place_of, IdHeldAt, held_is, through_only, mapped_there}
use Rattle.mvt_tile.proofs.RuleFaults.Names.{IsNaming}
use Rattle.mvt_tile.proofs.RuleFaults.Repetitions.{Before, IsNaming-pushed, IsNaming-skipped, through_function}
use Rattle.mvt_tile.proofs.advice.repeated.first_equal_ids.Goals.{in-Some+in_ok-push, in_default}
use Rattle.mvt_tile.proofs.advice.repeated.first_equal_ids.Goals as goal

-- the list of items, of a Vec
abbrev items_of : Vec Held Global → List Held
items_of held = held.items

pub loop-place-preserved : goal.loop-place-preserved
loop-place-preserved c =
    let layer = layer_of c.args.layer.now in
    let place = c.loop-place.place in
    let feature = feature_of c.feature-item.result in
    let there : slice_get layer.features place ≡ Some feature =
    mapped_there feature_of c.args.layer.now.features.items c.deref-feature-items.result.now place c.feature-item.result feature c.deref-feature-items.ensures.value c.loop-place-test.true (ap feature_of c.feature-item.is) in
    elim c.match-feature.branch [
      | in-Some+in_ok-push w ↦
          IsNaming-pushed held_value place_of (IdHeldAt layer) place c.loop-place.held.items c.loop-place.invariant c.match-feature.held.items _ (ap items_of w.held-is ∙ w.in_ok-push.ensures.items) refl
          (w.in-Some.number, (feature, there, w.in-Some.is), refl)
          (λ it held. through_only (λ id. id ∷ []) (IdAt layer) place w.in-Some.number (λ other again.
          let same : feature ≡ again.0 = same_Some _ _ (sym there ∙ again.1) in
          same_Some _ _ (sym w.in-Some.is ∙ ap (λ (record_of : FeatureRecord). record_of.id) same ∙ again.2)) it held)
      | in_default w ↦
          subst (IsNaming held_value place_of (Before (IdHeldAt layer) (place + 1))) (sym (ap items_of w.held-is))
          (IsNaming-skipped held_value place_of (IdHeldAt layer) place c.loop-place.held.items c.loop-place.invariant (λ it held.
          let again = held.1 in
          let same : feature ≡ again.0 = same_Some _ _ (sym there ∙ again.1) in
          let both : None ≡ Some held.0 = sym w.in_default.is ∙ ap (λ (record_of : FeatureRecord). record_of.id) same ∙ again.2 in
          cc))
    ]

pub returns : goal.returns
returns c =
    let layer = layer_of c.args.layer.now in
    let end : length layer.features ≤ c.loop-place.place = omega (arith, length-map c.args.layer.now.features.items feature_of, ap length c.deref-feature-items.ensures.value, c.loop-place-test.false, c.loop-place.auto.place-end) in
    IfOk-weaker c.first_places.result _ _
    (λ firsts noted.
    through_function (λ id. id ∷ []) (IdAt layer) (HeldAt c.loop-place.held.items) firsts.items (λ one other same. cc same)
    (held_is (IdHeldAt layer) (length layer.features) c.loop-place.place c.loop-place.held.items end (λ place value held. slice_get_within layer.features place held.1.0 held.1.1) c.loop-place.invariant) noted)
    c.first_places.ensures
