use Rattle.std.proofs.Common.{◌≡◌, ◌∙◌, ◌≤◌, sym, refl, ◌∷◌, length, get_or, slice_get, Some, map, arith}
use Rattle.std.proofs.lemmas.List.{length-map}
use Rattle.std.proofs.lemmas.Option.{same_Some, slice_get_within}
use Rattle.std.proofs.lemmas.Result.{IfOk-weaker}
use Rattle.mvt_tile.specs.Calls.Equal.{HeldAt, held_value}
use Rattle.mvt_tile.specs.Calls.Gathered.{NameAt}
use Rattle.mvt_tile.specs.Calls.Names.{name_key}
use Rattle.mvt_tile.specs.declared.rules.summary.LayerSummary.{LayerSummary}
use Rattle.mvt_tile.proofs.RuleFaults.HeldPlaces.{place_of, NameHeldAt, held_is, through_only, mapped_there}
use Rattle.mvt_tile.proofs.RuleFaults.LayerFaults.{no_summary}
use Rattle.mvt_tile.proofs.RuleFaults.Repetitions.{IsNaming-pushed, through_function}
use Rattle.mvt_tile.proofs.rules.layer_faults.first_equal_names.Goals as goal

pub loop-place-preserved : goal.loop-place-preserved
loop-place-preserved c =
    let layers = c.args.layers.now in
    let place = c.loop-place.place in
    let text = (get_or layers place no_summary).name.now in
    let there : slice_get (map (λ (summary : LayerSummary). summary.name.now) layers) place ≡ Some text = mapped_there (λ (summary : LayerSummary). summary.name.now) layers layers place no_summary text refl c.loop-place-test.true refl in
    let value : c.name_key-number.result ∷ text ≡ name_key text ∷ text = λ i. c.name_key-number.ensures i ∷ text in
    IsNaming-pushed held_value place_of (NameHeldAt layers) place c.loop-place.held.items c.loop-place.invariant c.push.new.self.items _ c.in_ok-push.ensures.items refl (text, there, value)
    (λ it held. value ∙ through_only (λ name. name_key name ∷ name) (NameAt layers) place text (λ other again. same_Some _ _ (sym there ∙ again)) it held)

pub returns : goal.returns
returns c =
    let layers = c.args.layers.now in
    let end : length layers ≤ c.loop-place.place = omega (arith, c.loop-place-test.false, c.loop-place.auto.place-end) in
    let size = length-map layers (λ summary. summary.name.now) in
    IfOk-weaker c.first_places.result _ _
    (λ firsts noted.
    through_function (λ name. name_key name ∷ name) (NameAt layers) (HeldAt c.loop-place.held.items) firsts.items (λ one other same. cc same)
    (held_is (NameHeldAt layers) (length layers) c.loop-place.place c.loop-place.held.items end
    (λ place value held. let inside = slice_get_within (map (λ summary. summary.name.now) layers) place held.0 held.1 in omega (arith, inside, size)) c.loop-place.invariant) noted)
    c.first_places.ensures
