use Rattle.std.proofs.Common.{◌≡◌, ◌∙◌, ◌↔◌, ◌+◌, sym, ap, subst, refl, ℕ, List, Vec, Global, length, get_or, Option, Some, None, arith}
use Rattle.std.specs.Option.{option_copied, option_flatten}
use Rattle.std.proofs.lemmas.Option.{slice_get-get_or}
use Rattle.mvt_fault.specs.declared.fault.Fault.{Fault}
use Rattle.mvt_tile.specs.Advice.{IsRepetition}
use Rattle.mvt_tile.specs.Calls.Gathered.{AreGatheredLayers, NameAt, FindsOfLayer}
use Rattle.mvt_tile.proofs.RuleFaults.LayerFaults.{no_summary, layers_none, layers_kept, layers_pushed, flatten_is}
use Rattle.mvt_tile.proofs.rules.layer_faults.faults_of_layers.Goals.{in-Some+in_ok-push, in_default}
use Rattle.mvt_tile.proofs.rules.layer_faults.faults_of_layers.Goals as goal

-- the list of faults, of a Vec
abbrev items_of : Vec Fault Global → List Fault
items_of faults = faults.items

pub loop-layer-init : goal.loop-layer-init
loop-layer-init c = λ tile are. subst (AreGatheredLayers tile 0) (sym c.new-faults.ensures.items) (layers_none tile)

pub loop-layer-preserved : goal.loop-layer-preserved
loop-layer-preserved c = λ tile are.
    let layers = c.args.layers.now in
    let layer = c.loop-layer.layer in
    let faults = c.loop-layer.faults.items in
    let firsts = c.in_ok-firsts.firsts.items in
    let so_far = c.loop-layer.invariant tile are in
    let read : c.flatten-first.result ≡ get_or firsts layer None =
    c.flatten-first.ensures ∙ ap option_flatten c.copied.ensures ∙ flatten_is (option_copied c.get.result) ∙ c.get.ensures.lookup.4 (omega arith) None ∙ ap (λ (list : List (Option ℕ)). get_or list layer None) c.deref.ensures.value in
    let first : (other : ℕ) → (c.flatten-first.result ≡ Some other) ↔ IsRepetition (NameAt layers) other layer = λ other.
    let noted = c.in_ok-firsts.ensures other layer in
    (λ is. noted.0 (sym read ∙ is), λ repetition. read ∙ noted.1 repetition) in
    let finds : FindsOfLayer tile layer c.fault_of_layer.result = c.fault_of_layer.ensures layers tile are (get_or layers layer no_summary) (slice_get-get_or layers layer no_summary c.loop-layer-test.true) refl first in
    elim c.match-fault_of_layer.branch [
      | in-Some+in_ok-push w ↦ subst (AreGatheredLayers tile (layer + 1)) (sym (ap items_of w.faults-is ∙ w.in_ok-push.ensures.items)) (layers_pushed tile layer faults so_far w.in-Some.fault (rw w.in-Some.is at finds))
      | in_default w ↦ subst (AreGatheredLayers tile (layer + 1)) (sym (ap items_of w.faults-is)) (layers_kept tile layer faults so_far (rw w.in_default.is at finds))
    ]

pub returns : goal.returns
returns c = λ tile are.
    let all : c.loop-layer.layer ≡ length tile.layers = omega (arith, c.loop-layer-test.false, c.loop-layer.auto.layer-end, are.count) in
    subst (λ (n : ℕ). AreGatheredLayers tile n c.loop-layer.faults.items) all (c.loop-layer.invariant tile are)
