use Rattle.std.proofs.Common.{◌≡◌, ◌∙◌, ◌<◌, ℕ, List, length, get_or, Option, Some, slice_get, sym, subst, arith}
use Rattle.std.proofs.lemmas.List.{length-map}
use Rattle.std.proofs.lemmas.Option.{IfSome_then}
use Rattle.mvt_fault.specs.Place.{IsLeast}
use Rattle.mvt_fault.specs.declared.tag.TagCode.{TagCode}
use Rattle.mvt_rules.specs.Parts.TrueFaults.{IsFaultOfTags}
use Rattle.mvt_rules.specs.Tile.{FeatureRecord}
use Rattle.mvt_wire.proofs.NothingFound.{IfNone_then}
use Rattle.mvt_tile.specs.Calls.RuleFaults.{FindsFirstTagFault}
use Rattle.mvt_tile.specs.View.{layer_of, value_of}
use Rattle.mvt_tile.specs.declared.record.Feature.{Feature}
use Rattle.mvt_tile.specs.declared.record.Layer.{Layer}
use Rattle.mvt_tile.proofs.RuleFaults.TagFaults.{IsLeast-first, feature_tags, no_tag_broken}
use Rattle.mvt_tile.proofs.rules.tags.check_tags.Goals as goal
use Rattle.mvt_tile.proofs.rules.tags.check_tags.Goals.{After-drop-marks-2}

-- what was found of the list, as said of the feature's tags in its layer
found_in : (found : Option (TagCode × ℕ)) (keys values : ℕ) (listed : List ℕ) (layer : Layer) (feature : ℕ) (shown : Feature) (it : FeatureRecord) → keys ≡ length layer.keys.items → values ≡ length layer.values.items → listed ≡ shown.tags.items
    → feature < length layer.features.items → shown ≡ get_or layer.features.items feature shown → slice_get (layer_of layer).features feature ≡ Some it → FindsFirstTagFault keys values listed found
    → FindsFirstTagFault (length (layer_of layer).keys) (length (layer_of layer).values) it.tags found
found_in found keys values listed layer feature shown it same_keys same_values same_tags within here there finds =
    let counted : keys ≡ length (layer_of layer).keys = omega (arith, length-map layer.keys.items (λ key. key.now)) in
    let counted_values : values ≡ length (layer_of layer).values = omega (arith, length-map layer.values.items value_of) in
    subst (λ (n : ℕ). FindsFirstTagFault n (length (layer_of layer).values) it.tags found) counted
    (subst (λ (n : ℕ). FindsFirstTagFault keys n it.tags found) counted_values
    (subst (λ (all : List ℕ). FindsFirstTagFault keys values all found) (same_tags ∙ feature_tags layer.features.items feature shown it within here there) finds))

-- what was found of the feature's tags
of_feature : (c : After-drop-marks-2) → (it : FeatureRecord) → slice_get (layer_of c.args.layer.now).features c.args.feature_index ≡ Some it
    → FindsFirstTagFault (length (layer_of c.args.layer.now).keys) (length (layer_of c.args.layer.now).values) it.tags c.scan_tags.new.found
of_feature c it there =
    found_in c.scan_tags.new.found c.len-keys.result c.len-values.result c.deref.result.now c.args.layer.now c.args.feature_index c.index.result.now it (omega arith) (omega arith) c.deref.ensures.value c.requires c.index.ensures there
    (c.in_ok-scan_tags.ensures c.deref.result.now c.new-tags.ensures.all).0

pub returns-clause-none : goal.returns-clause-none
returns-clause-none c = IfNone_then c.tag_fault.result c.tag_fault.ensures.none (λ nothing it there.
    no_tag_broken (layer_of c.args.layer.now) it c.args.layer_index c.args.feature_index (rw nothing at (of_feature c it there)))

pub returns-clause-least : goal.returns-clause-least
returns-clause-least c = IfSome_then c.tag_fault.result c.tag_fault.ensures.tag (λ fault told it there.
    subst (IsLeast (IsFaultOfTags (layer_of c.args.layer.now) it c.args.layer_index c.args.feature_index)) (sym told.2)
    (IsLeast-first (layer_of c.args.layer.now) it c.args.layer_index c.args.feature_index told.0.0 told.0.1 (rw told.1 at (of_feature c it there))))
