use Rattle.serde_json.specs.View.{view}
use Rattle.mvt_fault.proofs.Candidates.{layer_scope, value_scope, feature_scope, tile_scope}
use Rattle.mvt_fault.proofs.reading.wire.scope_of.Goals as goal

pub returns-in-layer : goal.returns-in-layer
returns-in-layer c = layer_scope (view c.args.value.now) _ c.text_at.ensures _ c.in-layer.is c.ordinal_at.ensures

pub returns-in-value : goal.returns-in-value
returns-in-value c =
    value_scope (view c.args.value.now) _ c.text_at.ensures _ _ c.in-value.is c.ordinal_at-in-value.ensures c.ordinal_at-in-value-2.ensures

pub returns-in-feature : goal.returns-in-feature
returns-in-feature c =
    feature_scope (view c.args.value.now) _ c.text_at.ensures _ _ c.in-feature.is c.ordinal_at-in-feature.ensures c.ordinal_at-in-feature-2.ensures

pub returns-in_default : goal.returns-in_default
returns-in_default c = tile_scope (view c.args.value.now) _ c.text_at.ensures c.in_default.not-layer c.in_default.not-value c.in_default.not-feature
