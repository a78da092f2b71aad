use Rattle.std.proofs.Common.{◌≡◌, subst, sym}
use Rattle.mvt_rules.specs.Tile.{FeatureRecord, IsFeature}
use Rattle.mvt_tile.specs.View.{feature_of}
use Rattle.mvt_tile.specs.declared.record.Feature.{Feature}
use Rattle.mvt_tile.proofs.read.feature.read_feature.Goals as goal

-- a record with the parts of a feature shows it
same : (feature : Feature) (it : FeatureRecord) → (feature_of feature).id ≡ it.id → (feature_of feature).tags ≡ it.tags → (feature_of feature).kind ≡ it.kind → (feature_of feature).geometry ≡ it.geometry → feature_of feature ≡ it
same feature it id tags kind geometry = λ i. record { id = id i; tags = tags i; kind = kind i; geometry = geometry i }

pub returns : goal.returns
returns c =
    let it = c.requires.0 in
    let encodes = c.new-feature.ensures it c.requires.1 in
    subst (λ (feature : FeatureRecord). IsFeature c.args.part.bytes.now (record { from = c.args.part.from; to = c.args.part.to }) feature)
    (sym (same (record { id = c.id.result; tags = c.in_ok-list_of.field-0; kind = c.kind.result; geometry = c.in_ok-list_of-2.field-0 }) it
    (c.id.ensures it encodes) (c.in_ok-list_of.ensures it.tags (c.tags.ensures.all it encodes)) (c.kind.ensures it encodes) (c.in_ok-list_of-2.ensures it.geometry (c.geometry.ensures.all it encodes))))
    c.requires.1
