-- Which layers have the keys and values that tags name.
use Rattle.std.specs.Prelude.{◌≡◌, ℕ, ◌≤◌, ◌⊎◌, length}
use Rattle.mvt_rules.specs.Tile.{LayerRecord}
use Rattle.mvt_tile.specs.declared.rules.tags.TagNeeds.{TagNeeds}

-- the layer has as many keys and values as tags need
pub record HasEnough (needs : TagNeeds) (layer : LayerRecord) : Type 0 where
  pub keys : needs.keys ≤ length layer.keys
  pub values : needs.values ≤ length layer.values

-- the layer has so many keys and values, or as many as tags need, as has one of so many
abbrev pub IsLike : ℕ → ℕ → TagNeeds → LayerRecord → Type 0
IsLike keys values needs layer = ((keys ≡ length layer.keys) × (values ≡ length layer.values)) ⊎ (HasEnough needs layer × (needs.keys ≤ keys) × (needs.values ≤ values))
