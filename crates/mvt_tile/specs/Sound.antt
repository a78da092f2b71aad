-- How far a walk over a tile has come with no feature that has a fault.
use Rattle.std.specs.Prelude.{ℕ, ◌-◌, ◌<◌, ◌≤◌, List}
use Rattle.mvt_wire.specs.Payload.{Span}
use Rattle.mvt_rules.specs.Scope.{whole_span, IsPart}
use Rattle.mvt_rules.specs.Tile.{FeatureRecord, IsFeature, LayerRecord, IsLayer}
use Rattle.mvt_tile.specs.RuleFaults.{Breaks, Keeps, IsSoundFeature, AllSoundInLayer}
use Rattle.mvt_tile.specs.Enough.{IsLike}
use Rattle.mvt_tile.specs.declared.seen.Seen.{Seen}

-- a further rule of which no fault is told: what matters is which features keep it
abbrev pub tells_none : Breaks
tells_none feature_record layer feature fault = ⊥

-- the feature in a span is sound in each layer of a kind
abbrev pub IsSoundIn : Breaks → Keeps → List ℕ → (LayerRecord → Type 0) → ℕ → ℕ → Span → Type 0
IsSoundIn IsBroken IsKept bytes IsKnown layer ordinal span =
    (it : FeatureRecord) → IsFeature bytes span it → (layer_record : LayerRecord) → IsKnown layer_record → IsSoundFeature IsBroken IsKept layer_record it layer ordinal

-- of the layer in a span, the features in front of a place are sound in a layer of so many keys and values, or that has what
-- their tags need
abbrev pub AreSoundBefore : Breaks → Keeps → List ℕ → ℕ → ℕ → Seen → ℕ → Span → Type 0
AreSoundBefore IsBroken IsKept bytes keys values seen layer outer =
    (feature : ℕ) (inner : Span) → IsPart bytes outer 2 feature inner → inner.to < seen.to → IsSoundIn IsBroken IsKept bytes (IsLike keys values seen.needs) layer feature inner

-- all features of a layer that ends in front of a place are sound; of another one those in front of the place, if it has what their
-- tags need
pub record IsSoundTo (IsBroken : Breaks) (IsKept : Keeps) (bytes : List ℕ) (seen : Seen) (layer : ℕ) (outer : Span) : Type 0 where
  pub whole : outer.to < seen.to → (layer_record : LayerRecord) → IsLayer bytes outer layer_record → AllSoundInLayer IsBroken IsKept layer_record layer
  pub front : seen.to ≤ outer.to → AreSoundBefore IsBroken IsKept bytes (outer.to - outer.from) (outer.to - outer.from) seen layer outer

-- so it is in each layer of the bytes
abbrev pub AreSoundTo : Breaks → Keeps → List ℕ → Seen → Type 0
AreSoundTo IsBroken IsKept bytes seen = (layer : ℕ) (outer : Span) → IsPart bytes (whole_span bytes) 3 layer outer → IsSoundTo IsBroken IsKept bytes seen layer outer
