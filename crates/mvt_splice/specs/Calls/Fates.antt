-- The changes that a walk over features in their order has left.
use Rattle.std.specs.Prelude.{◌≡◌, ℕ, ◌<◌, ◌≤◌, ◌⊎◌, List, Some, slice_get}
use Rattle.mvt_splice.specs.Splice.{fate_in, IsBefore, AreChangesInOrder}
use Rattle.mvt_splice.specs.declared.change.Change.{Change}

-- a feature of these ordinals is the one of those ordinals, or comes after it
abbrev pub IsFrom : ℕ → ℕ → ℕ → ℕ → Type 0
IsFrom layer feature from_layer from_feature = (from_layer < layer) ⊎ ((layer ≡ from_layer) × (from_feature ≤ feature))

-- of these changes those from a feature on are left, in their order
pub record AreChangesLeft (changes : List Change) (layer feature : ℕ) (left : List Change) : Type 0 where
  pub in_order : AreChangesInOrder left
  pub same : (other_layer other_feature : ℕ) → IsFrom other_layer other_feature layer feature → fate_in left other_layer other_feature ≡ fate_in changes other_layer other_feature

-- the first change isn't about an earlier feature
abbrev pub BeginFrom : List Change → ℕ → ℕ → Type 0
BeginFrom changes layer feature = (change : Change) → slice_get changes 0 ≡ Some change → ¬ IsBefore change layer feature
