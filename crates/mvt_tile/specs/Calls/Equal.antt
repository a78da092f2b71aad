-- How the places of a list that hold the same are found, and what is noted of them.
use Rattle.std.specs.Prelude.{◌≡◌, ◌↔◌, ℕ, ◌<◌, Option, Some, None, List, ◌∷◌, slice_get, slice_index_or}
use Rattle.mvt_tile.specs.Advice.{IsRepetition, equal_keys, equal_ids}
use Rattle.mvt_tile.specs.declared.advice.Advice.{Advice}
use Rattle.mvt_tile.specs.declared.advice.Equal.{Equal}
use Rattle.mvt_tile.specs.declared.advice.Equal.TheVariants.{Keys, Ids}
use Rattle.mvt_tile.specs.declared.first_places.Held.{Held}

-- what an item holds: its number, and after it its text
abbrev pub held_value : Held → List ℕ
held_value item = item.number ∷ item.text.now

-- one of the items is that of the place, and holds the value
abbrev pub HeldAt : List Held → ℕ → List ℕ → Type 0
HeldAt items place value = (at : ℕ) × (item : Held) × (slice_get items at ≡ Some item) × (item.place ≡ place) × (held_value item ≡ value)

-- the items are of different places, all below a bound
pub record HavePlaces (bound : ℕ) (items : List Held) : Type 0 where
  pub below : (at : ℕ) (item : Held) → slice_get items at ≡ Some item → item.place < bound
  pub once : (at other : ℕ) (item again : Held) → slice_get items at ≡ Some item → slice_get items other ≡ Some again → item.place ≡ again.place → at ≡ other

-- at each place stands the first place that holds the same, where that is before it, and nothing elsewhere
abbrev pub AreFirstPlaces : {X : Type 0} → (ℕ → X → Type 0) → List (Option ℕ) → Type 0
AreFirstPlaces At firsts = (first second : ℕ) → (slice_index_or firsts second None ≡ Some first) ↔ IsRepetition At first second

-- at the second place stands the first
abbrev pub StandsAt : List (Option ℕ) → ℕ → ℕ → Type 0
StandsAt firsts first second = slice_index_or firsts second None ≡ Some first

-- the advice on pairs of equal keys, or of equal ids
abbrev pub equal_advice : Equal → ℕ → List (ℕ × ℕ) → List Advice
equal_advice Keys layer pairs = equal_keys layer pairs
equal_advice Ids layer pairs = equal_ids layer pairs
