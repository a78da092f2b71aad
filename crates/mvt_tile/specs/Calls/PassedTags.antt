-- Tags that a pass over their pairs has gone over, and what is kept of them (Mapbox Vector Tile Specification 2.1, section 4.4).
use Rattle.std.specs.Prelude.{◌≡◌, ℕ, ◌+◌, ◌-◌, ◌*◌, ◌^◌, ◌<◌, ◌≤◌, nat_lt, Bool, true, cond, List, drop, length, slice_get, Option, Some, None, MatchOption}
use Rattle.mvt_rules.specs.Rules.{TagsBreak, IsKeyAt, NoSuchKey, NoSuchValue}
use Rattle.mvt_fault.specs.declared.tag.TagCode.{TagCode}
use Rattle.mvt_tile.specs.Calls.KeyMarks.{is_added, is_in}
use Rattle.mvt_tile.specs.Calls.RuleFaults.{IsFirstTagFault}
use Rattle.mvt_tile.specs.declared.rules.key_marks.KeyMarks.{KeyMarks}
use Rattle.mvt_tile.specs.declared.rules.tags.TagNeeds.{TagNeeds}

-- the key is in the set: its bit is 1, among the first keys or those after them
abbrev pub has_key : KeyMarks → ℕ → Bool
has_key set key = cond (nat_lt key 256) (is_in set.first key) (is_added set.current set.further.items (key - 256))

-- in a layer of so many keys and values, or more, each of the tags has its key and its value
pub record AreMetBy (needs : TagNeeds) (tags : List ℕ) : Type 0 where
  pub keys : (count place : ℕ) → needs.keys ≤ count → ¬ NoSuchKey count tags place
  pub values : (count place : ℕ) → needs.values ≤ count → ¬ NoSuchValue count tags place

-- in a layer that has so many keys and values, or more, the tags have no fault
abbrev pub AreGoodWith : TagNeeds → List ℕ → Type 0
AreGoodWith needs tags = (keys values : ℕ) → needs.keys ≤ keys → needs.values ≤ values → (code : TagCode) (place : ℕ) → ¬ TagsBreak code keys values tags place

-- in a list of pairs, this one is at a place
pub record IsPairAt (tags : List ℕ) (at key value : ℕ) : Type 0 where
  pub pairs : ℕ
  pub even : length tags ≡ 2 * pairs
  pub first : slice_get tags at ≡ Some key
  pub second : slice_get tags (at + 1) ≡ Some value

-- the tags before a place have no fault, in a layer of so many keys and values
pub record AreCleanBefore (keys values : ℕ) (tags : List ℕ) (to : ℕ) : Type 0 where
  pub clean : (code : TagCode) (place : ℕ) → place < to → ¬ TagsBreak code keys values tags place

-- The keys of the pairs before a place are the keys that were kept. A place after some pairs of the list is even.
pub record IsPassed (tags : List ℕ) (has : ℕ → Bool) (to : ℕ) : Type 0 where
  pub pair : ℕ
  pub even : to ≡ 2 * pair
  pub stood : (key : ℕ) → has key ≡ true → (earlier : ℕ) × (earlier < to) × IsKeyAt tags earlier key
  pub kept : (key earlier : ℕ) → earlier < to → IsKeyAt tags earlier key → has key ≡ true

-- the pairs before a place have no fault, and their keys are in the set
pub record ArePassed (set : KeyMarks) (keys values : ℕ) (tags : List ℕ) (to : ℕ) : Type 0 where
  pub passed : IsPassed tags (has_key set) to
  pub clean : AreCleanBefore keys values tags to

-- the indices of the pairs before a place are lesser than these numbers of keys and values
pub record IsMetBefore (keys values : ℕ) (tags : List ℕ) (to : ℕ) : Type 0 where
  pub pair : ℕ
  pub even : to ≡ 2 * pair
  pub key : (earlier key : ℕ) → 2 * earlier < to → slice_get tags (2 * earlier) ≡ Some key → key < keys
  pub value : (earlier value : ℕ) → 2 * earlier < to → slice_get tags (2 * earlier + 1) ≡ Some value → value < values

-- what was found of the pairs before a place: their first fault, or their keys where they have none
abbrev pub HasFoundBefore : KeyMarks → ℕ → ℕ → List ℕ → ℕ → Option (TagCode × ℕ) → Type 0
HasFoundBefore set keys values tags to found = MatchOption found (ArePassed set keys values tags to) (λ fault. IsFirstTagFault keys values tags fault.0 fault.1)

-- the pairs before a place were passed: what they need is kept and, should the list be one of pairs, what was found of them
pub record IsScanned (set : KeyMarks) (keys values : ℕ) (tags : List ℕ) (at : ℕ) (needs : TagNeeds) (found : Option (TagCode × ℕ)) : Type 0 where
  pub within : at ≤ length tags
  pub met : IsMetBefore needs.keys needs.values tags at
  pub so_far : (pairs : ℕ) → length tags ≡ 2 * pairs → HasFoundBefore set keys values tags at found

-- the pairs before some place were passed, and have no fault but that a layer may have fewer keys or values; the rest is left
pub record ArePassedSoFar (Leaves : List ℕ → Type 0) (set : KeyMarks) (tags : List ℕ) (needs : TagNeeds) : Type 0 where
  pub at : ℕ
  pub left : Leaves (drop at tags)
  pub scanned : IsScanned set (2 ^ 32) (2 ^ 32) tags at needs None
