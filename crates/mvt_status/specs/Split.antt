-- The split of a list for a test that answers true on a front of it alone.
use Rattle.std.specs.Prelude.{◌≡◌, ℕ, zero, suc, ◌<◌, ◌≤◌, Bool, true, false, List, Option, None, length, slice_get, slice_index}
use Rattle.mvt_status.specs.declared.status.Split.{Split}

-- the test answers true on this many edges at the front of the list, and false on all others
pub record IsSplit (answers : ℕ → Bool → Type 0) (edges : List ℕ) (point : ℕ) : Type 0 where
  pub within : point ≤ length edges
  pub front : (i : ℕ) → i < point → (answer : Bool) → answers (slice_index edges i) answer → answer ≡ true
  pub rest : (i : ℕ) → point ≤ i → i < length edges → (answer : Bool) → answers (slice_index edges i) answer → answer ≡ false

-- the edge before a place, if there is one
abbrev pub before : List ℕ → ℕ → Option ℕ
before edges zero = None
before edges (suc at) = slice_get edges at

-- these edges are in front of the split and after it
pub record AreBeside (edges : List ℕ) (split : Split) : Type 0 where
  pub front : split.front ≡ before edges split.point
  pub following : split.following ≡ slice_get edges split.point
