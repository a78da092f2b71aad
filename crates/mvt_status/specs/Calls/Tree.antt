-- A tree whose nodes hold a few edges each: the edges in order, and the height.
use Rattle.std.specs.Prelude.{◌≡◌, ◌+◌, ◌<◌, ◌≤◌, ℕ, zero, suc, max, Box, List, [], length, Option, Some, None}
use Rattle.std.specs.declared.alloc.Global.{Global}

-- the edges on a side of a node, in order
abbrev pub edges_of : Option (Box (List ℕ × ℕ) Global) → List ℕ
edges_of None = []
edges_of (Some node) = node.value.0

-- how many levels the side has
abbrev pub height_of : Option (Box (List ℕ × ℕ) Global) → ℕ
height_of None = 0
height_of (Some node) = node.value.1

-- a side of this height has this many edges or more, but one: Fibonacci's numbers
unfoldable pub fewest : ℕ → ℕ
fewest zero = 1
fewest (suc zero) = 2
fewest (suc (suc height)) = fewest (suc height) + fewest height

-- neither height is more than so much above the other
pub record DifferByAtMost (by one other : ℕ) : Type 0 where
  pub first : one ≤ other + by
  pub second : other ≤ one + by

-- what is true of each node, of so many edges in all
pub record IsNode (left : Option (Box (List ℕ × ℕ) Global)) (own : List ℕ) (right : Option (Box (List ℕ × ℕ) Global)) (size height : ℕ) : Type 0 where
  pub some : 0 < length own
  pub counted : size ≡ length (edges_of left) + length own + length (edges_of right)
  pub measured : height ≡ suc (max (height_of left) (height_of right))
  pub near : DifferByAtMost 1 (height_of left) (height_of right)
  pub filled : fewest height + length own ≤ size + 2

-- the height of two sides and what is between them, put together
pub record IsHeightOfBoth (left right height : ℕ) : Type 0 where
  pub not_lower : max left right ≤ height
  pub at_most_one_higher : height ≤ suc (max left right)
  pub exact : DifferByAtMost 1 left right → height ≡ suc (max left right)
