-- Sets of keys as the bits of numbers.
use Rattle.std.specs.Prelude.{ℕ, ◌/◌, ◌%◌, ◌==◌, Bool, cond, List, slice_index_or}
use Rattle.std.specs.Int.{bit_at}
use Rattle.mvt_tile.specs.declared.rules.key_marks.KeyBlock.{KeyBlock}

-- the key is one of these: its bit is 1
abbrev pub has_bit : ℕ → ℕ → Bool
has_bit keys key = bit_at keys key == 1

-- the key is one of those of words of 64
abbrev pub is_in : List ℕ → ℕ → Bool
is_in words key = has_bit (slice_index_or words (key / 64) 0) (key % 64)

-- a block of which no key was added
abbrev pub no_keys : KeyBlock
no_keys = record { mark = 0; keys = 0 }

-- the block at a place, which past the end of the list has no keys
abbrev pub block_at : List KeyBlock → ℕ → KeyBlock
block_at blocks place = slice_index_or blocks place no_keys

-- the keys of a block that were added under a mark
abbrev pub keys_under : ℕ → KeyBlock → ℕ
keys_under mark block = cond (block.mark == mark) block.keys 0

-- the key was added to its block under a mark
abbrev pub is_added : ℕ → List KeyBlock → ℕ → Bool
is_added mark blocks key = has_bit (keys_under mark (block_at blocks (key / 32))) (key % 32)
