-- Turn vertices of rings: the line of a sweep meets two edges more after one, or two fewer. At every other vertex one edge ends
-- and the next one begins.
use Rattle.std.specs.Prelude.{◌-◌, ◌==◌, ◌&&◌, ◌||◌, ℕ, Bool, cond, List, get_or, length, map}
use Rattle.std.specs.Int.Signed.{lt_z}
use Rattle.std.specs.List.{count_by, range_with_len, sum}
use Rattle.mvt_plane.specs.Geometry.Measure.{key_of}
use Rattle.mvt_plane.specs.Position.{Position, origin}
use Rattle.mvt_plane.specs.Geometry.Ring.{next_round}

-- the first position comes before the second one in the order of keys
abbrev pub comes_before : Position → Position → Bool
comes_before first second = lt_z (key_of first) (key_of second)

-- a vertex between these two in its ring is a turn vertex: both of them come before it, or it comes before both
abbrev pub is_turn : Position → Position → Position → Bool
is_turn previous vertex next = (comes_before previous vertex && comes_before next vertex) || (comes_before vertex previous && comes_before vertex next)

-- the vertex of this number in a ring
abbrev pub vertex_in : List Position → ℕ → Position
vertex_in ring number = get_or ring number origin

-- the number before this one, going round: before 0 comes the last one
abbrev pub previous_round : ℕ → ℕ → ℕ
previous_round count number = cond (number == 0) (count - 1) (number - 1)

-- the vertex of this number is a turn vertex of its ring
abbrev pub turns_in : List Position → ℕ → Bool
turns_in ring number =
    is_turn (vertex_in ring (previous_round (length ring) number)) (vertex_in ring number) (vertex_in ring (next_round (length ring) number))

-- how many turn vertices a ring has
abbrev pub turns_of : List Position → ℕ
turns_of ring = count_by (turns_in ring) (range_with_len 0 (length ring))

-- how many rings have
abbrev pub turn_count : List (List Position) → ℕ
turn_count rings = sum (map turns_of rings)
