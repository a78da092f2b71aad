-- Numbers that say where positions are relative to each other.
use Rattle.std.specs.Prelude.{◌^◌, ℤ, pos, ◌+ℤ◌, ◌-ℤ◌, ◌*ℤ◌}
use Rattle.mvt_plane.specs.Position.{Position}

-- Twice the area of the triangle from a through b to c, in the sense in which the area of an exterior is positive. So
-- its sign says on which side of the line from a to b the position c lies
abbrev pub orientation : Position → Position → Position → ℤ
orientation a b c = (b.x -ℤ a.x) *ℤ (c.y -ℤ a.y) -ℤ (b.y -ℤ a.y) *ℤ (c.x -ℤ a.x)

-- the number by which positions are ordered: by x, and then by y
abbrev pub key_of : Position → ℤ
key_of position = position.x *ℤ pos (2 ^ 32) +ℤ position.y
