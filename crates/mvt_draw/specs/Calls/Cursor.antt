-- Where a reader of geometry is (Mapbox Vector Tile Specification 2.1, section 4.3).
use Rattle.std.specs.Prelude.{ℕ, List}
use Rattle.mvt_plane.specs.Position.{Position}
use Rattle.mvt_plane.specs.Commands.Course.{Course}
use Rattle.mvt_plane.specs.Calls.Course.{course_at}
use Rattle.mvt_draw.specs.declared.commands.Cursor.{Cursor}

-- the position where a cursor is
abbrev pub position_of : Cursor → Position
position_of cursor = record { x = cursor.x; y = cursor.y }

-- what is ahead of it among these numbers
abbrev pub course_of : List ℕ → Cursor → Course
course_of numbers cursor = course_at numbers cursor.at (position_of cursor)
