-- A walk over the vertices of the rings that the numbers of a geometry spell (Mapbox Vector Tile Specification 2.1, section
-- 4.3.4.4).
use Rattle.std.specs.Prelude.{◌≡◌, ℕ, ◌+◌, ◌^◌, ◌<◌, ◌==◌, Bool, true, false, List, [], ◌∷◌, ◌++◌, length, Option, Some, None}
use Rattle.mvt_confirm.specs.declared.vertices.Vertex.{Vertex}
use Rattle.mvt_plane.specs.Commands.Course.{Course, IsStepAhead}
use Rattle.mvt_plane.specs.Commands.Figure.{AreSteps, ArePaths, close_path, command_integer, cursor, paths, steps}
use Rattle.mvt_plane.specs.Position.{Position}
use Rattle.mvt_wire.specs.Numbers.{NumberWalk, NumbersLeft, most_left}

-- The walk over the numbers, with the cursor, and how many vertices of a ring come next; none in front of a ring
pub record VertexWalk : Type 0 where
  pub numbers : NumberWalk
  pub here : Position
  pub left : ℕ

-- the cursor, and these numbers
abbrev pub walk_course : VertexWalk → List ℕ → Course
walk_course walk numbers = record { here = walk.here; left = numbers }

-- whichever step was ahead, its position is the one that was found, and the numbers after it are left
abbrev pub TakesStep : VertexWalk → NumberWalk → Option Position → Type 0
TakesStep old new found = (numbers rest : List ℕ) (to : Position) → NumbersLeft old.numbers numbers None → IsStepAhead (walk_course old numbers) to rest → (found ≡ Some to) × NumbersLeft new rest None

-- What is left of the rings

-- after a ring
abbrev pub ring_end : List ℕ
ring_end = command_integer close_path 1 ∷ []

-- numbers that spell these rings from a position on
pub record SpellRings (from : Position) (rings : List (List Position)) (numbers : List ℕ) : Type 0 where
  pub able : ArePaths 2 from rings
  pub spelled : numbers ≡ paths ring_end from rings

-- the numbers of so many further vertices of a ring and of its end, and then of the rings after it
pub record SpellVertices (from : Position) (count : ℕ) (vertices : List Position) (further : List (List Position)) (numbers : List ℕ) : Type 0 where
  pub able : AreSteps from vertices
  pub so_many : length vertices ≡ count
  pub following : List ℕ
  pub spelled : numbers ≡ steps from vertices ++ (ring_end ++ following)
  pub rings : SpellRings (cursor from vertices) further following

-- the rings that a walk has left; of the first one, perhaps only its last vertices
pub data RingsLeft (walk : VertexWalk) (rings : List (List Position)) : Type 0 where
  -- in front of a ring, or after the last one
  between : (numbers : List ℕ) → walk.left ≡ 0 → NumbersLeft walk.numbers numbers None → SpellRings walk.here rings numbers → RingsLeft walk rings
  -- after a vertex that isn't the last one of its ring
  amid : (vertices : List Position) (further : List (List Position)) (numbers : List ℕ) → 0 < walk.left → NumbersLeft walk.numbers numbers None
      → SpellVertices walk.here walk.left vertices further numbers → rings ≡ vertices ∷ further → RingsLeft walk rings

-- a vertex is the first one of rings, and the last one of its ring or not; after it these are left
abbrev pub IsFirstVertex : Position → Bool → List (List Position) → List (List Position) → Type 0
IsFirstVertex point true rings left = rings ≡ (point ∷ []) ∷ left
IsFirstVertex point false rings left =
    (next : Position) × (more : List Position) × (further : List (List Position)) × (rings ≡ (point ∷ next ∷ more) ∷ further) × (left ≡ (next ∷ more) ∷ further)

-- whichever rings were left, this vertex was the first of them
abbrev pub GivesPosition : VertexWalk → VertexWalk → Position → Type 0
GivesPosition old new point = (rings : List (List Position)) → RingsLeft old rings → (left : List (List Position)) × RingsLeft new left × IsFirstVertex point (new.left == 0) rings left

-- no ring was left
abbrev pub EndsVertices : VertexWalk → Type 0
EndsVertices walk = (rings : List (List Position)) → RingsLeft walk rings → rings ≡ []

-- how many vertices of a ring come next: a number of 32 bits, after another vertex of the ring one less
pub record CountsDown (old new : VertexWalk) : Type 0 where
  pub few : new.left < 2 ^ 32
  pub less : 0 < old.left → new.left + 1 ≡ old.left

-- a vertex was given: whichever rings were left, it was the first of them
pub record GivesVertex (old new : VertexWalk) (vertex : Vertex) : Type 0 where
  pub first : (rings : List (List Position)) → RingsLeft old rings → (left : List (List Position)) × RingsLeft new left × IsFirstVertex vertex.point vertex.is_last rings left
  pub fewer : most_left new.numbers < most_left old.numbers
  pub last : vertex.is_last ≡ (new.left == 0)
  pub counts : CountsDown old new
