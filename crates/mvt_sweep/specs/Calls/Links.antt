-- Lists of vertices that know the next and the previous vertex of their ring.
use Rattle.std.specs.Prelude.{◌≡◌, ◌≢◌, ◌-◌, ◌+◌, ◌<◌, ltb, cond, ℕ, List, length, slice_index_or}
use Rattle.std.proofs.Common.{arith}
use Rattle.std.proofs.lemmas.Int.{ints}
use Rattle.mvt_plane.specs.Position.{Position, IsPosition, origin}
use Rattle.mvt_sweep.specs.declared.sweep.vertex.SweepVertex.{SweepVertex}

-- the origin is in range
pub origin_in_range : IsPosition origin
origin_in_range = record { x = (omega (arith, ints), omega (arith, ints)); y = (omega (arith, ints), omega (arith, ints)) }

-- in place of a vertex that isn't there
abbrev pub no_sweep_vertex : SweepVertex
no_sweep_vertex = record { position = origin; far_end = 0; in_range = origin_in_range }

-- the vertex of this number in a list
abbrev pub sweep_vertex_in : List SweepVertex → ℕ → SweepVertex
sweep_vertex_in list number = slice_index_or list number no_sweep_vertex

-- its position
abbrev pub position_in : List SweepVertex → ℕ → Position
position_in list number = (sweep_vertex_in list number).position

-- the number of the vertex after it in its ring, where its edge ends
abbrev pub next_in : List SweepVertex → ℕ → ℕ
next_in list number = cond (ltb (sweep_vertex_in list number).far_end number) (sweep_vertex_in list number).far_end (number + 1)

-- and of the vertex before it, whose edge ends in it
abbrev pub previous_in : List SweepVertex → ℕ → ℕ
previous_in list number = cond (ltb number (sweep_vertex_in list number).far_end) (sweep_vertex_in list number).far_end (number - 1)

-- next and previous lead round, in rings of three vertices or more, none at the position of the next one
pub record AreLinked (list : List SweepVertex) : Type 0 where
  pub next_known : (number : ℕ) → number < length list → next_in list number < length list
  pub previous_known : (number : ℕ) → number < length list → previous_in list number < length list
  pub there_and_back : (number : ℕ) → number < length list → previous_in list (next_in list number) ≡ number
  pub back_and_there : (number : ℕ) → number < length list → next_in list (previous_in list number) ≡ number
  pub longer : (number : ℕ) → number < length list → next_in list (next_in list number) ≢ number
  pub apart : (number : ℕ) → number < length list → position_in list (next_in list number) ≢ position_in list number
