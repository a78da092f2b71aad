-- The work of one sweep at most, by vertices and by turn vertices.
use Rattle.std.specs.Prelude.{◌+◌, ◌*◌, ℕ, List}
use Rattle.mvt_plane.specs.Counted.{Counted}
use Rattle.mvt_plane.specs.Position.{Position}
use Rattle.mvt_status.specs.Counts.{bits}
use Rattle.mvt_sweep.specs.TurnVertices.{turn_count}
use Rattle.mvt_sweep.specs.Work.{AddsWork, vertex_count}

-- over so many vertices, with so many probes for each beside those of its searches
abbrev pub AddsSweep : ℕ → ℕ → Counted → Counted → Type 0
AddsSweep each vertices before after = AddsWork (3 * vertices) (vertices * (2 * bits vertices + each)) (vertices * (20 * bits vertices)) before after

-- over these rings, where the status is searched and changed at turn vertices alone: so many probes beside those searches
abbrev pub AddsTurns : ℕ → List (List Position) → Counted → Counted → Type 0
AddsTurns probes rings before after =
    AddsWork (3 * vertex_count rings) (probes + turn_count rings * (2 * bits (vertex_count rings))) (turn_count rings * (12 * bits (vertex_count rings))) before after
