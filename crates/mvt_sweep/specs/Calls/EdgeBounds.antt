-- The bounds of few edges, in a list for each side.
use Rattle.std.specs.Prelude.{ℕ, get_or, pos}
use Rattle.mvt_sweep.specs.declared.bounds.Bounds.{Bounds}
use Rattle.mvt_sweep.specs.declared.edge_bounds.EdgeBounds.{EdgeBounds}

-- of how many edges there are bounds
abbrev pub bounds_count : EdgeBounds → ℕ
bounds_count list = list.count

-- those of the edge of a number
abbrev pub bounds_at : EdgeBounds → ℕ → Bounds
bounds_at list number = record {
  left = get_or list.left number (pos 0);
  low = get_or list.low number (pos 0);
  right = get_or list.right number (pos 0);
  high = get_or list.high number (pos 0);
}
