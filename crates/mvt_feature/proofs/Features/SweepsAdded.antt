-- The work of several sweeps.
use Rattle.std.proofs.Common.{◌≡◌, ℕ, zero, suc, ◌+◌, ◌*◌, ◌≤◌, List, [], ◌∷◌, take, ap, arith}
use Rattle.std.proofs.Math.Nat.{mul-le-mul, mul-le-mul_right}
use Rattle.mvt_plane.specs.Counted.{Counted}
use Rattle.mvt_plane.specs.Position.{Position}
use Rattle.mvt_sweep.specs.Work.{AddsWork, vertex_count}
use Rattle.mvt_feature.specs.Feature.{AddsSweeps}
use Rattle.mvt_sweep.proofs.Vertices.VertexNumbers.{count_cons, count_take}
use Rattle.mvt_sweep.proofs.Sweeps.StatusCounts.{no_work, work_then, work_within}
use Rattle.mvt_status.specs.Counts.{bits}
use Rattle.mvt_status.proofs.BinaryDigits.{no_more_digits}

-- the first rings have no more vertices than all
pub fewer_vertices : (count : ℕ) (rings : List (List Position)) → vertex_count (take count rings) ≤ vertex_count rings
fewer_vertices zero rings = omega arith
fewer_vertices (suc count) [] = omega arith
fewer_vertices (suc count) (ring ∷ rest) = omega (arith, fewer_vertices count rest, count_take ring rest count, count_cons ring rest)

-- no work is that of so many sweeps
pub no_sweeps : (sweeps vertices : ℕ) (count : Counted) → AddsSweeps sweeps vertices count count
no_sweeps sweeps vertices count = no_work count

-- a product of numbers that are no greater
no_greater : (one other its their : ℕ) → one ≤ its → other ≤ their → one * other ≤ its * their
no_greater one other its their below under = mul-le-mul below under

-- a sweep over some of the vertices
pub one_sweep : (fewer vertices : ℕ) (before after : Counted) → fewer ≤ vertices → AddsWork (3 * fewer) (fewer * (2 * bits fewer + 2)) (fewer * (20 * bits fewer)) before after → AddsSweeps 1 vertices before after
one_sweep fewer vertices before after no_more work =
    let digits : bits fewer ≤ bits vertices = no_more_digits fewer vertices no_more in
    work_within (omega arith)
    (omega (arith, no_greater fewer (2 * bits fewer + 2) vertices (2 * bits vertices + 10) no_more (omega arith)))
    (omega (arith, no_greater fewer (20 * bits fewer) vertices (20 * bits vertices) no_more (omega arith))) work

-- sweeps over fewer vertices, or fewer of them
pub sweeps_within : (sweeps most fewer vertices : ℕ) (before after : Counted) → sweeps ≤ most → fewer ≤ vertices → AddsSweeps sweeps fewer before after → AddsSweeps most vertices before after
sweeps_within sweeps most fewer vertices before after few no_more work =
    let digits : bits fewer ≤ bits vertices = no_more_digits fewer vertices no_more in
    work_within (no_greater sweeps (3 * fewer) most (3 * vertices) few (omega arith))
    (no_greater sweeps (fewer * (2 * bits fewer + 10)) most (vertices * (2 * bits vertices + 10)) few (no_greater fewer (2 * bits fewer + 10) vertices (2 * bits vertices + 10) no_more (omega arith)))
    (no_greater sweeps (fewer * (20 * bits fewer)) most (vertices * (20 * bits vertices)) few (no_greater fewer (20 * bits fewer) vertices (20 * bits vertices) no_more (omega arith))) work

-- so many times, and so many times more
times_added : (one other all each : ℕ) → one + other ≤ all → one * each + other * each ≤ all * each
times_added one other all each within = omega (arith, mul-le-mul_right each within)

-- some sweeps and then others
pub sweeps_then : (one other all vertices : ℕ) (before between after : Counted) → one + other ≤ all → AddsSweeps one vertices before between → AddsSweeps other vertices between after → AddsSweeps all vertices before after
sweeps_then one other all vertices before between after within first second =
    work_within (times_added one other all (3 * vertices) within) (times_added one other all (vertices * (2 * bits vertices + 10)) within) (times_added one other all (vertices * (20 * bits vertices)) within)
    (work_then first second)

-- a sweep over the first rings
pub first_sweep : (rings : List (List Position)) (count : ℕ) (its : List (List Position)) (before after : Counted) → its ≡ take count rings
    → AddsWork (3 * vertex_count its) (vertex_count its * (2 * bits (vertex_count its) + 2)) (vertex_count its * (20 * bits (vertex_count its))) before after
    → AddsSweeps 1 (vertex_count rings) before after
first_sweep rings count its before after same work =
    let fewer : vertex_count its ≤ vertex_count rings = omega (arith, ap vertex_count same, fewer_vertices count rings) in
    one_sweep (vertex_count its) (vertex_count rings) before after fewer work
