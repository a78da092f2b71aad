-- The work of sweeps over some of a feature's rings, and over the others.
use Rattle.std.proofs.Common.{◌≡◌, ℕ, zero, suc, ◌+◌, ◌-◌, ◌*◌, ◌<◌, ◌≤◌, inl, inr, Bool, true, false, cond, List, [], ◌∷◌, ◌++◌, length, take, drop, slice_index_or, refl, ◌∙◌, ap, arith}
use Rattle.std.proofs.Math.Nat.{mul-le-mul}
use Rattle.std.proofs.Math.Seq.{take-add}
use Rattle.std.proofs.lemmas.Bool.{cases_lt}
use Rattle.mvt_plane.specs.Counted.{Counted}
use Rattle.mvt_rules.specs.Parts.Rings.{part_of}
use Rattle.mvt_plane.specs.Position.{Position}
use Rattle.mvt_feature.specs.Calls.Alone.{vertices_alone}
use Rattle.mvt_sweep.specs.Work.{AddsWork, vertex_count}
use Rattle.mvt_feature.specs.Feature.{AddsSweeps}
use Rattle.mvt_feature.specs.Calls.FeatureParts.{listed_at}
use Rattle.mvt_feature.specs.Calls.Gathered.{gathered_rings}
use Rattle.mvt_rules.specs.Ring.{ArePolygonRings}
use Rattle.mvt_polygon.specs.Polygons.{ArePolygons}
use Rattle.mvt_status.proofs.BinaryDigits.{no_more_digits}
use Rattle.mvt_status.specs.Counts.{bits, raised}
use Rattle.mvt_polygon.proofs.ApartFaults.{rings_listed}
use Rattle.mvt_sweep.proofs.Vertices.VertexNumbers.{count_cons, count_whole}
use Rattle.mvt_feature.proofs.Features.GatheredLists.{IsMarked, IsUnmarked}
use Rattle.mvt_feature.proofs.Placed.PolygonOrder.{begin_of, begins_at, ends_at}
use Rattle.mvt_feature.proofs.Features.SweepsAdded.{no_sweeps}
use Rattle.mvt_sweep.proofs.Sweeps.StatusCounts.{work_then, work_within}

-- Vertices

-- of two lists of rings
count_append : (xs ys : List (List Position)) → vertex_count (xs ++ ys) ≡ vertex_count xs + vertex_count ys
count_append [] ys = omega arith
count_append (x ∷ xs) ys = omega (arith, count_cons x (xs ++ ys), count_cons x xs, count_append xs ys)

-- of those that are chosen and those that aren't
count_chosen : (mark : Bool) (xs : List (List Position)) → vertex_count (cond mark xs []) + cond mark 0 (vertex_count xs) ≡ vertex_count xs
count_chosen true xs = omega arith
count_chosen false xs = omega arith

-- of some rings and further ones
count_split : (from count : ℕ) (rings : List (List Position)) → vertex_count (take (from + count) rings) ≡ vertex_count (take from rings) + vertex_count (take count (drop from rings))
count_split from count rings = ap vertex_count (take-add from count rings) ∙ count_append (take from rings) (take count (drop from rings))

-- the marked polygons before one and the others have all vertices of the rings before it
shares_before : (rings : List (List Position)) (polygons : List (ℕ × ℕ)) (marks : List Bool) (polygon : ℕ) → ArePolygonRings rings → ArePolygons rings polygons → polygon ≤ length polygons
    → vertex_count (gathered_rings rings polygons marks polygon) + vertices_alone rings polygons marks polygon ≡ vertex_count (take (begin_of polygons polygon) rings)
shares_before rings polygons marks zero able listed within = refl
shares_before rings polygons marks (suc polygon) able listed within =
    let it = listed_at polygons polygon in
    let mark = slice_index_or marks polygon false in
    let further : it.exterior < it.after = (rings_listed rings polygons polygon listed within).further in
    let sum : it.exterior + (it.after - it.exterior) ≡ it.after = omega arith in
    let begin = begins_at rings polygons able listed polygon within in
    let before : vertex_count (take it.exterior rings) ≡ vertex_count (take (begin_of polygons polygon) rings) = ap (λ (n : ℕ). vertex_count (take n rings)) begin in
    let all : vertex_count (take (it.exterior + (it.after - it.exterior)) rings) ≡ vertex_count (take it.after rings) = ap (λ (n : ℕ). vertex_count (take n rings)) sum in
    let split = count_split it.exterior (it.after - it.exterior) rings in
    omega (arith, count_append (gathered_rings rings polygons marks polygon) (cond mark (part_of rings it) []), count_chosen mark (part_of rings it), shares_before rings polygons marks polygon able listed (omega arith))

-- and together all that there are
pub shares : (rings : List (List Position)) (polygons : List (ℕ × ℕ)) (marks : List Bool) → ArePolygonRings rings → ArePolygons rings polygons
    → vertex_count (gathered_rings rings polygons marks (length polygons)) + vertices_alone rings polygons marks (length polygons) ≡ vertex_count rings
shares rings polygons marks able listed =
    let ends = ends_at rings polygons able listed (length polygons) refl in
    shares_before rings polygons marks (length polygons) able listed (omega arith) ∙ ap (λ (n : ℕ). vertex_count (take n rings)) ends ∙ count_whole rings (length rings) (omega arith)

-- after a polygon that isn't marked
pub alone_more : (rings : List (List Position)) (polygons : List (ℕ × ℕ)) (marks : List Bool) (polygon : ℕ) → IsUnmarked marks polygon
    → vertices_alone rings polygons marks (polygon + 1) ≡ vertices_alone rings polygons marks polygon + vertex_count (part_of rings (listed_at polygons polygon))
alone_more rings polygons marks polygon unmarked =
    let next : polygon + 1 ≡ suc polygon = omega arith in
    ap (vertices_alone rings polygons marks) next
    ∙ ap (λ (mark : Bool). vertices_alone rings polygons marks polygon + cond mark 0 (vertex_count (part_of rings (listed_at polygons polygon)))) unmarked

-- and after a marked one
pub alone_same : (rings : List (List Position)) (polygons : List (ℕ × ℕ)) (marks : List Bool) (polygon : ℕ) → IsMarked marks polygon → vertices_alone rings polygons marks (polygon + 1) ≡ vertices_alone rings polygons marks polygon
alone_same rings polygons marks polygon marked =
    let next : polygon + 1 ≡ suc polygon = omega arith in
    let none : vertices_alone rings polygons marks polygon + 0 ≡ vertices_alone rings polygons marks polygon = omega arith in
    ap (vertices_alone rings polygons marks) next
    ∙ ap (λ (mark : Bool). vertices_alone rings polygons marks polygon + cond mark 0 (vertex_count (part_of rings (listed_at polygons polygon)))) marked ∙ none

-- it never falls
pub alone_up : (rings : List (List Position)) (polygons : List (ℕ × ℕ)) (marks : List Bool) (polygon other : ℕ) → polygon ≤ other → vertices_alone rings polygons marks polygon ≤ vertices_alone rings polygons marks other
alone_up rings polygons marks polygon zero up = let same : polygon ≡ 0 = omega arith in let e = ap (vertices_alone rings polygons marks) same in omega arith
alone_up rings polygons marks polygon (suc other) up = elim (cases_lt polygon (suc other)) [
  | inl less ↦ let before : vertices_alone rings polygons marks polygon ≤ vertices_alone rings polygons marks other = alone_up rings polygons marks polygon other (omega arith) in omega arith
  | inr last ↦ let same : polygon ≡ suc other = omega arith in let e = ap (vertices_alone rings polygons marks) same in omega arith
]

-- Work

-- work for each of some vertices, and for each of others
both_within : (sweeps alone shared vertices cost its_cost most : ℕ) → 1 ≤ sweeps → alone + shared ≤ vertices → cost ≤ most → its_cost ≤ most → 1 * (alone * cost) + sweeps * (shared * its_cost) ≤ sweeps * (vertices * most)
both_within sweeps alone shared vertices cost its_cost most some within less its_less =
    let own : alone * cost ≤ alone * most = mul-le-mul (omega arith) less in
    let its : shared * its_cost ≤ shared * most = mul-le-mul (omega arith) its_less in
    let own_all : 1 * (alone * cost) ≤ sweeps * (alone * most) = mul-le-mul some own in
    let its_all : sweeps * (shared * its_cost) ≤ sweeps * (shared * most) = mul-le-mul (omega arith) its in
    let sum : (alone + shared) * most ≤ vertices * most = mul-le-mul within (omega arith) in
    let all : sweeps * ((alone + shared) * most) ≤ sweeps * (vertices * most) = mul-le-mul (omega arith) sum in
    omega arith

-- and three tests for each
tests_within : (sweeps alone shared vertices : ℕ) → 1 ≤ sweeps → alone + shared ≤ vertices → 1 * (3 * alone) + sweeps * (3 * shared) ≤ sweeps * (3 * vertices)
tests_within sweeps alone shared vertices some within =
    let own : 1 * (3 * alone) ≤ sweeps * (3 * alone) = mul-le-mul some (omega arith) in
    let triple : 3 * (alone + shared) ≤ 3 * vertices = omega arith in
    let all : sweeps * (3 * (alone + shared)) ≤ sweeps * (3 * vertices) = mul-le-mul (omega arith) triple in
    omega arith

-- a sweep over some rings, and sweeps over others
pub sweeps_then : (sweeps alone shared vertices : ℕ) (before between after : Counted) → 1 ≤ sweeps → alone + shared ≤ vertices → AddsSweeps 1 alone before between → AddsSweeps sweeps shared between after → AddsSweeps sweeps vertices before after
sweeps_then sweeps alone shared vertices before between after some within first second =
    let own : bits alone ≤ bits vertices = no_more_digits alone vertices (omega arith) in
    let its : bits shared ≤ bits vertices = no_more_digits shared vertices (omega arith) in
    work_within (tests_within sweeps alone shared vertices some within)
    (both_within sweeps alone shared vertices (2 * bits alone + 10) (2 * bits shared + 10) (2 * bits vertices + 10) some within (omega arith) (omega arith))
    (both_within sweeps alone shared vertices (20 * bits alone) (20 * bits shared) (20 * bits vertices) some within (omega arith) (omega arith))
    (work_then first second)

-- one sweep is no more than several over more
pub sweeps_within : (sweeps alone vertices : ℕ) (before after : Counted) → 1 ≤ sweeps → alone ≤ vertices → AddsSweeps 1 alone before after → AddsSweeps sweeps vertices before after
sweeps_within sweeps alone vertices before after some within first = sweeps_then sweeps alone 0 vertices before after after some (omega arith) first (no_sweeps sweeps 0 after)

-- the work for one polygon is that of one sweep
pub one_sweep : (vertices : ℕ) (before after : Counted) → AddsWork (3 * vertices) (vertices * (2 * bits vertices + 10)) (vertices * (20 * bits vertices)) before after → AddsSweeps 1 vertices before after
one_sweep vertices before after work = work_within (omega arith) (omega arith) (omega arith) work

-- probes of both
pub raised_then : (alone shared vertices before between after : ℕ) → vertices ≤ alone + shared → raised alone before ≤ between → raised shared between ≤ after → raised vertices before ≤ after
raised_then alone shared vertices before between after within first second = omega arith
