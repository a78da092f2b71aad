use Rattle.std.proofs.Common.{◌≡◌, ◌+◌, ◌-◌, ◌^◌, ◌<◌, ℕ, List, length, drop, get_or, Vec, rules, refl, sym, ◌∙◌, subst, arith}
use Rattle.std.proofs.lemmas.List.{length-drop, length-take-le}
use Rattle.std.specs.declared.alloc.Global.{Global}
use Rattle.mvt_rules.specs.Nesting.{IsVertexOf}
use Rattle.mvt_plane.specs.Position.{Position}
use Rattle.mvt_polygon.specs.Nesting.{IsFirstOf, IsOfVertex, IsNestFault}
use Rattle.mvt_polygon.specs.Polygons.{ArePolygons}
use Rattle.mvt_sweep.specs.Rings.{rings_of, AreProperRings}
use Rattle.mvt_polygon.specs.declared.nesting.NestFault.{NestFault}
use Rattle.mvt_feature.proofs.Placed.AddedPassings.{ends_read}
use Rattle.mvt_polygon.proofs.PolygonSlices.{nest_rings_known, part_read}
use Rattle.mvt_polygon.proofs.ApartFaults.{rings_at, rings_listed, ends_within, exterior_read, vertex_there, first_vertex}
use Rattle.mvt_feature.proofs.Placed.PlacedPolygons.{AreLeftTo, first_of_part, nested_where_left, left_listed, wrong_has_fault, placed_where_none, around_where_some, first_in_slice, some_vertex, exterior_around, part_probes}
use Rattle.mvt_sweep.proofs.Sweeps.StatusCounts.{no_work}
use Rattle.mvt_sweep.proofs.Vertices.RingReads.{count_of_rings}
use Rattle.mvt_feature.proofs.feature.placed.cause_of.Goals as goal

pub first_wrong_hole-requires-clause-further : goal.first_wrong_hole-requires-clause-further
first_wrong_hole-requires-clause-further c = (ends_read c.args.rings.now c.args.polygons.now c.args.polygon c.requires.listed c.requires.there).0

pub first_wrong_hole-requires-clause-within : goal.first_wrong_hole-requires-clause-within
first_wrong_hole-requires-clause-within c =
    let ends = ends_read c.args.rings.now c.args.polygons.now c.args.polygon c.requires.listed c.requires.there in
    omega (arith, c.requires.size)

pub offset_bounds-rings-exterior : goal.offset_bounds-rings-exterior
offset_bounds-rings-exterior c =
    let ends = ends_read c.args.rings.now c.args.polygons.now c.args.polygon c.requires.listed c.requires.there in
    search rules

pub slice_bounds-own-end : goal.slice_bounds-own-end
slice_bounds-own-end c =
    let ends = ends_read c.args.rings.now c.args.polygons.now c.args.polygon c.requires.listed c.requires.there in
    search rules

pub index-requires : goal.index-requires
index-requires c =
    let ends = ends_read c.args.rings.now c.args.polygons.now c.args.polygon c.requires.listed c.requires.there in
    let wrong = c.in-Some.ensures.some in
    let before = wrong.before in
    let several = some_vertex c.args.rings.now c.in-Some.hole c.index-rings-hole.result c.requires.drawn (omega arith) c.index-rings-hole.is in
    omega (arith, c.index-rings-hole.result.ok.0)

pub fault_of_first_vertex-requires-clause-here : goal.fault_of_first_vertex-requires-clause-here
fault_of_first_vertex-requires-clause-here c =
    let it = rings_at c.args.polygons.now c.args.polygon in
    let ends = ends_read c.args.rings.now c.args.polygons.now c.args.polygon c.requires.listed c.requires.there in
    let wrong = c.in-Some.ensures.some in
    first_in_slice c.args.rings.now it c.in-Some.hole c.index-rings-hole.result c.index.result.now c.requires.drawn ends.1 wrong.following wrong.before c.index-rings-hole.is c.index.ensures

pub returns-in_err-fault-clause-none : goal.returns-in_err-fault-clause-none
returns-in_err-fault-clause-none c =
    let rings = rings_of c.args.rings.now in
    let it = rings_at c.args.polygons.now c.args.polygon in
    let clear = subst (λ (part : List (List Position)). (fault : NestFault) → IsOfVertex (c.in-Some.hole - it.exterior) 0 fault → ¬ IsNestFault part fault) (part_read c.args.rings.now it) c.in_err-fault.ensures.none in
    absurd (wrong_has_fault rings c.args.passings.now c.args.polygon it c.in-Some.hole c.requires.clear c.requires.drawn (rings_listed rings c.args.polygons.now c.args.polygon c.requires.listed c.requires.there)
    (c.requires.size ∙ sym (count_of_rings c.args.rings.now)) c.requires.passed c.in-Some.ensures.some clear)

pub returns-in_err-fault-clause-counted : goal.returns-in_err-fault-clause-counted
returns-in_err-fault-clause-counted c =
    part_probes c.args.rings.now (rings_at c.args.polygons.now c.args.polygon) (ends_read c.args.rings.now c.args.polygons.now c.args.polygon c.requires.listed c.requires.there).0
    c.fault_of_first_vertex.ensures.counted

pub returns-in_err-fault-clause-uncounted : goal.returns-in_err-fault-clause-uncounted
returns-in_err-fault-clause-uncounted c =
    let rings = rings_of c.args.rings.now in
    let it = rings_at c.args.polygons.now c.args.polygon in
    let clear = subst (λ (part : List (List Position)). (fault : NestFault) → IsOfVertex (c.in-Some.hole - it.exterior) 0 fault → ¬ IsNestFault part fault) (part_read c.args.rings.now it) c.in_err-fault.ensures.none in
    absurd (wrong_has_fault rings c.args.passings.now c.args.polygon it c.in-Some.hole c.requires.clear c.requires.drawn (rings_listed rings c.args.polygons.now c.args.polygon c.requires.listed c.requires.there)
    (c.requires.size ∙ sym (count_of_rings c.args.rings.now)) c.requires.passed c.in-Some.ensures.some clear)

pub in_feature-requires : goal.in_feature-requires
in_feature-requires c =
    let rings = rings_of c.args.rings.now in
    let it = rings_at c.args.polygons.now c.args.polygon in
    let ends = ends_within rings c.args.polygon it (rings_listed rings c.args.polygons.now c.args.polygon c.requires.listed c.requires.there) in
    let found = subst (λ (part : List (List Position)). IsFirstOf part (IsOfVertex (c.in-Some.hole - it.exterior) 0) c.in_ok-fault.fault) (part_read c.args.rings.now it) c.in_ok-fault.ensures.least in
    let fits : length c.args.rings.now < 2 ^ 64 = omega arith in
    nest_rings_known rings it c.in_ok-fault.fault ends (omega (arith, ends, count_of_rings c.args.rings.now, fits)) found.holds

pub returns-in-Some-clause-some : goal.returns-in-Some-clause-some
returns-in-Some-clause-some c =
    let rings = rings_of c.args.rings.now in
    let it = rings_at c.args.polygons.now c.args.polygon in
    let is_it = rings_listed rings c.args.polygons.now c.args.polygon c.requires.listed c.requires.there in
    let wrong = c.in-Some.ensures.some in
    let following = wrong.following in
    let before = wrong.before in
    let own = c.in-Some.hole - it.exterior in
    let number : c.in-Some.hole ≡ it.exterior + own = omega arith in
    let ends = ends_within rings c.args.polygon it is_it in
    let left = left_listed rings c.args.passings.now c.args.polygon it c.in-Some.hole is_it c.requires.passed (omega arith) wrong.first in
    let found = subst (λ (part : List (List Position)). IsFirstOf part (IsOfVertex own 0) c.in_ok-fault.fault) (part_read c.args.rings.now it) c.in_ok-fault.ensures.least in
    record {
      alone = c.in_ok-fault.fault;
      is = first_of_part rings it own c.in_ok-fault.fault c.requires.clear ends (omega arith) (subst (AreLeftTo rings it) number left) found;
      moved = c.in_feature.ensures;
    }

pub returns-in-Some-clause-counted : goal.returns-in-Some-clause-counted
returns-in-Some-clause-counted c =
    part_probes c.args.rings.now (rings_at c.args.polygons.now c.args.polygon) (ends_read c.args.rings.now c.args.polygons.now c.args.polygon c.requires.listed c.requires.there).0
    c.fault_of_first_vertex.ensures.counted

pub offset_bounds-around-exterior : goal.offset_bounds-around-exterior
offset_bounds-around-exterior c =
    let within = exterior_around c.args.rings.now c.args.polygons.now c.args.polygon c.args.around.now c.requires.listed c.requires.there c.requires.counted in
    search rules

pub bounds-around-exterior : goal.bounds-around-exterior
bounds-around-exterior c = exterior_around c.args.rings.now c.args.polygons.now c.args.polygon c.args.around.now c.requires.listed c.requires.there c.requires.counted

pub returns-then-around-exterior-eq0-clause-none : goal.returns-then-around-exterior-eq0-clause-none
returns-then-around-exterior-eq0-clause-none c =
    let rings = rings_of c.args.rings.now in
    let it = rings_at c.args.polygons.now c.args.polygon in
    let is_it = rings_listed rings c.args.polygons.now c.args.polygon c.requires.listed c.requires.there in
    let within = exterior_around c.args.rings.now c.args.polygons.now c.args.polygon c.args.around.now c.requires.listed c.requires.there c.requires.counted in
    let left = left_listed rings c.args.passings.now c.args.polygon it it.after is_it c.requires.passed (omega arith) c.in_default.ensures.none in
    placed_where_none rings c.args.around.now c.args.polygon it c.requires.clear c.requires.drawn is_it left c.requires.counted within c.if-around-exterior-eq0.true

pub index-requires-2 : goal.index-requires-2
index-requires-2 c =
    let within = exterior_read c.args.rings.now c.args.polygons.now c.args.polygon c.requires.listed c.requires.there in
    let several = some_vertex c.args.rings.now (rings_at c.args.polygons.now c.args.polygon).exterior c.index-rings-exterior.result c.requires.drawn within c.index-rings-exterior.is in
    omega (arith, c.index-rings-exterior.result.ok.0)

-- the first vertex of the exterior
first_there : (rings : List (Vec Position Global)) (polygons : List (ℕ × ℕ)) (polygon : ℕ) (exterior : Vec Position Global) (position : Position) → AreProperRings (rings_of rings)
    → ArePolygons (rings_of rings) polygons → polygon < length polygons → exterior ≡ get_or rings (rings_at polygons polygon).exterior exterior → position ≡ get_or exterior.items 0 position
    → IsVertexOf (rings_of rings) (rings_at polygons polygon).exterior 0 position
first_there rings polygons polygon exterior position proper listed there is here =
    let several = some_vertex rings (rings_at polygons polygon).exterior exterior proper (exterior_read rings polygons polygon listed there) is in
    vertex_there rings polygons polygon 0 exterior position listed there is (omega arith) here

pub returns-in_err-other-clause-none : goal.returns-in_err-other-clause-none
returns-in_err-other-clause-none c =
    let rings = rings_of c.args.rings.now in
    let it = rings_at c.args.polygons.now c.args.polygon in
    let is_it = rings_listed rings c.args.polygons.now c.args.polygon c.requires.listed c.requires.there in
    let within = exterior_around c.args.rings.now c.args.polygons.now c.args.polygon c.args.around.now c.requires.listed c.requires.there c.requires.counted in
    let here = first_there c.args.rings.now c.args.polygons.now c.args.polygon c.index-rings-exterior.result c.index-2.result.now c.requires.drawn c.requires.listed c.requires.there c.index-rings-exterior.is c.index-2.ensures in
    let around = around_where_some rings c.args.around.now c.args.polygon it c.index-2.result.now is_it c.requires.counted within c.if-around-exterior-eq0.false here in
    absurd (c.in_err-other.ensures.none around.0 around.1)

pub returns-clause-some : goal.returns-clause-some
returns-clause-some c =
    let rings = rings_of c.args.rings.now in
    let it = rings_at c.args.polygons.now c.args.polygon in
    let is_it = rings_listed rings c.args.polygons.now c.args.polygon c.requires.listed c.requires.there in
    let here = first_there c.args.rings.now c.args.polygons.now c.args.polygon c.index-rings-exterior.result c.index-2.result.now c.requires.drawn c.requires.listed c.requires.there c.index-rings-exterior.is c.index-2.ensures in
    let left = left_listed rings c.args.passings.now c.args.polygon it it.after is_it c.requires.passed (omega arith) c.in_default.ensures.none in (
      refl,
      nested_where_left rings c.args.polygon it c.requires.clear c.requires.drawn is_it left,
      first_vertex rings c.args.polygon 0 c.in_ok-other.other it c.index-2.result.now is_it here (λ vertex less other fault. absurd (omega arith)) c.in_ok-other.ensures.first,
    )

pub polygon_around-requires : goal.polygon_around-requires
polygon_around-requires c =
    record { listed = c.requires.listed }

pub bounds-rings-exterior : goal.bounds-rings-exterior
bounds-rings-exterior c =
    exterior_read c.args.rings.now c.args.polygons.now c.args.polygon c.requires.listed c.requires.there

pub returns-in_err-other-clause-counted : goal.returns-in_err-other-clause-counted
returns-in_err-other-clause-counted c =
    no_work c.args.count.now

pub returns-clause-counted : goal.returns-clause-counted
returns-clause-counted c =
    no_work c.args.count.now

pub bounds-rings-hole : goal.bounds-rings-hole
bounds-rings-hole c =
    let ends = ends_read c.args.rings.now c.args.polygons.now c.args.polygon c.requires.listed c.requires.there in
    let wrong = c.in-Some.ensures.some in
    let before = wrong.before in
    omega arith

pub fault_of_first_vertex-requires-clause-there : goal.fault_of_first_vertex-requires-clause-there
fault_of_first_vertex-requires-clause-there c =
    let it = rings_at c.args.polygons.now c.args.polygon in
    let ends = ends_read c.args.rings.now c.args.polygons.now c.args.polygon c.requires.listed c.requires.there in
    let wrong = c.in-Some.ensures.some in
    let before = wrong.before in
    let following = wrong.following in
    let rest = length-drop it.exterior c.args.rings.now in
    let all = length-take-le (it.after - it.exterior) (drop it.exterior c.args.rings.now) (omega arith) in
    omega arith
