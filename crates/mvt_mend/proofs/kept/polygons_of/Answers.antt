use Rattle.std.proofs.Common.{◌≡◌, ℕ, ◌⊎◌, sym, subst, arith}
use Rattle.mvt_sweep.specs.Rings.{rings_of}
use Rattle.mvt_sweep.proofs.Vertices.RingReads.{count_of_rings}
use Rattle.mvt_rules.specs.Polygon.{IsExterior}
use Rattle.mvt_mend.proofs.PolygonLists.{none_listed, more_listed, all_listed}
use Rattle.mvt_mend.proofs.kept.polygons_of.Goals as goal

pub polygons-init : goal.polygons-init
polygons-init c =
    let rings = rings_of c.args.rings.now in
    let begin = c.first_exterior-exterior in
    let count = count_of_rings c.args.rings.now in
    let there = subst (λ (count : ℕ). (begin.result ≡ count) ⊎ IsExterior rings begin.result) (sym count) begin.ensures.there in
    rw c.new-polygons.ensures.items (none_listed rings begin.result (omega (arith, count, begin.ensures.within)) begin.ensures.none there)

pub polygons-preserved : goal.polygons-preserved
polygons-preserved c =
    let rings = rings_of c.args.rings.now in
    let end = c.polygon_end-after in
    let count = count_of_rings c.args.rings.now in
    let ends = subst (λ (count : ℕ). (end.result ≡ count) ⊎ IsExterior rings end.result) (sym count) end.ensures.ends in
    more_listed rings c.polygons.polygons.items _ _ c.polygons.exterior end.result c.in_ok-push.ensures.items c.polygons.invariant (omega (arith, count, c.polygons-test.true)) end.ensures.further (omega (arith, count, end.ensures.within)) end.ensures.holes ends

pub returns : goal.returns
returns c = all_listed (rings_of c.args.rings.now) c.polygons.polygons.items _ c.polygons.exterior c.polygons.invariant (omega (arith, count_of_rings c.args.rings.now, c.polygons-test.false))
