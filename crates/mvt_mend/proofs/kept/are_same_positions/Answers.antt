use Rattle.std.proofs.Common.{◌<◌, length, refl, arith}
use Rattle.std.proofs.lemmas.Option.{slice_get_read}
use Rattle.mvt_mend.proofs.KeptPolygons.{same_more, same_whole}
use Rattle.mvt_mend.proofs.kept.are_same_positions.Goals as goal

pub loop-vertex-preserved : goal.loop-vertex-preserved
loop-vertex-preserved c =
    let one = c.args.one.now in
    let other = c.args.other.now in
    let vertex = c.loop-vertex.vertex in
    let its = c.index-one-vertex.result in
    let others = c.index-other-vertex.result in
    let within : vertex < length other = omega (arith, c.if-one-other.false, c.loop-vertex-test.true) in
    same_more one other vertex its others c.loop-vertex.invariant c.loop-vertex-test.true within (slice_get_read one (length one) vertex its refl c.loop-vertex-test.true c.index-one-vertex.is) (slice_get_read other (length other) vertex others refl within c.index-other-vertex.is)
    (c.is_same_position.ensures.0 c.if-not-is_same_position.false)

pub returns : goal.returns
returns c = λ _.
    let one = c.args.one.now in
    let other = c.args.other.now in
    same_whole one other c.loop-vertex.vertex c.loop-vertex.invariant c.loop-vertex-test.false (omega (arith, c.if-one-other.false, c.loop-vertex-test.false))
