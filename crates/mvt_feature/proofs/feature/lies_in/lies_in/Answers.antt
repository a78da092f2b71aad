use Rattle.std.proofs.Common.{refl}
use Rattle.std.proofs.lemmas.Option.{slice_get_read}
use Rattle.mvt_feature.proofs.Cells.LyingRings.{lies_by_first}
use Rattle.mvt_feature.proofs.feature.lies_in.lies_in.Goals as goal

pub returns-then-inside : goal.returns-then-inside
returns-then-inside c = λ clear.
    let first = c.index-ring-0.result in
    let there = slice_get_read c.args.ring.now _ 0 first refl c.requires.some c.index-ring-0.is in
    lies_by_first c.args.ring.now c.args.around.now first there (c.inside.ensures.0 c.if-inside.true) (c.is_clear.ensures clear)
