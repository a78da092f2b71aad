use Rattle.std.proofs.Common.{SFits, w32, ◌/◌, ◌+◌, ◌-◌, refl, rules, arith}
use Rattle.std.proofs.lemmas.Int.{ints}
use Rattle.std.proofs.lemmas.Option.{slice_get_read}
use Rattle.mvt_feature.proofs.Cells.SpreadOrder.{beyond_from}
use Rattle.mvt_feature.proofs.feature.later.spread.Spread.begun.Goals as goal

pub halves-preserved : goal.halves-preserved
halves-preserved c =
    let order = c.args.self.now.order.items in
    let middle = c.halves.from + (c.halves.to - c.halves.from) / 2 in
    let pair = c.index.result.now in
    let there = slice_get_read order _ middle pair refl (omega arith) c.index.ensures in
    let fits : SFits w32 pair.0 = search rules in
    record {
      within = omega arith;
      following = beyond_from c.args.self.now.bounds.items order middle _ pair.0 pair.1 c.requires there (grind (arith, ints));
    }
