use Rattle.std.proofs.Common.{refl}
use Rattle.mvt_tile.proofs.RuleFaults.LayerNames.{PassesLayers-more}
use Rattle.mvt_tile.proofs.rules.layer_rules.LayerRules.note.Goals as goal

pub returns-clause-passes : goal.returns-clause-passes
returns-clause-passes c = λ goes_on tile passes next.
    PassesLayers-more c.args.self.now (record { names = c.add.new.self; other_version = c.args.self.now.other_version }) tile c.args.version c.args.name.now next passes
    c.if-version-ne2.false c.in_ok-add.ensures refl
