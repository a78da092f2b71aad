use Rattle.std.proofs.Common.{inr}
use Rattle.std.proofs.lemmas.Result.{IfOk-weaker}
use Rattle.mvt_tile.proofs.WireFaults.Tiles.{is_tile}
use Rattle.mvt_gate.proofs.faults.faults_by.Goals as goal

pub rule_faults-requires-clause-tile : goal.rule_faults-requires-clause-tile
rule_faults-requires-clause-tile over c = is_tile c.args.bytes.now c.in_default.ensures.none

pub returns-in_default : goal.returns-in_default
returns-in_default over c =
    let tile = is_tile c.args.bytes.now c.in_default.ensures.none in
    IfOk-weaker c.rule_faults.result _ _ (λ faults found. inr (tile.0, tile.1, found tile.0 tile.1)) c.rule_faults.ensures
