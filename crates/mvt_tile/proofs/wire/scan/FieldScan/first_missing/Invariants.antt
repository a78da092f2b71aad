use Rattle.std.proofs.Common.{◌≡◌, drop}
use Rattle.mvt_wire.specs.Schema.{rules_of}
use Rattle.mvt_tile.specs.Calls.FieldScan.{was_seen}
use Rattle.mvt_tile.proofs.WireFaults.SchemaRules.{first_unseen}
use Rattle.mvt_tile.proofs.wire.scan.FieldScan.first_missing.Given as goal

abbrev pub invariant-loop-rule : goal.invariant-loop-rule
invariant-loop-rule l = first_unseen (rules_of l.fn.message) (was_seen l.self) ≡ first_unseen (drop l.rule-index (rules_of l.fn.message)) (was_seen l.self)
