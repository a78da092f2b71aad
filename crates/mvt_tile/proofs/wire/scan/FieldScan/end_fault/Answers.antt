use Rattle.std.proofs.Common.{◌≡◌, true, ◌&&◌, not, rules, sym}
use Rattle.mvt_wire.specs.declared.schema.Message.TheVariants.{Value}
use Rattle.mvt_tile.proofs.WireFaults.EndFaults.{Missing-first, EndFault-none}
use Rattle.mvt_tile.proofs.wire.scan.FieldScan.end_fault.Goals as goal
use Rattle.mvt_tile.proofs.wire.scan.FieldScan.end_fault.Goals.{else-eq-via-then-eq+else-not-has_one, else-eq-via-else-eq}

pub returns-in-Some : goal.returns-in-Some
returns-in-Some c = λ entries passes. Missing-first c.args.message c.args.self.now entries c.args.end c.in-Some.number c.in-Some.ensures.missing c.in-Some.ensures.least passes

pub returns : goal.returns
returns c = λ entries passes.
    let scan = c.args.self.now in
    EndFault-none c.args.message scan entries c.args.end c.in_default.ensures.none
    (elim c.else-eq.branch as (λ w. c.args.message ≡ Value → (scan.known && not scan.several) ≡ true) [
      | else-eq-via-then-eq+else-not-has_one w ↦ λ value. sym w.if-not-has_one.ensures
      | else-eq-via-else-eq w ↦ λ value. search rules
    ]) passes
