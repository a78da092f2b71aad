use Rattle.mvt_fault.proofs.Candidates.{wire_only, wire_in_range}
use Rattle.mvt_fault.proofs.reading.wire.wire_candidate.Goals as goal

pub returns : goal.returns
returns c =
    let made = c.in_ok-wire_object.ensures in
    record {
      only = wire_only _ _ c.args.code _ _ _ c.requires c.scope_of-scope.ensures c.ordinal_at-at.ensures c.number_at-field.ensures made;
      fault = wire_in_range _ c.args.code _ _ _ _ made c.wire_fault_in_range.ensures;
    }
