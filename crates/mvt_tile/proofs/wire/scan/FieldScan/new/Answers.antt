use Rattle.std.proofs.Common.{refl, rules}
use Rattle.mvt_tile.proofs.WireFaults.FieldScans.{none_split}
use Rattle.mvt_tile.proofs.wire.scan.FieldScan.new.Goals as goal

pub returns : goal.returns
returns c = λ message. record {
  occurred = λ field_number rule known. search rules;
  known = λ value. refl;
  several = λ value. refl;
  faultless = λ cause fault. none_split fault.before fault.entry fault.after fault.split;
}
