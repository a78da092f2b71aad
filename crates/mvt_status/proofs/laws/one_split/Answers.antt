use Rattle.std.proofs.Common.{◌≡◌, refl, slice_index}
use Rattle.mvt_status.proofs.SplitPoints.{there_is_a_split, one_split}
use Rattle.mvt_status.proofs.laws.one_split.Goals as goal

pub returns : goal.returns
returns c = record {
  there = there_is_a_split;
  one = λ test edges point other. one_split (λ edge answer. answer ≡ test edge) edges point other (λ i within. (test (slice_index edges i), refl));
}
