use Rattle.mvt_fault.proofs.Places.{same_place_or_meetings}
use Rattle.mvt_fault.proofs.laws.one_fault_a_place.Goals as goal

pub returns : goal.returns
returns c = same_place_or_meetings
