use Rattle.mvt_wire.proofs.Encoding.Varints.{last_byte, earlier_byte, IsVarint-take, sum_of_groups-take-below}
use Rattle.mvt_wire.proofs.laws.varint_ends_below_128.Goals as goal

pub returns-clause-last : goal.returns-clause-last
returns-clause-last c = last_byte

pub returns-clause-earlier : goal.returns-clause-earlier
returns-clause-earlier c = earlier_byte

pub returns-clause-ended : goal.returns-clause-ended
returns-clause-ended c = IsVarint-take

pub returns-clause-weight : goal.returns-clause-weight
returns-clause-weight c = sum_of_groups-take-below
