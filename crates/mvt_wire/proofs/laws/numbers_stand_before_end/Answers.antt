use Rattle.mvt_wire.proofs.FieldNumbers.NumberPlaces.{numbers_between}
use Rattle.mvt_wire.proofs.laws.numbers_stand_before_end.Goals as goal

pub returns : goal.returns
returns c = numbers_between
