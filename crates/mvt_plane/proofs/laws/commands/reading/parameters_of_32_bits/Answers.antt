use Rattle.mvt_plane.proofs.Spelling.Readers.{is_parameter, zero_parameter}
use Rattle.mvt_plane.proofs.laws.commands.reading.parameters_of_32_bits.Goals as goal

pub returns-clause-parameter : goal.returns-clause-parameter
returns-clause-parameter c = is_parameter

pub returns-clause-zero : goal.returns-clause-zero
returns-clause-zero c = zero_parameter
