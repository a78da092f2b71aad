use Rattle.mvt_wire.proofs.Encoding.FieldEncodings.{joined, parted}
use Rattle.mvt_wire.proofs.laws.message_joins_encodings.Goals as goal

pub returns-clause-joined : goal.returns-clause-joined
returns-clause-joined c = joined

pub returns-clause-parted : goal.returns-clause-parted
returns-clause-parted c = parted
