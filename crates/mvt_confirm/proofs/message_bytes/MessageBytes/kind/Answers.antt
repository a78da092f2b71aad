use Rattle.std.proofs.Common.{[], ◌∷◌}
use Rattle.mvt_confirm.specs.Calls.ByteSpan.{as_span}
use Rattle.mvt_confirm.proofs.Features.FeatureNumbers.{kind_ends}
use Rattle.mvt_confirm.proofs.message_bytes.MessageBytes.kind.Goals as goal

pub returns : goal.returns
returns c = λ it is. c.number_of.ensures (it.kind ∷ []) (kind_ends c.args.self.now.bytes.now (as_span c.args.self.now.span) it is)
