use Rattle.std.proofs.Common.{None}
use Rattle.mvt_rules.proofs.Tiles.SmallNumbers.{tags_end}
use Rattle.mvt_confirm.specs.Calls.ByteSpan.{as_span}
use Rattle.mvt_confirm.proofs.message_bytes.MessageBytes.tags.Goals as goal

pub returns : goal.returns
returns c = λ it is.
    (c.new.ensures it.tags None).1 (tags_end c.args.self.now.bytes.now (as_span c.args.self.now.span) it is)
