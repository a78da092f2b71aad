use Rattle.std.proofs.Common.{◌+◌, ◌<◌, ◌^◌, ap, length, arith}
use Rattle.mvt_wire.specs.Field.{content_of}
use Rattle.mvt_wire.specs.Payload.{span_of}
use Rattle.mvt_confirm.proofs.span.payload_in.Goals as goal

pub overflow_add-result : goal.overflow_add-result
overflow_add-result c =
    let below : c.in-Bytes.from + length c.in-Bytes.slice.now < 2 ^ 64 =
    c.requires (record { from = c.in-Bytes.from; to = c.in-Bytes.from + length c.in-Bytes.slice.now }) (ap (λ body. span_of (content_of body)) c.in-Bytes.is) in
    omega arith
