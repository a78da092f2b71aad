use Rattle.std.proofs.Common.{◌+◌, ◌<◌, ◌^◌, length, ap, arith}
use Rattle.mvt_wire.specs.Field.{content_of}
use Rattle.mvt_wire.specs.Payload.{span_of}
use Rattle.mvt_wire.proofs.payload.payload_span.Goals as goal

pub overflow_add-result : goal.overflow_add-result
overflow_add-result c =
    let end = c.in-Bytes.from + length c.in-Bytes.slice.now in
    let below : end < 2 ^ 64 = c.requires.below (record { from = c.in-Bytes.from; to = end }) (ap (λ body. span_of (content_of body)) c.in-Bytes.is) in
    omega arith
