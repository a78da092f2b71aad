-- Spans of bytes, as the program has them.
use Rattle.mvt_wire.specs.Payload.{Span}
use Rattle.mvt_confirm.specs.declared.span.ByteSpan.{ByteSpan}

-- the span that the program names
abbrev pub as_span : ByteSpan → Span
as_span span = record { from = span.from; to = span.to }
