use Rattle.std.proofs.Common.{ℕ, subst}
use Rattle.mvt_splice.specs.Calls.Writing.{WritesVarint}
use Rattle.mvt_splice.proofs.Splicing.Encodings.{WritesFields-delimited}
use Rattle.mvt_splice.proofs.writing.add_delimited.Goals as goal

pub returns : goal.returns
returns c =
    let key = c.in_ok-add_varint.ensures in
    let size = c.in_ok-add_varint-2.ensures in
    WritesFields-delimited c.args.number c.args.out.now.items c.add_varint.new.out.items c.add_varint-2.new.out.items c.extend_from_slice.new.self.items c.args.payload.now c.requires.first c.requires.last
    (subst (λ (n : ℕ). WritesVarint n c.args.out.now.items c.add_varint.new.out.items) c.from.ensures key) size c.in_ok-extend_from_slice.ensures.items
