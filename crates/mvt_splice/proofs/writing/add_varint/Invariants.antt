use Rattle.mvt_splice.proofs.Splicing.Encodings.{IsWritingVarint}
use Rattle.mvt_splice.proofs.writing.add_varint.Given as goal

-- the groups that were written, and what is left
abbrev pub invariant-groups : goal.invariant-groups
invariant-groups l = IsWritingVarint l.number l.fn.out.items l.out.items l.rest

abbrev pub decreases-groups : goal.decreases-groups
decreases-groups l = l.rest
