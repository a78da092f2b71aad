use Rattle.std.proofs.Common.{length, arith}
use Rattle.mvt_tile.proofs.RuleFaults.TagFaults.{no_tags}
use Rattle.mvt_tile.proofs.RuleFaults.TagScans.{HasGoodTags-own}
use Rattle.mvt_tile.proofs.walk.tags.tags_pass.Goals as goal

pub returns-then-has_no_tag-clause-tags : goal.returns-then-has_no_tag-clause-tags
returns-then-has_no_tag-clause-tags c = λ pass it encodes layer_record like.
    no_tags (length layer_record.keys) (length layer_record.values) it.tags (c.has_no_tag.ensures c.if-has_no_tag.true it encodes)

pub returns-clause-tags : goal.returns-clause-tags
returns-clause-tags c = λ pass it encodes.
    HasGoodTags-own c.args.most c.in-Some.own c.add.new.self it ((rw c.in-Some.is at c.in_ok-own.ensures) it.tags (c.tags-tags.ensures.all it encodes))
    c.add.ensures.keys.1 c.add.ensures.values.1 (omega (arith, c.if-own-most.false)) (omega (arith, c.if-own-most-2.false))
