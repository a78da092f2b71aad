use Rattle.std.proofs.Common.{ℕ, ◌+◌, ◌/◌, ◌%◌, ap, arith}
use Rattle.mvt_splice.proofs.Splicing.Encodings.{IsWritingVarint-none, IsWritingVarint-more, WritesVarint-last}
use Rattle.mvt_splice.proofs.writing.add_varint.Goals as goal

pub groups-init : goal.groups-init
groups-init c = IsWritingVarint-none c.args.number c.args.out.now.items

pub groups-preserved : goal.groups-preserved
groups-preserved c =
    IsWritingVarint-more c.args.number c.args.out.now.items c.groups.out.items c.push.new.self.items c.groups.rest (c.groups.rest % c.from-in-groups.result + 128) (c.groups.rest / c.from-rest.result)
    c.groups.invariant (omega arith) (ap (λ (by : ℕ). c.groups.rest % by + 128) c.from-in-groups.ensures) (ap (λ (by : ℕ). c.groups.rest / by) c.from-rest.ensures) c.in_ok-push.ensures.items

pub returns : goal.returns
returns c = WritesVarint-last c.args.number c.args.out.now.items c.groups.out.items c.push-2.new.self.items c.groups.rest (omega arith) c.groups.invariant (omega arith) c.in_ok-push-2.ensures.items
