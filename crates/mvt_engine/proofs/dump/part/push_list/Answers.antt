use Rattle.std.proofs.Common.{map, string_bytes, take}
use Rattle.mvt_engine.proofs.DumpLists.{ListsMembers-more, ListsMembers-whole, all_parts}
use Rattle.mvt_engine.proofs.dump.part.push_list.Goals as goal

pub members-preserved : goal.members-preserved
members-preserved over c =
    ListsMembers-more over.P.Part.part_data c.args.list.now c.members.part-index c.part-item.result (string_bytes c.args.text.now) (string_bytes c.members.text) (string_bytes c.push_member.new.text)
    c.members.is_first c.members-test.true c.part-item.is c.members.invariant c.in_ok-push_member.ensures

pub returns : goal.returns
returns over c =
    ListsMembers-whole c.push_str-2.result (string_bytes c.args.text.now) (string_bytes c.members.text) (string_bytes c.push_str-2.new.self)
    (map over.P.Part.part_data (take c.members.part-index c.args.list.now)) (map over.P.Part.part_data c.args.list.now) c.members.is_first
    c.members.invariant (all_parts over.P.Part.part_data c.args.list.now c.members.part-index c.members-test.false) c.push_str-2.ensures.bytes
