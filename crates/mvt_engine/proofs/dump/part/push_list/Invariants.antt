use Rattle.std.proofs.Common.{map, string_bytes, take}
use Rattle.mvt_engine.proofs.DumpLists.{ListsMembers}
use Rattle.mvt_engine.proofs.dump.part.push_list.Given as goal

-- the parts so far are written
abbrev pub invariant-members : goal.invariant-members
invariant-members over l = ListsMembers (string_bytes l.fn.text) (string_bytes l.text) (map over.P.Part.part_data (take l.part-index l.list)) l.is_first
