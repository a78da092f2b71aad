use Rattle.std.proofs.Common.{◌≡◌, drop}
use Rattle.serde_json.specs.Data.{no_members}
use Rattle.serde_json.specs.View.{members_view}
use Rattle.mvt_fault.specs.Calls.Members.{with_numbers}
use Rattle.mvt_fault.proofs.text.members.members_of.Given as goal

-- the numbers that are left make what all of them make
abbrev pub invariant-loop-key : goal.invariant-loop-key
invariant-loop-key l = with_numbers (members_view l.map.entries) (drop l.key-index l.numbers) ≡ with_numbers no_members l.numbers
