use Rattle.std.proofs.Common.{◌≡◌, take}
use Rattle.mvt_mend.proofs.kept.are_same_positions.Given as goal

-- the vertices so far are the same
abbrev pub invariant-loop-vertex : goal.invariant-loop-vertex
invariant-loop-vertex l = take l.vertex l.one ≡ take l.vertex l.other
