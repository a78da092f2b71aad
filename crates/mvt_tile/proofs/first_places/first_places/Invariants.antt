use Rattle.std.proofs.Common.{◌≡◌, length}
use Rattle.mvt_tile.specs.Calls.Equal.{HeldAt, held_value}
use Rattle.mvt_tile.proofs.RuleFaults.HeldPlaces.{place_of}
use Rattle.mvt_tile.proofs.RuleFaults.Repetitions.{AreNoted}
use Rattle.mvt_tile.proofs.first_places.first_places.Given as goal

-- the first places of those that were passed were noted
abbrev pub invariant-loop-at : goal.invariant-loop-at
invariant-loop-at l = (length l.firsts.items ≡ l.fn.bound) × AreNoted held_value place_of (HeldAt l.fn.held.items) l.held.items l.at l.firsts.items
