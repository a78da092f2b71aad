use Rattle.std.proofs.Common.{◌≡◌, take}
use Rattle.mvt_sweep.specs.Work.{vertex_count}
use Rattle.mvt_sweep.specs.Rings.{rings_of}
use Rattle.mvt_sweep.proofs.Notes.RingIndexes.{AreFirstRings}
use Rattle.mvt_sweep.proofs.sweep.ring_index.RingIndex.new.Given as goal

-- the rings so far have their vertices up to here, and are in the index
abbrev pub invariant-loop-ring : goal.invariant-loop-ring
invariant-loop-ring l = record {
  end : l.end ≡ vertex_count (take l.ring (rings_of l.rings));
  index : AreFirstRings (rings_of l.rings) l.ring l.index.items;
}
