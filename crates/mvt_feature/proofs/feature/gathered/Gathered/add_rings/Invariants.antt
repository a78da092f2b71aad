use Rattle.std.proofs.Common.{◌≡◌, ◌-◌, ◌++◌, slice_range}
use Rattle.std.specs.List.{range_with_len}
use Rattle.mvt_sweep.specs.Rings.{rings_of}
use Rattle.mvt_feature.proofs.feature.gathered.Gathered.add_rings.Given as goal

-- the rings before this one are added
abbrev pub invariant-loop-ring : goal.invariant-loop-ring
invariant-loop-ring l = record {
  rings : rings_of l.self.rings.items ≡ rings_of l.initial.self.rings.items ++ slice_range (rings_of l.rings) l.from l.ring;
  places : l.self.ring_of.items ≡ l.initial.self.ring_of.items ++ range_with_len l.from (l.ring - l.from);
  numbers : l.self.polygon_of.items ≡ l.initial.self.polygon_of.items;
}
