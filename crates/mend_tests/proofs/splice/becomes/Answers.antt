use Rattle.std.proofs.Common.{inl, inr}
use Rattle.mvt_rules.proofs.Tiles.Tiles.{tile_or_fault}
use Rattle.mend_tests.proofs.splice.becomes.Goals as goal

pub splice-requires-clause-tile : goal.splice-requires-clause-tile
splice-requires-clause-tile c = elim (tile_or_fault c.args.bytes.now) [
  | inl tile ↦ tile
  | inr bad ↦ absurd (c.in_default.ensures.none bad.0 bad.1 bad.2)
]
