use Rattle.std.proofs.Common.{[], ◌∷◌, ap, arith}
use Rattle.mvt_fault.specs.Place.{place_of}
use Rattle.mvt_tile.proofs.WireFaults.Tiles.{is_tile}
use Rattle.tile_tests.proofs.tile.rules.is_first_fault.Goals as goal

pub rule_fault-requires-clause-tile : goal.rule_fault-requires-clause-tile
rule_fault-requires-clause-tile c = is_tile _ c.in-None.ensures.none

pub rule_fault-requires-clause-after_tags : goal.rule_fault-requires-clause-after_tags
rule_fault-requires-clause-after_tags c = λ feature_record layer_index feature_index fault broken. (1, 0 ∷ 401 ∷ 0 ∷ 0 ∷ 0 ∷ 0 ∷ [], omega arith, ap place_of broken.1)
