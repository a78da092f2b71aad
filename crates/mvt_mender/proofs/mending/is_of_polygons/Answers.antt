use Rattle.std.proofs.lemmas.Bool.{false≢true}
use Rattle.mvt_tile.proofs.RuleFaults.PolygonScan.{other_kind}
use Rattle.mvt_mender.proofs.mending.is_of_polygons.Goals as goal

pub returns-in_default : goal.returns-in_default
returns-in_default c = record {
  yes = λ never. absurd (false≢true never);
  no = λ none it encodes. other_kind c.kind.result it c.in_default.not-Polygon (c.kind.ensures it encodes);
}
