use Rattle.mvt_rules.proofs.Rings.PolygonNumbers.{polygon_of_ring}
use Rattle.mvt_rules.proofs.Rings.SamePolygons.{same_polygon, one_polygon}
use Rattle.mvt_rules.proofs.laws.rings.one_polygon_a_ring.Goals as goal

pub returns-clause-some : goal.returns-clause-some
returns-clause-some c = polygon_of_ring

pub returns-clause-alone : goal.returns-clause-alone
returns-clause-alone c = one_polygon

pub returns-clause-numbered : goal.returns-clause-numbered
returns-clause-numbered c = same_polygon
