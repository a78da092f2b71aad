use Rattle.mvt_gate.proofs.FaultListLaws.{first_in_list_where_apart, least_list_by_polygon, list_by_polygon}
use Rattle.mvt_gate.proofs.laws.quick_faults.Goals as goal

pub returns-clause-by_polygon : goal.returns-clause-by_polygon
returns-clause-by_polygon c bytes faults = (least_list_by_polygon bytes faults, list_by_polygon bytes faults)

pub returns-clause-where_apart : goal.returns-clause-where_apart
returns-clause-where_apart c = first_in_list_where_apart
