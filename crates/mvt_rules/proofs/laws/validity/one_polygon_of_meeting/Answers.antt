use Rattle.mvt_rules.proofs.Validity.TrueFaults.{one_polygon_of_ring}
use Rattle.mvt_fault.specs.declared.profile.Profile.TheVariants.{Polygon}
use Rattle.mvt_rules.proofs.laws.validity.one_polygon_of_meeting.Goals as goal

pub returns-clause-by_first : goal.returns-clause-by_first
returns-clause-by_first c bytes layer feature polygon other first second its_first its_second x y w its_x its_y its_w one another =
    one_polygon_of_ring Polygon bytes layer feature polygon other first.ring its_first.ring first second its_first its_second x y w its_x its_y its_w
    one another one.3.2.first_in another.3.2.first_in

pub returns-clause-by_second : goal.returns-clause-by_second
returns-clause-by_second c profile bytes layer feature polygon other first second its_first its_second x y w its_x its_y its_w one another =
    one_polygon_of_ring profile bytes layer feature polygon other second.ring its_second.ring first second its_first its_second x y w its_x its_y its_w
    one another one.3.2.second_in another.3.2.second_in
