use Rattle.mvt_confirm.proofs.Shapes.PolygonMembers.{member_decided}
use Rattle.mvt_confirm.proofs.meeting.is_kept_apart.Goals as goal

pub returns-in-Polygon : goal.returns-in-Polygon
returns-in-Polygon c = λ rings its last draws sound there of up_to. rw c.in-Polygon.is (member_decided rings c.args.polygon c.args.ring its there (c.is_ring_of_polygon.ensures rings draws sound))
