use Rattle.std.proofs.Common.{false, refl}
use Rattle.mvt_confirm.proofs.Shapes.PolygonMembers.{no_member, test_fails, decided_by_place}
use Rattle.mvt_confirm.proofs.meeting.is_ring_of_polygon.Goals as goal

pub returns-in-Some : goal.returns-in-Some
returns-in-Some c = λ rings draws sound.
    decided_by_place rings c.args.polygon c.args.ring c.in-Some.place (c.in-Some.ensures.there rings (c.vertices.ensures rings draws) sound)

pub returns-in-None : goal.returns-in-None
returns-in-None c = λ rings draws sound.
    test_fails false refl (no_member rings c.args.polygon c.args.ring (c.in-None.ensures.none rings (c.vertices.ensures rings draws) sound))
