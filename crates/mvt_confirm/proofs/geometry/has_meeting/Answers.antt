use Rattle.mvt_rules.specs.PolygonFault.{IsMeetingBy}
use Rattle.mvt_confirm.proofs.Features.DrawnFeatures.{no_rings_decided, rings_decide}
use Rattle.mvt_confirm.proofs.geometry.has_meeting.Goals as goal

pub returns-in-Some : goal.returns-in-Some
returns-in-Some c = λ tile is.
    rings_decide c.args.bytes.now c.args.layer c.args.feature tile c.in-Some.place c.is_meeting.result
    (λ rings. IsMeetingBy c.args.profile rings c.args.polygon c.args.meeting.first c.args.meeting.second (record { x = c.args.meeting.x; y = c.args.meeting.y; w = c.args.meeting.w })) is c.in-Some.ensures.there c.is_meeting.ensures

pub returns-in-None : goal.returns-in-None
returns-in-None c = λ tile is.
    no_rings_decided c.args.bytes.now c.args.layer c.args.feature tile
    (λ rings. IsMeetingBy c.args.profile rings c.args.polygon c.args.meeting.first c.args.meeting.second (record { x = c.args.meeting.x; y = c.args.meeting.y; w = c.args.meeting.w })) is c.in-None.ensures.none
