use Rattle.std.proofs.Common.{true≢false, sym, ◌∙◌}
use Rattle.std.proofs.lemmas.Bool.Decides.{not_from_Decides}
use Rattle.mvt_rules.specs.PolygonFault.{IsMeetingBy}
use Rattle.mvt_confirm.proofs.Shapes.PolygonMembers.{meeting_by_parts, second_member, test_fails}
use Rattle.mvt_rules.proofs.Validity.UnshownMeetings.{rings_in_order}
use Rattle.mvt_confirm.proofs.meeting.is_meeting.Goals as goal
use Rattle.mvt_confirm.proofs.meeting.is_meeting.Goals.{then-are_polygon_rings, else-are_polygon_rings, then-is_ring_of_polygon, else-is_ring_of_polygon}

pub returns-then-is_kept_apart : goal.returns-then-is_kept_apart
returns-then-is_kept_apart c = λ rings draws. elim c.if-is_ring_of_polygon.branch [
  | then-is_ring_of_polygon w ↦ elim c.if-are_polygon_rings.branch [
    | then-are_polygon_rings v ↦
        let first = c.args.meeting.first in
        let second = c.args.meeting.second in
        let sound = (c.are_polygon_rings.ensures rings (c.vertices.ensures rings draws)).0 v.if-are_polygon_rings.true in
        let member = (v.is_ring_of_polygon.ensures rings draws sound).0 (sym v.value-is ∙ w.if-is_ring_of_polygon.true) in
        let kept = w.is_kept_apart.ensures rings member.0 second.ring draws sound member.1 member.2 in
        meeting_by_parts c.args.profile rings c.args.polygon c.args.meeting.first c.args.meeting.second _ sound member
        (λ before. (kept (rings_in_order first second before)).0 (sym w.value-is ∙ c.if-is_kept_apart.true)) (c.do_meet.ensures rings draws)
    | else-are_polygon_rings v ↦ absurd (true≢false (sym w.if-is_ring_of_polygon.true ∙ v.value-is ∙ v.if-are_polygon_rings.false))
  ]
  | else-is_ring_of_polygon w ↦ absurd (true≢false (sym c.if-is_kept_apart.true ∙ w.value-is ∙ w.if-is_ring_of_polygon.false))
]

pub returns-else-is_kept_apart : goal.returns-else-is_kept_apart
returns-else-is_kept_apart c = λ rings draws. test_fails c.if-is_ring_of_polygon.value c.if-is_kept_apart.false
    (λ (meeting : IsMeetingBy c.args.profile rings c.args.polygon c.args.meeting.first c.args.meeting.second (record { x = c.args.meeting.x; y = c.args.meeting.y; w = c.args.meeting.w })). elim c.if-is_ring_of_polygon.branch [
      | then-is_ring_of_polygon w ↦
          let first = c.args.meeting.first in
          let second = c.args.meeting.second in
          let kept = w.is_kept_apart.ensures rings meeting.polygon_rings second.ring draws meeting.of.sound meeting.of.there meeting.second_in (rings_in_order first second meeting.in_order) in
          not_from_Decides w.is_kept_apart.result kept (sym w.value-is ∙ c.if-is_kept_apart.false) meeting.first_in
      | else-is_ring_of_polygon w ↦ elim c.if-are_polygon_rings.branch [
        | then-are_polygon_rings v ↦
            not_from_Decides v.is_ring_of_polygon.result (v.is_ring_of_polygon.ensures rings draws meeting.of.sound) (sym v.value-is ∙ w.if-is_ring_of_polygon.false)
            (second_member c.args.profile rings c.args.polygon c.args.meeting.first c.args.meeting.second _ meeting)
        | else-are_polygon_rings v ↦ not_from_Decides c.are_polygon_rings.result (c.are_polygon_rings.ensures rings (c.vertices.ensures rings draws)) v.if-are_polygon_rings.false meeting.of.sound
      ]
    ])
