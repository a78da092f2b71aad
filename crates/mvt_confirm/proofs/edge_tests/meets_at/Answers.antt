use Rattle.mvt_confirm.proofs.Shapes.EdgeMeetings.{found_same, meeting_by_tests}
use Rattle.mvt_confirm.proofs.edge_tests.meets_at.Goals as goal

pub returns-then-eq : goal.returns-then-eq
returns-then-eq c rings are =
    meeting_by_tests rings c.args.first.now c.args.second.now c.args.vertex_count c.args.point.now are
    (λ impossible. absurd (cc impossible), λ tests. absurd (tests.different ((found_same c.eq.result _ _ c.eq.ensures).0 c.if-eq.true)))

pub returns-then-not-lies_on_both : goal.returns-then-not-lies_on_both
returns-then-not-lies_on_both c rings are =
    meeting_by_tests rings c.args.first.now c.args.second.now c.args.vertex_count c.args.point.now are
    (λ impossible. absurd (cc impossible), λ tests. let both = c.lies_on_both.ensures.1 (tests.on_first, tests.on_second) in absurd (cc (both, c.if-not-lies_on_both.true)))

pub returns : goal.returns
returns c rings are =
    let lies = c.lies_on_both.ensures.0 c.if-not-lies_on_both.false in
    meeting_by_tests rings c.args.first.now c.args.second.now c.args.vertex_count c.args.point.now are (
      λ found. let apart = c.is_apart_from_shared.ensures.0 found in record {
        different = λ same. let both = (found_same c.eq.result _ _ c.eq.ensures).1 same in absurd (cc (both, c.if-eq.false));
        on_first = lies.0;
        on_second = lies.1;
        after_first = apart.0;
        after_second = apart.1;
      },
      λ tests. c.is_apart_from_shared.ensures.1 (tests.after_first, tests.after_second),
    )
