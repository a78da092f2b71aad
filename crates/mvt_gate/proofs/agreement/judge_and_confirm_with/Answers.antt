use Rattle.std.proofs.Common.{◌≡◌, subst}
use Rattle.mvt_rules.specs.Shows.{ShowsBy}
use Rattle.mvt_gate.proofs.agreement.judge_and_confirm_with.Goals as goal
use Rattle.mvt_gate.proofs.agreement.judge_and_confirm_with.Goals.{in-Yes, in-No}

pub returns-clause-is_confirmed_exactly_where_shown : goal.returns-clause-is_confirmed_exactly_where_shown
returns-clause-is_confirmed_exactly_where_shown c =
    elim c.match-verdict.branch [
      | in-Yes w ↦
          let yes = w.in-Yes.is in
          let unconfirmed = w.is_confirmed-is in
          (λ told. absurd (cc), λ has. let no = has.1 in absurd (cc))
      | in-No w ↦
          let is = w.in-No.is in
          let answer = w.is_confirmed-is in
          let shown = w.confirm_with-is_confirmed.ensures.shown in (
            λ told. (w.in-No.fault, is, shown.0 (cc)),
            λ has.
                let no = has.1 in
                let same : has.0 ≡ w.in-No.fault = cc in
                let accepted = shown.1 (subst (ShowsBy c.args.profile c.args.bytes.now) same has.2) in
                cc,
          )
    ]
