use Rattle.std.proofs.Common.{sym, ◌∙◌}
use Rattle.mvtgate_c.proofs.check.check_by.Goals as goal

pub returns-in-Some-clause-valid_alone : goal.returns-in-Some-clause-valid_alone
returns-in-Some-clause-valid_alone c = λ valid.
    let none = c.in-Ok.ensures.none_exactly_where_valid.1 valid in
    absurd (cc (sym none ∙ c.in-Some.is))
