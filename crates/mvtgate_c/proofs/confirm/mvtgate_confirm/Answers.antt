use Rattle.std.proofs.Common.{rules, sym, subst, ◌∙◌}
use Rattle.mvt_rules.specs.Shows.{ShowsBy}
use Rattle.mvt_fault.specs.declared.profile.Profile.{Profile}
use Rattle.mvtgate_c.proofs.Profiles.{one_profile}
use Rattle.mvtgate_c.proofs.confirm.mvtgate_confirm.Goals as goal

pub returns-in-Some-clause-confirmed_alone : goal.returns-in-Some-clause-confirmed_alone
returns-in-Some-clause-confirmed_alone c = λ by fault is reads shows.
    let same = one_profile by c.in-Some.by (sym is ∙ c.in-Some.ensures.some) in
    let shown = subst (λ (it : Profile). ShowsBy it c.args.tile.now fault) same shows in
    let ends = c.confirm_by.ensures.confirmed_alone fault reads shown in
    search (rules, ends)
