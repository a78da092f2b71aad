use Rattle.std.proofs.Common.{inl}
use Rattle.mvt_feature.proofs.Features.QuickAnswers.{not_all_clear, same_answer}
use Rattle.mvt_feature.proofs.laws.quick_faults.Goals as goal

pub returns-clause-same : goal.returns-clause-same
returns-clause-same c = same_answer

pub returns-clause-first : goal.returns-clause-first
returns-clause-first c = λ rings fault first. inl first

pub returns-clause-holds : goal.returns-clause-holds
returns-clause-holds c = not_all_clear
