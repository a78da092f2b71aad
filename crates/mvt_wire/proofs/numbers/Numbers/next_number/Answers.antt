use Rattle.std.proofs.lemmas.Result.{IfOk-at_ok, IfErr-at_err}
use Rattle.mvt_wire.proofs.FieldNumbers.NumberWalks.{GivesNumber-at, EndsNumbers-at, left_at_fault}
use Rattle.mvt_wire.proofs.numbers.Numbers.next_number.Goals as goal

pub returns-in-Ok-clause-number : goal.returns-in-Ok-clause-number
returns-in-Ok-clause-number c =
    GivesNumber-at _ _ _ _ _ _ _ _ _ c.self.view_is (IfOk-at_ok _ c.in-Some-Ok.field-0-is c.in-Some-Ok.ensures.varints) c.in-Ok.ensures.number c.in-Ok.ensures.small

pub returns-in-Err-clause-fault : goal.returns-in-Err-clause-fault
returns-in-Err-clause-fault c =
    rw c.no_varints-self-inside.ensures
    (EndsNumbers-at _ _ _ _ _ _ c.self.view_is (left_at_fault _ _ _ _ (IfOk-at_ok _ c.in-Some-Ok.field-0-is c.in-Some-Ok.ensures.varints) c.in-Err.ensures.fault))

pub returns-in-Some-Err-clause-fault : goal.returns-in-Some-Err-clause-fault
returns-in-Some-Err-clause-fault c =
    rw c.no_varints-self-inside-in-Some-Err.ensures (EndsNumbers-at _ _ _ _ _ _ c.self.view_is (IfErr-at_err _ c.in-Some-Err.field-0-is c.in-Some-Err.ensures.fault))

pub returns-in-None-clause-end : goal.returns-in-None-clause-end
returns-in-None-clause-end c = rw c.no_varints-self-inside-in-None.ensures (EndsNumbers-at _ _ _ _ _ _ c.self.view_is c.in-None.ensures.end)
