use Rattle.std.proofs.Common.{sym, subst}
use Rattle.mvt_wire.specs.Calls.Numbers.{BeginVarints}
use Rattle.mvt_wire.specs.Field.{Content}
use Rattle.mvt_wire.proofs.FieldNumbers.NumberSpans.{StandBefore-first, StandBefore-more}
use Rattle.mvt_wire.proofs.numbers.span.NumberSpan.add.Goals as goal
use Rattle.mvt_wire.proofs.numbers.span.NumberSpan.add.Goals.{then-self, else-self}

pub returns : goal.returns
returns c = λ message from field_number entry field is same before.
    let at = c.varints_in-at.result in
    let begin = subst (λ (content : Content). BeginVarints content at) (sym same) c.varints_in-at.ensures in
    elim c.if-self.branch [
      | then-self w ↦ rw w.self-is (StandBefore-first message from field field_number c.args.self.now at is begin before w.if-self.true)
      | else-self w ↦ rw w.self-is (StandBefore-more message from field field_number c.args.self.now at is begin before)
    ]
