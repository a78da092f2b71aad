use Rattle.std.proofs.Common.{Option, Some, None, IfNone, arith}
use Rattle.std.proofs.lemmas.List.{length-take-le}
use Rattle.mvt_wire.proofs.FieldNumbers.NumberPairs.{GivesPair-at}
use Rattle.mvt_wire.proofs.numbers.whole.WholeNumbersNumberSource.next_small_pair.Goals as goal

-- what holds anyhow
on_none : {X : Type 0} (option : Option X) (P : Type 0) → P → IfNone option P
on_none None P holds = holds
on_none (Some x) P holds = tt

pub returns-in_err-first-clause-same : goal.returns-in_err-first-clause-same
returns-in_err-first-clause-same c = on_none c.from_residual.result _ (λ numbers left. left)

pub invariant_of-self : goal.invariant_of-self
invariant_of-self c =
    let self = c.args.self.now in
    let pair = c.in_ok-first.ensures.numbers in
    let size = length-take-le self.end self.bytes.now self.within in
    record {
      forward = omega (arith, pair.2.within, size);
      within = self.within;
      faultless = λ given cause left. self.faultless _ cause ((GivesPair-at self.bytes.now self.field_number self.at self.end c.in_ok-first.first c.in_ok-first.second c.in_ok-first.next self.within pair (omega arith) (omega arith)).first given (Some cause) left);
      no_more = self.no_more;
    }

pub returns-clause-pair : goal.returns-clause-pair
returns-clause-pair c = λ numbers left.
    let self = c.args.self.now in
    (GivesPair-at self.bytes.now self.field_number self.at self.end c.in_ok-first.first c.in_ok-first.second c.in_ok-first.next self.within c.in_ok-first.ensures.numbers (omega arith) (omega arith)).others numbers None left
