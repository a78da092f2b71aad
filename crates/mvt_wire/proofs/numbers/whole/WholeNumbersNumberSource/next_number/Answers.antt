use Rattle.std.proofs.Common.{[], ◌∷◌, None, Some, refl, arith}
use Rattle.std.proofs.lemmas.List.{length-take-le}
use Rattle.mvt_wire.specs.Numbers.{GivesNumber, walk_at}
use Rattle.mvt_wire.proofs.FieldNumbers.NumberWalks.{GivesNumber-at}
use Rattle.mvt_wire.proofs.FieldNumbers.NumbersLeft.{one_left}
use Rattle.mvt_wire.specs.NumberSources.{walk_of}
use Rattle.mvt_wire.proofs.FieldNumbers.FaultlessNumbers.{number_next}
use Rattle.mvt_wire.proofs.numbers.whole.WholeNumbersNumberSource.next_number.Goals as goal
use Rattle.mvt_wire.proofs.numbers.whole.WholeNumbersNumberSource.next_number.Goals.{After-next_varint-number}

pub returns-then-at-end-clause-end : goal.returns-then-at-end-clause-end
returns-then-at-end-clause-end c = λ numbers left. (one_left (walk_of c.args.self.now) numbers [] None None left (c.varints_left-at.ensures.none c.if-at-end.true)).0

pub next_varint-number-requires-clause-stands : goal.next_varint-number-requires-clause-stands
next_varint-number-requires-clause-stands c =
    let self = c.args.self.now in
    let leaves = (c.varints_left-at.ensures.found c.if-at-end.false) in
    number_next self.bytes.now self.field_number c.varints_left-at.result.0 c.varints_left-at.result.1 leaves.left leaves.within (λ given cause left. self.faultless given cause (leaves.same given (Some cause) left))

-- the number was given
gives : (c : After-next_varint-number) → GivesNumber (walk_of c.args.self.now) (walk_at c.args.self.now.bytes.now c.args.self.now.field_number c.next_varint-number.result.1 c.varints_left-at.result.1) c.next_varint-number.result.0
gives c =
    let self = c.args.self.now in
    GivesNumber-at (walk_of self) self.bytes.now self.field_number self.at self.end c.varints_left-at.result.0 c.varints_left-at.result.1 c.next_varint-number.result.1 c.next_varint-number.result.0 refl (c.varints_left-at.ensures.found c.if-at-end.false) c.next_varint-number.ensures.number c.next_varint-number.ensures.small

pub invariant_of-self : goal.invariant_of-self
invariant_of-self c =
    let self = c.args.self.now in
    let leaves = (c.varints_left-at.ensures.found c.if-at-end.false) in
    let within = leaves.within in
    let inside = c.next_varint-number.ensures.number.within in
    let size = length-take-le c.varints_left-at.result.1 self.bytes.now within in
    record {
      forward = omega arith;
      within = within;
      faultless = λ given cause left. self.faultless (c.next_varint-number.result.0 ∷ given) cause ((gives c).first given (Some cause) left);
      no_more = self.no_more;
    }

pub returns-clause-number : goal.returns-clause-number
returns-clause-number c = λ numbers left. (gives c.before).others numbers None left
