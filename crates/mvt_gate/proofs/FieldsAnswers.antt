-- Each input has one answer of `fields`, by the laws of the wire encoding.
use Rattle.std.proofs.Common.{◌≡◌, ℕ, List, inl, inr, refl, sym, ◌∙◌, ap, arith}
use Rattle.mvt_wire.proofs.Encoding.Messages.{one_list, whole_or_defect, one_defect, message_or_defect}
use Rattle.mvt_wire.specs.declared.cause.WireCause.{WireCause}
use Rattle.mvt_wire.specs.declared.scope.Scope.TheVariants.{Tile}
use Rattle.mvt_fault.specs.Cause.{wire_fault_in}
use Rattle.mvt_engine.specs.FaultLine.{fault_line}
use Rattle.mvt_engine.specs.Fields.{IsFieldsAnswer}
use Rattle.mvt_engine.specs.FieldsLine.{fields_line}
use Rattle.mvt_engine.specs.declared.engine.Outcome.{Outcome}
use Rattle.mvt_engine.specs.declared.engine.Outcome.TheVariants.{Yes, No}

pub some_answer : (input : List ℕ) → (outcome : Outcome) × (line : List ℕ) × IsFieldsAnswer input outcome line
some_answer input = elim (message_or_defect input 0 (omega arith)) [
  | inl whole ↦ (Yes, fields_line whole.0, (whole.0, whole.1, refl))
  | inr bad ↦ (No, fault_line (wire_fault_in Tile bad.0), (bad.0, bad.1, refl))
]

pub one_answer : (input : List ℕ) (first second : Outcome) (line other : List ℕ) → IsFieldsAnswer input first line → IsFieldsAnswer input second other → (first ≡ second) × (line ≡ other)
one_answer input Yes Yes line other a b = (refl, a.2 ∙ ap fields_line (one_list input 0 a.0 b.0 a.1 b.1) ∙ sym b.2)
one_answer input Yes No line other a b = absurd (whole_or_defect input 0 a.0 b.0 a.1 b.1)
one_answer input No Yes line other a b = absurd (whole_or_defect input 0 b.0 a.0 b.1 a.1)
one_answer input No No line other a b =
    (refl, a.2 ∙ ap (λ (cause : WireCause). fault_line (wire_fault_in Tile cause)) (one_defect input 0 a.0 b.0 a.1 b.1) ∙ sym b.2)
