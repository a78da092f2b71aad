-- The answer to a value is the answer to its text.
use Rattle.std.proofs.Common.{◌≡◌, ◌≢◌, ◌↔◌, ◌≤◌, List, ℕ, false, not, String, Global, string_bytes, Option, Some, None, MatchOption, Result, Ok, Err, IfOk, IfErr, refl, sym, ap, subst, ◌∙◌}
use Rattle.std.specs.Option.{ok_or}
use Rattle.std.specs.String.{string_eq}
use Rattle.std.proofs.lemmas.Bool.{not-false}
use Rattle.std.proofs.lemmas.Slice.Eq.{bytes_eq-Decides}
use Rattle.serde_json.specs.Data.{Data, depth}
use Rattle.serde_json.specs.Read.{read, max_depth}
use Rattle.serde_json.specs.View.{view}
use Rattle.mvt_fault.specs.Calls.Candidate.{IsAnswerTo, IsCandidate, HasCandidate}
use Rattle.mvt_fault.specs.Reading.{StandsFor, HasShape, IsOutOfRange, IsTextOf, IsNoJson, HasOtherShape, HasOtherRange}
use Rattle.mvt_fault.specs.Text.{data_of, IsInRange, Reads}
use Rattle.mvt_fault.specs.declared.fault.Fault.{Fault}
use Rattle.mvt_fault.specs.declared.reading.FaultTextError.{FaultTextError}
use Rattle.mvt_fault.specs.declared.reading.FaultTextError.TheVariants.{Json, Shape, Range, Memory}
use Rattle.mvt_fault.specs.declared.reading.candidate.Candidate.{Candidate}
use Rattle.mvt_fault.proofs.Decoding.{StandsFor-unique, StandsFor-data_of, data_of-StandsFor, IsPlain, IsPlain-StandsFor, Reads-unique}

-- a candidate's object stands for a fault, so it is plain
IsPlain-told : (o : Option Fault) (d : Data) → MatchOption o (IsOutOfRange d) (λ f. StandsFor f d × IsInRange f) → IsPlain d
IsPlain-told None d told = IsPlain-StandsFor told.0 d told.1
IsPlain-told (Some f) d told = IsPlain-StandsFor f d told.0

-- the fault of a candidate, or that a number is out of range, is the answer to the candidate's object
IsAnswerTo-told : (o : Option Fault) (d : Data) → MatchOption o (IsOutOfRange d) (λ f. StandsFor f d × IsInRange f) → IsAnswerTo d (ok_or o Range)
IsAnswerTo-told None d told = told
IsAnswerTo-told (Some f) d told = told

-- strings of which `!=` is false have the same bytes
same_bytes : (s t : String Global) → false ≡ not (string_eq s t) → string_bytes s ≡ string_bytes t
same_bytes s t equal = (bytes_eq-Decides (string_bytes s) (string_bytes t)).0 (not-false (string_eq s t) (sym equal))

-- and to a value with the same text
pub IsAnswerTo-same : (d : Data) (c : Candidate) (o : Option Candidate) (r : Result Fault FaultTextError) (s t : String Global)
    → HasCandidate d o → o ≡ Some c → r ≡ ok_or c.fault Range → depth d ≤ max_depth
    → (depth d ≤ max_depth → read (string_bytes s) ≡ Some d) → (depth (view c.object) ≤ max_depth → read (string_bytes t) ≡ Some (view c.object))
    → false ≡ not (string_eq s t) → IsAnswerTo d r
IsAnswerTo-same d c o r s t has is answer shallow read_value read_object equal =
    let texts = same_bytes s t equal in
    let candidate : IsCandidate d c = subst (HasCandidate d) is has in
    let value = read_value shallow in
    let written = read_object (IsPlain-told c.fault (view c.object) candidate.fault).0 in
    let same : d ≡ view c.object = cc (value, written, ap read texts) in
    subst (IsAnswerTo d) (sym answer) (subst (λ e. IsAnswerTo e (ok_or c.fault Range)) (sym same) (IsAnswerTo-told c.fault (view c.object) candidate.fault))

-- bytes are the text of one value
IsTextOf-unique : (bytes : List ℕ) (d e : Data) → IsTextOf bytes d → IsTextOf bytes e → d ≡ e
IsTextOf-unique bytes d e first second = cc (first.1, second.1)

-- an answer to the value is read in the text
pub Reads-answer : (bytes : List ℕ) (d : Data) (r : Result Fault FaultTextError) → IsTextOf bytes d → IsAnswerTo d r → IfOk r (λ f. Reads bytes f)
Reads-answer bytes d (Ok f) text answer = record {
  utf8 = text.0;
  value = text.1 ∙ ap Some (data_of-StandsFor f d answer.0 answer.1);
  in_range = answer.1;
}
Reads-answer bytes d (Err e) text answer = tt

-- and is the only one
pub alone-answer : (bytes : List ℕ) (d : Data) (r : Result Fault FaultTextError) → IsTextOf bytes d → IsAnswerTo d r
    → IfOk r (λ f. (other : Fault) → Reads bytes other → other ≡ f)
alone-answer bytes d (Ok f) text answer = λ other reads. Reads-unique bytes f other (Reads-answer bytes d (Ok f) text answer) reads
alone-answer bytes d (Err e) text answer = tt

-- the value of a text in which a fault is read stands for the fault
StandsFor-Reads : (bytes : List ℕ) (d : Data) (f : Fault) → IsTextOf bytes d → Reads bytes f → StandsFor f d
StandsFor-Reads bytes d f text reads =
    subst (StandsFor f) (sym (IsTextOf-unique bytes d (data_of f) text (reads.utf8, reads.value))) (StandsFor-data_of f reads.in_range)

-- where the answer is a refusal, no fault is read in the text
pub refused-answer : (bytes : List ℕ) (d : Data) (r : Result Fault FaultTextError) → IsTextOf bytes d → IsAnswerTo d r
    → IfErr r (λ e. e ≢ Memory → (f : Fault) → ¬ Reads bytes f)
refused-answer bytes d (Ok f) text answer = tt
refused-answer bytes d (Err Json) text answer = absurd answer
refused-answer bytes d (Err Shape) text answer = λ no_memory f reads. answer (f, StandsFor-Reads bytes d f text reads)
refused-answer bytes d (Err Range) text answer = λ no_memory f reads.
    let same = StandsFor-unique d f answer.0 (StandsFor-Reads bytes d f text reads) answer.1 in
    answer.2 (subst IsInRange same reads.in_range)
refused-answer bytes d (Err Memory) text answer = λ no_memory. absurd (no_memory refl)

-- where a number is out of range, no other answer is right
Range-answer : (d : Data) (r : Result Fault FaultTextError) → IsAnswerTo d r → r ≢ Err Memory → IsOutOfRange d → r ≡ Err Range
Range-answer d (Ok f) answer no_memory out =
    absurd (out.2 (subst IsInRange (StandsFor-unique d f out.0 answer.0 out.1) answer.1))
Range-answer d (Err Json) answer no_memory out = absurd answer
Range-answer d (Err Shape) answer no_memory out = absurd (answer (out.0, out.1))
Range-answer d (Err Range) answer no_memory out = refl
Range-answer d (Err Memory) answer no_memory out = absurd (no_memory refl)

-- no answer is that a text of a value is no JSON
pub json-answer : (bytes : List ℕ) (d : Data) (r : Result Fault FaultTextError) → IsTextOf bytes d → IsAnswerTo d r
    → r ≢ Err Memory → (r ≡ Err Json) ↔ IsNoJson bytes
json-answer bytes d r text answer no_memory = (λ is. absurd (subst (IsAnswerTo d) is answer), λ none. absurd (none d text))

-- where the value has no fault's shape, no other answer is right
Shape-answer : (d : Data) (r : Result Fault FaultTextError) → IsAnswerTo d r → r ≢ Err Memory → ¬ HasShape d → r ≡ Err Shape
Shape-answer d (Ok f) answer no_memory other = absurd (other (f, answer.0))
Shape-answer d (Err Json) answer no_memory other = absurd answer
Shape-answer d (Err Shape) answer no_memory other = refl
Shape-answer d (Err Range) answer no_memory other = absurd (other (answer.0, answer.1))
Shape-answer d (Err Memory) answer no_memory other = absurd (no_memory refl)

-- the answer is that the value has another shape exactly where it has
pub shape-answer : (bytes : List ℕ) (d : Data) (r : Result Fault FaultTextError) → IsTextOf bytes d → IsAnswerTo d r
    → r ≢ Err Memory → (r ≡ Err Shape) ↔ HasOtherShape bytes
shape-answer bytes d r text answer no_memory = (
  λ is. (d, text, subst (IsAnswerTo d) is answer),
  λ other. Shape-answer d r answer no_memory (subst (λ (e : Data). ¬ HasShape e) (IsTextOf-unique bytes other.0 d other.1 text) other.2),
)

-- the answer is that a number is out of range exactly where one is
pub range-answer : (bytes : List ℕ) (d : Data) (r : Result Fault FaultTextError) → IsTextOf bytes d → IsAnswerTo d r
    → r ≢ Err Memory → (r ≡ Err Range) ↔ HasOtherRange bytes
range-answer bytes d r text answer no_memory = (
  λ is. (d, text, subst (IsAnswerTo d) is answer),
  λ other. Range-answer d r answer no_memory (subst IsOutOfRange (IsTextOf-unique bytes other.0 d other.1 text) other.2),
)
