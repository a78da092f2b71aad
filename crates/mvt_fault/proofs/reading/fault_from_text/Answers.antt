use Rattle.std.proofs.Common.{refl}
use Rattle.mvt_fault.proofs.FaultTexts.{Reads-answer, alone-answer, refused-answer, json-answer, shape-answer, range-answer}
use Rattle.mvt_fault.proofs.reading.fault_from_text.Goals as goal

pub returns-in-Ok-clause-ok : goal.returns-in-Ok-clause-ok
returns-in-Ok-clause-ok c = Reads-answer c.args.bytes.now _ _ c.in-Ok.ensures.ok c.fault_of.ensures

pub returns-in-Ok-clause-alone : goal.returns-in-Ok-clause-alone
returns-in-Ok-clause-alone c = alone-answer c.args.bytes.now _ _ c.in-Ok.ensures.ok c.fault_of.ensures

pub returns-in-Ok-clause-refused : goal.returns-in-Ok-clause-refused
returns-in-Ok-clause-refused c = refused-answer c.args.bytes.now _ _ c.in-Ok.ensures.ok c.fault_of.ensures

pub returns-in-Ok-clause-range : goal.returns-in-Ok-clause-range
returns-in-Ok-clause-range c = range-answer c.args.bytes.now _ _ c.in-Ok.ensures.ok c.fault_of.ensures

pub returns-in-Ok-clause-json : goal.returns-in-Ok-clause-json
returns-in-Ok-clause-json c = json-answer c.args.bytes.now _ _ c.in-Ok.ensures.ok c.fault_of.ensures

pub returns-in-Ok-clause-shape : goal.returns-in-Ok-clause-shape
returns-in-Ok-clause-shape c = shape-answer c.args.bytes.now _ _ c.in-Ok.ensures.ok c.fault_of.ensures

pub returns-in-Err-2-clause-json : goal.returns-in-Err-2-clause-json
returns-in-Err-2-clause-json c = λ no_memory.
    (λ is d text. absurd (cc (c.in-Err.ensures.err (λ memory. absurd (cc (c.if-is_memory.ensures.1 memory))) text.0, text.1)), λ none. refl)

pub returns-in-Err-2-clause-shape : goal.returns-in-Err-2-clause-shape
returns-in-Err-2-clause-shape c = λ no_memory.
    (λ is. absurd (cc is), λ other. absurd (cc (c.in-Err.ensures.err (λ memory. absurd (cc (c.if-is_memory.ensures.1 memory))) other.1.0, other.1.1)))
