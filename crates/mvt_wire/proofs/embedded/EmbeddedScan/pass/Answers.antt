use Rattle.std.proofs.Common.{◌≡◌, ◌+◌, ◌≤◌, ℕ, List, length, sym, ap, arith}
use Rattle.std.specs.Borrow.{Bor}
use Rattle.mvt_wire.specs.Field.{content_of, entry_of}
use Rattle.mvt_wire.specs.Embedded.{LiesIn}
use Rattle.mvt_wire.specs.Payload.{span_of}
use Rattle.mvt_wire.specs.Calls.Scope.{span_between}
use Rattle.mvt_wire.specs.declared.field.Body.{Body}
use Rattle.mvt_wire.specs.declared.field.Body.TheVariants.{Bytes}
use Rattle.mvt_wire.specs.declared.field.Field.{Field}
use Rattle.mvt_wire.proofs.Parts.EmbeddedSpans.{passes_found, passes_other, passes_no_part, passes_clean, passes_first}
use Rattle.mvt_wire.proofs.embedded.EmbeddedScan.pass.Goals as goal

pub returns-then-is_some-clause-noted : goal.returns-then-is_some-clause-noted
returns-then-is_some-clause-noted g c = λ entries finds.
    let scan = c.args.self.now in
    passes_found (g.L.EmbeddedCheck.IsClean scan.check c.args.bytes.now) (g.L.EmbeddedCheck.IsFound scan.check c.args.bytes.now) entries c.args.field.now scan.number scan.count scan.first
    (sym c.if-is_some.ensures) finds

pub returns-then-field-self-clause-noted : goal.returns-then-field-self-clause-noted
returns-then-field-self-clause-noted g c = λ entries finds.
    let scan = c.args.self.now in
    passes_other (g.L.EmbeddedCheck.IsClean scan.check c.args.bytes.now) (g.L.EmbeddedCheck.IsFound scan.check c.args.bytes.now) entries c.args.field.now scan.number scan.count scan.first
    c.if-field-self.true finds

pub returns-in_default-clause-noted : goal.returns-in_default-clause-noted
returns-in_default-clause-noted g c = λ entries finds.
    let scan = c.args.self.now in
    passes_no_part (g.L.EmbeddedCheck.IsClean scan.check c.args.bytes.now) (g.L.EmbeddedCheck.IsFound scan.check c.args.bytes.now) entries c.args.field.now scan.number scan.count scan.first
    c.if-field-self.false c.in_default.not-Bytes finds

pub returns-in-Some-clause-noted : goal.returns-in-Some-clause-noted
returns-in-Some-clause-noted g c = λ entries finds.
    let scan = c.args.self.now in
    passes_first (g.L.EmbeddedCheck.IsClean scan.check c.args.bytes.now) (g.L.EmbeddedCheck.IsFound scan.check c.args.bytes.now) entries c.args.field.now scan.number scan.count scan.first
    c.in-Some.found c.in-Bytes.from c.in-Bytes.slice c.if-field-self.false c.in-Bytes.is (sym c.if-is_some.ensures) c.in-Some.ensures finds

pub returns-in-None-clause-noted : goal.returns-in-None-clause-noted
returns-in-None-clause-noted g c = λ entries finds.
    let scan = c.args.self.now in
    passes_clean (g.L.EmbeddedCheck.IsClean scan.check c.args.bytes.now) (g.L.EmbeddedCheck.IsFound scan.check c.args.bytes.now) entries c.args.field.now scan.number scan.count scan.first
    c.in-Bytes.from c.in-Bytes.slice c.if-field-self.false c.in-Bytes.is (sym c.if-is_some.ensures) c.in-None.ensures finds

-- the payload lies within the bytes
inside : (bytes : List ℕ) (field : Field) (from : ℕ) (slice : Bor (List ℕ)) → LiesIn bytes (entry_of field) → field.body ≡ Bytes from slice → from + length slice.now ≤ length bytes
inside bytes field from slice lies is = (lies (span_between from (from + length slice.now)) (ap (λ (body : Body). span_of (content_of body)) is)).1

pub overflow_add-to : goal.overflow_add-to
overflow_add-to g c = omega (arith, inside c.args.bytes.now c.args.field.now c.in-Bytes.from c.in-Bytes.slice c.requires.inside c.in-Bytes.is)

pub invariant_of-check : goal.invariant_of-check
invariant_of-check g c = record {
  forward = omega arith;
  within = omega (arith, inside c.args.bytes.now c.args.field.now c.in-Bytes.from c.in-Bytes.slice c.requires.inside c.in-Bytes.is);
}
