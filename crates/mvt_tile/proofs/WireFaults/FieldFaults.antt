-- The faults of one field: where they lie, and which of them comes first.
use Rattle.std.proofs.Common.{◌≡◌, ℕ, ◌+◌, ◌<◌, ◌≤◌, Bool, true, List, length, Option, Some, None, IfNone, IfSome, ◌⊎◌, refl, sym, ◌∙◌, ap, subst, arith, IsUtf8}
use Rattle.std.proofs.lemmas.Bool.{both_ways}
use Rattle.mvt_wire.specs.Field.{Content, varint, delimited, Entry, wire_type_of, cause_at}
use Rattle.mvt_wire.specs.Number.{PackedFault}
use Rattle.mvt_wire.specs.Schema.{is_own, is_out_of_range, is_singular}
use Rattle.mvt_rules.specs.WireFault.{EntryFault, other_type, again, no_text, out_of_range, packed}
use Rattle.mvt_wire.specs.declared.cause.WireCause.{WireCause}
use Rattle.mvt_wire.specs.declared.cause.WireCode.TheVariants.{NotUtf8, OutOfRange}
use Rattle.mvt_wire.specs.declared.schema.FieldRule.{FieldRule}
use Rattle.mvt_wire.specs.declared.schema.Shape.TheVariants.{Text, Numbers}
use Rattle.mvt_fault.specs.Place.{ComesFirst}
use Rattle.mvt_tile.specs.Calls.Least.{cause_place, IsLeastCause, FindsLeastCause}
use Rattle.mvt_tile.proofs.WireFaults.FieldPlaces.{LiesWithin, IsPlaced}
use Rattle.mvt_tile.proofs.WireFaults.Causes.{by_place, same_cause}
use Rattle.mvt_wire.proofs.FieldNumbers.PackedNumbers.{fault_in_part}

-- where a number lies
varint_place : (entry : Entry) (next value at : ℕ) → IsPlaced entry next → entry.content ≡ varint value at → (entry.at < at) × (at < next)
varint_place entry next value at placed content = subst (λ (c : Content). LiesWithin entry.at next c) content placed.payload

-- a fault of a field lies between its key and the next one
pub fault_within : (rule : FieldRule) (occurred : Bool) (entry : Entry) (next : ℕ) (cause : WireCause) → IsPlaced entry next → EntryFault rule occurred entry cause → (entry.at ≤ cause.at) × (cause.at < next)
fault_within rule occurred entry next cause placed (other_type other is) =
    let here : cause.at ≡ entry.at = ap (λ (c : WireCause). c.at) is in let forward = placed.forward in (omega arith, omega arith)
fault_within rule occurred entry next cause placed (again singular stands is) =
    let here : cause.at ≡ entry.at = ap (λ (c : WireCause). c.at) is in let forward = placed.forward in (omega arith, omega arith)
fault_within rule occurred entry next cause placed (no_text from part shape content not is) =
    let here : cause.at ≡ entry.at = ap (λ (c : WireCause). c.at) is in let forward = placed.forward in (omega arith, omega arith)
fault_within rule occurred entry next cause placed (out_of_range value at content over is) =
    let here : cause.at ≡ at = ap (λ (c : WireCause). c.at) is in let place = varint_place entry next value at placed content in (omega arith, omega arith)
fault_within rule occurred entry next cause placed (packed from part shape content fault) =
    let place : (entry.at < from) × (from + length part ≤ next) = subst (λ (c : Content). LiesWithin entry.at next c) content placed.payload in
    let within = fault_in_part from part entry.number cause fault in
    (omega arith, omega arith)

-- the field isn't one too many
abbrev pub MayOccur : FieldRule → Bool → Type 0
MayOccur rule occurred = is_singular rule.occurrence ≡ true → ¬ (occurred ≡ true)

-- of a field that may occur, with its own wire type, a number out of range is the first fault
pub out_of_range-first : (rule : FieldRule) (occurred : Bool) (entry : Entry) (value at : ℕ) → is_own rule.shape (wire_type_of entry.content) ≡ true → MayOccur rule occurred
    → entry.content ≡ varint value at → is_out_of_range rule.shape value ≡ true
    → IsLeastCause (EntryFault rule occurred entry) (cause_at OutOfRange at entry.number)
out_of_range-first rule occurred entry value at own may content over = record { holds = out_of_range value at content over refl; least = following }
  where
    cause : WireCause
    cause = cause_at OutOfRange at entry.number

    following : (fault : WireCause) → EntryFault rule occurred entry fault → ComesFirst (cause_place cause) (cause_place fault)
    following fault (other_type o is) = absurd (both_ways _ o own)
    following fault (again s st is) = absurd (may s st)
    following fault (no_text from part shape other not is) = let both : varint value at ≡ delimited from part = sym content ∙ other in absurd (cc)
    following fault (out_of_range v place other o is) =
        let both : varint value at ≡ varint v place = sym content ∙ other in
        let same : at ≡ place = cc in
        same_cause cause fault (ap (λ (p : ℕ). cause_at OutOfRange p entry.number) same ∙ sym is)
    following fault (packed from part shape other inner) = let both : varint value at ≡ delimited from part = sym content ∙ other in absurd (cc)

-- and a text that isn't UTF-8
pub no_text-first : (rule : FieldRule) (occurred : Bool) (entry : Entry) (from : ℕ) (part : List ℕ) → is_own rule.shape (wire_type_of entry.content) ≡ true → MayOccur rule occurred
    → rule.shape ≡ Text → entry.content ≡ delimited from part → ¬ IsUtf8 part
    → IsLeastCause (EntryFault rule occurred entry) (cause_at NotUtf8 entry.at entry.number)
no_text-first rule occurred entry from part own may shape content not = record { holds = no_text from part shape content not refl; least = following }
  where
    cause : WireCause
    cause = cause_at NotUtf8 entry.at entry.number

    following : (fault : WireCause) → EntryFault rule occurred entry fault → ComesFirst (cause_place cause) (cause_place fault)
    following fault (other_type o is) = absurd (both_ways _ o own)
    following fault (again s st is) = absurd (may s st)
    following fault (no_text f p s other n is) = same_cause cause fault (sym is)
    following fault (out_of_range value at other over is) = let both : varint value at ≡ delimited from part = sym other ∙ content in absurd (cc)
    following fault (packed f p numbers other inner) = let both : Text ≡ Numbers = sym shape ∙ numbers in absurd (cc)

-- and the first fault of a packed list
packed-only : (rule : FieldRule) (occurred : Bool) (entry : Entry) (from : ℕ) (part : List ℕ) (fault : WireCause) → is_own rule.shape (wire_type_of entry.content) ≡ true → MayOccur rule occurred
    → rule.shape ≡ Numbers → entry.content ≡ delimited from part → EntryFault rule occurred entry fault → PackedFault from part entry.number fault
packed-only rule occurred entry from part fault own may shape content (other_type o is) = absurd (both_ways _ o own)
packed-only rule occurred entry from part fault own may shape content (again s st is) = absurd (may s st)
packed-only rule occurred entry from part fault own may shape content (no_text f p s other not is) = let both : Text ≡ Numbers = sym s ∙ shape in absurd (cc)
packed-only rule occurred entry from part fault own may shape content (out_of_range value at other over is) = let both : varint value at ≡ delimited from part = sym other ∙ content in absurd (cc)
packed-only rule occurred entry from part fault own may shape content (packed f p s other inner) =
    let both : delimited f p ≡ delimited from part = sym other ∙ content in
    let places : f ≡ from = cc in
    let parts : p ≡ part = cc in
    subst (λ (place : ℕ). PackedFault place part entry.number fault) places (subst (λ (bytes : List ℕ). PackedFault f bytes entry.number fault) parts inner)

pub packed-first : (rule : FieldRule) (occurred : Bool) (entry : Entry) (from : ℕ) (part : List ℕ) (found : Option WireCause) → is_own rule.shape (wire_type_of entry.content) ≡ true → MayOccur rule occurred
    → rule.shape ≡ Numbers → entry.content ≡ delimited from part
    → IfNone found ((cause : WireCause) → ¬ PackedFault from part entry.number cause) → IfSome found (PackedFault from part entry.number)
    → IfSome found (λ cause. (other : WireCause) → PackedFault from part entry.number other → (cause.at < other.at) ⊎ (cause ≡ other))
    → FindsLeastCause (EntryFault rule occurred entry) found
packed-first rule occurred entry from part None own may shape content none fault first = λ cause bad. none cause (packed-only rule occurred entry from part cause own may shape content bad)
packed-first rule occurred entry from part (Some cause) own may shape content none fault first = record {
  holds = packed from part shape content fault;
  least = λ other bad. by_place cause other (first other (packed-only rule occurred entry from part other own may shape content bad));
}
