-- The faults of a field of numbers: it has at most one after small numbers, it states its numbers or has one, and each
-- lies within the field.
use Rattle.std.proofs.Common.{◌≡◌, ℕ, ◌+◌, ◌-◌, ◌^◌, ◌<◌, ◌≤◌, ◌⊎◌, inl, inr, false, List, [], ◌∷◌, ◌++◌, length, drop, refl, sym, ◌∙◌, ap, subst, arith}
use Rattle.std.proofs.lemmas.Bool.{cases_lt}
use Rattle.std.proofs.lemmas.List.Edits.{length-between}
use Rattle.std.proofs.lemmas.List.Elements.{All-head, All-cons, All-nil}
use Rattle.mvt_wire.specs.Varint.{EncodesVarint, VarintDefect}
use Rattle.mvt_wire.specs.Field.{Content, varint, eight_bytes, delimited, four_bytes, cause_at, Entry, wire_type_of, IsPayload}
use Rattle.mvt_wire.specs.Number.{VarintList, States, AreSmall, PackedFault, no_varint, too_large}
use Rattle.mvt_wire.specs.Schema.{is_own}
use Rattle.mvt_wire.specs.Numbers.{NumberFault, other_type, large_number, in_packed_list}
use Rattle.mvt_wire.specs.declared.cause.WireCause.{WireCause}
use Rattle.mvt_wire.specs.declared.cause.WireCode.{WireCode}
use Rattle.mvt_wire.specs.declared.cause.WireCode.TheVariants.{OtherType, OutOfRange}
use Rattle.mvt_wire.specs.declared.schema.Shape.TheVariants.{Numbers}
use Rattle.mvt_wire.proofs.Encoding.Varints.{one_value, varint_or_defect, one_defect_of_varint}
use Rattle.mvt_wire.proofs.Encoding.PackedLists.{varints_forward, one_goes_on, one_varint_list, small_after, NoSmallNumber, numbers_or_stop}

-- a packed list's fault, given at its place in the list
abbrev pub FaultHere : ℕ → List ℕ → ℕ → ℕ → WireCause → Type 0
FaultHere from part field_number at cause =
    ((code : WireCode) × (at < length part) × VarintDefect code (drop at part) × (cause ≡ cause_at code (from + at) field_number))
    ⊎ ((next n : ℕ) × EncodesVarint part at next n × (2 ^ 32 ≤ n) × (cause ≡ cause_at OutOfRange (from + at) field_number))

pub fault_here : (from : ℕ) (part : List ℕ) (k at : ℕ) (cause : WireCause) → PackedFault from part k cause → cause.at ≡ from + at → FaultHere from part k at cause
fault_here from part k at cause (no_varint numbers stop code list left defect is) here =
    let places : cause.at ≡ from + stop = ap (λ (c : WireCause). c.at) is in
    let same : stop ≡ at = omega arith in
    subst (λ (place : ℕ). FaultHere from part k place cause) same (inl (code, left, defect, is))
fault_here from part k at cause (too_large numbers stop next n list encoded large is) here =
    let places : cause.at ≡ from + stop = ap (λ (c : WireCause). c.at) is in
    let same : stop ≡ at = omega arith in
    subst (λ (place : ℕ). FaultHere from part k place cause) same (inr (next, n, encoded, large, is))

-- a place of a list has at most one fault
pub one_fault_here : (from : ℕ) (part : List ℕ) (k at : ℕ) (c d : WireCause) → FaultHere from part k at c → FaultHere from part k at d → c ≡ d
one_fault_here from part k at c d (inl a) (inl b) = a.3 ∙ ap (λ (code : WireCode). cause_at code (from + at) k) (one_defect_of_varint (drop at part) a.0 b.0 a.2 b.2) ∙ sym b.3
one_fault_here from part k at c d (inl a) (inr b) = absurd (varint_or_defect part at b.0 b.1 a.0 b.2 a.2)
one_fault_here from part k at c d (inr a) (inl b) = absurd (varint_or_defect part at a.0 a.1 b.0 a.2 b.2)
one_fault_here from part k at c d (inr a) (inr b) = a.4 ∙ sym b.4

-- and none where a small number is
small_or_fault : (from : ℕ) (part : List ℕ) (k at next n : ℕ) (cause : WireCause) → EncodesVarint part at next n → n < 2 ^ 32 → FaultHere from part k at cause → ⊥
small_or_fault from part k at next n cause encoded small (inl bad) = varint_or_defect part at next n bad.0 encoded bad.2
small_or_fault from part k at next n cause encoded small (inr large) =
    let same : n ≡ large.1 = one_value part at next large.0 n large.1 encoded large.2 in
    omega arith

fault_within : (from : ℕ) (part : List ℕ) (k at : ℕ) (cause : WireCause) → FaultHere from part k at cause → at < length part
fault_within from part k at cause (inl bad) = bad.1
fault_within from part k at cause (inr large) = let forward = large.2.forward in let within = large.2.within in omega arith

-- small numbers don't go on past a fault
not_past_fault : (from : ℕ) (part : List ℕ) (k at to : ℕ) (longer shorter rest : List ℕ) (cause : WireCause) → AreSmall longer → longer ≡ shorter ++ rest → VarintList part at rest to → FaultHere from part k at cause → rest ≡ []
not_past_fault from part k at to longer shorter [] cause small is list fault = refl
not_past_fault from part k at to longer shorter (n ∷ rest) cause small is list fault =
    absurd (small_or_fault from part k at list.0 n cause list.1 (small_after longer shorter rest n is small) fault)

-- of two faults after numbers of one list, that after small numbers comes first
pub first_fault : (from : ℕ) (part : List ℕ) (k start at stop : ℕ) (ms ns : List ℕ) (cause : WireCause) → VarintList part start ms at → VarintList part start ns stop → AreSmall ms → FaultHere from part k stop cause → at ≤ stop
first_fault from part k start at stop ms ns cause first second small fault = elim (one_goes_on part start at stop ms ns first second) [
  | inr longer ↦ varints_forward part at stop longer.0 longer.2
  | inl longer ↦
      let none : longer.0 ≡ [] = not_past_fault from part k stop at ms ns longer.0 cause small longer.1 longer.2 fault in
      let same : stop ≡ at = subst (λ (rest : List ℕ). VarintList part stop rest at) none longer.2 in
      omega arith
]

-- what a front of numbers that ends where the list ends leaves: nothing
pub same_front : (part : List ℕ) (start at stop : ℕ) (ms ns : List ℕ) → VarintList part start ms at → VarintList part start ns stop → at ≡ stop → ms ≡ ns
same_front part start at stop ms ns first second same = one_varint_list part start stop ms ns (subst (λ (place : ℕ). VarintList part start ms place) same first) second

-- what is wrong with a field of numbers, by its payload
abbrev pub FaultOf : ℕ → ℕ → Content → List ℕ → WireCause → Type 0
FaultOf at k (varint value place) numbers cause = (2 ^ 32 ≤ value) × (numbers ≡ []) × (cause ≡ cause_at OutOfRange place k)
FaultOf at k (eight_bytes part) numbers cause = (numbers ≡ []) × (cause ≡ cause_at OtherType at k)
FaultOf at k (delimited from part) numbers cause = (stop : ℕ) × VarintList part 0 numbers stop × FaultHere from part k stop cause
FaultOf at k (four_bytes part) numbers cause = (numbers ≡ []) × (cause ≡ cause_at OtherType at k)

other_fault : (at k : ℕ) (content : Content) (numbers : List ℕ) (cause : WireCause) → is_own Numbers (wire_type_of content) ≡ false → numbers ≡ [] → cause ≡ cause_at OtherType at k → FaultOf at k content numbers cause
other_fault at k (eight_bytes part) numbers cause other none is = (none, is)
other_fault at k (four_bytes part) numbers cause other none is = (none, is)
other_fault at k content numbers cause other none is = absurd (cc)

pub fault_of : (e : Entry) (numbers : List ℕ) (cause : WireCause) → NumberFault e numbers cause → FaultOf e.at e.number e.content numbers cause
fault_of e numbers cause (other_type other none is) = other_fault e.at e.number e.content numbers cause other none is
fault_of e numbers cause (large_number value place content large none is) = subst (λ (c : Content). FaultOf e.at e.number c numbers cause) (sym content) (large, none, is)
fault_of e numbers cause (in_packed_list from part at content list fault here) =
    subst (λ (c : Content). FaultOf e.at e.number c numbers cause) (sym content) (at, list, fault_here from part e.number at cause fault here)

-- after small numbers a field has at most one fault
pub one_fault_of : (at k : ℕ) (content : Content) (ms ns : List ℕ) (c d : WireCause) → FaultOf at k content ms c → FaultOf at k content ns d → AreSmall ms → AreSmall ns → (ms ≡ ns) × (c ≡ d)
one_fault_of at k (varint value place) ms ns c d first second small below = (first.1 ∙ sym second.1, first.2 ∙ sym second.2)
one_fault_of at k (delimited from part) ms ns c d first second small below =
    let low = first_fault from part k 0 first.0 second.0 ms ns d first.1 second.1 small second.2 in
    let high = first_fault from part k 0 second.0 first.0 ns ms c second.1 first.1 below first.2 in
    let same : first.0 ≡ second.0 = omega arith in (
      same_front part 0 first.0 second.0 ms ns first.1 second.1 same,
      one_fault_here from part k second.0 c d (subst (λ (place : ℕ). FaultHere from part k place c) same first.2) second.2,
    )
one_fault_of at k content ms ns c d first second small below = (first.0 ∙ sym second.0, first.1 ∙ sym second.1)

pub place_here : (from : ℕ) (part : List ℕ) (k at : ℕ) (cause : WireCause) → FaultHere from part k at cause → cause.at ≡ from + at
place_here from part k at cause (inl bad) = ap (λ (c : WireCause). c.at) bad.3
place_here from part k at cause (inr large) = ap (λ (c : WireCause). c.at) large.4

-- the fault is the other, or is before it
abbrev pub StandsFirst : WireCause → WireCause → Type 0
StandsFirst cause other = (cause.at < other.at) ⊎ (cause ≡ other)

-- and every other one is after it
pub least_fault_of : (at k : ℕ) (content : Content) (ms ns : List ℕ) (c d : WireCause) → FaultOf at k content ms c → AreSmall ms → FaultOf at k content ns d → StandsFirst c d
least_fault_of at k (varint value place) ms ns c d first small second = inr (first.2 ∙ sym second.2)
least_fault_of at k (delimited from part) ms ns c d first small second =
    let low = first_fault from part k 0 first.0 second.0 ms ns d first.1 second.1 small second.2 in
    elim (cases_lt first.0 second.0) [
      | inl less ↦
          let here = place_here from part k first.0 c first.2 in
          let there = place_here from part k second.0 d second.2 in
          inl (omega arith)
      | inr not_less ↦
          let same : first.0 ≡ second.0 = omega arith in
          inr (one_fault_here from part k second.0 c d (subst (λ (place : ℕ). FaultHere from part k place c) same first.2) second.2)
    ]
least_fault_of at k content ms ns c d first small second = inr (first.1 ∙ sym second.1)

-- a field that states small numbers has no fault
packed_or_fault_here : (from : ℕ) (part : List ℕ) (k stop : ℕ) (ms ns : List ℕ) (cause : WireCause) → VarintList part 0 ms (length part) → AreSmall ms → VarintList part 0 ns stop → FaultHere from part k stop cause → ⊥
packed_or_fault_here from part k stop ms ns cause whole small list fault =
    let low = first_fault from part k 0 (length part) stop ms ns cause whole list small fault in
    let within = fault_within from part k stop cause fault in
    omega arith

pub states_or_fault : (at k : ℕ) (content : Content) (ms ns : List ℕ) (cause : WireCause) → States content ms → AreSmall ms → FaultOf at k content ns cause → ⊥
states_or_fault at k (varint value place) ms ns cause states small fault =
    let below : value < 2 ^ 32 = All-head (λ (n : ℕ). n < 2 ^ 32) value [] (subst AreSmall states small) in
    omega arith
states_or_fault at k (delimited from part) ms ns cause states small fault = packed_or_fault_here from part k fault.0 ms ns cause states small fault.1 fault.2
states_or_fault at k content ms ns cause states small fault = states

-- a field states small numbers, or has a fault after some
abbrev pub StatesOrFault : Entry → Type 0
StatesOrFault e = ((numbers : List ℕ) × States e.content numbers × AreSmall numbers) ⊎ ((numbers : List ℕ) × (cause : WireCause) × NumberFault e numbers cause × AreSmall numbers)

varint_judged : (e : Entry) (value place : ℕ) → e.content ≡ varint value place → StatesOrFault e
varint_judged e value place is = elim (cases_lt value (2 ^ 32)) [
  | inl small ↦ inl (value ∷ [], subst (λ (c : Content). States c (value ∷ [])) (sym is) refl, All-cons (λ (n : ℕ). n < 2 ^ 32) value [] small (All-nil (λ (n : ℕ). n < 2 ^ 32)))
  | inr large ↦ inr ([], cause_at OutOfRange place e.number, large_number value place is large refl refl, All-nil (λ (n : ℕ). n < 2 ^ 32))
]

other_judged : (e : Entry) → is_own Numbers (wire_type_of e.content) ≡ false → StatesOrFault e
other_judged e other = inr ([], cause_at OtherType e.at e.number, other_type other refl refl, All-nil (λ (n : ℕ). n < 2 ^ 32))

stop_judged : (e : Entry) (from : ℕ) (part : List ℕ) (numbers : List ℕ) (stop : ℕ) → e.content ≡ delimited from part → VarintList part 0 numbers stop → NoSmallNumber part stop → AreSmall numbers → StatesOrFault e
stop_judged e from part numbers stop is list (inl bad) small =
    inr (numbers, cause_at bad.0 (from + stop) e.number, in_packed_list from part stop is list (no_varint numbers stop bad.0 list bad.1 bad.2 refl) refl, small)
stop_judged e from part numbers stop is list (inr large) small =
    inr (numbers, cause_at OutOfRange (from + stop) e.number, in_packed_list from part stop is list (too_large numbers stop large.0 large.1 list large.2 large.3 refl) refl, small)

delimited_judged : (e : Entry) (from : ℕ) (part : List ℕ) → e.content ≡ delimited from part → StatesOrFault e
delimited_judged e from part is = elim (numbers_or_stop (length part) part 0 (omega arith) (omega arith)) [
  | inl whole ↦ inl (whole.0, subst (λ (c : Content). States c whole.0) (sym is) whole.1, whole.2)
  | inr bad ↦ stop_judged e from part bad.0 bad.1 is bad.2 bad.3 bad.4
]

judged_by_content : (e : Entry) (content : Content) → e.content ≡ content → StatesOrFault e
judged_by_content e (varint value place) is = varint_judged e value place is
judged_by_content e (delimited from part) is = delimited_judged e from part is
judged_by_content e content is = other_judged e (ap (λ (c : Content). is_own Numbers (wire_type_of c)) is)

pub states_or_faulty : (e : Entry) → StatesOrFault e
states_or_faulty e = judged_by_content e e.content refl

-- a fault lies within its field
pub fault_extent : (bytes : List ℕ) (at key_end to k : ℕ) (content : Content) (numbers : List ℕ) (cause : WireCause) → at < key_end → key_end ≤ length bytes → IsPayload bytes key_end to content → FaultOf at k content numbers cause → (at ≤ cause.at) × (cause.at < to)
fault_extent bytes at key_end to k (varint value place) numbers cause following within payload fault =
    let here : cause.at ≡ place = ap (λ (c : WireCause). c.at) fault.2 in
    (omega arith, omega arith)
fault_extent bytes at key_end to k (delimited from part) numbers cause following within payload fault =
    let here = place_here from part k fault.0 cause fault.2 in
    let inside = fault_within from part k fault.0 cause fault.2 in
    let size : length part ≡ to - from = ap length payload.4 ∙ length-between bytes from to payload.3 in
    (omega arith, omega arith)
fault_extent bytes at key_end to k content numbers cause following within payload fault =
    let here : cause.at ≡ at = ap (λ (c : WireCause). c.at) fault.1 in
    (omega arith, omega arith)
