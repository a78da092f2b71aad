-- What a walk over numbers has left at a field: what comes from the field on.
use Rattle.std.proofs.Common.{Bor, ◌≡◌, ℕ, ◌+◌, ◌-◌, ◌^◌, ◌<◌, ◌≤◌, ◌⊎◌, inl, inr, false, List, [], ◌∷◌, ◌++◌, Option, Some, length, take, drop, refl, sym, ◌∙◌, ap, subst, arith, length-drop}
use Rattle.std.proofs.lemmas.List.{length-take-le, drop-drop}
use Rattle.std.proofs.lemmas.List.Elements.{All-nil}
use Rattle.std.proofs.lemmas.Slice.{between_is}
use Rattle.mvt_wire.specs.Varint.{EncodesVarint, VarintDefect}
use Rattle.mvt_wire.specs.Field.{content_of, Content, varint, delimited, cause_at, Entry, wire_type_of, IsPayload, IsField}
use Rattle.mvt_wire.specs.Number.{VarintList, States, PackedFault, no_varint, too_large}
use Rattle.mvt_wire.specs.Schema.{is_own}
use Rattle.mvt_wire.specs.Numbers.{NumberFault, other_type, large_number, in_packed_list, NumbersEnd, walk_at, StopsVarints, NumbersLeft, goes_on, stops}
use Rattle.mvt_wire.specs.declared.cause.WireCause.{WireCause}
use Rattle.mvt_wire.specs.declared.cause.WireCode.TheVariants.{OtherType, OutOfRange}
use Rattle.mvt_wire.specs.declared.field.Body.{Body}
use Rattle.mvt_wire.specs.declared.field.Body.TheVariants.{Fixed64, Fixed32}
use Rattle.mvt_wire.specs.declared.schema.Shape.TheVariants.{Numbers}
use Rattle.mvt_wire.proofs.Encoding.Varints.{one_value, varint_or_defect}
use Rattle.mvt_wire.proofs.Encoding.Entries.{field_extent}
use Rattle.mvt_wire.proofs.Encoding.PackedLists.{varints_forward}
use Rattle.mvt_wire.proofs.Encoding.VarintLists.{empty_list, alone_in_span, front_of_one, VarintList-drop, EncodesVarint-drop, EncodesVarint-take}
use Rattle.mvt_wire.proofs.FieldNumbers.NumberEnds.{ends_in_field, ends-skip, ends-cons}

-- between two fields a walk has left what comes from the second one on
pub left_at_field : (bytes : List ℕ) (at k : ℕ) (numbers : List ℕ) (ending : Option WireCause) → at ≤ length bytes → NumbersLeft (walk_at bytes k at at) numbers ending → NumbersEnd bytes at k numbers ending
left_at_field bytes at k numbers ending within (goes_on first rest list small end joined) =
    let none : first ≡ [] = empty_list (take at bytes) at first list in
    subst (λ (ns : List ℕ). NumbersEnd bytes at k ns ending) (sym (joined ∙ ap (λ (ns : List ℕ). ns ++ rest) none)) end
left_at_field bytes at k numbers ending within (stops cause fault is) =
    let forward = varints_forward (take at bytes) at fault.at numbers fault.before in
    let size = length-take-le at bytes within in
    absurd (omega arith)

-- a field of another number
pub left_after_other : (bytes : List ℕ) (at to k : ℕ) (e : Entry) (numbers : List ℕ) (ending : Option WireCause) → e.at ≡ at → IsField bytes to e → (e.number ≡ k → ⊥) → NumbersLeft (walk_at bytes k to to) numbers ending → NumbersEnd bytes at k numbers ending
left_after_other bytes at to k e numbers ending here field is_not left =
    ends-skip bytes at to k e numbers ending here field is_not (left_at_field bytes to k numbers ending (field_extent bytes to e field).1 left)

-- the fault of a field's one number
single_fault : (bytes : List ℕ) (at place to k value : ℕ) (e : Entry) (numbers : List ℕ) (cause : WireCause) → e.number ≡ k → e.content ≡ varint value place → EncodesVarint (take to bytes) place to value → to ≤ length bytes
    → StopsVarints (take to bytes) place k numbers cause → NumberFault e numbers cause
single_fault bytes at place to k value e numbers cause is content encoded within fault =
    let size = length-take-le to bytes within in
    let front = front_of_one (take to bytes) place to value numbers fault.at encoded fault.before (omega arith) in
    elim fault.fault [
      | inl bad ↦ absurd (varint_or_defect (take to bytes) place to value bad.0 encoded (subst (λ (p : ℕ). VarintDefect bad.0 (drop p (take to bytes))) front.1 bad.1))
      | inr large ↦
          let moved : EncodesVarint (take to bytes) place large.0 large.1 = subst (λ (p : ℕ). EncodesVarint (take to bytes) p large.0 large.1) front.1 large.2 in
          let same : large.1 ≡ value = one_value (take to bytes) place large.0 to large.1 value moved encoded in
          large_number value place content (omega arith) front.0 (large.4 ∙ ap (λ (p : ℕ). cause_at OutOfRange p k) front.1 ∙ ap (λ (n : ℕ). cause_at OutOfRange place n) (sym is))
    ]

-- a field with one number
pub left_in_single : (bytes : List ℕ) (at to k value place : ℕ) (e : Entry) (numbers : List ℕ) (ending : Option WireCause) → e.at ≡ at → IsField bytes to e → e.number ≡ k → e.content ≡ varint value place
    → NumbersLeft (walk_at bytes k place to) numbers ending → NumbersEnd bytes at k numbers ending
left_in_single bytes at to k value place e numbers ending here field is content left =
    let payload : IsPayload bytes field.key_end to (varint value place) = subst (λ (c : Content). IsPayload bytes field.key_end to c) content field.payload in
    let within = (field_extent bytes to e field).1 in
    let whole : EncodesVarint bytes place to value = subst (λ (p : ℕ). EncodesVarint bytes p to value) (sym payload.0) payload.1 in
    let encoded : EncodesVarint (take to bytes) place to value = EncodesVarint-take bytes to place to value (omega arith) within whole in
    elim left [
      | goes_on first rest list small end joined ↦
          let one : first ≡ value ∷ [] = alone_in_span (take to bytes) place to value first encoded list in
          let states : States e.content first = subst (λ (c : Content). States c first) (sym content) one in
          subst (λ (ns : List ℕ). NumbersEnd bytes at k ns ending) (sym joined) (ends-cons bytes at to k e first rest ending here field is states small end)
      | stops cause fault ends ↦
          subst (λ (o : Option WireCause). NumbersEnd bytes at k numbers o) (sym ends)
          (ends_in_field bytes at to k e numbers cause here field is (single_fault bytes at place to k value e numbers cause is content encoded within fault) fault.small)
    ]

-- the fault of a packed list, as its part of the bytes has it
packed_fault : (bytes : List ℕ) (from k : ℕ) (numbers : List ℕ) (cause : WireCause) (fault : StopsVarints bytes from k numbers cause) → PackedFault from (drop from bytes) k cause
packed_fault bytes from k numbers cause fault =
    let forward : from ≤ fault.at = varints_forward bytes from fault.at numbers fault.before in
    let size = length-drop from bytes in
    let zero : from - from ≡ 0 = omega arith in
    let place : from + (fault.at - from) ≡ fault.at = omega arith in
    let list : VarintList (drop from bytes) 0 numbers (fault.at - from) = subst (λ (p : ℕ). VarintList (drop from bytes) p numbers (fault.at - from)) zero (VarintList-drop bytes from from numbers fault.at (omega arith) fault.before) in
    elim fault.fault [
      | inl bad ↦
          let rest : drop fault.at bytes ≡ drop (fault.at - from) (drop from bytes) = ap (λ (p : ℕ). drop p bytes) (sym place) ∙ sym (drop-drop (fault.at - from) from bytes) in
          no_varint numbers (fault.at - from) bad.0 list (omega arith) (subst (VarintDefect bad.0) rest bad.1) (bad.2 ∙ ap (λ (p : ℕ). cause_at bad.0 p k) (sym place))
      | inr large ↦
          too_large numbers (fault.at - from) (large.0 - from) large.1 list (EncodesVarint-drop bytes from fault.at large.0 large.1 forward large.2) large.3 (large.4 ∙ ap (λ (p : ℕ). cause_at OutOfRange p k) (sym place))
    ]

place_of_fault : (bytes : List ℕ) (from k : ℕ) (numbers : List ℕ) (cause : WireCause) (fault : StopsVarints bytes from k numbers cause) → cause.at ≡ fault.at
place_of_fault bytes from k numbers cause fault = elim fault.fault [ inl bad ↦ ap (λ (c : WireCause). c.at) bad.2 | inr large ↦ ap (λ (c : WireCause). c.at) large.4 ]

-- the same as a fault of the field
list_fault : (bytes : List ℕ) (from k : ℕ) (part : List ℕ) (e : Entry) (numbers : List ℕ) (cause : WireCause) → e.number ≡ k → e.content ≡ delimited from part → part ≡ drop from bytes
    → StopsVarints bytes from k numbers cause → NumberFault e numbers cause
list_fault bytes from k part e numbers cause is content rest fault =
    let forward : from ≤ fault.at = varints_forward bytes from fault.at numbers fault.before in
    let zero : from - from ≡ 0 = omega arith in
    let here = place_of_fault bytes from k numbers cause fault in
    let list : VarintList (drop from bytes) 0 numbers (fault.at - from) = subst (λ (p : ℕ). VarintList (drop from bytes) p numbers (fault.at - from)) zero (VarintList-drop bytes from from numbers fault.at (omega arith) fault.before) in
    let fault_of_part : PackedFault from (drop from bytes) e.number cause = subst (λ (n : ℕ). PackedFault from (drop from bytes) n cause) (sym is) (packed_fault bytes from k numbers cause fault) in
    in_packed_list from part (fault.at - from) content (subst (λ (p : List ℕ). VarintList p 0 numbers (fault.at - from)) (sym rest) list)
    (subst (λ (p : List ℕ). PackedFault from p e.number cause) (sym rest) fault_of_part) (omega arith)

-- a field with a packed list
pub left_in_list : (bytes : List ℕ) (at to k from : ℕ) (part : List ℕ) (e : Entry) (numbers : List ℕ) (ending : Option WireCause) → e.at ≡ at → IsField bytes to e → e.number ≡ k → e.content ≡ delimited from part
    → NumbersLeft (walk_at bytes k from to) numbers ending → NumbersEnd bytes at k numbers ending
left_in_list bytes at to k from part e numbers ending here field is content left =
    let payload : IsPayload bytes field.key_end to (delimited from part) = subst (λ (c : Content). IsPayload bytes field.key_end to c) content field.payload in
    let rest_of : part ≡ drop from (take to bytes) = payload.4 ∙ between_is bytes from to in
    let size = length-take-le to bytes payload.3 in
    elim left [
      | goes_on first rest list small end joined ↦
          let zero : from - from ≡ 0 = omega arith in
          let end_of_part : to - from ≡ length part = omega (arith, ap length rest_of, length-drop from (take to bytes)) in
          let moved : VarintList (drop from (take to bytes)) 0 first (length part) =
          subst (λ (p : ℕ). VarintList (drop from (take to bytes)) p first (length part)) zero (subst (λ (p : ℕ). VarintList (drop from (take to bytes)) (from - from) first p) end_of_part (VarintList-drop (take to bytes) from from first to (omega arith) list)) in
          let states : States e.content first = subst (λ (c : Content). States c first) (sym content) (subst (λ (p : List ℕ). VarintList p 0 first (length part)) (sym rest_of) moved) in
          subst (λ (ns : List ℕ). NumbersEnd bytes at k ns ending) (sym joined) (ends-cons bytes at to k e first rest ending here field is states small end)
      | stops cause fault ends ↦
          subst (λ (o : Option WireCause). NumbersEnd bytes at k numbers o) (sym ends)
          (ends_in_field bytes at to k e numbers cause here field is (list_fault (take to bytes) from k part e numbers cause is content rest_of fault) fault.small)
    ]

-- a field that is no varint and no packed list
pub ends_at_other_type : (bytes : List ℕ) (at to k : ℕ) (e : Entry) → e.at ≡ at → IsField bytes to e → e.number ≡ k → is_own Numbers (wire_type_of e.content) ≡ false → NumbersEnd bytes at k [] (Some (cause_at OtherType e.at k))
ends_at_other_type bytes at to k e here field is other =
    ends_in_field bytes at to k e [] (cause_at OtherType e.at k) here field is (other_type other refl (ap (λ (n : ℕ). cause_at OtherType e.at n) (sym is))) (All-nil (λ (n : ℕ). n < 2 ^ 32))

-- a body of eight or four bytes has another type
pub is_other_type : (body : Body) → ((part : Bor (List ℕ)) × (body ≡ Fixed64 part)) ⊎ ((part : Bor (List ℕ)) × (body ≡ Fixed32 part)) → is_own Numbers (wire_type_of (content_of body)) ≡ false
is_other_type body (inl eight) = ap (λ (b : Body). is_own Numbers (wire_type_of (content_of b))) eight.1
is_other_type body (inr four) = ap (λ (b : Body). is_own Numbers (wire_type_of (content_of b))) four.1
