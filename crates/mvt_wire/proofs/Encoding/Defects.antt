-- A place with bytes left has a field or one defect.
use Rattle.std.proofs.Common.{◌≡◌, ◌≢◌, ℕ, ◌+◌, ◌*◌, ◌/◌, ◌%◌, ◌^◌, ◌<◌, ◌≤◌, ◌⊎◌, ◌↔◌, Bool, IsTrue, true, false, inl, inr, List, length, drop, slice_range, refl, sym, ◌∙◌, ap, subst, arith}
use Rattle.std.proofs.lemmas.Bool.{cases_lt, cases_eq}
use Rattle.mvt_wire.specs.Varint.{EncodesVarint, VarintDefect}
use Rattle.mvt_wire.specs.Field.{Content, cause_at, varint, eight_bytes, delimited, four_bytes, Entry, wire_type_of, IsKey, IsPayload, IsField, IsRefusedType, HasLeadingVarint, PayloadEnd, FieldDefect, key, key_out_of_range, refused_type, leading_varint, past_end}
use Rattle.mvt_wire.specs.declared.cause.WireCause.{WireCause}
use Rattle.mvt_wire.specs.declared.cause.WireCode.{WireCode}
use Rattle.mvt_wire.specs.declared.cause.WireCode.TheVariants.{Ends, TooLong, BadNumber, BadWireType, PastEnd}
use Rattle.mvt_wire.proofs.Encoding.Varints.{place_begins, one_end, one_value, varint_or_defect, one_defect_of_varint}
use Rattle.mvt_wire.proofs.Encoding.Entries.{one_key, IsKey-from, entry_at}

-- a wire type of a field isn't a refused one
type_or_refused : (content : Content) → IsRefusedType (wire_type_of content) → ⊥
type_or_refused (varint value at) refused = grind arith
type_or_refused content refused = grind arith

-- where a payload is encoded, its leading varint has no defect
payload_or_varint_defect : (bytes : List ℕ) (from to : ℕ) (content : Content) (code : WireCode) → IsPayload bytes from to content → HasLeadingVarint (wire_type_of content) → VarintDefect code (drop from bytes) → ⊥
payload_or_varint_defect bytes from to (varint value at) code p leading defect = varint_or_defect bytes from to value code p.1 defect
payload_or_varint_defect bytes from to (delimited start part) code p leading defect = varint_or_defect bytes from start p.0 code p.1 defect
payload_or_varint_defect bytes from to content code p leading defect = grind arith

-- a place after a key has one end of its payload
one_payload_end : (bytes : List ℕ) (from wire_type end other : ℕ) → PayloadEnd bytes from wire_type end → PayloadEnd bytes from wire_type other → end ≡ other
one_payload_end bytes from wire_type end other (inl p) (inl q) = p.1 ∙ sym q.1
one_payload_end bytes from wire_type end other (inl p) (inr (inl q)) = absurd (omega arith)
one_payload_end bytes from wire_type end other (inl p) (inr (inr q)) = absurd (omega arith)
one_payload_end bytes from wire_type end other (inr (inl p)) (inl q) = absurd (omega arith)
one_payload_end bytes from wire_type end other (inr (inl p)) (inr (inl q)) = p.1 ∙ sym q.1
one_payload_end bytes from wire_type end other (inr (inl p)) (inr (inr q)) = absurd (omega arith)
one_payload_end bytes from wire_type end other (inr (inr p)) (inl q) = absurd (omega arith)
one_payload_end bytes from wire_type end other (inr (inr p)) (inr (inl q)) = absurd (omega arith)
one_payload_end bytes from wire_type end other (inr (inr p)) (inr (inr q)) =
    let starts : p.1.0 ≡ q.1.0 = one_end bytes from p.1.0 q.1.0 p.1.1 q.1.1 p.1.2 q.1.2 in
    let sizes : p.1.1 ≡ q.1.1 = one_value bytes from p.1.0 q.1.0 p.1.1 q.1.1 p.1.2 q.1.2 in
    p.1.3 ∙ ap (λ (k : ℕ). k + p.1.1) starts ∙ ap (λ (k : ℕ). q.1.0 + k) sizes ∙ sym q.1.3

-- where a payload is encoded, it ends within its message
payload_within : (bytes : List ℕ) (from to end : ℕ) (content : Content) → IsPayload bytes from to content → PayloadEnd bytes from (wire_type_of content) end → end ≤ length bytes
payload_within bytes from to end (eight_bytes part) p q =
    let same = one_payload_end bytes from 1 end to q (inl (refl, p.0)) in omega arith
payload_within bytes from to end (delimited start part) p q =
    let same = one_payload_end bytes from 2 end to q (inr (inr (refl, (start, p.0, p.1, p.2)))) in omega arith
payload_within bytes from to end (four_bytes part) p q =
    let same = one_payload_end bytes from 5 end to q (inr (inl (refl, p.0))) in omega arith
payload_within bytes from to end (varint value at) p q = grind arith

-- a place has a field or a defect
pub field_or_defect : (bytes : List ℕ) (to : ℕ) (e : Entry) (cause : WireCause) → IsField bytes to e → FieldDefect bytes e.at cause → ⊥
field_or_defect bytes to e cause field (key code defect is) = varint_or_defect bytes e.at field.key_end _ code field.key.encoded defect
field_or_defect bytes to e cause field (key_out_of_range end n encoded range is) =
    let value : e.number * 8 + wire_type_of e.content ≡ n = one_value bytes e.at field.key_end end _ n field.key.encoded encoded in
    elim range [ inl high ↦ omega arith | inr low ↦ omega arith ]
field_or_defect bytes to e cause field (refused_type end n t k refused is) =
    let keys = one_key bytes e.at field.key_end end e.number n (wire_type_of e.content) t field.key k in
    type_or_refused e.content (subst IsRefusedType (sym keys.types) refused)
field_or_defect bytes to e cause field (leading_varint end n t code k leading defect is) =
    let keys = one_key bytes e.at field.key_end end e.number n (wire_type_of e.content) t field.key k in
    payload_or_varint_defect bytes field.key_end to e.content code field.payload (subst HasLeadingVarint (sym keys.types) leading)
    (subst (λ (from : ℕ). VarintDefect code (drop from bytes)) (sym keys.places) defect)
field_or_defect bytes to e cause field (past_end end n t stop k ends past is) =
    let keys = one_key bytes e.at field.key_end end e.number n (wire_type_of e.content) t field.key k in
    let ends : PayloadEnd bytes field.key_end t stop = subst (λ (from : ℕ). PayloadEnd bytes from t stop) (sym keys.places) ends in
    let within = payload_within bytes field.key_end to stop e.content field.payload (subst (λ (t : ℕ). PayloadEnd bytes field.key_end t stop) (sym keys.types) ends) in
    omega arith

-- a number out of a key's range is no key
range_or_key : (bytes : List ℕ) (at to end n m t : ℕ) → EncodesVarint bytes at to n → (2 ^ 32 ≤ n) ⊎ (n < 8) → IsKey bytes at end m t → ⊥
range_or_key bytes at to end n m t encoded range k =
    let value : n ≡ m * 8 + t = one_value bytes at to end n (m * 8 + t) encoded k.encoded in
    elim range [ inl high ↦ omega arith | inr low ↦ omega arith ]

-- a refused wire type has no payload
refused_or_leading : (t : ℕ) → IsRefusedType t → HasLeadingVarint t → ⊥
refused_or_leading t a b = grind arith

refused_or_end : (bytes : List ℕ) (from t end : ℕ) → IsRefusedType t → PayloadEnd bytes from t end → ⊥
refused_or_end bytes from t end a p = grind arith

-- a payload that would end somewhere has a good leading varint
defect_or_end : (bytes : List ℕ) (from t end : ℕ) (code : WireCode) → HasLeadingVarint t → VarintDefect code (drop from bytes) → PayloadEnd bytes from t end → ⊥
defect_or_end bytes from t end code leading defect (inl p) = let type = p.0 in grind arith
defect_or_end bytes from t end code leading defect (inr (inl p)) = let type = p.0 in grind arith
defect_or_end bytes from t end code leading defect (inr (inr p)) = varint_or_defect bytes from p.1.0 p.1.1 code p.1.2 defect

-- a place has at most one defect
pub one_field_defect : (bytes : List ℕ) (at : ℕ) (c d : WireCause) → FieldDefect bytes at c → FieldDefect bytes at d → c ≡ d
one_field_defect bytes at c d (key a x is) (key b y also) =
    is ∙ ap (λ (code : WireCode). cause_at code at 0) (one_defect_of_varint (drop at bytes) a b x y) ∙ sym also
one_field_defect bytes at c d (key a x is) (key_out_of_range to n encoded range also) = absurd (varint_or_defect bytes at to n a encoded x)
one_field_defect bytes at c d (key a x is) (refused_type to n t k r also) = absurd (varint_or_defect bytes at to _ a k.encoded x)
one_field_defect bytes at c d (key a x is) (leading_varint to n t b k l y also) = absurd (varint_or_defect bytes at to _ a k.encoded x)
one_field_defect bytes at c d (key a x is) (past_end to n t end k e p also) = absurd (varint_or_defect bytes at to _ a k.encoded x)
one_field_defect bytes at c d (key_out_of_range to n encoded range is) (key b y also) = absurd (varint_or_defect bytes at to n b encoded y)
one_field_defect bytes at c d (key_out_of_range to n encoded range is) (key_out_of_range to' n' encoded' range' also) = is ∙ sym also
one_field_defect bytes at c d (key_out_of_range to n encoded range is) (refused_type end m t k r also) = absurd (range_or_key bytes at to end n m t encoded range k)
one_field_defect bytes at c d (key_out_of_range to n encoded range is) (leading_varint end m t b k l y also) = absurd (range_or_key bytes at to end n m t encoded range k)
one_field_defect bytes at c d (key_out_of_range to n encoded range is) (past_end end m t stop k e p also) = absurd (range_or_key bytes at to end n m t encoded range k)
one_field_defect bytes at c d (refused_type to n t k r is) (key b y also) = absurd (varint_or_defect bytes at to _ b k.encoded y)
one_field_defect bytes at c d (refused_type to n t k r is) (key_out_of_range end m encoded range also) = absurd (range_or_key bytes at end to m n t encoded range k)
one_field_defect bytes at c d (refused_type to n t k r is) (refused_type end m s h q also) =
    is ∙ ap (λ (field : ℕ). cause_at BadWireType at field) (one_key bytes at to end n m t s k h).numbers ∙ sym also
one_field_defect bytes at c d (refused_type to n t k r is) (leading_varint end m s b h l y also) =
    absurd (refused_or_leading s (subst IsRefusedType (one_key bytes at to end n m t s k h).types r) l)
one_field_defect bytes at c d (refused_type to n t k r is) (past_end end m s stop h e p also) =
    absurd (refused_or_end bytes end s stop (subst IsRefusedType (one_key bytes at to end n m t s k h).types r) e)
one_field_defect bytes at c d (leading_varint to n t a k l x is) (key b y also) = absurd (varint_or_defect bytes at to _ b k.encoded y)
one_field_defect bytes at c d (leading_varint to n t a k l x is) (key_out_of_range end m encoded range also) = absurd (range_or_key bytes at end to m n t encoded range k)
one_field_defect bytes at c d (leading_varint to n t a k l x is) (refused_type end m s h q also) =
    absurd (refused_or_leading s q (subst HasLeadingVarint (one_key bytes at to end n m t s k h).types l))
one_field_defect bytes at c d (leading_varint to n t a k l x is) (leading_varint end m s b h l' y also) =
    let same = one_key bytes at to end n m t s k h in
    let moved : VarintDefect a (drop end bytes) = subst (λ (place : ℕ). VarintDefect a (drop place bytes)) same.places x in
    is ∙ ap (λ (code : WireCode). cause_at code to n) (one_defect_of_varint (drop end bytes) a b moved y) ∙ ap (λ (place : ℕ). cause_at b place n) same.places ∙ ap (λ (field : ℕ). cause_at b end field) same.numbers ∙ sym also
one_field_defect bytes at c d (leading_varint to n t a k l x is) (past_end end m s stop h e p also) =
    let same = one_key bytes at to end n m t s k h in
    let moved : VarintDefect a (drop end bytes) = subst (λ (place : ℕ). VarintDefect a (drop place bytes)) same.places x in
    absurd (defect_or_end bytes end s stop a (subst HasLeadingVarint same.types l) moved e)
one_field_defect bytes at c d (past_end to n t stop k e p is) (key b y also) = absurd (varint_or_defect bytes at to _ b k.encoded y)
one_field_defect bytes at c d (past_end to n t stop k e p is) (key_out_of_range end m encoded range also) = absurd (range_or_key bytes at end to m n t encoded range k)
one_field_defect bytes at c d (past_end to n t stop k e p is) (refused_type end m s h q also) =
    absurd (refused_or_end bytes to t stop (subst IsRefusedType (sym (one_key bytes at to end n m t s k h).types) q) e)
one_field_defect bytes at c d (past_end to n t stop k e p is) (leading_varint end m s b h l y also) =
    let same = one_key bytes at to end n m t s k h in
    let moved : VarintDefect b (drop to bytes) = subst (λ (place : ℕ). VarintDefect b (drop place bytes)) (sym same.places) y in
    absurd (defect_or_end bytes to t stop b (subst HasLeadingVarint (sym same.types) l) moved e)
one_field_defect bytes at c d (past_end to n t stop k e p is) (past_end end m s stop' h e' p' also) =
    is ∙ ap (λ (field : ℕ). cause_at PastEnd at field) (one_key bytes at to end n m t s k h).numbers ∙ sym also

-- three low bits that are none of a field's wire types
pub refused : (wire_type : ℕ) → wire_type < 8 → wire_type ≢ 0 → wire_type ≢ 1 → wire_type ≢ 2 → wire_type ≢ 5 → IsRefusedType wire_type
refused wire_type few a b c d = grind arith

-- a number that is no key, by the test of the reader
pub BadNumber-at : (bytes : List ℕ) (at to n : ℕ) (test : Bool) → EncodesVarint bytes at to n → (IsTrue test ↔ (8 ≤ n) × (n < 2 ^ 32)) → test ≡ false
    → FieldDefect bytes at (record { code = BadNumber; at = at; field = 0 })
BadNumber-at bytes at to n test encoded decides failed = elim (cases_lt n 8) [
  | inl low ↦ key_out_of_range to n encoded (inr low) refl
  | inr numbered ↦ elim (cases_lt n (2 ^ 32)) [
    | inl small ↦ let passed : test ≡ true = decides.1 (numbered, small) in absurd (cc)
    | inr high ↦ key_out_of_range to n encoded (inl high) refl
  ]
]

-- a key with low three bits that are none of a field's wire types
pub BadWireType-at : (bytes : List ℕ) (at to n : ℕ) → EncodesVarint bytes at to n → n < 2 ^ 32 → 8 ≤ n → n % 8 ≢ 0 → n % 8 ≢ 1 → n % 8 ≢ 2 → n % 8 ≢ 5
    → FieldDefect bytes at (record { code = BadWireType; at = at; field = n / 8 })
BadWireType-at bytes at to n encoded small numbered a b c d =
    let key = IsKey-from bytes at to n encoded small numbered in
    refused_type to (n / 8) (n % 8) key (refused (n % 8) key.low_bits a b c d) refl

-- a place has a varint, or a defect with its code
pub varint_begins : (bytes : List ℕ) (at : ℕ) → at ≤ length bytes → ((to n : ℕ) × EncodesVarint bytes at to n) ⊎ ((code : WireCode) × VarintDefect code (drop at bytes))
varint_begins bytes at within = elim (place_begins bytes at within) [
  | inl found ↦ inl found
  | inr (inl early) ↦ inr (Ends, inl (refl, early))
  | inr (inr long) ↦ inr (TooLong, inr (refl, long))
]

-- a field, or what keeps it from standing
abbrev pub FieldOrDefect : List ℕ → ℕ → Type 0
FieldOrDefect bytes at = ((to : ℕ) × (e : Entry) × (e.at ≡ at) × IsField bytes to e) ⊎ ((cause : WireCause) × FieldDefect bytes at cause)

-- after a key with a wire type is its payload, or a defect
value_begins : (bytes : List ℕ) (at to n : ℕ) → IsKey bytes at to n 0 → to ≤ length bytes → FieldOrDefect bytes at
value_begins bytes at to n k within = elim (varint_begins bytes to within) [
  | inl found ↦ inl (found.0, entry_at n at (varint found.1 to), refl, record { key_end = to; key = k; payload = (refl, found.2) })
  | inr bad ↦ inr (cause_at bad.0 to n, leading_varint to n 0 bad.0 k (inl refl) bad.1 refl)
]

eight_begin : (bytes : List ℕ) (at to n : ℕ) → IsKey bytes at to n 1 → FieldOrDefect bytes at
eight_begin bytes at to n k = elim (cases_lt (length bytes) (to + 8)) [
  | inl less ↦ inr (cause_at PastEnd at n, past_end to n 1 (to + 8) k (inl (refl, refl)) less refl)
  | inr room ↦ inl (to + 8, entry_at n at (eight_bytes (slice_range bytes to (to + 8))), refl, record { key_end = to; key = k; payload = (refl, room, refl) })
]

four_begin : (bytes : List ℕ) (at to n : ℕ) → IsKey bytes at to n 5 → FieldOrDefect bytes at
four_begin bytes at to n k = elim (cases_lt (length bytes) (to + 4)) [
  | inl less ↦ inr (cause_at PastEnd at n, past_end to n 5 (to + 4) k (inr (inl (refl, refl))) less refl)
  | inr room ↦ inl (to + 4, entry_at n at (four_bytes (slice_range bytes to (to + 4))), refl, record { key_end = to; key = k; payload = (refl, room, refl) })
]

delimited_begin : (bytes : List ℕ) (at to n : ℕ) → IsKey bytes at to n 2 → to ≤ length bytes → FieldOrDefect bytes at
delimited_begin bytes at to n k within = elim (varint_begins bytes to within) [
  | inr bad ↦ inr (cause_at bad.0 to n, leading_varint to n 2 bad.0 k (inr refl) bad.1 refl)
  | inl found ↦ elim (cases_lt (length bytes) (found.0 + found.1)) [
    | inl less ↦ inr (cause_at PastEnd at n, past_end to n 2 (found.0 + found.1) k (inr (inr (refl, (found.0, found.1, found.2, refl)))) less refl)
    | inr room ↦ inl (found.0 + found.1, entry_at n at (delimited found.0 (slice_range bytes found.0 (found.0 + found.1))), refl, record { key_end = to; key = k; payload = (found.1, found.2, refl, room, refl) })
  ]
]

payload_begins : (bytes : List ℕ) (at to n t : ℕ) → IsKey bytes at to n t → to ≤ length bytes → FieldOrDefect bytes at
payload_begins bytes at to n t k within = elim (cases_eq t 0) [
  | inl zero_is ↦ value_begins bytes at to n (subst (λ (s : ℕ). IsKey bytes at to n s) zero_is k) within
  | inr not_zero ↦ elim (cases_eq t 1) [
    | inl one_is ↦ eight_begin bytes at to n (subst (λ (s : ℕ). IsKey bytes at to n s) one_is k)
    | inr not_one ↦ elim (cases_eq t 2) [
      | inl two_is ↦ delimited_begin bytes at to n (subst (λ (s : ℕ). IsKey bytes at to n s) two_is k) within
      | inr not_two ↦ elim (cases_eq t 5) [
        | inl five_is ↦ four_begin bytes at to n (subst (λ (s : ℕ). IsKey bytes at to n s) five_is k)
        | inr not_five ↦ inr (cause_at BadWireType at n, refused_type to n t k (refused t k.low_bits not_zero not_one not_two not_five) refl)
      ]
    ]
  ]
]

key_begins : (bytes : List ℕ) (at to n : ℕ) → EncodesVarint bytes at to n → FieldOrDefect bytes at
key_begins bytes at to n encoded = elim (cases_lt n 8) [
  | inl low ↦ inr (cause_at BadNumber at 0, key_out_of_range to n encoded (inr low) refl)
  | inr numbered ↦ elim (cases_lt n (2 ^ 32)) [
    | inr high ↦ inr (cause_at BadNumber at 0, key_out_of_range to n encoded (inl high) refl)
    | inl small ↦ payload_begins bytes at to (n / 8) (n % 8) (IsKey-from bytes at to n encoded small numbered) encoded.within
  ]
]

-- a place with bytes left has a field or a defect
pub field_begins : (bytes : List ℕ) (at : ℕ) → at ≤ length bytes → FieldOrDefect bytes at
field_begins bytes at within = elim (varint_begins bytes at within) [
  | inl found ↦ key_begins bytes at found.0 found.1 found.2
  | inr bad ↦ inr (cause_at bad.0 at 0, key bad.0 bad.1 refl)
]
