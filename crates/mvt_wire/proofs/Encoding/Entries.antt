-- A place has at most one key, one payload, one field; and what is in a list is in a longer one.
use Rattle.std.proofs.Common.{◌≡◌, ℕ, ◌+◌, ◌-◌, ◌*◌, ◌/◌, ◌%◌, ◌^◌, ◌<◌, ◌≤◌, List, [], ◌++◌, length, take, drop, slice_range, sym, ◌∙◌, ap, subst, arith, length-drop, length-append}
use Rattle.std.proofs.lemmas.List.{drop-append-le, take-append-le, nil_from_length}
use Rattle.mvt_wire.specs.Varint.{EncodesVarint}
use Rattle.mvt_wire.specs.Field.{Content, varint, eight_bytes, delimited, four_bytes, Entry, wire_type_of, IsKey, IsPayload, IsField, IsFieldEncoding}
use Rattle.mvt_wire.proofs.Encoding.Varints.{one_end, one_value}

-- a place has at most one key: its end, its field number and its wire type
pub record SameKey (to end m n s t : ℕ) : Type 0 where
  pub places : to ≡ end
  pub numbers : m ≡ n
  pub types : s ≡ t

pub one_key : (bytes : List ℕ) (at to end m n s t : ℕ) → IsKey bytes at to m s → IsKey bytes at end n t → SameKey to end m n s t
one_key bytes at to end m n s t first second =
    let value : m * 8 + s ≡ n * 8 + t = one_value bytes at to end _ _ first.encoded second.encoded in
    record { places = one_end bytes at to end _ _ first.encoded second.encoded; numbers = omega arith; types = omega arith }

-- the number and the wire type of a key
pub IsKey-from : (bytes : List ℕ) (at to n : ℕ) → EncodesVarint bytes at to n → n < 2 ^ 32 → 8 ≤ n → IsKey bytes at to (n / 8) (n % 8)
IsKey-from bytes at to n encoded small numbered =
    let parts : n ≡ n / 8 * 8 + n % 8 = omega arith in
    record {
      encoded = subst (λ k. EncodesVarint bytes at to k) parts encoded;
      below_limit = omega arith;
      numbered = omega arith;
      low_bits = omega arith;
    }

-- a place has at most one payload of a wire type
pub one_payload : (bytes : List ℕ) (from to end : ℕ) (c d : Content) → wire_type_of c ≡ wire_type_of d → IsPayload bytes from to c → IsPayload bytes from end d → (to ≡ end) × (c ≡ d)
one_payload bytes from to end (varint m a) (varint n b) same p q =
    let value : m ≡ n = one_value bytes from to end m n p.1 q.1 in
    let place : a ≡ b = p.0 ∙ sym q.0 in
    (one_end bytes from to end m n p.1 q.1, cc)
one_payload bytes from to end (eight_bytes a) (eight_bytes b) same p q =
    let place : to ≡ end = p.0 ∙ sym q.0 in
    (place, ap eight_bytes (p.2 ∙ ap (λ (k : ℕ). slice_range bytes from k) place ∙ sym q.2))
one_payload bytes from to end (four_bytes a) (four_bytes b) same p q =
    let place : to ≡ end = p.0 ∙ sym q.0 in
    (place, ap four_bytes (p.2 ∙ ap (λ (k : ℕ). slice_range bytes from k) place ∙ sym q.2))
one_payload bytes from to end (delimited s a) (delimited t b) same p q =
    let starts : s ≡ t = one_end bytes from s t p.0 q.0 p.1 q.1 in
    let size : p.0 ≡ q.0 = one_value bytes from s t p.0 q.0 p.1 q.1 in
    let place : to ≡ end = p.2 ∙ ap (λ (k : ℕ). s + k) size ∙ ap (λ (k : ℕ). k + q.0) starts ∙ sym q.2 in
    let part : a ≡ b = p.4 ∙ ap (λ (k : ℕ). slice_range bytes k to) starts ∙ ap (λ (k : ℕ). slice_range bytes t k) place ∙ sym q.4 in
    (place, cc)
one_payload bytes from to end c d same p q = absurd (omega arith)

abbrev pub entry_at : ℕ → ℕ → Content → Entry
entry_at n at content = record { number = n; at = at; content = content }

same_entry : (e f : Entry) → e.number ≡ f.number → e.at ≡ f.at → e.content ≡ f.content → e ≡ f
same_entry e f numbers places contents =
    ap (λ (n : ℕ). entry_at n e.at e.content) numbers ∙ ap (λ (at : ℕ). entry_at f.number at e.content) places ∙ ap (λ (content : Content). entry_at f.number f.at content) contents

-- a place has at most one field
pub one_field : (bytes : List ℕ) (to end : ℕ) (e f : Entry) → e.at ≡ f.at → IsField bytes to e → IsField bytes end f → (to ≡ end) × (e ≡ f)
one_field bytes to end e f here first second =
    let moved : IsKey bytes e.at second.key_end f.number (wire_type_of f.content) = subst (λ (k : ℕ). IsKey bytes k second.key_end f.number (wire_type_of f.content)) (sym here) second.key in
    let keys = one_key bytes e.at first.key_end second.key_end e.number f.number (wire_type_of e.content) (wire_type_of f.content) first.key moved in
    let payload : IsPayload bytes first.key_end end f.content = subst (λ (k : ℕ). IsPayload bytes k end f.content) (sym keys.places) second.payload in
    let payloads = one_payload bytes first.key_end to end e.content f.content keys.types first.payload payload in
    (payloads.0, same_entry e f keys.numbers here payloads.1)

-- no field is at the end
pub no_field_at_end : (bytes : List ℕ) (from next : ℕ) (e : Entry) → from ≡ length bytes → e.at ≡ from → IsField bytes next e → ⊥
no_field_at_end bytes from next e end here field =
    omega arith

-- a field takes bytes, all within its message
pub payload_extent : (bytes : List ℕ) (from to : ℕ) (content : Content) → from ≤ length bytes → IsPayload bytes from to content → (from ≤ to) × (to ≤ length bytes)
payload_extent bytes from to (varint value at) within p = let forward = p.1.forward in let inside = p.1.within in (omega arith, omega arith)
payload_extent bytes from to (delimited start part) within p = let forward = p.1.forward in (omega arith, p.3)
payload_extent bytes from to content within p = (omega arith, p.1)

pub field_extent : (bytes : List ℕ) (to : ℕ) (e : Entry) → IsField bytes to e → (e.at < to) × (to ≤ length bytes)
field_extent bytes to e field =
    let extent = payload_extent bytes field.key_end to e.content field.key.encoded.within field.payload in
    (omega arith, extent.1)

-- a part of a list is the same part of a longer one
pub slice_range-append : (bytes more : List ℕ) (from to : ℕ) → from ≤ to → to ≤ length bytes → slice_range (bytes ++ more) from to ≡ slice_range bytes from to
slice_range-append bytes more from to forward within =
    let start : from ≤ length bytes = omega arith in
    let left : to - from ≤ length (drop from bytes) = omega (arith, length-drop from bytes) in
    ap (take (to - from)) (drop-append-le from bytes more start) ∙ take-append-le (to - from) (drop from bytes) more left

-- what is in a list is in a longer one: a varint, a key, a payload, a field
pub EncodesVarint-append : (bytes more : List ℕ) (from to n : ℕ) → EncodesVarint bytes from to n → EncodesVarint (bytes ++ more) from to n
EncodesVarint-append bytes more from to n encoded =
    let forward = encoded.forward in
    let within = encoded.within in
    let longer = length-append bytes more in
    let ordered : from ≤ to = omega arith in
    record { forward = forward; within = omega arith; encoding = rw (slice_range-append bytes more from to ordered within) encoded.encoding }

pub IsKey-append : (bytes more : List ℕ) (from to n t : ℕ) → IsKey bytes from to n t → IsKey (bytes ++ more) from to n t
IsKey-append bytes more from to n t k =
    record { encoded = EncodesVarint-append bytes more from to _ k.encoded; below_limit = k.below_limit; numbered = k.numbered; low_bits = k.low_bits }

within-append : (bytes more : List ℕ) (to : ℕ) → to ≤ length bytes → to ≤ length (bytes ++ more)
within-append bytes more to within = let longer = length-append bytes more in omega arith

pub IsPayload-append : (bytes more : List ℕ) (from to : ℕ) (content : Content) → IsPayload bytes from to content → IsPayload (bytes ++ more) from to content
IsPayload-append bytes more from to (varint value at) p = (p.0, EncodesVarint-append bytes more from to value p.1)
IsPayload-append bytes more from to (delimited start part) p =
    let ordered : start ≤ to = omega arith in
    (p.0, EncodesVarint-append bytes more from start p.0 p.1, p.2, within-append bytes more to p.3, p.4 ∙ sym (slice_range-append bytes more start to ordered p.3))
IsPayload-append bytes more from to content p =
    let ordered : from ≤ to = omega arith in
    (p.0, within-append bytes more to p.1, p.2 ∙ sym (slice_range-append bytes more from to ordered p.1))

pub IsField-append : (bytes more : List ℕ) (to : ℕ) (e : Entry) → IsField bytes to e → IsField (bytes ++ more) to e
IsField-append bytes more to e field = record {
  key_end = field.key_end;
  key = IsKey-append bytes more e.at field.key_end e.number (wire_type_of e.content) field.key;
  payload = IsPayload-append bytes more field.key_end to e.content field.payload;
}

-- no field is a proper front of another one
pub no_longer_field : (encoding more : List ℕ) (e f : Entry) → IsFieldEncoding encoding e → IsFieldEncoding (encoding ++ more) f → more ≡ []
no_longer_field encoding more e f first second =
    let same = one_field (encoding ++ more) (length encoding) (length (encoding ++ more)) e f (first.0 ∙ sym second.0) (IsField-append encoding more (length encoding) e first.1) second.1 in
    let longer = length-append encoding more in
    nil_from_length more (omega arith)
