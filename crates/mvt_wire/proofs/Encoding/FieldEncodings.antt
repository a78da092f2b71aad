-- A whole message is a concatenation of the encodings of its fields.
use Rattle.std.proofs.Common.{◌≡◌, ℕ, ◌+◌, ◌-◌, ◌*◌, ◌≤◌, List, [], ◌∷◌, ◌++◌, length, take, drop, slice_range, refl, sym, ◌∙◌, ap, subst, arith, length-drop, length-append, append_assoc}
use Rattle.std.specs.List.{concat}
use Rattle.std.proofs.lemmas.List.{drop-drop, drop_at, drop_all, append-nil, length-take-le, take-append-drop}
use Rattle.mvt_wire.specs.Varint.{IsVarint, EncodesVarint}
use Rattle.mvt_wire.specs.Field.{Content, varint, delimited, Entry, wire_type_of, IsKey, IsPayload, IsField, IsFieldEncoding}
use Rattle.mvt_wire.specs.Message.{FieldList, IsMessage, content_moved, entry_moved, AreEncodings}
use Rattle.mvt_wire.proofs.Encoding.Entries.{entry_at, slice_range-append, IsField-append, payload_extent, field_extent}

-- a part of a list is the same part, further on, of the list after others
slice_range-prepend : (front bytes : List ℕ) (from to : ℕ) → slice_range (front ++ bytes) (length front + from) (length front + to) ≡ slice_range bytes from to
slice_range-prepend front bytes from to =
    let size : length front + to - (length front + from) ≡ to - from = omega arith in
    let rest : drop (length front + from) (front ++ bytes) ≡ drop from bytes =
    sym (drop-drop from (length front) (front ++ bytes)) ∙ ap (drop from) (drop_at front bytes (length front) refl) in
    rw (size, rest) refl

EncodesVarint-prepend : (front bytes : List ℕ) (from to n : ℕ) → EncodesVarint bytes from to n → EncodesVarint (front ++ bytes) (length front + from) (length front + to) n
EncodesVarint-prepend front bytes from to n encoded =
    let forward = encoded.forward in
    let within = encoded.within in
    let longer = length-append front bytes in
    record { forward = omega arith; within = omega arith; encoding = rw (slice_range-prepend front bytes from to) encoded.encoding }

wire_type-moved : (by : ℕ) (content : Content) → wire_type_of (content_moved by content) ≡ wire_type_of content
wire_type-moved by (varint value at) = refl
wire_type-moved by content = refl

IsKey-prepend : (front bytes : List ℕ) (from to n t : ℕ) → IsKey bytes from to n t → IsKey (front ++ bytes) (length front + from) (length front + to) n t
IsKey-prepend front bytes from to n t k =
    record { encoded = EncodesVarint-prepend front bytes from to _ k.encoded; below_limit = k.below_limit; numbered = k.numbered; low_bits = k.low_bits }

within-prepend : (front bytes : List ℕ) (to : ℕ) → to ≤ length bytes → length front + to ≤ length (front ++ bytes)
within-prepend front bytes to within = let longer = length-append front bytes in omega arith

IsPayload-prepend : (front bytes : List ℕ) (from to : ℕ) (content : Content) → IsPayload bytes from to content → IsPayload (front ++ bytes) (length front + from) (length front + to) (content_moved (length front) content)
IsPayload-prepend front bytes from to (varint value at) p = (ap (λ (k : ℕ). length front + k) p.0, EncodesVarint-prepend front bytes from to value p.1)
IsPayload-prepend front bytes from to (delimited start part) p =
    (p.0, EncodesVarint-prepend front bytes from start p.0 p.1, omega arith, within-prepend front bytes to p.3, p.4 ∙ sym (slice_range-prepend front bytes start to))
IsPayload-prepend front bytes from to content p = (omega arith, within-prepend front bytes to p.1, p.2 ∙ sym (slice_range-prepend front bytes from to))

-- a field of a list is a field of the list after others, with its places moved
IsField-prepend : (front bytes : List ℕ) (to : ℕ) (e : Entry) → IsField bytes to e → IsField (front ++ bytes) (length front + to) (entry_moved (length front) e)
IsField-prepend front bytes to e field = record {
  key_end = length front + field.key_end;
  key = subst (λ (t : ℕ). IsKey (front ++ bytes) (length front + e.at) (length front + field.key_end) e.number t) (sym (wire_type-moved (length front) e.content))
      (IsKey-prepend front bytes e.at field.key_end e.number (wire_type_of e.content) field.key);
  payload = IsPayload-prepend front bytes field.key_end to e.content field.payload;
}

-- encodings one after another are the fields of what they make together
joined_from : (front : List ℕ) (pieces : List (List ℕ)) (entries : List Entry) → AreEncodings (length front) pieces entries → FieldList (front ++ concat pieces) (length front) entries (length (front ++ concat pieces))
joined_from front [] [] p = ap length (sym (append-nil front))
joined_from front (piece ∷ pieces) (entry ∷ entries) p =
    let here : entry.at ≡ length front = ap (λ (e : Entry). e.at) p.2 ∙ ap (λ (k : ℕ). length front + k) p.1.0 ∙ (omega arith) in
    let following : IsField (front ++ (piece ++ concat pieces)) (length front + length piece) (entry_moved (length front) p.0) =
    IsField-prepend front (piece ++ concat pieces) (length piece) p.0 (IsField-append piece (concat pieces) (length piece) p.0 p.1.1) in
    let field : IsField (front ++ (piece ++ concat pieces)) (length front + length piece) entry = subst (λ (e : Entry). IsField (front ++ (piece ++ concat pieces)) (length front + length piece) e) (sym p.2) following in
    let place : length (front ++ piece) ≡ length front + length piece = length-append front piece in
    let rest = joined_from (front ++ piece) pieces entries (subst (λ (at : ℕ). AreEncodings at pieces entries) (sym place) p.3) in
    let whole : (front ++ piece) ++ concat pieces ≡ front ++ (piece ++ concat pieces) = append_assoc front piece (concat pieces) in
    let rest = subst (λ (bytes : List ℕ). FieldList bytes (length (front ++ piece)) entries (length bytes)) whole rest in
    let rest = subst (λ (at : ℕ). FieldList (front ++ (piece ++ concat pieces)) at entries (length (front ++ (piece ++ concat pieces)))) place rest in
    (here, (length front + length piece, field, rest))
joined_from front pieces entries p = absurd p

pub joined : (pieces : List (List ℕ)) (entries : List Entry) → AreEncodings 0 pieces entries → IsMessage (concat pieces) 0 entries
joined pieces entries p = joined_from [] pieces entries p

-- a place after others, counted from there
told_from : (by k : ℕ) → by ≤ k → k ≡ by + (k - by)
told_from by k h = omega arith

EncodesVarint-following : (front bytes : List ℕ) (from to n : ℕ) → EncodesVarint (front ++ bytes) (length front + from) to n → EncodesVarint bytes from (to - length front) n
EncodesVarint-following front bytes from to n encoded =
    let forward = encoded.forward in
    let within = encoded.within in
    let longer = length-append front bytes in
    let place : to ≡ length front + (to - length front) = told_from (length front) to (omega arith) in
    let part : slice_range (front ++ bytes) (length front + from) to ≡ slice_range bytes from (to - length front) =
    ap (λ (k : ℕ). slice_range (front ++ bytes) (length front + from) k) place ∙ slice_range-prepend front bytes from (to - length front) in
    record { forward = omega arith; within = omega arith; encoding = subst (λ (part : List ℕ). IsVarint part n) part encoded.encoding }

IsPayload-following : (front bytes : List ℕ) (from to : ℕ) (content : Content) → IsPayload (front ++ bytes) (length front + from) to content → (c : Content) × (content ≡ content_moved (length front) c) × IsPayload bytes from (to - length front) c
IsPayload-following front bytes from to (varint value at) p =
    (varint value from, ap (λ (k : ℕ). varint value k) p.0, (refl, EncodesVarint-following front bytes from to value p.1))
IsPayload-following front bytes from to (delimited start part) p =
    let longer = length-append front bytes in
    let begin : start ≡ length front + (start - length front) = told_from (length front) start (omega arith) in
    let place : to ≡ length front + (to - length front) = told_from (length front) to (omega arith) in
    let same : slice_range (front ++ bytes) start to ≡ slice_range bytes (start - length front) (to - length front) =
    ap (λ (k : ℕ). slice_range (front ++ bytes) k to) begin ∙ ap (λ (k : ℕ). slice_range (front ++ bytes) (length front + (start - length front)) k) place
    ∙ slice_range-prepend front bytes (start - length front) (to - length front) in (
      delimited (start - length front) part,
      ap (λ (k : ℕ). delimited k part) begin,
      (p.0, EncodesVarint-following front bytes from start p.0 p.1, omega arith, omega arith, p.4 ∙ same),
    )
IsPayload-following front bytes from to content p =
    let longer = length-append front bytes in
    let place : to ≡ length front + (to - length front) = told_from (length front) to (omega arith) in
    (content, refl, (omega arith, omega arith, p.2 ∙ ap (λ (k : ℕ). slice_range (front ++ bytes) (length front + from) k) place ∙ slice_range-prepend front bytes from (to - length front)))

-- a field after a front of the list is a field of the rest, with its places counted from there
IsField-following : (front bytes : List ℕ) (to : ℕ) (e : Entry) → length front ≤ e.at → IsField (front ++ bytes) to e → (u : Entry) × (e ≡ entry_moved (length front) u) × IsField bytes (to - length front) u
IsField-following front bytes to e following field =
    let k = field.key in
    let at : e.at ≡ length front + (e.at - length front) = told_from (length front) e.at following in
    let end : field.key_end ≡ length front + (field.key_end - length front) = told_from (length front) field.key_end (omega arith) in
    let payload : IsPayload (front ++ bytes) (length front + (field.key_end - length front)) to e.content = subst (λ (k : ℕ). IsPayload (front ++ bytes) k to e.content) end field.payload in
    let found = IsPayload-following front bytes (field.key_end - length front) to e.content payload in
    let type : wire_type_of e.content ≡ wire_type_of found.0 = ap wire_type_of found.1 ∙ wire_type-moved (length front) found.0 in
    let encoded : EncodesVarint (front ++ bytes) (length front + (e.at - length front)) field.key_end (e.number * 8 + wire_type_of e.content) =
    subst (λ (k : ℕ). EncodesVarint (front ++ bytes) k field.key_end (e.number * 8 + wire_type_of e.content)) at k.encoded in
    let key : IsKey bytes (e.at - length front) (field.key_end - length front) e.number (wire_type_of e.content) = record {
      encoded = EncodesVarint-following front bytes (e.at - length front) field.key_end _ encoded;
      below_limit = k.below_limit;
      numbered = k.numbered;
      low_bits = k.low_bits;
    } in (
      entry_at e.number (e.at - length front) found.0,
      ap (λ (k : ℕ). entry_at e.number k e.content) at ∙ ap (λ (c : Content). entry_at e.number (length front + (e.at - length front)) c) found.1,
      record {
        key_end = field.key_end - length front;
        key = subst (λ (t : ℕ). IsKey bytes (e.at - length front) (field.key_end - length front) e.number t) type key;
        payload = found.2;
      },
    )

EncodesVarint-within : (bytes more : List ℕ) (from to n : ℕ) → to ≤ length bytes → EncodesVarint (bytes ++ more) from to n → EncodesVarint bytes from to n
EncodesVarint-within bytes more from to n within encoded =
    let forward = encoded.forward in
    let ordered : from ≤ to = omega arith in
    record { forward = forward; within = within; encoding = subst (λ (part : List ℕ). IsVarint part n) (slice_range-append bytes more from to ordered within) encoded.encoding }

IsPayload-within : (bytes more : List ℕ) (from to : ℕ) (content : Content) → to ≤ length bytes → IsPayload (bytes ++ more) from to content → IsPayload bytes from to content
IsPayload-within bytes more from to (varint value at) within p = (p.0, EncodesVarint-within bytes more from to value within p.1)
IsPayload-within bytes more from to (delimited start part) within p =
    let ordered : start ≤ to = omega arith in
    (p.0, EncodesVarint-within bytes more from start p.0 (omega arith) p.1, p.2, within, p.4 ∙ slice_range-append bytes more start to ordered within)
IsPayload-within bytes more from to content within p =
    let ordered : from ≤ to = omega arith in (p.0, within, p.2 ∙ slice_range-append bytes more from to ordered within)

-- a field that ends within a front of the list is a field of the front
IsField-within : (bytes more : List ℕ) (to : ℕ) (e : Entry) → to ≤ length bytes → IsField (bytes ++ more) to e → IsField bytes to e
IsField-within bytes more to e within field =
    let extent = payload_extent (bytes ++ more) field.key_end to e.content field.key.encoded.within field.payload in
    let inside : field.key_end ≤ length bytes = omega arith in
    record {
      key_end = field.key_end;
      key = record {
        encoded = EncodesVarint-within bytes more e.at field.key_end _ inside field.key.encoded;
        below_limit = field.key.below_limit;
        numbered = field.key.numbered;
        low_bits = field.key.low_bits;
      };
      payload = IsPayload-within bytes more field.key_end to e.content within field.payload;
    }

-- what a field after other bytes and before others is moved from is its encoding
encoded_alone : (by : ℕ) (piece rest : List ℕ) (entry encoded : Entry) → entry.at ≡ by → entry ≡ entry_moved by encoded → IsField (piece ++ rest) (length piece) encoded → IsFieldEncoding piece encoded
encoded_alone by piece rest entry encoded start told field =
    let places : entry.at ≡ by + encoded.at = ap (λ (entry : Entry). entry.at) told in
    (omega arith, IsField-within piece rest (length piece) encoded (omega arith) field)

-- a field after other bytes and before others has an encoding, which is moved after the former
encoding_between : (front piece rest : List ℕ) (entry : Entry) → entry.at ≡ length front → IsField (front ++ (piece ++ rest)) (length front + length piece) entry → (encoded : Entry) × IsFieldEncoding piece encoded × (entry ≡ entry_moved (length front) encoded)
encoding_between front piece rest entry start field =
    let found = IsField-following front (piece ++ rest) (length front + length piece) entry (omega arith) field in
    let width : length front + length piece - length front ≡ length piece = omega arith in
    let encoded : IsField (piece ++ rest) (length piece) found.0 = subst (λ (to : ℕ). IsField (piece ++ rest) to found.0) width found.2 in
    (found.0, encoded_alone (length front) piece rest entry found.0 start found.1 encoded, found.1)

-- the fields of a message are encodings one after another
parted_from : (bytes : List ℕ) (from : ℕ) (entries : List Entry) → IsMessage bytes from entries → (pieces : List (List ℕ)) × (drop from bytes ≡ concat pieces) × AreEncodings from pieces entries
parted_from bytes from [] h = ([], drop_all from bytes (omega arith), tt)
parted_from bytes from (e ∷ es) h =
    let next = h.1.0 in
    let extent = field_extent bytes next e h.1.1 in
    let piece : List ℕ = take (next - from) (drop from bytes) in
    let size = length-drop from bytes in
    let long : length piece ≡ next - from = length-take-le (next - from) (drop from bytes) (omega arith) in
    let front : length (take from bytes) ≡ from = length-take-le from bytes (omega arith) in
    let following : drop from bytes ≡ piece ++ drop next bytes =
    sym (take-append-drop (next - from) (drop from bytes)) ∙ ap (λ (rest : List ℕ). piece ++ rest) (drop-drop (next - from) from bytes ∙ ap (λ (k : ℕ). drop k bytes) (omega arith)) in
    let whole : bytes ≡ take from bytes ++ (piece ++ drop next bytes) = sym (take-append-drop from bytes) ∙ ap (λ (rest : List ℕ). take from bytes ++ rest) following in
    let width : next ≡ length (take from bytes) + length piece = omega arith in
    let field : IsField (take from bytes ++ (piece ++ drop next bytes)) (length (take from bytes) + length piece) e =
    subst (λ (to : ℕ). IsField (take from bytes ++ (piece ++ drop next bytes)) to e) width (subst (λ (list : List ℕ). IsField list next e) whole h.1.1) in
    let found = encoding_between (take from bytes) piece (drop next bytes) e (omega arith) field in
    let told : e ≡ entry_moved from found.0 = subst (λ (by : ℕ). e ≡ entry_moved by found.0) front found.2 in
    let rest = parted_from bytes next es h.1.2 in
    let end : next ≡ from + length piece = omega arith in (
      piece ∷ rest.0,
      following ∙ ap (λ (tail : List ℕ). piece ++ tail) rest.1,
      (found.0, found.1, told, subst (λ (at : ℕ). AreEncodings at rest.0 es) end rest.2),
    )

pub parted : (bytes : List ℕ) (entries : List Entry) → IsMessage bytes 0 entries → (pieces : List (List ℕ)) × (bytes ≡ concat pieces) × AreEncodings 0 pieces entries
parted bytes entries h = parted_from bytes 0 entries h
