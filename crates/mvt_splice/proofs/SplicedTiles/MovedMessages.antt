-- A message has the same fields wherever its bytes lie; only their places are others.
use Rattle.std.proofs.Common.{◌≡◌, ℕ, ◌+◌, ◌-◌, ◌*◌, ◌≤◌, List, [], ◌∷◌, length, map, take, drop, slice_range, refl, sym, ◌∙◌, ap, subst, arith, length-drop}
use Rattle.std.proofs.lemmas.List.{drop-drop, drop-take, length-take-le}
use Rattle.mvt_wire.specs.Varint.{IsVarint, EncodesVarint}
use Rattle.mvt_wire.specs.Field.{Content, varint, delimited, Entry, wire_type_of, IsKey, IsPayload, IsField}
use Rattle.mvt_wire.specs.Message.{FieldList, IsMessage, content_moved, entry_moved}
use Rattle.mvt_wire.specs.Payload.{Span}
use Rattle.mvt_rules.specs.Scope.{IsMessageAt}
use Rattle.mvt_wire.proofs.Encoding.Entries.{entry_at, field_extent}

-- a part of the rest of a list is a part of the list, further on
same_part : (bytes : List ℕ) (by from to : ℕ) → slice_range bytes (by + from) (by + to) ≡ slice_range (drop by bytes) from to
same_part bytes by from to =
    let size : by + to - (by + from) ≡ to - from = omega arith in
    let rest : drop (by + from) bytes ≡ drop from (drop by bytes) = sym (drop-drop from by bytes) in
    rw (size, rest) refl

wire_type-moved : (by : ℕ) (content : Content) → wire_type_of (content_moved by content) ≡ wire_type_of content
wire_type-moved by (varint value at) = refl
wire_type-moved by content = refl

-- what is in the rest of a list is in the list, further on: a varint, a key, a payload, a field, a list of fields
EncodesVarint-raised : (bytes : List ℕ) (by from to n : ℕ) → EncodesVarint (drop by bytes) from to n → EncodesVarint bytes (by + from) (by + to) n
EncodesVarint-raised bytes by from to n encoded =
    let forward = encoded.forward in
    let within = encoded.within in
    let size = length-drop by bytes in
    record { forward = omega arith; within = omega arith; encoding = rw (same_part bytes by from to) encoded.encoding }

IsKey-raised : (bytes : List ℕ) (by from to n t : ℕ) → IsKey (drop by bytes) from to n t → IsKey bytes (by + from) (by + to) n t
IsKey-raised bytes by from to n t k =
    record { encoded = EncodesVarint-raised bytes by from to _ k.encoded; below_limit = k.below_limit; numbered = k.numbered; low_bits = k.low_bits }

within-raised : (bytes : List ℕ) (by to : ℕ) → 1 ≤ to → to ≤ length (drop by bytes) → by + to ≤ length bytes
within-raised bytes by to some within = let size = length-drop by bytes in omega arith

IsPayload-raised : (bytes : List ℕ) (by from to : ℕ) (content : Content) → IsPayload (drop by bytes) from to content → IsPayload bytes (by + from) (by + to) (content_moved by content)
IsPayload-raised bytes by from to (varint value at) p = (ap (λ (k : ℕ). by + k) p.0, EncodesVarint-raised bytes by from to value p.1)
IsPayload-raised bytes by from to (delimited start part) p =
    let forward = p.1.forward in
    (p.0, EncodesVarint-raised bytes by from start p.0 p.1, omega arith, within-raised bytes by to (omega arith) p.3, p.4 ∙ sym (same_part bytes by start to))
IsPayload-raised bytes by from to content p = (omega arith, within-raised bytes by to (omega arith) p.1, p.2 ∙ sym (same_part bytes by from to))

IsField-raised : (bytes : List ℕ) (by to : ℕ) (e : Entry) → IsField (drop by bytes) to e → IsField bytes (by + to) (entry_moved by e)
IsField-raised bytes by to e field = record {
  key_end = by + field.key_end;
  key = subst (λ (t : ℕ). IsKey bytes (by + e.at) (by + field.key_end) e.number t) (sym (wire_type-moved by e.content))
      (IsKey-raised bytes by e.at field.key_end e.number (wire_type_of e.content) field.key);
  payload = IsPayload-raised bytes by field.key_end to e.content field.payload;
}

FieldList-raised : (bytes : List ℕ) (by from : ℕ) (entries : List Entry) (to : ℕ) → FieldList (drop by bytes) from entries to → FieldList bytes (by + from) (map (entry_moved by) entries) (by + to)
FieldList-raised bytes by from [] to list = ap (λ (k : ℕ). by + k) list
FieldList-raised bytes by from (entry ∷ entries) to list =
    (ap (λ (k : ℕ). by + k) list.0, (by + list.1.0, IsField-raised bytes by list.1.0 entry list.1.1, FieldList-raised bytes by list.1.0 entries to list.1.2))

-- a place after others, counted from there
told_from : (by k : ℕ) → by ≤ k → k ≡ by + (k - by)
told_from by k h = omega arith

-- and what is in a list from a place on is in its rest
EncodesVarint-lowered : (bytes : List ℕ) (by from to n : ℕ) → EncodesVarint bytes (by + from) to n → EncodesVarint (drop by bytes) from (to - by) n
EncodesVarint-lowered bytes by from to n encoded =
    let forward = encoded.forward in
    let within = encoded.within in
    let size = length-drop by bytes in
    let part : slice_range bytes (by + from) to ≡ slice_range (drop by bytes) from (to - by) =
    ap (λ (k : ℕ). slice_range bytes (by + from) k) (told_from by to (omega arith)) ∙ same_part bytes by from (to - by) in
    record { forward = omega arith; within = omega arith; encoding = subst (λ (part : List ℕ). IsVarint part n) part encoded.encoding }

IsPayload-lowered : (bytes : List ℕ) (by from to : ℕ) (content : Content) → IsPayload bytes (by + from) to content → (c : Content) × (content ≡ content_moved by c) × IsPayload (drop by bytes) from (to - by) c
IsPayload-lowered bytes by from to (varint value at) p =
    (varint value from, ap (λ (k : ℕ). varint value k) p.0, (refl, EncodesVarint-lowered bytes by from to value p.1))
IsPayload-lowered bytes by from to (delimited start part) p =
    let size = length-drop by bytes in
    let forward = p.1.forward in
    let begin : start ≡ by + (start - by) = told_from by start (omega arith) in
    let place : to ≡ by + (to - by) = told_from by to (omega arith) in
    let same : slice_range bytes start to ≡ slice_range (drop by bytes) (start - by) (to - by) =
    ap (λ (k : ℕ). slice_range bytes k to) begin ∙ ap (λ (k : ℕ). slice_range bytes (by + (start - by)) k) place ∙ same_part bytes by (start - by) (to - by) in (
      delimited (start - by) part,
      ap (λ (k : ℕ). delimited k part) begin,
      (p.0, EncodesVarint-lowered bytes by from start p.0 p.1, omega arith, omega arith, p.4 ∙ same),
    )
IsPayload-lowered bytes by from to content p =
    let size = length-drop by bytes in
    let place : to ≡ by + (to - by) = told_from by to (omega arith) in
    (content, refl, (omega arith, omega arith, p.2 ∙ ap (λ (k : ℕ). slice_range bytes (by + from) k) place ∙ same_part bytes by from (to - by)))

IsField-lowered : (bytes : List ℕ) (by to : ℕ) (e : Entry) → by ≤ e.at → IsField bytes to e → (u : Entry) × (e ≡ entry_moved by u) × IsField (drop by bytes) (to - by) u
IsField-lowered bytes by to e following field =
    let k = field.key in
    let forward = k.encoded.forward in
    let at : e.at ≡ by + (e.at - by) = told_from by e.at following in
    let end : field.key_end ≡ by + (field.key_end - by) = told_from by field.key_end (omega arith) in
    let payload : IsPayload bytes (by + (field.key_end - by)) to e.content = subst (λ (k : ℕ). IsPayload bytes k to e.content) end field.payload in
    let found = IsPayload-lowered bytes by (field.key_end - by) to e.content payload in
    let type : wire_type_of e.content ≡ wire_type_of found.0 = ap wire_type_of found.1 ∙ wire_type-moved by found.0 in
    let encoded : EncodesVarint bytes (by + (e.at - by)) field.key_end (e.number * 8 + wire_type_of e.content) =
    subst (λ (k : ℕ). EncodesVarint bytes k field.key_end (e.number * 8 + wire_type_of e.content)) at k.encoded in
    let key : IsKey (drop by bytes) (e.at - by) (field.key_end - by) e.number (wire_type_of e.content) = record {
      encoded = EncodesVarint-lowered bytes by (e.at - by) field.key_end _ encoded;
      below_limit = k.below_limit;
      numbered = k.numbered;
      low_bits = k.low_bits;
    } in (
      entry_at e.number (e.at - by) found.0,
      ap (λ (k : ℕ). entry_at e.number k e.content) at ∙ ap (λ (c : Content). entry_at e.number (by + (e.at - by)) c) found.1,
      record {
        key_end = field.key_end - by;
        key = subst (λ (t : ℕ). IsKey (drop by bytes) (e.at - by) (field.key_end - by) e.number t) type key;
        payload = found.2;
      },
    )

FieldList-lowered : (bytes : List ℕ) (by from : ℕ) (entries : List Entry) (to : ℕ) → by ≤ from → FieldList bytes from entries to
    → (alone : List Entry) × (entries ≡ map (entry_moved by) alone) × FieldList (drop by bytes) (from - by) alone (to - by)
FieldList-lowered bytes by from [] to following list = ([], refl, ap (λ (k : ℕ). k - by) list)
FieldList-lowered bytes by from (entry ∷ entries) to following list =
    let here : entry.at ≡ from = list.0 in
    let next = list.1.0 in
    let extent = field_extent bytes next entry list.1.1 in
    let found = IsField-lowered bytes by next entry (omega arith) list.1.1 in
    let rest = FieldList-lowered bytes by next entries to (omega arith) list.1.2 in
    let head : entry ≡ entry_moved by found.0 = found.1 in
    let tail : entries ≡ map (entry_moved by) rest.0 = rest.1 in
    let place : entry.at ≡ by + found.0.at = ap (λ (e : Entry). e.at) head in
    (found.0 ∷ rest.0, (cc), (omega arith, (next - by, found.2, rest.2)))

-- the span of the bytes holds this list
pub record Holds (bytes : List ℕ) (span : Span) (part : List ℕ) : Type 0 where
  pub forward : span.from ≤ span.to
  pub within : span.to ≤ length bytes
  pub is : part ≡ slice_range bytes span.from span.to

-- the rest of the bytes up to the end of a span that holds a list
rest_of_front : (bytes : List ℕ) (span : Span) (part : List ℕ) → Holds bytes span part → drop span.from (take span.to bytes) ≡ part
rest_of_front bytes span part held =
    let forward = held.forward in
    ap (λ (k : ℕ). drop span.from (take k bytes)) (told_from span.from span.to forward) ∙ drop-take span.from (span.to - span.from) bytes ∙ sym held.is

-- a message in the bytes is a message by itself
pub message_alone : (bytes : List ℕ) (span : Span) (part : List ℕ) (entries : List Entry) → Holds bytes span part → IsMessageAt bytes span entries
    → (alone : List Entry) × (entries ≡ map (entry_moved span.from) alone) × IsMessage part 0 alone
message_alone bytes span part entries held whole =
    let forward = held.forward in
    let front = take span.to bytes in
    let rest : drop span.from front ≡ part = rest_of_front bytes span part held in
    let long : length front ≡ span.to = length-take-le span.to bytes held.within in
    let size : length (drop span.from front) ≡ length front - span.from = length-drop span.from front in
    let end : length front - span.from ≡ length part = sym size ∙ ap length rest in
    let begin : span.from - span.from ≡ 0 = omega arith in
    let found = FieldList-lowered front span.from span.from entries (length front) (omega arith) whole in
    let list = subst (λ (to : ℕ). FieldList (drop span.from front) (span.from - span.from) found.0 to) end found.2 in
    let list = subst (λ (from : ℕ). FieldList (drop span.from front) from found.0 (length part)) begin list in
    (found.0, found.1, subst (λ (list : List ℕ). FieldList list 0 found.0 (length part)) rest list)

-- and a message by itself is one wherever its bytes lie
pub message_placed : (bytes : List ℕ) (span : Span) (part : List ℕ) (alone : List Entry) → Holds bytes span part → IsMessage part 0 alone → IsMessageAt bytes span (map (entry_moved span.from) alone)
message_placed bytes span part alone held whole =
    let forward = held.forward in
    let front = take span.to bytes in
    let rest : drop span.from front ≡ part = rest_of_front bytes span part held in
    let long : length front ≡ span.to = length-take-le span.to bytes held.within in
    let size : length (drop span.from front) ≡ length front - span.from = length-drop span.from front in
    let same : length (drop span.from front) ≡ length part = ap length rest in
    let list = subst (λ (list : List ℕ). FieldList list 0 alone (length part)) (sym rest) whole in
    let list = FieldList-raised front span.from 0 alone (length part) list in
    let begin : span.from + 0 ≡ span.from = omega arith in
    let end : span.from + length part ≡ length front = omega arith in
    let list = subst (λ (from : ℕ). FieldList front from (map (entry_moved span.from) alone) (span.from + length part)) begin list in
    subst (λ (to : ℕ). FieldList front span.from (map (entry_moved span.from) alone) to) end list
