-- What is written after other bytes: varints, packed lists, and fields of wire type 2.
use Rattle.std.proofs.Common.{◌≡◌, ℕ, suc, ◌+◌, ◌-◌, ◌*◌, ◌/◌, ◌%◌, ◌^◌, ◌<◌, ◌≤◌, ◌⊎◌, inl, inr, List, [], ◌∷◌, ◌++◌, length, get_or, take, drop, slice_range, refl, sym, ◌∙◌, ap, subst, arith, append_assoc, append-nil, length-append, lit<, zero-add}
use Rattle.std.proofs.Math.Nat.{pow-suc, pow-le-pow_right, mul-le-mul_right}
use Rattle.std.proofs.Math.Seq.{take-append_seam}
use Rattle.std.proofs.lemmas.Bool.{cases_lt}
use Rattle.std.proofs.lemmas.List.{drop_at, get_or_append_left, get_or_at}
use Rattle.mvt_wire.specs.Varint.{sum_of_groups, IsVarint, EncodesVarint}
use Rattle.mvt_wire.specs.Field.{delimited, IsFieldEncoding}
use Rattle.mvt_wire.specs.Number.{VarintList}
use Rattle.mvt_wire.proofs.Encoding.Entries.{EncodesVarint-append}
use Rattle.mvt_wire.proofs.Encoding.Varints.{sum_of_groups-push}
use Rattle.mvt_splice.specs.Splice.{Piece, HasPayload}
use Rattle.mvt_splice.specs.Calls.Writing.{WritesVarint, WritesFields}

-- the groups that were written, all but the last, and what is left of the number
pub record IsWritingVarint (number : ℕ) (before out : List ℕ) (rest : ℕ) : Type 0 where
  pub groups : List ℕ
  pub written : out ≡ before ++ groups
  pub high : (k : ℕ) → k < length groups → 128 ≤ get_or groups k 0
  pub value : number ≡ sum_of_groups groups + rest * 128 ^ length groups
  pub left : (groups ≡ []) ⊎ (1 ≤ rest)

pub IsWritingVarint-none : (number : ℕ) (before : List ℕ) → IsWritingVarint number before before number
IsWritingVarint-none number before = record { groups = []; written = sym (append-nil before); high = λ k less. absurd (omega arith); value = omega arith; left = inl refl }

-- one group more
pub IsWritingVarint-more : (number : ℕ) (before out longer : List ℕ) (rest byte next : ℕ) → IsWritingVarint number before out rest → 128 ≤ rest → byte ≡ rest % 128 + 128 → next ≡ rest / 128 → longer ≡ out ++ byte ∷ [] → IsWritingVarint number before longer next
IsWritingVarint-more number before out longer rest byte next so_far more is halved pushed =
    let groups = so_far.groups in
    let weight : ℕ = 128 ^ length groups in
    let size : length (groups ++ byte ∷ []) ≡ suc (length groups) = length-append groups (byte ∷ []) ∙ (omega arith) in
    let scale : 128 ^ length (groups ++ byte ∷ []) ≡ weight * 128 = ap (λ (n : ℕ). 128 ^ n) size ∙ pow-suc 128 (length groups) in
    let sum : sum_of_groups (groups ++ byte ∷ []) ≡ sum_of_groups groups + byte % 128 * weight = sum_of_groups-push groups byte in
    let group : byte % 128 ≡ rest % 128 = omega arith in
    let split : rest ≡ rest % 128 + 128 * (rest / 128) = omega arith in
    let parts : rest * weight ≡ (rest % 128 + 128 * (rest / 128)) * weight = ap (λ (n : ℕ). n * weight) split in
    let low : byte % 128 * weight ≡ rest % 128 * weight = ap (λ (n : ℕ). n * weight) group in
    let high : next * 128 ^ length (groups ++ byte ∷ []) ≡ rest / 128 * (weight * 128) = ap (λ (n : ℕ). n * 128 ^ length (groups ++ byte ∷ [])) halved ∙ ap (λ (n : ℕ). rest / 128 * n) scale in
    let value = so_far.value in
    let last : get_or (groups ++ byte ∷ []) (length groups) 0 ≡ byte = get_or_at groups byte [] 0 (length groups) refl in
    record {
      groups = groups ++ byte ∷ [];
      written = pushed ∙ ap (λ (list : List ℕ). list ++ byte ∷ []) so_far.written ∙ append_assoc before groups (byte ∷ []);
      high = λ k less. elim (cases_lt k (length groups)) [
        | inl earlier ↦ subst (λ (b : ℕ). 128 ≤ b) (sym (get_or_append_left groups (byte ∷ []) 0 k earlier)) (so_far.high k earlier)
        | inr end ↦ let place : k ≡ length groups = omega arith in subst (λ (n : ℕ). 128 ≤ get_or (groups ++ byte ∷ []) n 0) (sym place) (omega arith)
      ];
      value = omega arith;
      left = inr (omega arith);
    }

-- at most nine groups come before the last one
few_groups : (number : ℕ) (groups : List ℕ) (rest : ℕ) → number < 2 ^ 64 → number ≡ sum_of_groups groups + rest * 128 ^ length groups → (groups ≡ []) ⊎ (1 ≤ rest) → length groups ≤ 9
few_groups number groups rest small value (inl none) = omega (arith, ap length none)
few_groups number groups rest small value (inr some) = elim (cases_lt (length groups) 10) [
  | inl few ↦ omega arith
  | inr many ↦
      let positive : 0 < 128 = lit< tt in
      let raised : 128 ^ 10 ≤ 128 ^ length groups = pow-le-pow_right positive many in
      let least : 1 * 128 ^ length groups ≤ rest * 128 ^ length groups = mul-le-mul_right (128 ^ length groups) some in
      absurd (omega arith)
]

-- the last group ends the varint
pub WritesVarint-last : (number : ℕ) (before out longer : List ℕ) (rest : ℕ) → number < 2 ^ 64 → IsWritingVarint number before out rest → rest < 128 → longer ≡ out ++ rest ∷ [] → WritesVarint number before longer
WritesVarint-last number before out longer rest small so_far last pushed =
    let groups = so_far.groups in
    let value = so_far.value in
    let few = few_groups number groups rest small value so_far.left in
    let size : length (groups ++ rest ∷ []) ≡ suc (length groups) = length-append groups (rest ∷ []) ∙ (omega arith) in
    let end : length (groups ++ rest ∷ []) - 1 ≡ length groups = omega arith in
    let here : get_or (groups ++ rest ∷ []) (length groups) 0 ≡ rest = get_or_at groups rest [] 0 (length groups) refl in
    let sum : sum_of_groups (groups ++ rest ∷ []) ≡ sum_of_groups groups + rest % 128 * 128 ^ length groups = sum_of_groups-push groups rest in
    let group : rest % 128 ≡ rest = omega arith in
    let low : rest % 128 * 128 ^ length groups ≡ rest * 128 ^ length groups = ap (λ (n : ℕ). n * 128 ^ length groups) group in (
      groups ++ rest ∷ [],
      record {
        present = omega arith;
        at_most_ten = omega arith;
        continued = λ k less. let earlier : k < length groups = omega arith in subst (λ (b : ℕ). 128 ≤ b) (sym (get_or_append_left groups (rest ∷ []) 0 k earlier)) (so_far.high k earlier);
        ended = subst (λ (n : ℕ). get_or (groups ++ rest ∷ []) n 0 < 128) (sym end) (omega arith);
        value = omega arith;
        fits = small;
      },
      pushed ∙ ap (λ (list : List ℕ). list ++ rest ∷ []) so_far.written ∙ append_assoc before groups (rest ∷ []),
    )

-- the bytes in the middle
slice_middle : (front part rest : List ℕ) → slice_range (front ++ (part ++ rest)) (length front) (length front + length part) ≡ part
slice_middle front part rest =
    let size : length front + length part - length front ≡ length part = omega arith in
    ap (λ (n : ℕ). take n (drop (length front) (front ++ (part ++ rest)))) size
    ∙ ap (take (length part)) (drop_at front (part ++ rest) (length front) refl)
    ∙ take-append_seam part rest

-- an encoding after other bytes and before others
EncodesVarint-between : (front encoding rest : List ℕ) (number : ℕ) → IsVarint encoding number → EncodesVarint (front ++ (encoding ++ rest)) (length front) (length front + length encoding) number
EncodesVarint-between front encoding rest number is =
    let present = is.present in
    let longer = length-append front (encoding ++ rest) in
    let longest = length-append encoding rest in
    record { forward = omega arith; within = omega arith; encoding = subst (λ (list : List ℕ). IsVarint list number) (sym (slice_middle front encoding rest)) is }

VarintList-append : (bytes more : List ℕ) (from : ℕ) (numbers : List ℕ) (to : ℕ) → VarintList bytes from numbers to → VarintList (bytes ++ more) from numbers to
VarintList-append bytes more from [] to list = list
VarintList-append bytes more from (n ∷ numbers) to list = (list.0, EncodesVarint-append bytes more from list.0 n list.1, VarintList-append bytes more list.0 numbers to list.2)

VarintList-last : (bytes : List ℕ) (from : ℕ) (numbers : List ℕ) (to next n : ℕ) → VarintList bytes from numbers to → EncodesVarint bytes to next n → VarintList bytes from (numbers ++ n ∷ []) next
VarintList-last bytes from [] to next n list encoded = (next, subst (λ (at : ℕ). EncodesVarint bytes at next n) (sym list) encoded, refl)
VarintList-last bytes from (first ∷ numbers) to next n list encoded = (list.0, list.1, VarintList-last bytes list.0 numbers to next n list.2 encoded)

-- one number more of a packed list
pub VarintList-more : (numbers : List ℕ) (number : ℕ) (out longer : List ℕ) → VarintList out 0 numbers (length out) → WritesVarint number out longer → VarintList longer 0 (numbers ++ number ∷ []) (length longer)
VarintList-more numbers number out longer list writes =
    let encoding = writes.0 in
    let size : length (out ++ encoding) ≡ length out + length encoding = length-append out encoding in
    let whole : out ++ (encoding ++ []) ≡ out ++ encoding = ap (λ (last : List ℕ). out ++ last) (append-nil encoding) in
    let encoded : EncodesVarint (out ++ encoding) (length out) (length out + length encoding) number =
    subst (λ (bytes : List ℕ). EncodesVarint bytes (length out) (length out + length encoding) number) whole (EncodesVarint-between out encoding [] number writes.1) in
    let all : VarintList (out ++ encoding) 0 (numbers ++ number ∷ []) (length out + length encoding) =
    VarintList-last (out ++ encoding) 0 numbers (length out) (length out + length encoding) number (VarintList-append out encoding 0 numbers (length out) list) encoded in
    let all : VarintList (out ++ encoding) 0 (numbers ++ number ∷ []) (length (out ++ encoding)) = subst (VarintList (out ++ encoding) 0 (numbers ++ number ∷ [])) (sym size) all in
    subst (λ (bytes : List ℕ). VarintList bytes 0 (numbers ++ number ∷ []) (length bytes)) (sym writes.2) all

-- a key, a length and so many bytes
abbrev delimited_piece : ℕ → List ℕ → List ℕ → List ℕ → Piece
delimited_piece field_number key size payload = record {
  bytes = key ++ (size ++ payload);
  field = record { number = field_number; at = 0; content = delimited (length key + length size) payload };
}

encoded_delimited : (field_number : ℕ) (key size payload : List ℕ) → 1 ≤ field_number → field_number < 16 → IsVarint key (field_number * 8 + 2) → IsVarint size (length payload)
    → IsFieldEncoding (key ++ (size ++ payload)) (record { number = field_number; at = 0; content = delimited (length key + length size) payload })
encoded_delimited field_number key size payload first last is_key is_size =
    let bytes : List ℕ = key ++ (size ++ payload) in
    let longer : length bytes ≡ length key + length (size ++ payload) = length-append key (size ++ payload) in
    let longest : length (size ++ payload) ≡ length size + length payload = length-append size payload in
    let whole : (key ++ size) ++ (payload ++ []) ≡ bytes = ap (λ (last : List ℕ). (key ++ size) ++ last) (append-nil payload) ∙ append_assoc key size payload in
    let front : length (key ++ size) ≡ length key + length size = length-append key size in
    let end : length bytes ≡ length key + length size + length payload = omega arith in
    let middle : slice_range ((key ++ size) ++ (payload ++ [])) (length (key ++ size)) (length (key ++ size) + length payload) ≡ payload = slice_middle (key ++ size) payload [] in
    let part : slice_range bytes (length key + length size) (length bytes) ≡ payload =
    ap (λ (to : ℕ). slice_range bytes (length key + length size) to) end
    ∙ ap (λ (from : ℕ). slice_range bytes from (from + length payload)) (sym front)
    ∙ ap (λ (list : List ℕ). slice_range list (length (key ++ size)) (length (key ++ size) + length payload)) (sym whole)
    ∙ middle in (
      refl,
      record {
        key_end = length key;
        key = record {
          encoded = subst (λ (to : ℕ). EncodesVarint bytes 0 to (field_number * 8 + 2)) (zero-add (length key)) (EncodesVarint-between [] key (size ++ payload) (field_number * 8 + 2) is_key);
          below_limit = omega arith;
          numbered = first;
          low_bits = omega arith;
        };
        payload = (length payload, EncodesVarint-between key size payload (length payload) is_size, end, omega arith, sym part);
      },
    )

pub WritesFields-delimited : (field_number : ℕ) (before keyed sized after payload : List ℕ) → 1 ≤ field_number → field_number < 16 → WritesVarint (field_number * 8 + 2) before keyed → WritesVarint (length payload) keyed sized → after ≡ sized ++ payload
    → (piece : Piece) × HasPayload field_number payload piece.field × WritesFields (piece ∷ []) before after
WritesFields-delimited field_number before keyed sized after payload first last key size written =
    let parts : (before ++ key.0) ++ size.0 ++ payload ≡ before ++ (key.0 ++ (size.0 ++ payload)) =
    append_assoc (before ++ key.0) size.0 payload ∙ append_assoc before key.0 (size.0 ++ payload) in (
      delimited_piece field_number key.0 size.0 payload,
      record { numbered = refl; place = length key.0 + length size.0; content = refl },
      record {
        encoded = (encoded_delimited field_number key.0 size.0 payload first last key.1 size.1, tt);
        longer = written ∙ ap (λ (list : List ℕ). list ++ payload) (size.2 ∙ ap (λ (list : List ℕ). list ++ size.0) key.2) ∙ parts
            ∙ ap (λ (list : List ℕ). before ++ list) (sym (append-nil (key.0 ++ (size.0 ++ payload))));
      },
    )
