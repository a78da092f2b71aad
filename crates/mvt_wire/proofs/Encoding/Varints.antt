-- What varints keep: their sums, that none begins another, and that a place has a varint or one defect.
use Rattle.std.proofs.Common.{◌≡◌, ℕ, suc, ◌+◌, ◌-◌, ◌*◌, ◌%◌, ◌^◌, ◌<◌, ◌≤◌, ◌⊎◌, inl, inr, List, [], ◌∷◌, ◌++◌, length, get_or, take, drop, refl, sym, ◌∙◌, ap, arith, length-append, lit<, length-drop, slice_range, zero, below_more}
use Rattle.std.proofs.Math.Nat.{pow-suc, pow-le-pow_right, mul-le-mul_right}
use Rattle.std.proofs.lemmas.List.{take_more, length-take-le, get_or-take, get_or-drop, get_or_append_left}
use Rattle.std.proofs.lemmas.List.Edits.{get_or-between, length-between}
use Rattle.std.proofs.lemmas.Bool.{cases_lt}
use Rattle.mvt_wire.specs.Varint.{sum_of_groups, IsVarint, EncodesVarint, EndsEarly, IsTooLong, VarintDefect}
use Rattle.mvt_wire.specs.declared.cause.WireCode.{WireCode}

-- one more group stands for its low seven bits, times the weight of its place
pub sum_of_groups-push : (bytes : List ℕ) (byte : ℕ) → sum_of_groups (bytes ++ byte ∷ []) ≡ sum_of_groups bytes + byte % 128 * 128 ^ length bytes
sum_of_groups-push [] byte = omega arith
sum_of_groups-push (b ∷ bytes) byte = rw (sum_of_groups-push bytes byte, pow-suc 128 (length bytes)) (omega arith)

-- groups stand for less than the weight of the place after them
pub sum_of_groups-below : (bytes : List ℕ) → sum_of_groups bytes < 128 ^ length bytes
sum_of_groups-below [] = omega arith
sum_of_groups-below (b ∷ bytes) = rw (pow-suc 128 (length bytes)) (omega (arith, sum_of_groups-below bytes))

-- the same at a place of a longer list
pub sum_of_groups-take : (rest : List ℕ) (i : ℕ) → i < length rest → sum_of_groups (take (i + 1) rest) ≡ sum_of_groups (take i rest) + get_or rest i 0 % 128 * 128 ^ i
sum_of_groups-take rest i h =
    let l : i ≤ length rest = omega arith in
    rw (take_more rest i 0 h, sum_of_groups-push (take i rest) (get_or rest i 0), length-take-le i rest l) refl

pub sum_of_groups-take-below : (rest : List ℕ) (i : ℕ) → i ≤ length rest → sum_of_groups (take i rest) < 128 ^ i
sum_of_groups-take-below rest i h = rw (length-take-le i rest h) at (sum_of_groups-below (take i rest))

-- a weight at one of the ten places fits 64 bits
pub weight-le : (i : ℕ) → i ≤ 9 → 128 ^ i ≤ 2 ^ 63
weight-le i h = let positive : 0 < 128 = lit< tt in let raised : 128 ^ i ≤ 128 ^ 9 = pow-le-pow_right positive h in omega arith

-- the first byte below 128 ends the varint
pub IsVarint-take : (rest : List ℕ) (i n : ℕ) → i < length rest → i ≤ 9 → ((k : ℕ) → k < i → 128 ≤ get_or rest k 0) → get_or rest i 0 < 128 → n ≡ sum_of_groups (take (i + 1) rest) → n < 2 ^ 64 → IsVarint (take (i + 1) rest) n
IsVarint-take rest i n within few earlier last value fits =
    let size : length (take (i + 1) rest) ≡ i + 1 = length-take-le (i + 1) rest (omega arith) in
    let end : length (take (i + 1) rest) - 1 ≡ i = omega arith in
    record {
      present = omega arith;
      at_most_ten = omega arith;
      continued = λ k h. let l : k < i + 1 = omega arith in let m : k < i = omega arith in rw (get_or-take (i + 1) rest k 0 l) (earlier k m);
      ended = let l : i < i + 1 = omega arith in rw (end, get_or-take (i + 1) rest i 0 l) last;
      value = value;
      fits = fits;
    }

-- the last byte of a varint, and those before it, as bytes of the list that it is in
pub last_byte : (bytes : List ℕ) (from to n : ℕ) → EncodesVarint bytes from to n → get_or bytes (to - 1) 0 < 128
last_byte bytes from to n encoded =
    let size : length (slice_range bytes from to) ≡ to - from = length-between bytes from to encoded.within in
    let place : from + (length (slice_range bytes from to) - 1) ≡ to - 1 = omega arith in
    let before : from + (length (slice_range bytes from to) - 1) < to = omega arith in
    let ended = rw (get_or-between bytes from to (length (slice_range bytes from to) - 1) 0 before) at encoded.encoding.ended in
    rw place at ended

pub earlier_byte : (bytes : List ℕ) (from to n : ℕ) → EncodesVarint bytes from to n → (k : ℕ) → from ≤ k → k + 1 < to → 128 ≤ get_or bytes k 0
earlier_byte bytes from to n encoded k low high =
    let size : length (slice_range bytes from to) ≡ to - from = length-between bytes from to encoded.within in
    let place : from + (k - from) ≡ k = omega arith in
    let before : from + (k - from) < to = omega arith in
    let more : k - from + 1 < length (slice_range bytes from to) = omega arith in
    let continued = rw (get_or-between bytes from to (k - from) 0 before) at (encoded.encoding.continued (k - from) more) in
    rw place at continued

-- a place has at most one varint
no_shorter : (bytes : List ℕ) (from to end m n : ℕ) → EncodesVarint bytes from to m → EncodesVarint bytes from end n → to < end → ⊥
no_shorter bytes from to end m n first second less =
    let low : from ≤ to - 1 = omega arith in
    let high : to - 1 + 1 < end = omega arith in
    let last = last_byte bytes from to m first in
    let earlier = earlier_byte bytes from end n second (to - 1) low high in
    omega arith

pub one_end : (bytes : List ℕ) (from to end m n : ℕ) → EncodesVarint bytes from to m → EncodesVarint bytes from end n → to ≡ end
one_end bytes from to end m n first second = elim (cases_lt to end) [
  | inl less ↦ absurd (no_shorter bytes from to end m n first second less)
  | inr rest ↦ elim (cases_lt end to) [
    | inl more ↦ absurd (no_shorter bytes from end to n m second first more)
    | inr same ↦ omega arith
  ]
]

pub one_value : (bytes : List ℕ) (from to end m n : ℕ) → EncodesVarint bytes from to m → EncodesVarint bytes from end n → m ≡ n
one_value bytes from to end m n first second =
    first.encoding.value ∙ ap (λ (e : ℕ). sum_of_groups (slice_range bytes from e)) (one_end bytes from to end m n first second) ∙ sym second.encoding.value

-- so a place has at most one varint, with its end
pub one_read : (bytes : List ℕ) (from : ℕ) (read : ℕ × ℕ) (n to : ℕ) → EncodesVarint bytes from read.1 read.0 → EncodesVarint bytes from to n → read ≡ (n, to)
one_read bytes from read n to first second =
    rw (sym (one_value bytes from read.1 to read.0 n first second), sym (one_end bytes from read.1 to read.0 n first second)) refl

-- a varint and a defect exclude each other
pub varint_or_early : (bytes : List ℕ) (from to n : ℕ) → EncodesVarint bytes from to n → EndsEarly (drop from bytes) → ⊥
varint_or_early bytes from to n encoded early =
    let size = length-drop from bytes in
    let place : to - 1 - from < length (drop from bytes) = omega arith in
    let same : from + (to - 1 - from) ≡ to - 1 = omega arith in
    let high = rw (get_or-drop from bytes (to - 1 - from) 0, same) at (early.continued (to - 1 - from) place) in
    let last = last_byte bytes from to n encoded in
    omega arith

-- ten groups of which the last is above 1 stand for 2^64 or more
ten_groups : (rest : List ℕ) → 10 ≤ length rest → 1 < get_or rest 9 0 → get_or rest 9 0 < 128 → 2 ^ 64 ≤ sum_of_groups (take 10 rest)
ten_groups rest many high low =
    let within : 9 < length rest = omega arith in
    let sum : sum_of_groups (take 10 rest) ≡ sum_of_groups (take 9 rest) + get_or rest 9 0 % 128 * 128 ^ 9 = sum_of_groups-take rest 9 within in
    let group : get_or rest 9 0 % 128 ≡ get_or rest 9 0 = omega arith in
    let sum : sum_of_groups (take 10 rest) ≡ sum_of_groups (take 9 rest) + get_or rest 9 0 * 128 ^ 9 = rw group at sum in
    omega arith

pub varint_or_long : (bytes : List ℕ) (from to n : ℕ) → EncodesVarint bytes from to n → IsTooLong (drop from bytes) → ⊥
varint_or_long bytes from to n encoded long =
    let size : length (slice_range bytes from to) ≡ to - from = length-between bytes from to encoded.within in
    let few : to - from ≤ 10 = omega (arith, encoded.encoding.at_most_ten) in
    let same : from + (to - 1 - from) ≡ to - 1 = omega arith in
    let last = last_byte bytes from to n encoded in
    elim (cases_lt (to - 1 - from) 9) [
      | inl early ↦
          let high = rw (get_or-drop from bytes (to - 1 - from) 0, same) at (long.continued (to - 1 - from) early) in
          omega arith
      | inr late ↦
          let ten : to - from ≡ 10 = omega arith in
          let place : from + 9 ≡ to - 1 = omega arith in
          let low : get_or (drop from bytes) 9 0 < 128 = rw (get_or-drop from bytes 9 0, place) last in
          let sum = ten_groups (drop from bytes) long.many long.tenth low in
          let value : n ≡ sum_of_groups (take 10 (drop from bytes)) = encoded.encoding.value ∙ ap (λ k. sum_of_groups (take k (drop from bytes))) ten in
          omega arith
    ]

pub early_or_long : (rest : List ℕ) → EndsEarly rest → IsTooLong rest → ⊥
early_or_long rest early long = let few = early.few in let many = long.many in omega arith

-- a place has a varint or a defect
pub varint_or_defect : (bytes : List ℕ) (from to n : ℕ) (code : WireCode) → EncodesVarint bytes from to n → VarintDefect code (drop from bytes) → ⊥
varint_or_defect bytes from to n code encoded (inl early) = varint_or_early bytes from to n encoded early.1
varint_or_defect bytes from to n code encoded (inr long) = varint_or_long bytes from to n encoded long.1

-- and no two defects
pub one_defect_of_varint : (rest : List ℕ) (code other : WireCode) → VarintDefect code rest → VarintDefect other rest → code ≡ other
one_defect_of_varint rest code other (inl a) (inl b) = a.0 ∙ sym b.0
one_defect_of_varint rest code other (inl a) (inr b) = absurd (early_or_long rest a.1 b.1)
one_defect_of_varint rest code other (inr a) (inl b) = absurd (early_or_long rest b.1 a.1)
one_defect_of_varint rest code other (inr a) (inr b) = a.0 ∙ sym b.0

-- no varint is a proper front of another one
pub no_longer_varint : (encoding more : List ℕ) (m n : ℕ) → IsVarint encoding m → IsVarint (encoding ++ more) n → more ≡ []
no_longer_varint encoding [] m n first second = refl
no_longer_varint encoding (byte ∷ more) m n first second =
    let place : length encoding - 1 < length encoding = omega arith in
    let longer : length (encoding ++ byte ∷ more) ≡ length encoding + suc (length more) = length-append encoding (byte ∷ more) in
    let before : length encoding - 1 + 1 < length (encoding ++ byte ∷ more) = omega arith in
    let high = rw (get_or_append_left encoding (byte ∷ more) 0 (length encoding - 1) place) at (second.continued (length encoding - 1) before) in
    absurd (omega arith)

-- a front of the rest encodes a varint
abbrev pub BeginsWithVarint : List ℕ → Type 0
BeginsWithVarint rest = (size n : ℕ) × (size ≤ length rest) × IsVarint (take size rest) n

-- the tenth group, where it is the last that a varint may have
tenth_group : (rest : List ℕ) → 9 < length rest → ((k : ℕ) → k < 9 → 128 ≤ get_or rest k 0) → BeginsWithVarint rest ⊎ EndsEarly rest ⊎ IsTooLong rest
tenth_group rest within earlier = elim (cases_lt (get_or rest 9 0) 2) [
  | inl small ↦
      let sum = sum_of_groups-take rest 9 within in
      let front = sum_of_groups-take-below rest 9 (omega arith) in
      let group : get_or rest 9 0 % 128 ≤ 1 = omega arith in
      let scaled : get_or rest 9 0 % 128 * 128 ^ 9 ≤ 1 * 128 ^ 9 = mul-le-mul_right (128 ^ 9) group in
      inl (10, sum_of_groups (take 10 rest), omega arith, IsVarint-take rest 9 _ within (omega arith) earlier (omega arith) refl (omega arith))
  | inr large ↦ inr (inr (record { many = omega arith; continued = earlier; tenth = omega arith }))
]

-- what a place begins with, where the i bytes from there on are 128 or more
begins_from : (fuel i : ℕ) (rest : List ℕ) → i + fuel ≡ 9 → i ≤ length rest → ((k : ℕ) → k < i → 128 ≤ get_or rest k 0) → BeginsWithVarint rest ⊎ EndsEarly rest ⊎ IsTooLong rest
begins_from zero i rest places within earlier =
    let earlier : (k : ℕ) → k < 9 → 128 ≤ get_or rest k 0 = λ k h. earlier k (omega arith) in
    elim (cases_lt 9 (length rest)) [
      | inl more ↦ tenth_group rest more earlier
      | inr none ↦ inr (inl (record { few = omega arith; continued = λ k h. earlier k (omega arith) }))
    ]
begins_from (suc fuel) i rest places within earlier = elim (cases_lt i (length rest)) [
  | inr none ↦ inr (inl (record { few = omega arith; continued = λ k h. earlier k (omega arith) }))
  | inl more ↦ elim (cases_lt (get_or rest i 0) 128) [
    | inr high ↦ begins_from fuel (i + 1) rest (omega arith) (omega arith) (below_more _ i earlier high)
    | inl low ↦
        let below = sum_of_groups-take-below rest (i + 1) (omega arith) in
        let fits = weight-le (i + 1) (omega arith) in
        inl (i + 1, sum_of_groups (take (i + 1) rest), omega arith, IsVarint-take rest i _ more (omega arith) earlier low refl (omega arith))
  ]
]

-- each place begins with a varint, or has one of its defects
begins : (rest : List ℕ) → BeginsWithVarint rest ⊎ EndsEarly rest ⊎ IsTooLong rest
begins rest = begins_from 9 0 rest (omega arith) (omega arith) (λ k h. absurd (omega arith))

-- a front of the rest encodes what the place does
pub place_encodes : (bytes : List ℕ) (at size n : ℕ) → at ≤ length bytes → size ≤ length (drop at bytes) → IsVarint (take size (drop at bytes)) n → EncodesVarint bytes at (at + size) n
place_encodes bytes at size n place within encoded =
    let rest = length-drop at bytes in
    let span : at + size - at ≡ size = omega arith in
    let whole : length (take size (drop at bytes)) ≡ size = length-take-le size (drop at bytes) within in
    let some = encoded.present in
    let encoding : IsVarint (slice_range bytes at (at + size)) n = rw span encoded in
    record { forward = omega arith; within = omega arith; encoding = encoding }

-- each place has a varint or one of its defects
pub place_begins : (bytes : List ℕ) (at : ℕ) → at ≤ length bytes → ((to n : ℕ) × EncodesVarint bytes at to n) ⊎ EndsEarly (drop at bytes) ⊎ IsTooLong (drop at bytes)
place_begins bytes at within = elim (begins (drop at bytes)) [
  | inl found ↦ inl (at + found.0, found.1, place_encodes bytes at found.0 found.1 within found.2 found.3)
  | inr bad ↦ inr bad
]
