-- Packed lists of numbers of up to four bytes: no four bytes in a row are 128 or more, as vectors of bytes show.
use Rattle.std.proofs.Common.{◌≡◌, ℕ, ◌+◌, ◌-◌, ◌^◌, ◌<◌, ◌≤◌, ◌%◌, min, inl, inr, List, [], ◌∷◌, map, length, get_or, take, drop, length-drop, lit<, replicate, bit_and, refl, sym, ◌∙◌, ap, subst, arith, Fits, w8, suc, zero, Bool, true, false, cond, eqb, leb, eqb-true, leb-false}
use Rattle.std.proofs.Math.Nat.{pow-le-pow_right}
use Rattle.std.proofs.lemmas.Bool.{cases_lt}
use Rattle.std.proofs.lemmas.List.{get_or-drop, get_or_past, length-map}
use Rattle.std.proofs.lemmas.List.Elements.{All-nil}
use Rattle.std.proofs.lemmas.Nat.{and_le_l}
use Rattle.std.proofs.lemmas.Nat.Bits.{bit_at_and, bit_at_above}
use Rattle.std.proofs.lemmas.Simd.{length-zip2, length-chunk, length-replicate, get_or-zip2, get_or-chunk, mask_l-mod}
use Rattle.std.specs.Int.{bit_at}
use Rattle.mvt_wire.specs.Varint.{sum_of_groups, IsVarint, EncodesVarint}
use Rattle.mvt_wire.specs.Calls.Packed.{IsSmallNumber, AreSmallBefore, IsRun, HasNoRun}
use Rattle.mvt_wire.proofs.Encoding.Varints.{sum_of_groups-take-below, IsVarint-take, place_encodes}
use Rattle.mvt_wire.proofs.FieldNumbers.PackedNumbers.{AreSmallBefore-more}
use lib.Lanes.{zip2, chunk, mask_l, top}

-- a comparison of two lanes, as a mask has it
abbrev pub at_least : ℕ → ℕ → ℕ
at_least a b = cond (leb a b) 255 0

-- bytes of 128 or more have their highest bit in common
high_and : (a b : ℕ) → a < 256 → 128 ≤ a → b < 256 → 128 ≤ b → 128 ≤ bit_and a b
high_and a b byte_a high_a byte_b high_b = elim (cases_lt (bit_and a b) 128) [
  | inl low ↦
      let ones : bit_at (bit_and a b) 7 ≡ min (bit_at a 7) (bit_at b 7) = bit_at_and a b 7 in
      let first : bit_at a 7 ≡ 1 = omega arith in
      let second : bit_at b 7 ≡ 1 = omega arith in
      let none : bit_at (bit_and a b) 7 ≡ 0 = bit_at_above (bit_and a b) 7 7 low (omega arith) in
      let one : bit_at (bit_and a b) 7 ≡ 1 = ones ∙ ap (λ (n : ℕ). min n (bit_at b 7)) first ∙ ap (λ (n : ℕ). min 1 n) second in
      absurd (omega arith)
  | inr high ↦ high
]

-- where no lane is found to be 128 or more, none is
pub none_high : (xs : List ℕ) → mask_l (map (top 7) (zip2 at_least (replicate (length xs) 128) xs)) ≡ 0 → (i : ℕ) → get_or xs i 0 < 128
none_high [] e i = omega arith
none_high (x ∷ xs) e zero = go (leb 128 x) refl (omega arith)
  where
    go : (t : Bool) → leb 128 x ≡ t → ◌≡◌ {A = ℕ} (cond (top 7 (cond t 255 0)) 1 0) 0 → x < 128
    go true p q = absurd (omega arith)
    go false p q = leb-false _ _ p
none_high (x ∷ xs) e (suc i) = none_high xs (omega arith) i

-- the bits that the bytes at two places have in common, and those after them as far as the lanes go
abbrev pub pairs : List ℕ → ℕ → ℕ → ℕ → List ℕ
pairs part at next n = zip2 bit_and (chunk at n part) (chunk next n part)

-- the bits that four bytes in a row have in common
abbrev pub fours : List ℕ → ℕ → ℕ → List ℕ
fours part at n = zip2 bit_and (pairs part at (at + 1) n) (pairs part (at + 2) (at + 3) n)

length-pairs : (part : List ℕ) (at next n : ℕ) → at + n ≤ length part → next + n ≤ length part → length (pairs part at next n) ≡ n
length-pairs part at next n within next_within =
    let first : length (chunk at n part) ≡ n = length-chunk at n part within in
    let second : length (chunk next n part) ≡ n = length-chunk next n part next_within in
    length-zip2 bit_and (chunk at n part) (chunk next n part) (first ∙ sym second) ∙ first

get_or-pairs : (part : List ℕ) (at next n k : ℕ) → at + n ≤ length part → next + n ≤ length part → k < n
    → get_or (pairs part at next n) k 0 ≡ bit_and (get_or part (at + k) 0) (get_or part (next + k) 0)
get_or-pairs part at next n k within next_within below =
    let first : length (chunk at n part) ≡ n = length-chunk at n part within in
    let second : length (chunk next n part) ≡ n = length-chunk next n part next_within in
    get_or-zip2 bit_and (chunk at n part) (chunk next n part) k 0 0 0 (omega arith) (omega arith)
    ∙ ap (λ (a : ℕ). bit_and a (get_or (chunk next n part) k 0)) (get_or-chunk at n part k 0 below)
    ∙ ap (λ (b : ℕ). bit_and (get_or part (at + k) 0) b) (get_or-chunk next n part k 0 below)

-- a lane of two bytes of 128 or more is as high, and a byte
high_pairs : (part : List ℕ) (at next n k : ℕ) → ((i : ℕ) → Fits w8 (get_or part i 0)) → at + n ≤ length part → next + n ≤ length part → k < n
    → 128 ≤ get_or part (at + k) 0 → 128 ≤ get_or part (next + k) 0 → (128 ≤ get_or (pairs part at next n) k 0) × (get_or (pairs part at next n) k 0 < 256)
high_pairs part at next n k bytes within next_within below high next_high =
    let byte = (bytes (at + k)).fits in
    let next_byte = (bytes (next + k)).fits in
    let lane = get_or-pairs part at next n k within next_within below in
    let common : 128 ≤ bit_and (get_or part (at + k) 0) (get_or part (next + k) 0) = high_and (get_or part (at + k) 0) (get_or part (next + k) 0) (omega arith) high (omega arith) next_high in
    let less : bit_and (get_or part (at + k) 0) (get_or part (next + k) 0) ≤ get_or part (at + k) 0 = and_le_l (get_or part (at + k) 0) (get_or part (next + k) 0) in
    (omega arith, omega arith)

-- a lane of four such bytes too
high_fours : (part : List ℕ) (at n k : ℕ) → ((i : ℕ) → Fits w8 (get_or part i 0)) → at + n + 3 ≤ length part → k < n → IsRun part (at + k) → 128 ≤ get_or (fours part at n) k 0
high_fours part at n k bytes within below run =
    let first : 128 ≤ get_or part (at + k) 0 = run (at + k) (omega arith) (omega arith) in
    let second : 128 ≤ get_or part (at + 1 + k) 0 = run (at + 1 + k) (omega arith) (omega arith) in
    let third : 128 ≤ get_or part (at + 2 + k) 0 = run (at + 2 + k) (omega arith) (omega arith) in
    let fourth : 128 ≤ get_or part (at + 3 + k) 0 = run (at + 3 + k) (omega arith) (omega arith) in
    let front = high_pairs part at (at + 1) n k bytes (omega arith) (omega arith) below first second in
    let back = high_pairs part (at + 2) (at + 3) n k bytes (omega arith) (omega arith) below third fourth in
    let front_length : length (pairs part at (at + 1) n) ≡ n = length-pairs part at (at + 1) n (omega arith) (omega arith) in
    let back_length : length (pairs part (at + 2) (at + 3) n) ≡ n = length-pairs part (at + 2) (at + 3) n (omega arith) (omega arith) in
    let lane = get_or-zip2 bit_and (pairs part at (at + 1) n) (pairs part (at + 2) (at + 3) n) k 0 0 0 (omega arith) (omega arith) in
    subst (λ (byte : ℕ). 128 ≤ byte) (sym lane) (high_and (get_or (pairs part at (at + 1) n) k 0) (get_or (pairs part (at + 2) (at + 3) n) k 0) front.1 front.0 back.1 back.0)

length-fours : (part : List ℕ) (at n : ℕ) → at + n + 3 ≤ length part → length (fours part at n) ≡ n
length-fours part at n within =
    let front : length (pairs part at (at + 1) n) ≡ n = length-pairs part at (at + 1) n (omega arith) (omega arith) in
    let back : length (pairs part (at + 2) (at + 3) n) ≡ n = length-pairs part (at + 2) (at + 3) n (omega arith) (omega arith) in
    length-zip2 bit_and (pairs part at (at + 1) n) (pairs part (at + 2) (at + 3) n) (front ∙ sym back) ∙ front

-- a mask of so few lanes has no bit beyond them
pub whole_mask : (lanes : List ℕ) (n : ℕ) → length lanes ≡ n → n ≤ 64 → mask_l (map (top 7) (zip2 at_least (replicate n 128) lanes)) % 2 ^ 64 ≡ mask_l (map (top 7) (zip2 at_least (replicate n 128) lanes))
whole_mask lanes n long few =
    let splat : length (replicate {A = ℕ} n 128) ≡ n = length-replicate {A = ℕ} n 128 in
    let compared : length (zip2 at_least (replicate n 128) lanes) ≡ n = length-zip2 at_least (replicate n 128) lanes (splat ∙ sym long) ∙ splat in
    let tops : length (map (top 7) (zip2 at_least (replicate n 128) lanes)) ≡ n = length-map (zip2 at_least (replicate n 128) lanes) (top 7) ∙ compared in
    mask_l-mod _ 64 (omega arith)

-- where no lane of four bytes in a row is found to be 128 or more, no run begins at its place
pub HasNoRun-fours : (part : List ℕ) (at n : ℕ) → ((i : ℕ) → Fits w8 (get_or part i 0)) → at + n + 3 ≤ length part → n ≤ 64
    → eqb (mask_l (map (top 7) (zip2 at_least (replicate n 128) (fours part at n))) % 2 ^ 64) 0 ≡ true → HasNoRun part at (at + n)
HasNoRun-fours part at n bytes within few empty place forward below run =
    let lanes : length (fours part at n) ≡ n = length-fours part at n within in
    let none : mask_l (map (top 7) (zip2 at_least (replicate (length (fours part at n)) 128) (fours part at n))) ≡ 0 =
    ap (λ (long : ℕ). mask_l (map (top 7) (zip2 at_least (replicate long 128) (fours part at n)))) lanes ∙ sym (whole_mask (fours part at n) n lanes few) ∙ eqb-true _ _ empty in
    let here : place ≡ at + (place - at) = omega arith in
    let low = none_high (fours part at n) none (place - at) in
    let high = high_fours part at n (place - at) bytes within (omega arith) (subst (λ (p : ℕ). IsRun part p) here run) in
    omega arith

-- a run lies within the bytes
pub run_within : (part : List ℕ) (at : ℕ) → IsRun part at → at + 3 < length part
run_within part at run = elim (cases_lt (at + 3) (length part)) [
  | inl within ↦ within
  | inr past ↦
      let high = run (at + 3) (omega arith) (omega arith) in
      let none : get_or part (at + 3) 0 ≡ 0 = get_or_past part (at + 3) 0 past in
      absurd (omega arith)
]

-- the bytes between two places are 128 or more
abbrev AreContinued : List ℕ → ℕ → ℕ → Type 0
AreContinued part from to = (k : ℕ) → from ≤ k → k < to → 128 ≤ get_or part k 0

-- up to four bytes make a small number
short_number : (part : List ℕ) (start i : ℕ) → start ≤ i → i < start + 4 → i < length part → AreContinued part start i → get_or part i 0 < 128 → IsSmallNumber part start (i + 1)
short_number part start i forward few within continued last =
    let size : length (drop start part) ≡ length part - start = length-drop start part in
    let place : start + (i - start) ≡ i = omega arith in
    let inside : i - start < length (drop start part) = omega arith in
    let earlier : (k : ℕ) → k < i - start → 128 ≤ get_or (drop start part) k 0 = λ k h. rw (get_or-drop start part k 0) (continued (start + k) (omega arith) (omega arith)) in
    let ended : get_or (drop start part) (i - start) 0 < 128 = rw (get_or-drop start part (i - start) 0, place) last in
    let below : sum_of_groups (take (i - start + 1) (drop start part)) < 128 ^ (i - start + 1) = sum_of_groups-take-below (drop start part) (i - start + 1) (omega arith) in
    let positive : 0 < 128 = lit< tt in
    let four : i - start + 1 ≤ 4 = omega arith in
    let raised : 128 ^ (i - start + 1) ≤ 128 ^ 4 = pow-le-pow_right positive four in
    let encoding : IsVarint (take (i - start + 1) (drop start part)) (sum_of_groups (take (i - start + 1) (drop start part))) =
    IsVarint-take (drop start part) (i - start) _ inside (omega arith) earlier ended refl (omega arith) in
    let end : start + (i - start + 1) ≡ i + 1 = omega arith in
    let encoded = place_encodes part start (i - start + 1) (sum_of_groups (take (i - start + 1) (drop start part))) (omega arith) (omega arith) encoding in
    record {
      number = sum_of_groups (take (i - start + 1) (drop start part));
      encoded = subst (λ (to : ℕ). EncodesVarint part start to (sum_of_groups (take (i - start + 1) (drop start part)))) end encoded;
      small = omega arith;
    }

-- what is known of bytes with no run at the byte i, where the number that goes on there begins at `start`
record IsWalked (part : List ℕ) (start i : ℕ) : Type 0 where
  pub forward : start ≤ i
  pub before : AreSmallBefore part start
  pub continued : AreContinued part start i
  pub few : i < start + 4

-- a walk over such bytes goes on by a byte
short_step : (part : List ℕ) → HasNoRun part 0 (length part) → (i : ℕ) → i < length part → (start : ℕ) × IsWalked part start i → (start : ℕ) × IsWalked part start (i + 1)
short_step part no_run i within (start, walked) =
    let forward = walked.forward in
    let few = walked.few in
    elim (cases_lt (get_or part i 0) 128) [
      | inl low ↦ (
        i + 1,
        record {
          forward = omega arith;
          before = AreSmallBefore-more part start (i + 1) walked.before (short_number part start i forward few within walked.continued low);
          continued = λ k low below. absurd (omega arith);
          few = omega arith;
        },
      )
      | inr high ↦
          let continued : AreContinued part start (i + 1) = λ k low below. elim (cases_lt k i) [
            | inl earlier ↦ walked.continued k low earlier
            | inr last ↦ let here : i ≡ k = omega arith in subst (λ (place : ℕ). 128 ≤ get_or part place 0) here high
          ] in (
            start,
            record {
              forward = omega arith;
              before = walked.before;
              continued = continued;
              few = elim (cases_lt (i + 1) (start + 4)) [
                | inl less ↦ less
                | inr fourth ↦ absurd (no_run start (omega arith) (omega arith) (λ k low below. continued k low (omega arith)))
              ];
            },
          )
    ]

-- such a walk, up to each place
short_walk : (part : List ℕ) → HasNoRun part 0 (length part) → (i : ℕ) → i ≤ length part → (start : ℕ) × IsWalked part start i
short_walk part no_run zero within = (
  0,
  record {
    forward = omega arith;
    before = ([], refl, All-nil (λ (n : ℕ). n < 2 ^ 32));
    continued = λ k low below. absurd (omega arith);
    few = omega arith;
  },
)
short_walk part no_run (suc i) within =
    let next : i + 1 ≡ suc i = omega arith in
    subst (λ (place : ℕ). (start : ℕ) × IsWalked part start place) next (short_step part no_run i (omega arith) (short_walk part no_run i (omega arith)))

-- bytes with no run that end with one below 128 are small numbers
pub AreSmallBefore-short : (part : List ℕ) → HasNoRun part 0 (length part) → get_or part (length part - 1) 0 < 128 → AreSmallBefore part (length part)
AreSmallBefore-short part no_run last =
    let walked = short_walk part no_run (length part) (omega arith) in
    let forward = walked.1.forward in
    elim (cases_lt walked.0 (length part)) [
      | inl before ↦ let high = walked.1.continued (length part - 1) (omega arith) (omega arith) in absurd (omega arith)
      | inr over ↦ let end : walked.0 ≡ length part = omega arith in subst (λ (place : ℕ). AreSmallBefore part place) end walked.1.before
    ]
