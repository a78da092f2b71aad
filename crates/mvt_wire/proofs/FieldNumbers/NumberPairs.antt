-- Two numbers that a walk gives at once.
use Rattle.std.proofs.Common.{◌≡◌, ℕ, ◌+◌, ◌-◌, ◌^◌, ◌<◌, ◌≤◌, List, ◌∷◌, Option, length, get_or, take, drop, length-drop, refl, ◌∙◌, ap, arith}
use Rattle.std.proofs.lemmas.List.{length-take-le, get_or-drop}
use Rattle.mvt_wire.specs.Varint.{EncodesVarint}
use Rattle.mvt_wire.specs.Numbers.{NumberWalk, walk_at, most_left, NumbersLeft, GivesNumber}
use Rattle.mvt_wire.specs.declared.cause.WireCause.{WireCause}
use Rattle.mvt_wire.proofs.Encoding.Varints.{sum_of_groups-take, IsVarint-take, place_encodes}
use Rattle.mvt_wire.proofs.FieldNumbers.NumberWalks.{GivesNumber-at}

-- a byte below 128 encodes itself
pub one_byte : (bytes : List ℕ) (at n : ℕ) → at < length bytes → n ≡ get_or bytes at 0 → n < 128 → EncodesVarint bytes at (at + 1) n
one_byte bytes at n within is small =
    let rest : length (drop at bytes) ≡ length bytes - at = length-drop at bytes in
    let some : 0 < length (drop at bytes) = omega arith in
    let place : at + 0 ≡ at = omega arith in
    let same : get_or (drop at bytes) 0 0 ≡ get_or bytes at 0 = get_or-drop at bytes 0 0 ∙ ap (λ (p : ℕ). get_or bytes p 0) place in
    let sum = sum_of_groups-take (drop at bytes) 0 some in
    place_encodes bytes at 1 n (omega arith) (omega arith) (IsVarint-take (drop at bytes) 0 n some (omega arith) (λ k none. absurd (omega arith)) (omega arith) (omega arith) (omega arith))

-- a varint of a field's varints is the next number
next_given : (bytes : List ℕ) (k at end next n : ℕ) → end ≤ length bytes → EncodesVarint (take end bytes) at next n → n < 2 ^ 32 → GivesNumber (walk_at bytes k at end) (walk_at bytes k next end) n
next_given bytes k at end next n within encoded small =
    let size = length-take-le end bytes within in
    let left : at < end = omega (arith, encoded.forward, encoded.within) in
    GivesNumber-at (walk_at bytes k at end) bytes k at end at end next n refl (record { same = λ numbers ending all. all; left = left; within = within; further = omega arith }) encoded small

-- two numbers were given: they were before all that is left, and of all that was left they were the first
pub record GivesPair (old new : NumberWalk) (m n : ℕ) : Type 0 where
  pub first : (numbers : List ℕ) (ending : Option WireCause) → NumbersLeft new numbers ending → NumbersLeft old (m ∷ n ∷ numbers) ending
  pub others : (numbers : List ℕ) (ending : Option WireCause) → NumbersLeft old numbers ending → (rest : List ℕ) × (numbers ≡ m ∷ n ∷ rest) × NumbersLeft new rest ending
  pub fewer : most_left new + 2 ≤ most_left old

-- as are two varints of them, one after the other
pub GivesPair-at : (bytes : List ℕ) (k at end m n next : ℕ) → end ≤ length bytes → (between : ℕ) × EncodesVarint (take end bytes) at between m × EncodesVarint (take end bytes) between next n → m < 2 ^ 32 → n < 2 ^ 32
    → GivesPair (walk_at bytes k at end) (walk_at bytes k next end) m n
GivesPair-at bytes k at end m n next within pair first_small second_small =
    let one = next_given bytes k at end pair.0 m within pair.1 first_small in
    let two = next_given bytes k pair.0 end next n within pair.2 second_small in
    record {
      first = λ numbers ending all. one.first (n ∷ numbers) ending (two.first numbers ending all);
      others = λ numbers ending all.
          let after = one.others numbers ending all in
          let last = two.others after.0 ending after.2 in
          (last.0, after.1 ∙ ap (λ (rest : List ℕ). m ∷ rest) last.1, last.2);
      fewer = omega (arith, one.fewer, two.fewer);
    }
