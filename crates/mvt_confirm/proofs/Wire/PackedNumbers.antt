-- A walk over the numbers of 32 bits of a packed list.
use Rattle.std.proofs.Common.{◌↔◌, ℕ, ◌^◌, ◌<◌, List, [], ◌∷◌, length, subst, arith}
use Rattle.std.proofs.lemmas.List.Elements.{All-cons, All-head, All-tail}
use Rattle.mvt_wire.specs.Number.{VarintList, AreSmall}
use Rattle.mvt_wire.specs.Varint.{EncodesVarint}
use Rattle.mvt_wire.proofs.Encoding.Varints.{one_end}
use Rattle.mvt_confirm.specs.Calls.Walking.{AreSmallFrom}

-- a number of 32 bits
abbrev small : ℕ → Type 0
small n = n < 2 ^ 32

-- before the end a list of numbers of 32 bits begins with one
pub small_begins : (part : List ℕ) (at : ℕ) → at < length part → AreSmallFrom part at → (n next : ℕ) × EncodesVarint part at next n × (n < 2 ^ 32) × AreSmallFrom part next
small_begins part at left held = begins held.0 held.1 held.2 where
  begins : (numbers : List ℕ) → VarintList part at numbers (length part) → AreSmall numbers → (n next : ℕ) × EncodesVarint part at next n × (n < 2 ^ 32) × AreSmallFrom part next
  begins [] list all = absurd (omega arith)
  begins (n ∷ numbers) list all = (n, list.0, list.1, All-head small n numbers all, (numbers, list.2, All-tail small n numbers all))

-- a number of 32 bits goes before those after it
pub small_passed : (part : List ℕ) (at next n : ℕ) → at < length part → EncodesVarint part at next n → n < 2 ^ 32 → AreSmallFrom part next ↔ AreSmallFrom part at
small_passed part at next n left encoded few = (
  λ held. (n ∷ held.0, (next, encoded, held.1), All-cons small n held.0 few held.2),
  λ held.
      let begins = small_begins part at left held in
      subst (λ (place : ℕ). AreSmallFrom part place) (one_end part at begins.1 next begins.0 n begins.2 encoded) begins.4,
)
