-- The steps of a walk over numbers.
use Rattle.std.proofs.Common.{◌≡◌, ℕ, ◌^◌, ◌<◌, ◌≤◌, List, [], ◌∷◌, Option, Some, length, take, refl, ap, subst, arith}
use Rattle.std.proofs.lemmas.List.{length-take-le}
use Rattle.std.proofs.lemmas.List.Elements.{All-cons, All-nil}
use Rattle.mvt_wire.specs.Varint.{EncodesVarint}
use Rattle.mvt_wire.specs.Numbers.{NumbersEnd, NumberWalk, walk_at, StopsVarints, NumbersLeft, goes_on, stops, GivesNumber, EndsNumbers}
use Rattle.mvt_wire.specs.Calls.Numbers.{LeavesVarints}
use Rattle.mvt_wire.specs.declared.cause.WireCause.{WireCause}
use Rattle.mvt_wire.proofs.FieldNumbers.NumbersLeft.{one_left, some_left, rest_left}

-- at a field all that comes from there on is left
pub left_from_field : (bytes : List ℕ) (at k : ℕ) (numbers : List ℕ) (ending : Option WireCause) → NumbersEnd bytes at k numbers ending → NumbersLeft (walk_at bytes k at at) numbers ending
left_from_field bytes at k numbers ending end = goes_on [] numbers refl (All-nil (λ (n : ℕ). n < 2 ^ 32)) end refl

-- the varint in front of what is left
left-cons : (bytes : List ℕ) (k at end next n : ℕ) (numbers : List ℕ) (ending : Option WireCause) → EncodesVarint (take end bytes) at next n → n < 2 ^ 32 → NumbersLeft (walk_at bytes k next end) numbers ending → NumbersLeft (walk_at bytes k at end) (n ∷ numbers) ending
left-cons bytes k at end next n numbers ending encoded fits (goes_on first rest list small fields joined) =
    goes_on (n ∷ first) rest (next, encoded, list) (All-cons (λ (m : ℕ). m < 2 ^ 32) n first fits small) fields (ap (λ (ns : List ℕ). n ∷ ns) joined)
left-cons bytes k at end next n numbers ending encoded fits (stops cause fault is) =
    stops cause (record { at = fault.at; before = (next, encoded, fault.before); small = All-cons (λ (m : ℕ). m < 2 ^ 32) n numbers fits fault.small; left = fault.left; fault = fault.fault }) is

-- a step that gives a number
pub GivesNumber-at : (old : NumberWalk) (bytes : List ℕ) (k varint_place field_place at end next n : ℕ) → walk_at bytes k varint_place field_place ≡ old → LeavesVarints (walk_at bytes k varint_place field_place) at end
    → EncodesVarint (take end bytes) at next n → n < 2 ^ 32 → GivesNumber old (walk_at bytes k next end) n
GivesNumber-at old bytes k varint_place field_place at end next n is leaves encoded fits =
    let within = leaves.within in
    let size = length-take-le end bytes within in
    let first : (numbers : List ℕ) (ending : Option WireCause) → NumbersLeft (walk_at bytes k next end) numbers ending → NumbersLeft (walk_at bytes k varint_place field_place) (n ∷ numbers) ending =
    λ numbers ending after. leaves.same (n ∷ numbers) ending (left-cons bytes k at end next n numbers ending encoded fits after) in
    let given : GivesNumber (walk_at bytes k varint_place field_place) (walk_at bytes k next end) n = record {
      first = first;
      others = rest_left (walk_at bytes k varint_place field_place) (walk_at bytes k next end) n (some_left bytes k next end (omega arith) within) first;
      small = fits;
      fewer = omega arith;
    } in
    subst (λ (walk : NumberWalk). GivesNumber walk (walk_at bytes k next end) n) is given

-- a step that ends the walk
pub EndsNumbers-at : (old : NumberWalk) (bytes : List ℕ) (k varint_place field_place : ℕ) (ending : Option WireCause) → walk_at bytes k varint_place field_place ≡ old → NumbersLeft (walk_at bytes k varint_place field_place) [] ending
    → EndsNumbers old (walk_at bytes k (length bytes) (length bytes)) ending
EndsNumbers-at old bytes k varint_place field_place ending is none =
    let ended : EndsNumbers (walk_at bytes k varint_place field_place) (walk_at bytes k (length bytes) (length bytes)) ending = record { none = none; only = λ numbers other left. one_left (walk_at bytes k varint_place field_place) numbers [] other ending left none; over = record { last_varint = refl; last_field = refl } } in
    subst (λ (walk : NumberWalk). EndsNumbers walk (walk_at bytes k (length bytes) (length bytes)) ending) is ended

-- a fault in the list that is being read
pub left_at_fault : (old : NumberWalk) (at end : ℕ) (cause : WireCause) → LeavesVarints old at end → StopsVarints (take end old.bytes) at old.field_number [] cause → NumbersLeft old [] (Some cause)
left_at_fault old at end cause leaves fault = leaves.same [] (Some cause) (stops cause fault refl)

-- after an empty span of a field's varints all is left that was left from the field on
pub same_after : (bytes : List ℕ) (k from place at end : ℕ) → end ≤ at → at ≤ end
    → ((numbers : List ℕ) (ending : Option WireCause) → NumbersEnd bytes place k numbers ending → NumbersEnd bytes from k numbers ending)
    → ((numbers : List ℕ) (ending : Option WireCause) → NumbersLeft (walk_at bytes k at end) numbers ending → NumbersEnd bytes place k numbers ending)
    → (numbers : List ℕ) (ending : Option WireCause) → NumbersEnd bytes end k numbers ending → NumbersEnd bytes from k numbers ending
same_after bytes k from place at end none forward before here numbers ending left =
    let empty : end ≡ at = omega arith in
    before numbers ending (here numbers ending (subst (λ (p : ℕ). NumbersLeft (walk_at bytes k p end) numbers ending) empty (left_from_field bytes end k numbers ending left)))

-- the varints of a field, after fields that have none
pub LeavesVarints-at : (bytes : List ℕ) (k from place at end : ℕ) → from ≤ place → place < at → at < end → end ≤ length bytes
    → ((numbers : List ℕ) (ending : Option WireCause) → NumbersEnd bytes place k numbers ending → NumbersEnd bytes from k numbers ending)
    → ((numbers : List ℕ) (ending : Option WireCause) → NumbersLeft (walk_at bytes k at end) numbers ending → NumbersEnd bytes place k numbers ending)
    → LeavesVarints (walk_at bytes k from from) at end
LeavesVarints-at bytes k from place at end following further left within before here = record {
  same = λ numbers ending after. left_from_field bytes from k numbers ending (before numbers ending (here numbers ending after));
  left = left;
  within = within;
  further = omega arith;
}
