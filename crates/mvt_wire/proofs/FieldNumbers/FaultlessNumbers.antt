-- Numbers that no fault ends, as they are given one after another.
use Rattle.std.proofs.Common.{◌≡◌, ℕ, ◌^◌, ◌<◌, ◌≤◌, true, inl, inr, List, [], ◌∷◌, length, take, Option, Some, None, refl, subst, arith}
use Rattle.std.proofs.lemmas.Bool.{cases_Bool}
use Rattle.std.proofs.lemmas.List.Elements.{All-head}
use Rattle.mvt_wire.specs.Field.{Content, varint, eight_bytes, delimited, four_bytes, Entry, wire_type_of, IsField, IsPayload}
use Rattle.mvt_wire.specs.Numbers.{NumbersEnd, walk_at, NumbersLeft, goes_on, stops, HasNoNumber, IsFaultless}
use Rattle.mvt_wire.specs.Schema.{is_own}
use Rattle.mvt_wire.specs.Varint.{EncodesVarint}
use Rattle.mvt_wire.specs.Walk.{Walk, GivesField}
use Rattle.mvt_wire.specs.declared.cause.WireCause.{WireCause}
use Rattle.mvt_wire.specs.declared.schema.Shape.TheVariants.{Numbers}
use Rattle.mvt_wire.proofs.FieldNumbers.NumberLaws.{numbers_end}
use Rattle.mvt_wire.proofs.FieldNumbers.NumberFields.{ends_at_other_type, left_in_list, left_in_single}
use Rattle.mvt_wire.proofs.FieldNumbers.NumberWalks.{left_from_field}
use Rattle.mvt_wire.proofs.FieldNumbers.NumbersLeft.{some_left}
use Rattle.mvt_wire.specs.Calls.Numbers.{BeginVarints, HasNoNumberFault}

-- a field that is given is one of the message
pub given_in : {bytes : List ℕ} {old new : Walk} {entry : Entry} → old.bytes ≡ bytes → GivesField old new entry → IsField bytes new.at entry
given_in {new = new} {entry = entry} same given = subst (λ (message : List ℕ). IsField message new.at entry) same given.encoded

-- no fault ends the numbers of a walk that begins at a field
pub HasNoNumberFault-at : (bytes : List ℕ) (at k : ℕ) → IsFaultless (walk_at bytes k at at) → HasNoNumberFault bytes at k
HasNoNumberFault-at bytes at k faultless given cause end = faultless given cause (left_from_field bytes at k given (Some cause) end)

-- where no fault ends the numbers, fields of the number are varints or packed lists
pub own_at : (bytes : List ℕ) (at to k : ℕ) (entry : Entry) → HasNoNumberFault bytes at k → entry.at ≡ at → IsField bytes to entry → entry.number ≡ k → is_own Numbers (wire_type_of entry.content) ≡ true
own_at bytes at to k entry faultless here field is = elim (cases_Bool (is_own Numbers (wire_type_of entry.content))) [
  | inl own ↦ own
  | inr other ↦ absurd (faultless [] _ (ends_at_other_type bytes at to k entry here field is other))
]

-- its varints lie after its key
pub begins_within : (bytes : List ℕ) (to place : ℕ) (entry : Entry) → IsField bytes to entry → BeginVarints entry.content place → (entry.at < place) × (place ≤ to)
begins_within bytes to place entry field begins = go entry.content field.payload begins
  where
    ahead : entry.at < field.key_end
    ahead = field.key.encoded.forward

    go : (content : Content) → IsPayload bytes field.key_end to content → BeginVarints content place → (entry.at < place) × (place ≤ to)
    go (varint value first) payload begins = let forward = payload.1.forward in (omega (arith, ahead, begins, payload.0), omega (arith, begins, payload.0))
    go (eight_bytes part) payload begins = absurd begins
    go (delimited from part) payload begins = let forward = payload.1.forward in (omega (arith, ahead, begins), omega (arith, begins, payload.2))
    go (four_bytes part) payload begins = absurd begins

-- what such a field and those after it leave
pub left_in_field : (bytes : List ℕ) (at to k place : ℕ) (entry : Entry) → entry.at ≡ at → IsField bytes to entry → entry.number ≡ k → BeginVarints entry.content place
    → (numbers : List ℕ) (ending : Option WireCause) → NumbersLeft (walk_at bytes k place to) numbers ending → NumbersEnd bytes at k numbers ending
left_in_field bytes at to k place entry here field is begin numbers ending left = go entry.content refl begin
  where
    go : (content : Content) → entry.content ≡ content → BeginVarints content place → NumbersEnd bytes at k numbers ending
    go (varint value first) same begins = left_in_single bytes at to k value first entry numbers ending here field is same (subst (λ (p : ℕ). NumbersLeft (walk_at bytes k p to) numbers ending) begins left)
    go (eight_bytes part) same begins = absurd begins
    go (delimited from part) same begins = left_in_list bytes at to k from part entry numbers ending here field is same (subst (λ (p : ℕ). NumbersLeft (walk_at bytes k p to) numbers ending) begins left)
    go (four_bytes part) same begins = absurd begins

-- where varints are left in a field, a number of 32 bits is the next
pub number_next : (bytes : List ℕ) (k at end : ℕ) → at < end → end ≤ length bytes → IsFaultless (walk_at bytes k at end) → (n next : ℕ) × EncodesVarint (take end bytes) at next n × (n < 2 ^ 32)
number_next bytes k at end left within faultless = let some = some_left bytes k at end (omega arith) within in first some.0 some.1 some.2
  where
    first : (numbers : List ℕ) (ending : Option WireCause) → NumbersLeft (walk_at bytes k at end) numbers ending → (n next : ℕ) × EncodesVarint (take end bytes) at next n × (n < 2 ^ 32)
    first numbers (Some cause) there = absurd (faultless numbers cause there)
    first numbers None (goes_on [] rest list small fields joined) = absurd (omega arith)
    first numbers None (goes_on (n ∷ following) rest list small fields joined) = (n, list.0, list.1, All-head (λ (m : ℕ). m < 2 ^ 32) n following small)
    first numbers None (stops cause stop is) = absurd (cc)

-- where none is left at a place, a walk from there has none left
pub none_left : (bytes : List ℕ) (at k : ℕ) → at ≤ length bytes → HasNoNumberFault bytes at k → HasNoNumber bytes at k → NumbersLeft (walk_at bytes k at at) [] None
none_left bytes at k within faultless none = let end = numbers_end bytes at k within in go end.0 end.1 end.2
  where
    go : (numbers : List ℕ) (ending : Option WireCause) → NumbersEnd bytes at k numbers ending → NumbersLeft (walk_at bytes k at at) [] None
    go [] None end = left_from_field bytes at k [] None end
    go (n ∷ numbers) None end = absurd (none n numbers end)
    go numbers (Some cause) end = absurd (faultless numbers cause end)
