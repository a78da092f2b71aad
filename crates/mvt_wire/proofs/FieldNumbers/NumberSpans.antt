-- Where the numbers of a message's fields of one number stand.
use Rattle.std.proofs.Common.{◌≡◌, ◌≢◌, ℕ, List, [], ◌∷◌, length, Option, Some, None, refl, arith}
use Rattle.mvt_wire.specs.Field.{Entry, IsField}
use Rattle.mvt_wire.specs.Numbers.{NumbersEnd, NumbersLeft, walk_at}
use Rattle.mvt_wire.specs.declared.cause.WireCause.{WireCause}
use Rattle.mvt_wire.proofs.Encoding.Entries.{field_extent}
use Rattle.mvt_wire.proofs.FieldNumbers.NumberEnds.{ends-skip, ends_whole}
use Rattle.mvt_wire.proofs.FieldNumbers.NumberFields.{left_at_field}
use Rattle.mvt_wire.proofs.FieldNumbers.NumberLaws.{one_numbers_end}
use Rattle.mvt_wire.proofs.FieldNumbers.NumberWalks.{left_from_field}
use Rattle.mvt_wire.proofs.FieldNumbers.NumbersLeft.{one_left, some_left}
use Rattle.mvt_wire.specs.NumberSources.{StandIn, StandBefore}
use Rattle.mvt_wire.specs.Calls.Numbers.{BeginVarints}
use Rattle.mvt_wire.specs.declared.numbers.span.NumberSpan.{NumberSpan}
use Rattle.mvt_wire.proofs.FieldNumbers.FaultlessNumbers.{begins_within, left_in_field}

module _ (message : List ℕ) (from : ℕ) {to : ℕ} {entry : Entry} (field : IsField message to entry) (k : ℕ) (span : NumberSpan) where
  -- a field of another number changes nothing
  pub StandBefore-other : entry.number ≢ k → StandBefore message from k entry.at span → StandBefore message from k to span
  StandBefore-other other before = record {
    all = before.all;
    following = λ numbers ending end. before.following numbers ending (ends-skip message entry.at to k entry numbers ending refl field other end);
    forward = before.forward;
    ended = before.ended;
    within = omega (arith, before.within, (field_extent message to entry field).0);
  }

  module _ (at : ℕ) (is : entry.number ≡ k) (begin : BeginVarints entry.content at) (before : StandBefore message from k entry.at span) where
    -- the first field that states any
    pub StandBefore-first : span.at ≡ span.last → StandBefore message from k to (record { at = at; end = to; last = to })
    StandBefore-first none = record {
      all = λ numbers ending left.
          let there : span.end ≡ span.last = omega (arith, none, before.forward, before.ended) in
          before.all numbers ending (rw (none, there)
          (left_from_field message span.last k numbers ending
          (before.following numbers ending (left_in_field message entry.at to k at entry refl field is begin numbers ending left))));
      following = λ numbers ending end. end;
      forward = (begins_within message to at entry field begin).1;
      ended = omega arith;
      within = omega arith;
    }

    -- one more
    pub StandBefore-more : StandBefore message from k to (record span { last = to })
    StandBefore-more = record {
      all = before.all;
      following = λ numbers ending end. end;
      forward = before.forward;
      ended = omega (arith, before.ended, before.within, (field_extent message to entry field).0);
      within = omega arith;
    }

-- numbers that stand in a span
module _ (message : List ℕ) (k : ℕ) (span : NumberSpan) (lies : StandIn message k span) where
  -- an empty one has none
  pub none_in : span.at ≡ span.last → (numbers : List ℕ) → NumbersLeft (walk_at message k span.at span.end) numbers None → numbers ≡ []
  none_in empty numbers left = go numbers (left_at_field message span.last k numbers None lies.2 (rw (empty, there) at left))
    where
      there : span.end ≡ span.last
      there = omega (arith, empty, lies.0, lies.1)

      go : (numbers : List ℕ) → NumbersEnd message span.last k numbers None → numbers ≡ []
      go [] end = refl
      go (n ∷ rest) end = absurd (lies.4 n rest end)

  -- they end with the message
  pub all_in : (numbers : List ℕ) × NumbersLeft (walk_at message k span.at span.end) numbers None
  all_in = let some = some_left message k span.at span.end lies.0 (omega (arith, lies.1, lies.2)) in go some.0 some.1 some.2
    where
      go : (numbers : List ℕ) (ending : Option WireCause) → NumbersLeft (walk_at message k span.at span.end) numbers ending → (numbers : List ℕ) × NumbersLeft (walk_at message k span.at span.end) numbers None
      go numbers None left = (numbers, left)
      go numbers (Some cause) left = absurd (lies.3 numbers cause left)

-- after all fields the span has the numbers of the message
module _ (message : List ℕ) (from k : ℕ) (span : NumberSpan) (numbers : List ℕ) (stands : StandBefore message from k (length message) span) (end : NumbersEnd message from k numbers None) where
  one : (given : List ℕ) (ending : Option WireCause) → NumbersLeft (walk_at message k span.at span.end) given ending → (numbers ≡ given) × (None ≡ ending)
  one given ending left = one_left (walk_at message k from from) numbers given None ending (left_from_field message from k numbers None end) (stands.all given ending left)

  pub StandIn-whole : StandIn message k span
  StandIn-whole = (
    stands.forward,
    stands.ended,
    stands.within,
    (λ given cause left. let ending : None ≡ Some cause = (one given (Some cause) left).1 in absurd (cc)),
    (λ number given some.
        let none = stands.following [] None (ends_whole message (length message) k refl) in
        let both : [] ≡ number ∷ given = (one_numbers_end message span.last k [] (number ∷ given) None None none some).0 in absurd (cc)),
  )

  pub left_whole : NumbersLeft (walk_at message k span.at span.end) numbers None
  left_whole = let some = all_in message k span StandIn-whole in rw (one some.0 None some.1).0 some.1
