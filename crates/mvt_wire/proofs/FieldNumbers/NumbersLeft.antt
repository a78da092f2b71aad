-- A walk over numbers has some left, and only one list of them, with one ending.
use Rattle.std.proofs.Common.{◌≡◌, ℕ, ◌<◌, ◌≤◌, inl, inr, List, ◌∷◌, ◌++◌, Option, Some, length, take, refl, sym, ◌∙◌, ap, subst, arith, zero-add}
use Rattle.std.proofs.lemmas.List.{length-take, length-take-le}
use Rattle.mvt_wire.specs.Field.{cause_at}
use Rattle.mvt_wire.specs.Number.{VarintList, AreSmall}
use Rattle.mvt_wire.specs.Numbers.{NumberWalk, walk_at, StopsVarints, NumbersLeft, goes_on, stops}
use Rattle.mvt_wire.specs.declared.cause.WireCause.{WireCause}
use Rattle.mvt_wire.specs.declared.cause.WireCode.TheVariants.{OutOfRange}
use Rattle.mvt_wire.proofs.Encoding.PackedLists.{one_varint_list, NoSmallNumber, numbers_or_stop}
use Rattle.mvt_wire.proofs.FieldNumbers.NumberFaults.{FaultHere, one_fault_here, first_fault, same_front}
use Rattle.mvt_wire.proofs.FieldNumbers.NumberLaws.{one_numbers_end, numbers_end}

-- what stops a list, as a fault at its place
stop_here : (part : List ℕ) (from k : ℕ) (numbers : List ℕ) (cause : WireCause) (stop : StopsVarints part from k numbers cause) → FaultHere 0 part k stop.at cause
stop_here part from k numbers cause stop = elim stop.fault [
  | inl bad ↦ inl (bad.0, stop.left, bad.1, bad.2 ∙ ap (λ (p : ℕ). cause_at bad.0 p k) (sym (zero-add stop.at)))
  | inr large ↦ inr (large.0, large.1, large.2, large.3, large.4 ∙ ap (λ (p : ℕ). cause_at OutOfRange p k) (sym (zero-add stop.at)))
]

-- a list stops in one way
one_stop : (part : List ℕ) (from k : ℕ) (ms ns : List ℕ) (c d : WireCause) → StopsVarints part from k ms c → StopsVarints part from k ns d → (ms ≡ ns) × (c ≡ d)
one_stop part from k ms ns c d first second =
    let a = stop_here part from k ms c first in
    let b = stop_here part from k ns d second in
    let low = first_fault 0 part k from first.at second.at ms ns d first.before second.before first.small b in
    let high = first_fault 0 part k from second.at first.at ns ms c second.before first.before second.small a in
    let same : first.at ≡ second.at = omega arith in (
      same_front part from first.at second.at ms ns first.before second.before same,
      one_fault_here 0 part k second.at c d (subst (λ (place : ℕ). FaultHere 0 part k place c) same a) b,
    )

-- and a whole list doesn't
whole_or_stop : (part : List ℕ) (from to k : ℕ) (ms ns : List ℕ) (cause : WireCause) → length part ≤ to → VarintList part from ms to → AreSmall ms → StopsVarints part from k ns cause → ⊥
whole_or_stop part from to k ms ns cause end whole small stop =
    let before = first_fault 0 part k from to stop.at ms ns cause whole stop.before small (stop_here part from k ns cause stop) in
    omega arith

-- bytes that are cut at a place end there at the latest
cut_by : (bytes : List ℕ) (end : ℕ) → length (take end bytes) ≤ end
cut_by bytes end = omega (arith, length-take end bytes)

-- a walk has only one list of numbers left, with one ending
pub one_left : (walk : NumberWalk) (ms ns : List ℕ) (c d : Option WireCause) → NumbersLeft walk ms c → NumbersLeft walk ns d → (ms ≡ ns) × (c ≡ d)
one_left walk ms ns c d (goes_on first rest list small end joined) (goes_on other following also below too is) =
    let front : first ≡ other = one_varint_list (take walk.field_at walk.bytes) walk.varint_at walk.field_at first other list also in
    let tail = one_numbers_end walk.bytes walk.field_at walk.field_number rest following c d end too in
    (joined ∙ ap (λ (xs : List ℕ). xs ++ rest) front ∙ ap (λ (xs : List ℕ). other ++ xs) tail.0 ∙ sym is, tail.1)
one_left walk ms ns c d (goes_on first rest list small end joined) (stops cause stop is) =
    absurd (whole_or_stop (take walk.field_at walk.bytes) walk.varint_at walk.field_at walk.field_number first ns cause (cut_by walk.bytes walk.field_at) list small stop)
one_left walk ms ns c d (stops cause stop is) (goes_on first rest list small end joined) =
    absurd (whole_or_stop (take walk.field_at walk.bytes) walk.varint_at walk.field_at walk.field_number first ms cause (cut_by walk.bytes walk.field_at) list small stop)
one_left walk ms ns c d (stops cause stop is) (stops other also too) =
    let same = one_stop (take walk.field_at walk.bytes) walk.varint_at walk.field_number ms ns cause other stop also in
    (same.0, is ∙ ap (λ (x : WireCause). Some x) same.1 ∙ sym too)

-- the fault at a place that has no small number
stop_at : (part : List ℕ) (from k : ℕ) (numbers : List ℕ) (at : ℕ) → VarintList part from numbers at → AreSmall numbers → NoSmallNumber part at → (cause : WireCause) × StopsVarints part from k numbers cause
stop_at part from k numbers at list small (inl bad) = (cause_at bad.0 at k, record { at = at; before = list; small = small; left = bad.1; fault = inl (bad.0, bad.2, refl) })
stop_at part from k numbers at list small (inr large) =
    let left : at < length part = omega arith in
    (cause_at OutOfRange at k, record { at = at; before = list; small = small; left = left; fault = inr (large.0, large.1, large.2, large.3, refl) })

-- some numbers, with some ending
abbrev pub SomeLeft : NumberWalk → Type 0
SomeLeft walk = (numbers : List ℕ) × (ending : Option WireCause) × NumbersLeft walk numbers ending

-- a walk within its bytes has some left
pub some_left : (bytes : List ℕ) (k at end : ℕ) → at ≤ end → end ≤ length bytes → SomeLeft (walk_at bytes k at end)
some_left bytes k at end forward within =
    let size : length (take end bytes) ≡ end = length-take-le end bytes within in
    elim (numbers_or_stop (length (take end bytes)) (take end bytes) at (omega arith) (omega arith)) [
      | inl whole ↦
          let rest = numbers_end bytes end k within in
          (whole.0 ++ rest.0, rest.1, goes_on whole.0 rest.0 (subst (λ (p : ℕ). VarintList (take end bytes) at whole.0 p) size whole.1) whole.2 rest.2 refl)
      | inr bad ↦
          let stop = stop_at (take end bytes) at k bad.0 bad.1 bad.2 bad.4 bad.3 in
          (bad.0, Some stop.0, stops stop.0 stop.1 refl)
    ]

-- where a number is in front of all that a walk has left, it is the first that another one has left, and these are
-- the rest
pub rest_left : (old new : NumberWalk) (n : ℕ) → SomeLeft new → ((numbers : List ℕ) (ending : Option WireCause) → NumbersLeft new numbers ending → NumbersLeft old (n ∷ numbers) ending)
    → (numbers : List ℕ) (ending : Option WireCause) → NumbersLeft old numbers ending → (rest : List ℕ) × (numbers ≡ n ∷ rest) × NumbersLeft new rest ending
rest_left old new n following first numbers ending left =
    let same = one_left old numbers (n ∷ following.0) ending following.1 left (first following.0 following.1 following.2) in
    (following.0, same.0, subst (λ (o : Option WireCause). NumbersLeft new following.0 o) (sym same.1) following.2)
