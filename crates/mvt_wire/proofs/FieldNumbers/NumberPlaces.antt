-- The numbers of a message are those of the varints before its end or its first fault, in order.
use Rattle.std.proofs.Common.{◌≡◌, ℕ, ◌+◌, ◌-◌, ◌<◌, ◌≤◌, ◌⊎◌, append_assoc, inl, inr, List, [], ◌∷◌, ◌++◌, Option, length, refl, sym, ◌∙◌, ap, subst, arith}
use Rattle.std.proofs.lemmas.Bool.{cases_lt}
use Rattle.std.proofs.lemmas.List.Edits.{length-between}
use Rattle.mvt_wire.specs.Varint.{EncodesVarint}
use Rattle.mvt_wire.specs.Field.{Content, varint, delimited, Entry, IsPayload, IsField, FieldDefect}
use Rattle.mvt_wire.specs.Message.{FieldList}
use Rattle.mvt_wire.specs.Number.{VarintList, States, StateTogether}
use Rattle.mvt_wire.specs.Payload.{contents_of}
use Rattle.mvt_wire.specs.Numbers.{StopsAt, at_defect, in_field, NumbersEnd, StatesAt, IsNumberAt, StandBetween, place_of_end}
use Rattle.mvt_wire.specs.declared.cause.WireCause.{WireCause}
use Rattle.mvt_wire.proofs.Encoding.Varints.{one_end}
use Rattle.mvt_wire.proofs.Encoding.Entries.{one_field, field_extent}
use Rattle.mvt_wire.proofs.Encoding.Defects.{field_or_defect}
use Rattle.mvt_wire.proofs.Encoding.PackedLists.{varints_forward, one_goes_on}
use Rattle.mvt_wire.proofs.FieldNumbers.NumberFaults.{FaultOf, fault_of, place_here}
use Rattle.mvt_wire.proofs.FieldNumbers.NumberLaws.{EndsAt, at_end, at_stop, walked, StatedAfter, stated_after}
use Rattle.mvt_wire.proofs.FieldNumbers.NumberStops.{fields_forward, stop_after, stop_within}

-- no number is between two places
abbrev pub NoneBetween : (ℕ → ℕ → Type 0) → ℕ → ℕ → Type 0
NoneBetween stands_at from to = (place n : ℕ) → from ≤ place → place < to → stands_at place n → ⊥

-- numbers from a place on are those from an earlier one on, where none is between
pub between-earlier : (A : ℕ → ℕ → Type 0) (low from : ℕ) (numbers : List ℕ) (to : ℕ) → low ≤ from → NoneBetween A low from → StandBetween A from numbers to → StandBetween A low numbers to
between-earlier A low from [] to ordered none stand = λ place n above below here. elim (cases_lt place from) [ inl early ↦ none place n above early here | inr late ↦ stand place n late below here ]
between-earlier A low from (n ∷ numbers) to ordered none stand =
    let following : low ≤ stand.0 = omega (arith, stand.1) in (
      stand.0,
      following,
      stand.2,
      stand.3,
      λ place m above below here. elim (cases_lt place from) [ inl early ↦ none place m above early here | inr late ↦ stand.4 place m late below here ],
      stand.5,
    )

-- numbers up to a place, and those from there on
pub between-append : (A : ℕ → ℕ → Type 0) (from middle to : ℕ) (first rest : List ℕ) → from ≤ middle → middle ≤ to → StandBetween A from first middle → StandBetween A middle rest to → StandBetween A from (first ++ rest) to
between-append A from middle to [] rest ordered further stand following = between-earlier A from middle rest to ordered stand following
between-append A from middle to (n ∷ first) rest ordered further stand following =
    let below : stand.0 < to = omega (arith, stand.2) in
    let above : stand.0 + 1 ≤ middle = omega (arith, stand.2) in
    (stand.0, stand.1, below, stand.3, stand.4, between-append A (stand.0 + 1) middle to first rest above further stand.5 following)

-- the same numbers where another relation says which number is at which place
pub between-same : (A B : ℕ → ℕ → Type 0) (low from : ℕ) (numbers : List ℕ) (to : ℕ) → low ≤ from
    → ((place n : ℕ) → low ≤ place → place < to → A place n → B place n) → ((place n : ℕ) → low ≤ place → place < to → B place n → A place n)
    → StandBetween A from numbers to → StandBetween B from numbers to
between-same A B low from [] to ordered there back stand = λ place n above below here. let high : low ≤ place = omega arith in stand place n above below (back place n high below here)
between-same A B low from (n ∷ numbers) to ordered there back stand =
    let high : low ≤ stand.0 = omega (arith, stand.1) in
    let next : low ≤ stand.0 + 1 = omega (arith, high) in (
      stand.0,
      stand.1,
      stand.2,
      there stand.0 n high stand.2 stand.3,
      λ place m above below here. let high : low ≤ place = omega arith in let less : place < to = omega (arith, stand.2) in stand.4 place m above below (back place m high less here),
      between-same A B low (stand.0 + 1) numbers to next there back stand.5,
    )

-- one more varint after a list
pub list-push : (part : List ℕ) (from : ℕ) (numbers : List ℕ) (at next n : ℕ) → VarintList part from numbers at → EncodesVarint part at next n → VarintList part from (numbers ++ n ∷ []) next
list-push part from [] at next n list encoded = (next, subst (λ (place : ℕ). EncodesVarint part place next n) (sym list) encoded, refl)
list-push part from (m ∷ numbers) at next n list encoded = (list.0, list.1, list-push part list.0 numbers at next n list.2 encoded)

-- no varint of a list begins within another one
not_in_rest : (part : List ℕ) (at next n : ℕ) (rest : List ℕ) (stop : ℕ) → EncodesVarint part at next n → VarintList part at rest stop → at < stop → stop < next → ⊥
not_in_rest part at next n [] stop encoded list following within = omega arith
not_in_rest part at next n (m ∷ rest) stop encoded list following within =
    let ends : list.0 ≡ next = one_end part at list.0 next m n list.1 encoded in
    let forward = varints_forward part list.0 stop rest list.2 in
    omega arith

none_within : (part front ms : List ℕ) (at next n stop : ℕ) → VarintList part 0 front at → EncodesVarint part at next n → VarintList part 0 ms stop → at < stop → stop < next → ⊥
none_within part front ms at next n stop list encoded other following within = elim (one_goes_on part 0 at stop front ms list other) [
  | inl before ↦ let backward = varints_forward part stop at before.0 before.2 in omega arith
  | inr beyond ↦ not_in_rest part at next n beyond.0 stop encoded beyond.2 following within
]

-- the numbers of a packed list, at their places
between-list : (from : ℕ) (part front : List ℕ) (at : ℕ) (numbers : List ℕ) (to : ℕ) → VarintList part 0 front at → VarintList part at numbers to → StandBetween (StatesAt (delimited from part)) (from + at) numbers (from + to)
between-list from part front at [] to before list = λ place n above below here. omega arith
between-list from part front at (n ∷ numbers) to before list =
    let rest = varints_forward part list.0 to numbers list.2 in
    let following = between-list from part (front ++ n ∷ []) list.0 numbers to (list-push part 0 front at list.0 n before list.1) list.2 in
    let none : NoneBetween (StatesAt (delimited from part)) (from + at + 1) (from + list.0) =
    λ place m above below here. none_within part front here.0 at list.0 n here.1 before list.1 here.3 (omega (arith, here.5)) (omega (arith, here.5)) in (
      from + at,
      omega arith,
      omega arith,
      (front, at, list.0, before, list.1, refl),
      λ place m above below here. omega arith,
      between-earlier (StatesAt (delimited from part)) (from + at + 1) (from + list.0) numbers (from + to) (omega arith) none following,
    )

-- a number of a payload is within its field
states_extent : (bytes : List ℕ) (key_end to place n : ℕ) (content : Content) → key_end ≤ length bytes → IsPayload bytes key_end to content → StatesAt content place n → (key_end ≤ place) × (place < to)
states_extent bytes key_end to place n (varint value at) within payload states =
    (omega arith, omega arith)
states_extent bytes key_end to place n (delimited from part) within payload states =
    let size : length part ≡ to - from = ap length payload.4 ∙ length-between bytes from to payload.3 in
    (omega arith, omega arith)
states_extent bytes key_end to place n content within payload states = absurd states

-- the numbers of a field's payload, at their places
payload_between : (bytes : List ℕ) (at key_end to : ℕ) (content : Content) (numbers : List ℕ) → at ≤ key_end → key_end ≤ length bytes → IsPayload bytes key_end to content → States content numbers → StandBetween (StatesAt content) at numbers to
payload_between bytes at key_end to (varint value place) numbers following within payload states =
    let one : StandBetween (StatesAt (varint value place)) at (value ∷ []) to =
    (place, omega arith, omega arith, (refl, refl), λ p m above below here. let same = here.0 in omega arith, λ p m above below here. let same = here.0 in omega arith) in
    subst (λ (ns : List ℕ). StandBetween (StatesAt (varint value place)) at ns to) (sym states) one
payload_between bytes at key_end to (delimited from part) numbers following within payload states =
    let size : length part ≡ to - from = ap length payload.4 ∙ length-between bytes from to payload.3 in
    let end : from + length part ≡ to = omega (arith, payload.2) in
    let list : StandBetween (StatesAt (delimited from part)) (from + 0) numbers to = subst (λ (p : ℕ). StandBetween (StatesAt (delimited from part)) (from + 0) numbers p) end (between-list from part [] 0 numbers (length part) refl states) in
    between-earlier (StatesAt (delimited from part)) at (from + 0) numbers to (omega arith) (λ p m above below here. let place = here.5 in omega arith) list
payload_between bytes at key_end to content numbers following within payload states = absurd states

-- those before its fault
fault_between : (bytes : List ℕ) (at key_end to k : ℕ) (content : Content) (numbers : List ℕ) (cause : WireCause) → at ≤ key_end → IsPayload bytes key_end to content → FaultOf at k content numbers cause → StandBetween (StatesAt content) at numbers cause.at
fault_between bytes at key_end to k (varint value place) numbers cause following payload fault =
    let here : cause.at ≡ place = ap (λ (c : WireCause). c.at) fault.2 in
    subst (λ (ns : List ℕ). StandBetween (StatesAt (varint value place)) at ns cause.at) (sym fault.1) (λ p m above below stands. let same = stands.0 in omega arith)
fault_between bytes at key_end to k (delimited from part) numbers cause following payload fault =
    let here : from + fault.0 ≡ cause.at = sym (place_here from part k fault.0 cause fault.2) in
    let list : StandBetween (StatesAt (delimited from part)) (from + 0) numbers cause.at = subst (λ (p : ℕ). StandBetween (StatesAt (delimited from part)) (from + 0) numbers p) here (between-list from part [] 0 numbers fault.0 refl fault.1) in
    between-earlier (StatesAt (delimited from part)) at (from + 0) numbers cause.at (omega arith) (λ p m above below stands. let place = stands.5 in omega arith) list
fault_between bytes at key_end to k content numbers cause following payload fault =
    subst (λ (ns : List ℕ). StandBetween (StatesAt content) at ns cause.at) (sym fault.0) (λ p m above below stands. stands)

-- a number of a field is within it
in_field_extent : (bytes : List ℕ) (to place n : ℕ) (e : Entry) → IsField bytes to e → StatesAt e.content place n → (e.at ≤ place) × (place < to)
in_field_extent bytes to place n e field states =
    let extent = states_extent bytes field.key_end to place n e.content field.key.encoded.within field.payload states in
    (omega arith, extent.1)

-- a number of a message is after its start
number_after : (bytes : List ℕ) (from k place n : ℕ) → IsNumberAt bytes from k place n → from ≤ place
number_after bytes from k place n number =
    let forward = fields_forward bytes from number.at number.entries number.before in
    let following = (in_field_extent bytes number.to place n number.entry number.field number.states).0 in
    omega arith

-- a number after the first field
number_from_rest : (bytes : List ℕ) (from next k place n : ℕ) (e : Entry) → e.at ≡ from → IsField bytes next e → IsNumberAt bytes next k place n → IsNumberAt bytes from k place n
number_from_rest bytes from next k place n e here field number = record {
  entries = e ∷ number.entries;
  at = number.at;
  before = (here, (next, field, number.before));
  to = number.to;
  entry = number.entry;
  here = number.here;
  field = number.field;
  of_number = number.of_number;
  states = number.states;
}

-- a number of the first field
number_from_field : (bytes : List ℕ) (from next k place n : ℕ) (e : Entry) → e.at ≡ from → IsField bytes next e → e.number ≡ k → StatesAt e.content place n → IsNumberAt bytes from k place n
number_from_field bytes from next k place n e here field own states =
    record { entries = []; at = from; before = refl; to = next; entry = e; here = here; field = field; of_number = own; states = states }

-- a number is one of the first field, or after it
abbrev pub InFieldOrAfter : List ℕ → ℕ → ℕ → ℕ → ℕ → Entry → Type 0
InFieldOrAfter bytes next k place n e = ((e.number ≡ k) × StatesAt e.content place n) ⊎ IsNumberAt bytes next k place n

number_in : (bytes : List ℕ) (from at next to k place n : ℕ) (e f : Entry) (entries : List Entry) → e.at ≡ from → IsField bytes next e → FieldList bytes from entries at → f.at ≡ at → IsField bytes to f → f.number ≡ k → StatesAt f.content place n → InFieldOrAfter bytes next k place n e
number_in bytes from at next to k place n e f [] here field list there other own states =
    let same : e ≡ f = (one_field bytes next to e f (here ∙ list ∙ sym there) field other).1 in
    inl (ap (λ (x : Entry). x.number) same ∙ own, subst (λ (x : Entry). StatesAt x.content place n) (sym same) states)
number_in bytes from at next to k place n e f (g ∷ entries) here field list there other own states =
    let same : next ≡ list.1.0 = (one_field bytes next list.1.0 e g (here ∙ sym list.0) field list.1.1).0 in
    let rest : FieldList bytes next entries at = subst (λ (p : ℕ). FieldList bytes p entries at) (sym same) list.1.2 in
    inr (record { entries = entries; at = at; before = rest; to = to; entry = f; here = there; field = other; of_number = own; states = states })

number_split : (bytes : List ℕ) (from next k place n : ℕ) (e : Entry) → e.at ≡ from → IsField bytes next e → IsNumberAt bytes from k place n → InFieldOrAfter bytes next k place n e
number_split bytes from next k place n e here field number =
    number_in bytes from number.at next number.to k place n e number.entry number.entries here field number.before number.here number.field number.of_number number.states

-- within the first field are its own numbers
own_in_field : (bytes : List ℕ) (from next k place n : ℕ) (e : Entry) → e.at ≡ from → IsField bytes next e → place < next → IsNumberAt bytes from k place n → (e.number ≡ k) × StatesAt e.content place n
own_in_field bytes from next k place n e here field below number = elim (number_split bytes from next k place n e here field number) [
  | inl own ↦ own
  | inr following ↦ let late = number_after bytes next k place n following in absurd (omega arith)
]

-- and after it those of the rest
rest_after_field : (bytes : List ℕ) (from next k place n : ℕ) (e : Entry) → e.at ≡ from → IsField bytes next e → next ≤ place → IsNumberAt bytes from k place n → IsNumberAt bytes next k place n
rest_after_field bytes from next k place n e here field above number = elim (number_split bytes from next k place n e here field number) [
  | inl own ↦ let early = (in_field_extent bytes next place n e field own.1).1 in absurd (omega arith)
  | inr following ↦ following
]

-- the numbers of a first field of the number
field_between : (bytes : List ℕ) (from next k limit : ℕ) (e : Entry) (numbers : List ℕ) → e.at ≡ from → IsField bytes next e → e.number ≡ k → limit ≤ next → StandBetween (StatesAt e.content) from numbers limit → StandBetween (IsNumberAt bytes from k) from numbers limit
field_between bytes from next k limit e numbers here field own within stand =
    between-same (StatesAt e.content) (IsNumberAt bytes from k) from from numbers limit (omega arith)
    (λ place n above below states. number_from_field bytes from next k place n e here field own states)
    (λ place n above below number. let inside : place < next = omega arith in (own_in_field bytes from next k place n e here field inside number).1)
    stand

-- the numbers after a first field
rest_between : (bytes : List ℕ) (from next k limit : ℕ) (e : Entry) (numbers : List ℕ) → e.at ≡ from → IsField bytes next e → StandBetween (IsNumberAt bytes next k) next numbers limit → StandBetween (IsNumberAt bytes from k) next numbers limit
rest_between bytes from next k limit e numbers here field stand =
    between-same (IsNumberAt bytes next k) (IsNumberAt bytes from k) next next numbers limit (omega arith)
    (λ place n above below number. number_from_rest bytes from next k place n e here field number)
    (λ place n above below number. rest_after_field bytes from next k place n e here field above number)
    stand

-- the numbers of a first field, and those after it
after_field : (bytes : List ℕ) (from next k limit : ℕ) (e : Entry) (es : List Entry) (first last : List ℕ) → e.at ≡ from → IsField bytes next e → next ≤ limit
    → ((rest : List ℕ) → StateTogether (contents_of k es) rest → StandBetween (IsNumberAt bytes next k) next (rest ++ last) limit)
    → StatedAfter k e es first → StandBetween (IsNumberAt bytes from k) from (first ++ last) limit
after_field bytes from next k limit e es first last here field within rest (inl own) =
    let ordered : from ≤ next = omega (arith, (field_extent bytes next e field).0) in
    let mine : StandBetween (StatesAt e.content) from own.1.0 next = payload_between bytes from field.key_end next e.content own.1.0 (omega arith) field.key.encoded.within field.payload own.1.2 in
    let joined : own.1.0 ++ (own.1.1 ++ last) ≡ first ++ last = sym (append_assoc own.1.0 own.1.1 last) ∙ ap (λ (xs : List ℕ). xs ++ last) (sym own.1.4) in
    subst (λ (xs : List ℕ). StandBetween (IsNumberAt bytes from k) from xs limit) joined
    (between-append (IsNumberAt bytes from k) from next limit own.1.0 (own.1.1 ++ last) ordered within
    (field_between bytes from next k next e own.1.0 here field own.0 (omega arith) mine)
    (rest_between bytes from next k limit e (own.1.1 ++ last) here field (rest own.1.1 own.1.3)))
after_field bytes from next k limit e es first last here field within rest (inr other) =
    let ordered : from ≤ next = omega (arith, (field_extent bytes next e field).0) in
    between-earlier (IsNumberAt bytes from k) from next (first ++ last) limit ordered
    (λ place n above below number. other.0 (own_in_field bytes from next k place n e here field below number).0)
    (rest_between bytes from next k limit e (first ++ last) here field (rest first other.1))

after_fields : (bytes : List ℕ) (from at k limit : ℕ) (es : List Entry) (first last : List ℕ) → FieldList bytes from es at → at ≤ limit → StateTogether (contents_of k es) first → StandBetween (IsNumberAt bytes at k) at last limit → StandBetween (IsNumberAt bytes from k) from (first ++ last) limit
after_fields bytes from at k limit [] first last list within stated stand =
    subst (λ (p : ℕ). StandBetween (IsNumberAt bytes p k) p (first ++ last) limit) (sym list)
    (subst (λ (xs : List ℕ). StandBetween (IsNumberAt bytes at k) at (xs ++ last) limit) (sym stated) stand)
after_fields bytes from at k limit (e ∷ es) first last list within stated stand =
    let forward = fields_forward bytes list.1.0 at es list.1.2 in
    after_field bytes from list.1.0 k limit e es first last list.0 list.1.1 (omega arith)
    (λ rest together. after_fields bytes list.1.0 at k limit es rest last list.1.2 within together stand)
    (stated_after k e es first stated)

-- no number is from a defect on
number_or_defect : (bytes : List ℕ) (at from to k place n : ℕ) (cause : WireCause) (f : Entry) (entries : List Entry) → FieldDefect bytes from cause → FieldList bytes from entries at → f.at ≡ at → IsField bytes to f → ⊥
number_or_defect bytes at from to k place n cause f [] defect list here field = field_or_defect bytes to f cause field (subst (λ (p : ℕ). FieldDefect bytes p cause) (list ∙ sym here) defect)
number_or_defect bytes at from to k place n cause f (g ∷ entries) defect list here field = field_or_defect bytes list.1.0 g cause list.1.1 (subst (λ (p : ℕ). FieldDefect bytes p cause) (sym list.0) defect)

-- the numbers before the fault that ends them
stop_between : (bytes : List ℕ) (at k : ℕ) (numbers : List ℕ) (cause : WireCause) → StopsAt bytes at k numbers cause → StandBetween (IsNumberAt bytes at k) at numbers cause.at
stop_between bytes at k numbers cause (at_defect left defect none) =
    subst (λ (ns : List ℕ). StandBetween (IsNumberAt bytes at k) at ns cause.at) (sym none)
    (λ place n above below number. number_or_defect bytes number.at at number.to k place n cause number.entry number.entries defect number.before number.here number.field)
stop_between bytes at k numbers cause (in_field to e here field is fault) =
    let faulty = fault_of e numbers cause fault in
    let within = stop_within bytes at to k e numbers cause here field (in_field to e here field is fault) in
    let stand : StandBetween (StatesAt e.content) e.at numbers cause.at = fault_between bytes e.at field.key_end to e.number e.content numbers cause (omega arith) field.payload faulty in
    field_between bytes at to k cause.at e numbers here field is (omega arith) (subst (λ (p : ℕ). StandBetween (StatesAt e.content) p numbers cause.at) here stand)

end_between : (bytes : List ℕ) (at k : ℕ) (numbers : List ℕ) (ending : Option WireCause) → EndsAt bytes at k numbers ending → (at ≤ place_of_end bytes ending) × StandBetween (IsNumberAt bytes at k) at numbers (place_of_end bytes ending)
end_between bytes at k numbers ending (at_end end none is) =
    let whole : (at ≤ length bytes) × StandBetween (IsNumberAt bytes at k) at numbers (length bytes) =
    (omega arith, subst (λ (ns : List ℕ). StandBetween (IsNumberAt bytes at k) at ns (length bytes)) (sym none) (λ place n above below number. omega arith)) in
    subst (λ (e : Option WireCause). (at ≤ place_of_end bytes e) × StandBetween (IsNumberAt bytes at k) at numbers (place_of_end bytes e)) (sym is) whole
end_between bytes at k numbers ending (at_stop cause stop is) =
    subst (λ (e : Option WireCause). (at ≤ place_of_end bytes e) × StandBetween (IsNumberAt bytes at k) at numbers (place_of_end bytes e)) (sym is)
    (stop_after bytes at k numbers cause stop, stop_between bytes at k numbers cause stop)

-- the numbers of a message are those before its end or its first fault
pub numbers_between : (bytes : List ℕ) (from k : ℕ) (numbers : List ℕ) (ending : Option WireCause) → NumbersEnd bytes from k numbers ending → StandBetween (IsNumberAt bytes from k) from numbers (place_of_end bytes ending)
numbers_between bytes from k numbers ending end =
    let w = walked bytes from k numbers ending end in
    let stand = end_between bytes w.at k w.last ending w.end in
    subst (λ (ns : List ℕ). StandBetween (IsNumberAt bytes from k) from ns (place_of_end bytes ending)) (sym w.joined)
    (after_fields bytes from w.at k (place_of_end bytes ending) w.entries w.first w.last w.before stand.0 w.stated stand.1)
