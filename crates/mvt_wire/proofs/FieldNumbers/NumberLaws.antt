-- The numbers of a message end in one way, and at the fault of least place.
use Rattle.std.proofs.Common.{◌≡◌, ℕ, ◌^◌, ◌<◌, ◌≤◌, ◌⊎◌, inl, inr, List, [], ◌∷◌, ◌++◌, Option, Some, None, length, refl, sym, ◌∙◌, ap, subst, arith, append-nil, append_assoc}
use Rattle.std.proofs.lemmas.Bool.{cases_eq, eq-eqb, ne_eqb}
use Rattle.std.proofs.lemmas.List.Elements.{All-nil}
use Rattle.mvt_wire.specs.Field.{Content, Entry, IsField, FieldDefect}
use Rattle.mvt_wire.specs.Message.{FieldList}
use Rattle.mvt_wire.specs.Number.{States, StateTogether, AreSmall}
use Rattle.mvt_wire.specs.Payload.{contents_of}
use Rattle.mvt_wire.specs.Numbers.{StopsAt, at_defect, in_field, NumbersEnd}
use Rattle.mvt_wire.specs.declared.cause.WireCause.{WireCause}
use Rattle.mvt_wire.proofs.Encoding.Entries.{one_field, no_field_at_end}
use Rattle.mvt_wire.proofs.Encoding.Defects.{field_or_defect, one_field_defect}
use Rattle.mvt_wire.proofs.Encoding.Messages.{message_or_defect}
use Rattle.mvt_wire.proofs.Parts.Contents.{contents_of-own, contents_of-other, one_stated}
use Rattle.mvt_wire.proofs.Encoding.VarintLists.{All-front, All-back}
use Rattle.mvt_wire.proofs.FieldNumbers.NumberEnds.{ends_whole, ends_at_defect, ends_in_field, ends-skip, ends-cons}
use Rattle.mvt_wire.proofs.FieldNumbers.NumberFaults.{FaultOf, fault_of, one_fault_of, states_or_fault, states_or_faulty}

-- The end of the numbers at a place where a field is due: it is the message's end, or a fault.
pub data EndsAt (bytes : List ℕ) (at field_number : ℕ) (numbers : List ℕ) (ending : Option WireCause) : Type 0 where
  at_end : at ≡ length bytes → numbers ≡ [] → ending ≡ None → EndsAt bytes at field_number numbers ending
  at_stop : (cause : WireCause) → StopsAt bytes at field_number numbers cause → ending ≡ Some cause → EndsAt bytes at field_number numbers ending

-- the numbers of whole fields, and after them the end
pub record Walked (bytes : List ℕ) (from field_number : ℕ) (numbers : List ℕ) (ending : Option WireCause) : Type 0 where
  pub entries : List Entry
  pub at : ℕ
  pub before : FieldList bytes from entries at
  pub first : List ℕ
  pub stated : StateTogether (contents_of field_number entries) first
  pub first_small : AreSmall first
  pub last : List ℕ
  pub end : EndsAt bytes at field_number last ending
  pub last_small : AreSmall last
  pub joined : numbers ≡ first ++ last

pub walked : (bytes : List ℕ) (from k : ℕ) (numbers : List ℕ) (ending : Option WireCause) → NumbersEnd bytes from k numbers ending → Walked bytes from k numbers ending
walked bytes from k numbers None end = record {
  entries = end.0;
  at = length bytes;
  before = end.1;
  first = numbers;
  stated = end.2;
  first_small = end.3;
  last = [];
  end = at_end refl refl refl;
  last_small = All-nil (λ (n : ℕ). n < 2 ^ 32);
  joined = sym (append-nil numbers);
}
walked bytes from k numbers (Some cause) end =
    let small : AreSmall (end.first ++ end.last) = subst AreSmall end.joined end.small in
    record {
      entries = end.entries;
      at = end.at;
      before = end.before;
      first = end.first;
      stated = end.stated;
      first_small = All-front (λ (n : ℕ). n < 2 ^ 32) end.first end.last small;
      last = end.last;
      end = at_stop cause end.stop refl;
      last_small = All-back (λ (n : ℕ). n < 2 ^ 32) end.first end.last small;
      joined = end.joined;
    }

-- what the fields of a number state together, without the first field
abbrev pub StatedAfter : ℕ → Entry → List Entry → List ℕ → Type 0
StatedAfter k e es numbers =
    ((e.number ≡ k) × ((first rest : List ℕ) × States e.content first × StateTogether (contents_of k es) rest × (numbers ≡ first ++ rest)))
    ⊎ ((e.number ≡ k → ⊥) × StateTogether (contents_of k es) numbers)

pub stated_after : (k : ℕ) (e : Entry) (es : List Entry) (numbers : List ℕ) → StateTogether (contents_of k (e ∷ es)) numbers → StatedAfter k e es numbers
stated_after k e es numbers stated = elim (cases_eq e.number k) [
  | inl own ↦ inl (own, subst (λ (contents : List Content). StateTogether contents numbers) (contents_of-own k e es (eq-eqb e.number k own)) stated)
  | inr other ↦ inr (other, subst (λ (contents : List Content). StateTogether contents numbers) (contents_of-other k e es (ne_eqb e.number k other)) stated)
]

-- where a field states its numbers, it has no fault that ends them
pub field_or_stop : (bytes : List ℕ) (at to k : ℕ) (e : Entry) (es : List Entry) (numbers last : List ℕ) (cause : WireCause) → e.at ≡ at → IsField bytes to e → StateTogether (contents_of k (e ∷ es)) numbers → AreSmall numbers → StopsAt bytes at k last cause → ⊥
field_or_stop bytes at to k e es numbers last cause here field stated small (at_defect left defect none) =
    field_or_defect bytes to e cause field (subst (λ (place : ℕ). FieldDefect bytes place cause) (sym here) defect)
field_or_stop bytes at to k e es numbers last cause here field stated small (in_field end f there other is fault) =
    let same : e ≡ f = (one_field bytes to end e f (here ∙ sym there) field other).1 in
    let own : e.number ≡ k = ap (λ (x : Entry). x.number) same ∙ is in
    let faulty : FaultOf e.at e.number e.content last cause = subst (λ (x : Entry). FaultOf x.at x.number x.content last cause) (sym same) (fault_of f last cause fault) in
    elim (stated_after k e es numbers stated) [
      | inl first ↦ states_or_fault e.at e.number e.content first.1.0 last cause first.1.2 (All-front (λ (n : ℕ). n < 2 ^ 32) first.1.0 first.1.1 (subst AreSmall first.1.4 small)) faulty
      | inr skipped ↦ absurd (skipped.0 own)
    ]

-- and the numbers don't end there
field_or_end : (bytes : List ℕ) (at to k : ℕ) (e : Entry) (es : List Entry) (numbers last : List ℕ) (ending : Option WireCause) → e.at ≡ at → IsField bytes to e → StateTogether (contents_of k (e ∷ es)) numbers → AreSmall numbers → EndsAt bytes at k last ending → ⊥
field_or_end bytes at to k e es numbers last ending here field stated small (at_end end none is) = no_field_at_end bytes at to e end here field
field_or_end bytes at to k e es numbers last ending here field stated small (at_stop cause stop is) = field_or_stop bytes at to k e es numbers last cause here field stated small stop

-- after small numbers a place has one fault at most that ends them
one_stop : (bytes : List ℕ) (at k : ℕ) (ms ns : List ℕ) (c d : WireCause) → StopsAt bytes at k ms c → StopsAt bytes at k ns d → AreSmall ms → AreSmall ns → (ms ≡ ns) × (c ≡ d)
one_stop bytes at k ms ns c d (at_defect left x none) (at_defect also y neither) small below = (none ∙ sym neither, one_field_defect bytes at c d x y)
one_stop bytes at k ms ns c d (at_defect left x none) (in_field to e here field is fault) small below =
    absurd (field_or_defect bytes to e c field (subst (λ (place : ℕ). FieldDefect bytes place c) (sym here) x))
one_stop bytes at k ms ns c d (in_field to e here field is fault) (at_defect left y none) small below =
    absurd (field_or_defect bytes to e d field (subst (λ (place : ℕ). FieldDefect bytes place d) (sym here) y))
one_stop bytes at k ms ns c d (in_field to e here field is fault) (in_field end f there other also second) small below =
    let same : e ≡ f = (one_field bytes to end e f (here ∙ sym there) field other).1 in
    one_fault_of e.at e.number e.content ms ns c d (fault_of e ms c fault) (subst (λ (x : Entry). FaultOf x.at x.number x.content ns d) (sym same) (fault_of f ns d second)) small below

-- there is no such fault at the end
pub end_or_stop : (bytes : List ℕ) (at k : ℕ) (numbers : List ℕ) (cause : WireCause) → at ≡ length bytes → StopsAt bytes at k numbers cause → ⊥
end_or_stop bytes at k numbers cause end (at_defect left defect none) = omega arith
end_or_stop bytes at k numbers cause end (in_field to e here field is fault) = no_field_at_end bytes at to e end here field

-- so the numbers end in one way at a place
one_end_at : (bytes : List ℕ) (at k : ℕ) (ms ns : List ℕ) (c d : Option WireCause) → EndsAt bytes at k ms c → EndsAt bytes at k ns d → AreSmall ms → AreSmall ns → (ms ≡ ns) × (c ≡ d)
one_end_at bytes at k ms ns c d (at_end end none is) (at_end also neither other) small below = (none ∙ sym neither, is ∙ sym other)
one_end_at bytes at k ms ns c d (at_end end none is) (at_stop cause stop other) small below = absurd (end_or_stop bytes at k ns cause end stop)
one_end_at bytes at k ms ns c d (at_stop cause stop is) (at_end end none other) small below = absurd (end_or_stop bytes at k ms cause end stop)
one_end_at bytes at k ms ns c d (at_stop cause stop is) (at_stop second also other) small below =
    let same = one_stop bytes at k ms ns cause second stop also small below in
    (same.0, is ∙ ap (λ (x : WireCause). Some x) same.1 ∙ sym other)

-- and in one way after whole fields
abbrev pub SameEnd : List ℕ → List ℕ → Option WireCause → Option WireCause → Type 0
SameEnd ms ns c d = (ms ≡ ns) × (c ≡ d)

-- a field in front adds the same numbers to both
same_after_field : (k : ℕ) (e : Entry) (es fs : List Entry) (ms ns : List ℕ) (last other : List ℕ) (c d : Option WireCause)
    → ((xs ys : List ℕ) → StateTogether (contents_of k es) xs → StateTogether (contents_of k fs) ys → AreSmall xs → AreSmall ys → SameEnd (xs ++ last) (ys ++ other) c d)
    → AreSmall ms → AreSmall ns → StatedAfter k e es ms → StatedAfter k e fs ns → SameEnd (ms ++ last) (ns ++ other) c d
same_after_field k e es fs ms ns last other c d rest small below (inl a) (inl b) =
    let P : ℕ → Type 0 = λ n. n < 2 ^ 32 in
    let first : a.1.0 ≡ b.1.0 = one_stated e.content a.1.0 b.1.0 a.1.2 b.1.2 in
    let same = rest a.1.1 b.1.1 a.1.3 b.1.3 (All-back P a.1.0 a.1.1 (subst AreSmall a.1.4 small)) (All-back P b.1.0 b.1.1 (subst AreSmall b.1.4 below)) in (
      ap (λ (xs : List ℕ). xs ++ last) a.1.4 ∙ append_assoc a.1.0 a.1.1 last ∙ ap (λ (xs : List ℕ). xs ++ (a.1.1 ++ last)) first ∙ ap (λ (xs : List ℕ). b.1.0 ++ xs) same.0
          ∙ sym (append_assoc b.1.0 b.1.1 other) ∙ ap (λ (xs : List ℕ). xs ++ other) (sym b.1.4),
      same.1,
    )
same_after_field k e es fs ms ns last other c d rest small below (inl a) (inr b) = absurd (b.0 a.0)
same_after_field k e es fs ms ns last other c d rest small below (inr a) (inl b) = absurd (a.0 b.0)
same_after_field k e es fs ms ns last other c d rest small below (inr a) (inr b) = rest ms ns a.1 b.1 small below

one_end_after : (bytes : List ℕ) (from at place k : ℕ) (es fs : List Entry) (ms ns last other : List ℕ) (c d : Option WireCause)
    → FieldList bytes from es at → FieldList bytes from fs place → EndsAt bytes at k last c → EndsAt bytes place k other d → AreSmall last → AreSmall other
    → StateTogether (contents_of k es) ms → StateTogether (contents_of k fs) ns → AreSmall ms → AreSmall ns → SameEnd (ms ++ last) (ns ++ other) c d
one_end_after bytes from at place k [] [] ms ns last other c d h j x y small below stated also first second =
    let same = one_end_at bytes place k last other c d (subst (λ (p : ℕ). EndsAt bytes p k last c) (sym h ∙ j) x) y small below in
    (ap (λ (xs : List ℕ). xs ++ last) (stated ∙ sym also) ∙ ap (λ (xs : List ℕ). ns ++ xs) same.0, same.1)
one_end_after bytes from at place k [] (f ∷ fs) ms ns last other c d h j x y small below stated also first second =
    absurd (field_or_end bytes from j.1.0 k f fs ns last c j.0 j.1.1 also second (subst (λ (p : ℕ). EndsAt bytes p k last c) (sym h) x))
one_end_after bytes from at place k (e ∷ es) [] ms ns last other c d h j x y small below stated also first second =
    absurd (field_or_end bytes from h.1.0 k e es ms other d h.0 h.1.1 stated first (subst (λ (p : ℕ). EndsAt bytes p k other d) (sym j) y))
one_end_after bytes from at place k (e ∷ es) (f ∷ fs) ms ns last other c d h j x y small below stated also first second =
    let same = one_field bytes h.1.0 j.1.0 e f (h.0 ∙ sym j.0) h.1.1 j.1.1 in
    let next : FieldList bytes h.1.0 fs place = subst (λ (p : ℕ). FieldList bytes p fs place) (sym same.0) j.1.2 in
    let moved : StateTogether (contents_of k (e ∷ fs)) ns = subst (λ (x : Entry). StateTogether (contents_of k (x ∷ fs)) ns) (sym same.1) also in
    same_after_field k e es fs ms ns last other c d
    (λ xs ys stated also first second. one_end_after bytes h.1.0 at place k es fs xs ys last other c d h.1.2 next x y small below stated also first second)
    first second (stated_after k e es ms stated) (stated_after k e fs ns moved)

-- the numbers of a message end in one way
pub one_numbers_end : (bytes : List ℕ) (from k : ℕ) (ms ns : List ℕ) (c d : Option WireCause) → NumbersEnd bytes from k ms c → NumbersEnd bytes from k ns d → (ms ≡ ns) × (c ≡ d)
one_numbers_end bytes from k ms ns c d first second =
    let a = walked bytes from k ms c first in
    let b = walked bytes from k ns d second in
    let same = one_end_after bytes from a.at b.at k a.entries b.entries a.first b.first a.last b.last c d a.before b.before a.end b.end a.last_small b.last_small a.stated b.stated a.first_small b.first_small in
    (a.joined ∙ same.0 ∙ sym b.joined, same.1)

-- the numbers of a message from a place on
abbrev pub SomeEnd : List ℕ → ℕ → ℕ → Type 0
SomeEnd bytes from k = (numbers : List ℕ) × (ending : Option WireCause) × NumbersEnd bytes from k numbers ending

-- a field in front
end_after_field : (bytes : List ℕ) (at to k : ℕ) (e : Entry) → e.at ≡ at → IsField bytes to e → SomeEnd bytes to k → SomeEnd bytes at k
end_after_field bytes at to k e here field end = elim (cases_eq e.number k) [
  | inr other ↦ (end.0, end.1, ends-skip bytes at to k e end.0 end.1 here field other end.2)
  | inl own ↦ elim (states_or_faulty e) [
    | inl states ↦ (states.0 ++ end.0, end.1, ends-cons bytes at to k e states.0 end.0 end.1 here field own states.1 states.2 end.2)
    | inr faulty ↦ (faulty.0, Some faulty.1, ends_in_field bytes at to k e faulty.0 faulty.1 here field own faulty.2 faulty.3)
  ]
]

end_after_fields : (bytes : List ℕ) (from at k : ℕ) (es : List Entry) → FieldList bytes from es at → SomeEnd bytes at k → SomeEnd bytes from k
end_after_fields bytes from at k [] list end = subst (λ (place : ℕ). SomeEnd bytes place k) (sym list) end
end_after_fields bytes from at k (e ∷ es) list end = end_after_field bytes from list.1.0 k e list.0 list.1.1 (end_after_fields bytes list.1.0 at k es list.1.2 end)

-- the numbers of a message end
pub numbers_end : (bytes : List ℕ) (from k : ℕ) → from ≤ length bytes → SomeEnd bytes from k
numbers_end bytes from k within = elim (message_or_defect bytes from within) [
  | inl whole ↦ end_after_fields bytes from (length bytes) k whole.0 whole.1 ([], None, ends_whole bytes (length bytes) k refl)
  | inr bad ↦ end_after_fields bytes from bad.1.at k bad.1.entries bad.1.before ([], Some bad.0, ends_at_defect bytes bad.1.at k bad.0 bad.1.left bad.1.defect)
]
