-- The numbers of a message from a field on, by those from the next field on.
use Rattle.std.proofs.Common.{◌≡◌, ℕ, ◌^◌, ◌<◌, List, [], ◌∷◌, ◌++◌, Option, Some, None, length, refl, sym, ◌∙◌, ap, subst, append_assoc}
use Rattle.std.proofs.lemmas.Bool.{eq-eqb, ne_eqb}
use Rattle.std.proofs.lemmas.List.Elements.{All-append, All-nil}
use Rattle.mvt_wire.specs.Field.{Content, Entry, IsField, FieldDefect}
use Rattle.mvt_wire.specs.Number.{States, StateTogether, AreSmall}
use Rattle.mvt_wire.specs.Payload.{contents_of}
use Rattle.mvt_wire.specs.Numbers.{NumberFault, at_defect, in_field, NumbersEnd}
use Rattle.mvt_wire.specs.declared.cause.WireCause.{WireCause}
use Rattle.mvt_wire.proofs.Parts.Contents.{contents_of-own, contents_of-other}

-- what the fields of a number state together, with one more in front
pub together-cons : (k : ℕ) (e : Entry) (es : List Entry) (first rest : List ℕ) → e.number ≡ k → States e.content first → StateTogether (contents_of k es) rest → StateTogether (contents_of k (e ∷ es)) (first ++ rest)
together-cons k e es first rest is states together =
    subst (λ (contents : List Content). StateTogether contents (first ++ rest)) (sym (contents_of-own k e es (eq-eqb e.number k is))) (first, rest, states, together, refl)

pub together-skip : (k : ℕ) (e : Entry) (es : List Entry) (numbers : List ℕ) → (e.number ≡ k → ⊥) → StateTogether (contents_of k es) numbers → StateTogether (contents_of k (e ∷ es)) numbers
together-skip k e es numbers is_not together =
    subst (λ (contents : List Content). StateTogether contents numbers) (sym (contents_of-other k e es (ne_eqb e.number k is_not))) together

-- at the end of a message no numbers are left
pub ends_whole : (bytes : List ℕ) (at k : ℕ) → at ≡ length bytes → NumbersEnd bytes at k [] None
ends_whole bytes at k end = ([], end, refl, All-nil (λ (n : ℕ). n < 2 ^ 32))

-- at a field that isn't whole no numbers are left
pub ends_at_defect : (bytes : List ℕ) (at k : ℕ) (cause : WireCause) → at < length bytes → FieldDefect bytes at cause → NumbersEnd bytes at k [] (Some cause)
ends_at_defect bytes at k cause left defect =
    record { entries = []; at = at; before = refl; first = []; stated = refl; last = []; stop = at_defect left defect refl; joined = refl; small = All-nil (λ (n : ℕ). n < 2 ^ 32) }

-- at a field that has a fault the numbers are those before it
pub ends_in_field : (bytes : List ℕ) (at to k : ℕ) (e : Entry) (numbers : List ℕ) (cause : WireCause) → e.at ≡ at → IsField bytes to e → e.number ≡ k → NumberFault e numbers cause → AreSmall numbers → NumbersEnd bytes at k numbers (Some cause)
ends_in_field bytes at to k e numbers cause here field is fault small =
    record { entries = []; at = at; before = refl; first = []; stated = refl; last = numbers; stop = in_field to e here field is fault; joined = refl; small = small }

-- a field of another number in front changes nothing
pub ends-skip : (bytes : List ℕ) (at to k : ℕ) (e : Entry) (numbers : List ℕ) (ending : Option WireCause) → e.at ≡ at → IsField bytes to e → (e.number ≡ k → ⊥) → NumbersEnd bytes to k numbers ending → NumbersEnd bytes at k numbers ending
ends-skip bytes at to k e numbers None here field is_not end =
    (e ∷ end.0, (here, (to, field, end.1)), together-skip k e end.0 numbers is_not end.2, end.3)
ends-skip bytes at to k e numbers (Some cause) here field is_not end = record {
  entries = e ∷ end.entries;
  at = end.at;
  before = (here, (to, field, end.before));
  first = end.first;
  stated = together-skip k e end.entries end.first is_not end.stated;
  last = end.last;
  stop = end.stop;
  joined = end.joined;
  small = end.small;
}

-- a field of the number in front adds its own
pub ends-cons : (bytes : List ℕ) (at to k : ℕ) (e : Entry) (first rest : List ℕ) (ending : Option WireCause) → e.at ≡ at → IsField bytes to e → e.number ≡ k → States e.content first → AreSmall first → NumbersEnd bytes to k rest ending → NumbersEnd bytes at k (first ++ rest) ending
ends-cons bytes at to k e first rest None here field is states small end =
    (e ∷ end.0, (here, (to, field, end.1)), together-cons k e end.0 first rest is states end.2, All-append (λ (n : ℕ). n < 2 ^ 32) first rest small end.3)
ends-cons bytes at to k e first rest (Some cause) here field is states small end = record {
  entries = e ∷ end.entries;
  at = end.at;
  before = (here, (to, field, end.before));
  first = first ++ end.first;
  stated = together-cons k e end.entries first end.first is states end.stated;
  last = end.last;
  stop = end.stop;
  joined = ap (λ (ns : List ℕ). first ++ ns) end.joined ∙ sym (append_assoc first end.first end.last);
  small = All-append (λ (n : ℕ). n < 2 ^ 32) first rest small end.small;
}
