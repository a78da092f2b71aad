-- Messages: a field list goes on by a field, and a message has one field list, or one defect.
use Rattle.std.proofs.Common.{◌≡◌, ℕ, suc, zero, ◌+◌, ◌<◌, ◌≤◌, ◌⊎◌, inl, inr, List, [], ◌∷◌, ◌++◌, length, refl, ◌++◌, sym, ◌∙◌, subst, arith}
use Rattle.std.proofs.lemmas.Bool.{cases_lt}
use Rattle.mvt_wire.specs.Field.{Entry, IsField, FieldDefect}
use Rattle.mvt_wire.specs.Message.{FieldList, IsMessage, HasDefect}
use Rattle.mvt_wire.specs.declared.cause.WireCause.{WireCause}
use Rattle.mvt_wire.proofs.Encoding.Entries.{one_field, no_field_at_end, field_extent}
use Rattle.mvt_wire.proofs.Encoding.Defects.{field_or_defect, one_field_defect, field_begins}

-- one more field after a list of fields
pub FieldList-push : (bytes : List ℕ) (from : ℕ) (entries : List Entry) (at next : ℕ) (entry : Entry) → FieldList bytes from entries at → entry.at ≡ at → IsField bytes next entry → FieldList bytes from (entries ++ entry ∷ []) next
FieldList-push bytes from [] at next entry h here field = (here ∙ sym h, (next, field, refl))
FieldList-push bytes from (first ∷ entries) at next entry h here field =
    (h.0, (h.1.0, h.1.1, FieldList-push bytes h.1.0 entries at next entry h.1.2 here field))

-- a message has at most one field list
pub one_list : (bytes : List ℕ) (from : ℕ) (es fs : List Entry) → IsMessage bytes from es → IsMessage bytes from fs → es ≡ fs
one_list bytes from [] [] h k = refl
one_list bytes from [] (f ∷ fs) h k = absurd (no_field_at_end bytes from k.1.0 f h k.0 k.1.1)
one_list bytes from (e ∷ es) [] h k = absurd (no_field_at_end bytes from h.1.0 e k h.0 h.1.1)
one_list bytes from (e ∷ es) (f ∷ fs) h k =
    let same = one_field bytes h.1.0 k.1.0 e f (h.0 ∙ sym k.0) h.1.1 k.1.1 in
    let rest : IsMessage bytes h.1.0 fs = subst (λ (next : ℕ). IsMessage bytes next fs) (sym same.0) k.1.2 in
    let tail : es ≡ fs = one_list bytes h.1.0 es fs h.1.2 rest in
    cc

-- a whole message has no defect at any place
whole_or_defect_at : (bytes : List ℕ) (from at : ℕ) (es fs : List Entry) (cause : WireCause) → IsMessage bytes from es → FieldList bytes from fs at → at < length bytes → FieldDefect bytes at cause → ⊥
whole_or_defect_at bytes from at [] [] cause h k left defect = omega arith
whole_or_defect_at bytes from at [] (f ∷ fs) cause h k left defect = no_field_at_end bytes from k.1.0 f h k.0 k.1.1
whole_or_defect_at bytes from at (e ∷ es) [] cause h k left defect =
    field_or_defect bytes h.1.0 e cause h.1.1 (subst (λ (place : ℕ). FieldDefect bytes place cause) (sym (h.0 ∙ k)) defect)
whole_or_defect_at bytes from at (e ∷ es) (f ∷ fs) cause h k left defect =
    let same = one_field bytes h.1.0 k.1.0 e f (h.0 ∙ sym k.0) h.1.1 k.1.1 in
    let rest : FieldList bytes h.1.0 fs at = subst (λ (next : ℕ). FieldList bytes next fs at) (sym same.0) k.1.2 in
    whole_or_defect_at bytes h.1.0 at es fs cause h.1.2 rest left defect

-- the fields up to the end are the longest list of fields
pub longest_whole : (bytes : List ℕ) (from to : ℕ) (es fs : List Entry) → IsMessage bytes from es → FieldList bytes from fs to → (rest : List Entry) × (es ≡ fs ++ rest)
longest_whole bytes from to es [] h k = (es, refl)
longest_whole bytes from to [] (f ∷ fs) h k = absurd (no_field_at_end bytes from k.1.0 f h k.0 k.1.1)
longest_whole bytes from to (e ∷ es) (f ∷ fs) h k =
    let same = one_field bytes h.1.0 k.1.0 e f (h.0 ∙ sym k.0) h.1.1 k.1.1 in
    let next : FieldList bytes h.1.0 fs to = subst (λ (next : ℕ). FieldList bytes next fs to) (sym same.0) k.1.2 in
    let tail = longest_whole bytes h.1.0 to es fs h.1.2 next in
    (tail.0, let head : e ≡ f = same.1 in let rest : es ≡ fs ++ tail.0 = tail.1 in cc)

-- and so are the fields before a defect at a place
longest_before_at : (bytes : List ℕ) (from at to : ℕ) (es fs : List Entry) (cause : WireCause) → FieldList bytes from es at → FieldDefect bytes at cause → FieldList bytes from fs to → (rest : List Entry) × (es ≡ fs ++ rest)
longest_before_at bytes from at to es [] cause h defect k = (es, refl)
longest_before_at bytes from at to [] (f ∷ fs) cause h defect k =
    absurd (field_or_defect bytes k.1.0 f cause k.1.1 (subst (λ (p : ℕ). FieldDefect bytes p cause) (sym h ∙ sym k.0) defect))
longest_before_at bytes from at to (e ∷ es) (f ∷ fs) cause h defect k =
    let same = one_field bytes h.1.0 k.1.0 e f (h.0 ∙ sym k.0) h.1.1 k.1.1 in
    let next : FieldList bytes h.1.0 fs to = subst (λ (next : ℕ). FieldList bytes next fs to) (sym same.0) k.1.2 in
    let tail = longest_before_at bytes h.1.0 at to es fs cause h.1.2 defect next in
    (tail.0, let head : e ≡ f = same.1 in let rest : es ≡ fs ++ tail.0 = tail.1 in cc)

-- a message has at most one defect at any place
one_defect_at : (bytes : List ℕ) (from at place : ℕ) (es fs : List Entry) (c d : WireCause) → FieldList bytes from es at → FieldDefect bytes at c → FieldList bytes from fs place → FieldDefect bytes place d → c ≡ d
one_defect_at bytes from at place [] [] c d h x k y =
    one_field_defect bytes at c d x (subst (λ (p : ℕ). FieldDefect bytes p d) (sym k ∙ h) y)
one_defect_at bytes from at place [] (f ∷ fs) c d h x k y =
    absurd (field_or_defect bytes k.1.0 f c k.1.1 (subst (λ (p : ℕ). FieldDefect bytes p c) (sym h ∙ sym k.0) x))
one_defect_at bytes from at place (e ∷ es) [] c d h x k y =
    absurd (field_or_defect bytes h.1.0 e d h.1.1 (subst (λ (p : ℕ). FieldDefect bytes p d) (sym k ∙ sym h.0) y))
one_defect_at bytes from at place (e ∷ es) (f ∷ fs) c d h x k y =
    let same = one_field bytes h.1.0 k.1.0 e f (h.0 ∙ sym k.0) h.1.1 k.1.1 in
    let rest : FieldList bytes h.1.0 fs place = subst (λ (next : ℕ). FieldList bytes next fs place) (sym same.0) k.1.2 in
    one_defect_at bytes h.1.0 at place es fs c d h.1.2 x rest y

-- the bytes from a place on are a whole message, or have a defect
message_begins : (fuel : ℕ) (bytes : List ℕ) (from : ℕ) → from ≤ length bytes → length bytes ≤ from + fuel → ((es : List Entry) × IsMessage bytes from es) ⊎ ((cause : WireCause) × HasDefect bytes from cause)
message_begins zero bytes from within left = inl ([], omega arith)
message_begins (suc fuel) bytes from within left = elim (cases_lt from (length bytes)) [
  | inr none ↦ inl ([], omega arith)
  | inl more ↦ elim (field_begins bytes from within) [
    | inr bad ↦ inr (bad.0, record { entries = []; at = from; before = refl; left = more; defect = bad.1 })
    | inl found ↦
        let extent = field_extent bytes found.0 found.1 found.3 in
        let here : found.1.at ≡ from = found.2 in
        elim (message_begins fuel bytes found.0 extent.1 (omega arith)) [
          | inl rest ↦ inl (found.1 ∷ rest.0, (here, (found.0, found.3, rest.1)))
          | inr bad ↦ inr (bad.0, record { entries = found.1 ∷ bad.1.entries; at = bad.1.at; before = (here, (found.0, found.3, bad.1.before)); left = bad.1.left; defect = bad.1.defect })
        ]
  ]
]

pub message_or_defect : (bytes : List ℕ) (from : ℕ) → from ≤ length bytes → ((es : List Entry) × IsMessage bytes from es) ⊎ ((cause : WireCause) × HasDefect bytes from cause)
message_or_defect bytes from within = message_begins (length bytes) bytes from within (omega arith)

-- a whole message has no defect
pub whole_or_defect : (bytes : List ℕ) (from : ℕ) (es : List Entry) (cause : WireCause) → IsMessage bytes from es → HasDefect bytes from cause → ⊥
whole_or_defect bytes from es cause whole d = whole_or_defect_at bytes from d.at es d.entries cause whole d.before d.left d.defect

-- a message has at most one defect
pub one_defect : (bytes : List ℕ) (from : ℕ) (c d : WireCause) → HasDefect bytes from c → HasDefect bytes from d → c ≡ d
one_defect bytes from c d a b = one_defect_at bytes from a.at b.at a.entries b.entries c d a.before a.defect b.before b.defect

-- the fields before a defect are the longest list of fields
pub longest_before_defect : (bytes : List ℕ) (from to : ℕ) (cause : WireCause) (fs : List Entry) (d : HasDefect bytes from cause) → FieldList bytes from fs to → (rest : List Entry) × (d.entries ≡ fs ++ rest)
longest_before_defect bytes from to cause fs d list = longest_before_at bytes from d.at to d.entries fs cause d.before d.defect list
