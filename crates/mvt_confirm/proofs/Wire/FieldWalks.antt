-- A walk over the fields of a message: what it finds of those that are left is what the whole message has.
use Rattle.std.proofs.Common.{◌≡◌, ◌↔◌, ℕ, ◌<◌, false, List, [], ◌∷◌, length, IsTrue, refl, sym, ◌∙◌, ap, subst, arith}
use Rattle.std.proofs.lemmas.Bool.{false≢true}
use Rattle.mvt_wire.specs.Field.{Entry, IsField}
use Rattle.mvt_wire.specs.Message.{IsMessage}
use Rattle.mvt_wire.specs.Walk.{Walk, IsOver, GivesField, FindsDefect}
use Rattle.mvt_wire.specs.declared.cause.WireCause.{WireCause}
use Rattle.mvt_wire.proofs.Encoding.Entries.{one_field}
use Rattle.mvt_wire.proofs.Encoding.Messages.{one_list, whole_or_defect}
use Rattle.mvt_confirm.specs.Calls.Walking.{HoldsFields}

-- the fields that a walk has left end with the message, and have a property
abbrev pub HasLeft : Walk → (List Entry → Type 0) → Type 0
HasLeft walk Have = HoldsFields walk.bytes walk.at Have

-- two properties of lists of fields are one
abbrev pub Agree : (List Entry → Type 0) → (List Entry → Type 0) → Type 0
Agree Have Other = (entries : List Entry) → Have entries ↔ Other entries

-- of one message, two properties that are one
same_fields : (bytes : List ℕ) (from : ℕ) (Have Other : List Entry → Type 0) → Agree Have Other → HoldsFields bytes from Have ↔ HoldsFields bytes from Other
same_fields bytes from Have Other agree = (
  λ held. record { entries = held.entries; whole = held.whole; have = (agree held.entries).0 held.have },
  λ held. record { entries = held.entries; whole = held.whole; have = (agree held.entries).1 held.have },
)

-- at its beginning a walk has all the fields left
pub all_left : (walk : Walk) (bytes : List ℕ) (from : ℕ) (Have Other : List Entry → Type 0) → walk ≡ record { bytes = bytes; at = from } → Agree Have Other
    → HasLeft walk Have ↔ HoldsFields bytes from Other
all_left walk bytes from Have Other begins agree =
    subst (λ (w : Walk). HasLeft w Have ↔ HoldsFields bytes from Other) (sym begins) (same_fields bytes from Have Other agree)

-- a message begins with the field that stands at its beginning
splits : (bytes : List ℕ) (entries : List Entry) (from next : ℕ) (entry : Entry) → from < length bytes → entry.at ≡ from → IsField bytes next entry → IsMessage bytes from entries
    → (rest : List Entry) × (entries ≡ entry ∷ rest) × IsMessage bytes next rest
splits bytes [] from next entry left here field whole = absurd (omega arith)
splits bytes (first ∷ rest) from next entry left here field whole =
    let same = one_field bytes whole.1.0 next first entry (whole.0 ∙ sym here) whole.1.1 field in
    (rest, ap (λ (e : Entry). e ∷ rest) same.1, subst (λ (to : ℕ). IsMessage bytes to rest) same.0 whole.1.2)

module _ (old new : Walk) (entry : Entry) (given : GivesField old new entry) (Here : List Entry → Type 0) where
  -- the fields after the one that is given
  following : (held : HasLeft old Here) → (rest : List Entry) × (held.entries ≡ entry ∷ rest) × IsMessage new.bytes new.at rest
  following held =
      let split = splits old.bytes held.entries old.at new.at entry given.left given.here given.encoded held.whole in
      (split.0, split.1, subst (λ (bytes : List ℕ). IsMessage bytes new.at split.0) (sym given.same_bytes) split.2)

  -- a field that is given goes before those that are left then
  pub passed : (Next : List Entry → Type 0) → ((rest : List Entry) → Next rest ↔ Here (entry ∷ rest)) → HasLeft new Next ↔ HasLeft old Here
  passed Next agree = (
    λ held. record {
      entries = entry ∷ held.entries;
      whole = (given.here, (new.at, given.encoded, subst (λ (bytes : List ℕ). IsMessage bytes new.at held.entries) given.same_bytes held.whole));
      have = (agree held.entries).0 held.have;
    },
    λ held.
        let split = following held in
        record { entries = split.0; whole = split.2; have = (agree split.0).1 (subst Here split.1 held.have) },
  )

  -- where no list that begins with it has the property, those that are left haven't
  pub refused : ((rest : List Entry) → ¬ Here (entry ∷ rest)) → ¬ HasLeft old Here
  refused none held = let split = following held in none split.0 (subst Here split.1 held.have)

-- no whole message has a field with a defect
pub defective : (old new : Walk) (cause : WireCause) (Here : List Entry → Type 0) → FindsDefect old new cause → ¬ HasLeft old Here
defective old new cause Here found held =
    whole_or_defect old.bytes old.at held.entries cause held.whole (record { entries = []; at = old.at; before = refl; left = found.left; defect = found.defect })

-- at the end no fields are left
pub none_left : (old new : Walk) (Here : List Entry → Type 0) → IsOver old new → HasLeft old Here ↔ Here []
none_left old new Here over = (
  λ held. subst Here (one_list old.bytes old.at held.entries [] held.whole over.at_end) held.have,
  λ have. record { entries = []; whole = over.at_end; have = have },
)

-- where what is left has not what is asked, the whole has not
pub answered_no : {Left Whole : Type 0} → Left ↔ Whole → ¬ Left → IsTrue false ↔ Whole
answered_no same none = (λ is. absurd (false≢true is), λ whole. absurd (none (same.1 whole)))

-- facts that are one with a third are one
pub one_with : {First Second Third : Type 0} → First ↔ Second → Second ↔ Third → First ↔ Third
one_with first second = (λ a. second.0 (first.0 a), λ c. first.1 (second.1 c))

-- two facts are one in either order
pub other_way : {First Second : Type 0} → First ↔ Second → Second ↔ First
other_way same = (same.1, same.0)
