-- A walk over the fields of a message.
use Rattle.std.proofs.Common.{◌≡◌, ℕ, ◌<◌, List, [], ◌∷◌, ◌++◌, All, length, take, refl, sym, ◌∙◌, ap, subst, arith}
use Rattle.std.proofs.Math.Seq.{take-length}
use Rattle.std.proofs.lemmas.List.Elements.{All-head, All-tail}
use Rattle.mvt_wire.specs.Field.{Entry, IsField, FieldDefect}
use Rattle.mvt_wire.specs.Message.{FieldList, IsMessage, HasDefect}
use Rattle.mvt_wire.specs.Walk.{Walk, IsOver, GivesField, FindsDefect}
use Rattle.mvt_wire.specs.declared.cause.WireCause.{WireCause}
use Rattle.mvt_wire.proofs.Encoding.Messages.{FieldList-push, longest_whole, one_list, whole_or_defect}

-- the walk over a message has passed these fields
pub record IsWalking (bytes : List ℕ) (from : ℕ) (walk : Walk) (entries : List Entry) : Type 0 where
  pub same_bytes : walk.bytes ≡ bytes
  pub passed : FieldList bytes from entries walk.at

-- one more field was given
pub IsWalking-more : (bytes : List ℕ) (from : ℕ) (old new : Walk) (entries : List Entry) (entry : Entry) → IsWalking bytes from old entries → GivesField old new entry
    → IsWalking bytes from new (entries ++ entry ∷ [])
IsWalking-more bytes from old new entries entry so_far given = record {
  same_bytes = given.same_bytes ∙ so_far.same_bytes;
  passed = FieldList-push bytes from entries old.at new.at entry so_far.passed given.here
      (subst (λ (list : List ℕ). IsField list new.at entry) so_far.same_bytes given.encoded);
}

-- a defect at the place of the walk is one of the message
pub IsWalking-defect : (bytes : List ℕ) (from : ℕ) (old new : Walk) (entries : List Entry) (cause : WireCause) → IsWalking bytes from old entries → FindsDefect old new cause → HasDefect bytes from cause
IsWalking-defect bytes from old new entries cause so_far found = record {
  entries = entries;
  at = old.at;
  before = so_far.passed;
  left = subst (λ (list : List ℕ). old.at < length list) so_far.same_bytes found.left;
  defect = subst (λ (list : List ℕ). FieldDefect list old.at cause) so_far.same_bytes found.defect;
}

-- the walk is over, and has passed the whole message
pub IsWalking-whole : (bytes : List ℕ) (from : ℕ) (old new : Walk) (entries : List Entry) → IsWalking bytes from old entries → IsOver old new → IsMessage bytes from entries
IsWalking-whole bytes from old new entries so_far over =
    subst (λ (to : ℕ). FieldList bytes from entries to) (over.at_end ∙ ap length so_far.same_bytes) so_far.passed

-- a walk begins with no field passed
pub IsWalking-none : {message : List ℕ} {from : ℕ} {walk : Walk} → walk ≡ record { bytes = message; at = from } → IsWalking message from walk []
IsWalking-none begins = record { same_bytes = ap (λ (w : Walk). w.bytes) begins; passed = sym (ap (λ (w : Walk). w.at) begins) }

module _ {message : List ℕ} {from : ℕ} {old : Walk} {entries : List Entry} (whole : List Entry) (so_far : IsWalking message from old entries) (is_whole : IsMessage message from whole) where
  -- a whole message has no defect at the place of the walk
  pub IsWalking-defectless : (cause : WireCause) → old.at < length old.bytes → FieldDefect old.bytes old.at cause → ⊥
  IsWalking-defectless cause left defect =
      whole_or_defect message from whole cause is_whole (record {
        entries = entries;
        at = old.at;
        before = so_far.passed;
        left = subst (λ (bytes : List ℕ). old.at < length bytes) so_far.same_bytes left;
        defect = subst (λ (bytes : List ℕ). FieldDefect bytes old.at cause) so_far.same_bytes defect;
      })

  -- at the end all its fields were passed
  pub IsWalking-over : {new : Walk} → IsOver old new → entries ≡ whole
  IsWalking-over {new} over = one_list message from entries whole (IsWalking-whole message from old new entries so_far over) is_whole

  module _ {new : Walk} {entry : Entry} (given : GivesField old new entry) where
    -- a field that was given is after those that were passed, and before others
    pub IsWalking-front : (rest : List Entry) × (whole ≡ (entries ++ entry ∷ []) ++ rest)
    IsWalking-front = longest_whole message from new.at whole (entries ++ entry ∷ []) is_whole (IsWalking-more message from old new entries entry so_far given).passed

    -- it is one of the message's
    pub All-given : (P : Entry → Type 0) → All P whole → P entry
    All-given P all = here IsWalking-front.0 entries (subst (All P) IsWalking-front.1 all) where
      here : (rest front : List Entry) → All P ((front ++ entry ∷ []) ++ rest) → P entry
      here rest [] all = All-head P entry rest all
      here rest (first ∷ front) all = here rest front (All-tail P first ((front ++ entry ∷ []) ++ rest) all)

-- a walk that begins at the place
abbrev pub IsAt : Walk → List ℕ → ℕ → Type 0
IsAt walk bytes at = walk ≡ record { bytes = take (length bytes) bytes; at = at }

pub IsAt-whole : (walk : Walk) (bytes : List ℕ) (at : ℕ) → IsAt walk bytes at → walk ≡ record { bytes = bytes; at = at }
IsAt-whole walk bytes at begins = begins ∙ ap (λ (list : List ℕ). record { bytes = list; at = at }) (take-length bytes)

-- gives the field there
pub GivesField-at : (bytes : List ℕ) (at : ℕ) (old new : Walk) (entry : Entry) → IsAt old bytes at → GivesField old new entry → GivesField (record { bytes = bytes; at = at }) (record { bytes = bytes; at = new.at }) entry
GivesField-at bytes at old new entry begins given =
    let here : GivesField (record { bytes = bytes; at = at }) new entry = subst (λ (walk : Walk). GivesField walk new entry) (IsAt-whole old bytes at begins) given in
    record { left = here.left; here = here.here; encoded = here.encoded; further = here.further; within = here.within; same_bytes = refl }

-- where bytes are left
pub not_over : (bytes : List ℕ) (at : ℕ) (old new : Walk) → IsAt old bytes at → at < length bytes → IsOver old new → ⊥
not_over bytes at old new begins left over =
    let end : at ≡ length bytes = subst (λ (walk : Walk). walk.at ≡ length walk.bytes) (IsAt-whole old bytes at begins) over.at_end in
    omega arith

-- and has passed the fields before it
pub IsWalking-at : (bytes : List ℕ) (from at : ℕ) (walk : Walk) (entries : List Entry) → IsAt walk bytes at → FieldList bytes from entries at → IsWalking bytes from walk entries
IsWalking-at bytes from at walk entries begins list =
    let is = IsAt-whole walk bytes at begins in
    record { same_bytes = ap (λ (w : Walk). w.bytes) is; passed = subst (λ (place : ℕ). FieldList bytes from entries place) (sym (ap (λ (w : Walk). w.at) is)) list }
