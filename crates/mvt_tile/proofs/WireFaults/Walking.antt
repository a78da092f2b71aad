-- A walk over the fields of a message, and what the faults of its fields say of the message.
use Rattle.std.proofs.Common.{◌≡◌, ℕ, ◌≤◌, ◌⊎◌, inl, inr, List, [], ◌∷◌, ◌++◌, length, take, Option, Some, None, sym, ◌∙◌, subst, arith, append-nil, append_assoc}
use Rattle.std.proofs.lemmas.List.{length-take-le}
use Rattle.mvt_wire.specs.Field.{Entry, entry_of}
use Rattle.mvt_wire.specs.Message.{FieldList, IsMessage, HasDefect}
use Rattle.mvt_wire.specs.Walk.{Walk}
use Rattle.mvt_rules.specs.WireFault.{FieldFault, EndFault, MessageFault}
use Rattle.mvt_wire.specs.declared.cause.WireCause.{WireCause}
use Rattle.mvt_wire.specs.declared.field.Field.{Field}
use Rattle.mvt_wire.specs.declared.schema.Message.{Message}
use Rattle.mvt_wire.proofs.Encoding.Messages.{FieldList-push, one_list, whole_or_defect, one_defect}
use Rattle.mvt_tile.specs.Calls.Least.{IsLeastCause, FindsLeastCause}
use Rattle.mvt_wire.specs.Walk.{IsDefectOr}
use Rattle.mvt_tile.specs.Calls.FieldScan.{HasScanned, PassesNext, IsFirstFieldFault}
use Rattle.mvt_tile.specs.declared.wire.scan.FieldScan.{FieldScan}
use Rattle.mvt_tile.proofs.WireFaults.Causes.{by_offset, same_cause}
use Rattle.mvt_tile.proofs.WireFaults.EndFaults.{end_place}
use Rattle.mvt_tile.proofs.WireFaults.FieldPlaces.{IsPlaced-field}
use Rattle.mvt_tile.proofs.WireFaults.OneMoreField.{IsFirstFieldFault-kept}
use Rattle.mvt_wire.proofs.Walking.{IsWalking}

-- a defect is the only fault of its message
pub defect_alone : (message : Message) (bytes : List ℕ) (from : ℕ) (cause : WireCause) → HasDefect bytes from cause → IsLeastCause (MessageFault message bytes from) cause
defect_alone message bytes from cause defect = record {
  holds = inl defect;
  least = λ other fault. elim fault [
    | inl another ↦ same_cause cause other (one_defect bytes from cause other defect another)
    | inr whole ↦ absurd (whole_or_defect bytes from whole.0 cause whole.1 defect)
  ];
}

-- a fault of a whole message is one of its fields, or one at its end
whole_fault : (message : Message) (bytes : List ℕ) (from : ℕ) (entries : List Entry) (cause : WireCause) → IsMessage bytes from entries → MessageFault message bytes from cause
    → FieldFault message entries cause ⊎ EndFault message entries (length bytes) cause
whole_fault message bytes from entries cause whole (inl defect) = absurd (whole_or_defect bytes from entries cause whole defect)
whole_fault message bytes from entries cause whole (inr other) =
    subst (λ (list : List Entry). FieldFault message list cause ⊎ EndFault message list (length bytes) cause) (one_list bytes from other.0 entries other.1 whole) other.2

whole_finds : (message : Message) (bytes : List ℕ) (from : ℕ) (entries : List Entry) (found : Option WireCause) → IsMessage bytes from entries
    → FindsLeastCause (λ cause. FieldFault message entries cause ⊎ EndFault message entries (length bytes) cause) found → FindsLeastCause (MessageFault message bytes from) found
whole_finds message bytes from entries None whole finds = λ cause fault. finds cause (whole_fault message bytes from entries cause whole fault)
whole_finds message bytes from entries (Some first) whole finds = record {
  holds = inr (entries, whole, finds.holds);
  least = λ cause fault. finds.least cause (whole_fault message bytes from entries cause whole fault);
}

-- where no field has a fault, those at the end are all
end_finds : (message : Message) (entries : List Entry) (end : ℕ) (found : Option WireCause) → ((cause : WireCause) → ¬ FieldFault message entries cause) → FindsLeastCause (EndFault message entries end) found
    → FindsLeastCause (λ cause. FieldFault message entries cause ⊎ EndFault message entries end cause) found
end_finds message entries end None none finds = λ cause fault. elim fault [ inl field ↦ none cause field | inr at_end ↦ finds cause at_end ]
end_finds message entries end (Some first) none finds = record {
  holds = inr finds.holds;
  least = λ cause fault. elim fault [ inl field ↦ absurd (none cause field) | inr at_end ↦ finds.least cause at_end ];
}

-- a first fault of the fields before a place is the first of all, whatever is later
first_of_rest : (message : Message) (bytes : List ℕ) (entries rest : List Entry) (from to : ℕ) (first : WireCause) → FieldList bytes from rest to → IsFirstFieldFault message entries from first
    → IsFirstFieldFault message (entries ++ rest) to first
first_of_rest message bytes entries [] from to first list so_far =
    subst (λ (list : List Entry). IsFirstFieldFault message list to first) (sym (append-nil entries)) (subst (λ (place : ℕ). IsFirstFieldFault message entries place first) list so_far)
first_of_rest message bytes entries (entry ∷ rest) from to first list so_far =
    let here : IsFirstFieldFault message entries entry.at first = subst (λ (place : ℕ). IsFirstFieldFault message entries place first) (sym list.0) so_far in
    let one : IsFirstFieldFault message (entries ++ entry ∷ []) list.1.0 first =
    IsFirstFieldFault-kept message entries entry list.1.0 first (IsPlaced-field bytes list.1.0 entry list.1.1) here in
    subst (λ (list : List Entry). IsFirstFieldFault message list to first) (append_assoc entries (entry ∷ []) rest) (first_of_rest message bytes (entries ++ entry ∷ []) rest list.1.0 to first list.1.2 one)

-- two field lists, one after the other
FieldList-append : (bytes : List ℕ) (from at to : ℕ) (entries rest : List Entry) → FieldList bytes from entries at → FieldList bytes at rest to → FieldList bytes from (entries ++ rest) to
FieldList-append bytes from at to [] rest list following = subst (λ (place : ℕ). FieldList bytes place rest to) (sym list) following
FieldList-append bytes from at to (entry ∷ entries) rest list following = (list.0, (list.1.0, list.1.1, FieldList-append bytes list.1.0 at to entries rest list.1.2 following))

HasDefect-following : (bytes : List ℕ) (from at : ℕ) (entries : List Entry) (cause : WireCause) → FieldList bytes from entries at → HasDefect bytes at cause → HasDefect bytes from cause
HasDefect-following bytes from at entries cause list defect =
    record { entries = entries ++ defect.entries; at = defect.at; before = FieldList-append bytes from at defect.at entries defect.entries list defect.before; left = defect.left; defect = defect.defect }

-- after a first fault, the defect of the message is its only fault, and where there is none the first fault is its first
pub first_or_defect : (message : Message) (bytes : List ℕ) (from : ℕ) (walk : Walk) (entries : List Entry) (first cause : WireCause) → IsWalking bytes from walk entries
    → IsFirstFieldFault message entries walk.at first → IsDefectOr walk first cause → IsLeastCause (MessageFault message bytes from) cause
first_or_defect message bytes from walk entries first cause walked fault (inl defect) =
    defect_alone message bytes from cause
    (HasDefect-following bytes from walk.at entries cause walked.passed (subst (λ (list : List ℕ). HasDefect list walk.at cause) walked.same_bytes defect))
first_or_defect message bytes from walk entries first cause walked fault (inr whole) =
    let rest : IsMessage bytes walk.at whole.0.0 = subst (λ (list : List ℕ). IsMessage list walk.at whole.0.0) walked.same_bytes whole.0.1 in
    let all : IsFirstFieldFault message (entries ++ whole.0.0) (length bytes) first = first_of_rest message bytes entries whole.0.0 walk.at (length bytes) first rest fault in
    subst (IsLeastCause (MessageFault message bytes from)) (sym whole.1)
    (whole_finds message bytes from (entries ++ whole.0.0) (Some first) (FieldList-append bytes from walk.at (length bytes) entries whole.0.0 walked.passed rest) (record {
      holds = inl all.least.holds;
      least = λ other fault. elim fault [
        | inl field ↦ all.least.least other field
        | inr at_end ↦ let place = end_place message (entries ++ whole.0.0) (length bytes) other at_end in by_offset first other (omega (arith, all.before))
      ];
    }))

-- What is known while the fields of a message are walked, up to a place: those that were passed, and what the scan keeps of them.
pub record IsScanning (message : Message) (bytes : List ℕ) (from at : ℕ) (scan : FieldScan) (entries : List Entry) : Type 0 where
  pub passed : FieldList bytes from entries at
  pub passes : HasScanned message scan entries

-- one more field was passed
pub IsScanning-more : {message : Message} {bytes : List ℕ} {from at : ℕ} {before after : FieldScan} {entries : List Entry} {read : Field × ℕ} → IsScanning message bytes from at before entries
    → PassesNext message bytes at before after read → IsScanning message bytes from read.1 after (entries ++ entry_of read.0 ∷ [])
IsScanning-more so_far next = record {
  passed = FieldList-push _ _ _ _ _ _ so_far.passed next.given.here next.given.encoded;
  passes = next.passed _ so_far.passes;
}

-- the faults at the end of a whole message that was scanned are all that it has
pub IsScanning-whole : {message : Message} (bytes : List ℕ) {from at : ℕ} (to : ℕ) {scan : FieldScan} {entries : List Entry} (found : Option WireCause) → to ≤ length bytes → at ≡ to
    → IsScanning message (take to bytes) from at scan entries
    → ((passed : List Entry) → HasScanned message scan passed → FindsLeastCause (EndFault message passed to) found)
    → FindsLeastCause (MessageFault message (take to bytes) from) found
IsScanning-whole {message} bytes {from} to {entries = entries} found within end so_far finds =
    let size : length (take to bytes) ≡ to = length-take-le to bytes within in
    whole_finds message (take to bytes) from entries found (subst (λ (place : ℕ). FieldList (take to bytes) from entries place) (end ∙ sym size) so_far.passed)
    (end_finds message entries (length (take to bytes)) found so_far.passes.faultless (rw size (finds entries so_far.passes)))

-- What is known while one message is walked.
pub record MessageWalk (message : Message) (bytes : List ℕ) (from at : ℕ) (scan : FieldScan) : Type 0 where
  pub within : at ≤ length bytes
  pub entries : List Entry
  pub scanning : IsScanning message bytes from at scan entries

pub MessageWalk-more : {message : Message} {bytes : List ℕ} {from at : ℕ} {before after : FieldScan} {read : Field × ℕ} → MessageWalk message bytes from at before
    → PassesNext message bytes at before after read → MessageWalk message bytes from read.1 after
MessageWalk-more so_far next = record { within = next.given.within; entries = _; scanning = IsScanning-more so_far.scanning next }

-- where a field wasn't passed the quick way, nothing has changed
pub MessageWalk-unchanged : {message : Message} {bytes : List ℕ} {from at : ℕ} {before after : FieldScan} → MessageWalk message bytes from at before → after ≡ before → MessageWalk message bytes from at after
MessageWalk-unchanged {message} {bytes} {from} {at} so_far same = subst (λ (scan : FieldScan). MessageWalk message bytes from at scan) (sym same) so_far
