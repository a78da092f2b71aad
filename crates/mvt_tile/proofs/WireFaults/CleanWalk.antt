-- A walk over the fields of a whole message that checks each message of one field number, for as long as it
-- finds nothing there.
use Rattle.std.proofs.Common.{◌≡◌, ◌≢◌, ℕ, ◌+◌, ◌<◌, ◌≤◌, List, [], ◌∷◌, ◌++◌, length, Some, slice_get, refl, sym, ◌∙◌, ap, subst, arith, length-append}
use Rattle.mvt_wire.specs.Field.{Entry}
use Rattle.mvt_wire.specs.Message.{IsMessage}
use Rattle.mvt_wire.specs.Payload.{Span, span_of, spans_of}
use Rattle.mvt_wire.specs.Walk.{Walk, IsOver, GivesField}
use Rattle.mvt_wire.specs.Embedded.{AreClean}
use Rattle.mvt_wire.proofs.Encoding.Payloads.{picked-push, picked-other, slice_get-last}
use Rattle.mvt_wire.proofs.Walking.{IsWalking-none, IsWalking-over, IsWalking, IsWalking-more}
use Rattle.mvt_tile.proofs.WireFaults.EmbeddedSpans.{spans_front}
use Rattle.mvt_wire.proofs.Parts.EmbeddedSpans.{AreClean-push, slice_get-append, slice_get-some}

-- the fields that were passed, and how many messages they hold, all of them clean
pub record CleanWalk (Clean : ℕ → Span → Type 0) (field_number : ℕ) (message : List ℕ) (from : ℕ) (walk : Walk) (count : ℕ) : Type 0 where
  pub entries : List Entry
  pub walking : IsWalking message from walk entries
  pub counted : count ≡ length (spans_of field_number entries)
  pub clean : AreClean Clean (spans_of field_number entries)
  pub few : count ≤ walk.at

-- they are clean in another sense too, where this one is the stricter
pub CleanWalk-weaker : {Clean : ℕ → Span → Type 0} {field_number : ℕ} {message : List ℕ} {from : ℕ} {walk : Walk} {count : ℕ} (Other : ℕ → Span → Type 0)
    → ((ordinal : ℕ) (span : Span) → Clean ordinal span → Other ordinal span) → CleanWalk Clean field_number message from walk count → CleanWalk Other field_number message from walk count
CleanWalk-weaker Other weaker so_far = record {
  entries = so_far.entries;
  walking = so_far.walking;
  counted = so_far.counted;
  clean = λ ordinal span here. weaker ordinal span (so_far.clean ordinal span here);
  few = so_far.few;
}

-- of the messages, the one with this ordinal, after clean ones
pub record IsNext (Clean : ℕ → Span → Type 0) (spans : List Span) (ordinal : ℕ) (span : Span) : Type 0 where
  pub here : slice_get spans ordinal ≡ Some span
  pub before : (earlier : ℕ) (other : Span) → earlier < ordinal → slice_get spans earlier ≡ Some other → Clean earlier other

-- before the first field
pub CleanWalk-nothing : {Clean : ℕ → Span → Type 0} {field_number : ℕ} {message : List ℕ} {from : ℕ} {walk : Walk} → walk ≡ record { bytes = message; at = from } → CleanWalk Clean field_number message from walk 0
CleanWalk-nothing begins = record {
  entries = [];
  walking = IsWalking-none begins;
  counted = refl;
  clean = λ ordinal span here. absurd (cc);
  few = omega arith;
}

module _ {Clean : ℕ → Span → Type 0} {field_number : ℕ} {message : List ℕ} {from : ℕ} {old new : Walk} {count : ℕ} (so_far : CleanWalk Clean field_number message from old count) where
  module _ {entry : Entry} (given : GivesField old new entry) where
    further : IsWalking message from new (so_far.entries ++ entry ∷ [])
    further = IsWalking-more message from old new so_far.entries entry so_far.walking given

    -- a field of another number
    pub CleanWalk-other : entry.number ≢ field_number → CleanWalk Clean field_number message from new count
    CleanWalk-other other =
        let same : spans_of field_number (so_far.entries ++ entry ∷ []) ≡ spans_of field_number so_far.entries = picked-other span_of field_number so_far.entries entry other in
        record {
          entries = so_far.entries ++ entry ∷ [];
          walking = further;
          counted = so_far.counted ∙ ap length (sym same);
          clean = subst (AreClean Clean) (sym same) so_far.clean;
          few = omega (arith, so_far.few, given.further);
        }

    module _ (own : entry.number ≡ field_number) (span : Span) (there : span_of entry.content ≡ Some span) where
      abbrev passed : List Span
      passed = spans_of field_number so_far.entries

      one_more : count + 1 ≡ length (passed ++ span ∷ [])
      one_more = ap (λ (n : ℕ). n + 1) so_far.counted ∙ sym (length-append passed (span ∷ []))

      -- a field with a message that is clean
      pub CleanWalk-more : Clean count span → CleanWalk Clean field_number message from new (count + 1)
      CleanWalk-more clean =
          let longer : spans_of field_number (so_far.entries ++ entry ∷ []) ≡ passed ++ span ∷ [] = picked-push span_of field_number so_far.entries entry span own there in
          record {
            entries = so_far.entries ++ entry ∷ [];
            walking = further;
            counted = one_more ∙ ap length (sym longer);
            clean = subst (AreClean Clean) (sym longer) (AreClean-push Clean passed span so_far.clean (subst (λ (ordinal : ℕ). Clean ordinal span) so_far.counted clean));
            few = omega (arith, so_far.few, given.further);
          }

      -- which is one of the whole message's, after those that were passed
      pub CleanWalk-next : (whole : List Entry) → IsMessage message from whole → IsNext Clean (spans_of field_number whole) count span
      CleanWalk-next whole is_whole =
          let front = spans_front whole so_far.walking is_whole given field_number span own there in
          let counted : count ≡ length passed = so_far.counted in
          record {
            here = ap (λ (list : List Span). slice_get list count) front.1
                ∙ slice_get-some (passed ++ span ∷ []) front.0 count span (ap (slice_get (passed ++ span ∷ [])) counted ∙ slice_get-last passed span);
            before = λ earlier other less at.
                so_far.clean earlier other
                (sym (slice_get-append passed (span ∷ []) earlier (omega arith))
                ∙ sym (slice_get-append (passed ++ span ∷ []) front.0 earlier (omega (arith, one_more)))
                ∙ ap (λ (list : List Span). slice_get list earlier) (sym front.1) ∙ at);
          }

  -- after the last field all the message's were passed
  pub CleanWalk-over : IsOver old new → (whole : List Entry) → IsMessage message from whole → AreClean Clean (spans_of field_number whole)
  CleanWalk-over over whole is_whole =
      subst (λ (entries : List Entry). AreClean Clean (spans_of field_number entries)) (IsWalking-over whole so_far.walking is_whole over) so_far.clean
