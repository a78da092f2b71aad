-- A search for the payload with an ordinal, among those of the fields of a number.
use Rattle.std.proofs.Common.{◌≡◌, ◌≢◌, ℕ, ◌+◌, ◌≤◌, List, [], ◌∷◌, ◌++◌, length, take, slice_get, Option, Some, None, IfNone, option_map, sym, ◌∙◌, ap, subst, arith, length-append}
use Rattle.mvt_wire.specs.Field.{Entry}
use Rattle.mvt_wire.specs.Payload.{Span, span_of, spans_of}
use Rattle.mvt_rules.specs.Scope.{whole_span, IsPart}
use Rattle.mvt_wire.specs.Walk.{Walk, IsOver, GivesField, FindsDefect}
use Rattle.mvt_wire.specs.declared.cause.WireCause.{WireCause}
use Rattle.mvt_wire.proofs.Encoding.Messages.{one_list, whole_or_defect}
use Rattle.mvt_confirm.specs.Calls.ByteSpan.{as_span}
use Rattle.mvt_confirm.specs.declared.span.ByteSpan.{ByteSpan}
use Rattle.mvt_rules.proofs.Tiles.Spans.{Within}
use Rattle.mvt_confirm.proofs.Wire.Payloads.{Within-given, one_part, slice_get-other, spans_of-push, spans_of-same}
use Rattle.mvt_wire.proofs.Walking.{IsWalking, IsWalking-more, IsWalking-defect, IsWalking-whole}
use Rattle.mvt_wire.proofs.Encoding.Payloads.{slice_get-last}

module _ (bytes : List ℕ) (outer : Span) (field_number ordinal : ℕ) where
  -- how many payloads were passed, and the one that is searched for, if it was
  pub record IsSearching (walk : Walk) (passed : ℕ) (found : Option Span) : Type 0 where
    pub entries : List Entry
    pub walked : IsWalking (take outer.to bytes) outer.from walk entries
    pub count : passed ≡ length (spans_of field_number entries)
    pub few : passed ≤ walk.at
    pub same : found ≡ slice_get (spans_of field_number entries) ordinal
    pub within : (span : Span) → found ≡ Some span → Within bytes span

  -- a field without such a payload was given
  pub IsSearching-other : (old new : Walk) (passed : ℕ) (found : Option Span) (entry : Entry) → IsSearching old passed found → GivesField old new entry
      → (entry.number ≡ field_number → span_of entry.content ≡ None) → IsSearching new passed found
  IsSearching-other old new passed found entry so_far given none =
      let further = given.further in
      let few = so_far.few in
      let same = spans_of-same field_number so_far.entries entry none in
      record {
        entries = so_far.entries ++ entry ∷ [];
        walked = IsWalking-more (take outer.to bytes) outer.from old new so_far.entries entry so_far.walked given;
        count = so_far.count ∙ ap length (sym same);
        few = omega arith;
        same = so_far.same ∙ ap (λ (spans : List Span). slice_get spans ordinal) (sym same);
        within = so_far.within;
      }

  module _ (old new : Walk) (passed : ℕ) (found : Option Span) (entry : Entry) (span : Span) (so_far : IsSearching old passed found) (given : GivesField old new entry)
      (own : entry.number ≡ field_number) (payload : span_of entry.content ≡ Some span) where
    longer : spans_of field_number (so_far.entries ++ entry ∷ []) ≡ spans_of field_number so_far.entries ++ span ∷ []
    longer = spans_of-push field_number so_far.entries entry span own payload

    one_more : passed + 1 ≡ length (spans_of field_number (so_far.entries ++ entry ∷ []))
    one_more =
        let more = length-append (spans_of field_number so_far.entries) (span ∷ []) in
        let count = so_far.count in
        let size : passed + 1 ≡ length (spans_of field_number so_far.entries ++ span ∷ []) = omega arith in
        size ∙ ap length (sym longer)

    few_more : passed + 1 ≤ new.at
    few_more = let further = given.further in let few = so_far.few in omega arith

    -- a payload with another ordinal was given
    pub IsSearching-more : passed ≢ ordinal → IsSearching new (passed + 1) found
    IsSearching-more other =
        let apart : ordinal ≢ length (spans_of field_number so_far.entries) = λ same. other (so_far.count ∙ sym same) in
        record {
          entries = so_far.entries ++ entry ∷ [];
          walked = IsWalking-more (take outer.to bytes) outer.from old new so_far.entries entry so_far.walked given;
          count = one_more;
          few = few_more;
          same = so_far.same ∙ sym (slice_get-other (spans_of field_number so_far.entries) span ordinal apart) ∙ ap (λ (spans : List Span). slice_get spans ordinal) (sym longer);
          within = so_far.within;
        }

    -- the one that is searched for was given
    pub IsSearching-found : passed ≡ ordinal → IsSearching new (passed + 1) (Some span)
    IsSearching-found here =
        let last : slice_get (spans_of field_number so_far.entries ++ span ∷ []) ordinal ≡ Some span =
        ap (slice_get (spans_of field_number so_far.entries ++ span ∷ [])) (sym here ∙ so_far.count) ∙ slice_get-last (spans_of field_number so_far.entries) span in
        record {
          entries = so_far.entries ++ entry ∷ [];
          walked = IsWalking-more (take outer.to bytes) outer.from old new so_far.entries entry so_far.walked given;
          count = one_more;
          few = few_more;
          same = sym (ap (λ (spans : List Span). slice_get spans ordinal) longer ∙ last);
          within = λ other there. let same : span ≡ other = cc in subst (Within bytes) same (Within-given bytes outer.to outer.from old new so_far.entries entry span so_far.walked given payload);
        }

  -- in a message that isn't whole there is none
  pub IsSearching-defect : (old new : Walk) (passed : ℕ) (found : Option Span) (cause : WireCause) (span : Span) → IsSearching old passed found → FindsDefect old new cause
      → ¬ IsPart bytes outer field_number ordinal span
  IsSearching-defect old new passed found cause span so_far defect part =
      whole_or_defect (take outer.to bytes) outer.from part.entries cause part.whole (IsWalking-defect (take outer.to bytes) outer.from old new so_far.entries cause so_far.walked defect)

  -- the whole message was passed
  found_last : (old new : Walk) (passed : ℕ) (found : Option Span) (span : Span) → IsSearching old passed found → IsOver old new → found ≡ Some span
      → IsPart bytes outer field_number ordinal span
  found_last old new passed found span so_far over there =
      record { entries = so_far.entries; whole = IsWalking-whole (take outer.to bytes) outer.from old new so_far.entries so_far.walked over; here = sym so_far.same ∙ there }

  none_last : (old new : Walk) (passed : ℕ) (span : Span) → IsSearching old passed None → IsOver old new → ¬ IsPart bytes outer field_number ordinal span
  none_last old new passed span so_far over part =
      let whole = IsWalking-whole (take outer.to bytes) outer.from old new so_far.entries so_far.walked over in
      let same : so_far.entries ≡ part.entries = one_list (take outer.to bytes) outer.from so_far.entries part.entries whole part.whole in
      let both : None ≡ Some span = so_far.same ∙ ap (λ (entries : List Entry). slice_get (spans_of field_number entries) ordinal) same ∙ part.here in
      cc

  pub IsSearching-over : (old new : Walk) (passed : ℕ) (found : Option ByteSpan) → IsSearching old passed (option_map as_span found) → IsOver old new
      → IfNone found ((span : Span) → ¬ IsPart bytes outer field_number ordinal span)
  IsSearching-over old new passed None so_far over = λ span. none_last old new passed span so_far over
  IsSearching-over old new passed (Some span) so_far over = tt

-- the one span of a layer decides of its messages
pub one_layer : (bytes : List ℕ) (layer field_number ordinal : ℕ) (span found : Span) → IsPart bytes (whole_span bytes) 3 layer found → ((part : Span) → ¬ IsPart bytes found field_number ordinal part)
    → (outer : Span) → IsPart bytes (whole_span bytes) 3 layer outer → ¬ IsPart bytes outer field_number ordinal span
one_layer bytes layer field_number ordinal span found there none outer other part =
    none span (subst (λ (layer_record : Span). IsPart bytes layer_record field_number ordinal span) (one_part bytes (whole_span bytes) outer found 3 layer other there) part)
