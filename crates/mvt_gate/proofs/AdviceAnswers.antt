-- The lines of a tile after its verdict; and no input has two answers of `check` with advice, but for two meetings in one
-- polygon.
use Rattle.std.proofs.Common.{◌≡◌, ℕ, List, [], ◌++◌, ◌⊎◌, inl, inr, sym, ◌∙◌, ap, subst}
use Rattle.std.proofs.lemmas.List.{append-nil}
use Rattle.mvt_fault.specs.Place.{AreMeetingsInOne}
use Rattle.mvt_fault.specs.declared.fault.Fault.{Fault}
use Rattle.mvt_fault.specs.declared.profile.Profile.{Profile}
use Rattle.mvt_tile.proofs.RuleFaults.OneAdvice.{one_advice}
use Rattle.mvt_tile.specs.Advice.{IsAdvice}
use Rattle.mvt_tile.specs.declared.advice.Advice.{Advice}
use Rattle.mvt_rules.proofs.Tiles.Tiles.{one_tile}
use Rattle.mvt_rules.specs.Tile.{TileRecord}
use Rattle.mvt_gate.proofs.Verdicts as verdicts
use Rattle.mvt_engine.specs.AdviceText.{advice_line}
use Rattle.mvt_gate.specs.Advice.{AddsAdvice, IsAdviseAnswerBy}
use Rattle.mvt_engine.specs.FaultLine.{fault_line}
use Rattle.mvt_engine.specs.declared.engine.Outcome.{Outcome}

-- after two lines that answer one input, the same is added
same_after : (input line other lines others : List ℕ) → AddsAdvice input line lines → AddsAdvice input other others
    → (following : List ℕ) × (lines ≡ line ++ following) × (others ≡ other ++ following)
same_after input line other lines others (inl a) (inl b) =
    let tile : a.0 ≡ b.0 = one_tile input a.0 b.0 a.2 b.2 in
    let advice : a.1 ≡ b.1 = one_advice b.0.layers a.1 b.1 (subst (λ (it : TileRecord). IsAdvice it a.1) tile a.3) b.3 in
    (advice_line a.1, a.4, b.4 ∙ ap (λ (it : List Advice). other ++ advice_line it) (sym advice))
same_after input line other lines others (inl a) (inr b) = absurd (b.0 a.0 a.2)
same_after input line other lines others (inr a) (inl b) = absurd (a.0 b.0 b.2)
same_after input line other lines others (inr a) (inr b) = ([], a.1 ∙ sym (append-nil line), b.1 ∙ sym (append-nil other))

-- two texts report two meetings in one polygon in their first lines, and are the same after these
abbrev ReportMeetings : List ℕ → List ℕ → Type 0
ReportMeetings lines others =
    (fault : Fault) × (its : Fault) × (following : List ℕ) × (lines ≡ fault_line fault ++ following) × (others ≡ fault_line its ++ following) × AreMeetingsInOne fault its

pub one_answer : (profile : Profile) (input : List ℕ) (first second : Outcome) (lines others : List ℕ) → IsAdviseAnswerBy profile input first lines → IsAdviseAnswerBy profile input second others
    → (first ≡ second) × ((lines ≡ others) ⊎ ReportMeetings lines others)
one_answer profile input first second lines others a b =
    let verdict = verdicts.one_answer profile input first second a.0 b.0 a.1 b.1 in
    let added = same_after input a.0 b.0 lines others a.2 b.2 in
    let following = added.0 in (
      verdict.0,
      elim verdict.1 [
        | inl same ↦ inl (added.1 ∙ ap (λ line. line ++ following) same ∙ sym added.2)
        | inr meetings ↦ inr (
          meetings.0,
          meetings.1,
          following,
          added.1 ∙ ap (λ line. line ++ following) meetings.2,
          added.2 ∙ ap (λ line. line ++ following) meetings.3,
          meetings.4,
        )
      ],
    )
