-- The answer of the program's `check` with advice.
use Rattle.std.specs.Prelude.{◌≡◌, ◌⊎◌, ℕ, List, ◌++◌}
use Rattle.mvt_fault.specs.declared.profile.Profile.{Profile}
use Rattle.mvt_tile.specs.Advice.{IsAdvice}
use Rattle.mvt_tile.specs.declared.advice.Advice.{Advice}
use Rattle.mvt_rules.specs.Tile.{IsTile, TileRecord}
use Rattle.mvt_engine.specs.AdviceText.{advice_line}
use Rattle.mvt_engine.specs.declared.engine.Outcome.{Outcome}
use Rattle.mvt_gate.specs.Check.{IsCheckAnswerBy}

-- Where the input is a tile, the lines are this one and that of the advice on the tile after it; else this one alone.
abbrev pub AddsAdvice : List ℕ → List ℕ → List ℕ → Type 0
AddsAdvice input line lines =
    ((tile : TileRecord) × (advice : List Advice) × IsTile input tile × IsAdvice tile advice × (lines ≡ line ++ advice_line advice))
    ⊎ (((tile : TileRecord) → ¬ IsTile input tile) × (lines ≡ line))

-- The outcome and the first line are the answer of `check` by the profile, and the advice is after it. No input has two
-- answers (the law `one_advise_answer`).
abbrev pub IsAdviseAnswerBy : Profile → List ℕ → Outcome → List ℕ → Type 0
IsAdviseAnswerBy profile input outcome lines =
    (line : List ℕ) × IsCheckAnswerBy profile input outcome line × AddsAdvice input line lines
