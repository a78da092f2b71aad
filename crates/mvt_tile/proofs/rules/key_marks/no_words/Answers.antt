use Rattle.std.proofs.Common.{ℕ, inl, inr, replicate}
use Rattle.std.proofs.lemmas.Bool.{cases_lt}
use Rattle.std.proofs.lemmas.List.{get_or-replicate, get_or_past}
use Rattle.mvt_tile.proofs.rules.key_marks.no_words.Goals as goal

pub returns : goal.returns
returns c place = elim (cases_lt place 4) [
  | inl within ↦ get_or-replicate {A = ℕ} 4 place 0 0 within
  | inr past ↦ get_or_past {X = ℕ} (replicate 4 0) place 0 past
]
