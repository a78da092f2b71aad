-- What the program's words have answered.
use Rattle.std.specs.Prelude.{ℕ, List}
use Rattle.mvt_gate.specs.CheckOptions.{IsCheckAnswerOf}
use Rattle.mvt_engine.specs.Dump.{IsDumpAnswer}
use Rattle.mvt_engine.specs.Fields.{IsFieldsAnswer}
use Rattle.mvt_engine.specs.declared.engine.Outcome.{Outcome}
use Rattle.mvtgate_runs.specs.declared.tile.Engine.{Engine}
use Rattle.mvtgate_runs.specs.declared.tile.Engine.TheVariants.{Fields, Check, Dump}

-- the outcome and the line, or lines, that an engine answers an input with
abbrev pub IsAnswer : Engine → List ℕ → Outcome → List ℕ → Type 0
IsAnswer Fields = IsFieldsAnswer
IsAnswer (Check options) = IsCheckAnswerOf options
IsAnswer Dump = IsDumpAnswer
