use Rattle.std.proofs.Common.{inl, inr, arith}
use Rattle.std.proofs.lemmas.Bool.{cases_lt}
use Rattle.mvt_wire.proofs.FieldNumbers.ShortNumbers.{run_within}
use Rattle.mvt_wire.proofs.numbers.packed.has_run_by.Goals as goal

pub checks-preserved : goal.checks-preserved
checks-preserved g c place forward below = elim (cases_lt place c.checks.at) [
  | inl earlier ↦ c.checks.invariant place forward earlier
  | inr later ↦ c.has_run_at.ensures c.if-has_run_at.false place later below
]

pub returns : goal.returns
returns g c none place forward below run = elim (cases_lt place c.checks.at) [
  | inl earlier ↦ c.checks.invariant place forward earlier run
  | inr later ↦
      let whole = run_within c.args.part.now place run in
      c.has_run_at-2.ensures none place (omega arith) (omega arith) run
]
