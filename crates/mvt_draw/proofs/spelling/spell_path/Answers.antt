use Rattle.std.proofs.Common.{refl, arith}
use Rattle.mvt_draw.proofs.SpellingPaths.{first_and_others, path_spelled}
use Rattle.mvt_draw.proofs.spelling.spell_path.Goals as goal

pub returns-clause-spelled : goal.returns-clause-spelled
returns-clause-spelled c =
    rw (first_and_others c.args.positions.now c.first-item.result c.in-len1-up.len_at_least c.first-item.is)
    (path_spelled c.args.least c.args.from c.first-item.result _ _ _ _ _ _ c.spell_steps.result c.in_ok-spell_command.ensures.spelled.1 c.in_ok-spell_step.ensures.spelled c.in_ok-spell_command-2.ensures.spelled
    c.spell_steps.ensures.spelled (c.if-not-are_apart.ensures.0 refl) (omega arith))
