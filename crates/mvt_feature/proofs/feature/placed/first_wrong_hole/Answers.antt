use Rattle.std.proofs.Common.{◌≡◌, ◌≢◌, true, false, Some, get_or, refl, sym, ◌∙◌, ap, below_more, arith}
use Rattle.std.proofs.Math.Bool.{not}
use Rattle.std.proofs.lemmas.Option.{slice_get-get_or, same_Some}
use Rattle.mvt_feature.specs.contracts.feature.passing.Passing.{the_type}
use Rattle.mvt_feature.specs.declared.feature.passing.Passing.{Passing}
use Rattle.mvt_feature.specs.declared.feature.passing.Passing.TheVariants.{Enters, Leaves, Neither}
use Rattle.mvt_feature.proofs.feature.placed.first_wrong_hole.Goals as goal
use denote.Enum.Bare.{sameb}

-- what the test of being different says
differs : (passing : Passing) → not (sameb the_type passing Leaves) ≡ true → passing ≢ Leaves
differs Enters test same = absurd (cc)
differs Leaves test same = absurd (cc)
differs Neither test same = absurd (cc)

-- and where it fails
is_left : (passing : Passing) → not (sameb the_type passing Leaves) ≡ false → passing ≡ Leaves
is_left Enters test = absurd (cc)
is_left Leaves test = refl
is_left Neither test = absurd (cc)

pub returns-then-ne-clause-some : goal.returns-then-ne-clause-some
returns-then-ne-clause-some c =
    let hole = c.loop-hole.hole in
    let passing = get_or c.args.passings.now hole Enters in
    let there = slice_get-get_or c.args.passings.now hole Enters (omega (arith, c.requires.within)) in
    record {
      following = omega (arith, c.loop-hole.auto.hole);
      before = c.loop-hole-test.true;
      wrong = λ left. differs passing (sym c.ne.ensures ∙ c.if-ne.true) (same_Some passing Leaves (sym there ∙ left));
      first = λ other following before. c.loop-hole.invariant other before following;
    }

pub loop-hole-preserved : goal.loop-hole-preserved
loop-hole-preserved c =
    let hole = c.loop-hole.hole in
    let passing = get_or c.args.passings.now hole Enters in
    let there = slice_get-get_or c.args.passings.now hole Enters (omega (arith, c.requires.within)) in
    below_more _ _ c.loop-hole.invariant (λ following. there ∙ ap Some (is_left passing (sym c.ne.ensures ∙ c.if-ne.false)))
