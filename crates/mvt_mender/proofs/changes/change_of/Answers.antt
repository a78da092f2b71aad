use Rattle.std.proofs.Common.{refl}
use Rattle.mvt_mender.proofs.changes.change_of.Goals.{in-Some, in-None}
use Rattle.mvt_mender.proofs.changes.change_of.Goals as goal

pub returns-clause-made : goal.returns-clause-made
returns-clause-made c = elim c.match-branch-2.branch [
  | in-Some w ↦ rw w.what-is (record {
    told_layer = refl;
    told_feature = refl;
    layer = refl;
    ordinal = refl;
    made = (w.in-Some.new.numbers, refl, (rw w.in-Some.is at c.in_ok-new.ensures));
  })
  | in-None w ↦ rw w.what-is (record {
    told_layer = refl;
    told_feature = refl;
    layer = refl;
    ordinal = refl;
    made = (w.if-drop_unmended.true, refl);
  })
]
