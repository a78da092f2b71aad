use Rattle.std.proofs.Common.{◌∙◌}
use Rattle.mvt_sweep.specs.Rings.{rings_of}
use Rattle.mvt_tile.specs.FeatureBytes.{Encodes}
use Rattle.mvt_mender.proofs.NewGeometries.{new_of}
use Rattle.mvt_mender.proofs.feature.mend_feature.Goals as goal

pub returns-in-Some-2 : goal.returns-in-Some-2
returns-in-Some-2 c =
    new_of c.args.profile c.new_geometry.result (Encodes c.args.feature.now) c.deref.result.now (rings_of c.in-Some.old.items) (rings_of c.in-Some-2.new.rings.items)
    (λ it encodes. c.deref.ensures.value ∙ c.in_ok-numbers.ensures it.geometry (c.geometry.ensures.all it encodes))
    (rw c.in-Some.is at c.in_ok-old.ensures)
    (rw (c.in-Some-2.is, c.deref-2.ensures.value) at c.in_ok-new.ensures.near)
    (rw (c.in-Some-2.is, c.deref-2.ensures.value) at c.in_ok-new.ensures.kept)
    (rw c.deref-in-Some-2.ensures.value at c.new_geometry.ensures)
