use Rattle.std.proofs.Common.{List, Vec, sym, ◌∙◌, ap, subst}
use Rattle.std.specs.declared.alloc.Global.{Global}
use Rattle.mvt_plane.specs.Position.{Position}
use Rattle.mvt_sweep.specs.Rings.{rings_of}
use Rattle.mvt_mend.specs.Near.{AreNear}
use Rattle.mvt_mend.proofs.mending.mend_rings.Goals as goal

pub returns-clause-near : goal.returns-clause-near
returns-clause-near c =
    subst (λ (rings : List (Vec Position Global)). AreNear (rings_of c.args.rings.now) (rings_of rings)) (c.deref-2.ensures.value ∙ ap (λ (rings : Vec (Vec Position Global) Global). rings.items) (sym c.mended.ensures)) (c.are_near.ensures.near c.if-not-are_near.false)
