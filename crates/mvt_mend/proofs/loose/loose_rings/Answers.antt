use Rattle.std.proofs.Common.{◌∙◌, ap, subst, Option, Vec}
use Rattle.std.specs.Option.{IfSome}
use Rattle.std.specs.declared.alloc.Global.{Global}
use Rattle.std.proofs.lemmas.List.{map_push}
use Rattle.mvt_plane.specs.Position.{Position}
use Rattle.mvt_sweep.specs.Rings.{rings_of}
use Rattle.mvt_mend.specs.Calls.Pen.{IsRingDrawn}
use Rattle.mvt_mend.proofs.DrawnSteps.{all_drawn, none_drawn, one_more_ring}
use Rattle.mvt_mend.proofs.loose.loose_rings.Goals as goal

pub rings-init : goal.rings-init
rings-init c = rw (c.new-rings.ensures.items, c.origin.ensures) (none_drawn c.args.numbers.now)

pub rings-preserved : goal.rings-preserved
rings-preserved c =
    let numbers = c.args.numbers.now in
    let drawn = subst (λ (ring : Option (Vec Position Global)). IfSome ring (λ ring. IsRingDrawn numbers c.rings.pen c.draw_ring.new.pen ring.items)) c.in-Some.is c.in_ok-ring.ensures in
    one_more_ring numbers c.rings.pen c.draw_ring.new.pen (rings_of c.rings.rings.items) _ c.in-Some.ring.items c.rings.invariant drawn
    (ap rings_of c.in_ok-push.ensures.items ∙ map_push (λ (ring : Vec Position Global). ring.items) c.rings.rings.items c.in-Some.ring)

pub returns : goal.returns
returns c = all_drawn c.args.numbers.now c.rings.pen (rings_of c.rings.rings.items) c.rings.invariant c.rings-test.false
