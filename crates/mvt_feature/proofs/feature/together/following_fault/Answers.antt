use Rattle.std.proofs.Common.{◌<◌, Option, IfSome, length, option_map, sym, ap, subst}
use Rattle.mvt_sweep.specs.declared.meeting.Meeting.{Meeting}
use Rattle.mvt_feature.specs.Calls.FeatureParts.{fault_after}
use Rattle.mvt_feature.proofs.feature.together.following_fault.Goals as goal

pub bounds-polygons-front : goal.bounds-polygons-front
bounds-polygons-front c =
    subst (λ (meeting : Option Meeting). IfSome meeting (λ _. c.args.front.now.polygons < length c.args.polygons.now)) c.in_ok-meeting.was c.requires

pub returns : goal.returns
returns c =
    sym (ap (option_map (fault_after c.args.polygons.now c.args.front.now.polygons)) c.in_ok-meeting.was)
