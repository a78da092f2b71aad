use Rattle.mvt_mend.proofs.KnownMeetings.{none_right}
use Rattle.mvt_mend.proofs.kept.known.is_known_wrong.Goals as goal

pub returns : goal.returns
returns c = λ met is_it. none_right c.args.rings.now _ _ _ (c.meet_wrongly.ensures met) is_it
