-- What a sweep over rings answers: a meeting, or which rings are around which.
use Rattle.std.specs.Prelude.{◌<◌, ◌^◌, List, Option, Some, None}
use Rattle.mvt_plane.specs.Position.{Position}
use Rattle.mvt_sweep.specs.Work.{vertex_count}
use Rattle.mvt_sweep.specs.Meeting.{IsMeetingOf, NoMeeting}
use Rattle.mvt_sweep.specs.RingsAround.{AreNoted}
use Rattle.mvt_sweep.specs.Rings.{AreRingsInRange}
use Rattle.mvt_sweep.specs.declared.meeting.Meeting.{Meeting}
use Rattle.mvt_sweep.specs.declared.sweep.notes.RingNotes.{RingNotes}
use Rattle.mvt_sweep.specs.declared.sweep.swept.Swept.{Swept}
use Rattle.mvt_sweep.specs.declared.sweep.swept.Swept.TheVariants.{Meets, Clear}

-- no two edges of the rings meet wrongly, and it is noted which rings are around which
pub record IsNotedClear (rings : List (List Position)) (notes : RingNotes) : Type 0 where
  pub clear : NoMeeting rings
  pub in_range : AreRingsInRange rings
  pub few : vertex_count rings < 2 ^ 64
  pub noted : AreNoted rings notes.around.items notes.come_to.items

-- the answer is a meeting, or these notes
abbrev pub IsSweptAnswer : List (List Position) → Swept RingNotes → Type 0
IsSweptAnswer rings (Meets meeting) = IsMeetingOf rings meeting
IsSweptAnswer rings (Clear notes) = IsNotedClear rings notes

-- the meeting that is answered, if any
abbrev pub met_in : {N : Type 0} → Swept N → Option Meeting
met_in (Meets meeting) = Some meeting
met_in (Clear notes) = None
