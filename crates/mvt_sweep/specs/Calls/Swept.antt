-- What a sweep over rings answers, with any notes.
use Rattle.std.specs.Prelude.{List, ℤ}
use Rattle.mvt_plane.specs.Position.{Position}
use Rattle.mvt_sweep.specs.Meeting.{IsMeetingOf, NoMeeting}
use Rattle.mvt_sweep.specs.Rings.{AreRingsInRange}
use Rattle.mvt_sweep.specs.Calls.Steps.{AtLast}
use Rattle.mvt_sweep.specs.declared.sweep.vertices.SweepVertices.{SweepVertices}
use Rattle.mvt_sweep.specs.declared.sweep.swept.Swept.{Swept}
use Rattle.mvt_sweep.specs.declared.sweep.swept.Swept.TheVariants.{Meets, Clear}

-- the answer is a meeting; or no two edges of the rings meet wrongly, and what is noted is right at the end
abbrev pub IsSweptWith : {N : Type 0} → List (List Position) → SweepVertices → (ℤ → N → Type 0) → Swept N → Type 0
IsSweptWith rings vertices Noted (Meets meeting) = IsMeetingOf rings meeting
IsSweptWith rings vertices Noted (Clear notes) = NoMeeting rings × AreRingsInRange rings × AtLast vertices (λ (key : ℤ). Noted key notes)
