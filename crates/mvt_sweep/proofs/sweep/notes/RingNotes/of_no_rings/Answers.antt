use Rattle.mvt_sweep.proofs.Notes.NotesBegun.{none_clear, ok_then}
use Rattle.mvt_sweep.proofs.sweep.notes.RingNotes.of_no_rings.Goals as goal

pub returns : goal.returns
returns c = ok_then _ _ c.new.result (λ notes new. none_clear notes new) c.new.ensures
