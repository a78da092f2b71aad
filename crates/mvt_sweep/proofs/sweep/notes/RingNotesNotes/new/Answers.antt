use Rattle.mvt_sweep.specs.Rings.{rings_of}
use Rattle.mvt_sweep.proofs.Notes.NotesBegun.{new_noted, ok_then}
use Rattle.mvt_sweep.proofs.sweep.notes.RingNotesNotes.new.Goals as goal

pub returns : goal.returns
returns c = ok_then _ _ c.new.result (λ notes new vertices proper are key first. new_noted (rings_of c.args.rings.now) vertices key notes proper are first new) c.new.ensures
