use Rattle.mvt_fault.proofs.text.polygons.meeting_object.Goals as goal

pub returns : goal.returns
returns c = rw (c.deref.ensures, c.deref-2.ensures, c.deref-3.ensures, c.in_ok-w.ensures.ok, c.in_ok-x.ensures.ok, c.in_ok-y.ensures.ok) at c.written_meeting_object.ensures
