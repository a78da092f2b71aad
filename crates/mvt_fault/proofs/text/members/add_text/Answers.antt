use Rattle.mvt_fault.proofs.text.members.add_text.Goals as goal

pub returns : goal.returns
returns c = rw c.in_ok-try_from_str.ensures at c.put.ensures.ok
