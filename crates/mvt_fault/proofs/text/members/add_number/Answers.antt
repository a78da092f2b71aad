use Rattle.mvt_fault.proofs.text.members.add_number.Goals as goal

pub returns : goal.returns
returns c = rw c.from.ensures at c.put.ensures.ok
