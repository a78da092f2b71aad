use Rattle.mvt_draw.proofs.drawing.draw.Goals as goal

pub returns-in-Some-clause-fault : goal.returns-in-Some-clause-fault
returns-in-Some-clause-fault c = c.in-Some.ensures.fault c.args.numbers.now c.new.ensures.all
