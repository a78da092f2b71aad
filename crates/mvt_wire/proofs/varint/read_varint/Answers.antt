-- What the bytes begin with leaves one answer: a place has one varint or one defect.
use Rattle.std.proofs.Common.{ap, Ok, Err}
use Rattle.std.proofs.lemmas.List.{take_rest}
use Rattle.mvt_wire.proofs.Encoding.Varints.{one_read, varint_or_defect, one_defect_of_varint}
use Rattle.mvt_wire.proofs.varint.read_varint.Goals as goal

pub returns-in-Some-clause-only : goal.returns-in-Some-clause-only
returns-in-Some-clause-only c n to encoded =
    ap Ok (one_read c.args.bytes.now c.args.at c.in-Some.read n to c.in-Some.ensures encoded)

pub returns-in-Some-clause-refused_only : goal.returns-in-Some-clause-refused_only
returns-in-Some-clause-refused_only c code defect =
    absurd (varint_or_defect c.args.bytes.now c.args.at c.in-Some.read.1 c.in-Some.read.0 code c.in-Some.ensures defect)

pub returns-in-Some-long_varint-clause-only : goal.returns-in-Some-long_varint-clause-only
returns-in-Some-long_varint-clause-only c n to encoded =
    ap Ok (one_read c.args.bytes.now c.args.at c.in-Some-long_varint.read n to c.in-Some-long_varint.ensures.found encoded)

pub returns-in-Some-long_varint-clause-refused_only :
    goal.returns-in-Some-long_varint-clause-refused_only
returns-in-Some-long_varint-clause-refused_only c code defect =
    absurd (varint_or_defect c.args.bytes.now c.args.at c.in-Some-long_varint.read.1 c.in-Some-long_varint.read.0 code c.in-Some-long_varint.ensures.found defect)

pub returns-in-None-clause-only : goal.returns-in-None-clause-only
returns-in-None-clause-only c n to encoded =
    let defect = rw (take_rest c.args.bytes.now c.args.at) at c.varint_defect.ensures in
    absurd (varint_or_defect c.args.bytes.now c.args.at to n c.varint_defect.result encoded defect)

pub returns-in-None-clause-refused_only : goal.returns-in-None-clause-refused_only
returns-in-None-clause-refused_only c code defect =
    let found = rw (take_rest c.args.bytes.now c.args.at) at c.varint_defect.ensures in
    ap Err (one_defect_of_varint _ _ _ found defect)
