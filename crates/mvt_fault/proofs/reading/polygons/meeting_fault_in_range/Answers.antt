use Rattle.std.proofs.Common.{inl, inr}
use Rattle.mvt_fault.proofs.Candidates.{meeting_out_of_range, meeting_in_range}
use Rattle.mvt_fault.proofs.SignedDecimals.{Writes-bits}
use Rattle.mvt_fault.proofs.reading.polygons.meeting_fault_in_range.Goals as goal

pub returns-in_err-number_of : goal.returns-in_err-number_of
returns-in_err-number_of c = λ d made.
    meeting_out_of_range _ c.from_residual.ensures d _ _ _ _ _ _ _ _ c.requires.x c.requires.y c.requires.w made (inl c.in_err-number_of.ensures)

pub returns-in_err-number_of-2 : goal.returns-in_err-number_of-2
returns-in_err-number_of-2 c = λ d made.
    meeting_out_of_range _ c.from_residual-in_err-number_of-2.ensures d _ _ _ _ _ _ _ _ c.requires.x c.requires.y c.requires.w made
    (inr (inl c.in_err-number_of-2.ensures))

pub returns-in_err-number_of-3 : goal.returns-in_err-number_of-3
returns-in_err-number_of-3 c = λ d made.
    meeting_out_of_range _ c.from_residual-in_err-number_of-3.ensures d _ _ _ _ _ _ _ _ c.requires.x c.requires.y c.requires.w made
    (inr (inr c.in_err-number_of-3.ensures))

pub returns : goal.returns
returns c = λ d made.
    let x = Writes-bits c.args.point.now.x.now _ c.in_ok-number_of.ensures in
    let y = Writes-bits c.args.point.now.y.now _ c.in_ok-number_of-2.ensures in
    let w = Writes-bits c.args.point.now.w.now _ c.in_ok-number_of-3.ensures in
    meeting_in_range d c.args.id.layer c.args.id.feature c.args.id.polygon c.args.first c.args.second _ _ _ _ _ _ x y w made
