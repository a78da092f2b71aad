use Rattle.mvt_mender.proofs.ReportTexts.{report_written}
use Rattle.mvt_mender.proofs.report.report_text.Goals as goal

pub returns : goal.returns
returns c = report_written c.args.changes.now _ _ _ c.in_ok-text.ensures.ok c.in_ok-push_list.ensures c.in_ok-push_str.ensures.bytes
