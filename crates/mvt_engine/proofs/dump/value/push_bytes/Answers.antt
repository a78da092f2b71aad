use Rattle.mvt_engine.proofs.DumpTexts.{braced}
use Rattle.mvt_engine.proofs.dump.value.push_bytes.Goals as goal

pub returns : goal.returns
returns c = braced c.push_str-2.result _ _ _ _ _ _ c.in_ok-push_str.ensures.bytes c.in_ok-push_digits.ensures c.push_str-2.ensures.bytes
