use Rattle.mvt_fault.proofs.SignedDecimals.{parsed_decimal_ok}
use Rattle.mvt_fault.proofs.reading.decimal.number_of.Goals as goal

pub returns : goal.returns
returns c = parsed_decimal_ok c.args.decimal.now c.parse.result c.ok.result c.ok.ensures.value c.requires c.parse.ensures.value.0
