use Rattle.std.proofs.Common.{rules}
use Rattle.std.proofs.lemmas.Str.Parse.{numerals_by_value, tells_by_index}
use Rattle.mvt_fault.proofs.reading.decimal.is_positive_numeral.Goals as goal

pub returns-then-is_some_and : goal.returns-then-is_some_and
returns-then-is_some_and c =
    let digits = numerals_by_value _ tells_by_index in
    (λ all. (digits.to _ (c.is_all_digits.ensures.0 all), search rules), λ is. c.is_all_digits.ensures.1 (digits.from _ is.0))
