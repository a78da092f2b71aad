use Rattle.mvt_status.proofs.BinaryDigits.{within_digits, least_digits, no_more_digits}
use Rattle.mvt_status.proofs.laws.digits_of_a_number.Goals as goal

pub returns : goal.returns
returns c = record { within = within_digits; least = least_digits; no_more = no_more_digits }
