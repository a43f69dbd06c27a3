use Rattle.cb_script.proofs.HexText.{digit_of_value, value_of_digit}
use Rattle.cb_script.proofs.digits.value_of.Goals as goal

pub returns-clause-digit : goal.returns-clause-digit
returns-clause-digit c = digit_of_value c.args.digit c.ranges.digit.fits

pub returns-clause-value : goal.returns-clause-value
returns-clause-value c = value_of_digit c.args.digit c.ranges.digit.fits
