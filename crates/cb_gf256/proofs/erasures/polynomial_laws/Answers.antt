use Rattle.cb_gf256.proofs.PublicLaws.{roots_make_zero}
use Rattle.cb_gf256.proofs.erasures.polynomial_laws.Goals as goal

pub returns : goal.returns
returns c = record { roots_make_zero = roots_make_zero }
