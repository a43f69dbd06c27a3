use Rattle.cb_gf256.proofs.PublicLaws.{agreeing_words_are_equal, words_that_agree}
use Rattle.cb_gf256.proofs.erasures.code_laws.Goals as goal

pub returns-clause-agreeing_words_are_equal : goal.returns-clause-agreeing_words_are_equal
returns-clause-agreeing_words_are_equal c = agreeing_words_are_equal

pub returns-clause-words_that_agree : goal.returns-clause-words_that_agree
returns-clause-words_that_agree c = words_that_agree
