use Rattle.carbink_c.proofs.Making.{tested_shape, tested_word}
use Rattle.carbink_c.proofs.testing.syndromes_are_zero.Goals as goal

pub is_code_word-requires : goal.is_code_word-requires
is_code_word-requires c = tested_shape c.args.k c.args.r c.args.len c.args.rows.now c.of-given.result c.of-given.ensures c.requires.in_range

pub returns : goal.returns
returns c = tested_word c.args.k c.args.r c.args.len c.args.rows.now c.of-given.result c.is_code_word.result c.of-given.ensures c.is_code_word.ensures
