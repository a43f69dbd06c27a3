use Rattle.std.proofs.Common.{◌+◌, ◌*◌, length, ap, sym, ◌∙◌, arith}
use Rattle.carbink_c.proofs.Cutting.{cut_count}
use Rattle.carbink_c.proofs.Making.{present_stands, word_lengths, solution_made}
use Rattle.carbink_c.proofs.solving.put_word.Goals as goal

pub solve_borrowed-requires-clause-count : goal.solve_borrowed-requires-clause-count
solve_borrowed-requires-clause-count c = ap length c.of-shown.ensures ∙ cut_count (c.args.k + c.args.r) c.args.len c.args.rows.now

pub put_others-requires-clause-lengths : goal.put_others-requires-clause-lengths
put_others-requires-clause-lengths c =
    word_lengths c.args.k c.args.r c.args.len c.args.rows.now c.args.present.now c.of-shown.result c.in_ok-word.word c.requires.in_range c.requires.size c.requires.positions
    c.of-shown.ensures c.in_ok-word.ensures.solution

pub put_others-requires-clause-size : goal.put_others-requires-clause-size
put_others-requires-clause-size c = c.requires.size ∙ ap (λ n. n * c.args.len) (sym c.in_ok-word.ensures.solution.is_word.count)

pub returns-clause-made : goal.returns-clause-made
returns-clause-made c =
    solution_made c.args.k c.args.r c.args.len c.args.rows.now c.args.present.now c.of-shown.result c.in_ok-word.word c.requires.in_range c.requires.size c.requires.positions
    c.of-shown.ensures c.in_ok-word.ensures.solution c.put_others.new.buffer c.put_others.ensures c.in_ok-word.ensures.only

pub put_others-requires-clause-few : goal.put_others-requires-clause-few
put_others-requires-clause-few c = omega (arith, c.in_ok-word.ensures.solution.is_word.count, c.requires.in_range.data_most, c.requires.in_range.parities_most)

pub put_others-requires-clause-stand : goal.put_others-requires-clause-stand
put_others-requires-clause-stand c =
    present_stands c.args.k c.args.r c.args.len c.args.rows.now c.args.present.now c.of-shown.result c.in_ok-word.word c.requires.in_range c.requires.size c.requires.positions
    c.of-shown.ensures c.in_ok-word.ensures.solution
