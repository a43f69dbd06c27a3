use Rattle.std.proofs.Common.{◌≡◌, ℕ, ◌+◌, ◌*◌, ◌<◌, nat_eq, arith, ap, sym, ◌∙◌}
use Rattle.std.specs.Int.{bit_at}
use Rattle.cb_frame.proofs.Runs.{for_length, four_left, four_starts, two_starts}
use Rattle.cb_frame.proofs.bitmap.starts.Goals as goal

pub returns-then-pages-eq2 : goal.returns-then-pages-eq2
returns-then-pages-eq2 c = λ j below.
    for_length c.args.words.now c.args.i _ c.args.pages 2 j c.if-pages-eq2.true
    (ap (λ x. nat_eq (bit_at x j) 1) c.low_word.ensures
    ∙ two_starts c.args.words.now c.args.i c.two_words-bits.result j c.two_words-bits.ensures below)

pub returns : goal.returns
returns c = λ j below.
    for_length c.args.words.now c.args.i _ c.args.pages 4 j
    (four_left c.args.pages c.requires.pages c.if-pages-eq2.false)
    (ap (λ x. nat_eq (bit_at x j) 1) c.low_word-2.ensures
    ∙ four_starts c.args.words.now c.args.i c.two_words-bits.result j c.two_words-bits.ensures below)
