use Rattle.std.proofs.Common.{arith}
use Rattle.cb_scrub_text.proofs.HeaderText.{out_of_range}
use Rattle.cb_scrub_text.proofs.header.size_of.Goals as goal

pub returns-then-n-lt1 : goal.returns-then-n-lt1
returns-then-n-lt1 c =
    out_of_range c.args.word.now c.args.name.now c.in_ok-n.n c.args.most c.in_ok-n.ensures.0 c.in_ok-n.ensures.1 c.requires (λ range. omega (arith, range.0, c.if-n-lt1.true))

pub returns-then-n-most : goal.returns-then-n-most
returns-then-n-most c =
    out_of_range c.args.word.now c.args.name.now c.in_ok-n.n c.args.most c.in_ok-n.ensures.0 c.in_ok-n.ensures.1 c.requires (λ range. omega (arith, range.1, c.if-n-most.true))
