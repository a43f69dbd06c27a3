use Rattle.std.proofs.lemmas.Bool.{both_ways}
use Rattle.cb_rma_text.proofs.Windows.{sets_no_window}
use Rattle.cb_rma_text.proofs.header.window_set.Goals as goal

pub returns-then-not-is_window : goal.returns-then-not-is_window
returns-then-not-is_window c =
    sets_no_window c.args.word.now c.in_ok-window.window c.in_ok-window.ensures
    (λ is. both_ways c.is_window.result c.if-not-is_window.true (c.is_window.ensures.1 is))
