use Rattle.std.proofs.Common.{◌∙◌, sym, [], ◌∷◌, ◌++◌}
use Rattle.cb_world.specs.Memory.{window}
use Rattle.cb_world.proofs.Windows.{window_more}
use Rattle.cb_world.proofs.plain_desk.copy_words.Goals as goal

pub loop-i-init : goal.loop-i-init
unfolding window
loop-i-init c = c.new-words.ensures.items

pub loop-i-preserved : goal.loop-i-preserved
loop-i-preserved c = c.in_ok-push.ensures.items
    ∙ (λ i. c.loop-i.invariant i ++ sym c.load.ensures i ∷ [])
    ∙ sym (window_more c.args.memory.now c.args.place c.loop-i.i)
