use Rattle.std.proofs.Common.{◌≡◌, ℕ, ◌*◌, ◌^◌, ◌<◌, List, All, sym, subst, ◌∙◌, ap, arith}
use Rattle.cb_world.specs.Memory.{window}
use Rattle.cb_world.specs.RowWords.{row_of}
use Rattle.cb_world.proofs.FrameCopied.{padded_window}
use Rattle.cb_world.proofs.local_memory.LocalMemory.load_frame.Goals as goal

-- the words of the frame are those in front
same : (c : goal.After-slice_known-2-1)
    → window c.reach.new.front.items (512 * c.args.frame) 512 ≡ window c.args.self.now
    (512 * c.args.frame) 512
same c = let reached = c.reach.ensures.reached in let len = c.reach.new.front.ok.0 in
    sym (padded_window c.reach.new.front.items c.self.inside.count (512 * c.args.frame) 512
    (omega (arith, reached, len)))
    ∙ ap (λ (l : List ℕ). window l (512 * c.args.frame) 512)
    (c.reach.ensures.words ∙ c.self.view_is)

pub returns-clause-row : goal.returns-clause-row
returns-clause-row c = c.copy_words.ensures.row ∙ ap row_of (same c)

pub returns-clause-small : goal.returns-clause-small
returns-clause-small c = subst (λ (l : List ℕ). All (λ w. w < 2 ^ 64) l) (same c)
    c.copy_words.ensures.small
