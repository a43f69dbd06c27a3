use Rattle.std.proofs.Common.{ℕ, ◌*◌, ◌/◌, List, length, ◌∙◌, ap, arith}
use Rattle.cb_world.specs.LocalMemory.{padded}
use Rattle.cb_world.specs.Memory.{put}
use Rattle.cb_world.specs.RowWords.{words_in}
use Rattle.cb_world.proofs.FrameCopied.{padded_put}
use Rattle.cb_world.proofs.RowWords.{length_words}
use Rattle.cb_world.proofs.Windows.{length_put}
use Rattle.cb_world.proofs.local_memory.LocalMemory.store_frame.Goals as goal

pub invariant_of-self : goal.invariant_of-self
invariant_of-self c = let e = c.put_words.ensures.room in let r = c.reach.ensures in
    let n = ap length c.put_words.ensures.words
    ∙ length_put c.reach.new.front.items (512 * c.args.frame) (words_in c.args.row.now) in
    let len = c.reach.new.front.ok.0 in let within = r.within in let room = r.room in
    (omega (arith, n, len, within), omega (arith, e, room))

pub returns : goal.returns
returns c = let ws = c.reach.new.front.items in let r = c.reach.ensures in let count =
    c.self.inside.count in
    let reached = r.reached in let len = c.reach.new.front.ok.0 in
    let first = 512 * c.args.frame in let words = words_in c.args.row.now in
    ap (λ (l : List ℕ). padded l count) c.put_words.ensures.words
    ∙ padded_put ws count first words (let w = length_words (length c.args.row.now / 8) c.args.row.now in omega
    (arith, w, c.requires.row, reached, len))
    ∙ ap (λ (l : List ℕ). put l first words) (r.words ∙ c.self.view_is)
