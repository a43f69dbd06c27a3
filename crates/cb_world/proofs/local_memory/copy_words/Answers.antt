use Rattle.std.proofs.Common.{◌≡◌, ℕ, List, ◌+◌, ◌-◌, drop, take, sym, ◌∙◌, ap, arith}
use Rattle.cb_world.specs.RowWords.{row_of}
use Rattle.cb_world.proofs.FrameCopied.{window_is, window_small}
use Rattle.cb_world.proofs.local_memory.copy_words.Goals as goal

pub returns-clause-row : goal.returns-clause-row
returns-clause-row c =
    let items = c.args.words.now.items in let first = c.args.first in
    c.write_u64_into.ensures
    ∙ ap (λ (l : List ℕ). row_of (take (first + 512 - first) (drop first l)))
    c.as_slice-words.ensures.value
    ∙ ap (λ (n : ℕ). row_of (take n (drop first items)))
    (let e : first + 512 - first ≡ 512 = omega arith in e)
    ∙ ap row_of (sym (window_is items first 512 c.requires.within))

pub returns-clause-small : goal.returns-clause-small
returns-clause-small c =
    window_small c.args.words.now.items c.args.first 512 c.type_inv.words c.requires.within
