use Rattle.std.proofs.Common.{◌∙◌, ap}
use Rattle.cb_world.specs.Memory.{put}
use Rattle.cb_world.proofs.FrameCopied.{part_length, part_put, words_read}
use Rattle.cb_world.proofs.local_memory.put_words.Goals as goal

pub returns-clause-words : goal.returns-clause-words
returns-clause-words c =
    let front = c.args.words.now in let dst = c.read_u64_into.new.dst in
    let wide = c.read_u64_into.auto.dst
    ∙ part_length front.items c.deref_mut.result.now c.args.first c.deref_mut.ensures.value
    c.requires.within in
    part_put front.items c.deref_mut.result.now dst c.args.first front.len c.deref_mut.ensures.value
    front.ok.0 c.requires.within wide
    ∙ ap (put front.items c.args.first) (words_read c.args.row.now dst c.requires.row wide
    c.read_u64_into.ensures)
