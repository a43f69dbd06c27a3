use Rattle.std.proofs.Common.{ℕ, ◌-◌, ◌++◌, take, replicate, ap, ◌∙◌, arith}
use Rattle.cb_world.specs.LocalMemory.{padded}
use Rattle.cb_world.proofs.Padded.{padded_longer}
use Rattle.cb_world.proofs.local_memory.lengthen.Goals as goal

pub returns-clause-words : goal.returns-clause-words
returns-clause-words c =
    let end = c.min-end.ensures in let front = c.args.front.now in
    let made = rw c.unwrap.ensures at (c.resize.ensures.items) in
    ap (λ l. padded l c.args.count) made
    ∙ ap (λ (n : ℕ). padded (take c.min-end.result front.items
    ++ replicate (c.min-end.result - n) 0) c.args.count) front.ok.0
    ∙ padded_longer front.items c.min-end.result c.args.count
    (let p = c.requires.behind in let q = c.requires.place in let len = front.ok.0 in
    omega (arith, end, p, q, len)) (omega (arith, end))
