use Rattle.std.proofs.Common.{◌+◌, ◌-◌, ◌≤◌, ◌<◌, ◌∙◌, ℕ, List, length, get_or, ap, arith, inl}
use Rattle.cb_types.proofs.Replaced.{replaced_inside, replaced_length, replaced_outside}
use Rattle.cb_types.proofs.filling.put_last_bytes.Goals as goal

fits : (c : goal.After-overwrite)
    → c.args.at + (c.len.result - c.args.at) ≤ length c.args.room.now
fits c = let w = c.requires.within in let l = c.len.ensures in omega (arith, w, l)

long : (c : goal.After-overwrite)
    → c.len.result - c.args.at ≤ length c.to_le_bytes-bytes.result
long c = let w = c.requires.last in let l = c.len.ensures in
    let e = ap length c.to_le_bytes-bytes.ensures in omega (arith, w, l, e)

pub returns-clause-inside : goal.returns-clause-inside
returns-clause-inside c j within =
    let left : j < c.len.result - c.args.at =
    (let l = c.len.ensures in omega (arith, l, within)) in
    ap (λ (l : List ℕ). get_or l (c.args.at + j) 0) c.overwrite.ensures.value
    ∙ replaced_inside c.args.at (c.len.result - c.args.at) c.args.room.now
    c.to_le_bytes-bytes.result (fits c) (long c) j left
    ∙ ap (λ (l : List ℕ). get_or l j 0) c.to_le_bytes-bytes.ensures

pub returns-clause-outside : goal.returns-clause-outside
returns-clause-outside c p off =
    ap (λ (l : List ℕ). get_or l p 0) c.overwrite.ensures.value
    ∙ replaced_outside c.args.at (c.len.result - c.args.at) c.args.room.now
    c.to_le_bytes-bytes.result (fits c) (long c) p (inl off)

pub returns-clause-sized : goal.returns-clause-sized
returns-clause-sized c = ap length c.overwrite.ensures.value
    ∙ replaced_length c.args.at (c.len.result - c.args.at) c.args.room.now
    c.to_le_bytes-bytes.result (fits c) (long c)
