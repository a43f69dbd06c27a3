use Rattle.std.proofs.Common.{◌≡◌, ◌+◌, ◌≤◌, ◌∙◌, ℕ, List, length, take, drop, ◌++◌, get_or, ap}
use Rattle.std.proofs.Common.{sym, arith}
use Rattle.std.proofs.lemmas.List.{take_all}
use Rattle.cb_types.proofs.Replaced.{replaced, replaced_inside, replaced_length, replaced_outside}
use Rattle.cb_types.proofs.filling.put_whole_word.Goals as goal

long : (c : goal.After-overwrite) → 8 ≤ length c.to_le_bytes-bytes.result
long c = let e = ap length c.to_le_bytes-bytes.ensures in omega (arith, e)

all : (c : goal.After-overwrite)
    → c.overwrite.new.self ≡ replaced c.args.at 8 c.args.room.now c.to_le_bytes-bytes.result
all c = c.overwrite.ensures.value
    ∙ ap (λ (l : List ℕ). take c.args.at c.args.room.now ++ l
    ++ drop (c.args.at + length l) c.args.room.now)
    (sym (take_all 8 c.to_le_bytes-bytes.result
    (let e = ap length c.to_le_bytes-bytes.ensures in omega (arith, e))))

pub returns-clause-inside : goal.returns-clause-inside
returns-clause-inside c j low = ap (λ (l : List ℕ). get_or l (c.args.at + j) 0) (all c)
    ∙ replaced_inside c.args.at 8 c.args.room.now c.to_le_bytes-bytes.result c.requires.within
    (long c) j low
    ∙ ap (λ (l : List ℕ). get_or l j 0) c.to_le_bytes-bytes.ensures

pub returns-clause-outside : goal.returns-clause-outside
returns-clause-outside c p off = ap (λ (l : List ℕ). get_or l p 0) (all c)
    ∙ replaced_outside c.args.at 8 c.args.room.now c.to_le_bytes-bytes.result c.requires.within
    (long c) p off

pub returns-clause-sized : goal.returns-clause-sized
returns-clause-sized c = ap length (all c)
    ∙ replaced_length c.args.at 8 c.args.room.now c.to_le_bytes-bytes.result c.requires.within
    (long c)
