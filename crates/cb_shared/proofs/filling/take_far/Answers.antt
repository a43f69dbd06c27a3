use Rattle.std.proofs.Common.{◌≡◌, ◌∙◌, ℕ, Some, false, get_or, set, ap, sym, lit≤, arith}
use Rattle.std.proofs.Common.{get_or-set_same}
use Rattle.std.specs.Slots.{slots_counts, slots_filled}
use mathlib.Core.Option.{some, some-injective}
use Rattle.cb_shared.proofs.Filled.{not_none}
use Rattle.cb_shared.proofs.filling.take_far.Goals as goal

pub take-slot-requires : goal.take-slot-requires
take-slot-requires c = let one = c.requires.one in
    (omega (arith, one), c.requires.full 0 (lit≤ tt) (omega (arith, one)))

pub free-requires : goal.free-requires
free-requires c = λ k below. let one = c.requires.one in let o = c.take-slot.ensures.others in
    let filled = slots_filled c.args.rows.slots in
    let n = o.2 in let none : k ≡ 0 = omega (arith, one, n, below) in
    ap (λ l. get_or l k false) o.1 ∙ ap (λ (i : ℕ). get_or (set filled 0 false) i false) none
    ∙ get_or-set_same filled 0 false false
    (let counts = (slots_counts c.args.rows.slots).1 in omega (arith, one, counts))

pub unreachable-requires : goal.unreachable-requires
unreachable-requires c = not_none c.requires.home.0
    (some-injective _ _ (sym c.requires.home.1 ∙ c.take-slot.ensures.value) ∙ c.in-None.is)

pub returns : goal.returns
returns c = c.take-slot.ensures.value ∙ ap some (c.in-Some.is ∙ ap Some (sym c.into_far.ensures))
