use Rattle.std.proofs.Common.{◌≡◌, ◌∙◌, ◌<◌, ◌+◌, ◌*◌, ℕ, List, get_or, length, set, refl, ap, sym}
use Rattle.std.proofs.Common.{subst, arith}
use Rattle.std.specs.Slots.{slots_items}
use Rattle.cb_types.specs.declared.config.Config.{Config}
use Rattle.cb_types.specs.declared.config.Field.TheVariants.{Frames}
use Rattle.cb_rule.specs.Words.{base}
use Rattle.cb_world.specs.Plain.{Words}
use Rattle.cb_shared.proofs.Filled.{all_filled, more_filled, none_filled, read_at}
use Rattle.cb_shared.proofs.filling.fill_memory.Goals as goal

pub loop-place-init : goal.loop-place-init
loop-place-init c = (c.args.desk.now.memory, refl, none_filled _ (base c.args.config.now) _)

pub put_memory-requires-clause-place : goal.put_memory-requires-clause-place
put_memory-requires-clause-place c = let inv = c.loop-place.invariant in let f = inv.2.len in
    let all = c.requires.sized.memory ∙ ap (λ (k : Config). 512 * k.frames) c.requires.settings in
    subst (λ (d : Words). c.loop-place.place < length d.memory) (sym inv.1)
    (let l = c.loop-place-test.true in omega (arith, l, f, all))

pub put_memory-requires-clause-blank : goal.put_memory-requires-clause-blank
put_memory-requires-clause-blank c = let inv = c.loop-place.invariant in
    let p = c.loop-place.place in
    ap (λ (d : Words). get_or d.memory p 0) inv.1 ∙ inv.2.rest p (omega arith) ∙ c.requires.blank p

pub loop-place-preserved : goal.loop-place-preserved
loop-place-preserved c = let inv = c.loop-place.invariant in let p = c.loop-place.place in
    let ws = slots_items c.args.rows.now.words in let old = c.args.desk.now.memory in
    let all = c.requires.sized.memory ∙ ap (λ (k : Config). 512 * k.frames) c.requires.settings in
    let within : p < length old = (let l = c.loop-place-test.true in omega (arith, l, all)) in
    let at : 1 + 2 * c.args.config.now.handles + p ≡ base c.args.config.now + p = omega arith in (
      set inv.0 p c.word-found.result,
      c.put_memory.ensures ∙ ap (λ (d : Words). let e : Words = record d {
        memory = set d.memory p c.word-found.result;
      } in e) inv.1,
      more_filled ws (base c.args.config.now) p c.word-found.result old inv.0 within
          ((read_at ws (1 + 2 * c.args.config.now.handles + p) c.word-found.result c.word-found.ensures) ∙ ap (λ (i : ℕ). get_or ws i 0) at) inv.2,
    )

pub returns : goal.returns
returns c = let inv = c.loop-place.invariant in let f = c.args.desk.now in
    let len = c.requires.sized.memory ∙ ap (λ (k : Config). 512 * k.frames) c.requires.settings in
    inv.1 ∙ ap (λ (l : List ℕ). let e : Words = record f { memory = l } in e)
    (all_filled (slots_items c.args.rows.now.words) (base c.args.config.now)
    (512 * c.args.config.now.frames) c.loop-place.place f.memory
    inv.0 len (let out = c.loop-place-test.false in omega (arith, out)) inv.2)

pub overflow_mul-place-end : goal.overflow_mul-place-end
overflow_mul-place-end c = let few = (c.requires.accepted Frames).1 in omega (arith, few)
