use Rattle.std.proofs.Common.{◌≡◌, ◌∙◌, ◌+◌, ◌<◌, ℕ, length, set, refl, ap, sym, subst, arith}
use Rattle.std.specs.Slots.{slots_items}
use Rattle.cb_types.specs.declared.config.Config.{Config}
use Rattle.cb_rule.specs.Words.{stamps}
use Rattle.cb_world.specs.Memory.{window}
use Rattle.cb_world.specs.Plain.{Words}
use Rattle.cb_shared.proofs.Filled.{all_filled, more_filled, none_filled, read_at}
use Rattle.cb_shared.proofs.filling.fill_objects.Goals as goal

pub loop-h-init : goal.loop-h-init
loop-h-init c = (
  c.args.desk.now.words,
  c.args.desk.now.versions,
  refl,
  none_filled _ 1 _,
  none_filled _ (stamps c.args.config.now) _,
)

pub put_word-requires : goal.put_word-requires
put_word-requires c = let inv = c.loop-h.invariant in
    subst (λ (k : Config). c.loop-h.h < k.handles)
    (sym (ap (λ (d : Words). d.settings) inv.2 ∙ c.requires.settings)) c.loop-h-test.true

pub stamp-requires : goal.stamp-requires
stamp-requires c = let inv = c.loop-h.invariant in
    subst (λ (k : Config). c.loop-h.h < k.handles)
    (sym (ap (λ (d : Words). d.settings) c.put_word.ensures ∙ ap (λ (d : Words). d.settings) inv.2
    ∙ c.requires.settings)) c.loop-h-test.true

pub loop-h-preserved : goal.loop-h-preserved
loop-h-preserved c = let inv = c.loop-h.invariant in let h = c.loop-h.h in
    let old = c.args.desk.now in let ws = slots_items c.args.rows.now.words in
    let w = c.word-word.result in let v = c.word-version.result in
    let handles = ap (λ (k : Config). k.handles) c.requires.settings in
    let in_words : h < length old.words = subst (λ (n : ℕ). h < n)
    (sym (c.requires.sized.words ∙ handles)) c.loop-h-test.true in
    let in_versions : h < length old.versions = subst (λ (n : ℕ). h < n)
    (sym (c.requires.sized.versions ∙ handles)) c.loop-h-test.true in (
      set inv.0 h w,
      set inv.1 h v,
      c.stamp.ensures ∙ ap (λ (d : Words). let e : Words = record d {
        versions = set d.versions h v;
      } in e) (c.put_word.ensures ∙ ap (λ (d : Words). let e : Words = record d {
        words = set d.words h w;
      } in e) inv.2),
      more_filled ws 1 h w old.words inv.0 in_words
          (read_at ws (1 + h) w c.word-word.ensures) inv.3,
      more_filled ws (stamps c.args.config.now) h v old.versions inv.1 in_versions
          (read_at ws (stamps c.args.config.now + h) v c.word-version.ensures) inv.4,
    )

pub returns : goal.returns
returns c = let inv = c.loop-h.invariant in let f = c.args.desk.now in
    let k = c.args.config.now in let ws = slots_items c.args.rows.now.words in
    let out = c.loop-h-test.false in let handles = ap (λ (q : Config). q.handles) c.requires.settings in
    let words : inv.0 ≡ window ws 1 k.handles = all_filled ws 1 k.handles c.loop-h.h f.words inv.0
    (c.requires.sized.words ∙ handles) (omega (arith, out)) inv.3 in
    let versions : inv.1 ≡ window ws (stamps k) k.handles = all_filled ws (stamps k) k.handles
    c.loop-h.h f.versions inv.1 (c.requires.sized.versions ∙ handles) (omega (arith, out)) inv.4 in
    inv.2 ∙ (λ i. record f { words = words i; versions = versions i })
