use Rattle.std.proofs.Common.{◌≡◌, ℕ, List, ◌+◌, ◌-◌, ◌*◌, ◌<◌, ◌∙◌, length, take, drop, get_or, ap, sym, subst, refl, arith}
use Rattle.std.proofs.Math.Nat.{zero-mul}
use Rattle.carbink_c.proofs.Cutting.{filled_more, filled_kept, filled_all, behind_more, behind_put}
use Rattle.std.proofs.lemmas.Bool.{eqb-true}
use Rattle.std.specs.List.{concat}
use Rattle.carbink_c.proofs.buffers.put_others.Goals.{then-not-contains, else-not-contains}
use Rattle.carbink_c.proofs.buffers.put_others.Goals as goal

pub loop-i-init : goal.loop-i-init
loop-i-init c = (ap (λ n. take n c.args.buffer.now) (zero-mul c.args.len), refl)

pub loop-i-preserved : goal.loop-i-preserved
loop-i-preserved c =
    let i = c.loop-i.i in
    let len = c.args.len in
    let rows = c.args.rows.now in
    let old = c.args.buffer.now in
    let within : i < length rows = omega (arith, c.loop-i-test.true, c.count-count.ensures) in
    let sized = c.loop-i.auto.buffer ∙ c.requires.size in
    let Goal = λ (b : List ℕ). (take ((i + 1) * len) b ≡ concat (take (i + 1) rows)) × (drop ((i + 1) * len) b ≡ drop ((i + 1) * len) old) in
    elim c.if-not-contains.branch [
      | then-not-contains w ↦ subst Goal (sym w.buffer-is) (
        filled_more len i (i * len + len - i * len) rows c.loop-i.buffer w.copy_from_slice.new.self within c.requires.lengths sized
            (w.copy_from_slice.ensures.after ∙ w.row.ensures.value) c.loop-i.invariant.0,
        behind_put len i (i * len + len - i * len) rows old c.loop-i.buffer w.copy_from_slice.new.self within c.requires.lengths sized
            (w.copy_from_slice.ensures.after ∙ w.row.ensures.value) refl c.loop-i.invariant.1,
      )
      | else-not-contains w ↦ let stood = w.if-not-contains.ensures.cases in subst Goal (sym w.buffer-is) (
        filled_kept len i rows old c.loop-i.buffer within (c.requires.stand i within (stood.0, stood.1, eqb-true (get_or c.args.positions.now stood.0 i) i (stood.2 i))) c.loop-i.invariant.0 c.loop-i.invariant.1,
        behind_more len i old c.loop-i.buffer c.loop-i.invariant.1,
      )
    ]

pub returns : goal.returns
returns c =
    filled_all c.args.len c.loop-i.i c.args.rows.now c.loop-i.buffer (omega (arith, c.loop-i-test.false, c.loop-i.auto.i-end, c.count-count.ensures)) c.requires.lengths
    (c.loop-i.auto.buffer ∙ c.requires.size) c.loop-i.invariant.0
