use Rattle.std.proofs.Common.{ℕ, ◌*◌, ◌-◌, ◌%◌, ◌^◌, false, refl, sym, ap, ◌∙◌, arith, inl, inr}
use Rattle.std.specs.Prelude.{slice_index_or}
use Rattle.std.specs.Int.{bit_at}
use Rattle.std.proofs.lemmas.Bool.{cases_eq}
use Rattle.cb_compact.proofs.Within.{bit_gone, bit_mask, bit_there}
use Rattle.cb_compact.proofs.tables.has_smaller.Goals as goal
use Rattle.cb_compact.proofs.tables.has_smaller.Goals.{else-mask-bit-ne0-via-then-mask-bit-ne0+else-marks-mask, else-mask-bit-ne0-via-else-mask-bit-ne0}

pub overflow_sub-mask : goal.overflow_sub-mask
overflow_sub-mask c =
    let p = c.loop-place.place in
    let l = c.loop-place-test.true in let few = c.requires.few in
    let b = bit_there c.args.mask p (1 * 2 ^ p % 2 ^ 64) (omega (arith, l, few)) refl
    c.if-mask-bit-ne0.true in
    let e = b.0 in let low = b.2 in omega (arith, e, low)

pub loop-place-preserved : goal.loop-place-preserved
loop-place-preserved c bit low on =
    let p = c.loop-place.place in let mask = c.args.mask in
    let l = c.loop-place-test.true in let few = c.requires.few in
    elim (cases_eq bit p) [
      | inl here ↦ elim c.else-mask-bit-ne0.branch [
        | else-mask-bit-ne0-via-then-mask-bit-ne0+else-marks-mask w ↦
            ap (λ (n : ℕ). slice_index_or c.args.marks.now (mask - n) false)
            (ap (λ (n : ℕ). 2 ^ n) here ∙ sym (bit_mask p (omega (arith, l, few))))
            ∙ w.if-marks-mask.false
        | else-mask-bit-ne0-via-else-mask-bit-ne0 w ↦
            absurd (bit_gone mask p (1 * 2 ^ p % 2 ^ 64) (omega (arith, l, few)) refl
            w.if-mask-bit-ne0.false (ap (bit_at mask) (sym here) ∙ on))
      ]
      | inr off ↦ c.loop-place.invariant bit (omega (arith, low, off)) on
    ]
