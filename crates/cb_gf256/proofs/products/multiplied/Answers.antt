use Rattle.std.proofs.Common.{◌≡◌, ℕ, ◌/◌, ◌%◌, ◌*◌, ◌^◌, ◌≢◌, ⊎_elim, get_or, bit_and, cond, eqb, refl, sym, ap, ◌∙◌, arith}
use Rattle.std.specs.Int.{bit_at}
use Rattle.std.proofs.lemmas.Simd.{get_or-replicate}
use Rattle.cb_gf256.specs.Sum.{◌⊕◌, sum_over}
use Rattle.cb_gf256.specs.Product.{◌⊗◌}
use Rattle.cb_gf256.specs.Power.{power}
use Rattle.cb_gf256.proofs.FieldLaws.{zero-product, product-lt}
use Rattle.cb_gf256.proofs.PowerLaws.{one-product, power-zero, power-lt}
use Rattle.cb_gf256.proofs.LaneLemmas.{lane_fits}
use Rattle.cb_gf256.proofs.Halving.{named_power, named_powers, doubling_added, doubled_more}
use Rattle.std.proofs.lemmas.Bool.{cases_eq, ne_eqb, eq-eqb}
use Rattle.std.proofs.lemmas.Nat.{and_mask}
use Rattle.cb_gf256.proofs.products.multiplied.Goals as goal

zero_bit : (x : ℕ) → x % 2 ≢ 1 → x % 2 ≡ 0
zero_bit x other = omega (arith, other)

pub loop-bit-init : goal.loop-bit-init
loop-bit-init c =
    let bytes = c.args.bytes in (
      record { count = refl; each = λ l h. get_or-replicate 32 l 0 0 h ∙ sym (zero-product (get_or bytes l 0)) },
      record {
        count = c.fits-bytes.0;
        each = λ l h. sym (ap (λ p. p ⊗ get_or bytes l 0) (power-zero 2) ∙ one-product (get_or bytes l 0) (lane_fits bytes c.fits-bytes.0 c.fits-bytes.1 l h));
      },
    )

pub loop-bit-preserved : goal.loop-bit-preserved
loop-bit-preserved c =
    let bytes = c.args.bytes in
    let i = c.loop-bit.bit in
    let bit = bit_at c.args.c i in
    let is : bit_and (c.args.c / 2 ^ i) 1 ≡ bit = and_mask (c.args.c / 2 ^ i) 1 in
    let mask_is : bit_and (c.args.c / 2 ^ i) 1 * 255 ≡ cond (eqb bit 1) 255 0 =
    ⊎_elim
    (λ one. ap (λ x. x * 255) (is ∙ one) ∙ sym (ap (λ t. cond t 255 0) (eq-eqb bit 1 one)))
    (λ other. ap (λ x. x * 255) (is ∙ zero_bit (c.args.c / 2 ^ i) other) ∙ sym (ap (λ t. cond t 255 0) (ne_eqb bit 1 other)))
    (cases_eq bit 1) in (
      record {
        count = c.add_halves-sum.ensures.count;
        each = λ l h.
            c.add_halves-sum.ensures.each l h
            ∙ ap (λ x. get_or c.loop-bit.sum l 0 ⊕ x) (c.masked.ensures.each l h)
            ∙ doubling_added c.args.c i (get_or bytes l 0) (get_or c.loop-bit.sum l 0) (get_or c.loop-bit.doubling l 0) (bit_and (c.args.c / 2 ^ i) 1 * 255)
            (c.loop-bit.invariant.0.each l h)
            (omega (arith, c.loop-bit.invariant.1.each l h, product-lt (power 2 i) (get_or bytes l 0) (power-lt 2 i (omega arith)) (lane_fits bytes c.fits-bytes.0 c.fits-bytes.1 l h)))
            (c.loop-bit.invariant.1.each l h) mask_is;
      },
      record {
        count = c.doubled-doubling.ensures.count;
        each = λ l h.
            c.doubled-doubling.ensures.each l h ∙ ap (λ x. 2 ⊗ x) (c.loop-bit.invariant.1.each l h)
            ∙ doubled_more i (get_or bytes l 0) (lane_fits bytes c.fits-bytes.0 c.fits-bytes.1 l h);
      },
    )

pub returns : goal.returns
returns c =
    let bytes = c.args.bytes in
    let all : c.loop-bit.bit ≡ 8 = omega arith in
    record {
      count = c.loop-bit.invariant.0.count;
      each = λ l h.
          c.loop-bit.invariant.0.each l h
          ∙ ap (λ n. sum_over n (named_power c.args.c) ⊗ get_or bytes l 0) all
          ∙ ap (λ x. x ⊗ get_or bytes l 0) (named_powers c.args.c c.ranges.c.fits);
    }
