-- Products by halves and by doublings of a byte.
use Rattle.std.proofs.Common.{◌≡◌, ℕ, ◌+◌, ◌*◌, ◌/◌, ◌%◌, ◌^◌, ◌<◌, leb, eqb, ◌-◌, List, length, get_or, cond, true, false, Bool, bit_and, refl, arith, ap₂, add-one, sym, ap, ◌∙◌}
use Rattle.std.proofs.lemmas.Bool.{eqb-true, lt-ltb, le-ltb}
use Rattle.std.proofs.lemmas.Nat.{and_mask}
use Rattle.std.specs.Int.{bit_at}
use Rattle.std.proofs.lemmas.List.{ext_get_or}
use Rattle.std.proofs.lemmas.List.FromFn.{get_or-map-range_with_len}
use Rattle.cb_gf256.specs.Lanes.{AreLanes}
use Rattle.cb_gf256.specs.Halves.{half_at, half_products, AreHalfProducts}
use Rattle.cb_gf256.specs.declared.products.TheConstants.{HALVES}
use Rattle.cb_gf256.specs.Sum.{◌⊕◌, sum_over}
use Rattle.cb_gf256.specs.Product.{◌⊗◌}
use Rattle.cb_gf256.specs.Power.{power}
use Rattle.cb_gf256.proofs.FieldLaws.{each_below, each_below_at}
use Rattle.cb_gf256.proofs.Linear.{product-right, product-left}
use Rattle.cb_gf256.proofs.FieldLaws.{product_assoc, zero-product, product-one}
use Rattle.cb_gf256.proofs.PowerLaws.{power-add-one, power-lt}

doublings : each_below 256 (λ a. eqb (((a + a) % 2 ^ 8) ⊕ cond (leb 128 a) 29 0) (2 ⊗ a)) ≡ true
unfolding ◌⊗◌
doublings = refl

-- a shift, and 1D where it takes a bit out
pub doubled_byte : (a : ℕ) → a < 256 → ((a + a) % 2 ^ 8) ⊕ cond (leb 128 a) 29 0 ≡ 2 ⊗ a
doubled_byte a h = eqb-true _ _ (each_below_at 256 (λ a. eqb (((a + a) % 2 ^ 8) ⊕ cond (leb 128 a) 29 0) (2 ⊗ a)) doublings a h)

halved : each_below 256 (λ a. eqb ((a % 16) ⊕ 16 * (a / 16)) a) ≡ true
halved = refl

-- the products of the halves add up to the product of the byte
pub halves_add_up : (c a : ℕ) → a < 256 → (c ⊗ (a % 16)) ⊕ (c ⊗ (16 * (a / 16))) ≡ c ⊗ a
halves_add_up c a h =
    sym (product-right c (a % 16) (16 * (a / 16)))
    ∙ ap (λ x. c ⊗ x) (eqb-true _ _ (each_below_at 256 (λ a. eqb ((a % 16) ⊕ 16 * (a / 16)) a) halved a h))

-- the power of 2 that bit i of c names, and 0 where it is not set
abbrev pub named_power : ℕ → ℕ → ℕ
named_power c i = cond (eqb (bit_at c i) 1) (power 2 i) 0

named : each_below 256 (λ c. eqb (sum_over 8 (named_power c)) c) ≡ true
unfolding ◌⊗◌ power
named = refl

-- a byte is the sum of the powers of 2 that its bits name
pub named_powers : (c : ℕ) → c < 256 → sum_over 8 (named_power c) ≡ c
named_powers c h = eqb-true _ _ (each_below_at 256 (λ c. eqb (sum_over 8 (named_power c)) c) named c h)

masked_term : (t : Bool) (p x d mask : ℕ) → d < 256 → d ≡ p ⊗ x → mask ≡ cond t 255 0 → bit_and d mask ≡ cond t p 0 ⊗ x
masked_term true p x d mask h e m = ap (bit_and d) m ∙ and_mask d 8 ∙ omega (arith, e) ∙ e
masked_term false p x d mask h e m = ap (bit_and d) m ∙ and_mask d 0 ∙ omega arith ∙ sym (zero-product x)

-- the doubling that a bit names is added
pub doubling_added : (c i x s d mask : ℕ) → s ≡ sum_over i (named_power c) ⊗ x → d < 256 → d ≡ power 2 i ⊗ x → mask ≡ cond (eqb (bit_at c i) 1) 255 0
    → s ⊕ bit_and d mask ≡ sum_over (i + 1) (named_power c) ⊗ x
doubling_added c i x s d mask hs h e m =
    ap₂ ◌⊕◌ hs (masked_term (eqb (bit_at c i) 1) (power 2 i) x d mask h e m)
    ∙ sym (product-left (sum_over i (named_power c)) (named_power c i) x)
    ∙ ap (λ n. sum_over n (named_power c) ⊗ x) (sym (add-one i))

pub doubled_more : (i x : ℕ) → x < 256 → 2 ⊗ (power 2 i ⊗ x) ≡ power 2 (i + 1) ⊗ x
doubled_more i x h = sym (product_assoc 2 (power 2 i) x (omega arith) (power-lt 2 i (omega arith)) h) ∙ ap (λ p. p ⊗ x) (sym (power-add-one 2 i))

-- ---- the table of a byte's halves
halves_listed : each_below 32 (λ l. eqb (get_or HALVES l 0) (half_at l)) ≡ true
halves_listed = refl

pub half_listed : (l : ℕ) → l < 32 → get_or HALVES l 0 ≡ half_at l
half_listed l h = eqb-true _ _ (each_below_at 32 (λ l. eqb (get_or HALVES l 0) (half_at l)) halves_listed l h)

pub half_product : (c : ℕ) (halves : List ℕ) (l : ℕ) → AreHalfProducts c halves → l < 32 → get_or halves l 0 ≡ c ⊗ half_at l
unfolding half_products
half_product c halves l h k =
    ap (λ xs. get_or xs l 0) h.products ∙ get_or-map-range_with_len (λ x. c ⊗ half_at x) 0 32 l l 0 k (omega arith)

pub length-half_products : (c : ℕ) → length (half_products c) ≡ 32
unfolding half_products
length-half_products c = refl

-- lanes that are c times the halves are the table of c
pub half_products_of : (c : ℕ) (lanes : List ℕ) → c < 256 → AreLanes 32 lanes (λ l. c ⊗ get_or HALVES l 0) → AreHalfProducts c lanes
half_products_of c lanes small h =
    let byte : AreHalfProducts c (half_products c) = record { byte = small; products = refl } in
    record {
      byte = small;
      products =
          ext_get_or 0 lanes (half_products c) (h.count ∙ sym (length-half_products c))
          (λ l k. let within : l < 32 = omega (arith, h.count) in h.each l within ∙ ap (λ x. c ⊗ x) (half_listed l within) ∙ sym (half_product c (half_products c) l byte within));
    }

-- the entry for 1 is the constant
pub entry_of_one : (c : ℕ) (halves : List ℕ) → AreHalfProducts c halves → get_or halves 1 0 ≡ c
entry_of_one c halves h = half_product c halves 1 h (omega arith) ∙ product-one c h.byte

pub low_entry : (c x : ℕ) (halves : List ℕ) → AreHalfProducts c halves → x < 16 → get_or halves x 0 ≡ c ⊗ x
low_entry c x halves h k = half_product c halves x h (omega arith) ∙ ap (λ t. c ⊗ cond t x (16 * (x - 16))) (lt-ltb x 16 k)

pub high_entry : (c x : ℕ) (halves : List ℕ) → AreHalfProducts c halves → x < 16 → get_or halves (16 + x) 0 ≡ c ⊗ (16 * x)
high_entry c x halves h k =
    half_product c halves (16 + x) h (omega arith) ∙ ap (λ t. c ⊗ cond t (16 + x) (16 * (16 + x - 16))) (le-ltb (16 + x) 16 (omega arith))
    ∙ ap (λ n. c ⊗ (16 * n)) (omega arith)

-- the two look-ups of a byte
pub looked_up : (c x : ℕ) (halves : List ℕ) → AreHalfProducts c halves → x < 256 → get_or halves (x % 16) 0 ⊕ get_or halves (16 + x / 16) 0 ≡ c ⊗ x
looked_up c x halves h k = ap₂ ◌⊕◌ (low_entry c (x % 16) halves h (omega arith)) (high_entry c (x / 16) halves h (omega arith)) ∙ halves_add_up c x k
