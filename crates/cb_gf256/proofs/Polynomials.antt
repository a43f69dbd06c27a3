-- Polynomials with bytes as coefficients: sums, products with a factor, and how many roots there are.
use Rattle.std.proofs.Common.{◌≡◌, ◌≢◌, ℕ, zero, suc, ◌<◌, List, [], ◌∷◌, ◌++◌, length, get_or, All, AllPairs, refl, sym, ap, ap₂, ◌∙◌, ⊎_elim, arith}
use Rattle.std.proofs.lemmas.Bool.{cases_lt}
use lib.Bits.{xor_zero_r, xor_comm, xor_self}
use Rattle.cb_gf256.specs.Sum.{◌⊕◌, sum_over}
use Rattle.cb_gf256.specs.Product.{◌⊗◌}
use Rattle.cb_gf256.specs.Power.{power}
use Rattle.cb_gf256.specs.Row.{row_sum, scaled_row}
use Rattle.cb_gf256.specs.Polynomial.{evaluated}
use Rattle.cb_gf256.proofs.Linear.{product-left, product-right, sum_exchange}
use Rattle.cb_gf256.proofs.FieldLaws.{product-zero, product_comm, product_assoc, product-lt, sum-lt, same_from_zero_sum}
use Rattle.cb_gf256.proofs.PowerLaws.{power-zero, power-suc}
use Rattle.cb_gf256.proofs.RowLemmas.{length-row_sum, length-scaled_row}
use Rattle.cb_gf256.proofs.TableLemmas.{product_nonzero}

-- each number of the list is a byte
abbrev pub AreBytes : List ℕ → Type 0
AreBytes [] = Unit {0}
AreBytes (a ∷ cs) = (a < 256) × AreBytes cs

-- each number of the list is 0
abbrev pub AreAllZero : List ℕ → Type 0
AreAllZero [] = Unit {0}
AreAllZero (a ∷ cs) = (a ≡ 0) × AreAllZero cs

pub evaluated-lt : (cs : List ℕ) (x : ℕ) → AreBytes cs → x < 256 → evaluated cs x < 256
evaluated-lt [] x h k = omega arith
evaluated-lt (a ∷ cs) x h k = sum-lt a (x ⊗ evaluated cs x) h.0 (product-lt x (evaluated cs x) k (evaluated-lt cs x h.1 k))

pub evaluated_zero : (cs : List ℕ) (x : ℕ) → AreAllZero cs → evaluated cs x ≡ 0
evaluated_zero [] x h = refl
evaluated_zero (a ∷ cs) x h = ap₂ (λ b e. b ⊕ x ⊗ e) h.0 (evaluated_zero cs x h.1) ∙ product-zero x

-- ---- operations on polynomials
pub product_swap : (a b c : ℕ) → a < 256 → b < 256 → c < 256 → a ⊗ (b ⊗ c) ≡ b ⊗ (a ⊗ c)
product_swap a b c p q r =
    sym (product_assoc a b c p q r) ∙ ap (λ x. x ⊗ c) (product_comm a b p q) ∙ product_assoc b a c q p r

evaluated-row_sum : (cs bs : List ℕ) (x : ℕ) → length cs ≡ length bs → evaluated (row_sum cs bs) x ≡ evaluated cs x ⊕ evaluated bs x
evaluated-row_sum [] [] x h = refl
evaluated-row_sum [] (b ∷ bs) x h = absurd (omega arith)
evaluated-row_sum (a ∷ cs) [] x h = absurd (omega arith)
evaluated-row_sum (a ∷ cs) (b ∷ bs) x h =
    ap (λ e. (a ⊕ b) ⊕ x ⊗ e) (evaluated-row_sum cs bs x (omega arith))
    ∙ ap (λ e. (a ⊕ b) ⊕ e) (product-right x (evaluated cs x) (evaluated bs x))
    ∙ sum_exchange a b (x ⊗ evaluated cs x) (x ⊗ evaluated bs x)

evaluated-scaled_row : (c : ℕ) (cs : List ℕ) (x : ℕ) → c < 256 → AreBytes cs → x < 256 → evaluated (scaled_row c cs) x ≡ c ⊗ evaluated cs x
evaluated-scaled_row c [] x h k l = sym (product-zero c)
evaluated-scaled_row c (a ∷ cs) x h k l =
    ap (λ e. (c ⊗ a) ⊕ x ⊗ e) (evaluated-scaled_row c cs x h k.1 l)
    ∙ ap (λ e. (c ⊗ a) ⊕ e) (product_swap x c (evaluated cs x) l h (evaluated-lt cs x k.1 l))
    ∙ sym (product-right c a (x ⊗ evaluated cs x))

evaluated-append_zero : (cs : List ℕ) (x : ℕ) → evaluated (cs ++ 0 ∷ []) x ≡ evaluated cs x
evaluated-append_zero [] x = product-zero x
evaluated-append_zero (a ∷ cs) x = ap (λ e. a ⊕ x ⊗ e) (evaluated-append_zero cs x)

AreBytes-row_sum : (cs bs : List ℕ) → AreBytes cs → AreBytes bs → AreBytes (row_sum cs bs)
AreBytes-row_sum [] bs h k = tt
AreBytes-row_sum (a ∷ cs) [] h k = tt
AreBytes-row_sum (a ∷ cs) (b ∷ bs) h k = (sum-lt a b h.0 k.0, AreBytes-row_sum cs bs h.1 k.1)

AreBytes-scaled_row : (c : ℕ) (cs : List ℕ) → c < 256 → AreBytes cs → AreBytes (scaled_row c cs)
AreBytes-scaled_row c [] h k = tt
AreBytes-scaled_row c (a ∷ cs) h k = (product-lt c a h k.0, AreBytes-scaled_row c cs h k.1)

AreBytes-append_zero : (cs : List ℕ) → AreBytes cs → AreBytes (cs ++ 0 ∷ [])
AreBytes-append_zero [] h = (omega arith, tt)
AreBytes-append_zero (a ∷ cs) h = (h.0, AreBytes-append_zero cs h.1)

length-append_zero : (cs : List ℕ) → length (cs ++ 0 ∷ []) ≡ suc (length cs)
length-append_zero [] = refl
length-append_zero (a ∷ cs) = ap suc (length-append_zero cs)

-- ---- how many roots a polynomial has
-- the coefficients of the quotient by x less y
divided : ℕ → List ℕ → List ℕ
divided y [] = []
divided y (a ∷ []) = []
divided y (a ∷ (b ∷ cs)) = evaluated (b ∷ cs) y ∷ divided y (b ∷ cs)

length-divided : (y a : ℕ) (cs : List ℕ) → length (divided y (a ∷ cs)) ≡ length cs
unfolding divided
length-divided y a [] = refl
length-divided y a (b ∷ cs) = ap suc (length-divided y b cs)

AreBytes-divided : (y a : ℕ) (cs : List ℕ) → y < 256 → AreBytes cs → AreBytes (divided y (a ∷ cs))
unfolding divided
AreBytes-divided y a [] h k = tt
AreBytes-divided y a (b ∷ cs) h k = (evaluated-lt (b ∷ cs) y k h, AreBytes-divided y b cs h k.1)

-- two sums that share a term
sum_cancel : (a b c : ℕ) → (a ⊕ b) ⊕ (a ⊕ c) ≡ b ⊕ c
sum_cancel a b c = sum_exchange a b a c ∙ ap (λ x. x ⊕ (b ⊕ c)) (xor_self a) ∙ xor_comm 0 (b ⊕ c) ∙ xor_zero_r (b ⊕ c)

divides : (y a : ℕ) (cs : List ℕ) (x : ℕ) → AreBytes cs → x < 256 → y < 256 → evaluated (a ∷ cs) x ⊕ evaluated (a ∷ cs) y ≡ (x ⊕ y) ⊗ evaluated (divided y (a ∷ cs)) x
unfolding divided
divides y a [] x h k l =
    ap₂ (λ p q. (a ⊕ p) ⊕ (a ⊕ q)) (product-zero x) (product-zero y) ∙ xor_self (a ⊕ 0) ∙ sym (product-zero (x ⊕ y))
divides y a (b ∷ cs) x h k l =
    let ex = evaluated (b ∷ cs) x in
    let ey = evaluated (b ∷ cs) y in
    let q = evaluated (divided y (b ∷ cs)) x in
    let byte_q : q < 256 = evaluated-lt (divided y (b ∷ cs)) x (AreBytes-divided y b cs l h.1) k in
    let quotient : (x ⊕ y) ⊗ (x ⊗ q) ≡ (x ⊗ ex) ⊕ (x ⊗ ey) =
    product_swap (x ⊕ y) x q (sum-lt x y k l) k byte_q
    ∙ ap (λ e. x ⊗ e) (sym (divides y b cs x h.1 k l)) ∙ product-right x ex ey in
    sum_cancel a (x ⊗ ex) (y ⊗ ey)
    ∙ xor_comm (x ⊗ ex) (y ⊗ ey)
    ∙ sym (sum_cancel (x ⊗ ey) (y ⊗ ey) (x ⊗ ex))
    ∙ ap (λ e. ((x ⊗ ey) ⊕ (y ⊗ ey)) ⊕ e) (xor_comm (x ⊗ ey) (x ⊗ ex) ∙ sym quotient)
    ∙ ap (λ e. e ⊕ (x ⊕ y) ⊗ (x ⊗ q)) (sym (product-left x y ey))
    ∙ sym (product-right (x ⊕ y) ey (x ⊗ q))

-- a product is 0 only where a factor is
pub zero_factor : (a b : ℕ) → 0 < a → a < 256 → b < 256 → a ⊗ b ≡ 0 → b ≡ 0
zero_factor a b p q r e =
    ⊎_elim (λ some. let positive : 0 < a ⊗ b = product_nonzero a b p q some r in absurd (omega arith)) (λ none. omega arith) (cases_lt 0 b)

zero_quotient : (y a : ℕ) (cs : List ℕ) → evaluated (a ∷ cs) y ≡ 0 → AreAllZero (divided y (a ∷ cs)) → AreAllZero (a ∷ cs)
unfolding divided
zero_quotient y a [] e h = (sym (xor_zero_r a) ∙ ap (λ p. a ⊕ p) (sym (product-zero y)) ∙ e, tt)
zero_quotient y a (b ∷ cs) e h =
    (sym (xor_zero_r a) ∙ ap (λ p. a ⊕ p) (sym (ap (λ v. y ⊗ v) h.0 ∙ product-zero y)) ∙ e, zero_quotient y b cs h.0 h.1)

pub differ_nonzero : (a b : ℕ) → a ≢ b → 0 < a ⊕ b
differ_nonzero a b h =
    ⊎_elim (λ some. some) (λ none. let same : a ⊕ b ≡ 0 = omega arith in absurd (h (same_from_zero_sum a b same))) (cases_lt 0 (a ⊕ b))

-- a polynomial with as many distinct roots as coefficients is zero
pub zero_from_roots : (n : ℕ) (cs : List ℕ) (root : ℕ → ℕ) → length cs ≡ n → AreBytes cs → ((i : ℕ) → i < n → root i < 256) → ((i j : ℕ) → i < j → j < n → root i ≢ root j) → ((i : ℕ) → i < n → evaluated cs (root i) ≡ 0) → AreAllZero cs
zero_from_roots n [] root e h b d z = tt
zero_from_roots zero (a ∷ cs) root e h b d z = absurd (omega arith)
zero_from_roots (suc n) (a ∷ cs) root e h b d z =
    let y = root n in
    let byte_y : y < 256 = b n (omega arith) in
    let at_y : evaluated (a ∷ cs) y ≡ 0 = z n (omega arith) in
    let q = divided y (a ∷ cs) in
    let bytes : AreBytes q = AreBytes-divided y a cs byte_y h.1 in
    zero_quotient y a cs at_y
    (zero_from_roots n q root (length-divided y a cs ∙ omega arith) bytes
    (λ i k. b i (omega arith))
    (λ i j k l. d i j k (omega arith))
    (λ i k.
    let byte_i : root i < 256 = b i (omega arith) in
    zero_factor (root i ⊕ y) (evaluated q (root i))
    (differ_nonzero (root i) y (d i n k (omega arith)))
    (sum-lt (root i) y byte_i byte_y)
    (evaluated-lt q (root i) bytes byte_i)
    (sym (divides y a cs (root i) h.1 byte_i byte_y) ∙ ap₂ ◌⊕◌ (z i (omega arith)) at_y)))

-- ---- functions that are polynomials on bytes
-- g is on bytes the polynomial of a list with this many coefficients
pub record IsPolynomial (count : ℕ) (g : ℕ → ℕ) : Type 0 where
  pub coefficients : List ℕ
  pub counted : length coefficients ≡ count
  pub bytes : AreBytes coefficients
  pub value : (x : ℕ) → x < 256 → g x ≡ evaluated coefficients x

-- a function with the same values
pub IsPolynomial-same : (n : ℕ) (f g : ℕ → ℕ) → IsPolynomial n f → ((x : ℕ) → x < 256 → g x ≡ f x) → IsPolynomial n g
IsPolynomial-same n f g h e = record {
  coefficients = h.coefficients;
  counted = h.counted;
  bytes = h.bytes;
  value = λ x k. e x k ∙ h.value x k;
}

pub IsPolynomial-lt : (n : ℕ) (g : ℕ → ℕ) → IsPolynomial n g → (x : ℕ) → x < 256 → g x < 256
IsPolynomial-lt n g h x k = omega (arith, h.value x k, evaluated-lt h.coefficients x h.bytes k)

pub IsPolynomial-cons : (n a : ℕ) (g : ℕ → ℕ) → a < 256 → IsPolynomial n g → IsPolynomial (suc n) (λ x. a ⊕ x ⊗ g x)
IsPolynomial-cons n a g k h = record {
  coefficients = a ∷ h.coefficients;
  counted = ap suc h.counted;
  bytes = (k, h.bytes);
  value = λ x l. ap (λ v. a ⊕ x ⊗ v) (h.value x l);
}

pub IsPolynomial-sum : (n : ℕ) (f g : ℕ → ℕ) → IsPolynomial n f → IsPolynomial n g → IsPolynomial n (λ x. f x ⊕ g x)
IsPolynomial-sum n f g h k = record {
  coefficients = row_sum h.coefficients k.coefficients;
  counted = length-row_sum h.coefficients k.coefficients (h.counted ∙ sym k.counted) ∙ h.counted;
  bytes = AreBytes-row_sum h.coefficients k.coefficients h.bytes k.bytes;
  value = λ x l. ap₂ ◌⊕◌ (h.value x l) (k.value x l) ∙ sym (evaluated-row_sum h.coefficients k.coefficients x (h.counted ∙ sym k.counted));
}

pub IsPolynomial-scaled : (n c : ℕ) (g : ℕ → ℕ) → c < 256 → IsPolynomial n g → IsPolynomial n (λ x. c ⊗ g x)
IsPolynomial-scaled n c g k h = record {
  coefficients = scaled_row c h.coefficients;
  counted = length-scaled_row c h.coefficients ∙ h.counted;
  bytes = AreBytes-scaled_row c h.coefficients k h.bytes;
  value = λ x l. ap (λ v. c ⊗ v) (h.value x l) ∙ sym (evaluated-scaled_row c h.coefficients x k h.bytes l);
}

pub IsPolynomial-lift : (n : ℕ) (g : ℕ → ℕ) → IsPolynomial n g → IsPolynomial (suc n) g
IsPolynomial-lift n g h = record {
  coefficients = h.coefficients ++ 0 ∷ [];
  counted = length-append_zero h.coefficients ∙ ap suc h.counted;
  bytes = AreBytes-append_zero h.coefficients h.bytes;
  value = λ x l. h.value x l ∙ sym (evaluated-append_zero h.coefficients x);
}

pub IsPolynomial-zero : (n : ℕ) → IsPolynomial n (λ x. 0)
IsPolynomial-zero zero = record { coefficients = []; counted = refl; bytes = tt; value = λ x l. refl }
IsPolynomial-zero (suc n) =
    IsPolynomial-same (suc n) (λ x. 0 ⊕ x ⊗ 0) (λ x. 0) (IsPolynomial-cons n 0 (λ x. 0) (omega arith) (IsPolynomial-zero n)) (λ x l. sym (product-zero x))

pub IsPolynomial-one : IsPolynomial 1 (λ x. 1)
IsPolynomial-one =
    IsPolynomial-same 1 (λ x. 1 ⊕ x ⊗ 0) (λ x. 1) (IsPolynomial-cons 0 1 (λ x. 0) (omega arith) (IsPolynomial-zero 0)) (λ x l. ap (λ v. 1 ⊕ v) (sym (product-zero x)))

-- with a factor x less y it has one coefficient more
pub IsPolynomial-linear : (n y : ℕ) (g : ℕ → ℕ) → y < 256 → IsPolynomial n g → IsPolynomial (suc n) (λ x. g x ⊗ (x ⊕ y))
IsPolynomial-linear n y g k h =
    IsPolynomial-same (suc n) (λ x. (0 ⊕ x ⊗ g x) ⊕ (y ⊗ g x)) (λ x. g x ⊗ (x ⊕ y))
    (IsPolynomial-sum (suc n) (λ x. 0 ⊕ x ⊗ g x) (λ x. y ⊗ g x) (IsPolynomial-cons n 0 g (omega arith) h) (IsPolynomial-lift n (λ x. y ⊗ g x) (IsPolynomial-scaled n y g k h)))
    (λ x l.
    product_comm (g x) (x ⊕ y) (IsPolynomial-lt n g h x l) (sum-lt x y l k)
    ∙ product-left x y (g x)
    ∙ ap (λ v. v ⊕ (y ⊗ g x)) (sym (xor_zero_r (x ⊗ g x)) ∙ xor_comm (x ⊗ g x) 0))

pub IsPolynomial-power : (n j : ℕ) → j < n → IsPolynomial n (λ x. power x j)
IsPolynomial-power zero j h = absurd (omega arith)
IsPolynomial-power (suc n) zero h =
    IsPolynomial-same (suc n) (λ x. 1 ⊕ x ⊗ 0) (λ x. power x 0) (IsPolynomial-cons n 1 (λ x. 0) (omega arith) (IsPolynomial-zero n))
    (λ x l. power-zero x ∙ ap (λ v. 1 ⊕ v) (sym (product-zero x)))
IsPolynomial-power (suc n) (suc j) h =
    IsPolynomial-same (suc n) (λ x. 0 ⊕ x ⊗ power x j) (λ x. power x (suc j)) (IsPolynomial-cons n 0 (λ x. power x j) (omega arith) (IsPolynomial-power n j (omega arith)))
    (λ x l. power-suc x j ∙ sym (xor_zero_r (x ⊗ power x j)) ∙ xor_comm (x ⊗ power x j) 0)

pub IsPolynomial-sum_over : (n s : ℕ) (g : ℕ → ℕ → ℕ) → ((e : ℕ) → e < s → IsPolynomial n (g e)) → IsPolynomial n (λ x. sum_over s (λ e. g e x))
IsPolynomial-sum_over n zero g h = IsPolynomial-zero n
IsPolynomial-sum_over n (suc s) g h =
    IsPolynomial-sum n (λ x. sum_over s (λ e. g e x)) (g s) (IsPolynomial-sum_over n s g (λ e k. h e (omega arith))) (h s (omega arith))

-- as many roots as coefficients: 0 everywhere
pub IsPolynomial-roots : (n : ℕ) (g root : ℕ → ℕ) → IsPolynomial n g → ((i : ℕ) → i < n → root i < 256) → ((i j : ℕ) → i < j → j < n → root i ≢ root j) → ((i : ℕ) → i < n → g (root i) ≡ 0) → (x : ℕ) → x < 256 → g x ≡ 0
IsPolynomial-roots n g root h b d z x l =
    h.value x l
    ∙ evaluated_zero h.coefficients x
    (zero_from_roots n h.coefficients root h.counted h.bytes b d (λ i k. sym (h.value (root i) (b i k)) ∙ z i k))

-- ---- the same over lists of roots
AreBytes-from_all : (cs : List ℕ) → All (λ a. a < 256) cs → AreBytes cs
AreBytes-from_all [] h = tt
AreBytes-from_all (a ∷ cs) h = (h 0 0 (omega arith), AreBytes-from_all cs (λ k d l. h (suc k) d (omega arith)))

all_from_AreZero : (cs : List ℕ) → AreAllZero cs → All (λ a. a ≡ 0) cs
all_from_AreZero [] h k d l = absurd (omega arith)
all_from_AreZero (a ∷ cs) h zero d l = h.0
all_from_AreZero (a ∷ cs) h (suc k) d l = all_from_AreZero cs h.1 k d (omega arith)

pub roots_make_zero : (coefficients roots : List ℕ) → length coefficients ≡ length roots → All (λ a. a < 256) coefficients → All (λ x. x < 256) roots → AllPairs (λ x y. x ≢ y) roots → All (λ x. evaluated coefficients x ≡ 0) roots → All (λ a. a ≡ 0) coefficients
roots_make_zero coefficients roots count bytes inside differ zeros =
    all_from_AreZero coefficients
    (zero_from_roots (length roots) coefficients (λ i. get_or roots i 0) count (AreBytes-from_all coefficients bytes) (λ i l. inside i 0 l) (λ i j k l. differ i j 0 k l) (λ i l. zeros i 0 l))
