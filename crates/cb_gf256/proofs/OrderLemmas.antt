-- The sum of rows does not depend on their order.
use Rattle.std.proofs.Common.{◌≡◌, ℕ, zero, suc, ◌<◌, List, [], ◌∷◌, length, get_or, set, refl, sym, ap, ◌∙◌, ⊎_elim, arith, fold}
use Rattle.std.specs.List.{swap}
use Rattle.std.specs.List.Sorted.{IsPermutation}
use Rattle.std.proofs.lemmas.Bool.{cases_eq}
use Rattle.std.proofs.lemmas.List.{length-set, get_or-set_same, get_or-set_other}
use Rattle.std.proofs.lemmas.List.Sorted.{IsPermutation-keeps}
use Rattle.cb_gf256.specs.Row.{row_sum}
use Rattle.cb_gf256.specs.Rows.{HaveLength}
use Rattle.cb_gf256.proofs.RowLemmas.{row_sum_comm, row_sum_assoc, row_sum_twice, length-row_sum}

-- two rows are added in either order
turned : (xs ys zs : List ℕ) → row_sum (row_sum xs ys) zs ≡ row_sum (row_sum xs zs) ys
turned xs ys zs = row_sum_assoc xs ys zs ∙ ap (row_sum xs) (row_sum_comm ys zs) ∙ sym (row_sum_assoc xs zs ys)

-- a row that is added first may be added last
first_is_last : (start row : List ℕ) (rows : List (List ℕ)) → fold row_sum (row_sum start row) rows ≡ row_sum (fold row_sum start rows) row
first_is_last start row [] = refl
first_is_last start row (x ∷ xs) = ap (λ s. fold row_sum s xs) (turned start row x) ∙ first_is_last (row_sum start x) row xs

-- the sum after a row was replaced, with the old row added, is the sum before with the new row added
replaced : (start : List ℕ) (rows : List (List ℕ)) (i : ℕ) (new d : List ℕ) → i < length rows → row_sum (fold row_sum start (set rows i new)) (get_or rows i d) ≡ row_sum (fold row_sum start rows) new
replaced start [] i new d h = absurd (omega arith)
replaced start (x ∷ xs) zero new d h =
    ap (λ s. row_sum s x) (first_is_last start new xs) ∙ turned (fold row_sum start xs) new x
    ∙ ap (λ s. row_sum s new) (sym (first_is_last start x xs))
replaced start (x ∷ xs) (suc i) new d h = replaced (row_sum start x) xs i new d (omega arith)

HaveLength-set : (len : ℕ) (rows : List (List ℕ)) (i : ℕ) (new : List ℕ) → HaveLength len rows → length new ≡ len → i < length rows → HaveLength len (set rows i new)
HaveLength-set len rows i new h e l k d m =
    let size : length (set rows i new) ≡ length rows = length-set rows i new in
    ⊎_elim
    (λ same. ap (λ j. length (get_or (set rows i new) j d)) same ∙ ap length (get_or-set_same rows i new d l) ∙ e)
    (λ other. ap length (get_or-set_other rows i k new d other) ∙ h k d (omega arith))
    (cases_eq k i)

length-total : (len : ℕ) (start : List ℕ) (rows : List (List ℕ)) → length start ≡ len → HaveLength len rows → length (fold row_sum start rows) ≡ len
length-total len start [] e h = e
length-total len start (x ∷ xs) e h =
    let first : length x ≡ len = h 0 [] (omega arith) in
    length-total len (row_sum start x) xs (length-row_sum start x (e ∙ sym first) ∙ e) (λ k d l. h (suc k) d (omega arith))

-- two rows that change places leave the sum
exchanged : (len : ℕ) (start : List ℕ) (rows : List (List ℕ)) (i j : ℕ) (d : List ℕ) → length start ≡ len → HaveLength len rows → i < length rows → j < length rows → fold row_sum start (set (set rows i (get_or rows j d)) j (get_or rows i d)) ≡ fold row_sum start rows
exchanged len start rows i j d e h p q =
    let x = get_or rows i d in
    let y = get_or rows j d in
    let once = set rows i y in
    let twice = set once j x in
    let size : length once ≡ length rows = length-set rows i y in
    let long_y : length y ≡ len = h j d q in
    let long_x : length x ≡ len = h i d p in
    let once_ok = HaveLength-set len rows i y h long_y p in
    let twice_ok = HaveLength-set len once j x once_ok long_x (omega arith) in
    let kept : get_or once j d ≡ y =
    ⊎_elim
    (λ same. ap (λ k. get_or once k d) same ∙ get_or-set_same rows i y d p)
    (λ other. get_or-set_other rows i j y d other)
    (cases_eq j i) in
    let sums : row_sum (fold row_sum start twice) y ≡ row_sum (fold row_sum start rows) y =
    ap (row_sum (fold row_sum start twice)) (sym kept) ∙ replaced start once j x d (omega arith) ∙ replaced start rows i y d p in
    sym (row_sum_twice (fold row_sum start twice) y (length-total len start twice e twice_ok ∙ sym long_y))
    ∙ ap (λ s. row_sum s y) sums
    ∙ row_sum_twice (fold row_sum start rows) y (length-total len start rows e h ∙ sym long_y)

record Same (len : ℕ) (start : List ℕ) (rows now : List (List ℕ)) : Type 0 where
  long : HaveLength len now
  total : fold row_sum start now ≡ fold row_sum start rows

same_more : (len : ℕ) (start : List ℕ) (rows now : List (List ℕ)) (i j : ℕ) → length start ≡ len → i < length now → j < length now → Same len start rows now → Same len start rows (swap now i j)
same_more len start rows [] i j e p q s = s
same_more len start rows (d ∷ ys) i j e p q s =
    let now = d ∷ ys in
    let x = get_or now i d in
    let y = get_or now j d in
    let size : length (set now i y) ≡ length now = length-set now i y in
    record {
      long = HaveLength-set len (set now i y) j x (HaveLength-set len now i y s.long (s.long j d q) p) (s.long i d p) (omega arith);
      total = exchanged len start now i j d e s.long p q ∙ s.total;
    }

pub fold-IsPermutation : (len : ℕ) (start : List ℕ) (rows shuffled : List (List ℕ)) → length start ≡ len → HaveLength len rows → IsPermutation rows shuffled → fold row_sum start shuffled ≡ fold row_sum start rows
fold-IsPermutation len start rows shuffled e h p =
    (IsPermutation-keeps rows (Same len start rows) (record { long = h; total = refl }) (λ now i j k l s. same_more len start rows now i j e k l s) shuffled p).total
