-- The last of the sums by a closed table.
use Rattle.std.proofs.Common.{◌≡◌, ℕ, ◌+◌, ◌<◌, List, [], length, get_or, set, sym, ap, ap₂, subst, ◌∙◌, arith, add-one, ⊎_elim}
use Rattle.std.proofs.lemmas.Bool.{cases_lt}
use Rattle.std.proofs.lemmas.List.{get_or-set_same, get_or-set_other, length-set}
use lib.Bits.{xor_comm, xor_assoc, xor_zero_r, xor_self}
use Rattle.cb_gf256.specs.Sum.{◌⊕◌, sum_over}
use Rattle.cb_gf256.specs.Product.{◌⊗◌}
use Rattle.cb_gf256.specs.Rows.{row_at, byte_at}
use Rattle.cb_gf256.specs.Lanes.{HasLanes}
use Rattle.cb_gf256.specs.Combination.{combination}
use Rattle.cb_gf256.specs.Corner.{corner, HasCorner}
use Rattle.cb_gf256.specs.Closed.{IsClosed}
use Rattle.cb_gf256.proofs.Summing.{BlockSums, all_summed}
use Rattle.cb_gf256.proofs.Linear.{sum_over-same}
use Rattle.cb_gf256.proofs.SumLaws.{sum_over-product, sum_over-swap}
use Rattle.cb_gf256.proofs.PowerLaws.{one-product}
use Rattle.cb_gf256.proofs.CornerLemmas.{length-corner, row_of_corner, byte_at-corner}

-- one place more at which f is 1
pub one_more : (i : ℕ) (f : ℕ → ℕ) (s : ℕ) → ((m : ℕ) → m < i → f m ≡ 1) → s ≡ f i → s ≡ 1 → (m : ℕ) → m < i + 1 → f m ≡ 1
one_more i f s before e one m h = ⊎_elim (before m) (λ past. ap f (omega arith) ∙ sym e ∙ one) (cases_lt m i)

-- at each of the first k places the factors of all rows add up to 1
abbrev pub AddToOne : ℕ → List (List ℕ) → Type 0
AddToOne k table = (i : ℕ) → i < k → sum_over (length table) (λ j. byte_at table j i) ≡ 1

-- the first k factors of the first n rows are closed where they add up to 1
pub closed_corner : (k n : ℕ) (table : List (List ℕ)) → HasCorner k n table → 0 < n → ((i : ℕ) → i < k → sum_over n (λ j. byte_at table j i) ≡ 1) → IsClosed (corner k n table)
closed_corner k n table h some ones =
    let count : length (corner k n table) ≡ n = length-corner k n table (omega (arith, h.height, h.rows)) in record {
      some = omega (arith, count, some);
      ones = λ i l.
          let place : i < k = row_of_corner k n table 0 i (omega (arith, count, some)) l in
          subst (λ m. sum_over m (λ j. byte_at (corner k n table) j i) ≡ 1) (sym count)
          (sum_over-same n (λ j. byte_at (corner k n table) j i) (λ j. byte_at table j i) (λ j q. byte_at-corner k n table j i (omega (arith, count, q)) place) ∙ ones i place);
    }

-- the sum of the first n rows at a column
abbrev pub plain_sum : ℕ → List (List ℕ) → ℕ → ℕ
plain_sum n rows column = sum_over n (λ i. byte_at rows i column)

-- the last of some terms, by their sum
last_term : (m s : ℕ) (f : ℕ → ℕ) → sum_over (m + 1) f ≡ s → f m ≡ s ⊕ sum_over m f
last_term m s f e =
    let before = sum_over m f in
    let whole : before ⊕ f m ≡ s = sym (ap (λ n. sum_over n f) (add-one m)) ∙ e in
    sym (ap (λ x. x ⊕ before) (sym whole ∙ xor_comm before (f m)) ∙ xor_assoc (f m) before before ∙ ap (λ x. f m ⊕ x) (xor_self before) ∙ xor_zero_r (f m))

-- all sums add up to the sum of the rows
sums_add_up : (r k : ℕ) (w : ℕ → ℕ → ℕ) (x : ℕ → ℕ) → ((i : ℕ) → i < k → sum_over r (λ j. w j i) ≡ 1) → ((i : ℕ) → i < k → x i < 256) → sum_over r (λ j. sum_over k (λ i. w j i ⊗ x i)) ≡ sum_over k x
sums_add_up r k w x ones bytes =
    sum_over-swap r k (λ j i. w j i ⊗ x i)
    ∙ sum_over-same k (λ i. sum_over r (λ j. w j i ⊗ x i)) x
    (λ i h. sym (sum_over-product r (λ j. w j i) (x i)) ∙ ap (λ s. s ⊗ x i) (ones i h) ∙ one-product (x i) (bytes i h))

pub last_sum : (m k column : ℕ) (table rows : List (List ℕ)) → length table ≡ m + 1 → AddToOne k table → ((j : ℕ) → j < m + 1 → length (row_at table j) ≡ k) → ((i : ℕ) → i < k → byte_at rows i column < 256)
    → combination (row_at table m) rows column ≡ plain_sum k rows column ⊕ sum_over m (λ j. combination (row_at table j) rows column)
last_sum m k column table rows height ones width bytes =
    let x = λ (i : ℕ). byte_at rows i column in
    let f = λ (j : ℕ). sum_over k (λ i. byte_at table j i ⊗ x i) in
    let whole : (j : ℕ) → j < m + 1 → combination (row_at table j) rows column ≡ f j = λ j h. ap (λ n. sum_over n (λ i. byte_at table j i ⊗ x i)) (width j h) in
    whole m (omega arith)
    ∙ last_term m (sum_over k x) f (sums_add_up (m + 1) k (byte_at table) x (λ i h. subst (λ n. sum_over n (λ j. byte_at table j i) ≡ 1) height (ones i h)) bytes)
    ∙ ap (λ v. sum_over k x ⊕ v) (sum_over-same m f (λ j. combination (row_at table j) rows column) (λ j h. sym (whole j (omega arith))))

-- the plain sum of one row more
pub plain_more : (i at : ℕ) (shown : List (List ℕ)) (plain block next : List ℕ) → HasLanes plain (λ l. plain_sum i shown (at + l)) → HasLanes block (λ l. byte_at shown i (at + l))
    → HasLanes next (λ l. get_or plain l 0 ⊕ get_or block l 0) → HasLanes next (λ l. plain_sum (i + 1) shown (at + l))
plain_more i at shown plain block next h b n = record {
  count = n.count;
  each = λ l q. n.each l q ∙ ap₂ ◌⊕◌ (h.each l q) (b.each l q) ∙ ap (λ m. plain_sum m shown (at + l)) (sym (add-one i));
}

-- a sum more is added to the last block, and put in its own place
pub closed_more : (j m : ℕ) (plain : List ℕ) (sums all : List (List ℕ)) (next : List ℕ) → j < m → m < length all → ((i : ℕ) → i < j → row_at all i ≡ row_at sums i)
    → HasLanes (row_at all m) (λ l. get_or plain l 0 ⊕ sum_over j (λ i. byte_at sums i l))
    → HasLanes next (λ l. byte_at all m l ⊕ byte_at sums j l)
    → (length (set (set all m next) j (row_at sums j)) ≡ length all)
    × ((i : ℕ) → i < j + 1 → row_at (set (set all m next) j (row_at sums j)) i ≡ row_at sums i)
    × HasLanes (row_at (set (set all m next) j (row_at sums j)) m) (λ l. get_or plain l 0 ⊕ sum_over (j + 1) (λ i. byte_at sums i l))
closed_more j m plain sums all next below inside first h n =
    let own = row_at sums j in
    let put = set all m next in
    let size : length put ≡ length all = length-set all m next in
    let last : next ≡ row_at (set put j own) m = sym (get_or-set_other put j m own [] (λ e. absurd (omega arith)) ∙ get_or-set_same all m next [] inside) in (
      length-set put j own ∙ size,
      λ i k. ⊎_elim
          (λ before. get_or-set_other put j i own [] (λ e. absurd (omega arith)) ∙ get_or-set_other all m i next [] (λ e. absurd (omega arith)) ∙ first i before)
          (λ past. let same : j ≡ i = omega arith in subst (λ x. row_at (set put j own) x ≡ row_at sums x) same (get_or-set_same put j own [] (omega arith)))
          (cases_lt i j),
      subst (λ row. HasLanes row (λ l. get_or plain l 0 ⊕ sum_over (j + 1) (λ i. byte_at sums i l))) last
          (record {
            count = n.count;
            each = λ l q.
                n.each l q
                ∙ ap (λ x. x ⊕ byte_at sums j l) (h.each l q)
                ∙ xor_assoc (get_or plain l 0) (sum_over j (λ i. byte_at sums i l)) (byte_at sums j l)
                ∙ ap (λ x. get_or plain l 0 ⊕ sum_over x (λ i. byte_at sums i l)) (sym (add-one j));
          }),
    )

-- the first m sums, and the last one made of them
pub closed_lanes : (m k at : ℕ) (table shown sums all : List (List ℕ)) (plain : List ℕ) → length table ≡ m + 1 → AddToOne k table → ((j : ℕ) → j < m + 1 → length (row_at table j) ≡ k)
    → ((i l : ℕ) → i < k → l < 64 → byte_at shown i (at + l) < 256) → BlockSums m k at table shown sums → HasLanes plain (λ l. plain_sum k shown (at + l))
    → ((j : ℕ) → j < m → row_at all j ≡ row_at sums j) → HasLanes (row_at all m) (λ l. get_or plain l 0 ⊕ sum_over m (λ j. byte_at sums j l))
    → (j : ℕ) → j < m + 1 → HasLanes (row_at all j) (λ l. combination (row_at table j) shown (at + l))
closed_lanes m k at table shown sums all plain height ones width bytes made p first last =
    let own : (j : ℕ) → j < m → HasLanes (row_at sums j) (λ l. combination (row_at table j) shown (at + l)) =
    λ j h. record { count = (made.lanes j h).count; each = λ l q. (made.lanes j h).each l q ∙ all_summed k (row_at table j) shown (at + l) (width j (omega arith)) } in
    λ j h. ⊎_elim
    (λ below. subst (λ row. HasLanes row (λ l. combination (row_at table j) shown (at + l))) (sym (first j below)) (own j below))
    (λ past.
    let same : m ≡ j = omega arith in
    subst (λ x. HasLanes (row_at all x) (λ l. combination (row_at table x) shown (at + l))) same
    (record {
      count = last.count;
      each = λ l q.
          last.each l q
          ∙ ap₂ ◌⊕◌ (p.each l q) (sum_over-same m (λ x. byte_at sums x l) (λ x. combination (row_at table x) shown (at + l)) (λ x r. (own x r).each l q))
          ∙ sym (last_sum m k (at + l) table shown height ones width (λ i r. bytes i l r q));
    }))
    (cases_lt j m)
