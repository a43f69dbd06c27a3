-- Sums of rows over a block.
use Rattle.std.proofs.Common.{◌≡◌, ℕ, ◌+◌, ◌<◌, ◌≤◌, List, [], length, get_or, replicate, sym, ap, ap₂, subst, ◌∙◌, ⊎_elim, arith, add-one, refl}
use Rattle.std.proofs.lemmas.Bool.{cases_lt}
use Rattle.std.proofs.lemmas.Simd.{get_or-replicate, length-replicate}
use Rattle.cb_gf256.specs.Sum.{◌⊕◌, sum_over}
use Rattle.cb_gf256.specs.Product.{◌⊗◌}
use Rattle.cb_gf256.specs.Rows.{row_at, rows_at, byte_at}
use Rattle.cb_gf256.proofs.PublicLaws.{row_at_positions, sum_over_same, block_placed}
use Rattle.std.specs.List.Sorted.{IsStrictlyIncreasing}
use Rattle.std.specs.Simd.Lanes.{put_chunk}
use Rattle.cb_gf256.specs.Rows.{HaveLength}
use Rattle.cb_gf256.specs.Block.{with_row}
use Rattle.cb_gf256.specs.Combination.{combination}
use Rattle.cb_gf256.specs.Placing.{Placed}
use Rattle.cb_gf256.specs.Lanes.{HasLanes}
use Rattle.cb_erase.specs.Closing.{sum_by, plain_sum, closing_sum, Closes}

-- from a place on, the first m sums of i rows and their plain sum
pub record AreSums (m i at : ℕ) (table shown sums : List (List ℕ)) (plain : List ℕ) : Type 0 where
  pub count : length sums ≡ m
  pub by_factors : (j : ℕ) → j < m → HasLanes (row_at sums j) (λ l. sum_by i table shown j (at + l))
  pub plain_bytes : HasLanes plain (λ l. plain_sum i shown (at + l))

no_sum : HasLanes (replicate 64 0) (λ l. 0)
no_sum = record { count = refl; each = λ l h. get_or-replicate 64 l 0 0 h }

pub no_sums : (m at : ℕ) (table shown : List (List ℕ)) → AreSums m 0 at table shown (replicate m (replicate 64 0)) (replicate 64 0)
no_sums m at table shown = record {
  count = length-replicate m (replicate 64 0);
  by_factors = λ j h. subst (λ row. HasLanes row (λ l. 0)) (sym (get_or-replicate m j (replicate 64 0) [] h)) no_sum;
  plain_bytes = no_sum;
}

pub sums_more : (m i at : ℕ) (table shown sums next : List (List ℕ)) (plain next_plain block : List ℕ) → AreSums m i at table shown sums plain
    → HasLanes block (λ l. byte_at shown i (at + l)) → length next ≡ m
    → ((j : ℕ) → j < m → HasLanes (row_at next j) (λ l. byte_at sums j l ⊕ (byte_at table j i ⊗ get_or block l 0)))
    → HasLanes next_plain (λ l. get_or plain l 0 ⊕ get_or block l 0)
    → AreSums m (i + 1) at table shown next next_plain
sums_more m i at table shown sums next plain next_plain block h b count new new_plain = record {
  count = count;
  by_factors = λ j k. record {
    count = (new j k).count;
    each = λ l q.
        (new j k).each l q
        ∙ ap₂ ◌⊕◌ ((h.by_factors j k).each l q) (ap (λ x. byte_at table j i ⊗ x) (b.each l q))
        ∙ ap (λ n. sum_by n table shown j (at + l)) (sym (add-one i));
  };
  plain_bytes = record {
    count = new_plain.count;
    each = λ l q.
        new_plain.each l q
        ∙ ap₂ ◌⊕◌ (h.plain_bytes.each l q) (b.each l q)
        ∙ ap (λ n. plain_sum n shown (at + l)) (sym (add-one i));
  };
}

-- the last sum has the plain one and all others
pub closing_lanes : (m n at : ℕ) (table shown sums : List (List ℕ)) (plain last : List ℕ) → AreSums m n at table shown sums plain
    → HasLanes last (λ l. get_or plain l 0 ⊕ sum_over m (λ j. byte_at sums j l)) → HasLanes last (λ l. closing_sum m n table shown (at + l))
closing_lanes m n at table shown sums plain last h made = record {
  count = made.count;
  each = λ l q.
      made.each l q
      ∙ ap₂ ◌⊕◌ (h.plain_bytes.each l q)
      (sum_over_same m (λ j. byte_at sums j l) (λ j. sum_by n table shown j (at + l)) (λ j k. (h.by_factors j k).each l q));
}

-- a block is put into the row at target m
pub block_put : (at len : ℕ) (targets : List ℕ) (v : ℕ → ℕ → ℕ) (before now : List (List ℕ)) (m : ℕ) (block : List ℕ) (t : ℕ) (row next : List ℕ) → IsStrictlyIncreasing targets → m < length targets
    → get_or targets m 0 < length now → HaveLength len before → at + 64 ≤ len → length block ≡ 64 → ((l : ℕ) → l < 64 → get_or block l 0 ≡ v m l)
    → t ≡ get_or targets m 0 → row ≡ row_at now t → next ≡ put_chunk at row block
    → Placed 64 at targets v before now m → Placed 64 at targets v before (with_row now t next) (m + 1)
block_put at len targets v before now m block t row next ascend inside within even room long new target old written h =
    subst (λ x. Placed 64 at targets v before (with_row now x next) (m + 1)) (sym target)
    (subst (λ r. Placed 64 at targets v before (with_row now (get_or targets m 0) r) (m + 1))
    (sym (written ∙ ap (λ r. put_chunk at r block) (old ∙ ap (row_at now) target)))
    (block_placed 64 at len targets v before now m block ascend inside within even room long new h))

-- what the whole table makes of the first m sums and of what closes them
pub by_whole : (m n len : ℕ) (table rows whole : List (List ℕ)) (j c : ℕ) → Closes m n len table rows whole → j < m → sum_by n table rows j c ≡ combination (row_at whole j) rows c
by_whole m n len table rows whole j c closes l =
    sum_over_same n (λ i. byte_at table j i ⊗ byte_at rows i c) (λ i. byte_at whole j i ⊗ byte_at rows i c) (λ i h. ap (λ f. f ⊗ byte_at rows i c) (sym (closes.factors j i l h)))
    ∙ ap (λ k. sum_over k (λ i. byte_at whole j i ⊗ byte_at rows i c)) (sym (closes.width j l))

pub sums_by_whole : (m n len at : ℕ) (table rows whole sums : List (List ℕ)) → Closes m n len table rows whole → at + 64 ≤ len
    → ((j : ℕ) → j < m → HasLanes (row_at sums j) (λ l. sum_by n table rows j (at + l))) → HasLanes (row_at sums m) (λ l. closing_sum m n table rows (at + l))
    → (j l : ℕ) → j < m + 1 → l < 64 → byte_at sums j l ≡ combination (row_at whole j) rows (at + l)
sums_by_whole m n len at table rows whole sums closes room by_factors last j l h k =
    ⊎_elim
    (λ below. (by_factors j below).each l k ∙ by_whole m n len table rows whole j (at + l) closes below)
    (λ past.
    let same : m ≡ j = omega arith in
    subst (λ x. byte_at sums x l ≡ combination (row_at whole x) rows (at + l)) same
    (last.each l k ∙ sym (closes.closing (at + l) (omega arith))))
    (cases_lt j m)

-- a block of the row at position i
pub shown_block : (rows : List (List ℕ)) (positions : List ℕ) (i at : ℕ) (row block : List ℕ) → i < length positions → row ≡ row_at rows (get_or positions i 0)
    → HasLanes block (λ l. get_or row (at + l) 0) → HasLanes block (λ l. byte_at (rows_at rows positions) i (at + l))
shown_block rows positions i at row block h e b = record {
  count = b.count;
  each = λ l k. b.each l k ∙ ap (λ x. get_or x (at + l) 0) (e ∙ sym (row_at_positions rows positions i h));
}
