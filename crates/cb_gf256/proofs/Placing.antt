-- Bytes that are put into some rows, from a place on, and sums that are made so.
use Rattle.std.proofs.Common.{◌≡◌, ◌≢◌, ℕ, ◌+◌, ◌-◌, ◌*◌, ◌<◌, ◌≤◌, List, [], ◌∷◌, length, get_or, set, refl, sym, ap, subst, ◌∙◌, ⊎_elim, arith}
use Rattle.std.specs.List.Sorted.{IsStrictlyIncreasing}
use Rattle.std.proofs.lemmas.Bool.{cases_lt, cases_eq}
use Rattle.std.proofs.lemmas.List.{get_or-set_same, get_or-set_other, length-set}
use Rattle.cb_gf256.specs.Rows.{row_at, byte_at, rows_at}
use Rattle.cb_gf256.specs.Combination.{combination, AreCombinations}
use Rattle.std.proofs.Common.{All}
use Rattle.std.proofs.lemmas.List.{length-map}
use Rattle.cb_gf256.proofs.Summing.{row_at-rows_at}
use Rattle.cb_gf256.specs.Placing.{Placed, Combined, Restored, AreDisjoint}
use Rattle.std.proofs.lemmas.Grind.{same_number_lists}
use Rattle.std.specs.Simd.Lanes.{put_chunk}
use Rattle.std.proofs.lemmas.Simd.{length-put_chunk, get_or-put_chunk_at, get_or-put_chunk_below, get_or-put_chunk_above}
use Rattle.cb_gf256.specs.Rows.{HaveLength}
use Rattle.cb_gf256.specs.Block.{cut_rows, with_row}
use Rattle.cb_gf256.proofs.BlockLemmas.{with_row-set, HaveLength-cut_rows, cut_rows-put_chunk, length-cut_rows, set-put_chunk}
use Rattle.cb_gf256.proofs.CornerLemmas.{at_default}
use Rattle.cb_gf256.proofs.LagrangeLemmas.{ascending_apart}

pub placed_none : (w at : ℕ) (targets : List ℕ) (v : ℕ → ℕ → ℕ) (rows : List (List ℕ)) → Placed w at targets v rows rows 0
placed_none w at targets v rows = record {
  count = refl;
  lengths = λ i. refl;
  placed = λ j l h. absurd (omega arith);
  front = λ i c h. refl;
  back = λ i c h. refl;
  others = λ i h. refl;
}

-- what holds of row t and its new bytes holds of it after the write, and the other rows are as they were
set_row : (P : List ℕ → Type 0) (rows : List (List ℕ)) (t i : ℕ) (row : List ℕ) → t < length rows → (t ≡ i → P row) → (t ≢ i → P (row_at rows i)) → P (row_at (set rows t row) i)
set_row P rows t i row within here there =
    ⊎_elim
    (λ same. subst P (sym (ap (row_at (set rows t row)) (sym same) ∙ get_or-set_same rows t row [] within)) (here same))
    (λ other. subst P (sym (get_or-set_other rows t i row [] (λ e. other (sym e)))) (there other))
    (cases_eq t i)

pub placed_more : (w at : ℕ) (targets : List ℕ) (v : ℕ → ℕ → ℕ) (before now : List (List ℕ)) (m : ℕ) (row : List ℕ) → IsStrictlyIncreasing targets → m < length targets
    → get_or targets m 0 < length now → length row ≡ length (row_at now (get_or targets m 0))
    → ((l : ℕ) → l < w → get_or row (at + l) 0 ≡ v m l) → ((c : ℕ) → c < at → get_or row c 0 ≡ byte_at now (get_or targets m 0) c)
    → ((c : ℕ) → at + w ≤ c → get_or row c 0 ≡ byte_at now (get_or targets m 0) c)
    → Placed w at targets v before now m → Placed w at targets v before (set now (get_or targets m 0) row) (m + 1)
placed_more w at targets v before now m row ascend inside within size new old behind h =
    let t = get_or targets m 0 in
    record {
      count = length-set now t row ∙ h.count;
      lengths = λ i. set_row (λ r. length r ≡ length (row_at before i)) now t i row within (λ e. size ∙ ap (λ x. length (row_at now x)) e ∙ h.lengths i) (λ _. h.lengths i);
      placed = λ j l k q.
          ⊎_elim
          (λ below.
          set_row (λ r. get_or r (at + l) 0 ≡ v j l) now t (get_or targets j 0) row within
          (λ e. absurd (omega (arith, ascending_apart targets ascend j m below inside))) (λ _. h.placed j l below q))
          (λ last.
          let same : m ≡ j = omega arith in
          subst (λ x. byte_at (set now t row) (get_or targets x 0) (at + l) ≡ v x l) same (ap (λ r. get_or r (at + l) 0) (get_or-set_same now t row [] within) ∙ new l q))
          (cases_lt j m);
      front = λ i c k. set_row (λ r. get_or r c 0 ≡ byte_at before i c) now t i row within (λ e. old c k ∙ ap (λ x. byte_at now x c) e ∙ h.front i c k) (λ _. h.front i c k);
      back = λ i c k. set_row (λ r. get_or r c 0 ≡ byte_at before i c) now t i row within (λ e. behind c k ∙ ap (λ x. byte_at now x c) e ∙ h.back i c k) (λ _. h.back i c k);
      others = λ i apart. set_row (λ r. r ≡ row_at before i) now t i row within (λ e. absurd (apart m (omega arith) e)) (λ _. h.others i (λ j k. apart j (omega arith)));
    }

-- the columns of a block, where they are put
block_columns : (table shown : List (List ℕ)) (targets : List ℕ) (now next : List (List ℕ)) (w at m : ℕ) → m ≡ length targets → Placed w at targets (λ j l. combination (row_at table j) shown (at + l)) now next m
    → (j c : ℕ) → j < length targets → at ≤ c → c < at + w → byte_at next (get_or targets j 0) c ≡ combination (row_at table j) shown c
block_columns table shown targets now next w at m all p j c k low high =
    let place : at + (c - at) ≡ c = omega arith in
    subst (λ x. byte_at next (get_or targets j 0) x ≡ combination (row_at table j) shown x) place (p.placed j (c - at) (omega arith) (omega arith))

-- the columns after those that are made
pub combined_more : (table shown : List (List ℕ)) (targets : List ℕ) (before now next : List (List ℕ)) (w from at m to : ℕ) → m ≡ length targets → to ≡ at + w → Combined table shown targets before now from at
    → Placed w at targets (λ j l. combination (row_at table j) shown (at + l)) now next m → Combined table shown targets before next from to
combined_more table shown targets before now next w from at m to all e h p = record {
  count = p.count ∙ h.count;
  lengths = λ i. p.lengths i ∙ h.lengths i;
  sums = λ j c k low high.
      ⊎_elim
      (λ below. p.front (get_or targets j 0) c below ∙ h.sums j c k low below)
      (λ above. block_columns table shown targets now next w at m all p j c k above (omega arith))
      (cases_lt c at);
  others = λ i apart. p.others i (λ j k. apart j (omega arith)) ∙ h.others i apart;
}

-- the columns before those that are made
pub combined_before : (table shown : List (List ℕ)) (targets : List ℕ) (before now next : List (List ℕ)) (w at m from to : ℕ) → m ≡ length targets → from ≡ at + w → Combined table shown targets before now from to
    → Placed w at targets (λ j l. combination (row_at table j) shown (at + l)) now next m → Combined table shown targets before next at to
combined_before table shown targets before now next w at m from to all e h p = record {
  count = p.count ∙ h.count;
  lengths = λ i. p.lengths i ∙ h.lengths i;
  sums = λ j c k low high.
      ⊎_elim
      (λ below. block_columns table shown targets now next w at m all p j c k low (omega arith))
      (λ above. p.back (get_or targets j 0) c (omega arith) ∙ h.sums j c k above high)
      (cases_lt c from);
  others = λ i apart. p.others i (λ j k. apart j (omega arith)) ∙ h.others i apart;
}

-- ---- sums beside copies
pub restored_none : (table shown : List (List ℕ)) (targets sources : List ℕ) (rows : List (List ℕ)) (at : ℕ) → Restored table shown targets sources rows rows at at
restored_none table shown targets sources rows at = record {
  count = refl;
  lengths = λ i. refl;
  sums = λ j c h k l. absurd (omega arith);
  kept = λ j c h k l. absurd (omega arith);
  others = λ i h k. refl;
}

-- a block of the copies and then of the sums
copied_columns : (shown : List (List ℕ)) (targets sources : List ℕ) (v : ℕ → ℕ → ℕ) (now mid next : List (List ℕ)) (w at m : ℕ) → m ≡ length targets → AreDisjoint sources targets
    → Placed w at sources (λ i l. byte_at shown i (at + l)) now mid (length sources) → Placed w at targets v mid next m
    → (i c : ℕ) → i < length sources → at ≤ c → c < at + w → byte_at next (get_or sources i 0) c ≡ byte_at shown i c
copied_columns shown targets sources v now mid next w at m all apart copied put i c k low high =
    let place : at + (c - at) ≡ c = omega arith in
    ap (λ row. get_or row c 0) (put.others (get_or sources i 0) (λ j l same. apart i j k (omega arith) (sym same)))
    ∙ subst (λ x. byte_at mid (get_or sources i 0) x ≡ byte_at shown i x) place (copied.placed i (c - at) k (omega arith))

-- the columns before those that are made
pub restored_before : (table shown : List (List ℕ)) (targets sources : List ℕ) (before now mid next : List (List ℕ)) (w at m from to : ℕ) → m ≡ length targets → from ≡ at + w → AreDisjoint sources targets
    → Restored table shown targets sources before now from to
    → Placed w at sources (λ i l. byte_at shown i (at + l)) now mid (length sources) → Placed w at targets (λ j l. combination (row_at table j) shown (at + l)) mid next m
    → Restored table shown targets sources before next at to
restored_before table shown targets sources before now mid next w at m from to all e apart h copied put = record {
  count = put.count ∙ copied.count ∙ h.count;
  lengths = λ i. put.lengths i ∙ copied.lengths i ∙ h.lengths i;
  sums = λ j c k low high.
      ⊎_elim
      (λ below. block_columns table shown targets mid next w at m all put j c k low (omega arith))
      (λ above. put.back (get_or targets j 0) c (omega arith) ∙ copied.back (get_or targets j 0) c (omega arith) ∙ h.sums j c k above high)
      (cases_lt c from);
  kept = λ i c k low high.
      ⊎_elim
      (λ below. copied_columns shown targets sources (λ j l. combination (row_at table j) shown (at + l)) now mid next w at m all apart copied put i c k low (omega arith))
      (λ above. put.back (get_or sources i 0) c (omega arith) ∙ copied.back (get_or sources i 0) c (omega arith) ∙ h.kept i c k above high)
      (cases_lt c from);
  others = λ i out_of_targets out_of_sources. put.others i (λ j k. out_of_targets j (omega arith)) ∙ copied.others i out_of_sources ∙ h.others i out_of_targets out_of_sources;
}

-- the columns after those that are made
pub restored_more : (table shown : List (List ℕ)) (targets sources : List ℕ) (before now mid next : List (List ℕ)) (w from at m to : ℕ) → m ≡ length targets → to ≡ at + w → AreDisjoint sources targets
    → Restored table shown targets sources before now from at
    → Placed w at sources (λ i l. byte_at shown i (at + l)) now mid (length sources) → Placed w at targets (λ j l. combination (row_at table j) shown (at + l)) mid next m
    → Restored table shown targets sources before next from to
restored_more table shown targets sources before now mid next w from at m to all e apart h copied put = record {
  count = put.count ∙ copied.count ∙ h.count;
  lengths = λ i. put.lengths i ∙ copied.lengths i ∙ h.lengths i;
  sums = λ j c k low high.
      ⊎_elim
      (λ below. put.front (get_or targets j 0) c below ∙ copied.front (get_or targets j 0) c below ∙ h.sums j c k low below)
      (λ above. block_columns table shown targets mid next w at m all put j c k above (omega arith))
      (cases_lt c at);
  kept = λ i c k low high.
      ⊎_elim
      (λ below. put.front (get_or sources i 0) c below ∙ copied.front (get_or sources i 0) c below ∙ h.kept i c k low below)
      (λ above. copied_columns shown targets sources (λ j l. combination (row_at table j) shown (at + l)) now mid next w at m all apart copied put i c k above (omega arith))
      (cases_lt c at);
  others = λ i out_of_targets out_of_sources. put.others i (λ j k. out_of_targets j (omega arith)) ∙ copied.others i out_of_sources ∙ h.others i out_of_targets out_of_sources;
}

-- the same with other words for the bytes
pub placed_same : (w at m : ℕ) (targets : List ℕ) (u v : ℕ → ℕ → ℕ) (before now : List (List ℕ)) → ((j l : ℕ) → j < m → l < w → u j l ≡ v j l) → Placed w at targets u before now m → Placed w at targets v before now m
placed_same w at m targets u v before now same h = record {
  count = h.count;
  lengths = h.lengths;
  placed = λ j l k q. h.placed j l k q ∙ same j l k q;
  front = h.front;
  back = h.back;
  others = h.others;
}

pub kept_lengths : (len : ℕ) (before now : List (List ℕ)) → length now ≡ length before → ((i : ℕ) → length (row_at now i) ≡ length (row_at before i)) → HaveLength len before → HaveLength len now
kept_lengths len before now count same h i d k = ap length (at_default now i d [] k) ∙ same i ∙ h i [] (omega arith)

-- some bytes are written over the row at target m
chunk_placed : (w at len : ℕ) (targets : List ℕ) (v : ℕ → ℕ → ℕ) (before now : List (List ℕ)) (m : ℕ) (chunk : List ℕ) → IsStrictlyIncreasing targets → m < length targets
    → get_or targets m 0 < length now → HaveLength len now → at + w ≤ len → length chunk ≡ w → ((l : ℕ) → l < w → get_or chunk l 0 ≡ v m l)
    → Placed w at targets v before now m → Placed w at targets v before (set now (get_or targets m 0) (put_chunk at (row_at now (get_or targets m 0)) chunk)) (m + 1)
chunk_placed w at len targets v before now m chunk ascend inside within even room size new h =
    let row = row_at now (get_or targets m 0) in
    let long : length row ≡ len = even (get_or targets m 0) [] within in
    placed_more w at targets v before now m (put_chunk at row chunk) ascend inside within (length-put_chunk at row chunk)
    (λ l k. get_or-put_chunk_at at row chunk l 0 (omega arith) (omega arith) ∙ new l k)
    (λ c k. get_or-put_chunk_below at row chunk c 0 k)
    (λ c k. get_or-put_chunk_above at row chunk c 0 (omega arith))
    h

-- into rows of which one is lent
pub block_placed : (w at len : ℕ) (targets : List ℕ) (v : ℕ → ℕ → ℕ) (before now : List (List ℕ)) (m : ℕ) (block : List ℕ) → IsStrictlyIncreasing targets → m < length targets
    → get_or targets m 0 < length now → HaveLength len before → at + w ≤ len → length block ≡ w → ((l : ℕ) → l < w → get_or block l 0 ≡ v m l)
    → Placed w at targets v before now m → Placed w at targets v before (with_row now (get_or targets m 0) (put_chunk at (row_at now (get_or targets m 0)) block)) (m + 1)
block_placed w at len targets v before now m block ascend inside within even room size new h =
    let t = get_or targets m 0 in
    let next = put_chunk at (row_at now t) block in
    let lengths = kept_lengths len before now h.count h.lengths even in
    let same : length next ≡ len = length-put_chunk at (row_at now t) block ∙ lengths t [] within in
    subst (λ rows. Placed w at targets v before rows (m + 1)) (sym (with_row-set now t next (λ i d k. lengths i d k ∙ sym same) within))
    (chunk_placed w at len targets v before now m block ascend inside within lengths room size new h)

-- into rows that are cut from a block
pub cut_placed : (w at len n : ℕ) (targets : List ℕ) (v : ℕ → ℕ → ℕ) (before : List (List ℕ)) (block : List ℕ) (m : ℕ) (chunk : List ℕ) → IsStrictlyIncreasing targets → m < length targets
    → get_or targets m 0 < n → length block ≡ n * len → at + w ≤ len → length chunk ≡ w → ((l : ℕ) → l < w → get_or chunk l 0 ≡ v m l)
    → Placed w at targets v before (cut_rows n len block) m → Placed w at targets v before (cut_rows n len (put_chunk (get_or targets m 0 * len + at) block chunk)) (m + 1)
cut_placed w at len n targets v before block m chunk ascend inside within whole room size new h =
    subst (λ rows. Placed w at targets v before rows (m + 1)) (sym (cut_rows-put_chunk n len (get_or targets m 0) at block chunk within (omega arith)))
    (chunk_placed w at len targets v before (cut_rows n len block) m chunk ascend inside (omega (arith, length-cut_rows n len block)) (HaveLength-cut_rows n len block whole) room size new h)

-- one byte
pub byte_placed : (at len n b : ℕ) (targets : List ℕ) (v : ℕ → ℕ → ℕ) (before : List (List ℕ)) (block : List ℕ) (m : ℕ) → IsStrictlyIncreasing targets → m < length targets
    → get_or targets m 0 < n → length block ≡ n * len → at < len → b ≡ v m 0
    → Placed 1 at targets v before (cut_rows n len block) m → Placed 1 at targets v before (cut_rows n len (set block (get_or targets m 0 * len + at) b)) (m + 1)
byte_placed at len n b targets v before block m ascend inside within whole room new h =
    subst (λ bytes. Placed 1 at targets v before (cut_rows n len bytes) (m + 1)) (sym (set-put_chunk block (get_or targets m 0 * len + at) b))
    (cut_placed 1 at len n targets v before block m (b ∷ []) ascend inside within whole (omega arith) refl (λ l k. let first : l ≡ 0 = omega arith in subst (λ x. get_or (b ∷ []) x 0 ≡ v m x) (sym first) new) h)

-- with all columns made, the rows at the targets are the combinations
made_combinations : (table shown : List (List ℕ)) (targets : List ℕ) (before now : List (List ℕ)) (len : ℕ) → length targets ≡ length table → length (row_at shown 0) ≡ len
    → All (λ p. p < length before) targets → HaveLength len before → length now ≡ length before → ((i : ℕ) → length (row_at now i) ≡ length (row_at before i))
    → ((j c : ℕ) → j < length targets → c < len → byte_at now (get_or targets j 0) c ≡ combination (row_at table j) shown c) → AreCombinations table shown (rows_at now targets)
made_combinations table shown targets before now len height first below even count same sums =
    let lengths = kept_lengths len before now count same even in
    record {
      count = length-map targets (row_at now) ∙ height;
      equal_lengths = λ j d k.
          let within : j < length targets = omega (arith, length-map targets (row_at now)) in
          ap length (at_default (rows_at now targets) j d [] k ∙ row_at-rows_at now targets j within)
          ∙ lengths (get_or targets j 0) [] (omega (arith, count, below j 0 within)) ∙ sym first;
      values = λ j c k l.
          let within : j < length targets = omega arith in
          ap (λ row. get_or row c 0) (row_at-rows_at now targets j within) ∙ sums j c within (omega arith);
    }

pub combinations_at : (table shown : List (List ℕ)) (targets : List ℕ) (before now : List (List ℕ)) (len : ℕ) → length targets ≡ length table → length (row_at shown 0) ≡ len
    → All (λ p. p < length before) targets → HaveLength len before → Combined table shown targets before now 0 len → AreCombinations table shown (rows_at now targets)
combinations_at table shown targets before now len height first below even h =
    made_combinations table shown targets before now len height first below even h.count h.lengths (λ j c k l. h.sums j c k (omega arith) l)

pub restored_combinations : (table shown : List (List ℕ)) (targets sources : List ℕ) (before now : List (List ℕ)) (len : ℕ) → length targets ≡ length table → length (row_at shown 0) ≡ len
    → All (λ p. p < length before) targets → HaveLength len before → Restored table shown targets sources before now 0 len → AreCombinations table shown (rows_at now targets)
restored_combinations table shown targets sources before now len height first below even h =
    made_combinations table shown targets before now len height first below even h.count h.lengths (λ j c k l. h.sums j c k (omega arith) l)

-- with all columns made, the rows at the sources are those that were given
pub restored_kept : (table rows : List (List ℕ)) (targets sources : List ℕ) (before now : List (List ℕ)) (len : ℕ) → All (λ p. p < length rows) sources → All (λ p. p < length before) sources
    → HaveLength len rows → HaveLength len before → Restored table (rows_at rows sources) targets sources before now 0 len
    → (i : ℕ) → i < length sources → row_at now (get_or sources i 0) ≡ row_at rows (get_or sources i 0)
restored_kept table rows targets sources before now len inside below given even h i l =
    let p = get_or sources i 0 in
    let long : length (row_at now p) ≡ len = kept_lengths len before now h.count h.lengths even p [] (omega (arith, h.count, below i 0 l)) in
    same_number_lists (row_at now p) (row_at rows p) (long ∙ sym (given p [] (inside i 0 l)))
    (λ c k. h.kept i c l (omega arith) (omega arith) ∙ ap (λ row. get_or row c 0) (row_at-rows_at rows sources i l))

-- the first row of all, and the first of those at some positions, are as long as all others
pub source_rows : (rows : List (List ℕ)) (positions : List ℕ) (len : ℕ) → 0 < length positions → All (λ p. p < length rows) positions → HaveLength len rows
    → (length (row_at rows 0) ≡ len) × (length (row_at (rows_at rows positions) 0) ≡ len)
source_rows rows positions len some below even = (
  even 0 [] (omega (arith, below 0 0 some)),
  ap length (row_at-rows_at rows positions 0 some) ∙ even (get_or positions 0 0) [] (below 0 0 some),
)
