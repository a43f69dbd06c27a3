-- The rows that an order for the joining pair takes are those of the words of its sets.
use Rattle.std.proofs.Common.{◌≡◌, ◌∷◌, ℕ, zero, suc, ◌+◌, ◌*◌, ◌^◌, ◌<◌, ◌≤◌, All, List, [], length, get_or, refl, sym, ap, ◌∙◌, subst, arith}
use Rattle.std.specs.List.Sorted.{IsStrictlyIncreasing}
use Rattle.std.proofs.lemmas.List.{get_or_default}
use Rattle.std.proofs.lemmas.Option.{slice_get-get_or}
use Rattle.cb_gf256.specs.Rows.{HaveLength, row_at}
use Rattle.cb_member.specs.declared.names.Shard.{Shard}
use Rattle.cb_node.specs.NodesState.{NodesState}
use Rattle.cb_set.specs.SetState.{SetState, parities}
use Rattle.cb_world.specs.declared.shown.Shown.{Shown}
use Rattle.cb_world.specs.FarState.{FarState}
use Rattle.cb_world.specs.Fetched.{StandAt, with_rows_given}
use Rattle.cb_world.specs.Joining.{JoiningState}
use Rattle.cb_world.specs.Merged.{AreTaken}
use Rattle.cb_world.specs.SetWord.{IsSpanWord}
use Rattle.cb_world.specs.Stored.{AreThere}
use Rattle.cb_compact.specs.Deltas.{HaveAllRows, IsOfCode, StandTogether}
use Rattle.cb_compact.proofs.Laws.{fresh_code, fresh_together, fresh_words, taken_few as few_taken}
use Rattle.cb_local.specs.Delta.{IsOrder, width}
use Rattle.cb_local.specs.Fetching.{AreFetched, CanFetch, HasOrder, IsBlank, IsOrderFetched, rows_given}
use Rattle.cb_local.specs.declared.order.DeltaOrder.{DeltaOrder}
use Rattle.cb_local.proofs.Merged.{wide_row}

-- the taken positions are data positions
pub taken_below : (k : ℕ) (taken : List ℕ) → AreTaken k taken → All (λ p. p < k) taken
taken_below k [] are i d l = absurd (omega (arith, l))
taken_below k (p ∷ taken) are zero d l = are.0
taken_below k (p ∷ taken) are (suc i) d l = taken_below k taken are.2 i d (omega (arith, l))

-- a word's rows stand at any of its positions
stand_at : (nodes : NodesState) (shards : List Shard) (w : List (List ℕ)) (pages k r : ℕ)
    (positions : List ℕ) → HaveAllRows nodes shards w → AreThere nodes shards
    → length shards ≡ k + r → IsSpanWord pages k r w → All (λ p. p < k + r) positions
    → StandAt pages nodes shards w positions
stand_at nodes shards w pages k r positions rows there count word below i l =
    let p = get_or positions i 0 in
    let t : p < k + r = below i 0 l in
    let d : Shard = record { node = record { n = 0 }; incarnation = 0; key = 0 } in
    let shard = get_or shards p d in
    let at = slice_get-get_or shards p d (omega (arith, t, count)) in
    record {
      shard = shard;
      at = at;
      node = there p shard at;
      row = rows p shard at;
      wide = wide_row pages k r w p word t;
    }

-- and so once rows were given out
pub stand_given : (nodes new : NodesState) (shards : List Shard) (w : List (List ℕ))
    (positions : List ℕ) (n : ℕ) {pages : ℕ} → new ≡ with_rows_given nodes n
    → StandAt pages nodes shards w positions → StandAt pages new shards w positions
stand_given nodes new shards w positions n {pages = pages} is stand =
    subst (λ (m : NodesState). StandAt pages m shards w positions) (sym is) (λ i l.
    let x = stand i l in
    record { shard = x.shard; at = x.at; node = x.node; row = x.row; wide = x.wide })

module _ (nodes : NodesState) (pair : JoiningState) (order : DeltaOrder)
    (can : CanFetch nodes pair order) where
  below : All (λ p. p < order.k) pair.taken
  below = taken_below order.k pair.taken can.code.taken

  pub taken_few : length pair.taken ≤ 16
  taken_few = let l = few_taken order.k pair.taken can.code.taken in
      let m = can.code.range.data_most in omega (arith, l, m)

  pub taken_in_a : All (λ p. p < length pair.shards_a) pair.taken
  taken_in_a i d l = let m = below i d l in let n = can.code.a_count in omega (arith, m, n)

  pub taken_in_b : All (λ p. p < length pair.shards_b) pair.taken
  taken_in_b i d l = let m = below i d l in let n = can.code.b_count in omega (arith, m, n)

  taken_within : All (λ p. p < order.k + order.r) pair.taken
  taken_within i d l = let m = below i d l in omega (arith, m)

  pub a_stand : (pages : ℕ) (wa wb : List (List ℕ))
      → StandTogether nodes pair pages order.k order.r wa wb
      → StandAt pages nodes pair.shards_a wa pair.taken
  a_stand pages wa wb x =
      stand_at nodes pair.shards_a wa pages order.k order.r pair.taken x.a_rows can.code.a_nodes
      can.code.a_count x.a_word taken_within

  pub b_stand : (pages : ℕ) (wa wb : List (List ℕ))
      → StandTogether nodes pair pages order.k order.r wa wb
      → StandAt pages nodes pair.shards_b wb pair.taken
  b_stand pages wa wb x =
      stand_at nodes pair.shards_b wb pages order.k order.r pair.taken x.b_rows can.code.b_nodes
      can.code.b_count x.b_word taken_within

  module _ (places : List ℕ) (size : length places ≡ order.r)
      (are : (e : ℕ) → e < order.r → get_or places e 0 ≡ order.k + e) where
    parities_within : All (λ p. p < order.k + order.r) places
    parities_within i d l =
        let e = get_or_default places i d 0 l in
        let p = are i (omega (arith, l, size)) in omega (arith, e, p, l, size)

    pub parity_stand : (pages : ℕ) (wa wb : List (List ℕ))
        → StandTogether nodes pair pages order.k order.r wa wb
        → StandAt pages nodes pair.shards_a wa places
    parity_stand pages wa wb x =
        stand_at nodes pair.shards_a wa pages order.k order.r places x.a_rows can.code.a_nodes
        can.code.a_count x.a_word parities_within

    module _ (old new par : List (List ℕ)) (old_count : length old ≡ length pair.taken)
        (new_count : length new ≡ length pair.taken) (par_count : length par ≡ length places)
        (old_wide : HaveLength (4096 * can.pages) old)
        (new_wide : HaveLength (4096 * can.pages) new)
        (par_wide : HaveLength (4096 * can.pages) par) where
      abbrev after : DeltaOrder
      after = record order { old = old; new = new; parities = par }

      wide : width after ≡ 4096 * can.pages
      wide = let r = can.code.range.parities_least in
          par_wide 0 [] (omega (arith, r, size, par_count))

      is_order : IsOrder after
      is_order = record {
        range = can.code.range;
        ascend = subst (λ (t : List ℕ). IsStrictlyIncreasing t) (sym can.blank.taken_is) can.ascend;
        below = subst (λ (t : List ℕ). All (λ p. p < order.k) t) (sym can.blank.taken_is) below;
        old_count = old_count ∙ sym (ap length can.blank.taken_is);
        new_count = new_count ∙ sym (ap length can.blank.taken_is);
        parity_count = par_count ∙ size;
        old_wide = λ q d l. old_wide q d l ∙ sym wide;
        new_wide = λ q d l. new_wide q d l ∙ sym wide;
        parities_wide = λ q d l. par_wide q d l ∙ sym wide;
      }

      pub are_fetched : ((pages : ℕ) (wa wb : List (List ℕ))
          → StandTogether nodes pair pages order.k order.r wa wb
          → (i : ℕ) → i < length pair.taken → row_at old i ≡ row_at wa (get_or pair.taken i 0))
          → ((pages : ℕ) (wa wb : List (List ℕ))
          → StandTogether nodes pair pages order.k order.r wa wb
          → (i : ℕ) → i < length pair.taken → row_at new i ≡ row_at wb (get_or pair.taken i 0))
          → ((pages : ℕ) (wa wb : List (List ℕ))
          → StandTogether nodes pair pages order.k order.r wa wb
          → (j : ℕ) → j < length places → row_at par j ≡ row_at wa (get_or places j 0))
          → AreFetched nodes pair order after
      are_fetched olds news pars = record {
        order = is_order;
        taken_is = can.blank.taken_is;
        k_is = refl;
        r_is = refl;
        words = λ pages wa wb x. record {
          a_word = x.a_word;
          b_word = x.b_word;
          old_rows = λ i l.
              olds pages wa wb x i (let e = ap length can.blank.taken_is in omega (arith, l, e))
              ∙ ap (λ (t : List ℕ). row_at wa (get_or t i 0)) (sym can.blank.taken_is);
          new_rows = λ i l.
              news pages wa wb x i (let e = ap length can.blank.taken_is in omega (arith, l, e))
              ∙ ap (λ (t : List ℕ). row_at wb (get_or t i 0)) (sym can.blank.taken_is);
          parity_rows = λ j l.
              pars pages wa wb x j (omega (arith, l, size)) ∙ ap (row_at wa) (are j l);
        };
      }

-- along equations of shards and positions
pub stand_along : (nodes : NodesState) (shards other : List Shard) (w : List (List ℕ))
    (ps qs : List ℕ) {pages : ℕ} → shards ≡ other → ps ≡ qs → StandAt pages nodes shards w ps
    → StandAt pages nodes other w qs
stand_along nodes shards other w ps qs {pages = pages} e f stand =
    subst (λ (t : List Shard). StandAt pages nodes t w qs) e
    (subst (λ (t : List ℕ). StandAt pages nodes shards w t) f stand)

-- ---- the joining pair's order
module _ (s : Shown) (far : FarState) (pair : JoiningState) (a b : SetState)
    (h : HasOrder s far pair a b) where
  pub pair_taken : All (λ p. p < length a.positions) pair.taken
  pair_taken = taken_below (length a.positions) pair.taken
      (fresh_code s far pair a b h.sound h.fresh).taken

  pub pair_few : length pair.taken ≤ 16
  pair_few =
      let c = fresh_code s far pair a b h.sound h.fresh in
      let l = few_taken (length a.positions) pair.taken c.taken in
      let m = c.range.data_most in omega (arith, l, m)

  pub pair_small : All (λ p. p < 2 ^ 8) pair.taken
  pair_small i d l =
      let c = fresh_code s far pair a b h.sound h.fresh in
      let p = pair_taken i d l in let m = c.range.data_most in omega (arith, p, m)

  pub pair_rows : rows_given pair.taken (parities a) ≤ 36
  pair_rows =
      let c = fresh_code s far pair a b h.sound h.fresh in
      let l = pair_few in let m = c.range.parities_most in omega (arith, l, m)

  module _ (order : DeltaOrder)
      (blank : IsBlank pair (length a.positions) (parities a) a.pages order) where
    at_code : (P : ℕ → ℕ → Type 0) → P (length a.positions) (parities a) → P order.k order.r
    at_code P x =
        subst (λ (k : ℕ). P k order.r) (sym blank.k_is)
        (subst (λ (r : ℕ). P (length a.positions) r) (sym blank.r_is) x)

    pub can_fetch : CanFetch far.nodes pair order
    can_fetch = record {
      code = at_code (IsOfCode far.nodes pair) (fresh_code s far pair a b h.sound h.fresh);
      ascend = h.ascend;
      pages = a.pages;
      blank = at_code (λ k r. IsBlank pair k r a.pages order) blank;
      words = at_code
          (λ k r. (wa wb : List (List ℕ)) × StandTogether far.nodes pair a.pages k r wa wb)
          (fresh_words s far pair a b h.sound h.fresh);
    }

    pub is_fetched : (new : DeltaOrder) → AreFetched far.nodes pair order new
        → IsOrderFetched far pair a b new
    is_fetched new x = record {
      order_is = x.order;
      taken_is = x.taken_is;
      k_is = x.k_is ∙ blank.k_is;
      r_is = x.r_is ∙ blank.r_is;
      words = λ wa wb xa xb. x.words a.pages wa wb (at_code
          (λ k r. StandTogether far.nodes pair a.pages k r wa wb)
          (fresh_together s far pair a b h.sound h.fresh wa wb xa xb));
    }
