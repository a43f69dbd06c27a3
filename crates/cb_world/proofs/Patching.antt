-- The rows of a step are the merged word's, and the pair at its begin.
use Rattle.std.proofs.Common.{◌≡◌, ℕ, ◌+◌, ◌<◌, Bool, true, false, cond, List, [], ◌∷◌, ◌++◌, length, take, get_or, Some, sym, refl, ap, ◌∙◌, subst, arith}
use Rattle.std.specs.List.{slice_get}
use Rattle.std.proofs.lemmas.List.{take_more}
use Rattle.std.proofs.lemmas.Option.{slice_get-get_or}
use Rattle.cb_gf256.specs.Rows.{row_at}
use Rattle.cb_gf256.specs.Row.{row_sum, scaled_row}
use Rattle.cb_code.specs.Coefficients.{AreCoefficients}
use Rattle.cb_member.specs.declared.names.Shard.{Shard}
use Rattle.cb_node.specs.NodesState.{row_under}
use Rattle.cb_set.specs.SetState.{SetState}
use Rattle.cb_world.specs.FarState.{FarState}
use Rattle.cb_world.specs.Joining.{JoiningState}
use Rattle.cb_world.specs.SetWord.{IsSpanWord, IsWordOf}
use Rattle.cb_set.specs.SetState.{parities}
use Rattle.cb_world.specs.Merged.{takes, patched, IsMergedWord}
use Rattle.cb_world.specs.Join.{IsFresh, IsJoinWord, IsJoin}
use Rattle.cb_world.proofs.Merging.{AreTwoWords, merged_parity}

row_same : (x y : List ℕ) → Some x ≡ Some y → x ≡ y
row_same x y e = cc

-- each of a's rows is there, and so is each of b's
a_row : (far : FarState) (pair : JoiningState) (a b : SetState) (wa : List (List ℕ))
    → IsFresh far pair a b → IsWordOf far.nodes far.members a wa → (p : ℕ) (shard : Shard)
    → slice_get pair.shards_a p ≡ Some shard
    → row_under far.nodes shard.node shard.key ≡ Some (row_at wa p)
a_row far pair a b wa f w p shard at =
    w.survive p shard (ap (λ (l : List Shard). slice_get l p) f.a_shards
    ∙ at) (f.a_whole p shard at)

b_row : (far : FarState) (pair : JoiningState) (a b : SetState) (wb : List (List ℕ))
    → IsFresh far pair a b → IsWordOf far.nodes far.members b wb → (p : ℕ) (shard : Shard)
    → slice_get pair.shards_b p ≡ Some shard
    → row_under far.nodes shard.node shard.key ≡ Some (row_at wb p)
b_row far pair a b wb f w p shard at =
    w.survive p shard (ap (λ (l : List Shard). slice_get l p) f.b_shards
    ∙ at) (f.b_whole p shard at)

-- the word that stands at the pair's shards is the merged word of the words of its sets
pub join_is_merged : (far : FarState) (pair : JoiningState) (a b : SetState)
    (wa wb m : List (List ℕ)) (j : IsJoin far pair) → IsFresh far pair a b
    → IsWordOf far.nodes far.members a wa → IsWordOf far.nodes far.members b wb
    → IsJoinWord far pair j.pages j.k j.r m
    → IsMergedWord j.pages j.k j.r pair.taken wa wb m
join_is_merged far pair a b wa wb m j f xa xb x = record {
  word = x.word;
  chosen = λ i l. by_flag i l (takes pair.taken i) refl;
}
  where
    by_flag : (i : ℕ) → i < j.k → (flag : Bool) → takes pair.taken i ≡ flag
        → row_at m i ≡ cond flag (row_at wb i) (row_at wa i)
    by_flag i l true t =
        let d : Shard = record { node = record { n = 0 }; incarnation = 0; key = 0 } in
        let at = slice_get-get_or pair.shards_b i d (omega (arith, l, j.b_count)) in
        row_same (row_at m i) (row_at wb i) (sym (x.b_rows i (get_or pair.shards_b i d) l t at)
        ∙ b_row far pair a b wb f xb i (get_or pair.shards_b i d) at)
    by_flag i l false t =
        let d : Shard = record { node = record { n = 0 }; incarnation = 0; key = 0 } in
        let at = slice_get-get_or pair.shards_a i d (omega (arith, l, j.a_count)) in
        row_same (row_at m i) (row_at wa i) (sym (x.a_rows i (get_or pair.shards_a i d) l t at)
        ∙ a_row far pair a b wa f xa i (get_or pair.shards_a i d) at)

-- the words of the pair's sets are words of the pair's code and length
pub two_words : (far : FarState) (pair : JoiningState) (a b : SetState)
    (table wa wb : List (List ℕ)) (j : IsJoin far pair) → IsFresh far pair a b
    → AreCoefficients j.k j.r table → IsWordOf far.nodes far.members a wa
    → IsWordOf far.nodes far.members b wb → AreTwoWords j.pages j.k j.r table wa wb
two_words far pair a b table wa wb j f c xa xb =
    let fit = j.fit a b f in
    record {
      range = j.range;
      coefficients = c;
      a_word = subst (λ (r : ℕ).
          IsSpanWord j.pages j.k r wa) (omega (
            arith,
            fit.a_count,
            j.a_count,
            ap length f.a_shards,
          )) (subst (λ (k : ℕ).
          IsSpanWord j.pages k (parities a) wa) fit.a_count (subst (λ (n : ℕ).
          IsSpanWord n (length a.positions) (parities a) wa) fit.a_pages xa.code));
      b_word = subst (λ (r : ℕ).
          IsSpanWord j.pages j.k r wb) (omega (
            arith,
            fit.b_count,
            j.b_count,
            ap length f.b_shards,
          )) (subst (λ (k : ℕ).
          IsSpanWord j.pages k (parities b) wb) fit.b_count (subst (λ (n : ℕ).
          IsSpanWord n (length b.positions) (parities b) wb) fit.b_pages xb.code));
    }

-- a parity's step: a's row with the deltas of the taken positions is the merged word's
pub parity_step : (far : FarState) (pair : JoiningState) (a b : SetState)
    (table wa wb m : List (List ℕ)) (j : IsJoin far pair) → IsFresh far pair a b
    → AreCoefficients j.k j.r table → IsWordOf far.nodes far.members a wa
    → IsWordOf far.nodes far.members b wb
    → IsJoinWord far pair j.pages j.k j.r m → (e : ℕ) → e < j.r
    → patched (row_at table e) wa wb (row_at wa (j.k + e)) pair.taken ≡ row_at m (j.k + e)
parity_step far pair a b table wa wb m j f c xa xb x e l =
    merged_parity j.pages j.k j.r table wa wb m pair.taken (two_words far pair a b table wa wb j f c xa xb)
    j.taken (join_is_merged far pair a b wa wb m j f xa xb x) e l

-- the loop over the deltas: one more
patched_append : (factors : List ℕ) (a b : List (List ℕ)) (row : List ℕ) (taken : List ℕ) (i : ℕ)
    → patched factors a b row (taken ++ i ∷ []) ≡ row_sum (patched factors a b row taken)
    (scaled_row (get_or factors i 0) (row_sum (row_at a i) (row_at b i)))
patched_append factors a b row [] i = refl
patched_append factors a b row (q ∷ taken) i =
    patched_append factors a b
    (row_sum row (scaled_row (get_or factors q 0) (row_sum (row_at a q) (row_at b q)))) taken i

pub patched_more : (factors : List ℕ) (a b : List (List ℕ)) (row : List ℕ) (taken : List ℕ) (t : ℕ)
    → t < length taken
    → patched factors a b row (take (t + 1) taken) ≡ row_sum
    (patched factors a b row (take t taken))
    (scaled_row (get_or factors (get_or taken t 0) 0)
    (row_sum (row_at a (get_or taken t 0)) (row_at b (get_or taken t 0))))
patched_more factors a b row taken t l = ap (patched factors a b row) (take_more taken t 0 l)
    ∙ patched_append factors a b row (take t taken) (get_or taken t 0)
