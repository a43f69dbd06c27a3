-- The begin of a join.
use Rattle.std.proofs.Common.{◌≡◌, ℕ, zero, suc, ◌+◌, ◌<◌, ◌≤◌, Bool, true, false, cond, List, [], ◌∷◌, length, Option, Some, None, is_some, sym, refl, ap, ◌∙◌, subst, arith}
use Rattle.std.specs.List.{slice_get, cons_option}
use Rattle.cb_gf256.specs.Rows.{row_at}
use Rattle.cb_code.specs.Coefficients.{AreCoefficients}
use Rattle.cb_member.specs.declared.names.Shard.{Shard}
use Rattle.cb_member.specs.declared.names.Loss.{Loss}
use Rattle.cb_member.specs.Membership.{Membership, IsMembership, incarnation}
use Rattle.cb_node.specs.NodesState.{NodesState, row_under}
use Rattle.cb_set.specs.SetState.{SetState, live_at}
use Rattle.cb_set.specs.Lost.{is_lost, loss_of, lost}
use Rattle.cb_world.specs.declared.shown.Shown.{Shown}
use Rattle.cb_world.specs.FarState.{FarState}
use Rattle.cb_world.specs.Sets.{set_in, SetMap}
use Rattle.cb_world.specs.Joining.{JoiningState}
use Rattle.cb_world.specs.SetWord.{IsSpanWord, IsShaped}
use Rattle.cb_set.specs.SetState.{parities}
use Rattle.cb_world.specs.FarSound.{IsSetWord, AreShardRows, Owner, of_set, of_leaving, of_joining, IsShardOf, AwaySound}
use Rattle.cb_world.specs.Merged.{IsMergedWord}
use Rattle.cb_world.specs.Join.{NoneLost, AreFit, IsJoin}
use Rattle.cb_world.specs.JoinSteps.{IsBegun}
use Rattle.cb_world.proofs.Merging.{merged_word}
use Rattle.cb_world.proofs.Joined.{sets_kept}

none_some : {X : Type 0} (x : X) → None ≡ Some x → ⊥
none_some x e = cc

pub whole_none : (m : Membership) (shards : List Shard) → lost m shards ≡ [] → NoneLost m shards
whole_none m [] e p shard at = absurd (none_some shard at)
whole_none m (x ∷ xs) e p shard at =
    go (λ f p at. whole_none m xs f p shard at) (loss_of m x) refl p at
  where
    cons_nil : (l : Loss) (ls : List Loss) → (l ∷ ls) ≡ [] → ⊥
    cons_nil l ls f = cc

    same : (a b : Shard) → Some a ≡ Some b → a ≡ b
    same a b f = cc

    go : (lost m xs ≡ [] → (p : ℕ) → slice_get xs p ≡ Some shard → is_lost m shard ≡ false)
        → (o : Option Loss) → loss_of m x ≡ o → (p : ℕ) → slice_get (x ∷ xs) p ≡ Some shard
        → is_lost m shard ≡ false
    go later (Some l) f p at =
        absurd (cons_nil l (lost m xs) (ap (λ o. cons_option o (lost m xs)) (sym f) ∙ e))
    go later None f zero at = ap (is_lost m) (sym (same x shard at)) ∙ ap is_some f
    go later None f (suc p) at = later (ap (λ o. cons_option o (lost m xs)) (sym f) ∙ e) p at

begun_rows : (s : Shown) (far new : FarState) (pair : JoiningState) (a b : SetState)
    → AwaySound s far → IsBegun far new pair a b → AreShardRows new
begun_rows s far new pair a b sound x = record {
  members = subst IsMembership (sym x.left.members) sound.rows.members;
  counted = x.left.nodes ∙ sound.rows.counted
      ∙ ap (λ (m : Membership). length m.nodes) (sym x.left.members);
  room = x.left.room sound.rows.room;
  owned = λ node key row at. let y =
      sound.rows.owned node key row (ap (λ (n : NodesState). row_under n node key) (sym x.nodes)
      ∙ at) in (
        y.0,
        y.1,
        still y.0 y.1 y.2,
        y.3,
        y.4,
        ap (λ (m : Membership). is_lost m y.1) x.left.members ∙ y.5,
      );
  one = λ o q y z is js same. sound.rows.one o q y z (was o y is) (was q z js) same;
  drawn = λ o y is. omega (arith, sound.rows.drawn o y (was o y is), x.left.keys);
  current = λ o y is.
      subst (λ (m : Membership). (y.node.n < length m.nodes)
      × (y.incarnation ≤ incarnation m y.node)) (sym x.left.members)
      (sound.rows.current o y (was o y is));
}
  where
    pair_same : (p q : JoiningState) → Some p ≡ Some q → p ≡ q
    pair_same p q e = cc

    was : (o : Owner) (y : Shard) → IsShardOf new o y → IsShardOf far o y
    was (of_set id q) y is = (is.0, ap (λ (m : SetMap). set_in m id) (sym x.left.sets) ∙ is.1, is.2)
    was (of_leaving q) y is = (is.0, sym x.left.leaving ∙ is.1, is.2)
    was (of_joining q) y is =
        absurd (x.undone q y (ap (λ (p : JoiningState).
        slice_get p.steps q) (pair_same pair is.0 (sym x.now ∙ is.1)) ∙ is.2))

    still : (o : Owner) (y : Shard) → IsShardOf far o y → IsShardOf new o y
    still (of_set id q) y is = (is.0, ap (λ (m : SetMap). set_in m id) x.left.sets ∙ is.1, is.2)
    still (of_leaving q) y is = (is.0, x.left.leaving ∙ is.1, is.2)
    still (of_joining q) y is = absurd (none_some is.0 (sym x.was ∙ is.1))

pub begin_keeps : (s : Shown) (far new : FarState) (pair : JoiningState) (a b : SetState)
    → AwaySound s far → IsBegun far new pair a b → AwaySound s new
begin_keeps s far new pair a b sound x = sets_kept s far new sound x.left (record {
  set_rows = λ id q y is. ap (λ (n : NodesState). row_under n y.node y.key) x.nodes;
  batch_rows = λ q y is. ap (λ (n : NodesState). row_under n y.node y.key) x.nodes;
}) (begun_rows s far new pair a b sound x)

-- and the pair has its merged word
pub begun_join : (s : Shown) (far new : FarState) (pair : JoiningState) (a b : SetState)
    (table : List (List ℕ)) → AwaySound s far
    → AreCoefficients (length a.positions) (parities a) table → IsBegun far new pair a b
    → IsJoin new pair
begun_join s far new pair a b table sound coeffs x = record {
  pages = a.pages;
  k = length a.positions;
  r = parities a;
  range = shaped.range;
  taken = x.taken;
  a_count = ap length x.a_shards ∙ total;
  b_count = ap length x.b_shards ∙ x.shards ∙ total;
  count = x.count ∙ total;
  apart = x.distinct;
  drawn = (
    omega (arith, sound.sets.numbered pair.a a x.a_there, x.left.drawn),
    omega (arith, sound.sets.numbered pair.b b x.b_there, x.left.drawn),
  );
  a_keys = λ p shard at.
      omega (
        arith,
        sound.rows.drawn (of_set pair.a p) shard (
          a,
          x.a_there,
          ap (λ (l : List Shard). slice_get l p) (sym x.a_shards) ∙ at,
        ),
        x.left.keys,
      );
  b_keys = λ p shard at.
      omega (
        arith,
        sound.rows.drawn (of_set pair.b p) shard (
          b,
          x.b_there,
          ap (λ (l : List Shard). slice_get l p) (sym x.b_shards) ∙ at,
        ),
        x.left.keys,
      );
  steps = λ p shard at. absurd (x.undone p shard at);
  beside = λ p shard at. absurd (x.undone p shard at);
  fit = λ c d f. let e =
      same a c (sym x.a_there ∙ ap (λ (m : SetMap). set_in m pair.a) (sym x.left.sets)
      ∙ f.a_there) in let g =
      same b d (sym x.b_there ∙ ap (λ (m : SetMap). set_in m pair.b) (sym x.left.sets)
      ∙ f.b_there) in
      subst (λ (c : SetState).
      AreFit pair a.pages (length a.positions) c d) e (subst (λ (d : SetState).
      AreFit pair a.pages (length a.positions) a d) g (record {
        a_count = refl;
        b_count = x.positions;
        a_pages = refl;
        b_pages = x.matched.pages;
        a_live = λ p l. x.live p ∙ off p l (live_at b p) refl;
        b_live = λ p l. x.live p ∙ l;
      }));
  word = λ c d f. (
    m.0,
    record {
      word = m.1.word;
      a_rows = λ i shard l t at. here shard
          ∙ wa.1.word.survive i shard (ap (λ (l : List Shard). slice_get l i) (sym x.a_shards)
          ∙ at) (whole_none far.members a.shards x.matched.whole_a i shard (ap (λ (l : List Shard).
          slice_get l i) (sym x.a_shards) ∙ at))
          ∙ ap Some (sym (m.1.chosen i l ∙ ap (λ t. cond t (row_at wb.0 i) (row_at wa.0 i)) t));
      b_rows = λ i shard l t at. here shard
          ∙ wb.1.word.survive i shard (ap (λ (l : List Shard). slice_get l i) (sym x.b_shards)
          ∙ at) (whole_none far.members b.shards x.matched.whole_b i shard (ap (λ (l : List Shard).
          slice_get l i) (sym x.b_shards) ∙ at))
          ∙ ap Some (sym (m.1.chosen i l ∙ ap (λ t. cond t (row_at wb.0 i) (row_at wa.0 i)) t));
      new_rows = λ p shard at. absurd (x.undone p shard at);
    },
  );
}
  where
    same : (p q : SetState) → Some p ≡ Some q → p ≡ q
    same p q e = cc

    shaped : IsShaped far.members a
    shaped = sound.sets.shaped pair.a a x.a_there

    total : length a.shards ≡ length a.positions + parities a
    total = omega (arith, shaped.data_first)

    here : (shard : Shard)
        → row_under new.nodes shard.node shard.key ≡ row_under far.nodes shard.node shard.key
    here shard = ap (λ (n : NodesState). row_under n shard.node shard.key) x.nodes

    wa : (rows : List (List ℕ)) × IsSetWord s far.nodes far.members a rows
    wa = sound.sets.worded pair.a a x.a_there

    wb : (rows : List (List ℕ)) × IsSetWord s far.nodes far.members b rows
    wb = sound.sets.worded pair.b b x.b_there

    m : (rows : List (List ℕ))
        × IsMergedWord a.pages (length a.positions) (parities a) pair.taken wa.0 wb.0 rows
    m = merged_word a.pages (length a.positions) (parities a) table wa.0 wb.0 pair.taken (record {
      range = shaped.range;
      coefficients = coeffs;
      a_word = wa.1.word.code;
      b_word = subst (λ (r : ℕ).
          IsSpanWord a.pages (length a.positions) r wb.0) (omega (
            arith,
            x.positions,
            x.shards,
          )) (subst (λ (k : ℕ). IsSpanWord a.pages k (parities b) wb.0) x.positions
          (subst (λ (n : ℕ). IsSpanWord n (length b.positions) (parities b) wb.0) x.matched.pages
          wb.1.word.code));
    }) x.taken

    off : (p : ℕ) → live_at a p ≡ true → (flag : Bool) → live_at b p ≡ flag → live_at b p ≡ false
    off p l true e = absurd (x.matched.apart p l e)
    off p l false e = e
