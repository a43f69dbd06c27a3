-- A step of the joining pair keeps the world sound, and last complete contents.
use Rattle.std.proofs.Common.{◌≡◌, ℕ, ◌<◌, ◌≤◌, ◌&&◌, Bool, true, false, cond, List, length, get_or, Option, Some, None, is_none, refl, sym, ap, ◌∙◌, subst, arith, inl, inr, length-set}
use Rattle.std.specs.Prelude.{Result, Ok, Err, IfOk, OnErr}
use Rattle.cb_member.specs.declared.no_memory.NoMemory.{NoMemory}
use Rattle.std.specs.List.{slice_get}
use Rattle.std.proofs.lemmas.Bool.{cases_eq, lt-ltb}
use Rattle.std.proofs.lemmas.Option.{slice_get-get_or}
use Rattle.cb_member.specs.declared.names.Shard.{Shard}
use Rattle.cb_node.specs.NodesState.{held}
use Rattle.cb_node.proofs.Laws.{row_is_put, put_keeps_other_rows}
use Rattle.cb_set.specs.SetState.{SetState, parities}
use Rattle.cb_world.specs.declared.shown.Shown.{Shown}
use Rattle.cb_world.specs.FarState.{FarState}
use Rattle.cb_world.specs.FarSound.{FarSound, of_set}
use Rattle.cb_world.specs.Join.{IsFresh, IsJoin, IsJoinWord}
use Rattle.cb_world.specs.Joining.{JoiningState}
use Rattle.cb_world.specs.JoinSteps.{IsStepped, with_step}
use Rattle.cb_world.specs.Merged.{IsMergedWord, takes}
use Rattle.cb_world.specs.Reserved.{put_shards}
use Rattle.cb_world.specs.SetWord.{IsWordOf}
use Rattle.cb_world.specs.Sound.{Sound}
use Rattle.cb_world.proofs.Laws.{join_is_merged, pair_now, room_put, stepped_leaves_words, stepped_whole}
use Rattle.cb_types.specs.declared.reply.Reply.{Reply}
use Rattle.cb_compact.specs.PartStep.{IsFreshPair}
use Rattle.cb_compact.specs.PatchStep.{IsMergedRow, IsNext, PatchStep, TakesStep, has_step, shard_beside, with_stepped}
use Rattle.cb_compact.proofs.CompactKeeps.{JoinKeeps, dropped_given, fresh_is, keeps_all, leaves_local, local_sound, parted_keeps}

-- ---- a position whose step is to be done
both_true : (a b : Bool) → (a && b) ≡ true → (a ≡ true) × (b ≡ true)
both_true true b e = (refl, e)
both_true false b e = absurd (no_flag e)
  where
    no_flag : false ≡ true → ⊥
    no_flag g = cc

none_is : (o : Option Shard) → is_none o ≡ true → o ≡ None
none_is None e = refl
none_is (Some x) e = absurd (no_flag e)
  where
    no_flag : false ≡ true → ⊥
    no_flag g = cc

pub step_is_none : (pair : JoiningState) (k p : ℕ) → IsNext pair k p
    → slice_get pair.steps p ≡ Some None
step_is_none pair k p x =
    slice_get-get_or pair.steps p None x.within
    ∙ ap Some (none_is (get_or pair.steps p None)
    (both_true (has_step pair k p) (is_none (get_or pair.steps p None)) x.undone).1)

pub step_is_taken : (pair : JoiningState) (k p : ℕ) → IsNext pair k p → p < k
    → takes pair.taken p ≡ true
step_is_taken pair k p x below =
    sym (ap (λ (b : Bool). cond b (takes pair.taken p) true) (lt-ltb p k below))
    ∙ (both_true (has_step pair k p) (is_none (get_or pair.steps p None)) x.undone).0

-- ---- the pair's code
pub record HasPairCode (far : FarState) (pair : JoiningState) (a b : SetState) (j : IsJoin far pair)
    : Type 0 where
  pub pages : a.pages ≡ j.pages
  pub k : length a.positions ≡ j.k
  pub r : parities a ≡ j.r

pub counted : (far : FarState) (pair : JoiningState) (a b : SetState) (j : IsJoin far pair)
    → IsFreshPair far pair a b → HasPairCode far pair a b j
counted far pair a b j fresh =
    let fit = j.fit a b (fresh_is far pair a b fresh) in let k = fit.a_count in
    record {
      pages = fit.a_pages;
      k = k;
      r = let n = j.a_count in let e = ap length fresh.a_stands.same in omega (arith, k, n, e);
    }

-- the merged word that stands at the pair's shards is that of the sets' words
pub word_merged : (far : FarState) (pair : JoiningState) (a b : SetState) (j : IsJoin far pair)
    (wa wb m : List (List ℕ)) → IsFreshPair far pair a b → IsWordOf far.nodes far.members a wa
    → IsWordOf far.nodes far.members b wb → IsJoinWord far pair j.pages j.k j.r m
    → IsMergedWord a.pages (length a.positions) (parities a) pair.taken wa wb m
word_merged far pair a b j wa wb m fresh xa xb x =
    let c = counted far pair a b j fresh in
    subst (λ (n : ℕ). IsMergedWord n (length a.positions) (parities a) pair.taken wa wb m)
    (sym c.pages)
    (subst (λ (k : ℕ). IsMergedWord j.pages k (parities a) pair.taken wa wb m) (sym c.k)
    (subst (λ (r : ℕ). IsMergedWord j.pages j.k r pair.taken wa wb m) (sym c.r)
    (join_is_merged far pair a b wa wb m j (fresh_is far pair a b fresh) xa xb x)))

-- ---- one step
module _ (s : Shown) (far : FarState) (pair : JoiningState) (a b : SetState) (p : ℕ) (old : Shard)
    (row : List ℕ) (sound : Sound s far) (fresh : IsFreshPair far pair a b)
    (next : IsNext pair (length a.positions) p) (at : slice_get pair.shards_a p ≡ Some old)
    (merged : IsMergedRow far pair a b p row) (fits : held far.nodes old.node < far.nodes.room)
  where
    abbrev shard : Shard
    shard = shard_beside far old

    abbrev after : FarState
    after = with_stepped far pair p shard row

    j : IsJoin far pair
    j = sound.away.join pair fresh.was

    is_fresh : IsFresh far pair a b
    is_fresh = fresh_is far pair a b fresh

    within : old.node.n < length far.nodes.nodes
    within =
        let rows = sound.away.sound.rows in
        let y = (rows.current (of_set pair.a p) old (
          a,
          fresh.a_stands.there,
          ap (λ (l : List Shard). slice_get l p) fresh.a_stands.same ∙
              at,
        )).0 in
        let n = rows.counted in omega (arith, y, n)

    stepped_is : IsStepped far after pair a b p old shard row
    stepped_is = record {
      was = fresh.was;
      fresh = is_fresh;
      now = refl;
      undone = step_is_none pair (length a.positions) p next;
      at = at;
      beside = record { node = refl; incarnation = refl };
      key = (omega arith, omega arith);
      sort = λ k r total is below. step_is_taken pair (length a.positions) p next (omega (
        arith,
        below,
        is,
      ));
      merged = λ pages k r m long total is word.
          let c = counted far pair a b j fresh in
          let k_is : k ≡ j.k = let e = c.k in omega (arith, e, is) in
          let pages_is : pages ≡ j.pages = sym long ∙ c.pages in
          let r_is : r ≡ j.r = let n = j.count in omega (arith, total, n, k_is) in
          let wa = sound.away.sound.sets.worded pair.a a fresh.a_stands.there in
          let wb = sound.away.sound.sets.worded pair.b b fresh.b_stands.there in
          merged wa.0 wb.0 m wa.1.word wb.1.word
          (word_merged far pair a b j wa.0 wb.0 m fresh wa.1.word wb.1.word
          (subst (λ (q : ℕ). IsJoinWord far pair j.pages q j.r m) k_is
          (subst (λ (q : ℕ). IsJoinWord far pair j.pages k q m) r_is
          (subst (λ (q : ℕ). IsJoinWord far pair q k r m) pages_is word))));
      put = row_is_put far.nodes shard.node shard.key row within;
      stay = λ node key off.
          put_keeps_other_rows far.nodes shard.node node shard.key key row within (λ both. off
          both.1);
      only = λ node key other there. elim (cases_eq node.n shard.node.n) [
        | inl n ↦ elim (cases_eq key shard.key) [
          | inl e ↦ inr (sym n, sym e)
          | inr off ↦ inl (sym (put_keeps_other_rows far.nodes shard.node node shard.key key row
              within
              (λ both. off both.1)) ∙ there)
        ]
        | inr off ↦ inl (sym (put_keeps_other_rows far.nodes shard.node node shard.key key row
            within
            (λ both. off both.0)) ∙ there)
      ];
      left = record {
        sets = refl;
        homes = refl;
        members = refl;
        leaving = refl;
        survey = refl;
        drawn = refl;
        keys = omega arith;
        nodes = length-set far.nodes.nodes shard.node.n _;
        room = room_put far.nodes shard.node shard.key row fits;
      };
    }

    pair_same : (q : JoiningState) → Some (with_step pair p shard) ≡ Some q → with_step pair p
        shard ≡ q
    pair_same q e = cc

    pub stepped_keeps : JoinKeeps s far after
    stepped_keeps = record {
      sound = local_sound s far after sound (record {
        local = leaves_local far after refl;
        drawn = omega arith;
        kept = λ batch there r. refl;
        unpaired = λ batch there r q e. let same = pair_same q e in let u = r.unpaired pair
            fresh.was in (
              λ f. u.0 (ap (λ (x : JoiningState). x.a) same ∙ f),
              λ f. u.1 (ap (λ (x : JoiningState). x.b) same ∙ f),
            );
      }) (stepped_whole s far after pair a b p old shard row sound.away stepped_is);
      same_now = λ h. pair_now s far after h stepped_is.left;
      words = stepped_leaves_words s far after pair a b p old shard row sound.away.sound stepped_is;
    }

-- whatever the step was
pub takes_keeps : (s : Shown) (far new : FarState) (pair : JoiningState) (a b : SetState) (r :
    Reply)
    → Sound s far → IsFreshPair far pair a b → TakesStep far pair a b new r → JoinKeeps s far new
takes_keeps s far new pair a b r sound fresh (inl x) =
    subst (JoinKeeps s far) (sym x.state) (keeps_all s far sound)
takes_keeps s far new pair a b r sound fresh (inr (inl x)) =
    subst (JoinKeeps s far) (sym x.state) (keeps_all s far sound)
takes_keeps s far new pair a b r sound fresh (inr (inr x)) =
    subst (JoinKeeps s far) (sym x.state)
    (stepped_keeps s far pair a b x.position x.old x.row sound fresh x.next x.at x.merged x.room)

pub patch_keeps : (s : Shown) (far new : FarState) (r : Reply) → Sound s far → PatchStep far new r
    → JoinKeeps s far new
patch_keeps s far new r sound (inl x) =
    subst (JoinKeeps s far) (sym x.state) (keeps_all s far sound)
patch_keeps s far new r sound (inr (inl x)) =
    subst (JoinKeeps s far) (sym x.state) (parted_keeps s far x.pair sound x.there)
patch_keeps s far new r sound (inr (inr x)) =
    takes_keeps s far new x.pair x.a x.b r sound x.fresh x.takes

-- no row is given
pub patch_given : (far new : FarState) (r : Reply) → PatchStep far new r
    → new.nodes.given ≡ far.nodes.given
patch_given far new r (inl x) = ap (λ (f : FarState). f.nodes.given) x.state
patch_given far new r (inr (inl x)) = ap (λ (f : FarState). f.nodes.given) x.state
    ∙ dropped_given far.nodes (put_shards x.pair.steps)
patch_given far new r (inr (inr x)) = takes_given x.takes
  where
    takes_given : TakesStep far x.pair x.a x.b new r → new.nodes.given ≡ far.nodes.given
    takes_given (inl y) = ap (λ (f : FarState). f.nodes.given) y.state
    takes_given (inr (inl y)) = ap (λ (f : FarState). f.nodes.given) y.state
    takes_given (inr (inr y)) = ap (λ (f : FarState). f.nodes.given) y.state

-- ---- the step, and what an error leaves
pub patch_ends : (s : Shown) (far new : FarState) (r : Result Reply NoMemory) → Sound s far
    → IfOk r (λ reply. PatchStep far new reply) → OnErr r (new ≡ far) → JoinKeeps s far new
patch_ends s far new (Ok reply) sound step error = patch_keeps s far new reply sound step
patch_ends s far new (Err e) sound step error = subst (JoinKeeps s far) (sym error) (keeps_all s far
    sound)

pub patch_ends_given : (far new : FarState) (r : Result Reply NoMemory)
    → IfOk r (λ reply. PatchStep far new reply) → OnErr r (new ≡ far)
    → new.nodes.given ≡ far.nodes.given
patch_ends_given far new (Ok reply) step error = patch_given far new reply step
patch_ends_given far new (Err e) step error = ap (λ (f : FarState). f.nodes.given) error

pub steps_on : (far new : FarState) (pair : JoiningState) (a b : SetState)
    (r : Result Reply NoMemory) → IsFreshPair far pair a b
    → IfOk r (λ reply. (q : JoiningState) (c d : SetState) → IsFreshPair far q c d
    → TakesStep far q c d new reply) → IfOk r (λ reply. PatchStep far new reply)
steps_on far new pair a b (Ok reply) fresh takes = inr (inr (record {
  pair = pair;
  a = a;
  b = b;
  fresh = fresh;
  takes = takes pair a b fresh;
}))
steps_on far new pair a b (Err e) fresh takes = takes

-- a pair has at most 20 steps
pub few_steps : (s : Shown) (far : FarState) (pair : JoiningState) → FarSound s far
    → far.joining ≡ Some pair → length pair.steps ≤ 20
few_steps s far pair sound there =
    let j = sound.join pair there in let n = j.count in let range = j.range in
    omega (arith, n, range)
