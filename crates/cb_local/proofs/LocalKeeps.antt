-- Two sets joined in one turn by the compute side: what was the begin, and what is kept.
use Rattle.std.proofs.Common.{◌≡◌, ℕ, ◌+◌, ◌^◌, ◌<◌, ◌≤◌, [], length, replicate, zero, suc, Option, None, refl, sym, ap, ◌∙◌, subst, arith, inl, inr}
use Rattle.std.specs.Prelude.{Result, Ok, Err, IfOk, OnErr}
use Rattle.std.specs.List.{range_with_len}
use Rattle.std.specs.List.Sorted.{IsStrictlyIncreasing}
use Rattle.std.proofs.lemmas.List.FromFn.{get_or-range_with_len, length-range_with_len}
use Rattle.std.proofs.lemmas.List.Kept.{IsStrictlyIncreasing-filter}
use Rattle.cb_member.specs.declared.names.NodeId.{NodeId}
use Rattle.cb_member.specs.declared.no_memory.NoMemory.{NoMemory}
use Rattle.cb_set.specs.SetState.{live_at}
use Rattle.cb_types.specs.declared.handle.SetId.{SetId}
use Rattle.cb_types.specs.declared.reply.Reply.{Reply}
use Rattle.cb_types.specs.declared.reply.Reply.TheVariants as answer
use Rattle.cb_world.specs.declared.shown.Shown.{Shown}
use Rattle.cb_world.specs.FarState.{FarState}
use Rattle.cb_world.specs.Joining.{JoiningState}
use Rattle.cb_world.specs.Reserved.{put_shards}
use Rattle.cb_world.specs.Sound.{Sound}
use Rattle.cb_world.proofs.Laws.{alike_leaves_words, words_left_twice}
use Rattle.cb_compact.specs.NowGoing.{with_keys, without_pair}
use Rattle.cb_compact.specs.CompactStep.{CompactStep, PairEnds}
use Rattle.cb_compact.specs.PairStep.{IsPaired, PairStep, begun_pair}
use Rattle.cb_compact.specs.PartStep.{IsFreshPair}
use Rattle.cb_compact.proofs.Laws.{JoinKeeps, at_joining, at_no_pair, at_pair, keeps_all, now_laws, through}
use Rattle.cb_local.specs.Fetching.{far_given}
use Rattle.cb_local.specs.LocalGoing.{EndsHere, IsBegunPair, IsJoinStopped}
use Rattle.cb_local.specs.LocalStep.{IsBesideNodes, IsNotMerged, LocalStep}
use Rattle.cb_local.proofs.Counted.{sound_counted}

range_ascends : (a n : ℕ) → IsStrictlyIncreasing (range_with_len a n)
range_ascends a n i l =
    let n_is = length-range_with_len a n in
    let x = get_or-range_with_len a n i 0 (omega (arith, l, n_is)) in
    let y = get_or-range_with_len a n (i + 1) 0 (omega (arith, l, n_is)) in
    omega (arith, x, y)

none_put : (n : ℕ) → put_shards (replicate n None) ≡ []
none_put zero = refl
none_put (suc n) = none_put n

-- the first two sets that can be joined stand, where they begin to
pub paired_fresh : (far begun : FarState) (r : Reply) (x : IsPaired far begun r)
    → IsFreshPair begun (begun_pair x.x x.y x.a x.b) x.a x.b
paired_fresh far begun r x =
    subst (λ (f : FarState). IsFreshPair f (begun_pair x.x x.y x.a x.b) x.a x.b) (sym x.state)
    (record {
      was = refl;
      a_stands = record {
        there = x.first.can.a_there;
        same = refl;
        whole = x.first.can.matched.whole_a;
      };
      b_stands = record {
        there = x.first.can.b_there;
        same = refl;
        whole = x.first.can.matched.whole_b;
      };
    })

module _ (s : Shown) (far begun : FarState) (x y : SetId)
    (step : PairStep far begun (answer.Pair x y)) where
  pub pair_is : IsPaired far begun (answer.Pair x y)
  pair_is = at_pair far begun x y step

  abbrev pub pair : JoiningState
  pair = begun_pair pair_is.x pair_is.y pair_is.a pair_is.b

  counts_same : begun.counts.keys ≡ far.counts.keys
  counts_same = ap (λ (f : FarState). f.counts.keys) pair_is.state

  pub begun_is : Sound s begun → far.counts.keys + 20 < 2 ^ 62 → far.counts.sets < 2 ^ 62
      → far.nodes.given + 36 < 2 ^ 64 → IsBegunPair s begun pair pair_is.a pair_is.b
  begun_is sound keys sets rows = record {
    sound = sound;
    fresh = paired_fresh far begun (answer.Pair x y) pair_is;
    undone = none_put (length pair_is.a.shards);
    ascend = IsStrictlyIncreasing-filter (live_at pair_is.b)
        (range_with_len 0 (length pair_is.b.positions)) (range_ascends 0 _);
    few = let e = counts_same in omega (arith, e, keys);
    numbers = let e = ap (λ (f : FarState). f.counts.sets) pair_is.state in omega (arith, e, sets);
    rows = let e = ap (λ (f : FarState). f.nodes.given) pair_is.state in omega (arith, e, rows);
  }

  -- how the turn ends
  pub local_through : (new : FarState) (r : Reply)
      → EndsHere begun new pair pair_is.a r → LocalStep far new r
  local_through new r (inl z) = record {
    mid = z.mid;
    same = through far begun z.mid x y step (Ok r) z.ends;
    beside = inl (record {
      refusal = λ set moved e. other z.node set moved (sym z.reply ∙ e);
      state = z.state ∙ ap (with_keys z.mid) counts_same;
    });
    full = λ node e. z.left ∙ before;
  }
    where
      other : (node : NodeId) (set : SetId) (moved : ℕ)
          → answer.NodeFull node ≡ answer.Merged set moved → ⊥
      other node set moved e = cc

      before : without_pair begun ≡ far
      before = ap without_pair pair_is.state
          ∙ ap (λ (o : Option JoiningState). record far { joining = o }) (sym pair_is.none)
  local_through new r (inr z) = record {
    mid = z.mid;
    same = through far begun z.mid x y step (Ok r) z.ends;
    beside = inr (record {
      set = z.set;
      moved = z.moved;
      reply = z.reply;
      begun = begun;
      begins = answer.Pair x y;
      pair = pair_is;
      state = z.state;
    });
    full = λ node e. absurd (other node z.set z.moved (sym e ∙ z.reply));
  }
    where
      other : (node : NodeId) (set : SetId) (moved : ℕ)
          → answer.NodeFull node ≡ answer.Merged set moved → ⊥
      other node set moved e = cc

  pub local_stopped : (new : FarState) → IsJoinStopped begun new → (rows : ℕ) × (rows ≤ 36)
      × (new ≡ far_given far rows)
  local_stopped new z = (
    z.rows,
    z.few,
    z.state ∙ ap (λ (f : FarState). far_given (without_pair f) z.rows) pair_is.state
        ∙ ap (λ (o : Option JoiningState). far_given (record far { joining = o }) z.rows)
        (sym pair_is.none),
  )

-- ---- the begin alone
begin_keys : (far mid : FarState) (r : Reply) → PairStep far mid r
    → mid.counts.keys ≡ far.counts.keys
begin_keys far mid r (inl x) = ap (λ (f : FarState). f.counts.keys) x.state
begin_keys far mid r (inr (inl x)) = ap (λ (f : FarState). f.counts.keys) x.state
begin_keys far mid r (inr (inr x)) = ap (λ (f : FarState). f.counts.keys) x.state

pub local_joining : (far mid : FarState) (a b : SetId) → PairStep far mid (answer.Joining a b)
    → LocalStep far mid (answer.Joining a b)
local_joining far mid a b step = record {
  mid = mid;
  same = at_joining far mid a b step;
  beside = inl (record {
    refusal = λ set moved e. merged set moved e;
    state = ap (with_keys mid) (begin_keys far mid (answer.Joining a b) step);
  });
  full = λ node e. absurd (full node e);
}
  where
    merged : (set : SetId) (moved : ℕ) → answer.Joining a b ≡ answer.Merged set moved → ⊥
    merged set moved e = cc

    full : (node : NodeId) → answer.Joining a b ≡ answer.NodeFull node → ⊥
    full node e = cc

pub local_none : (far mid : FarState) → PairStep far mid answer.NoPair
    → LocalStep far mid answer.NoPair
local_none far mid step = record {
  mid = mid;
  same = at_no_pair far mid step;
  beside = inl (record {
    refusal = λ set moved e. merged set moved e;
    state = ap (with_keys mid) (begin_keys far mid answer.NoPair step);
  });
  full = λ node e. absurd (full node e);
}
  where
    merged : (set : SetId) (moved : ℕ) → answer.NoPair ≡ answer.Merged set moved → ⊥
    merged set moved e = cc

    full : (node : NodeId) → answer.NoPair ≡ answer.NodeFull node → ⊥
    full node e = cc

-- ---- what is kept

-- with other rows given
given_keeps : (s : Shown) (far mid new : FarState) (rows : ℕ) → JoinKeeps s far mid
    → new ≡ far_given mid rows → JoinKeeps s far new
given_keeps s far mid new rows k state =
    subst (JoinKeeps s far) (sym state) (record {
      sound = sound_counted s mid (mid.nodes.given + rows) k.sound;
      same_now = λ h. k.same_now h;
      words = words_left_twice k.words
          (alike_leaves_words mid (far_given mid rows) refl refl refl refl (λ id p shard of. refl));
    })

refused_keeps : (s : Shown) (far mid new : FarState) (r : Reply) → Sound s far
    → CompactStep far mid r → IsNotMerged far mid new r
    → ((node : NodeId) → r ≡ answer.NodeFull node → new ≡ far) → JoinKeeps s far new
refused_keeps s far mid new r sound (inl x) z full =
    subst (JoinKeeps s far)
    (sym (z.state ∙ ap (λ (f : FarState). with_keys f far.counts.keys) x.state))
    (keeps_all s far sound)
refused_keeps s far mid new r sound (inr (inl x)) z full =
    let k = now_laws.keeps s far mid r sound (inr (inl x)) in
    let keys = ap (λ (f : FarState). f.counts.keys) x.state in
    subst (JoinKeeps s far) (ap (with_keys mid) keys ∙ sym z.state) k
refused_keeps s far mid new r sound (inr (inr x)) z full = by x.ends
  where
    by : PairEnds x.stepped mid r → JoinKeeps s far new
    by (inl y) = subst (JoinKeeps s far) (sym (full y.node y.reply)) (keeps_all s far sound)
    by (inr y) = absurd (z.refusal y.set y.moved y.reply)

pub local_keeps : (s : Shown) (far new : FarState) (r : Reply) → Sound s far
    → LocalStep far new r → JoinKeeps s far new
local_keeps s far new r sound x = by x.beside
  where
    by : IsBesideNodes far x.mid new r → JoinKeeps s far new
    by (inl y) = refused_keeps s far x.mid new r sound x.same y x.full
    by (inr y) = given_keeps s far x.mid new _ (now_laws.keeps s far x.mid r sound x.same) y.state

-- every run of the turn whose parities the nodes make has that reply and that far state
pub local_same : (s : Shown) (far new mid : FarState) (r other : Reply) → Sound s far
    → LocalStep far new r → CompactStep far mid other → (r ≡ other) × IsBesideNodes far mid new r
local_same s far new mid r other sound x y =
    let e = now_laws.fixes s far x.mid mid r other sound x.same y in
    (e.0, subst (λ (f : FarState). IsBesideNodes far f new r) e.1 x.beside)

-- whatever the turn ends in
pub local_ends : (s : Shown) (far new : FarState) (r : Result Reply NoMemory) → Sound s far
    → IfOk r (λ reply. LocalStep far new reply)
    → OnErr r ((rows : ℕ) × (rows ≤ 36) × (new ≡ far_given far rows)) → JoinKeeps s far new
local_ends s far new (Ok reply) sound step error = local_keeps s far new reply sound step
local_ends s far new (Err e) sound step error =
    given_keeps s far far new error.0 (keeps_all s far sound) error.2
