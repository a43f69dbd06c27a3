-- A step of the pair, and its parting, keep the far part of the world sound.
use Rattle.std.proofs.Common.{◌≡◌, ◌≢◌, ◌⊎◌, ℕ, ◌<◌, ◌≤◌, List, length, set, Option, Some, None, sym, ap, ap₂, ◌∙◌, subst, arith, inl, inr, length-set, get_or-set_same, get_or-set_other}
use Rattle.std.specs.List.{slice_get}
use Rattle.std.proofs.lemmas.Bool.{cases_eq}
use Rattle.std.proofs.lemmas.Option.{slice_get_within, slice_get-get_or, get_or_from_slice_get}
use Rattle.cb_gf256.specs.Rows.{row_at}
use Rattle.cb_member.specs.declared.names.NodeId.{NodeId}
use Rattle.cb_member.specs.declared.names.Shard.{Shard}
use Rattle.cb_member.specs.Membership.{Membership, IsMembership, incarnation}
use Rattle.cb_node.specs.NodesState.{row_under}
use Rattle.cb_set.specs.SetState.{SetState}
use Rattle.cb_set.specs.Lost.{is_lost}
use Rattle.cb_world.specs.declared.shown.Shown.{Shown}
use Rattle.cb_world.specs.FarState.{FarState}
use Rattle.cb_world.specs.Sets.{set_in, SetMap}
use Rattle.cb_world.specs.Joining.{JoiningState}
use Rattle.cb_world.specs.FarSound.{AreShardRows, Owner, of_set, of_leaving, of_joining, IsShardOf, AwaySound}
use Rattle.cb_world.specs.Merged.{takes}
use Rattle.cb_world.specs.Join.{IsFresh, IsBeside, IsJoin}
use Rattle.cb_world.specs.JoinSteps.{with_step, IsStepped, IsParted}
use Rattle.cb_world.proofs.Joined.{sets_kept}

-- a node with an incarnation is lost as another is
beside_lost : (m : Membership) (old shard : Shard) → IsBeside old shard
    → is_lost m shard ≡ is_lost m old
beside_lost m old shard x =
    ap₂ (λ (n : NodeId) (i : ℕ).
    is_lost m (record { node = n; incarnation = i; key = 0 })) x.node x.incarnation

some_same : (a b : Shard) → Some (Some a) ≡ Some (Some b) → a ≡ b
some_same a b e = cc

none_some : (x : Option (Option Shard)) (a : Shard) → x ≡ Some None → x ≡ Some (Some a) → ⊥
none_some x a e f = cc

-- the shards of the steps after one more
step_here : (steps : List (Option Shard)) (p : ℕ) (shard : Shard) → slice_get steps p ≡ Some None
    → slice_get (set steps p (Some shard)) p ≡ Some (Some shard)
step_here steps p shard undone =
    let l = slice_get_within steps p None undone in
    let n = length-set steps p (Some shard) in
    slice_get-get_or (set steps p (Some shard)) p None (omega (arith, n, l))
    ∙ ap Some (get_or-set_same steps p (Some shard) None l)

step_else : (steps : List (Option Shard)) (p q : ℕ) (shard : Shard) (other : Option Shard) → q ≢ p
    → slice_get (set steps p (Some shard)) q ≡ Some other → slice_get steps q ≡ Some other
step_else steps p q shard other off at =
    let n = length-set steps p (Some shard) in
    let l = slice_get_within (set steps p (Some shard)) q other at in
    slice_get-get_or steps q None (omega (arith, n, l))
    ∙ ap Some (sym (get_or-set_other steps p q (Some shard) None off)
    ∙ get_or_from_slice_get (set steps p (Some shard)) q other None at)

step_back : (steps : List (Option Shard)) (p q : ℕ) (shard : Shard) (other : Option Shard) → q ≢ p
    → slice_get steps q ≡ Some other → slice_get (set steps p (Some shard)) q ≡ Some other
step_back steps p q shard other off at =
    let n = length-set steps p (Some shard) in
    let l = slice_get_within steps q other at in
    slice_get-get_or (set steps p (Some shard)) q None (omega (arith, n, l))
    ∙ ap Some (get_or-set_other steps p q (Some shard) None off
    ∙ get_or_from_slice_get steps q other None at)

-- a step is the new one or was there
step_cases : (steps : List (Option Shard)) (p q : ℕ) (shard other : Shard)
    → slice_get steps p ≡ Some None → slice_get (set steps p (Some shard)) q ≡ Some (Some other)
    → ((q ≡ p) × (shard ≡ other)) ⊎ (slice_get steps q ≡ Some (Some other))
step_cases steps p q shard other undone at = elim (cases_eq q p) [
  | inl here ↦
      inl (
        here,
        some_same shard other (sym (step_here steps p shard undone)
            ∙ ap (slice_get (set steps p (Some shard))) (sym here) ∙ at),
      )
  | inr off ↦ inr (step_else steps p q shard (Some other) off at)
]

pair_same : (x y : JoiningState) → Some x ≡ Some y → x ≡ y
pair_same x y e = cc

-- ---- a step
-- an owner of the new far state is the step's or one of the old
was_owner : (far new : FarState) (pair : JoiningState) (a b : SetState) (p : ℕ) (old shard : Shard)
    (row : List ℕ) → IsStepped far new pair a b p old shard row → (o : Owner) (x : Shard)
    → IsShardOf new o x
    → IsShardOf far o x ⊎ ((o ≡ of_joining p) × (shard ≡ x))
was_owner far new pair a b p old shard row st (of_set id q) x is =
    inl (is.0, ap (λ (m : SetMap). set_in m id) (sym st.left.sets) ∙ is.1, is.2)
was_owner far new pair a b p old shard row st (of_leaving q) x is =
    inl (is.0, sym st.left.leaving ∙ is.1, is.2)
was_owner far new pair a b p old shard row st (of_joining q) x is =
    let e : is.0 ≡ with_step pair p shard =
    pair_same is.0 (with_step pair p shard) (sym is.1 ∙ st.now) in
    elim (step_cases pair.steps p q shard x st.undone (ap (λ (c : JoiningState).
    slice_get c.steps q) (sym e) ∙ is.2)) [
      | inl (here, same) ↦ inr (ap of_joining here, same)
      | inr before ↦ inl (pair, st.was, before)
    ]

still_owner : (far new : FarState) (pair : JoiningState) (a b : SetState) (p : ℕ)
    (old shard : Shard) (row : List ℕ) → IsStepped far new pair a b p old shard row
    → (o : Owner) (x : Shard) → IsShardOf far o x → IsShardOf new o x
still_owner far new pair a b p old shard row st (of_set id q) x is =
    (is.0, ap (λ (m : SetMap). set_in m id) st.left.sets ∙ is.1, is.2)
still_owner far new pair a b p old shard row st (of_leaving q) x is =
    (is.0, st.left.leaving ∙ is.1, is.2)
still_owner far new pair a b p old shard row st (of_joining q) x is =
    let e : is.0 ≡ pair = pair_same is.0 pair (sym is.1 ∙ st.was) in
    let at : slice_get pair.steps q ≡ Some (Some x) =
    ap (λ (c : JoiningState). slice_get c.steps q) (sym e) ∙ is.2 in (
      with_step pair p shard,
      st.now,
      step_back pair.steps p q shard (Some x) (λ here.
          none_some (slice_get pair.steps p) x st.undone (ap (slice_get pair.steps) (sym here)
          ∙ at)) at,
    )

old_owner : (far new : FarState) (pair : JoiningState) (a b : SetState) (p : ℕ) (old shard : Shard)
    (row : List ℕ) → IsStepped far new pair a b p old shard row
    → IsShardOf far (of_set pair.a p) old
old_owner far new pair a b p old shard row st =
    (a, st.fresh.a_there, ap (λ (l : List Shard). slice_get l p) st.fresh.a_shards ∙ st.at)

stepped_rows : (s : Shown) (far new : FarState) (pair : JoiningState) (a b : SetState) (p : ℕ)
    (old shard : Shard) (row : List ℕ) → AwaySound s far
    → IsStepped far new pair a b p old shard row → AreShardRows new
stepped_rows s far new pair a b p old shard row sound st = record {
  members = subst IsMembership (sym st.left.members) sound.rows.members;
  counted = st.left.nodes ∙ sound.rows.counted
      ∙ ap (λ (m : Membership). length m.nodes) (sym st.left.members);
  room = st.left.room sound.rows.room;
  owned = λ node key other at. elim (st.only node key other at) [
    | inl before ↦ let y = sound.rows.owned node key other before in (
      y.0,
      y.1,
      still_owner far new pair a b p old shard row st y.0 y.1 y.2,
      y.3,
      y.4,
      ap (λ (m : Membership). is_lost m y.1) st.left.members ∙ y.5,
    )
    | inr (here, same) ↦ (
      of_joining p,
      shard,
      (with_step pair p shard, st.now, step_here pair.steps p shard st.undone),
      here,
      same,
      ap (λ (m : Membership). is_lost m shard) st.left.members
          ∙ beside_lost far.members old shard st.beside ∙ st.fresh.a_whole p old st.at,
    )
  ];
  one = λ o q x y is js same.
      one o q x y (was_owner far new pair a b p old shard row st o x is)
      (was_owner far new pair a b p old shard row st q y js) same;
  drawn = λ o x is. elim (was_owner far new pair a b p old shard row st o x is) [
    | inl before ↦ omega (arith, sound.rows.drawn o x before, st.left.keys)
    | inr (e, same) ↦ omega (arith, st.key.1, ap (λ (c : Shard). c.key) same)
  ];
  current = λ o x is.
      subst (λ (m : Membership). (x.node.n < length m.nodes)
      × (x.incarnation ≤ incarnation m x.node)) (sym st.left.members)
      (elim (was_owner far new pair a b p old shard row st o x is) [
        | inl before ↦ sound.rows.current o x before
        | inr (e, same) ↦
            subst (λ (c : Shard). (c.node.n < length far.members.nodes)
            × (c.incarnation ≤ incarnation far.members c.node)) same
            (subst (λ (i : ℕ). (shard.node.n < length far.members.nodes)
            × (i ≤ incarnation far.members shard.node)) (sym st.beside.incarnation)
            (subst (λ (n : NodeId). (n.n < length far.members.nodes)
            × (old.incarnation ≤ incarnation far.members n)) (sym st.beside.node)
            (sound.rows.current (of_set pair.a p) old
            (old_owner far new pair a b p old shard row st))))
      ]);
}
  where
    one : (o q : Owner) (x y : Shard) → IsShardOf far o x ⊎ ((o ≡ of_joining p) × (shard ≡ x))
        → IsShardOf far q y ⊎ ((q ≡ of_joining p) × (shard ≡ y)) → x.key ≡ y.key → o ≡ q
    one o q x y (inl i) (inl j) same = sound.rows.one o q x y i j same
    one o q x y (inl i) (inr (e, is)) same =
        absurd (omega (arith, sound.rows.drawn o x i, st.key.0, same, ap (λ (c : Shard). c.key) is))
    one o q x y (inr (e, is)) (inl j) same =
        absurd (omega (arith, sound.rows.drawn q y j, st.key.0, same, ap (λ (c : Shard). c.key) is))
    one o q x y (inr (e, is)) (inr (f, js)) same = e ∙ sym f

-- the far part is sound after a step
pub step_keeps : (s : Shown) (far new : FarState) (pair : JoiningState) (a b : SetState) (p : ℕ)
    (old shard : Shard) (row : List ℕ) → AwaySound s far
    → IsStepped far new pair a b p old shard row → AwaySound s new
step_keeps s far new pair a b p old shard row sound st = sets_kept s far new sound st.left (record {
  set_rows =
      λ id q x is.
      st.stay x.node x.key (λ e.
      absurd (omega (arith, sound.rows.drawn (of_set id q) x is, st.key.0, e)));
  batch_rows =
      λ q x is.
      st.stay x.node x.key (λ e.
      absurd (omega (arith, sound.rows.drawn (of_leaving q) x is, st.key.0, e)));
}) (stepped_rows s far new pair a b p old shard row sound st)

-- and the pair is as it should be, with one new row more
pub step_keeps_join : (s : Shown) (far new : FarState) (pair : JoiningState) (a b : SetState)
    (p : ℕ) (old shard : Shard) (row : List ℕ) → AwaySound s far → IsJoin far pair
    → IsStepped far new pair a b p old shard row → IsJoin new (with_step pair p shard)
step_keeps_join s far new pair a b p old shard row sound j st = record {
  pages = j.pages;
  k = j.k;
  r = j.r;
  range = j.range;
  taken = j.taken;
  a_count = j.a_count;
  b_count = j.b_count;
  count = length-set pair.steps p (Some shard) ∙ j.count;
  apart = j.apart;
  drawn = (omega (arith, j.drawn.0, st.left.drawn), omega (arith, j.drawn.1, st.left.drawn));
  a_keys = λ q x at. omega (arith, j.a_keys q x at, st.left.keys);
  b_keys = λ q x at. omega (arith, j.b_keys q x at, st.left.keys);
  steps = λ q x at l. elim (step_cases pair.steps p q shard x st.undone at) [
    | inl (here, same) ↦ ap (takes pair.taken) here
        ∙ st.sort j.k j.r j.count (j.fit a b st.fresh).a_count (omega (arith, l, here))
    | inr before ↦ j.steps q x before l
  ];
  beside = λ q x at. elim (step_cases pair.steps p q shard x st.undone at) [
    | inl (here, same) ↦
        (old, ap (slice_get pair.shards_a) here ∙ st.at, subst (IsBeside old) same st.beside)
    | inr before ↦ j.beside q x before
  ];
  fit = λ c d f. let y =
      j.fit c d (back c d f) in
      record {
        a_count = y.a_count;
        b_count = y.b_count;
        a_pages = y.a_pages;
        b_pages = y.b_pages;
        a_live = y.a_live;
        b_live = y.b_live;
      };
  word = λ c d f. let m = j.word a b st.fresh in (
    m.0,
    record {
      word = m.1.word;
      a_rows = λ i x l t at.
          st.stay x.node x.key (λ e. absurd (omega (arith, j.a_keys i x at, st.key.0, e)))
          ∙ m.1.a_rows i x l t at;
      b_rows = λ i x l t at.
          st.stay x.node x.key (λ e. absurd (omega (arith, j.b_keys i x at, st.key.0, e)))
          ∙ m.1.b_rows i x l t at;
      new_rows = λ q x at. elim (step_cases pair.steps p q shard x st.undone at) [
        | inl (here, same) ↦
            subst (λ (c : Shard). row_under new.nodes c.node c.key ≡ Some (row_at m.0 q)) same
            (st.put ∙ ap Some (st.merged j.pages j.k j.r m.0 (j.fit a b st.fresh).a_pages j.count
            (j.fit a b st.fresh).a_count m.1)
            ∙ ap (λ (n : ℕ). Some (row_at m.0 n)) (sym here))
        | inr before ↦
            st.stay x.node x.key (λ e.
            absurd (omega (
              arith,
              sound.rows.drawn (of_joining q) x (pair, st.was, before),
              st.key.0,
              e,
            ))) ∙ m.1.new_rows q x before
      ];
    },
  );
}
  where
    back : (c d : SetState) → IsFresh new (with_step pair p shard) c d → IsFresh far pair c d
    back c d f = record {
      a_there = ap (λ (m : SetMap). set_in m pair.a) (sym st.left.sets) ∙ f.a_there;
      b_there = ap (λ (m : SetMap). set_in m pair.b) (sym st.left.sets) ∙ f.b_there;
      a_shards = f.a_shards;
      b_shards = f.b_shards;
      a_whole = λ q x at. ap (λ (m : Membership). is_lost m x) (sym st.left.members)
          ∙ f.a_whole q x at;
      b_whole = λ q x at. ap (λ (m : Membership). is_lost m x) (sym st.left.members)
          ∙ f.b_whole q x at;
    }

-- ---- the pair is given up
pub parted_rows : (s : Shown) (far new : FarState) (pair : JoiningState) → AwaySound s far
    → IsParted far new pair → AreShardRows new
parted_rows s far new pair sound x = record {
  members = subst IsMembership (sym x.left.members) sound.rows.members;
  counted = x.left.nodes ∙ sound.rows.counted
      ∙ ap (λ (m : Membership). length m.nodes) (sym x.left.members);
  room = x.left.room sound.rows.room;
  owned = λ node key row at. let y = sound.rows.owned node key row (x.fewer node key row at) in
      let n : y.1.node ≡ node = same_node y.1.node node y.3 in (
        y.0,
        y.1,
        still y.0 y.1 row y.2 (ap (λ (q : NodeId). row_under new.nodes q y.1.key) n
            ∙ ap (row_under new.nodes node) y.4 ∙ at),
        y.3,
        y.4,
        ap (λ (m : Membership). is_lost m y.1) x.left.members ∙ y.5,
      );
  one = λ o q a b is js same. sound.rows.one o q a b (was o a is) (was q b js) same;
  drawn = λ o a is. omega (arith, sound.rows.drawn o a (was o a is), x.left.keys);
  current = λ o a is.
      subst (λ (m : Membership). (a.node.n < length m.nodes)
      × (a.incarnation ≤ incarnation m a.node)) (sym x.left.members)
      (sound.rows.current o a (was o a is));
}
  where
    same_node : (a b : NodeId) → a.n ≡ b.n → a ≡ b
    same_node a b e = ap (λ (n : ℕ). record { n = n }) e

    no_pair : (y : JoiningState) (o : Option JoiningState) → o ≡ None → o ≡ Some y → ⊥
    no_pair y o e f = cc

    no_row : (o : Option (List ℕ)) (row : List ℕ) → o ≡ None → o ≡ Some row → ⊥
    no_row o row e f = cc

    was : (o : Owner) (a : Shard) → IsShardOf new o a → IsShardOf far o a
    was (of_set id q) a is = (is.0, ap (λ (m : SetMap). set_in m id) (sym x.left.sets) ∙ is.1, is.2)
    was (of_leaving q) a is = (is.0, sym x.left.leaving ∙ is.1, is.2)
    was (of_joining q) a is = absurd (no_pair is.0 new.joining x.now is.1)

    still : (o : Owner) (a : Shard) (row : List ℕ) → IsShardOf far o a
        → row_under new.nodes a.node a.key ≡ Some row → IsShardOf new o a
    still (of_set id q) a row is at =
        (is.0, ap (λ (m : SetMap). set_in m id) x.left.sets ∙ is.1, is.2)
    still (of_leaving q) a row is at = (is.0, x.left.leaving ∙ is.1, is.2)
    still (of_joining q) a row is at =
        let e : is.0 ≡ pair = pair_same is.0 pair (sym is.1 ∙ x.was) in
        absurd (no_row _ row (x.gone q a (ap (λ (c : JoiningState). slice_get c.steps q) (sym e)
        ∙ is.2)) at)

-- the far part is sound without the pair and its new rows
pub part_keeps : (s : Shown) (far new : FarState) (pair : JoiningState) → AwaySound s far
    → IsParted far new pair → AwaySound s new
part_keeps s far new pair sound x = sets_kept s far new sound x.left (record {
  set_rows =
      λ id q a is.
      x.stay a.node a.key (λ p shard at e.
      not_set id q p (sound.rows.one (of_joining p) (of_set id q) shard a (pair, x.was, at) is e));
  batch_rows =
      λ q a is.
      x.stay a.node a.key (λ p shard at e.
      not_leaving q p (sound.rows.one (of_joining p) (of_leaving q) shard a (
        pair,
        x.was,
        at,
      ) is e));
}) (parted_rows s far new pair sound x)
  where
    not_set : (id q p : ℕ) → of_joining p ≡ of_set id q → ⊥
    not_set id q p e = cc

    not_leaving : (q p : ℕ) → of_joining p ≡ of_leaving q → ⊥
    not_leaving q p e = cc
