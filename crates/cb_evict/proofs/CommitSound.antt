-- The sound world once its leaving batch is committed.
use Rattle.std.proofs.Common.{◌≡◌, ◌⊎◌, ℕ, ◌<◌, Bool, true, false, List, length, get_or, Option, Some, sym, refl, ap, ◌∙◌, arith, inl, inr}
use Rattle.std.specs.List.{slice_get}
use Rattle.std.specs.FinMap as map
use Rattle.std.proofs.lemmas.Option.{slice_get-get_or}
use Rattle.cb_member.specs.declared.names.NodeId.{NodeId}
use Rattle.cb_member.specs.declared.names.Shard.{Shard}
use Rattle.cb_node.specs.NodesState.{row_under}
use Rattle.cb_set.specs.Lost.{is_lost}
use Rattle.cb_set.specs.Nodes.{OnDistinctNodes}
use Rattle.cb_set.specs.SetState.{SetState}
use Rattle.cb_world.specs.declared.homes.Home.{Home}
use Rattle.cb_world.specs.declared.shown.Shown.{Shown}
use Rattle.cb_world.specs.FarSound.{IsShardOf, Owner, of_joining, of_leaving, of_set, IsBatch}
use Rattle.cb_world.specs.FarState.{FarState}
use Rattle.cb_world.specs.Leaving.{LeavingState}
use Rattle.cb_world.specs.Now.{now}
use Rattle.cb_world.specs.Reserved.{put_shards, set_from, without_batch}
use Rattle.cb_world.specs.Sets.{SetMap}
use Rattle.cb_world.specs.Sound.{AreNoted, Sound}
use Rattle.cb_world.proofs.Laws.{put_at, gone_sets, reserved_uncommitted, drop_count, drop_elsewhere}
use Rattle.cb_evict.specs.BeginRule.{blank_shard}
use Rattle.cb_evict.specs.Closing.{HaveHomes, with_homes}
use Rattle.cb_evict.specs.CommitRule.{with_committed}
use Rattle.cb_evict.specs.Committing.{AreAllPut}
use Rattle.cb_evict.specs.Sending.{AreSent}
use Rattle.cb_evict.proofs.Group.{leaving_group, now_without}
use Rattle.cb_evict.proofs.NamesShards.{put_count, put_place, removed_other}
use Rattle.cb_evict.proofs.NewSet.{set_added_in, set_others}
use Rattle.cb_evict.proofs.PutAway.{IsGroupPutAway, now_away, sound_away}
use Rattle.cb_evict.proofs.Options.{none_some, some_same}

-- in a sound world the batch that is leaving has all its rows put, and its objects were put away
pub record BatchDone (s t : Shown) (far : FarState) (batch : LeavingState)
    (homes : List (Option Home))
    : Type 0 where
  pub sound : Sound s far
  pub there : far.leaving ≡ Some batch
  pub all : AreAllPut batch.shards
  pub up : (p : ℕ) (shard : Shard) → slice_get batch.shards p ≡ Some (Some shard)
      → is_lost far.members shard ≡ false
  pub sent : AreSent s t batch.words
  pub homed : HaveHomes far.spans batch.frames batch.set far.homes homes

-- the far state then
abbrev pub committed_far : FarState → LeavingState → List (Option Home) → FarState
committed_far far batch homes = with_homes (with_committed far batch) batch.frames homes

-- the set then, and the sets
abbrev pub the_set : FarState → LeavingState → SetState
the_set far batch = set_from batch.set batch.pages (put_shards batch.shards) far.spans batch.frames

abbrev new_sets : FarState → LeavingState → SetMap
new_sets far batch =
    map.insert far.sets batch.set (record { set = the_set far batch; committed = true })

-- ---- owners of rows
abbrev owner_place : Owner → ℕ
owner_place (of_set id p) = 0
owner_place (of_leaving p) = p
owner_place (of_joining p) = 0

set_leaving : (id p q : ℕ) → of_set id p ≡ of_leaving q → ⊥
set_leaving id p q e = cc

joining_leaving : (p q : ℕ) → of_joining p ≡ of_leaving q → ⊥
joining_leaving p q e = cc

module _ (s t : Shown) (far : FarState) (batch : LeavingState) (homes : List (Option Home))
    (d : BatchDone s t far batch homes) where
  noted : AreNoted s far batch
  noted = d.sound.noted batch d.there

  leaving_batch : IsBatch s far batch
  leaving_batch = d.sound.away.sound.batch batch d.there

  -- a parity is put, so they are made
  made : batch.made ≡ true
  made = by batch.made refl
    where
      by : (b : Bool) → batch.made ≡ b → batch.made ≡ true
      by true e = e
      by false e =
          let shards = put_shards batch.shards in let k = length batch.frames in
          let range = noted.reserved.range in let least = range.parities_least in
          let count = put_count batch.shards d.all in
          let within : k < length shards = omega (arith, count, leaving_batch.count, least) in
          let shard = get_or shards k blank_shard in
          let below = leaving_batch.bare e k shard (put_place batch.shards k shard d.all
          (slice_get-get_or shards k blank_shard within)) in
          absurd (omega (arith, below))

  -- ---- the shards
  mine : (p : ℕ) (shard : Shard) → slice_get (put_shards batch.shards) p ≡ Some shard
      → IsShardOf far (of_leaving p) shard
  mine p shard at = (batch, d.there, put_place batch.shards p shard d.all at)

  nodes_there : (p : ℕ) (shard : Shard) → slice_get (put_shards batch.shards) p ≡ Some shard
      → shard.node.n < length far.nodes.nodes
  nodes_there p shard at =
      let rows = d.sound.away.sound.rows in
      let c = (rows.current (of_leaving p) shard (mine p shard at)).0 in omega (
        arith,
        c,
        rows.counted,
      )

  distinct : OnDistinctNodes (put_shards batch.shards)
  distinct i j e less within same =
      let xs = put_shards batch.shards in
      let a = slice_get-get_or xs i e (omega (arith, less, within)) in
      let b = slice_get-get_or xs j e within in
      let one = leaving_batch.apart i j (get_or xs i e) (get_or xs j e)
      (put_place batch.shards i (get_or xs i e) d.all a)
      (put_place batch.shards j (get_or xs j e) d.all b) same in
      omega (arith, one, less)

  place_once : (p q : ℕ) (a b : Shard) → slice_get (put_shards batch.shards) p ≡ Some a
      → slice_get (put_shards batch.shards) q ≡ Some b → a.key ≡ b.key → p ≡ q
  place_once p q a b at bt same = ap owner_place
      (d.sound.away.sound.rows.one (of_leaving p) (of_leaving q) a b (mine p a at)
      (mine q b bt) same)

  -- a shard of another owner has another key
  other_key : (o : Owner) (a : Shard) → IsShardOf far o a → ((q : ℕ) → o ≡ of_leaving q → ⊥)
      → (p : ℕ) (shard : Shard) → slice_get (put_shards batch.shards) p ≡ Some shard
      → shard.key ≡ a.key → ⊥
  other_key o a is not p shard at same = not p
      (d.sound.away.sound.rows.one o (of_leaving p) a shard is (mine p shard at) (sym same))

  gone_other : (o : Owner) (a : Shard) → IsShardOf (without_batch far batch) o a
      → IsShardOf far o a × ((q : ℕ) → o ≡ of_leaving q → ⊥)
  gone_other (of_set id p) a is = (
    (is.0, sym (gone_sets far batch noted.reserved id) ∙ is.1, is.2),
    λ q e. set_leaving id p q e,
  )
  gone_other (of_leaving p) a is = absurd (none_some is.0 is.1)
  gone_other (of_joining p) a is = (is, λ q e. joining_leaving p q e)

  -- a row is one of the batch, or stands there without it
  row_of_whom : (node : NodeId) (key : ℕ) (row : List ℕ) (o : Owner) (a : Shard)
      → row_under far.nodes node key ≡ Some row → IsShardOf far o a → a.node.n ≡ node.n
      → a.key ≡ key
      → (row_under (without_batch far batch).nodes node key ≡ Some row)
      ⊎ ((p : ℕ) × (shard : Shard) × (slice_get (put_shards batch.shards) p ≡ Some shard)
      × (shard.node.n ≡ node.n) × (shard.key ≡ key))
  row_of_whom node key row (of_set id p) a at is n k = inl
      (drop_elsewhere far.nodes (put_shards batch.shards) node key nodes_there
      (λ q shard there same. other_key (of_set id p) a is (set_leaving id p) q shard there
      (same ∙ sym k))
      ∙ at)
  row_of_whom node key row (of_joining p) a at is n k = inl
      (drop_elsewhere far.nodes (put_shards batch.shards) node key nodes_there
      (λ q shard there same. other_key (of_joining p) a is (joining_leaving p) q shard there
      (same ∙ sym k))
      ∙ at)
  row_of_whom node key row (of_leaving p) a at (b, was, is) n k =
      let e = some_same b batch (sym was ∙ d.there) in
      let x = put_at batch.shards p a (ap (λ (l : LeavingState). slice_get l.shards p) (sym e)
      ∙ is) in
      inr (x.0, a, x.1, n, k)

  -- ---- the set is committed
  put_away : IsGroupPutAway s t (without_batch far batch) batch (put_shards batch.shards)
      (new_sets far batch) far.nodes far.counts homes
  put_away =
      let rows = d.sound.away.sound.rows in
      let m = put_count batch.shards d.all in record {
        group = leaving_group s far batch d.sound d.there;
        sent = d.sent;
        homed = d.homed;
        range = noted.reserved.range;
        word = leaving_batch.word made;
        count = m ∙ leaving_batch.count;
        distinct = distinct;
        current = λ p shard at. rows.current (of_leaving p) shard (mine p shard at);
        added = set_added_in far.sets batch.set (the_set far batch);
        fresh = gone_sets far batch noted.reserved batch.set
            ∙ reserved_uncommitted far batch noted.reserved;
        other_batch = λ b at. absurd (none_some b at);
        other_sets = λ j off. set_others far.sets batch.set j (the_set far batch) off
            ∙ sym (removed_other far.sets batch.set j off);
        drawn = (noted.reserved.drawn, omega arith);
        keys = λ p shard at. rows.drawn (of_leaving p) shard (mine p shard at);
        fresh_keys = λ o a is p shard at same. let x = gone_other o a is in
            other_key o a x.0 x.1 p shard at same;
        more_keys = omega arith;
        keys_apart = place_once;
        up = λ p shard at. d.up p shard (put_place batch.shards p shard d.all at);
        put = λ p shard at. let x = put_place batch.shards p shard d.all at in
            leaving_batch.put p shard x (d.up p shard x);
        stay = λ node key none. sym (drop_elsewhere far.nodes (put_shards batch.shards) node key
            nodes_there none);
        only = λ node key row at. let o = rows.owned node key row at in
            row_of_whom node key row o.0 o.1 at o.2 o.3 o.4;
        same_nodes = sym (drop_count far.nodes (put_shards batch.shards));
        room = λ dropped. rows.room;
        unpaired = noted.reserved.unpaired;
      }

  -- the world is sound then
  pub sound_committed : Sound t (committed_far far batch homes)
  sound_committed = sound_away s t (without_batch far batch) batch (put_shards batch.shards) _ _ _
      homes
      put_away

  -- and last complete contents stay
  pub now_committed : (h : ℕ) → now t (committed_far far batch homes) h ≡ now s far h
  now_committed h = now_away s t (without_batch far batch) batch (put_shards batch.shards) _ _ _
      homes
      put_away h ∙ now_without s far batch noted.reserved h
