-- A row is put under a fresh key at a node that is alive, and its shard gets a place in a set or in
-- the batch that is leaving. The far part of the sound world stays.
use Rattle.std.proofs.Common.{◌≡◌, ◌⊎◌, ℕ, ◌+◌, ◌-◌, ◌<◌, ◌≤◌, true, false, List, length, Option, Some, is_some, sym, ap, ◌∙◌, subst, arith, inl, inr, length-set}
use Rattle.std.specs.List.{slice_get, list_any}
use Rattle.std.proofs.lemmas.Bool.{cases_eq}
use Rattle.std.proofs.lemmas.Option.{same_Some}
use Rattle.cb_gf256.specs.InRange.{IsInRange}
use Rattle.cb_gf256.specs.Rows.{row_at}
use Rattle.cb_member.specs.declared.names.NodeId.{NodeId}
use Rattle.cb_member.specs.declared.names.Shard.{Shard}
use Rattle.cb_member.specs.Membership.{Membership, IsMembership, incarnation}
use Rattle.cb_node.specs.NodesState.{NodesState, held, with_row, row_under}
use Rattle.cb_node.proofs.Laws.{row_is_put, put_keeps_other_rows}
use Rattle.cb_set.specs.SetState.{SetState, live_at, parities, position_of, slot_at}
use Rattle.cb_set.specs.Lost.{is_lost}
use Rattle.cb_set.specs.Nodes.{OnDistinctNodes}
use Rattle.cb_world.specs.declared.homes.Home.{Home}
use Rattle.cb_world.specs.declared.shown.Shown.{Shown}
use Rattle.cb_world.specs.Homes.{home_at}
use Rattle.cb_world.specs.Join.{IsFresh, IsJoin, NoneLost}
use Rattle.cb_world.specs.Joining.{JoiningState}
use Rattle.cb_world.specs.Leaving.{LeavingState}
use Rattle.cb_world.specs.Sets.{set_in}
use Rattle.cb_world.specs.SetWord.{IsShaped, IsSpanWord, IsWordOf}
use Rattle.cb_world.specs.FarState.{FarState}
use Rattle.cb_world.specs.FarSound.{HoldsObject, IsSetWord, AreSets, AreAway, AreShardRows, Owner, of_set, of_leaving, of_joining, IsShardOf, IsBatch, AwaySound, batch_rows}
use Rattle.cb_world.proofs.FreshShard.{IsUpShard, up_is_current, up_is_kept}
use Rattle.cb_world.specs.Rooms.{HaveRoom}
use Rattle.cb_world.proofs.Joined.{pair_kept}
use Rattle.cb_world.proofs.Rooms.{room_put}

-- ---- what changes
abbrev pub with_shards : SetState → List Shard → SetState
with_shards set shards = record set { shards = shards }

abbrev pub with_batch_shards : LeavingState → List (Option Shard) → LeavingState
with_batch_shards batch shards = record batch { shards = shards }

-- the set names as many shards, and all else of it is as it was
pub record IsRenamed (was set : SetState) : Type 0 where
  pub same : set ≡ with_shards was set.shards
  pub count : length set.shards ≡ length was.shards

-- the same of a batch
pub record IsRefilled (was batch : LeavingState) : Type 0 where
  pub same : batch ≡ with_batch_shards was batch.shards
  pub count : length batch.shards ≡ length was.shards

-- the row is that of the place whose owner this is: of each word of the set, or of the batch, where
-- it is no parity as long as these are not made
abbrev pub IsRowFor : Shown → FarState → Owner → List ℕ → Type 0
IsRowFor s far (of_set id p) row = (set : SetState) (rows : List (List ℕ))
    → set_in far.sets id ≡ Some set → IsWordOf far.nodes far.members set rows
    → row ≡ row_at rows p
IsRowFor s far (of_leaving p) row = (batch : LeavingState) → far.leaving ≡ Some batch
    → (row ≡ row_at (batch_rows s batch) p) × (batch.made ≡ false → p < length batch.frames)
IsRowFor s far (of_joining p) row = Unit {0}

-- a shard of the new state is the new one, or was one before
abbrev pub IsNewOr : FarState → Owner → Shard → Owner → Shard → Type 0
IsNewOr far o shard q a = ((q ≡ o) × (a ≡ shard)) ⊎ IsShardOf far q a

-- The row is put under the shard, which the owner names; other shards are named as before, lost ones
-- aside. A set that is not as it was names the new shard.
pub record HasRowPut (s : Shown) (far new : FarState) (o : Owner) (shard : Shard) (row : List ℕ)
    : Type 0 where
  pub up : IsUpShard far shard
  pub fits : held far.nodes shard.node < far.nodes.room
  pub key : shard.key ≡ far.counts.keys
  pub of_owner : IsRowFor s far o row
  -- the row, and what else is counted or stays
  pub given : ℕ
  pub nodes : new.nodes ≡ with_row (record far.nodes { given = given }) shard.node shard.key row
  pub members : new.members ≡ far.members
  pub homes : new.homes ≡ far.homes
  pub joining : new.joining ≡ far.joining
  pub numbers : new.counts.sets ≡ far.counts.sets
  pub keys : new.counts.keys ≡ far.counts.keys + 1
  -- the shards
  pub named : IsShardOf new o shard
  pub back : (q : Owner) (a : Shard) → IsShardOf new q a → IsNewOr far o shard q a
  pub on : (q : Owner) (a : Shard) → IsShardOf far q a → is_lost far.members a ≡ false
      → IsShardOf new q a
  -- the sets
  pub set_was : (id : ℕ) (set : SetState) → set_in new.sets id ≡ Some set → (was : SetState)
      × (set_in far.sets id ≡ Some was) × IsRenamed was set
  pub set_is : (id : ℕ) (was : SetState) → set_in far.sets id ≡ Some was → (set : SetState)
      × (set_in new.sets id ≡ Some set) × IsRenamed was set
  pub same_or_named : (id : ℕ) (set : SetState) → set_in new.sets id ≡ Some set
      → (set_in far.sets id ≡ Some set) ⊎ ((p : ℕ) × (slice_get set.shards p ≡ Some shard))
  pub distinct : (id : ℕ) (set : SetState) → set_in new.sets id ≡ Some set
      → OnDistinctNodes set.shards
  -- the batch
  pub batch_was : (batch : LeavingState) → new.leaving ≡ Some batch → (was : LeavingState)
      × (far.leaving ≡ Some was) × IsRefilled was batch
  pub apart : (batch : LeavingState) (p q : ℕ) (a b : Shard) → new.leaving ≡ Some batch
      → slice_get batch.shards p ≡ Some (Some a) → slice_get batch.shards q ≡ Some (Some b)
      → a.node.n ≡ b.node.n → p ≡ q

-- ---- what stays sound
module _ (s : Shown) (far new : FarState) (o : Owner) (shard : Shard) (row : List ℕ)
    (sound : AwaySound s far) (x : HasRowPut s far new o shard row) where
  abbrev given : NodesState
  given = record far.nodes { given = x.given }

  not_lost : is_lost far.members shard ≡ false
  not_lost = up_is_kept far shard sound.rows x.up

  -- ---- the rows
  row_here : row_under new.nodes shard.node shard.key ≡ Some row
  row_here =
      ap (λ (n : NodesState). row_under n shard.node shard.key) x.nodes
      ∙ row_is_put given shard.node shard.key row x.up.within

  row_else : (node : NodeId) (key : ℕ) → ((node.n ≡ shard.node.n) × (key ≡ shard.key) → ⊥)
      → row_under new.nodes node key ≡ row_under far.nodes node key
  row_else node key off =
      ap (λ (n : NodesState). row_under n node key) x.nodes
      ∙ put_keeps_other_rows given shard.node node shard.key key row x.up.within off

  row_stays : (node : NodeId) (key : ℕ) → key < far.counts.keys
      → row_under new.nodes node key ≡ row_under far.nodes node key
  row_stays node key below = row_else node key
      (λ same. let e = same.1 in let k = x.key in absurd (omega (arith, below, e, k)))

  owned_stays : (q : Owner) (a : Shard) → IsShardOf far q a
      → row_under new.nodes a.node a.key ≡ row_under far.nodes a.node a.key
  owned_stays q a is = row_stays a.node a.key (sound.rows.drawn q a is)

  -- ---- the members
  was_kept : (a : Shard) → is_lost new.members a ≡ false → is_lost far.members a ≡ false
  was_kept a kept = ap (λ (m : Membership). is_lost m a) (sym x.members) ∙ kept

  still_kept : (a : Shard) → is_lost far.members a ≡ false → is_lost new.members a ≡ false
  still_kept a kept = ap (λ (m : Membership). is_lost m a) x.members ∙ kept

  none_lost : (shards : List Shard) → NoneLost new.members shards → NoneLost far.members shards
  none_lost shards none p a at = was_kept a (none p a at)

  -- ---- who names a row
  abbrev IsOwned : NodeId → ℕ → Type 0
  IsOwned node key = (q : Owner) × (a : Shard) × IsShardOf new q a × (a.node.n ≡ node.n)
      × (a.key ≡ key) × (is_lost new.members a ≡ false)

  was_owned : (node : NodeId) (key : ℕ) (r : List ℕ) → row_under far.nodes node key ≡ Some r
      → IsOwned node key
  was_owned node key r at = let y = sound.rows.owned node key r at in
      (y.0, y.1, x.on y.0 y.1 y.2 y.5, y.3, y.4, still_kept y.1 y.5)

  owned : (node : NodeId) (key : ℕ) (r : List ℕ) → row_under new.nodes node key ≡ Some r
      → IsOwned node key
  owned node key r at = elim (cases_eq key shard.key) [
    | inl same_key ↦ elim (cases_eq node.n shard.node.n) [
      | inl same ↦ (o, shard, x.named, sym same, sym same_key, still_kept shard not_lost)
      | inr off ↦ was_owned node key r (sym (row_else node key (λ same. off same.0)) ∙ at)
    ]
    | inr off ↦ was_owned node key r (sym (row_else node key (λ same. off same.1)) ∙ at)
  ]

  apart_keys : (q w : Owner) (a b : Shard) → IsNewOr far o shard q a → IsNewOr far o shard w b
      → a.key ≡ b.key → q ≡ w
  apart_keys q w a b (inl y) (inl z) same = y.0 ∙ sym z.0
  apart_keys q w a b (inl y) (inr z) same =
      let below = sound.rows.drawn w b z in
      let k = x.key in let e = ap (λ (c : Shard). c.key) y.1 in
      absurd (omega (arith, below, k, e, same))
  apart_keys q w a b (inr y) (inl z) same =
      let below = sound.rows.drawn q a y in
      let k = x.key in let e = ap (λ (c : Shard). c.key) z.1 in
      absurd (omega (arith, below, k, e, same))
  apart_keys q w a b (inr y) (inr z) same = sound.rows.one q w a b y z same

  drawn : (q : Owner) (a : Shard) → IsNewOr far o shard q a → a.key < new.counts.keys
  drawn q a (inl y) = let k = x.key in let e = ap (λ (c : Shard). c.key) y.1 in
      let more = x.keys in omega (arith, k, e, more)
  drawn q a (inr y) = let below = sound.rows.drawn q a y in let more = x.keys in
      omega (arith, below, more)

  abbrev IsCurrent : Membership → Shard → Type 0
  IsCurrent m a = (a.node.n < length m.nodes) × (a.incarnation ≤ incarnation m a.node)

  was_current : (q : Owner) (a : Shard) → IsNewOr far o shard q a → IsCurrent far.members a
  was_current q a (inl y) =
      subst (IsCurrent far.members) (sym y.1) (up_is_current far shard sound.rows x.up)
  was_current q a (inr y) = sound.rows.current q a y

  current : (q : Owner) (a : Shard) → IsShardOf new q a → IsCurrent new.members a
  current q a is = subst (λ (m : Membership). IsCurrent m a) (sym x.members)
      (was_current q a (x.back q a is))

  rows : AreShardRows new
  rows = record {
    members = subst IsMembership (sym x.members) sound.rows.members;
    counted = ap (λ (n : NodesState). length n.nodes) x.nodes
        ∙ length-set far.nodes.nodes shard.node.n _ ∙ sound.rows.counted
        ∙ ap (λ (m : Membership). length m.nodes) (sym x.members);
    room = subst HaveRoom (sym x.nodes)
        (room_put given shard.node shard.key row x.fits sound.rows.room);
    owned = owned;
    one = λ q w a b is js same. apart_keys q w a b (x.back q a is) (x.back w b js) same;
    drawn = λ q a is. drawn q a (x.back q a is);
    current = current;
  }

  -- ---- the sets
  -- what holds of a set's code holds of it with other shards
  code_stays : (was set : SetState) → IsRenamed was set → (P : ℕ → ℕ → ℕ → Type 0)
      → P was.pages (length was.positions) (parities was)
      → P set.pages (length set.positions) (parities set)
  code_stays was set r P code =
      subst (λ (c : SetState). P c.pages (length c.positions) (parities c)) (sym r.same)
      (subst (λ (n : ℕ). P was.pages (length was.positions) (n - length was.positions))
      (sym r.count) code)

  row_of_set : (id p : ℕ) (was : SetState) (words : List (List ℕ)) (a : Shard)
      → set_in far.sets id ≡ Some was → IsWordOf far.nodes far.members was words
      → IsNewOr far o shard (of_set id p) a → is_lost far.members a ≡ false
      → row_under new.nodes a.node a.key ≡ Some (row_at words p)
  row_of_set id p was words a there word (inl y) kept =
      ap (λ (c : Shard). row_under new.nodes c.node c.key) y.1 ∙ row_here
      ∙ ap Some (subst (λ (q : Owner). IsRowFor s far q row) (sym y.0) x.of_owner was words there word)
  row_of_set id p was words a there word (inr y) kept =
      owned_stays (of_set id p) a y
      ∙ (subst (λ (c : SetState). IsWordOf far.nodes far.members c words)
      (same_Some was y.0 (sym there ∙ y.1)) word).survive p a y.2 kept

  word_stays : (id : ℕ) (was set : SetState) (words : List (List ℕ)) → set_in far.sets id ≡ Some was
      → set_in new.sets id ≡ Some set → IsRenamed was set → IsWordOf far.nodes far.members was words
      → IsWordOf new.nodes new.members set words
  word_stays id was set words there at r word = record {
    code = code_stays was set r (λ pages k r. IsSpanWord pages k r words) word.code;
    survive = λ p a is kept. row_of_set id p was words a there word
        (x.back (of_set id p) a (set, at, is)) (was_kept a kept);
  }

  shaped : (id : ℕ) (set : SetState) → set_in new.sets id ≡ Some set → IsShaped new.members set
  shaped id set at =
      let y = x.set_was id set at in let r = y.2 in let z = sound.sets.shaped id y.0 y.1 in record {
        range = code_stays y.0 set r (λ pages k r. IsInRange k r) z.range;
        pages = code_stays y.0 set r (λ pages k r. pages ≤ 4) z.pages;
        data_first =
            let n = ap (λ (c : SetState). length c.positions) r.same in
            let d = z.data_first in let m = r.count in omega (arith, n, d, m);
        distinct = x.distinct id set at;
        current = λ p a is. current (of_set id p) a (set, at, is);
      }

  worded : (id : ℕ) (set : SetState) → set_in new.sets id ≡ Some set → (words : List (List ℕ))
      × IsSetWord s new.nodes new.members set words
  worded id set at =
      let y = x.set_was id set at in let z = sound.sets.worded id y.0 y.1 in (
        z.0,
        record {
          word = word_stays id y.0 set z.0 y.1 at y.2 z.1.word;
          holds = subst (λ (c : SetState). (p slot h : ℕ) → slot_at c p slot ≡ Some h
              → HoldsObject s c.pages (row_at z.0 p) (length (position_of c p).slots) slot h)
              (sym y.2.same) z.1.holds;
        },
      )

  sets : AreSets s new
  sets = record {
    shaped = shaped;
    worded = worded;
    live = λ id p set at. let y = x.set_was id set at in
        subst (λ (c : SetState).
        live_at c p ≡ list_any (λ slot. is_some slot) (position_of c p).slots)
        (sym y.2.same) (sound.sets.live id p y.0 y.1);
    kept = λ id set at. let y = x.set_was id set at in
        subst (λ (c : SetState). (p : ℕ) × (live_at c p ≡ true)) (sym y.2.same)
        (sound.sets.kept id y.0 y.1);
    numbered = λ id set at. let y = x.set_was id set at in
        let below = sound.sets.numbered id y.0 y.1 in let same = x.numbers in
        omega (arith, below, same);
  }

  same_home : (h : ℕ) → home_at new.homes h ≡ home_at far.homes h
  same_home h = ap (λ (l : List (Option Home)). home_at l h) x.homes

  away : AreAway s new
  away = record {
    away = λ h len v words at. let y = sound.away.away h len v words at in (y.0, same_home h ∙ y.1);
    home = λ h home at.
        let y = sound.away.home h home (sym (same_home h) ∙ at) in
        let z = x.set_is home.set y.0 y.1 in
        (z.0, z.1, ap (λ (c : SetState). slot_at c home.position home.slot) z.2.same ∙ y.2);
    named = λ id p slot h set at named. let y = x.set_was id set at in
        same_home h
        ∙ sound.away.named id p slot h y.0 y.1
        (ap (λ (c : SetState). slot_at c p slot) (sym y.2.same) ∙ named);
  }

  -- ---- the batch
  row_of_batch : (p : ℕ) (was : LeavingState) (a : Shard) → far.leaving ≡ Some was
      → IsNewOr far o shard (of_leaving p) a → is_lost far.members a ≡ false
      → row_under new.nodes a.node a.key ≡ Some (row_at (batch_rows s was) p)
  row_of_batch p was a there (inl y) kept =
      ap (λ (c : Shard). row_under new.nodes c.node c.key) y.1 ∙ row_here
      ∙ ap Some (subst (λ (q : Owner). IsRowFor s far q row) (sym y.0) x.of_owner was there).0
  row_of_batch p was a there (inr y) kept =
      owned_stays (of_leaving p) a y ∙ (sound.batch y.0 y.1).put p a y.2 kept
      ∙ ap (λ (c : LeavingState). Some (row_at (batch_rows s c) p))
      (same_Some y.0 was (sym y.1 ∙ there))

  bare_batch : (p : ℕ) (was : LeavingState) (a : Shard) → far.leaving ≡ Some was
      → IsNewOr far o shard (of_leaving p) a → was.made ≡ false → p < length was.frames
  bare_batch p was a there (inl y) unmade =
      (subst (λ (q : Owner). IsRowFor s far q row) (sym y.0) x.of_owner was there).1 unmade
  bare_batch p was a there (inr y) unmade =
      let same = same_Some y.0 was (sym y.1 ∙ there) in
      subst (λ (c : LeavingState). p < length c.frames) same
      ((sound.batch y.0 y.1).bare (ap (λ (c : LeavingState). c.made) same ∙ unmade) p a y.2)

  batch : (b : LeavingState) → new.leaving ≡ Some b → IsBatch s new b
  batch b at = let y = x.batch_was b at in let r = y.2 in let z = sound.batch y.0 y.1 in record {
    word = λ made. subst (λ (c : LeavingState).
        IsSpanWord c.pages (length c.frames) (length c.parities) (batch_rows s c)) (sym r.same)
        (z.word (sym (ap (λ (c : LeavingState). c.made) r.same) ∙ made));
    bare = λ unmade p a is. subst (λ (c : LeavingState). p < length c.frames) (sym r.same)
        (bare_batch p y.0 a y.1 (x.back (of_leaving p) a (b, at, is))
        (sym (ap (λ (c : LeavingState). c.made) r.same) ∙ unmade));
    count = r.count ∙ z.count
        ∙ ap (λ (c : LeavingState). length c.frames + length c.parities) (sym r.same);
    put = λ p a is kept.
        row_of_batch p y.0 a y.1 (x.back (of_leaving p) a (b, at, is)) (was_kept a kept)
        ∙ ap (λ (c : LeavingState). Some (row_at (batch_rows s c) p)) (sym r.same);
    apart = λ p q a c is js same. x.apart b p q a c at is js same;
  }

  -- ---- the far part
  pub row_put_away : AwaySound s new
  row_put_away = record { sets = sets; away = away; rows = rows; batch = batch }

  -- a set whose shards have keys that were drawn before is as it was
  drawn_before : (id : ℕ) (shards : List Shard) (set : SetState)
      → ((p : ℕ) (a : Shard) → slice_get shards p ≡ Some a → a.key < far.counts.keys)
      → set_in new.sets id ≡ Some set → set.shards ≡ shards
      → (set_in far.sets id ≡ Some set)
      ⊎ ((p : ℕ) × (slice_get set.shards p ≡ Some shard)) → set_in far.sets id ≡ Some set
  drawn_before id shards set keys at same (inl was) = was
  drawn_before id shards set keys at same (inr y) =
      let below = keys y.0 shard (ap (λ (l : List Shard). slice_get l y.0) (sym same) ∙ y.1) in
      let k = x.key in absurd (omega (arith, below, k))

  pub row_put_join : (pair : JoiningState) → far.joining ≡ Some pair → IsJoin far pair
      → IsJoin new pair
  row_put_join pair was j = pair_kept far new pair (record {
    more_sets = let same = x.numbers in omega (arith, same);
    more_keys = let more = x.keys in omega (arith, more);
    fresh = λ c d f. (c, d, before c d f, λ pages k fit. fit);
    a_stay = λ c d f p a at. row_stays a.node a.key (j.a_keys p a at);
    b_stay = λ c d f p a at. row_stays a.node a.key (j.b_keys p a at);
    new_stay = λ c d f p a at. owned_stays (of_joining p) a (pair, was, at);
  }) j
    where
      before : (c d : SetState) → IsFresh new pair c d → IsFresh far pair c d
      before c d f = record {
        a_there = drawn_before pair.a pair.shards_a c j.a_keys f.a_there f.a_shards
            (x.same_or_named pair.a c f.a_there);
        b_there = drawn_before pair.b pair.shards_b d j.b_keys f.b_there f.b_shards
            (x.same_or_named pair.b d f.b_there);
        a_shards = f.a_shards;
        b_shards = f.b_shards;
        a_whole = none_lost pair.shards_a f.a_whole;
        b_whole = none_lost pair.shards_b f.b_whole;
      }

  -- each word of a set is one of the set of its number afterwards
  pub row_put_words : (id : ℕ) (was : SetState) (words : List (List ℕ))
      → set_in far.sets id ≡ Some was → IsWordOf far.nodes far.members was words → (set : SetState)
      × (set_in new.sets id ≡ Some set) × IsWordOf new.nodes new.members set words
  row_put_words id was words there word = let y = x.set_is id was there in
      (y.0, y.1, word_stays id was y.0 words there y.1 y.2 word)
