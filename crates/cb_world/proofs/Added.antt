-- A fresh set keeps the far part of the world sound.
use Rattle.std.proofs.Common.{◌≡◌, ◌≢◌, ◌⊎◌, ℕ, ◌<◌, ◌≤◌, true, List, length, Option, None, Some, is_some, sym, ap, ◌∙◌, subst, arith, inl, inr}
use Rattle.std.specs.List.{slice_get, list_any}
use Rattle.std.proofs.lemmas.Bool.{cases_eq}
use Rattle.cb_gf256.specs.Rows.{row_at}
use Rattle.cb_member.specs.declared.names.Shard.{Shard}
use Rattle.cb_member.specs.Membership.{Membership, IsMembership, incarnation}
use Rattle.cb_set.specs.SetState.{SetState, position_of, live_at, slot_at}
use Rattle.cb_set.specs.Lost.{is_lost}
use Rattle.cb_world.specs.declared.object.Object.{Object}
use Rattle.cb_world.specs.declared.object.Object.TheVariants as is
use Rattle.cb_world.specs.declared.shown.Shown.{Shown}
use Rattle.cb_world.specs.Shown.{object_at}
use Rattle.cb_world.specs.declared.homes.Home.{Home}
use Rattle.cb_world.specs.FarState.{FarState}
use Rattle.cb_world.specs.Sets.{set_in, if_committed}
use Rattle.cb_world.specs.Homes.{home_at}
use Rattle.cb_world.specs.Leaving.{LeavingState}
use Rattle.cb_world.specs.SetWord.{IsShaped, IsSpanWord}
use Rattle.cb_world.specs.FarSound.{HoldsObject, IsSetWord, AreSets, AreAway, AreShardRows, Owner, of_set, of_leaving, of_joining, IsShardOf, IsBatch, batch_rows, AwaySound}
use Rattle.cb_world.specs.Stored.{NoKey}
use Rattle.cb_world.specs.SetAdded.{is_far, IsUntouched, IsSetAdded}

pub set_same : (a b : SetState) → Some a ≡ Some b → a ≡ b
set_same a b e = cc

-- the object in the slot of a row is what it was
pub holds_kept : (s t : Shown) (pages : ℕ) (row : List ℕ) (slots slot h : ℕ)
    → object_at t h ≡ object_at s h → HoldsObject s pages row slots slot h
    → HoldsObject t pages row slots slot h
holds_kept s t pages row slots slot h same x =
    record {
      len = x.len;
      version = x.version;
      words = x.words;
      class = x.class;
      away = same
          ∙ x.away;
      fits = x.fits;
      paged = x.paged;
      sized = x.sized;
      contents = x.contents;
    }

pub was_far : (o : Object) (len v : ℕ) (words : List ℕ) → o ≡ is.Far len v words → is_far o
was_far o len v words e = subst is_far (sym e) tt

-- an object that an old set names is not moved
old_object : (s t : Shown) (far new : FarState) (id : ℕ) (set : SetState) (rows : List (List ℕ))
    (pages : ℕ) (row : List ℕ) (slots slot h : ℕ) → IsSetAdded s t far new id set rows
    → HoldsObject s pages row slots slot h → IsUntouched s t far new set h
old_object s t far new id set rows pages row slots slot h x holds = elim (x.each h) [
  | inl stays ↦ stays
  | inr moved ↦
      absurd (moved.before (was_far (object_at s h) holds.len holds.version holds.words holds.away))
]

old_word : (s t : Shown) (far new : FarState) (id : ℕ) (set : SetState) (rows : List (List ℕ))
    (old : SetState) (word : List (List ℕ)) → IsSetAdded s t far new id set rows
    → ((p : ℕ) (shard : Shard) → slice_get old.shards p ≡ Some shard → NoKey set.shards shard.key)
    → IsSetWord s far.nodes far.members old word → IsSetWord t new.nodes new.members old word
old_word s t far new id set rows old word x keys y = record {
  word = record {
    code = y.word.code;
    survive = λ p shard at kept.
        x.stay shard.node shard.key (keys p shard at)
        ∙ y.word.survive p shard at (ap (λ (m : Membership). is_lost m shard) (sym x.members)
        ∙ kept);
  };
  holds = λ p slot h named. let z =
      y.holds p slot h named in
      holds_kept s t old.pages (row_at word p) (length (position_of old p).slots) slot h
      (old_object s t far new id set rows old.pages (row_at word p)
      (length (position_of old p).slots) slot h x z).object z;
}

new_word : (s t : Shown) (far new : FarState) (id : ℕ) (set : SetState) (rows : List (List ℕ))
    → IsSetAdded s t far new id set rows → IsSetWord t new.nodes new.members set rows
new_word s t far new id set rows x = record {
  word = record { code = x.code; survive = λ p shard at kept. x.put p shard at };
  holds = λ p slot h named. elim (x.each h) [
    | inl stays ↦ absurd (stays.absent p slot named)
    | inr moved ↦ let e = moved.once p slot named in
        subst (λ (q : ℕ).
        HoldsObject t set.pages (row_at rows p) (length (position_of set p).slots) q h) (sym e.1)
        (subst (λ (q : ℕ).
        HoldsObject t set.pages (row_at rows q) (length (position_of set q).slots) moved.slot h) (sym e.0)
        moved.holds)
  ];
}

some_none : (o : Option SetState) (set : SetState) → o ≡ None → o ≡ Some set → ⊥
some_none o set e f = cc

-- a set that is there has another number than the fresh one
old_number : (s t : Shown) (far new : FarState) (id : ℕ) (set : SetState) (rows : List (List ℕ))
    → IsSetAdded s t far new id set rows → (j : ℕ) (other : SetState)
    → set_in far.sets j ≡ Some other → j ≢ id
old_number s t far new id set rows x j other at same =
    some_none (set_in far.sets id) other x.fresh (ap (set_in far.sets) (sym same) ∙ at)

pub added_sets : (s t : Shown) (far new : FarState) (id : ℕ) (set : SetState) (rows : List (List ℕ))
    → AwaySound s far → IsSetAdded s t far new id set rows → AreSets t new
added_sets s t far new id set rows sound x = record {
  shaped = λ j other at.
      subst (λ (m : Membership). IsShaped m other) (sym x.members) (elim (cases_eq j id) [
        | inl here ↦ subst (IsShaped far.members) (fresh j other at here) x.shape
        | inr off ↦ sound.sets.shaped j other (old j other at off)
      ]);
  worded = λ j other at. elim (cases_eq j id) [
    | inl here ↦ (
      rows,
      subst (λ (c : SetState).
          IsSetWord t new.nodes new.members c rows) (fresh j other at here)
          (new_word s t far new id set rows x),
    )
    | inr off ↦ let y = sound.sets.worded j other (old j other at off) in (
      y.0,
      old_word s t far new id set rows other y.0 x (λ p shard is.
          x.fresh_keys (of_set j p) shard (other, old j other at off, is)) y.1,
    )
  ];
  live = λ j p other at. elim (cases_eq j id) [
    | inl here ↦
        subst (λ (c : SetState).
        live_at c p ≡ list_any (λ slot.
        is_some slot) (position_of c p).slots) (fresh j other at here) (x.lives p)
    | inr off ↦ sound.sets.live j p other (old j other at off)
  ];
  kept = λ j other at. elim (cases_eq j id) [
    | inl here ↦
        subst (λ (c : SetState). (p : ℕ) × (live_at c p ≡ true)) (fresh j other at here) x.some_live
    | inr off ↦ sound.sets.kept j other (old j other at off)
  ];
  numbered = λ j other at. elim (cases_eq j id) [
    | inl here ↦ omega (arith, here, x.drawn.0)
    | inr off ↦ omega (arith, sound.sets.numbered j other (old j other at off), x.drawn.1)
  ];
}
  where
    fresh : (j : ℕ) (other : SetState) → set_in new.sets j ≡ Some other → j ≡ id → set ≡ other
    fresh j other at here = set_same set other (sym x.added ∙ ap (set_in new.sets) (sym here) ∙ at)

    old : (j : ℕ) (other : SetState) → set_in new.sets j ≡ Some other → j ≢ id
        → set_in far.sets j ≡ Some other
    old j other at off = sym (ap if_committed (x.others j off)) ∙ at

pub home_same : (a b : Home) → Some a ≡ Some b → a ≡ b
home_same a b e = cc

pub added_away : (s t : Shown) (far new : FarState) (id : ℕ) (set : SetState) (rows : List (List ℕ))
    → AwaySound s far → IsSetAdded s t far new id set rows → AreAway t new
added_away s t far new id set rows sound x = record {
  away = λ h len v words at. elim (x.each h) [
    | inl stays ↦ let y =
        sound.away.away h len v words (sym stays.object ∙ at) in (y.0, stays.home ∙ y.1)
    | inr moved ↦ (record { set = id; position = moved.position; slot = moved.slot }, moved.home)
  ];
  home = λ h home at. elim (x.each h) [
    | inl stays ↦ let y = sound.away.home h home (sym stays.home ∙ at) in (
      y.0,
      ap if_committed (x.others home.set (old_number s t far new id set rows x home.set y.0 y.1))
          ∙ y.1,
      y.2,
    )
    | inr moved ↦ let e =
        home_same (record {
          set = id;
          position = moved.position;
          slot =
              moved.slot;
        }) home (sym moved.home ∙ at) in (
          set,
          subst (λ (k : Home). set_in new.sets k.set ≡ Some set) e x.added,
          subst (λ (k : Home). slot_at set k.position k.slot ≡ Some h) e moved.named,
        )
  ];
  named = λ j p slot h other at named. elim (cases_eq j id) [
    | inl here ↦ let e = set_same set other (sym x.added ∙ ap (set_in new.sets) (sym here) ∙ at) in
        new_named j p slot h here (subst (λ (c : SetState).
        slot_at c p slot ≡ Some h) (sym e) named)
    | inr off ↦
        let was = sym (ap if_committed (x.others j off)) ∙ at in
        let y = sound.sets.worded j other was in
        let z = old_object s t far new id set rows other.pages (row_at y.0 p)
        (length (position_of other p).slots) slot h x (y.1.holds p slot h named) in
        z.home ∙ sound.away.named j p slot h other was named
  ];
}
  where
    new_named : (j p slot h : ℕ) → j ≡ id → slot_at set p slot ≡ Some h
        → home_at new.homes h ≡ Some (record { set = j; position = p; slot = slot })
    new_named j p slot h here named = elim (x.each h) [
      | inl stays ↦ absurd (stays.absent p slot named)
      | inr moved ↦ let e = moved.once p slot named in
          moved.home
          ∙ ap (λ (n : ℕ).
          Some (record { set = n; position = moved.position; slot = moved.slot })) (sym here)
          ∙ ap (λ (n : ℕ). Some (record { set = j; position = n; slot = moved.slot })) (sym e.0)
          ∙ ap (λ (n : ℕ). Some (record { set = j; position = p; slot = n })) (sym e.1)
    ]

-- a shard of the new world is one of the old world or of the new set
abbrev pub IsOldOrNew : SetState → ℕ → Owner → Shard → Type 0
IsOldOrNew set id o shard = (p : ℕ) × (o ≡ of_set id p) × (slice_get set.shards p ≡ Some shard)

pub split_shard : (s t : Shown) (far new : FarState) (id : ℕ) (set : SetState)
    (rows : List (List ℕ)) → IsSetAdded s t far new id set rows → (o : Owner) (shard : Shard)
    → IsShardOf new o shard → IsShardOf far o shard ⊎ IsOldOrNew set id o shard
split_shard s t far new id set rows x (of_set j p) shard is = elim (cases_eq j id) [
  | inl here ↦ let e = set_same set is.0 (sym x.added ∙ ap (set_in new.sets) (sym here) ∙ is.1) in
      inr (
        p,
        ap (λ (n : ℕ). of_set n p) here,
        subst (λ (c : SetState). slice_get c.shards p ≡ Some shard) (sym e) is.2,
      )
  | inr off ↦ inl (is.0, sym (ap if_committed (x.others j off)) ∙ is.1, is.2)
]
split_shard s t far new id set rows x (of_leaving p) shard is =
    inl (is.0, sym x.leaving ∙ is.1, is.2)
split_shard s t far new id set rows x (of_joining p) shard is =
    inl (is.0, sym x.joining ∙ is.1, is.2)

keep_shard : (s t : Shown) (far new : FarState) (id : ℕ) (set : SetState) (rows : List (List ℕ))
    → AwaySound s far → IsSetAdded s t far new id set rows → (o : Owner) (shard : Shard)
    → IsShardOf far o shard → IsShardOf new o shard
keep_shard s t far new id set rows sound x (of_set j p) shard is = (
  is.0,
  ap if_committed (x.others j (old_number s t far new id set rows x j is.0 is.1)) ∙ is.1,
  is.2,
)
keep_shard s t far new id set rows sound x (of_leaving p) shard is = (is.0, x.leaving ∙ is.1, is.2)
keep_shard s t far new id set rows sound x (of_joining p) shard is = (is.0, x.joining ∙ is.1, is.2)

pub added_rows : (s t : Shown) (far new : FarState) (id : ℕ) (set : SetState) (rows : List (List ℕ))
    → AwaySound s far → IsSetAdded s t far new id set rows → AreShardRows new
added_rows s t far new id set rows sound x = record {
  members = subst IsMembership (sym x.members) sound.rows.members;
  counted = x.nodes ∙ sound.rows.counted ∙ ap (λ (m : Membership). length m.nodes) (sym x.members);
  room = x.room sound.rows.room;
  owned = λ node key row at. elim (x.only node key row at) [
    | inl old ↦ let y = sound.rows.owned node key row old in (
      y.0,
      y.1,
      keep_shard s t far new id set rows sound x y.0 y.1 y.2,
      y.3,
      y.4,
      ap (λ (m : Membership). is_lost m y.1) x.members ∙ y.5,
    )
    | inr (p, shard, is, same, under) ↦ (
      of_set id p,
      shard,
      (set, x.added, is),
      same,
      under,
      ap (λ (m : Membership). is_lost m shard) x.members ∙ x.up p shard is,
    )
  ];
  one = λ o q a b is js same.
      one o q a b (split_shard s t far new id set rows x o a is)
      (split_shard s t far new id set rows x q b js) same;
  drawn = λ o a is. elim (split_shard s t far new id set rows x o a is) [
    | inl old ↦ omega (arith, sound.rows.drawn o a old, x.more_keys)
    | inr (p, e, at) ↦ x.keys p a at
  ];
  current = λ o a is.
      subst (λ (m : Membership). (a.node.n < length m.nodes)
      × (a.incarnation ≤ incarnation m a.node)) (sym x.members)
      (elim (split_shard s t far new id set rows x o a is) [
        | inl old ↦ sound.rows.current o a old
        | inr (p, e, at) ↦ x.shape.current p a at
      ]);
}
  where
    one : (o q : Owner) (a b : Shard) → IsShardOf far o a ⊎ IsOldOrNew set id o a
        → IsShardOf far q b ⊎ IsOldOrNew set id q b → a.key ≡ b.key → o ≡ q
    one o q a b (inl i) (inl j) same = sound.rows.one o q a b i j same
    one o q a b (inl i) (inr (p, e, at)) same = absurd (x.fresh_keys o a i p b at (sym same))
    one o q a b (inr (p, e, at)) (inl j) same = absurd (x.fresh_keys q b j p a at same)
    one o q a b (inr (p, e, at)) (inr (p', e', at')) same = e
        ∙ ap (of_set id) (x.keys_apart p p' a b at at' same) ∙ sym e'

pub added_batch : (s t : Shown) (far new : FarState) (id : ℕ) (set : SetState)
    (rows : List (List ℕ)) → AwaySound s far → IsSetAdded s t far new id set rows
    → (b : LeavingState) → new.leaving ≡ Some b → IsBatch t new b
added_batch s t far new id set rows sound x b at =
    let was = sym x.leaving ∙ at in let y = sound.batch b was in
    let same : batch_rows t b ≡ batch_rows s b = x.batch b was in
    record {
      word = λ made. subst (IsSpanWord b.pages (length b.frames) (length b.parities)) (sym same)
          (y.word made);
      bare = y.bare;
      count = y.count;
      put = λ p shard is kept.
          x.stay shard.node shard.key (x.fresh_keys (of_leaving p) shard (b, was, is))
          ∙ y.put p shard is (ap (λ (m : Membership). is_lost m shard) (sym x.members) ∙ kept)
          ∙ ap (λ (l : List (List ℕ)). Some (row_at l p)) (sym same);
      apart = y.apart;
    }

-- lemma (i): the far part is sound with the fresh set, and the other sets are as they were
pub set_added : (s t : Shown) (far new : FarState) (id : ℕ) (set : SetState) (rows : List (List ℕ))
    → AwaySound s far → IsSetAdded s t far new id set rows → AwaySound t new
set_added s t far new id set rows sound x = record {
  sets = added_sets s t far new id set rows sound x;
  away = added_away s t far new id set rows sound x;
  rows = added_rows s t far new id set rows sound x;
  batch = added_batch s t far new id set rows sound x;
}
