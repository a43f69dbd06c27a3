-- What is left of the words of sets, and of the batch, by the kinds of change.
use Rattle.std.proofs.Common.{◌≡◌, ◌≢◌, ◌⊎◌, ℕ, ◌-◌, ◌<◌, ◌≤◌, true, false, nat_lt, List, length, None, Some, is_some, sym, refl, ap, ◌∙◌, subst, inl, inr, arith}
use Rattle.std.specs.List.{slice_get}
use Rattle.std.specs.Option.{option_map}
use Rattle.std.proofs.lemmas.Bool.{le-ltb, ltb-false}
use Rattle.std.proofs.lemmas.Option.{same_Some}
use Rattle.cb_member.specs.declared.names.Epoch.{Epoch}
use Rattle.cb_member.specs.declared.names.Loss.{Loss}
use Rattle.cb_member.specs.declared.names.NodeId.{NodeId}
use Rattle.cb_member.specs.declared.names.Shard.{Shard}
use Rattle.cb_member.specs.Membership.{IsMembership, Membership, alive, with_crash, with_join}
use Rattle.cb_member.proofs.Laws.{join_keeps_crashes}
use Rattle.cb_node.specs.NodesState.{NodesState, row_under}
use Rattle.cb_set.specs.SetState.{SetState, parities}
use Rattle.cb_set.specs.Lost.{is_lost, loss_of, lost}
use Rattle.cb_set.proofs.Laws.{join_keeps_lost}
use Rattle.cb_world.specs.declared.shown.Shown.{Shown}
use Rattle.cb_world.specs.FarState.{FarState}
use Rattle.cb_world.specs.FarSound.{AwaySound, IsShardOf, Owner, of_set, of_leaving, of_joining}
use Rattle.cb_world.specs.Joining.{JoiningState}
use Rattle.cb_world.specs.JoinSteps.{IsCommitted}
use Rattle.cb_world.specs.Leaving.{LeavingState}
use Rattle.cb_world.specs.NodeChanges.{crashed_far, joined_far}
use Rattle.cb_world.specs.Orders.{LeavesWords, WasSet}
use Rattle.cb_world.specs.SetAdded.{IsSetAdded}
use Rattle.cb_world.specs.Sets.{if_committed, set_in}
use Rattle.cb_world.specs.SetWord.{AreCurrent, IsSpanWord, IsWordOf, is_broken}
use Rattle.cb_world.proofs.RowPut.{HasRowPut, row_put_words}
use Rattle.cb_world.proofs.Words.{crash_keeps_word, crash_survivor, lost_grow, word_kept}

-- a change leaves the words that it leaves and that the next one leaves
pub words_left_twice : {far mid new : FarState} → LeavesWords far mid → LeavesWords mid new
    → LeavesWords far new
words_left_twice {far = far} x y = record {
  drawn = let a = x.drawn in let b = y.drawn in omega (arith, a, b);
  sets = λ id set there below apart. let a = x.drawn in
      let w = y.sets id set there (omega (arith, below, a)) (λ b at e.
      let old = x.batch b at (omega (arith, e, below)) in apart old.0 old.1 (old.2 ∙ e)) in
      let v = x.sets id w.was w.there below apart in record {
        was = v.was;
        there = v.there;
        code = (v.code.0 ∙ w.code.0, v.code.1 ∙ w.code.1);
        whole = λ whole. v.whole (w.whole whole);
        words = λ word is. w.words word (v.words word is);
      };
  batch = λ b at below. let a = x.drawn in let m = y.batch b at (omega (arith, below, a)) in
      let o = x.batch m.0 m.1 (omega (arith, m.2, below)) in
      (o.0, o.1, o.2 ∙ m.2, o.3 ∙ m.3, o.4 ∙ m.4, o.5 ∙ m.5);
}

-- nothing changes
pub words_stay : (far : FarState) → LeavesWords far far
words_stay far = record {
  drawn = omega arith;
  sets = λ id set there below apart. record {
    was = set;
    there = there;
    code = (refl, refl);
    whole = λ whole. whole;
    words = λ word is. is;
  };
  batch = λ b at below. (b, at, refl, refl, refl, refl);
}

-- ---- a crash
still_whole : (m : Membership) (node : NodeId) (set : SetState) → IsMembership m
    → node.n < length m.nodes → alive m node ≡ true → AreCurrent m set.shards
    → is_broken (with_crash m node) set ≡ false → is_broken m set ≡ false
still_whole m node set valid within up current whole =
    let more = lost_grow m (with_crash m node) set.shards (λ p shard at kept.
    (crash_survivor m node shard valid within up (current p shard at).1 kept).1) in
    let few = ltb-false (parities set) (length (lost (with_crash m node) set.shards)) whole in
    le-ltb (parities set) (length (lost m set.shards)) (omega (arith, more, few))

pub crash_leaves_words : (s : Shown) (far : FarState) (node : NodeId) → AwaySound s far
    → node.n < length far.members.nodes → alive far.members node ≡ true
    → LeavesWords far (crashed_far far node)
crash_leaves_words s far node sound within up = record {
  drawn = omega arith;
  sets = λ id set there below apart. let shape = sound.sets.shaped id set there in record {
    was = set;
    there = there;
    code = (refl, refl);
    whole = still_whole far.members node set sound.rows.members within up shape.current;
    words = λ word is. crash_keeps_word far.nodes far.members node set word sound.rows.members
        within up shape.current is;
  };
  batch = λ b at below. (b, at, refl, refl, refl, refl);
}

-- ---- a node is up again: what is lost stays lost
join_keeps_flag : (m : Membership) (node : NodeId) (shard : Shard) → node.n < length m.nodes
    → is_lost (with_join m node) shard ≡ is_lost m shard
join_keeps_flag m node shard within =
    let loss : loss_of (with_join m node) shard ≡ loss_of m shard =
    ap (option_map (λ (epoch : Epoch). record { node = shard.node; epoch = epoch }))
    (join_keeps_crashes m node shard.node shard.incarnation within) in ap is_some loss

pub join_leaves_words : (far : FarState) (node : NodeId) → node.n < length far.members.nodes
    → LeavesWords far (joined_far far node)
join_leaves_words far node within = record {
  drawn = omega arith;
  sets = λ id set there below apart. record {
    was = set;
    there = there;
    code = (refl, refl);
    whole = λ whole. ap (λ (l : List Loss). nat_lt (parities set) (length l))
        (sym (join_keeps_lost far.members node set.shards within)) ∙ whole;
    words = λ word is. word_kept far.nodes far.nodes far.members (with_join far.members node) set
        word (λ p shard at kept. (
          sym (join_keeps_flag far.members node shard within) ∙ kept,
          refl,
        )) is;
  };
  batch = λ b at below. (b, at, refl, refl, refl, refl);
}

-- ---- a row is put under a fresh key and its shard gets a place, in the batch or in a set that is not
-- broken: a ship, a patch, a rebuild
module _ (s : Shown) (far new : FarState) (o : Owner) (shard : Shard) (row : List ℕ)
    (sound : AwaySound s far) (x : HasRowPut s far new o shard row)
    (unbroken : (id p : ℕ) (was : SetState) → o ≡ of_set id p → set_in far.sets id ≡ Some was
    → is_broken far.members was ≡ false) where
  -- the set that names the new shard is the owner
  owns : (id p : ℕ) (set : SetState) → set_in new.sets id ≡ Some set
      → slice_get set.shards p ≡ Some shard → o ≡ of_set id p
  owns id p set there at = elim (x.back (of_set id p) shard (set, there, at)) [
    | inl mine ↦ sym mine.0
    | inr old ↦ absurd (let drawn = sound.rows.drawn (of_set id p) shard old in let k = x.key in
        omega (arith, drawn, k))
  ]

  was_whole : (id : ℕ) (was set : SetState) → set_in far.sets id ≡ Some was
      → set_in new.sets id ≡ Some set → is_broken new.members set ≡ false
      → is_broken far.members was ≡ false
  was_whole id was set there now whole = elim (x.same_or_named id set now) [
    | inl same ↦ let e : was ≡ set = same_Some was set (sym there ∙ same) in
        let m : far.members ≡ new.members = sym x.members in
        let broken : is_broken far.members was ≡ is_broken new.members set =
        λ i. is_broken (m i) (e i) in broken ∙ whole
    | inr named ↦ unbroken id named.0 was (owns id named.0 set now named.1) there
  ]

  pub row_put_leaves_words : LeavesWords far new
  row_put_leaves_words = record {
    drawn = let same = x.numbers in omega (arith, same);
    sets = λ id set there below apart.
        let y = x.set_was id set there in
        let n : length set.positions ≡ length y.0.positions =
        ap (λ (c : SetState). length c.positions) y.2.same in
        let par : parities y.0 ≡ parities set = λ i. length-of y.2.count n i in
        record {
          was = y.0;
          there = y.1;
          code = (sym n, par);
          whole = was_whole id y.0 set y.1 there;
          words = λ word is.
              let z = row_put_words s far new o shard row sound x id y.0 word y.1 is in
              subst (λ (c : SetState). IsWordOf new.nodes new.members c word)
              (same_Some z.0 set (sym z.1 ∙ there)) z.2;
        };
    batch = λ b at below. let y = x.batch_was b at in (
      y.0,
      y.1,
      sym (ap (λ (c : LeavingState). c.set) y.2.same),
      sym (ap (λ (c : LeavingState). c.pages) y.2.same),
      sym (ap (λ (c : LeavingState). c.frames) y.2.same),
      sym (ap (λ (c : LeavingState). length c.parities) y.2.same),
    );
  }
    where
      length-of : {a b c d : ℕ} → a ≡ b → c ≡ d → b - d ≡ a - c
      length-of e f = λ i. sym e i - sym f i

-- ---- the sets that stay have the shards that they had, and the rows of these stand where they stood:
-- all parts but those that change a shard or a node
pub record KeepsSets (far new : FarState) : Type 0 where
  pub drawn : far.counts.sets ≤ new.counts.sets
  pub members : new.members ≡ far.members
  pub sets : (id : ℕ) (set : SetState) → set_in new.sets id ≡ Some set → id < far.counts.sets
      → ((b : LeavingState) → far.leaving ≡ Some b → b.set ≢ id)
      → (was : SetState) × (set_in far.sets id ≡ Some was) × (was.shards ≡ set.shards)
      × (length was.positions ≡ length set.positions) × (was.pages ≡ set.pages)
  pub rows : (id p : ℕ) (was set : SetState) (shard : Shard) → set_in far.sets id ≡ Some was
      → set_in new.sets id ≡ Some set → id < far.counts.sets
      → ((b : LeavingState) → far.leaving ≡ Some b → b.set ≢ id)
      → slice_get was.shards p ≡ Some shard
      → row_under new.nodes shard.node shard.key ≡ row_under far.nodes shard.node shard.key
  pub batch : (b : LeavingState) → new.leaving ≡ Some b → b.set < far.counts.sets
      → (old : LeavingState) × (far.leaving ≡ Some old) × (old.set ≡ b.set)
      × (old.pages ≡ b.pages) × (old.frames ≡ b.frames)
      × (length old.parities ≡ length b.parities)

module _ (far new : FarState) (k : KeepsSets far new) where
  stays : (id : ℕ) (set : SetState) → set_in new.sets id ≡ Some set → id < far.counts.sets
      → ((b : LeavingState) → far.leaving ≡ Some b → b.set ≢ id) → WasSet far new id set
  stays id set there below apart =
      let w = k.sets id set there below apart in
      let par : parities w.0 ≡ parities set = λ i. length (w.2 i) - w.3 i in
      let m : far.members ≡ new.members = sym k.members in
      let broken : is_broken far.members w.0 ≡ is_broken new.members set =
      λ i. nat_lt (par i) (length (lost (m i) (w.2 i))) in
      record {
        was = w.0;
        there = w.1;
        code = (w.3, par);
        whole = λ whole. broken ∙ whole;
        words = λ word is. record {
          code = subst (λ (r : ℕ). IsSpanWord set.pages (length set.positions) r word) par
              (subst (λ (n : ℕ). IsSpanWord set.pages n (parities w.0) word) w.3
              (subst (λ (p : ℕ). IsSpanWord p (length w.0.positions) (parities w.0) word) w.4
              is.code));
          survive = λ p shard at kept.
              let here = ap (λ (l : List Shard). slice_get l p) w.2 ∙ at in
              k.rows id p w.0 set shard w.1 there below apart here
              ∙ is.survive p shard here (ap (λ (x : Membership). is_lost x shard) m ∙ kept);
        };
      }

  pub sets_leave_words : LeavesWords far new
  sets_leave_words = record { drawn = k.drawn; sets = stays; batch = k.batch }

-- a set of a fresh number is added: an eviction
pub added_keeps_sets : (s t : Shown) (far new : FarState) (id : ℕ) (set : SetState)
    (rows : List (List ℕ)) → far.counts.sets ≤ id → IsSetAdded s t far new id set rows
    → KeepsSets far new
added_keeps_sets s t far new id set rows above x = record {
  drawn = x.drawn.1;
  members = x.members;
  sets = λ j other there below apart.
      let off : j ≢ id = λ e. omega (arith, e, below, above) in
      (other, sym (ap if_committed (x.others j off)) ∙ there, refl, refl, refl);
  rows = λ j p was other shard at there below apart here.
      x.stay shard.node shard.key (x.fresh_keys (of_set j p) shard (was, at, here));
  batch = λ b at below. (b, sym x.leaving ∙ at, refl, refl, refl, refl);
}

-- the set of the batch that was leaving is added: a commit
pub committed_keeps_sets : (far new : FarState) (batch : LeavingState) → far.leaving ≡ Some batch
    → new.leaving ≡ None → far.counts.sets ≤ new.counts.sets → new.members ≡ far.members
    → new.nodes ≡ far.nodes
    → ((j : ℕ) → j ≢ batch.set → set_in new.sets j ≡ set_in far.sets j) → KeepsSets far new
committed_keeps_sets far new batch was ended drawn members nodes others = record {
  drawn = drawn;
  members = members;
  sets = λ j other there below apart.
      let off : j ≢ batch.set = λ e. apart batch was (sym e) in
      (other, sym (others j off) ∙ there, refl, refl, refl);
  rows = λ j p was other shard at there below apart here.
      ap (λ (n : NodesState). row_under n shard.node shard.key) nodes;
  batch = λ b at below. absurd (let e : None ≡ Some b = sym ended ∙ at in cc);
}

-- a batch of a fresh number is begun, or one is given up whose number no set has: no committed set
-- and none of their rows changed
pub same_keeps_sets : (far new : FarState) → far.counts.sets ≤ new.counts.sets
    → new.members ≡ far.members
    → ((id : ℕ) → set_in new.sets id ≡ set_in far.sets id)
    → ((id p : ℕ) (shard : Shard) → IsShardOf far (of_set id p) shard
    → row_under new.nodes shard.node shard.key ≡ row_under far.nodes shard.node shard.key)
    → ((b : LeavingState) → new.leaving ≡ Some b → (far.counts.sets ≤ b.set)
    ⊎ ((old : LeavingState) × (far.leaving ≡ Some old) × (old.set ≡ b.set)
    × (old.pages ≡ b.pages) × (old.frames ≡ b.frames)
    × (length old.parities ≡ length b.parities)))
    → KeepsSets far new
same_keeps_sets far new drawn members sets rows batch = record {
  drawn = drawn;
  members = members;
  sets = λ id set there below apart. (set, sym (sets id) ∙ there, refl, refl, refl);
  rows = λ id p was set shard at there below apart here. rows id p shard (was, at, here);
  batch = λ b at below. elim (batch b at) [
    | inl fresh ↦ absurd (omega (arith, fresh, below))
    | inr old ↦ old
  ];
}

-- two sets are away and one of a fresh number is there: the end of a merge
abbrev id_of : Owner → ℕ
id_of (of_set id p) = id
id_of (of_leaving p) = 0
id_of (of_joining p) = 0

pub merged_keeps_sets : (s : Shown) (far new : FarState) (pair : JoiningState) (a b c : SetState)
    (id : ℕ) → AwaySound s far → IsCommitted far new pair a b c id → KeepsSets far new
merged_keeps_sets s far new pair a b c id sound x = record {
  drawn = let d = x.drawn in omega (arith, d.0, d.1);
  members = x.members;
  sets = λ q other at below apart.
      let off : q ≢ id = λ e. let d = x.drawn.0 in omega (arith, e, below, d) in (
        other,
        sym (x.others q off (not_there q pair.a other x.a_gone at)
            (not_there q pair.b other x.b_gone at)) ∙ at,
        refl,
        refl,
        refl,
      );
  rows = λ q p was other shard at now below apart here.
      x.rows_stay shard.node shard.key (λ z replaced same. elim replaced [
        | inl (i, its) ↦ not_there q pair.b other x.b_gone now
            (ap id_of (sound.rows.one (of_set q p) (of_set pair.b i) shard z (was, at, here) (
              b,
              x.fresh.b_there,
              ap (λ (l : List Shard). slice_get l i) x.fresh.b_shards ∙ its,
            ) (sym same)))
        | inr (i, y, step, its) ↦ not_there q pair.a other x.a_gone now
            (ap id_of (sound.rows.one (of_set q p) (of_set pair.a i) shard z (was, at, here) (
              a,
              x.fresh.a_there,
              ap (λ (l : List Shard). slice_get l i) x.fresh.a_shards ∙ its,
            ) (sym same)))
      ]);
  batch = λ l at below. (l, sym x.leaving ∙ at, refl, refl, refl, refl);
}
  where
    not_there : (q n : ℕ) (other : SetState) → set_in new.sets n ≡ None
        → set_in new.sets q ≡ Some other → q ≢ n
    not_there q n other gone at e =
        let z : None ≡ Some other = sym gone ∙ ap (set_in new.sets) (sym e) ∙ at in absurd (cc)
