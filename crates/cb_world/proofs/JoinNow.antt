-- What a step, a parting and a commit leave of `now`; and what a fresh set, a position that gives objects
-- up and the begin leave of the pair.
use Rattle.std.proofs.Common.{◌≡◌, ◌≢◌, ℕ, suc, ◌+◌, ◌<◌, ◌≤◌, Bool, true, false, cond, nat_lt, List, [], ◌∷◌, length, set, Option, Some, None, is_some, sym, refl, ap, ap₂, ◌∙◌, subst, arith, inl, inr, length-set}
use Rattle.std.specs.List.{slice_get, list_any}
use Rattle.std.proofs.lemmas.Bool.{cases_eq}
use Rattle.std.proofs.lemmas.Bool.Decides.{nat_tests}
use Rattle.cb_member.specs.declared.names.NodeId.{NodeId}
use Rattle.cb_member.specs.declared.names.Shard.{Shard}
use Rattle.cb_member.specs.Membership.{Membership}
use Rattle.cb_node.specs.NodesState.{row_under}
use Rattle.cb_set.specs.SetState.{SetState, PositionState, IsRestOf, position_of, live_at, slot_at, with_position}
use Rattle.cb_set.specs.Lost.{is_lost, lost}
use Rattle.cb_set.proofs.Laws.{lost_and_surviving}
use Rattle.cb_set.specs.Surviving.{surviving_from}
use Rattle.cb_world.specs.declared.shown.Shown.{Shown}
use Rattle.cb_world.specs.Shown.{object_at}
use Rattle.cb_world.specs.declared.homes.Home.{Home}
use Rattle.cb_world.specs.FarState.{FarState}
use Rattle.cb_world.specs.Sets.{set_in, SetMap, if_committed}
use Rattle.cb_world.specs.Homes.{home_at}
use Rattle.cb_world.specs.Joining.{JoiningState}
use Rattle.cb_world.specs.SetWord.{is_broken}
use Rattle.cb_set.specs.SetState.{parities}
use Rattle.cb_world.specs.FarSound.{Owner, of_set, of_joining, IsShardOf, AwaySound}
use Rattle.cb_world.specs.Now.{broken_home, broken_set, now, now_as}
use Rattle.cb_world.specs.Join.{NoneLost, IsFresh, IsBeside, IsJoin}
use Rattle.cb_world.specs.JoinSteps.{LeavesSets, IsUnnamed, IsCommitted}
use Rattle.cb_world.specs.SetAdded.{IsSetAdded}
use Rattle.cb_world.specs.GivenUp.{GivesUp}
use Rattle.cb_world.proofs.Added.{set_same}
use Rattle.cb_set.proofs.Laws.{named_live, position_here, position_else}
use Rattle.cb_world.proofs.GivenUp.{live_names}
use Rattle.cb_world.proofs.Joined.{pair_kept}
use Rattle.cb_world.proofs.Committed.{c_home, c_beside}

some_none : {X : Type 0} (o : Option X) (x : X) → o ≡ None → o ≡ Some x → ⊥
some_none o x e f = cc

-- ---- now
-- a set of which no shard is lost is not broken
all_survive : (m : Membership) (p : ℕ) (shards : List Shard) → NoneLost m shards
    → length (surviving_from m p shards) ≡ length shards
all_survive m p [] none = refl
all_survive m p (x ∷ xs) none =
    ap (λ b. length (cond b (surviving_from m (p + 1) xs) (p ∷ surviving_from m (p + 1) xs)))
    (none 0 x refl) ∙ ap suc (all_survive m (p + 1) xs (λ q shard at. none (suc q) shard at))

pub whole_not_broken : (m : Membership) (set : SetState) → NoneLost m set.shards
    → is_broken m set ≡ false
whole_not_broken m set none =
    let n : length (lost m set.shards) ≡ 0 =
    omega (arith, lost_and_surviving m set.shards, all_survive m 0 set.shards none) in
    ap (nat_lt (parities set)) n ∙ below_none (parities set)
  where
    below_none : (k : ℕ) → nat_lt k 0 ≡ false
    below_none k = grind (arith, nat_tests)

beside_lost : (m : Membership) (old shard : Shard) → IsBeside old shard
    → is_lost m shard ≡ is_lost m old
beside_lost m old shard x =
    ap₂ (λ (n : NodeId) (i : ℕ).
    is_lost m (record { node = n; incarnation = i; key = 0 })) x.node x.incarnation

-- `now` of every handle stays over the commit
pub commit_now : (s : Shown) (far new : FarState) (pair : JoiningState) (a b c : SetState)
    (id h : ℕ) → AwaySound s far → (j : IsJoin far pair) → IsCommitted far new pair a b c id
    → now s new h ≡ now s far h
commit_now s far new pair a b c id h sound j x =
    ap (λ (l : Bool). now_as s h l (object_at s h)) (elim (x.each h) [
      | inl y ↦ ap (broken_home new) y.home ∙ same_home (home_at far.homes h) y (λ home at. at)
      | inr y ↦
          let z = c_home s far pair a b c sound j x.fresh x.merged y.position y.slot h y.named in
          ap (broken_home new) y.home ∙ ap (broken_set new.members) x.added
          ∙ ap (λ (m : Membership). is_broken m c) x.members
          ∙ whole_not_broken far.members c c_whole
          ∙ sym (ap (broken_home far) z.2 ∙ elim z.1 [
            | inl e ↦ ap (λ (q : ℕ). broken_set far.members (set_in far.sets q)) e
                ∙ ap (broken_set far.members) x.fresh.a_there
                ∙ whole_not_broken far.members a (λ p shard at.
                x.fresh.a_whole p shard (ap (λ (l : List Shard). slice_get l p) (sym x.fresh.a_shards)
                ∙ at))
            | inr e ↦ ap (λ (q : ℕ). broken_set far.members (set_in far.sets q)) e
                ∙ ap (broken_set far.members) x.fresh.b_there
                ∙ whole_not_broken far.members b (λ p shard at.
                x.fresh.b_whole p shard (ap (λ (l : List Shard). slice_get l p) (sym x.fresh.b_shards)
                ∙ at))
          ])
    ])
  where
    c_whole : NoneLost far.members c.shards
    c_whole p shard at = let y =
        c_beside far pair a b c j x.merged p shard at in beside_lost far.members y.0 shard y.2
        ∙ x.fresh.a_whole p y.0 y.1

    same_home : (o : Option Home) → IsUnnamed far new a b h
        → ((home : Home) → o ≡ Some home → home_at far.homes h ≡ Some home)
        → broken_home new o ≡ broken_home far o
    same_home None y is = refl
    same_home (Some home) y is =
        let z = sound.away.home h home (is home refl) in
        let off_a : home.set ≢ pair.a =
        λ e. y.absent_a home.position home.slot (subst (λ (d : SetState).
        slot_at d home.position home.slot ≡ Some h) (set_same z.0 a (sym z.1
        ∙ ap (set_in far.sets) e ∙ x.fresh.a_there)) z.2) in
        let off_b : home.set ≢ pair.b =
        λ e. y.absent_b home.position home.slot (subst (λ (d : SetState).
        slot_at d home.position home.slot ≡ Some h) (set_same z.0 b (sym z.1
        ∙ ap (set_in far.sets) e ∙ x.fresh.b_there)) z.2) in
        ap (broken_set new.members) (x.others home.set (λ e.
        absurd (omega (arith, sound.sets.numbered home.set z.0 z.1, e, x.drawn.0))) off_a off_b)
        ∙ ap (λ (m : Membership). broken_set m (set_in far.sets home.set)) x.members

-- and over a step or a parting
pub pair_now : (s : Shown) (far new : FarState) (h : ℕ) → LeavesSets far new
    → now s new h ≡ now s far h
pair_now s far new h x =
    ap (λ (l : Bool). now_as s h l (object_at s h)) (ap (λ l. broken_home new (home_at l h)) x.homes
    ∙ same (home_at far.homes h))
  where
    same : (o : Option Home) → broken_home new o ≡ broken_home far o
    same None = refl
    same (Some home) =
        ap₂ (λ (m : Membership) (sets : SetMap).
        broken_set m (set_in sets home.set)) x.members x.sets

-- ---- what other changes leave of the pair
-- a fresh set
pub added_keeps_join : (s t : Shown) (far new : FarState) (id : ℕ) (set : SetState)
    (rows : List (List ℕ)) (pair : JoiningState) → AwaySound s far → far.joining ≡ Some pair
    → IsSetAdded s t far new id set rows → IsJoin far pair → IsJoin new pair
added_keeps_join s t far new id set rows pair sound was x j = pair_kept far new pair (record {
  more_sets = x.drawn.1;
  more_keys = x.more_keys;
  fresh = λ c d f. (c, d, before c d f, λ pages k y. y);
  a_stay = λ c d f p shard at.
      stays (of_set pair.a p) shard (
        c,
        (before c d f).a_there,
        ap (λ (l : List Shard). slice_get l p) f.a_shards ∙ at,
      );
  b_stay = λ c d f p shard at.
      stays (of_set pair.b p) shard (
        d,
        (before c d f).b_there,
        ap (λ (l : List Shard). slice_get l p) f.b_shards ∙ at,
      );
  new_stay = λ c d f p shard at. stays (of_joining p) shard (pair, was, at);
}) j
  where
    stays : (o : Owner) (shard : Shard) → IsShardOf far o shard
        → row_under new.nodes shard.node shard.key ≡ row_under far.nodes shard.node shard.key
    stays o shard is =
        x.stay shard.node shard.key (x.fresh_keys o shard is)

    before : (c d : SetState) → IsFresh new pair c d → IsFresh far pair c d
    before c d f = record {
      a_there = sym (ap if_committed (x.others pair.a (x.unpaired pair was).0))
          ∙ f.a_there;
      b_there = sym (ap if_committed (x.others pair.b (x.unpaired pair was).1))
          ∙ f.b_there;
      a_shards = f.a_shards;
      b_shards = f.b_shards;
      a_whole = λ p shard at. ap (λ (m : Membership). is_lost m shard) (sym x.members)
          ∙ f.a_whole p shard at;
      b_whole = λ p shard at. ap (λ (m : Membership). is_lost m shard) (sym x.members)
          ∙ f.b_whole p shard at;
    }

-- a position gives objects up, of one of the pair's sets too: no position more is live, and a set that
-- is dropped makes the pair stale
abbrev WasSet : (far : FarState) (q : ℕ) (c : SetState) → Type 0
WasSet far q c = (a : SetState) × (set_in far.sets q ≡ Some a) × (c.shards ≡ a.shards)
    × (length c.positions ≡ length a.positions)
    × ((p : ℕ) → live_at c p ≡ true → live_at a p ≡ true) × (c.pages ≡ a.pages)

live_before : (set : SetState) (p : ℕ) (left : PositionState) (q : ℕ) → p < length set.positions
    → IsRestOf (position_of set p) left
    → live_at set p ≡ list_any (λ x. is_some x) (position_of set p).slots
    → live_at (with_position set p left) q ≡ true → live_at set q ≡ true
live_before set p left q within rest live l = elim (cases_eq q p) [
  | inl here ↦
      let on : left.live ≡ true =
      sym (ap (λ (n : ℕ). live_at (with_position set p left) n) here
      ∙ ap (λ (c : PositionState). c.live) (position_here set p left within)) ∙ l in
      let x = live_names left.slots (sym rest.live ∙ on) in
      ap (λ (n : ℕ). live_at set n) here ∙ live
      ∙ named_live (position_of set p).slots x.0 x.1 (rest.named x.0 x.1 x.2)
  | inr off ↦ ap (λ (c : PositionState). c.live) (sym (position_else set p q left off)) ∙ l
]

was_set : (s t : Shown) (far new : FarState) (id : ℕ) (set : SetState) (p : ℕ)
    (left : PositionState) → AwaySound s far → GivesUp s t far new id set p left → (q : ℕ)
    (c : SetState) → set_in new.sets q ≡ Some c → WasSet far q c
was_set s t far new id set p left sound x q c at = elim (cases_eq q id) [
  | inl here ↦ elim x.after [
    | inl on ↦
        let e = set_same (with_position set p left) c (sym on.there
        ∙ ap (set_in new.sets) (sym here) ∙ at) in
        subst (λ (d : SetState). WasSet far q d) e (
          set,
          ap (set_in far.sets) here
              ∙ x.was,
          refl,
          length-set set.positions p left,
          λ z l. live_before set p left z x.inside x.rest (sound.sets.live id p set x.was) l,
          refl,
        )
    | inr dropped ↦
        absurd (some_none (set_in new.sets id) c dropped.gone (ap (set_in new.sets) (sym here)
        ∙ at))
  ]
  | inr off ↦ (c, sym (ap if_committed (x.others q off)) ∙ at, refl, refl, (λ z l. l), refl)
]

pub given_keeps_join : (s t : Shown) (far new : FarState) (id : ℕ) (set : SetState) (p : ℕ)
    (left : PositionState) (pair : JoiningState) → AwaySound s far → far.joining ≡ Some pair
    → GivesUp s t far new id set p left → IsJoin far pair → IsJoin new pair
given_keeps_join s t far new id set p left pair sound was x j = pair_kept far new pair (record {
  more_sets = subst (λ c. far.counts.sets ≤ c.sets) (sym x.counts) (omega arith);
  more_keys = subst (λ c. far.counts.keys ≤ c.keys) (sym x.counts) (omega arith);
  fresh = λ c d f. let y = was_set s t far new id set p left sound x pair.a c f.a_there in let z =
      was_set s t far new id set p left sound x pair.b d f.b_there in (
        y.0,
        z.0,
        before c d f,
        λ pages k fit. record {
          a_count = y.3 ∙ fit.a_count;
          b_count = z.3 ∙ fit.b_count;
          a_pages = y.5 ∙ fit.a_pages;
          b_pages = z.5 ∙ fit.b_pages;
          a_live =
              λ q l. fit.a_live q (y.4 q l);
          b_live = λ q l. fit.b_live q (z.4 q l);
        },
      );
  a_stay = λ c d f q shard at. let y = before c d f in let w =
      was_set s t far new id set p left sound x pair.a c f.a_there in
      stays pair.a q c f.a_there shard (
        w.0,
        y.a_there,
        ap (λ (l : List Shard). slice_get l q) y.a_shards ∙ at,
      );
  b_stay = λ c d f q shard at. let y = before c d f in let w =
      was_set s t far new id set p left sound x pair.b d f.b_there in
      stays pair.b q d f.b_there shard (
        w.0,
        y.b_there,
        ap (λ (l : List Shard). slice_get l q) y.b_shards ∙ at,
      );
  new_stay = λ c d f q shard at. new_stays q shard at;
}) j
  where
    before : (c d : SetState) (f : IsFresh new pair c d)
        → IsFresh far pair (was_set s t far new id set p left sound x pair.a c f.a_there).0
        (was_set s t far new id set p left sound x pair.b d f.b_there).0
    before c d f = let y = was_set s t far new id set p left sound x pair.a c f.a_there in let z =
        was_set s t far new id set p left sound x pair.b d f.b_there in record {
          a_there = y.1;
          b_there = z.1;
          a_shards = sym y.2 ∙ f.a_shards;
          b_shards = sym z.2 ∙ f.b_shards;
          a_whole = λ p shard at. ap (λ (m : Membership). is_lost m shard) (sym x.members)
              ∙ f.a_whole p shard at;
          b_whole = λ p shard at. ap (λ (m : Membership). is_lost m shard) (sym x.members)
              ∙ f.b_whole p shard at;
        }

    not_set : (q n r : ℕ) → of_joining q ≡ of_set n r → ⊥
    not_set q n r e = cc

    set_is : (n q m r : ℕ) → of_set n q ≡ of_set m r → n ≡ m
    set_is n q m r e = cc

    -- a set that is still there keeps its rows
    stays : (n q : ℕ) (c : SetState) → set_in new.sets n ≡ Some c → (shard : Shard)
        → IsShardOf far (of_set n q) shard
        → row_under new.nodes shard.node shard.key ≡ row_under far.nodes shard.node shard.key
    stays n q c there shard is = elim x.after [
      | inl on ↦ on.rows shard.node shard.key
      | inr dropped ↦ dropped.rows_stay shard.node shard.key (λ r mine at e.
          let same =
          set_is n q id r (sound.rows.one (of_set n q) (of_set id r) shard mine is (
            set,
            x.was,
            at,
          ) (sym e)) in
          some_none (set_in new.sets id) c dropped.gone (ap (set_in new.sets) (sym same) ∙ there))
    ]

    new_stays : (q : ℕ) (shard : Shard) → slice_get pair.steps q ≡ Some (Some shard)
        → row_under new.nodes shard.node shard.key ≡ row_under far.nodes shard.node shard.key
    new_stays q shard at = elim x.after [
      | inl on ↦ on.rows shard.node shard.key
      | inr dropped ↦
          dropped.rows_stay shard.node shard.key (λ r mine there e.
          not_set q id r (sound.rows.one (of_joining q) (of_set id r) shard mine (
            pair,
            was,
            at,
          ) (set, x.was, there) (sym e)))
    ]
