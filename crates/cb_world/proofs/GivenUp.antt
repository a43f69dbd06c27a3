-- A position that gives objects up, and a set that is dropped with its rows, keep the far part of
-- the world sound.
use Rattle.std.proofs.Common.{◌≡◌, ◌≢◌, ◌⊎◌, ℕ, ◌-◌, ◌<◌, ◌≤◌, true, List, length, get_or, set, Option, Some, None, is_some, sym, ap, ◌∙◌, subst, arith, inl, inr, length-set}
use Rattle.std.specs.List.{slice_get, list_any}
use Rattle.std.proofs.lemmas.Bool.{cases_eq, false≢true}
use Rattle.std.proofs.lemmas.List.{get_or_default}
use Rattle.std.proofs.lemmas.List.Folds.{Any-from_list_any}
use Rattle.cb_gf256.specs.Rows.{row_at}
use Rattle.cb_gf256.specs.InRange.{IsInRange}
use Rattle.cb_member.specs.declared.names.NodeId.{NodeId}
use Rattle.cb_member.specs.declared.names.Shard.{Shard}
use Rattle.cb_member.specs.Membership.{Membership, IsMembership, incarnation}
use Rattle.cb_node.specs.NodesState.{NodesState, row_under}
use Rattle.cb_set.specs.SetState.{SetState, PositionState, IsRestOf, position_of, live_at, slot_at, with_position}
use Rattle.cb_set.proofs.Laws.{named_live, position_here, position_else}
use Rattle.cb_set.specs.Lost.{is_lost}
use Rattle.cb_world.specs.declared.shown.Shown.{Shown}
use Rattle.cb_world.specs.Shown.{object_at}
use Rattle.cb_world.specs.declared.homes.Home.{Home}
use Rattle.cb_world.specs.FarState.{FarState}
use Rattle.cb_world.specs.Sets.{set_in, if_committed}
use Rattle.cb_world.specs.Homes.{home_at}
use Rattle.cb_world.specs.SetWord.{IsWordOf, IsSpanWord, IsShaped}
use Rattle.cb_world.specs.FarSound.{HoldsObject, IsSetWord, AreSets, AreAway, AreShardRows, Owner, of_set, of_leaving, of_joining, IsShardOf, AwaySound}
use Rattle.cb_world.specs.GivenUp.{IsLeft, SetGoesOn, GivesUp}
use Rattle.cb_world.proofs.Added.{set_same, home_same, holds_kept, was_far}

-- ---- one position is dead
some_none : {X : Type 0} (o : Option X) (x : X) → o ≡ None → o ≡ Some x → ⊥
some_none o x e f = cc

-- a slot that is still named was named before, and at the position is among what is left
pub named_before : (set : SetState) (p : ℕ) (left : PositionState) (q slot h : ℕ)
    → p < length set.positions → IsRestOf (position_of set p) left
    → slot_at (with_position set p left) q slot ≡ Some h
    → (slot_at set q slot ≡ Some h) × ((q ≡ p) → get_or left.slots slot None ≡ Some h)
named_before set p left q slot h within rest named = elim (cases_eq q p) [
  | inl here ↦
      let at : get_or left.slots slot None ≡ Some h =
      ap (λ (c : PositionState). get_or c.slots slot None) (sym (position_here set p left within))
      ∙ ap (λ (n : ℕ). slot_at (with_position set p left) n slot) (sym here) ∙ named in (
        ap (λ (n : ℕ). slot_at set n slot) here ∙ rest.named slot h at,
        λ same. at,
      )
  | inr off ↦ (
    ap (λ (c : PositionState). get_or c.slots slot None) (sym (position_else set p q left off))
        ∙ named,
    λ same. absurd (off same),
  )
]

-- a live position names a handle
pub live_names : (slots : List (Option ℕ)) → list_any (λ x. is_some x) slots ≡ true → (slot : ℕ)
    × (h : ℕ) × (get_or slots slot None ≡ Some h)
live_names slots any =
    let x = Any-from_list_any (λ x. is_some x) slots any in
    handle x.0 x.1 (get_or_default slots x.0 None x.1 x.2 ∙ x.3) x.4
  where
    handle : (slot : ℕ) (o : Option ℕ) → get_or slots slot None ≡ o → is_some o ≡ true → (slot : ℕ)
        × (h : ℕ) × (get_or slots slot None ≡ Some h)
    handle slot None e some = absurd (false≢true some)
    handle slot (Some h) e some = (slot, h, e)

shaped_rest : (m : Membership) (set : SetState) (p : ℕ) (left : PositionState) → IsShaped m set
    → IsShaped m (with_position set p left)
shaped_rest m set p left x =
    let n : length (with_position set p left).positions ≡ length set.positions =
    length-set set.positions p left in record {
      range = subst (λ (k : ℕ). IsInRange k (length set.shards - k)) (sym n) x.range;
      data_first = omega (arith, n, x.data_first);
      pages = x.pages;
      distinct = x.distinct;
      current = x.current;
    }

-- ---- the sets
-- an object that is named still is left
left_object : (s t : Shown) (far new : FarState) (id : ℕ) (set : SetState) (p : ℕ)
    (left : PositionState) → AwaySound s far → GivesUp s t far new id set p left
    → (j q slot h : ℕ) (other : SetState) → set_in far.sets j ≡ Some other
    → slot_at other q slot ≡ Some h
    → ((j ≡ id) → (q ≡ p) → get_or left.slots slot None ≡ Some h)
    → IsLeft s t far new set p left h
left_object s t far new id set p left sound x j q slot h other at named still = elim (x.each h) [
  | inl stays ↦ stays
  | inr given ↦
      let e = home_same (record { set = j; position = q; slot = slot }) (record {
        set = id;
        position = p;
        slot = given.slot;
      })
      (sym (sound.away.named j q slot h other at named)
      ∙ sound.away.named id p given.slot h set x.was given.named) in
      absurd (given.gone slot (still (ap (λ (k : Home). k.set) e) (ap (λ (k : Home). k.position) e)))
]

-- the word of the set stays its word
word_rest : (nodes : NodesState) (m : Membership) (set : SetState) (p : ℕ) (left : PositionState)
    (rows : List (List ℕ)) → IsWordOf nodes m set rows
    → IsWordOf nodes m (with_position set p left) rows
word_rest nodes m set p left rows x =
    let n : length (with_position set p left).positions ≡ length set.positions =
    length-set set.positions p left in
    record {
      code = subst (λ (k : ℕ). IsSpanWord set.pages k (length set.shards - k) rows) (sym n) x.code;
      survive = x.survive;
    }

word_stays : (nodes new : NodesState) (m n : Membership) (set : SetState) (rows : List (List ℕ))
    → n ≡ m → ((p : ℕ) (shard : Shard) → slice_get set.shards p ≡ Some shard
    → row_under new shard.node shard.key ≡ row_under nodes shard.node shard.key)
    → IsWordOf nodes m set rows → IsWordOf new n set rows
word_stays nodes new m n set rows members same x = record {
  code = x.code;
  survive = λ p shard at kept. same p shard at
      ∙ x.survive p shard at (ap (λ (m : Membership). is_lost m shard) (sym members) ∙ kept);
}

-- the rows of another set stay
other_rows : (s t : Shown) (far new : FarState) (id : ℕ) (set : SetState) (p : ℕ)
    (left : PositionState) → AwaySound s far → GivesUp s t far new id set p left → (o : Owner)
    (shard : Shard) → IsShardOf far o shard → ((q : ℕ) → o ≡ of_set id q → ⊥)
    → row_under new.nodes shard.node shard.key ≡ row_under far.nodes shard.node shard.key
other_rows s t far new id set p left sound x o shard is other = elim x.after [
  | inl on ↦ on.rows shard.node shard.key
  | inr dropped ↦
      dropped.rows_stay shard.node shard.key (λ q mine at same.
      other q (sound.rows.one o (of_set id q) shard mine is (set, x.was, at) (sym same)))
]

abbrev set_number : Owner → ℕ
set_number (of_set id p) = id
set_number (of_leaving p) = 0
set_number (of_joining p) = 0

-- a set of the new world: what is left of the set, or another one
abbrev pub IsNewSet : FarState → FarState → ℕ → SetState → ℕ → SetState → Type 0
IsNewSet far new id rest j other =
    ((j ≡ id) × SetGoesOn far new id rest × (rest ≡ other))
    ⊎ ((j ≢ id) × (set_in far.sets j ≡ Some other))

new_set : (s t : Shown) (far new : FarState) (id : ℕ) (set : SetState) (p : ℕ)
    (left : PositionState) → GivesUp s t far new id set p left → (j : ℕ) (other : SetState)
    → set_in new.sets j ≡ Some other → IsNewSet far new id (with_position set p left) j other
new_set s t far new id set p left x j other at = elim (cases_eq j id) [
  | inl here ↦ elim x.after [
    | inl on ↦
        inl (
          here,
          on,
          set_same (with_position set p left) other (sym on.there ∙ ap (set_in new.sets) (sym here)
              ∙ at),
        )
    | inr dropped ↦
        absurd (some_none (set_in new.sets id) other dropped.gone (ap (set_in new.sets) (sym here)
        ∙ at))
  ]
  | inr off ↦ inr (off, sym (ap if_committed (x.others j off)) ∙ at)
]

-- by the two cases of a new set
each_set : (s t : Shown) (far new : FarState) (id : ℕ) (set : SetState) (p : ℕ)
    (left : PositionState) → GivesUp s t far new id set p left → (P : ℕ → SetState → Type 0)
    → (SetGoesOn far new id (with_position set p left) → P id (with_position set p left))
    → ((j : ℕ) (other : SetState) → j ≢ id → set_in far.sets j ≡ Some other → P j other)
    → (j : ℕ) (other : SetState) → set_in new.sets j ≡ Some other → P j other
each_set s t far new id set p left x P on off j other at =
    elim (new_set s t far new id set p left x j other at) [
      | inl y ↦ subst (λ (c : SetState). P j c) y.2
          (subst (λ (n : ℕ). P n (with_position set p left)) (sym y.0) (on y.1))
      | inr y ↦ off j other y.0 y.1
    ]

live_rest : (set : SetState) (p : ℕ) (left : PositionState) → p < length set.positions
    → IsRestOf (position_of set p) left
    → ((q : ℕ) → live_at set q ≡ list_any (λ x. is_some x) (position_of set q).slots)
    → (q : ℕ)
    → live_at (with_position set p left) q ≡ list_any (λ x.
    is_some x) (position_of (with_position set p left) q).slots
live_rest set p left within rest live q = elim (cases_eq q p) [
  | inl here ↦
      subst (λ (n : ℕ).
      live_at (with_position set p left) n ≡ list_any (λ x.
      is_some x) (position_of (with_position set p left) n).slots) (sym here)
      (subst (λ (c : PositionState).
      c.live ≡ list_any (λ x. is_some x) c.slots) (sym (position_here set p left within)) rest.live)
  | inr off ↦
      subst (λ (c : PositionState).
      c.live ≡ list_any (λ x. is_some x) c.slots) (sym (position_else set p q left off)) (live q)
]

-- the count of slots of a position of which one is named still
slots_stay : (set : SetState) (p : ℕ) (left : PositionState) (q slot h : ℕ)
    → p < length set.positions → IsRestOf (position_of set p) left
    → slot_at (with_position set p left) q slot ≡ Some h
    → length (position_of (with_position set p left) q).slots ≡ length (position_of set q).slots
slots_stay set p left q slot h within rest named = elim (cases_eq q p) [
  | inl here ↦
      ap (λ (n : ℕ). length (position_of (with_position set p left) n).slots) here
      ∙ ap (λ (c : PositionState). length c.slots) (position_here set p left within)
      ∙ rest.sized slot h ((named_before set p left q slot h within rest named).1 here)
      ∙ ap (λ (n : ℕ). length (position_of set n).slots) (sym here)
  | inr off ↦ ap (λ (c : PositionState). length c.slots) (position_else set p q left off)
]

pub given_sets : (s t : Shown) (far new : FarState) (id : ℕ) (set : SetState) (p : ℕ)
    (left : PositionState) → AwaySound s far → GivesUp s t far new id set p left → AreSets t new
given_sets s t far new id set p left sound x = record {
  shaped = each_set s t far new id set p left x (λ j c. IsShaped new.members c)
      (λ on. subst (λ (m : Membership).
      IsShaped m (with_position set p left)) (sym x.members)
      (shaped_rest far.members set p left (sound.sets.shaped id set x.was)))
      (λ j other off was.
      subst (λ (m : Membership).
      IsShaped m other) (sym x.members) (sound.sets.shaped j other was));
  worded = each_set s t far new id set p left x (λ j c. (rows : List (List ℕ))
      × IsSetWord t new.nodes new.members c rows)
      (λ on. let y = sound.sets.worded id set x.was in (
        y.0,
        record {
          word = word_rest new.nodes new.members set p left y.0
              (word_stays far.nodes new.nodes far.members new.members set y.0 x.members (λ q shard at.
              on.rows shard.node shard.key) y.1.word);
          holds = λ q slot h named.
              let n = named_before set p left q slot h x.inside x.rest named in
              let z = left_object s t far new id set p left sound x id q slot h set x.was n.0
              (λ same. n.1) in
              holds_kept s t set.pages (row_at y.0 q)
              (length (position_of (with_position set p left) q).slots) slot h z.object
              (subst (λ (k : ℕ). HoldsObject s set.pages (row_at y.0 q) k slot h)
              (sym (slots_stay set p left q slot h x.inside x.rest named))
              (y.1.holds q slot h n.0));
        },
      ))
      (λ j other off was. let y = sound.sets.worded j other was in (
        y.0,
        record {
          word = word_stays far.nodes new.nodes far.members new.members other y.0 x.members
              (λ q shard at.
              other_rows s t far new id set p left sound x (of_set j q) shard (
                other,
                was,
                at,
              ) (λ q e. off (ap set_number e))) y.1.word;
          holds = λ q slot h named.
              let z = left_object s t far new id set p left sound x j q slot h other was named
              (λ same. absurd (off same)) in
              holds_kept s t other.pages (row_at y.0 q) (length (position_of other q).slots) slot h
              z.object (y.1.holds q slot h named);
        },
      ));
  live = λ j q other at.
      each_set s t far new id set p left x (λ j c. (q : ℕ)
      → live_at c q ≡ list_any (λ x. is_some x) (position_of c q).slots)
      (λ on. live_rest set p left x.inside x.rest (λ q. sound.sets.live id q set x.was))
      (λ j other off was q. sound.sets.live j q other was) j other at q;
  kept = each_set s t far new id set p left x (λ j c. (q : ℕ)
      × (live_at c q ≡ true)) (λ on. on.some_live) (λ j other off was. sound.sets.kept j other was);
  numbered = each_set s t far new id set p left x (λ j c. j < new.counts.sets)
      (λ on. subst (λ c.
      id < c.sets) (sym x.counts) (sound.sets.numbered id set x.was)) (λ j other off was.
      subst (λ c. j < c.sets) (sym x.counts) (sound.sets.numbered j other was));
}

-- ---- the homes
-- a slot of the set whose object is left is named by what is left of the set
named_after : (s t : Shown) (far new : FarState) (set : SetState) (p : ℕ) (left : PositionState)
    (q slot h : ℕ) → p < length set.positions → IsLeft s t far new set p left h
    → slot_at set q slot ≡ Some h → slot_at (with_position set p left) q slot ≡ Some h
named_after s t far new set p left q slot h within is named = elim (cases_eq q p) [
  | inl here ↦ ap (λ (n : ℕ). slot_at (with_position set p left) n slot) here
      ∙ ap (λ (c : PositionState). get_or c.slots slot None) (position_here set p left within)
      ∙ is.stays slot (ap (λ (n : ℕ). slot_at set n slot) (sym here) ∙ named)
  | inr off ↦ ap (λ (c : PositionState). get_or c.slots slot None) (position_else set p q left off)
      ∙ named
]

pub given_away : (s t : Shown) (far new : FarState) (id : ℕ) (set : SetState) (p : ℕ)
    (left : PositionState) → AwaySound s far → GivesUp s t far new id set p left → AreAway t new
given_away s t far new id set p left sound x = record {
  away = λ h len v words at. elim (x.each h) [
    | inl stays ↦ let y =
        sound.away.away h len v words (sym stays.object ∙ at) in (y.0, stays.home ∙ y.1)
    | inr given ↦ absurd (given.near (was_far (object_at t h) len v words at))
  ];
  home = λ h home at. elim (x.each h) [
    | inl stays ↦ let y =
        sound.away.home h home (sym stays.home ∙ at) in elim (cases_eq home.set id) [
          | inl here ↦
              let e = set_same y.0 set (sym y.1 ∙ ap (set_in far.sets) here ∙ x.was) in
              let named : slot_at (with_position set p left) home.position home.slot ≡ Some h =
              named_after s t far new set p left home.position home.slot h x.inside stays
              (subst (λ (c : SetState). slot_at c home.position home.slot ≡ Some h) e y.2) in
              elim x.after [
                | inl on ↦ (with_position set p left, ap (set_in new.sets) here ∙ on.there, named)
                | inr dropped ↦
                    absurd (false≢true (sym (dropped.no_live home.position)
                    ∙ live_rest set p left x.inside x.rest (λ q. sound.sets.live id q set x.was)
                    home.position
                    ∙ named_live (position_of (with_position set p left) home.position).slots
                    home.slot h named))
              ]
          | inr off ↦ (y.0, ap if_committed (x.others home.set off) ∙ y.1, y.2)
        ]
    | inr given ↦ absurd (some_none (home_at new.homes h) home given.home at)
  ];
  named = λ j q slot h other at named.
      each_set s t far new id set p left x (λ j c. slot_at c q slot ≡ Some h
      → home_at new.homes h ≡ Some (record { set = j; position = q; slot = slot }))
      (λ on named. let n = named_before set p left q slot h x.inside x.rest named in
      (left_object s t far new id set p left sound x id q slot h set x.was n.0 (λ same. n.1)).home
      ∙ sound.away.named id q slot h set x.was n.0)
      (λ j other off was named.
      (left_object s t far new id set p left sound x j q slot h other was named (λ same.
      absurd (off same))).home ∙ sound.away.named j q slot h other was named)
      j other at named;
}

-- ---- the rows
was_shard : (s t : Shown) (far new : FarState) (id : ℕ) (set : SetState) (p : ℕ)
    (left : PositionState) → GivesUp s t far new id set p left → (o : Owner) (shard : Shard)
    → IsShardOf new o shard → IsShardOf far o shard
was_shard s t far new id set p left x (of_set j q) shard is =
    each_set s t far new id set p left x (λ j c. slice_get c.shards q ≡ Some shard
    → IsShardOf far (of_set j q) shard) (λ on at. (set, x.was, at)) (λ j other off was at.
    (other, was, at)) j is.0 is.1 is.2
was_shard s t far new id set p left x (of_leaving q) shard is = (is.0, sym x.leaving ∙ is.1, is.2)
was_shard s t far new id set p left x (of_joining q) shard is = (is.0, sym x.joining ∙ is.1, is.2)

-- a shard whose row is there is one of the new world
still_shard : (s t : Shown) (far new : FarState) (id : ℕ) (set : SetState) (p : ℕ)
    (left : PositionState) → GivesUp s t far new id set p left → (o : Owner) (shard : Shard)
    (row : List ℕ) → IsShardOf far o shard
    → row_under new.nodes shard.node shard.key ≡ Some row → IsShardOf new o shard
still_shard s t far new id set p left x (of_set j q) shard row is there = elim (cases_eq j id) [
  | inl here ↦ let e = set_same is.0 set (sym is.1 ∙ ap (set_in far.sets) here ∙ x.was) in
      let at : slice_get set.shards q ≡ Some shard =
      subst (λ (c : SetState). slice_get c.shards q ≡ Some shard) e is.2 in
      elim x.after [
        | inl on ↦ (with_position set p left, ap (set_in new.sets) here ∙ on.there, at)
        | inr dropped ↦ absurd (some_none _ row (dropped.rows_gone q shard at) there)
      ]
  | inr off ↦ (is.0, ap if_committed (x.others j off) ∙ is.1, is.2)
]
still_shard s t far new id set p left x (of_leaving q) shard row is there =
    (is.0, x.leaving ∙ is.1, is.2)
still_shard s t far new id set p left x (of_joining q) shard row is there =
    (is.0, x.joining ∙ is.1, is.2)

still_row : (s t : Shown) (far new : FarState) (id : ℕ) (set : SetState) (p : ℕ)
    (left : PositionState) → GivesUp s t far new id set p left → (node : NodeId) (key : ℕ)
    (row : List ℕ) → row_under new.nodes node key ≡ Some row
    → row_under far.nodes node key ≡ Some row
still_row s t far new id set p left x node key row at = elim x.after [
  | inl on ↦ sym (on.rows node key) ∙ at
  | inr dropped ↦ dropped.fewer node key row at
]

pub given_rows : (s t : Shown) (far new : FarState) (id : ℕ) (set : SetState) (p : ℕ)
    (left : PositionState) → AwaySound s far → GivesUp s t far new id set p left → AreShardRows new
given_rows s t far new id set p left sound x = record {
  members = subst IsMembership (sym x.members) sound.rows.members;
  counted = x.nodes ∙ sound.rows.counted ∙ ap (λ (m : Membership). length m.nodes) (sym x.members);
  room = x.room sound.rows.room;
  owned = λ node key row at. let y =
      sound.rows.owned node key row (still_row s t far new id set p left x node key row at) in
      let n : y.1.node ≡ node = same_node y.1.node node y.3 in (
        y.0,
        y.1,
        still_shard s t far new id set p left x y.0 y.1 row y.2 (ap (λ (q : NodeId).
            row_under new.nodes q y.1.key) n ∙ ap (row_under new.nodes node) y.4 ∙ at),
        y.3,
        y.4,
        ap (λ (m : Membership). is_lost m y.1) x.members ∙ y.5,
      );
  one = λ o q a b is js same.
      sound.rows.one o q a b (was_shard s t far new id set p left x o a is)
      (was_shard s t far new id set p left x q b js) same;
  drawn = λ o a is.
      subst (λ c.
      a.key < c.keys) (sym x.counts)
      (sound.rows.drawn o a (was_shard s t far new id set p left x o a is));
  current = λ o a is.
      subst (λ (m : Membership). (a.node.n < length m.nodes)
      × (a.incarnation ≤ incarnation m a.node)) (sym x.members)
      (sound.rows.current o a (was_shard s t far new id set p left x o a is));
}
  where
    same_node : (a b : NodeId) → a.n ≡ b.n → a ≡ b
    same_node a b e = ap (λ (n : ℕ). record { n = n }) e

not_set : (q : ℕ) (id r : ℕ) → of_leaving q ≡ of_set id r → ⊥
not_set q id r e = cc

-- the far part is sound without the objects, or without the set and its rows
pub given_up : (s t : Shown) (far new : FarState) (id : ℕ) (set : SetState) (p : ℕ)
    (left : PositionState) → AwaySound s far → GivesUp s t far new id set p left
    → AwaySound t new
given_up s t far new id set p left sound x = record {
  sets = given_sets s t far new id set p left sound x;
  away = given_away s t far new id set p left sound x;
  rows = given_rows s t far new id set p left sound x;
  batch = λ b at. let was = sym x.leaving ∙ at in let y = sound.batch b was in let same =
      x.batch b was in record {
        word = λ made. subst (IsSpanWord b.pages (length b.frames) (length b.parities)) (sym same)
            (y.word made);
        bare = y.bare;
        count = y.count;
        put = λ q shard is kept.
            other_rows s t far new id set p left sound x (of_leaving q) shard (
              b,
              was,
              is,
            ) (λ r e. not_set q id r e)
            ∙ y.put q shard is (ap (λ (m : Membership). is_lost m shard) (sym x.members) ∙ kept)
            ∙ ap (λ (l : List (List ℕ)). Some (row_at l q)) (sym same);
        apart = y.apart;
      };
}
