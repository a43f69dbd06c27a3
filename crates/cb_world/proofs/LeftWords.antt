-- What is left of the words of sets where a position gave objects up, and where no set changed: the
-- steps of a pair, and what changes local memory alone.
use Rattle.std.proofs.Common.{◌≡◌, ◌≢◌, ◌⊎◌, ℕ, List, length, None, Some, refl, sym, ap, ◌∙◌, arith, inl, inr, length-set}
use Rattle.std.specs.List.{slice_get}
use Rattle.std.proofs.lemmas.Bool.{cases_eq}
use Rattle.std.proofs.lemmas.Option.{same_Some}
use Rattle.cb_member.specs.declared.names.Shard.{Shard}
use Rattle.cb_node.specs.NodesState.{row_under}
use Rattle.cb_set.specs.SetState.{PositionState, SetState, with_position}
use Rattle.cb_world.specs.declared.shown.Shown.{Shown}
use Rattle.cb_world.specs.FarSound.{AwaySound, IsShardOf, Owner, of_set, of_leaving, of_joining}
use Rattle.cb_world.specs.FarState.{FarState}
use Rattle.cb_world.specs.Fetched.{with_rows_given}
use Rattle.cb_world.specs.GivenUp.{IsDropped, SetGoesOn}
use Rattle.cb_world.specs.Joining.{JoiningState}
use Rattle.cb_world.specs.JoinSteps.{IsParted, IsStepped}
use Rattle.cb_world.specs.LeftOver.{nodes_left, sets_left, survey_left}
use Rattle.cb_world.specs.Orders.{LeavesWords}
use Rattle.cb_world.specs.Sets.{if_committed, set_in}
use Rattle.cb_world.proofs.FarGone.{shards_there}
use Rattle.cb_world.proofs.SetsLeft.{left_others, left_over}
use Rattle.cb_world.proofs.WordsLeft.{same_keeps_sets, sets_leave_words}

-- ---- no set, no member and no batch changed, and the rows of sets stand where they stood
pub alike_leaves_words : (far new : FarState) → new.counts.sets ≡ far.counts.sets
    → new.members ≡ far.members → new.sets ≡ far.sets → new.leaving ≡ far.leaving
    → ((id p : ℕ) (shard : Shard) → IsShardOf far (of_set id p) shard
    → row_under new.nodes shard.node shard.key ≡ row_under far.nodes shard.node shard.key)
    → LeavesWords far new
alike_leaves_words far new drawn members sets leaving rows =
    sets_leave_words far new (same_keeps_sets far new (omega (arith, drawn)) members
    (λ id. ap (λ m. set_in m id) sets) rows
    (λ b at. inr (b, sym leaving ∙ at, refl, refl, refl, refl)))

-- a row of the pair that is joining is put under a fresh key
pub stepped_leaves_words : (s : Shown) (far new : FarState) (pair : JoiningState) (a b : SetState)
    (p : ℕ) (old shard : Shard) (row : List ℕ) → AwaySound s far
    → IsStepped far new pair a b p old shard row → LeavesWords far new
stepped_leaves_words s far new pair a b p old shard row sound x =
    alike_leaves_words far new x.left.drawn x.left.members x.left.sets x.left.leaving
    (λ id q other is. x.stay other.node other.key (λ same.
    let drawn = sound.rows.drawn (of_set id q) other is in let key = x.key.0 in
    omega (arith, drawn, key, same)))

-- the pair is given up, and its rows alone are dropped
pub parted_leaves_words : (s : Shown) (far new : FarState) (pair : JoiningState) → AwaySound s far
    → IsParted far new pair → LeavesWords far new
parted_leaves_words s far new pair sound x =
    alike_leaves_words far new x.left.drawn x.left.members x.left.sets x.left.leaving
    (λ id p shard is. x.stay shard.node shard.key (λ q other at same.
    other_owner id p q (sound.rows.one (of_set id p) (of_joining q) shard other is (pair, x.was, at)
    (sym same))))
  where
    other_owner : (id p q : ℕ) → of_set id p ≡ of_joining q → ⊥
    other_owner id p q e = cc

-- ---- a position of a set gave objects up: the set goes on, or is dropped with its rows
none_some : (c : SetState) → None ≡ Some c → ⊥
none_some c e = cc

abbrev number_of : Owner → ℕ
number_of (of_set id p) = id
number_of (of_leaving p) = 0
number_of (of_joining p) = 0

module _ (s : Shown) (far new : FarState) (id p n : ℕ) (set : SetState) (left : PositionState)
    (sound : AwaySound s far) (there : set_in far.sets id ≡ Some set)
    (sets : new.sets ≡ sets_left far.sets id (with_position set p left))
    (nodes : new.nodes ≡ nodes_left (with_rows_given far.nodes n) (with_position set p left))
    (members : new.members ≡ far.members) (leaving : new.leaving ≡ far.leaving)
    (drawn : new.counts.sets ≡ far.counts.sets) where
  abbrev rest : SetState
  rest = with_position set p left

  -- what becomes of the set, whatever is known of how the sets stand
  abbrev told : FarState
  told = record new { survey = survey_left far id rest }

  after : SetGoesOn far told id rest ⊎ IsDropped far told id rest
  after = left_over far told id n rest sets nodes refl (shards_there s far id set sound there)

  other_set : (j : ℕ) → j ≢ id → set_in new.sets j ≡ set_in far.sets j
  other_set j off = ap (λ m. set_in m j) sets ∙ ap if_committed (left_others far.sets id j rest off)

  -- the set with its number is what is left of it
  goes_on : (other : SetState) → set_in new.sets id ≡ Some other → rest ≡ other
  goes_on other at = elim after [
    | inl on ↦ same_Some rest other (sym on.there ∙ at)
    | inr dropped ↦ absurd (none_some other (sym dropped.gone ∙ at))
  ]

  rows_stay : (j q : ℕ) (was other : SetState) (shard : Shard) → set_in far.sets j ≡ Some was
      → set_in new.sets j ≡ Some other → slice_get was.shards q ≡ Some shard
      → row_under new.nodes shard.node shard.key ≡ row_under far.nodes shard.node shard.key
  rows_stay j q was other shard at now here = elim after [
    | inl on ↦ on.rows shard.node shard.key
    | inr dropped ↦ dropped.rows_stay shard.node shard.key (λ i mine its same.
        let e : j ≡ id = ap number_of (sound.rows.one (of_set j q) (of_set id i) shard mine
        (was, at, here) (set, there, its) (sym same)) in
        none_some other (sym dropped.gone ∙ ap (set_in new.sets) (sym e) ∙ now))
  ]

  pub left_leaves_words : LeavesWords far new
  left_leaves_words = sets_leave_words far new (record {
    drawn = omega (arith, drawn);
    members = members;
    sets = λ j other at below apart. elim (cases_eq j id) [
      | inl same ↦
          let e : rest ≡ other = goes_on other (ap (set_in new.sets) (sym same) ∙ at) in (
            set,
            ap (set_in far.sets) same ∙ there,
            ap (λ (c : SetState). c.shards) e,
            sym (length-set set.positions p left) ∙ ap (λ (c : SetState). length c.positions) e,
            ap (λ (c : SetState). c.pages) e,
          )
      | inr off ↦ (other, sym (other_set j off) ∙ at, refl, refl, refl)
    ];
    rows = λ j q was other shard at now below apart here. rows_stay j q was other shard at now here;
    batch = λ b at below. (b, sym leaving ∙ at, refl, refl, refl, refl);
  })
