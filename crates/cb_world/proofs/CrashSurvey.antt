-- A crash of a node that held no row leaves the survey as it was: no set had a shard there.
use Rattle.std.proofs.Common.{◌≡◌, ℕ, ◌<◌, Bool, true, false, List, length, Option, Some, None, is_some, refl, sym, ap, ◌∙◌, subst, arith, inl, inr}
use Rattle.std.specs.Prelude.{nat_eq, if◌then◌else◌}
use Rattle.std.specs.List.{slice_get}
use Rattle.std.specs.Ordering.{nat_cmp}
use Rattle.std.specs.FinMap as map
use Rattle.std.proofs.lemmas.Bool.{cases_eq, eqb-true}
use Rattle.cb_member.specs.declared.names.NodeId.{NodeId}
use Rattle.cb_member.specs.declared.names.Shard.{Shard}
use Rattle.cb_member.specs.Membership.{alive, with_crash}
use Rattle.cb_node.specs.NodesState.{NodesState, held, rows_of_node, row_under}
use Rattle.cb_set.specs.SetState.{SetState}
use Rattle.cb_set.specs.Lost.{is_lost, lost}
use Rattle.cb_set.proofs.Laws.{crash_keeps_other_nodes}
use Rattle.cb_world.specs.declared.shown.Shown.{Shown}
use Rattle.cb_world.specs.FarState.{FarState}
use Rattle.cb_world.specs.FarSound.{AwaySound}
use Rattle.cb_world.specs.NodeChanges.{crashed_far}
use Rattle.cb_world.specs.Sets.{set_in}
use Rattle.cb_world.specs.SetWord.{HasRows}
use Rattle.cb_world.specs.Survey.{no_survey}
use Rattle.cb_world.specs.Surveyed.{IsSurvey}
use Rattle.cb_world.proofs.Surveying.{stands_as_many, survey_stays, unsurveyed}
use Rattle.cb_world.proofs.Words.{crash_survivor, lost_grow}

-- a node that holds no row has none under any key
no_row : (nodes : NodesState) (node q : NodeId) (key : ℕ) → held nodes node ≡ 0 → q.n ≡ node.n
    → row_under nodes q key ≡ None
no_row nodes node q key none here =
    ap (λ (n : ℕ). row_under nodes (record { n = n }) key) here
    ∙ ap (λ rows. map.get rows key) (map.empty_of_len (rows_of_node nodes node) none)
    ∙ map.get-empty nat_cmp key

none_some : (x : Option (List ℕ)) (row : List ℕ) → x ≡ None → x ≡ Some row → ⊥
none_some x row e f = cc

-- a shard that stands is at another node, and stands after the crash
still_kept : (s : Shown) (far : FarState) (node : NodeId) (set : SetState) (rows : List (List ℕ))
    → HasRows far.nodes far.members set.shards rows → held far.nodes node ≡ 0
    → (p : ℕ) (shard : Shard) → slice_get set.shards p ≡ Some shard
    → is_lost far.members shard ≡ false → is_lost (with_crash far.members node) shard ≡ false
still_kept s far node set rows has none p shard at kept = elim (cases_eq shard.node.n node.n) [
  | inl here ↦ absurd (none_some _ _ (no_row far.nodes node shard.node shard.key none here)
      (has p shard at kept))
  | inr off ↦ ap is_some (crash_keeps_other_nodes far.members node shard off) ∙ kept
]

-- each committed set lost as many shards as before
as_many : (s : Shown) (far : FarState) (node : NodeId) (id : ℕ) → AwaySound s far
    → node.n < length far.members.nodes → alive far.members node ≡ true
    → held far.nodes node ≡ 0 → (set : SetState) → set_in far.sets id ≡ Some set
    → length (lost (with_crash far.members node) set.shards) ≡ length (lost far.members set.shards)
as_many s far node id sound within up none set at =
    let word = sound.sets.worded id set at in
    let current = (sound.sets.shaped id set at).current in
    let more = lost_grow far.members (with_crash far.members node) set.shards (λ p shard is kept.
    (crash_survivor far.members node shard sound.rows.members within up (current p shard is).1 kept).1) in
    let fewer = lost_grow (with_crash far.members node) far.members set.shards
    (still_kept s far node set word.0 word.1.word.survive none) in
    omega (arith, more, fewer)

-- what is known after the crash holds
pub crash_surveyed : (s : Shown) (far : FarState) (node : NodeId) → AwaySound s far
    → node.n < length far.members.nodes → alive far.members node ≡ true
    → IsSurvey far far.survey → IsSurvey (crashed_far far node) (crashed_far far node).survey
crash_surveyed s far node sound within up x = by (nat_eq (held far.nodes node) 0) refl
  where
    by : (b : Bool) → nat_eq (held far.nodes node) 0 ≡ b
        → IsSurvey (crashed_far far node) (crashed_far far node).survey
    by true e = survey_stays far (crashed_far far node)
        (ap (λ (b : Bool). if b then far.survey else no_survey) e) (omega arith)
        (λ id l. stands_as_many far.members (with_crash far.members node) (set_in far.sets id)
        (as_many s far node id sound within up (eqb-true _ _ e))) x
    by false e = subst (IsSurvey (crashed_far far node))
        (sym (ap (λ (b : Bool). if b then far.survey else no_survey) e)) (unsurveyed (crashed_far far node))
