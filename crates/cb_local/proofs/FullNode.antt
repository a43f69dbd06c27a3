-- A pair that a full node ends: what the steps before it would have been.
use Rattle.std.proofs.Common.{◌≡◌, ℕ, zero, suc, ◌+◌, ◌<◌, ◌≤◌, Bool, false, true, List, length, get_or, Some, refl, sym, ap, ◌∙◌, subst, arith}
use Rattle.std.specs.List.{slice_get}
use Rattle.std.proofs.lemmas.Option.{same_Some, slice_get-get_or}
use Rattle.cb_member.specs.declared.names.NodeId.{NodeId}
use Rattle.cb_member.specs.declared.names.Shard.{Shard}
use Rattle.cb_set.specs.SetState.{SetState}
use Rattle.cb_types.specs.declared.reply.Reply.TheVariants as answer
use Rattle.cb_world.specs.declared.shown.Shown.{Shown}
use Rattle.cb_world.specs.FarState.{FarState}
use Rattle.cb_world.specs.Joining.{JoiningState}
use Rattle.cb_world.specs.Sound.{Sound}
use Rattle.cb_world.specs.Stored.{all_dropped}
use Rattle.cb_compact.specs.NowGoing.{GoesTo, without_pair}
use Rattle.cb_compact.specs.PartStep.{with_parted}
use Rattle.cb_compact.specs.PatchStep.{IsNodeFull, is_undone, shard_beside, with_stepped}
use Rattle.cb_compact.proofs.Laws.{as_fresh, ends_full}
use Rattle.cb_local.specs.LocalGoing.{EndsFullHere, IsBegunPair}
use Rattle.cb_local.specs.Putting.{HasTakenSteps}
use Rattle.cb_local.specs.Rooms.{HaveStepRoom, IsFirstFull}
use Rattle.cb_local.proofs.RowThere.{row_exists}
use Rattle.cb_local.proofs.Taking.{none_taken, taken_below, taken_one, taken_past, taken_sound}

module _ (s : Shown) (begun : FarState) (first : JoiningState) (a b : SetState)
    (sound : Sound s begun) where
  -- the steps of a pair in front of a full node
  record AreBefore (n : ℕ) : Type 0 where
    pub far : FarState
    pub taken : HasTakenSteps begun first a b far n

  one_before : (n : ℕ) (far : FarState) → HasTakenSteps begun first a b far n
      → HaveStepRoom begun first a n (n + 1) → n < length first.steps → AreBefore (n + 1)
  one_before n far x room within = by (is_undone x.pair (length a.positions) n) refl
    where
      by : (c : Bool) → is_undone x.pair (length a.positions) n ≡ c → AreBefore (n + 1)
      by false e = record { far = far; taken = taken_past s begun first a b far n sound x e }
      by true e =
          let t = taken_sound s begun first a b far n sound x in
          let j = t.away.join x.pair x.fresh.was in
          let size = j.a_count in let steps = j.count in let counts = x.count in
          let d : Shard = record { node = record { n = 0 }; incarnation = 0; key = 0 } in
          let old = get_or x.pair.shards_a n d in
          let at = slice_get-get_or x.pair.shards_a n d
          (omega (arith, size, steps, counts, within)) in
          let here = ap (λ (l : List Shard). slice_get l n) (sym x.shards) ∙ at in
          let fits = room n old (omega arith) (omega arith)
          (sym (x.undone n (omega arith)) ∙ e) here in
          let same = x.held_same n old (omega arith) here in let wide = x.room in
          let row = row_exists s far x.pair a b n t x.fresh in
          record {
            far = with_stepped far x.pair n (shard_beside far old) row.0;
            taken = taken_one s begun first a b far n sound x old row.0 (record {
              within = omega (arith, counts, within);
              undone = e;
              least = taken_below s begun first a b far n sound x;
            }) at (omega (arith, fits, same, wide)) row.1;
          }

  all_before : (m n : ℕ) (far : FarState) → HasTakenSteps begun first a b far n
      → HaveStepRoom begun first a n (n + m) → n + m ≤ length first.steps → AreBefore (n + m)
  all_before zero n far x room within =
      record { far = far; taken = subst (HasTakenSteps begun first a b far) (omega arith) x }
  all_before (suc m) n far x room within =
      let y = one_before n far x (λ q old l h. room q old l (omega (arith, h)))
      (omega (arith, within)) in
      let z = all_before m (n + 1) y.far y.taken
      (λ q old l h. room q old (omega (arith, l)) (omega (arith, h))) (omega (arith, within)) in
      record {
        far = z.far;
        taken = subst (HasTakenSteps begun first a b z.far)
            (let e : n + 1 + m ≡ n + suc m = omega arith in e) z.taken;
      }

-- the pair is given up, as it would have been behind those steps
module _ (s : Shown) (begun : FarState) (first : JoiningState) (a b : SetState) (node : NodeId)
    (is : IsBegunPair s begun first a b) (x : IsFirstFull begun first a node) where
  before : AreBefore s begun first a b is.sound x.position
  before =
      let e : 0 + x.position ≡ x.position = omega arith in
      subst (AreBefore s begun first a b is.sound) e
      (all_before s begun first a b is.sound x.position 0 begun
      (none_taken begun first a b is.fresh is.undone)
      (λ q old l h. x.before q old l (omega (arith, h)))
      (let l = x.within in omega (arith, l)))

  is_full : IsNodeFull before.far before.taken.pair a before.far (answer.NodeFull node)
  is_full = let t = before.taken in record {
    position = x.position;
    next = record {
      within = let l = x.within in let e = t.count in omega (arith, l, e);
      undone = t.undone x.position (omega arith) ∙ x.undone;
      least = taken_below s begun first a b before.far x.position is.sound t;
    };
    old = x.old;
    at = ap (λ (l : List Shard). slice_get l x.position) t.shards ∙ x.at;
    full = t.held_same x.position x.old (omega arith) x.at ∙ x.full ∙ sym t.room;
    reply = ap answer.NodeFull x.name;
    state = refl;
  }

  goes_full : GoesTo begun before.far (Some node)
  goes_full = let t = before.taken in (
    x.position,
    t.gone,
    as_fresh before.far t.pair t.gone.pair a b t.gone.a t.gone.b
        (λ (p : JoiningState) (c d : SetState). IsNodeFull before.far p c before.far
        (answer.NodeFull node)) t.fresh t.gone.fresh is_full,
  )

  pub full_ends : (new : FarState) → new ≡ with_parted begun first
      → EndsFullHere begun new (answer.NodeFull node)
  full_ends new state = let t = before.taken in
      let back : new ≡ without_pair begun = state
      ∙ ap (λ (l : List Shard). without_pair (record begun { nodes = all_dropped begun.nodes l }))
      is.undone in record {
        mid = with_parted before.far t.gone.pair;
        node = node;
        reply = refl;
        ends = ends_full begun before.far (with_parted before.far t.gone.pair) node goes_full
            (λ q e. ap (with_parted before.far)
            (same_Some t.gone.pair q (sym t.gone.fresh.was ∙ e)));
        state = back ∙ sym t.gone.back;
        left = back;
      }
