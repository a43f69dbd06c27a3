-- How a set is changed in its place, or taken out.
use Rattle.std.proofs.Common.{◌≡◌, ℕ, suc, ◌+◌, ◌<◌, List, ◌∷◌, length, drop, drop-cons, get_or, Bool, true, false, arith, cond, if◌then◌else◌, Option, Some, None, sym, refl, ap, ◌∙◌}
use Rattle.std.specs.Cmp.{nat_cmp_total}
use Rattle.std.specs.Ordering.{nat_cmp, eq_by_cmp}
use Rattle.std.specs.FinMap as map
use Rattle.cb_set.specs.SetState.{SetState, is_live}
use Rattle.cb_member.specs.declared.names.Shard.{Shard}
use Rattle.cb_node.specs.NodesState.{NodesState, with_dropped}
use Rattle.cb_world.specs.Sets.{Kept, SetMap, set_in, if_committed}
use Rattle.cb_world.specs.Stored.{all_dropped}
use Rattle.cb_world.specs.LeftOver.{with_left, with_set_dropped}
use Rattle.cb_world.specs.SetWord.{is_broken}
use Rattle.cb_world.specs.Survey.{survey_without}
use Rattle.cb_world.specs.FarState.{FarState}

pub kept_same : (a b : Kept) → Some a ≡ Some b → a ≡ b
kept_same a b e = cc

some_kept : (o : Option Kept) (set : SetState) → if_committed o ≡ Some set
    → o ≡ Some (record { set = set; committed = true })
some_kept None set e = absurd (none_some set e)
  where
    none_some : (set : SetState) → None ≡ Some set → ⊥
    none_some set e = cc
some_kept (Some kept) set e = by kept.committed refl
  where
    set_same : (a b : SetState) → Some a ≡ Some b → a ≡ b
    set_same a b e = cc

    none_some : (set : SetState) → None ≡ Some set → ⊥
    none_some set e = cc

    by : (b : Bool) → kept.committed ≡ b
        → Some kept ≡ Some (record { set = set; committed = true })
    by true is =
        let same = set_same kept.set set
        (sym (ap (λ (b : Bool). if b then Some kept.set else None) is) ∙ e) in
        λ i. Some (record { set = same i; committed = is i })
    by false is =
        absurd (none_some set (sym (ap (λ (b : Bool). if b then Some kept.set else None) is) ∙ e))

-- a committed set is kept as such
pub is_kept : (sets : SetMap) (id : ℕ) (set : SetState) → set_in sets id ≡ Some set
    → map.get sets id ≡ Some (record { set = set; committed = true })
is_kept sets id set e = some_kept (map.get sets id) set e

-- the far state with a committed set under a number
abbrev with_kept : FarState → ℕ → SetState → FarState
with_kept far id set =
    record far { sets = map.insert far.sets id (record { set = set; committed = true }) }

-- a set that was changed and is taken out
pub taken_out : (sets : SetMap) (id : ℕ) (kept : Kept)
    → map.remove (map.insert sets id kept) id ≡ map.remove sets id
taken_out sets id kept =
    map.same_map nat_cmp_total map.nat_cmp-IsAntisymmetric _ _
    (λ q. map.get-remove nat_cmp_total (map.insert sets id kept) id q
    ∙ ap (cond (eq_by_cmp nat_cmp q id) None) (map.get-insert nat_cmp_total sets id kept q)
    ∙ covered (eq_by_cmp nat_cmp q id) (map.get sets q)
    ∙ sym (map.get-remove nat_cmp_total sets id q))
  where
    covered : (b : Bool) (o : Option Kept) → cond b None (cond b (Some kept) o) ≡ cond b None o
    covered true o = refl
    covered false o = refl

pub set_there : (sets : SetMap) (id : ℕ) (set : SetState)
    → set_in (map.insert sets id (record { set = set; committed = true })) id ≡ Some set
set_there sets id set =
    ap if_committed (map.get-insert nat_cmp_total sets id (record { set = set; committed = true }) id
    ∙ ap (λ b. cond b (Some (record { set = set; committed = true })) (map.get sets id)) (same id))
  where
    same : (k : ℕ) → eq_by_cmp nat_cmp k k ≡ true
    same k = grind (arith, map.gets)

-- the loop's step: one row less
pub drops_more : (nodes : NodesState) (shards : List Shard) (i : ℕ) (d : Shard) → i < length shards
    → all_dropped (with_dropped nodes (get_or shards i d).node (get_or shards i d).key)
    (drop (i + 1) shards) ≡ all_dropped nodes (drop i shards)
drops_more nodes shards i d within =
    let next : suc i ≡ i + 1 = omega arith in
    sym (ap (all_dropped nodes) (drop-cons shards i d within
    ∙ ap (λ (n : ℕ). get_or shards i d ∷ drop n shards) next))

-- a set that was changed in its place is dropped where no position is live
left_by : (far : FarState) (id : ℕ) (rest : SetState) (b : Bool)
    → (if b then with_kept far id rest else with_set_dropped (with_kept far id rest) id rest)
    ≡ record far {
      sets = if b then map.insert far.sets id (record { set = rest; committed = true })
          else map.remove far.sets id;
      nodes = if b then far.nodes else all_dropped far.nodes rest.shards;
      survey = if b then far.survey
          else survey_without far.survey id (is_broken far.members rest);
    }
left_by far id rest true = refl
left_by far id rest false =
    ap (λ (m : SetMap). record far {
      sets = m;
      nodes = all_dropped far.nodes rest.shards;
      survey = survey_without far.survey id (is_broken far.members rest);
    }) (taken_out far.sets id (record { set = rest; committed = true }))

pub left_after : (far : FarState) (new : SetMap) (id : ℕ) (rest : SetState)
    → new ≡ map.insert far.sets id (record { set = rest; committed = true })
    → (if is_live rest then record far { sets = new } else with_set_dropped (record far { sets = new }) id rest)
    ≡ with_left far id rest
left_after far new id rest e =
    ap (λ (m : SetMap). if is_live rest then record far { sets = m }
    else with_set_dropped (record far { sets = m }) id rest) e
    ∙ left_by far id rest (is_live rest)

pub there_after : (sets new : SetMap) (id : ℕ) (rest : SetState)
    → new ≡ map.insert sets id (record { set = rest; committed = true })
    → set_in new id ≡ Some rest
there_after sets new id rest e = ap (λ (m : SetMap). set_in m id) e ∙ set_there sets id rest
