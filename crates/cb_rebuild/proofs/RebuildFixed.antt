-- A turn of the rebuild is fixed: one reply and one far state.
use Rattle.std.proofs.Common.{◌≡◌, ℕ, sym, ap, ◌∙◌, subst, inl, inr}
use Rattle.std.proofs.lemmas.Bool.{cases_order}
use Rattle.std.proofs.lemmas.Option.{same_Some}
use Rattle.cb_gf256.specs.Rows.{row_at}
use Rattle.cb_member.specs.Membership.{incarnation}
use Rattle.cb_set.specs.SetState.{SetState}
use Rattle.cb_set.specs.Nodes.{other_shards}
use Rattle.cb_types.specs.declared.reply.Reply.{Reply}
use Rattle.cb_types.specs.declared.reply.Reply.TheVariants as answer
use Rattle.cb_world.specs.Choices.{IsLeastNode}
use Rattle.cb_world.specs.FarState.{FarState}
use Rattle.cb_world.specs.Sets.{set_in}
use Rattle.cb_world.proofs.Laws.{least_node_fixed}
use Rattle.cb_rebuild.specs.RebuildStep.{IsFirstWeak, IsRebuilt, IsStuck, RebuildStep, Restores, surveyed, with_put, with_shard_named}
use Rattle.cb_rebuild.proofs.WeakSets.{set_same}

-- the first set that is weak is one
pub record IsOneSet (a b : ℕ) (c d : SetState) : Type 0 where
  pub number : a ≡ b
  pub set : c ≡ d

pub first_weak_fixed : (far : FarState) (a b : ℕ) (c d : SetState) → IsFirstWeak far a c
    → IsFirstWeak far b d → IsOneSet a b c d
first_weak_fixed far a b c d x y =
    let numbers : a ≡ b = elim (cases_order a b) [
      | inl e ↦ e
      | inr apart ↦ elim apart [
        | inl less ↦ absurd (y.least a c less x.there x.weak)
        | inr more ↦ absurd (x.least b d more y.there y.weak)
      ]
    ] in
    record {
      number = numbers;
      set = set_same c d (sym x.there ∙ ap (set_in far.sets) numbers ∙ y.there);
    }

-- the two far states and their replies are one
abbrev pub IsOne : FarState → FarState → Reply → Reply → Type 0
IsOne new other r q = (r ≡ q) × (new ≡ other)

module _ (far : FarState) (id : ℕ) (set : SetState) (new other : FarState) (r q : Reply) where
  stuck_fixed : IsStuck far id set new r → IsStuck far id set other q → IsOne new other r q
  stuck_fixed a b = (a.reply ∙ sym b.reply, a.same ∙ sym b.same)

  rebuilt_fixed : IsRebuilt far id set new r → IsRebuilt far id set other q → IsOne new other r q
  rebuilt_fixed a b =
      let at : a.position ≡ b.position =
      same_Some a.position b.position (sym a.lost ∙ b.lost) in
      let nodes : a.shard.node ≡ b.shard.node =
      least_node_fixed far.nodes far.members (other_shards set.shards b.position) a.shard.node
      b.shard.node
      (subst (λ (p : ℕ). IsLeastNode far.nodes far.members (other_shards set.shards p) a.shard.node)
      at a.named.node) b.named.node in
      let incarnations : a.shard.incarnation ≡ b.shard.incarnation = a.named.incarnation
      ∙ ap (incarnation far.members) nodes ∙ sym b.named.incarnation in
      let keys : a.shard.key ≡ b.shard.key = a.named.key ∙ sym b.named.key in
      let shards : a.shard ≡ b.shard = λ i. record {
        node = nodes i;
        incarnation = incarnations i;
        key = keys i;
      } in
      let word = b.some_word in
      let rows : a.row ≡ b.row = a.of_word word.0 word.1 ∙ ap (row_at word.0) at
      ∙ sym (b.of_word word.0 word.1) in (
        a.reply
            ∙ (λ i. answer.Rebuilt (record { n = id }) (at i) (nodes i)) ∙ sym b.reply,
        a.state
            ∙ (λ i. with_shard_named (with_put far set (shards i) (rows i)) id set (at i)
            (shards i))
            ∙ sym b.state,
      )

  stuck_or_rebuilt : (p : Reply) (next : FarState) (o : Reply) (last : FarState)
      → IsStuck far id set next p → IsRebuilt far id set last o → ⊥
  stuck_or_rebuilt p next o last a b =
      let at : b.position ≡ a.position =
      same_Some b.position a.position (sym b.lost ∙ a.lost) in
      let node = subst (λ (n : ℕ).
      IsLeastNode far.nodes far.members (other_shards set.shards n) b.shard.node) at b.named.node in
      a.none b.shard.node node.may

  restored_fixed : Restores far id set new r → Restores far id set other q → IsOne new other r q
  restored_fixed (inl a) (inl b) = stuck_fixed a b
  restored_fixed (inl a) (inr b) = absurd (stuck_or_rebuilt r new q other a b)
  restored_fixed (inr a) (inl b) = absurd (stuck_or_rebuilt q other r new b a)
  restored_fixed (inr a) (inr b) = rebuilt_fixed a b

pub rebuild_step_fixes : (far new other : FarState) (r q : Reply) → RebuildStep far new r
    → RebuildStep far other q → IsOne new other r q
rebuild_step_fixes far new other r q (inl a) (inl b) =
    (a.reply ∙ sym b.reply, a.state ∙ sym b.state)
rebuild_step_fixes far new other r q (inl a) (inr b) =
    absurd (a.none b.id b.set b.first.there b.first.weak)
rebuild_step_fixes far new other r q (inr a) (inl b) =
    absurd (b.none a.id a.set a.first.there a.first.weak)
rebuild_step_fixes far new other r q (inr a) (inr b) =
    let same = first_weak_fixed far a.id b.id a.set b.set a.first b.first in
    let restores : Restores (surveyed far b.id) b.id b.set new r =
    subst (λ (c : SetState). Restores (surveyed far b.id) b.id c new r) same.set
    (subst (λ (n : ℕ). Restores (surveyed far n) n a.set new r) same.number a.restores) in
    restored_fixed (surveyed far b.id) b.id b.set new other r q restores b.restores
