-- What puts, drops and a crash leave of the words of sets.
use Rattle.std.proofs.Common.{◌≡◌, ◌≢◌, ℕ, suc, ◌+◌, ◌<◌, ◌≤◌, true, false, cond, nat_lt, List, [], ◌∷◌, length, set, Option, Some, None, is_some, sym, refl, ap, ◌∙◌, arith, inl, inr, length-set}
use Rattle.std.specs.List.{slice_get, cons_option}
use Rattle.std.specs.Option.{option_map}
use Rattle.std.specs.FinMap as map
use Rattle.std.proofs.lemmas.Bool.{cases_eq, false≢true, lt-ltb}
use Rattle.cb_member.specs.declared.names.NodeId.{NodeId}
use Rattle.cb_member.specs.declared.names.Epoch.{Epoch}
use Rattle.cb_member.specs.declared.names.Loss.{Loss}
use Rattle.cb_member.specs.declared.names.Shard.{Shard}
use Rattle.cb_member.specs.Membership.{Membership, IsMembership, NodeState, alive, incarnation, with_crash, crashed_at}
use Rattle.cb_member.proofs.Laws.{ended_incarnations_crashed, change_is_at_its_node, change_keeps_other_nodes}
use Rattle.cb_node.specs.NodesState.{NodesState, with_rows, row_under}
use Rattle.cb_node.proofs.Laws.{change_keeps_other_nodes as rows_elsewhere}
use Rattle.cb_set.specs.SetState.{SetState}
use Rattle.cb_set.specs.Lost.{is_lost, loss_of, lost}
use Rattle.cb_set.proofs.Laws.{crash_loses_its_incarnation, crash_keeps_other_incarnations, crash_keeps_other_nodes}
use Rattle.cb_world.specs.SetWord.{IsWordOf, AreCurrent}

-- the word of a set stays where the rows of the shards that survive stay
pub word_kept : (nodes new : NodesState) (m n : Membership) (set : SetState) (rows : List (List ℕ))
    → ((p : ℕ) (shard : Shard) → slice_get set.shards p ≡ Some shard → is_lost n shard ≡ false
    → (is_lost m shard ≡ false)
    × (row_under new shard.node shard.key ≡ row_under nodes shard.node shard.key))
    → IsWordOf nodes m set rows → IsWordOf new n set rows
word_kept nodes new m n set rows same word = record {
  code = word.code;
  survive = λ p shard at kept. let x = same p shard at kept in x.1 ∙ word.survive p shard at x.0;
}

-- ---- a crash
some_mapped : (f : Epoch → Loss) (o : Option Epoch) → is_some (option_map f o) ≡ is_some o
some_mapped f None = refl
some_mapped f (Some x) = refl

-- the crash of a node loses each shard there
pub crash_loses : (m : Membership) (shard : Shard) → IsMembership m → shard.node.n < length m.nodes
    → alive m shard.node ≡ true → shard.incarnation ≤ incarnation m shard.node
    → is_lost (with_crash m shard.node) shard ≡ true
crash_loses m shard valid within up current =
    elim (cases_eq shard.incarnation (incarnation m shard.node)) [
      | inl now ↦ ap is_some (crash_loses_its_incarnation m shard valid within up now)
      | inr before ↦
          ap is_some (crash_keeps_other_incarnations m shard valid within up before)
          ∙ some_mapped _ (crashed_at m shard.node shard.incarnation)
          ∙ ended_incarnations_crashed m shard.node shard.incarnation valid within
          ∙ ap (λ b.
          nat_lt shard.incarnation
          (cond b (incarnation m shard.node) (incarnation m shard.node + 1))) up
          ∙ lt-ltb shard.incarnation (incarnation m shard.node) (omega (arith, before, current))
    ]

same_node : (a b : NodeId) → a.n ≡ b.n → a ≡ b
same_node a b e = ap (λ (n : ℕ). record { n = n }) e

-- what survives the crash is elsewhere, and survived before
pub crash_survivor : (m : Membership) (node : NodeId) (shard : Shard) → IsMembership m
    → node.n < length m.nodes → alive m node ≡ true → shard.incarnation ≤ incarnation m shard.node
    → is_lost (with_crash m node) shard ≡ false → (shard.node.n ≢ node.n) × (is_lost m shard ≡ false)
crash_survivor m node shard valid within up current kept =
    let off : shard.node.n ≢ node.n = λ here. let e = same_node shard.node node here in
    false≢true (sym kept ∙ ap (λ (n : NodeId). is_lost (with_crash m n) shard) (sym e)
    ∙ crash_loses m shard valid (omega (arith, here, within)) (ap (alive m) e
    ∙ up) current) in
    (off, ap is_some (sym (crash_keeps_other_nodes m node shard off)) ∙ kept)

-- each set keeps its word over a crash
pub crash_keeps_word : (nodes : NodesState) (m : Membership) (node : NodeId) (set : SetState)
    (rows : List (List ℕ)) → IsMembership m → node.n < length m.nodes → alive m node ≡ true
    → AreCurrent m set.shards
    → IsWordOf nodes m set rows
    → IsWordOf (with_rows nodes node map.empty) (with_crash m node) set rows
crash_keeps_word nodes m node set rows valid within up current word =
    word_kept nodes (with_rows nodes node map.empty) m (with_crash m node) set rows
    (λ p shard at kept. let x =
    crash_survivor m node shard valid within up (current p shard at).1 kept in (
      x.1,
      ap (λ rows.
          map.get rows shard.key) (rows_elsewhere nodes node shard.node map.empty x.0),
    ))
    word

-- the incarnations stay
pub crash_keeps_incarnations : (m : Membership) (node other : NodeId) → node.n < length m.nodes
    → incarnation (with_crash m node) other ≡ incarnation m other
crash_keeps_incarnations m node other within = elim (cases_eq other.n node.n) [
  | inl here ↦ let e = same_node other node here in
      ap (incarnation (with_crash m node)) e
      ∙ ap (λ (s : NodeState). s.incarnation) (change_is_at_its_node m node _ within)
      ∙ ap (incarnation m) (sym e)
  | inr off ↦ ap (λ (s : NodeState). s.incarnation) (change_keeps_other_nodes m node other _ off)
]

pub crash_keeps_current : (m : Membership) (node : NodeId) (shards : List Shard)
    → node.n < length m.nodes → AreCurrent m shards → AreCurrent (with_crash m node) shards
crash_keeps_current m node shards within current p shard at =
    let c = current p shard at in
    let count : length (with_crash m node).nodes ≡ length m.nodes = length-set m.nodes node.n _ in (
      omega (arith, c.0, count),
      omega (arith, c.1, crash_keeps_incarnations m node shard.node within),
    )

-- no lost shard comes back
pub lost_grow : (m n : Membership) (shards : List Shard)
    → ((p : ℕ) (shard : Shard) → slice_get shards p ≡ Some shard → is_lost n shard ≡ false
    → is_lost m shard ≡ false) → length (lost m shards) ≤ length (lost n shards)
lost_grow m n [] back = omega arith
lost_grow m n (x ∷ xs) back =
    one (loss_of m x) (loss_of n x) (back 0 x refl) (lost_grow m n xs (λ p shard at.
    back (suc p) shard at))
  where
    one : (o q : Option Loss) → (is_some q ≡ false → is_some o ≡ false)
        → length (lost m xs) ≤ length (lost n xs)
        → length (cons_option o (lost m xs)) ≤ length (cons_option q (lost n xs))
    one None None f l = l
    one None (Some y) f l = omega (arith, l)
    one (Some x) None f l = absurd (false≢true (sym (f refl)))
    one (Some x) (Some y) f l = omega (arith, l)
