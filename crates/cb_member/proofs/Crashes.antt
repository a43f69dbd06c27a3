-- When each incarnation crashed, after a crash and after a join, and which incarnations did.
use Rattle.std.proofs.Common.{◌≡◌, ℕ, zero, suc, ◌+◌, ◌<◌, ◌≢◌, true, List, [], ◌∷◌, ◌++◌, length, if◌then◌else◌, Some, is_some, refl, ap, sym, ◌∙◌, inl, inr, arith}
use Rattle.std.specs.Prelude.{slice_get, slice_index_or, nat_lt}
use Rattle.std.proofs.lemmas.Bool.{cases_eq}
use Rattle.std.proofs.lemmas.Grind.{common_steps}
use Rattle.std.proofs.lemmas.Option.{gets, slice_get_cases}
use Rattle.std.proofs.lemmas.Bool.Decides.{nat_tests}
use Rattle.std.proofs.lemmas.List.{get_or-set_same, get_or-set_other}
use Rattle.cb_member.specs.declared.names.NodeId.{NodeId}
use Rattle.cb_member.specs.Membership.{Membership, NodeState, fresh_node, node_state, alive, incarnation, crashed_at, next_epoch, with_crash, with_join, with_state, ended_incarnations, IsMembership}

-- the element after the last of a list, once it is appended
slice_get-push_end : {X : Type 0} (xs : List X) (x : X) (i : ℕ) → length xs ≡ i
    → slice_get (xs ++ x ∷ []) i ≡ Some x
slice_get-push_end [] x zero e = refl
slice_get-push_end [] x (suc i) e = absurd (omega arith)
slice_get-push_end (y ∷ ys) x zero e = absurd (omega arith)
slice_get-push_end (y ∷ ys) x (suc i) e = slice_get-push_end ys x i (omega arith)

slice_get-push_other : {X : Type 0} (xs : List X) (x : X) (i : ℕ) → i ≢ length xs
    → slice_get (xs ++ x ∷ []) i ≡ slice_get xs i
slice_get-push_other [] x zero other = absurd (other refl)
slice_get-push_other [] x (suc i) other = refl
slice_get-push_other (y ∷ ys) x zero other = refl
slice_get-push_other (y ∷ ys) x (suc i) other =
    slice_get-push_other ys x i (λ e. other (omega arith))

-- a list has an element at each place below its length
pub is_some-slice_get : {X : Type 0} (xs : List X) (i : ℕ)
    → is_some (slice_get xs i) ≡ nat_lt i (length xs)
is_some-slice_get xs i = grind (arith, common_steps, gets, nat_tests, slice_get_cases xs i)

-- a node that is up has as many crashes as joins
pub up_crashes : (s : NodeState) → s.up ≡ true → length s.crashes ≡ ended_incarnations s
    → length s.crashes ≡ s.incarnation
up_crashes s up ended = ended ∙ ap (λ b. if b then s.incarnation else s.incarnation + 1) up

-- one node has the new state
pub state_of-with_state_here : (m : Membership) (node : NodeId) (s : NodeState)
    → node.n < length m.nodes → node_state (with_state m node s) node ≡ s
state_of-with_state_here m node s within = get_or-set_same m.nodes node.n s fresh_node within

-- every other node has its old state
pub state_of-with_state_other : (m : Membership) (node q : NodeId) (s : NodeState)
    → q.n ≢ node.n → node_state (with_state m node s) q ≡ node_state m q
state_of-with_state_other m node q s other =
    get_or-set_other m.nodes node.n q.n s fresh_node other

-- after a crash the incarnation that it ended has its epoch
pub crashed_at-with_crash_here : (m : Membership) (node : NodeId) → IsMembership m
    → node.n < length m.nodes → alive m node ≡ true
    → crashed_at (with_crash m node) node (incarnation m node) ≡ Some (next_epoch m)
crashed_at-with_crash_here m node valid within up =
    let s = node_state m node in
    let over : length s.crashes ≡ incarnation m node =
    up_crashes s up (valid.ended node.n fresh_node within) in
    ap (λ t. slice_get t.crashes (incarnation m node)) (state_of-with_state_here m node _ within)
    ∙ slice_get-push_end s.crashes (next_epoch m) (incarnation m node) over

-- every other incarnation is as it was, of that node and of every other one
pub crashed_at-with_crash_other_incarnation : (m : Membership) (node : NodeId) (which : ℕ)
    → IsMembership m → node.n < length m.nodes → alive m node ≡ true → which ≢ incarnation m node
    → crashed_at (with_crash m node) node which ≡ crashed_at m node which
crashed_at-with_crash_other_incarnation m node which valid within up other =
    let s = node_state m node in
    let over : length s.crashes ≡ incarnation m node =
    up_crashes s up (valid.ended node.n fresh_node within) in
    ap (λ t. slice_get t.crashes which) (state_of-with_state_here m node _ within)
    ∙ slice_get-push_other s.crashes (next_epoch m) which (omega arith)

pub crashed_at-with_crash_other_node : (m : Membership) (node q : NodeId) (which : ℕ)
    → q.n ≢ node.n → crashed_at (with_crash m node) q which ≡ crashed_at m q which
crashed_at-with_crash_other_node m node q which other =
    ap (λ s. slice_get s.crashes which) (state_of-with_state_other m node q _ other)

-- a join ends no incarnation
pub crashed_at-with_join : (m : Membership) (node q : NodeId) (which : ℕ)
    → node.n < length m.nodes → crashed_at (with_join m node) q which ≡ crashed_at m q which
crashed_at-with_join m node q which within = elim (cases_eq q.n node.n) [
  | inl same ↦
      ap (λ s. slice_get s.crashes which)
      (ap (λ n. slice_index_or (with_join m node).nodes n fresh_node) same
      ∙ state_of-with_state_here m node _ within)
      ∙ ap (λ n. slice_get (slice_index_or m.nodes n fresh_node).crashes which) (sym same)
  | inr other ↦
      ap (λ s. slice_get s.crashes which) (state_of-with_state_other m node q _ other)
]

-- an incarnation has a crash exactly where it is over
pub is_some-crashed_at : (m : Membership) (node : NodeId) (which : ℕ) → IsMembership m
    → node.n < length m.nodes
    → is_some (crashed_at m node which) ≡ nat_lt which (ended_incarnations (node_state m node))
is_some-crashed_at m node which valid within =
    is_some-slice_get (node_state m node).crashes which
    ∙ ap (λ n. nat_lt which n) (valid.ended node.n fresh_node within)
