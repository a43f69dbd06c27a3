-- A crash and a join leave a membership that is valid.
use Rattle.std.proofs.Common.{◌≡◌, ◌⊎◌, ℕ, ◌+◌, ◌<◌, true, false, List, [], ◌∷◌, ◌++◌, length, if◌then◌else◌, Some, is_some, ap, sym, ◌∙◌, subst, inl, inr, arith, length-append, sum_by, get_or, set}
use Rattle.std.specs.Prelude.{slice_get}
use Rattle.std.proofs.lemmas.Bool.{cases_eq, cases_order, ltb-true}
use Rattle.std.proofs.lemmas.Option.{same_Some}
use Rattle.std.proofs.lemmas.List.{get_or_default, length-set}
use Rattle.std.proofs.lemmas.List.Elements.{All-set}
use Rattle.std.proofs.lemmas.List.Sums.{sum_by-set}
use Rattle.cb_member.specs.declared.names.NodeId.{NodeId}
use Rattle.cb_member.specs.declared.names.Epoch.{Epoch}
use Rattle.cb_member.specs.Membership.{Membership, NodeState, fresh_node, node_state, alive, incarnation, crashed_at, next_epoch, with_crash, with_join, with_state, events_of, ended_incarnations, IsMembership}
use Rattle.cb_member.proofs.Crashes.{crashed_at-with_crash_here, crashed_at-with_crash_other_incarnation, crashed_at-with_crash_other_node, crashed_at-with_join, is_some-slice_get, up_crashes}

-- two names of one number are one name
pub same_node : (a b : NodeId) → a.n ≡ b.n → a ≡ b
same_node a b same = ap (λ (n : ℕ). let node : NodeId = record { n = n } in node) same

-- what is found in a list stands below its length
found_within : {X : Type 0} (xs : List X) (i : ℕ) (x : X) → slice_get xs i ≡ Some x
    → i < length xs
found_within xs i x found =
    ltb-true i (length xs) (sym (is_some-slice_get xs i) ∙ ap is_some found)

-- the epochs of crashes after a crash are those before it, and the next one for the incarnation
-- that it ended
pub crash_epoch : (m : Membership) (node q : NodeId) (which : ℕ) (e : Epoch) → IsMembership m
    → node.n < length m.nodes → alive m node ≡ true
    → crashed_at (with_crash m node) q which ≡ Some e
    → ((q.n ≡ node.n) × (which ≡ incarnation m node) × (e ≡ next_epoch m))
    ⊎ (crashed_at m q which ≡ Some e)
crash_epoch m node q which e valid within up at = elim (cases_eq q.n node.n) [
  | inl same ↦
      let here : crashed_at (with_crash m node) node which ≡ Some e =
      subst (λ p. crashed_at (with_crash m node) p which ≡ Some e) (same_node q node same) at in
      elim (cases_eq which (incarnation m node)) [
        | inl now ↦
            let last : crashed_at (with_crash m node) node (incarnation m node) ≡ Some e =
            subst (λ i. crashed_at (with_crash m node) node i ≡ Some e) now here in
            inl (
              same,
              now,
              same_Some e (next_epoch m)
                  (sym last ∙ crashed_at-with_crash_here m node valid within up),
            )
        | inr other ↦
            inr (subst (λ p. crashed_at m p which ≡ Some e) (sym (same_node q node same))
            (sym (crashed_at-with_crash_other_incarnation m node which valid within up other)
            ∙ here))
      ]
  | inr apart ↦ inr (sym (crashed_at-with_crash_other_node m node q which apart) ∙ at)
]

-- an epoch that was there is there after a crash
pub crash_keeps_epochs : (m : Membership) (node q : NodeId) (which : ℕ) (e : Epoch)
    → IsMembership m → node.n < length m.nodes → alive m node ≡ true
    → crashed_at m q which ≡ Some e → crashed_at (with_crash m node) q which ≡ Some e
crash_keeps_epochs m node q which e valid within up at = elim (cases_eq q.n node.n) [
  | inl same ↦
      let here : crashed_at m node which ≡ Some e =
      subst (λ p. crashed_at m p which ≡ Some e) (same_node q node same) at in
      let over : length (node_state m node).crashes ≡ incarnation m node =
      up_crashes (node_state m node) up (valid.ended node.n fresh_node within) in
      let old : which < length (node_state m node).crashes =
      found_within (node_state m node).crashes which e here in
      subst (λ p. crashed_at (with_crash m node) p which ≡ Some e) (sym (same_node q node same))
      (crashed_at-with_crash_other_incarnation m node which valid within up (λ e. omega arith)
      ∙ here)
  | inr apart ↦ crashed_at-with_crash_other_node m node q which apart ∙ at
]

-- with one event more at one node the epoch still counts them
counts_one_more : (m : Membership) (node : NodeId) (s : NodeState) → IsMembership m
    → node.n < length m.nodes → events_of s ≡ events_of (node_state m node) + 1
    → (with_state m node s).epoch ≡ sum_by events_of (with_state m node s).nodes
counts_one_more m node s valid within more =
    omega (arith, valid.counted, more, sum_by-set events_of m.nodes node.n s fresh_node within)

-- a crash of a node that is up leaves a valid membership
pub crash_stays_valid : (m : Membership) (node : NodeId) → IsMembership m
    → node.n < length m.nodes → alive m node ≡ true → IsMembership (with_crash m node)
crash_stays_valid m node valid within up =
    let s = node_state m node in
    let down : NodeState = record {
      up = false;
      incarnation = s.incarnation;
      crashes = s.crashes ++ next_epoch m ∷ [];
    } in
    let longer : length down.crashes ≡ length s.crashes + 1 =
    length-append s.crashes (next_epoch m ∷ []) in
    let over : length s.crashes ≡ incarnation m node =
    up_crashes s up (valid.ended node.n fresh_node within) in
    record {
      numbered = omega (arith, valid.numbered, length-set m.nodes node.n down);
      counted = counts_one_more m node down valid within (omega (arith, longer));
      ended =
          All-set (λ t. length t.crashes ≡ ended_incarnations t) m.nodes node.n down
          (omega (arith, longer, over)) valid.ended;
      in_range = λ q which e at.
          elim (crash_epoch m node q which e valid within up at) [
            | inl new ↦ let e_is : e.n ≡ m.epoch + 1 = ap (λ (x : Epoch). x.n) new.2 in
                (omega arith, omega arith)
            | inr old ↦ let r = valid.in_range q which e old in
                (r.0, omega (arith, r.1))
          ];
      rising = λ q i j d e before at_i at_j.
          elim (crash_epoch m node q j e valid within up at_j) [
            | inl new ↦
                let e_is : e.n ≡ m.epoch + 1 = ap (λ (x : Epoch). x.n) new.2 in
                elim (crash_epoch m node q i d valid within up at_i) [
                  | inl also ↦ absurd (omega (arith, also.1, new.1))
                  | inr old ↦ omega (arith, (valid.in_range q i d old).1)
                ]
            | inr old_j ↦
                elim (crash_epoch m node q i d valid within up at_i) [
                  | inl new ↦
                      let here : crashed_at m node j ≡ Some e =
                      subst (λ p. crashed_at m p j ≡ Some e) (same_node q node new.0) old_j in
                      absurd (omega (arith, found_within s.crashes j e here, over, new.1))
                  | inr old_i ↦ valid.rising q i j d e before old_i old_j
                ]
          ];
      apart = λ a b i j d e other at_a at_b same.
          elim (crash_epoch m node a i d valid within up at_a) [
            | inl new_a ↦
                let d_is : d.n ≡ m.epoch + 1 = ap (λ (x : Epoch). x.n) new_a.2 in
                elim (crash_epoch m node b j e valid within up at_b) [
                  | inl new_b ↦ other (new_a.0 ∙ sym new_b.0)
                  | inr old_b ↦ absurd (omega (arith, (valid.in_range b j e old_b).1))
                ]
            | inr old_a ↦
                elim (crash_epoch m node b j e valid within up at_b) [
                  | inl new_b ↦
                      let e_is : e.n ≡ m.epoch + 1 = ap (λ (x : Epoch). x.n) new_b.2 in
                      absurd (omega (arith, (valid.in_range a i d old_a).1))
                  | inr old_b ↦ valid.apart a b i j d e other old_a old_b same
                ]
          ];
    }

-- a join of a node that is down leaves a valid membership
pub join_stays_valid : (m : Membership) (node : NodeId) → IsMembership m
    → node.n < length m.nodes → alive m node ≡ false → IsMembership (with_join m node)
join_stays_valid m node valid within down =
    let s = node_state m node in
    let up : NodeState = record {
      up = true;
      incarnation = s.incarnation + 1;
      crashes = s.crashes;
    } in
    let over : length s.crashes ≡ s.incarnation + 1 =
    valid.ended node.n fresh_node within
    ∙ ap (λ b. if b then s.incarnation else s.incarnation + 1) down in
    let was = λ (q : NodeId) (which : ℕ) (e : Epoch)
    (at : crashed_at (with_join m node) q which ≡ Some e).
    sym (crashed_at-with_join m node q which within) ∙ at in
    record {
      numbered = omega (arith, valid.numbered, length-set m.nodes node.n up);
      counted = counts_one_more m node up valid within (omega arith);
      ended =
          All-set (λ t. length t.crashes ≡ ended_incarnations t) m.nodes node.n up over
          valid.ended;
      in_range = λ q which e at.
          let r = valid.in_range q which e (was q which e at) in
          (r.0, omega (arith, r.1));
      rising = λ q i j d e before at_i at_j.
          valid.rising q i j d e before (was q i d at_i) (was q j e at_j);
      apart = λ a b i j d e other at_a at_b.
          valid.apart a b i j d e other (was a i d at_a) (was b j e at_b);
    }

-- in a valid membership one epoch is that of one crash
pub crashes_differ : (m : Membership) (a b : NodeId) (i j : ℕ) (d e : Epoch) → IsMembership m
    → crashed_at m a i ≡ Some d → crashed_at m b j ≡ Some e → d.n ≡ e.n
    → (a.n ≡ b.n) × (i ≡ j)
crashes_differ m a b i j d e valid at_a at_b same = elim (cases_eq a.n b.n) [
  | inr other ↦ absurd (valid.apart a b i j d e other at_a at_b same)
  | inl one ↦
      let at_c : crashed_at m a j ≡ Some e =
      subst (λ p. crashed_at m p j ≡ Some e) (sym (same_node a b one)) at_b in (
        one,
        elim (cases_order i j) [
          | inl equal ↦ equal
          | inr unequal ↦ elim unequal [
            | inl less ↦ absurd (omega (arith, valid.rising a i j d e less at_a at_c))
            | inr more ↦ absurd (omega (arith, valid.rising a j i e d more at_c at_a))
          ]
        ],
      )
]

-- what was read at a node is its state
state_read : (m : Membership) (node : NodeId) (n : ℕ) (s d : NodeState) → node.n < length m.nodes
    → n ≡ node.n → s ≡ get_or m.nodes n d → s ≡ node_state m node
state_read m node n s d within at read =
    read ∙ ap (λ k. get_or m.nodes k d) at ∙ get_or_default m.nodes node.n d fresh_node within

-- what a write at a node leaves
state_written : (m : Membership) (node : NodeId) (n : ℕ) (new is : NodeState) → n ≡ node.n
    → new ≡ is → IsMembership (with_state m node is)
    → IsMembership (record { epoch = m.epoch + 1; nodes = set m.nodes n new })
state_written m node n new is at same valid =
    subst (λ (k : ℕ). IsMembership (record { epoch = m.epoch + 1; nodes = set m.nodes k new }))
    (sym at) (subst (λ (s : NodeState). IsMembership (with_state m node s)) (sym same) valid)

-- a node that is down, with these crashes
abbrev down_with : NodeState → List Epoch → NodeState
down_with s crashes = record { up = false; incarnation = s.incarnation; crashes = crashes }

-- the writes of a crash and of a join, of the state that was read
pub crash_written : (m : Membership) (node : NodeId) (n : ℕ) (s d : NodeState)
    (crashes : List Epoch) → IsMembership m → node.n < length m.nodes → alive m node ≡ true
    → n ≡ node.n → s ≡ get_or m.nodes n d → crashes ≡ s.crashes ++ next_epoch m ∷ []
    → IsMembership (record {
      epoch = m.epoch + 1;
      nodes = set m.nodes n (record {
        up = false;
        incarnation = s.incarnation;
        crashes = crashes;
      });
    })
crash_written m node n s d crashes valid within up at read longer =
    state_written m node n (down_with s crashes) _ at
    (ap (down_with s) longer
    ∙ ap (λ t. down_with t (t.crashes ++ next_epoch m ∷ []))
    (state_read m node n s d within at read))
    (crash_stays_valid m node valid within up)

pub join_written : (m : Membership) (node : NodeId) (n : ℕ) (s d : NodeState)
    → IsMembership m → node.n < length m.nodes → alive m node ≡ false
    → n ≡ node.n → s ≡ get_or m.nodes n d
    → IsMembership (record {
      epoch = m.epoch + 1;
      nodes = set m.nodes n (record {
        up = true;
        incarnation = s.incarnation + 1;
        crashes = s.crashes;
      });
    })
join_written m node n s d valid within down at read =
    state_written m node n _ _ at
    (ap (λ (t : NodeState). let joined : NodeState = record {
      up = true;
      incarnation = t.incarnation + 1;
      crashes = t.crashes;
    } in joined) (state_read m node n s d within at read))
    (join_stays_valid m node valid within down)
