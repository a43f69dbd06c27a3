-- Worked memberships: what meets each definition, and what breaks one of its parts alone.
use Rattle.std.proofs.Common.{◌≡◌, ℕ, true, false, List, [], ◌∷◌, None, Some, lit<, ap, refl, arith}
use Rattle.cb_member.specs.declared.names.NodeId.{NodeId}
use Rattle.cb_member.specs.declared.names.Epoch.{Epoch}
use Rattle.cb_member.specs.declared.members.MemberAnswer.TheVariants.{Changed, Down, Up}
use Rattle.cb_member.specs.Membership.{IsMembership, Membership, NodeState, alive, crashed_at, fresh_members, incarnation, next_epoch, with_crash, with_join}
use Rattle.cb_member.specs.Answer.{CrashGives, JoinGives}
use Rattle.cb_member.proofs.Fresh.{fresh-IsMembership}
use Rattle.cb_member.proofs.Valid.{crash_stays_valid, join_stays_valid}

abbrev node : ℕ → NodeId
node n = record { n = n }

abbrev epoch : ℕ → Epoch
epoch n = record { n = n }

abbrev a_node : List Epoch → NodeState
a_node crashes = record { up = false; incarnation = 0; crashes = crashes }

-- node 0 crashed at epoch 1 and joined at 2, node 1 crashed at 3
abbrev first_crash : Membership
first_crash = with_crash (fresh_members 2) (node 0)

abbrev first_join : Membership
first_join = with_join first_crash (node 0)

abbrev members : Membership
members = record {
  epoch = 3;
  nodes =
      record { up = true; incarnation = 1; crashes = epoch 1 ∷ [] }
      ∷ record { up = false; incarnation = 0; crashes = epoch 3 ∷ [] } ∷ [];
}

reached : with_crash first_join (node 1) ≡ members
reached = refl

valid : IsMembership members
valid =
    let begun = fresh-IsMembership 2 (lit< tt) in
    let one = crash_stays_valid (fresh_members 2) (node 0) begun (lit< tt) refl in
    let two = join_stays_valid first_crash (node 0) one (lit< tt) refl in
    crash_stays_valid first_join (node 1) two (lit< tt) refl

is_up : alive members (node 0) ≡ true
is_up = refl

is_down : alive members (node 1) ≡ false
is_down = refl

joined_once : incarnation members (node 0) ≡ 1
joined_once = refl

first_incarnation_crashed : crashed_at members (node 0) 0 ≡ Some (epoch 1)
first_incarnation_crashed = refl

present_incarnation_did_not : crashed_at members (node 0) 1 ≡ None
present_incarnation_did_not = refl

next : next_epoch members ≡ epoch 4
next = refl

-- an event that the epoch does not count
miscounted : ¬ (IsMembership (record members { epoch = 4 }))
miscounted h = absurd (let counted = h.counted in omega (arith, counted))

-- a node that joined again without a crash
never_ended : ¬ (IsMembership (record {
  epoch = 1;
  nodes = record { up = true; incarnation = 1; crashes = [] } ∷ [];
}))
never_ended h =
    absurd (let ended = h.ended 0 (a_node []) (lit< tt) in omega (arith, ended))

-- a crash at epoch 0, and one after the last
too_early : ¬ (IsMembership (record { epoch = 1; nodes = a_node (epoch 0 ∷ []) ∷ [] }))
too_early h = absurd (omega (arith, (h.in_range (node 0) 0 (epoch 0) refl).0))

too_late : ¬ (IsMembership (record { epoch = 1; nodes = a_node (epoch 2 ∷ []) ∷ [] }))
too_late h = absurd (omega (arith, (h.in_range (node 0) 0 (epoch 2) refl).1))

-- two incarnations of one node that ended at one epoch
not_rising : ¬ (IsMembership (record {
  epoch = 3;
  nodes = record { up = false; incarnation = 1; crashes = epoch 2 ∷ epoch 2 ∷ [] } ∷ [];
}))
not_rising h =
    absurd (omega (arith, h.rising (node 0) 0 1 (epoch 2) (epoch 2) (lit< tt) refl refl))

-- two nodes that crashed at one epoch
at_once : ¬ (IsMembership (record {
  epoch = 2;
  nodes = a_node (epoch 1 ∷ []) ∷ a_node (epoch 1 ∷ []) ∷ [];
}))
at_once h =
    h.apart (node 0) (node 1) 0 0 (epoch 1) (epoch 1) (λ same. omega (arith, same)) refl refl refl

-- answers
crashes : CrashGives members (node 0) (Changed (epoch 4)) (with_crash members (node 0))
crashes = (refl, refl, refl)

crash_at_a_wrong_epoch :
    ¬ (CrashGives members (node 0) (Changed (epoch 3)) (with_crash members (node 0)))
crash_at_a_wrong_epoch h =
    absurd (let at : 3 ≡ 4 = ap (λ (e : Epoch). e.n) h.1 in omega (arith, at))

crash_of_one_that_is_down :
    ¬ (CrashGives members (node 1) (Changed (epoch 4)) (with_crash members (node 1)))
crash_of_one_that_is_down h = absurd (let up : alive members (node 1) ≡ true = h.0 in cc)

crash_that_changes_nothing : ¬ (CrashGives members (node 0) (Changed (epoch 4)) members)
crash_that_changes_nothing h =
    absurd (let same : 3 ≡ 4 = ap (λ (m : Membership). m.epoch) h.2 in omega (arith, same))

down_answered : CrashGives members (node 1) (Down (node 1)) members
down_answered = (refl, refl, refl)

down_of_one_that_is_up : ¬ (CrashGives members (node 0) (Down (node 0)) members)
down_of_one_that_is_up h = absurd (let down : alive members (node 0) ≡ false = h.0 in cc)

never_up : ¬ (CrashGives members (node 0) (Up (node 0)) members)
never_up h = h

joins : JoinGives members (node 1) (Changed (epoch 4)) (with_join members (node 1))
joins = (refl, refl, refl)

up_answered : JoinGives members (node 0) (Up (node 0)) members
up_answered = (refl, refl, refl)

join_of_one_that_is_up :
    ¬ (JoinGives members (node 0) (Changed (epoch 4)) (with_join members (node 0)))
join_of_one_that_is_up h = absurd (let down : alive members (node 0) ≡ false = h.0 in cc)

never_down : ¬ (JoinGives members (node 1) (Down (node 1)) members)
never_down h = h
