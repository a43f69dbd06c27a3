-- What a crash and a join do, by what they answer.
use Rattle.std.specs.Prelude.{◌≡◌, true, false}
use Rattle.cb_member.specs.declared.names.NodeId.{NodeId}
use Rattle.cb_member.specs.declared.members.MemberAnswer.{MemberAnswer}
use Rattle.cb_member.specs.declared.members.MemberAnswer.TheVariants.{Changed, Down, Up}
use Rattle.cb_member.specs.Membership.{Membership, alive, next_epoch, with_crash, with_join}

-- a node that is up crashes at the next epoch; one that is down is named, and nothing changes
abbrev pub CrashGives : Membership → NodeId → MemberAnswer → Membership → Type 0
CrashGives old node (Changed epoch) new =
    (alive old node ≡ true) × (epoch ≡ next_epoch old) × (new ≡ with_crash old node)
CrashGives old node (Down which) new = (alive old node ≡ false) × (which ≡ node) × (new ≡ old)
CrashGives old node (Up which) new = ⊥

-- a node that is down joins at the next epoch; one that is up is named, and nothing changes
abbrev pub JoinGives : Membership → NodeId → MemberAnswer → Membership → Type 0
JoinGives old node (Changed epoch) new =
    (alive old node ≡ false) × (epoch ≡ next_epoch old) × (new ≡ with_join old node)
JoinGives old node (Down which) new = ⊥
JoinGives old node (Up which) new = (alive old node ≡ true) × (which ≡ node) × (new ≡ old)
