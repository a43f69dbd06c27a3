-- What a crash and a join leave of the configured sizes and codes, of what is counted and of the
-- sound world; how each is answered; and that each is fixed.
use Rattle.std.proofs.Common.{◌≡◌, ◌⊎◌, ℕ, ◌<◌, length, Option, refl, sym, ap, ◌∙◌, subst, arith, inl, inr, length-set}
use Rattle.std.proofs.lemmas.Bool.{false≢true}
use Rattle.cb_member.specs.declared.names.NodeId.{NodeId}
use Rattle.cb_member.specs.Membership.{Membership, with_crash, with_join}
use Rattle.cb_types.specs.declared.config.Config.{Config}
use Rattle.cb_types.specs.declared.job.Job.{Job}
use Rattle.cb_types.specs.declared.job.Job.TheVariants.{Begin, Ship, Commit, Abort, Pair, Patch, Merge, Part, Crash, Join, Gather, Install}
use Rattle.cb_types.specs.declared.reply.Reply.{Reply}
use Rattle.cb_types.specs.declared.request.Request.TheVariants as line
use Rattle.cb_types.specs.Table.{IsReplyOf}
use Rattle.cb_world.specs.declared.shown.Shown.{Shown}
use Rattle.cb_world.specs.FarState.{FarState}
use Rattle.cb_world.specs.Joining.{JoiningState}
use Rattle.cb_world.specs.Leaving.{LeavingState}
use Rattle.cb_world.specs.NodeChanges.{crashed_far, joined_far}
use Rattle.cb_world.specs.Now.{now}
use Rattle.cb_world.specs.Sound.{Sound}
use Rattle.cb_world.specs.World.{IsConfigured}
use Rattle.cb_node.specs.NodesState.{held}
use Rattle.cb_world.proofs.Laws.{crash_note, codes_stay, IsLike, StaysIf, stays_like, stays_same, node_crash_sound, node_join_sound, node_join_now}
use Rattle.cb_core.specs.Membership.{CrashTurn, crashed, is_down, JoinTurn, joined, is_up}
use Rattle.cb_core.proofs.RowsHeld.{IsIdle}

-- the first version, how many objects were made, and how many turns were counted
abbrev pub tally : FarState → ℕ × ℕ × ℕ
tally far = (far.first, far.made, far.counts.turns)

-- no object was made and no turn was counted
abbrev pub MakesNone : FarState → FarState → Type 0
MakesNone far new = tally new ≡ tally far

pub crash_stays : (c : Config) (node : NodeId) (far new : FarState) (r : Reply)
    → CrashTurn node far r new → StaysIf c 1 far new
crash_stays c node far new r (crashed up reply state) =
    stays_like c 1 far new (omega arith) (subst (IsLike far) (sym state) (record {
      spans = refl;
      homes = refl;
      nodes = length-set far.nodes.nodes node.n _;
      room = refl;
      codes = codes_stay far (crashed_far far node) refl refl refl refl;
      counts = refl;
      note = λ n e. crash_note far.survey (held far.nodes node) n e;
      epoch = omega arith;
      given = refl;
    }))
crash_stays c node far new r (is_down is reply state) = stays_same c 1 far new (omega arith) state

pub join_stays : (c : Config) (node : NodeId) (far new : FarState) (r : Reply)
    → JoinTurn node far r new → StaysIf c 1 far new
join_stays c node far new r (joined down reply state) =
    stays_like c 1 far new (omega arith) (subst (IsLike far) (sym state) (record {
      spans = refl;
      homes = refl;
      nodes = refl;
      room = refl;
      codes = codes_stay far (joined_far far node) refl refl refl refl;
      counts = refl;
      note = λ n e. e;
      epoch = omega arith;
      given = refl;
    }))
join_stays c node far new r (is_up is reply state) = stays_same c 1 far new (omega arith) state

-- a node that may be named is one of the members
pub member_of : (c : Config) (s : Shown) (far : FarState) (node : NodeId) → IsConfigured c far
    → Sound s far → node.n < c.nodes → node.n < length far.members.nodes
member_of c s far node is sound below =
    let rows = sound.away.sound.rows.counted in let nodes = is.nodes in
    omega (arith, below, rows, nodes)

pub crash_sound : (s : Shown) (far new : FarState) (node : NodeId) (r : Reply)
    → node.n < length far.members.nodes → CrashTurn node far r new → Sound s far → Sound s new
crash_sound s far new node r within (crashed up reply state) sound =
    subst (Sound s) (sym state) (node_crash_sound s far node sound within up)
crash_sound s far new node r within (is_down down reply state) sound =
    subst (Sound s) (sym state) sound

pub join_sound : (s : Shown) (far new : FarState) (node : NodeId) (r : Reply)
    → node.n < length far.members.nodes → JoinTurn node far r new → Sound s far → Sound s new
join_sound s far new node r within (joined down reply state) sound =
    subst (Sound s) (sym state) (node_join_sound s far node sound within down)
join_sound s far new node r within (is_up up reply state) sound = subst (Sound s) (sym state) sound

-- a join loses nothing that an object holds
pub join_now : (s : Shown) (far new : FarState) (node : NodeId) (r : Reply) (h : ℕ)
    → node.n < length far.members.nodes → JoinTurn node far r new → now s new h ≡ now s far h
join_now s far new node r h within (joined down reply state) =
    ap (λ (f : FarState). now s f h) state ∙ node_join_now s far node h within
join_now s far new node r h within (is_up up reply state) = ap (λ (f : FarState). now s f h) state

-- ---- the members, the batch and the pair
abbrev pub MembersBatchPair : Type 0
MembersBatchPair = Membership × Option LeavingState × Option JoiningState

-- the members, the batch that is leaving and the pair that is joining
abbrev pub standing : FarState → MembersBatchPair
standing far = (far.members, far.leaving, far.joining)

-- the members behind a job: a crash and a join that take place change a node, and no other job does
abbrev pub MembersAfter : Job → Membership → Membership → Type 0
MembersAfter (Crash node) old new = (new ≡ old) ⊎ (new ≡ with_crash old node)
MembersAfter (Join node) old new = (new ≡ old) ⊎ (new ≡ with_join old node)
MembersAfter job old new = new ≡ old

-- the job is no step of an eviction or of a pair
abbrev pub IsWholeJob : Job → Type 0
IsWholeJob Begin = ⊥
IsWholeJob Ship = ⊥
IsWholeJob Commit = ⊥
IsWholeJob Abort = ⊥
IsWholeJob Pair = ⊥
IsWholeJob Patch = ⊥
IsWholeJob Merge = ⊥
IsWholeJob Part = ⊥
IsWholeJob Gather = ⊥
IsWholeJob Install = ⊥
IsWholeJob job = Unit {0}

-- how the members stand behind a job; and where no batch is leaving and no pair is joining, none is
-- behind a job that is whole
pub record MembersStand (job : Job) (far new : FarState) : Type 0 where
  pub members : MembersAfter job far.members new.members
  pub idle : IsWholeJob job → IsIdle far → IsIdle new

-- so it is behind a job that leaves all three, one of those whose members stay
pub stands_same : (job : Job) → ((old new : Membership) → new ≡ old → MembersAfter job old new)
    → (far new : FarState) → standing new ≡ standing far → MembersStand job far new
stands_same job stay far new e = record {
  members = stay far.members new.members (ap (λ (x : MembersBatchPair). x.0) e);
  idle = λ whole idle. (
    ap (λ (x : MembersBatchPair). x.1) e ∙ idle.0,
    ap (λ (x : MembersBatchPair). x.2) e ∙ idle.1,
  );
}

pub crash_stands : (far new : FarState) (node : NodeId) (r : Reply) → CrashTurn node far r new
    → MembersStand (Crash node) far new
crash_stands far new node r (crashed up reply state) = record {
  members = inr (ap (λ (f : FarState). f.members) state);
  idle = λ whole idle. subst IsIdle (sym state) idle;
}
crash_stands far new node r (is_down down reply state) = record {
  members = inl (ap (λ (f : FarState). f.members) state);
  idle = λ whole idle. subst IsIdle (sym state) idle;
}

pub join_stands : (far new : FarState) (node : NodeId) (r : Reply) → JoinTurn node far r new
    → MembersStand (Join node) far new
join_stands far new node r (joined down reply state) = record {
  members = inr (ap (λ (f : FarState). f.members) state);
  idle = λ whole idle. subst IsIdle (sym state) idle;
}
join_stands far new node r (is_up up reply state) = record {
  members = inl (ap (λ (f : FarState). f.members) state);
  idle = λ whole idle. subst IsIdle (sym state) idle;
}

pub crash_none : (far new : FarState) (node : NodeId) (r : Reply) → CrashTurn node far r new
    → MakesNone far new
crash_none far new node r (crashed up reply state) = ap tally state
crash_none far new node r (is_down down reply state) = ap tally state

pub join_none : (far new : FarState) (node : NodeId) (r : Reply) → JoinTurn node far r new
    → MakesNone far new
join_none far new node r (joined down reply state) = ap tally state
join_none far new node r (is_up up reply state) = ap tally state

pub crash_line : (far new : FarState) (node : NodeId) (r : Reply) → CrashTurn node far r new
    → IsReplyOf (line.Crash node) r
crash_line far new node r (crashed up is state) = subst (IsReplyOf (line.Crash node)) (sym is) tt
crash_line far new node r (is_down down is state) = subst (IsReplyOf (line.Crash node)) (sym is) tt

pub join_line : (far new : FarState) (node : NodeId) (r : Reply) → JoinTurn node far r new
    → IsReplyOf (line.Join node) r
join_line far new node r (joined down is state) = subst (IsReplyOf (line.Join node)) (sym is) tt
join_line far new node r (is_up up is state) = subst (IsReplyOf (line.Join node)) (sym is) tt

pub crash_fixed : (node : NodeId) (r q : Reply) (far new other : FarState) → CrashTurn node far r new
    → CrashTurn node far q other → (r ≡ q) × (new ≡ other)
crash_fixed node r q far new other (crashed up a e) (crashed up' b f) = (a ∙ sym b, e ∙ sym f)
crash_fixed node r q far new other (crashed up a e) (is_down down b f) =
    absurd (false≢true (sym down ∙ up))
crash_fixed node r q far new other (is_down down a e) (crashed up b f) =
    absurd (false≢true (sym down ∙ up))
crash_fixed node r q far new other (is_down down a e) (is_down down' b f) = (a ∙ sym b, e ∙ sym f)

pub join_fixed : (node : NodeId) (r q : Reply) (far new other : FarState) → JoinTurn node far r new
    → JoinTurn node far q other → (r ≡ q) × (new ≡ other)
join_fixed node r q far new other (joined down a e) (joined down' b f) = (a ∙ sym b, e ∙ sym f)
join_fixed node r q far new other (joined down a e) (is_up up b f) =
    absurd (false≢true (sym down ∙ up))
join_fixed node r q far new other (is_up up a e) (joined down b f) =
    absurd (false≢true (sym down ∙ up))
join_fixed node r q far new other (is_up up a e) (is_up up' b f) = (a ∙ sym b, e ∙ sym f)
