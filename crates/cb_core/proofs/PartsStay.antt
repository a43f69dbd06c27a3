-- What the parts of a job leave as it was at the still desk: the configuration, the members, the first
-- version and the count of turns; and, but for the steps of a batch, the batch that is leaving and the
-- pair that is joining.
use Rattle.std.proofs.Common.{◌≡◌, ◌⊎◌, ℕ, ◌+◌, ◌*◌, List, Option, refl, ap, ◌∙◌, arith, inl, inr}
use Rattle.cb_member.specs.Membership.{Membership}
use Rattle.cb_ptr.specs.declared.word.State.{State}
use Rattle.cb_ptr.specs.declared.word.State.TheVariants as state
use Rattle.cb_ptr.specs.Word.{state_of}
use Rattle.cb_types.specs.declared.config.Config.{Config}
use Rattle.cb_types.specs.declared.job.Job.{Job}
use Rattle.cb_types.specs.declared.job.Job.TheVariants.{Free, Filter, Evict, Begin, Ship, Commit, Abort}
use Rattle.cb_types.specs.declared.reply.Reply.{Reply}
use Rattle.cb_world.specs.FarState.{FarState}
use Rattle.cb_world.specs.Joining.{JoiningState}
use Rattle.cb_world.specs.Leaving.{LeavingState}
use Rattle.cb_world.specs.Plain.{Words}
use Rattle.cb_world.specs.World.{word_at}
use Rattle.cb_world.proofs.Laws.{KeepsFar}
use Rattle.cb_mutate.specs.FreeRule.{LeavesPlace}
use Rattle.cb_mutate.specs.MakeStep.{IsMakeStep}
use Rattle.cb_evict.specs.AbortStep.{no_batch as none_to_abort, given_up}
use Rattle.cb_evict.specs.CommitStep.{no_batch as none_to_commit, short, committed}
use Rattle.cb_evict.specs.declared.eviction.Eviction.{Eviction}
use Rattle.cb_evict.specs.Eviction.{reply_of}
use Rattle.cb_evict.specs.EvictStep.{IsEvictStep}
use Rattle.cb_evict.proofs.Laws.{begin_keeps, evict_keeps, evict_leaving, ship_keeps}
use Rattle.cb_filter.specs.FilterStep.{refused as refuses, cools, without_slot, moves}
use Rattle.cb_swapin.proofs.Laws.{keeps_far, leaving_stays, settings_stay}
use Rattle.cb_core.specs.FarJobs.{FarStep}
use Rattle.cb_core.specs.Parts.{Holding, WithRoom, WhereItIs, NeverDeclined}
use Rattle.cb_core.specs.Step.{StillAlone, StillMake, StillRead, StillWrite, StillFree, StillSwap, StillBring, StillFilter, StillBegin, StillShip, StillCommit, StillAbort, StillWorks, still_parts}
use Rattle.cb_core.proofs.Carried.{AreAlong, CarriesAlong, KeepsAlong, bring_rise, brings, does, itself, turn_rise, where_it_is, with_room}
use Rattle.cb_core.proofs.Changes.{read_leaves, write_leaves, free_leaves}
use Rattle.cb_core.proofs.NodesStay.{IsWholeJob}

-- all that is done by P leaves this as it was
abbrev pub LeavesSame : {X A : Type 0} → (Holding Words → X)
    → (Holding Words → A → Holding Words → Type 0) → Type 0
LeavesSame {A = A} what P = (a b : Holding Words) (r : A) → P a r b → what b ≡ what a

-- ---- one part after another
abbrev Anywhere : Holding Words → Type 0
Anywhere a = Unit {0}

abbrev LeftAs : {X : Type 0} → (Holding Words → X) → ℕ → Holding Words → Holding Words → Type 0 → Type 0
LeftAs what n a b Z = (what b ≡ what a) × Z

along : {X : Type 0} (what : Holding Words → X) → KeepsAlong Anywhere (LeftAs what)
along what = record {
  is = λ n a b Z z. z.1;
  next = λ n a b Z good z. tt;
  more = λ n k a b Z W most z w. (z.0, w);
  both = λ n m k a b d Y Z W most y z w. (z.0 ∙ y.0, w);
}

pub room_same : {X : Type 0} (what : Holding Words → X) (n left : ℕ)
    (P : Holding Words → Reply → Holding Words → Type 0)
    (V : Holding Words → Eviction → Holding Words → Type 0) → LeavesSame what P → LeavesSame what V
    → LeavesSame what (WithRoom n P V left)
room_same what n left P V p v a b r x = (with_room itself Anywhere (LeftAs what) (along what) n 0 0
    P P V V (λ a b r good x. (p a b r x, x)) (λ a b e good x. (v a b e x, x)) left
    (0 + left * (0 + 0) + 0) (omega arith) a b r tt x).0

-- ---- what lasts
abbrev pub Steady : Type 0
Steady = Config × Membership × ℕ × ℕ

-- the configuration, the members, the first version and the count of turns
abbrev pub steady : Holding Words → Steady
steady a = (a.desk.settings, a.far.members, a.far.first, a.far.counts.turns)

-- and the batch that is leaving and the pair that is joining
abbrev pub lasting : Holding Words → Steady × Option LeavingState × Option JoiningState
lasting a = (steady a, a.far.leaving, a.far.joining)

-- by the configuration and the far state behind a part
begun : (b : Holding Words) (x : Words) (f : FarState) → b.desk.settings ≡ x.settings → b.far ≡ f
    → steady b ≡ steady (record { desk = x; far = f })
begun b x f settings far = λ i. (settings i, (far i).members, (far i).first, (far i).counts.turns)

settled : (b : Holding Words) (x : Words) (f : FarState) → b.desk ≡ x → b.far ≡ f
    → steady b ≡ steady (record { desk = x; far = f })
settled b x f desk far = λ i. steady (record { desk = desk i; far = far i })

ends : (b : Holding Words) (x : Words) (f : FarState) → b.desk ≡ x → b.far ≡ f
    → lasting b ≡ lasting (record { desk = x; far = f })
ends b x f desk far = λ i. lasting (record { desk = desk i; far = far i })

-- ---- each part
make_lasts : (bytes : List ℕ) → LeavesSame lasting (StillMake bytes)
make_lasts bytes a b r step = by step
  where
    by : IsMakeStep a.desk b.desk a.far b.far bytes r → lasting b ≡ lasting a
    by (inl (made, reply, e, same)) = ends b a.desk a.far e same
    by (inr (more, inl (crammed, reply, e, same))) = ends b a.desk a.far e same
    by (inr (more, inr (reply, z))) = ends b _ _ z.left z.state

read_lasts : (h : ℕ) → LeavesSame lasting (StillRead h)
read_lasts h a b r step = elim (read_leaves a.desk b.desk h r step.0) [
  | inl e ↦ ends b a.desk a.far e step.1
  | inr e ↦ ends b _ a.far e step.1
]

write_lasts : (h at : ℕ) (bytes : List ℕ) → LeavesSame lasting (StillWrite h at bytes)
write_lasts h at bytes a b r step = elim (write_leaves a.desk b.desk h at bytes r step.0) [
  | inl e ↦ ends b a.desk a.far e step.1
  | inr e ↦ ends b _ a.far e.1.1.left step.1
]

free_lasts : (h : ℕ) → LeavesSame lasting (StillFree h)
free_lasts h a b r step = elim (free_leaves a.desk b.desk a.far b.far h r step) [
  | inl e ↦ ends b a.desk a.far e.0 e.1
  | inr e ↦ place (state_of (word_at a.desk h)) (ap (λ (x : Words). x.settings) e.1.1.left) e.1.1.leaves
]
  where
    lasts : (f : FarState) → b.desk.settings ≡ a.desk.settings → b.far ≡ f
        → lasting b ≡ (steady (record { desk = a.desk; far = f }), f.leaving, f.joining)
    lasts f same left = λ i. (begun b a.desk f same left i, (left i).leaving, (left i).joining)

    place : (q : State) → b.desk.settings ≡ a.desk.settings → LeavesPlace q a.far b.far h
        → lasting b ≡ lasting a
    place state.Here same z = lasts _ same z.left
    place state.Far same z = lasts _ same z.left
    place state.Empty same z = absurd z
    place state.Moving same z = absurd z

-- by what the far state keeps
keeps_steady : (a b : Holding Words) → b.desk.settings ≡ a.desk.settings → KeepsFar a.far b.far
    → steady b ≡ steady a
keeps_steady a b settings keeps = λ i. (settings i, keeps.members i, keeps.first i, keeps.turns i)

evicted : (a b : Holding Words) (r : Reply) → IsEvictStep a.desk b.desk a.far b.far r
    → lasting b ≡ lasting a
evicted a b r step =
    let keeps = evict_keeps a.desk b.desk a.far b.far r step in
    let leaving = evict_leaving a.desk b.desk a.far b.far r step in
    λ i. (keeps_steady a b keeps.words.settings keeps.far i, leaving i, keeps.far.joining i)

swap_lasts : (h : ℕ) → LeavesSame lasting (StillSwap h)
swap_lasts h a b r (home, at, step, hold) =
    let settings = settings_stay a.desk b.desk a.far b.far home.set home.position r step in
    let leaving = leaving_stays a.desk b.desk a.far b.far home.set home.position r step in
    let keeps = keeps_far a.desk b.desk a.far b.far home.set home.position r step in
    λ i. (keeps_steady a b settings keeps i, leaving i, keeps.joining i)

filter_lasts : (h : ℕ) → LeavesSame lasting (StillFilter h)
filter_lasts h a b r (refuses why same state, hold) = ends b a.desk a.far same state
filter_lasts h a b r (cools seat is place same, hold) = ends b _ _ same place.state
filter_lasts h a b r (without_slot seat is none same, hold) = ends b a.desk a.far same none.state
filter_lasts h a b r (moves seat slot is gets same, hold) = ends b _ _ same gets.state

-- the steps of a batch
begin_stays : LeavesSame steady StillBegin
begin_stays a b r (step, hold) = let keeps = begin_keeps a.desk b.desk a.far b.far r step in
    keeps_steady a b keeps.words.settings keeps.far

ship_stays : LeavesSame steady StillShip
ship_stays a b r (step, hold) = let keeps = ship_keeps a.desk b.desk a.far b.far r step in
    keeps_steady a b keeps.words.settings keeps.far

commit_stays : LeavesSame steady StillCommit
commit_stays a b r (none_to_commit n same, hold) = settled b a.desk a.far same n.state
commit_stays a b r (short z same, hold) = settled b a.desk a.far same z.state
commit_stays a b r (committed c away, hold) = begun b a.desk _ away.settings c.state

abort_stays : LeavesSame steady StillAbort
abort_stays a b r (none_to_abort n same, hold) = settled b a.desk a.far same n.state
abort_stays a b r (given_up g back, hold) = begun b a.desk _ back.settings g.state

-- ---- a job
-- what a job leaves: all that lasts; or it is a step of a batch; or it works at the far state alone
abbrev pub LeftBy : Job → Holding Words → Holding Words → Type 0
LeftBy job a b = (lasting b ≡ lasting a) ⊎ (((IsWholeJob job → ⊥) × (steady b ≡ steady a))
    ⊎ ((r : Reply) × (b.desk ≡ a.desk) × FarStep job a.far b.far r))

alone_left : (job : Job) (a b : Holding Words) (r : Reply) → StillAlone job a r b → LeftBy job a b
alone_left (Free handle) a b r x = inl (free_lasts handle.n a b r x)
alone_left (Filter handle) a b r x = inl (filter_lasts handle.n a b r x)
alone_left Evict a b r x = inl (evicted a b r x.0)
alone_left Begin a b r x = inr (inl ((λ whole. whole), begin_stays a b r x))
alone_left Ship a b r x = inr (inl ((λ whole. whole), ship_stays a b r x))
alone_left Commit a b r x = inr (inl ((λ whole. whole), commit_stays a b r x))
alone_left Abort a b r x = inr (inl ((λ whole. whole), abort_stays a b r x))
alone_left job a b r x = inr (inr (r, x.0, x.1))

parts : AreAlong itself Anywhere (LeftAs lasting) still_parts still_parts
parts = record {
  frames = λ a good. refl;
  makes = λ bytes a b r good x. (make_lasts bytes a b r x, x);
  writes = λ h at bytes a b r good x. (write_lasts h at bytes a b r x, x);
  finds = λ h a b r good x. (ap lasting x.1, x);
  declines = λ h at count a b r good x. (ap lasting x.1, x);
  swaps = λ h a b r good x. (swap_lasts h a b r x, x);
  wins = λ a b e good x. (evicted a b (reply_of e) x.0.step, x);
}

reads : (h : ℕ) → CarriesAlong itself Anywhere (LeftAs lasting) turn_rise
    (WhereItIs (StillRead h) NeverDeclined (StillBring h))
    (WhereItIs (StillRead h) NeverDeclined (StillBring h))
reads h = where_it_is itself Anywhere (LeftAs lasting) (along lasting) 1 1 bring_rise turn_rise
    (StillRead h)
    (StillRead h) NeverDeclined NeverDeclined (StillBring h) (StillBring h) (omega arith)
    (λ a b r good x. (read_lasts h a b r x, x)) (λ a b r good x. (ap lasting x.1, x))
    (brings itself Anywhere (LeftAs lasting) (along lasting) still_parts still_parts parts h)

pub works_left : (job : Job) (a b : Holding Words) (r : Reply) → StillWorks job a r b → LeftBy job a b
works_left job a b r x =
    does itself Anywhere (LeftAs lasting) (along lasting) still_parts still_parts parts
    (λ j c d Z. LeftBy j c d) _ _ job (λ two c d Z z. inl z.0) reads
    (λ c d q good y. alone_left job c d q y) a b r tt x
