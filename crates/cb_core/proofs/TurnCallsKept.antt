-- What a step within a turn keeps: what every object holds, with its pins.
use Rattle.std.proofs.Common.{◌≡◌, ℕ, suc, ◌≤◌, refl, sym, ◌∙◌, subst}
use Rattle.cb_types.specs.declared.job.Job.{Job}
use Rattle.cb_types.specs.declared.reply.Reply.{Reply}
use Rattle.cb_types.specs.declared.reply.Reply.TheVariants as answer
use Rattle.cb_types.specs.Jobs.{job_index}
use Rattle.cb_world.specs.declared.shown.Shown.{Shown}
use Rattle.cb_world.specs.Counts.{with_turn}
use Rattle.cb_world.specs.FarState.{FarState}
use Rattle.cb_world.specs.Now.{now}
use Rattle.cb_world.specs.Plain.{Words}
use Rattle.cb_world.specs.World.{WorldState, IsKnown}
use Rattle.cb_world.proofs.Laws.{KeepsPins, StepKeeps, now_same, pins_same, recounted_sound}
use Rattle.cb_evict.proofs.Laws.{evict_keeps}
use Rattle.cb_swapin.proofs.Laws.{swap_keeps}
use Rattle.cb_evict.specs.declared.eviction.Eviction.{Eviction}
use Rattle.cb_evict.specs.declared.eviction.Eviction.TheVariants.{Refused, Set}
use Rattle.cb_evict.specs.Eviction.{reply_of}
use Rattle.cb_core.specs.Parts.{Holding, WithRoom, at_once, no_room, won, most_evictions}
use Rattle.cb_core.specs.Step.{HoldOn, StillRoom, StillSwap, StillBring, StillFar}
use Rattle.cb_core.specs.Turned.{counted}
use Rattle.cb_core.proofs.NodesStay.{MakesNone}

-- All is known after, each object holds what it held, with its pins, and with pins it has its word; no
-- object was made, and no turn was counted.
pub record HasKept (a b : Holding Words) (s : Shown) : Type 0 where
  pub shown : Shown
  pub known : IsKnown b.desk b.far shown
  pub same_now : (h : ℕ) → now shown b.far h ≡ now s a.far h
  pub made : MakesNone a.far b.far
  pub words : KeepsPins a.desk b.desk

-- two holdings are the same where the desks and the far states are
pub same_holding : (a b : Holding Words) → b.desk ≡ a.desk → b.far ≡ a.far → b ≡ a
same_holding a b desk far = λ i. record { desk = desk i; far = far i }

pub kept_all : (a : Holding Words) (s : Shown) → IsKnown a.desk a.far s → HasKept a a s
kept_all a s k = record {
  shown = s;
  known = k;
  same_now = λ h. refl;
  made = refl;
  words = pins_same a.desk;
}

pins_then : (x y z : Words) → KeepsPins x y → KeepsPins y z → KeepsPins x z
pins_then x y z p q = record {
  settings = q.settings ∙ p.settings;
  count = q.count ∙ p.count;
  versions = q.versions ∙ p.versions;
  pins = λ h. q.pins h ∙ p.pins h;
  pinned = λ h some. q.pinned h (subst (λ (n : ℕ). 1 ≤ n) (sym (p.pins h)) some) ∙ p.pinned h some;
}

pub kept_then : (a b c : Holding Words) (s : Shown) → (k : HasKept a b s) → HasKept b c k.shown
    → HasKept a c s
kept_then a b c s k l = record {
  shown = l.shown;
  known = l.known;
  same_now = λ h. l.same_now h ∙ k.same_now h;
  made = l.made ∙ k.made;
  words = pins_then a.desk b.desk c.desk k.words l.words;
}

-- what a step keeps, after which all is known
pub kept_step : (a b : Holding Words) (s : Shown) → IsKnown a.desk a.far s → HoldOn a b
    → StepKeeps a.desk b.desk a.far b.far → HasKept a b s
kept_step a b s k hold keeps = let then = hold s k in record {
  shown = then.0;
  known = then.1;
  same_now = then.2;
  made = λ i. (keeps.far.first i, keeps.far.made i, keeps.far.turns i);
  words = keeps.words;
}

-- so does a change of the far state alone in which no object was made and no turn counted
pub kept_far : (step : FarState → FarState → Reply → Type 0) (a b : Holding Words) (r : Reply)
    (s : Shown) → IsKnown a.desk a.far s → MakesNone a.far b.far → StillFar step a r b
    → HasKept a b s
kept_far step a b r s k none (same, done, hold) = let then = hold s k in record {
  shown = then.0;
  known = then.1;
  same_now = then.2;
  made = none;
  words = subst (KeepsPins a.desk) (sym same) (pins_same a.desk);
}

pub kept_swap : (a b : Holding Words) (h : ℕ) (r : Reply) (s : Shown) → IsKnown a.desk a.far s
    → StillSwap h a r b → HasKept a b s
kept_swap a b h r s k (home, at, step, hold) =
    kept_step a b s k hold (swap_keeps a.desk b.desk a.far b.far home.set home.position r s k step)

pub kept_room : (a b : Holding Words) (e : Eviction) (s : Shown) → IsKnown a.desk a.far s
    → StillRoom a e b → HasKept a b s
kept_room a b e s k (step, hold) =
    kept_step a b s k hold (evict_keeps a.desk b.desk a.far b.far (reply_of e) step.step)

-- what is done with room won keeps what its parts keep
kept_behind : (h room left : ℕ) (a b : Holding Words) (r : Reply) (s : Shown)
    → IsKnown a.desk a.far s
    → WithRoom room (StillSwap h) StillRoom left a r b → HasKept a b s
kept_behind h room left a b r s k (at_once swap some) = kept_swap a b h r s k swap
kept_behind h room left a b r s k (no_room m why loose nodes swap evict e) =
    let one = kept_swap a m h answer.NoFrame s k swap in
    kept_then a m b s one (kept_room m b (Refused why loose nodes) one.shown one.known evict)
kept_behind h room (suc fewer) a b r s k (won m n id swap evict again) =
    let one = kept_swap a m h answer.NoFrame s k swap in
    let two = kept_then a m n s one (kept_room m n (Set id) one.shown one.known evict) in
    kept_then a n b s two (kept_behind h room fewer n b r two.shown two.known again)

pub kept_bring : (a b : Holding Words) (h : ℕ) (r : Reply) (s : Shown) → IsKnown a.desk a.far s
    → StillBring h a r b → HasKept a b s
kept_bring a b h r s k bring =
    kept_behind h a.desk.settings.frames most_evictions a b r s k bring

-- what is known of the same words and far state is the same
pub known_same : (x : Words) (far : FarState) (s t : Shown) (h : ℕ) → IsKnown x far s → IsKnown x far t
    → now t far h ≡ now s far h
known_same x far s t h before then =
    now_same x s t far h before.shows before.sound then.shows then.sound

-- ---- a turn is counted
pub once_known : (w : WorldState) (job : Job) (s : Shown) → IsKnown w.desk w.far s
    → IsKnown w.desk (counted w.far job) s
once_known w job s k = record {
  sized = k.sized;
  shows = k.shows;
  hots = k.hots;
  sound = recounted_sound s w.far (with_turn w.far.counts (job_index job)).turns
      (with_turn w.far.counts (job_index job)).by_job w.far.nodes.given k.sound;
  packed = k.packed;
  freed = k.freed;
}
