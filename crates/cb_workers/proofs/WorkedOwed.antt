-- Worked jobs of workers: whose each job is, which are owed and which end a batch or a pair; and a
-- work that was cut short, with one part broken alone.
use Rattle.std.proofs.Common.{◌≡◌, ℕ, [], ◌∷◌, length, None, Some, refl, sym, ap, ◌∙◌, subst, arith}
use Rattle.cb_types.specs.declared.config.Config.{Config}
use Rattle.cb_types.specs.declared.job.Job.{Job}
use Rattle.cb_types.specs.declared.job.Job.TheVariants as job
use Rattle.cb_types.specs.declared.reply.Reply.TheVariants as answer
use Rattle.cb_types.specs.Jobs.{job_index}
use Rattle.cb_world.specs.declared.entry.Entry.{Entry}
use Rattle.cb_world.specs.declared.shown.Shown.{Shown}
use Rattle.cb_world.specs.FarState.{FarState}
use Rattle.cb_rule.specs.declared.view.View.{View}
use Rattle.cb_record.specs.Parts.{Part}
use Rattle.cb_workers.specs.Bodies.{Cuts, IsEnd, IsOwed, IsStopped, turns_alone}
use Rattle.cb_workers.specs.Rules.{after_batch, after_pair, end_of, owner}
use Rattle.cb_workers.specs.Work.{AnsweredTurn, AreDue}
use Rattle.cb_workers.specs.declared.worker.Worker.TheVariants as worker
use Rattle.cb_workers.proofs.WorkedBodies.{two_turns}

-- ---- whose each job is
of_batches : (owner job.Gather ≡ Some worker.Evict) × (owner job.Install ≡ Some worker.Evict)
    × (owner job.Ship ≡ Some worker.Evict)
    × (owner job.Abort ≡ Some worker.Evict)
of_batches = (refl, refl, refl, refl)

of_pairs : (owner job.Pair ≡ Some worker.Compact) × (owner job.Patch ≡ Some worker.Compact)
    × (owner job.Merge ≡ Some worker.Compact)
of_pairs = (refl, refl, refl)

of_none : (owner job.Begin ≡ None) × (owner job.Land ≡ None) × (owner (job.Make []) ≡ None)
    × (owner (job.Read (record { n = 2 })) ≡ None)
    × (owner (job.Swap (record { n = 2 })) ≡ None) × (owner job.Compact ≡ None)
    × (owner (job.Crash (record { n = 2 })) ≡ None)
of_none = (refl, refl, refl, refl, refl, refl, refl)

-- ---- which turns a worker may owe
owed : IsOwed 8 job.Gather × IsOwed 8 job.Install × IsOwed 8 job.Ship × IsOwed 8 job.Commit
    × IsOwed 8 job.Abort × IsOwed 8 job.Pair × IsOwed 8 job.Patch × IsOwed 8 job.Part
    × IsOwed 8 job.Rebuild
owed = (tt, tt, tt, tt, tt, tt, tt, tt, tt)

no_begin_is_owed : IsOwed 8 job.Begin → ⊥
no_begin_is_owed is = is

no_make_is_owed : IsOwed 8 (job.Make []) → ⊥
no_make_is_owed is = is

no_swap_is_owed : IsOwed 8 (job.Swap (record { n = 2 })) → ⊥
no_swap_is_owed is = is

no_compaction_is_owed : IsOwed 8 job.Compact → ⊥
no_compaction_is_owed is = is

no_join_is_owed : IsOwed 8 (job.Join (record { n = 2 })) → ⊥
no_join_is_owed is = is

-- ---- which jobs end what was begun, and which need no end
no_ship_ends : IsEnd job.Ship → ⊥
no_ship_ends is = is

no_merge_ends : IsEnd job.Merge → ⊥
no_merge_ends is = is

no_gather_ends : IsEnd job.Gather → ⊥
no_gather_ends is = is

ends_of_others : (end_of job.Gather ≡ None) × (end_of (job.Make []) ≡ None)
    × (end_of job.Evict ≡ None) × (end_of job.Compact ≡ None)
    × (end_of (job.Swap (record { n = 2 })) ≡ None)
ends_of_others = (refl, refl, refl, refl, refl)

-- a turn that was refused begins the next batch, or the next pair
after_refusals : (after_batch job.Ship answer.Worn ≡ job.Gather)
    × (after_batch job.Gather (answer.NoRoom 8 0 2) ≡ job.Gather)
    × (after_pair answer.Worn ≡ job.Pair) × (after_pair answer.NoNode ≡ job.Pair)
after_refusals = (refl, refl, refl, refl)

-- ---- a work that was cut short is turns alone
stopped_and_pinned : (s : Shown) (far : FarState)
    → IsStopped 8 worker.Evict 2 (record (turns_alone (two_turns s far)) { ever = 1 }) → ⊥
stopped_and_pinned s far w =
    let same : 1 ≡ 0 = ap (λ (d : Part). d.ever) w.alone in omega (arith, same)

stopped_and_written : (s : Shown) (far : FarState) (e : Entry)
    → IsStopped 8 worker.Evict 2 (record (turns_alone (two_turns s far)) { written = e ∷ [] }) → ⊥
stopped_and_written s far e w =
    let same : 1 ≡ 0 = ap (λ (d : Part). length d.written) w.alone in omega (arith, same)

-- the turn before the one that found no memory was not due
shipped_first : (g : Config) (n : ℕ) (due : Job) (v u : View) (c : Cuts g worker.Evict n due v u)
    → (a : AnsweredTurn) → a.job ≡ job.Ship → c.done ≡ a ∷ [] → ⊥
shipped_first g n due v u c a ships one =
    let are = subst (AreDue g.handles worker.Evict) one c.are_due in
    let e : 8 ≡ 19 = ap job_index (sym ships ∙ are.0) in omega (arith, e)
