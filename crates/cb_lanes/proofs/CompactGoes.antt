-- A compaction, whichever side makes the parities, leaves the map beside the world as it is.
use Rattle.std.proofs.Common.{◌≡◌, ℕ, ◌^◌, ◌<◌, List, None, refl, sym, ap, ◌∙◌, subst, arith}
use Rattle.cb_types.specs.declared.answer.Answer.{Answer}
use Rattle.cb_types.specs.declared.job.Job.TheVariants as job
use Rattle.cb_types.specs.declared.request.Request.TheVariants.{Compact}
use Rattle.cb_types.specs.declared.reply.Reply.{Reply}
use Rattle.cb_types.specs.Table.{IsReplyOf}
use Rattle.cb_model.specs.Called.{called, calls_of, made_by, makes}
use Rattle.cb_model.specs.Event.{event_of}
use Rattle.cb_model.specs.Event.Subject.{Nothing}
use Rattle.cb_model.specs.Event.Event.{Refused}
use Rattle.cb_model.specs.Replies.{MapReplies}
use Rattle.cb_script.specs.declared.script.Line.{Line}
use Rattle.cb_world.specs.OpenSteps.{NoneHolds}
use Rattle.cb_world.specs.Plain.{Words}
use Rattle.cb_world.specs.World.{WorldState, IsKnown, IsSoundWorld}
use Rattle.cb_core.specs.Turned.{counted}
use Rattle.cb_core.proofs.Laws.{IsSameMap, compact_turn, counted_map, is_done, kept_beside}
use Rattle.cb_core.proofs.Laws.{known_same, once_known}
use Rattle.cb_local.specs.LocalStep.{LocalStep}
use Rattle.cb_local.proofs.Laws.{local_laws}
use Rattle.cb_lanes.specs.Asked.{answer_to}
use Rattle.cb_lanes.specs.CompactsHere.{CompactsHere}
use Rattle.cb_lanes.specs.LineStep.{CompactsAt}
use Rattle.cb_lanes.specs.declared.side.Side.{Side}
use Rattle.cb_lanes.specs.declared.side.Side.TheVariants as parities
use Rattle.cb_lanes.proofs.Lone.{turn_alone}
use Rattle.cb_lanes.proofs.Silent.{nothing_told, silent_follows, still_goes}
use Rattle.cb_lanes.proofs.Turning.{LineGives, Turning}

-- the turn took place: no word changed, and the far state did as the compute side joins two sets
record IsDoneHere (w : WorldState) (r : Reply) (new : WorldState) : Type 0 where
  desk : new.desk ≡ w.desk
  step : LocalStep (counted w.far job.Compact) new.far r

done_here : (seat : ℕ) (w new : WorldState) (r : Reply) → NoneHolds w.seats
    → w.far.counts.turns < 2 ^ 40 → CompactsHere seat w r new → IsDoneHere w r new
done_here seat w new r lone few x =
    let works = is_done job.Compact w x.mid r few
    (turn_alone seat job.Compact w x.mid r tt lone x.there) in
    record {
      desk = x.desk ∙ works.0;
      step = record { mid = x.mid.far; same = works.1; beside = x.beside; full = x.full };
    }

same_map : (w new : WorldState) (r : Reply) → (before : IsSoundWorld w) → (then : IsSoundWorld new)
    → IsDoneHere w r new → IsSameMap before.shown then.shown w.far new.far
same_map w new r before then d =
    let known = once_known w job.Compact before.shown before.known in
    let keeps = local_laws.keeps before.shown
    (counted w.far job.Compact) new.far r known.sound d.step in
    let leaves = local_laws.leaves (counted w.far job.Compact) new.far r d.step in
    let still : IsKnown new.desk new.far before.shown =
    subst (λ (x : Words). IsKnown x new.far before.shown) (sym d.desk) (record {
      sized = known.sized;
      shows = known.shows;
      hots = known.hots;
      sound = keeps.sound;
      packed = known.packed;
      freed = known.freed;
    }) in
    record {
      now = λ h. known_same new.desk new.far before.shown then.shown h still then.known
          ∙ keeps.same_now h ∙ (counted_map before.shown w.far job.Compact).now h;
      first = leaves.first;
      made = leaves.made;
    }

here_goes : (answers : List Answer) (l : Line) (r : Reply) (w new : WorldState)
    → (c : Turning answers w new) → IsDoneHere w r new
    → LineGives answers (answer_to l Compact r) w new c.then.shown
here_goes answers l r w new c d =
    let leaves = local_laws.leaves (counted w.far job.Compact) new.far r d.step in
    let turns = leaves.turns in
    record {
      follows = silent_follows w.desk.settings.handles (calls_of answers)
          (called answers a) c.then.shown
          w.far new.far
          (kept_beside (calls_of answers) c.before.shown c.then.shown w.far new.far c.beside
          (same_map w new r c.before c.then d)) refl (ap made_by told)
          (subst (MapReplies w.far.first w.desk.settings.handles
          (makes (calls_of answers)) None None)
          (sym told) tt);
      reply = line;
      first = leaves.first;
      turns = omega (arith, turns);
    }
  where
    a : Answer
    a = answer_to l Compact r

    line : IsReplyOf Compact r
    line = local_laws.answers (counted w.far job.Compact) new.far r d.step

    told : event_of Compact r ≡ Refused Nothing
    told = nothing_told Compact r refl line

pub compact_goes : (side : Side) (answers : List Answer) (l : Line) (r : Reply)
    (w new : WorldState) → (c : Turning answers w new) → CompactsAt side l.lane.n w r new
    → LineGives answers (answer_to l Compact r) w new c.then.shown
compact_goes parities.Nodes answers l r w new c step =
    still_goes job.Compact Compact compact_turn refl (λ xs q. refl) answers l r w new c
    (turn_alone l.lane.n job.Compact w new r tt c.lone step)
compact_goes parities.Compute answers l r w new c x =
    here_goes answers l r w new c (done_here l.lane.n w new r c.lone c.few x)
