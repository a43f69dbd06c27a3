-- A line is answered with no want of room and no loss where its world makes it easy.
use Rattle.std.proofs.Common.{◌≡◌, ℕ, ◌^◌, ◌<◌, List, Option, Some, inl, inr, sym, subst}
use Rattle.cb_ptr.specs.declared.word.State.{State}
use Rattle.cb_ptr.specs.declared.word.State.TheVariants as state
use Rattle.cb_ptr.specs.Word.{state_of, pins_of}
use Rattle.cb_types.specs.declared.job.Job.{Job}
use Rattle.cb_types.specs.declared.job.Job.TheVariants as job
use Rattle.cb_types.specs.declared.request.Request.{Request}
use Rattle.cb_types.specs.declared.request.Request.TheVariants.{Make}
use Rattle.cb_types.specs.declared.reply.Reply.{Reply}
use Rattle.cb_world.specs.OpenSteps.{NoneHolds}
use Rattle.cb_world.specs.Plain.{Words}
use Rattle.cb_world.specs.StillWords.{stamp_at}
use Rattle.cb_world.specs.World.{WorldState, IsSoundWorld, word_at}
use Rattle.cb_core.specs.declared.event.Event.TheVariants.{Turn}
use Rattle.cb_core.specs.Jobs.{NeedsNoOrder}
use Rattle.cb_core.specs.Pinning.{PinStep, UnpinStep, given, not_pinned as none_given, pin_refusal}
use Rattle.cb_core.specs.Pinning.{refused, scope_full, taken}
use Rattle.cb_core.specs.Step.{Step}
use Rattle.cb_core.specs.Parts.{Holding}
use Rattle.cb_core.specs.Turned.{once_counted}
use Rattle.cb_core.proofs.Laws.{IsEased, IsWholeJob, KeepsEasy, MakesEasy}
use Rattle.cb_core.proofs.Laws.{MakesWithin, SwapEnds, held, pin_calm}
use Rattle.cb_core.proofs.Laws.{refused as swap_refused, stays, swap_sound, swap_turn, swapped}
use Rattle.cb_core.proofs.Laws.{turn_calm}
use Rattle.cb_lanes.specs.LineGoes.{Ask, Calls, Leaves, Peeks, Pins, Unpins}
use Rattle.cb_lanes.specs.LineStep.{LineStep, PeekStep, PinLine, at_once, goes_at, not_pinned}
use Rattle.cb_lanes.specs.LineStep.{shown, stays_far, swapped_in}
use Rattle.cb_lanes.specs.declared.side.Side.{Side}
use Rattle.cb_lanes.proofs.ByAsk.{IsAskOf, of_line}
use Rattle.cb_lanes.proofs.EasyLines.{IsEasyLine, job_whole}
use Rattle.cb_lanes.proofs.FarPins.{refused_not_there}
use Rattle.cb_lanes.proofs.LineJobs.{IsCallOf, by_object_job, call_alone}
use Rattle.cb_lanes.proofs.LineKeeps.{line_within}
use Rattle.cb_lanes.proofs.Lone.{turn_alone}
use Rattle.cb_lanes.proofs.Recounting.{turn_beside}

eased_as : (r q : Reply) → IsEased q → r ≡ q → IsEased r
eased_as r q calm e = subst IsEased (sym e) calm

-- ---- a pin of an object that is here
here_refusal : (q : State) (version pins : ℕ) → q ≡ state.Here
    → IsEased (pin_refusal q version pins)
here_refusal q version pins here =
    subst (λ (z : State). IsEased (pin_refusal z version pins)) (sym here) tt

pin_here : (w new : WorldState) (seat h : ℕ) (r : Reply)
    → state_of (word_at w.desk h) ≡ state.Here → PinStep seat h w r new → IsEased r
pin_here w new seat h r here (scope_full full reply same) = eased_as r _ tt reply
pin_here w new seat h r here (refused room not reply same) = eased_as r _
    (here_refusal (state_of (word_at w.desk h)) (stamp_at w.desk h) (pins_of (word_at w.desk h))
    here) reply
pin_here w new seat h r here (taken room may reply t) = eased_as r _ tt reply

unpin_calm : (seat h : ℕ) (w new : WorldState) (r : Reply) → UnpinStep seat h w r new → IsEased r
unpin_calm seat h w new r (none_given none reply same) = eased_as r _ tt reply
unpin_calm seat h w new r (given reply t) = eased_as r _ tt reply

peek_calm : (seat h : ℕ) (w new : WorldState) (r : Reply) → PeekStep seat h w r new → IsEased r
peek_calm seat h w new r (not_pinned none reply same) = eased_as r _ tt reply
peek_calm seat h w new r (shown at newest reply same) = eased_as r _ tt reply

-- an object that the line makes lies in a span of no more than so many pages
abbrev pub LineMakesWithin : ℕ → Request → Type 0
LineMakesWithin most (Make name bytes) = MakesWithin most (job.Make bytes)
LineMakesWithin most request = Unit {0}

-- the job of a line makes an object where the line does, and is whole where the line is easy
call_within : (most : ℕ) (handle : Option ℕ) (request : Request) (j : Job)
    → LineMakesWithin most request → IsCallOf handle request j → MakesWithin most j
call_within most handle request j within (inl (name, bytes, e, is)) =
    subst (MakesWithin most) (sym is) (subst (LineMakesWithin most) e within)
call_within most handle request j within (inr (inl (h, named, e))) = by_object_job h
    (λ (q : Request) (i : Job). MakesWithin most i) (λ name. tt) (λ name at bytes. tt) (λ name. tt)
    (λ name. tt) request j e
call_within most handle request j within (inr (inr e)) = line_within most request j e

call_whole : (nodes : List ℕ) (handle : Option ℕ) (request : Request) (j : Job)
    → IsEasyLine nodes request → IsCallOf handle request j → IsWholeJob j
call_whole nodes handle request j easy (inl (name, bytes, e, is)) = subst IsWholeJob (sym is) tt
call_whole nodes handle request j easy (inr (inl (h, named, e))) = by_object_job h
    (λ (q : Request) (i : Job). IsWholeJob i) (λ name. tt) (λ name at bytes. tt) (λ name. tt)
    (λ name. tt) request j e
call_whole nodes handle request j easy (inr (inr e)) = job_whole nodes request easy j e

-- facts that make it easy, also behind each eviction of a turn
module _ {most : ℕ} (E : Holding Words → Type 0) (keeps : KeepsEasy most E) (w : WorldState)
    (sound : IsSoundWorld w) (few : w.far.counts.turns < 2 ^ 40) (lone : NoneHolds w.seats)
    (easy : MakesEasy most w.desk w.far) (begins : (j : Job) → E (once_counted (held w) j)) where
  event_calm : (seat : ℕ) (j : Job) (new : WorldState) (r : Reply) → IsWholeJob j
      → MakesWithin most j → NeedsNoOrder j → Step w (Turn seat j) r new → IsEased r
  event_calm seat j new r whole within alone step =
      turn_calm E keeps w new j r sound few whole within (begins j)
      (turn_alone seat j w new r alone lone step)

  pin_line_calm : (seat h : ℕ) (new : WorldState) (r : Reply) → h < w.desk.settings.handles
      → PinLine seat h w r new → IsEased r
  pin_line_calm seat h new r below (at_once pin never) = pin_calm w new seat h r easy pin
  pin_line_calm seat h new r below (stays_far away swap off) =
      event_calm seat (job.Swap (record { n = h })) new r tt tt tt swap
  pin_line_calm seat h new r below (swapped_in m q away swap is again) =
      let step = turn_alone seat (job.Swap (record { n = h })) w m q tt lone swap in
      by (swap_turn w m h q sound (swap_sound w m h q sound step) few below step).ends
    where
      by : SwapEnds m.desk h q → IsEased r
      by (swap_refused refusal) = absurd (refused_not_there q refusal is)
      by (stays e here) = pin_here m new seat h r here again
      by (swapped f e here) = pin_here m new seat h r here again

  ask_calm : (nodes : List ℕ) (side : Side) (seat : ℕ) (handle : Option ℕ) (request : Request)
      (ask : Ask) (new : WorldState) (r : Reply) → IsEasyLine nodes request
      → LineMakesWithin most request → ((h : ℕ) → handle ≡ Some h → h < w.desk.settings.handles)
      → IsAskOf handle request ask → goes_at side seat ask w r new → IsEased r
  ask_calm nodes side seat handle request (Calls j) new r line within ready is x =
      let z = turn_beside j side seat w new r x in
      event_calm seat j z.mid r (call_whole nodes handle request j line is)
      (call_within most handle request j within is) (call_alone handle request j is) z.step
  ask_calm nodes side seat handle request (Pins h) new r line within ready is x =
      pin_line_calm seat h new r (ready h is.0) x
  ask_calm nodes side seat handle request (Peeks h) new r line within ready is x =
      peek_calm seat h w new r x
  ask_calm nodes side seat handle request (Unpins h) new r line within ready is x =
      unpin_calm seat h w new r x
  ask_calm nodes side seat handle request Leaves new r line within ready is x =
      eased_as r _ tt x.0

  go : (nodes : List ℕ) (side : Side) (seat : ℕ) (handle : Option ℕ) (request : Request)
      (new : WorldState) (r : Reply) → IsEasyLine nodes request → LineMakesWithin most request
      → ((h : ℕ) → handle ≡ Some h → h < w.desk.settings.handles)
      → LineStep side seat handle request w r new → IsEased r
  go nodes side seat handle request new r line within ready x =
      of_line (goes_at side seat) w new r (IsEased r) handle request
      (λ ask is y. ask_calm nodes side seat handle request ask new r line within ready is y)
      (λ unmade same. eased_as r _ tt unmade) x

pub line_calm : {most : ℕ} (E : Holding Words → Type 0) → KeepsEasy most E → (nodes : List ℕ)
    (side : Side) (seat : ℕ) (handle : Option ℕ) (request : Request)
    (w new : WorldState) (r : Reply) → IsSoundWorld w → w.far.counts.turns < 2 ^ 40
    → NoneHolds w.seats → MakesEasy most w.desk w.far → ((j : Job) → E (once_counted (held w) j))
    → IsEasyLine nodes request → LineMakesWithin most request
    → ((h : ℕ) → handle ≡ Some h → h < w.desk.settings.handles)
    → LineStep side seat handle request w r new → IsEased r
line_calm E keeps nodes side seat handle request w new r sound few lone easy begins line within
    ready x =
    go E keeps w sound few lone easy begins nodes side seat handle request new r line within ready x
