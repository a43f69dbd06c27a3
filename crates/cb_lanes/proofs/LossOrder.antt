-- The losses of a script are in the order of their epochs: no line makes the epoch fall, and a
-- crash that took place began a new one.
use Rattle.std.proofs.Common.{◌≡◌, ℕ, zero, suc, ◌+◌, ◌<◌, ◌≤◌, List, [], ◌∷◌, ◌++◌, map, Option}
use Rattle.std.proofs.Common.{None, Some, refl, sym, ap, ◌∙◌, arith}
use Rattle.std.specs.List.{AllByRecursion, cons_option}
use Rattle.std.proofs.lemmas.Option.{none-some}
use Rattle.cb_member.specs.declared.names.Loss.{Loss}
use Rattle.cb_member.specs.declared.names.NodeId.{NodeId}
use Rattle.cb_types.specs.declared.answer.Answer.{Answer}
use Rattle.cb_types.specs.declared.job.Job.TheVariants as job
use Rattle.cb_types.specs.declared.reply.Reply.{Reply}
use Rattle.cb_types.specs.declared.request.Request.{Request}
use Rattle.cb_types.specs.declared.request.Request.TheVariants.{Crash}
use Rattle.cb_types.specs.Requests.{name_of}
use Rattle.cb_model.specs.Called.{handle_named}
use Rattle.cb_world.specs.FarState.{FarState}
use Rattle.cb_world.specs.World.{WorldState}
use Rattle.cb_core.specs.declared.event.Atomic.TheVariants as atomic
use Rattle.cb_core.specs.declared.event.Event.TheVariants as event
use Rattle.cb_core.specs.declared.event.Event.TheVariants.{Turn}
use Rattle.cb_core.specs.Membership.{crashed, is_down}
use Rattle.cb_core.specs.Step.{TurnStep, worn, done, held as other_holds, free, ordered}
use Rattle.cb_core.proofs.Laws.{lead_rises, step_rises}
use Rattle.cb_lanes.specs.GivingBack.{GivesAll, Rests, lines_by}
use Rattle.cb_lanes.specs.LineGoes.{Ask, Calls, Leaves, Peeks, Pins, Unpins}
use Rattle.cb_lanes.specs.LineStep.{LineStep, LinesLead, PeekStep, PinLine, at_once, goes_at}
use Rattle.cb_lanes.specs.LineStep.{not_pinned, shown, stays_far, swapped_in}
use Rattle.cb_lanes.specs.declared.side.Side.{Side}
use Rattle.cb_lanes.specs.Lost.{AreInOrder, told_loss, losses_of}
use Rattle.cb_lanes.proofs.ByAsk.{by_ask}
use Rattle.cb_lanes.proofs.Recounting.{turn_beside}

abbrev EpochRises : WorldState → WorldState → Type 0
EpochRises w new = w.far.members.epoch ≤ new.far.members.epoch

-- ---- a line
stays : (w new : WorldState) → new ≡ w → EpochRises w new
stays w new same = let e = ap (λ (v : WorldState). v.far.members.epoch) same in omega (arith, e)

pin_rises : (seat h : ℕ) (w new : WorldState) (r : Reply) → PinLine seat h w r new
    → EpochRises w new
pin_rises seat h w new r (at_once e off) =
    step_rises w new (event.Step seat (atomic.Pin (record { n = h }))) r e
pin_rises seat h w new r (stays_far away x off) =
    step_rises w new (Turn seat (job.Swap (record { n = h }))) r x
pin_rises seat h w new r (swapped_in m q away x is z) =
    let one = step_rises w m (Turn seat (job.Swap (record { n = h }))) q x in
    let two = step_rises m new (event.Step seat (atomic.Pin (record { n = h }))) r z in
    omega (arith, one, two)

peek_rises : (seat h : ℕ) (w new : WorldState) (r : Reply) → PeekStep seat h w r new
    → EpochRises w new
peek_rises seat h w new r (not_pinned n e same) = stays w new same
peek_rises seat h w new r (shown at x e same) = stays w new same

gives_rise : (seat : ℕ) (w new : WorldState) → GivesAll seat w new → EpochRises w new
gives_rise seat w new x = lead_rises w new _ _ x

rests_rise : (left seat : ℕ) (w new : WorldState) → Rests left seat w new → EpochRises w new
rests_rise zero seat w new x = gives_rise seat w new x
rests_rise (suc left) seat w new x = stays w new x

ask_rises : (side : Side) (seat : ℕ) (ask : Ask) (w new : WorldState) (r : Reply)
    → goes_at side seat ask w r new → EpochRises w new
ask_rises side seat (Calls j) w new r x = let z = turn_beside j side seat w new r x in
    let rise = step_rises w z.mid (Turn seat j) r z.step in
    let same = ap (λ (f : FarState). f.members.epoch) z.counts.far in omega (arith, rise, same)
ask_rises side seat (Pins h) w new r x = pin_rises seat h w new r x
ask_rises side seat (Peeks h) w new r x = peek_rises seat h w new r x
ask_rises side seat (Unpins h) w new r x =
    step_rises w new (event.Step seat (atomic.Unpin (record { n = h }))) r x
ask_rises side seat Leaves w new r x = gives_rise seat w new x.1

line_rises : (side : Side) (seat : ℕ) (handle : Option ℕ) (request : Request) (w new : WorldState)
    (r : Reply) → LineStep side seat handle request w r new → EpochRises w new
line_rises side seat handle request w new r x =
    by_ask (goes_at side seat) w new r (EpochRises w new)
    (λ ask y. ask_rises side seat ask w new r y) (λ unmade same. stays w new same) handle request x

-- ---- a crash that took place

abbrev epoch_in : Option Loss → ℕ
epoch_in (Some loss) = loss.epoch.n
epoch_in None = 0

-- the epoch of a loss is later than that before its line
record IsNew (loss : Loss) (w new : WorldState) : Type 0 where
  later : w.far.members.epoch < loss.epoch.n
  reached : loss.epoch.n ≤ new.far.members.epoch

crash_new : (node : NodeId) (w new : WorldState) (r : Reply) (loss : Loss)
    → TurnStep (job.Crash node) w r new → told_loss (Crash node) r ≡ Some loss → IsNew loss w new
crash_new node w new r loss (worn end reply same) e =
    absurd (none-some loss (sym (ap (told_loss (Crash node)) reply) ∙ e))
crash_new node w new r loss (done few (words, is_down down reply state) seats) e =
    absurd (none-some loss (sym (ap (told_loss (Crash node)) reply) ∙ e))
crash_new node w new r loss (done few (words, crashed up reply state) seats) e =
    let at : w.far.members.epoch + 1 ≡ loss.epoch.n =
    ap epoch_in (sym (ap (told_loss (Crash node)) reply) ∙ e) in
    let now : new.far.members.epoch ≡ w.far.members.epoch + 1 =
    ap (λ (f : FarState). f.members.epoch) state in
    record { later = omega (arith, at); reached = omega (arith, at, now) }

line_new : (side : Side) (seat : ℕ) (handle : Option ℕ) (request : Request) (w new : WorldState)
    (r : Reply) (loss : Loss) → LineStep side seat handle request w r new
    → told_loss request r ≡ Some loss
    → IsNew loss w new
line_new side seat handle (Crash node) w new r loss (other_holds holder off holds is same) e =
    absurd (none-some loss (sym (ap (told_loss (Crash node)) is) ∙ e))
line_new side seat handle (Crash node) w new r loss (free none step) e =
    crash_new node w new r loss step e
line_new side seat handle (Crash node) w new r loss (ordered keeps off none turn seats) e =
    absurd (off tt)
line_new side seat handle request w new r loss x e = absurd (none-some loss e)

-- ---- the lines one after another
-- all have a later epoch
abbrev Behind : ℕ → List Loss → Type 0
Behind n losses = AllByRecursion (λ (next : Loss). n < next.epoch.n) losses

behind_less : (n m : ℕ) (losses : List Loss) → n ≤ m → Behind m losses → Behind n losses
behind_less n m [] less x = x
behind_less n m (loss ∷ later) less x =
    let first = x.0 in (omega (arith, less, first), behind_less n m later less x.1)

one_more : (n m : ℕ) (o : Option Loss) (losses : List Loss) → n ≤ m
    → ((loss : Loss) → o ≡ Some loss → (n < loss.epoch.n) × (loss.epoch.n ≤ m)) → Behind m losses
    → AreInOrder losses → Behind n (cons_option o losses) × AreInOrder (cons_option o losses)
one_more n m None losses less new x order = (behind_less n m losses less x, order)
one_more n m (Some loss) losses less new x order =
    let at = new loss refl in let first = at.0 in (
      (first, behind_less n m losses less x),
      (behind_less loss.epoch.n m losses at.1 x, order),
    )

losses_ascend : (side : Side) (before answers : List Answer) (w new : WorldState)
    → LinesLead side before w answers new
    → Behind w.far.members.epoch (losses_of answers) × AreInOrder (losses_of answers)
losses_ascend side before [] w new x = (tt, tt)
losses_ascend side before (a ∷ after) w new (between, rested, step, rests, rest) =
    let named = handle_named before (name_of a.request) in
    let line = line_rises side a.lane.n named a.request w between a.reply step in
    let back = rests_rise (lines_by a.lane.n (map (λ (later : Answer). later.lane.n) after))
    a.lane.n
    between rested rests in
    let more = losses_ascend side (before ++ a ∷ []) after rested new rest in
    one_more w.far.members.epoch rested.far.members.epoch (told_loss a.request a.reply)
    (losses_of after)
    (omega (arith, line, back))
    (λ loss e. let z = line_new side a.lane.n named a.request w between a.reply loss step e in
    let reached = z.reached in (z.later, omega (arith, reached, back))) more.0 more.1

pub losses_in_order : (side : Side) (answers : List Answer) (w new : WorldState)
    → LinesLead side [] w answers new → AreInOrder (losses_of answers)
losses_in_order side answers w new x = (losses_ascend side [] answers w new x).1
