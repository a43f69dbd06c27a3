-- What a line leaves that found no memory: looks and turns alone.
use Rattle.std.proofs.Common.{◌≡◌, ℕ, List, [], ◌∷◌, ◌++◌, Option, Result, Ok, Err, sym, refl}
use Rattle.std.proofs.Common.{ap, ◌∙◌, subst, inl, inr}
use Rattle.std.specs.Result.{OnErr}
use Rattle.std.proofs.lemmas.Result.{on_err_weaker}
use Rattle.cb_member.specs.declared.no_memory.NoMemory.{NoMemory}
use Rattle.cb_types.specs.declared.config.Config.{Config}
use Rattle.cb_types.specs.declared.handle.Handle.{Handle}
use Rattle.cb_types.specs.declared.job.Job.{Job}
use Rattle.cb_types.specs.declared.job.Job.TheVariants as job
use Rattle.cb_types.specs.declared.order.Kept.{Kept}
use Rattle.cb_types.specs.declared.reply.Reply.{Reply}
use Rattle.cb_types.specs.declared.reply.Reply.TheVariants as answer
use Rattle.cb_types.specs.declared.request.Request.{Request}
use Rattle.cb_ptr.specs.declared.word.State.TheVariants as state
use Rattle.cb_ptr.specs.Word.{state_of}
use Rattle.cb_rule.specs.declared.turn.Turn.{Turn}
use Rattle.cb_rule.specs.declared.view.Look.{Look}
use Rattle.cb_rule.specs.declared.view.View.{View}
use Rattle.cb_rule.specs.Steps.{look_at, with_look}
use Rattle.cb_record.specs.Deeds.{deed, happened}
use Rattle.cb_record.specs.Parts.{Grows, Part, grown, nothing_more}
use Rattle.cb_shared.specs.Calls.{AtNone, AtThis, Brings, IsInVain, IsReadJob, IsWriteJob, OfThis}
use Rattle.cb_shared.specs.Calls.{StopsBy}
use Rattle.cb_shared.specs.Joining.{unpinned_all}
use Rattle.cb_shared.specs.Pinning.{LooksOnce}
use Rattle.cb_shared.specs.Turning.{TurnBy}
use Rattle.cb_shared.proofs.Laws.{GoesIdly, grown_nothing, grown_sum, look_part, stops_idle}
use Rattle.cb_shared.proofs.Laws.{turn_idle}
use Rattle.cb_lanes.specs.LineGoes.{Ask, Calls, Leaves, Peeks, Pins, Unpins}
use Rattle.cb_lanes.specs.LaneStops.{AddsIdly, NextStops}
use Rattle.cb_lanes.specs.Stopping.{AskStops, BringsNot, CallStops, LineStops, PinStops, Stops}
use Rattle.cb_lanes.specs.Stopping.{asked_or_not, stops_in}
use Rattle.cb_lanes.specs.declared.body.Named.{Named}
use Rattle.cb_lanes.specs.declared.passing.Passing.{Passing}
use Rattle.cb_script.specs.declared.script.Line.{Line}
use Rattle.cb_types.specs.declared.answer.Answer.{Answer}
use Rattle.cb_lanes.proofs.ByAsk.{by_ask, line_less}
use Rattle.cb_lanes.proofs.ByPass.{goes_by, line_by}
use Rattle.cb_lanes.proofs.Lists.{each_both}

-- ---- what holds of an error
pub err_always : {T E : Type 0} (r : Result T E) (P : Type 0) → P → OnErr r P
err_always (Ok x) P p = tt
err_always (Err e) P p = p

-- ---- a call
pub call_stops : (c : Config) (j k : Job) (v w : View) (result : Result Reply NoMemory) → j ≡ k
    → OnErr result (CallStops c k v w) → OnErr result (CallStops c j v w)
call_stops c j k v w result is x =
    subst (λ (z : Job). OnErr result (CallStops c z v w)) (sym is) x

pub other_stops : (c : Config) (j : Job) (v w : View) (result : Result Reply NoMemory)
    → ((bytes : List ℕ) → j ≡ job.Make bytes → ⊥) → ((h : Handle) → j ≡ job.Read h → ⊥)
    → ((h : Handle) (at : ℕ) (bytes : List ℕ) → j ≡ job.Write h at bytes → ⊥)
    → ((h : Handle) → j ≡ job.Free h → ⊥) → TurnBy c j result v w
    → OnErr result (CallStops c j v w)
other_stops c j v w (Ok q) m r k f x = tt
other_stops c (job.Make bytes) v w (Err e) m r k f x = absurd (m bytes refl)
other_stops c (job.Read h) v w (Err e) m r k f x = absurd (r h refl)
other_stops c (job.Write h at bytes) v w (Err e) m r k f x = absurd (k h at bytes refl)
other_stops c (job.Free h) v w (Err e) m r k f x = absurd (f h refl)
other_stops c j v w (Err e) m r k f x = (e, x)

-- ---- a pin
pub brings_not : {T : Type 0} (c : Config) (h : ℕ) (v m w : View) (result : Result T NoMemory)
    → LooksOnce h v m (λ n. state_of n ≡ state.Far)
    → OnErr result (StopsBy c AtNone (Brings h) m w) → OnErr result (BringsNot c h v w)
brings_not c h v m w result (n, far, left) x = on_err_weaker result (λ lacks. record {
  word = n;
  away = far;
  lacks = subst (λ (z : View). StopsBy c AtNone (Brings h) z w) left lacks;
}) x

-- ---- a line of a lane with more beside its record is one of the record
abbrev the_record : Passing → View
the_record a = a.pass.seat.me.0

abbrev pub stops_by : Config → Stops Passing
stops_by c ask a b = stops_in c ask (the_record a) (the_record b)

ask_stopped : (c : Config) (ask : Ask) (a b : Passing) → AskStops (stops_by c) ask a b
    → AskStops (stops_in c) ask (the_record a) (the_record b)
ask_stopped c ask a b (inl e) = inl (ap the_record e)
ask_stopped c ask a b (inr x) = inr x

pub line_stopped : (c : Config) (h : Option ℕ) (q : Request) (a b : Passing)
    → LineStops (stops_by c) h q a b → LineStops (stops_in c) h q (the_record a) (the_record b)
line_stopped c h q a b x = line_by (asked_or_not (stops_in c)) the_record h q a answer.Unmade b
    (line_less (asked_or_not (stops_by c)) (goes_by (asked_or_not (stops_in c)) the_record) a b
    answer.Unmade (λ ask y. ask_stopped c ask a b y) h q x)

-- ---- looks and turns alone
abbrev idle_part : List Look → List Turn → Part
idle_part looks turns = record nothing_more { looks = looks; turns = turns }

pub idle_none : (v : View) → AddsIdly v v
idle_none v = record { looks = []; turns = []; idle = tt; grows = grown_nothing v }

idle_same : (v w : View) → w ≡ v → AddsIdly v w
idle_same v w is = subst (AddsIdly v) (sym is) (idle_none v)

idle_both : (v m w : View) → AddsIdly v m → AddsIdly m w → AddsIdly v w
idle_both v m w x y = record {
  looks = y.looks ++ x.looks;
  turns = y.turns ++ x.turns;
  idle = each_both (λ (t : Turn). happened (deed t) ≡ []) y.turns x.turns y.idle x.idle;
  grows = y.grows ∙ ap (grown (idle_part y.looks y.turns)) x.grows
      ∙ grown_sum (idle_part x.looks x.turns) (idle_part y.looks y.turns) v;
}

idle_vain : {o : Option Kept} (on : ℕ → Type 0) (vain : Turn → Type 0) (d : Part) (v w : View)
    → IsInVain o on vain d
    → Grows v d w → AddsIdly v w
idle_vain on vain d v w x grew = record {
  looks = x.looks;
  turns = x.turns;
  idle = x.idle;
  grows = grew ∙ ap (λ (e : Part). grown e v) x.part;
}

idle_goes : (v w : View) → GoesIdly v w → AddsIdly v w
idle_goes v w (d, x, grew) = idle_vain _ _ d v w x grew

idle_stops : (c : Config) (on : ℕ → Type 0) (may : Job → Type 0) (v w : View)
    → StopsBy c on may v w → AddsIdly v w
idle_stops c on may v w x = idle_goes v w (stops_idle c on may v w x)

-- ---- what is asked of a pass
idle_call : (c : Config) (j : Job) (v w : View) → CallStops c j v w → AddsIdly v w
idle_call c (job.Make bytes) v w x = idle_stops c AtNone (OfThis (job.Make bytes)) v w x
idle_call c (job.Read h) v w x = idle_stops c (AtThis h.n) (IsReadJob h.n) v w x
idle_call c (job.Write h at bytes) v w x =
    idle_stops c (AtThis h.n) (IsWriteJob h.n at bytes) v w x
idle_call c (job.Free h) v w x = idle_stops c AtNone (OfThis (job.Free h)) v w x
idle_call c j v w x = idle_goes v w (turn_idle c j v w x)

idle_look : (h word : ℕ) (v : View) → AddsIdly v (with_look h word v)
idle_look h word v = record {
  looks = look_at h word ∷ [];
  turns = [];
  idle = tt;
  grows = look_part h word v;
}

pub idle_pin : (c : Config) (h : ℕ) (v w : View) → PinStops c h v w → AddsIdly v w
idle_pin c h v w x = idle_both v x.between w
    (idle_vain (AtThis h) _ x.in_vain.0 v x.between x.in_vain.1 x.in_vain.2)
    (idle_both x.between (with_look h x.lacks.word x.between) w (idle_look h x.lacks.word x.between)
    (idle_stops c AtNone (Brings h) (with_look h x.lacks.word x.between) w x.lacks.lacks))

idle_ask : (c : Config) (ask : Ask) (v w : View) → stops_in c ask v w → AddsIdly v w
idle_ask c (Calls j) v w x = idle_call c j v w x
idle_ask c (Pins h) v w x = idle_pin c h v w x.0
idle_ask c (Peeks h) v w x = idle_same v w x
idle_ask c (Unpins h) v w x = absurd x
idle_ask c Leaves v w x = absurd x

idle_asked : (c : Config) (ask : Ask) (v w : View) → AskStops (stops_in c) ask v w → AddsIdly v w
idle_asked c ask v w (inl e) = idle_same v w e
idle_asked c ask v w (inr x) = idle_ask c ask v w x

-- ---- a line, and the one behind those that were answered
pub idle_line : (c : Config) (h : Option ℕ) (q : Request) (v w : View)
    → LineStops (stops_in c) h q v w → AddsIdly v w
idle_line c h q v w x = by_ask (asked_or_not (stops_in c)) v w answer.Unmade (AddsIdly v w)
    (λ ask y. idle_asked c ask v w y) (λ _ e. idle_same v w e) h q x

pub idle_next : (c : Config) (names : List Named) (lines : List Line) (answers : List Answer)
    (v w : View) → NextStops c names lines answers v w → AddsIdly v w
idle_next c names lines answers v w (inl e) = idle_same v w e
idle_next c names lines answers v w (inr x) = idle_line c _ x.0.request v w x.3

-- also once the pins were given back
pub idle_unpinned : (v w : View) → AddsIdly v w → AddsIdly (unpinned_all v) (unpinned_all w)
idle_unpinned v w x = record {
  looks = x.looks;
  turns = x.turns;
  idle = x.idle;
  grows = ap unpinned_all x.grows;
}
