-- A line on the world is answered as the map beside it answers it.
use Rattle.std.proofs.Common.{◌≡◌, ℕ, ◌<◌, List, [], ◌∷◌, None, Some, refl, ap, inl, inr}
use Rattle.cb_types.specs.declared.answer.Answer.{Answer}
use Rattle.cb_types.specs.declared.job.Job.TheVariants as job
use Rattle.cb_types.specs.declared.request.Request.TheVariants.{Make, Read, Write, Free, Filter}
use Rattle.cb_types.specs.declared.reply.Reply.{Reply}
use Rattle.cb_types.specs.declared.reply.Reply.TheVariants as answer
use Rattle.cb_types.specs.Table.{IsReplyOf}
use Rattle.cb_model.specs.Event.{event_of, change_of}
use Rattle.cb_model.specs.Now.{Change}
use Rattle.cb_model.specs.Now.Change.{Create}
use Rattle.cb_model.specs.Called.{handle_of, handle_for}
use Rattle.cb_script.specs.declared.script.Line.{Line}
use Rattle.cb_world.specs.World.{WorldState}
use Rattle.cb_mutate.specs.MapCalls.{IsMakeCall}
use Rattle.cb_core.specs.Step.{TurnStep}
use Rattle.cb_core.proofs.Laws.{read_turn, write_turn, free_turn, make_turn, filter_turn}
use Rattle.cb_lanes.specs.Asked.{answer_to}
use Rattle.cb_lanes.proofs.Turning.{Turning, LineGives, call_goes, refused_goes}

-- ---- calls on objects

pub read_goes : (answers : List Answer) (l : Line) (name : List ℕ) (h : ℕ) (r : Reply)
    (w new : WorldState)
    → (c : Turning answers w new) → h < w.desk.settings.handles → handle_of answers name ≡ Some h
    → TurnStep (job.Read (record { n = h })) w r new
    → LineGives answers (answer_to l (Read name) r) w new c.then.shown
read_goes answers l name h r w new c below named step =
    let z = read_turn w new h name r c.before c.then c.few below step in
    call_goes answers (answer_to l (Read name) r) w new
    (job.Read (record { n = h })) r h c step z.call named
    z.line

pub write_goes : (answers : List Answer) (l : Line) (name : List ℕ) (at : ℕ) (bytes : List ℕ)
    (h : ℕ)
    (r : Reply) (w new : WorldState) → (c : Turning answers w new) → h < w.desk.settings.handles
    → handle_of answers name ≡ Some h → TurnStep (job.Write (record { n = h }) at bytes) w r new
    → LineGives answers (answer_to l (Write name at bytes) r) w new c.then.shown
write_goes answers l name at bytes h r w new c below named step =
    let z = write_turn w new h at bytes name r c.before c.then c.few below step in
    call_goes answers (answer_to l (Write name at bytes) r) w new
    (job.Write (record { n = h }) at bytes) r h
    c step z.call named z.line

pub free_goes : (answers : List Answer) (l : Line) (name : List ℕ) (h : ℕ) (r : Reply)
    (w new : WorldState)
    → (c : Turning answers w new) → h < w.desk.settings.handles → handle_of answers name ≡ Some h
    → TurnStep (job.Free (record { n = h })) w r new
    → LineGives answers (answer_to l (Free name) r) w new c.then.shown
free_goes answers l name h r w new c below named step =
    let z = free_turn w new h name r c.before c.then c.few below step in
    call_goes answers (answer_to l (Free name) r) w new
    (job.Free (record { n = h })) r h c step z.call named
    z.line

pub filter_goes : (answers : List Answer) (l : Line) (name : List ℕ) (h : ℕ) (r : Reply)
    (w new : WorldState)
    → (c : Turning answers w new) → h < w.desk.settings.handles → handle_of answers name ≡ Some h
    → TurnStep (job.Filter (record { n = h })) w r new
    → LineGives answers (answer_to l (Filter name) r) w new c.then.shown
filter_goes answers l name h r w new c below named step =
    let z = filter_turn w new h r c.before c.then c.few below step in
    call_goes answers (answer_to l (Filter name) r) w new (job.Filter (record { n = h })) r h c step
    (z.call name) named (z.line name)

-- ---- makes

-- a make that changed nothing was given no handle
no_handle : (answers : List Answer) (name bytes : List ℕ) (r : Reply)
    → IsReplyOf (Make name bytes) r
    → change_of (event_of (Make name bytes) r) ≡ [] → handle_for answers (Make name bytes) r ≡ None
no_handle answers name bytes (answer.Made handle version) line silent = absurd (one silent)
  where
    one : ◌≡◌ {A = List (ℕ × Change)} ((version, Create bytes) ∷ []) [] → ⊥
    one e = cc
no_handle answers name bytes (answer.Full handles) line silent = refl
no_handle answers name bytes (answer.NoRoom frames loose nodes) line silent = refl
no_handle answers name bytes answer.Worn line silent = refl
no_handle answers name bytes r line silent = absurd line

pub make_goes : (answers : List Answer) (l : Line) (name bytes : List ℕ) (r : Reply)
    (w new : WorldState)
    → (c : Turning answers w new) → TurnStep (job.Make bytes) w r new
    → LineGives answers (answer_to l (Make name bytes) r) w new c.then.shown
make_goes answers l name bytes r w new c step =
    let z = make_turn w new bytes name r c.before c.then c.few step in by z.line z.call
  where
    by : IsReplyOf (Make name bytes) r
        → IsMakeCall w.desk.settings.handles c.before.shown c.then.shown w.far new.far
        (Make name bytes) r
        → LineGives answers (answer_to l (Make name bytes) r) w new c.then.shown
    by line (inl (h, v, is, call)) =
        call_goes answers (answer_to l (Make name bytes) r) w new (job.Make bytes) r h.n c step call
        (ap (handle_for answers (Make name bytes)) is) line
    by line (inr call) =
        refused_goes answers (answer_to l (Make name bytes) r) w new (job.Make bytes) r c step call
        (no_handle answers name bytes r line call.silent) line
