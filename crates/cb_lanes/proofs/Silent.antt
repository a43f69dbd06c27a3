-- Lines about no object: names without a handle, and turns that leave the map as it is, or lose of
-- it.
use Rattle.std.proofs.Common.{◌≡◌, ℕ, ◌<◌, List, [], ◌∷◌, ◌++◌, Option, None, refl, sym, ap, ◌∙◌}
use Rattle.std.proofs.Common.{subst, arith, fold, if◌then◌else◌}
use Rattle.cb_member.specs.declared.names.NodeId.{NodeId}
use Rattle.cb_types.specs.declared.answer.Answer.{Answer}
use Rattle.cb_types.specs.declared.handle.Handle.{Handle}
use Rattle.cb_types.specs.declared.job.Job.{Job}
use Rattle.cb_types.specs.declared.job.Job.TheVariants as job
use Rattle.cb_types.specs.declared.request.Request.{Request}
use Rattle.cb_types.specs.declared.request.Request.TheVariants.{Make, Read, Write, Free, Pin, Peek}
use Rattle.cb_types.specs.declared.request.Request.TheVariants.{Unpin, Filter, Crash, Join}
use Rattle.cb_types.specs.declared.reply.Reply.{Reply}
use Rattle.cb_types.specs.declared.reply.Reply.TheVariants as answer
use Rattle.cb_types.specs.Table.{IsReplyOf}
use Rattle.cb_model.specs.Event.{event_of, change_of, refusal, subject_of}
use Rattle.cb_model.specs.Event.Subject.{Nothing}
use Rattle.cb_model.specs.Event.Event.{FindsUnmade, Refused}
use Rattle.cb_model.specs.Called.{Called, handle_of, handle_for, called, calls_of, makes, made_by}
use Rattle.cb_model.specs.Called.{value, change_to, is_about}
use Rattle.cb_model.specs.Now.{MapNow, Change, changed}
use Rattle.cb_model.specs.Replies.{MapReplies}
use Rattle.cb_model.proofs.Laws.{value-push, makes-push}
use Rattle.cb_script.specs.declared.script.Line.{Line}
use Rattle.cb_world.specs.declared.shown.Shown.{Shown}
use Rattle.cb_world.specs.FarState.{FarState}
use Rattle.cb_world.specs.Now.{now}
use Rattle.cb_world.specs.World.{WorldState, IsKnown}
use Rattle.cb_mutate.specs.MapCalls.{IsValue}
use Rattle.cb_mutate.specs.MapBeside.{IsMapBeside}
use Rattle.cb_mutate.proofs.Laws.{FollowsMap, beside_kept}
use Rattle.cb_core.specs.Step.{TurnStep}
use Rattle.cb_core.proofs.Laws.{kept_beside, lost_beside, IsQuietJob, crash_turn, join_turn}
use Rattle.cb_core.proofs.Laws.{known_same, IsSameMap}
use Rattle.cb_lanes.specs.Asked.{answer_to, HasLineReply}
use Rattle.cb_lanes.proofs.Turning.{AroundLine, Turning, LineGives, goes_by}

change_none : (c : Called) (k : ℕ) → c.handle ≡ None → change_to k c ≡ []
change_none c k about = ap (λ (o : Option ℕ). if is_about k o then change_of c.event else []) about

-- an answer about no object leaves the map as it was
pub beside_silent : (calls : List Called) (c : Called) (t : Shown) (new : FarState)
    → IsMapBeside calls t new → c.handle ≡ None → made_by c.event ≡ 0
    → IsMapBeside (calls ++ c ∷ []) t new
beside_silent calls c t new map about none = record {
  made = omega (arith, makes-push calls c, none, map.made);
  values = λ k. subst (λ (m : MapNow). IsValue m (now t new k)) (sym (value-push calls c k
      ∙ ap (λ (l : List (ℕ × Change)). fold changed (value calls k) l) (change_none c k about)))
      (map.values k);
}

-- the map answers so, and is beside the world
pub silent_follows : (handles : ℕ) (calls : List Called) (c : Called) (t : Shown)
    (far new : FarState)
    → IsMapBeside calls t new → c.handle ≡ None → made_by c.event ≡ 0
    → MapReplies far.first handles (makes calls) None None c.event
    → FollowsMap handles calls c t far new
silent_follows handles calls c t far new map about none reply = record {
  reply = rw about reply;
  beside = beside_silent calls c t new map about none;
}

-- ---- a name that has no handle

unmade_goes : (answers : List Answer) (l : Line) (request : Request) (w new : WorldState)
    → (c : AroundLine answers w new) → new ≡ w → handle_for answers request answer.Unmade ≡ None
    → event_of request answer.Unmade ≡ FindsUnmade → IsReplyOf request answer.Unmade
    → LineGives answers (answer_to l request answer.Unmade) w new c.then.shown
unmade_goes answers l request w new c same about event line = record {
  follows = silent_follows w.desk.settings.handles (calls_of answers)
      (called answers (answer_to l request answer.Unmade)) c.then.shown w.far new.far
      (beside_kept (calls_of answers) c.before.shown c.then.shown w.far new.far c.beside
      (ap (λ (v : WorldState). v.far.made) same)
      (λ k. ap (λ (v : WorldState). now c.then.shown v.far k) same
      ∙ known_same w.desk w.far c.before.shown c.then.shown k c.before.known
      (subst (λ (v : WorldState). IsKnown v.desk v.far c.then.shown) same c.then.known)))
      about (ap made_by event)
      (subst (MapReplies w.far.first w.desk.settings.handles (makes (calls_of answers)) None None)
      (sym event) tt);
  reply = line;
  first = ap (λ (v : WorldState). v.far.first) same;
  turns = omega (arith, ap (λ (v : WorldState). v.far.counts.turns) same);
}

pub unmade_line : (answers : List Answer) (l : Line) (request : Request) (name : List ℕ) (r : Reply)
    (w new : WorldState) → (c : AroundLine answers w new) → handle_of answers name ≡ None
    → handle_for answers request answer.Unmade ≡ handle_of answers name
    → event_of request answer.Unmade ≡ FindsUnmade → IsReplyOf request answer.Unmade
    → (r ≡ answer.Unmade) × (new ≡ w) → LineGives answers (answer_to l request r) w new c.then.shown
unmade_line answers l request name r w new c none about event line is =
    subst (λ (q : Reply). LineGives answers (answer_to l request q) w new c.then.shown) (sym is.0)
    (unmade_goes answers l request w new c is.1 (about ∙ none) event line)

-- ---- turns about no object

-- a turn that leaves the map beside the world, and tells nothing of it
quiet_goes : (answers : List Answer) (a : Answer) (w new : WorldState) (j : Job) (r : Reply)
    → (c : Turning answers w new) → TurnStep j w r new
    → IsMapBeside (calls_of answers) c.then.shown new.far
    → handle_for answers a.request a.reply ≡ None → event_of a.request a.reply ≡ Refused Nothing
    → HasLineReply a → LineGives answers a w new c.then.shown
quiet_goes answers a w new j r c step map about event reply =
    goes_by answers a w new j r c step
    (silent_follows w.desk.settings.handles (calls_of answers)
    (called answers a) c.then.shown w.far new.far
    map about (ap made_by event)
    (subst (MapReplies w.far.first w.desk.settings.handles (makes (calls_of answers)) None None)
    (sym event)
    tt)) reply

-- a reply that is none of the map's tells nothing of an object
told_nothing : (P : Reply → Type 0)
    → ((handle : Handle) (version : ℕ) → P (answer.Made handle version) → ⊥)
    → ((version : ℕ) → P (answer.Version version) → ⊥)
    → ((version : ℕ) (bytes : List ℕ) → P (answer.Bytes version bytes) → ⊥)
    → ((handles : ℕ) → P (answer.Full handles) → ⊥) → (P answer.Unmade → ⊥) → (P answer.Freed → ⊥)
    → ((len : ℕ) → P (answer.Range len) → ⊥) → (r : Reply) → P r
    → refusal Nothing r ≡ Refused Nothing
told_nothing P m v b f u g l (answer.Made handle version) x = absurd (m handle version x)
told_nothing P m v b f u g l (answer.Version version) x = absurd (v version x)
told_nothing P m v b f u g l (answer.Bytes version bytes) x = absurd (b version bytes x)
told_nothing P m v b f u g l (answer.Full handles) x = absurd (f handles x)
told_nothing P m v b f u g l answer.Unmade x = absurd (u x)
told_nothing P m v b f u g l answer.Freed x = absurd (g x)
told_nothing P m v b f u g l (answer.Range len) x = absurd (l len x)
told_nothing P m v b f u g l r x = refl

-- no line about no object is answered by a reply of the map
pub nothing_told : (request : Request) (r : Reply) → subject_of request ≡ Nothing
    → IsReplyOf request r
    → event_of request r ≡ Refused Nothing
nothing_told (Make name bytes) r about line = absurd cc
nothing_told (Read name) r about line = absurd cc
nothing_told (Write name at bytes) r about line = absurd cc
nothing_told (Free name) r about line = absurd cc
nothing_told (Pin name) r about line = absurd cc
nothing_told (Peek name) r about line = absurd cc
nothing_told (Unpin name) r about line = absurd cc
nothing_told (Filter name) r about line = absurd cc
nothing_told request r about line = told_nothing (IsReplyOf request) (λ h v z. z) (λ v z. z)
    (λ v b z. z)
    (λ n z. z) (λ z. z) (λ z. z) (λ n z. z) r line

-- a turn at which the map stays, by a line that tells nothing of an object
same_goes : (answers : List Answer) (a : Answer) (w new : WorldState) (j : Job) (r : Reply)
    → (c : Turning answers w new) → TurnStep j w r new
    → IsSameMap c.before.shown c.then.shown w.far new.far
    → handle_for answers a.request a.reply ≡ None
    → event_of a.request a.reply ≡ Refused Nothing → HasLineReply a
    → LineGives answers a w new c.then.shown
same_goes answers a w new j r c step same about event reply =
    quiet_goes answers a w new j r c step
    (kept_beside (calls_of answers) c.before.shown c.then.shown w.far new.far c.beside same) about
    event
    reply

-- a turn of a job that leaves the map as it is answers a line about no object as the map does
pub still_goes : (j : Job) (request : Request) → IsQuietJob j request → subject_of request ≡ Nothing
    → ((answers : List Answer) (r : Reply) → handle_for answers request r ≡ None)
    → (answers : List Answer) (l : Line) (r : Reply) (w new : WorldState)
    → (c : Turning answers w new)
    → TurnStep j w r new → LineGives answers (answer_to l request r) w new c.then.shown
still_goes j request turns nothing about answers l r w new c step =
    let z = turns w new r c.before c.then c.few step in
    same_goes answers (answer_to l request r) w new j r c step z.0 (about answers r)
    (nothing_told request r nothing z.1) z.1

pub crash_goes : (answers : List Answer) (l : Line) (node : NodeId) (r : Reply) (w new : WorldState)
    → (c : Turning answers w new) → node.n < w.desk.settings.nodes
    → TurnStep (job.Crash node) w r new → LineGives answers
    (answer_to l (Crash node) r) w new c.then.shown
crash_goes answers l node r w new c below step =
    let z = crash_turn w new node r c.before c.then c.few below step in
    quiet_goes answers (answer_to l (Crash node) r) w new (job.Crash node) r c step
    (lost_beside (calls_of answers) c.before.shown c.then.shown w.far new.far c.beside z.0) refl
    (nothing_told (Crash node) r refl z.1) z.1

pub join_goes : (answers : List Answer) (l : Line) (node : NodeId) (r : Reply) (w new : WorldState)
    → (c : Turning answers w new) → node.n < w.desk.settings.nodes
    → TurnStep (job.Join node) w r new
    → LineGives answers (answer_to l (Join node) r) w new c.then.shown
join_goes answers l node r w new c below step =
    let z = join_turn node w new r c.before c.then c.few step in
    same_goes answers (answer_to l (Join node) r) w new (job.Join node) r c step z.0 refl
    (nothing_told (Join node) r refl z.1) z.1
