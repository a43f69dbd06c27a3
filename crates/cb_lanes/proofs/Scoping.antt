-- What a line leaves of the scope of its lane.
use Rattle.std.proofs.Common.{◌≡◌, ◌≢◌, ℕ, zero, suc, ◌<◌, ◌≤◌, List, length, Option, None, Some}
use Rattle.std.proofs.Common.{refl, sym, ap, ◌∙◌, subst, arith}
use Rattle.std.proofs.lemmas.List.Sums.{get_or-le-sum_by}
use Rattle.cb_ptr.specs.declared.word.State.{State}
use Rattle.cb_ptr.specs.declared.word.State.TheVariants as state
use Rattle.cb_ptr.specs.Word.{pins_of}
use Rattle.cb_types.specs.declared.answer.Answer.{Answer}
use Rattle.cb_types.specs.declared.job.Job.{Job}
use Rattle.cb_types.specs.declared.job.Job.TheVariants as job
use Rattle.cb_types.specs.declared.request.Request.{Request}
use Rattle.cb_types.specs.declared.request.Request.TheVariants.{Make, Read, Write, Free, Pin, Peek}
use Rattle.cb_types.specs.declared.request.Request.TheVariants.{Unpin, Filter, Compact, Leave}
use Rattle.cb_types.specs.declared.reply.Reply.{Reply}
use Rattle.cb_types.specs.declared.reply.Reply.TheVariants as answer
use Rattle.cb_types.specs.Requests.{name_of}
use Rattle.cb_world.specs.Seats.{SeatState, idle_seat, pins_among, pins_of_seat}
use Rattle.cb_world.specs.StillWords.{stamp_at}
use Rattle.cb_world.specs.World.{WorldState, IsSoundWorld, word_at}
use Rattle.cb_core.specs.Jobs.{NeedsNoOrder}
use Rattle.cb_core.specs.Pinning.{PinStep, scope_full, refused, taken, pin_refusal, UnpinStep}
use Rattle.cb_core.specs.Pinning.{not_pinned as unpin_refused, given}
use Rattle.cb_core.specs.declared.event.Event.TheVariants.{Turn}
use Rattle.cb_core.specs.Step.{Step, TurnStep}
use Rattle.cb_core.proofs.Laws.{swap_turn, IsPinCount, write_counts, free_counts, swap_sound}
use Rattle.cb_core.proofs.Laws.{IsSwapRefusal}
use Rattle.cb_lanes.specs.GivingBack.{GivesAll}
use Rattle.cb_lanes.specs.LineStep.{LineStep, PeekStep, not_pinned, shown, PinLine, at_once}
use Rattle.cb_lanes.specs.LineStep.{stays_far, swapped_in}
use Rattle.cb_lanes.specs.declared.side.Side.{Side}
use Rattle.cb_lanes.specs.Scopes.{Scope, without_newest, named_on, scope_after, PinnedSays}
use Rattle.cb_lanes.specs.Scopes.{PeekSays, UnpinSays, ScopeSays}
use Rattle.cb_lanes.proofs.GivingBack.{gives_all, pins_own, pins_other, given_pins}
use Rattle.cb_lanes.proofs.Filtering.{filter_counts}
use Rattle.cb_lanes.proofs.PinLists.{AreHandlesApart, ArePinsOf, pins_length, scope_none}
use Rattle.cb_lanes.proofs.PinLists.{scope_newest, scope_without, scope_count}
use Rattle.cb_lanes.proofs.LineJobs.{line_alone}
use Rattle.cb_lanes.proofs.Lone.{event_seats, turn_alone}
use Rattle.cb_lanes.proofs.Pinning.{in_or_refused}
use Rattle.cb_lanes.proofs.Recounting.{turn_beside}
use Rattle.cb_lanes.proofs.Turning.{Turning, within}

-- The line is answered as its lane's scope says, the seat's pins are then those of the scope after
-- it, and no other seat's pins change.
pub record Scoped (number : List ℕ → Option ℕ) (handle : Option ℕ) (scope : Scope)
    (request : Request)
    (r : Reply) (seat : ℕ) (w new : WorldState) : Type 0 where
  pub says : ScopeSays handle scope request r
  pub pins : ArePinsOf number (scope_after scope request r) (pins_of_seat new.seats seat)
  pub others : (k : ℕ) → k ≢ seat → pins_of_seat new.seats k ≡ pins_of_seat w.seats k

still_scoped : (number : List ℕ → Option ℕ) (handle : Option ℕ) (scope : Scope) (request : Request)
    (r : Reply) (seat : ℕ) (w new : WorldState) → new.seats ≡ w.seats
    → ArePinsOf number scope (pins_of_seat w.seats seat) → scope_after scope request r ≡ scope
    → ScopeSays handle scope request r → Scoped number handle scope request r seat w new
still_scoped number handle scope request r seat w new same are still says = record {
  says = says;
  pins = subst (λ (s : Scope). ArePinsOf number s (pins_of_seat new.seats seat)) (sym still)
      (subst (λ (xs : List SeatState). ArePinsOf number scope (pins_of_seat xs seat))
      (sym same) are);
  others = λ k off. ap (λ (xs : List SeatState). pins_of_seat xs k) same;
}

-- a turn changes no pins
turn_scoped : (number : List ℕ → Option ℕ) (handle : Option ℕ) (scope : Scope) (request : Request)
    (r : Reply) (seat : ℕ) (w new : WorldState) (j : Job) → NeedsNoOrder j
    → Step w (Turn seat j) r new
    → ArePinsOf number scope (pins_of_seat w.seats seat) → scope_after scope request r ≡ scope
    → ScopeSays handle scope request r → Scoped number handle scope request r seat w new
turn_scoped number handle scope request r seat w new j alone step are still says =
    still_scoped number handle scope request r seat w new
    (event_seats seat j w new r alone step) are
    still says

-- a line of which the scope says nothing, and that changes no seat
seats_scoped : (number : List ℕ → Option ℕ) (handle : Option ℕ) (scope : Scope) (request : Request)
    (r : Reply) (seat : ℕ) (w new : WorldState) → new.seats ≡ w.seats
    → ArePinsOf number scope (pins_of_seat w.seats seat) → scope_after scope request r ≡ scope
    → ScopeSays None scope request r → ((h : ℕ) → ScopeSays (Some h) scope request r)
    → Scoped number handle scope request r seat w new
seats_scoped number handle scope request r seat w new same are still none some =
    still_scoped number handle scope request r seat w new same are still (says handle)
  where
    says : (o : Option ℕ) → ScopeSays o scope request r
    says None = none
    says (Some h) = some h

quiet_scoped : (number : List ℕ → Option ℕ) (handle : Option ℕ) (scope : Scope) (request : Request)
    (r : Reply) (seat : ℕ) (w new : WorldState) (j : Job) → NeedsNoOrder j
    → Step w (Turn seat j) r new
    → ArePinsOf number scope (pins_of_seat w.seats seat) → scope_after scope request r ≡ scope
    → ScopeSays None scope request r → ((h : ℕ) → ScopeSays (Some h) scope request r)
    → Scoped number handle scope request r seat w new
quiet_scoped number handle scope request r seat w new j alone step =
    seats_scoped number handle scope request r seat w new (event_seats seat j w new r alone step)

-- ---- an answer that counts pins

-- the pins of a word are those of all seats
own_pins : (w : WorldState) (seat h : ℕ) → IsSoundWorld w → seat < 64 → h < length w.desk.words
    → pins_among h (pins_of_seat w.seats seat) ≤ pins_of (word_at w.desk h)
own_pins w seat h sound lt below =
    let one = get_or-le-sum_by (λ (x : SeatState). pins_among h x.pins) w.seats seat idle_seat
    (omega (arith, lt, sound.pinned.count)) in
    let all = sound.pinned.counted h below in
    omega (arith, one, all)

-- so a lane's own pins on the object are among those that are answered
pinned_says : (number : List ℕ → Option ℕ) → AreHandlesApart number
    → (scope : Scope) (name : List ℕ)
    (h seat : ℕ) (r : Reply) (w : WorldState) → number name ≡ Some h
    → ArePinsOf number scope (pins_of_seat w.seats seat) → IsSoundWorld w → seat < 64
    → h < w.desk.settings.handles
    → ((count : ℕ) → r ≡ answer.Pinned count → IsPinCount (word_at w.desk h) count)
    → PinnedSays (named_on name scope) r
pinned_says number apart scope name h seat r w at_name are sound lt below counts count is =
    let x = counts count is in
    let all = own_pins w seat h sound lt (within w h sound below) in
    let same = scope_count number apart name h at_name scope (pins_of_seat w.seats seat) are in
    (x.some, omega (arith, same, all, x.is))

-- ---- what pins and their ends leave

refusal_not_full : (q : State) (v pins : ℕ) → pin_refusal q v pins ≡ answer.ScopeFull → ⊥
refusal_not_full state.Empty zero pins e = cc
refusal_not_full state.Empty (suc v) pins e = cc
refusal_not_full state.Far v pins e = cc
refusal_not_full state.Moving v pins e = cc
refusal_not_full state.Here v pins e = cc

refusal_keeps : (scope : Scope) (name : List ℕ) (q : State) (v pins : ℕ)
    → scope_after scope (Pin name) (pin_refusal q v pins) ≡ scope
refusal_keeps scope name state.Empty zero pins = refl
refusal_keeps scope name state.Empty (suc v) pins = refl
refusal_keeps scope name state.Far v pins = refl
refusal_keeps scope name state.Moving v pins = refl
refusal_keeps scope name state.Here v pins = refl

module _ (number : List ℕ → Option ℕ) (apart : AreHandlesApart number) (scope : Scope)
    (name : List ℕ) (h seat : ℕ)
    (r : Reply) (w new : WorldState) (sound : IsSoundWorld w) (lt : seat < 64)
    (at_name : number name ≡ Some h) (are : ArePinsOf number scope (pins_of_seat w.seats seat))
  where
    long : length (pins_of_seat w.seats seat) ≡ length scope
    long = pins_length number scope (pins_of_seat w.seats seat) are

    pub pin_scoped : PinStep seat h w r new → Scoped number (Some h) scope (Pin name) r seat w new
    pin_scoped (scope_full full is same) =
        still_scoped number (Some h) scope (Pin name) r seat w new
        (ap (λ (v : WorldState). v.seats) same) are
        (ap (scope_after scope (Pin name)) is) (λ e. sym long ∙ full, λ e. is)
    pin_scoped (refused room never is same) =
        still_scoped number (Some h) scope (Pin name) r seat w new
        (ap (λ (v : WorldState). v.seats) same) are
        (ap (scope_after scope (Pin name)) is ∙ refusal_keeps scope name _ _ _) (
          λ e. absurd (refusal_not_full _ _ _ (sym is ∙ e)),
          λ e. absurd
              (omega (arith, room, long, e)),
        )
    pin_scoped (taken room may is t) = record {
      says = (
        λ e. absurd (let both : answer.Version (stamp_at w.desk h) ≡ answer.ScopeFull = sym is
            ∙ e in cc),
        λ e. absurd (omega (arith, room, long, e)),
      );
      pins = subst (λ (q : Reply). ArePinsOf number (scope_after scope (Pin name) q)
          (pins_of_seat new.seats seat)) (sym is) (
            pins_of_seat w.seats seat,
            record { handle = h; version = stamp_at w.desk h },
            ap (λ (xs : List SeatState). pins_of_seat xs seat) t.pins
                ∙ pins_own w.seats seat _ (omega (arith, lt, sound.pinned.count)),
            record { name = at_name; version = refl },
            are,
          );
      others = λ k off. ap (λ (xs : List SeatState). pins_of_seat xs k) t.pins
          ∙ pins_other w.seats seat k _ off;
    }

    pub peek_scoped : PeekStep seat h w r new
        → Scoped number (Some h) scope (Peek name) r seat w new
    peek_scoped (not_pinned none is same) =
        still_scoped number (Some h) scope (Peek name) r seat w new
        (ap (λ (v : WorldState). v.seats) same) are
        refl (subst (λ (o : Option ℕ). PeekSays o r)
        (sym (scope_none number apart name h at_name scope (pins_of_seat w.seats seat) are none))
        is)
    peek_scoped (shown at newest is same) =
        still_scoped number (Some h) scope (Peek name) r seat w new
        (ap (λ (v : WorldState). v.seats) same) are
        refl (subst (λ (o : Option ℕ). PeekSays o r)
        (sym (scope_newest number apart name h at_name scope
        (pins_of_seat w.seats seat) at are newest)) (_, is))

    pub unpin_scoped : UnpinStep seat h w r new
        → Scoped number (Some h) scope (Unpin name) r seat w new
    unpin_scoped (unpin_refused none is same) =
        still_scoped number (Some h) scope (Unpin name) r seat w new
        (ap (λ (v : WorldState). v.seats) same) are
        (ap (scope_after scope (Unpin name)) is) (subst (λ (o : Option ℕ). UnpinSays o r)
        (sym (scope_none number apart name h at_name scope (pins_of_seat w.seats seat) are none))
        is)
    unpin_scoped (given is t) = record {
      says = subst (λ (o : Option ℕ). UnpinSays o r)
          (sym (scope_newest number apart name h at_name scope
          (pins_of_seat w.seats seat) t.at are t.newest)) is;
      pins = subst (λ (q : Reply). ArePinsOf number (scope_after scope (Unpin name) q)
          (pins_of_seat new.seats seat)) (sym is)
          (subst (ArePinsOf number (without_newest name scope))
          (sym (given_pins w new seat h sound lt t))
          (scope_without number apart name h at_name scope
          (pins_of_seat w.seats seat) t.at are t.newest));
      others = λ k off. ap (λ (xs : List SeatState). pins_of_seat xs k) t.pins
          ∙ pins_other w.seats seat k _ off;
    }

leave_scoped : (number : List ℕ → Option ℕ) (handle : Option ℕ) (scope : Scope) (seat : ℕ)
    (r : Reply)
    (w new : WorldState) → IsSoundWorld w → seat < 64
    → ArePinsOf number scope (pins_of_seat w.seats seat)
    → r ≡ answer.Left (length (pins_of_seat w.seats seat)) → GivesAll seat w new
    → Scoped number handle scope Leave r seat w new
leave_scoped number handle scope seat r w new sound lt are is leads =
    let gave = gives_all seat w new sound lt leads in
    record {
      says = is ∙ ap answer.Left (pins_length number scope (pins_of_seat w.seats seat) are);
      pins = subst (λ (q : Reply). ArePinsOf number (scope_after scope Leave q)
          (pins_of_seat new.seats seat))
          (sym is) gave.1;
      others = gave.0.others;
    }

-- ---- lines

-- a name without a handle
unmade_scoped : (number : List ℕ → Option ℕ) (scope : Scope) (request : Request) (seat : ℕ)
    (r : Reply)
    (w new : WorldState) → ArePinsOf number scope (pins_of_seat w.seats seat) → new ≡ w
    → scope_after scope request r ≡ scope → ScopeSays None scope request r
    → Scoped number None scope request r seat w new
unmade_scoped number scope request seat r w new are same still says =
    still_scoped number None scope request r seat w new
    (ap (λ (v : WorldState). v.seats) same) are still says

-- ---- a pin of an object wherever it is

-- a swap's refusal is no pin, and does not tell that a scope is full
refusal_still : (scope : Scope) (name : List ℕ) (r : Reply) → IsSwapRefusal r
    → scope_after scope (Pin name) r ≡ scope
refusal_still scope name answer.Unmade z = refl
refusal_still scope name answer.Freed z = refl
refusal_still scope name answer.Moving z = refl
refusal_still scope name (answer.Unavailable id l) z = refl
refusal_still scope name (answer.NoRoom frames loose nodes) z = refl
refusal_still scope name r z = absurd z

swap_not_full : (r : Reply) → IsSwapRefusal r → r ≡ answer.ScopeFull → ⊥
swap_not_full r z e = absurd (subst IsSwapRefusal e z)

pin_line_scoped : (answers : List Answer) (number : List ℕ
    → Option ℕ) (apart : AreHandlesApart number)
    (scope : Scope) (name : List ℕ) (h seat : ℕ) (r : Reply) (w new : WorldState)
    → (c : Turning answers w new) → seat < 64 → h < w.desk.settings.handles → number name ≡ Some h
    → ArePinsOf number scope (pins_of_seat w.seats seat) → PinLine seat h w r new
    → Scoped number (Some h) scope (Pin name) r seat w new
pin_line_scoped answers number apart scope name h seat r w new c lt below at_name are
    (at_once pin never) =
    pin_scoped number apart scope name h seat r w new c.before lt at_name are pin
pin_line_scoped answers number apart scope name h seat r w new c lt below at_name are
    (stays_far away swap off) =
    let j = job.Swap (record { n = h }) in
    let goes = turn_alone seat j w new r tt c.lone swap in
    let refusal = in_or_refused new.desk h r
    (swap_turn w new h r c.before c.then c.few below goes).ends off in
    let room = away.room in
    let long = pins_length number scope (pins_of_seat w.seats seat) are in
    still_scoped number (Some h) scope (Pin name) r seat w new
    (event_seats seat j w new r tt swap) are
    (refusal_still scope name r refusal)
    (λ e. absurd (swap_not_full r refusal e), λ e. absurd (omega (arith, room, long, e)))
pin_line_scoped answers number apart scope name h seat r w new c lt below at_name are
    (swapped_in m q away swap is again) =
    let j = job.Swap (record { n = h }) in
    let seats = event_seats seat j w m q tt swap in
    let z = pin_scoped number apart scope name h seat r m new
    (swap_sound w m h q c.before (turn_alone seat j w m q tt c.lone swap)) lt at_name
    (subst (λ (xs : List SeatState). ArePinsOf number scope (pins_of_seat xs seat)) (sym seats) are)
    again in
    record {
      says = z.says;
      pins = z.pins;
      others = λ k off. z.others k off ∙ ap (λ (xs : List SeatState). pins_of_seat xs k) seats;
    }

pub line_scoped : (side : Side) (answers : List Answer) (request : Request) (r : Reply)
    (w new : WorldState)
    (handle : Option ℕ) (number : List ℕ → Option ℕ) (scope : Scope) (seat : ℕ)
    → (c : Turning answers w new)
    → seat < 64 → AreHandlesApart number
    → ((name : List ℕ) → name_of request ≡ Some name → number name ≡ handle)
    → ((h : ℕ) → handle ≡ Some h → h < w.desk.settings.handles)
    → ArePinsOf number scope (pins_of_seat w.seats seat) → LineStep side seat handle request w r new
    → Scoped number handle scope request r seat w new
line_scoped side answers (Make name bytes) r w new handle number scope seat c lt apart named ready
    are step =
    quiet_scoped number handle scope (Make name bytes) r seat w new
    (job.Make bytes) tt step are refl tt (λ h. tt)
line_scoped side answers Leave r w new handle number scope seat c lt apart named ready are step =
    leave_scoped number handle scope seat r w new c.before lt are step.0 step.1
line_scoped side answers (Read name) r w new None number scope seat c lt apart named ready are
    step =
    unmade_scoped number scope (Read name) seat r w new are step.1 refl tt
line_scoped side answers (Read name) r w new
    (Some h) number scope seat c lt apart named ready are step =
    turn_scoped number (Some h) scope (Read name) r seat w new
    (job.Read (record { n = h })) tt step are refl tt
line_scoped side answers (Write name at bytes) r w new None number scope seat c lt apart named ready
    are step =
    unmade_scoped number scope (Write name at bytes) seat r w new are step.1 refl tt
line_scoped side answers (Write name at bytes) r w new
    (Some h) number scope seat c lt apart named ready are step =
    let j = job.Write (record { n = h }) at bytes in
    turn_scoped number (Some h) scope (Write name at bytes) r seat w new j tt step are refl
    (pinned_says number apart scope name h seat r w (named name refl) are c.before lt (ready h refl)
    (λ count is. write_counts w new h at bytes count c.before c.few
    (subst (λ (q : Reply). TurnStep j w q new) is (turn_alone seat j w new r tt c.lone step))))
line_scoped side answers (Free name) r w new None number scope seat c lt apart named ready are
    step =
    unmade_scoped number scope (Free name) seat r w new are step.1 refl tt
line_scoped side answers (Free name) r w new
    (Some h) number scope seat c lt apart named ready are step =
    let j = job.Free (record { n = h }) in
    turn_scoped number (Some h) scope (Free name) r seat w new j tt step are refl
    (pinned_says number apart scope name h seat r w (named name refl) are c.before lt (ready h refl)
    (λ count is. free_counts w new h count c.before c.few
    (subst (λ (q : Reply). TurnStep j w q new) is (turn_alone seat j w new r tt c.lone step))))
line_scoped side answers (Filter name) r w new None number scope seat c lt apart named ready are
    step =
    unmade_scoped number scope (Filter name) seat r w new are step.1 refl tt
line_scoped side answers (Filter name) r w new
    (Some h) number scope seat c lt apart named ready are step =
    let j = job.Filter (record { n = h }) in
    turn_scoped number (Some h) scope (Filter name) r seat w new j tt step are refl
    (pinned_says number apart scope name h seat r w (named name refl) are c.before lt (ready h refl)
    (λ count is. filter_counts w new h count c.few
    (subst (λ (q : Reply). TurnStep j w q new) is (turn_alone seat j w new r tt c.lone step))))
line_scoped side answers (Pin name) r w new None number scope seat c lt apart named ready are step =
    unmade_scoped number scope (Pin name) seat r w new are step.1
    (ap (scope_after scope (Pin name)) step.0)
    step.0
line_scoped side answers (Pin name) r w new
    (Some h) number scope seat c lt apart named ready are step =
    pin_line_scoped answers number apart scope name h seat r w new c lt (ready h refl)
    (named name refl) are step
line_scoped side answers (Peek name) r w new None number scope seat c lt apart named ready are
    step =
    unmade_scoped number scope (Peek name) seat r w new are step.1 refl step.0
line_scoped side answers (Peek name) r w new
    (Some h) number scope seat c lt apart named ready are step =
    peek_scoped number apart scope name h seat r w new c.before lt (named name refl) are step
line_scoped side answers (Unpin name) r w new None number scope seat c lt apart named ready are
    step =
    unmade_scoped number scope (Unpin name) seat r w new are step.1
    (ap (scope_after scope (Unpin name)) step.0) step.0
line_scoped side answers (Unpin name) r w new
    (Some h) number scope seat c lt apart named ready are step =
    unpin_scoped number apart scope name h seat r w new c.before lt (named name refl) are step
line_scoped side answers Compact r w new handle number scope seat c lt apart named ready are step =
    let z = turn_beside job.Compact side seat w new r step in
    seats_scoped number handle scope Compact r seat w new
    (z.counts.seats ∙ event_seats seat job.Compact w z.mid r tt z.step) are refl tt (λ h. tt)
line_scoped side answers request r w new handle number scope seat c lt apart named ready are step =
    quiet_scoped number handle scope request r seat w new _
    (line_alone request _ refl) step are refl tt
    (λ h. tt)
