-- A turn of the job Read, in its two parts.
use Rattle.std.proofs.Common.{◌≡◌, ℕ, zero, suc, ◌≤◌, length, List, [], None, Some, Result, Ok, Err}
use Rattle.std.proofs.Common.{Option, sym, refl, ap, ◌∙◌, subst, inl, inr, ◌++◌}
use Rattle.std.specs.Prelude.{IfOk}
use Rattle.cb_member.specs.declared.no_memory.NoMemory.{NoMemory}
use Rattle.cb_ptr.specs.declared.word.State.{State}
use Rattle.cb_ptr.specs.declared.word.State.TheVariants as state
use Rattle.cb_ptr.specs.Word.{state_of}
use Rattle.cb_types.specs.declared.config.Config.{Config}
use Rattle.cb_types.specs.declared.handle.Handle.{Handle}
use Rattle.cb_types.specs.declared.job.Job.{Job}
use Rattle.cb_types.specs.declared.order.Kept.{Kept}
use Rattle.cb_types.specs.declared.job.Job.TheVariants.{Read}
use Rattle.cb_types.specs.declared.reply.Reply.{Reply}
use Rattle.cb_types.specs.declared.reply.Reply.TheVariants as answer
use Rattle.cb_world.specs.declared.entry.Entry.{Entry}
use Rattle.cb_world.specs.declared.access.Access.{Access}
use Rattle.cb_world.specs.declared.shown.Shown.{Shown}
use Rattle.cb_world.specs.FarState.{FarState}
use Rattle.cb_world.specs.Looks.{IsFound}
use Rattle.cb_world.specs.Orders.{KeepsOrder, LeavesOrders}
use Rattle.cb_world.specs.Played.{Agree, played}
use Rattle.cb_mutate.specs.Answered.{AnsweredAs}
use Rattle.cb_core.specs.Jobs.{NeedsNoOrder}
use Rattle.cb_core.specs.OnceHere.{IsThere}
use Rattle.cb_core.specs.Unavailable.{TurnTells}
use Rattle.cb_core.proofs.Laws.{IsNever, brought_tells, there_tells}
use Rattle.cb_core.specs.OnceHere.OnceHere.{away, here}
use Rattle.cb_core.specs.OnceHere.OnceHereStops.{bringing_stops, call_stops}
use Rattle.cb_core.specs.Parts.{Holding}
use Rattle.cb_core.specs.Parts.BringsIn.{not_far, was_far}
use Rattle.cb_core.specs.ReadTurn.{BroughtToRead}
use Rattle.cb_core.specs.ReadTurn.BroughtToRead.{worn as first_worn, done as first_done}
use Rattle.cb_core.specs.Turned.{ComesIn, done, worn}
use Rattle.cb_core.specs.TurnLeaves.{OutcomeWrites}
use Rattle.cb_rule.specs.declared.view.View.{View}
use Rattle.cb_rule.specs.Locking.{Stood}
use Rattle.cb_rule.specs.Slot.{Sat}
use Rattle.cb_rule.specs.Steps.{AreNew, Knows, acted}
use Rattle.cb_record.specs.Parts.{Part, grown, nothing_more}
use Rattle.cb_shared.specs.SeatLaws.{Runs, acted_fresh, acted_is, acted_known, fresh_new}
use Rattle.cb_shared.specs.Seats.{SeatAt, record_at}
use Rattle.cb_shared.specs.Turning.{CountsPins}
use Rattle.cb_shared.specs.Turning.{DidAs, IsReadReply, JobReads, Slate, TellsNoPin, Tries}
use Rattle.cb_shared.specs.Turning.{answer_of, slate_run, slate_shows}
use Rattle.cb_shared.specs.UnderLock.{BringAt, BroughtForRead, CameThere, HasSame, IsNoRead}
use Rattle.cb_shared.specs.UnderLock.{TriesOn, TurnAtSeat, WorkBy}
use Rattle.cb_shared.proofs.AfterTurn.{after_runs}
use Rattle.cb_shared.proofs.Bringing.{bring_gives}
use Rattle.cb_shared.proofs.DidAlone.{did_alone}
use Rattle.cb_shared.proofs.PinsCounted.{counts_pins}
use Rattle.cb_shared.proofs.ReadParts.{grown_nothing}
use Rattle.cb_shared.proofs.Turns.{order_left}

-- ---- The first part tells neither of bytes nor of many pins, and of a word that is Moving where it
-- found it so.
absent_plain : (r : Reply) (q : State) (w h : ℕ) (es acts : List Access) → acts ≡ es
    → IsFound h w es → state_of w ≡ q → AnsweredAs q (λ v. r ≡ answer.Stays) w h es r
    → TellsNoPin h acts (Ok r)
absent_plain r state.Empty w h es acts same found at (zero, told, is) =
    subst (λ (x : Reply). TellsNoPin h acts (Ok x)) (sym is) tt
absent_plain r state.Empty w h es acts same found at (suc v, told, is) =
    subst (λ (x : Reply). TellsNoPin h acts (Ok x)) (sym is) tt
absent_plain r state.Far w h es acts same found at is =
    subst (λ (x : Reply). TellsNoPin h acts (Ok x)) (sym is) tt
absent_plain r state.Here w h es acts same found at is =
    subst (λ (x : Reply). TellsNoPin h acts (Ok x)) (sym is) tt
absent_plain r state.Moving w h es acts same found at is =
    subst (λ (x : Reply). TellsNoPin h acts (Ok x)) (sym is)
    (w, subst (IsFound h w) (sym same) found, at)

come_plain : (c : Config) (h : ℕ) (a b : Holding Slate) (r : Reply) → a.desk.acts ≡ []
    → ComesIn slate_run slate_shows c h a r b → TellsNoPin h b.desk.acts (Ok r)
come_plain c h a b r idle (not_far x off) = let z = x.rule.1 in
    absent_plain r (state_of z.word) z.word h x.events b.desk.acts
    (ap (λ (d : Slate). d.acts) x.ran.0 ∙ ap (λ (es : List Access). es ++ x.events) idle)
    z.found refl z.answer
come_plain c h a b r idle (was_far m x bring) =
    bring_gives (λ (q : Reply). TellsNoPin h b.desk.acts (Ok q))
    (λ id losses. tt) tt (λ f. tt) (λ frames loose nodes. tt) c h m b r bring

first_plain : (c : Config) (handle : Handle) (a b : Holding Slate) (r : Reply) → a.desk.acts ≡ []
    → BroughtToRead slate_run slate_shows c handle a r b → TellsNoPin handle.n b.desk.acts (Ok r)
first_plain c handle a b r idle (first_worn end is same ran) =
    subst (λ (q : Reply). TellsNoPin handle.n b.desk.acts (Ok q)) (sym is) tt
first_plain c handle a b r idle (first_done few come) = come_plain c handle.n _ b r idle come

-- ---- what the turn did
no_worn_there : (r : Reply) → r ≡ answer.Worn → IsThere r → ⊥
no_worn_there r is (inl stays) = worn_stays (sym is ∙ stays)
  where
    worn_stays : answer.Worn ≡ answer.Stays → ⊥
    worn_stays e = cc
no_worn_there r is (inr swapped) = worn_swapped swapped.0 (sym is ∙ swapped.1)
  where
    worn_swapped : (f : ℕ) → answer.Worn ≡ answer.Swapped f → ⊥
    worn_swapped f e = cc

-- the object stays away
did_away : (c : Config) (handle : Handle) (r : Reply) (start : Shown) (es : List Access)
    (took gave : FarState) → BroughtForRead c handle (Ok r) start es took gave → (IsThere r → ⊥)
    → DidAs c (Read handle) (Some r) start es took gave
did_away c handle r start es took gave (first_worn end is same ran) off = worn end is same ran
did_away c handle r start es took gave (first_done few come) off = done few (away come off)

did_stop : (c : Config) (handle : Handle) (e : NoMemory) (start : Shown) (es : List Access)
    (took gave : FarState) → BroughtForRead c handle (Err e) start es took gave
    → DidAs c (Read handle) None start es took gave
did_stop c handle e start es took gave x = record { few = x.few; stops = bringing_stops x.stops }

tries_reply : (h : ℕ) (r : Reply) (v : View) (d : Part) → Tries h (Ok r) v d → IsReadReply r
tries_reply h (answer.Bytes version bytes) v d x = tt
tries_reply h answer.Freed v d x = tt
tries_reply h answer.Moving v d x = tt
tries_reply h answer.Crowded v d x = tt
tries_reply h other v d x = absurd x

-- it is here, and is read
did_read : (c : Config) (handle : Handle) (place : Reply) (r : Result Reply NoMemory) (v : View)
    (d : Part) (start : Shown) (es : List Access) (took gave : FarState)
    → BroughtForRead c handle (Ok place) start es took gave → IsThere place → Tries handle.n r v d
    → DidAs c (Read handle) (answer_of r) start es took gave
did_read c handle place r v d start es took gave (first_worn end is same ran) there x =
    absurd (no_worn_there place is there)
did_read c handle place (Ok r) v d start es took gave (first_done few come) there x =
    done few (here _ place come there (refl, tries_reply handle.n r v d x))
did_read c handle place (Err e) v d start es took gave (first_done few come) there x =
    record { few = few; stops = call_stops _ place come there refl }

-- ---- the work of such a turn
module _ (c : Config) (handle : Handle) (took gave : FarState) (p m : SeatAt) (place : Reply)
    (b : BringAt c handle (Ok place) took gave p m) where
  came : record_at m ≡ acted b.events (record_at p)
  came = ap (λ (s : Sat). s.0) b.runs.0.2

  fresh_acted : (acted b.events (record_at p)).fresh ≡ []
  fresh_acted = ap (λ (x : View). x.fresh) (sym came) ∙ b.fresh

  stood_acted : Stood c (played b.events (record_at p).known) gave
  stood_acted = subst (λ (s : Shown). Stood c s gave)
      (ap (λ (x : View). x.known) came ∙ acted_known b.events (record_at p)) b.stood

  leaves_acted : LeavesOrders (record_at p).known took (played b.events (record_at p).known) gave
  leaves_acted = subst (λ (s : Shown). LeavesOrders (record_at p).known took s gave)
      (ap (λ (x : View). x.known) came ∙ acted_known b.events (record_at p)) b.leaves

  kept_acted : KeepsOrder (record_at p).known took (record_at p).order
      → KeepsOrder (played b.events (record_at p).known) gave (record_at p).order
  kept_acted kept = order_left (record_at p).known took (played b.events (record_at p).known) gave
      (record_at p).order leaves_acted kept

  work_off : KeepsOrder (record_at p).known took (record_at p).order → (IsThere place → ⊥)
      → WorkBy c (Read handle) (Ok place) (record_at p).order took gave p m
  work_off kept off = record {
    events = b.events;
    more = [];
    within = nothing_more;
    agree = b.runs.1;
    moves = (
      b.runs.0.0,
      b.runs.0.1,
      b.runs.0.2 ∙ ap (λ (x : View). let z : Sat = (x, p.me.1) in z)
          (grown_nothing (acted b.events (record_at p))),
    );
    quiet = (refl, refl);
    range = tt;
    reads = λ u same. inl (refl, first_plain c handle _ _ place refl b.brought);
    did = inl (did_away c handle place (record_at p).known b.events took gave b.brought off, refl);
    next = b.next;
    wrote = refl;
    fresh = fresh_acted;
    new = tt;
    pins = tt;
    stood = stood_acted;
    leaves = leaves_acted;
    own = kept_acted kept;
  }

  -- the seat has what it had when the turn began
  same_come : (record_at p).fresh ≡ [] → HasSame (record_at p) (record_at m)
  same_come none = let e = came ∙ acted_is b.events (record_at p) in (
    none ∙ sym b.fresh,
    sym (ap (λ (x : View). x.written) e),
    sym (ap (λ (x : View). x.seen) e),
    sym (ap (λ (x : View). x.share) e),
    sym (ap (λ (x : View). x.own) e),
  )

  work_here : (q : SeatAt) (r : Result Reply NoMemory)
      → KeepsOrder (record_at p).known took (record_at p).order → (record_at p).fresh ≡ []
      → IsThere place → TriesOn c handle.n r m q
      → WorkBy c (Read handle) r (record_at p).order took gave p q
  work_here q r kept none there (d, moves, quiet, range, tries) =
      let s = same_come none in record {
        events = b.events;
        more = [];
        within = d;
        agree = b.runs.1;
        moves = (
          moves.0 ∙ b.runs.0.0,
          moves.1 ∙ b.runs.0.1,
          moves.2 ∙ ap (λ (x : Sat). let z : Sat = (grown d x.0, x.1) in z) b.runs.0.2,
        );
        quiet = quiet;
        range = range;
        reads = λ u same. inr (tries u (
          same.0 ∙ s.0,
          same.1 ∙ s.1,
          same.2 ∙ s.2,
          same.3 ∙ s.3,
          same.4 ∙ s.4,
        ));
        did = inl (
          did_read c handle place r (record_at m) d (record_at p).known b.events took gave
              b.brought there (tries (record_at m) (refl, refl, refl, refl, refl)),
          refl,
        );
        next = b.next;
        wrote = wrote_none r;
        fresh = fresh_acted;
        new = tt;
        pins = tt;
        stood = stood_acted;
        leaves = leaves_acted;
        own = kept_acted kept;
      }
    where
      wrote_none : (r : Result Reply NoMemory) → OutcomeWrites (Read handle) r []
      wrote_none (Ok reply) = refl
      wrote_none (Err e) = refl

-- where there was no memory to bring it in
work_stopped : (c : Config) (handle : Handle) (e : NoMemory) (took gave : FarState) (p m : SeatAt)
    → KeepsOrder (record_at p).known took (record_at p).order → BringAt c handle (Err e) took gave p m
    → WorkBy c (Read handle) (Err e) (record_at p).order took gave p m
work_stopped c handle e took gave p m kept b =
    let came : record_at m ≡ acted b.events (record_at p) = ap (λ (s : Sat). s.0) b.runs.0.2 in
    let leaves : LeavesOrders (record_at p).known took (played b.events (record_at p).known) gave =
    subst (λ (s : Shown). LeavesOrders (record_at p).known took s gave)
    (ap (λ (x : View). x.known) came ∙ acted_known b.events (record_at p)) b.leaves in
    record {
      events = b.events;
      more = [];
      within = nothing_more;
      agree = b.runs.1;
      moves = (
        b.runs.0.0,
        b.runs.0.1,
        b.runs.0.2 ∙ ap (λ (x : View). let z : Sat = (x, p.me.1) in z)
            (grown_nothing (acted b.events (record_at p))),
      );
      quiet = (refl, refl);
      range = tt;
      reads = λ u same. inl (refl, tt);
      did = inl (did_stop c handle e (record_at p).known b.events took gave b.brought, refl);
      next = b.next;
      wrote = refl;
      fresh = ap (λ (x : View). x.fresh) (sym came) ∙ b.fresh;
      new = tt;
      pins = tt;
      stood = subst (λ (s : Shown). Stood c s gave)
          (ap (λ (x : View). x.known) came ∙ acted_known b.events (record_at p)) b.stood;
      leaves = leaves;
      own = order_left (record_at p).known took (played b.events (record_at p).known) gave
          (record_at p).order leaves kept;
    }

-- by the answer of the first part
pub work_away : (c : Config) (handle : Handle) (r : Result Reply NoMemory) (took gave : FarState)
    (p m : SeatAt) → KeepsOrder (record_at p).known took (record_at p).order
    → BringAt c handle r took gave p m → (CameThere r → ⊥)
    → WorkBy c (Read handle) r (record_at p).order took gave p m
work_away c handle (Ok place) took gave p m kept b off =
    work_off c handle took gave p m place b kept off
work_away c handle (Err e) took gave p m kept b off = work_stopped c handle e took gave p m kept b

pub work_read : (c : Config) (handle : Handle) (place r : Result Reply NoMemory)
    (took gave : FarState) (p m q : SeatAt) → KeepsOrder (record_at p).known took (record_at p).order
    → BringAt c handle place took gave p m
    → (record_at p).fresh ≡ [] → CameThere place → TriesOn c handle.n r m q
    → WorkBy c (Read handle) r (record_at p).order took gave p q
work_read c handle (Ok place) r took gave p m q kept b none there tries =
    work_here c handle took gave p m place b q r kept none there tries
work_read c handle (Err e) r took gave p m q kept b none there tries = absurd there

-- ---- what it tells
slate_follows : (d e : Slate) (es : List Access) (s : Shown) → slate_run d es e → slate_shows d s
    → Agree s es × slate_shows e (played es s)
slate_follows d e es s run shown = (
  subst (λ (t : Shown). Agree t es) (sym shown) run.1,
  ap (played es) shown ∙ sym (ap (λ (x : Slate). x.known) run.0),
)

pub tells_away : (c : Config) (handle : Handle) (r : Result Reply NoMemory) (took gave : FarState)
    (p m : SeatAt) → BringAt c handle r took gave p m → Stood c (record_at p).known took
    → IfOk r (λ reply. TurnTells (Read handle) took reply)
tells_away c handle (Ok r) took gave p m b stood = brought_tells slate_run slate_shows slate_follows c
    handle _ _ r ((record_at p).known, refl, stood.sound) b.brought
tells_away c handle (Err e) took gave p m b stood = tt

read_tells_none : (r : Reply) → IsReadReply r → IsNever r
read_tells_none r is id losses e = subst IsReadReply e is

pub tells_read : (c : Config) (handle : Handle) (place r : Result Reply NoMemory)
    (took gave : FarState) (p m q : SeatAt) → BringAt c handle place took gave p m
    → Stood c (record_at p).known took → CameThere place → TriesOn c handle.n r m q
    → IfOk r (λ reply. TurnTells (Read handle) took reply)
tells_read c handle (Ok place) (Ok r) took gave p m q b stood there (d, moves, quiet, range, tries) =
    there_tells slate_run slate_shows slate_follows c handle _ _ place r
    ((record_at p).known, refl, stood.sound) b.brought there (read_tells_none r
    (tries_reply handle.n r (record_at m) d (tries (record_at m) (refl, refl, refl, refl, refl))))
tells_read c handle (Ok place) (Err e) took gave p m q b stood there tries = tt
tells_read c handle (Err e) (Ok r) took gave p m q b stood there tries = absurd there
tells_read c handle (Err e) (Err f) took gave p m q b stood there tries = tt

pub no_frame_read : (c : Config) (h : ℕ) (r : Result Reply NoMemory) (m q : SeatAt)
    → TriesOn c h r m q
    → IfOk r (λ reply. reply ≡ answer.NoFrame → ⊥)
no_frame_read c h (Ok r) m q (d, moves, quiet, range, tries) = λ e. subst IsReadReply e
    (tries_reply h r (record_at m) d (tries (record_at m) (refl, refl, refl, refl, refl)))
no_frame_read c h (Err e) m q tries = tt

-- the seat knows and pins what it did
pub knows_come : (h : ℕ) (p m : SeatAt) (es : List Access) → Runs p es m → Knows h (record_at p)
    → Knows h (record_at m)
knows_come h p m es runs knows = subst (Knows h) (sym (after_runs p m es runs)) knows

pub few_come : (p m : SeatAt) (es : List Access) → Runs p es m → length (record_at p).pins ≤ 16
    → length (record_at m).pins ≤ 16
few_come p m es runs few = subst (λ (v : View). length v.pins ≤ 16)
    (sym (after_runs p m es runs)) few

-- ---- any other job
pub work_with : (c : Config) (job : Job) (r : Result Reply NoMemory) (keeps : Option Kept)
    (took gave : FarState) (p q : SeatAt) → IsNoRead job → (record_at p).fresh ≡ []
    → CountsPins job r (record_at p) → TurnAtSeat c job r keeps took gave p q
    → WorkBy c job r keeps took gave p q
work_with c job r keeps took gave p q other none pins t =
    let came : record_at q ≡ acted t.events (record_at p) = ap (λ (s : Sat). s.0) t.runs.0.2 in
    let fresh : (acted t.events (record_at p)).fresh ≡ t.more =
    ap (λ (x : View). x.fresh) (sym came) ∙ t.fresh in record {
      events = t.events;
      more = t.more;
      within = nothing_more;
      agree = t.runs.1;
      moves = (
        t.runs.0.0,
        t.runs.0.1,
        t.runs.0.2 ∙ ap (λ (x : View). let z : Sat = (x, p.me.1) in z)
            (grown_nothing (acted t.events (record_at p))),
      );
      quiet = (refl, refl);
      range = tt;
      reads = λ u same. reads_none job other r u;
      did = t.did;
      next = t.next;
      wrote = t.wrote;
      fresh = fresh;
      new = subst (λ (l : List Entry). AreNew l (record_at p)) fresh
          (fresh_new p q t.events none t.runs);
      pins = pins;
      stood = subst (λ (s : Shown). Stood c s gave)
          (ap (λ (x : View). x.known) came ∙ acted_known t.events (record_at p)) t.stood;
      leaves = subst (λ (s : Shown). LeavesOrders (record_at p).known took s gave)
          (ap (λ (x : View). x.known) came ∙ acted_known t.events (record_at p)) t.leaves;
      own = subst (λ (s : Shown). KeepsOrder s gave keeps)
          (ap (λ (x : View). x.known) came ∙ acted_known t.events (record_at p)) t.own;
    }
  where
    reads_none : (job : Job) → IsNoRead job → (r : Result Reply NoMemory) (u : View)
        → JobReads job t.events r u nothing_more
    reads_none (Read handle) never r u = absurd never
    reads_none job never r u = refl

-- so one that needs no order
pub work_done : (c : Config) (job : Job) (r : Result Reply NoMemory) (took gave : FarState)
    (p q : SeatAt) → IsNoRead job → NeedsNoOrder job → (record_at p).fresh ≡ []
    → TurnAtSeat c job r (record_at p).order took gave p q
    → WorkBy c job r (record_at p).order took gave p q
work_done c job r took gave p q other alone none t =
    work_with c job r (record_at p).order took gave p q other none
    (counts_pins c job r t.events t.more took gave (record_at p)
    (did_alone c job (record_at p).order (answer_of r) (record_at p).order (record_at p).known
    t.events took gave alone t.did) t.runs.3 t.wrote
    (sym (acted_fresh t.events (record_at p))
    ∙ ap (λ (x : View). x.fresh) (sym (ap (λ (s : Sat). s.0) t.runs.0.2)) ∙ t.fresh)) t
