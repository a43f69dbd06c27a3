-- Worked turns at a seat: what meets each definition, and what breaks one of its parts alone.
use Rattle.std.proofs.Common.{◌≡◌, ℕ, suc, ◌+◌, ◌<◌, List, [], ◌∷◌, ◌++◌, length, append-nil}
use Rattle.std.proofs.Common.{append_assoc, Option, None, Some, Ok, refl, sym, ap, ◌∙◌, subst, inl, inr, true}
use Rattle.std.proofs.Common.{true≢false, lit<, lit≤, arith}
use Rattle.std.proofs.lemmas.Bool.{eqb-false}
use Rattle.cb_types.specs.declared.job.Job.TheVariants as job
use Rattle.cb_types.specs.declared.order.Kept.{Kept}
use Rattle.cb_types.specs.declared.reply.Reply.TheVariants as answer
use Rattle.cb_world.specs.declared.entry.Entry.{Entry}
use Rattle.cb_world.specs.declared.access.Access.{Access}
use Rattle.cb_world.specs.declared.shown.Shown.{Shown}
use Rattle.cb_world.specs.Empty.{empty_shown}
use Rattle.cb_world.specs.FarState.{FarState}
use Rattle.cb_world.specs.Orders.{LeavesOrders}
use Rattle.cb_world.specs.Played.{Agree}
use Rattle.cb_world.specs.Written.{entry}
use Rattle.cb_core.specs.Turned.{done, worn}
use Rattle.cb_core.specs.TurnLeaves.{IsOneTurnOn}
use Rattle.cb_rule.specs.declared.turn.Turn.{Turn}
use Rattle.cb_rule.specs.declared.view.Seen.{Seen}
use Rattle.cb_rule.specs.declared.view.View.{View}
use Rattle.cb_rule.specs.Lists.{times, Each}
use Rattle.cb_rule.specs.Locking.{Stood}
use Rattle.cb_rule.specs.Seats.{pins_it}
use Rattle.cb_rule.specs.Slot.{Sat}
use Rattle.cb_rule.specs.Steps.{AreNew, act, acted, freed_seen}
use Rattle.cb_record.specs.Parts.{grown, nothing_more}
use Rattle.cb_shared.specs.SeatLaws.{acted_known}
use Rattle.cb_shared.specs.Seats.{SeatAt, record_at}
use Rattle.cb_shared.specs.Turning.{DidAs, DidBy}
use Rattle.cb_shared.specs.UnderLock.{TurnAtSeat, TurnWith, WorkBy}
use Rattle.cb_shared.proofs.DidAlone.{did_alone}
use Rattle.cb_shared.proofs.WorkedGround.{a_stand, made, not_new, two}
use Rattle.cb_shared.proofs.WorkedSeat.{Has, gives_back, refusing, seat, tells, tells_nine}
use Rattle.cb_shared.proofs.WorkedUnder.{far, known, last, stood}

-- no turn of this reply, and no far state that is the next one
not_done : (o k : Option Kept) (s : Shown) (es : List Access) (gave : FarState)
    → DidBy two job.Evict o (Some answer.Done) k s es (far last) gave → ⊥
not_done o k s es gave did =
    by (did_alone two job.Evict o (Some answer.Done) k s es (far last) gave tt did)
  where
    by : DidAs two job.Evict (Some answer.Done) s es (far last) gave → ⊥
    by (worn end is same ran) = absurd cc
    by (done few does) = omega (arith, few)

-- every order stays kept where nothing changed
stays : (s t : Shown) → t ≡ s → LeavesOrders s (far last) t (far last)
stays s t is = subst (λ (k : Shown). LeavesOrders s (far last) k (far last)) (sym is) (λ o kept. kept)

not_next : IsOneTurnOn (far last) (far 3) → ⊥
not_next (inl few) = let n = few.0 in omega (arith, n)
not_next (inr same) = eqb-false 3 last refl (ap (λ (f : FarState). f.counts.turns) same.1)

-- ---- the work of a turn that was refused for its number
abbrev Works : FarState → SeatAt → SeatAt → Type 0
Works gave p q = TurnAtSeat two job.Evict (Ok answer.Worn) None (far last) gave p q

module _ (p q : SeatAt) where
  works : Has p refusing [] → q.table_id ≡ p.table_id → q.id ≡ p.id → q.me ≡ p.me
      → Works (far last) p q
  works at table id me = record {
    events = [];
    more = [];
    runs = ((table, id, me), tt, tt, tt);
    did = inl (worn refl refl refl (refl, tt), sym (ap (λ (m : Sat). m.0.order) at));
    next = inr (refl, refl);
    wrote = refl;
    fresh = ap (λ (m : Sat). m.0.fresh) (me ∙ at);
    stood = subst (λ (m : Sat). Stood two m.0.known (far last)) (sym (me ∙ at)) (stood last (lit≤ tt));
    leaves = stays (record_at p).known (record_at q).known (ap (λ (m : Sat). m.0.known) me);
    own = tt;
  }

  works_elsewhere : (q.table_id ≡ p.table_id → ⊥) → Works (far last) p q → ⊥
  works_elsewhere n w = n w.runs.0.0

  works_to_another_end : TurnAtSeat two job.Evict (Ok answer.Done) None (far last) (far last) p q → ⊥
  works_to_another_end w = not_done _ _ _ _ _ w.did

  works_uncounted : Works (far 3) p q → ⊥
  works_uncounted w = not_next w.next

  works_and_writes : (record_at q).fresh ≡ made ∷ [] → Works (far last) p q → ⊥
  works_and_writes is w = eqb-false 1 0 refl (ap length (sym is ∙ w.fresh ∙ w.wrote))

  works_unsoundly : (record_at q).known ≡ empty_shown 4 two → Works (far last) p q → ⊥
  works_unsoundly is w = eqb-false 4 3 refl
      (ap (λ (s : Shown). s.first) (sym is) ∙ w.stood.sound.here.known.first)

-- ---- with the read under a pin beside it
-- events leave all of the record but what is known, what they are and what they write
acts_keep : {A : Type 0} → (f : View → A) → ((e : Access) (v : View) → f (act e v) ≡ f v) → (es : List Access)
    (v : View) → f (acted es v) ≡ f v
acts_keep f one [] v = refl
acts_keep f one (e ∷ es) v = acts_keep f one es (act e v) ∙ one e v

acts_are : (es : List Access) (v : View) → (acted es v).acts ≡ v.acts ++ es
acts_are [] v = sym (append-nil v.acts)
acts_are (e ∷ es) v = acts_are es (act e v) ∙ append_assoc v.acts (e ∷ []) es

-- the first that was read is in range
abbrev first_read : List Seen → ℕ
first_read [] = 0
first_read (s ∷ ss) = s.handle

in_range : (ss : List Seen) → Each (λ (s : Seen). s.handle < 2) ss → first_read (ss ++ []) < 2
in_range [] each = lit< tt
in_range (s ∷ ss) each = each.0

abbrev WorksBy : FarState → SeatAt → SeatAt → Type 0
WorksBy gave p q = WorkBy two job.Evict (Ok answer.Worn) None (far last) gave p q

module _ (p q : SeatAt) where
  works_by : Has p refusing [] → q.table_id ≡ p.table_id → q.id ≡ p.id → Has q refusing []
      → WorksBy (far last) p q
  works_by at table id me = record {
    events = [];
    more = [];
    within = nothing_more;
    agree = tt;
    moves = (table, id, me ∙ ap (λ (m : Sat). seat (grown nothing_more m.0) m.1) (sym at));
    quiet = (refl, refl);
    range = tt;
    reads = λ u same. refl;
    did = inl (worn refl refl refl (refl, tt), sym (ap (λ (m : Sat). m.0.order) at));
    next = inr (refl, refl);
    wrote = refl;
    fresh = ap (λ (m : Sat). m.0.fresh) at;
    new = tt;
    pins = tt;
    stood = subst (λ (m : Sat). Stood two m.0.known (far last)) (sym at) (stood last (lit≤ tt));
    leaves = λ o kept. kept;
    own = tt;
  }

  by_untrue_events : (record_at p).acts ≡ [] → (record_at p).known ≡ known
      → (record_at q).acts ≡ tells 9
      → WorksBy (far last) p q → ⊥
  by_untrue_events none at is w =
      let e : w.events ≡ tells 9 = sym (acts_are w.events (record_at p)
      ∙ ap (λ (es : List Access). es ++ w.events) none) ∙ sym (ap (λ (m : Sat). m.0.acts) w.moves.2) ∙ is in
      tells_nine (subst (λ (es : List Access). Agree known es) e
      (subst (λ (s : Shown). Agree s w.events) at w.agree))

  by_elsewhere : (q.id ≡ p.id → ⊥) → WorksBy (far last) p q → ⊥
  by_elsewhere n w = n w.moves.1

  -- a turn or an entry within, a freed entry of an object out of range, and a pin of a job that is no
  -- read
  by_two_turns : (t : Turn) → (record_at p).turns ≡ [] → (record_at q).turns ≡ t ∷ []
      → WorksBy (far last) p q → ⊥
  by_two_turns t none is w = eqb-false 1 0 refl (ap length (sym is ∙ ap (λ (m : Sat). m.0.turns) w.moves.2
      ∙ ap (λ (ts : List Turn). ts ++ (acted w.events (record_at p)).turns) w.quiet.1
      ∙ acts_keep (λ v. v.turns) (λ e v. refl) w.events (record_at p) ∙ none))

  by_two_entries : (record_at p).written ≡ [] → (record_at q).written ≡ made ∷ []
      → WorksBy (far last) p q → ⊥
  by_two_entries none is w =
      eqb-false 1 0 refl (ap length (sym is ∙ ap (λ (m : Sat). m.0.written) w.moves.2
      ∙ ap (λ (es : List Entry). es ++ (acted w.events (record_at p)).written) w.quiet.0
      ∙ acts_keep (λ v. v.written) (λ e v. refl) w.events (record_at p) ∙ none))

  by_far_reads : (record_at p).seen ≡ [] → (record_at q).seen ≡ freed_seen 2 4 ∷ []
      → WorksBy (far last) p q → ⊥
  by_far_reads none is w =
      let e : 2 ≡ first_read (w.within.seen ++ []) = ap first_read (sym is ∙ ap (λ (m : Sat). m.0.seen) w.moves.2
      ∙ ap (λ (ss : List Seen). w.within.seen ++ ss)
      (acts_keep (λ v. v.seen) (λ e v. refl) w.events (record_at p) ∙ none)) in
      let low = in_range w.within.seen w.range in omega (arith, e, low)

  by_a_pin : (record_at p).ever ≡ 0 → (record_at q).ever ≡ 1 → WorksBy (far last) p q → ⊥
  by_a_pin none is w =
      let e : 1 ≡ (acted w.events (record_at p)).ever + w.within.ever =
      sym is ∙ ap (λ (m : Sat). m.0.ever) w.moves.2 in
      let f = acts_keep (λ v. v.ever) (λ e v. refl) w.events (record_at p) in
      let g = ap (λ d. d.ever) (w.reads (record_at p) (refl, refl, refl, refl, refl)) in
      omega (arith, e, f, g, none)

  -- a free at a version that the record has
  by_an_old_version : (record_at p).written ≡ made ∷ []
      → WorkBy two (job.Free record { n = 1 }) (Ok (answer.Version 3)) None (far 1) (far 2) p q
      → ⊥
  by_an_old_version is w = not_new (record_at p) is
      (subst (λ (l : List Entry). AreNew l (record_at p)) w.wrote.1 w.new).0

  -- one of an object that the pass has pinned
  by_a_pinned_one : (record_at p).pins ≡ a_stand ∷ []
      → WorkBy two (job.Free record { n = 1 }) (Ok (answer.Version 4)) None (far 1) (far 2) p q
      → ⊥
  by_a_pinned_one is w = eqb-false 1 0 refl (sym (ap (times (pins_it 1)) is) ∙ w.pins)

  by_another_end : WorkBy two job.Evict (Ok answer.Done) None (far last) (far last) p q → ⊥
  by_another_end w = not_done _ _ _ _ _ w.did

  by_no_count : WorksBy (far 3) p q → ⊥
  by_no_count w = not_next w.next

  by_an_entry : (record_at q).fresh ≡ made ∷ [] → WorksBy (far last) p q → ⊥
  by_an_entry is w = eqb-false 1 0 refl (ap length (sym is ∙ ap (λ (m : Sat). m.0.fresh) w.moves.2
      ∙ w.fresh ∙ w.wrote))

  by_unsound_words : (record_at q).known ≡ empty_shown 4 two → WorksBy (far last) p q → ⊥
  by_unsound_words is w = eqb-false 4 3 refl (ap (λ (s : Shown). s.first) (sym is
      ∙ ap (λ (m : Sat). m.0.known) w.moves.2 ∙ acted_known w.events (record_at p))
      ∙ w.stood.sound.here.known.first)

-- ---- and to its end, with the lock given back
abbrev first_acts : List Turn → List Access
first_acts [] = []
first_acts (t ∷ ts) = t.acts

abbrev first_gave : List Turn → FarState
first_gave [] = far last
first_gave (t ∷ ts) = t.gave

abbrev Turns : SeatAt → SeatAt → Type 0
Turns p q = TurnWith two job.Evict (Ok answer.Worn) None (far last) p q

module _ (p q : SeatAt) where
  turns : Has p refusing [] → q.table_id ≡ p.table_id → q.id ≡ p.id → Has q (gives_back refusing) []
      → Turns p q
  turns at table id me = record {
    gave = far last;
    events = [];
    more = [];
    within = nothing_more;
    entries = 0;
    agree = tt;
    at = (
      table,
      id,
      me ∙ ap (λ (m : Sat). seat (gives_back (grown nothing_more m.0)) []) (sym at),
    );
    below = subst (λ (m : Sat). Each (λ (e : Entry). e.handle < 2) m.0.written) (sym at) (lit< tt, tt);
    quiet = (refl, refl);
    range = tt;
    reads = λ u same. refl;
    did = inl (worn refl refl refl (refl, tt), sym (ap (λ (m : Sat). m.0.order) at));
    next = inr (refl, refl);
    wrote = refl;
    fresh = ap (λ (m : Sat). m.0.fresh) at;
    new = tt;
    pins = tt;
  }

  turns_untrue : (record_at p).acts ≡ [] → (record_at p).known ≡ known
      → first_acts (record_at q).turns ≡ tells 9
      → Turns p q → ⊥
  turns_untrue none at is t =
      let e : t.events ≡ tells 9 = sym (acts_are t.events (record_at p)
      ∙ ap (λ (es : List Access). es ++ t.events) none)
      ∙ sym (ap (λ (m : Sat). first_acts m.0.turns) t.at.2) ∙ is in
      tells_nine (subst (λ (es : List Access). Agree known es) e
      (subst (λ (s : Shown). Agree s t.events) at t.agree))

  turns_elsewhere : (q.table_id ≡ p.table_id → ⊥) → Turns p q → ⊥
  turns_elsewhere n t = n t.at.0

  turns_and_holds : (record_at q).holds ≡ true → Turns p q → ⊥
  turns_and_holds is t = true≢false (sym is ∙ ap (λ (m : Sat). m.0.holds) t.at.2)

  turns_out_of_range : (record_at p).written ≡ entry 2 3 8 [] [] ∷ [] → Turns p q → ⊥
  turns_out_of_range is t =
      let low : Each (λ (e : Entry). e.handle < 2) ([] ++ entry 2 3 8 [] [] ∷ []) =
      subst (λ (es : List Entry). Each (λ (e : Entry). e.handle < 2) ([] ++ es)) is
      (subst (λ (es : List Entry). Each (λ (e : Entry). e.handle < 2) (es ++ (record_at p).written))
      t.wrote t.below) in
      let below = low.0 in omega (arith, below)

  -- two turns, a freed entry of an object out of range, and a pin of a job that is no read
  turns_twice : (a b : Turn) → (record_at p).turns ≡ [] → (record_at q).turns ≡ a ∷ b ∷ []
      → Turns p q → ⊥
  turns_twice a b none is t = eqb-false 2 1 refl (ap length (sym is) ∙ ap (λ (m : Sat). length m.0.turns) t.at.2
      ∙ ap (λ (ts : List Turn). suc (length ts))
      (ap (λ (ts : List Turn). ts ++ (acted t.events (record_at p)).turns)
      t.quiet.1 ∙ acts_keep (λ v. v.turns) (λ e v. refl) t.events (record_at p) ∙ none))

  turns_and_reads : (record_at p).seen ≡ [] → (record_at q).seen ≡ freed_seen 2 4 ∷ []
      → Turns p q → ⊥
  turns_and_reads none is t =
      let e : 2 ≡ first_read (t.within.seen ++ []) = ap first_read (sym is ∙ ap (λ (m : Sat). m.0.seen) t.at.2
      ∙ ap (λ (ss : List Seen). t.within.seen ++ ss)
      (acts_keep (λ v. v.seen) (λ e v. refl) t.events (record_at p) ∙ none)) in
      let low = in_range t.within.seen t.range in omega (arith, e, low)

  turns_and_pins : (record_at p).ever ≡ 0 → (record_at q).ever ≡ 1 → Turns p q → ⊥
  turns_and_pins none is t =
      let e : 1 ≡ (acted t.events (record_at p)).ever + t.within.ever =
      sym is ∙ ap (λ (m : Sat). m.0.ever) t.at.2 in
      let f = acts_keep (λ v. v.ever) (λ e v. refl) t.events (record_at p) in
      let g = ap (λ d. d.ever) (t.reads (record_at p) (refl, refl, refl, refl, refl)) in
      omega (arith, e, f, g, none)

  turns_to_an_old_version : (record_at p).written ≡ made ∷ []
      → TurnWith two (job.Free record { n = 1 }) (Ok (answer.Version 3)) None (far 1) p q → ⊥
  turns_to_an_old_version is t =
      not_new (record_at p) is
      (subst (λ (l : List Entry). AreNew l (record_at p)) t.wrote.1 t.new).0

  turns_a_pinned_one : (record_at p).pins ≡ a_stand ∷ []
      → TurnWith two (job.Free record { n = 1 }) (Ok (answer.Version 4)) None (far 1) p q → ⊥
  turns_a_pinned_one is t = eqb-false 1 0 refl (sym (ap (times (pins_it 1)) is) ∙ t.pins)

  turns_to_another_end : TurnWith two job.Evict (Ok answer.Done) None (far last) p q → ⊥
  turns_to_another_end t = not_done _ _ _ _ _ t.did

  turns_uncounted : first_gave (record_at q).turns ≡ far 3 → Turns p q → ⊥
  turns_uncounted is t = not_next (subst (λ (f : FarState). IsOneTurnOn (far last) f)
      (sym (ap (λ (m : Sat). first_gave m.0.turns) t.at.2) ∙ is) t.next)

  turns_and_writes : (record_at p).written ≡ [] → (record_at q).written ≡ made ∷ [] → Turns p q → ⊥
  turns_and_writes none is t = eqb-false 1 0 refl (ap length (sym is ∙ ap (λ (m : Sat). m.0.written) t.at.2
      ∙ ap (λ (es : List Entry). es ++ (t.within.written ++ (acted t.events (record_at p)).written))
      (t.fresh ∙ t.wrote)
      ∙ ap (λ (es : List Entry). es ++ (acted t.events (record_at p)).written) t.quiet.0
      ∙ acts_keep (λ v. v.written) (λ e v. refl) t.events (record_at p) ∙ none))
