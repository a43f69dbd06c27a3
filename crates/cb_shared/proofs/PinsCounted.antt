-- A write, a free or a filter by a turn tells of its object: its reply is by the word that was found
-- last, and each word that was found tells of the pins and of the last entry.
use Rattle.std.proofs.Common.{◌≡◌, ◌≢◌, ℕ, zero, suc, ◌+◌, ◌-◌, ◌^◌, ◌≤◌, Bool, true, false, List}
use Rattle.std.proofs.Common.{[], ◌∷◌, ◌++◌, length, Option, None, Some, Result, Ok, Err, sym, ap}
use Rattle.std.proofs.Common.{◌∙◌, subst, inl, inr, arith, refl, append_assoc}
use Rattle.std.specs.Prelude.{nat_lt, ◌==◌, if◌then◌else◌}
use Rattle.cb_member.specs.declared.no_memory.NoMemory.{NoMemory}
use Rattle.cb_ptr.specs.declared.word.State.{State}
use Rattle.cb_ptr.specs.declared.word.State.TheVariants as state
use Rattle.cb_ptr.specs.Word.{state_of, len_of, pins_of}
use Rattle.cb_types.specs.declared.config.Config.{Config}
use Rattle.cb_types.specs.declared.handle.Handle.{Handle}
use Rattle.cb_types.specs.declared.job.Job.{Job}
use Rattle.cb_types.specs.declared.job.Job.TheVariants.{Filter, Free, Write}
use Rattle.cb_types.specs.declared.reply.Reply.{Reply}
use Rattle.cb_types.specs.declared.reply.Reply.TheVariants as answer
use Rattle.cb_world.specs.declared.entry.Entry.{Entry}
use Rattle.cb_world.specs.declared.access.Access.{Access}
use Rattle.cb_world.specs.declared.access.Access.TheVariants.{Looked, Claimed}
use Rattle.cb_world.specs.FarState.{FarState}
use Rattle.cb_world.specs.Looks.{IsFound, IsLook}
use Rattle.cb_world.specs.Played.{played}
use Rattle.cb_world.specs.Written.{written_by}
use Rattle.cb_filter.specs.FilterRule.{FilterAs}
use Rattle.cb_mutate.specs.Answered.{AbsentAs, AnsweredAs}
use Rattle.cb_mutate.specs.FreeRule.{FreeAs}
use Rattle.cb_mutate.specs.JobWrites.{FreeWrites, WriteWrites}
use Rattle.cb_mutate.specs.WriteRule.{NextVersion, WriteHere}
use Rattle.cb_core.specs.Parts.{Holding, WhereItIs, near, declined, stays_far, brought}
use Rattle.cb_core.specs.TurnLeaves.{OutcomeWrites}
use Rattle.cb_core.specs.Turned.{Brings, Declines, Filters, Frees, IsDeclined, Turned, WritesObject}
use Rattle.cb_core.specs.Turned.{done, worn}
use Rattle.cb_rule.specs.declared.view.View.{View}
use Rattle.cb_rule.specs.Seats.{pins_on}
use Rattle.cb_rule.specs.Steps.{HasLast, TellsPins, act, acted}
use Rattle.cb_shared.specs.SeatLaws.{SayPins, SaysPins, acted_append, acted_is, after_events}
use Rattle.cb_shared.specs.SeatLaws.{say_behind, still_unwritten}
use Rattle.cb_shared.specs.Turning.{CountsPins, DidAs, PinsTold, ReadsByPin, Slate, answer_of}
use Rattle.cb_shared.specs.Turning.{held_by, slate_run, slate_shows}
use Rattle.cb_shared.proofs.Bringing.{bring_gives}
use Rattle.cb_shared.proofs.Resting.{far_empty, here_empty}

-- the events wrote nothing where the reply is Range
abbrev pub Unwritten : Reply → List Access → View → Type 0
Unwritten r es v = (len : ℕ) → r ≡ answer.Range len → written_by es v.known v.fresh ≡ []

-- what a reply tells after events it tells before them
told_before : (h : ℕ) (es fs : List Access) (r : Reply) (v : View) → Unwritten r (es ++ fs) v
    → PinsTold h r (after_events es v) → PinsTold h r v
told_before h es fs (answer.Pinned count) v none told = told
told_before h es fs (answer.Version n) v none told = told
told_before h es fs (answer.Range len) v none told = λ alone.
    let same = still_unwritten es fs v.known v.fresh (none len refl) in
    let x = subst (λ (l : List Entry). HasLast h len (record v {
      known = played es v.known;
      acts = v.acts ++ es;
      fresh = l;
    })) same (told alone) in record {
      last = x.last;
      wrote = x.wrote;
      handle = x.handle;
      newest = record { written = x.newest.written; seen = x.newest.seen; lone = x.newest.lone };
      held = x.held;
      long = x.long;
    }
told_before h es fs r v none told = tt

module _ (h : ℕ) where
  -- ---- the word that was found last tells of the object
  look_tells : (v : View) (w : ℕ) (e : Access) → IsLook h w e → SaysPins v e → TellsPins h w v
  look_tells v w (Looked k x) is tells =
      subst (λ (j : ℕ). TellsPins j w v) is.0 (subst (λ (n : ℕ). TellsPins k n v) is.1 tells)
  look_tells v w (Claimed k x n words) is tells =
      subst (λ (j : ℕ). TellsPins j w v) is.0 (subst (λ (n : ℕ). TellsPins k n v) is.1 tells)
  look_tells v w e is tells = absurd is

  -- of the view as it stood when the word was found
  found_tells : (v : View) (w : ℕ) (es : List Access) → IsFound h w es → SayPins es v
      → (before : List Access) × (later : List Access) × (es ≡ before ++ later)
      × TellsPins h w (acted before v)
  found_tells v w [] found all = absurd found
  found_tells v w (e ∷ es) (inl later) all = let z = found_tells (act e v) w es later all.1 in
      (e ∷ z.0, z.1, ap (λ (l : List Access). e ∷ l) z.2, z.3)
  found_tells v w (e ∷ es) (inr last) all =
      ([], e ∷ es, refl, look_tells v w e last.0 all.0)

  -- So it is told of the view before all events. What the desk ran last is among all that it ran.
  by_word : (v : View) (s t : Slate) (es : List Access) (w : ℕ) (r : Reply) → slate_run s es t
      → SayPins t.acts v → IsFound h w es → Unwritten r t.acts v
      → ((u : View) → TellsPins h w u → PinsTold h r u) → PinsTold h r v
  by_word v s t es w r ran all found none tells =
      let acts : t.acts ≡ s.acts ++ es = ap (λ (q : Slate). q.acts) ran.0 in
      let z = found_tells (acted s.acts v) w es found (say_behind s.acts es v
      (subst (λ (l : List Access). SayPins l v) acts all)) in
      let before : List Access = s.acts ++ z.0 in
      let whole : t.acts ≡ before ++ z.1 = acts ∙ ap (λ (l : List Access). s.acts ++ l) z.2
      ∙ sym (append_assoc s.acts z.0 z.1) in
      told_before h before z.1 r v (subst (λ (l : List Access). Unwritten r l v) whole none)
      (subst (PinsTold h r) (acted_is before v)
      (tells (acted before v) (subst (TellsPins h w) (sym (acted_append s.acts z.0 v)) z.3)))

module _ (v : View) (h : ℕ) where
  -- ---- what is answered by that word
  pinned_told : (w : ℕ) (r : Reply) → TellsPins h w v → state_of w ≡ state.Here → 1 ≤ pins_of w
      → r ≡ answer.Pinned (pins_of w) → PinsTold h r v
  pinned_told w r tells here some is = let z = tells.here here in
      subst (λ (q : Reply). PinsTold h q v) (sym is) (some, z.1, z.2)

  range_told : (w len : ℕ) (r : Reply) → TellsPins h w v → state_of w ≢ state.Empty → len_of w ≡ len
      → r ≡ answer.Range len → PinsTold h r v
  range_told w len r tells full long is = subst (λ (q : Reply). PinsTold h q v) (sym is)
      (λ alone. subst (λ (n : ℕ). HasLast h n v) long (tells.last full alone))

  version_told : (n : ℕ) (r : Reply) → NextVersion n r → pins_on h v ≡ 0 → PinsTold h r v
  version_told n r (inl (last, is)) none = subst (λ (q : Reply). PinsTold h q v) (sym is) tt
  version_told n r (inr (less, is)) none = subst (λ (q : Reply). PinsTold h q v) (sym is) none

  bare : (w : ℕ) → TellsPins h w v → state_of w ≡ state.Here → pins_of w ≡ 0 → pins_on h v ≡ 0
  bare w tells here none = let few = (tells.here here).1 in omega (arith, few, none)

  empty_told : (es : List Access) (r : Reply) → AbsentAs state.Empty h es r → PinsTold h r v
  empty_told es r (zero, told, is) = subst (λ (q : Reply). PinsTold h q v) (sym is) tt
  empty_told es r (suc n, told, is) = subst (λ (q : Reply). PinsTold h q v) (sym is) tt

  write_told : (at : ℕ) (bytes : List ℕ) (es : List Access) (r : Reply) (w : ℕ) (q : State)
      → state_of w ≡ q → TellsPins h w v → AnsweredAs q (WriteHere h at bytes es r) w h es r
      → PinsTold h r v
  write_told at bytes es r w state.Empty e tells x = empty_told es r x
  write_told at bytes es r w state.Far e tells is = subst (λ (q : Reply). PinsTold h q v) (sym is) tt
  write_told at bytes es r w state.Here e tells (inl (past, is)) =
      range_told w (len_of w) r tells (λ empty. here_empty (sym e ∙ empty)) refl is
  write_told at bytes es r w state.Here e tells (inr (fits, inl (some, is))) =
      pinned_told w r tells e some is
  write_told at bytes es r w state.Here e tells (inr (fits, inr (none, (n, words, taken, next)))) =
      version_told n r next (bare w tells e none)
  write_told at bytes es r w state.Moving e tells is =
      subst (λ (q : Reply). PinsTold h q v) (sym is) tt

  free_told : (es : List Access) (r : Reply) (w : ℕ) (q : State) → state_of w ≡ q → TellsPins h w v
      → FreeAs q w h es r → PinsTold h r v
  free_told es r w state.Empty e tells x = empty_told es r x
  free_told es r w state.Far e tells (n, told, next) =
      version_told n r next (tells.away (λ here. far_here (sym e ∙ here)))
    where
      far_here : state.Far ≡ state.Here → ⊥
      far_here f = absurd cc
  free_told es r w state.Here e tells (inl (some, is)) = pinned_told w r tells e some is
  free_told es r w state.Here e tells (inr (none, (n, words, taken, next))) =
      version_told n r next (bare w tells e none)
  free_told es r w state.Moving e tells is = subst (λ (q : Reply). PinsTold h q v) (sym is) tt

  -- a filter, which tells neither a version nor an end
  filter_told : (frames : ℕ) (far new : FarState) (es : List Access) (r : Reply) (w : ℕ) (q : State)
      → state_of w ≡ q → TellsPins h w v → FilterAs q frames h w far new r es → PinsTold h r v
  filter_told frames far new es r w state.Here e tells (inl (some, is, same)) =
      pinned_told w r tells e some is
  filter_told frames far new es r w state.Here e tells (inr (claimed, (seat, at, inl x))) =
      subst (λ (q : Reply). PinsTold h q v) (sym x.reply) tt
  filter_told frames far new es r w state.Here e tells (inr (claimed, (seat, at, inr (inl x)))) =
      subst (λ (q : Reply). PinsTold h q v) (sym x.reply) tt
  filter_told frames far new es r w state.Here e tells (inr (claimed, (seat, at, inr (inr (slot, x))))) =
      subst (λ (q : Reply). PinsTold h q v) (sym x.reply) tt
  filter_told frames far new es r w state.Empty e tells ((zero, told, is), same) =
      subst (λ (q : Reply). PinsTold h q v) (sym is) tt
  filter_told frames far new es r w state.Empty e tells ((suc n, told, is), same) =
      subst (λ (q : Reply). PinsTold h q v) (sym is) tt
  filter_told frames far new es r w state.Far e tells (is, same) =
      subst (λ (q : Reply). PinsTold h q v) (sym is) tt
  filter_told frames far new es r w state.Moving e tells (is, same) =
      subst (λ (q : Reply). PinsTold h q v) (sym is) tt

  -- where it was declined it was answered neither
  abbrev pub Declined : Option Reply → Type 0
  Declined None = Unit {0}
  Declined (Some r) = PinsTold h r v

  either_told : (w : ℕ) → TellsPins h w v → state_of w ≢ state.Empty → (b c : Bool)
      → Declined (if b then Some (answer.Range (len_of w)) else if c then Some answer.Worn else None)
  either_told w tells full true c = λ alone. tells.last full alone
  either_told w tells full false true = tt
  either_told w tells full false false = tt

module _ (v : View) (h : ℕ) where
  -- ---- a write, and a free, by the desk of plain data
  write_counts : (at : ℕ) (bytes : List ℕ) (a b : Holding Slate) (r : Reply)
      → SayPins b.desk.acts v → Unwritten r b.desk.acts v
      → WritesObject slate_run slate_shows h at bytes a r b → PinsTold h r v
  write_counts at bytes a b r all none x = let z = x.rule.1 in
      by_word h v a.desk b.desk x.events z.word r x.ran all z.found none
      (λ u tells. write_told u h at bytes x.events r z.word (state_of z.word) refl tells z.answer)

  pub free_counts : (a b : Holding Slate) (r : Reply) → SayPins b.desk.acts v
      → Unwritten r b.desk.acts v → Frees slate_run slate_shows h a r b → PinsTold h r v
  free_counts a b r all none x = let z = x.rule.reply in
      by_word h v a.desk b.desk x.events z.word r x.ran all z.found none
      (λ u tells. free_told u h x.events r z.word (state_of z.word) refl tells z.answer)

  filter_counts : (c : Config) (a b : Holding Slate) (r : Reply) → SayPins b.desk.acts v
      → Unwritten r b.desk.acts v → Filters slate_run slate_shows c h a r b → PinsTold h r v
  filter_counts c a b r all none x = let z = x.rule in
      by_word h v a.desk b.desk x.events z.word r x.ran all z.found none
      (λ u tells. filter_told u h c.frames a.far b.far x.events r z.word (state_of z.word) refl tells
      z.answer)

  declined_told : (at count : ℕ) (a b : Holding Slate) (r : Reply) → SayPins b.desk.acts v
      → Unwritten r b.desk.acts v → Declines slate_run slate_shows h at count a (Some r) b
      → PinsTold h r v
  declined_told at count a b r all none x = by x.1.rule
    where
      by : IsDeclined h at count a.far (Some r) x.1.events → PinsTold h r v
      by (inl (gone, declines, idle)) = absurd (some_none declines)
        where
          some_none : Some r ≡ None → ⊥
          some_none e = cc
      by (inr (there, (w, n, found, far, told, last, is))) =
          by_word h v a.desk b.desk x.1.events w r x.1.ran all found none
          (λ u tells. subst (Declined u h) (sym is)
          (either_told u h w tells (λ empty. far_empty (sym far ∙ empty))
          (nat_lt (len_of w) (at + count)) (n == 2 ^ 64 - 1)))

  pub where_counts : (c : Config) (at : ℕ) (bytes : List ℕ) (a b : Holding Slate) (r : Reply)
      → SayPins b.desk.acts v → Unwritten r b.desk.acts v
      → WhereItIs (WritesObject slate_run slate_shows h at bytes)
      (Declines slate_run slate_shows h at (length bytes)) (Brings slate_run slate_shows c h) a r b
      → PinsTold h r v
  where_counts c at bytes a b r all none (near x off) = write_counts at bytes a b r all none x
  where_counts c at bytes a b r all none (declined m x d) =
      declined_told at (length bytes) m b r all none d
  where_counts c at bytes a b r all none (stays_far m n x d bring off) = bring_gives
      (λ (q : Reply). PinsTold h q v) (λ id losses. tt) tt (λ f. tt) (λ frames loose nodes. tt) c h n b r
      bring
  where_counts c at bytes a b r all none (brought m n o f x d bring again) =
      write_counts at bytes o b r all none again

-- ---- the turn
write_turn : (c : Config) (h : Handle) (at : ℕ) (bytes : List ℕ) (r : Reply) (v : View)
    (a b : Holding Slate) → SayPins b.desk.acts v → Unwritten r b.desk.acts v
    → Turned slate_run slate_shows ReadsByPin c (Write h at bytes) a r b → PinsTold h.n r v
write_turn c h at bytes r v a b all none (worn end is same ran) =
    subst (λ (q : Reply). PinsTold h.n q v) (sym is) tt
write_turn c h at bytes r v a b all none (done few does) =
    where_counts v h.n c at bytes _ b r all none does

free_turn : (c : Config) (h : Handle) (r : Reply) (v : View) (a b : Holding Slate)
    → SayPins b.desk.acts v → Unwritten r b.desk.acts v
    → Turned slate_run slate_shows ReadsByPin c (Free h) a r b → PinsTold h.n r v
free_turn c h r v a b all none (worn end is same ran) =
    subst (λ (q : Reply). PinsTold h.n q v) (sym is) tt
free_turn c h r v a b all none (done few does) = free_counts v h.n _ b r all none does

filter_turn : (c : Config) (h : Handle) (r : Reply) (v : View) (a b : Holding Slate)
    → SayPins b.desk.acts v → Unwritten r b.desk.acts v
    → Turned slate_run slate_shows ReadsByPin c (Filter h) a r b → PinsTold h.n r v
filter_turn c h r v a b all none (worn end is same ran) =
    subst (λ (q : Reply). PinsTold h.n q v) (sym is) tt
filter_turn c h r v a b all none (done few does) = filter_counts v h.n c _ b r all none does

pub counts_pins : (c : Config) (job : Job) (r : Result Reply NoMemory) (es : List Access)
    (more : List Entry) (took gave : FarState) (v : View)
    → DidAs c job (answer_of r) v.known es took gave → SayPins es v → OutcomeWrites job r more
    → written_by es v.known v.fresh ≡ more → CountsPins job r v
counts_pins c (Write h at bytes) (Ok r) es more took gave v did all wrote fresh =
    write_turn c h at bytes r v (held_by v.known [] took) _ all
    (λ len e. fresh ∙ subst (λ (q : Reply). WriteWrites h.n at bytes q more) e wrote) did
counts_pins c (Write h at bytes) (Err e) es more took gave v did all wrote fresh = tt
counts_pins c (Free h) (Ok r) es more took gave v did all wrote fresh =
    free_turn c h r v (held_by v.known [] took) _ all
    (λ len e. fresh ∙ subst (λ (q : Reply). FreeWrites h.n q more) e wrote) did
counts_pins c (Free h) (Err e) es more took gave v did all wrote fresh = tt
counts_pins c (Filter h) (Ok r) es more took gave v did all wrote fresh =
    filter_turn c h r v (held_by v.known [] took) _ all (λ len e. fresh ∙ wrote) did
counts_pins c (Filter h) (Err e) es more took gave v did all wrote fresh = tt
counts_pins c job r es more took gave v did all wrote fresh = tt
