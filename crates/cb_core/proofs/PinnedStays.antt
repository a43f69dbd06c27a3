-- A pinned object is unmoved by each event.
use Rattle.std.proofs.Common.{◌≡◌, ◌≢◌, ◌⊎◌, ℕ, suc, ◌+◌, ◌<◌, ◌≤◌, ◌==◌, Bool, List, [], ◌∷◌, length, Option, Some, None, refl, sym, ap, ◌∙◌, subst, arith, inl, inr, if◌then◌else◌, ne_eqb, get_or-set_same, get_or-set_other}
use native.Mathlib.Decide.{ℕ_discrete}
use Rattle.std.specs.List.{AllByRecursion}
use Rattle.std.proofs.lemmas.Bool.{cases_lt}
use Rattle.std.proofs.lemmas.List.{get_or_past, set-get_or}
use Rattle.cb_ptr.specs.declared.word.State.TheVariants as state
use Rattle.cb_ptr.specs.Word.{state_of, len_of, place_of, pins_of}
use Rattle.cb_types.specs.declared.config.Config.{Config}
use Rattle.cb_types.specs.declared.handle.Handle.{Handle}
use Rattle.cb_types.specs.declared.job.Job.{Job}
use Rattle.cb_types.specs.declared.job.Job.TheVariants.{Make, Read, Write, Free, Swap, Filter, Evict, Begin, Ship, Commit, Abort}
use Rattle.cb_types.specs.declared.order.Kept.{Kept}
use Rattle.cb_types.specs.declared.request.Request.{Request}
use Rattle.cb_types.specs.declared.request.Request.TheVariants as line
use Rattle.cb_types.specs.declared.reply.Reply.{Reply}
use Rattle.cb_types.specs.declared.reply.Reply.TheVariants as answer
use Rattle.cb_world.specs.declared.shown.Shown.{Shown}
use Rattle.cb_world.specs.FarState.{FarState}
use Rattle.cb_world.specs.Memory.{bytes_in, window, words_for}
use Rattle.cb_world.specs.OpenSteps.{next_word}
use Rattle.cb_world.specs.Now.{Now, now}
use Rattle.cb_world.specs.Now.Now.{held}
use Rattle.cb_world.specs.Pinned.{with_word}
use Rattle.cb_world.specs.Plain.{Words}
use Rattle.cb_world.specs.StillWords.{stamp_at, contents_at, with_hot}
use Rattle.cb_world.specs.Seats.{order_of}
use Rattle.cb_world.specs.World.{WorldState, IsKnown, IsSoundWorld, word_at}
use Rattle.cb_world.proofs.Laws.{StepKeeps}
use Rattle.cb_mutate.specs.CallStep.{with_seen}
use Rattle.cb_mutate.specs.MapCalls.{IsCallOn, IsRefusedMake}
use Rattle.cb_mutate.proofs.Laws.{near_held, here_near, free_call, make_call}
use Rattle.cb_evict.specs.declared.eviction.Eviction.TheVariants.{Refused, Set}
use Rattle.cb_evict.proofs.Laws.{abort_keeps, begin_keeps, commit_keeps, evict_keeps, ship_keeps}
use Rattle.cb_filter.proofs.Laws.{filter_keeps}
use Rattle.cb_core.specs.declared.event.Atomic.{Atomic}
use Rattle.cb_core.specs.declared.event.Atomic.TheVariants.{Load, Pin, Unpin, Claim, Store, Settle, Take, Give}
use Rattle.cb_core.specs.declared.event.Event.{Event}
use Rattle.cb_core.specs.declared.event.Event.TheVariants as event
use Rattle.cb_core.specs.Claiming.{refused as claim_refused, taken as claim_taken, not_claimed as none_stored, nothing_left, stored, stamped, not_stored, settled}
use Rattle.cb_core.specs.Events.{IsAtomic, IsEvent}
use Rattle.cb_core.specs.Jobs.{IsJob}
use Rattle.cb_core.specs.Parts.{Holding, NeverDeclined, WithRoom, at_once, no_room, won, most_evictions, WhereItIs, near, declined, stays_far, brought, not_far, was_far}
use Rattle.cb_core.specs.Pinning.{scope_full, refused as pin_refused, taken, not_pinned, given}
use Rattle.cb_core.specs.Run.{LeadsSoundly}
use Rattle.cb_core.specs.Step.{HoldOn, Step, StillMake, StillRead, StillWrite, StillFree, StillDecline, StillRoom, StillBring, StillWorks, AtomicStep, TurnStep, worn, done, held as other_holds, free as alone, holding_of, ordered, OrderTurn, late as too_late, made as was_made}
use Rattle.cb_core.specs.Unmoved.{IsUnmoved, HasPin, KeepsPinned, LeadsPinned, StaysPinned}
use Rattle.cb_core.proofs.OpenKeptSteps.{with_stored}
use Rattle.cb_core.proofs.HoldingFixed.{give_leaves, take_leaves}
use Rattle.cb_core.proofs.OpenStores.{others_here}
use Rattle.cb_core.proofs.Changes.{read_leaves, write_leaves, free_leaves}
use Rattle.cb_core.proofs.Settings.{step_settings}
use Rattle.cb_core.proofs.StillParts.{next_free}
use Rattle.cb_core.proofs.OrderedKeeps.{with_has_kept}
use Rattle.cb_core.proofs.TurnCalls.{held_at, held_then}
use Rattle.cb_core.proofs.TurnCallsKept.{HasKept, kept_room, kept_bring, kept_step, once_known, same_holding}
use Rattle.cb_core.proofs.TurnCallsMake.{make_crammed}
use Rattle.cb_core.proofs.TurnCallsParts.{read_part, write_part}
use Rattle.cb_core.proofs.TurnCallsWhere.{IsCallWithLook, kept_map, within}

-- ---- what is told of a pinned object
-- the object is one of those that there are, is here and has a pin
record IsHeldHere (x : Words) (k : ℕ) : Type 0 where
  below : k < length x.words
  here : state_of (word_at x k) ≡ state.Here
  some : 1 ≤ pins_of (word_at x k)

-- its word is as it was, and so is what it holds, by what is known before and after
abbrev Fixed : Holding Words → Holding Words → Shown → Shown → ℕ → Type 0
Fixed a b s t k = (word_at b.desk k ≡ word_at a.desk k) × (now t b.far k ≡ now s a.far k)

fixed_then : (a m b : Holding Words) (s u t : Shown) (k : ℕ) → Fixed a m s u k → Fixed m b u t k
    → Fixed a b s t k
fixed_then a m b s u t k x y = (y.0 ∙ x.0, y.1 ∙ x.1)

holds : (x : Words) (far : FarState) (s : Shown) (k : ℕ) → IsKnown x far s → IsHeldHere x k
    → now s far k ≡ held (stamp_at x k) (bytes_in (contents_at x k) (len_of (word_at x k)))
holds x far s k known p = near_held x far s k known p.below (here_near (word_at x k) p.here)

-- where every word is as it was
same_desk : (a b : Holding Words) (s t : Shown) (k : ℕ) → IsKnown a.desk a.far s
    → IsKnown b.desk b.far t → IsHeldHere a.desk k → b.desk ≡ a.desk → Fixed a b s t k
same_desk a b s t k ka kb p same = (
  ap (λ (x : Words). word_at x k) same,
  holds b.desk b.far t k kb (subst (λ (x : Words). IsHeldHere x k) (sym same) p)
      ∙ ap (λ (x : Words). held (stamp_at x k) (bytes_in (contents_at x k) (len_of (word_at x k)))) same
      ∙ sym (holds a.desk a.far s k ka p),
)

-- where what every object holds was kept
kept_fixed : (a b : Holding Words) (s t : Shown) (k : ℕ) → HasKept a b s → IsKnown b.desk b.far t
    → IsHeldHere a.desk k → Fixed a b s t k
kept_fixed a b s t k kept kb p = (kept.words.pinned k p.some, (kept_map a b s t kept kb).now k)

-- so in a step that keeps the pins
step_fixed : (a b : Holding Words) (s t : Shown) (k : ℕ) → IsKnown a.desk a.far s
    → IsKnown b.desk b.far t → IsHeldHere a.desk k → HoldOn a b
    → StepKeeps a.desk b.desk a.far b.far → Fixed a b s t k
step_fixed a b s t k ka kb p hold keeps = kept_fixed a b s t k (kept_step a b s ka hold keeps) kb p

still_held : (a b : Holding Words) (s : Shown) (k : ℕ) → IsKnown a.desk a.far s → (kept : HasKept a b s)
    → IsHeldHere a.desk k → IsHeldHere b.desk k
still_held a b s k ka kept p = record {
  below = let old = ka.sized.words in let new = kept.known.sized.words in
      let same = ap (λ (c : Config). c.handles) kept.words.settings in let lt = p.below in
      omega (arith, old, new, same, lt);
  here = ap state_of (kept.words.pinned k p.some) ∙ p.here;
  some = subst (λ (n : ℕ). 1 ≤ n) (sym (kept.words.pins k)) p.some;
}

-- ---- an object that is brought in beside it
bring_fixed : (a b : Holding Words) (s t : Shown) (h k : ℕ) (r : Reply) → IsKnown a.desk a.far s
    → IsKnown b.desk b.far t → IsHeldHere a.desk k → StillBring h a r b → Fixed a b s t k
bring_fixed a b s t h k r ka kb p bring = kept_fixed a b s t k (kept_bring a b h r s ka bring) kb p

-- ---- the calls
here_is_far : state.Far ≡ state.Here → ⊥
here_is_far e = cc

read_fixed : (a b : Holding Words) (s t : Shown) (h k : ℕ) (r : Reply) → IsKnown a.desk a.far s
    → IsKnown b.desk b.far t → h < length a.desk.words → IsHeldHere a.desk k → StillRead h a r b
    → Fixed a b s t k
read_fixed a b s t h k r ka kb below p c =
    go (read_leaves a.desk b.desk h r c.0) (ℕ_discrete k h)
  where
    seen : ℕ
    seen = if pins_of (word_at a.desk h) == 0 then with_hot (word_at a.desk h) else word_at a.desk h

    still : k ≡ h → with_seen a.desk h ≡ a.desk
    still e = ap (λ (b : Bool). with_word a.desk h (if b then with_hot (word_at a.desk h)
        else word_at a.desk h)) (ne_eqb (pins_of (word_at a.desk h)) 0 (λ none.
        let some = subst (λ (i : ℕ). 1 ≤ pins_of (word_at a.desk i)) e p.some in
        omega (arith, none, some)))
        ∙ ap (λ (l : List ℕ). let q : Words = record a.desk { words = l } in q)
        (set-get_or a.desk.words h 0)

    go : (b.desk ≡ a.desk) ⊎ (b.desk ≡ with_seen a.desk h) → Dec (k ≡ h) → Fixed a b s t k
    go (inl same) d = same_desk a b s t k ka kb p same
    go (inr left) (yes e) = same_desk a b s t k ka kb p (left ∙ still e)
    go (inr left) (no off) = (
      ap (λ (x : Words). word_at x k) left ∙ get_or-set_other a.desk.words h k seen 0 off,
      ((read_part h []).is a b s t r ka kb below c).others k off,
    )

write_fixed : (a b : Holding Words) (s t : Shown) (h at k : ℕ) (bytes : List ℕ) (r : Reply)
    → IsKnown a.desk a.far s → IsKnown b.desk b.far t → h < length a.desk.words
    → IsHeldHere a.desk k → StillWrite h at bytes a r b → Fixed a b s t k
write_fixed a b s t h at k bytes r ka kb below p c = elim (write_leaves a.desk b.desk h at bytes r c.0) [
  | inl same ↦ same_desk a b s t k ka kb p same
  | inr (free, (n, o)) ↦
      let off : k ≢ h = λ e. (let some = subst (λ (i : ℕ). 1 ≤ pins_of (word_at a.desk i)) e p.some in
      omega (arith, free, some)) in (
        ap (λ (x : Words). word_at x k) o.left
            ∙ get_or-set_other a.desk.words h k (with_hot (word_at a.desk h)) 0 off,
        ((write_part h at bytes []).is a b s t r ka kb below c).others k off,
      )
]

free_fixed : (a b : Holding Words) (s t : Shown) (h k : ℕ) (r : Reply) → IsKnown a.desk a.far s
    → IsKnown b.desk b.far t → h < length a.desk.words → IsHeldHere a.desk k → StillFree h a r b
    → Fixed a b s t k
free_fixed a b s t h k r ka kb below p c = elim (free_leaves a.desk b.desk a.far b.far h r c) [
  | inl same ↦ same_desk a b s t k ka kb p same.0
  | inr (may, (n, z)) ↦ let off = apart may in (
    ap (λ (x : Words). word_at x k) z.left ∙ get_or-set_other a.desk.words h k 0 0 off,
    (free_call a.desk b.desk a.far b.far s t h a.desk.settings.handles [] r
        (record { before = ka; afterwards = kb }) below c).others k off,
  )
]
  where
    apart : (pins_of (word_at a.desk h) ≡ 0) ⊎ (state_of (word_at a.desk h) ≡ state.Far) → k ≢ h
    apart (inl none) e = let some = subst (λ (i : ℕ). 1 ≤ pins_of (word_at a.desk i)) e p.some in
        omega (arith, none, some)
    apart (inr away) e =
        here_is_far (sym away ∙ subst (λ (i : ℕ). state_of (word_at a.desk i) ≡ state.Here) e p.here)

made_fixed : (a b : Holding Words) (s t : Shown) (k : ℕ) (bytes : List ℕ) (r : Reply)
    → IsKnown a.desk a.far s → IsKnown b.desk b.far t → IsHeldHere a.desk k → StillMake bytes a r b
    → Fixed a b s t k
made_fixed a b s t k bytes r ka kb p (inl (full, is, same, left)) = same_desk a b s t k ka kb p same
made_fixed a b s t k bytes r ka kb p (inr (more, inl (crammed, is, same, left))) =
    same_desk a b s t k ka kb p same
made_fixed a b s t k bytes r ka kb p (inr (more, inr (is, z))) = (
  ap (λ (x : Words). word_at x k) z.left ∙ get_or-set_other a.desk.words a.far.made k _ 0 off,
  by (make_call a.desk b.desk a.far b.far s t bytes [] r (record { before = ka; afterwards = kb })
      (inr (more, inr (is, z)))),
)
  where
    off : k ≢ a.far.made
    off e = let free = next_free a.desk a.far s ka more in
        let some = subst (λ (i : ℕ). 1 ≤ pins_of (word_at a.desk i)) e p.some in
        omega (arith, free, some)

    handle_in : Reply → ℕ
    handle_in (answer.Made h v) = h.n
    handle_in q = 0

    by : ((h : Handle) × (v : ℕ) × (r ≡ answer.Made h v)
        × IsCallOn a.desk.settings.handles s t a.far b.far h.n (line.Make [] bytes) r)
        ⊎ IsRefusedMake a.desk.settings.handles s t a.far b.far (line.Make [] bytes) r
        → now t b.far k ≡ now s a.far k
    by (inl (h, v, made, call)) =
        call.others k (λ e. off (e ∙ ap handle_in (sym made ∙ is)))
    by (inr none) = none.others k

make_fixed : (bytes : List ℕ) (frames left : ℕ) (a b : Holding Words) (s t : Shown) (k : ℕ)
    (r : Reply)
    → IsKnown a.desk a.far s → IsKnown b.desk b.far t → IsHeldHere a.desk k
    → WithRoom frames (StillMake bytes) StillRoom left a r b → Fixed a b s t k
make_fixed bytes frames left a b s t k r ka kb p (at_once c never) =
    made_fixed a b s t k bytes r ka kb p c
make_fixed bytes frames left a b s t k r ka kb p (no_room m why loose nodes c evict e) =
    let none = make_crammed a.desk m.desk a.far m.far bytes c in
    let from = subst (λ (x : Holding Words). StillRoom x (Refused why loose nodes) b)
    (same_holding a m none.1 none.2) evict in
    kept_fixed a b s t k (kept_room a b (Refused why loose nodes) s ka from) kb p
make_fixed bytes frames (suc fewer) a b s t k r ka kb p (won m n id c evict again) =
    let none = make_crammed a.desk m.desk a.far m.far bytes c in
    let from = subst (λ (x : Holding Words). StillRoom x (Set id) n)
    (same_holding a m none.1 none.2)
    evict in
    let kept = kept_room a n (Set id) s ka from in
    fixed_then a n b s kept.shown t k (kept_fixed a n s kept.shown k kept kept.known p)
    (make_fixed bytes frames fewer n b kept.shown t k r kept.known kb
    (still_held a n s k ka kept p) again)

-- ---- a call on an object wherever it is
where_fixed : (call : Holding Words → Reply → Holding Words → Type 0)
    (look : Holding Words → Option Reply → Holding Words → Type 0) (h k : ℕ) (q : Request)
    → IsCallWithLook call look h q
    → ((a b : Holding Words) (s t : Shown) (r : Reply) → IsKnown a.desk a.far s → IsKnown b.desk b.far t
    → h < length a.desk.words → IsHeldHere a.desk k → call a r b → Fixed a b s t k)
    → (a b : Holding Words) (s t : Shown) (r : Reply) → IsKnown a.desk a.far s → IsKnown b.desk b.far t
    → h < length a.desk.words → IsHeldHere a.desk k → WhereItIs call look (StillBring h) a r b
    → Fixed a b s t k
where_fixed call look h k q part fixes a b s t r ka kb below p (near c never) =
    fixes a b s t r ka kb below p c
where_fixed call look h k q part fixes a b s t r ka kb below p (declined m c l) =
    same_desk a b s t k ka kb p
    (ap (λ (x : Holding Words). x.desk) (part.looks m b (Some r) l ∙ part.nothing a m c))
where_fixed call look h k q part fixes a b s t r ka kb below p (stays_far m n c l bring never) =
    bring_fixed a b s t h k r ka kb p (subst (λ (x : Holding Words). StillBring h x r b)
    (part.looks m n None l ∙ part.nothing a m c) bring)
where_fixed call look h k q part fixes a b s t r ka kb below p (brought m n o f c l bring again) =
    let came = subst (λ (x : Holding Words). StillBring h x (answer.Swapped f) o)
    (part.looks m n None l ∙ part.nothing a m c) bring in
    let kept = kept_bring a o h (answer.Swapped f) s ka came in
    let lt : h < length o.desk.words = (let old = ka.sized.words in let new = kept.known.sized.words in
    let same = ap (λ (c : Config). c.handles) kept.words.settings in
    omega (arith, old, new, same, below)) in
    fixed_then a o b s kept.shown t k (kept_fixed a o s kept.shown k kept kept.known p)
    (fixes o b kept.shown t r kept.known kb lt (still_held a o s k ka kept p) again)

-- ---- every job
works_fixed : (j : Job) (k : ℕ) (a b : Holding Words) (s t : Shown) (r : Reply)
    → IsJob a.desk.settings j → IsKnown a.desk a.far s → IsKnown b.desk b.far t → IsHeldHere a.desk k
    → StillWorks j a r b → Fixed a b s t k
works_fixed (Make bytes) k a b s t r ok ka kb p works =
    make_fixed bytes a.desk.settings.frames most_evictions a b s t k r ka kb p works
works_fixed (Read handle) k a b s t r ok ka kb p works = let h = handle.n in
    where_fixed (StillRead h) NeverDeclined h k (line.Read []) (read_part h [])
    (λ c d u v q kc kd lt z x. read_fixed c d u v h k q kc kd lt z x) a b s t r ka kb
    (within a s h ka ok) p works
works_fixed (Write handle at bytes) k a b s t r ok ka kb p works = let h = handle.n in
    where_fixed (StillWrite h at bytes) (StillDecline h at (length bytes)) h k (line.Write [] at bytes)
    (write_part h at bytes []) (λ c d u v q kc kd lt z x. write_fixed c d u v h at k bytes q kc kd lt z x)
    a b s t r ka kb (within a s h ka ok) p works
works_fixed (Free handle) k a b s t r ok ka kb p works =
    free_fixed a b s t handle.n k r ka kb (within a s handle.n ka ok) p works
works_fixed (Swap handle) k a b s t r ok ka kb p (not_far c never) =
    same_desk a b s t k ka kb p (ap (λ (x : Holding Words). x.desk) c.1)
works_fixed (Swap handle) k a b s t r ok ka kb p (was_far m c bring) =
    bring_fixed a b s t handle.n k r ka kb p
    (subst (λ (x : Holding Words). StillBring handle.n x r b) c.1 bring)
works_fixed (Filter handle) k a b s t r ok ka kb p works =
    step_fixed a b s t k ka kb p works.1 (filter_keeps a.desk b.desk a.far b.far handle.n r works.0)
works_fixed Evict k a b s t r ok ka kb p (step, hold) =
    step_fixed a b s t k ka kb p hold (evict_keeps a.desk b.desk a.far b.far r step)
works_fixed Begin k a b s t r ok ka kb p (step, hold) =
    step_fixed a b s t k ka kb p hold (begin_keeps a.desk b.desk a.far b.far r step)
works_fixed Ship k a b s t r ok ka kb p (step, hold) =
    step_fixed a b s t k ka kb p hold (ship_keeps a.desk b.desk a.far b.far r step)
works_fixed Commit k a b s t r ok ka kb p (step, hold) =
    step_fixed a b s t k ka kb p hold (commit_keeps a.desk b.desk a.far b.far r s ka step)
works_fixed Abort k a b s t r ok ka kb p (step, hold) =
    step_fixed a b s t k ka kb p hold (abort_keeps a.desk b.desk a.far b.far r s ka step)
works_fixed j k a b s t r ok ka kb p works = same_desk a b s t k ka kb p works.0

-- ---- every event
pub unmoved_same : (x y : Words) (k : ℕ) → y ≡ x → IsUnmoved k x y
unmoved_same x y k same = subst (IsUnmoved k x) (sym same)
    (record { place = refl; len = refl; version = refl; bytes = refl })

abbrev version_in : Now → ℕ
version_in (held v bytes) = v
version_in n = 0

abbrev bytes_of : Now → List ℕ
bytes_of (held v bytes) = bytes
bytes_of n = []

held_here : (w : WorldState) (k : ℕ) → IsSoundWorld w → HasPin k w → IsHeldHere w.desk k
held_here w k sound some = by (cases_lt k (length w.desk.words))
  where
    by : (k < length w.desk.words) ⊎ (length w.desk.words ≤ k) → IsHeldHere w.desk k
    by (inl below) = record { below = below; here = (sound.pinned.here k below some).0; some = some }
    by (inr past) = absurd (let none : pins_of (word_at w.desk k) ≡ 0 =
        ap pins_of (get_or_past w.desk.words k 0 past) in omega (arith, none, some))

turn_pinned : (j : Job) (w new : WorldState) (r : Reply) → IsSoundWorld w → IsSoundWorld new
    → IsJob w.desk.settings j → TurnStep j w r new → KeepsPinned w new
turn_pinned j w new r sound after ok (worn end is same) k some behind =
    unmoved_same w.desk new.desk k (ap (λ (v : WorldState). v.desk) same)
turn_pinned j w new r sound after ok (done few works seats) k some behind =
    let p = held_here w k sound some in
    let known = once_known w j sound.shown sound.known in
    let z = works_fixed j k (held_at w j) (held_then new) sound.shown after.shown r ok known after.known
    p works in
    let e = sym (holds new.desk new.far after.shown k after.known (held_here new k after behind)) ∙ z.1
    ∙ holds w.desk (held_at w j).far sound.shown k known p in record {
      place = ap place_of z.0;
      len = ap len_of z.0;
      version = ap version_in e;
      bytes = ap bytes_of e;
    }

-- so of a turn that hands an order out or takes one
order_pinned : (j : Job) (w new : WorldState) (order keeps : Option Kept) (r : Reply)
    → IsSoundWorld w → IsSoundWorld new
    → OrderTurn j order (holding_of w) r keeps (holding_of new) → KeepsPinned w new
order_pinned j w new order keeps r sound after (too_late end is same stays) k some behind =
    unmoved_same w.desk new.desk k (ap (λ (a : Holding Words). a.desk) stays)
order_pinned j w new order keeps r sound after (was_made few step) k some behind =
    let p = held_here w k sound some in
    let known = once_known w j sound.shown sound.known in
    let z = kept_fixed (held_at w j) (held_then new) sound.shown after.shown k
    (with_has_kept j order keeps (held_at w j) (held_then new) r sound.shown known step) after.known p in
    let e = sym (holds new.desk new.far after.shown k after.known (held_here new k after behind)) ∙ z.1
    ∙ holds w.desk (held_at w j).far sound.shown k known p in record {
      place = ap place_of z.0;
      len = ap len_of z.0;
      version = ap version_in e;
      bytes = ap bytes_of e;
    }

-- a word that keeps its place and its length
pub touched : (x y : Words) (h v k : ℕ) → h < length x.words → y ≡ with_word x h v
    → place_of v ≡ place_of (word_at x h) → len_of v ≡ len_of (word_at x h) → IsUnmoved k x y
touched x y h v k below left place len = subst (IsUnmoved k x) (sym left) (by (ℕ_discrete k h))
  where
    z : Words
    z = with_word x h v

    unmoved : place_of (word_at z k) ≡ place_of (word_at x k) → len_of (word_at z k) ≡ len_of (word_at x k)
        → IsUnmoved k x z
    unmoved p l = record {
      place = p;
      len = l;
      version = refl;
      bytes = ap (λ (i : ℕ). bytes_in (window x.memory i (words_for (len_of (word_at z k))))
          (len_of (word_at z k))) p
          ∙ ap (λ (i : ℕ). bytes_in (window x.memory (place_of (word_at x k)) (words_for i)) i) l;
    }

    by : Dec (k ≡ h) → IsUnmoved k x z
    by (no off) = let same = get_or-set_other x.words h k v 0 off in
        unmoved (ap place_of same) (ap len_of same)
    by (yes e) =
        let at : word_at z k ≡ v = ap (λ (i : ℕ). word_at z i) e ∙ get_or-set_same x.words h v 0 below in
        let old = ap (λ (i : ℕ). word_at x i) (sym e) in
        unmoved (ap place_of at ∙ place ∙ ap place_of old) (ap len_of at ∙ len ∙ ap len_of old)

atomic_pinned : (seat : ℕ) (atomic : Atomic) (w new : WorldState) (r : Reply) → IsSoundWorld w
    → IsAtomic w.desk.settings atomic → AtomicStep seat atomic w r new → KeepsPinned w new
atomic_pinned seat (Load handle) w new r sound lt step k some still =
    unmoved_same w.desk new.desk k (ap (λ (v : WorldState). v.desk) step.1)
atomic_pinned seat (Pin handle) w new r sound lt (scope_full full is same) k some still =
    unmoved_same w.desk new.desk k (ap (λ (v : WorldState). v.desk) same)
atomic_pinned seat (Pin handle) w new r sound lt (pin_refused room off is same) k some still =
    unmoved_same w.desk new.desk k (ap (λ (v : WorldState). v.desk) same)
atomic_pinned seat (Pin handle) w new r sound lt (taken room may is t) k some still =
    touched w.desk new.desk handle.n t.word.word k
    (let n = sound.known.sized.words in omega (arith, n, lt)) t.word.words t.word.takes.place
    t.word.takes.len
atomic_pinned seat (Unpin handle) w new r sound lt (not_pinned none is same) k some still =
    unmoved_same w.desk new.desk k (ap (λ (v : WorldState). v.desk) same)
atomic_pinned seat (Unpin handle) w new r sound lt (given is t) k some still =
    touched w.desk new.desk handle.n t.word.word k
    (let n = sound.known.sized.words in omega (arith, n, lt)) t.word.words t.word.gives.place
    t.word.gives.len
atomic_pinned seat (Claim handle at bytes) w new r sound lt (claim_refused off is same) k some still =
    unmoved_same w.desk new.desk k (ap (λ (v : WorldState). v.desk) same)
atomic_pinned seat (Claim handle at bytes) w new r sound lt (claim_taken may is reply t) k some still =
    touched w.desk new.desk handle.n t.word.word k
    (let n = sound.known.sized.words in omega (arith, n, lt)) t.word.words t.word.claims.place
    t.word.claims.len
atomic_pinned seat (Store handle) w new r sound lt (none_stored off is same) k some still =
    unmoved_same w.desk new.desk k (ap (λ (v : WorldState). v.desk) same)
atomic_pinned seat (Store handle) w new r sound lt (nothing_left at x none is same) k some still =
    unmoved_same w.desk new.desk k (ap (λ (v : WorldState). v.desk) same)
atomic_pinned seat (Store handle) w new r sound lt (stored at x two is m n) k some still =
    let c = x.ongoing in let p = held_here w k sound some in
    subst (IsUnmoved k w.desk)
    (sym (m.words ∙ ap (with_stored w.desk (next_word c) m.word) (sym x.on))) (record {
      place = refl;
      len = refl;
      version = refl;
      bytes = ap (λ (l : List ℕ). bytes_in l (len_of (word_at w.desk k)))
          (others_here w seat at m.word c sound x.there (omega (arith, two)) k p.below p.here);
    })
atomic_pinned seat (Store handle) w new r sound lt (stamped at x last is m n) k some still =
    let c = x.ongoing in let p = held_here w k sound some in
    let off : k ≢ handle.n = λ e. (let moving = (sound.ongoing.each seat at c x.there).moving in
    let f = sym p.here ∙ ap (λ (i : ℕ). state_of (word_at w.desk i)) (e ∙ sym x.on) ∙ moving in cc) in
    subst (IsUnmoved k w.desk) (sym m) (record {
      place = refl;
      len = refl;
      version = get_or-set_other w.desk.versions handle.n k (c.version + 1) 0 off;
      bytes = refl;
    })
atomic_pinned seat (Settle handle) w new r sound lt (none_stored off is same) k some still =
    unmoved_same w.desk new.desk k (ap (λ (v : WorldState). v.desk) same)
atomic_pinned seat (Settle handle) w new r sound lt (not_stored at x left is same) k some still =
    unmoved_same w.desk new.desk k (ap (λ (v : WorldState). v.desk) same)
atomic_pinned seat (Settle handle) w new r sound lt (settled at x none is t) k some still =
    touched w.desk new.desk handle.n t.word.word k
    (let n = sound.known.sized.words in omega (arith, n, lt)) t.word.words t.word.settles.place
    t.word.settles.len
atomic_pinned seat Take w new r sound lt step k some still =
    unmoved_same w.desk new.desk k (take_leaves w new seat r step).desk
atomic_pinned seat Give w new r sound lt step k some still =
    unmoved_same w.desk new.desk k (give_leaves w new seat r step).desk

pub step_pinned : (e : Event) (w new : WorldState) (r : Reply) → IsSoundWorld w → IsSoundWorld new
    → IsEvent w.desk.settings e → Step w e r new → KeepsPinned w new
step_pinned (event.Turn seat j) w new r sound after ok (other_holds holder off holds is same) =
    λ k some still. unmoved_same w.desk new.desk k (ap (λ (v : WorldState). v.desk) same)
step_pinned (event.Turn seat j) w new r sound after ok (alone none step) =
    turn_pinned j w new r sound after ok.1 step
step_pinned (event.Turn seat j) w new r sound after ok (ordered keeps off none turn seats) =
    order_pinned j w new (order_of w.seats seat) keeps r sound after turn
step_pinned (event.Step seat atomic) w new r sound after ok step =
    atomic_pinned seat atomic w new r sound ok.1 step

-- ---- runs
pub leads_pinned : (events : List Event) (replies : List Reply) (w new : WorldState)
    → LeadsSoundly w events replies new → AllByRecursion (IsEvent w.desk.settings) events
    → IsSoundWorld w → LeadsPinned w events replies new
leads_pinned [] [] w new leads ok sound = leads
leads_pinned [] (r ∷ rs) w new leads ok sound = absurd leads
leads_pinned (e ∷ es) [] w new leads ok sound = absurd leads
leads_pinned (e ∷ es) (r ∷ rs) w new (between, step, after, rest) ok sound = (
  between,
  step,
  step_pinned e w between r sound after ok.0 step,
  leads_pinned es rs between new rest
      (subst (λ (c : Config). AllByRecursion (IsEvent c) es) (sym (step_settings w between e r step)) ok.1)
      after,
)

starts_pinned : (events : List Event) (replies : List Reply) (w new : WorldState) (h : ℕ)
    → (leads : LeadsPinned w events replies new) → StaysPinned h w events replies new leads → HasPin h w
starts_pinned [] [] w new h leads pinned = pinned
starts_pinned [] (r ∷ rs) w new h leads pinned = absurd leads
starts_pinned (e ∷ es) [] w new h leads pinned = absurd leads
starts_pinned (e ∷ es) (r ∷ rs) w new h leads pinned = pinned.0

-- The law: from any world of a run to any later one, an object that has a pin in each world between
-- them is unmoved.
pub pinned_unmoved : (events : List Event) (replies : List Reply) (w new : WorldState) (h : ℕ)
    → (leads : LeadsPinned w events replies new) → StaysPinned h w events replies new leads
    → IsUnmoved h w.desk new.desk × HasPin h new
pinned_unmoved [] [] w new h leads pinned = (
  unmoved_same w.desk new.desk h (ap (λ (v : WorldState). v.desk) leads),
  subst (HasPin h) (sym leads) pinned,
)
pinned_unmoved [] (r ∷ rs) w new h leads pinned = absurd leads
pinned_unmoved (e ∷ es) [] w new h leads pinned = absurd leads
pinned_unmoved (e ∷ es) (r ∷ rs) w new h leads pinned =
    let rest = pinned_unmoved es rs leads.0 new h leads.3 pinned.1 in
    let first = leads.2 h pinned.0 (starts_pinned es rs leads.0 new h leads.3 pinned.1) in (
      record {
        place = rest.0.place ∙ first.place;
        len = rest.0.len ∙ first.len;
        version = rest.0.version ∙ first.version;
        bytes = rest.0.bytes ∙ first.bytes;
      },
      rest.1,
    )
