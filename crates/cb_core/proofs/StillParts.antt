-- Each part of a turn over a still desk is a step, and leaves all known.
use Rattle.std.proofs.Common.{◌≡◌, ◌⊎◌, ℕ, Bool, false, ◌<◌, List, length, Option, refl, sym, ap, ◌∙◌, subst, arith, inl, inr}
use Rattle.cb_ptr.specs.Word.{state_of, len_of, pins_of}
use Rattle.cb_types.specs.declared.config.Config.{Config}
use Rattle.cb_types.specs.Config.{IsAccepted}
use Rattle.cb_types.specs.declared.reply.Reply.{Reply}
use Rattle.cb_types.specs.declared.reply.Reply.TheVariants as answer
use Rattle.cb_world.specs.declared.access.Access.{Access}
use Rattle.cb_world.specs.declared.object.Object.{Object}
use Rattle.cb_world.specs.declared.shown.Shown.{Shown}
use Rattle.cb_world.specs.FarState.{FarState}
use Rattle.cb_world.specs.Now.{is_gone}
use Rattle.cb_world.specs.Orders.{LeavesOrders, LeavesWords}
use Rattle.cb_world.specs.OpenWrites.{AreOpen}
use Rattle.cb_world.specs.Placed.{place_in}
use Rattle.cb_world.specs.Plain.{Words}
use Rattle.cb_world.specs.Played.{played}
use Rattle.cb_world.specs.Seats.{SeatState}
use Rattle.cb_world.specs.Shown.{Fits, object_at, never}
use Rattle.cb_world.specs.Still.{IsStill}
use Rattle.cb_world.specs.StillWords.{stamp_at}
use Rattle.cb_world.specs.World.{IsKnown, ArePinned, word_at}
use Rattle.cb_world.proofs.Laws.{found_exact, open_kept, open_same, orders_then, StaysIf, stays_same, PerformsStill, RunsStill, runs_still, stays_still, told_exact, words_stay}
use Rattle.cb_mutate.specs.Answered.{Answered}
use Rattle.cb_mutate.specs.MakeRule.{MakeRule, MakeEffect, NeedsNewSpan, new_word}
use Rattle.cb_mutate.specs.MakeStep.{IsMakeStep}
use Rattle.cb_mutate.specs.ReadRule.{ReadRule, ReadEffect}
use Rattle.cb_mutate.specs.FreeRule.{FreeEffect}
use Rattle.cb_mutate.specs.CallStep.{IsReadStep, with_seen, IsWriteStep, IsOverwritten, IsFreeStep, IsTakenOut}
use Rattle.cb_mutate.specs.StillReplies.{reply_as}
use Rattle.cb_mutate.specs.WriteRule.{WriteRule, WriteEffect}
use Rattle.cb_mutate.proofs.Laws.{free_step, make_step, free_leaves_words, free_stays, make_leaves_words, make_stays, read_step, failed_step, is_exact, ComesTo, comes, reply_comes, write_step}
use Rattle.cb_evict.specs.Evicting.{TouchesSpans}
use Rattle.cb_evict.specs.EvictEffect.{EvictEffect}
use Rattle.cb_evict.specs.EvictRule.{EvictRule}
use Rattle.cb_evict.specs.EvictStep.{IsEvictStep}
use Rattle.cb_evict.specs.Eviction.{CountsRule, reply_of}
use Rattle.cb_evict.proofs.Laws.{evict_keeps, rule_weaker, counted_step, evict_step, evict_stopped, evict_stays, evicts_leave_words}
use Rattle.cb_swapin.specs.Fetching.{far_given}
use Rattle.cb_swapin.specs.SwapStep.{IsSwapStep}
use Rattle.cb_swapin.proofs.Laws.{given_known, given_leaves_words, given_stays, swap_keeps, swap_leaves_words, swap_stays, swap_step}
use Rattle.cb_core.specs.Declining.{write_refusal}
use Rattle.cb_core.specs.Parts.{Holding, NeverDeclined}
use Rattle.cb_core.specs.Step.{StillMake, StillRead, StillWrite, StillFree, StillFind, StillDecline, StillEvict, StillRoom, StillSwap, StillMakeLacks, StillReadLacks, StillEvictLacks, StillSwapLacks}
use Rattle.cb_core.specs.Turned.{Makes, Reads, WritesObject, Frees, FindsWhere, Declines, Evicts, WinsRoom, Swaps, MakeLacks, ReadLacks, EvictLacks, SwapLacks, IsDeclined}
use Rattle.cb_core.proofs.Changes.{MayGo, read_leaves, write_leaves, free_leaves}
use Rattle.cb_core.proofs.KeptParts.{IsGood, Rises, Arrives, Carries, CarriesLack, arrives_more, arrives_same, arrives_stays, arrives_step}
use Rattle.cb_core.proofs.KeptPins.{seen_pinned, written_pinned, freed_pinned, new_pinned, no_pins}
pub use Rattle.cb_core.proofs.StillOrders.{Ran, SaysAll}
use Rattle.cb_core.proofs.StillOrders.{performs_orders}
use Rattle.cb_core.proofs.SwapRows.{swap_rows}
use Rattle.cb_core.proofs.TurnCallsKept.{same_holding}
use Rattle.cb_core.proofs.TurnCarries.{live_in_set}
use Rattle.cb_core.proofs.WordsOwned.{evict_words, free_words, make_words, read_words, write_words}
use Rattle.cb_core.proofs.WordsTold.{by_words, far_orders}

-- an operation that leaves the far state
without_far : (x y : Words) (far new : FarState) (rules : List Access → Type 0)
    (does : List Access → Shown → Shown → Type 0)
    → PerformsStill x y far new (λ es. (new ≡ far) × rules es) does
    → PerformsStill x y far new rules does
without_far x y far new rules does p = record {
  events = p.events;
  ran = p.ran;
  looks_first = p.looks_first;
  rule = p.rule.1;
  allowed = p.allowed;
  sound_after = p.sound_after;
  effect = p.effect;
}

-- the words of sets are left where nothing changed
same_left : (far new : FarState) → new ≡ far → LeavesWords far new
same_left far new same = subst (LeavesWords far) (sym same) (words_stay far)

-- ---- the calls on objects in local memory
read_kept : (c : Config) (seats : List SeatState) (h : ℕ) (a b : Holding Words) (r : Reply)
    (t : Shown) (Z : Type 0) → (good : IsGood c seats a) → b.far ≡ a.far → IsReadStep a.desk b.desk h r
    → IsKnown b.desk b.far t → AreOpen b.desk b.far seats → LeavesOrders good.shown a.far t b.far
    → Z → Arrives c seats 1 a b Z
read_kept c seats h a b r t Z good same step known ongoing orders z =
    go (read_leaves a.desk b.desk h r step)
  where
    stays : StaysIf c 1 a.far b.far
    stays = stays_same c 1 a.far b.far (omega arith) same

    go : (b.desk ≡ a.desk) ⊎ (b.desk ≡ with_seen a.desk h) → Arrives c seats 1 a b Z
    go (inl e) = arrives_stays c seats 1 a b t Z good stays known (ap (λ (x : Words). x.settings) e)
        (subst (λ (x : Words). ArePinned x seats) (sym e) good.pinned) ongoing orders z
    go (inr e) = arrives_stays c seats 1 a b t Z good stays known (ap (λ (x : Words). x.settings) e)
        (subst (λ (x : Words). ArePinned x seats) (sym e) (seen_pinned a.desk seats h good.pinned))
        ongoing orders z

pub read_part : (c : Config) (seats : List SeatState) (h : ℕ)
    → Carries c seats 1 (Reads Ran SaysAll h) (StillRead h)
read_part c seats h a b r good p =
    let q = without_far a.desk b.desk a.far b.far (ReadRule h r) (ReadEffect h r) p in
    let z = read_step a.desk b.desk a.far b.far good.shown h r good.known q in
    read_kept c seats h a b r _ (StillRead h a r b) good p.rule.0 z.0 z.1
    (open_kept a.desk b.desk a.far b.far (ReadRule h r) (ReadEffect h r) good.shown seats good.known q
    good.ongoing)
    (performs_orders a b p (λ s k. same_left a.far b.far p.rule.0)
    (by_words a.far b.far p.events (ReadEffect h r) (read_words h a.far b.far r p.events))
    good.shown _ good.known z.1)
    (z.0, p.rule.0)

pub write_part : (c : Config) (seats : List SeatState) (h at : ℕ) (bytes : List ℕ)
    → Carries c seats 1 (WritesObject Ran SaysAll h at bytes) (StillWrite h at bytes)
write_part c seats h at bytes a b r good p =
    let q = without_far a.desk b.desk a.far b.far (WriteRule h at bytes r) (WriteEffect h at bytes r) p in
    let z = write_step a.desk b.desk a.far b.far good.shown h at bytes r good.known q in
    go _ z.0 z.1 (write_leaves a.desk b.desk h at bytes r z.0)
  where
    stays : StaysIf c 1 a.far b.far
    stays = stays_same c 1 a.far b.far (omega arith) p.rule.0

    ongoing : AreOpen b.desk b.far seats
    ongoing = open_kept a.desk b.desk a.far b.far (WriteRule h at bytes r) (WriteEffect h at bytes r)
        good.shown seats good.known (without_far a.desk b.desk a.far b.far (WriteRule h at bytes r)
        (WriteEffect h at bytes r) p) good.ongoing

    orders : (t : Shown) → IsKnown b.desk b.far t → LeavesOrders good.shown a.far t b.far
    orders t known = performs_orders a b p (λ s k. same_left a.far b.far p.rule.0)
        (by_words a.far b.far p.events (WriteEffect h at bytes r)
        (write_words h at bytes a.far b.far r p.events)) good.shown t good.known known

    go : (t : Shown) → IsWriteStep a.desk b.desk h at bytes r → IsKnown b.desk b.far t
        → (b.desk ≡ a.desk) ⊎ ((pins_of (word_at a.desk h) ≡ 0)
        × ((n : ℕ) × IsOverwritten a.desk b.desk h n at bytes))
        → Arrives c seats 1 a b (StillWrite h at bytes a r b)
    go t step known (inl e) =
        arrives_stays c seats 1 a b t (StillWrite h at bytes a r b) good stays known
        (ap (λ (x : Words). x.settings) e)
        (subst (λ (x : Words). ArePinned x seats) (sym e) good.pinned) ongoing (orders t known)
        (step, p.rule.0)
    go t step known (inr (free, (n, o))) =
        arrives_stays c seats 1 a b t (StillWrite h at bytes a r b) good stays known
        (ap (λ (x : Words). x.settings) o.left)
        (subst (λ (x : Words). ArePinned x seats) (sym o.left)
        (written_pinned a.desk seats h n o.words good.pinned free)) ongoing (orders t known)
        (step, p.rule.0)

pub free_part : (c : Config) (seats : List SeatState) (h : ℕ)
    → Carries c seats 1 (Frees Ran SaysAll h) (StillFree h)
free_part c seats h a b r good p =
    let z = free_step a.desk b.desk a.far b.far good.shown h r good.known p in
    go _ z.0 z.1 (free_leaves a.desk b.desk a.far b.far h r z.0)
  where
    go : (t : Shown) → IsFreeStep a.desk b.desk a.far b.far h r → IsKnown b.desk b.far t
        → ((b.desk ≡ a.desk) × (b.far ≡ a.far)) ⊎ (MayGo (word_at a.desk h)
        × ((n : ℕ) × IsTakenOut a.desk b.desk a.far b.far h n))
        → Arrives c seats 1 a b (StillFree h a r b)
    go t step known (inl (e, same)) =
        arrives_same c seats 1 a b (StillFree h a r b) good (same_holding a b e same) step
    go t step known (inr (may, (n, o))) =
        arrives_stays c seats 1 a b t (StillFree h a r b) good
        (free_stays c h a.far b.far r p.events p.rule) known (ap (λ (x : Words). x.settings) o.left)
        (subst (λ (x : Words). ArePinned x seats) (sym o.left)
        (freed_pinned a.desk seats h n good.pinned (no_pins a.desk seats h good.pinned may)))
        (open_kept a.desk b.desk a.far b.far _ _ good.shown seats good.known p good.ongoing)
        (performs_orders a b p (λ s k. free_leaves_words s h a.far b.far r p.events k.sound p.rule)
        (by_words a.far b.far p.events (FreeEffect h r) (free_words h a.far b.far r p.events))
        good.shown t good.known known) step

-- the next handle has an empty word, without pins
pub next_free : (x : Words) (far : FarState) (s : Shown) → IsKnown x far s
    → far.made < x.settings.handles → pins_of (word_at x far.made) ≡ 0
next_free x far s k more =
    let h = far.made in
    let below : h < length x.words = (let n = k.sized.words in omega (arith, more, n)) in
    let lt : h < length s.objects = (let n = k.shows.objects in omega (arith, below, n)) in
    let never_made : object_at s h ≡ never = (k.sound.here.known.made h lt).0 (omega arith) in
    let fit = subst (λ (o : Object). Fits o (word_at x h)) never_made (k.shows.fit h below) in
    ap pins_of fit

new_pins : (len place : ℕ) → pins_of (new_word len place) ≡ 0
new_pins len place = omega arith

pub make_part : (c : Config) (seats : List SeatState) (bytes : List ℕ)
    → Carries c seats 1 (Makes Ran SaysAll c bytes) (StillMake bytes)
make_part c seats bytes a b r good p =
    let q = subst (λ (d : Config). PerformsStill a.desk b.desk a.far b.far
    (MakeRule d.handles bytes a.far b.far r) (MakeEffect bytes a.far b.far r)) (sym good.settings) p in
    let z = make_step a.desk b.desk a.far b.far good.shown bytes r good.known q in
    go (open_kept a.desk b.desk a.far b.far _ _ good.shown seats good.known q good.ongoing) _ z.0 z.1 z.0
  where
    go : AreOpen b.desk b.far seats → (t : Shown) → StillMake bytes a r b → IsKnown b.desk b.far t
        → IsMakeStep a.desk b.desk a.far b.far bytes r → Arrives c seats 1 a b (StillMake bytes a r b)
    go ongoing t step known (inl (made, reply, e, same)) =
        arrives_same c seats 1 a b (StillMake bytes a r b) good (same_holding a b e same) step
    go ongoing t step known (inr (more, inl (crammed, reply, e, same))) =
        arrives_same c seats 1 a b (StillMake bytes a r b) good (same_holding a b e same) step
    go ongoing t step known (inr (more, inr (reply, z))) =
        arrives_stays c seats 1 a b t (StillMake bytes a r b) good
        (make_stays c c.handles bytes a.far b.far r p.events p.rule) known (ap (λ (x : Words). x.settings) z.left)
        (subst (λ (x : Words). ArePinned x seats) (sym z.left)
        (new_pinned a.desk seats a.far.made a.far.first (length bytes) (place_in z.slot) z.words
        good.pinned (next_free a.desk a.far good.shown good.known more)
        (new_pins (length bytes) (place_in z.slot)))) ongoing
        (performs_orders a b p (λ s k. make_leaves_words c.handles bytes a.far b.far r p.events p.rule)
        (by_words a.far b.far p.events (MakeEffect bytes a.far b.far r)
        (make_words bytes a.far b.far r p.events)) good.shown t good.known known) step

-- ---- looks at an object
pub find_part : (c : Config) (seats : List SeatState) (h : ℕ)
    → Carries c seats 1 (FindsWhere Ran SaysAll h) (StillFind h)
find_part c seats h a b r good p =
    arrives_same c seats 1 a b (StillFind h a r b) good same (reply, same)
  where
    x : Words
    x = a.desk

    rules : List Access → Type 0
    rules es = Answered (λ w. r ≡ answer.Stays) h es r

    q : PerformsStill a.desk b.desk a.far b.far rules IsStill
    q = without_far a.desk b.desk a.far b.far rules IsStill p

    runs : RunsStill a.desk b.desk a.far good.shown q.events
    runs = runs_still a.desk b.desk a.far b.far rules IsStill good.shown good.known q

    same : b ≡ a
    same = same_holding a b (stays_still a.desk b.desk a.far good.shown q.events runs
        (q.effect good.shown ((good.known.sized, good.known.shows), good.known.sound))) p.rule.0

    reply : r ≡ reply_as (state_of (word_at a.desk h)) (stamp_at a.desk h) answer.Stays
    reply = let exact = is_exact a.desk b.desk h q.events q.ran.0 q.looks_first q.rule.settles_last in
        let w = q.rule.word in
        let z : ComesTo (λ _. Unit {0}) (λ _. Unit {0}) r
        (reply_as (state_of w) (stamp_at a.desk h) answer.Stays) =
        reply_comes (λ _. Unit {0}) (λ _. Unit {0}) (state_of w) (λ w. r ≡ answer.Stays) answer.Stays w h
        (stamp_at a.desk h) q.events r
        (record { unmade = λ u. u; freed = λ u. u; not_here = λ u. u; moving = λ u. u })
        exact.told
        (λ here e. comes (λ _. Unit {0}) (λ _. Unit {0}) r answer.Stays e tt (λ u. u)) q.rule.answer tt in
        z.reply ∙ ap (λ (v : ℕ). reply_as (state_of v) (stamp_at a.desk h) answer.Stays)
        (exact.found w q.rule.found)

pub never_part : (c : Config) (seats : List SeatState)
    → Carries c seats 1 NeverDeclined NeverDeclined
never_part c seats a b r good p = arrives_same c seats 1 a b (NeverDeclined a r b) good p.1 p

abbrev Refuses : ℕ → ℕ → Option Reply → Bool → ℕ → ℕ → Type 0
Refuses at count r lost w v = r ≡ write_refusal lost (len_of w) v at count

pub decline_part : (c : Config) (seats : List SeatState) (h at count : ℕ)
    → Carries c seats 1 (Declines Ran SaysAll h at count) (StillDecline h at count)
decline_part c seats h at count a b r good (far_same, p) =
    arrives_same c seats 1 a b (StillDecline h at count a r b) good same (by p.rule, same)
  where
    same : b ≡ a
    same = same_holding a b (stays_still a.desk b.desk a.far good.shown p.events
        (runs_still a.desk b.desk a.far b.far _ IsStill good.shown good.known p)
        (p.effect good.shown ((good.known.sized, good.known.shows), good.known.sound))) far_same

    by : IsDeclined h at count a.far r p.events → Refuses at count r (is_gone a.far h) (word_at a.desk h) (stamp_at a.desk h)
    by (inl (gone, none, nothing)) = subst (λ (g : Bool).
        Refuses at count r g (word_at a.desk h) (stamp_at a.desk h)) (sym gone) none
    by (inr (stays, (w, v, found, far_word, told, last, is))) =
        subst (λ (g : Bool). Refuses at count r g (word_at a.desk h) (stamp_at a.desk h)) (sym stays)
        (subst (λ (k : ℕ). Refuses at count r false k (stamp_at a.desk h))
        (sym (found_exact p.events a.desk b.desk h w p.ran.0 p.looks_first found))
        (subst (λ (k : ℕ). Refuses at count r false w k) (told_exact p.events a.desk b.desk h v p.ran.0 last told) is))

-- ---- what leaves and what comes in
pub evict_part : (c : Config) (seats : List SeatState) → IsAccepted c
    → Carries c seats 24 (Evicts Ran SaysAll c) StillEvict
evict_part c seats accepted a b r good p =
    let x = a.desk in let y = b.desk in let far = a.far in let new = b.far in
    let q = subst (λ (d : Config). PerformsStill x y far new (EvictRule far new r)
    (EvictEffect far new r)) (sym good.settings) p in
    arrives_step c seats 24 a b (IsEvictStep x y far new r) good
    (evict_stays c far new r p.events accepted p.rule) q
    (performs_orders a b p (λ s k. evicts_leave_words s far new r p.events k.sound p.rule)
    (by_words far new p.events (EvictEffect far new r) (evict_words far new r p.events p.rule))) (λ s k. evict_step x y far new r s q k)
    (λ z. (evict_keeps x y far new r z).words)

-- so is one that tells both counts
pub room_part : (c : Config) (seats : List SeatState) → IsAccepted c
    → Carries c seats 24 (WinsRoom Ran SaysAll c) StillRoom
room_part c seats accepted a b e good p =
    let x = a.desk in let y = b.desk in let far = a.far in let new = b.far in
    let q = subst (λ (d : Config). PerformsStill x y far new (CountsRule far new e)
    (EvictEffect far new (reply_of e))) (sym good.settings) p in
    let z = evict_part c seats accepted a b (reply_of e) good (rule_weaker _ _ _ (CountsRule far new e)
    (EvictRule far new (reply_of e)) (EvictEffect far new (reply_of e)) (λ es r. r.rule) p) in
    record {
      is = (counted_step x y far new e good.shown q good.known, z.is.1);
      good = z.good;
      rises = z.rises;
    }

pub swap_part : (c : Config) (seats : List SeatState) (h : ℕ)
    → Carries c seats 16 (Swaps Ran SaysAll h) (StillSwap h)
swap_part c seats h a b r good (home, at, p) =
    let x = a.desk in let y = b.desk in let far = a.far in let new = b.far in
    let id = home.set in let place = home.position in
    let z = arrives_step c seats 16 a b (IsSwapStep x y far new id place r) good
    (swap_stays c id place good.shown far new r p.events good.known.sound p.rule) p
    (performs_orders a b p
    (λ s k. swap_leaves_words s id place far new r p.events k.sound p.rule)
    (λ s before behind leaves agree first e. swap_rows id place p.rule.set s (played p.events s) far new
    r p.events before behind leaves p.rule.there
    (live_in_set s far h home p.rule.set before at p.rule.there) p.rule.reply e))
    (λ s k. swap_step x y far new id place r s p k)
    (λ z. (swap_keeps x y far new id place r good.shown good.known z).words) in
    arrives_more c seats 16 16 a b _ (StillSwap h a r b) (omega arith) z
    (home, at, z.is.0, z.is.1)

-- ---- want of memory
pub make_lack : (c : Config) (seats : List SeatState) (bytes : List ℕ)
    → CarriesLack c seats 1 (MakeLacks Ran c bytes) (StillMakeLacks bytes)
make_lack c seats bytes a b good p =
    let same = same_holding a b p.0.0 p.1 in
    arrives_same c seats 1 a b (StillMakeLacks bytes a b) good same
    (same, subst (λ (d : Config). NeedsNewSpan d.handles (length bytes) a.far) (sym good.settings) p.2)

pub read_lack : (c : Config) (seats : List SeatState) (h : ℕ)
    → CarriesLack c seats 1 (ReadLacks Ran SaysAll h) (StillReadLacks h)
read_lack c seats h a b good (same, p) =
    let z = failed_step a.desk b.desk a.far b.far good.shown h good.known p in
    let e = same_holding a b z.1 same in
    arrives_same c seats 1 a b (StillReadLacks h a b) good e (e, z.0)

pub evict_lack : (c : Config) (seats : List SeatState)
    → CarriesLack c seats 24 (EvictLacks Ran SaysAll) StillEvictLacks
evict_lack c seats a b good (same, p) =
    let q = subst (λ (f : FarState). PerformsStill a.desk b.desk a.far f (TouchesSpans a.far) IsStill)
    same p in
    let e = same_holding a b (evict_stopped a.desk b.desk a.far good.shown q good.known) same in
    arrives_same c seats 24 a b (StillEvictLacks a b) good e e

pub swap_lack : (c : Config) (seats : List SeatState) (h : ℕ)
    → CarriesLack c seats 16 (SwapLacks Ran h) (StillSwapLacks h)
swap_lack c seats h a b good (ran, (home, set, n, at, there, few, state)) =
    let same : b ≡ record { desk = a.desk; far = far_given a.far n } =
    same_holding _ b ran.0 state in
    let stays = given_stays c good.shown a.far home.set n set good.known.sound there few good.configured in
    record {
      is = (ran.0, (home, set, n, at, there, few, state));
      good = subst (IsGood c seats) (sym same) (record {
        settings = good.settings;
        configured = stays.configured;
        shown = good.shown;
        known = given_known a.desk a.far good.shown n good.known;
        pinned = good.pinned;
        ongoing = open_same a.desk a.far (far_given a.far n) good.shown seats good.known
            (given_known a.desk a.far good.shown n good.known) good.ongoing;
        orders = orders_then good.shown good.shown a.far (far_given a.far n) seats
            (far_orders good.shown a.far (far_given a.far n) good.known.sound
            (given_known a.desk a.far good.shown n good.known).sound
            (given_leaves_words a.far (far_given a.far n) n refl)) good.orders;
      });
      rises = subst (Rises 16 a.far) (sym state) stays.rises;
    }
