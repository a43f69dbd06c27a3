-- What a turn that hands an order out, or takes one, leaves over any desk.
use Rattle.std.proofs.Common.{◌≡◌, ℕ, ◌+◌, ◌^◌, ◌<◌, true, false, List, [], length, Option, None, Some, refl, sym, ap, ◌∙◌, subst, arith, inl, inr}
use Rattle.std.specs.Option.{option_map_or}
use Rattle.cb_set.specs.SetState.{SetState, live_at}
use Rattle.cb_types.specs.declared.config.Config.{Config}
use Rattle.cb_types.specs.Config.{IsAccepted}
use Rattle.cb_types.specs.declared.handle.Handle.{Handle}
use Rattle.cb_types.specs.declared.job.Job.TheVariants.{Fetch, Gather, Land}
use Rattle.cb_types.specs.declared.handle.SetId.{SetId}
use Rattle.cb_types.specs.declared.order.DecodeOrder.{DecodeOrder}
use Rattle.cb_types.specs.declared.order.Kept.{Kept}
use Rattle.cb_types.specs.declared.order.Kept.TheVariants.{Decode, Encode}
use Rattle.cb_types.specs.declared.reply.Reply.{Reply}
use Rattle.cb_types.specs.declared.reply.Reply.TheVariants as answer
use Rattle.cb_world.specs.declared.access.Access.{Access}
use Rattle.cb_world.specs.declared.shown.Shown.{Shown}
use Rattle.cb_world.specs.FarState.{FarState}
use Rattle.cb_world.specs.FarSound.{rows_in}
use Rattle.cb_world.specs.Orders.{KeepsOrder, LeavesOrders, LeavesWords}
use Rattle.cb_world.specs.Played.{played}
use Rattle.cb_world.specs.Sets.{set_in}
use Rattle.cb_world.specs.Sound.{Sound}
use Rattle.cb_world.specs.World.{AreCounted}
use Rattle.cb_world.proofs.Laws.{orders_left, recounted_sound, StaysIf, stays_same, words_stay}
use Rattle.cb_evict.specs.declared.gathering.Gathered.{Gathered}
use Rattle.cb_evict.specs.declared.gathering.Gathered.TheVariants as gathered
use Rattle.cb_evict.specs.Gathering.{GatherEffect, GatherRule, HandsOut, gathered_order, gathered_reply}
use Rattle.cb_evict.proofs.Laws.{begins_leave_words, gather_stays, gather_unwritten}
use Rattle.cb_swapin.specs.declared.fetching.Fetching.{Fetching}
use Rattle.cb_swapin.specs.declared.fetching.Fetching.TheVariants as fetching
use Rattle.cb_swapin.specs.FetchStep.{FetchFar, FetchStep, fetching_order}
use Rattle.cb_swapin.specs.LandEffect.{LandEffect, LandsRow}
use Rattle.cb_swapin.specs.LandRule.{LandRule, live_in}
use Rattle.cb_swapin.proofs.Laws.{fetch_leaves_words, given_stays, land_leaves_words, land_stays, land_unwritten, lands_swaps}
use Rattle.cb_core.specs.Ordered.{FetchRun, FetchStops, FetchesRows, Gathers, Lands, NothingDone, not_far, was_far}
use Rattle.cb_core.specs.OrderLeaves.{HandsOrder}
use Rattle.cb_core.specs.Parts.{Holding, RoomStops, WithRoom, most_evictions}
use Rattle.cb_core.specs.TurnLeaves.{TurnLeaves}
use Rattle.cb_core.specs.Turned.{EvictLacks, WinsRoom, counted, once_counted}
use Rattle.cb_core.proofs.Carried.{turn_rise}
use Rattle.cb_core.proofs.Counting.{counted_sound}
use Rattle.cb_core.proofs.OrdersCounted.{still_kept}
use Rattle.cb_core.proofs.SwapRows.{swap_rows}
use Rattle.cb_core.proofs.TurnCarries.{evict_lacks, finds, in_job, nil_quiet, same_leaves, wins}
use Rattle.cb_core.proofs.TurnComes.{AreLaws, CarriesNoWrites, CarriesWrites, Good, Nil, WritesNothing, comes_far, comes_none, good_then, room_stops, then_none, with_room}
use Rattle.cb_core.proofs.WordsOwned.{begin_words}
use Rattle.cb_core.proofs.WordsTold.{KeepsBatch, KeepsRows, by_words}
use Rattle.cb_core.proofs.TurnLeft.{counted_good, counted_leaves, refused_leaves}

-- ---- the orders that are handed out
gather_kept : (g : Gathered) (far new : FarState) (es : List Access) (s t : Shown)
    → GatherEffect far new g es s t → KeepsOrder t new (gathered_order None g)
gather_kept (gathered.Order o) far new es s t x = x.kept o refl
gather_kept (gathered.Answer r) far new es s t x = tt

-- what an order to decode says, it says of the far state alone
fetch_kept : (g : Fetching) (far : FarState) (s t : Shown) → KeepsOrder s far (fetching_order None g)
    → KeepsOrder t far (fetching_order None g)
fetch_kept (fetching.Order o) far s t k = k
fetch_kept (fetching.Answer r) far s t k = tt

-- rows that are handed out are given out, and nothing else is done
pub rows_stay : (c : Config) (s : Shown) (id p : ℕ) (far new : FarState) (g : Fetching) → Sound s far
    → FetchStep id p far new g → StaysIf c 16 far new × Sound s new
rows_stay c s id p far new g sound x = by g x.state
  where
    by : (q : Fetching) → FetchFar far new id p x.set q → StaysIf c 16 far new × Sound s new
    by (fetching.Order o) z = (
      subst (StaysIf c 16 far) (sym z.state)
          (given_stays c s far id (length x.set.positions) x.set sound x.there (omega arith)),
      subst (Sound s) (sym z.state) (recounted_sound s far far.counts.turns far.counts.by_job
          (far.nodes.given + length x.set.positions) sound),
    )
    by (fetching.Answer r) z =
        (stays_same c 16 far new (omega arith) z.1, subst (Sound s) (sym z.1) sound)

-- a row that is landed leaves the rows of the batch
same_rows : (s t : Shown) (far new : FarState) → t ≡ s → KeepsRows s far t new
same_rows s t far new same b at below = ap (λ (u : Shown). rows_in u b.pages b.frames) same

live_there : (far : FarState) (id p : ℕ) (set : SetState) → set_in far.sets id ≡ Some set
    → live_in far id p ≡ true → live_at set p ≡ true
live_there far id p set there live =
    sym (ap (λ (m : Option SetState). option_map_or (λ c. live_at c p) m false) there) ∙ live

outdated_rows : (o : DecodeOrder) (s t : Shown) (far new : FarState) (r : Reply) (es : List Access)
    → (i : SetId) → r ≡ answer.Changed i → LandsRow o far new r es s t → KeepsRows s far t new
outdated_rows o s t far new r es i reply x = same_rows s t far new
    (subst (λ (q : Reply). LandsRow o far new q es s t) reply x)

pub land_rows : (order : Option Kept) (s t : Shown) (far new : FarState) (r : Reply) (es : List Access)
    → Sound s far → Sound t new → LeavesWords far new → LandRule order far new r es
    → LandEffect order far new r es s t → KeepsRows s far t new
land_rows None s t far new r es before behind leaves rule x = same_rows s t far new x
land_rows (Some (Encode o)) s t far new r es before behind leaves rule x = same_rows s t far new x
land_rows (Some (Decode o)) s t far new r es before behind leaves (inl z) x =
    outdated_rows o s t far new r es (record { n = o.set }) z.reply x
land_rows (Some (Decode o)) s t far new r es before behind leaves (inr z) x =
    swap_rows o.set o.position z.brings.set s t far new r es before behind leaves z.brings.there
    (live_there far o.set o.position z.brings.set z.brings.there z.live) z.brings.reply
    (lands_swaps o far new r es s t x)

module _ {D : Type 0} (run : D → List Access → D → Type 0) (shows : D → Shown → Type 0)
    (laws : AreLaws run shows) (c : Config) (accepted : IsAccepted c) where
  abbrev Hold : Type 0
  Hold = Holding D

  -- a turn that hands nothing out
  hands_none : (a b : Hold) → TurnLeaves run shows c a b WritesNothing
      → HandsOrder run shows c a b None
  hands_none a b z = record { leaves = z; kept = λ s shown sound. tt }

  -- ---- a gather
  gather_words : (a b : Hold) (g : Gathered) (s : Shown) → Sound s a.far
      → (es : List Access) → GatherRule a.far b.far g es → LeavesWords a.far b.far
  gather_words a b g s sound es rule = begins_leave_words s a.far b.far false (HandsOut a.far g)
      (gathered_reply g) es sound rule

  gather_rows : (a b : Hold) (g : Gathered) (es : List Access) → GatherRule a.far b.far g es
      → KeepsBatch a.far b.far es (GatherEffect a.far b.far g)
  gather_rows a b g es rule = by_words a.far b.far es (GatherEffect a.far b.far g)
      (λ s before behind agree first e. begin_words a.far b.far false (HandsOut a.far g)
      (gathered_reply g) es rule s before behind agree first e.did)

  gathers : CarriesWrites run shows laws c 1 Nil (Gathers run shows)
  gathers a b g good p = comes_none run shows laws c 1 a b _ _ good
      (λ s sound. gather_stays c a.far b.far g p.events p.rule)
      (λ s shown sound. gather_words a b g s sound p.events p.rule) p
      (gather_rows a b g p.events p.rule)
      (λ s e. gather_unwritten a.far b.far g p.events s (played p.events s) p.rule e)

  gather_orders : (a b : Hold) (g : Gathered) (p : Gathers run shows a g b) (s : Shown)
      → shows a.desk s → Sound s a.far → LeavesOrders s a.far (played p.events s) b.far
  gather_orders a b g p s shown sound =
      let behind = p.sound_after s (shown, sound) in
      let left = gather_words a b g s sound p.events p.rule in
      orders_left s (played p.events s) a.far b.far sound behind left
      (gather_rows a b g p.events p.rule s sound behind left
      (laws.agrees a.desk b.desk p.events s p.ran shown) p.looks_first (p.effect s (shown, sound)))

  pub gather_leaves : (a b : Hold) (g : Gathered) → Good shows c a → AreCounted a.far
      → a.far.counts.turns < 2 ^ 40 → Gathers run shows (once_counted a Gather) g b
      → HandsOrder run shows c a b (gathered_order None g)
  gather_leaves a b g good counts few p =
      let mid = once_counted a Gather in
      let z = counted_leaves run shows laws c accepted WritesNothing Gather a b counts few
      (in_job run shows laws c accepted WritesNothing 1 mid b (omega arith)
      (gathers mid b g (counted_good run shows laws c accepted Gather a good) p)) in
      let knows : (s : Shown) → Sound s a.far → Sound s mid.far =
      (λ s sound. counted_sound s a.far mid.far Gather refl sound) in record {
        leaves = record {
          events = p.events;
          ran = p.ran;
          configured = z.configured;
          codes = z.codes;
          counted = z.counted;
          next = z.next;
          after = λ s shown sound. record {
            sound = p.sound_after s (shown, knows s sound);
            orders = λ o kept. gather_orders mid b g p s shown (knows s sound) o
                (still_kept s a.far Gather o kept);
            more = [];
            wrote = refl;
            writes_them = gather_unwritten mid.far b.far g p.events s (played p.events s) p.rule
                (p.effect s (shown, knows s sound));
          };
        };
        kept = λ s shown sound. gather_kept g mid.far b.far p.events s (played p.events s)
            (p.effect s (shown, knows s sound));
      }

  pub gather_stops : (a b : Hold) → Good shows c a → AreCounted a.far
      → a.far.counts.turns < 2 ^ 40 → EvictLacks run shows (once_counted a Gather) b
      → HandsOrder run shows c a b None
  gather_stops a b good counts few p = let mid = once_counted a Gather in
      hands_none a b (counted_leaves run shows laws c accepted WritesNothing Gather a b counts few
      (in_job run shows laws c accepted WritesNothing 24 mid b (omega arith)
      (evict_lacks run shows laws c accepted mid b
      (counted_good run shows laws c accepted Gather a good) p)))

  -- a turn that is refused for its number
  pub worn_leaves : (a b : Hold) → Good shows c a → AreCounted a.far
      → a.far.counts.turns ≡ 2 ^ 40 → b.far ≡ a.far → run a.desk [] b.desk
      → TurnLeaves run shows c a b WritesNothing
  worn_leaves a b good counts end same ran = refused_leaves run shows laws c accepted Land a b
      answer.Worn good counts end refl same ran

  pub worn_hands : (a b : Hold) → Good shows c a → AreCounted a.far
      → a.far.counts.turns ≡ 2 ^ 40 → b.far ≡ a.far → run a.desk [] b.desk
      → HandsOrder run shows c a b None
  worn_hands a b good counts end same ran =
      hands_none a b (worn_leaves a b good counts end same ran)

  -- ---- a fetch
  rows_come : (h : ℕ) → CarriesWrites run shows laws c 16 Nil (FetchesRows run h)
  rows_come h a b g good (home, at, ran, step) = comes_far run shows laws c 16 a b good ran
      (λ s sound. rows_stay c s home.set home.position a.far b.far g sound step)
      (λ s sound. fetch_leaves_words s home.set home.position a.far b.far g sound step)

  fetch_comes : (h : ℕ) → CarriesWrites run shows laws c 17 Nil (FetchRun run shows h)
  fetch_comes h a b g good (not_far r is find off) =
      then_none run shows laws c 1 1 17 a b b (omega arith) (finds run shows laws c accepted h a b r good find)
      (comes_far run shows laws c 1 b b (good_then run shows laws c 1 WritesNothing a b good
      (finds run shows laws c accepted h a b r good find)) (laws.none b.desk)
      (λ s sound. (stays_same c 1 b.far b.far (omega arith) refl, sound))
      (λ s sound. words_stay b.far))
  fetch_comes h a b g good (was_far m find rows) =
      let z = finds run shows laws c accepted h a m answer.NotHere good find in
      then_none run shows laws c 1 16 17 a m b (omega arith) z
      (rows_come h m b g (good_then run shows laws c 1 WritesNothing a m good z) rows)

  fetch_lacks : (h : ℕ) → CarriesNoWrites run shows laws c 17 (FetchStops run shows h)
  fetch_lacks h a b good (m, find, (ran, same)) =
      let z = finds run shows laws c accepted h a m answer.NotHere good find in
      then_none run shows laws c 1 1 17 a m b (omega arith) z
      (comes_far run shows laws c 1 m b (good_then run shows laws c 1 WritesNothing a m good z) ran
      (λ s sound. (stays_same c 1 m.far b.far (omega arith) same, subst (Sound s) (sym same) sound))
      (λ s sound. same_leaves m.far b.far same))

  pub fetch_leaves : (h : Handle) (a b : Hold) (g : Fetching) → Good shows c a → AreCounted a.far
      → a.far.counts.turns < 2 ^ 40 → FetchRun run shows h.n (once_counted a (Fetch h)) g b
      → ((s : Shown) → Sound s (counted a.far (Fetch h)) → KeepsOrder s b.far (fetching_order None g))
      → HandsOrder run shows c a b (fetching_order None g)
  fetch_leaves h a b g good counts few x kept = let mid = once_counted a (Fetch h) in record {
    leaves = counted_leaves run shows laws c accepted WritesNothing (Fetch h) a b counts few
        (in_job run shows laws c accepted WritesNothing 17 mid b (omega arith)
        (fetch_comes h.n mid b g (counted_good run shows laws c accepted (Fetch h) a good) x));
    kept = λ s shown sound. fetch_kept g b.far s _
        (kept s (counted_sound s a.far (counted a.far (Fetch h)) (Fetch h) refl sound));
  }

  pub fetch_stops : (h : Handle) (a b : Hold) → Good shows c a → AreCounted a.far
      → a.far.counts.turns < 2 ^ 40 → FetchStops run shows h.n (once_counted a (Fetch h)) b
      → HandsOrder run shows c a b None
  fetch_stops h a b good counts few x = let mid = once_counted a (Fetch h) in
      hands_none a b (counted_leaves run shows laws c accepted WritesNothing (Fetch h) a b counts few
      (in_job run shows laws c accepted WritesNothing 17 mid b (omega arith)
      (fetch_lacks h.n mid b (counted_good run shows laws c accepted (Fetch h) a good) x)))

  -- ---- a landing
  lands : (order : Option Kept) → CarriesWrites run shows laws c 16 Nil (Lands run shows order)
  lands order a b r good p = comes_none run shows laws c 16 a b _ _ good
      (λ s sound. land_stays c order a.far b.far r p.events p.rule)
      (λ s shown sound. land_leaves_words s order a.far b.far r p.events sound p.rule) p
      (λ s before behind leaves agree first e. land_rows order s (played p.events s) a.far b.far r
      p.events before behind leaves p.rule e)
      (λ s e. land_unwritten order a.far b.far r p.events s (played p.events s) p.rule e)

  land_lacks : CarriesNoWrites run shows laws c 16 (NothingDone run)
  land_lacks a b good (ran, same) = comes_far run shows laws c 16 a b good ran
      (λ s sound. (stays_same c 16 a.far b.far (omega arith) same, subst (Sound s) (sym same) sound))
      (λ s sound. same_leaves a.far b.far same)

  pub land_leaves : (order : Option Kept) (a b : Hold) (r : Reply) → Good shows c a
      → AreCounted a.far → a.far.counts.turns < 2 ^ 40
      → WithRoom c.frames (Lands run shows order) (WinsRoom run shows c) most_evictions
      (once_counted a Land) r b → TurnLeaves run shows c a b WritesNothing
  land_leaves order a b r good counts few x = let mid = once_counted a Land in
      counted_leaves run shows laws c accepted WritesNothing Land a b counts few
      (with_room run shows laws c Nil (nil_quiet answer.NoFrame) c.frames (λ loose nodes. refl) 16 24
      (Lands run shows order) (WinsRoom run shows c) (lands order) (wins run shows laws c accepted)
      most_evictions turn_rise (omega arith) mid b r
      (counted_good run shows laws c accepted Land a good) x)

  pub land_stops : (order : Option Kept) (a b : Hold) → Good shows c a
      → AreCounted a.far → a.far.counts.turns < 2 ^ 40
      → RoomStops (Lands run shows order) (NothingDone run) (WinsRoom run shows c)
      (EvictLacks run shows) most_evictions (once_counted a Land) b
      → TurnLeaves run shows c a b WritesNothing
  land_stops order a b good counts few x = let mid = once_counted a Land in
      counted_leaves run shows laws c accepted WritesNothing Land a b counts few
      (room_stops run shows laws c Nil (nil_quiet answer.NoFrame) 16 24 (Lands run shows order)
      (WinsRoom run shows c) (NothingDone run) (EvictLacks run shows) (lands order) land_lacks
      (wins run shows laws c accepted) (evict_lacks run shows laws c accepted) most_evictions turn_rise
      (omega arith) mid b (counted_good run shows laws c accepted Land a good) x)
