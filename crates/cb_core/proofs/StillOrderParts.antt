-- Each part of a turn that hands an order out or takes one, over a still desk, is a step and leaves all
-- known.
use Rattle.std.proofs.Common.{◌≡◌, ℕ, false, List, Option, None, Some, sym, ap, ◌∙◌, subst, arith, inl, inr}
use Rattle.cb_types.specs.declared.config.Config.{Config}
use Rattle.cb_types.specs.declared.job.Job.{Job}
use Rattle.cb_types.specs.declared.job.Job.TheVariants.{Fetch, Gather, Install, Land}
use Rattle.cb_types.specs.declared.order.Kept.{Kept}
use Rattle.cb_types.specs.declared.order.Kept.TheVariants.{Decode, Encode}
use Rattle.cb_types.specs.declared.reply.Reply.{Reply}
use Rattle.cb_types.specs.declared.reply.Reply.TheVariants as answer
use Rattle.cb_types.specs.Config.{IsAccepted}
use Rattle.cb_world.specs.declared.shown.Shown.{Shown}
use Rattle.cb_world.specs.FarState.{FarState}
use Rattle.cb_world.specs.Now.{now}
use Rattle.cb_world.specs.Orders.{KeepsOrder, LeavesWords}
use Rattle.cb_world.specs.Plain.{Words}
use Rattle.cb_world.specs.Played.{played}
use Rattle.cb_world.specs.Seats.{SeatState}
use Rattle.cb_world.specs.Sound.{Sound}
use Rattle.cb_world.specs.World.{ArePinned, IsKnown}
use Rattle.cb_world.proofs.Laws.{order_then, orders_then, StaysIf}
use Rattle.cb_evict.specs.Gathering.{GatherEffect, HandsOut, IsGatherStep, gathered_reply}
use Rattle.cb_evict.specs.InstallRule.{InstallStep}
use Rattle.cb_evict.proofs.Laws.{begins_leave_words, gather_keeps, gather_stays, gather_step, install_leaves_words, install_now, install_stays, installed_sound}
use Rattle.cb_swapin.specs.LandStep.{IsLandStep}
use Rattle.cb_swapin.proofs.Laws.{fetch_gives, fetch_leaves_words, fetch_sound, land_keeps, land_leaves_words, land_stays, land_step}
use Rattle.cb_core.specs.Ordered.{DoesWith, FetchesRows, Gathers, Installs, Lands, NothingDone, StopsWith}
use Rattle.cb_core.specs.OrderParts.{FetchesBy}
use Rattle.cb_core.specs.OrderParts.FetchesBy.{not_far, was_far}
use Rattle.cb_core.specs.Parts.{Holding, WithRoom, most_evictions}
use Rattle.cb_core.specs.Step.{HoldOn, StillFetch, StillGather, StillInstall, StillLand, StillRoom, StillEvictLacks, StillWith, still_order_lacks, still_orders}
use Rattle.cb_core.specs.OrderParts.{StopsWithBy}
use Rattle.cb_core.specs.Turned.{EvictLacks, WinsRoom}
use Rattle.cb_core.proofs.Carried.{itself, room_stops, turn_rise, with_room}
use Rattle.cb_core.proofs.KeptParts.{Arrives, Carries, CarriesLack, IsGood, arrives_more, arrives_same, arrives_step, arrives_then, good_along}
use Rattle.cb_core.proofs.OrdersLeave.{land_rows, rows_stay}
use Rattle.cb_core.proofs.StillFarJobs.{known_after, open_after}
use Rattle.cb_core.proofs.StillOrders.{Ran, SaysAll, known_alike, performs_orders}
use Rattle.cb_core.proofs.StillParts.{evict_lack, find_part, room_part}
use Rattle.cb_core.proofs.TurnCallsKept.{same_holding}
use Rattle.cb_core.proofs.WordsOwned.{begin_words}
use Rattle.cb_core.proofs.WordsTold.{by_words, far_orders}

-- ---- a gather
pub gather_part : (c : Config) (seats : List SeatState)
    → Carries c seats 1 (Gathers Ran SaysAll) StillGather
gather_part c seats a b g good p =
    let x = a.desk in let y = b.desk in let far = a.far in let new = b.far in
    let reply = gathered_reply g in
    arrives_step c seats 1 a b (IsGatherStep x y far new g) good
    (gather_stays c far new g p.events p.rule) p
    (performs_orders a b p (λ s k. begins_leave_words s far new false (HandsOut far g) reply p.events
    k.sound p.rule)
    (by_words far new p.events (GatherEffect far new g) (λ s before behind agree first e. begin_words far new false
    (HandsOut far g) reply p.events p.rule s before behind agree first e.did)))
    (λ s k. gather_step x y far new g s p k) (λ z. (gather_keeps x y far new g z).words)

-- ---- a landing
pub land_part : (c : Config) (seats : List SeatState) (order : Option Kept)
    → Carries c seats 16 (Lands Ran SaysAll order) (StillLand order)
land_part c seats order a b r good p =
    let x = a.desk in let y = b.desk in let far = a.far in let new = b.far in
    arrives_step c seats 16 a b (IsLandStep x y far new order r) good
    (land_stays c order far new r p.events p.rule) p
    (performs_orders a b p (λ s k. land_leaves_words s order far new r p.events k.sound p.rule)
    (λ s before behind leaves agree first e. land_rows order s (played p.events s) far new r p.events
    before behind leaves p.rule e))
    (λ s k. land_step x y far new order r s p k)
    (λ z. (land_keeps x y far new order r good.shown good.known z).words)

-- a part that changes nothing where it finds no memory
pub nothing_lack : (c : Config) (seats : List SeatState) (n : ℕ)
    → CarriesLack c seats n (NothingDone Ran) StillEvictLacks
nothing_lack c seats n a b good (ran, same) =
    let e = same_holding a b ran.0 same in arrives_same c seats n a b (StillEvictLacks a b) good e e

-- ---- the far state alone
-- a change of it that keeps all sound, whoever knows, and what every object holds
pub far_hold : (c : Config) (seats : List SeatState) (n : ℕ) (a b : Holding Words)
    → (good : IsGood c seats a) → b.desk ≡ a.desk → StaysIf c n a.far b.far
    → ((s : Shown) → IsKnown a.desk a.far s → Sound s b.far) → LeavesWords a.far b.far
    → ((s : Shown) (h : ℕ) → now s b.far h ≡ now s a.far h)
    → Arrives c seats n a b (HoldOn a b)
far_hold c seats n a b good same stays sound leaves still =
    let x = stays good.configured in record {
      is = λ s k. (
        s,
        known_after a b s same k (sound s k),
        still s,
        (λ others ongoing. open_after a b s others same k (sound s k) ongoing),
        far_orders s a.far b.far k.sound (sound s k) leaves,
      );
      good = record {
        settings = ap (λ (x : Words). x.settings) same ∙ good.settings;
        configured = x.configured;
        shown = good.shown;
        known = known_after a b good.shown same good.known (sound good.shown good.known);
        pinned = subst (λ (x : Words). ArePinned x seats) (sym same) good.pinned;
        ongoing = open_after a b good.shown seats same good.known (sound good.shown good.known)
            good.ongoing;
        orders = orders_then good.shown good.shown a.far b.far seats
            (far_orders good.shown a.far b.far good.known.sound (sound good.shown good.known) leaves)
            good.orders;
      };
      rises = x.rises;
    }

pub rows_part : (c : Config) (seats : List SeatState) (h : ℕ)
    → Carries c seats 16 (FetchesRows Ran h) (StillFetch h)
rows_part c seats h a b g good (home, at, ran, step) =
    let gives = fetch_gives good.shown home.set home.position a.far b.far g good.known.sound step in
    let z = far_hold c seats 16 a b good ran.0
    (rows_stay c good.shown home.set home.position a.far b.far g good.known.sound step).0
    (λ s k. fetch_sound s home.set home.position a.far b.far g step k.sound)
    (fetch_leaves_words good.shown home.set home.position a.far b.far g good.known.sound step)
    (λ s k. ap (λ (f : FarState). now s f k) gives.2) in
    arrives_more c seats 16 16 a b (HoldOn a b) (StillFetch h a g b) (omega arith) z
    (home, at, ran.0, step, z.is)

-- an install of what a seat keeps leaves all sound, where it is kept
pub install_sound : (s : Shown) (far new : FarState) (r : Reply) (order keeps : Option Kept)
    → InstallStep far new r order keeps → KeepsOrder s far order → Sound s far → Sound s new
install_sound s far new r None keeps x kept sound = subst (Sound s) (sym x.0.state) sound
install_sound s far new r (Some (Decode o)) keeps x kept sound =
    subst (Sound s) (sym x.0.state) sound
install_sound s far new r (Some (Encode o)) keeps (inl x) kept sound =
    subst (Sound s) (sym x.0.state) sound
install_sound s far new r (Some (Encode o)) keeps (inr (inl x)) kept sound =
    subst (Sound s) (sym x.0.state) sound
install_sound s far new r (Some (Encode o)) keeps (inr (inr x)) kept sound = let z = x.0 in
    subst (Sound s) (sym z.state) (installed_sound s far z.batch o z.parities (record {
      sound = sound;
      there = z.there;
      same = z.same;
      kept = kept;
      encoded = z.encoded;
    }) z.bytes)

pub install_part : (c : Config) (seats : List SeatState) (order keeps : Option Kept)
    (a b : Holding Words) (r : Reply) → (good : IsGood c seats a) → KeepsOrder good.shown a.far order
    → Installs Ran order a r keeps b → Arrives c seats 1 a b (StillInstall order a r keeps b)
install_part c seats order keeps a b r good kept (ran, step) =
    let z = far_hold c seats 1 a b good ran.0 (install_stays c a.far b.far r order keeps step)
    (λ s k. install_sound s a.far b.far r order keeps step
    (order_then good.shown s a.far a.far order (known_alike a.desk a.far good.shown s good.known k) kept)
    k.sound)
    (install_leaves_words a.far b.far r order keeps step)
    (λ s h. install_now s a.far b.far r order keeps step h) in
    arrives_more c seats 1 1 a b (HoldOn a b) (StillInstall order a r keeps b) (omega arith) z
    (ran.0, step, z.is)

-- ---- the jobs
module _ (c : Config) (seats : List SeatState) (accepted : IsAccepted c) where
  frames_same : (a : Holding Words) → IsGood c seats a → c.frames ≡ a.desk.settings.frames
  frames_same a good = sym (ap (λ (d : Config). d.frames) good.settings)

  fetches : (h : ℕ) (order keeps : Option Kept) (a b : Holding Words) (r : Reply)
      → IsGood c seats a → DoesWith Ran SaysAll c (Fetch (record { n = h })) order a r keeps b
      → Arrives c seats 17 a b (FetchesBy still_orders h order a r keeps b)
  fetches h order keeps a b r good (not_far find off same) =
      let z = find_part c seats h a b r good find in
      arrives_more c seats 1 17 a b _ (FetchesBy still_orders h order a r keeps b) (omega arith) z
      (not_far z.is off same)
  fetches h order keeps a b r good (was_far m g find rows reply same) =
      let z = find_part c seats h a m answer.NotHere good find in
      let y = rows_part c seats h m b g z.good rows in
      arrives_then c seats 1 16 17 a m b _ _ (FetchesBy still_orders h order a r keeps b)
      (omega arith) z y (was_far m g z.is y.is reply same)

  lands : (order : Option Kept) → Carries c seats turn_rise
      (WithRoom c.frames (Lands Ran SaysAll order) (WinsRoom Ran SaysAll c) most_evictions)
      (WithRoom c.frames (StillLand order) StillRoom most_evictions)
  lands order = with_room itself (IsGood c seats) (Arrives c seats) (good_along c seats)
      c.frames 16 24 (Lands Ran SaysAll order) (StillLand order) (WinsRoom Ran SaysAll c) StillRoom
      (land_part c seats order) (room_part c seats accepted) most_evictions turn_rise (omega arith)

  pub ordered_part : (job : Job) (order keeps : Option Kept) (a b : Holding Words) (r : Reply)
      → (good : IsGood c seats a) → KeepsOrder good.shown a.far order
      → DoesWith Ran SaysAll c job order a r keeps b
      → Arrives c seats turn_rise a b (StillWith job order a r keeps b)
  ordered_part Gather order keeps a b r good kept (g, p, reply, same) =
      let z = gather_part c seats a b g good p in
      arrives_more c seats 1 turn_rise a b _ (StillWith Gather order a r keeps b) (omega arith) z
      (g, z.is, reply, same)
  ordered_part Install order keeps a b r good kept p =
      let z = install_part c seats order keeps a b r good kept p in
      arrives_more c seats 1 turn_rise a b _ (StillWith Install order a r keeps b) (omega arith) z z.is
  ordered_part (Fetch handle) order keeps a b r good kept p =
      let z = fetches handle.n order keeps a b r good p in
      arrives_more c seats 17 turn_rise a b _ (StillWith (Fetch handle) order a r keeps b)
      (omega arith) z z.is
  ordered_part Land order keeps a b r good kept (p, same) =
      let z = lands order a b r good p in
      arrives_more c seats turn_rise turn_rise a b _ (StillWith Land order a r keeps b) (omega arith) z (
        subst (λ (n : ℕ). WithRoom n (StillLand order) StillRoom most_evictions a r b)
            (frames_same a good) z.is,
        same,
      )
  ordered_part job order keeps a b r good kept p = absurd p

  -- want of memory
  pub ordered_lack : (job : Job) (order : Option Kept) (a b : Holding Words) → IsGood c seats a
      → StopsWith Ran SaysAll c job order a b
      → Arrives c seats turn_rise a b (StopsWithBy still_orders still_order_lacks job order a b)
  ordered_lack Gather order a b good p = let z = evict_lack c seats a b good p in
      arrives_more c seats 24 turn_rise a b _ _ (omega arith) z z.is
  ordered_lack (Fetch handle) order a b good (m, find, lacks) =
      let z = find_part c seats handle.n a m answer.NotHere good find in
      let y = nothing_lack c seats 1 m b z.good lacks in
      arrives_then c seats 1 1 turn_rise a m b _ _ _ (omega arith) z y (m, z.is, y.is)
  ordered_lack Land order a b good p = room_stops itself (IsGood c seats) (Arrives c seats)
      (good_along c seats) 16 24 (Lands Ran SaysAll order) (StillLand order) (WinsRoom Ran SaysAll c) StillRoom
      (NothingDone Ran) (EvictLacks Ran SaysAll) StillEvictLacks StillEvictLacks (land_part c seats order)
      (nothing_lack c seats 16) (room_part c seats accepted) (evict_lack c seats) most_evictions
      turn_rise (omega arith) a b good p
  ordered_lack job order a b good p = absurd p
