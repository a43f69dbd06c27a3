-- A turn over the still desk is a step of the world, part by part, and the world stays sound.
use Rattle.std.proofs.Common.{◌≡◌, ℕ, ◌^◌, ◌<◌, ◌≤◌, List, refl, sym, ap, subst, arith}
use Rattle.cb_types.specs.declared.config.Config.{Config}
use Rattle.cb_types.specs.declared.job.Job.{Job}
use Rattle.cb_types.specs.declared.job.Job.TheVariants.{Make, Read, Write, Free, Swap, Filter, Evict, Begin, Ship, Commit, Abort, Crash}
use Rattle.cb_types.specs.declared.reply.Reply.{Reply}
use Rattle.cb_types.specs.Config.{IsAccepted}
use Rattle.cb_types.specs.Jobs.{job_index}
use Rattle.cb_world.specs.FarState.{FarState}
use Rattle.cb_world.specs.Plain.{Words}
use Rattle.cb_world.specs.Seats.{SeatState}
use Rattle.cb_world.specs.World.{WorldState, IsConfigured, IsSoundWorld}
use Rattle.cb_world.proofs.Laws.{open_same, orders_then, recounted}
use Rattle.cb_core.specs.Jobs.{IsJob}
use Rattle.cb_core.specs.OnceHere.{OnceHere, OnceHereStops}
use Rattle.cb_core.specs.Parts.{Holding, WhereItIs, NeverDeclined, CallStops}
use Rattle.cb_core.specs.Step.{StillAlone, StillBring, StillBringLacks, StillLacksAlone, StillRead, StillReadLacks, StillWorks, StillStops, still_lacks, still_parts, TurnStep, worn, done, TurnStops}
use Rattle.cb_core.specs.Turned.{Does, DoesAlone, LacksAlone, Turned, worn as was_worn, done as was_done, Stopped, counted, once_counted, Reads, ReadLacks, Stops as StopsOver, ComesIn, ComeLacks, desk_lacks, desk_parts}
use Rattle.cb_core.proofs.Carried.{AreAlong, IsMany, LackAlong, come_rise, come_stops, comes_in, does, itself, once_here, once_here_stops, stops, turn_rise}
use Rattle.cb_core.proofs.Counting.{job_below}
use Rattle.cb_core.proofs.KeptParts.{IsGood, Arrives, Carries, CarriesLack, rises_more, arrives_more, counted_rises, good_along, ArrivesBy}
use Rattle.cb_core.proofs.StillParts.{Ran, SaysAll, make_part, read_part, write_part, free_part, find_part, decline_part, evict_part, room_part, swap_part, make_lack, read_lack, evict_lack, swap_lack}
use Rattle.cb_core.proofs.FarJobs.{note_of}
use Rattle.cb_core.proofs.Noted.{noted_after}
use Rattle.cb_core.proofs.OrdersCounted.{still_kept}
use Rattle.cb_core.proofs.StillBatches.{begin_part, ship_part, ship_lack, commit_part, abort_part}
use Rattle.cb_core.proofs.StillFilters.{filter_part, filter_lack}
use Rattle.cb_core.proofs.StillFarJobs.{far_arrives, far_lack, far_part}
use Rattle.cb_core.proofs.StillReads.{StillComes, StillComeLacks, reads_where, read_stops_where}
use Rattle.cb_core.proofs.TurnCallsKept.{once_known}

-- ---- jobs
module _ (c : Config) (seats : List SeatState) (accepted : IsAccepted c) where
  parts : AreAlong itself (IsGood c seats) (Arrives c seats) (desk_parts Ran SaysAll c) still_parts
  parts = record {
    frames = λ a good. ap (λ (d : Config). d.frames) good.settings;
    makes = make_part c seats;
    writes = write_part c seats;
    finds = find_part c seats;
    declines = decline_part c seats;
    swaps = swap_part c seats;
    wins = room_part c seats accepted;
  }

  lacks : LackAlong itself (IsGood c seats) (Arrives c seats) (desk_lacks Ran SaysAll c) still_lacks
  lacks = record {
    makes = make_lack c seats;
    swaps = swap_lack c seats;
    evicts = evict_lack c seats;
  }

  come_part : (h : ℕ) → Carries c seats come_rise (ComesIn Ran SaysAll c h) (StillComes h)
  come_part = comes_in itself (IsGood c seats) (Arrives c seats) (good_along c seats) (desk_parts Ran SaysAll c)
      still_parts parts

  -- a part whose numbers rise by no more than those of a job may
  in_job : (n : ℕ) (a b : Holding Words) (Z W : Type 0) → n ≤ turn_rise → Arrives c seats n a b Z
      → (Z → W)
      → Arrives c seats turn_rise a b W
  in_job n a b Z W most z w = arrives_more c seats n turn_rise a b Z W most z (w z.is)

  many : (job : Job) → IsMany job → (a b : Holding Words) (Z : Type 0)
      → Arrives c seats turn_rise a b Z
      → ArrivesBy (note_of job) c seats turn_rise a b Z
  many (Make bytes) two a b Z z = z
  many (Read handle) two a b Z z = z
  many (Write handle at bytes) two a b Z z = z
  many (Swap handle) two a b Z z = z
  many job two a b Z z = absurd two

  alone_part : (job : Job) → IsJob c job → (a b : Holding Words) (r : Reply) → IsGood c seats a
      → DoesAlone Ran SaysAll c job a r b
      → ArrivesBy (note_of job) c seats turn_rise a b (StillAlone job a r b)
  alone_part (Free handle) ok a b r good x =
      in_job 1 a b _ _ (omega arith) (free_part c seats handle.n a b r good x) (λ z. z)
  alone_part (Filter handle) ok a b r good x =
      in_job 1 a b _ _ (omega arith) (filter_part c seats handle.n a b r good x) (λ z. z)
  alone_part Evict ok a b r good x =
      in_job 24 a b _ _ (omega arith) (evict_part c seats accepted a b r good x) (λ z. z)
  alone_part Begin ok a b r good x =
      in_job 1 a b _ _ (omega arith) (begin_part c seats a b r good x) (λ z. z)
  alone_part Ship ok a b r good x =
      in_job 1 a b _ _ (omega arith) (ship_part c seats a b r good x) (λ z. z)
  alone_part Commit ok a b r good x =
      in_job 1 a b _ _ (omega arith) (commit_part c seats a b r good x) (λ z. z)
  alone_part Abort ok a b r good x =
      in_job 1 a b _ _ (omega arith) (abort_part c seats a b r good x) (λ z. z)
  alone_part (Crash node) ok a b r good (ran, crash) =
      far_arrives c seats (Crash node) a b r (StillAlone (Crash node) a r b) ok good ran.0 crash
      (ran.0, crash)
  alone_part job ok a b r good x = far_part c seats job ok tt a b r good x

  works_part : (job : Job) (a b : Holding Words) (r : Reply) → IsJob c job → IsGood c seats a
      → Does Ran SaysAll (Reads Ran SaysAll) c job a r b
      → ArrivesBy (note_of job) c seats turn_rise a b (StillWorks job a r b)
  works_part job a b r ok good x = does itself (IsGood c seats) (Arrives c seats) (good_along c seats)
      (desk_parts Ran SaysAll c) still_parts parts (λ j. ArrivesBy (note_of j) c seats turn_rise) _
      _ job
      (many job) read (alone_part job ok) a b r good x
    where
      read : (h : ℕ) → Carries c seats turn_rise (OnceHere (ComesIn Ran SaysAll c h)
          (Reads Ran SaysAll h))
          (WhereItIs (StillRead h) NeverDeclined (StillBring h))
      read h a b r good x = in_job turn_rise a b _ _ (omega arith)
          (once_here itself (IsGood c seats)
          (Arrives c seats) (good_along c seats) come_rise 1 turn_rise (ComesIn Ran SaysAll c h)
          (Reads Ran SaysAll h) (StillComes h)
          (StillRead h) (omega arith) (come_part h) (read_part c seats h) a b r good x)
          (reads_where h a b r)

  -- a job that found no memory
  alone_lack : (job : Job) (a b : Holding Words) → IsGood c seats a → LacksAlone Ran SaysAll job a b
      → ArrivesBy (note_of job) c seats turn_rise a b (StillLacksAlone job a b)
  alone_lack (Filter handle) a b good x =
      in_job 1 a b _ _ (omega arith) (filter_lack c seats handle.n a b good x) (λ z. z)
  alone_lack Evict a b good x = in_job 24 a b _ _ (omega arith) (evict_lack c seats a b good x) (λ z. z)
  alone_lack Begin a b good x = in_job 24 a b _ _ (omega arith) (evict_lack c seats a b good x) (λ z. z)
  alone_lack Ship a b good x = in_job 1 a b _ _ (omega arith) (ship_lack c seats a b good x) (λ z. z)
  alone_lack (Free handle) a b good x = absurd x
  alone_lack Commit a b good x = absurd x
  alone_lack Abort a b good x = absurd x
  alone_lack job a b good x = far_lack c seats job a b good x

  stops_part : (job : Job) (a b : Holding Words) → IsGood c seats a
      → StopsOver Ran SaysAll (ReadLacks Ran SaysAll) c job a b
      → ArrivesBy (note_of job) c seats turn_rise a b (StillStops job a b)
  stops_part job a b good x = stops itself (IsGood c seats) (Arrives c seats) (good_along c seats)
      (desk_parts Ran SaysAll c) still_parts parts (desk_lacks Ran SaysAll c) still_lacks lacks
      (λ j. ArrivesBy (note_of j) c seats turn_rise) _ _ job (many job) read (alone_lack job) a b
      good x
    where
      read : (h : ℕ) → CarriesLack c seats turn_rise
          (OnceHereStops (ComesIn Ran SaysAll c h) (ComeLacks Ran SaysAll c h)
          (ReadLacks Ran SaysAll h))
          (CallStops (StillRead h) (StillReadLacks h) NeverDeclined (StillBring h) (StillBringLacks h))
      read h a b good x = in_job turn_rise a b _ _ (omega arith)
          (once_here_stops itself (IsGood c seats)
          (Arrives c seats) (good_along c seats) come_rise 1 turn_rise (ComesIn Ran SaysAll c h)
          (StillComes h) (ComeLacks Ran SaysAll c h)
          (ReadLacks Ran SaysAll h) (StillComeLacks h) (StillReadLacks h) (omega arith)
          (come_part h)
          (come_stops itself (IsGood c seats) (Arrives c seats) (good_along c seats) (desk_parts Ran SaysAll c) still_parts
          parts (desk_lacks Ran SaysAll c) still_lacks lacks h) (read_lack c seats h) a b good x)
          (read_stops_where h a b)

-- ---- the whole world
abbrev pub with_job : WorldState → Words → FarState → WorldState
with_job w y new = record { desk = y; far = new; seats = w.seats }

-- the desk and the far state of a world
abbrev pub held : WorldState → Holding Words
held w = record { desk = w.desk; far = w.far }

abbrev pub counted_good : (w : WorldState) (job : Job) → IsSoundWorld w
    → IsGood w.desk.settings w.seats (once_counted (held w) job)
counted_good w job sound = record {
  settings = refl;
  configured = recounted w.desk.settings w.far (counted w.far job).counts sound.configured;
  shown = sound.shown;
  known = once_known w job sound.shown sound.known;
  pinned = sound.pinned;
  ongoing = open_same w.desk w.far (counted w.far job) sound.shown w.seats sound.known
      (once_known w job sound.shown sound.known) sound.ongoing;
  orders = orders_then sound.shown sound.shown w.far (counted w.far job) w.seats
      (still_kept sound.shown w.far job) sound.orders;
}

pub arrived_sound : (w : WorldState) (job : Job) (b : Holding Words) (Z : Type 0) → IsSoundWorld w
    → w.far.counts.turns < 2 ^ 40
    → ArrivesBy (note_of job) w.desk.settings w.seats turn_rise (once_counted (held w) job) b Z
    → IsSoundWorld (with_job w b.desk b.far)
arrived_sound w job b Z sound few z = record {
  config = subst IsAccepted (sym z.good.settings) sound.config;
  configured = subst (λ (c : Config). IsConfigured c b.far) (sym z.good.settings) z.good.configured;
  shown = z.good.shown;
  known = z.good.known;
  pinned = z.good.pinned;
  ongoing = z.good.ongoing;
  one = sound.one;
  orders = z.good.orders;
  counted = counted_rises w.far (counted w.far job) b.far (job_index job) sound.counted few
      (job_below job) refl (rises_more turn_rise (2 ^ 20) (counted w.far job) b.far (omega arith)
      z.rises)
      (noted_after job turn_rise w.far b.far sound.counted z.rises);
}

-- ---- a turn over the still desk is a step, and leaves the world sound
pub record IsTurned (w : WorldState) (job : Job) (q : Reply) (y : Words) (new : FarState) : Type 0
  where
    pub sound : IsSoundWorld (with_job w y new)
    pub step : TurnStep job w q (with_job w y new)

pub turn_works : (w : WorldState) (job : Job) (q : Reply) (y : Words) (new : FarState)
    → IsSoundWorld w → IsJob w.desk.settings job
    → Turned Ran SaysAll (Reads Ran SaysAll) w.desk.settings job (held w) q (record { desk = y; far = new })
    → IsTurned w job q y new
turn_works w job q y new sound ok (was_worn end reply state ran) =
    let same : with_job w y new ≡ w = (λ i. record { desk = ran.0 i; far = state i; seats = w.seats }) in
    record {
      sound = subst IsSoundWorld (sym same) sound;
      step = worn end reply same;
    }
turn_works w job q y new sound ok (was_done few does) =
    let b : Holding Words = record { desk = y; far = new } in
    let z = works_part w.desk.settings w.seats sound.config job (once_counted (held w) job) b q ok
    (counted_good w job sound) does in
    record { sound = arrived_sound w job b _ sound few z; step = done few z.is refl }

-- ---- a turn that found no memory
pub record IsTurnStopped (w : WorldState) (job : Job) (y : Words) (new : FarState) : Type 0 where
  pub sound : IsSoundWorld (with_job w y new)
  pub stops : TurnStops job w (with_job w y new)

pub turn_stops : (w : WorldState) (job : Job) (y : Words) (new : FarState) → IsSoundWorld w
    → Stopped Ran SaysAll (ReadLacks Ran SaysAll) w.desk.settings job (held w) (record { desk = y; far = new })
    → IsTurnStopped w job y new
turn_stops w job y new sound stopped =
    let b : Holding Words = record { desk = y; far = new } in
    let z = stops_part w.desk.settings w.seats sound.config job (once_counted (held w) job) b
    (counted_good w job sound) stopped.stops in
    record {
      sound = arrived_sound w job b _ sound stopped.few z;
      stops = (stopped.few, refl, z.is);
    }
