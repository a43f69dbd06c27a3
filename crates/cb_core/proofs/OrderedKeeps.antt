-- What a turn that hands an order out, or takes one, keeps at the still desk: of the far state and the
-- configuration for whoever asks, and for who knows all, what every object holds and its pins.
use Rattle.std.proofs.Common.{◌≡◌, ℕ, suc, Option, refl, sym, ap, ◌∙◌, subst}
use Rattle.cb_types.specs.declared.job.Job.{Job}
use Rattle.cb_types.specs.declared.job.Job.TheVariants.{Fetch, Gather, Install, Land}
use Rattle.cb_types.specs.declared.order.Kept.{Kept}
use Rattle.cb_types.specs.declared.reply.Reply.{Reply}
use Rattle.cb_types.specs.declared.reply.Reply.TheVariants as answer
use Rattle.cb_world.specs.declared.shown.Shown.{Shown}
use Rattle.cb_world.specs.FarState.{FarState}
use Rattle.cb_world.specs.Plain.{Words}
use Rattle.cb_world.specs.World.{IsKnown}
use Rattle.cb_world.proofs.Laws.{KeepsFar, KeepsPins, far_same, pins_same}
use Rattle.cb_evict.specs.declared.eviction.Eviction.{Eviction}
use Rattle.cb_evict.specs.declared.eviction.Eviction.TheVariants.{Refused, Set}
use Rattle.cb_evict.specs.Eviction.{reply_of}
use Rattle.cb_evict.proofs.Laws.{evict_keeps, gather_keeps, install_keeps}
use Rattle.cb_swapin.specs.declared.fetching.Fetching.{Fetching}
use Rattle.cb_swapin.specs.declared.fetching.Fetching.TheVariants as fetching
use Rattle.cb_swapin.specs.Fetching.{far_given}
use Rattle.cb_swapin.specs.FetchStep.{FetchFar}
use Rattle.cb_swapin.proofs.Laws.{land_keeps, land_keeps_far, land_settings_stay}
use Rattle.cb_set.specs.SetState.{SetState}
use Rattle.cb_core.specs.OrderParts.FetchesBy.{not_far, was_far}
use Rattle.cb_core.specs.Parts.{Holding, WithRoom, at_once, no_room, won, most_evictions}
use Rattle.cb_core.specs.Step.{HoldOn, OrderTurn, StillFetch, StillLand, StillRoom, StillWith}
use Rattle.cb_core.specs.Step.OrderTurn.{late, made}
use Rattle.cb_core.specs.Turned.{once_counted}
use Rattle.cb_core.proofs.TurnCallsKept.{HasKept, kept_all, kept_room, kept_step, kept_then}

-- ---- the far state and the configuration
pub record StaysFar (a b : Holding Words) : Type 0 where
  pub far : KeepsFar a.far b.far
  pub settings : b.desk.settings ≡ a.desk.settings

far_then : (a b c : FarState) → KeepsFar a b → KeepsFar b c → KeepsFar a c
far_then a b c p q = record {
  first = q.first ∙ p.first;
  made = q.made ∙ p.made;
  members = q.members ∙ p.members;
  joining = q.joining ∙ p.joining;
  turns = q.turns ∙ p.turns;
  by_job = q.by_job ∙ p.by_job;
}

stays_then : (a b c : Holding Words) → StaysFar a b → StaysFar b c → StaysFar a c
stays_then a b c p q = record {
  far = far_then a.far b.far c.far p.far q.far;
  settings = q.settings ∙ p.settings;
}

stays_same : (a b : Holding Words) → b ≡ a → StaysFar a b
stays_same a b same = subst (StaysFar a) (sym same)
    (record { far = far_same a.far; settings = refl })

-- a fetch gives rows out, or changes nothing
given_same : (far new : FarState) (n : ℕ) → new ≡ far_given far n → KeepsFar far new
given_same far new n state = subst (KeepsFar far) (sym state) (record {
  first = refl;
  made = refl;
  members = refl;
  joining = refl;
  turns = refl;
  by_job = refl;
})

fetch_far : (far new : FarState) (id p : ℕ) (set : SetState) (g : Fetching)
    → FetchFar far new id p set g → KeepsFar far new
fetch_far far new id p set (fetching.Order o) z = given_same far new _ z.state
fetch_far far new id p set (fetching.Answer r) z = subst (KeepsFar far) (sym z.1) (far_same far)

fetch_stays : (h : ℕ) (a b : Holding Words) (g : Fetching) → StillFetch h a g b → StaysFar a b
fetch_stays h a b g (home, at, same, step, hold) = record {
  far = fetch_far a.far b.far home.set home.position step.set g step.state;
  settings = ap (λ (x : Words). x.settings) same;
}

room_stays : (a b : Holding Words) (e : Eviction) → StillRoom a e b → StaysFar a b
room_stays a b e (step, hold) =
    let k = evict_keeps a.desk b.desk a.far b.far (reply_of e) step.step in
    record { far = k.far; settings = k.words.settings }

land_stays : (order : Option Kept) (a b : Holding Words) (r : Reply) → StillLand order a r b
    → StaysFar a b
land_stays order a b r (step, hold) = record {
  far = land_keeps_far a.desk b.desk a.far b.far order r step;
  settings = land_settings_stay a.desk b.desk a.far b.far order r step;
}

lands_stay : (order : Option Kept) (frames left : ℕ) (a b : Holding Words) (r : Reply)
    → WithRoom frames (StillLand order) StillRoom left a r b → StaysFar a b
lands_stay order frames left a b r (at_once land off) = land_stays order a b r land
lands_stay order frames left a b r (no_room m why loose nodes land evict is) =
    stays_then a m b (land_stays order a m answer.NoFrame land)
    (room_stays m b (Refused why loose nodes) evict)
lands_stay order frames (suc fewer) a b r (won m n id land evict again) =
    stays_then a n b (stays_then a m n (land_stays order a m answer.NoFrame land)
    (room_stays m n (Set id) evict)) (lands_stay order frames fewer n b r again)

with_stays : (job : Job) (order keeps : Option Kept) (a b : Holding Words) (r : Reply)
    → StillWith job order a r keeps b → StaysFar a b
with_stays Gather order keeps a b r (g, (step, hold), reply, same) =
    let k = gather_keeps a.desk b.desk a.far b.far g step in
    record { far = k.far; settings = k.words.settings }
with_stays Install order keeps a b r (same, step, hold) = record {
  far = install_keeps a.far b.far r order keeps step;
  settings = ap (λ (x : Words). x.settings) same;
}
with_stays (Fetch handle) order keeps a b r (not_far find off same) = stays_same a b find.1
with_stays (Fetch handle) order keeps a b r (was_far m g find rows reply same) =
    stays_then a m b (stays_same a m find.1) (fetch_stays handle.n m b g rows)
with_stays Land order keeps a b r (land, same) =
    lands_stay order a.desk.settings.frames most_evictions a b r land
with_stays job order keeps a b r never = absurd never

-- of the whole turn: the count of turns alone may be another
pub order_settings : (job : Job) (order keeps : Option Kept) (a b : Holding Words) (r : Reply)
    → OrderTurn job order a r keeps b → b.desk.settings ≡ a.desk.settings
order_settings job order keeps a b r (late end is same keep) =
    ap (λ (x : Holding Words). x.desk.settings) keep
order_settings job order keeps a b r (made few step) =
    (with_stays job order keeps (once_counted a job) b r step).settings

pub order_members : (job : Job) (order keeps : Option Kept) (a b : Holding Words) (r : Reply)
    → OrderTurn job order a r keeps b → b.far.members ≡ a.far.members
order_members job order keeps a b r (late end is same keep) =
    ap (λ (x : Holding Words). x.far.members) keep
order_members job order keeps a b r (made few step) =
    (with_stays job order keeps (once_counted a job) b r step).far.members

pub order_first : (job : Job) (order keeps : Option Kept) (a b : Holding Words) (r : Reply)
    → OrderTurn job order a r keeps b → b.far.first ≡ a.far.first
order_first job order keeps a b r (late end is same keep) =
    ap (λ (x : Holding Words). x.far.first) keep
order_first job order keeps a b r (made few step) =
    (with_stays job order keeps (once_counted a job) b r step).far.first

-- ---- what every object holds, and pins
kept_far : (a b : Holding Words) (s : Shown) → IsKnown a.desk a.far s → b.desk ≡ a.desk
    → KeepsFar a.far b.far → HoldOn a b → HasKept a b s
kept_far a b s k same keeps hold = kept_step a b s k hold (record {
  far = keeps;
  words = subst (KeepsPins a.desk) (sym same) (pins_same a.desk);
})

kept_fetch : (h : ℕ) (a b : Holding Words) (g : Fetching) (s : Shown) → IsKnown a.desk a.far s
    → StillFetch h a g b → HasKept a b s
kept_fetch h a b g s k (home, at, same, step, hold) = kept_far a b s k same
    (fetch_far a.far b.far home.set home.position step.set g step.state) hold

pub kept_land : (order : Option Kept) (a b : Holding Words) (r : Reply) (s : Shown)
    → IsKnown a.desk a.far s → StillLand order a r b → HasKept a b s
kept_land order a b r s k (step, hold) =
    kept_step a b s k hold (land_keeps a.desk b.desk a.far b.far order r s k step)

kept_lands : (order : Option Kept) (frames left : ℕ) (a b : Holding Words) (r : Reply) (s : Shown)
    → IsKnown a.desk a.far s → WithRoom frames (StillLand order) StillRoom left a r b
    → HasKept a b s
kept_lands order frames left a b r s k (at_once land off) = kept_land order a b r s k land
kept_lands order frames left a b r s k (no_room m why loose nodes land evict is) =
    let one = kept_land order a m answer.NoFrame s k land in
    kept_then a m b s one (kept_room m b (Refused why loose nodes) one.shown one.known evict)
kept_lands order frames (suc fewer) a b r s k (won m n id land evict again) =
    let one = kept_land order a m answer.NoFrame s k land in
    let two = kept_then a m n s one (kept_room m n (Set id) one.shown one.known evict) in
    kept_then a n b s two (kept_lands order frames fewer n b r two.shown two.known again)

kept_same : (a b : Holding Words) (s : Shown) → IsKnown a.desk a.far s → b ≡ a → HasKept a b s
kept_same a b s k same = subst (λ (c : Holding Words). HasKept a c s) (sym same) (kept_all a s k)

pub with_has_kept : (job : Job) (order keeps : Option Kept) (a b : Holding Words) (r : Reply)
    (s : Shown) → IsKnown a.desk a.far s → StillWith job order a r keeps b → HasKept a b s
with_has_kept Gather order keeps a b r s k (g, (step, hold), reply, same) =
    kept_step a b s k hold (gather_keeps a.desk b.desk a.far b.far g step)
with_has_kept Install order keeps a b r s k (same, step, hold) =
    kept_far a b s k same (install_keeps a.far b.far r order keeps step) hold
with_has_kept (Fetch handle) order keeps a b r s k (not_far find off same) =
    kept_same a b s k find.1
with_has_kept (Fetch handle) order keeps a b r s k (was_far m g find rows reply same) =
    let one = kept_same a m s k find.1 in
    kept_then a m b s one (kept_fetch handle.n m b g one.shown one.known rows)
with_has_kept Land order keeps a b r s k (land, same) =
    kept_lands order a.desk.settings.frames most_evictions a b r s k land
with_has_kept job order keeps a b r s k never = absurd never
