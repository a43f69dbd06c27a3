-- The ways by which a far object can be brought in, as a turn of the job Fetch finds them.
use Rattle.std.specs.Prelude.{◌≡◌, ◌≢◌, ℕ, ◌||◌, Bool, List, [], ◌∷◌, Option, None, Some, Result, Ok}
use Rattle.std.specs.Prelude.{Err}
use Rattle.cb_member.specs.declared.no_memory.NoMemory.{NoMemory}
use Rattle.cb_types.specs.declared.job.Job.TheVariants as jobs
use Rattle.cb_types.specs.declared.order.Kept.TheVariants.{Decode}
use Rattle.cb_types.specs.declared.reply.Reply.{Reply}
use Rattle.cb_types.specs.declared.reply.Reply.TheVariants as answer
use Rattle.cb_types.specs.Orders.{IsDecodable}
use Rattle.cb_swapin.specs.declared.fetching.Fetching.{Fetching}
use Rattle.cb_swapin.specs.declared.fetching.Fetching.TheVariants as fetching
use Rattle.cb_rule.specs.declared.turn.Turn.{Turn}
use Rattle.cb_rule.specs.declared.view.View.{View}
use Rattle.cb_shared.specs.declared.ways.Landing.{Landing}
use Rattle.cb_shared.specs.declared.ways.Landing.TheVariants as landing
use Rattle.cb_shared.specs.declared.ways.Way.{Way}
use Rattle.cb_shared.specs.declared.ways.Way.TheVariants as ways
use Rattle.cb_shared.specs.Calls.{IsLack}
use Rattle.cb_shared.specs.Fetching.{brings, job_after_land, job_behind_fetch}

-- the reply that answers the call, if one does
abbrev pub way_told : Way → Option Reply
way_told (ways.Told told) = told
way_told way = None

-- the order by which the row is made is the one that the pass keeps, and it can be run
abbrev pub HasWay : Way → View → Type 0
HasWay (ways.Made o) v = (v.order ≡ Some (Decode o)) × IsDecodable o
HasWay way v = Unit {0}

-- What the fetch was told, by the way: where it is told neither of an order nor that the row is at
-- hand, the object is fetched again.
abbrev pub IsWayTold : Way → Option Reply → Type 0
IsWayTold (ways.Made o) told = told ≡ Some (answer.Fetched (record { n = o.set }) o.position)
IsWayTold ways.Direct told = told ≡ Some answer.Direct
IsWayTold (ways.Told r) told =
    (h : ℕ) → job_behind_fetch h told ≡ jobs.Fetch (record { n = h })

-- one turn of a fetch, and by its reply it is known whether the object was brought in
abbrev pub IsFound : ℕ → Way → Bool → Bool → List Turn → Type 0
IsFound h way before after ts = (t : Turn) × (ts ≡ t ∷ []) × (t.job ≡ jobs.Fetch (record { n = h }))
    × IsWayTold way t.reply × (after ≡ (brings t.reply || before))

-- the way by the reply of a fetch that hands no order out
abbrev pub IsWayBy : Bool → Bool → Bool → Reply → Way → Type 0
IsWayBy again before after r (ways.Made o) = ⊥
IsWayBy again before after r ways.Direct = (r ≡ answer.Direct) × (after ≡ before)
IsWayBy again before after r (ways.Told (Some q)) =
    (q ≡ r) × (r ≢ answer.Direct) × IsLack again r × (after ≡ before)
IsWayBy again before after r (ways.Told None) =
    (r ≢ answer.Direct) × (IsLack again r → ⊥) × (after ≡ (brings (Some r) || before))

-- and by what any is answered
abbrev pub IsWayOf : Bool → Bool → Bool → Result Fetching NoMemory → Result Way NoMemory → Type 0
IsWayOf again before after (Ok (fetching.Order o)) (Ok way) =
    (way ≡ ways.Made o) × (after ≡ before)
IsWayOf again before after (Ok (fetching.Answer r)) (Ok way) = IsWayBy again before after r way
IsWayOf again before after (Err e) (Err f) = Unit {0}
IsWayOf again before after fetching result = ⊥

-- ---- the landing of the row that was made
-- the reply that answers the call, if one does
abbrev pub landing_told : Landing → Option Reply
landing_told (landing.Told told) = told
landing_told landing.Lacks = None

-- What the landing was told: where it lacks something the object is swapped in by a turn of its own,
-- and else it is fetched again.
abbrev pub IsLandingTold : Landing → Option Reply → Type 0
IsLandingTold landing.Lacks told =
    (h : ℕ) → job_after_land h told ≡ jobs.Swap (record { n = h })
IsLandingTold (landing.Told r) told =
    (h : ℕ) → job_after_land h told ≡ jobs.Fetch (record { n = h })

-- one turn of a landing, and by its reply it is known whether the object was brought in
abbrev pub IsLandedBy : Landing → Bool → Bool → List Turn → Type 0
IsLandedBy l before after ts = (t : Turn) × (ts ≡ t ∷ []) × (t.job ≡ jobs.Land)
    × IsLandingTold l t.reply × (after ≡ (brings t.reply || before))

-- a landing lacks shards or room
abbrev pub LandingLacks : Reply → Type 0
LandingLacks (answer.Unavailable set lost) = Unit {0}
LandingLacks (answer.NoRoom frames loose nodes) = Unit {0}
LandingLacks other = ⊥

-- what the call comes to by the reply of a landing
abbrev pub IsLandingOf : Bool → Bool → Reply → Landing → Type 0
IsLandingOf before after r landing.Lacks = LandingLacks r × (after ≡ before)
IsLandingOf before after r (landing.Told (Some q)) =
    (q ≡ r) × (r ≡ answer.Worn) × (after ≡ before)
IsLandingOf before after r (landing.Told None) =
    (LandingLacks r → ⊥) × (r ≢ answer.Worn) × (after ≡ (brings (Some r) || before))
