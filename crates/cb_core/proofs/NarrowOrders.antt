-- A turn that hands an order out, or takes one, leaves one page to each span and set.
use Rattle.std.proofs.Common.{ℕ, suc, false, List, Option, None, Some, refl, sym, subst, inl, inr}
use Rattle.cb_set.specs.SetState.{SetState}
use Rattle.cb_types.specs.declared.config.Config.{Config}
use Rattle.cb_types.specs.declared.job.Job.{Job}
use Rattle.cb_types.specs.declared.job.Job.TheVariants.{Fetch, Gather, Install, Land}
use Rattle.cb_types.specs.declared.order.Kept.{Kept}
use Rattle.cb_types.specs.declared.order.Kept.TheVariants.{Decode, Encode}
use Rattle.cb_types.specs.declared.reply.Reply.{Reply}
use Rattle.cb_types.specs.declared.reply.Reply.TheVariants as answer
use Rattle.cb_world.specs.declared.access.Access.{Access}
use Rattle.cb_world.specs.declared.shown.Shown.{Shown}
use Rattle.cb_world.specs.FarState.{FarState}
use Rattle.cb_world.specs.World.{IsConfigured}
use Rattle.cb_swapin.specs.declared.fetching.Fetching.{Fetching}
use Rattle.cb_swapin.specs.declared.fetching.Fetching.TheVariants as fetching
use Rattle.cb_swapin.specs.FetchStep.{FetchFar, FetchStep}
use Rattle.cb_swapin.specs.LandRule.{LandRule}
use Rattle.cb_swapin.specs.SwapRule.{BringsFar, BringsRule}
use Rattle.cb_core.specs.Narrow.{IsNarrow}
use Rattle.cb_core.specs.Ordered.{DoesWith, Lands, NothingDone, StoppedWith, StopsWith, TurnedWith}
use Rattle.cb_core.specs.Ordered.TurnedWith.{done as with_done, worn as with_worn}
use Rattle.cb_core.specs.OrderParts.FetchesBy.{not_far as near, was_far as away}
use Rattle.cb_core.specs.Parts.{Holding, RoomStops, WithRoom, most_evictions}
use Rattle.cb_core.specs.Parts.RoomStops.{after as lacks_after, at_once as lacks_now, evicting}
use Rattle.cb_core.specs.Parts.WithRoom.{at_once, no_room, won}
use Rattle.cb_core.specs.Turned.{EvictLacks, WinsRoom, counted, once_counted}
use Rattle.cb_core.proofs.Narrow.{KeepsNarrow, narrow_same, narrow_stays, narrow_then}
use Rattle.cb_core.proofs.NarrowSteps.{install_narrow, swapped_narrow}
use Rattle.cb_core.proofs.NarrowTurns.{begins_narrow, counted_narrow, evict_rule_narrow, narrow_configured}

-- ---- the operations
brings_narrow : (rows : SetState → ℕ) (id p : ℕ) (far new : FarState) (r : Reply) (es : List Access)
    → BringsRule rows id p far new r es → KeepsNarrow far new
brings_narrow rows id p far new r es x = by r x.state
  where
    by : (q : Reply) → BringsFar (rows x.set) far new id p x.set es q → KeepsNarrow far new
    by (answer.Swapped f) z = swapped_narrow far new id p x.set f (rows x.set) x.there z.0
    by q z = narrow_same far new z.0

land_narrow : (order : Option Kept) (far new : FarState) (r : Reply) (es : List Access)
    → LandRule order far new r es → KeepsNarrow far new
land_narrow None far new r es x = narrow_same far new x.same
land_narrow (Some (Encode o)) far new r es x = narrow_same far new x.same
land_narrow (Some (Decode o)) far new r es (inl x) = narrow_same far new x.same
land_narrow (Some (Decode o)) far new r es (inr x) =
    brings_narrow (λ set. 0) o.set o.position far new r es x.brings

rows_narrow : (id p : ℕ) (far new : FarState) (g : Fetching) → FetchStep id p far new g
    → KeepsNarrow far new
rows_narrow id p far new g x = by g x.state
  where
    by : (q : Fetching) → FetchFar far new id p x.set q → KeepsNarrow far new
    by (fetching.Order o) z =
        subst (KeepsNarrow far) (sym z.state) (narrow_stays far _ refl refl refl refl)
    by (fetching.Answer r) z = narrow_same far new z.1

module _ {D : Type 0} (run : D → List Access → D → Type 0) (shows : D → Shown → Type 0) (c : Config)
  where
    landing_narrow : (order : Option Kept) (left : ℕ) (a b : Holding D) (r : Reply)
        → WithRoom c.frames (Lands run shows order) (WinsRoom run shows c) left a r b
        → KeepsNarrow a.far b.far
    landing_narrow order left a b r (at_once x off) =
        land_narrow order a.far b.far r x.events x.rule
    landing_narrow order left a b r (no_room m why loose nodes x v is) =
        narrow_then a.far m.far b.far (land_narrow order a.far m.far _ x.events x.rule)
        (evict_rule_narrow m.far b.far _ v.events v.rule.rule)
    landing_narrow order (suc fewer) a b r (won m n id x v again) =
        narrow_then a.far m.far b.far (land_narrow order a.far m.far _ x.events x.rule)
        (narrow_then m.far n.far b.far (evict_rule_narrow m.far n.far _ v.events v.rule.rule)
        (landing_narrow order fewer n b r again))

    landing_stops : (order : Option Kept) (left : ℕ) (a b : Holding D)
        → RoomStops (Lands run shows order) (NothingDone run) (WinsRoom run shows c)
        (EvictLacks run shows) left a b → KeepsNarrow a.far b.far
    landing_stops order left a b (lacks_now x) = narrow_same a.far b.far x.1
    landing_stops order left a b (evicting m x v) =
        narrow_then a.far m.far b.far (land_narrow order a.far m.far _ x.events x.rule)
        (narrow_same m.far b.far v.0)
    landing_stops order (suc fewer) a b (lacks_after m n id x v again) =
        narrow_then a.far m.far b.far (land_narrow order a.far m.far _ x.events x.rule)
        (narrow_then m.far n.far b.far (evict_rule_narrow m.far n.far _ v.events v.rule.rule)
        (landing_stops order fewer n b again))

    with_narrow : (job : Job) (order keeps : Option Kept) (a b : Holding D) (r : Reply)
        → DoesWith run shows c job order a r keeps b → KeepsNarrow a.far b.far
    with_narrow Gather order keeps a b r (g, x, is, same) =
        begins_narrow a.far b.far false _ _ x.events x.rule
    with_narrow Install order keeps a b r (ran, x) = install_narrow a.far b.far r order keeps x
    with_narrow (Fetch handle) order keeps a b r (near x off same) =
        narrow_same a.far b.far x.rule.0
    with_narrow (Fetch handle) order keeps a b r (away m g x (home, at, ran, step) is same) =
        narrow_then a.far m.far b.far (narrow_same a.far m.far x.rule.0)
        (rows_narrow home.set home.position m.far b.far g step)
    with_narrow Land order keeps a b r (x, same) = landing_narrow order most_evictions a b r x
    with_narrow job order keeps a b r x = absurd x

    stops_narrow : (job : Job) (order : Option Kept) (a b : Holding D)
        → StopsWith run shows c job order a b → KeepsNarrow a.far b.far
    stops_narrow Gather order a b x = narrow_same a.far b.far x.0
    stops_narrow (Fetch handle) order a b (m, x, lacks) =
        narrow_then a.far m.far b.far (narrow_same a.far m.far x.rule.0)
        (narrow_same m.far b.far lacks.1)
    stops_narrow Land order a b x = landing_stops order most_evictions a b x
    stops_narrow job order a b x = absurd x

    -- what has one page to each span and set has so behind such a turn
    pub ordered_narrow : (job : Job) (order keeps : Option Kept) (a b : Holding D) (r : Reply)
        → IsConfigured c a.far → TurnedWith run shows c job order a r keeps b → IsNarrow a.far
        → IsNarrow b.far
    ordered_narrow job order keeps a b r is (with_worn end reply kept stays ran) =
        narrow_configured c a.far b.far is (narrow_same a.far b.far stays)
    ordered_narrow job order keeps a b r is (with_done few x) =
        narrow_configured c a.far b.far is (narrow_then a.far (counted a.far job) b.far
        (counted_narrow a.far job)
        (with_narrow job order keeps (once_counted a job) b r x))

    pub ordered_stops_narrow : (job : Job) (order : Option Kept) (a b : Holding D)
        → IsConfigured c a.far → StoppedWith run shows c job order a b → IsNarrow a.far
        → IsNarrow b.far
    ordered_stops_narrow job order a b is x =
        narrow_configured c a.far b.far is (narrow_then a.far (counted a.far job) b.far
        (counted_narrow a.far job)
        (stops_narrow job order (once_counted a job) b x.stops))
