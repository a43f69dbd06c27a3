-- Events that are listed, and one more.
use Rattle.std.proofs.Common.{ℕ, List, [], ◌∷◌, ◌++◌, drop, refl, subst}
use Rattle.std.specs.List.{AllByRecursion}
use Rattle.cb_types.specs.declared.config.Config.{Config}
use Rattle.cb_core.specs.declared.event.Event.{Event}
use Rattle.cb_core.specs.Events.{IsEvent}
use Rattle.cb_events.specs.Listing.{AreListed, IsListed, event_len}

-- the event that stands at the front of the rest stands behind those before it
pub listed_push : (c : Config) (bytes : List ℕ) (events : List Event) (rest : List ℕ) (e : Event)
    → AreListed c bytes events rest → IsListed c rest e
    → AreListed c bytes (events ++ e ∷ []) (drop (event_len rest) rest)
listed_push c bytes [] rest e listed is =
    subst (λ (front : List ℕ). AreListed c front (e ∷ []) (drop (event_len rest) rest)) listed
    (is, refl)
listed_push c bytes (x ∷ events) rest e listed is =
    (listed.0, listed_push c (drop (event_len bytes) bytes) events rest e listed.1 is)

-- events that are listed may all come
pub all_may : (c : Config) (bytes : List ℕ) (events : List Event) (rest : List ℕ)
    → AreListed c bytes events rest → AllByRecursion (IsEvent c) events
all_may c bytes [] rest listed = tt
all_may c bytes (e ∷ events) rest listed =
    (listed.0.may, all_may c (drop (event_len bytes) bytes) events rest listed.1)
