-- Calls of lanes, one after the other, whose versions never fall.
use Rattle.std.proofs.Common.{◌≡◌, ◌≢◌, ℕ, Bool, true, false, List, [], ◌∷◌, ◌++◌, None, sym, ◌∙◌, append_assoc, subst, inl, inr, ⊎_elim}
use Rattle.std.specs.List.{AllByRecursion, flat_map}
use Rattle.std.proofs.lemmas.List.{append-nil}
use Rattle.cb_rule.specs.declared.view.View.{View}
use Rattle.cb_model.specs.Called.{Called}
use Rattle.cb_model.specs.Event.{Event, version_of}
use Rattle.cb_model.specs.Event.Event.{Makes, Shows, Pins, Writes, Frees, FindsFull, FindsUnmade, FindsFreed, FindsEnd, Refused, Wrong}
use Rattle.cb_model.specs.Legal.{IsNotBelow, MayComeLater, NeverFalls, Rising}
use Rattle.cb_record.specs.Rises.{RiseTogether, HasAllOf, HasVersion, MayPrecede, IsBehind, IsKnownTo, RisesAlone, IsOnRecord, LaneCalls, MayFollowVersion}
use Rattle.cb_record.proofs.Listing.{all_append, all_map}

-- no version is answered at all
unbound : (version : ℕ) (e : Event) → version_of e ≡ None → IsNotBelow version e
unbound version (Makes bytes later) none = absurd cc
unbound version (Shows later bytes) none = absurd cc
unbound version (Pins later) none = absurd cc
unbound version (Writes at bytes later) none = absurd cc
unbound version (Frees later) none = absurd cc
unbound version (FindsFull number) none = tt
unbound version FindsUnmade none = tt
unbound version FindsFreed none = tt
unbound version (FindsEnd at bytes len) none = tt
unbound version (Refused subject) none = tt
unbound version Wrong none = tt

not_below : (version : ℕ) (freed : Bool) (e : Event) → MayFollowVersion version freed e
    → IsNotBelow version e
not_below version true e may = unbound version e may
not_below version false e may = may

-- what is answered as behind a record may follow what stands in it
follows_known : (v : View) (h : ℕ) (earlier later : Event) → IsKnownTo v h earlier
    → ((version : ℕ) (freed : Bool) → HasVersion v h version freed
    → MayFollowVersion version freed later)
    → MayComeLater earlier later
follows_known v h FindsFreed later known behind = behind known.0 true known.1
follows_known v h (Makes bytes version) later known behind = λ n e.
    let k = known n e in not_below n k.0 later (behind n k.0 k.1)
follows_known v h (Shows version bytes) later known behind = λ n e.
    let k = known n e in not_below n k.0 later (behind n k.0 k.1)
follows_known v h (Pins version) later known behind = λ n e.
    let k = known n e in not_below n k.0 later (behind n k.0 k.1)
follows_known v h (Writes at bytes version) later known behind = λ n e.
    let k = known n e in not_below n k.0 later (behind n k.0 k.1)
follows_known v h (Frees version) later known behind = λ n e.
    let k = known n e in not_below n k.0 later (behind n k.0 k.1)
follows_known v h (FindsFull number) later known behind = λ n e. absurd cc
follows_known v h FindsUnmade later known behind = λ n e. absurd cc
follows_known v h (FindsEnd at bytes len) later known behind = λ n e. absurd cc
follows_known v h (Refused subject) later known behind = λ n e. absurd cc
follows_known v h Wrong later known behind = λ n e. absurd cc

-- a call of a lane never falls behind one before it
never_falls : (lane : LaneCalls) (earlier later : Called) → MayPrecede lane earlier
    → later.lane ≡ lane.number → IsBehind lane.start later → NeverFalls earlier later
never_falls lane earlier later before own behind h told on_e on_l = ⊎_elim
    (λ (other : (earlier.lane ≢ lane.number) × (earlier.lane ≢ 0)). ⊎_elim
    (λ (same : earlier.lane ≡ later.lane). absurd (other.0 (same ∙ own)))
    (λ (zero : earlier.lane ≡ 0). absurd (other.1 zero)) told)
    (λ (known : IsOnRecord lane.start earlier).
    follows_known lane.start h earlier.event later.event (known h on_e)
    (λ version freed has. behind h version freed on_l has)) before

all_never : (lane : LaneCalls) (earlier : Called) (calls : List Called) → MayPrecede lane earlier
    → AllByRecursion (λ (call : Called). call.lane ≡ lane.number) calls
    → AllByRecursion (IsBehind lane.start) calls → AllByRecursion (NeverFalls earlier) calls
all_never lane earlier [] before own behind = tt
all_never lane earlier (c ∷ cs) before own behind =
    (never_falls lane earlier c before own.0 behind.0, all_never lane earlier cs before own.1 behind.1)

-- Calls, and behind them those of one more lane.
pub rising_sum : (lane : LaneCalls) (front : List Called) → Rising front → RisesAlone lane
    → AllByRecursion (MayPrecede lane) front → Rising (front ++ lane.calls)
rising_sum lane [] rising is before = is.rises.rising
rising_sum lane (c ∷ front) rising is before = (
  all_append (NeverFalls c) front lane.calls rising.0
      (all_never lane c lane.calls before.0 is.own is.rises.behind),
  rising_sum lane front rising.1 is before.1,
)

abbrev pub calls_in : List LaneCalls → List Called
calls_in lanes = flat_map (λ (lane : LaneCalls). lane.calls) lanes

-- a call that each of the lanes may be behind
abbrev AllBefore : List LaneCalls → Called → Type 0
AllBefore lanes call = AllByRecursion (λ (lane : LaneCalls). MayPrecede lane call) lanes

heads : (lane : LaneCalls) (lanes : List LaneCalls) (front : List Called)
    → AllByRecursion (AllBefore (lane ∷ lanes)) front → AllByRecursion (MayPrecede lane) front
heads lane lanes front all =
    all_map (AllBefore (lane ∷ lanes)) (MayPrecede lane) front (λ c a. a.0) all

tails : (lane : LaneCalls) (lanes : List LaneCalls) (front : List Called)
    → AllByRecursion (AllBefore (lane ∷ lanes)) front → AllByRecursion (AllBefore lanes) front
tails lane lanes front all =
    all_map (AllBefore (lane ∷ lanes)) (AllBefore lanes) front (λ c a. a.1) all

-- a lane's own calls are of another lane than those of the others
own_before : (lane : LaneCalls) (lanes : List LaneCalls) (call : Called) → call.lane ≡ lane.number
    → lane.number ≢ 0 → AllByRecursion (λ (other : LaneCalls). lane.number ≢ other.number) lanes
    → AllBefore lanes call
own_before lane [] call own positive apart = tt
own_before lane (l ∷ lanes) call own positive apart = (
  inl ((λ e. apart.0 (sym own ∙ e)), (λ e. positive (sym own ∙ e))),
  own_before lane lanes call own positive apart.1,
)

rising_behind : (first : View) (front : List Called) (lanes : List LaneCalls) → Rising front
    → AllByRecursion (AllBefore lanes) front → RiseTogether first lanes
    → Rising (front ++ calls_in lanes)
rising_behind first front [] rising before are = subst Rising (sym (append-nil front)) rising
rising_behind first front (lane ∷ lanes) rising before are =
    subst Rising (append_assoc front lane.calls (calls_in lanes))
    (rising_behind first (front ++ lane.calls) lanes
    (rising_sum lane front rising are.0 (heads lane lanes front before))
    (all_append (AllBefore lanes) front lane.calls (tails lane lanes front before)
    (all_map (λ (call : Called). call.lane ≡ lane.number) (AllBefore lanes) lane.calls
    (λ call own. own_before lane lanes call own are.1 are.3) are.0.own)) are.4)

-- what stands in a record stands in one that has all of it
known_more : (v w : View) (h : ℕ) (e : Event) → HasAllOf v w → IsKnownTo v h e → IsKnownTo w h e
known_more v w h FindsFreed all known = (known.0, all h known.0 true known.1)
known_more v w h (Makes bytes version) all known = λ n e.
    let k = known n e in (k.0, all h n k.0 k.1)
known_more v w h (Shows version bytes) all known = λ n e.
    let k = known n e in (k.0, all h n k.0 k.1)
known_more v w h (Pins version) all known = λ n e. let k = known n e in (k.0, all h n k.0 k.1)
known_more v w h (Writes at bytes version) all known = λ n e.
    let k = known n e in (k.0, all h n k.0 k.1)
known_more v w h (Frees version) all known = λ n e. let k = known n e in (k.0, all h n k.0 k.1)
known_more v w h (FindsFull number) all known = λ n e. absurd cc
known_more v w h FindsUnmade all known = λ n e. absurd cc
known_more v w h (FindsEnd at bytes len) all known = λ n e. absurd cc
known_more v w h (Refused subject) all known = λ n e. absurd cc
known_more v w h Wrong all known = λ n e. absurd cc

all_before : (first : View) (lanes : List LaneCalls) (call : Called) → RiseTogether first lanes
    → IsOnRecord first call → AllBefore lanes call
all_before first [] call are known = tt
all_before first (lane ∷ lanes) call are known = (
  inr (λ h on. known_more first lane.start h call.event are.2 (known h on)),
  all_before first lanes call are.4 known,
)

-- The calls of lane 0, whose answers stand in its record, and behind them those of the other lanes,
-- which started from records that have all of it.
pub rising_lanes : (first : View) (calls : List Called) (lanes : List LaneCalls) → Rising calls
    → AllByRecursion (IsOnRecord first) calls → RiseTogether first lanes
    → Rising (calls ++ calls_in lanes)
rising_lanes first calls lanes rising known are = rising_behind first calls lanes rising
    (all_map (IsOnRecord first) (AllBefore lanes) calls (λ c k. all_before first lanes c are k) known)
    are
