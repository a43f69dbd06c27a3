-- Worked examples of a call on an object that is first brought in, over a desk that is a number, and of
-- the first call of a read: what meets each, and what breaks one part alone.
use Rattle.std.proofs.Common.{◌≡◌, ◌⊎◌, ℕ, ◌+◌, List, [], ◌∷◌, None, Some, refl, sym, ap, ◌∙◌, arith, inl, inr}
use Rattle.cb_types.specs.declared.config.Config.{Config}
use Rattle.cb_types.specs.declared.handle.Handle.{Handle}
use Rattle.cb_types.specs.declared.job.Job.TheVariants.{Read}
use Rattle.cb_types.specs.declared.reply.Reply.{Reply}
use Rattle.cb_types.specs.declared.reply.Reply.TheVariants as answer
use Rattle.cb_world.specs.declared.access.Access.{Access}
use Rattle.cb_world.specs.declared.access.Access.TheVariants.{Looked}
use Rattle.cb_world.specs.declared.homes.Home.{Home}
use Rattle.cb_world.specs.declared.shown.Shown.{Shown}
use Rattle.cb_world.specs.Empty.{empty_far}
use Rattle.cb_world.specs.FarState.{FarState}
use Rattle.cb_world.specs.Homes.{home_at}
use Rattle.cb_core.specs.OnceHere.{IsThere, OnceHere, away, here, OnceHereStops, bringing_stops, call_stops}
use Rattle.cb_core.specs.Parts.{Holding}
use Rattle.cb_core.specs.Parts.BringsIn.{not_far, was_far}
use Rattle.cb_core.specs.Parts.RoomStops.{at_once as lacks_now, evicting, after}
use Rattle.cb_core.specs.Parts.WithRoom.{at_once, no_room, won}
use Rattle.cb_core.specs.ReadTurn.{BroughtToRead, StoppedToRead}
use Rattle.cb_core.specs.ReadTurn.BroughtToRead.{worn, done}
use Rattle.cb_core.specs.Turned.{Brings, ComeLacks, ComesIn, once_counted}

abbrev c : Config
c = record { k = 1; r = 1; nodes = 2; frames = 2; room = 4; handles = 2; turns = 0 }

abbrev at : ℕ → Holding ℕ
at desk = record { desk = desk; far = empty_far 1 c }

-- at desk 0 the object is far and comes in, at desk 1 it is here, and at desk 2 it is moving
abbrev comes : Holding ℕ → Reply → Holding ℕ → Type 0
comes a r b = ((a.desk ≡ 0) × (r ≡ answer.Swapped 7) × (b ≡ at 1))
    ⊎ (((a.desk ≡ 1) × (r ≡ answer.Stays) × (b ≡ at 1))
    ⊎ ((a.desk ≡ 2) × (r ≡ answer.Moving) × (b ≡ at 2)))

abbrev reads : Holding ℕ → Reply → Holding ℕ → Type 0
reads a r b = (r ≡ answer.Done) × (b ≡ at (a.desk + 10))

moving_there : (r : Reply) → r ≡ answer.Moving → IsThere r → ⊥
moving_there r e (inl s) = cc
moving_there r e (inr (f, s)) = cc

done_stays : (r : Reply) → r ≡ answer.Stays → r ≡ answer.Done → ⊥
done_stays r a b = cc

done_moving : (r : Reply) → r ≡ answer.Moving → r ≡ answer.Done → ⊥
done_moving r a b = cc

done_swapped : (r : Reply) → r ≡ answer.Swapped 7 → r ≡ answer.Done → ⊥
done_swapped r a b = cc

read_here : OnceHere comes reads (at 1) answer.Done (at 11)
read_here = here (at 1) answer.Stays (inr (inl (refl, refl, refl))) (inl refl) (refl, refl)

read_once_in : OnceHere comes reads (at 0) answer.Done (at 11)
read_once_in = here (at 1) (answer.Swapped 7) (inl (refl, refl, refl)) (inr (7, refl)) (refl, refl)

told_why : OnceHere comes reads (at 2) answer.Moving (at 2)
told_why = away (inr (inr (refl, refl, refl))) (moving_there answer.Moving refl)

-- an object that is here is not read
not_read : OnceHere comes reads (at 1) answer.Stays (at 1) → ⊥
not_read (away x off) = off (inl refl)
not_read (here m place x there y) = done_stays answer.Stays refl y.0

-- one that is moving is read
read_though : OnceHere comes reads (at 2) answer.Done (at 12) → ⊥
read_though (away (inl x) off) = done_swapped answer.Done x.1 refl
read_though (away (inr (inl x)) off) = done_stays answer.Done x.1 refl
read_though (away (inr (inr x)) off) = done_moving answer.Done x.1 refl
read_though (here m place (inl x) there y) = let e : 2 ≡ 0 = x.0 in omega (arith, e)
read_though (here m place (inr (inl x)) there y) = let e : 2 ≡ 1 = x.0 in omega (arith, e)
read_though (here m place (inr (inr x)) there y) = moving_there place x.1 there

-- ---- want of memory: of the bringing in 20 desks on, of the read 30
abbrev lacks_in : Holding ℕ → Holding ℕ → Type 0
lacks_in a b = b ≡ at (a.desk + 20)

abbrev lacks : Holding ℕ → Holding ℕ → Type 0
lacks a b = b ≡ at (a.desk + 30)

stops_in : OnceHereStops comes lacks_in lacks (at 0) (at 20)
stops_in = bringing_stops refl

stops_at_the_read : OnceHereStops comes lacks_in lacks (at 0) (at 31)
stops_at_the_read = call_stops (at 1) (answer.Swapped 7) (inl (refl, refl, refl)) (inr (7, refl)) refl

-- an object that is moving is not read, so no read lacks memory
stops_though : OnceHereStops comes lacks_in lacks (at 2) (at 32) → ⊥
stops_though (bringing_stops x) =
    let e : 32 ≡ 22 = ap (λ (h : Holding ℕ). h.desk) x in omega (arith, e)
stops_though (call_stops m place (inl x) there y) = let e : 2 ≡ 0 = x.0 in omega (arith, e)
stops_though (call_stops m place (inr (inl x)) there y) = let e : 2 ≡ 1 = x.0 in omega (arith, e)
stops_though (call_stops m place (inr (inr x)) there y) = moving_there place x.1 there

-- ---- the first call of a read, where 2^40 turns were counted
abbrev run : ℕ → List Access → ℕ → Type 0
run a es b = b ≡ a

abbrev shows : ℕ → Shown → Type 0
shows a s = Unit {0}

abbrev worn_far : ℕ → FarState
worn_far more = record (empty_far 1 c) {
  counts = record (empty_far 1 c).counts { turns = 1099511627776 + more };
}

abbrev worn_at : ℕ → Holding ℕ
worn_at more = record { desk = 3; far = worn_far more }

abbrev handle : Handle
handle = record { n = 0 }

worn_out : BroughtToRead run shows c handle (worn_at 0) answer.Worn (worn_at 0)
worn_out = worn refl refl refl refl

worn_is_told : BroughtToRead run shows c handle (worn_at 0) answer.Stays (worn_at 0) → ⊥
worn_is_told (worn end is same ran) = absurd (let z : ⊥ = cc in z)
worn_is_told (done few come) = omega (arith, few)

worn_is_not_counted : BroughtToRead run shows c handle (worn_at 0) answer.Worn (worn_at 1) → ⊥
worn_is_not_counted (worn end is same ran) =
    let e : 1099511627777 ≡ 1099511627776 = ap (λ (f : FarState). f.counts.turns) same in omega (arith, e)
worn_is_not_counted (done few come) = omega (arith, few)

worn_finds_memory : (b : Holding ℕ) → StoppedToRead run shows c handle (worn_at 0) b → ⊥
worn_finds_memory b x = let few = x.few in omega (arith, few)

-- ---- the first call of a read, at a desk that shows nothing, where few turns were counted
abbrev none : ℕ → Shown → Type 0
none a s = ⊥

-- the object is here, by a look at it: the turn is counted, and it is told that it stays
abbrev once_more : Holding ℕ
once_more = once_counted (at 3) (Read handle)

abbrev here_word : ℕ
here_word = 2

found_here : ComesIn run none c 0 once_more answer.Stays once_more
found_here = not_far (record {
  events = Looked 0 here_word ∷ [];
  ran = refl;
  looks_first = tt;
  rule = (
    refl,
    record {
      word = here_word;
      found = inr ((refl, refl), tt);
      touches = (refl, tt);
      settles_last = tt;
      answer = refl;
    },
  );
  allowed = λ s k. absurd k.0;
  sound_after = λ s k. absurd k.0;
  effect = λ s k. absurd k.0;
}) stays_is_here
  where
    stays_is_here : answer.Stays ≡ answer.NotHere → ⊥
    stays_is_here e = cc

brought_here : BroughtToRead run none c handle (at 3) answer.Stays once_more
brought_here = done (omega arith) found_here

-- an object without a home is not brought in
no_home : (m b : Holding ℕ) (r : Reply) → m.far ≡ once_more.far → Brings run none c 0 m r b → ⊥
no_home m b r same bring = by bring
  where
    lacks_one : (home : Home) → home_at m.far.homes 0 ≡ Some home → ⊥
    lacks_one home found =
        let e : None ≡ Some home = ap (λ (f : FarState). home_at f.homes 0) (sym same) ∙ found in cc

    by : Brings run none c 0 m r b → ⊥
    by (at_once x off) = lacks_one x.0 x.1
    by (no_room n why loose nodes x v is) = lacks_one x.0 x.1
    by (won n o id x v again) = lacks_one x.0 x.1

-- the turn is not counted
uncounted : BroughtToRead run none c handle (at 3) answer.Stays (at 3) → ⊥
uncounted (worn end is same ran) = let e : 0 ≡ 1099511627776 = end in omega (arith, e)
uncounted (done few (not_far x off)) =
    let e : 0 ≡ 1 = ap (λ (f : FarState). f.counts.turns) x.rule.0 in omega (arith, e)
uncounted (done few (was_far m x v)) = no_home m (at 3) answer.Stays x.rule.0 v

-- it is told to be worn out, where few turns were counted
worn_early : BroughtToRead run none c handle (at 3) answer.Worn (at 3) → ⊥
worn_early (worn end is same ran) = let e : 0 ≡ 1099511627776 = end in omega (arith, e)
worn_early (done few (not_far x off)) =
    let e : 0 ≡ 1 = ap (λ (f : FarState). f.counts.turns) x.rule.0 in omega (arith, e)
worn_early (done few (was_far m x v)) = no_home m (at 3) answer.Worn x.rule.0 v

-- the desk moved on, where it was worn out
worn_and_moved : BroughtToRead run none c handle (worn_at 0) answer.Worn
    (record { desk = 4; far = worn_far 0 }) → ⊥
worn_and_moved (worn end is same ran) = let e : 4 ≡ 3 = ran in omega (arith, e)
worn_and_moved (done few come) = omega (arith, few)

-- no memory was found for an object that has no home
stopped_without : (b : Holding ℕ) → StoppedToRead run none c handle (at 3) b → ⊥
stopped_without b x = by x.stops
  where
    lacks_one : (m : Holding ℕ) (home : Home) → m.far ≡ once_more.far
        → home_at m.far.homes 0 ≡ Some home → ⊥
    lacks_one m home same found =
        let e : None ≡ Some home = ap (λ (f : FarState). home_at f.homes 0) (sym same) ∙ found in cc

    by : ComeLacks run none c 0 once_more b → ⊥
    by (m, find, lacks_now (ran, (home, set, n, found, there, few, state))) =
        lacks_one m home find.rule.0 found
    by (m, find, evicting n x v) = lacks_one m x.0 find.rule.0 x.1
    by (m, find, after n o id x v u) = lacks_one m x.0 find.rule.0 x.1
