-- Worked examples of turns that hand an order out, or take one: what meets each definition, and what
-- breaks one part.
use Rattle.std.proofs.Common.{◌≡◌, ℕ, zero, suc, ◌^◌, ◌<◌, get_or, List, [], ◌∷◌, Option, None, Some, length, refl, sym, ap, ◌∙◌, arith, inl, inr, lit<}
use Rattle.std.specs.Prelude.{Ok, Err}
use Rattle.cb_member.specs.declared.names.Loss.{Loss}
use Rattle.cb_member.specs.declared.no_memory.NoMemory.{NoMemory}
use Rattle.cb_set.specs.Lost.{lost}
use Rattle.cb_set.specs.SetState.{SetState, parities}
use Rattle.cb_types.specs.declared.config.Config.{Config}
use Rattle.cb_types.specs.Config.{IsAccepted}
use Rattle.cb_types.specs.declared.handle.SetId.{SetId}
use Rattle.cb_types.specs.declared.job.Job.TheVariants.{Evict, Fetch, Gather, Install, Land, Swap}
use Rattle.cb_types.specs.Jobs.{job_index}
use Rattle.cb_types.specs.Orders.{IsEncodable}
use Rattle.cb_types.specs.declared.order.DecodeOrder.{DecodeOrder}
use Rattle.cb_types.specs.declared.order.EncodeOrder.{EncodeOrder}
use Rattle.cb_types.specs.declared.order.Kept.{Kept}
use Rattle.cb_types.specs.declared.order.Kept.TheVariants.{Decode, Encode}
use Rattle.cb_types.specs.declared.reply.Reply.TheVariants as answer
use Rattle.cb_world.specs.declared.access.Access.{Access}
use Rattle.cb_world.specs.declared.shown.Shown.{Shown}
use Rattle.cb_world.specs.Empty.{empty_far, empty_shown}
use Rattle.cb_world.specs.FarState.{FarState}
use Rattle.cb_world.specs.Leaving.{LeavingState}
use Rattle.cb_world.specs.Orders.{IsEncodeKept}
use Rattle.cb_world.specs.Sound.{Sound}
use Rattle.cb_world.proofs.Laws.{codes_stay, counted_holds, empty_world_sound, recounted}
use Rattle.cb_evict.specs.declared.gathering.Gathered.TheVariants as gathered
use Rattle.cb_swapin.specs.declared.fetching.Fetching.TheVariants as fetching
use Rattle.cb_core.specs.Jobs.{NeedsNoOrder}
use Rattle.cb_core.specs.Ordered.{EndsWith, InstallEnds, InstallTurn, StoppedWith, StopsAt, TurnedWith, fetch_answer, fetch_keeps, gather_answer, gather_keeps, land_keeps}
use Rattle.cb_core.specs.Ordered.InstallTurn.{done as install_done, worn as install_worn}
use Rattle.cb_core.specs.Ordered.StopsAt.{in_part, in_run}
use Rattle.cb_core.specs.Ordered.TurnedWith.{done, worn}
use Rattle.cb_core.specs.OrderLeaves.{HandsOrder, InstallLeaves, LeavesWith, TurnsWith}
use Rattle.cb_core.specs.OrderParts.{decode_in, encode_in, landed_order}
use Rattle.cb_core.specs.Parts.{Holding}
use Rattle.cb_core.specs.Parts.RoomStops.{at_once as lacks_now}
use Rattle.cb_core.specs.Parts.WithRoom.{at_once}
use Rattle.cb_core.specs.TurnLeaves.{TurnLeaves}
use Rattle.cb_core.specs.Turned.{counted}
use Rattle.cb_core.specs.Unavailable.{IsSetLost, LandTells}
use Rattle.cb_core.proofs.OrdersCounted.{still_kept}
use Rattle.cb_core.proofs.Counting.{counted_sound}
use Rattle.cb_core.proofs.KeptParts.{KeepsNote, counted_rises}
use Rattle.cb_core.proofs.WorkedRoom.{first_down}
use Rattle.cb_core.proofs.WorkedUnavailable.{both_down, both_lost, far, five, loss, set, set_is, there}

-- ---- jobs
a_swap : NeedsNoOrder (Swap (record { n = 0 }))
a_swap = tt

a_gather : NeedsNoOrder Gather → ⊥
a_gather x = x

an_install : NeedsNoOrder Install → ⊥
an_install x = x

a_fetch : NeedsNoOrder (Fetch (record { n = 0 })) → ⊥
a_fetch x = x

a_landing : NeedsNoOrder Land → ⊥
a_landing x = x

-- ---- what a seat keeps
abbrev encode : EncodeOrder
encode = record { set = 5; k = 1; r = 1; rows = [] }

abbrev decode : DecodeOrder
decode = record { set = 5; position = 0; k = 1; r = 1; present = 1 ∷ []; rows = [] }

taken : landed_order (Some (Decode decode)) (answer.Swapped 3) ≡ None
taken = refl

kept_behind_a_refusal : landed_order (Some (Decode decode)) (answer.Changed (record { n = 5 }))
    ≡ Some (Decode decode)
kept_behind_a_refusal = refl

not_to_install : encode_in (Some (Decode decode)) ≡ None
not_to_install = refl

to_install : encode_in (Some (Encode encode)) ≡ Some (Encode encode)
to_install = refl

not_to_land : decode_in (Some (Encode encode)) ≡ None
not_to_land = refl

to_land : decode_in (Some (Decode decode)) ≡ Some (Decode decode)
to_land = refl

-- a new order takes the place of the one before, and else that stays, also where there was no memory
gathers_anew : gather_keeps (Some (Decode decode)) (Ok (gathered.Order encode)) ≡ Some (Encode encode)
gathers_anew = refl

gathers_none : gather_keeps (Some (Decode decode)) (Ok (gathered.Answer answer.Worn))
    ≡ Some (Decode decode)
gathers_none = refl

gathers_unkept : (e : NoMemory) → gather_keeps (Some (Decode decode)) (Err e) ≡ None → ⊥
gathers_unkept e same = cc

gather_told : gather_answer (Ok (gathered.Order encode)) ≡ Ok (answer.Batch (record { n = 5 }))
gather_told = refl

gather_untold : (e : NoMemory) → gather_answer (Err e) ≡ Err e
gather_untold e = refl

fetches_anew : fetch_keeps (Some (Encode encode)) (Ok (fetching.Order decode)) ≡ Some (Decode decode)
fetches_anew = refl

fetches_none : fetch_keeps (Some (Encode encode)) (Ok (fetching.Answer answer.Direct))
    ≡ Some (Encode encode)
fetches_none = refl

fetches_unkept : (e : NoMemory) → fetch_keeps (Some (Encode encode)) (Err e) ≡ None → ⊥
fetches_unkept e same = cc

fetch_told : fetch_answer (Ok (fetching.Order decode)) ≡ Ok (answer.Fetched (record { n = 5 }) 0)
fetch_told = refl

fetch_untold : (e : NoMemory) → fetch_answer (Err e) ≡ Err e
fetch_untold e = refl

lands_it : land_keeps (Some (Decode decode)) (Ok (answer.Swapped 3)) ≡ None
lands_it = refl

lands_not : land_keeps (Some (Decode decode)) (Ok (answer.Changed (record { n = 5 })))
    ≡ Some (Decode decode)
lands_not = refl

lands_unkept : (e : NoMemory) → land_keeps (Some (Decode decode)) (Err e) ≡ None → ⊥
lands_unkept e same = cc

some_or_none : (o : Kept) → None ≡ Some o → ⊥
some_or_none o same = cc

-- ---- turns, from the empty world of a configuration
module _ (c : Config) (accepted : IsAccepted c) where
  abbrev start : FarState
  start = empty_far 1 c

  abbrev then_ : FarState
  then_ = counted start Install

  abbrev late : FarState
  late = record start { counts = record start.counts { turns = 2 ^ 40 } }

  -- no order is kept: the turn is counted, and nothing else is done
  no_order : InstallTurn start answer.NoOrder None None then_
  no_order = install_done (lit< tt) (record { reply = refl; state = refl }, refl)

  no_order_to_encode :
      InstallTurn start answer.NoOrder (Some (Decode decode)) (Some (Decode decode)) then_
  no_order_to_encode = install_done (lit< tt) (record { reply = refl; state = refl }, refl)

  refused_late : InstallTurn late answer.Worn (Some (Encode encode)) (Some (Encode encode)) late
  refused_late = install_worn refl refl refl refl

  uncounted : InstallTurn start answer.NoOrder None None start → ⊥
  uncounted (install_worn end is same stays) = absurd (let n : 0 ≡ 2 ^ 40 = end in omega (arith, n))
  uncounted (install_done few x) = absurd (let n : 0 ≡ 1 =
      ap (λ (f : FarState). f.counts.turns) x.0.state in omega (arith, n))

  installs_nothing : InstallTurn start answer.Done None None then_ → ⊥
  installs_nothing (install_worn end is same stays) = absurd (let n : 0 ≡ 2 ^ 40 = end in omega (arith, n))
  installs_nothing (install_done few x) = done_no_order x.0.reply
    where
      done_no_order : answer.Done ≡ answer.NoOrder → ⊥
      done_no_order e = cc

  gets_an_order : InstallTurn start answer.NoOrder None (Some (Encode encode)) then_ → ⊥
  gets_an_order (install_worn end is same stays) = absurd (let n : 0 ≡ 2 ^ 40 = end in omega (arith, n))
  gets_an_order (install_done few x) = some_none x.1
    where
      some_none : Some (Encode encode) ≡ None → ⊥
      some_none e = cc

  loses_its_order : InstallTurn late answer.Worn (Some (Encode encode)) None late → ⊥
  loses_its_order (install_worn end is same stays) = none_some same
    where
      none_some : None ≡ Some (Encode encode) → ⊥
      none_some e = cc
  loses_its_order (install_done few x) =
      absurd (let n : 2 ^ 40 < 2 ^ 40 = few in omega (arith, n))

  -- a desk that does nothing and shows the empty world
  abbrev run : ℕ → List Access → ℕ → Type 0
  run d es e = es ≡ []

  abbrev shows : ℕ → Shown → Type 0
  shows d s = s ≡ empty_shown 1 c

  abbrev at : FarState → Holding ℕ
  at f = record { desk = 0; far = f }

  -- there is nothing to land
  lands_nothing : TurnedWith run shows c Land None (at start) answer.NoOrder None (at (counted start Land))
  lands_nothing = done (lit< tt) (
    at_once (record {
      events = [];
      ran = refl;
      looks_first = tt;
      rule = record { reply = refl; same = refl; none = refl };
      allowed = λ s k. tt;
      sound_after = λ s k. k.1;
      effect = λ s k. refl;
    }) (λ e. no_order_no_frame e),
    refl,
  )
    where
      no_order_no_frame : answer.NoOrder ≡ answer.NoFrame → ⊥
      no_order_no_frame e = cc

  lands_late : TurnedWith run shows c Land (Some (Decode decode)) (at late) answer.Worn
      (Some (Decode decode)) (at late)
  lands_late = worn refl refl refl refl refl

  lands_and_forgets : TurnedWith run shows c Land (Some (Decode decode)) (at late) answer.Worn None
      (at late) → ⊥
  lands_and_forgets (worn end is same stays ran) = none_some same
    where
      none_some : None ≡ Some (Decode decode) → ⊥
      none_some e = cc
  lands_and_forgets (done few x) = absurd (let n : 2 ^ 40 < 2 ^ 40 = few in omega (arith, n))

  -- no other job is one of these
  evicts_so : TurnedWith run shows c Evict None (at start) answer.NoOrder None (at start) → ⊥
  evicts_so (worn end is same stays ran) = absurd (let n : 0 ≡ 2 ^ 40 = end in omega (arith, n))
  evicts_so (done few x) = x

  -- a landing that lacks memory is counted, and does nothing
  land_stops : StoppedWith run shows c Land (Some (Decode decode)) (at start) (at (counted start Land))
  land_stops = record { few = lit< tt; stops = lacks_now (refl, refl) }

  land_stops_late : StoppedWith run shows c Land (Some (Decode decode)) (at late) (at late) → ⊥
  land_stops_late x = absurd (let n : 2 ^ 40 < 2 ^ 40 = x.few in omega (arith, n))

  -- an install never lacks any
  install_stops : StoppedWith run shows c Install None (at start) (at then_) → ⊥
  install_stops x = x.stops

  -- ---- where one stops, and what one comes to
  -- an order that can't be run: the turn is counted, and nothing is done
  land_in_run : StopsAt run shows c Land (Some (Decode decode)) (at start) (at (counted start Land))
  land_in_run = in_run (lit< tt) (inr (decode, refl, refl)) (refl, refl)

  land_in_part : StopsAt run shows c Land (Some (Decode decode)) (at start) (at (counted start Land))
  land_in_part = in_part land_stops

  stops_late : StopsAt run shows c Land (Some (Decode decode)) (at late) (at late) → ⊥
  stops_late (in_run few runs nothing) = absurd (let n : 2 ^ 40 < 2 ^ 40 = few in omega (arith, n))
  stops_late (in_part x) = absurd (let n : 2 ^ 40 < 2 ^ 40 = x.few in omega (arith, n))

  runs_no_order : StopsAt run shows c Install None (at start) (at then_) → ⊥
  runs_no_order (in_run few (inl x) nothing) = some_or_none (Encode x.0) x.2
  runs_no_order (in_run few (inr x) nothing) = some_or_none (Decode x.0) x.2
  runs_no_order (in_part x) = x.stops

  stops_uncounted : StopsAt run shows c Install (Some (Encode encode)) (at start) (at start) → ⊥
  stops_uncounted (in_run few runs nothing) = absurd (let n : 0 ≡ 1 =
      ap (λ (f : FarState). f.counts.turns) nothing.1 in omega (arith, n))
  stops_uncounted (in_part x) = x.stops

  ends_late : EndsWith run shows c Land (Some (Decode decode)) (at late) (Some (Decode decode))
      (Ok answer.Worn) (at late)
  ends_late = lands_late

  ends_early : EndsWith run shows c Evict None (at start) None (Ok answer.NoOrder) (at start) → ⊥
  ends_early = evicts_so

  ends_in_run : (e : NoMemory) → EndsWith run shows c Land (Some (Decode decode)) (at start)
      (Some (Decode decode)) (Err e) (at (counted start Land))
  ends_in_run e = (refl, land_in_run)

  ends_and_forgets : (e : NoMemory) → EndsWith run shows c Land (Some (Decode decode)) (at start) None
      (Err e) (at (counted start Land)) → ⊥
  ends_and_forgets e x = some_or_none (Decode decode) x.0

  ends_too_late : (e : NoMemory) → EndsWith run shows c Land (Some (Decode decode)) (at late)
      (Some (Decode decode)) (Err e) (at late) → ⊥
  ends_too_late e x = stops_late x.1

  -- an install, at the far state alone
  install_ends : InstallEnds start None None (Ok answer.NoOrder) then_
  install_ends = no_order

  install_ends_so : InstallEnds start None None (Ok answer.Done) then_ → ⊥
  install_ends_so = installs_nothing

  install_in_run : (e : NoMemory)
      → InstallEnds start (Some (Encode encode)) (Some (Encode encode)) (Err e) then_
  install_in_run e = (refl, lit< tt, inl (encode, refl, refl), refl)

  install_forgets : (e : NoMemory) → InstallEnds start (Some (Encode encode)) None (Err e) then_ → ⊥
  install_forgets e x = some_or_none (Encode encode) x.0

  install_late : (e : NoMemory)
      → InstallEnds late (Some (Encode encode)) (Some (Encode encode)) (Err e) (counted late Install)
      → ⊥
  install_late e x = absurd (let n : 2 ^ 40 < 2 ^ 40 = x.1 in omega (arith, n))

  install_runs_none : (e : NoMemory) → InstallEnds start None None (Err e) then_ → ⊥
  install_runs_none e x = elim x.2 [
    | inl y ↦ some_or_none (Encode y.0) y.2
    | inr y ↦ some_or_none (Decode y.0) y.2
  ]

  install_uncounted : (e : NoMemory)
      → InstallEnds start (Some (Encode encode)) (Some (Encode encode)) (Err e) start → ⊥
  install_uncounted e x = absurd (let n : 0 ≡ 1 =
      ap (λ (f : FarState). f.counts.turns) x.3 in omega (arith, n))

  -- ---- what they leave
  abbrev Hands : Option Kept → Type 0
  Hands handed = HandsOrder run shows c (at start) (at then_) handed

  installed : InstallLeaves c start then_ None
  installed = let w = empty_world_sound c accepted in record {
    configured = recounted c start then_.counts w.configured;
    codes = codes_stay start then_ refl refl refl refl;
    counted = counted_rises {N = KeepsNote} start then_ then_ (job_index Install) w.counted (lit< tt)
        (lit< tt) refl (record {
          turns = refl;
          by_job = refl;
          sets = omega arith;
          keys = omega arith;
          epoch = omega arith;
          given = omega arith;
          note = λ n e. e;
        }) (counted_holds start (job_index Install) w.counted);
    next = inl (lit< tt, refl);
    sound = λ s sound kept. counted_sound s start then_ Install refl sound;
    orders = λ s sound kept o was. still_kept s start Install o was;
  }

  -- at another first version nothing stays sound
  unsound : Sound (empty_shown 1 c) start → InstallLeaves c start (record then_ { first = 2 }) None → ⊥
  unsound sound x =
      let n : 1 ≡ 2 = (x.sound (empty_shown 1 c) sound tt).here.known.first in omega (arith, n)

  -- an order whose number was drawn, where a number was drawn
  abbrev drawn : FarState
  drawn = record start { counts = record start.counts { sets = 1 } }

  abbrev small : EncodeOrder
  small = record { set = 0; k = 1; r = 1; rows = [] ∷ [] }

  no_batch : (b : LeavingState) → None ≡ Some b → ⊥
  no_batch b e = cc

  one_row : (i : ℕ) (d : List ℕ) → i < 1 → length (get_or small.rows i d) ≡ 0
  one_row zero d low = refl
  one_row (suc i) d low = absurd (omega (arith, low))

  fits : IsEncodable small
  fits = record {
    range = record {
      data_least = omega arith;
      data_most = omega arith;
      parities_least = omega arith;
      parities_most = omega arith;
    };
    count = refl;
    lengths = one_row;
  }

  small_kept : (s : Shown) → IsEncodeKept s drawn small
  small_kept s = record {
    fits = fits;
    drawn = lit< tt;
    code = λ b at same. absurd (no_batch b at);
    rows = λ b at same. absurd (no_batch b at);
  }

  -- where that is forgotten, the order is not kept
  forgotten : (s : Shown) → Sound s drawn → InstallLeaves c drawn then_ None → ⊥
  forgotten s sound x =
      let n = (x.orders s sound tt (Encode small) (small_kept s)).drawn in omega (arith, n)

  turn_forgot : Sound (empty_shown 1 c) drawn
      → TurnLeaves run shows c (at drawn) (at then_) (λ more. more ≡ []) → ⊥
  turn_forgot sound x = let s = empty_shown 1 c in
      let n = ((x.after s refl sound).orders (Encode small) (small_kept s)).drawn in
      omega (arith, n)

  leaves : TurnLeaves run shows c (at start) (at then_) (λ more. more ≡ [])
  leaves = record {
    events = [];
    ran = refl;
    configured = installed.configured;
    codes = installed.codes;
    counted = installed.counted;
    next = installed.next;
    after = λ s shown sound. record {
      sound = installed.sound s sound tt;
      orders = installed.orders s sound tt;
      more = [];
      wrote = refl;
      writes_them = λ old. refl;
    };
  }

  hands_nothing : Hands None
  hands_nothing = record { leaves = leaves; kept = λ s shown sound. tt }

  -- no number was drawn, so no order is kept
  hands_undrawn : Sound (empty_shown 1 c) start → Hands (Some (Encode encode)) → ⊥
  hands_undrawn sound x =
      let n : 5 < 0 = (x.kept (empty_shown 1 c) refl sound).drawn in omega (arith, n)

  -- what a seat keeps behind them
  abbrev Leaves : Option Kept → Option Kept → Type 0
  Leaves order keeps = LeavesWith run shows c (at start) (at then_) order keeps

  keeps_nothing : Leaves None None
  keeps_nothing = record { leaves = leaves; kept = λ s shown sound was. tt }

  keeps_undrawn : Sound (empty_shown 1 c) start → Leaves None (Some (Encode encode)) → ⊥
  keeps_undrawn sound x =
      let n : 5 < 0 = (x.kept (empty_shown 1 c) refl sound tt).drawn in omega (arith, n)

  -- of an order that was not kept before nothing is said
  was_undrawn : Leaves (Some (Encode encode)) (Some (Encode encode))
  was_undrawn = record {
    leaves = leaves;
    kept = λ s shown sound was. absurd (let n : 5 < 0 = was.drawn in omega (arith, n));
  }

  keeps_and_forgets : Sound (empty_shown 1 c) drawn
      → LeavesWith run shows c (at drawn) (at then_) None None → ⊥
  keeps_and_forgets sound x = turn_forgot sound x.leaves

  -- ---- what such a turn comes to, and what it leaves
  turns_so : TurnsWith run shows c Install None (at start) None (Ok answer.NoOrder) (at then_)
  turns_so = record {
    ends = done (lit< tt) (refl, (record { reply = refl; state = refl }, refl));
    leaves = keeps_nothing;
  }

  -- it leaves that, and is answered otherwise
  turns_to_install : TurnsWith run shows c Install None (at start) None (Ok answer.Done) (at then_) → ⊥
  turns_to_install x = by x.ends
    where
      done_no_order : answer.Done ≡ answer.NoOrder → ⊥
      done_no_order e = cc

      by : TurnedWith run shows c Install None (at start) answer.Done None (at then_) → ⊥
      by (worn end is same stays ran) = absurd (let n : 0 ≡ 2 ^ 40 = end in omega (arith, n))
      by (done few (ran, (y, same))) = done_no_order y.reply

  -- it is answered so, and leaves counts that are not those of the turns
  turns_uncounted : TurnsWith run shows c Land (Some (Decode decode)) (at late)
      (Some (Decode decode)) (Ok answer.Worn) (at late) → ⊥
  turns_uncounted x =
      absurd (let n : 0 ≡ 2 ^ 40 = x.leaves.leaves.counted.jobs in omega (arith, n))

-- ---- an order's set that has lost too many shards
pub lost_set : IsSetLost (far both_down) five both_lost
lost_set = record { set = set; there = there both_down; all = refl; many = lit< tt }

set_found : (losses : List Loss) → (z : IsSetLost (far both_down) five losses) → set ≡ z.set
set_found losses z = set_is z.set (sym (there both_down) ∙ z.there)

pub tells_one_of_two : IsSetLost (far both_down) five (loss 0 1 ∷ []) → ⊥
tells_one_of_two z = let e : 1 ≡ 2 = ap (λ (l : List Loss). length l) z.all
    ∙ ap (λ (s : SetState). length (lost both_down s.shards)) (sym (set_found (loss 0 1 ∷ []) z))
    in absurd (omega (arith, e))

not_too_many : IsSetLost (far first_down) five (loss 0 1 ∷ []) → ⊥
not_too_many z =
    let many = z.many in let e : 1 ≡ parities z.set = ap (λ (s : SetState). parities s)
    (set_is z.set (sym (there first_down) ∙ z.there)) in
    absurd (omega (arith, many, e))

-- where there is no order, no set is told of
tells_none : LandTells None (far both_down) answer.NoOrder
tells_none = record {
  only = λ id l e. absurd (no_order_lost id l e);
  each = λ o l e few live z. absurd (none_some o e);
}
  where
    no_order_lost : (id : SetId) (l : List Loss) → answer.NoOrder ≡ answer.Unavailable id l → ⊥
    no_order_lost id l e = cc

    none_some : (o : DecodeOrder) → None ≡ Some (Decode o) → ⊥
    none_some o e = cc

tells_without_an_order : LandTells None (far both_down) (answer.Unavailable five both_lost) → ⊥
tells_without_an_order x = let z = x.only five both_lost refl in none_some z.0 z.1
  where
    none_some : (o : DecodeOrder) → None ≡ Some (Decode o) → ⊥
    none_some o e = cc
