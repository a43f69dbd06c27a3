-- Worked examples of turns that hand an order out or take one.
use Rattle.std.proofs.Common.{◌≡◌, ℕ, ◌<◌, true, false, List, [], ◌∷◌, ◌++◌, length, Option, None}
use Rattle.std.proofs.Common.{Some, Ok, Err, refl, sym, ap, ◌∙◌, subst, inl, inr, lit<, lit≤, arith}
use Rattle.std.proofs.Common.{length-append}
use Rattle.std.proofs.lemmas.Bool.{eqb-false}
use Rattle.std.specs.Borrow.{Bor}
use Rattle.std.specs.FinMap as map
use Rattle.cb_member.specs.declared.names.Loss.{Loss}
use Rattle.cb_member.specs.declared.names.Shard.{Shard}
use Rattle.cb_member.specs.declared.no_memory.NoMemory.{NoMemory}
use Rattle.cb_set.specs.SetState.{SetState, set_of}
use Rattle.cb_types.specs.declared.handle.SetId.{SetId}
use Rattle.cb_types.specs.declared.job.Job.TheVariants as jobs
use Rattle.cb_types.specs.declared.order.DecodeOrder.{DecodeOrder}
use Rattle.cb_types.specs.declared.order.EncodeOrder.{EncodeOrder}
use Rattle.cb_types.specs.declared.order.Kept.{Kept}
use Rattle.cb_types.specs.declared.order.Kept.TheVariants.{Decode, Encode}
use Rattle.cb_types.specs.declared.reply.Reply.{Reply}
use Rattle.cb_types.specs.declared.reply.Reply.TheVariants as answer
use Rattle.cb_orders.specs.Done.{DecodeDoneState, EncodeDoneState}
use Rattle.cb_world.specs.declared.access.Access.{Access}
use Rattle.cb_world.specs.declared.shown.Shown.{Shown}
use Rattle.cb_world.specs.FarState.{FarState}
use Rattle.cb_world.proofs.Laws.{codes_stay}
use Rattle.cb_evict.specs.declared.gathering.Gathered.TheVariants as gathered
use Rattle.cb_swapin.specs.declared.fetching.Fetching.TheVariants as fetching
use Rattle.cb_core.specs.Ordered.{TurnedWith}
use Rattle.cb_core.specs.Ordered.TurnedWith.{done, worn}
use Rattle.cb_core.specs.OrderLeaves.{HandsOrder}
use Rattle.cb_core.specs.Parts.{Holding}
use Rattle.cb_core.specs.Turned.{counted}
use Rattle.cb_core.specs.Unavailable.{IsInLost}
use Rattle.cb_rule.specs.declared.view.View.{View}
use Rattle.cb_rule.specs.Steps.{IsNewest, Knows, with_look}
use Rattle.cb_record.specs.Parts.{Part, grown, nothing_more}
use Rattle.cb_shared.specs.declared.asked.Asked.{Asked}
use Rattle.cb_shared.specs.declared.asked.Asked.TheVariants as asks
use Rattle.cb_shared.specs.declared.asked.Outcome.{Outcome}
use Rattle.cb_shared.specs.declared.asked.Outcome.TheVariants as ends
use Rattle.cb_shared.specs.Calls.{the_handle}
use Rattle.cb_shared.specs.Ordering.{AsksBelow, AsksDesk, FetchFinds, IsAnswered, IsNoWant}
use Rattle.cb_shared.specs.Ordering.{IsPlainFetch, IsPlainGather, MayAsk, fetched_of, handed_by}
use Rattle.cb_shared.specs.Ordering.{keeps_of, order_run, told}
use Rattle.cb_shared.specs.Reading.{looked_freed}
use Rattle.cb_shared.specs.Turning.{TurnBy}
use Rattle.cb_shared.proofs.CallSteps.{known_grown}
use Rattle.cb_shared.proofs.ReadParts.{grown_nothing, no_looks}
use Rattle.cb_shared.proofs.WorkedGround.{knows_made, made, part, two}
use Rattle.cb_shared.proofs.WorkedTurns.{adds_worn, worn_part}
use Rattle.cb_shared.proofs.WorkedUnder.{far, known, last, stood}

abbrev order_of : ℕ → EncodeOrder
order_of n = record { set = n; k = 2; r = 1; rows = [] }

-- to make the row of position 1 of set 3
abbrev row_order : DecodeOrder
row_order = record { set = 3; position = 1; k = 2; r = 1; present = 0 ∷ 2 ∷ []; rows = [] }

abbrev third : SetId
third = record { n = 3 }

abbrev kept : Option Kept
kept = Some (Encode (order_of 3))

abbrev row_kept : Option Kept
row_kept = Some (Decode row_order)

-- ---- what is kept, and told
-- an order that is handed out replaces the one before, and its reply tells of a batch, or of a
-- position
hands_out : keeps_of (ends.Gather (Ok (gathered.Order (order_of 4)))) kept
    ≡ Some (Encode (order_of 4))
hands_out = refl

gives_rows : keeps_of (ends.Fetch (Ok (fetching.Order row_order))) kept ≡ row_kept
gives_rows = refl

handed : handed_by (ends.Gather (Ok (gathered.Order (order_of 4)))) ≡ Some (Encode (order_of 4))
handed = refl

handed_rows : handed_by (ends.Fetch (Ok (fetching.Order row_order))) ≡ row_kept
handed_rows = refl

handed_none : (handed_by (ends.Install answer.Done) ≡ None)
    × (handed_by (ends.Land (Ok (answer.Swapped 2))) ≡ None)
    × (handed_by (ends.Fetch (Ok (fetching.Answer answer.Moving))) ≡ None)
handed_none = (refl, refl, refl)

tells_batch : told (ends.Gather (Ok (gathered.Order (order_of 3)))) ≡ Ok (answer.Batch third)
tells_batch = refl

tells_position : told (ends.Fetch (Ok (fetching.Order row_order))) ≡ Ok (answer.Fetched third 1)
tells_position = refl

tells_reply : (told (ends.Fetch (Ok (fetching.Answer answer.Direct))) ≡ Ok answer.Direct)
    × (told (ends.Install answer.NoBatch) ≡ Ok answer.NoBatch)
    × (told (ends.Land (Ok (answer.Swapped 2))) ≡ Ok (answer.Swapped 2))
tells_reply = (refl, refl, refl)

tells_lack : (e : NoMemory) → told (ends.Gather (Err e)) ≡ Err e
tells_lack e = refl

-- a refusal leaves the one before, and so does want of memory
refused : keeps_of (ends.Gather (Ok (gathered.Answer (answer.Leaving third)))) kept ≡ kept
refused = refl

not_far : keeps_of (ends.Fetch (Ok (fetching.Answer answer.Stays))) row_kept ≡ row_kept
not_far = refl

lacked : (e : NoMemory) → (keeps_of (ends.Gather (Err e)) kept ≡ kept)
    × (keeps_of (ends.Fetch (Err e)) kept ≡ kept)
    × (keeps_of (ends.Land (Err e)) row_kept ≡ row_kept)
lacked e = (refl, refl, refl)

-- an install takes it where it is done, and a landing where the position was brought in
installed : keeps_of (ends.Install answer.Done) kept ≡ None
installed = refl

not_installed : keeps_of (ends.Install answer.NoBatch) kept ≡ kept
not_installed = refl

landed : keeps_of (ends.Land (Ok (answer.Swapped 2))) row_kept ≡ None
landed = refl

not_landed : keeps_of (ends.Land (Ok (answer.Changed third))) row_kept ≡ row_kept
not_landed = refl

-- ---- what may be asked
-- an install and a landing are asked of a pass that keeps the order that was run, and of no other
abbrev done_of : ℕ → Bor EncodeDoneState
done_of n = record { ref_ptr = (0, 0); now = record { order = order_of n; parities = [] } }

abbrev row_done : Bor DecodeDoneState
row_done = record { ref_ptr = (0, 0); now = record { order = row_order; row = [] } }

may_install : MayAsk two kept (asks.Install (done_of 3))
may_install = refl

none_to_install : MayAsk two None (asks.Install (done_of 3)) → ⊥
none_to_install e = cc

another_to_install : MayAsk two kept (asks.Install (done_of 4)) → ⊥
another_to_install e = eqb-false 3 4 refl (ap set_in e)
  where
    set_in : Option Kept → ℕ
    set_in None = 0
    set_in (Some (Encode o)) = o.set
    set_in (Some (Decode o)) = 0

may_land : MayAsk two row_kept (asks.Land row_done)
may_land = refl

lands_to_install : MayAsk two kept (asks.Land row_done) → ⊥
lands_to_install e = cc

may_gather : MayAsk two row_kept asks.Gather
may_gather = tt

may_fetch : MayAsk two None (asks.Fetch (the_handle 1))
may_fetch = lit< tt

fetches_the_bound : MayAsk two None (asks.Fetch (the_handle 2)) → ⊥
fetches_the_bound low = omega (arith, low)

below : AsksBelow two (asks.Fetch (the_handle 1)) × AsksBelow two (asks.Land row_done)
below = (lit< tt, tt)

beyond : AsksBelow two (asks.Fetch (the_handle 2)) → ⊥
beyond low = omega (arith, low)

was_run : (order_run (asks.Install (done_of 3)) ≡ kept) × (order_run (asks.Land row_done) ≡ row_kept)
    × (order_run asks.Gather ≡ None) × (order_run (asks.Fetch (the_handle 1)) ≡ None)
was_run = (refl, refl, refl, refl)

-- ---- what is an answer
-- an order that is handed out, a refusal, and want of memory are plain; a reply that tells of an
-- order which is not there is not
plain_order : IsPlainGather (Ok (gathered.Order (order_of 3)))
plain_order = tt

plain_rows : IsPlainFetch (Ok (fetching.Order row_order))
plain_rows = tt

plain_lack : (e : NoMemory) → IsPlainGather (Err e) × IsPlainFetch (Err e)
plain_lack e = (tt, tt)

plain_direct : IsPlainFetch (Ok (fetching.Answer answer.Direct))
plain_direct = λ id p e. cc

batch_alone : IsPlainGather (Ok (gathered.Answer (answer.Batch third))) → ⊥
batch_alone not = not third refl

rows_alone : IsPlainFetch (Ok (fetching.Answer (answer.Fetched third 1))) → ⊥
rows_alone not = not third 1 refl

no_want : IsNoWant answer.NoBatch
no_want = λ frames loose nodes e. cc

want : IsNoWant (answer.NoRoom 6 1 2) → ⊥
want not = not 6 1 2 refl

-- a refusal is an answer to a gather; an order that is told of is handed out, there is no want of
-- room, and the answer to another job is none
is_refusal : IsAnswered asks.Gather (ends.Gather (Ok (gathered.Answer (answer.NoNodes 2))))
is_refusal = ((λ id e. cc), λ frames loose nodes e. cc)

told_alone : IsAnswered asks.Gather (ends.Gather (Ok (gathered.Answer (answer.Batch third)))) → ⊥
told_alone x = x.0 third refl

no_room : IsAnswered asks.Gather (ends.Gather (Ok (gathered.Answer (answer.NoRoom 6 1 2)))) → ⊥
no_room x = x.1 6 1 2 refl

of_another : IsAnswered asks.Gather (ends.Install answer.Done) → ⊥
of_another x = x

-- so of the three others, but that a landing may find no room, and is never told that of a frame
is_done : IsAnswered (asks.Install (done_of 3)) (ends.Install answer.Done)
is_done = λ frames loose nodes e. cc

installs_without_room : IsAnswered (asks.Install (done_of 3)) (ends.Install (answer.NoRoom 6 1 2)) → ⊥
installs_without_room x = x 6 1 2 refl

installs_another : IsAnswered (asks.Install (done_of 3)) (ends.Land (Ok answer.Done)) → ⊥
installs_another x = x

is_handed : IsAnswered (asks.Fetch (the_handle 1)) (ends.Fetch (Ok (fetching.Order row_order)))
is_handed = (tt, λ frames loose nodes e. cc)

fetched_alone : IsAnswered (asks.Fetch (the_handle 1))
    (ends.Fetch (Ok (fetching.Answer (answer.Fetched third 1)))) → ⊥
fetched_alone x = x.0 third 1 refl

fetches_without_room : IsAnswered (asks.Fetch (the_handle 1))
    (ends.Fetch (Ok (fetching.Answer (answer.NoRoom 6 1 2)))) → ⊥
fetches_without_room x = x.1 6 1 2 refl

fetches_another : IsAnswered (asks.Fetch (the_handle 1)) (ends.Land (Ok answer.Freed)) → ⊥
fetches_another x = x

lands_without_room : IsAnswered (asks.Land row_done) (ends.Land (Ok (answer.NoRoom 6 1 2)))
lands_without_room = λ e. cc

lands_without_frame : IsAnswered (asks.Land row_done) (ends.Land (Ok answer.NoFrame)) → ⊥
lands_without_frame x = x refl

lands_another : IsAnswered (asks.Land row_done) (ends.Install answer.Done) → ⊥
lands_another x = x

-- ---- what such a turn does, over a desk that does nothing and shows what is known
abbrev runs_none : ℕ → List Access → ℕ → Type 0
runs_none d es e = es ≡ []

abbrev shows_known : ℕ → Shown → Type 0
shows_known d s = s ≡ known

abbrev at : FarState → Holding ℕ
at f = record { desk = 0; far = f }

abbrev Does : Asked → Outcome → FarState → Type 0
Does asked o f = AsksDesk runs_none shows_known two asked o (at f) (at f)

-- the reply of a gather that was refused
abbrev answered : Reply → Outcome
answered r = ends.Gather (Ok (gathered.Answer r))

leaves_all : HandsOrder runs_none shows_known two (at (far last)) (at (far last)) None
leaves_all = record {
  leaves = record {
    events = [];
    ran = refl;
    configured = (stood last (lit≤ tt)).configured;
    codes = codes_stay (far last) (far last) refl refl refl refl;
    counted = (stood last (lit≤ tt)).counted;
    next = inr (refl, refl);
    after = λ s shown sound. record {
      sound = sound;
      orders = λ o is_kept. is_kept;
      more = [];
      wrote = refl;
      writes_them = λ old. refl;
    };
  };
  kept = λ s shown sound. tt;
}

-- it is refused for its number
worn_lost : (id : SetId) (losses : List Loss) → answer.Worn ≡ answer.Unavailable id losses → ⊥
worn_lost id losses e = cc

does_nothing : Does asks.Gather (answered answer.Worn) (far last)
does_nothing = record {
  turned = λ order may. worn refl refl refl refl refl;
  stopped = λ order may. tt;
  leaves = leaves_all;
  kind = ((λ id e. cc), λ frames loose nodes e. cc);
  tells = λ order may. record {
    only = λ id losses is. absurd (worn_lost id losses is);
    each = λ h id losses asked few lost. absurd (let n : last < last = few in omega (arith, n));
  };
}

-- another reply than that of its turn
refused_otherwise : Does asks.Gather (answered (answer.Leaving third)) (far last) → ⊥
refused_otherwise x = not_worn (x.turned None tt)
  where
    not_worn : TurnedWith runs_none shows_known two jobs.Gather None (at (far last))
        (answer.Leaving third) None (at (far last)) → ⊥
    not_worn (worn end is same stays ran) = let e : answer.Leaving third ≡ answer.Worn = is in cc
    not_worn (done few does) = let n : last < last = few in omega (arith, n)

-- want of memory of a turn that is not counted
lacks_at_last : (e : NoMemory) → Does asks.Gather (ends.Gather (Err e)) (far last) → ⊥
lacks_at_last e x = let few : last < last = (x.stopped None tt).0.few in omega (arith, few)

-- turns of no job
abbrev uncounted : FarState
uncounted = record (far last) { counts = record (far last).counts { by_job = [] } }

leaves_no_counts : Does asks.Gather (answered answer.Worn) uncounted → ⊥
leaves_no_counts x = eqb-false 0 24 refl x.leaves.leaves.counted.kinds

-- the answer to another job
answers_another : Does asks.Gather (ends.Install answer.Worn) (far last) → ⊥
answers_another x = x.kind

-- object 0 has its home in a set of one data row and one parity, whose nodes crashed: a fetch of it
-- is not answered otherwise
abbrev shard : ℕ → Shard
shard n = record { node = record { n = n }; incarnation = 0; key = n }

abbrev lost_set : SetState
lost_set = set_of 5 1 (shard 0 ∷ shard 1 ∷ []) (record { live = true; slots = Some 0 ∷ [] } ∷ [])

abbrev lost_far : FarState
lost_far = record (far 1) {
  sets = map.insert map.empty 5 (record { set = lost_set; committed = true });
  homes = Some (record { set = 5; position = 0; slot = 0 }) ∷ None ∷ [];
  members = record {
    epoch = 2;
    nodes = record { up = false; incarnation = 0; crashes = record { n = 1 } ∷ [] }
        ∷ record { up = false; incarnation = 0; crashes = record { n = 2 } ∷ [] } ∷ [];
  };
}

abbrev loss : ℕ → ℕ → Loss
loss node epoch = record { node = record { n = node }; epoch = record { n = epoch } }

is_lost : IsInLost lost_far 0 (record { n = 5 }) (loss 0 1 ∷ loss 1 2 ∷ [])
is_lost = record {
  home = record { set = 5; position = 0; slot = 0 };
  set = lost_set;
  at = refl;
  there = grind (arith, map.gets);
  number = refl;
  all = refl;
  many = lit< tt;
}

moves_while_lost : AsksDesk runs_none shows_known two (asks.Fetch (the_handle 0))
    (ends.Fetch (Ok (fetching.Answer answer.Moving))) (at lost_far)
    (at (counted lost_far (jobs.Fetch (the_handle 0)))) → ⊥
moves_while_lost x = moving_lost
    ((x.tells None (lit< tt)).each 0 (record { n = 5 }) (loss 0 1 ∷ loss 1 2 ∷ []) refl (lit< tt)
    is_lost)
  where
    moving_lost : answer.Moving ≡ answer.Unavailable (record { n = 5 }) (loss 0 1 ∷ loss 1 2 ∷ []) → ⊥
    moving_lost e = cc

-- ---- a fetch, and the look behind one that was answered Freed
looks : fetched_of 5 (Ok answer.Freed) ≡ Some 5
looks = refl

looks_not : fetched_of 5 (Ok answer.Moving) ≡ None
looks_not = refl

abbrev Fetches : Reply → View → Type 0
Fetches r w = FetchFinds two (the_handle 1) (Ok r) part w

-- object 1 is still known behind such a turn
knows_still : (d : Part) (m : View) → m ≡ grown d part → Knows 1 m
knows_still d m is = subst (Knows 1) (sym is) (known_grown 1 d part (inl (made, inl refl, refl)))

abbrev fetched : View
fetched = grown (worn_part (jobs.Fetch (the_handle 1))) part

fetched_by : TurnBy two (jobs.Fetch (the_handle 1)) (Ok answer.Worn) part fetched
fetched_by = (
  worn_part (jobs.Fetch (the_handle 1)),
  adds_worn (jobs.Fetch (the_handle 1)) part refl refl knows_made
      (record { had = refl; left = refl; old = refl; ended = refl }) refl,
  refl,
)

-- a turn alone where it was not answered so
fetches_alone : Fetches answer.Worn fetched
fetches_alone = (fetched, fetched_by, (nothing_more, refl, refl))

-- without the turn
fetches_unturned : Fetches answer.Worn part → ⊥
fetches_unturned (m, (e, adds, is), (d, grows, finds)) = eqb-false 0 1 refl
    (ap (λ (v : View). length v.turns) grows ∙ ap (λ (p : Part). length (p.turns ++ m.turns)) finds
    ∙ ap (λ (v : View). length v.turns) is ∙ ap (λ (p : Part). length (p.turns ++ [])) adds.part)

-- with a look where the answer was another
fetches_and_looks : Fetches answer.Worn (with_look 1 0 fetched) → ⊥
fetches_and_looks (m, (e, adds, is), (d, grows, finds)) = eqb-false 1 0 refl
    (ap (λ (v : View). length v.looks) grows ∙ ap (λ (p : Part). length (p.looks ++ m.looks)) finds
    ∙ ap (λ (v : View). length v.looks) is ∙ ap (λ (p : Part). length (p.looks ++ [])) adds.part
    ∙ (λ i. length (((adds.finds i).looks ++ (adds.reads i).looks) ++ [])))

-- behind Freed the freed entry of an object that the record knows is read
fetches_and_reads : (m : View) → TurnBy two (jobs.Fetch (the_handle 1)) (Ok answer.Freed) part m
    → IsNewest 1 3 m → Fetches answer.Freed (grown (looked_freed 1 3 0) m)
fetches_and_reads m turned newest = (
  m,
  turned,
  (
    looked_freed 1 3 0,
    refl,
    (
      (λ knows. record {
        before = nothing_more;
        last = looked_freed 1 3 0;
        lost = no_looks 1;
        finds = (0, 3, refl, subst (IsNewest 1 3) (grown_nothing m) newest, refl);
        part = refl;
      }),
      (λ off. absurd (off (knows_still turned.0 m turned.2))),
    ),
  ),
)

-- with none read
fetches_unread : (w : View) → w.seen ≡ [] → Fetches answer.Freed w → ⊥
fetches_unread w none (m, (e, adds, is), (d, grows, finds)) =
    let x = finds.0 (knows_still e m is) in
    let all : 0 ≡ length (d.seen ++ m.seen) =
    ap length (sym none ∙ ap (λ (v : View). v.seen) grows) in
    let parts : length d.seen ≡ length (x.last.seen ++ x.before.seen) =
    ap (λ (p : Part). length p.seen) x.part in
    let read : length x.last.seen ≡ 1 = ap (λ (p : Part). length p.seen) x.finds.4 in
    omega (
      arith,
      all,
      parts,
      read,
      length-append d.seen m.seen,
      length-append x.last.seen x.before.seen,
    )
