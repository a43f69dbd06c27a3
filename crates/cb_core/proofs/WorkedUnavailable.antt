-- Worked examples of objects whose set has lost too many shards: what meets each definition, and
-- what breaks one part.
use Rattle.std.proofs.Common.{◌≡◌, ℕ, ◌^◌, true, false, List, [], ◌∷◌, None, Some, length, refl, ap, sym, ◌∙◌, subst, inl, inr, lit<, arith}
use Rattle.std.specs.FinMap as map
use Rattle.cb_member.specs.declared.names.Loss.{Loss}
use Rattle.cb_member.specs.declared.names.Shard.{Shard}
use Rattle.cb_member.specs.Membership.{Membership}
use Rattle.cb_ptr.specs.Word.{state_number}
use Rattle.cb_set.specs.Lost.{lost}
use Rattle.cb_set.specs.SetState.{SetState, parities, set_of}
use Rattle.cb_types.specs.declared.handle.Handle.{Handle}
use Rattle.cb_types.specs.declared.handle.SetId.{SetId}
use Rattle.cb_types.specs.declared.job.Job.TheVariants as job
use Rattle.cb_types.specs.declared.reply.Reply.{Reply}
use Rattle.cb_types.specs.declared.reply.Reply.TheVariants as answer
use Rattle.cb_world.specs.declared.homes.Home.{Home}
use Rattle.cb_world.specs.FarState.{FarState}
use Rattle.cb_world.specs.Sets.{set_in}
use Rattle.cb_world.specs.World.{WorldState}
use Rattle.cb_core.specs.declared.event.Atomic.TheVariants as atomic
use Rattle.cb_core.specs.declared.event.Event.{Event}
use Rattle.cb_core.specs.declared.event.Event.TheVariants as event
use Rattle.cb_core.specs.Unavailable.{IsInLost, IsLost, TurnTells, asked_by, IsTurnMade, TellsUnavailable, LeadsTelling}
use Rattle.cb_core.proofs.WorkedPins.{desk, away, calm, seat_with}
use Rattle.cb_core.proofs.WorkedRoom.{counts, far_of, first_down, span_with}

-- ---- object 0 has its home in set 5, of one data row and one parity, at nodes 0 and 1
abbrev shard : ℕ → Shard
shard n = record { node = record { n = n }; incarnation = 0; key = n }

abbrev pub set : SetState
set = set_of 5 1 (shard 0 ∷ shard 1 ∷ [])
    (record { live = true; slots = Some 0 ∷ None ∷ None ∷ None ∷ [] } ∷ [])

abbrev home : Home
home = record { set = 5; position = 0; slot = 0 }

abbrev pub five : SetId
five = record { n = 5 }

-- node 0 crashed, and then node 1
abbrev pub both_down : Membership
both_down = record {
  epoch = 2;
  nodes = record { up = false; incarnation = 0; crashes = record { n = 1 } ∷ [] }
      ∷ record { up = false; incarnation = 0; crashes = record { n = 2 } ∷ [] } ∷ [];
}

abbrev pub loss : ℕ → ℕ → Loss
loss node epoch = record { node = record { n = node }; epoch = record { n = epoch } }

abbrev pub both_lost : List Loss
both_lost = loss 0 1 ∷ loss 1 2 ∷ []

abbrev pub far : Membership → FarState
far members = record (far_of (span_with (Some 1) None) (span_with None (Some 1)) None members (counts 0 [])) {
  sets = map.insert map.empty 5 (record { set = set; committed = true });
  homes = Some home ∷ None ∷ [];
}

-- object 0 has this word, and no seat has a pin
abbrev world : Membership → ℕ → WorldState
world members word =
    record { desk = desk word 3; far = far members; seats = seat_with [] ∷ seat_with [] ∷ [] }

pub there : (members : Membership) → set_in (far members).sets 5 ≡ Some set
there members = grind (arith, map.gets)

-- ---- an object whose set has lost too many
is_lost : IsLost (world both_down away) 0 five both_lost
is_lost = record {
  away = refl;
  home = record {
    home = home;
    set = set;
    at = refl;
    there = there both_down;
    number = refl;
    all = refl;
    many = lit< tt;
  };
}

not_away : IsLost (world both_down calm) 0 five both_lost → ⊥
not_away z = let e : 2 ≡ 1 = ap state_number z.away in absurd (omega (arith, e))

no_home : (id : SetId) (losses : List Loss) → IsLost (world both_down away) 1 id losses → ⊥
no_home id losses z = none_home z.home.home z.home.at
  where
    none_home : (h : Home) → None ≡ Some h → ⊥
    none_home h e = cc

home_is : (w : WorldState) (h : Home) → w.far.homes ≡ Some home ∷ None ∷ [] → Some home ≡ Some h → home ≡ h
home_is w h same e = cc

pub set_is : (s : SetState) → Some set ≡ Some s → set ≡ s
set_is s e = cc

another_set : IsLost (world both_down away) 0 (record { n = 4 }) both_lost → ⊥
another_set z =
    let same = home_is (world both_down away) z.home.home refl z.home.at in
    let e : 4 ≡ 5 = ap (λ (id : SetId). id.n) z.home.number ∙ ap (λ (h : Home). h.set) (sym same) in
    absurd (omega (arith, e))

set_found : (members : Membership) (id : SetId) (losses : List Loss)
    → (z : IsLost (world members away) 0 id losses) → set ≡ z.home.set
set_found members id losses z =
    let same = home_is (world members away) z.home.home refl z.home.at in
    set_is z.home.set (sym (there members) ∙ ap (λ (h : Home). set_in (far members).sets h.set) same
    ∙ z.home.there)

loses_one_of_two : IsLost (world both_down away) 0 five (loss 0 1 ∷ []) → ⊥
loses_one_of_two z = let e : 1 ≡ 2 = ap (λ (l : List Loss). length l) z.home.all
    ∙ ap (λ (s : SetState). length (lost both_down s.shards)) (sym (set_found both_down five (loss 0 1 ∷ []) z))
    in absurd (omega (arith, e))

-- one shard is lost, and the set has a parity for it
not_many : IsLost (world first_down away) 0 five (loss 0 1 ∷ []) → ⊥
not_many z =
    let many = z.home.many in let e : 1 ≡ parities z.home.set =
    ap (λ (s : SetState). parities s) (set_found first_down five (loss 0 1 ∷ []) z) in
    absurd (omega (arith, many, e))

-- ---- which event is about it
abbrev handle : Handle
handle = record { n = 0 }

read_asks : asked_by (event.Turn 3 (job.Read handle)) ≡ Some 0
read_asks = refl

write_asks : asked_by (event.Turn 3 (job.Write handle 0 [])) ≡ Some 0
write_asks = refl

swap_asks : asked_by (event.Turn 3 (job.Swap handle)) ≡ Some 0
swap_asks = refl

free_asks_none : asked_by (event.Turn 3 (job.Free handle)) ≡ None
free_asks_none = refl

pin_asks_none : asked_by (event.Step 3 (atomic.Pin handle)) ≡ None
pin_asks_none = refl

-- ---- what it is answered
abbrev lost_world : WorldState
lost_world = world both_down away

abbrev read : Event
read = event.Turn 0 (job.Read handle)

abbrev number_of : Reply → ℕ
number_of (answer.Unavailable id losses) = id.n
number_of r = 9

abbrev losses_of : Reply → List Loss
losses_of (answer.Unavailable id losses) = losses
losses_of r = []

abbrev unavailable : Reply
unavailable = answer.Unavailable five both_lost

-- a look is never answered so
look_tells : TellsUnavailable lost_world (event.Step 0 (atomic.Load handle)) (answer.Word 16385)
look_tells = record {
  only = λ id l e. absurd (word_lost id l e);
  each = λ h id l asked made z. absurd made;
  landed = λ id l made z. absurd z;
}
  where
    word_lost : (id : SetId) (l : List Loss) → answer.Word 16385 ≡ answer.Unavailable id l → ⊥
    word_lost id l e = cc

-- a read of an object whose set is whole enough
of_another : TellsUnavailable (world first_down away) read (answer.Unavailable five (loss 0 1 ∷ [])) → ⊥
of_another z = elim (z.only five (loss 0 1 ∷ []) refl) [
  | inl x ↦ by x
  | inr x ↦ no_landing x.1
]
  where
    no_landing : job.Read handle ≡ job.Land → ⊥
    no_landing e = cc

    asked_is : (h : ℕ) → Some 0 ≡ Some h → h ≡ 0
    asked_is h e = cc

    by : (h : ℕ) × (asked_by read ≡ Some h) × IsLost (world first_down away) h five (loss 0 1 ∷ [])
        → ⊥
    by (h, asked, lost) = not_many
        (subst (λ (i : ℕ). IsLost (world first_down away) i five (loss 0 1 ∷ [])) (asked_is h asked) lost)

told_by_a_free : TellsUnavailable lost_world (event.Turn 0 (job.Free handle)) unavailable → ⊥
told_by_a_free z = elim (z.only five both_lost refl) [
  | inl x ↦ none_asked x.0 x.1
  | inr x ↦ no_landing x.1
]
  where
    no_landing : job.Free handle ≡ job.Land → ⊥
    no_landing e = cc

    none_asked : (h : ℕ) → None ≡ Some h → ⊥
    none_asked h e = cc

-- the read of the lost object tells the set and both shards, and nothing else
not_told : (r : Reply) → IsTurnMade lost_world read → TellsUnavailable lost_world read r → r ≡ unavailable
not_told r made z = z.each 0 five both_lost refl made is_lost

tells_another_set : IsTurnMade lost_world read
    → TellsUnavailable lost_world read (answer.Unavailable (record { n = 4 }) both_lost) → ⊥
tells_another_set made z =
    let e : 4 ≡ 5 = ap number_of (not_told _ made z) in absurd (omega (arith, e))

tells_one_loss : IsTurnMade lost_world read
    → TellsUnavailable lost_world read (answer.Unavailable five (loss 0 1 ∷ [])) → ⊥
tells_one_loss made z =
    let e : 1 ≡ 2 = ap (λ (r : Reply). length (losses_of r)) (not_told _ made z) in
    absurd (omega (arith, e))

reads_all_the_same : IsTurnMade lost_world read
    → TellsUnavailable lost_world read (answer.Bytes 3 (10 ∷ 11 ∷ [])) → ⊥
reads_all_the_same made z =
    let e : 9 ≡ 5 = ap number_of (not_told _ made z) in absurd (omega (arith, e))

-- ---- a turn over any desk
is_in_lost : IsInLost (far both_down) 0 five both_lost
is_in_lost = is_lost.home

free_tells : TurnTells (job.Free handle) (far both_down) (answer.Version 4)
free_tells = record {
  only = λ id l e. absurd (version_lost id l e);
  each = λ h id l asked few z. absurd (none_asked h asked);
}
  where
    version_lost : (id : SetId) (l : List Loss) → answer.Version 4 ≡ answer.Unavailable id l → ⊥
    version_lost id l e = cc

    none_asked : (h : ℕ) → None ≡ Some h → ⊥
    none_asked h e = cc

free_tells_of_a_set : TurnTells (job.Free handle) (far both_down) unavailable → ⊥
free_tells_of_a_set z = none_asked (z.only five both_lost refl).0 (z.only five both_lost refl).1
  where
    none_asked : (h : ℕ) → None ≡ Some h → ⊥
    none_asked h e = cc

-- a read of an object whose set has a parity for the shard that it lost
turn_of_another : TurnTells (job.Read handle) (far first_down) (answer.Unavailable five (loss 0 1 ∷ [])) → ⊥
turn_of_another z = by (z.only five (loss 0 1 ∷ []) refl)
  where
    asked_is : (h : ℕ) → Some 0 ≡ Some h → h ≡ 0
    asked_is h e = cc

    by : (h : ℕ) × (asked_by read ≡ Some h) × IsInLost (far first_down) h five (loss 0 1 ∷ []) → ⊥
    by (h, asked, lost) = not_many (record {
      away = refl;
      home = subst (λ (i : ℕ). IsInLost (far first_down) i five (loss 0 1 ∷ [])) (asked_is h asked) lost;
    })

turn_tells_another_set : TurnTells (job.Read handle) (far both_down)
    (answer.Unavailable (record { n = 4 }) both_lost) → ⊥
turn_tells_another_set z =
    let e : 4 ≡ 5 = ap number_of (z.each 0 five both_lost refl (lit< tt) is_in_lost) in
    absurd (omega (arith, e))

turn_reads_all_the_same : TurnTells (job.Read handle) (far both_down) (answer.Bytes 3 (10 ∷ 11 ∷ [])) → ⊥
turn_reads_all_the_same z =
    let e : 9 ≡ 5 = ap number_of (z.each 0 five both_lost refl (lit< tt) is_in_lost) in
    absurd (omega (arith, e))

-- one that is refused for its number tells of none
refused_tells : (f : FarState) → f.counts.turns ≡ 2 ^ 40 → TurnTells (job.Read handle) f answer.Worn
refused_tells f end = record {
  only = λ id l e. absurd (worn_lost id l e);
  each = λ h id l asked few z. absurd (omega (arith, few, end));
}
  where
    worn_lost : (id : SetId) (l : List Loss) → answer.Worn ≡ answer.Unavailable id l → ⊥
    worn_lost id l e = cc

-- ---- runs
no_events : LeadsTelling lost_world [] [] lost_world
no_events = refl

one_look : LeadsTelling lost_world (event.Step 0 (atomic.Load handle) ∷ []) (answer.Word 16385 ∷ []) lost_world
one_look = (lost_world, (refl, refl), look_tells, refl)

a_reply_too_few : LeadsTelling lost_world (read ∷ []) [] lost_world → ⊥
a_reply_too_few leads = leads

told_wrongly : (new : WorldState) → IsTurnMade lost_world read
    → LeadsTelling lost_world (read ∷ []) (answer.Bytes 3 (10 ∷ 11 ∷ []) ∷ []) new → ⊥
told_wrongly new made leads = reads_all_the_same made leads.2

ends_elsewhere : (other : WorldState) → (other ≡ lost_world → ⊥)
    → LeadsTelling lost_world (event.Step 0 (atomic.Load handle) ∷ []) (answer.Word 16385 ∷ []) other
    → ⊥
ends_elsewhere other not leads = not (leads.3 ∙ leads.1.1)
