-- Worked turns that are made again, and what breaks each part of that alone.
use Rattle.std.proofs.Common.{◌≡◌, ℕ, Bool, true, false, ltb, not, List, [], ◌∷◌, length}
use Rattle.std.proofs.Common.{Option, None, Some, refl, ap, ◌∙◌, arith}
use Rattle.std.specs.FinMap as map
use Rattle.std.specs.List.{list_any}
use Rattle.cb_class.specs.Class.{pages_of}
use Rattle.cb_set.specs.SetState.{SetState, set_of}
use Rattle.cb_span.specs.Contents.{Contents}
use Rattle.cb_span.specs.declared.temp.Temp.TheVariants.{Hot}
use Rattle.cb_types.specs.declared.handle.Handle.{Handle}
use Rattle.cb_types.specs.declared.job.Job.{Job}
use Rattle.cb_types.specs.declared.job.Job.TheVariants.{Evict, Fetch, Free, Gather, Install, Land}
use Rattle.cb_types.specs.declared.job.Job.TheVariants.{Make, Read, Swap, Write}
use Rattle.cb_types.specs.declared.order.Kept.{Kept}
use Rattle.cb_types.specs.declared.order.Kept.TheVariants.{Decode, Encode}
use Rattle.cb_types.specs.declared.reply.Reply.TheVariants.{NoRoom, Worn}
use Rattle.cb_world.specs.declared.homes.Home.{Home}
use Rattle.cb_world.specs.Empty.{empty_far}
use Rattle.cb_world.specs.FarState.{FarState, pages_if}
use Rattle.cb_world.specs.Homes.{home_at}
use Rattle.cb_world.specs.Sets.{set_in}
use Rattle.cb_rule.specs.declared.turn.Turn.{Turn}
use Rattle.cb_rule.specs.TriesAgain.{home_pages, is_to_try_again, is_wide, job_pages, order_pages}
use Rattle.cb_rule.specs.TriesAgain.{pages_for, set_pages, tries_again}
use Rattle.cb_rule.proofs.WorkedLocking.{turn}

-- ---- the pages of a span
of_lengths : (pages_for 1 ≡ 1) × (pages_for 1024 ≡ 1) × (pages_for 1025 ≡ 2)
    × (pages_for 2048 ≡ 2) × (pages_for 2049 ≡ 4) × (pages_for 4096 ≡ 4)
of_lengths = (refl, refl, refl, refl, refl, refl)

-- a code of two data shards, and no span in local memory
abbrev bare : FarState
bare = record (empty_far 1 (record {
  k = 2;
  r = 1;
  nodes = 4;
  frames = 4;
  room = 6;
  handles = 2;
  turns = 0;
})) { spans = [] }

-- a span of this class in the second frame
abbrev with_span : ℕ → FarState
with_span index = record bare {
  spans = None ∷ Some (record {
    class = record { index = index };
    temp = Hot;
    slots = [];
  }) ∷ [];
}

abbrev handle : Handle
handle = record { n = 1 }

-- ---- is the job's span wide, or one in local memory?
abbrev wide : FarState → Option Kept → Job → Bool
wide far order job = is_wide far (job_pages far order job)

short_make : wide bare None (Make (7 ∷ [])) ≡ false
short_make = refl

long_make : (bytes : List ℕ) → length bytes ≡ 1025 → wide bare None (Make bytes) ≡ true
long_make bytes long = ap (λ (n : ℕ). is_wide bare (pages_for n)) long

narrow_span : wide (with_span 11) None (Make (7 ∷ [])) ≡ false
unfolding pages_of
narrow_span = refl

wide_span : wide (with_span 12) None (Make (7 ∷ [])) ≡ true
unfolding pages_of
wide_span = refl

-- the job of an object, by the pages of its set; a far one alone, and no other job but a landing
home_told : (far : FarState) (home : Home) (set : SetState) → home_at far.homes 1 ≡ Some home
    → set_in far.sets home.set ≡ Some set → home_pages far (home_at far.homes 1) ≡ set.pages
home_told far home set at there = ap (home_pages far) at ∙ ap set_pages there

wide_swap : (far : FarState) (home : Home) (set : SetState) → home_at far.homes 1 ≡ Some home
    → set_in far.sets home.set ≡ Some set → set.pages ≡ 2
    → (wide far None (Swap handle) ≡ true) × (wide far None (Read handle) ≡ true)
    × (wide far None (Write handle 0 []) ≡ true)
wide_swap far home set at there two =
    let e = ap (is_wide far) (home_told far home set at there ∙ two) in (e, e, e)

narrow_swap : (home : Home) (set : SetState) (far : FarState) → far.spans ≡ []
    → home_at far.homes 1 ≡ Some home → set_in far.sets home.set ≡ Some set → set.pages ≡ 1
    → wide far None (Swap handle) ≡ false
narrow_swap home set far none at there one =
    ap (is_wide far) (home_told far home set at there ∙ one)
    ∙ ap (list_any (λ (span : Option Contents). ltb 1 (pages_if span))) none

no_home : (wide bare None (Swap handle) ≡ false) × (job_pages bare None (Free handle) ≡ 0)
    × (job_pages bare None Evict ≡ 0)
no_home = (refl, refl, refl)

-- ---- a landing, by the pages of the set of the order that its seat keeps
abbrev with_set : ℕ → FarState
with_set pages = record bare {
  sets = map.insert map.empty 5 (record { set = set_of 5 pages [] []; committed = true });
}

-- the order to make row 0 of a set
abbrev row_of : ℕ → Option Kept
row_of set =
    Some (Decode (record { set = set; position = 0; k = 2; r = 1; present = []; rows = [] }))

pages_told : (pages : ℕ) → order_pages (with_set pages) (row_of 5) ≡ pages
pages_told pages = ap set_pages there
  where
    there : set_in (with_set pages).sets 5 ≡ Some (set_of 5 pages [] [])
    there = grind (arith, map.gets)

wide_landing : wide (with_set 2) (row_of 5) Land ≡ true
wide_landing = ap (is_wide (with_set 2)) (pages_told 2)

narrow_landing : wide (with_set 1) (row_of 5) Land ≡ false
narrow_landing = ap (is_wide (with_set 1)) (pages_told 1)

of_no_such_set : order_pages (with_set 2) (row_of 4) ≡ 0
of_no_such_set = ap set_pages none
  where
    none : set_in (with_set 2).sets 4 ≡ None
    none = grind (arith, map.gets)

-- no order, and one to encode, name no row that is to be brought in
no_row : (wide (with_set 2) None Land ≡ false)
    × (wide (with_set 2) (Some (Encode (record { set = 5; k = 2; r = 1; rows = [] }))) Land ≡ false)
no_row = (refl, refl)

-- and no other job is by an order
by_no_order : (far : FarState) (order : Option Kept)
    → (job_pages far order (Make (7 ∷ [])) ≡ 1) × (job_pages far order Evict ≡ 0)
    × (job_pages far order (Swap handle) ≡ home_pages far (home_at far.homes 1))
    × (job_pages far order Gather ≡ 0) × (job_pages far order Install ≡ 0)
    × (job_pages far order (Fetch handle) ≡ 0)
by_no_order far order = (refl, refl, refl, refl, refl, refl)

-- ---- is it made again? Few spans were loose, and there are frames enough
made_again : is_to_try_again bare None (Make (7 ∷ [])) (Some (NoRoom 364 1 4)) ≡ true
made_again = refl

as_many_loose_as_leave : is_to_try_again bare None (Make (7 ∷ [])) (Some (NoRoom 364 2 4)) ≡ false
as_many_loose_as_leave = refl

a_frame_less : is_to_try_again bare None (Make (7 ∷ [])) (Some (NoRoom 363 1 4)) ≡ false
a_frame_less = refl

another_refusal : is_to_try_again bare None (Make (7 ∷ [])) (Some Worn) ≡ false
another_refusal = refl

no_memory : is_to_try_again bare None (Make (7 ∷ [])) None ≡ false
no_memory = refl

-- with more data shards in force an eviction takes more, and more frames are asked for
abbrev of_three : FarState
of_three = record bare { code = record { k = 3; r = 1 } }

in_force : (is_to_try_again of_three None (Make (7 ∷ [])) (Some (NoRoom 366 2 4)) ≡ true)
    × (is_to_try_again of_three None (Make (7 ∷ [])) (Some (NoRoom 365 2 4)) ≡ false)
in_force = (refl, refl)

-- where the job's span has several pages
wide_by_the_job : (bytes : List ℕ) → length bytes ≡ 1025
    → is_to_try_again bare None (Make bytes) (Some (NoRoom 2655 1 4)) ≡ false
wide_by_the_job bytes long = ap not (long_make bytes long)

-- where a span in local memory has
wide_by_a_span :
    is_to_try_again (with_span 12) None (Make (7 ∷ [])) (Some (NoRoom 2655 1 4)) ≡ false
unfolding pages_of
wide_by_a_span = refl

narrow_beside : is_to_try_again (with_span 11) None (Make (7 ∷ [])) (Some (NoRoom 2655 1 4)) ≡ true
unfolding pages_of
narrow_beside = refl

-- and where there are frames enough for these
wide_with_frames : (bytes : List ℕ)
    → (is_to_try_again bare None (Make bytes) (Some (NoRoom 2656 1 4)) ≡ true)
    × (is_to_try_again (with_span 12) None (Make bytes) (Some (NoRoom 2656 1 4)) ≡ true)
wide_with_frames bytes = (refl, refl)

-- so of a landing: its set has several pages, and the landing is made again with more frames
wide_by_the_set : (is_to_try_again (with_set 2) (row_of 5) Land (Some (NoRoom 2655 1 4)) ≡ false)
    × (is_to_try_again (with_set 2) (row_of 5) Land (Some (NoRoom 2656 1 4)) ≡ true)
wide_by_the_set = (ap not wide_landing, refl)

narrow_by_the_set : is_to_try_again (with_set 1) (row_of 5) Land (Some (NoRoom 2655 1 4)) ≡ true
narrow_by_the_set = ap not narrow_landing

-- ---- so of a turn, by what it gave
abbrev refused : Turn
refused = record (turn bare bare) {
  job = Make (7 ∷ []);
  reply = Some (NoRoom 364 1 4);
  took = with_span 12;
  gave = bare;
}

by_what_it_gave : tries_again refused ≡ true
by_what_it_gave = refl

not_by_what_it_took : tries_again (record refused { took = bare; gave = with_span 12 }) ≡ false
unfolding pages_of
not_by_what_it_took = refl

-- and by the order before it
abbrev landing : Option Kept → Option Kept → Turn
landing order keeps = record refused {
  job = Land;
  reply = Some (NoRoom 2655 1 4);
  order = order;
  keeps = keeps;
  gave = with_set 2;
}

by_its_order : tries_again (landing (row_of 5) None) ≡ false
by_its_order = ap not wide_landing

not_by_what_it_keeps : tries_again (landing None (row_of 5)) ≡ true
not_by_what_it_keeps = refl
