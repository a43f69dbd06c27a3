-- Worked examples of a batch that is leaving: a state where its objects are noted and its set is
-- kept, and for each fact one that breaks it.
use Rattle.std.proofs.Common.{◌≡◌, ℕ, zero, suc, ◌^◌, ◌<◌, true, false, List, [], ◌∷◌, None, Some, Contains, length, get_or, refl, ap, subst, sym, ◌∙◌, lit<, lit≤, arith}
use Rattle.std.specs.FinMap as map
use Rattle.std.proofs.lemmas.List.Elements.{All-nil}
use Rattle.cb_class.specs.Class.{pages_of}
use Rattle.cb_gf256.specs.InRange.{IsInRange}
use Rattle.cb_member.specs.declared.names.Shard.{Shard}
use Rattle.cb_set.specs.SetState.{SetState}
use Rattle.cb_span.specs.Contents.{Contents, handle_at}
use Rattle.cb_world.specs.declared.leaving.Former.{Former}
use Rattle.cb_world.specs.declared.object.Object.TheVariants as is
use Rattle.cb_world.specs.declared.shown.Shown.{Shown}
use Rattle.cb_world.specs.FarState.{FarState, span_in, resident}
use Rattle.cb_world.specs.Joining.{JoiningState}
use Rattle.cb_world.specs.Leaving.{LeavingState}
use Rattle.cb_world.specs.Reserved.{IsReserved, put_shards, set_from, without_batch}
use Rattle.cb_world.specs.Sets.{Kept, SetMap}
use Rattle.cb_world.specs.Sound.{AreNoted, IsNoted, Leaves}
use Rattle.cb_world.proofs.Apart.{some_same}
use Rattle.cb_world.proofs.WorkedWorld.{far, known as still, span}

abbrev at : ℕ → ℕ → Shard
at n key = record { node = record { n = n }; incarnation = 0; key = key }

-- object 0 is claimed where it was here, cold and without pins
abbrev known : Shown
known = record still { objects = is.Claimed 1024 128 1 [] ∷ is.Empty 2 ∷ is.Empty 0 ∷ [] }

abbrev former : ℕ → Former
former h = record { handle = h; word = 68727865346 }

-- the span in frame 0 leaves as set 5, with one parity, of which one row was put
abbrev batch : LeavingState
batch = record {
  set = 5;
  pages = 1;
  frames = 0 ∷ [];
  words = former 0 ∷ [];
  made = true;
  parities = [] ∷ [];
  shards = None ∷ Some (at 1 3) ∷ [];
}

abbrev blank : List Shard
blank = at 0 0 ∷ at 0 0 ∷ []

abbrev kept_as : SetState → Kept
kept_as set = record { set = set; committed = false }

abbrev set : SetState
set = set_from 5 1 blank far.spans (0 ∷ [])

abbrev one_set : ℕ → Kept → SetMap
one_set id kept = map.insert map.empty id kept

-- the far state that keeps this set under this number
abbrev keeping : ℕ → Kept → LeavingState → FarState
keeping id kept b = record far {
  sets = one_set id kept;
  leaving = Some b;
  counts = record far.counts { sets = 6; keys = 4 };
}

abbrev leaving : FarState
leaving = keeping 5 (kept_as set) batch

there : (id : ℕ) (kept : Kept) → map.get (one_set id kept) id ≡ Some kept
there id kept = grind (arith, map.gets)

not_there : (kept : Kept) → map.get (one_set 4 kept) 5 ≡ None
not_there kept = grind (arith, map.gets)

some_kept : (a b : Kept) → Some a ≡ Some b → a ≡ b
some_kept a b e = cc

in_range : IsInRange 1 1
in_range = record {
  data_least = lit≤ tt;
  data_most = lit≤ tt;
  parities_least = lit≤ tt;
  parities_most = lit≤ tt;
}

is_reserved : IsReserved leaving batch
is_reserved = record {
  drawn = lit< tt;
  unpaired = λ pair e. absurd (no_pair pair e);
  range = in_range;
  blank = blank;
  places = refl;
  kept = there 5 (kept_as set);
}
  where
    no_pair : (pair : JoiningState) → None ≡ Some pair → ⊥
    no_pair pair e = cc

number_not_drawn : ¬ (IsReserved (record leaving { counts = record far.counts { sets = 5 } }) batch)
number_not_drawn x = absurd (omega (arith, x.drawn))

abbrev pair : JoiningState
pair = record { a = 4; b = 5; shards_a = []; shards_b = []; taken = []; steps = [] }

number_of_a_pair : ¬ (IsReserved (record leaving { joining = Some pair }) batch)
number_of_a_pair x = absurd ((x.unpaired pair refl).1 refl)

without_a_parity : ¬ (IsReserved leaving (record batch { parities = [] }))
without_a_parity x = absurd (omega (arith, x.range.parities_least))

-- the kept set has as many shards as the batch has places
place_too_many : ¬ (IsReserved leaving (record batch { shards = None ∷ None ∷ None ∷ [] }))
place_too_many x = absurd (let e : 2 ≡ length x.blank =
    ap (λ (k : Kept). length k.set.shards) (some_kept (kept_as set) _ (sym (there 5 (kept_as set))
    ∙ x.kept)) in omega (arith, e, x.places))

committed_already : ¬ (IsReserved (keeping 5 (record { set = set; committed = true }) batch) batch)
committed_already x = absurd (let e : true ≡ false =
    ap (λ (k : Kept). k.committed) (some_kept (record { set = set; committed = true }) _
    (sym (there 5 (record { set = set; committed = true })) ∙ x.kept)) in cc)

kept_as_another : ¬ (IsReserved (keeping 4 (kept_as set) batch) batch)
kept_as_another x = absurd (let e : None ≡ Some _ = sym (not_there (kept_as set)) ∙ x.kept in cc)

without_its_spans : ¬ (IsReserved (keeping 5 (kept_as (record set { positions = [] })) batch) batch)
without_its_spans x = absurd (let e : 0 ≡ 1 = ap (λ (k : Kept). length k.set.positions)
    (some_kept (kept_as (record set { positions = [] })) _
    (sym (there 5 (kept_as (record set { positions = [] }))) ∙ x.kept)) in omega (arith, e))

-- ---- the noted words
is_noted : IsNoted known batch 0
is_noted = record {
  former = former 0;
  noted = (0, lit< tt, refl);
  handle = refl;
  free = (refl, refl);
  below = lit< tt;
  version = 1;
  words = [];
  claimed = refl;
  small = All-nil (λ w. w < 2 ^ 64);
}

pub alone : {X : Type 0} (x d : X) (k : ℕ) → k < length (x ∷ []) → get_or (x ∷ []) k d ≡ x
alone x d zero below = refl
alone x d (suc k) below = absurd (omega (arith, below))

no_two : {X : Type 0} (x d : X) (i j : ℕ) → i < j → j < length (x ∷ []) → ⊥
no_two x d i j less below = omega (arith, less, below)

first_frame : (f : ℕ) → Contains (0 ∷ []) f → 0 ≡ f
first_frame f c = sym (alone 0 f c.0 c.1) ∙ c.2

are_noted : AreNoted known leaving batch
unfolding pages_of
are_noted = record {
  apart = λ i j d less below. absurd (no_two 0 d i j less below);
  held = λ f leaves. (span, ap (span_in far.spans) (sym (first_frame f leaves)), refl);
  each = λ f slot h other leaves at named. each slot h
      (subst (λ (x : Contents). handle_at x slot ≡ Some h) (sym (some_same span other
      (ap (span_in far.spans) (first_frame f leaves) ∙ at))) named);
  only = λ k d below. subst (λ (x : Former). Leaves leaving batch x.handle)
      (sym (alone (former 0) d k below)) (0, 1, (0, lit< tt, refl), refl);
  each_once = λ i j d less below. absurd (no_two (former 0) d i j less below);
  reserved = is_reserved;
}
  where
    each : (slot h : ℕ) → handle_at span slot ≡ Some h → IsNoted known batch h
    each zero h e = absurd (cc)
    each (suc zero) h e = subst (λ (k : ℕ). IsNoted known batch k) (some_same 0 h e) is_noted
    each (suc (suc zero)) h e = absurd (cc)
    each (suc (suc (suc zero))) h e = absurd (cc)
    each (suc (suc (suc (suc slot)))) h e = absurd (cc)

of_another_length : ¬ (AreNoted known leaving (record batch { pages = 2 }))
unfolding pages_of
of_another_length x = let y = x.held 0 (0, lit< tt, refl) in
    absurd (let e : 1 ≡ 2 = ap (λ (c : Contents). pages_of c.class) (some_same span y.0 y.1) ∙ y.2 in
    omega (arith, e))

one_frame_twice : ¬ (AreNoted known leaving (record batch { frames = 0 ∷ 0 ∷ [] }))
one_frame_twice x = absurd (x.apart 0 1 0 (lit< tt) (lit< tt) refl)

noted_twice : ¬ (AreNoted known leaving (record batch { words = former 0 ∷ former 0 ∷ [] }))
noted_twice x = absurd (x.each_once 0 1 (former 0) (lit< tt) (lit< tt) refl)

-- object 1 is in no span, yet a word is noted for it
notes_a_stranger : ¬ (AreNoted known leaving (record batch { words = former 0 ∷ former 1 ∷ [] }))
notes_a_stranger x = let y = x.only 1 (former 1) (lit< tt) in
    stranger y.1 (ap (λ (f : ℕ). resident far.spans f y.1) (first_frame y.0 y.2) ∙ y.3)
  where
    stranger : (slot : ℕ) → handle_at span slot ≡ Some 1 → ⊥
    stranger zero e = cc
    stranger (suc zero) e = let z = some_same 0 1 e in omega (arith, z)
    stranger (suc (suc zero)) e = cc
    stranger (suc (suc (suc zero))) e = cc
    stranger (suc (suc (suc (suc slot)))) e = cc

no_set_is_kept : ¬ (AreNoted known (keeping 4 (kept_as set) batch) batch)
no_set_is_kept x = kept_as_another x.reserved

-- ---- the batch given up
put_in_order : put_shards (None ∷ Some (at 1 3) ∷ None ∷ Some (at 0 1) ∷ []) ≡ at 1 3 ∷ at 0 1 ∷ []
put_in_order = refl

no_batch_then : (without_batch leaving batch).leaving ≡ None
no_batch_then = refl

no_set_then : map.get (without_batch leaving batch).sets 5 ≡ None
no_set_then = gone 5 (kept_as set)
  where
    gone : (id : ℕ) (kept : Kept) → map.get (map.remove (one_set id kept) id) id ≡ None
    gone id kept = grind (arith, map.gets)
