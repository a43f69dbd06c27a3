-- Worked examples of orders that are kept, and of what a change leaves of the words of sets: what
-- meets each definition, and what breaks one part alone.
use Rattle.std.proofs.Common.{◌≡◌, ◌≢◌, ℕ, zero, suc, ◌<◌, ◌≤◌, true, false, List, [], ◌∷◌, length, get_or, Option, Some, None, sym, refl, ap, ◌∙◌, subst, lit<, lit≤, arith}
use Rattle.std.specs.FinMap as map
use Rattle.cb_gf256.specs.Rows.{row_at}
use Rattle.cb_set.specs.SetState.{SetState}
use Rattle.cb_types.specs.declared.order.DecodeOrder.{DecodeOrder}
use Rattle.cb_types.specs.declared.order.EncodeOrder.{EncodeOrder}
use Rattle.cb_types.specs.declared.order.Kept.TheVariants.{Encode}
use Rattle.cb_types.specs.Orders.{IsDecodable}
use Rattle.cb_world.specs.FarSound.{rows_in}
use Rattle.cb_world.specs.FarState.{FarState}
use Rattle.cb_world.specs.Leaving.{LeavingState}
use Rattle.cb_world.specs.Memory.{window}
use Rattle.cb_world.specs.Orders.{IsDecodeKept, IsEncodeKept, KeepsOrder, LeavesWords}
use Rattle.cb_world.specs.RowWords.{row_of}
use Rattle.cb_world.specs.Sets.{SetMap, set_in}
use Rattle.cb_world.specs.StillDesk.{window_length}
use Rattle.cb_world.proofs.WorkedWorld.{far, known}

-- one number was drawn, and its batch of one span and two parities is leaving, none of them made
abbrev batch : LeavingState
batch = record {
  set = 0;
  pages = 1;
  frames = 0 ∷ [];
  words = [];
  made = false;
  parities = [] ∷ [] ∷ [];
  shards = None ∷ None ∷ None ∷ [];
}

abbrev begun : Option LeavingState → FarState
begun b = record far {
  sets = map.empty;
  leaving = b;
  counts = record far.counts { sets = 1 };
}

abbrev order : ℕ → ℕ → List (List ℕ) → EncodeOrder
order k r rows = record { set = 0; k = k; r = r; rows = rows }

abbrev its_rows : List (List ℕ)
its_rows = rows_in known 1 (0 ∷ [])

the_batch : (P : LeavingState → Type 0) (b c : LeavingState) → Some b ≡ Some c → P b → P c
the_batch P b c e p = subst P (same b c e) p
  where
    same : (b c : LeavingState) → Some b ≡ Some c → b ≡ c
    same b c e = cc

one_long : (xs : List ℕ) (k : ℕ) (d : List ℕ) → k < 1 → length (get_or (xs ∷ []) k d) ≡ length xs
one_long xs zero d l = refl
one_long xs (suc k) d l = absurd (omega (arith, l))

kept : IsEncodeKept known (begun (Some batch)) (order 1 2 its_rows)
kept = record {
  fits = record {
    range = record {
      data_least = lit≤ tt;
      data_most = lit≤ tt;
      parities_least = lit≤ tt;
      parities_most = lit≤ tt;
    };
    count = refl;
    lengths = λ k d l. one_long (row_of (window known.memory 0 512)) k d l;
  };
  drawn = lit< tt;
  code = λ b there same. the_batch
      (λ (x : LeavingState). (1 ≡ length x.frames) × (2 ≡ length x.parities)) batch b there
      (refl, refl);
  rows = λ b there same. the_batch (λ (x : LeavingState). its_rows ≡ rows_in known x.pages x.frames)
      batch b there refl;
}

-- a seat keeps it, and one that keeps none owes nothing
seat_keeps : KeepsOrder known (begun (Some batch)) (Some (Encode (order 1 2 its_rows)))
    × KeepsOrder known far None
seat_keeps = (kept, tt)

-- one row where the code has two
cannot_be_run : IsEncodeKept known (begun None) (order 2 2 ([] ∷ [])) → ⊥
cannot_be_run k = let e : 1 ≡ 2 = k.fits.count in omega (arith, e)

not_drawn : IsEncodeKept known (begun None) (record (order 1 2 ([] ∷ [])) { set = 1 }) → ⊥
not_drawn k = let d : 1 < 1 = k.drawn in omega (arith, d)

of_another_code : IsEncodeKept known (begun (Some batch)) (order 1 1 its_rows) → ⊥
of_another_code k = let e : 1 ≡ 2 = (k.code batch refl refl).1 in omega (arith, e)

-- a row that is not that of the span
of_other_rows : IsEncodeKept known (begun (Some batch)) (order 1 2 ([] ∷ [])) → ⊥
of_other_rows k = long (window known.memory 0 512) (window_length known.memory 0 512)
    (ap (λ (rows : List (List ℕ)). row_at rows 0) (k.rows batch refl refl))
  where
    long : (ws : List ℕ) → length ws ≡ 512 → [] ≡ row_of ws → ⊥
    long [] e same = omega (arith, e)
    long (w ∷ ws) e same = let n : 0 ≡ length (row_of (w ∷ ws)) =
        ap (λ (row : List ℕ). length row) same in omega (arith, n)

-- ---- an order of the first row, from the row of a parity and no other
abbrev again : ℕ → ℕ → DecodeOrder
again set position = record {
  set = set;
  position = position;
  k = 1;
  r = 2;
  present = 1 ∷ [];
  rows = [] ∷ [];
}

no_set : (set : SetState) → set_in map.empty 0 ≡ Some set → ⊥
no_set set there = let e : None ≡ Some set = sym nothing ∙ there in absurd (cc)
  where
    nothing : set_in map.empty 0 ≡ None
    nothing = grind (arith, map.gets)

can_be_run : IsDecodable (again 0 0)
can_be_run = record {
  range = record {
    data_least = lit≤ tt;
    data_most = lit≤ tt;
    parities_least = lit≤ tt;
    parities_most = lit≤ tt;
  };
  positions = record {
    count = refl;
    ascend = λ i l. absurd (omega (arith, l));
    below = λ i d l. below i d l;
  };
  wanted = lit< tt;
  count = refl;
  lengths = λ k d l. one_long [] k d l;
}
  where
    below : (i d : ℕ) → i < 1 → get_or (1 ∷ []) i d < 3
    below zero d l = lit< tt
    below (suc i) d l = absurd (omega (arith, l))

-- its set was dropped
kept_again : IsDecodeKept (begun None) (again 0 0)
kept_again = record {
  fits = can_be_run;
  drawn = lit< tt;
  apart = λ b there same. cc;
  code = λ set there. absurd (no_set set there);
  rows = λ set there. absurd (no_set set there);
}

names_no_position : IsDecodeKept (begun None) (again 0 3) → ⊥
names_no_position k = let l : 3 < 3 = k.fits.wanted in omega (arith, l)

not_drawn_again : IsDecodeKept (begun None) (again 1 0) → ⊥
not_drawn_again k = let d : 1 < 1 = k.drawn in omega (arith, d)

-- its number is that of the batch that is leaving
of_the_batch : IsDecodeKept (begun (Some batch)) (again 0 0) → ⊥
of_the_batch k = k.apart batch refl refl

-- ---- what a change leaves
-- nothing changed
same_left : LeavesWords (begun (Some batch)) (begun (Some batch))
same_left = record {
  drawn = omega arith;
  sets = λ id set there below apart. record {
    was = set;
    there = there;
    code = (refl, refl);
    whole = λ whole. whole;
    words = λ word is. is;
  };
  batch = λ b at below. (b, at, refl, refl, refl, refl);
}

-- the batch was given up
given_up : LeavesWords (begun (Some batch)) (begun None)
given_up = record {
  drawn = omega arith;
  sets = λ id set there below apart. record {
    was = set;
    there = there;
    code = (refl, refl);
    whole = λ whole. whole;
    words = λ word is. is;
  };
  batch = λ b at below. absurd (let e : None ≡ Some b = at in cc);
}

-- a number is to be drawn again
falls : LeavesWords (begun None) (record (begun None) { counts = record far.counts { sets = 0 } }) → ⊥
falls x = let d : 1 ≤ 0 = x.drawn in omega (arith, d)

-- a batch of a number that was drawn before, which was not leaving
comes_back : LeavesWords (begun None) (begun (Some batch)) → ⊥
comes_back x = let old = x.batch batch refl (lit< tt) in
    let e : None ≡ Some old.0 = old.1 in absurd (cc)

-- a batch that has other frames, or another number of parities
other_frames : LeavesWords (begun (Some batch)) (begun (Some (record batch { frames = 1 ∷ [] }))) → ⊥
other_frames x =
    let old = x.batch (record batch { frames = 1 ∷ [] }) refl (lit< tt) in
    the_batch (λ (b : LeavingState). b.frames ≡ 1 ∷ [] → ⊥) batch old.0 old.1
    (λ e. let n : 0 ≡ 1 = ap (λ (l : List ℕ). get_or l 0 0) e in omega (arith, n)) old.4

fewer_parities : LeavesWords (begun (Some batch)) (begun (Some (record batch { parities = [] }))) → ⊥
fewer_parities x =
    let old = x.batch (record batch { parities = [] }) refl (lit< tt) in
    the_batch (λ (b : LeavingState). length b.parities ≡ 0 → ⊥) batch old.0 old.1
    (λ e. let n : 2 ≡ 0 = e in omega (arith, n)) old.5

-- a committed set of a number that was drawn before, which was none
abbrev with_set : SetMap → FarState
with_set sets = record (begun None) { sets = sets }

abbrev bare_set : SetState
bare_set = record { id = 0; pages = 1; positions = []; shards = [] }

abbrev one_set : SetMap
one_set = map.insert map.empty 0 (record { set = bare_set; committed = true })

appears : LeavesWords (begun None) (with_set one_set) → ⊥
appears x = let w = x.sets 0 bare_set there (lit< tt) (λ b at. absurd (let e : None ≡ Some b = at in cc)) in
    no_set w.was w.there
  where
    there : set_in one_set 0 ≡ Some bare_set
    there = grind (arith, map.gets)
