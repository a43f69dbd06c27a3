-- Worked examples of kept objects: what meets each definition, and what breaks one part.
use Rattle.std.proofs.Common.{◌≡◌, ℕ, ◌≤◌, true, true≢false, List, [], ◌∷◌, length, replicate, None, Some, refl, ap, ◌∙◌, arith}
use Rattle.std.proofs.lemmas.Option.{same_Some}
use Rattle.std.specs.List.{IsDistinct}
use Rattle.cb_types.specs.declared.reply.Reply.TheVariants as answer
use Rattle.cb_world.specs.declared.entry.Entry.{Entry}
use Rattle.cb_world.specs.Memory.{bytes_in}
use Rattle.cb_world.specs.Written.{entry}
use Rattle.cb_farmap.specs.declared.kept.Cannot.TheVariants as cannot
use Rattle.cb_farmap.specs.declared.kept.KeptObject.{KeptObject}
use Rattle.cb_farmap.specs.declared.kept.Stop.TheVariants as stop
use Rattle.cb_farmap.specs.Changes.{with_next}
use Rattle.cb_farmap.specs.Numbers.{number_at, numbers, pair_at, pairs}
use Rattle.cb_farmap.specs.Objects.{AreApart, IsLast, IsObject, blank, bytes_of, entry_at, object_at}
use Rattle.cb_farmap.specs.Stops.{cannot_of, stop_behind, stop_of}

-- ---- numbers and pairs
abbrev nine : List ℕ
nine = 1 ∷ 2 ∷ 0 ∷ 0 ∷ 0 ∷ 0 ∷ 0 ∷ 0 ∷ 3 ∷ []

lowest_first : number_at nine 0 ≡ 513
lowest_first = refl

next_number : number_at nine 1 ≡ 3
next_number = refl

key_then_value : pair_at nine 0 ≡ (513, 3)
key_then_value = refl

all_numbers : length (numbers nine) ≡ 128
all_numbers = refl

all_pairs : length (pairs nine) ≡ 64
all_pairs = refl

-- ---- the entry of a version: object 5 was made at version 1 and written once
abbrev pub early : Entry
early = entry 5 1 1024 [] (replicate 128 7)

abbrev pub later : Entry
later = entry 5 2 1024 (replicate 128 7) (replicate 128 9)

first_version : entry_at (later ∷ early ∷ []) 5 1 ≡ Some early
first_version = refl

second_version : entry_at (later ∷ early ∷ []) 5 2 ≡ Some later
second_version = refl

no_third : entry_at (later ∷ early ∷ []) 5 3 ≡ None
no_third = refl

no_other : entry_at (later ∷ early ∷ []) 6 1 ≡ None
no_other = refl

-- of two entries of one version it is the oldest
oldest : entry_at (entry 5 1 8 [] (3 ∷ []) ∷ early ∷ []) 5 1 ≡ Some early
oldest = refl

no_bytes : bytes_of None ≡ []
no_bytes = refl

two_bytes : bytes_of (Some (entry 5 1 2 [] (2826 ∷ []))) ≡ 10 ∷ 11 ∷ []
unfolding bytes_in
two_bytes = refl

-- ---- an object
abbrev pub kept : ℕ → ℕ → KeptObject
kept h version = record { handle = record { n = h }; version = version }

object : IsObject (early ∷ []) (kept 5 1)
object = record { at = early; is = refl; held = refl; long = refl; wide = refl }

not_written : IsObject (early ∷ []) (kept 5 2) → ⊥
not_written o = none_some o.at o.is
  where
    none_some : (e : Entry) → None ≡ Some e → ⊥
    none_some e is = cc

not_freed : IsObject (record early { freed = true } ∷ []) (kept 5 1) → ⊥
not_freed o = true≢false
    (ap (λ (e : Entry). e.freed) (same_Some (record early { freed = true }) o.at o.is) ∙ o.held)

not_short : IsObject (record early { len = 1016 } ∷ []) (kept 5 1) → ⊥
not_short o = let e : 1016 ≡ 1024 =
    ap (λ (e : Entry). e.len) (same_Some (record early { len = 1016 }) o.at o.is) ∙ o.long in
    omega (arith, e)

not_narrow : IsObject (record early { after = 7 ∷ [] } ∷ []) (kept 5 1) → ⊥
not_narrow o = let e : 1 ≡ 128 = ap (λ (e : Entry). length e.after)
    (same_Some (record early { after = 7 ∷ [] }) o.at o.is) ∙ o.wide in omega (arith, e)

next_version : with_next (kept 5 1) ≡ kept 5 2
next_version = refl

second_object : object_at (kept 5 1 ∷ kept 6 3 ∷ []) 1 ≡ kept 6 3
second_object = refl

past_all : object_at (kept 5 1 ∷ []) 1 ≡ blank
past_all = refl

-- ---- objects apart, and the last version of one
apart : AreApart (kept 5 1 ∷ kept 6 1 ∷ [])
unfolding IsDistinct
apart = ((refl, tt), (tt, tt))

twice : AreApart (kept 5 1 ∷ kept 5 2 ∷ []) → ⊥
unfolding IsDistinct
twice a = true≢false a.0.0

last : IsLast (later ∷ early ∷ []) (kept 5 2)
last = ((λ of. omega arith), ((λ of. omega arith), tt))

other_last : IsLast (later ∷ early ∷ []) (kept 6 1)
other_last = (
  (λ of. absurd (another of)),
  (
    (λ of. absurd (another of)),
    tt,
  ),
)
  where
    another : ◌≡◌ {A = ℕ} 5 6 → ⊥
    another e = omega (arith, e)

not_last : IsLast (later ∷ early ∷ []) (kept 5 1) → ⊥
not_last l = let low : 2 ≤ 1 = l.0 refl in omega (arith, low)

-- ---- answers that are given for good
freed_again : cannot_of stop.Freed ≡ cannot.Refused answer.Freed
freed_again = refl

foreign_again : cannot_of (stop.Foreign (record { n = 5 }) 1 2)
    ≡ cannot.Foreign (record { n = 5 }) 1 2
foreign_again = refl

stops_freed : stop_of (cannot.Refused answer.Freed) ≡ Some stop.Freed
stops_freed = refl

stops_foreign : stop_of (cannot.Foreign (record { n = 5 }) 1 2)
    ≡ Some (stop.Foreign (record { n = 5 }) 1 2)
stops_foreign = refl

goes_on_worn : stop_of (cannot.Refused answer.Worn) ≡ None
goes_on_worn = refl

goes_on_want : stop_of cannot.NoMemory ≡ None
goes_on_want = refl

-- the first one stays
stays_first : stop_behind (Some stop.Freed) (Some (cannot.Foreign (record { n = 5 }) 1 2))
    ≡ Some stop.Freed
stays_first = refl

stays_none : stop_behind None None ≡ None
stays_none = refl
