-- Worked examples of what is known at a desk: what meets each definition, and what breaks one part.
use Rattle.std.proofs.Common.{◌≡◌, ◌≤◌, ℕ, zero, suc, true, false, [], ◌∷◌, refl, inl, inr, lit<, lit≤, arith}
use Rattle.cb_world.specs.declared.object.Object.TheVariants as is
use Rattle.cb_world.specs.declared.access.Access.TheVariants.{Looked, Claimed, Told, Loaded, Stored, Stamped, Settled}
use Rattle.cb_world.specs.declared.shown.Shown.{Shown}
use Rattle.cb_world.specs.Memory.{window, put, words_for, memory_byte, bytes_in, IsPacked}
use Rattle.cb_world.specs.LocalMemory.{padded}
use Rattle.cb_world.specs.Write.{IsWrite}
use Rattle.cb_world.specs.Shown.{Spares, Owns, MayLie, IsHeld, Fits, object_at}
use Rattle.cb_world.specs.Settling.{MaySettle}
use Rattle.cb_world.specs.Played.{after, played, Agrees}
use Rattle.cb_world.specs.Looks.{IsFound, IsTaken, IsTold, LooksFirst}
use Rattle.cb_world.specs.Touches.{Touches, SettlesLast}
use Rattle.cb_world.specs.Still.{IsStill}
use Rattle.cb_world.specs.Allowed.{IsAllowed}
use Rattle.cb_world.specs.Written.{written_by, entry, gone}

-- words of which the last two were not stored yet
zeros_behind : padded (7 ∷ 8 ∷ []) 4 ≡ 7 ∷ 8 ∷ 0 ∷ 0 ∷ []
zeros_behind = refl

-- words of memory
three_words : window (7 ∷ 8 ∷ 9 ∷ 10 ∷ []) 1 2 ≡ 8 ∷ 9 ∷ []
unfolding window
three_words = refl

two_put : put (7 ∷ 8 ∷ 9 ∷ 10 ∷ []) 1 (1 ∷ 2 ∷ []) ≡ 7 ∷ 1 ∷ 2 ∷ 10 ∷ []
unfolding put
two_put = refl

no_word : words_for 0 ≡ 0
no_word = refl

one_word : words_for 8 ≡ 1
one_word = refl

two_words : words_for 9 ≡ 2
two_words = refl

-- the bytes 0a 0b, the first one lowest
lowest_first : memory_byte (2826 ∷ []) 0 ≡ 10
lowest_first = refl

next_byte : memory_byte (2826 ∷ []) 1 ≡ 11
next_byte = refl

ninth_byte : memory_byte (0 ∷ 5 ∷ []) 8 ≡ 5
ninth_byte = refl

both_bytes : bytes_in (2826 ∷ []) 2 ≡ 10 ∷ 11 ∷ []
unfolding bytes_in
both_bytes = refl

not_packed : IsPacked 1 (2826 ∷ []) → ⊥
not_packed p = let z : 11 ≡ 0 = p 1 (lit≤ tt) (lit< tt) in omega (arith, z)

not_written : IsWrite (2826 ∷ []) 1 (12 ∷ []) (2826 ∷ []) → ⊥
not_written w = let z : 11 ≡ 12 = w.inside 0 (lit< tt) in omega (arith, z)

beside_changed : IsWrite (2826 ∷ []) 1 (11 ∷ []) (2827 ∷ []) → ⊥
beside_changed w = let z : 11 ≡ 10 = w.outside 0 (lit< tt) (inl (lit< tt)) in omega (arith, z)

another_size : IsWrite (2826 ∷ []) 1 (11 ∷ []) (2826 ∷ 0 ∷ []) → ⊥
another_size w = let z : 2 ≡ 1 = w.sized in omega (arith, z)

-- an object of two bytes at place 512: here, hot, with one pin
here_fits : Fits (is.Here 2 512) 274877923342
here_fits = (lit< tt, refl, refl, inl refl)

another_length : Fits (is.Here 3 512) 274877923342 → ⊥
another_length f = let z : 2 ≡ 3 = f.1 in omega (arith, z)

another_place : Fits (is.Here 2 0) 274877923342 → ⊥
another_place f = let z : 512 ≡ 0 = f.2 in omega (arith, z)

pinned_claim : Fits (is.Claimed 2 512 1 []) 274877923343 → ⊥
pinned_claim f = let z : 1 ≡ 0 = f.3 in omega (arith, z)

far_fits : Fits (is.Far 2 1 []) 16385
far_fits = (refl, refl)

hot_far : Fits (is.Far 2 1 []) 16389 → ⊥
hot_far f = let z : 16389 ≡ 16385 = f.0 in omega (arith, z)

-- one object of two bytes at place 0 that others may change, and a word behind it
abbrev known : Shown
known = record {
  first = 1;
  objects = is.Here 2 0 ∷ [];
  hots = true ∷ [];
  versions = 1 ∷ [];
  memory = 2826 ∷ 0 ∷ [];
}

-- the same object, claimed
abbrev claimed : Shown
claimed = record {
  first = 1;
  objects = is.Claimed 2 0 1 (2826 ∷ []) ∷ [];
  hots = true ∷ [];
  versions = 1 ∷ [];
  memory = 2826 ∷ 0 ∷ [];
}

not_owned : Owns known 0 → ⊥
not_owned o = o.1 0 (lit≤ tt, lit< tt)

owned_behind : Owns known 1
owned_behind = (lit< tt, λ h. spares h)
  where
    spares : (h : ℕ) → Spares 1 (object_at known h)
    spares zero = λ covers. let z = covers.1 in omega (arith, z)
    spares (suc h) = tt

past_memory : Owns known 2 → ⊥
past_memory o = let z = o.0 in omega (arith, z)

no_second_object : MayLie claimed 1 0 → ⊥
no_second_object m = m.1 0 (λ e. omega (arith, e)) (lit≤ tt, lit< tt)

held_when_claimed : IsHeld (object_at claimed 0)
held_when_claimed = tt

not_held : IsHeld (object_at known 0) → ⊥
not_held h = h

-- what may be settled: a freed object one version above, not at the version it had
freed_at_once : MaySettle claimed 0 0 → ⊥
freed_at_once m = let z : 1 ≡ 2 = m.1 in omega (arith, z)

freed_next : MaySettle (record claimed { versions = 2 ∷ [] }) 0 0
freed_next = (refl, refl)

free_for_others : MaySettle known 0 0 → ⊥
free_for_others m = m.1

put_away : MaySettle claimed 0 16385
put_away = (refl, refl, refl)

put_away_written : MaySettle (record claimed { versions = 2 ∷ [] }) 0 16385 → ⊥
put_away_written m = let z : 2 ≡ 1 = m.2 in omega (arith, z)

-- the word of the object without pins, hot
abbrev calm : ℕ
calm = 16390

-- looks come before changes
in_order : LooksFirst (Looked 0 calm ∷ Claimed 0 calm 1 (2826 ∷ []) ∷ Stored 0 12 ∷ Stamped 0 2
    ∷ Settled 0 calm ∷ [])
in_order = (((λ w e. e), ((λ w e. e), ((λ w e. e), tt))), (tt, (tt, (tt, tt))))

looks_after : LooksFirst (Settled 0 calm ∷ Looked 0 calm ∷ []) → ⊥
looks_after l = l.0.0 calm (refl, refl)

looks_at_the_claimed : LooksFirst (Claimed 0 calm 1 [] ∷ Looked 0 calm ∷ []) → ⊥
looks_at_the_claimed l = l.0.0 calm (refl, refl)

claims_after_a_store : LooksFirst (Stored 0 1 ∷ Claimed 0 calm 1 [] ∷ []) → ⊥
claims_after_a_store l = l.0

claims_after_a_stamp : LooksFirst (Stamped 0 1 ∷ Claimed 0 calm 1 [] ∷ []) → ⊥
claims_after_a_stamp l = l.0

-- the words of the object of two bytes at place 0 alone
at_its_words : Touches 0 0 2 (Looked 0 calm ∷ Claimed 0 calm 1 (2826 ∷ []) ∷ Told 0 1
    ∷ Loaded 0 2826 ∷ Stored 0 12 ∷ Stamped 0 2 ∷ Settled 0 calm ∷ [])
at_its_words =
    (refl, (refl, (refl, ((lit≤ tt, lit< tt), ((lit≤ tt, lit< tt), (refl, (refl, tt)))))))

claims_another : Touches 0 0 2 (Claimed 1 calm 1 [] ∷ []) → ⊥
claims_another t = omega (arith, t.0)

stamps_another : Touches 0 0 2 (Stamped 1 2 ∷ []) → ⊥
stamps_another t = omega (arith, t.0)

settles_another : Touches 0 0 2 (Settled 1 calm ∷ []) → ⊥
settles_another t = omega (arith, t.0)

stores_behind : Touches 0 0 2 (Stored 1 12 ∷ []) → ⊥
stores_behind t = omega (arith, t.0.1)

-- memory words, then the version word, then the pointer word
settled_last : SettlesLast (Told 0 1 ∷ Stored 0 12 ∷ Stamped 0 2 ∷ Settled 0 calm ∷ [])
settled_last = (tt, tt, (tt, tt, tt, tt))

tells_after_the_stamp : SettlesLast (Stamped 0 2 ∷ Told 0 2 ∷ []) → ⊥
tells_after_the_stamp l = l.0

tells_after_settling : SettlesLast (Settled 0 calm ∷ Told 0 2 ∷ []) → ⊥
tells_after_settling l = l.0

stores_after_the_stamp : SettlesLast (Stamped 0 2 ∷ Stored 0 12 ∷ []) → ⊥
stores_after_the_stamp l = l.1

stores_after_settling : SettlesLast (Settled 0 calm ∷ Stored 0 12 ∷ []) → ⊥
stores_after_settling l = l.1

stamps_after_settling : SettlesLast (Settled 0 calm ∷ Stamped 0 2 ∷ []) → ⊥
stamps_after_settling l = l.2

-- a claim that is given back changes nothing, and one that is settled cold does
given_back : IsStill (Claimed 0 calm 1 (2826 ∷ []) ∷ Settled 0 calm ∷ []) known
    (played (Claimed 0 calm 1 (2826 ∷ []) ∷ Settled 0 calm ∷ []) known)
unfolding put window
given_back =
    record { objects = refl; hots = refl; versions = refl; memory = refl; nothing = λ old. refl }

cooled : IsStill (Claimed 0 calm 1 (2826 ∷ []) ∷ Settled 0 16386 ∷ []) known
    (played (Claimed 0 calm 1 (2826 ∷ []) ∷ Settled 0 16386 ∷ []) known) → ⊥
cooled s = let z : false ∷ [] ≡ true ∷ [] = s.hots in cc

-- the last look counts
last_look : IsFound 0 5 (Looked 0 4 ∷ Looked 0 5 ∷ [])
last_look = inl (inr ((refl, refl), tt))

earlier_look : IsFound 0 4 (Looked 0 4 ∷ Looked 0 5 ∷ []) → ⊥
earlier_look (inl (inl none)) = none
earlier_look (inl (inr later)) = let z : 5 ≡ 4 = later.0.1 in omega (arith, z)
earlier_look (inr first) = first.1.0 5 (refl, refl)

told_version : IsTold 0 3 (Told 0 3 ∷ [])
told_version = inr (refl, refl)

told_of_another : IsTold 1 3 (Told 0 3 ∷ []) → ⊥
told_of_another (inl none) = none
told_of_another (inr told) = let z : 0 ≡ 1 = told.0 in omega (arith, z)

taken : IsTaken 0 1 (2826 ∷ []) (Claimed 0 calm 1 (2826 ∷ []) ∷ [])
taken = inr (refl, refl, refl)

-- a write of the claimed object writes one entry, and a word put back none
one_entry : written_by (Stored 0 3082 ∷ Stamped 0 2 ∷ Settled 0 calm ∷ []) claimed []
    ≡ entry 0 2 2 (2826 ∷ []) (3082 ∷ []) ∷ []
unfolding window
one_entry = refl

no_entry : written_by (Settled 0 calm ∷ []) claimed [] ≡ []
unfolding window
no_entry = refl

free_entry : written_by (Stamped 0 2 ∷ Settled 0 0 ∷ []) claimed [] ≡ gone 0 2 (2826 ∷ []) ∷ []
free_entry = refl

-- what is known after a claim and after a free
known_claimed : object_at (after (Claimed 0 calm 1 (2826 ∷ [])) known) 0
    ≡ is.Claimed 2 0 1 (2826 ∷ [])
known_claimed = refl

known_empty : object_at (played (Stamped 0 2 ∷ Settled 0 0 ∷ []) claimed) 0 ≡ is.Empty 2
known_empty = refl

cools : Agrees known (Looked 0 16386) → ⊥
cools a = let z : false ≡ true = a.1 refl in cc

older : Agrees known (Claimed 0 calm 0 (2826 ∷ [])) → ⊥
older a = let z : 1 ≤ 0 = a.4 in omega (arith, z)

store_of_another : IsAllowed known (Stored 0 1) → ⊥
store_of_another o = not_owned o

stamp_of_another : IsAllowed known (Stamped 0 1) → ⊥
stamp_of_another o = o
