-- What the map's reply to one call says, in whatever state the map is.
use Rattle.std.proofs.Common.{◌≡◌, ℕ, ◌≤◌, List, [], ◌∷◌, ◌++◌, Some, None, refl, arith}
use Rattle.std.specs.List.{fold}
use Rattle.std.proofs.lemmas.List.{append-nil}
use Rattle.cb_model.specs.declared.object.Object.TheVariants.{Held, Freed}
use Rattle.cb_model.specs.Now.{MapNow, Change, changed}
use Rattle.cb_model.specs.Now.Change.{Create, Overwrite, Remove}
use Rattle.cb_model.specs.Event.{Event, change_of, version_of}
use Rattle.cb_model.specs.Event.Event.{Makes, Shows, Pins, Writes, Frees, FindsFull, FindsUnmade, FindsFreed, FindsEnd, Refused, Wrong}
use Rattle.cb_model.specs.History.{IsHistory, left_by}
use Rattle.cb_model.specs.Replies.{MapReplies}
use Rattle.cb_model.specs.Legal.{IsNotBelow, MayComeLater}
use Rattle.cb_model.proofs.Growing.{ChangeFits, grow, latest}

-- at most one change, and one that may come next
abbrev pub FitsAll : ℕ → MapNow → List (ℕ × Change) → Type 0
FitsAll first now [] = Unit {0}
FitsAll first now (c ∷ []) = ChangeFits first now c
FitsAll first now (c ∷ d ∷ changes) = ⊥

-- the handle that a make gives was never made
abbrev pub IsUnmade : ℕ → ℕ → MapNow → Type 0
IsUnmade made h now = made ≤ h → now ≡ None

same_handle : (h made : ℕ) → Some h ≡ Some made → h ≡ made
same_handle h made e = cc

-- the change of an answered call may come next
pub fits : (first handles made h : ℕ) (now : MapNow) (event : Event) → IsUnmade made h now
    → MapReplies first handles made (Some h) now event → FitsAll first now (change_of event)
fits first handles made h now (Makes bytes version) fresh m =
    let none : now ≡ None = fresh (omega (arith, same_handle h made m.0)) in rw none m.2
fits first handles made h None (Writes at new version) fresh m = absurd m
fits first handles made h (Some (Held v b)) (Writes at new version) fresh m = m
fits first handles made h (Some (Freed v)) (Writes at new version) fresh m = absurd m
fits first handles made h None (Frees version) fresh m = absurd m
fits first handles made h (Some (Held v b)) (Frees version) fresh m = m
fits first handles made h (Some (Freed v)) (Frees version) fresh m = absurd m
fits first handles made h now (Shows version bytes) fresh m = tt
fits first handles made h now (Pins version) fresh m = tt
fits first handles made h now (FindsFull number) fresh m = tt
fits first handles made h now FindsUnmade fresh m = tt
fits first handles made h now FindsFreed fresh m = tt
fits first handles made h now (FindsEnd at bytes len) fresh m = tt
fits first handles made h now (Refused subject) fresh m = tt
fits first handles made h now Wrong fresh m = tt

-- so the history goes on
pub more_history : (first : ℕ) (cs changes : List (ℕ × Change)) → IsHistory first cs
    → FitsAll first (left_by cs) changes → IsHistory first (cs ++ changes)
more_history first cs [] h all = rw (append-nil cs) h
more_history first cs (c ∷ []) h all = grow first cs c h all
more_history first cs (c ∷ d ∷ changes) h all = absurd all

-- freed, at whatever version
abbrev pub IsFreedNow : MapNow → Type 0
IsFreedNow None = ⊥
IsFreedNow (Some (Held version bytes)) = ⊥
IsFreedNow (Some (Freed version)) = Unit {0}

one_more : (first : ℕ) (now : MapNow) (c : ℕ × Change) → ChangeFits first now c
    → (latest now ≤ latest (changed now c)) × (IsFreedNow now → IsFreedNow (changed now c))
one_more first None (v, Create bytes) f = (omega arith, λ e. absurd e)
one_more first None (v, Overwrite at bytes) f = absurd f
one_more first None (v, Remove) f = absurd f
one_more first (Some (Held w b)) (v, Create bytes) f = absurd f
one_more first (Some (Held w b)) (v, Overwrite at bytes) f = (omega (arith, f.1), λ e. absurd e)
one_more first (Some (Held w b)) (v, Remove) f = (omega (arith, f), λ e. absurd e)
one_more first (Some (Freed w)) (v, Create bytes) f = absurd f
one_more first (Some (Freed w)) (v, Overwrite at bytes) f = absurd f
one_more first (Some (Freed w)) (v, Remove) f = absurd f

-- the version does not fall, and what was freed stays so
pub moves : (first : ℕ) (now : MapNow) (changes : List (ℕ × Change)) → FitsAll first now changes
    → (latest now ≤ latest (fold changed now changes)) × (IsFreedNow now → IsFreedNow (fold changed now changes))
moves first now [] all = (omega arith, λ e. e)
moves first now (c ∷ []) all = one_more first now c all
moves first now (c ∷ d ∷ changes) all = absurd all

-- a version that the map answers is not below the one it has
pub not_below : (first handles made h : ℕ) (now : MapNow) (event : Event) → IsUnmade made h now
    → MapReplies first handles made (Some h) now event → IsNotBelow (latest now) event
not_below first handles made h now (Makes bytes version) fresh m =
    let none : now ≡ None = fresh (omega (arith, same_handle h made m.0)) in rw none (omega arith)
not_below first handles made h None (Shows version bytes) fresh m = absurd m
not_below first handles made h (Some (Held v b)) (Shows version bytes) fresh m = omega (arith, m.0)
not_below first handles made h (Some (Freed v)) (Shows version bytes) fresh m = absurd m
not_below first handles made h None (Pins version) fresh m = absurd m
not_below first handles made h (Some (Held v b)) (Pins version) fresh m = omega (arith, m)
not_below first handles made h (Some (Freed v)) (Pins version) fresh m = absurd m
not_below first handles made h None (Writes at new version) fresh m = absurd m
not_below first handles made h (Some (Held v b)) (Writes at new version) fresh m =
    omega (arith, m.1)
not_below first handles made h (Some (Freed v)) (Writes at new version) fresh m = absurd m
not_below first handles made h None (Frees version) fresh m = absurd m
not_below first handles made h (Some (Held v b)) (Frees version) fresh m = omega (arith, m)
not_below first handles made h (Some (Freed v)) (Frees version) fresh m = absurd m
not_below first handles made h now (FindsFull number) fresh m = tt
not_below first handles made h now FindsUnmade fresh m = tt
not_below first handles made h now FindsFreed fresh m = tt
not_below first handles made h now (FindsEnd at bytes len) fresh m = tt
not_below first handles made h now (Refused subject) fresh m = tt
not_below first handles made h now Wrong fresh m = tt

-- what was freed is answered no version
pub no_version : (first handles made h : ℕ) (now : MapNow) (event : Event) → IsFreedNow now
    → IsUnmade made h now → MapReplies first handles made (Some h) now event
    → version_of event ≡ None
no_version first handles made h None event freed fresh m = absurd freed
no_version first handles made h (Some (Held v b)) event freed fresh m = absurd freed
no_version first handles made h (Some (Freed v)) (Makes bytes version) freed fresh m =
    let none : Some (Freed v) ≡ None = fresh (omega (arith, same_handle h made m.0)) in absurd cc
no_version first handles made h (Some (Freed v)) (Shows version bytes) freed fresh m = absurd m
no_version first handles made h (Some (Freed v)) (Pins version) freed fresh m = absurd m
no_version first handles made h (Some (Freed v)) (Writes at new version) freed fresh m = absurd m
no_version first handles made h (Some (Freed v)) (Frees version) freed fresh m = absurd m
no_version first handles made h (Some (Freed v)) (FindsFull number) freed fresh m = refl
no_version first handles made h (Some (Freed v)) FindsUnmade freed fresh m = refl
no_version first handles made h (Some (Freed v)) FindsFreed freed fresh m = refl
no_version first handles made h (Some (Freed v)) (FindsEnd at bytes len) freed fresh m = refl
no_version first handles made h (Some (Freed v)) (Refused subject) freed fresh m = refl
no_version first handles made h (Some (Freed v)) Wrong freed fresh m = refl

-- what an answer told of an object that the map has: its version at the most, and freed only where it is
pub record CoversAnswer (event : Event) (now : MapNow) : Type 0 where
  pub version : (v : ℕ) → version_of event ≡ Some v → v ≤ latest now
  pub freed : event ≡ FindsFreed → IsFreedNow now

some_number : (v w : ℕ) → Some v ≡ Some w → w ≤ v
some_number v w e = let same : v ≡ w = cc in omega arith

-- the answer that was just given tells of what the map has now
pub covers : (first handles made h : ℕ) (now : MapNow) (event : Event)
    → MapReplies first handles made (Some h) now event
    → CoversAnswer event (fold changed now (change_of event))
covers first handles made h now (Makes bytes version) m = record { version = λ v e. some_number version v e; freed = λ e. absurd cc }
covers first handles made h None (Shows version bytes) m = absurd m
covers first handles made h (Some (Held v b)) (Shows version bytes) m = record { version = λ w e. omega (arith, some_number version w e, m.0); freed = λ e. absurd cc }
covers first handles made h (Some (Freed v)) (Shows version bytes) m = absurd m
covers first handles made h None (Pins version) m = absurd m
covers first handles made h (Some (Held v b)) (Pins version) m = record { version = λ w e. omega (arith, some_number version w e, m); freed = λ e. absurd cc }
covers first handles made h (Some (Freed v)) (Pins version) m = absurd m
covers first handles made h None (Writes at new version) m = absurd m
covers first handles made h (Some (Held v b)) (Writes at new version) m = record { version = λ w e. some_number version w e; freed = λ e. absurd cc }
covers first handles made h (Some (Freed v)) (Writes at new version) m = absurd m
covers first handles made h None (Frees version) m = absurd m
covers first handles made h (Some (Held v b)) (Frees version) m = record { version = λ w e. some_number version w e; freed = λ e. absurd cc }
covers first handles made h (Some (Freed v)) (Frees version) m = absurd m
covers first handles made h now (FindsFull number) m = record { version = λ w e. absurd cc; freed = λ e. absurd cc }
covers first handles made h now FindsUnmade m = record { version = λ w e. absurd cc; freed = λ e. absurd cc }
covers first handles made h None FindsFreed m = absurd m
covers first handles made h (Some (Held v b)) FindsFreed m = absurd m
covers first handles made h (Some (Freed v)) FindsFreed m = record { version = λ w e. absurd cc; freed = λ e. tt }
covers first handles made h now (FindsEnd at bytes len) m = record { version = λ w e. absurd cc; freed = λ e. absurd cc }
covers first handles made h now (Refused subject) m = record { version = λ w e. absurd cc; freed = λ e. absurd cc }
covers first handles made h now Wrong m = record { version = λ w e. absurd cc; freed = λ e. absurd cc }

lower : (v w : ℕ) (event : Event) → v ≤ w → IsNotBelow w event → IsNotBelow v event
lower v w (Makes bytes later) le n = omega (arith, le, n)
lower v w (Shows later bytes) le n = omega (arith, le, n)
lower v w (Pins later) le n = omega (arith, le, n)
lower v w (Writes at bytes later) le n = omega (arith, le, n)
lower v w (Frees later) le n = omega (arith, le, n)
lower v w (FindsFull number) le n = tt
lower v w FindsUnmade le n = tt
lower v w FindsFreed le n = tt
lower v w (FindsEnd at bytes len) le n = tt
lower v w (Refused subject) le n = tt
lower v w Wrong le n = tt

by_cases : (earlier later : Event) → ((v : ℕ) → version_of earlier ≡ Some v → IsNotBelow v later)
    → (earlier ≡ FindsFreed → version_of later ≡ None) → MayComeLater earlier later
by_cases FindsFreed later bound freed = freed refl
by_cases (Makes bytes version) later bound freed = bound
by_cases (Shows version bytes) later bound freed = bound
by_cases (Pins version) later bound freed = bound
by_cases (Writes at bytes version) later bound freed = bound
by_cases (Frees version) later bound freed = bound
by_cases (FindsFull number) later bound freed = bound
by_cases FindsUnmade later bound freed = bound
by_cases (FindsEnd at bytes len) later bound freed = bound
by_cases (Refused subject) later bound freed = bound
by_cases Wrong later bound freed = bound

-- the map's next reply may follow what was told
pub may_follow : (first handles made h : ℕ) (now : MapNow) (earlier later : Event)
    → CoversAnswer earlier now → IsUnmade made h now
    → MapReplies first handles made (Some h) now later
    → MayComeLater earlier later
may_follow first handles made h now earlier later told fresh m =
    by_cases earlier later
    (λ v e. lower v (latest now) later (told.version v e) (not_below first handles made h now later fresh m))
    (λ e. no_version first handles made h now later (told.freed e) fresh m)

-- what was told stays told
pub still_covers : (first : ℕ) (event : Event) (now : MapNow) (changes : List (ℕ × Change))
    → CoversAnswer event now → FitsAll first now changes
    → CoversAnswer event (fold changed now changes)
still_covers first event now changes told all =
    let on = moves first now changes all in
    record { version = λ v e. omega (arith, told.version v e, on.0); freed = λ e. on.1 (told.freed e) }
