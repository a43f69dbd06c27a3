-- Histories: how they grow, and what stands at the end of a front of one.
use Rattle.std.proofs.Common.{◌≡◌, ℕ, ◌+◌, ◌<◌, ◌≤◌, nat_le, List, [], ◌∷◌, ◌++◌, length, take, drop, Some, None, refl, ap, ◌∙◌, arith, length-append, length-take, length-drop}
use Rattle.std.specs.List.{fold, filter}
use Rattle.std.proofs.lemmas.Bool.{le-leb, lt-leb}
use Rattle.std.proofs.lemmas.List.{append-nil}
use Rattle.std.proofs.lemmas.List.Elements.{filter-append}
use Rattle.cb_model.specs.declared.object.Object.TheVariants.{Held, Freed}
use Rattle.cb_model.specs.Now.{MapNow, Change, changed, overwritten}
use Rattle.cb_model.specs.Now.Change.{Create, Overwrite, Remove}
use Rattle.cb_model.specs.History.{GoesOn, IsHistory, IsMadeWith, by_version, placed, left_by, at_version}

-- a change that may come next
abbrev pub ChangeFits : ℕ → MapNow → ℕ × Change → Type 0
ChangeFits first None (version, Create bytes) = version ≡ first
ChangeFits first (Some (Held old bytes)) (version, Overwrite at new) =
    (at + length new ≤ length bytes) × (version ≡ old + 1)
ChangeFits first (Some (Held old bytes)) (version, Remove) = version ≡ old + 1
ChangeFits first now change = ⊥

not_freed : (first w : ℕ) (c : ℕ × Change) → ChangeFits first (Some (Freed w)) c → ⊥
not_freed first w (v, Create bytes) fits = fits
not_freed first w (v, Overwrite at bytes) fits = fits
not_freed first w (v, Remove) fits = fits

-- a write within the bytes leaves their number
pub length-overwritten : (old : List ℕ) (at : ℕ) (new : List ℕ) → at + length new ≤ length old
    → length (overwritten old at new) ≡ length old
length-overwritten old at new within =
    omega (arith, length-append (take at old ++ new) (drop (at + length new) old), length-append (take at old) new, length-take at old, length-drop (at + length new) old)

grow_on : (first next len v : ℕ) (b : List ℕ) (later : List (ℕ × Change)) (c : ℕ × Change)
    → v + 1 ≡ next → length b ≡ len → GoesOn next len later
    → ChangeFits first (fold changed (Some (Held v b)) later) c → GoesOn next len (later ++ c ∷ [])
grow_on first next len v b [] (w, Create x) e l g fits = absurd fits
grow_on first next len v b [] (w, Overwrite at x) e l g fits =
    (fits.1 ∙ e, omega (arith, l, fits.0), tt)
grow_on first next len v b [] (w, Remove) e l g fits = (fits ∙ e, refl)
grow_on first next len v b ((w, Create x) ∷ later) c e l g fits = absurd g
grow_on first next len v b ((w, Overwrite at x) ∷ later) c e l g fits =
    let within : at + length x ≤ length b = omega (arith, l, g.1) in
    (g.0, g.1, grow_on first (next + 1) len w (overwritten b at x) later c (ap (λ n. n + 1) g.0) (length-overwritten b at x within ∙ l) g.2 fits)
grow_on first next len v b ((w, Remove) ∷ []) c e l g fits = absurd (not_freed first w c fits)
grow_on first next len v b ((w, Remove) ∷ d ∷ later) c e l g fits =
    absurd (let none : d ∷ later ≡ [] = g.1 in cc)

-- a change that fits is a history's next one
pub grow : (first : ℕ) (cs : List (ℕ × Change)) (c : ℕ × Change) → IsHistory first cs
    → ChangeFits first (left_by cs) c → IsHistory first (cs ++ c ∷ [])
grow first [] (w, Create x) h fits = (fits, tt)
grow first [] (w, Overwrite at x) h fits = absurd fits
grow first [] (w, Remove) h fits = absurd fits
grow first ((v, Create b) ∷ later) c h fits =
    (h.0, grow_on first (first + 1) (length b) v b later c (ap (λ n. n + 1) h.0) refl h.1 fits)
grow first ((v, Overwrite at b) ∷ later) c h fits = absurd h
grow first ((v, Remove) ∷ later) c h fits = absurd h

placed_first : (next len v : ℕ) (change : Change) (later : List (ℕ × Change)) → v < next
    → GoesOn next len later → placed (v, change) later ≡ (v, change) ∷ later
placed_first next len v change [] lt g = refl
placed_first next len v change ((w, Create x) ∷ later) lt g = absurd g
placed_first next len v change ((w, Overwrite at x) ∷ later) lt g =
    rw (le-leb v w (omega (arith, lt, g.0))) refl
placed_first next len v change ((w, Remove) ∷ later) lt g =
    rw (le-leb v w (omega (arith, lt, g.0))) refl

sorted_on : (next len : ℕ) (later : List (ℕ × Change)) → GoesOn next len later
    → by_version later ≡ later
sorted_on next len [] g = refl
sorted_on next len ((w, Create x) ∷ later) g = absurd g
sorted_on next len ((w, Overwrite at x) ∷ later) g =
    rw (sorted_on (next + 1) len later g.2) (placed_first (next + 1) len w (Overwrite at x) later (omega (arith, g.0)) g.2)
sorted_on next len ((w, Remove) ∷ later) g = rw g.1 refl

-- a history stands in order of its versions
pub sorted : (first : ℕ) (cs : List (ℕ × Change)) → IsHistory first cs → by_version cs ≡ cs
sorted first [] h = refl
sorted first ((v, Create b) ∷ later) h =
    rw (sorted_on (first + 1) (length b) later h.1) (placed_first (first + 1) (length b) v (Create b) later (omega (arith, h.0)) h.1)
sorted first ((v, Overwrite at b) ∷ later) h = absurd h
sorted first ((v, Remove) ∷ later) h = absurd h

-- the version that is had
abbrev pub latest : MapNow → ℕ
latest None = 0
latest (Some (Held version bytes)) = version
latest (Some (Freed version)) = version

-- changes up to the version that they leave are all of them
kept_on : (next len v : ℕ) (b : List ℕ) (later : List (ℕ × Change)) (bound : ℕ) → v + 1 ≡ next
    → GoesOn next len later → latest (fold changed (Some (Held v b)) later) ≤ bound
    → (v ≤ bound) × (filter (λ c. nat_le c.0 bound) later ≡ later)
kept_on next len v b [] bound e g low = (low, refl)
kept_on next len v b ((w, Create x) ∷ later) bound e g low = absurd g
kept_on next len v b ((w, Overwrite at x) ∷ later) bound e g low =
    let rest = kept_on (next + 1) len w (overwritten b at x) later bound (ap (λ n. n + 1) g.0) g.2 low in
    (omega (arith, e, g.0, rest.0), rw (le-leb w bound rest.0, rest.1) refl)
kept_on next len v b ((w, Remove) ∷ []) bound e g low =
    (omega (arith, e, g.0, low), rw (le-leb w bound low) refl)
kept_on next len v b ((w, Remove) ∷ d ∷ later) bound e g low =
    absurd (let none : d ∷ later ≡ [] = g.1 in cc)

-- changes from a version on are none of those below
above : (next len : ℕ) (later : List (ℕ × Change)) (bound : ℕ) → bound < next
    → GoesOn next len later → filter (λ c. nat_le c.0 bound) later ≡ []
above next len [] bound lt g = refl
above next len ((w, Create x) ∷ later) bound lt g = absurd g
above next len ((w, Overwrite at x) ∷ later) bound lt g =
    rw (lt-leb w bound (omega (arith, lt, g.0))) (above (next + 1) len later bound (omega (arith, lt)) g.2)
above next len ((w, Remove) ∷ later) bound lt g =
    rw (lt-leb w bound (omega (arith, lt, g.0)), g.1) refl

front_on : (next len : ℕ) (xs ys : List (ℕ × Change)) → GoesOn next len (xs ++ ys)
    → GoesOn next len xs
front_on next len [] ys g = tt
front_on next len ((w, Create x) ∷ xs) ys g = absurd g
front_on next len ((w, Overwrite at x) ∷ xs) ys g = (g.0, g.1, front_on (next + 1) len xs ys g.2)
front_on next len ((w, Remove) ∷ []) ys g = (g.0, refl)
front_on next len ((w, Remove) ∷ d ∷ xs) ys g = absurd (let none : d ∷ (xs ++ ys) ≡ [] = g.1 in cc)

-- what stands behind a front that leaves this
abbrev pub IsRest : ℕ → List (ℕ × Change) → MapNow → Type 0
IsRest len rest None = ⊥
IsRest len rest (Some (Held v b)) = GoesOn (v + 1) len rest × (length b ≡ len)
IsRest len rest (Some (Freed v)) = rest ≡ []

rest_on : (next len v : ℕ) (b : List ℕ) (xs ys : List (ℕ × Change)) → v + 1 ≡ next
    → length b ≡ len → GoesOn next len (xs ++ ys)
    → IsRest len ys (fold changed (Some (Held v b)) xs)
rest_on next len v b [] ys e l g = (rw e g, l)
rest_on next len v b ((w, Create x) ∷ xs) ys e l g = absurd g
rest_on next len v b ((w, Overwrite at x) ∷ xs) ys e l g =
    let within : at + length x ≤ length b = omega (arith, l, g.1) in
    rest_on (next + 1) len w (overwritten b at x) xs ys (ap (λ n. n + 1) g.0) (length-overwritten b at x within ∙ l) g.2
rest_on next len v b ((w, Remove) ∷ []) ys e l g = g.1
rest_on next len v b ((w, Remove) ∷ d ∷ xs) ys e l g =
    absurd (let none : d ∷ (xs ++ ys) ≡ [] = g.1 in cc)

-- what a front holds at its end is what the whole history had at that version, and as many bytes were made
pub held_front : (first : ℕ) (xs ys : List (ℕ × Change)) (v : ℕ) (b : List ℕ)
    → IsHistory first (xs ++ ys) → left_by xs ≡ Some (Held v b)
    → (at_version (xs ++ ys) v ≡ Some (Held v b)) × IsMadeWith (xs ++ ys) (length b)
held_front first [] ys v b h held = absurd cc
held_front first ((u, Create m) ∷ xs) ys v b h held =
    let next : u + 1 ≡ first + 1 = ap (λ n. n + 1) h.0 in
    let rest = rw held at (rest_on (first + 1) (length m) u m xs ys next refl h.1) in
    let low : latest (fold changed (Some (Held u m)) xs) ≤ v = rw held (omega arith) in
    let kept = kept_on (first + 1) (length m) u m xs v next (front_on (first + 1) (length m) xs ys h.1) low in
    let none = above (v + 1) (length m) ys v (omega arith) rest.0 in
    let same : filter (λ c. nat_le c.0 v) (((u, Create m) ∷ xs) ++ ys) ≡ (u, Create m) ∷ xs = rw (le-leb u v kept.0, filter-append (λ (c : ℕ × Change). nat_le c.0 v) xs ys, kept.1, none, append-nil xs) refl in
    (ap left_by same ∙ held, rest.1)
held_front first ((u, Overwrite at m) ∷ xs) ys v b h held = absurd h
held_front first ((u, Remove) ∷ xs) ys v b h held = absurd h

-- nothing stands behind a front that ends freed
pub freed_front : (first : ℕ) (xs ys : List (ℕ × Change)) (v : ℕ) → IsHistory first (xs ++ ys)
    → left_by xs ≡ Some (Freed v) → ys ≡ []
freed_front first [] ys v h freed = absurd cc
freed_front first ((u, Create m) ∷ xs) ys v h freed =
    rw freed at (rest_on (first + 1) (length m) u m xs ys (ap (λ n. n + 1) h.0) refl h.1)
freed_front first ((u, Overwrite at m) ∷ xs) ys v h freed = absurd h
freed_front first ((u, Remove) ∷ xs) ys v h freed = absurd h
