-- The words of a frame, one step after another.
use Rattle.std.proofs.Common.{◌≡◌, ℕ, ◌+◌, ◌<◌, List, [], ◌∷◌, ◌++◌, length, get_or, set, take}
use Rattle.std.proofs.Common.{refl, sym, ap, ◌∙◌, subst, arith, ◌^◌, All, length-set}
use Rattle.std.proofs.Common.{get_or-set_same, get_or-set_other}
use Rattle.std.proofs.lemmas.List.{take_more_set}
use Rattle.cb_world.specs.declared.entry.Entry.{Entry}
use Rattle.cb_world.specs.declared.access.Access.{Access}
use Rattle.cb_world.specs.declared.access.Access.TheVariants.{Loaded, Stored}
use Rattle.cb_world.specs.declared.shown.Shown.{Shown}
use Rattle.cb_world.specs.FrameWords.{OwnsWords, loads_from, stores_from}
use Rattle.cb_world.specs.Played.{after}
use Rattle.cb_world.specs.Written.{adds}
use Rattle.cb_rule.specs.Steps.{AreNew}
use Rattle.cb_shared.specs.SeatLaws.{Runs, SaysPins, runs_more}
use Rattle.cb_shared.specs.Seats.{SeatAt, Acts, record_at}
use native.Mathlib.Decide.{ℕ_discrete}

loads_last : (p : ℕ) (ws : List ℕ) (w : ℕ)
    → loads_from p (ws ++ w ∷ []) ≡ loads_from p ws ++ Loaded (p + length ws) w ∷ []
loads_last p [] w = let z : p ≡ p + 0 = omega arith in ap (λ (q : ℕ). Loaded q w ∷ []) z
loads_last p (x ∷ ws) w =
    let z : p + 1 + length ws ≡ p + length (x ∷ ws) = omega arith in
    ap (λ (es : List Access). Loaded p x ∷ es) (loads_last (p + 1) ws w
    ∙ ap (λ (q : ℕ). loads_from (p + 1) ws ++ Loaded q w ∷ []) z)

stores_last : (p : ℕ) (ws : List ℕ) (w : ℕ)
    → stores_from p (ws ++ w ∷ []) ≡ stores_from p ws ++ Stored (p + length ws) w ∷ []
stores_last p [] w = let z : p ≡ p + 0 = omega arith in ap (λ (q : ℕ). Stored q w ∷ []) z
stores_last p (x ∷ ws) w =
    let z : p + 1 + length ws ≡ p + length (x ∷ ws) = omega arith in
    ap (λ (es : List Access). Stored p x ∷ es) (stores_last (p + 1) ws w
    ∙ ap (λ (q : ℕ). stores_from (p + 1) ws ++ Stored q w ∷ []) z)

-- one event more, which writes nothing
pub acts_run : (p q : SeatAt) (e : Access) → adds e (record_at p).known ≡ []
    → SaysPins (record_at p) e → Acts p e q
    → Runs p (e ∷ []) q
acts_run p q e none says a = (
  a.0,
  (a.1, tt),
  subst (λ (l : List Entry). AreNew (l ++ []) (record_at p)) (sym none) tt,
  (says, tt),
)

pub load_more : (p q r : SeatAt) (first i : ℕ) (words : List ℕ) (w : ℕ) → i < length words
    → length (take i words) ≡ i → Runs p (loads_from first (take i words)) q
    → Acts q (Loaded (first + i) w) r → Runs p (loads_from first (take (i + 1) (set words i w))) r
load_more p q r first i words w below long runs acts =
    let here : loads_from first (take (i + 1) (set words i w))
    ≡ loads_from first (take i words) ++ Loaded (first + i) w ∷ [] =
    ap (loads_from first) (take_more_set words i w below) ∙ loads_last first (take i words) w
    ∙ ap (λ (n : ℕ). loads_from first (take i words) ++ Loaded (first + n) w ∷ []) long in
    subst (λ (es : List Access). Runs p es r) (sym here)
    (runs_more p q r (loads_from first (take i words)) (Loaded (first + i) w ∷ []) runs
    (acts_run q r (Loaded (first + i) w) refl tt acts))

pub store_more : (p q r : SeatAt) (first i : ℕ) (done more : List ℕ) (w : ℕ)
    → more ≡ done ++ w ∷ [] → length done ≡ i → Runs p (stores_from first done) q
    → Acts q (Stored (first + i) w) r → Runs p (stores_from first more) r
store_more p q r first i done more w is long runs acts =
    let here : stores_from first more ≡ stores_from first done ++ Stored (first + i) w ∷ [] =
    ap (stores_from first) is ∙ stores_last first done w
    ∙ ap (λ (n : ℕ). stores_from first done ++ Stored (first + n) w ∷ []) long in
    subst (λ (es : List Access). Runs p es r) (sym here)
    (runs_more p q r (stores_from first done) (Stored (first + i) w ∷ []) runs
    (acts_run q r (Stored (first + i) w) refl tt acts))

-- a store leaves the holder what it owned
pub owned_still : (p x f : ℕ) (s : Shown) → OwnsWords s f → OwnsWords (after (Stored p x) s) f
owned_still p x f s own q low high = let o = own q low high in
    (subst (λ (n : ℕ). q < n) (sym (length-set s.memory p x)) o.0, o.1)

-- a small word more
pub small_set : (ws : List ℕ) (i w : ℕ) → All (λ x. x < 2 ^ 64) ws → w < 2 ^ 64
    → All (λ x. x < 2 ^ 64) (set ws i w)
small_set ws i w small low k d below = go (ℕ_discrete k i)
  where
    go : Dec (k ≡ i) → get_or (set ws i w) k d < 2 ^ 64
    go (yes same) = subst (λ (x : ℕ). x < 2 ^ 64)
        (sym (ap (λ (j : ℕ). get_or (set ws i w) j d) same
        ∙ get_or-set_same ws i w d (let z = length-set ws i w in omega (arith, z, same, below)))) low
    go (no other) = subst (λ (x : ℕ). x < 2 ^ 64) (sym (get_or-set_other ws i k w d other))
        (small k d (let z = length-set ws i w in omega (arith, z, below)))
