-- What a history of an object has at the version of one of its changes.
use Rattle.std.proofs.Common.{◌≡◌, ℕ, zero, suc, ◌+◌, ◌<◌, ◌≤◌, nat_le, List, [], ◌∷◌, ◌++◌, length, Some, None, refl, sym, ap, ◌∙◌, arith, inl, inr}
use Rattle.std.specs.Prelude.{◌⊎◌}
use Rattle.std.specs.List.{fold, filter}
use Rattle.std.proofs.lemmas.Bool.{le-leb, lt-leb}
use Rattle.std.proofs.lemmas.List.Sums.{fold-append}
use Rattle.cb_model.specs.declared.object.Object.TheVariants.{Held, Freed}
use Rattle.cb_model.specs.Now.{MapNow, Change, changed, overwritten}
use Rattle.cb_model.specs.Now.Change.{Create, Overwrite, Remove}
use Rattle.cb_model.specs.History.{GoesOn, IsHistory, IsMadeWith, at_version}
use Rattle.cb_model.proofs.Growing.{length-overwritten}

-- the change is one of these
abbrev pub In : ℕ × Change → List (ℕ × Change) → Type 0
In c [] = ⊥
In c (d ∷ ds) = (c ≡ d) ⊎ In c ds

abbrev pub pair : ℕ → Change → ℕ × Change
pair v c = (v, c)

above : (next len : ℕ) (later : List (ℕ × Change)) (bound : ℕ) → bound < next
    → GoesOn next len later → filter (λ c. nat_le c.0 bound) later ≡ []
above next len [] bound lt g = refl
above next len ((w, Create x) ∷ later) bound lt g = absurd g
above next len ((w, Overwrite at x) ∷ later) bound lt g =
    rw (lt-leb w bound (omega (arith, lt, g.0))) (above (next + 1) len later bound (omega (arith, lt)) g.2)
above next len ((w, Remove) ∷ later) bound lt g =
    rw (lt-leb w bound (omega (arith, lt, g.0)), g.1) refl

version_is : (v w : ℕ) (c d : Change) → pair v c ≡ pair w d → v ≡ w
version_is v w c d e = ap (λ (p : ℕ × Change). p.0) e

change_is : (v w : ℕ) (c d : Change) → pair v c ≡ pair w d → c ≡ d
change_is v w c d e = ap (λ (p : ℕ × Change). p.1) e

from_next : (next len v : ℕ) (c : Change) (later : List (ℕ × Change)) → GoesOn next len later
    → In (v, c) later → next ≤ v
from_next next len v c [] g is = absurd is
from_next next len v c ((w, Create x) ∷ later) g is = absurd g
from_next next len v c ((w, Overwrite at x) ∷ later) g (inl e) =
    omega (arith, g.0, version_is v w c (Overwrite at x) e)
from_next next len v c ((w, Overwrite at x) ∷ later) g (inr is) =
    omega (arith, from_next (next + 1) len v c later g.2 is)
from_next next len v c ((w, Remove) ∷ later) g (inl e) =
    omega (arith, g.0, version_is v w c Remove e)
from_next next len v c ((w, Remove) ∷ later) g (inr is) = absurd (rw g.1 at is)

-- one version more is one change more
step_on : (next len v w : ℕ) (c : Change) (later : List (ℕ × Change)) → GoesOn next len later
    → In (v, c) later → v ≡ w + 1
    → filter (λ d. nat_le d.0 v) later ≡ filter (λ d. nat_le d.0 w) later ++ (v, c) ∷ []
step_on next len v w c [] g is up = absurd is
step_on next len v w c ((x, Create b) ∷ later) g is up = absurd g
step_on next len v w c ((x, Overwrite at b) ∷ later) g (inl e) up =
    let same = version_is v x c (Overwrite at b) e in
    let none = above (next + 1) len later v (omega (arith, same, g.0)) g.2 in
    let no_less = above (next + 1) len later w (omega (arith, same, up, g.0)) g.2 in
    simp (le-leb x v (omega (arith, same)), lt-leb x w (omega (arith, same, up)), none, no_less) (ap (λ (d : ℕ × Change). d ∷ []) (sym e))
step_on next len v w c ((x, Overwrite at b) ∷ later) g (inr is) up =
    let high = from_next (next + 1) len v c later g.2 is in
    simp (le-leb x v (omega (arith, high, g.0)), le-leb x w (omega (arith, high, up, g.0))) (ap (λ (ds : List (ℕ × Change)). (x, Overwrite at b) ∷ ds) (step_on (next + 1) len v w c later g.2 is up))
step_on next len v w c ((x, Remove) ∷ later) g (inl e) up =
    let same = version_is v x c Remove e in
    simp (le-leb x v (omega (arith, same)), lt-leb x w (omega (arith, same, up)), g.1) (ap (λ (d : ℕ × Change). d ∷ []) (sym e))
step_on next len v w c ((x, Remove) ∷ later) g (inr is) up = absurd (rw g.1 at is)

-- what the make leaves
pub made_at : (first v : ℕ) (b : List ℕ) (cs : List (ℕ × Change)) → IsHistory first cs
    → In (v, Create b) cs
    → (v ≡ first) × (at_version cs v ≡ Some (Held v b)) × IsMadeWith cs (length b)
made_at first v b [] h is = absurd is
made_at first v b ((x, Create m) ∷ later) h (inl e) =
    let same = version_is v x (Create b) (Create m) e in
    let bytes : b ≡ m = (let c = change_is v x (Create b) (Create m) e in cc) in
    let none = above (first + 1) (length m) later v (omega (arith, same, h.0)) h.1 in
    (same ∙ h.0, simp (le-leb x v (omega (arith, same)), none) (rw (same, bytes) refl), ap (λ (ys : List ℕ). length ys) bytes)
made_at first v b ((x, Create m) ∷ later) h (inr is) = absurd (none_on (first + 1) (length m) later h.1 is) where
  none_on : (next len : ℕ) (ds : List (ℕ × Change)) → GoesOn next len ds → In (v, Create b) ds → ⊥
  none_on next len [] g is = is
  none_on next len ((w, Create y) ∷ ds) g is = g
  none_on next len ((w, Overwrite at y) ∷ ds) g (inl e) =
      absurd (let c = change_is v w (Create b) (Overwrite at y) e in cc)
  none_on next len ((w, Overwrite at y) ∷ ds) g (inr is) = none_on (next + 1) len ds g.2 is
  none_on next len ((w, Remove) ∷ ds) g (inl e) =
      absurd (let c = change_is v w (Create b) Remove e in cc)
  none_on next len ((w, Remove) ∷ ds) g (inr is) = absurd (rw g.1 at is)
made_at first v b ((x, Overwrite at y) ∷ later) h is = absurd h
made_at first v b ((x, Remove) ∷ later) h is = absurd h

-- what a later change leaves
abbrev pub IsLater : Change → Type 0
IsLater (Create b) = ⊥
IsLater (Overwrite at b) = Unit {0}
IsLater Remove = Unit {0}

not_later : (v x : ℕ) (c : Change) (m : List ℕ) → IsLater c → pair v c ≡ pair x (Create m) → ⊥
not_later v x (Create b) m later e = later
not_later v x (Overwrite at b) m later e = absurd (let c = change_is v x (Overwrite at b) (Create m) e in cc)
not_later v x Remove m later e = absurd (let c = change_is v x Remove (Create m) e in cc)

pub left_at_next : (first v w : ℕ) (c : Change) (cs : List (ℕ × Change)) → IsHistory first cs
    → In (v, c) cs → IsLater c → v ≡ w + 1 → at_version cs v ≡ changed (at_version cs w) (v, c)
left_at_next first v w c [] h is later up = absurd is
left_at_next first v w c ((x, Create m) ∷ ds) h (inl e) later up = absurd (not_later v x c m later e)
left_at_next first v w c ((x, Create m) ∷ ds) h (inr is) later up =
    let high = from_next (first + 1) (length m) v c ds h.1 is in
    let more = step_on (first + 1) (length m) v w c ds h.1 is up in
    let low = filter (λ (d : ℕ × Change). nat_le d.0 w) ds in
    let before : at_version ((x, Create m) ∷ ds) w ≡ fold changed (Some (Held x m)) low = rw (le-leb x w (omega (arith, high, up, h.0))) refl in
    let after : at_version ((x, Create m) ∷ ds) v ≡ fold changed (Some (Held x m)) (low ++ (v, c) ∷ []) = rw (le-leb x v (omega (arith, high, h.0)), more) refl in
    after ∙ fold-append changed (Some (Held x m)) low ((v, c) ∷ []) ∙ ap (λ (now : MapNow). changed now (v, c)) (sym before)
left_at_next first v w c ((x, Overwrite at y) ∷ ds) h is later up = absurd h
left_at_next first v w c ((x, Remove) ∷ ds) h is later up = absurd h

-- before a later change the object has as many bytes as its make, and a write lies within them
abbrev pub LiesIn : Change → ℕ → Type 0
LiesIn (Create b) len = ⊥
LiesIn (Overwrite at b) len = at + length b ≤ len
LiesIn Remove len = Unit {0}

pub record HeldBefore (now : MapNow) (w len : ℕ) (c : Change) : Type 0 where
  pub bytes : List ℕ
  pub held : now ≡ Some (Held w bytes)
  pub long : length bytes ≡ len
  pub within : LiesIn c len

held_on : (next len x v w : ℕ) (b : List ℕ) (c : Change) (later : List (ℕ × Change)) → x + 1 ≡ next
    → length b ≡ len → GoesOn next len later → In (v, c) later → v ≡ w + 1
    → HeldBefore (fold changed (Some (Held x b)) (filter (λ d. nat_le d.0 w) later)) w len c
held_on next len x v w b c [] e l g is up = absurd is
held_on next len x v w b c ((y, Create z) ∷ later) e l g is up = absurd g
held_on next len x v w b c ((y, Overwrite at z) ∷ later) e l g (inl is) up =
    let same = version_is v y c (Overwrite at z) is in
    let here : x ≡ w = omega (arith, same, up, e, g.0) in
    let none = above (next + 1) len later w (omega (arith, same, up, g.0)) g.2 in
    record {
      bytes = b;
      held = simp (lt-leb y w (omega (arith, same, up)), none) (rw here refl);
      long = l;
      within = rw (change_is v y c (Overwrite at z) is) g.1;
    }
held_on next len x v w b c ((y, Overwrite at z) ∷ later) e l g (inr is) up =
    let high = from_next (next + 1) len v c later g.2 is in
    let within : at + length z ≤ length b = omega (arith, l, g.1) in
    rw (le-leb y w (omega (arith, high, up, g.0)))
    (held_on (next + 1) len y v w (overwritten b at z) c later (ap (λ n. n + 1) g.0) (length-overwritten b at z within ∙ l) g.2 is up)
held_on next len x v w b c ((y, Remove) ∷ later) e l g (inl is) up =
    let same = version_is v y c Remove is in
    let here : x ≡ w = omega (arith, same, up, e, g.0) in
    record {
      bytes = b;
      held = simp (lt-leb y w (omega (arith, same, up)), g.1) (rw here refl);
      long = l;
      within = rw (change_is v y c Remove is) tt;
    }
held_on next len x v w b c ((y, Remove) ∷ later) e l g (inr is) up = absurd (rw g.1 at is)

-- of a history
pub held_before : (first v w : ℕ) (c : Change) (cs : List (ℕ × Change)) → IsHistory first cs
    → In (v, c) cs → IsLater c → v ≡ w + 1
    → (len : ℕ) × IsMadeWith cs len × HeldBefore (at_version cs w) w len c
held_before first v w c [] h is later up = absurd is
held_before first v w c ((x, Create m) ∷ ds) h (inl e) later up = absurd (not_later v x c m later e)
held_before first v w c ((x, Create m) ∷ ds) h (inr is) later up =
    let high = from_next (first + 1) (length m) v c ds h.1 is in
    (length m, refl, rw (le-leb x w (omega (arith, high, up, h.0))) (held_on (first + 1) (length m) x v w m c ds (ap (λ n. n + 1) h.0) refl h.1 is up))
held_before first v w c ((x, Overwrite at y) ∷ ds) h is later up = absurd h
held_before first v w c ((x, Remove) ∷ ds) h is later up = absurd h

-- later changes come behind the first version
pub later_above : (first v : ℕ) (c : Change) (cs : List (ℕ × Change)) → IsHistory first cs
    → In (v, c) cs → IsLater c → first + 1 ≤ v
later_above first v c [] h is later = absurd is
later_above first v c ((x, Create m) ∷ ds) h (inl e) later = absurd (not_later v x c m later e)
later_above first v c ((x, Create m) ∷ ds) h (inr is) later =
    from_next (first + 1) (length m) v c ds h.1 is
later_above first v c ((x, Overwrite at y) ∷ ds) h is later = absurd h
later_above first v c ((x, Remove) ∷ ds) h is later = absurd h

changed_remove : (now : MapNow) (v : ℕ) → changed now (v, Remove) ≡ Some (Freed v)
changed_remove None v = refl
changed_remove (Some (Held w b)) v = refl
changed_remove (Some (Freed w)) v = refl

-- the end of the object leaves it freed
pub freed_at : (first v : ℕ) (cs : List (ℕ × Change)) → IsHistory first cs → In (v, Remove) cs
    → at_version cs v ≡ Some (Freed v)
freed_at first zero cs h is = absurd (let le = later_above first 0 Remove cs h is tt in omega (arith, le))
freed_at first (suc w) cs h is =
    left_at_next first (suc w) w Remove cs h is tt (omega arith) ∙ changed_remove (at_version cs w) (suc w)

-- any other change leaves as many bytes as were made
pub record IsHeldAt (cs : List (ℕ × Change)) (v : ℕ) : Type 0 where
  pub bytes : List ℕ
  pub held : at_version cs v ≡ Some (Held v bytes)
  pub long : IsMadeWith cs (length bytes)

written_at : (first v w at : ℕ) (b : List ℕ) (cs : List (ℕ × Change)) → IsHistory first cs
    → In (v, Overwrite at b) cs → v ≡ w + 1 → IsHeldAt cs v
written_at first v w at b cs h is up =
    let x = held_before first v w (Overwrite at b) cs h is tt up in
    let before = x.2 in
    let within : at + length b ≤ length before.bytes = omega (arith, before.within, before.long) in
    record {
      bytes = overwritten before.bytes at b;
      held = left_at_next first v w (Overwrite at b) cs h is tt up ∙ ap (λ (now : MapNow). changed now (v, Overwrite at b)) before.held;
      long = rw (length-overwritten before.bytes at b within ∙ before.long) x.1;
    }

pub kept_at : (first v : ℕ) (c : Change) (cs : List (ℕ × Change)) → IsHistory first cs
    → In (v, c) cs → (c ≡ Remove → ⊥) → IsHeldAt cs v
kept_at first v (Create b) cs h is kept =
    let m = made_at first v b cs h is in record { bytes = b; held = m.1; long = m.2 }
kept_at first zero (Overwrite at b) cs h is kept =
    absurd (let le = later_above first 0 (Overwrite at b) cs h is tt in omega (arith, le))
kept_at first (suc w) (Overwrite at b) cs h is kept =
    written_at first (suc w) w at b cs h is (omega arith)
kept_at first v Remove cs h is kept = absurd (kept refl)

pub one_length : (cs : List (ℕ × Change)) (k l : ℕ) → IsMadeWith cs k → IsMadeWith cs l → k ≡ l
one_length [] k l a b = absurd a
one_length ((v, Create m) ∷ cs) k l a b = a ∙ sym b
one_length ((v, Overwrite at m) ∷ cs) k l a b = absurd a
one_length ((v, Remove) ∷ cs) k l a b = absurd a
