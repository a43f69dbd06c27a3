-- The pins that a lane keeps beside its pass are those of the record.
use Rattle.std.proofs.Common.{◌≡◌, ◌≢◌, ℕ, zero, suc, ◌+◌, ◌<◌, ◌≤◌, Bool, cond, List, [], ◌∷◌}
use Rattle.std.proofs.Common.{length, map, get_or, Option, None, Some, IfSome, IfNone, inl, inr}
use Rattle.std.proofs.Common.{sym, refl, ap, ◌∙◌, subst, arith, eq-eqb, ne_eqb}
use Rattle.std.specs.List.{remove}
use Rattle.std.proofs.lemmas.List.{length-map}
use Rattle.cb_types.specs.declared.reply.Reply.TheVariants as answer
use Rattle.cb_rule.specs.declared.view.Stand.{Stand}
use Rattle.cb_rule.specs.declared.view.View.{View}
use Rattle.cb_rule.specs.Lists.{Has, removed, times}
use Rattle.cb_rule.specs.Seats.{pins_it}
use Rattle.cb_rule.specs.Steps.{stand}
use Rattle.cb_shared.specs.declared.pass.Pin.{Pin}
use Rattle.cb_shared.specs.Passes.{stand_of}
use Rattle.cb_shared.specs.Pinning.{IsPinnedHere}
use Rattle.cb_lanes.specs.Passing.{AreHeld, HasNoMark, HasNoPin, IsNewestAt, IsNewestPin}
use Rattle.cb_lanes.specs.Passing.{IsNotPinned, Mark, mark_in, mark_of, marks_of}

pub held_same : (ps : List Pin) (v w : View) → w.pins ≡ v.pins → AreHeld ps v → AreHeld ps w
held_same ps v w same held = held ∙ ap (λ (l : List Stand). map mark_in l) (sym same)

pub held_count : (ps : List Pin) (v : View) → AreHeld ps v → length ps ≡ length v.pins
held_count ps v held = sym (length-map ps mark_of) ∙ ap (λ (l : List Mark). length l) held
    ∙ length-map v.pins mark_in

-- one pin more
pub held_more : (ps qs : List Pin) (h : ℕ) (p : Pin) (v w : View) → IsPinnedHere h p v w
    → qs ≡ p ∷ ps → AreHeld ps v → AreHeld qs w
held_more ps qs h p v w x is held = ap marks_of is
    ∙ (λ i. record {
      handle = x.handle i;
      version = p.version;
      len = x.len i;
      place = x.place i;
    } ∷ held i)
    ∙ sym (ap (λ (z : View). map mark_in z.pins) x.left)

-- ---- a list of marks beside one of pins
abbrev head_or : Mark → List Mark → Mark
head_or m [] = m
head_or m (x ∷ xs) = x

abbrev tail_of : List Mark → List Mark
tail_of [] = []
tail_of (x ∷ xs) = xs

-- a pin whose mark is that of one of the record is that one
pub same_stand : (p : Pin) (s : Stand) → mark_of p ≡ mark_in s → stand_of p s.words ≡ s
same_stand p s e = λ i. stand (e i).handle (e i).len (e i).place (e i).version s.words

pub none_there : (h : ℕ) (ms : List Mark) (ss : List Stand) → ms ≡ map mark_in ss → HasNoMark h ms
    → HasNoPin h ss
none_there h ms [] e none = tt
none_there h [] (s ∷ ss) e none = absurd (let z : 0 ≡ suc (length (map mark_in ss)) = ap length e in
    omega (arith, z))
none_there h (m ∷ ms) (s ∷ ss) e none = (
  λ is. none.0 (ap (λ (l : List Mark). (head_or m l).handle) e ∙ is),
  none_there h ms ss (ap tail_of e) none.1,
)

-- what the place of the newest pin on an object tells of it
pub record IsPinThere (h at : ℕ) (p : Pin) (ps : List Pin) (ss : List Stand) : Type 0 where
  pub words : List ℕ
  pub has : Has (stand_of p words) ss
  pub handle : p.handle.n ≡ h
  pub newest : IsNewestPin h (stand_of p words) ss
  pub some : 0 < times (pins_it h) ss
  pub rest : marks_of (remove ps at) ≡ map mark_in (removed (pins_it h) ss)

there_behind : (h at : ℕ) (p q : Pin) (ps : List Pin) (s : Stand) (ss : List Stand)
    → marks_of (q ∷ ps) ≡ map mark_in (s ∷ ss) → (mark_of q).handle ≢ h → IsPinThere h at p ps ss
    → IsPinThere h (suc at) p (q ∷ ps) (s ∷ ss)
there_behind h at p q ps s ss e not_it later = record {
  words = later.words;
  has = inr later.has;
  handle = later.handle;
  newest = inr (other, later.newest);
  some = subst (λ (b : Bool). 0 < cond {A = ℕ} b 1 0 + times (pins_it h) ss)
      (sym (ne_eqb s.handle h other)) (let z = later.some in omega (arith, z));
  rest = (λ i. first i ∷ later.rest i)
      ∙ sym (ap (λ (b : Bool). map mark_in (cond b ss (s ∷ removed (pins_it h) ss)))
      (ne_eqb s.handle h other));
}
  where
    first : mark_of q ≡ mark_in s
    first = ap (head_or (mark_of q)) e

    other : s.handle ≢ h
    other same = not_it (ap (λ (m : Mark). m.handle) first ∙ same)

pub pin_there : (h at : ℕ) (p : Pin) (ps : List Pin) (ss : List Stand)
    → marks_of ps ≡ map mark_in ss → IsNewestAt h (marks_of ps) at → p ≡ get_or ps at p
    → IsPinThere h at p ps ss
pin_there h at p [] ss e new is = absurd new
pin_there h at p (q ∷ ps) [] e new is =
    absurd (let z : suc (length (marks_of ps)) ≡ 0 = ap length e in omega (arith, z))
pin_there h zero p (q ∷ ps) (s ∷ ss) e new is = record {
  words = s.words;
  has = inl (sym same);
  handle = ap (λ (z : Pin). z.handle.n) is ∙ new;
  newest = inl (here, sym same);
  some = subst (λ (b : Bool). 0 < cond {A = ℕ} b 1 0 + times (pins_it h) ss)
      (sym (eq-eqb s.handle h here)) (omega arith);
  rest = ap tail_of e ∙ sym (ap (λ (b : Bool). map mark_in (cond b ss (s ∷ removed (pins_it h) ss)))
      (eq-eqb s.handle h here));
}
  where
    first : mark_of q ≡ mark_in s
    first = ap (head_or (mark_of q)) e

    here : s.handle ≡ h
    here = sym (ap (λ (m : Mark). m.handle) first) ∙ new

    same : stand_of p s.words ≡ s
    same = same_stand p s (ap mark_of is ∙ first)
pin_there h (suc at) p (q ∷ ps) (s ∷ ss) e new is = there_behind h at p q ps s ss e new.0
    (pin_there h at p ps ss (ap tail_of e) new.1 is)

-- ---- from the places to the newest
-- none of the first pins is on the object
abbrev pub NoneBefore : ℕ → List Pin → ℕ → Type 0
NoneBefore h ps k = (i : ℕ) (p : Pin) → i < k → (get_or ps i p).handle.n ≢ h

pub newest_at : (h at : ℕ) (ps : List Pin) (p : Pin) → at < length ps
    → (get_or ps at p).handle.n ≡ h → NoneBefore h ps at → IsNewestAt h (marks_of ps) at
newest_at h at [] p less here before = absurd (omega (arith, less))
newest_at h zero (q ∷ ps) p less here before = here
newest_at h (suc at) (q ∷ ps) p less here before = (
  before 0 p (omega arith),
  newest_at h at ps p (omega (arith, less)) here (λ i d low. before (suc i) d (omega (arith, low))),
)

pub none_at : (h k : ℕ) (ps : List Pin) → length ps ≤ k → NoneBefore h ps k
    → HasNoMark h (marks_of ps)
none_at h k [] all before = tt
none_at h zero (q ∷ ps) all before = absurd (omega (arith, all))
none_at h (suc k) (q ∷ ps) all before = (
  before 0 q (omega arith),
  none_at h k ps (omega (arith, all)) (λ i d low. before (suc i) d (omega (arith, low))),
)

none_to : (h at : ℕ) (ps : List Pin) (p : Pin) → at < length ps
    → (get_or ps at p).handle.n ≢ h → NoneBefore h ps at → NoneBefore h ps (suc at)
none_to h at [] p less off before i d low = absurd (omega (arith, less))
none_to h zero (q ∷ ps) p less off before zero d low = off
none_to h zero (q ∷ ps) p less off before (suc i) d low = absurd (omega (arith, low))
none_to h (suc at) (q ∷ ps) p less off before zero d low = before 0 d (omega arith)
none_to h (suc at) (q ∷ ps) p less off before (suc i) d low =
    none_to h at ps p (omega (arith, less)) off
    (λ j e few. before (suc j) e (omega (arith, few))) i d (omega (arith, low))

-- one place more
pub none_more : (h at : ℕ) (ps : List Pin) (p : Pin) → at < length ps
    → (get_or ps at p).handle.n ≢ h → NoneBefore h ps at → NoneBefore h ps (at + 1)
none_more h at ps p less off before i d low =
    none_to h at ps p less off before i d (omega (arith, low))

-- the place is one of the list
pub newest_below : (h at : ℕ) (ps : List Pin) → IsNewestAt h (marks_of ps) at → at < length ps
newest_below h at [] new = absurd new
newest_below h zero (q ∷ ps) new = omega arith
newest_below h (suc at) (q ∷ ps) new = let e = newest_below h at ps new.1 in omega (arith, e)

-- the first pin is the newest one on its object
pub first_newest : (p : Pin) (ps : List Pin) → 0 < length ps → p ≡ get_or ps 0 p
    → IsNewestAt p.handle.n (marks_of ps) 0
first_newest p [] some is = absurd (omega (arith, some))
first_newest p (q ∷ ps) some is = ap (λ (z : Pin). z.handle.n) (sym is)

-- ---- what a search for the newest pin found
pub found_at : (h at : ℕ) (xs ps : List Pin) (o : Option ℕ) → o ≡ Some at → xs ≡ ps
    → IfSome o (λ k. IsNewestAt h (marks_of xs) k) → IsNewestAt h (marks_of ps) at
found_at h at xs ps o is same new = subst (λ (l : List Pin). IsNewestAt h (marks_of l) at) same
    (subst (λ (z : Option ℕ). IfSome z (λ k. IsNewestAt h (marks_of xs) k)) is new)

pub found_none : (h : ℕ) (xs ps : List Pin) (o : Option ℕ) (v : View) → AreHeld ps v → o ≡ None
    → xs ≡ ps → IfNone o (HasNoMark h (marks_of xs)) → IsNotPinned h answer.NotPinned v v
found_none h xs ps o v held is same none = record {
  no_pin = none_there h (marks_of ps) v.pins held
      (subst (λ (l : List Pin). HasNoMark h (marks_of l)) same
      (subst (λ (z : Option ℕ). IfNone z (HasNoMark h (marks_of xs))) is none));
  told = refl;
  left = refl;
}
