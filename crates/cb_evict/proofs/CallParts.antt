-- Parts of a call one after another.
use Rattle.std.proofs.Common.{◌⊎◌, ℕ, List, ◌++◌, inl, inr}
use Rattle.cb_world.specs.declared.access.Access.{Access}
use Rattle.cb_world.specs.declared.shown.Shown.{Shown}
use Rattle.cb_world.specs.Looks.{NoLook}
use Rattle.cb_world.specs.Played.{played}
use Rattle.cb_evict.specs.CallPart.{CallPart}
use Rattle.cb_evict.specs.Events.{OnlyLooks}
use Rattle.cb_evict.proofs.Events.{AreAllReads, first_append, looks_before, touches_append, touches_more}

-- What ran to the middle and what ran from there ran in all, and what is shown is followed.
pub record Joins (runsA runsB runsC : List Access → Type 0) (showsA showsB : Shown → Type 0)
    : Type 0 where
  pub more : (es fs : List Access) → runsA es → runsB fs → runsC (es ++ fs)
  pub shown : (es : List Access) (s : Shown) → runsA es → showsA s → showsB (played es s)

abbrev pub joins : {runsA runsB runsC : List Access → Type 0} {showsA showsB : Shown → Type 0}
    → ((es fs : List Access) → runsA es → runsB fs → runsC (es ++ fs))
    → ((es : List Access) (s : Shown) → runsA es → showsA s → showsB (played es s))
    → Joins runsA runsB runsC showsA showsB
joins more shown = record { more = more; shown = shown }

-- A part and then another one are a part: the first only looks, or the other looks at none of its
-- objects.
abbrev pub part_then : {runsA runsB runsC : List Access → Type 0} {showsA showsB : Shown → Type 0}
    {o p q r : ℕ → Type 0} {a b : List Access → Type 0} (objects words : ℕ → Type 0)
    (so : List Access → Type 0) → Joins runsA runsB runsC showsA showsB
    → (x : CallPart runsA o p a) → (y : CallPart runsB q r b)
    → ((h : ℕ) → o h → objects h) → ((i : ℕ) → p i → words i)
    → ((h : ℕ) → q h → objects h) → ((i : ℕ) → r i → words i)
    → OnlyLooks x.events ⊎ ((h : ℕ) → o h → NoLook h y.events)
    → so (x.events ++ y.events) → CallPart runsC objects words so
part_then {o = o} {p = p} {q = q} {r = r} objects words so j x y f g k l quiet is = record {
  events = x.events ++ y.events;
  ran = j.more x.events y.events x.ran y.ran;
  touches = touches_append objects words x.events y.events
      (touches_more o objects p words x.events f g x.touches)
      (touches_more q objects r words y.events k l y.touches);
  first = elim quiet [
    | inl looks ↦ looks_before x.events y.events looks y.first
    | inr off ↦ first_append o p x.events y.events x.touches x.first y.first off
  ];
  done = is;
}

-- words are read, and no more
abbrev pub reads_part : {runs : List Access → Type 0} {q : ℕ → Type 0} (es : List Access) → runs es
    → AreAllReads q es → CallPart runs (λ h. ⊥) q (λ fs. Unit {0})
reads_part es ran reads =
    record { events = es; ran = ran; touches = reads.touches; first = reads.first; done = tt }

-- a part is one about more objects and words
abbrev pub part_more : {runs : List Access → Type 0} {o p : ℕ → Type 0} {a : List Access → Type 0}
    (objects words : ℕ → Type 0) (so : List Access → Type 0) → (x : CallPart runs o p a)
    → ((h : ℕ) → o h → objects h) → ((i : ℕ) → p i → words i) → so x.events
    → CallPart runs objects words so
part_more {o = o} {p = p} objects words so x f g is = record {
  events = x.events;
  ran = x.ran;
  touches = touches_more o objects p words x.events f g x.touches;
  first = x.first;
  done = is;
}
