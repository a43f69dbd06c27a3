-- The parts of a turn one after another, over any desk.
use Rattle.std.proofs.Common.{◌≡◌, ℕ, ◌≤◌, List, [], length, Option, None, Some, Result, Ok, Err, sym, subst}
use Rattle.std.specs.Prelude.{IfOk, OnErr}
use Rattle.cb_member.specs.declared.no_memory.NoMemory.{NoMemory}
use Rattle.cb_set.specs.SetState.{SetState}
use Rattle.cb_types.specs.declared.config.Config.{Config}
use Rattle.cb_types.specs.declared.reply.Reply.{Reply}
use Rattle.cb_types.specs.declared.reply.Reply.TheVariants as answer
use Rattle.cb_world.specs.declared.access.Access.{Access}
use Rattle.cb_world.specs.declared.homes.Home.{Home}
use Rattle.cb_world.specs.declared.shown.Shown.{Shown}
use Rattle.cb_world.specs.FarState.{FarState}
use Rattle.cb_world.specs.Homes.{home_at}
use Rattle.cb_world.specs.Performs.{Performs}
use Rattle.cb_world.specs.Played.{played}
use Rattle.cb_world.specs.Sets.{set_in}
use Rattle.cb_world.specs.Sound.{Sound}
use Rattle.cb_swapin.specs.Fetching.{far_given}
use Rattle.cb_core.specs.Parts.{Holding, WhereItIs, BringsIn, CallStops}
use Rattle.cb_core.specs.Parts.BringsIn.{was_far}
use Rattle.cb_core.specs.Parts.CallStops.{far as far_lacks}
use Rattle.cb_core.specs.Parts.WhereItIs.{declined, stays_far, brought}
use Rattle.cb_core.specs.Turned.{Brings, BringLacks, FindsWhere, IsGiven, Makes, SwapLacks}
use Rattle.cb_core.proofs.PartsFar.{live_home}

-- ---- what a part leaves known
-- a sound world that the desk shows
abbrev pub IsSoundShown : (Shown → Type 0) → FarState → Type 0
IsSoundShown shows far = (s : Shown) × shows s × Sound s far

pub shown_after : (runs : List Access → Type 0) (shows then_shows : Shown → Type 0) (far new : FarState)
    (rules : List Access → Type 0) (does : List Access → Shown → Shown → Type 0)
    → Performs runs (λ s. shows s × Sound s far) rules (λ t. Sound t new) does
    → ((es : List Access) (s : Shown) → runs es → shows s → then_shows (played es s))
    → IsSoundShown shows far → IsSoundShown then_shows new
shown_after runs shows then_shows far new rules does p follows k =
    (played p.events k.0, follows p.events k.0 p.ran k.1, p.sound_after k.0 (k.1, k.2))

abbrev pub holding : {D : Type 0} → D → FarState → Holding D
holding desk far = record { desk = desk; far = far }

-- ---- by the result
pub if_map : (P Q : Reply → Type 0) (r : Result Reply NoMemory) → IfOk r Q → ((q : Reply) → Q q → P q)
    → IfOk r P
if_map P Q (Ok q) x f = f q x
if_map P Q (Err e) x f = tt

pub err_map : (P Q : Type 0) (r : Result Reply NoMemory) → OnErr r Q → (Q → P) → OnErr r P
err_map P Q (Ok q) x f = tt
err_map P Q (Err e) x f = f x

pub err_both : (P Q R : Type 0) (r : Result Reply NoMemory) → OnErr r Q → OnErr r R → (Q → R → P)
    → OnErr r P
err_both P Q R (Ok q) x y f = tt
err_both P Q R (Err e) x y f = f x y

-- whichever it is
pub by_result : (P E : Type 0) (B : Reply → Type 0) (r : Result Reply NoMemory) → IfOk r B
    → OnErr r E → ((q : Reply) → B q → P) → (E → P) → P
by_result P E B (Ok q) x y f g = f q x
by_result P E B (Err e) x y f g = g y

pub any_err : (P : Type 0) (r : Result Reply NoMemory) → P → OnErr r P
any_err P (Ok q) p = tt
any_err P (Err e) p = p

-- ---- the reply that it was
pub makes_as : {D : Type 0} (run : D → List Access → D → Type 0) (shows : D → Shown → Type 0)
    (c d : Config) (bytes : List ℕ) (a b : Holding D) (q r : Reply) → d ≡ c → q ≡ r
    → Makes run shows d bytes a q b → Makes run shows c bytes a r b
makes_as run shows c d bytes a b q r same is x =
    subst (λ (e : Config). Makes run shows e bytes a r b) same
    (subst (λ (p : Reply). Makes run shows d bytes a p b) is x)

-- ---- a swap-in
-- rows of its set were given out: the set of a home is there
is_given : (s : Shown) (far new : FarState) (h : ℕ) (home : Home) → Sound s far
    → home_at far.homes h ≡ Some home
    → ((set : SetState) → set_in far.sets home.set ≡ Some set → (n : ℕ) × (n ≤ length set.positions)
    × (new ≡ far_given far n)) → IsGiven far new h
is_given s far new h home sound at x =
    let set = live_home s far h home sound at in
    let z = x set.0 set.1 in (home, set.0, z.0, at, set.1, z.1, z.2)

-- a swap-in that lacks memory, from a sound world
module _ {D : Type 0} (run : D → List Access → D → Type 0) (shows : D → Shown → Type 0) (h : ℕ)
    (home : Home) (a b : Holding D) (nothing : (x : D) → run x [] x)
    (k : IsSoundShown (λ s. shows a.desk s) a.far) (at : home_at a.far.homes h ≡ Some home) where
  pub swap_lacks : b.desk ≡ a.desk → ((set : SetState) → set_in a.far.sets home.set ≡ Some set
      → (n : ℕ)
      × (n ≤ length set.positions) × (b.far ≡ far_given a.far n)) → SwapLacks run h a b
  swap_lacks desk far = (
    subst (λ (u : D). run a.desk [] u) (sym desk) (nothing a.desk),
    is_given k.0 a.far b.far h home k.2 at far,
  )

-- ---- a call on an object wherever it is
-- a part that leaves the far state as it was
pub far_kept : (runs : List Access → Type 0) (knows : Shown → Type 0) (rules : List Access → Type 0)
    (sound : Shown → Type 0) (does : List Access → Shown → Shown → Type 0) (far new : FarState)
    → Performs runs knows rules sound does → new ≡ far
    → Performs runs knows (λ es. (new ≡ far) × rules es) sound does
far_kept runs knows rules sound does far new p same = record {
  events = p.events;
  ran = p.ran;
  looks_first = p.looks_first;
  rule = (same, p.rule);
  allowed = p.allowed;
  sound_after = p.sound_after;
  effect = p.effect;
}

pub far_kept_if : (runs : List Access → Type 0) (knows : Shown → Type 0)
    (rules : Reply → List Access → Type 0) (sound : Shown → Type 0)
    (does : Reply → List Access → Shown → Shown → Type 0) (far new : FarState)
    (result : Result Reply NoMemory) → IfOk result (λ r. Performs runs knows (rules r) sound (does r))
    → new ≡ far
    → IfOk result (λ r. Performs runs knows (λ es. (new ≡ far) × rules r es) sound (does r))
far_kept_if runs knows rules sound does far new result x same =
    if_map (λ r. Performs runs knows (λ es. (new ≡ far) × rules r es) sound (does r))
    (λ r. Performs runs knows (rules r) sound (does r)) result x
    (λ r p. far_kept runs knows (rules r) sound (does r) far new p same)

pub brings_as : {D : Type 0} (run : D → List Access → D → Type 0) (shows : D → Shown → Type 0)
    (c d : Config) (h : ℕ) (a b : Holding D) (r : Reply) → d ≡ c → Brings run shows d h a r b
    → Brings run shows c h a r b
brings_as run shows c d h a b r same x =
    subst (λ (e : Config). Brings run shows e h a r b) same x

pub bring_lacks_as : {D : Type 0} (run : D → List Access → D → Type 0) (shows : D → Shown → Type 0)
    (c d : Config) (h : ℕ) (a b : Holding D) → d ≡ c → BringLacks run shows d h a b
    → BringLacks run shows c h a b
bring_lacks_as run shows c d h a b same x =
    subst (λ (e : Config). BringLacks run shows e h a b) same x

pub is_declined : {D : Type 0} (call : Holding D → Reply → Holding D → Type 0)
    (look : Holding D → Option Reply → Holding D → Type 0)
    (bringing : Holding D → Reply → Holding D → Type 0) (a m b : Holding D) (q r : Reply)
    → call a q m → q ≡ answer.NotHere → look m (Some r) b → WhereItIs call look bringing a r b
is_declined call look bringing a m b q r called away looked =
    declined m (subst (λ (p : Reply). call a p m) away called) looked

module _ {D : Type 0} (call : Holding D → Reply → Holding D → Type 0)
    (look : Holding D → Option Reply → Holding D → Type 0)
    (bringing : Holding D → Reply → Holding D → Type 0) (a m n : Holding D) (q : Reply)
    (called : call a q m) (away : q ≡ answer.NotHere) (looked : look m None n) where
  was_called : call a answer.NotHere m
  was_called = subst (λ (r : Reply). call a r m) away called

  pub far_stays : (b : Holding D) (r : Reply) → bringing n r b
      → ((f : ℕ) → r ≡ answer.Swapped f → ⊥) → WhereItIs call look bringing a r b
  far_stays b r x left = stays_far m n was_called looked x left

  pub far_comes : (o b : Holding D) (p : Reply) (f : ℕ) (result : Result Reply NoMemory)
      → bringing n p o → p ≡ answer.Swapped f → IfOk result (λ r. call o r b)
      → IfOk result (λ r. WhereItIs call look bringing a r b)
  far_comes o b p f result x is y = if_map (λ r. WhereItIs call look bringing a r b)
      (λ r. call o r b) result y
      (λ r z. brought m n o f was_called looked (subst (λ (r : Reply). bringing n r o) is x) z)

  pub far_stops : (lacks bringing_lacks : Holding D → Holding D → Type 0) (b : Holding D)
      (result : Result Reply NoMemory) → bringing_lacks n b
      → OnErr result (CallStops call lacks look bringing bringing_lacks a b)
  far_stops lacks bringing_lacks b result x =
      any_err _ result (far_lacks m n was_called looked x)

-- ---- an object that is brought in
pub comes_in : {D : Type 0} (call bringing : Holding D → Reply → Holding D → Type 0) (a m b : Holding D)
    (q : Reply) (result : Result Reply NoMemory) → call a q m → q ≡ answer.NotHere
    → IfOk result (λ r. bringing m r b) → IfOk result (λ r. BringsIn call bringing a r b)
comes_in call bringing a m b q result called away x = if_map (λ r. BringsIn call bringing a r b)
    (λ r. bringing m r b) result x
    (λ r y. was_far m (subst (λ (p : Reply). call a p m) away called) y)

pub finds_as : {D : Type 0} (run : D → List Access → D → Type 0) (shows : D → Shown → Type 0) (h : ℕ)
    (a b : Holding D) (q r : Reply) → q ≡ r → FindsWhere run shows h a q b
    → FindsWhere run shows h a r b
finds_as run shows h a b q r is x = subst (λ (p : Reply). FindsWhere run shows h a p b) is x

pub brings_as_if : {D : Type 0} (run : D → List Access → D → Type 0) (shows : D → Shown → Type 0)
    (c d : Config) (h : ℕ) (a b : Holding D) (result : Result Reply NoMemory) → d ≡ c
    → IfOk result (λ r. Brings run shows d h a r b) → IfOk result (λ r. Brings run shows c h a r b)
brings_as_if run shows c d h a b result same x =
    subst (λ (e : Config). IfOk result (λ r. Brings run shows e h a r b)) same x
