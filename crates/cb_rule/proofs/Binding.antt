-- The holder of the lock writes no object of which its record has no entry, but new ones: the version
-- words of all others are their last complete versions.
use Rattle.std.proofs.Common.{◌≡◌, ◌⊎◌, ℕ, ◌<◌, ◌≤◌, Bool, true, false, cond, List, []}
use Rattle.std.proofs.Common.{◌∷◌, ◌++◌, set, sym, refl, ap, ◌∙◌, subst, inl, inr, ⊎_elim}
use Rattle.std.proofs.Common.{arith, get_or-set_other, get_or-set_same, eq-eqb}
use native.Mathlib.Decide.{ℕ_discrete}
use mathlib.Core.Option.{some, some-injective}
use lib.ListN.{get_elem?}
use Rattle.cb_types.specs.declared.config.Config.{Config}
use Rattle.cb_ptr.specs.declared.word.State.{State}
use Rattle.cb_ptr.specs.declared.word.State.TheVariants as word
use Rattle.cb_ptr.specs.Word.{state_of, len_of, place_of}
use Rattle.cb_world.specs.declared.entry.Entry.{Entry}
use Rattle.cb_world.specs.declared.access.Access.{Access}
use Rattle.cb_world.specs.declared.access.Access.TheVariants as ev
use Rattle.cb_world.specs.declared.object.Object.{Object}
use Rattle.cb_world.specs.declared.object.Object.TheVariants as is
use Rattle.cb_world.specs.declared.shown.Shown.{Shown}
use Rattle.cb_world.specs.LocalSound.{IsStamped}
use Rattle.cb_world.specs.Played.{after, settled_by}
use Rattle.cb_world.specs.Settling.{MayBring, MayFree, MaySettle, MaySettleAs, settled_words}
use Rattle.cb_world.specs.Shown.{never, object_at, version_at}
use Rattle.cb_world.specs.Written.{adds, adds_as, entry}
use Rattle.cb_rule.specs.declared.view.View.{View}
use Rattle.cb_rule.specs.Lists.{total, Each}
use Rattle.cb_rule.specs.Own.{AreBound, MayWrite, entries_on, held_on}
use Rattle.cb_rule.specs.Rule.{AreSized}
use Rattle.cb_rule.specs.Seats.{holding}
use Rattle.cb_rule.specs.Steps.{act, blank, joined, left_of, right_of}
use Rattle.cb_rule.proofs.Counts.{by_case, each_map, times-append, total-at, total-set, total-snoc}
use Rattle.cb_rule.proofs.Keeping.{held_one}
use Rattle.cb_rule.proofs.Members.{total_some}

-- a view that holds the lock as before, and has no fewer entries
pub held_more : (h : ℕ) (v w : View) → w.holds ≡ v.holds → entries_on h v ≤ entries_on h w
    → held_on h v ≤ held_on h w
held_more h v w same le =
    let e : held_on h w ≡ cond v.holds (entries_on h w) 0 =
    ap (λ (b : Bool). cond {A = ℕ} b (entries_on h w) 0) same in
    let all : cond {A = ℕ} v.holds (entries_on h v) 0 ≤ cond v.holds (entries_on h w) 0 = by_case
    (λ b. cond {A = ℕ} b (entries_on h v) 0 ≤ cond b (entries_on h w) 0) v.holds
    (λ _. le) (λ _. omega arith) in omega (arith, e, all)

-- no more than its entries
pub held_at_most : (h : ℕ) (v : View) → held_on h v ≤ entries_on h v
held_at_most h v = by_case (λ b. cond {A = ℕ} b (entries_on h v) 0 ≤ entries_on h v) v.holds
    (λ _. omega arith) (λ _. omega arith)

-- other views, of which the holder has no fewer entries
pub bound_by : (c : Config) (known : Shown) (views more : List View)
    → ((h : ℕ) → total (held_on h) views ≤ total (held_on h) more) → AreBound c known views
    → AreBound c known more
bound_by c known views more le b h l = ⊎_elim
    (λ (s : IsStamped (object_at known h) (version_at known h)). inl s)
    (λ (o : (object_at known h ≡ never) ⊎ (0 < total (held_on h) views)). inr (⊎_elim
    (λ (n : object_at known h ≡ never). inl n)
    (λ (t : 0 < total (held_on h) views). inr (let e = le h in omega (arith, t, e))) o)) (b h l)

pub bound_stays : (c : Config) (known : Shown) (views : List View) (id : ℕ) (v w : View)
    → get_elem? views id ≡ some v → w.holds ≡ v.holds
    → ((h : ℕ) → entries_on h v ≤ entries_on h w) → AreBound c known views
    → AreBound c known (set views id w)
bound_stays c known views id v w at same le = bound_by c known views (set views id w)
    (λ h. let sum = total-set (held_on h) views id v w at in
    let more = held_more h v w same (le h) in omega (arith, sum, more))

pub bound_split : (c : Config) (known : Shown) (views : List View) (id : ℕ) (v : View) (given : ℕ)
    → get_elem? views id ≡ some v → AreBound c known views
    → AreBound c known (set views id (left_of given v) ++ right_of given v ∷ [])
bound_split c known views id v given at = let left : View = left_of given v in
    let right : View = right_of given v in
    bound_by c known views (set views id left ++ right ∷ [])
    (λ h. let a = total-snoc (held_on h) (set views id left) right in
    let b = total-set (held_on h) views id v left at in omega (arith, a, b))

pub bound_joined : (c : Config) (known : Shown) (views : List View) (id : ℕ) (v : View)
    (other : ℕ) (w : View) → get_elem? views id ≡ some v
    → get_elem? (set views id (joined v w)) other ≡ some w → w.holds ≡ false
    → AreBound c known views
    → AreBound c known (set (set views id (joined v w)) other (blank c))
bound_joined c known views id v other w at there quiet = let both : View = joined v w in
    bound_by c known views (set (set views id both) other (blank c))
    (λ h. let a = total-set (held_on h) views id v both at in
    let b = total-set (held_on h) (set views id both) other w (blank c) there in
    let none : held_on h w ≡ 0 = ap (λ (q : Bool). cond {A = ℕ} q (entries_on h w) 0) quiet in
    let more = held_more h v both refl (sums h) in omega (arith, a, b, none, more))
  where
    sums : (h : ℕ) → entries_on h v ≤ entries_on h (joined v w)
    sums h = let e = times-append (Rattle.cb_rule.specs.Own.writes_it h) w.written v.written in
        let d = times-append (Rattle.cb_rule.specs.Own.writes_it h) w.fresh v.fresh in
        let f = times-append (Rattle.cb_rule.specs.Own.reads_it h) w.seen v.seen in
        omega (arith, e, d, f)

-- a version word is stored of an object that the holder may write
abbrev pub Stamps : Access → View → Type 0
Stamps (ev.Stamped h n) v = MayWrite h v.known v
Stamps _ v = Unit {0}

module _ (c : Config) (s : Shown) (views : List View) (z : AreSized c s)
    (b : AreBound c s views) where
  abbrev Bound : Shown → ℕ → Type 0
  Bound t h = IsStamped (object_at t h) (version_at t h)
      ⊎ ((object_at t h ≡ never) ⊎ (0 < total (held_on h) views))

  -- an object of which object and version word stay
  bound_else : (t : Shown) (h : ℕ) → h < c.handles → object_at t h ≡ object_at s h
      → version_at t h ≡ version_at s h → Bound t h
  bound_else t h l eo ev = subst (λ (o : Object). IsStamped o (version_at t h)
      ⊎ ((o ≡ never) ⊎ (0 < total (held_on h) views))) (sym eo)
      (subst (λ (n : ℕ). IsStamped (object_at s h) n
      ⊎ ((object_at s h ≡ never) ⊎ (0 < total (held_on h) views))) (sym ev) (b h l))

  bound_claimed : (h w v : ℕ) (words : List ℕ) → AreBound c (after (ev.Claimed h w v words) s) views
  bound_claimed h w v words k l = let t : Shown = after (ev.Claimed h w v words) s in
      let o : Object = is.Claimed (len_of w) (place_of w) v words in elim (ℕ_discrete k h) [
        | yes e ↦ subst (λ (j : ℕ). Bound t j) (sym e)
            (let below : h < c.handles = subst (λ (j : ℕ). j < c.handles) e l in
            let is_it : object_at t h ≡ o = get_or-set_same s.objects h o never
            (let a = z.objects in omega (arith, a, below)) in
            let is_v : version_at t h ≡ v = get_or-set_same s.versions h v 0
            (let a = z.versions in omega (arith, a, below)) in
            inl (subst (λ (q : Object). IsStamped q (version_at t h)) (sym is_it) is_v))
        | no ne ↦ bound_else t k l (get_or-set_other s.objects h k o never ne)
            (get_or-set_other s.versions h k v 0 ne)
      ]

  bound_stamped : (h n : ℕ) → (object_at s h ≡ never) ⊎ (0 < total (held_on h) views)
      → AreBound c (after (ev.Stamped h n) s) views
  bound_stamped h n may k l = let t : Shown = after (ev.Stamped h n) s in elim (ℕ_discrete k h) [
    | yes e ↦ subst (λ (j : ℕ). Bound t j) (sym e) (inr may)
    | no ne ↦ bound_else t k l refl (get_or-set_other s.versions h k n 0 ne)
  ]

  -- one that is settled has its version word
  bound_settled : (h w : ℕ) → AreBound c (after (ev.Settled h w) s) views
  bound_settled h w k l = let t : Shown = after (ev.Settled h w) s in
      let o : Object = settled_by (state_of w) w (version_at s h) (object_at s h) in
      elim (ℕ_discrete k h) [
        | yes e ↦ subst (λ (j : ℕ). Bound t j) (sym e)
            (let below : h < c.handles = subst (λ (j : ℕ). j < c.handles) e l in
            let is_it : object_at t h ≡ o = get_or-set_same s.objects h o never
            (let a = z.objects in omega (arith, a, below)) in
            subst (λ (q : Object). IsStamped q (version_at s h)
            ⊎ ((q ≡ never) ⊎ (0 < total (held_on h) views))) (sym is_it)
            (by_state (state_of w) (object_at s h) (b h below)))
        | no ne ↦ bound_else t k l (get_or-set_other s.objects h k o never ne) refl
      ]
    where
      by_state : (st : State) (o : Object) → IsStamped o (version_at s h)
          ⊎ ((o ≡ never) ⊎ (0 < total (held_on h) views))
          → IsStamped (settled_by st w (version_at s h) o) (version_at s h)
          ⊎ ((settled_by st w (version_at s h) o ≡ never) ⊎ (0 < total (held_on h) views))
      by_state word.Empty o k = inl refl
      by_state word.Far (is.Empty v) k = inl refl
      by_state word.Far (is.Far n v words) k = inl refl
      by_state word.Far (is.Here n place) k = inl refl
      by_state word.Far (is.Claimed n place v words) k = inl refl
      by_state word.Here o k = inl tt
      by_state word.Moving o k = k

  pub bound_after : (e : Access)
      → ((h n : ℕ) → e ≡ ev.Stamped h n → (object_at s h ≡ never) ⊎ (0 < total (held_on h) views))
      → AreBound c (after e s) views
  bound_after (ev.Looked h w) may = b
  bound_after (ev.Claimed h w v words) may = bound_claimed h w v words
  bound_after (ev.Told h v) may = b
  bound_after (ev.Loaded p x) may = b
  bound_after (ev.Stored p x) may = b
  bound_after (ev.Stamped h n) may = bound_stamped h n (may h n refl)
  bound_after (ev.Settled h w) may = bound_settled h w

-- the holder of the lock has no fewer entries after an event
pub entries_acted : (h : ℕ) (e : Access) (v : View) → entries_on h v ≤ entries_on h (act e v)
entries_acted h e v = let all = times-append (Rattle.cb_rule.specs.Own.writes_it h)
    (adds e v.known) v.fresh in omega (arith, all)

-- a step of the holder, which stores the version words of objects that it may write
pub bound_acted : (c : Config) (views : List View) (id : ℕ) (v : View) → get_elem? views id ≡ some v
    → v.holds ≡ true → AreSized c v.known → (e : Access) → Stamps e v → AreBound c v.known views
    → AreBound c (after e v.known) (set views id (act e v))
bound_acted c views id v at holds sized e stamps b =
    bound_after c v.known (set views id w) sized
    (bound_stays c v.known views id v w at refl (λ h. entries_acted h e v) b) e
    (λ h n is. may h (subst (λ (x : Access). Stamps x v) is stamps))
  where
    w : View
    w = act e v

    may : (h : ℕ) → MayWrite h v.known v
        → (object_at v.known h ≡ never) ⊎ (0 < total (held_on h) (set views id w))
    may h m = ⊎_elim
        (λ (some_of : 0 < entries_on h v). inr (let sum = total-set (held_on h) views id v w at in
        let le = total-at (held_on h) views id v at in
        let more = held_more h v w refl (entries_acted h e v) in
        let all : held_on h v ≡ entries_on h v =
        ap (λ (q : Bool). cond {A = ℕ} q (entries_on h v) 0) holds in
        omega (arith, some_of, sum, le, more, all)))
        (λ (n : object_at v.known h ≡ never). inl n) m

-- to settle an object whose version word is its last complete version writes nothing
no_adds : (st : State) (s : Shown) (h w : ℕ) → 1 ≤ s.first → MaySettleAs st s h w
    → IsStamped (object_at s h) (version_at s h) → adds_as st s h w (object_at s h) ≡ []
no_adds word.Empty s h w pos may is_stamped = freed (object_at s h) may.1 is_stamped
  where
    freed : (o : Object) → MayFree s h o → IsStamped o (version_at s h)
        → adds_as word.Empty s h w o ≡ []
    freed (is.Empty v) m k = refl
    freed (is.Far n v words) m k = absurd (omega (arith, m, k))
    freed (is.Here n place) m k = refl
    freed (is.Claimed n place v words) m k = absurd (omega (arith, m, k))
no_adds word.Far s h w pos may is_stamped = refl
no_adds word.Here s h w pos may is_stamped = brought (object_at s h) may.3 is_stamped
  where
    brought : (o : Object) → MayBring s h w o → IsStamped o (version_at s h)
        → adds_as word.Here s h w o ≡ []
    brought (is.Empty v) m k = absurd (let a = m.0 in let b = m.1 in omega (arith, a, b, k, pos))
    brought (is.Far n v words) m k = ap (λ (q : Bool). cond q [] (entry h (version_at s h) (len_of w)
        words (settled_words s w) ∷ [])) (eq-eqb (version_at s h) v k)
    brought (is.Here n place) m k = refl
    brought (is.Claimed n place v words) m k = ap (λ (q : Bool). cond q [] (entry h (version_at s h)
        (len_of w) words (settled_words s w) ∷ [])) (eq-eqb (version_at s h) v k)
no_adds word.Moving s h w pos may is_stamped = refl

-- what it writes is an entry of the object
adds_it : (st : State) (s : Shown) (h w : ℕ) (o : Object)
    → Each (λ (x : Entry). x.handle ≡ h) (adds_as st s h w o)
adds_it word.Empty s h w (is.Empty v) = tt
adds_it word.Empty s h w (is.Far n v words) = (refl, tt)
adds_it word.Empty s h w (is.Here n place) = tt
adds_it word.Empty s h w (is.Claimed n place v words) = (refl, tt)
adds_it word.Far s h w o = tt
adds_it word.Here s h w (is.Empty v) = (refl, tt)
adds_it word.Here s h w (is.Far n v words) = by_case (λ q. Each (λ (x : Entry). x.handle ≡ h)
    (cond q [] (entry h (version_at s h) (len_of w) words (settled_words s w) ∷ [])))
    (Rattle.std.proofs.Common.eqb (version_at s h) v) (λ _. tt) (λ _. (refl, tt))
adds_it word.Here s h w (is.Here n place) = tt
adds_it word.Here s h w (is.Claimed n place v words) = by_case (λ q. Each (λ (x : Entry). x.handle ≡ h)
    (cond q [] (entry h (version_at s h) (len_of w) words (settled_words s w) ∷ [])))
    (Rattle.std.proofs.Common.eqb (version_at s h) v) (λ _. tt) (λ _. (refl, tt))
adds_it word.Moving s h w o = tt

-- the holder settles: what it writes is what it may write
pub settles_within : (c : Config) (views : List View) (id : ℕ) (v : View)
    → get_elem? views id ≡ some v → v.holds ≡ true → total holding views ≤ 1 → 1 ≤ v.known.first
    → AreBound c v.known views → (h w : ℕ) → h < c.handles → MaySettle v.known h w
    → Each (λ (x : Entry). MayWrite x.handle v.known v) (adds (ev.Settled h w) v.known)
settles_within c views id v at holds one pos b h w l may = ⊎_elim
    (λ (k : IsStamped (object_at v.known h) (version_at v.known h)).
    subst (Each (λ (x : Entry). MayWrite x.handle v.known v))
    (sym (no_adds (state_of w) v.known h w pos may k)) tt)
    (λ (o : (object_at v.known h ≡ never) ⊎ (0 < total (held_on h) views)). all (⊎_elim
    (λ (n : object_at v.known h ≡ never). inr n)
    (λ (t : 0 < total (held_on h) views). inl (mine t)) o)) (b h l)
  where
    all : MayWrite h v.known v
        → Each (λ (x : Entry). MayWrite x.handle v.known v) (adds (ev.Settled h w) v.known)
    all m = each_map (λ (x : Entry). x.handle ≡ h) (λ (x : Entry). MayWrite x.handle v.known v)
        (adds (ev.Settled h w) v.known)
        (λ x same. subst (λ (q : ℕ). MayWrite q v.known v) (sym same) m)
        (adds_it (state_of w) v.known h w (object_at v.known h))

    -- no other view holds the lock
    mine : 0 < total (held_on h) views → 0 < entries_on h v
    mine t = let seat = total_some (held_on h) views (omega (arith, t)) in
        his seat.0 seat.1 seat.2 seat.3
      where
        his : (j : ℕ) (u : View) → get_elem? views j ≡ some u → 1 ≤ held_on h u
            → 0 < entries_on h v
        his j u there some_of = by_case (λ q. u.holds ≡ q → 0 < entries_on h v) u.holds
            (λ yes_holds _. elim (ℕ_discrete j id) [
              | yes e ↦ let same : u ≡ v = some-injective u v
                  (sym there ∙ ap (get_elem? views) e ∙ at) in
                  let n : held_on h u ≡ entries_on h v =
                  ap (λ (q : Bool). cond {A = ℕ} q (entries_on h u) 0) yes_holds
                  ∙ ap (entries_on h) same in omega (arith, some_of, n)
              | no ne ↦ absurd (held_one views id j v u ne at there holds one yes_holds)
            ])
            (λ off _. absurd (let n : held_on h u ≡ 0 =
            ap (λ (q : Bool). cond {A = ℕ} q (entries_on h u) 0) off in omega (arith, some_of, n))) refl
