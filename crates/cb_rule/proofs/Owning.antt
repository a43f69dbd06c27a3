-- A step leaves each view its own objects.
use Rattle.std.proofs.Common.{◌≡◌, ◌≢◌, ◌⊎◌, ℕ, zero, suc, ◌+◌, ◌<◌, ◌≤◌, ◌&&◌, Bool, true, false}
use Rattle.std.proofs.Common.{cond, eqb, List, [], ◌∷◌, ◌++◌, map, set, sym, refl, ap, ◌∙◌, subst}
use Rattle.std.proofs.Common.{inl, inr, ⊎_elim, arith, eq-eqb, eqb-true, true≢false}
use mathlib.Core.Option.{some, some-injective, some-ne-none}
use lib.ListN.{get_elem?}
use Rattle.cb_types.specs.declared.config.Config.{Config}
use Rattle.cb_world.specs.declared.entry.Entry.{Entry}
use Rattle.cb_world.specs.declared.access.Access.{Access}
use Rattle.cb_world.specs.declared.object.Object.{Object}
use Rattle.cb_world.specs.declared.object.Object.TheVariants as is
use Rattle.cb_world.specs.declared.shown.Shown.{Shown}
use Rattle.cb_world.specs.Shown.{never, object_at, version_at}
use Rattle.cb_world.specs.Written.{adds}
use Rattle.cb_rule.specs.declared.view.Held.{Held}
use Rattle.cb_rule.specs.declared.view.Look.{Look}
use Rattle.cb_rule.specs.declared.view.Peeked.{Peeked}
use Rattle.cb_rule.specs.declared.view.Seen.{Seen}
use Rattle.cb_rule.specs.declared.view.View.{View}
use Rattle.cb_rule.specs.History.{IsChanged, IsEntryHistory, IsMadeEntry, is_version, newest}
use Rattle.cb_rule.specs.History.{no_value, top}
use Rattle.cb_rule.specs.Lists.{times, total, removed, Each, Has}
use Rattle.cb_rule.specs.Own.{AreOwn, IsOwn, Make, MayWrite, entries_on, reads_it, traces}
use Rattle.cb_rule.specs.Own.{writes_it}
use Rattle.cb_rule.specs.Records.{SeenOk, seen_of}
use Rattle.cb_rule.specs.Rule.{RuleKept}
use Rattle.cb_rule.specs.Seats.{claims_it, claims_on, pins_it, pins_on}
use Rattle.cb_rule.specs.Stands.{Stands}
use Rattle.cb_rule.specs.Steps.{Knows, act, blank, joined, left_of, right_of, with_back, with_claim}
use Rattle.cb_rule.specs.Steps.{with_freed_seen, with_held, with_pin, with_version, without_pin}
use Rattle.cb_rule.proofs.Counts.{by_case, times-append, times-edited, total-at}
use Rattle.cb_rule.proofs.Histories.{begun, entry_within, rises}
use Rattle.cb_rule.proofs.Keeping.{lt_or_le, seats_stay}
use Rattle.cb_rule.proofs.Members.{at_snoc, each_has, has_times, times_has}

pub has_either : {A : Type 0} (x : A) (xs ys : List A) → Has x (xs ++ ys) → Has x xs ⊎ Has x ys
has_either x [] ys h = inr h
has_either x (y ∷ xs) ys h = ⊎_elim (λ (e : y ≡ x). inl (inl e))
    (λ (r : Has x (xs ++ ys)). ⊎_elim (λ (a : Has x xs). inl (inr a)) (λ (b : Has x ys). inr b)
    (has_either x xs ys r)) h

-- an entry of a version is one of the object
pub version_of : (h k : ℕ) (es : List Entry) → times (is_version h k) es ≤ times (writes_it h) es
version_of h k [] = omega arith
version_of h k (e ∷ es) = let rest = version_of h k es in by_case
    (λ b. cond (b && eqb e.version k) 1 0 + times (is_version h k) es
    ≤ cond b 1 0 + times (writes_it h) es) (eqb e.handle h)
    (λ _. by_case (λ q. cond q 1 0 + times (is_version h k) es ≤ 1 + times (writes_it h) es)
    (eqb e.version k) (λ _. omega (arith, rest)) (λ _. omega (arith, rest)))
    (λ _. omega (arith, rest))

-- entries as read are of the objects of which they are
pub seen_times : (h : ℕ) (es : List Entry)
    → times (reads_it h) (map seen_of es) ≡ times (writes_it h) es
seen_times h [] = refl
seen_times h (e ∷ es) = ap (λ (n : ℕ). cond (eqb e.handle h) 1 0 + n) (seen_times h es)

-- a record has an entry of what it knows
pub known_entries : (h : ℕ) (v : View) → Knows h v → 0 < entries_on h v
known_entries h v knows = ⊎_elim
    (λ (k : (e : Entry) × Has e v.written × (e.handle ≡ h)).
    let n = times_has (writes_it h) k.0 v.written k.1 (eq-eqb k.0.handle h k.2) in omega (arith, n))
    (λ (k : (s : Seen) × Has s v.seen × (s.handle ≡ h)).
    let n = times_has (reads_it h) k.0 v.seen k.1 (eq-eqb k.0.handle h k.2) in omega (arith, n))
    knows

-- and so something
pub known_traces : (h : ℕ) (v : View) → Knows h v → 0 < traces h v
known_traces h v knows = let n = known_entries h v knows in omega (arith, n)

-- of what is its own a record has an entry
own_entries : (first h : ℕ) (u : View) → (Has h u.own → Make first h u.written) → IsOwn first h u
    → 0 < entries_on h u
own_entries first h u made own = ⊎_elim
    (λ (has : Has h u.own). let m = made has in let le = version_of h first u.written in
    omega (arith, m, le))
    (λ (m : Make first h u.fresh). let le = version_of h first u.fresh in omega (arith, m, le)) own

-- of which there is nothing is another object
pub not_it : (h k : ℕ) (v : View) → 0 < traces h v → traces k v ≡ 0
    → cond {A = ℕ} (eqb h k) 1 0 ≡ 0
not_it h k v some_of none = by_case (λ b. cond {A = ℕ} b 1 0 ≡ 0) (eqb h k)
    (λ is. absurd (let same : traces h v ≡ traces k v =
    ap (λ (j : ℕ). traces j v) (eqb-true h k is) in omega (arith, same, some_of, none)))
    (λ _. refl)

pub both_true : (a b : Bool) → (a && b) ≡ true → (a ≡ true) × (b ≡ true)
both_true true b e = (refl, e)
both_true false b e = absurd (true≢false (sym e))

-- where nothing of the list passes the test
none_of : {A : Type 0} (t : A → Bool) (xs : List A) → ((x : A) → Has x xs → t x ≡ true → ⊥)
    → times t xs ≡ 0
none_of t xs f = ⊎_elim
    (λ (some_of : 0 < times t xs). let x = has_times t xs (omega (arith, some_of)) in
    absurd (f x.0 x.1 x.2))
    (λ (le : times t xs ≤ 0). omega (arith, le)) (lt_or_le 0 (times t xs))

-- a list without an element counts no more
fewer : {A : Type 0} (t t' : A → Bool) (xs : List A) → times t (removed t' xs) ≤ times t xs
fewer t t' [] = omega arith
fewer t t' (x ∷ xs) = let rest = fewer t t' xs in by_case
    (λ b. times t (cond b xs (x ∷ removed t' xs)) ≤ cond (t x) 1 0 + times t xs) (t' x)
    (λ _. omega arith) (λ _. omega (arith, rest))

-- what a step of any seat leaves of its view, so that its own objects stay and none comes to it
pub record KeepsOwned (v w : View) : Type 0 where
  pub own : w.own ≡ v.own
  pub fresh : w.fresh ≡ v.fresh
  pub holds : w.holds ≡ v.holds
  pub wrote : (h k : ℕ) → times (is_version h k) v.written ≤ times (is_version h k) w.written
  pub more : (h : ℕ) → entries_on h v ≤ entries_on h w
  pub none : (h : ℕ) → traces h v ≡ 0 → traces h w ≡ 0

-- a step that leaves what was written, and lets nothing come of an object of which there is nothing
pub keeps_by : (v w : View) → w.own ≡ v.own → w.fresh ≡ v.fresh → w.holds ≡ v.holds
    → w.written ≡ v.written
    → ((h : ℕ) → times (reads_it h) v.seen ≤ times (reads_it h) w.seen)
    → ((h : ℕ) → traces h v ≡ 0 → traces h w ≡ 0) → KeepsOwned v w
keeps_by v w own fresh holds written read none = record {
  own = own;
  fresh = fresh;
  holds = holds;
  wrote = λ h k. let e = ap (times (is_version h k)) written in omega (arith, e);
  more = λ h. let a = ap (times (writes_it h)) fresh in let b = ap (times (writes_it h)) written in
      let c = read h in omega (arith, a, b, c);
  none = none;
}

-- a look or a word that was peeked is no trace
pub keeps_all : (v : View) (looks : List Look) (peeked : List Peeked)
    → KeepsOwned v (record v { looks = looks; peeked = peeked })
keeps_all v looks peeked = keeps_by v (record v { looks = looks; peeked = peeked }) refl refl refl
    refl (λ h. omega arith) (λ h none. none)

-- an object that is known is pinned, claimed or found freed
module _ (h : ℕ) (v : View) (knows : 0 < traces h v) where
  pub keeps_pin : (w version : ℕ) (words : List ℕ) → KeepsOwned v (with_pin h w version words v)
  keeps_pin w version words = keeps_by v (with_pin h w version words v) refl refl refl refl
      (λ k. omega arith) (λ k none. let out = not_it h k v knows none in omega (arith, none, out))

  pub keeps_claim : (w version : ℕ) (words : List ℕ) → KeepsOwned v (with_claim h w version words v)
  keeps_claim w version words = keeps_by v (with_claim h w version words v) refl refl refl refl
      (λ k. omega arith) (λ k none. let out = not_it h k v knows none in omega (arith, none, out))

  pub keeps_freed : (version w : ℕ) → KeepsOwned v (with_freed_seen h version w v)
  keeps_freed version w = keeps_by v (with_freed_seen h version w v) refl refl refl refl
      (λ k. omega arith) (λ k none. let out = not_it h k v knows none in omega (arith, none, out))

-- a pin is given back
pub keeps_unpin : (h : ℕ) (v : View) → KeepsOwned v (without_pin h v)
keeps_unpin h v = keeps_by v (without_pin h v) refl refl refl refl
    (λ k. omega arith) (λ k none. let le = fewer (pins_it k) (pins_it h) v.pins in omega (arith, none, le))

-- a claim is changed
pub keeps_held : (h : ℕ) (f : Held → Held) (v : View) → ((x : Held) → (f x).handle ≡ x.handle)
    → KeepsOwned v (with_held h f v)
keeps_held h f v same = keeps_by v (with_held h f v) refl refl refl refl
    (λ k. omega arith) (λ k none. let e = times-edited (claims_it h) (claims_it k) f v.claims
    (λ x. ap (λ (j : ℕ). eqb j k) (same x)) in omega (arith, none, e))

-- and given up, with what was claimed as read
pub keeps_back : (x : Held) (v : View) → Has x v.claims → KeepsOwned v (with_back x v)
keeps_back x v has = let one = times_has (claims_it x.handle) x v.claims has
    (eq-eqb x.handle x.handle refl) in
    keeps_by v (with_back x v) refl refl refl refl (λ k. omega arith)
    (λ k none. let out = not_it x.handle k v (omega (arith, one)) none in
    let le = fewer (claims_it k) (claims_it x.handle) v.claims in omega (arith, none, le, out))

-- with an entry more of the claimed object
pub keeps_version : (x : Held) (v : View) → Has x v.claims → KeepsOwned v (with_version x v)
keeps_version x v has = let one = times_has (claims_it x.handle) x v.claims has
    (eq-eqb x.handle x.handle refl) in record {
      own = refl;
      fresh = refl;
      holds = refl;
      wrote = λ h k. omega arith;
      more = λ h. omega arith;
      none = λ k none. let out = not_it x.handle k v (omega (arith, one)) none in
          let le = fewer (claims_it k) (claims_it x.handle) v.claims in omega (arith, none, le, out);
    }

module _ (first : ℕ) (views : List View) (id : ℕ) (v : View) (at : get_elem? views id ≡ some v)
    (r : AreOwn first views) where
  -- a view that is changed: it made its own objects, no other has anything of them, and it has
  -- nothing of those of others
  pub own_stays : (w : View) → ((h : ℕ) → Has h w.own → Make first h w.written)
      → ((j : ℕ) (u : View) → j ≢ id → get_elem? views j ≡ some u → (h : ℕ) → IsOwn first h w
      → traces h u ≡ 0)
      → ((j : ℕ) (u : View) → j ≢ id → get_elem? views j ≡ some u → (h : ℕ) → IsOwn first h u
      → traces h w ≡ 0)
      → (w.holds ≡ false → w.fresh ≡ []) → AreOwn first (set views id w)
  own_stays w made mine theirs idle = record {
    made = seats_stay (λ _ u. (h : ℕ) → Has h u.own → Make first h u.written) views id w made
        (λ j u _ there. r.made j u there);
    alone = seats_stay (λ i u. (j : ℕ) (x : View) → get_elem? (set views id w) j ≡ some x → j ≢ i
        → (h : ℕ) → IsOwn first h u → traces h x ≡ 0) views id w
        (seats_stay (λ j x. j ≢ id → (h : ℕ) → IsOwn first h w → traces h x ≡ 0) views id w
        (λ ne. absurd (ne refl)) (λ j x ne there _. mine j x ne there))
        (λ i u ne there. seats_stay (λ j x. j ≢ i → (h : ℕ) → IsOwn first h u → traces h x ≡ 0)
        views id w (λ _. theirs i u ne there) (λ j x _ t. r.alone i u there j x t));
    idle = seats_stay (λ _ u. u.holds ≡ false → u.fresh ≡ []) views id w idle
        (λ j u _ there. r.idle j u there);
  }

  pub own_kept : (w : View) → KeepsOwned v w → AreOwn first (set views id w)
  own_kept w k = own_stays w
      (λ h has. let a = r.made id v at h (subst (Has h) k.own has) in let b = k.wrote h first in
      omega (arith, a, b))
      (λ j u ne there h own. r.alone id v at j u there ne h (⊎_elim
      (λ (has : Has h w.own). inl (subst (Has h) k.own has))
      (λ (m : Make first h w.fresh). inr (subst (Make first h) k.fresh m)) own))
      (λ j u ne there h own. k.none h (r.alone j u there id v at (λ e. ne (sym e)) h own))
      (λ off. k.fresh ∙ r.idle id v at (sym k.holds ∙ off))

  -- the turn is ended: what it wrote stands in the record, and what it made is the view's own
  pub own_given : (w : View) (made : List ℕ) → w.fresh ≡ [] → w.written ≡ v.fresh ++ v.written
      → w.own ≡ made ++ v.own → Each (λ h. Make first h v.fresh) made
      → ((h : ℕ) → traces h v ≡ 0 → traces h w ≡ 0) → AreOwn first (set views id w)
  own_given w made fresh written own makes none = own_stays w
      (λ h has. let all = times-append (is_version h first) v.fresh v.written in
      subst (Make first h) (sym written) (⊎_elim
      (λ (m : Make first h v.fresh). omega (arith, m, all))
      (λ (o : Has h v.own). let m = r.made id v at h o in omega (arith, m, all)) (which h has)))
      (λ j u ne there h is_own. r.alone id v at j u there ne h (⊎_elim
      (λ (has : Has h w.own). ⊎_elim (λ (m : Make first h v.fresh). inr m)
      (λ (o : Has h v.own). inl o) (which h has))
      (λ (m : Make first h w.fresh). absurd (nothing h (subst (Make first h) fresh m))) is_own))
      (λ j u ne there h is_own. none h (r.alone j u there id v at (λ e. ne (sym e)) h is_own))
      (λ _. fresh)
    where
      which : (h : ℕ) → Has h w.own → Make first h v.fresh ⊎ Has h v.own
      which h has = ⊎_elim
          (λ (m : Has h made). inl (each_has (λ k. Make first k v.fresh) h made makes m))
          (λ (o : Has h v.own). inr o) (has_either h made v.own (subst (Has h) own has))

      nothing : (h : ℕ) → Make first h [] → ⊥
      nothing h m = omega (arith, m)

module _ (c : Config) (ws : List ℕ) (views : List View) (known : Shown) (es : List Entry)
    (r : RuleKept c ws views known es) where
  -- of an object that was never made no record has anything
  pub never_seen : (j : ℕ) (u : View) → get_elem? views j ≡ some u → (h : ℕ) → h < c.handles
      → top es h ≡ 0 → traces h u ≡ 0
  never_seen j u there h l never = let wrote = none_of (writes_it h) u.written
      (λ e has is. of_entry e (each_has (λ x. Has x es) e u.written ok.written has)
      (eqb-true e.handle h is)) in
      let writes = none_of (writes_it h) u.fresh
      (λ e has is. of_entry e (each_has (λ x. Has x es) e u.fresh ok.fresh has)
      (eqb-true e.handle h is)) in
      let read = none_of (reads_it h) u.seen (λ s has is.
      let o = each_has (SeenOk es) s u.seen ok.seen has in
      of_entry o.0 o.1 (ap (λ (x : Seen). x.handle) (sym o.2) ∙ eqb-true s.handle h is)) in
      let held = go (object_at known h) (r.stand h l) in
      let pins = total-at (pins_on h) views j u there in
      let claims = total-at (claims_on h) views j u there in
      let a = held.0 in let b = held.1 in omega (arith, wrote, writes, read, a, b, pins, claims)
    where
      ok : Rattle.cb_rule.specs.Records.RecordOk c known.first es u
      ok = (r.seats j u there).lasting

      of_entry : (e : Entry) → Has e es → e.handle ≡ h → ⊥
      of_entry e has same = let z = entry_within known.first r.begins e es r.history has in
          let low = z.0 in let high = z.1 in let b = r.begins in
          let t : top es e.handle ≡ top es h = ap (top es) same in
          omega (arith, low, high, b, t, never)

      go : (o : Object)
          → Stands c known.first ws h (total (pins_on h) views) (total (claims_on h) views)
          (top es h) (newest es h) (version_at known h) o
          → (total (pins_on h) views ≡ 0) × (total (claims_on h) views ≡ 0)
      go (is.Empty v) k = (k.no_pins, k.no_claims)
      go (is.Far len v words) k = (k.kept.no_pins, k.kept.no_claims)
      go (is.Here len place) k = absurd (let a = k.born in let b = r.begins in
          omega (arith, a, b, never))
      go (is.Claimed len place v words) k = (k.kept.no_pins, k.kept.no_claims)

  -- no record has anything of one that is known as never made
  pub never_made : (j : ℕ) (u : View) → get_elem? views j ≡ some u → (h : ℕ) → h < c.handles
      → object_at known h ≡ never → traces h u ≡ 0
  never_made j u there h l is_never = let k = subst (Stands c known.first ws h
      (total (pins_on h) views) (total (claims_on h) views) (top es h) (newest es h)
      (version_at known h)) is_never (r.stand h l) in never_seen j u there h l k.at

-- what comes at the first version had no entry before
pub never_before : (first : ℕ) → 1 ≤ first → (more es : List Entry)
    → IsEntryHistory first (more ++ es)
    → (e : Entry) → Has e more → e.version ≡ first → top es e.handle ≡ 0
never_before first pos [] es k e has make = absurd has
never_before first pos (x ∷ more) es k e has make = ⊎_elim
    (λ (is : x ≡ e). subst (λ (y : Entry). y.version ≡ first → top es y.handle ≡ 0) is
    (λ at_first. let low = lower more k.1 x.handle in let z = of_make at_first in
    omega (arith, low, z)) make)
    (λ (later : Has e more). never_before first pos more es k.1 e later make) has
  where
    lower : (ys : List Entry) → IsEntryHistory first (ys ++ es) → (h : ℕ)
        → top es h ≤ top (ys ++ es) h
    lower [] k h = omega arith
    lower (y ∷ ys) k h = let a = lower ys k.1 h in let b = rises first pos y (ys ++ es) h k in
        omega (arith, a, b)

    of_make : x.version ≡ first → top (more ++ es) x.handle ≡ 0
    of_make at_first = ⊎_elim (λ (m : IsMadeEntry first (top (more ++ es) x.handle) x). m.never)
        (λ (m : IsChanged (top (more ++ es) x.handle) (newest (more ++ es) x.handle) x). ⊎_elim
        (λ (none : (top (more ++ es) x.handle ≡ 0) × (newest (more ++ es) x.handle ≡ no_value)).
        none.0)
        (λ (some_of : first ≤ top (more ++ es) x.handle). absurd (let n = m.number in
        omega (arith, n, at_first, some_of)))
        (begun first pos (more ++ es) x.handle k.1)) k.0

-- A step of the holder, which writes what it may: what it makes was never made before.
pub own_acted : (first : ℕ) (c : Config) (ws : List ℕ) (views : List View) (id : ℕ) (v : View)
    → get_elem? views id ≡ some v → AreOwn first views → (e : Access) (es : List Entry)
    → RuleKept c ws views v.known es → v.holds ≡ true → first ≡ v.known.first
    → IsEntryHistory v.known.first (adds e v.known ++ es)
    → Each (λ (x : Entry). x.handle < c.handles) (adds e v.known)
    → Each (λ (x : Entry). MayWrite x.handle v.known v) (adds e v.known)
    → AreOwn first (set views id (act e v))
own_acted first c ws views id v at r e es k holds starts follows within may =
    own_stays first views id v at r (act e v) (r.made id v at)
    (λ j u ne there h own. ⊎_elim (λ (has : Has h v.own). r.alone id v at j u there ne h (inl has))
    (λ (m : Make first h (more ++ v.fresh)). let all = times-append (is_version h first) more v.fresh in
    ⊎_elim (λ (some_of : 0 < times (is_version h first) more). new j u there h some_of)
    (λ (le : times (is_version h first) more ≤ 0).
    r.alone id v at j u there ne h (inr (omega (arith, m, all, le))))
    (lt_or_le 0 (times (is_version h first) more))) own)
    (λ j u ne there h own. let none = r.alone j u there id v at (λ q. ne (sym q)) h own in
    let wrote = not_theirs j u there h own none in
    let all = times-append (writes_it h) more v.fresh in omega (arith, none, wrote, all))
    (λ off. absurd (true≢false (sym holds ∙ off)))
  where
    more : List Entry
    more = adds e v.known

    not_theirs : (j : ℕ) (u : View) → get_elem? views j ≡ some u → (h : ℕ) → IsOwn first h u
        → traces h v ≡ 0 → times (writes_it h) more ≡ 0
    not_theirs j u there h own none = none_of (writes_it h) more
        (λ x has is. let same = eqb-true x.handle h is in ⊎_elim
        (λ (some_of : 0 < entries_on x.handle v).
        let t : entries_on x.handle v ≡ entries_on h v = ap (λ (q : ℕ). entries_on q v) same in
        omega (arith, some_of, t, none))
        (λ (is_never : object_at v.known x.handle ≡ never).
        let z = never_made c ws views v.known es k j u there x.handle
        (each_has (λ (y : Entry). y.handle < c.handles) x more within has) is_never in
        let t : traces x.handle u ≡ traces h u = ap (λ (q : ℕ). traces q u) same in
        let some_of = own_entries first h u (r.made j u there h) own in
        omega (arith, z, t, some_of))
        (each_has (λ (y : Entry). MayWrite y.handle v.known v) x more may has))

    new : (j : ℕ) (u : View) → get_elem? views j ≡ some u → (h : ℕ)
        → 0 < times (is_version h first) more → traces h u ≡ 0
    new j u there h some_of = let x = has_times (is_version h first) more (omega (arith, some_of)) in
        let named = both_true (eqb x.0.handle h) (eqb x.0.version first) x.2 in
        let same = eqb-true x.0.handle h named.0 in
        subst (λ (q : ℕ). traces q u ≡ 0) same
        (never_seen c ws views v.known es k j u there x.0.handle
        (each_has (λ (y : Entry). y.handle < c.handles) x.0 more within x.1)
        (never_before v.known.first k.begins more es follows x.0 x.1
        (eqb-true x.0.version first named.1 ∙ starts)))

-- one view alone, which has no own object
pub own_one : (first : ℕ) (v : View) → v.own ≡ [] → v.fresh ≡ [] → AreOwn first (v ∷ [])
own_one first v own fresh = record {
  made = λ j u there h has. absurd (subst (Has h) (only j u there (λ x. x.own ≡ []) own) has);
  alone = λ i u here j w there ne h is_own. absurd (⊎_elim
      (λ (has : Has h u.own). subst (Has h) (only i u here (λ x. x.own ≡ []) own) has)
      (λ (m : Make first h u.fresh). nothing h
      (subst (Make first h) (only i u here (λ x. x.fresh ≡ []) fresh) m)) is_own);
  idle = λ j u there off. only j u there (λ x. x.fresh ≡ []) fresh;
}
  where
    only : (j : ℕ) (u : View) → get_elem? (v ∷ []) j ≡ some u → (P : View → Type 0) → P v → P u
    only zero u e P p = subst P (some-injective v u e) p
    only (suc j) u e P p = absurd (some-ne-none u (sym e))

    nothing : (h : ℕ) → Make first h [] → ⊥
    nothing h m = omega (arith, m)

-- A seat is split: neither has own objects, and the new one has read what the other had.
pub own_split : (first : ℕ) (views : List View) (id : ℕ) (v : View) (given : ℕ)
    → get_elem? views id ≡ some v → v.fresh ≡ [] → AreOwn first views
    → AreOwn first (set views id (left_of given v) ++ right_of given v ∷ [])
own_split first views id v given at fresh r = record {
  made = λ j u there h has. ⊎_elim
      (λ (t : get_elem? (set views id left) j ≡ some u). base.made j u t h has)
      (λ (t : right ≡ u). absurd (subst (λ (x : View). Has h x.own) (sym t) has))
      (at_snoc (set views id left) right u j there);
  alone = λ i u here j x there ne h own. ⊎_elim
      (λ (t : get_elem? (set views id left) i ≡ some u). ⊎_elim
      (λ (q : get_elem? (set views id left) j ≡ some x). base.alone i u t j x q ne h own)
      (λ (q : right ≡ x). subst (λ (y : View). traces h y ≡ 0) q
      (new i u t h own)) (at_snoc (set views id left) right x j there))
      (λ (t : right ≡ u). absurd (⊎_elim (λ (has : Has h right.own). has)
      (λ (m : Make first h right.fresh). nothing h m)
      (subst (IsOwn first h) (sym t) own)))
      (at_snoc (set views id left) right u i here);
  idle = λ j u there off. ⊎_elim
      (λ (t : get_elem? (set views id left) j ≡ some u). base.idle j u t off)
      (λ (t : right ≡ u). subst (λ (x : View). x.fresh ≡ []) t refl)
      (at_snoc (set views id left) right u j there);
}
  where
    left : View
    left = left_of given v

    right : View
    right = right_of given v

    nothing : (h : ℕ) → Make first h [] → ⊥
    nothing h m = omega (arith, m)

    not_left : (h : ℕ) → IsOwn first h left → ⊥
    not_left h own = ⊎_elim (λ (has : Has h left.own). has)
        (λ (m : Make first h v.fresh). nothing h (subst (Make first h) fresh m)) own

    base : AreOwn first (set views id left)
    base = own_stays first views id v at r left (λ h has. absurd has)
        (λ j u ne there h own. absurd (not_left h own))
        (λ j u ne there h own. r.alone j u there id v at (λ e. ne (sym e)) h own)
        (λ off. r.idle id v at off)

    read_all : (h : ℕ) → traces h v ≡ 0 → traces h right ≡ 0
    read_all h none =
        let parts = times-append (reads_it h) (map seen_of (v.fresh ++ v.written)) v.seen in
        let seen = seen_times h (v.fresh ++ v.written) in
        let all = times-append (writes_it h) v.fresh v.written in
        omega (arith, none, parts, seen, all)

    new : (i : ℕ) (u : View) → get_elem? (set views id left) i ≡ some u → (h : ℕ)
        → IsOwn first h u → traces h right ≡ 0
    new i u t h own = read_all h (seats_stay (λ _ x. IsOwn first h x → traces h v ≡ 0) views id left
        (λ o. absurd (not_left h o))
        (λ k x ne e o. r.alone k x e id v at (λ q. ne (sym q)) h o) i u t own)

-- Two seats are joined: the one has no own objects, and what both had.
pub own_joined : (first : ℕ) (c : Config) (views : List View) (id : ℕ) (v : View) (other : ℕ)
    (w : View) → get_elem? views id ≡ some v → get_elem? views other ≡ some w → v.fresh ≡ []
    → w.fresh ≡ [] → AreOwn first views
    → AreOwn first (set (set views id (joined v w)) other (blank c))
own_joined first c views id v other w at at' fresh fresh' r = record {
  made = each (λ _ u. (h : ℕ) → Has h u.own → Make first h u.written) (λ h has. absurd has)
      (λ h has. absurd has) (λ j u _ _ there. r.made j u there);
  alone = each (λ i u. (j : ℕ) (x : View) → get_elem? all j ≡ some x → j ≢ i → (h : ℕ)
      → IsOwn first h u → traces h x ≡ 0)
      (λ j x there ne h own. absurd (not_blank h own))
      (λ j x there ne h own. absurd (not_both h own))
      (λ i u no ni here. each (λ j x. j ≢ i → (h : ℕ) → IsOwn first h u → traces h x ≡ 0)
      (λ _ h own. refl)
      (λ _ h own. sum h (r.alone i u here id v at (λ e. ni (sym e)) h own)
      (r.alone i u here other w at' (λ e. no (sym e)) h own))
      (λ j x _ _ there ne h own. r.alone i u here j x there ne h own));
  idle = each (λ _ u. u.holds ≡ false → u.fresh ≡ []) (λ _. refl)
      (λ _. ap (λ (xs : List Entry). xs ++ v.fresh) fresh' ∙ fresh)
      (λ j u _ _ there. r.idle j u there);
}
  where
    both : View
    both = joined v w

    all : List View
    all = set (set views id both) other (blank c)

    -- what holds of the blank view, of both in one, and of the others
    each : (K : ℕ → View → Type 0) → K other (blank c) → K id both
        → ((j : ℕ) (u : View) → j ≢ other → j ≢ id → get_elem? views j ≡ some u → K j u)
        → (j : ℕ) (u : View) → get_elem? all j ≡ some u → K j u
    each K spent one rest = seats_stay K (set views id both) other (blank c) spent
        (λ j u ne there. seats_stay (λ i x. i ≢ other → K i x) views id both (λ _. one)
        (λ i x ni e no. rest i x no ni e) j u there ne)

    nothing : (h : ℕ) → Make first h [] → ⊥
    nothing h m = omega (arith, m)

    not_blank : (h : ℕ) → IsOwn first h (blank c) → ⊥
    not_blank h own = ⊎_elim (λ (has : Has h (blank c).own). has)
        (λ (m : Make first h (blank c).fresh). nothing h m) own

    not_both : (h : ℕ) → IsOwn first h both → ⊥
    not_both h own = ⊎_elim (λ (has : Has h both.own). has)
        (λ (m : Make first h (w.fresh ++ v.fresh)). nothing h (subst (Make first h)
        (ap (λ (xs : List Entry). xs ++ v.fresh) fresh' ∙ fresh) m)) own

    sum : (h : ℕ) → traces h v ≡ 0 → traces h w ≡ 0 → traces h both ≡ 0
    sum h a b = let e = times-append (writes_it h) w.written v.written in
        let d = times-append (writes_it h) w.fresh v.fresh in
        let f = times-append (reads_it h) w.seen v.seen in
        let g = times-append (pins_it h) w.pins v.pins in
        let k = times-append (claims_it h) w.claims v.claims in omega (arith, a, b, d, e, f, g, k)
