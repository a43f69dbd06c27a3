-- What a record has of an object is not newer than the newest, which it wrote where no other view has
-- the object; and entries that come next are new to it, and one above the last where it alone has
-- the object.
use Rattle.std.proofs.Common.{◌≡◌, ◌≢◌, ℕ, zero, suc, ◌<◌, ◌≤◌, List, [], ◌∷◌, ◌++◌, sym, refl, ap}
use Rattle.std.proofs.Common.{◌∙◌, subst, inl, ⊎_elim, arith}
use mathlib.Core.Option.{some, some-injective, some-ne-none}
use lib.ListN.{get_elem?}
use Rattle.cb_types.specs.declared.config.Config.{Config}
use Rattle.cb_world.specs.declared.entry.Entry.{Entry}
use Rattle.cb_world.specs.declared.shown.Shown.{Shown}
use Rattle.cb_rule.specs.declared.view.Seen.{Seen}
use Rattle.cb_rule.specs.declared.view.View.{View}
use Rattle.cb_rule.specs.History.{IsChanged, IsEntryHistory, IsMadeEntry, is_version, newest, top}
use Rattle.cb_rule.specs.Lists.{times, total, Each, Has}
use Rattle.cb_rule.specs.Own.{AreOwn, IsAlone}
use Rattle.cb_rule.specs.Records.{SeenOk}
use Rattle.cb_rule.specs.Rule.{RuleKept}
use Rattle.cb_rule.specs.Ruled.{AreShares}
use Rattle.cb_rule.specs.Seats.{share_of, written_on}
use Rattle.cb_rule.specs.Steps.{AreNew, FollowsLast, IsNewVersion, IsNewest, Knows, blank}
use Rattle.cb_rule.proofs.Counts.{each_append, each_map, times-append, total-two}
use Rattle.cb_rule.proofs.Histories.{above, begun, entry_within, once, rises}
use Rattle.cb_rule.proofs.Members.{each_has}
use Rattle.cb_rule.proofs.Owning.{version_of}

-- a total to which one element alone adds
pub total_alone : {A : Type 0} (f : A → ℕ) (vs : List A) (i : ℕ) (v : A) → get_elem? vs i ≡ some v
    → ((j : ℕ) (u : A) → j ≢ i → get_elem? vs j ≡ some u → f u ≡ 0) → total f vs ≡ f v
total_alone f [] i v at none = absurd (some-ne-none v (sym at))
total_alone f (x ∷ xs) zero v at none =
    let mine : f x ≡ f v = ap f (some-injective x v at) in
    let rest = total_none xs (λ j u there. none (suc j) u (λ e. away j e) there) in omega arith
  where
    away : (j : ℕ) → suc j ≡ 0 → ⊥
    away j e = omega (arith, e)

    total_none : (ys : List _) → ((j : ℕ) (u : _) → get_elem? ys j ≡ some u → f u ≡ 0)
        → total f ys ≡ 0
    total_none [] g = refl
    total_none (y ∷ ys) g = let a = g 0 y refl in
        let b = total_none ys (λ j u there. g (suc j) u there) in omega arith
total_alone f (x ∷ xs) (suc i) v at none =
    let head = none 0 x (λ e. omega (arith, e)) refl in
    let rest = total_alone f xs i v at
    (λ j u ne there. none (suc j) u (λ e. ne (omega (arith, e))) there) in omega arith

-- with the whole share all others are spent
pub others_spent : (c : Config) (views : List View) (id j : ℕ) (v u : View) → AreShares c views
    → get_elem? views id ≡ some v → v.share ≡ 64 → j ≢ id → get_elem? views j ≡ some u
    → u ≡ blank c
others_spent c views id j v u r at whole ne there =
    let two = total-two share_of views id j v u ne at there in let all = r.whole in
    r.spent j u there (omega (arith, two, all, whole))

module _ (c : Config) (ws : List ℕ) (views : List View) (known : Shown) (es : List Entry)
    (r : RuleKept c ws views known es) where
  below : (h : ℕ) (e : Entry) → Has e es → e.handle ≡ h → e.version ≤ top es h
  below h e there same = let z = (entry_within known.first r.begins e es r.history there).1 in
      let t : top es e.handle ≡ top es h = ap (top es) same in omega (arith, z, t)

  written_below : (id : ℕ) (v : View) (h : ℕ) → get_elem? views id ≡ some v
      → Each (λ (e : Entry). e.handle ≡ h → e.version ≤ top es h) (v.fresh ++ v.written)
  written_below id v h at = let ok = (r.seats id v at).lasting in
      each_map (λ e. Has e es) (λ (e : Entry). e.handle ≡ h → e.version ≤ top es h)
      (v.fresh ++ v.written) (λ e there same. below h e there same)
      (each_append (λ e. Has e es) v.fresh v.written ok.fresh ok.written)

  seen_below : (id : ℕ) (v : View) (h : ℕ) → get_elem? views id ≡ some v
      → Each (λ (s : Seen). s.handle ≡ h → s.version ≤ top es h) v.seen
  seen_below id v h at = let ok = (r.seats id v at).lasting in
      each_map (SeenOk es) (λ (s : Seen). s.handle ≡ h → s.version ≤ top es h) v.seen
      (λ s o same. subst (λ (x : Seen). x.handle ≡ h → x.version ≤ top es h) (sym o.2)
      (λ q. below h o.0 o.1 q) same) ok.seen

  -- a version above the newest one is new to each record
  is_new : (id : ℕ) (v : View) (h version : ℕ) → get_elem? views id ≡ some v
      → top es h < version → IsNewVersion h version v
  is_new id v h version at high = record {
    written = each_map (λ (e : Entry). e.handle ≡ h → e.version ≤ top es h)
        (λ (e : Entry). e.handle ≡ h → e.version < version) (v.fresh ++ v.written)
        (λ e low same. let z = low same in omega (arith, z, high)) (written_below id v h at);
    seen = each_map (λ (s : Seen). s.handle ≡ h → s.version ≤ top es h)
        (λ (s : Seen). s.handle ≡ h → s.version < version) v.seen
        (λ s low same. let z = low same in omega (arith, z, high)) (seen_below id v h at);
  }

  rises_by : (more : List Entry) (h : ℕ) → IsEntryHistory known.first (more ++ es)
      → top es h ≤ top (more ++ es) h
  rises_by [] h k = omega arith
  rises_by (e ∷ more) h k = let low = rises_by more h k.1 in
      let next = rises known.first r.begins e (more ++ es) h k in omega (arith, low, next)

  -- the history has an entry of an object that a record knows
  known_entry : (id h : ℕ) (v : View) → get_elem? views id ≡ some v → Knows h v
      → (e : Entry) × Has e es × (e.handle ≡ h)
  known_entry id h v at knows = let ok = (r.seats id v at).lasting in ⊎_elim
      (λ (k : (e : Entry) × Has e v.written × (e.handle ≡ h)).
      (k.0, each_has (λ e. Has e es) k.0 v.written ok.written k.1, k.2))
      (λ (k : (s : Seen) × Has s v.seen × (s.handle ≡ h)).
      let o = each_has (SeenOk es) k.0 v.seen ok.seen k.1 in
      (o.0, o.1, ap (λ (s : Seen). s.handle) (sym o.2) ∙ k.2)) knows

  -- it was made
  pub known_made : (id h : ℕ) (v : View) → get_elem? views id ≡ some v → Knows h v → 0 < top es h
  known_made id h v at knows = let e = known_entry id h v at knows in
      let z = entry_within known.first r.begins e.0 es r.history e.1 in
      let low = z.0 in let high = z.1 in let b = r.begins in
      let t : top es e.0.handle ≡ top es h = ap (top es) e.2 in omega (arith, low, high, b, t)

  -- its handle is in range
  pub known_below : (id h : ℕ) (v : View) → get_elem? views id ≡ some v → Knows h v
      → h < c.handles
  known_below id h v at knows = let e = known_entry id h v at knows in
      subst (λ (j : ℕ). j < c.handles) e.2
      (each_has (λ (x : Entry). x.handle < c.handles) e.0 es r.within e.1)

  -- an object that has an entry begins with the first version
  born : (h : ℕ) → 0 < top es h → known.first ≤ top es h
  born h pos = ⊎_elim (λ (z : (top es h ≡ 0) × _). let q = z.0 in absurd (omega (arith, pos, q)))
      (λ (z : known.first ≤ top es h). z) (begun known.first r.begins es h r.history)

module _ (c : Config) (ws : List ℕ) (views : List View) (known : Shown) (es : List Entry)
    (r : RuleKept c ws views known es) (shares : AreShares c views) (first : ℕ)
    (own : AreOwn first views) where
  -- what no other view has no other view wrote
  written_alone : (id : ℕ) (v : View) (h n : ℕ) → get_elem? views id ≡ some v → IsAlone h v
      → total (written_on h n) views ≡ written_on h n v
  written_alone id v h n at alone = total_alone (written_on h n) views id v at
      (λ j u ne there. ⊎_elim
      (λ (whole : v.share ≡ 64). ap (λ (x : View). written_on h n x)
      (others_spent c views id j v u shares at whole ne there))
      (λ (mine : Has h v.own). let none = own.alone id v at j u there ne h (inl mine) in
      let a = version_of h n u.fresh in let b = version_of h n u.written in
      omega (arith, none, a, b)) alone)

  pub is_newest : (id : ℕ) (v : View) (h : ℕ) → get_elem? views id ≡ some v → 0 < top es h
      → IsNewest h (top es h) v
  is_newest id v h at pos = record {
    written = written_below c ws views known es r id v h at;
    seen = seen_below c ws views known es r id v h at;
    lone = λ alone. let lone = written_alone id v h (top es h) at alone in
        let count = r.recorded h (top es h) in
        let one = once known.first r.begins es h (top es h) r.history in
        let low = born c ws views known es r h pos in omega (arith, lone, count, one, low);
  }

  -- where the record alone has the object, its newest entry before one that comes next is there
  last_there : (id : ℕ) (v : View) (h n : ℕ) (more : List Entry) → get_elem? views id ≡ some v
      → IsEntryHistory known.first (more ++ es) → 0 < top es h → IsAlone h v
      → top (more ++ es) h ≡ n
      → 0 < times (is_version h n) (more ++ (v.fresh ++ v.written))
  last_there id v h n more at k pos alone is = let lone = written_alone id v h n at alone in
      let count = r.recorded h n in
      let one = once known.first r.begins (more ++ es) h n k in
      let low = born c ws views known es r h pos in
      let rise = rises_by c ws views known es r more h k in
      let before = times-append (is_version h n) more es in
      let behind = times-append (is_version h n) more (v.fresh ++ v.written) in
      let both = times-append (is_version h n) v.fresh v.written in
      omega (arith, lone, count, one, low, rise, before, behind, both, is)

  -- and the one that comes next is one above it
  follows_last : (id : ℕ) (v : View) (e : Entry) (more : List Entry) → get_elem? views id ≡ some v
      → IsEntryHistory known.first (e ∷ (more ++ es)) → FollowsLast e more v
  follows_last id v e more at k alone knows =
      let pos = known_made c ws views known es r id e.handle v at knows in
      let rise = rises_by c ws views known es r more e.handle k.1 in (
        top (more ++ es) e.handle,
        ⊎_elim (λ (m : IsMadeEntry known.first (top (more ++ es) e.handle) e).
            absurd (let n = m.never in omega (arith, pos, rise, n)))
            (λ (m : IsChanged (top (more ++ es) e.handle) (newest (more ++ es) e.handle) e).
            m.number) k.0,
        last_there id v e.handle (top (more ++ es) e.handle) more at k.1 pos alone refl,
      )

  -- entries that may come next are new to each record
  pub are_new : (id : ℕ) (v : View) (more : List Entry) → get_elem? views id ≡ some v
      → IsEntryHistory known.first (more ++ es) → AreNew more v
  are_new id v [] at k = tt
  are_new id v (e ∷ more) at k = (
    is_new c ws views known es r id v e.handle e.version at
        (let low = rises_by c ws views known es r more e.handle k.1 in
        let high = (above known.first r.begins e (more ++ es) k).1 in omega (arith, low, high)),
    follows_last id v e more at k,
    are_new id v more at k.1,
  )
