-- What a history has: each version once, from the first to the newest, and each with the one before
-- it.
use Rattle.std.proofs.Common.{◌≡◌, ◌≢◌, ◌⊎◌, ℕ, ◌+◌, ◌-◌, ◌<◌, ◌≤◌, ◌&&◌, min, Bool, false, cond}
use Rattle.std.proofs.Common.{eqb, List, [], ◌∷◌, sym, refl, ap, ◌∙◌, subst, inl, inr, ⊎_elim}
use Rattle.std.proofs.Common.{arith, eq-eqb, ne_eqb, eqb-true, true≢false}
use Rattle.cb_world.specs.declared.entry.Entry.{Entry}
use Rattle.cb_rule.specs.History.{Value, IsMadeEntry, IsChanged, Follows, IsEntryHistory}
use Rattle.cb_rule.specs.History.{is_version, newest, no_value, top, value_of}
use Rattle.cb_rule.specs.Lists.{times, Has}
use Rattle.cb_rule.proofs.Counts.{by_case}

-- 1 for the versions from the first to the last, and else 0
abbrev pub stands : ℕ → ℕ → ℕ → ℕ
stands first k last = min 1 (k + 1 - first) - (k - last)

-- an object has entries, or is as if it had none
abbrev pub Begun : ℕ → List Entry → ℕ → Type 0
Begun first es h = ((top es h ≡ 0) × (newest es h ≡ no_value)) ⊎ (first ≤ top es h)

-- an entry of the object
pub record IsEntry (es : List Entry) (h k : ℕ) (value : Value) : Type 0 where
  pub entry : Entry
  pub there : Has entry es
  pub handle : entry.handle ≡ h
  pub version : entry.version ≡ k
  pub has : value_of entry ≡ value

-- the newest one
pub newest_entry : (es : List Entry) (h : ℕ) → 0 < top es h
    → IsEntry es h (top es h) (newest es h)
newest_entry [] h pos = absurd (omega arith)
newest_entry (e ∷ es) h pos = by_case
    (λ b. 0 < cond b e.version (top es h) → IsEntry (e ∷ es) h (cond b e.version (top es h))
    (cond b (value_of e) (newest es h))) (eqb e.handle h)
    (λ is _. record {
      entry = e;
      there = inl refl;
      handle = eqb-true e.handle h is;
      version = refl;
      has = refl;
    })
    (λ _ p. let n = newest_entry es h p in record {
      entry = n.entry;
      there = inr n.there;
      handle = n.handle;
      version = n.version;
      has = n.has;
    }) pos

-- the version after one that is written
pub top_same : (e : Entry) (es : List Entry) → top (e ∷ es) e.handle ≡ e.version
top_same e es =
    ap (λ (b : Bool). cond b e.version (top es e.handle)) (eq-eqb e.handle e.handle refl)

pub newest_same : (e : Entry) (es : List Entry) → newest (e ∷ es) e.handle ≡ value_of e
newest_same e es = ap (λ (b : Bool). cond b (value_of e) (newest es e.handle))
    (eq-eqb e.handle e.handle refl)

-- of another object they stay
pub top_else : (e : Entry) (es : List Entry) (h : ℕ) → h ≢ e.handle → top (e ∷ es) h ≡ top es h
top_else e es h ne = ap (λ (b : Bool). cond b e.version (top es h))
    (ne_eqb e.handle h (λ q. ne (sym q)))

pub newest_else : (e : Entry) (es : List Entry) (h : ℕ) → h ≢ e.handle
    → newest (e ∷ es) h ≡ newest es h
newest_else e es h ne = ap (λ (b : Bool). cond b (value_of e) (newest es h))
    (ne_eqb e.handle h (λ q. ne (sym q)))

module _ (first : ℕ) (pos : 1 ≤ first) where
  -- a next entry is above those before it, and not below the first
  pub follows_above : (es : List Entry) (e : Entry) → Begun first es e.handle
      → Follows first (top es e.handle) (newest es e.handle) e
      → (first ≤ e.version) × (top es e.handle < e.version)
  follows_above es e b f = ⊎_elim
      (λ (m : IsMadeEntry first (top es e.handle) e).
      let z = m.never in let n = m.number in (omega arith, omega arith))
      (λ (m : IsChanged (top es e.handle) (newest es e.handle) e). let n = m.number in ⊎_elim
      (λ (none : (top es e.handle ≡ 0) × (newest es e.handle ≡ no_value)).
      absurd (true≢false (ap (λ (v : Value). v.freed) (sym none.1) ∙ m.there)))
      (λ (some : first ≤ top es e.handle). (omega arith, omega arith)) b) f

  pub begun : (es : List Entry) (h : ℕ) → IsEntryHistory first es → Begun first es h
  begun [] h k = inl (refl, refl)
  begun (e ∷ es) h k = by_case
      (λ b. ((cond b e.version (top es h) ≡ 0) × (cond b (value_of e) (newest es h) ≡ no_value))
      ⊎ (first ≤ cond b e.version (top es h))) (eqb e.handle h)
      (λ _. inr (follows_above es e (begun es e.handle k.1) k.0).0) (λ _. begun es h k.1)

  pub above : (e : Entry) (es : List Entry) → IsEntryHistory first (e ∷ es)
      → (first ≤ e.version) × (top es e.handle < e.version)
  above e es k = follows_above es e (begun es e.handle k.1) k.0

  -- versions only rise
  pub rises : (e : Entry) (es : List Entry) (h : ℕ) → IsEntryHistory first (e ∷ es)
      → top es h ≤ top (e ∷ es) h
  rises e es h k = by_case (λ b. top es h ≤ cond b e.version (top es h)) (eqb e.handle h)
      (λ is. let same : top es e.handle ≡ top es h = ap (top es) (eqb-true e.handle h is) in
      let a = (above e es k).1 in omega arith)
      (λ _. omega arith)

  -- an entry is not below the first version and not above its object's newest
  pub entry_within : (e : Entry) (es : List Entry) → IsEntryHistory first es → Has e es
      → (first ≤ e.version) × (e.version ≤ top es e.handle)
  entry_within e [] k h = absurd h
  entry_within e (x ∷ es) k h = ⊎_elim
      (λ (is : x ≡ e). subst (λ (y : Entry). (first ≤ y.version) × (y.version ≤ top
      (x ∷ es) y.handle))
      is ((above x es k).0, (let t = top_same x es in omega arith)))
      (λ (more : Has e es). let z = entry_within e es k.1 more in
      (z.0, (let r = rises x es e.handle k in let a = z.1 in omega arith))) h

  -- a version is written once
  pub same_entry : (e x : Entry) (es : List Entry) → IsEntryHistory first es → Has e es → Has x es
      → e.handle ≡ x.handle → e.version ≡ x.version → e ≡ x
  same_entry e x [] k h g eh ev = absurd h
  same_entry e x (y ∷ es) k h g eh ev = ⊎_elim
      (λ (a : y ≡ e). ⊎_elim (λ (b : y ≡ x). sym a ∙ b)
      (λ (b : Has x es). absurd (apart e x a b eh ev)) g)
      (λ (a : Has e es). ⊎_elim (λ (b : y ≡ x). absurd (apart x e b a (sym eh) (sym ev)))
      (λ (b : Has x es). same_entry e x es k.1 a b eh ev) g) h
    where
      apart : (p q : Entry) → y ≡ p → Has q es → p.handle ≡ q.handle → p.version ≡ q.version → ⊥
      apart p q is more ph pv =
          let low = (entry_within q es k.1 more).1 in let high = (above y es k).1 in
          let same : top es y.handle ≡ top es q.handle =
          ap (λ (z : Entry). top es z.handle) is ∙ ap (top es) ph in
          let v : y.version ≡ q.version = ap (λ (z : Entry). z.version) is ∙ pv in
          omega (arith, low, high, same, v)

  -- the contents before it are those of the entry one version lower; the first has none
  pub entry_before : (e : Entry) (es : List Entry) → IsEntryHistory first es → Has e es
      → ((e.version ≡ first) × (e.before ≡ []) × (e.freed ≡ false))
      ⊎ ((x : Entry) × Has x es × (x.handle ≡ e.handle) × (x.version + 1 ≡ e.version)
      × (x.after ≡ e.before) × (x.freed ≡ false) × (e.freed ≡ false → e.len ≡ x.len))
  entry_before e [] k h = absurd h
  entry_before e (y ∷ es) k h = ⊎_elim (λ (is : y ≡ e). subst (λ (z : Entry). Before z) is head)
      (λ (more : Has e es). ⊎_elim (λ (a : (e.version ≡ first) × (e.before ≡ []) × (e.freed ≡ false)). inl a)
      (λ (a : _). inr (a.0, inr a.1, a.2, a.3, a.4, a.5, a.6)) (entry_before e es k.1 more)) h
    where
      Before : Entry → Type 0
      Before z = ((z.version ≡ first) × (z.before ≡ []) × (z.freed ≡ false))
          ⊎ ((x : Entry) × Has x (y ∷ es) × (x.handle ≡ z.handle) × (x.version + 1 ≡ z.version)
          × (x.after ≡ z.before) × (x.freed ≡ false) × (z.freed ≡ false → z.len ≡ x.len))

      head : Before y
      head = ⊎_elim
          (λ (m : IsMadeEntry first (top es y.handle) y). inl (m.number, m.nothing, m.kept))
          (λ (m : IsChanged (top es y.handle) (newest es y.handle) y). ⊎_elim
          (λ (none : (top es y.handle ≡ 0) × (newest es y.handle ≡ no_value)).
          absurd (true≢false (ap (λ (v : Value). v.freed) (sym none.1) ∙ m.there)))
          (λ (some : first ≤ top es y.handle).
          let n = newest_entry es y.handle (omega arith) in
          inr (
            n.entry,
            inr n.there,
            n.handle,
            (let a = n.version in let b = m.number in omega arith),
            ap (λ (v : Value). v.words) n.has ∙ sym m.past,
            ap (λ (v : Value). v.freed) n.has ∙ m.there,
            λ kept. m.same_len kept ∙ ap (λ (v : Value). v.len) (sym n.has),
          ))
          (begun es y.handle k.1)) k.0

  -- each version from the first to the newest stands once
  pub once : (es : List Entry) (h k : ℕ) → IsEntryHistory first es
      → times (is_version h k) es ≡ stands first k (top es h)
  once [] h k ok = omega arith
  once (e ∷ es) h k ok = by_case
      (λ b. cond (b && eqb e.version k) 1 0 + times (is_version h k) es
      ≡ stands first k (cond b e.version (top es h))) (eqb e.handle h)
      (λ is. let rest = once es h k ok.1 in
      let same = eqb-true e.handle h is in
      let f = subst (λ (j : ℕ). Follows first (top es j) (newest es j) e) same ok.0 in
      let b = begun es h ok.1 in
      by_case (λ q. cond q 1 0 + times (is_version h k) es ≡ stands first k e.version)
      (eqb e.version k)
      (λ hit. let v = eqb-true e.version k hit in up v f b rest)
      (λ miss. off (ne_of miss) f b rest))
      (λ _. let rest = once es h k ok.1 in omega (arith, rest))
    where
      ne_of : eqb e.version k ≡ false → e.version ≢ k
      ne_of miss same = true≢false (sym (eq-eqb e.version k same) ∙ miss)

      number : Follows first (top es h) (newest es h) e → Begun first es h
          → ((top es h ≡ 0) × (e.version ≡ first))
          ⊎ ((first ≤ top es h) × (e.version ≡ top es h + 1))
      number f b = ⊎_elim (λ (m : IsMadeEntry first (top es h) e). inl (m.never, m.number))
          (λ (m : IsChanged (top es h) (newest es h) e). ⊎_elim
          (λ (none : (top es h ≡ 0) × (newest es h ≡ no_value)).
          absurd (true≢false (ap (λ (v : Value). v.freed) (sym none.1) ∙ m.there)))
          (λ (some : first ≤ top es h). inr (some, m.number)) b) f

      up : e.version ≡ k → Follows first (top es h) (newest es h) e → Begun first es h
          → times (is_version h k) es ≡ stands first k (top es h)
          → 1 + times (is_version h k) es ≡ stands first k e.version
      up v f b rest = ⊎_elim
          (λ (n : (top es h ≡ 0) × (e.version ≡ first)).
          let z = n.0 in let n' = n.1 in omega (arith, v, rest, z, n'))
          (λ (n : (first ≤ top es h) × (e.version ≡ top es h + 1)).
          let z = n.0 in let n' = n.1 in omega (arith, v, rest, z, n')) (number f b)

      off : e.version ≢ k → Follows first (top es h) (newest es h) e → Begun first es h
          → times (is_version h k) es ≡ stands first k (top es h)
          → 0 + times (is_version h k) es ≡ stands first k e.version
      off ne f b rest = ⊎_elim
          (λ (n : (top es h ≡ 0) × (e.version ≡ first)).
          let z = n.0 in let n' = n.1 in omega (arith, ne, rest, z, n'))
          (λ (n : (first ≤ top es h) × (e.version ≡ top es h + 1)).
          let z = n.0 in let n' = n.1 in omega (arith, ne, rest, z, n')) (number f b)
