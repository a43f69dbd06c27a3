-- The entries of objects that one record alone writes, in order, and what was read of them.
use Rattle.std.proofs.Common.{◌≡◌, ◌≢◌, ◌⊎◌, ℕ, ◌+◌, ◌<◌, ◌≤◌, Bool, true, false, cond, eqb, List}
use Rattle.std.proofs.Common.{[], ◌∷◌, ◌++◌, Option, None, Some, inl, inr, sym, refl, ap, ◌∙◌}
use Rattle.std.proofs.Common.{subst, eq-eqb, ne_eqb, true≢false, arith}
use Rattle.std.proofs.lemmas.Bool.{cases_Bool, eqb-true, and_parts}
use Rattle.std.proofs.lemmas.Option.{same_Some, none-some}
use Rattle.cb_world.specs.declared.entry.Entry.{Entry}
use Rattle.cb_rule.specs.declared.view.Seen.{Seen}
use Rattle.cb_rule.specs.declared.view.View.{View}
use Rattle.cb_rule.specs.History.{is_version}
use Rattle.cb_rule.specs.Lists.{Each, Has, times}
use Rattle.cb_rule.specs.Records.{seen_of}
use Rattle.cb_rule.specs.Steps.{IsNewest}
use Rattle.cb_rule.proofs.Laws.{each_has}
use Rattle.cb_record.proofs.Laws.{has_right}
use Rattle.cb_lanes.specs.KeepsOwn.{AreEntriesInOrder, AreRead, ComesBehind, EntryComesNext}
use Rattle.cb_lanes.specs.KeepsOwn.{last_in}
use Rattle.cb_lanes.proofs.Lists.{one_if}

-- ---- the last entry
pub last_hit : (e : Entry) (es : List Entry) (h : ℕ) → e.handle ≡ h → last_in (e ∷ es) h ≡ Some e
last_hit e es h same =
    ap (λ (b : Bool). cond b (Some e) (last_in es h)) (eq-eqb e.handle h same)

pub last_past : (e : Entry) (es : List Entry) (h : ℕ) → e.handle ≢ h
    → last_in (e ∷ es) h ≡ last_in es h
last_past e es h off =
    ap (λ (b : Bool). cond b (Some e) (last_in es h)) (ne_eqb e.handle h off)

pub handle_cases : (e : Entry) (h : ℕ) → (e.handle ≡ h) ⊎ (e.handle ≢ h)
handle_cases e h = by (cases_Bool (eqb e.handle h))
  where
    by : (eqb e.handle h ≡ true) ⊎ (eqb e.handle h ≡ false) → (e.handle ≡ h) ⊎ (e.handle ≢ h)
    by (inl is) = inl (eqb-true e.handle h is)
    by (inr is) = inr (λ same. true≢false (sym (eq-eqb e.handle h same) ∙ is))

pub last_has : (es : List Entry) (h : ℕ) (x : Entry) → last_in es h ≡ Some x
    → Has x es × (x.handle ≡ h)
last_has [] h x is = absurd (none-some x is)
last_has (e ∷ es) h x is = by (last_has es h x) (handle_cases e h)
  where
    by : (last_in es h ≡ Some x → Has x es × (x.handle ≡ h)) → (e.handle ≡ h) ⊎ (e.handle ≢ h)
        → Has x (e ∷ es) × (x.handle ≡ h)
    by later (inl same) = let one : e ≡ x = same_Some e x (sym (last_hit e es h same) ∙ is) in
        (inl one, ap (λ (z : Entry). z.handle) (sym one) ∙ same)
    by later (inr off) = let z = later (sym (last_past e es h off) ∙ is) in (inr z.0, z.1)

pub none_has : (es : List Entry) (h : ℕ) (e : Entry) → last_in es h ≡ None → Has e es → e.handle ≡ h
    → ⊥
none_has [] h e none has same = absurd has
none_has (y ∷ es) h e none has same = by (none_has es h e) (handle_cases y h) has
  where
    by : (last_in es h ≡ None → Has e es → e.handle ≡ h → ⊥) → (y.handle ≡ h) ⊎ (y.handle ≢ h)
        → (y ≡ e) ⊎ Has e es → ⊥
    by later (inl at) z = none-some y (sym none ∙ last_hit y es h at)
    by later (inr off) (inl one) = off (ap (λ (z : Entry). z.handle) one ∙ same)
    by later (inr off) (inr rest) = later (sym (last_past y es h off) ∙ none) rest same

-- ---- in order
pub order_front : (mine : ℕ → Type 0) (later es : List Entry) → AreEntriesInOrder mine (later ++ es)
    → AreEntriesInOrder mine es
order_front mine [] es all = all
order_front mine (e ∷ later) es all = order_front mine later es all.1

begins : (o : Option Entry) (y : Entry) → ComesBehind o y → 1 ≤ y.version
begins None y e = omega (arith, e)
begins (Some z) y n = let v = n.next in omega (arith, v)

module _ (mine : ℕ → Type 0) (h : ℕ) (own : mine h) where
  -- each entry of the object is its last one, or of an older version
  pub older : (es : List Entry) (x e : Entry) → AreEntriesInOrder mine es → last_in es h ≡ Some x
      → Has e es
      → e.handle ≡ h → (e ≡ x) ⊎ (e.version < x.version)
  older [] x e all is has same = absurd has
  older (y ∷ es) x e all is has same = by (λ z. older es z e all.1) (handle_cases y h) has
    where
      next : (z : Entry) → y.handle ≡ h → last_in es h ≡ Some z → EntryComesNext z y
      next z at was = subst (λ (o : Option Entry). ComesBehind o y) (ap (last_in es) at ∙ was)
          (all.0 (subst mine (sym at) own))

      behind : (o : Option Entry) → last_in es h ≡ o → y.handle ≡ h → Has e es
          → ((z : Entry) → last_in es h ≡ Some z → Has e es → e.handle ≡ h → (e ≡ z)
          ⊎ (e.version < z.version))
          → e.version < y.version
      behind None was at rest later = absurd (none_has es h e was rest same)
      behind (Some z) was at rest later = below z (next z at was) (later z was rest same)
        where
          below : (z : Entry) → EntryComesNext z y → (e ≡ z) ⊎ (e.version < z.version)
              → e.version < y.version
          below z n (inl one) = let v = n.next in let w : e.version ≡ z.version =
              ap (λ (k : Entry). k.version) one in
              omega (arith, v, w)
          below z n (inr less) = let v = n.next in omega (arith, v, less)

      by : ((z : Entry) → last_in es h ≡ Some z → Has e es → e.handle ≡ h → (e ≡ z)
          ⊎ (e.version < z.version))
          → (y.handle ≡ h) ⊎ (y.handle ≢ h) → (y ≡ e) ⊎ Has e es → (e ≡ x) ⊎ (e.version < x.version)
      by later (inl at) (inl one) = inl (sym one ∙ same_Some y x (sym (last_hit y es h at) ∙ is))
      by later (inl at) (inr rest) = inr (subst (λ (z : Entry). e.version < z.version)
          (same_Some y x (sym (last_hit y es h at) ∙ is))
          (behind (last_in es h) refl at rest later))
      by later (inr off) (inl one) = absurd (off (ap (λ (z : Entry). z.handle) one ∙ same))
      by later (inr off) (inr rest) = later x (sym (last_past y es h off) ∙ is) rest same

  -- an entry behind which the object has another one is above it
  above_all : (y : Entry) (es : List Entry) (e : Entry) → AreEntriesInOrder mine (y ∷ es)
      → y.handle ≡ h
      → Has e es → e.handle ≡ h → e.version < y.version
  above_all y es e all at rest same = by (last_in es h) refl
    where
      by : (o : Option Entry) → last_in es h ≡ o → e.version < y.version
      by None was = absurd (none_has es h e was rest same)
      by (Some z) was = less (subst (λ (o : Option Entry). ComesBehind o y)
          (ap (last_in es) at ∙ was)
          (all.0 (subst mine (sym at) own))) (older es z e all.1 was rest same)
        where
          less : EntryComesNext z y → (e ≡ z) ⊎ (e.version < z.version) → e.version < y.version
          less n (inl one) = let v = n.next in let w : e.version ≡ z.version =
              ap (λ (k : Entry). k.version) one in
              omega (arith, v, w)
          less n (inr low) = let v = n.next in omega (arith, v, low)

  -- two entries of one version are the same
  pub one_of_version : (es : List Entry) (e x : Entry) → AreEntriesInOrder mine es → Has e es
      → Has x es
      → e.handle ≡ h → x.handle ≡ h → e.version ≡ x.version → e ≡ x
  one_of_version [] e x all he hx eh xh same = absurd he
  one_of_version (y ∷ es) e x all (inl a) (inl b) eh xh same = sym a ∙ b
  one_of_version (y ∷ es) e x all (inl a) (inr b) eh xh same = absurd (
      let at : y.handle ≡ h = ap (λ (z : Entry). z.handle) a ∙ eh in
      let v : y.version ≡ e.version = ap (λ (z : Entry). z.version) a in
      let less = above_all y es x all at b xh in omega (arith, v, less, same))
  one_of_version (y ∷ es) e x all (inr a) (inl b) eh xh same = absurd (
      let at : y.handle ≡ h = ap (λ (z : Entry). z.handle) b ∙ xh in
      let v : y.version ≡ x.version = ap (λ (z : Entry). z.version) b in
      let less = above_all y es e all at a eh in omega (arith, v, less, same))
  one_of_version (y ∷ es) e x all (inr a) (inr b) eh xh same =
      one_of_version es e x all.1 a b eh xh same

  -- versions begin with 1
  pub born : (es : List Entry) (e : Entry) → AreEntriesInOrder mine es → Has e es → e.handle ≡ h
      → 1 ≤ e.version
  born [] e all has same = absurd has
  born (y ∷ es) e all (inl is) same = subst (λ (z : Entry). 1 ≤ z.version) is
      (begins (last_in es y.handle) y
      (all.0 (subst mine (sym (ap (λ (z : Entry). z.handle) is ∙ same)) own)))
  born (y ∷ es) e all (inr has) same = born es e all.1 has same

  -- two entries that are not the freed one are as long
  first_long : (y : Entry) (es : List Entry) (x : Entry) → AreEntriesInOrder mine (y ∷ es)
      → y.handle ≡ h
      → y.freed ≡ false → Has x es → x.handle ≡ h
      → ((z : Entry) → Has z es → z.handle ≡ h → z.freed ≡ false → x.len ≡ z.len) → x.len ≡ y.len
  first_long y es x all at held has same rest = by (last_in es h) refl
    where
      by : (o : Option Entry) → last_in es h ≡ o → x.len ≡ y.len
      by None was = absurd (none_has es h x was has same)
      by (Some z) was =
          let n = subst (λ (o : Option Entry). ComesBehind o y) (ap (last_in es) at ∙ was)
          (all.0 (subst mine (sym at) own)) in
          let w = last_has es h z was in rest z w.0 w.1 n.there ∙ sym (n.same_len held)

  pub one_length : (es : List Entry) (e x : Entry) → AreEntriesInOrder mine es → Has e es → Has x es
      → e.handle ≡ h → x.handle ≡ h → e.freed ≡ false → x.freed ≡ false → e.len ≡ x.len
  one_length [] e x all he hx eh xh held kept = absurd he
  one_length (y ∷ es) e x all (inl a) (inl b) eh xh held kept =
      ap (λ (z : Entry). z.len) (sym a ∙ b)
  one_length (y ∷ es) e x all (inl a) (inr b) eh xh held kept = ap (λ (z : Entry). z.len) (sym a)
      ∙ sym (first_long y es x all (ap (λ (z : Entry). z.handle) a ∙ eh)
      (ap (λ (z : Entry). z.freed) a ∙ held) b xh
      (λ z has same there. one_length es x z all.1 b has xh same kept there))
  one_length (y ∷ es) e x all (inr a) (inl b) eh xh held kept =
      first_long y es e all (ap (λ (z : Entry). z.handle) b ∙ xh)
      (ap (λ (z : Entry). z.freed) b ∙ kept) a eh
      (λ z has same there. one_length es e z all.1 a has eh same held there)
      ∙ ap (λ (z : Entry). z.len) b
  one_length (y ∷ es) e x all (inr a) (inr b) eh xh held kept =
      one_length es e x all.1 a b eh xh held kept

  -- what was read at the version of the last entry is that entry
  pub read_is : (later es : List Entry) (seen : List Seen) (x : Entry) (s : Seen)
      → AreEntriesInOrder mine (later ++ es) → AreRead mine (later ++ es) seen
      → last_in es h ≡ Some x
      → Has s seen → s.handle ≡ h → s.version ≡ x.version → s ≡ seen_of x
  read_is later es seen x s all read is has same version =
      let z = read s has (subst mine (sym same) own) in
      let w = last_has es h x is in
      z.2 ∙ ap seen_of (one_of_version (later ++ es) z.0 x all z.1 (has_right x later es w.0)
      (sym (ap (λ (k : Seen). k.handle) z.2) ∙ same) w.1
      (sym (ap (λ (k : Seen). k.version) z.2) ∙ version))

  -- the newest version is that of the last entry
  pub newest_is : (version : ℕ) (u : View) (x : Entry) → IsNewest h version u → u.fresh ≡ []
      → Has h u.own → AreEntriesInOrder mine u.written → last_in u.written h ≡ Some x
      → version ≡ x.version
  newest_is version u x newest fresh mine_own all is =
      let w = last_has u.written h x is in
      let low = each_has _ x u.written (subst (λ (l : List Entry).
      Each (λ (e : Entry). e.handle ≡ h → e.version ≤ version) (l ++ u.written)) fresh
      newest.written) w.0 w.1 in
      let some_one : 0 < 0 + times (is_version h version) u.written = subst (λ (l : List Entry).
      0 < times (is_version h version) l + times (is_version h version) u.written) fresh
      (newest.lone (inr mine_own)) in
      let z = counted (is_version h version) u.written (omega (arith, some_one)) in
      up z.0 low (parts z.0 z.2) (older u.written x z.0 all is z.1 (parts z.0 z.2).0)
    where
      counted : (t : Entry → Bool) (xs : List Entry) → 0 < times t xs → (e : Entry) × Has e xs
          × (t e ≡ true)
      counted t [] some_one = absurd (omega (arith, some_one))
      counted t (y ∷ xs) some_one = by (counted t xs) (cases_Bool (t y))
        where
          by : (0 < times t xs → (e : Entry) × Has e xs × (t e ≡ true)) → (t y ≡ true)
              ⊎ (t y ≡ false)
              → (e : Entry) × Has e (y ∷ xs) × (t e ≡ true)
          by later (inl hit) = (y, inl refl, hit)
          by later (inr off) = let z = later (let n : one_if (t y) ≡ 0 = ap one_if off in
              omega (arith, some_one, n)) in (z.0, inr z.1, z.2)

      parts : (e : Entry) → is_version h version e ≡ true → (e.handle ≡ h) × (e.version ≡ version)
      parts e is = let z = and_parts (eqb e.handle h) (eqb e.version version) is in
          (eqb-true e.handle h z.0, eqb-true e.version version z.1)

      up : (e : Entry) → x.version ≤ version → (e.handle ≡ h) × (e.version ≡ version)
          → (e ≡ x) ⊎ (e.version < x.version) → version ≡ x.version
      up e low z (inl one) = sym z.1 ∙ ap (λ (k : Entry). k.version) one
      up e low z (inr less) = let v = z.1 in absurd (omega (arith, low, v, less))
