-- Worked examples: what a view has of any object by itself, and what breaks one part alone.
use Rattle.std.proofs.Common.{◌≡◌, ℕ, ◌+◌, ◌≤◌, Bool, true, false, [], ◌∷◌, refl, sym, ap, subst}
use Rattle.std.proofs.Common.{inl, inr, ⊎_elim, lit≤, true≢false, arith}
use Rattle.cb_world.specs.declared.entry.Entry.{Entry}
use Rattle.cb_world.specs.Written.{entry}
use Rattle.cb_rule.specs.declared.view.Seen.{Seen}
use Rattle.cb_rule.specs.declared.view.View.{View}
use Rattle.cb_rule.specs.OwnStands.{WroteItself}
use Rattle.cb_rule.specs.Records.{seen_of}
use Rattle.cb_rule.specs.Lists.{Each, Has}
use Rattle.cb_rule.specs.RecordStands.{HasVersion, RecordStands}
use Rattle.cb_rule.specs.Steps.{blank, freed_seen, version_seen}
use Rattle.cb_rule.proofs.Members.{each_has}
use Rattle.cb_rule.proofs.WorkedHistory.{made, written}
use Rattle.cb_rule.proofs.WorkedOwnStands.{each_of, either_of}
use Rattle.cb_rule.proofs.WorkedViews.{pair_of}

-- A view made object 1 with 8 bytes at version 3, wrote it, read it as made, and read version 9 that
-- another view wrote, and that it was freed at version 10. No object is its own.
abbrev kept : View
kept = record (blank pair_of) {
  written = written ∷ made ∷ [];
  seen = version_seen 1 3 8 (7 ∷ []) ∷ version_seen 1 9 8 (5 ∷ []) ∷ freed_seen 1 10 ∷ [];
}

of_both : (P : Entry → Type 0) → P written → P made → (e : Entry) → WroteItself kept e → P e
of_both P p q e wrote = either_of P p q e (each_of kept (written ∷ made ∷ []) refl e wrote)

of_three : (P : Seen → Type 0) → P (version_seen 1 3 8 (7 ∷ [])) → P (version_seen 1 9 8 (5 ∷ []))
    → P (freed_seen 1 10) → (s : Seen) → Has s kept.seen → P s
of_three P p q r s (inl is) = subst P is p
of_three P p q r s (inr (inl is)) = subst P is q
of_three P p q r s (inr (inr (inl is))) = subst P is r
of_three P p q r s (inr (inr (inr none))) = absurd none

-- what holds of each entry, written or read, holds of each version that a view has
of_versions : (u : View) (P : ℕ → ℕ → Bool → Type 0)
    → Each (λ (e : Entry). P e.handle e.version e.freed) u.written
    → Each (λ (s : Seen). P s.handle s.version s.freed) u.seen
    → (h n : ℕ) (freed : Bool) → HasVersion u h n freed → P h n freed
of_versions u P wrote read h n freed (inl (e, has, handle, version, is)) =
    subst (λ (k : ℕ). P k n freed) handle (subst (λ (k : ℕ). P e.handle k freed) version
    (subst (P e.handle e.version) is
    (each_has (λ (x : Entry). P x.handle x.version x.freed) e u.written wrote has)))
of_versions u P wrote read h n freed (inr (s, has, handle, version, is)) =
    subst (λ (k : ℕ). P k n freed) handle (subst (λ (k : ℕ). P s.handle k freed) version
    (subst (P s.handle s.version) is
    (each_has (λ (x : Seen). P x.handle x.version x.freed) s u.seen read has)))

-- its versions end at 10, and that one alone is the freed one
up_to : (h n : ℕ) (freed : Bool) → HasVersion kept h n freed → (n ≤ 10) × (n ≡ 10 → freed ≡ true)
up_to = of_versions kept (λ h n freed. (n ≤ 10) × (n ≡ 10 → freed ≡ true))
    ((lit≤ tt, λ e. absurd (omega (arith, e))), ((lit≤ tt, λ e. absurd (omega (arith, e))), tt)) (
      (lit≤ tt, λ e. absurd (omega (arith, e))),
      ((lit≤ tt, λ e. absurd (omega (arith, e))), ((lit≤ tt, λ _. refl), tt)),
    )

ends_at : (h n : ℕ) (freed : Bool) → HasVersion kept h n freed → freed ≡ true → 10 ≤ n
ends_at = of_versions kept (λ h n freed. freed ≡ true → 10 ≤ n)
    ((λ e. absurd (true≢false (sym e))), ((λ e. absurd (true≢false (sym e))), tt)) (
      (λ e. absurd (true≢false (sym e))),
      ((λ e. absurd (true≢false (sym e))), ((λ _. lit≤ tt), tt)),
    )

stands : RecordStands kept
stands = record {
  read = λ s e has wrote. ⊎_elim
      (λ is. subst (λ (k : Seen). k.handle ≡ e.handle → k.version ≡ e.version → k ≡ seen_of e) is
      (of_both (λ x. 1 ≡ x.handle → 3 ≡ x.version → version_seen 1 3 8 (7 ∷ []) ≡ seen_of x)
      (λ h v. absurd (omega (arith, v))) (λ h v. refl) e wrote))
      (λ more. ⊎_elim
      (λ is. subst (λ (k : Seen). k.handle ≡ e.handle → k.version ≡ e.version → k ≡ seen_of e) is
      (of_both (λ x. 1 ≡ x.handle → 9 ≡ x.version → version_seen 1 9 8 (5 ∷ []) ≡ seen_of x)
      (λ h v. absurd (omega (arith, v))) (λ h v. absurd (omega (arith, v))) e wrote))
      (λ last. ⊎_elim
      (λ is. subst (λ (k : Seen). k.handle ≡ e.handle → k.version ≡ e.version → k ≡ seen_of e) is
      (of_both (λ x. 1 ≡ x.handle → 10 ≡ x.version → freed_seen 1 10 ≡ seen_of x)
      (λ h v. absurd (omega (arith, v))) (λ h v. absurd (omega (arith, v))) e wrote))
      (λ none. absurd none) last) more) has;
  same = λ e x a b. of_both (λ y. y.handle ≡ x.handle → y.version ≡ x.version → y ≡ x)
      (of_both (λ z. 1 ≡ z.handle → 4 ≡ z.version → written ≡ z) (λ h v. refl)
      (λ h v. absurd (omega (arith, v))) x b)
      (of_both (λ z. 1 ≡ z.handle → 3 ≡ z.version → made ≡ z) (λ h v. absurd (omega (arith, v)))
      (λ h v. refl) x b) e a;
  goes_on = λ e x a b. of_both (λ y. y.handle ≡ x.handle → y.version ≡ x.version + 1
      → (x.after ≡ y.before) × (x.freed ≡ false) × (y.freed ≡ false → y.len ≡ x.len))
      (of_both (λ z. 1 ≡ z.handle → 4 ≡ z.version + 1
      → (z.after ≡ 7 ∷ []) × (z.freed ≡ false) × (false ≡ false → 8 ≡ z.len))
      (λ h v. absurd (omega (arith, v))) (λ h v. (refl, refl, λ _. refl)) x b)
      (of_both (λ z. 1 ≡ z.handle → 3 ≡ z.version + 1
      → (z.after ≡ []) × (z.freed ≡ false) × (false ≡ false → 8 ≡ z.len))
      (λ h v. absurd (omega (arith, v))) (λ h v. absurd (omega (arith, v))) x b) e a;
  ends = λ h last n freed gone has.
      let from = ends_at h last true gone refl in
      let x = up_to h n freed has in
      let low = x.0 in
      (omega (arith, low, from), λ same. x.1 (omega (arith, low, from, same)));
  same_read = λ s t a b. of_three (λ x. x.handle ≡ t.handle → x.version ≡ t.version → x ≡ t)
      (of_three (λ y. 1 ≡ y.handle → 3 ≡ y.version → version_seen 1 3 8 (7 ∷ []) ≡ y)
      (λ h v. refl) (λ h v. absurd (omega (arith, v))) (λ h v. absurd (omega (arith, v))) t b)
      (of_three (λ y. 1 ≡ y.handle → 9 ≡ y.version → version_seen 1 9 8 (5 ∷ []) ≡ y)
      (λ h v. absurd (omega (arith, v))) (λ h v. refl) (λ h v. absurd (omega (arith, v))) t b)
      (of_three (λ y. 1 ≡ y.handle → 10 ≡ y.version → freed_seen 1 10 ≡ y)
      (λ h v. absurd (omega (arith, v))) (λ h v. absurd (omega (arith, v))) (λ h v. refl) t b) s a;
  keeps_read = λ e s a b. of_both (λ y. s.handle ≡ y.handle → y.version ≡ s.version + 1
      → (s.words ≡ y.before) × (s.freed ≡ false) × (y.freed ≡ false → y.len ≡ s.len))
      (of_three (λ x. x.handle ≡ 1 → 4 ≡ x.version + 1
      → (x.words ≡ 7 ∷ []) × (x.freed ≡ false) × (false ≡ false → 8 ≡ x.len))
      (λ h v. (refl, refl, λ _. refl)) (λ h v. absurd (omega (arith, v)))
      (λ h v. absurd (omega (arith, v))) s b)
      (of_three (λ x. x.handle ≡ 1 → 3 ≡ x.version + 1
      → (x.words ≡ []) × (x.freed ≡ false) × (false ≡ false → 8 ≡ x.len))
      (λ h v. absurd (omega (arith, v))) (λ h v. absurd (omega (arith, v)))
      (λ h v. absurd (omega (arith, v))) s b) e a;
}

-- it read one version with two contents
read_two_contents : RecordStands record kept {
  seen = version_seen 1 9 8 (5 ∷ []) ∷ version_seen 1 9 8 (6 ∷ []) ∷ [];
} → ⊥
read_two_contents x = absurd (let w : 5 ∷ [] ≡ 6 ∷ [] = ap (λ (k : Seen). k.words)
    (x.same_read (version_seen 1 9 8 (5 ∷ [])) (version_seen 1 9 8 (6 ∷ [])) (inl refl)
    (inr (inl refl)) refl refl) in cc)

-- it wrote over other words than those that it had read, or with another length
wrote_over_unread : RecordStands record kept {
  written = entry 1 10 8 (6 ∷ []) (9 ∷ []) ∷ [];
  seen = version_seen 1 9 8 (5 ∷ []) ∷ [];
} → ⊥
wrote_over_unread x = let u : View = record kept {
  written = entry 1 10 8 (6 ∷ []) (9 ∷ []) ∷ [];
  seen = version_seen 1 9 8 (5 ∷ []) ∷ [];
} in
    let e = x.keeps_read (entry 1 10 8 (6 ∷ []) (9 ∷ [])) (version_seen 1 9 8 (5 ∷ []))
    (u, (0, refl), inl refl) (inl refl) refl refl in
    absurd (let w : 5 ∷ [] ≡ 6 ∷ [] = e.0 in cc)

wrote_shorter_than_read : RecordStands record kept {
  written = entry 1 10 7 (5 ∷ []) (9 ∷ []) ∷ [];
  seen = version_seen 1 9 8 (5 ∷ []) ∷ [];
} → ⊥
wrote_shorter_than_read x = let u : View = record kept {
  written = entry 1 10 7 (5 ∷ []) (9 ∷ []) ∷ [];
  seen = version_seen 1 9 8 (5 ∷ []) ∷ [];
} in
    let e = x.keeps_read (entry 1 10 7 (5 ∷ []) (9 ∷ [])) (version_seen 1 9 8 (5 ∷ []))
    (u, (0, refl), inl refl) (inl refl) refl refl in let n = e.2 refl in omega (arith, n)

-- it read other words at a version that it wrote
read_other_words : RecordStands record kept { seen = version_seen 1 3 8 (8 ∷ []) ∷ [] } → ⊥
read_other_words x = let u : View = record kept { seen = version_seen 1 3 8 (8 ∷ []) ∷ [] } in
    let e = x.read (version_seen 1 3 8 (8 ∷ [])) made (inl refl)
    (u, (0, refl), inr (inl refl)) refl refl in
    absurd (let w : 8 ∷ [] ≡ 7 ∷ [] = ap (λ (k : Seen). k.words) e in cc)

-- it wrote a version twice
wrote_twice : RecordStands record kept {
  written = entry 1 4 8 (7 ∷ []) (6 ∷ []) ∷ written ∷ made ∷ [];
} → ⊥
wrote_twice x = let u : View = record kept {
  written = entry 1 4 8 (7 ∷ []) (6 ∷ []) ∷ written ∷ made ∷ [];
} in
    let e = x.same (entry 1 4 8 (7 ∷ []) (6 ∷ [])) written (u, (0, refl), inl refl)
    (u, (0, refl), inr (inl refl)) refl refl in
    absurd (let w : 6 ∷ [] ≡ 9 ∷ [] = ap (λ (k : Entry). k.after) e in cc)

-- it wrote over other words than those that it made
wrote_over_others : RecordStands record kept {
  written = entry 1 4 8 (6 ∷ []) (9 ∷ []) ∷ made ∷ [];
} → ⊥
wrote_over_others x = let u : View = record kept {
  written = entry 1 4 8 (6 ∷ []) (9 ∷ []) ∷ made ∷ [];
} in
    let e = x.goes_on (entry 1 4 8 (6 ∷ []) (9 ∷ [])) made (u, (0, refl), inl refl)
    (u, (0, refl), inr (inl refl)) refl refl in
    absurd (let w : 7 ∷ [] ≡ 6 ∷ [] = e.0 in cc)

-- it read a version behind the freed one, and the freed version as one that was held
read_behind_the_last : RecordStands record kept {
  seen = version_seen 1 9 8 (5 ∷ []) ∷ freed_seen 1 8 ∷ [];
} → ⊥
read_behind_the_last x = let e = x.ends 1 8 9 false
    (inr (freed_seen 1 8, inr (inl refl), refl, refl, refl))
    (inr (version_seen 1 9 8 (5 ∷ []), inl refl, refl, refl, refl)) in
    let above = e.0 in absurd (omega (arith, above))

read_the_last_as_held : RecordStands record kept {
  seen = version_seen 1 8 8 (5 ∷ []) ∷ freed_seen 1 8 ∷ [];
} → ⊥
read_the_last_as_held x = true≢false (sym ((x.ends 1 8 8 false
    (inr (freed_seen 1 8, inr (inl refl), refl, refl, refl))
    (inr (version_seen 1 8 8 (5 ∷ []), inl refl, refl, refl, refl))).1 refl))
