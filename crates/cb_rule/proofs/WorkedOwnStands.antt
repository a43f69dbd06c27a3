-- Worked examples: what a view has of its own objects by itself, and what breaks one part alone.
use Rattle.std.proofs.Common.{◌≡◌, ◌+◌, ◌≤◌, List, [], ◌∷◌, ◌++◌, sym, refl, ap, subst, inl, inr}
use Rattle.std.proofs.Common.{⊎_elim, lit≤, arith}
use Rattle.cb_ptr.specs.Word.{len_of}
use Rattle.cb_world.specs.declared.entry.Entry.{Entry}
use Rattle.cb_world.specs.Written.{entry}
use Rattle.cb_rule.specs.declared.view.Look.{Look}
use Rattle.cb_rule.specs.declared.view.Seen.{Seen}
use Rattle.cb_rule.specs.declared.view.View.{View}
use Rattle.cb_rule.specs.Lists.{Has}
use Rattle.cb_rule.specs.OwnStands.{OwnStands, WroteItself}
use Rattle.cb_rule.specs.Promised.{EntryGoesOn}
use Rattle.cb_rule.specs.Steps.{blank, look_at, version_seen}
use Rattle.cb_rule.proofs.OwnStanding.{itself}
use Rattle.cb_rule.proofs.WorkedHistory.{made, written}
use Rattle.cb_rule.proofs.WorkedViews.{pair_of}

-- a view made object 1 with 8 bytes at version 3, wrote it, read it as made, and found its word Here
abbrev kept : View
kept = record (blank pair_of) {
  own = 1 ∷ [];
  written = written ∷ made ∷ [];
  seen = version_seen 1 3 8 (7 ∷ []) ∷ [];
  looks = look_at 1 65538 ∷ [];
}

pub each_of : (u : View) (es : List Entry) → u.fresh ++ u.written ≡ es → (e : Entry) → WroteItself u e
    → Has e es
each_of u es are e (w, (j, is), has) = subst (Has e) are
    (subst (λ (z : View). Has e (z.fresh ++ z.written)) (sym (itself u w j is)) has)

pub either_of : (P : Entry → Type 0) → P written → P made → (e : Entry)
    → Has e (written ∷ made ∷ []) → P e
either_of P p q e (inl is) = subst P is p
either_of P p q e (inr (inl is)) = subst P is q
either_of P p q e (inr (inr none)) = absurd none

wrote_made : WroteItself kept made
wrote_made = (kept, (0, refl), inr (inl refl))

of_both : (P : Entry → Type 0) → P written → P made → (e : Entry) → WroteItself kept e → P e
of_both P p q e wrote = either_of P p q e (each_of kept (written ∷ made ∷ []) refl e wrote)

stands : OwnStands 3 kept
stands = record {
  read = λ s has own. ⊎_elim (λ e. (made, wrote_made, sym e)) (λ none. absurd none) has;
  looked = λ l found own full. ⊎_elim (λ has. ⊎_elim (λ e. (
    made,
    wrote_made,
    ap (λ (k : Look). k.handle) e,
    refl,
    ap (λ (k : Look). len_of k.word) e,
  )) (λ none. absurd none) has) (λ x. absurd x.1) found;
  born = of_both (λ e. 3 ≤ e.version) (lit≤ tt) (lit≤ tt);
  same = λ e x a b. of_both (λ y. y.handle ≡ x.handle → y.version ≡ x.version → y ≡ x)
      (of_both (λ z. 1 ≡ z.handle → 4 ≡ z.version → written ≡ z) (λ h v. refl)
      (λ h v. absurd (omega (arith, v))) x b)
      (of_both (λ z. 1 ≡ z.handle → 3 ≡ z.version → made ≡ z) (λ h v. absurd (omega (arith, v)))
      (λ h v. refl) x b) e a;
  goes_on = λ e wrote own. of_both (EntryGoesOn 3 (kept ∷ []))
      (inr (made, wrote_made, refl, refl, refl, refl, λ _. refl)) (inl (refl, refl, refl)) e wrote;
}

-- it read what it did not write
read_of_another : OwnStands 3 record kept { seen = version_seen 1 9 8 (7 ∷ []) ∷ [] } → ⊥
read_of_another x = let u : View = record kept { seen = version_seen 1 9 8 (7 ∷ []) ∷ [] } in
    let z = x.read (version_seen 1 9 8 (7 ∷ [])) (inl refl) (inl refl) in
    let v = ap (λ (k : Seen). k.version) z.2 in
    either_of (λ e. 9 ≡ e.version → ⊥) (λ n. omega (arith, n)) (λ n. omega (arith, n)) z.0
    (each_of u (written ∷ made ∷ []) refl z.0 z.1) v

-- it found a word of 3 bytes
found_shorter : OwnStands 3 record kept { looks = look_at 1 24578 ∷ [] } → ⊥
found_shorter x = let u : View = record kept { looks = look_at 1 24578 ∷ [] } in
    let z = x.looked (look_at 1 24578) (inl (inl refl)) (inl refl) (λ e. absurd cc) in
    either_of (λ e. e.len ≡ 3 → ⊥) (λ n. omega (arith, n)) (λ n. omega (arith, n)) z.0
    (each_of u (written ∷ made ∷ []) refl z.0 z.1) z.4

-- it wrote an entry of another's object below the first version
below_the_first : OwnStands 3 record kept { written = entry 0 2 8 [] [] ∷ written ∷ made ∷ [] } → ⊥
below_the_first x = let u : View = record kept { written = entry 0 2 8 [] [] ∷ written ∷ made ∷ [] } in
    let low : 3 ≤ 2 = x.born (entry 0 2 8 [] []) (u, (0, refl), inl refl) in omega (arith, low)

-- it wrote a version twice
written_twice : OwnStands 3 record kept {
  written = entry 1 4 8 (7 ∷ []) (6 ∷ []) ∷ written ∷ made ∷ [];
} → ⊥
written_twice x = let u : View = record kept {
  written = entry 1 4 8 (7 ∷ []) (6 ∷ []) ∷ written ∷ made ∷ [];
} in
    let e = x.same (entry 1 4 8 (7 ∷ []) (6 ∷ [])) written (u, (0, refl), inl refl)
    (u, (0, refl), inr (inl refl)) refl refl in
    absurd (let w : 6 ∷ [] ≡ 9 ∷ [] = ap (λ (k : Entry). k.after) e in cc)

-- it did not write the entry before
from_nothing : OwnStands 3 record kept { written = written ∷ []; seen = [] } → ⊥
from_nothing x = go (x.goes_on written (u, (0, refl), inl refl) (inl refl))
  where
    u : View
    u = record kept { written = written ∷ []; seen = [] }

    only : (e : Entry) → Has e (written ∷ []) → e.version + 1 ≡ 4 → ⊥
    only e (inl is) next = let v = ap (λ (k : Entry). k.version) is in omega (arith, v, next)
    only e (inr none) next = none

    go : EntryGoesOn 3 (record kept { written = written ∷ []; seen = [] } ∷ []) written → ⊥
    go (inl begins) = let v = begins.0 in omega (arith, v)
    go (inr (e, wrote, same, next, past, there, long)) =
        only e (each_of record kept { written = written ∷ []; seen = [] } (written ∷ []) refl e wrote) next
