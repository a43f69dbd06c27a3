-- One word after another is written.
use Rattle.std.proofs.Common.{◌≡◌, ◌≢◌, ◌⊎◌, ℕ, ◌+◌, ◌-◌, ◌*◌, ◌/◌, ◌%◌, ◌<◌, ◌≤◌, List, [], ◌∷◌, ◌++◌, length, get_or, set, sym, refl, ap, ◌∙◌, ◌^◌, subst, arith, inl, inr, length-set, get_or-set_other, get_or-set_same}
use native.Mathlib.Decide.{ℕ_discrete}
use Rattle.std.specs.Int.{to_le_bytes, w64}
use Rattle.cb_world.specs.declared.access.Access.{Access}
use Rattle.cb_world.specs.declared.access.Access.TheVariants.{Loaded, Stored}
use Rattle.cb_world.specs.Memory.{memory_byte, window, put, words_for}
use Rattle.cb_world.specs.declared.shown.Shown.{Shown}
use Rattle.cb_world.specs.Played.{Agree, played}
use Rattle.cb_world.specs.Write.{IsWrite, IsWriteBelow}
use Rattle.cb_world.specs.Shown.{Owns, Covers}
use Rattle.cb_world.proofs.Laws.{put_at-windows as put_at, set_put, length_put, played_append, agree_last}
use Rattle.cb_world.specs.StillDesk.{window_length}
use Rattle.cb_mutate.specs.Merged.{IsMixed, IsWordMerged}
use Rattle.cb_mutate.specs.Wordwise.{IsReached, IsWordwise}
use Rattle.cb_mutate.specs.Stores.{AreStores}
use Rattle.cb_world.specs.Claimed.{OwnsAll}

-- the words that were stored so far are those below the word n that the bytes reach
pub record IsWordwiseBelow (n : ℕ) (old : List ℕ) (at count : ℕ) (new : List ℕ) : Type 0 where
  pub from : at < 8 * n + 8
  pub small : (i : ℕ) → i < n → IsReached i at count → get_or new i 0 < 2 ^ 64
  pub others : (i : ℕ) → ¬ ((i < n) × IsReached i at count) → get_or new i 0 ≡ get_or old i 0

pub wordwise_none : (old : List ℕ) (at count : ℕ) → IsWordwiseBelow (at / 8) old at count old
wordwise_none old at count = record {
  from = omega arith;
  small = λ i below reached. absurd (let l = reached.1 in omega (arith, below, l));
  others = λ i off. refl;
}

pub wordwise_more : (old new : List ℕ) (n at count y : ℕ) → IsWordwiseBelow n old at count new
    → n < length new → 8 * n < at + count → y < 2 ^ 64
    → IsWordwiseBelow (n + 1) old at count (set new n y)
wordwise_more old new n at count y w within reaches low = record {
  from = let l = w.from in omega (arith, l);
  small = λ i below reached. small i below reached (ℕ_discrete i n);
  others = λ i off. others i off (ℕ_discrete i n);
}
  where
    small : (i : ℕ) → i < n + 1 → IsReached i at count → Dec (i ≡ n)
        → get_or (set new n y) i 0 < 2 ^ 64
    small i below reached (yes here) =
        subst (λ (x : ℕ). x < 2 ^ 64) (sym (ap (λ (j : ℕ). get_or (set new n y) j 0) here
        ∙ get_or-set_same new n y 0 within)) low
    small i below reached (no other) =
        subst (λ (x : ℕ). x < 2 ^ 64) (sym (get_or-set_other new n i y 0 other))
        (w.small i (omega (arith, below, other)) reached)

    others : (i : ℕ) → ¬ ((i < n + 1) × IsReached i at count) → Dec (i ≡ n)
        → get_or (set new n y) i 0 ≡ get_or old i 0
    others i off (yes here) = absurd (let l = w.from in
        off (omega (arith, here), (omega (arith, here, reaches), omega (arith, here, l))))
    others i off (no other) = get_or-set_other new n i y 0 other
        ∙ w.others i (λ x. off (let l = x.0 in omega (arith, l), x.1))

pub wordwise_all : (n : ℕ) (old : List ℕ) (at count : ℕ) (new : List ℕ) → at + count ≤ 8 * n
    → IsWordwiseBelow n old at count new → IsWordwise old at count new
wordwise_all n old at count new enough w = record {
  small = λ i reached. w.small i (let l = reached.0 in omega (arith, l, enough)) reached;
  others = λ i off. w.others i (λ x. off x.1);
}

-- the byte at a position of the word that was set, and of another
byte_here : (xs : List ℕ) (i y p : ℕ) → i < length xs → p / 8 ≡ i
    → memory_byte (set xs i y) p ≡ get_or (to_le_bytes w64 y) (p % 8) 0
byte_here xs i y p within at =
    ap (λ (w : ℕ). get_or (to_le_bytes w64 w) (p % 8) 0) (ap (λ (j : ℕ). get_or (set xs i y) j 0) at
    ∙ get_or-set_same xs i y 0 within)

byte_else : (xs : List ℕ) (i y p : ℕ) → p / 8 ≢ i → memory_byte (set xs i y) p ≡ memory_byte xs p
byte_else xs i y p apart =
    ap (λ (w : ℕ). get_or (to_le_bytes w64 w) (p % 8) 0) (get_or-set_other xs i (p / 8) y 0 apart)

pub mixed_all : (n : ℕ) (old : List ℕ) (first at : ℕ) (bytes new : List ℕ) → 8 ≤ n
    → IsMixed n old first at bytes new → IsMixed 8 old first at bytes new
mixed_all n old first at bytes new all m = record {
  sized = m.sized;
  bytes_below = m.bytes_below;
  inside = λ j below. m.inside j (omega (arith, below, all));
  outside = λ j below e. m.outside j below (side j below e);
}
  where
    side : (j : ℕ) → j < 8 → (8 ≤ j) ⊎ ((first + j < at) ⊎ (at + length bytes ≤ first + j))
        → (n ≤ j) ⊎ ((first + j < at) ⊎ (at + length bytes ≤ first + j))
    side j below (inl e) = absurd (omega (arith, e, below))
    side j below (inr e) = inr e

pub write_none : (old : List ℕ) (at : ℕ) (bytes : List ℕ)
    → IsWriteBelow (8 * (at / 8)) old at bytes old
write_none old at bytes =
    record {
      sized = refl;
      inside = λ i below e. absurd (omega (arith, e));
      outside =
          λ p below e. refl;
    }

pub write_all : (n : ℕ) (old : List ℕ) (at : ℕ) (bytes new : List ℕ) → at + length bytes ≤ n
    → IsWriteBelow n old at bytes new → IsWrite old at bytes new
write_all n old at bytes new enough w =
    record {
      sized = w.sized;
      inside =
          λ i below. w.inside i below (omega (arith, below, enough));
      outside =
          λ p below e. w.outside p below (inr e);
    }

pub write_more : (old new : List ℕ) (i at : ℕ) (bytes : List ℕ) (y : ℕ)
    → IsWriteBelow (8 * i) old at bytes new → i < length old
    → IsWordMerged (get_or new i 0) (8 * i) at bytes y
    → IsWriteBelow (8 * (i + 1)) old at bytes (set new i y)
write_more old new i at bytes y w within m = record {
  sized = length-set new i y ∙ w.sized;
  inside = λ k below e. inside k below e (ℕ_discrete ((at + k) / 8) i);
  outside = λ p below e. outside p below e (ℕ_discrete (p / 8) i);
}
  where
    inside : (k : ℕ) → k < length bytes → at + k < 8 * (i + 1) → Dec ((at + k) / 8 ≡ i)
        → memory_byte (set new i y) (at + k) ≡ get_or bytes k 0
    inside k below e (yes here) =
        let j = (at + k) % 8 in
        let split : 8 * i + j ≡ at + k = omega (arith, here) in
        let low : j < 8 = omega arith in
        byte_here new i y (at + k) (omega (arith, within, w.sized)) here
        ∙ m.inside j low (omega (arith, split)) (omega (arith, split, below))
        ∙ ap (λ (q : ℕ). get_or bytes q 0) (let z : 8 * i + j - at ≡ k = omega (arith, split) in z)
    inside k below e (no other) = byte_else new i y (at + k) other
        ∙ w.inside k below (let z : (at + k) / 8 ≢ i = other in omega (arith, z, e))

    outside : (p : ℕ) → p < 8 * length old → (8 * (i + 1) ≤ p)
        ⊎ ((p < at) ⊎ (at + length bytes ≤ p)) → Dec (p / 8 ≡ i)
        → memory_byte (set new i y) p ≡ memory_byte old p
    outside p below (inl e) (yes here) = absurd (omega (arith, e, here))
    outside p below (inr e) (yes here) =
        let j = p % 8 in
        let split : 8 * i + j ≡ p = omega (arith, here) in
        let low : j < 8 = omega arith in
        let side : (8 * i + j < at) ⊎ (at + length bytes ≤ 8 * i + j) =
        subst (λ (q : ℕ). (q < at) ⊎ (at + length bytes ≤ q)) (sym split) e in
        byte_here new i y p (omega (arith, within, w.sized)) here ∙ m.outside j low (inr side)
        ∙ ap (λ (q : ℕ). get_or (to_le_bytes w64 (get_or new q 0)) j 0) (sym here)
        ∙ w.outside p below (inr e)
    outside p below (inl e) (no other) = byte_else new i y p other
        ∙ w.outside p below (inl (omega (arith, e)))
    outside p below (inr e) (no other) = byte_else new i y p other ∙ w.outside p below (inr e)

pub stores_more : (es fs : List Access) → AreStores es → AreStores fs → AreStores (es ++ fs)
stores_more [] fs a b = b
stores_more (Loaded p x ∷ es) fs a b = stores_more es fs a b
stores_more (Stored p x ∷ es) fs a b = stores_more es fs a b
stores_more (e ∷ es) fs a b = absurd a

-- what is owned stays owned while the object's words are stored
pub owns_put : (s t : Shown) (place len p : ℕ) (new : List ℕ)
    → t ≡ record s { memory = put s.memory place new } → OwnsAll s place len → Covers place len p
    → Owns t p
owns_put s t place len p new e o covers =
    subst (λ (q : Shown).
    Owns q p) (sym e) (
      subst (λ (n : ℕ).
          p < n) (sym (length_put s.memory place new)) (o p covers).0,
      (o p covers).1,
    )

pub owns_here : (s t : Shown) (place len i : ℕ) (new : List ℕ)
    → t ≡ record s { memory = put s.memory place new } → OwnsAll s place len → i < words_for len
    → Owns t (place + i)
owns_here s t place len i new e o below =
    owns_put s t place len (place + i) new e o (omega arith, omega (arith, below))

pub store_one : (es : List Access) (s : Shown) (place len i at x y : ℕ) (bytes : List ℕ)
    → Agree s (es ++ Loaded (place + i) x ∷ Stored (place + i) y ∷ []) → OwnsAll s place len
    → i < words_for len
    → (new : List ℕ) → IsWriteBelow (8 * i) (window s.memory place (words_for len)) at bytes new
    → IsWordwiseBelow i (window s.memory place (words_for len)) at (length bytes) new
    → 8 * i < at + length bytes → y < 2 ^ 64
    → played es s ≡ record s { memory = put s.memory place new } → IsWordMerged x (8 * i) at bytes y
    → (next : List ℕ)
    × IsWriteBelow (8 * (i + 1)) (window s.memory place (words_for len)) at bytes next
    × IsWordwiseBelow (i + 1) (window s.memory place (words_for len)) at (length bytes) next
    × (played (es ++ Loaded (place + i) x ∷ Stored (place + i) y ∷ []) s ≡ record s {
      memory =
          put s.memory place next;
    })
store_one es s place len i at x y bytes agree o below new w b reaches low e m =
    let length_new : length new ≡ words_for len = w.sized
    ∙ window_length s.memory place (words_for len) in
    let last = o (place + (words_for len - 1)) (omega arith, omega (arith, below)) in
    let told : x ≡ get_or (played es s).memory (place + i) 0 =
    (agree_last es (Loaded (place + i) x ∷ Stored (place + i) y ∷ []) s agree).0
    (owns_here s (played es s) place len i new e o below) in
    let read : x ≡ get_or new i 0 = told ∙ ap (λ (t : Shown). get_or t.memory (place + i) 0) e
    ∙ put_at s.memory place new i (omega (arith, below, length_new)) (omega (
      arith,
      last.0,
      length_new,
      below,
    )) in (
      set new i y,
      write_more (window s.memory place (words_for len)) new i at bytes y w (omega (
        arith,
        below,
        window_length s.memory place (words_for len),
      )) (subst (λ (z : ℕ).
          IsWordMerged z (8 * i) at bytes y) read m),
      wordwise_more (window s.memory place (words_for len)) new i at (length bytes) y b (omega (
        arith,
        below,
        length_new,
      )) reaches low,
      played_append es (Loaded (place + i) x ∷ Stored (place + i) y ∷ []) s
          ∙ ap (λ (t : Shown). let q : Shown = record t { memory = set t.memory (place + i) y } in q) e
          ∙ ap (λ (l : List ℕ). let q : Shown =
          record s { memory = l } in
          q) (set_put s.memory place new i y (omega (arith, below, length_new))),
    )
