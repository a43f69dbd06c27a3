-- Worked examples of how the words of an object stand: what meets each definition, and what breaks
-- one part.
use Rattle.std.proofs.Common.{ℕ, true, List, [], ◌∷◌, get_or, refl, ap, sym, inr, true≢false, lit<}
use Rattle.std.proofs.Common.{lit≤, arith}
use Rattle.std.proofs.lemmas.Bool.{eqb-false}
use Rattle.cb_types.specs.declared.config.Config.{Config}
use Rattle.cb_ptr.specs.Word.{state_number}
use Rattle.cb_world.specs.Memory.{IsPacked, window}
use Rattle.cb_rule.specs.History.{Value, holding_words, no_value}
use Rattle.cb_rule.specs.Stands.{IsCalm, IsClaimedBySeat, IsHolding, IsKeptByHolder, IsShared}

-- two objects
abbrev pub two : Config
two = record { k = 1; r = 1; nodes = 2; frames = 1; room = 6; handles = 2; turns = 0 }

-- the pointer word of an object of 8 bytes at place 0: Here without pins, with one pin (and hot),
-- and Moving
abbrev pub here : ℕ
here = 65538

abbrev pub pinned : ℕ
pinned = 65550

abbrev pub moving : ℕ
moving = 65539

-- the words of a table: the lock, two pointer words, two version words, a memory word
abbrev pub table : ℕ → ℕ → ℕ → List ℕ
table pointer version memory = 0 ∷ 0 ∷ pointer ∷ 0 ∷ version ∷ memory ∷ []

abbrev pub seven : Value
seven = holding_words 8 (7 ∷ [])

-- ---- an object that no one claims
calm : IsCalm two (table here 3 7) 1 0 0 3 seven 8 0
unfolding window
calm = record {
  no_claims = refl;
  state = refl;
  count = refl;
  warm = λ pos. absurd (omega arith);
  stamped = refl;
  words = refl;
}

calm_pinned : IsCalm two (table pinned 3 7) 1 1 0 3 seven 8 0
unfolding window
calm_pinned = record {
  no_claims = refl;
  state = refl;
  count = refl;
  warm = λ pos. refl;
  stamped = refl;
  words = refl;
}

not_claimed : IsCalm two (table here 3 7) 1 0 1 3 seven 8 0 → ⊥
not_claimed k = let e = k.no_claims in omega arith

not_moving : IsCalm two (table moving 3 7) 1 0 0 3 seven 8 0 → ⊥
not_moving k = eqb-false 3 2 refl (ap state_number k.state)

-- a pin that the word does not count
not_uncounted : IsCalm two (table here 3 7) 1 1 0 3 seven 8 0 → ⊥
not_uncounted k = eqb-false 0 1 refl (k.count)

-- a pin on a word that is not hot
not_cold : IsCalm two (table 65546 3 7) 1 1 0 3 seven 8 0 → ⊥
not_cold k = true≢false (sym (k.warm (lit≤ tt)))

not_stamped : IsCalm two (table here 4 7) 1 0 0 3 seven 8 0 → ⊥
not_stamped k = eqb-false 4 3 refl (k.stamped)

not_laid : IsCalm two (table here 3 8) 1 0 0 3 seven 8 0 → ⊥
unfolding window
not_laid k = eqb-false 8 7 refl (ap (λ (xs : List ℕ). get_or xs 0 0) k.words)

-- ---- one that a seat claims
taken : IsClaimedBySeat (table moving 4 9) 1 0 1
taken = record { one_claim = refl; no_pins = refl; state = refl; bare = refl }

not_twice : IsClaimedBySeat (table moving 4 9) 1 0 2 → ⊥
not_twice k = let e = k.one_claim in omega arith

not_pinned : IsClaimedBySeat (table moving 4 9) 1 1 1 → ⊥
not_pinned k = let e = k.no_pins in omega arith

not_here : IsClaimedBySeat (table here 4 9) 1 0 1 → ⊥
not_here k = eqb-false 2 3 refl (ap state_number k.state)

not_bare : IsClaimedBySeat (table 65547 4 9) 1 0 1 → ⊥
not_bare k = eqb-false 1 0 refl (k.bare)

-- ---- either of them lies there; the holder may have known an older version word
packed : (n : ℕ) → IsPacked 8 (n ∷ [])
packed n p low high = absurd (omega (arith, low, high))

shared : IsShared two 1 (table moving 4 9) 1 0 1 3 seven 2 8 0
shared = record {
  born = lit≤ tt;
  held = refl;
  packed = packed 7;
  low = lit≤ tt;
  word = inr taken;
}

not_born : IsShared two 4 (table moving 4 9) 1 0 1 3 seven 2 8 0 → ⊥
not_born k = let e = k.born in omega arith

not_freed : IsShared two 1 (table moving 4 9) 1 0 1 3 (record seven { freed = true }) 2 8 0 → ⊥
not_freed k = true≢false (ap (λ (v : Value). v.freed) k.held)

-- an object of 3 bytes with a fourth one in its word
not_packed : IsShared two 1 (table moving 4 9) 1 0 1 3 (holding_words 3 (16777216 ∷ [])) 2 3 0 → ⊥
not_packed k = eqb-false 1 0 refl (k.packed 3 (lit≤ tt) (lit< tt))

not_known : IsShared two 1 (table moving 4 9) 1 0 1 3 seven 4 8 0 → ⊥
not_known k = let e = k.low in omega arith

-- ---- one that the holder alone may change
kept : IsKeptByHolder two (table 65537 4 0) 1 0 0 3 seven 4 3 seven
kept = record { no_pins = refl; no_claims = refl; stamped = refl; at = refl; has = refl }

not_kept_pinned : IsKeptByHolder two (table 65537 4 0) 1 1 0 3 seven 4 3 seven → ⊥
not_kept_pinned k = let e = k.no_pins in omega arith

not_kept_claimed : IsKeptByHolder two (table 65537 4 0) 1 0 1 3 seven 4 3 seven → ⊥
not_kept_claimed k = let e = k.no_claims in omega arith

not_kept_stamped : IsKeptByHolder two (table 65537 4 0) 1 0 0 3 seven 3 3 seven → ⊥
not_kept_stamped k = eqb-false 4 3 refl (k.stamped)

not_last : IsKeptByHolder two (table 65537 4 0) 1 0 0 2 seven 4 3 seven → ⊥
not_last k = let e = k.at in omega arith

not_contents : IsKeptByHolder two (table 65537 4 0) 1 0 0 3 seven 4 3 no_value → ⊥
not_contents k = true≢false (sym (ap (λ (v : Value). v.freed) k.has))

-- and has contents
holding : IsHolding two 1 (table 65537 4 0) 1 0 0 3 seven 4 8 3 (7 ∷ [])
holding = record { kept = kept; born = lit≤ tt; packed = packed 7 }

not_holding_born : IsHolding two 4 (table 65537 4 0) 1 0 0 3 seven 4 8 3 (7 ∷ []) → ⊥
not_holding_born k = let e = k.born in omega arith

not_holding_packed : IsHolding two 1 (table 65537 4 0) 1 0 0 3 (holding_words 3 (16777216 ∷ [])) 4
    3 3 (16777216 ∷ []) → ⊥
not_holding_packed k = eqb-false 1 0 refl (k.packed 3 (lit≤ tt) (lit< tt))
