-- Lists that are filled one by one from a part of another list.
use Rattle.std.proofs.Common.{◌≡◌, ℕ, zero, suc, ◌+◌, ◌*◌, ◌<◌, ◌≤◌, List, [], ◌∷◌, length, get_or}
use Rattle.std.proofs.Common.{set, sym, refl, ap, ◌∙◌, arith, true≢false, Bool, true, false, Some}
use Rattle.std.proofs.Common.{None, length-set, get_or-set_other, get_or-set_same, replicate}
use Rattle.std.proofs.lemmas.List.{length-replicate}
use native.Mathlib.Decide.{ℕ_discrete}
use mathlib.Core.Option.{some, some-injective, some-ne-none}
use lib.ListN.{get_elem?}
use Rattle.cb_types.specs.declared.config.Config.{Config}
use Rattle.cb_world.specs.Empty.{empty_words}
use Rattle.cb_world.specs.FarState.{FarState}
use Rattle.cb_world.specs.Memory.{window}
use Rattle.cb_world.specs.Plain.{IsSized, Words}
use Rattle.cb_world.specs.StillDesk.{window_length}
use Rattle.cb_world.proofs.Laws.{window_at}
use Rattle.cb_rule.specs.Closing.{desk_of}
use Rattle.cb_rule.specs.Slot.{LockSlot}
use Rattle.cb_rule.specs.Words.{base, stamps}

-- a word that stands there
pub read_at : (ws : List ℕ) (i x : ℕ) → get_elem? ws i ≡ some x → x ≡ get_or ws i 0
read_at [] i x e = absurd (some-ne-none x (sym e))
read_at (w ∷ ws) zero x e = sym (some-injective w x e)
read_at (w ∷ ws) (suc i) x e = read_at ws i x e

-- The first n words are those of the other list from p on, and the rest are as they were.
pub record AreWordsFilled (ws : List ℕ) (p n : ℕ) (old new : List ℕ) : Type 0 where
  pub len : length new ≡ length old
  pub below : (i : ℕ) → i < n → get_or new i 0 ≡ get_or ws (p + i) 0
  pub rest : (i : ℕ) → n ≤ i → get_or new i 0 ≡ get_or old i 0

pub none_filled : (ws : List ℕ) (p : ℕ) (old : List ℕ) → AreWordsFilled ws p 0 old old
none_filled ws p old = record {
  len = refl;
  below = λ i l. absurd (omega (arith, l));
  rest = λ i l. refl;
}

pub more_filled : (ws : List ℕ) (p n x : ℕ) (old new : List ℕ) → n < length old
    → x ≡ get_or ws (p + n) 0 → AreWordsFilled ws p n old new
    → AreWordsFilled ws p (n + 1) old (set new n x)
more_filled ws p n x old new within is f = record {
  len = length-set new n x ∙ f.len;
  below = λ i l. elim (ℕ_discrete i n) [
    | yes at ↦ ap (λ (j : ℕ). get_or (set new n x) j 0) at
        ∙ get_or-set_same new n x 0 (let e = f.len in omega (arith, e, within)) ∙ is
        ∙ ap (λ (j : ℕ). get_or ws (p + j) 0) (sym at)
    | no apart ↦ get_or-set_other new n i x 0 apart ∙ f.below i (omega (arith, l, apart))
  ];
  rest = λ i l.
      get_or-set_other new n i x 0 (λ at. absurd (omega (arith, l, at))) ∙ f.rest i (omega (arith, l));
}

-- every word of a list of zeros, and behind it, is 0
pub all_blank : (n i : ℕ) → let z : ℕ = 0 in get_or (replicate n z) i 0 ≡ z
all_blank zero i = refl
all_blank (suc n) zero = refl
all_blank (suc n) (suc i) = all_blank n i

same_lists : (xs ys : List ℕ) → length xs ≡ length ys
    → ((i : ℕ) → i < length xs → get_or xs i 0 ≡ get_or ys i 0) → xs ≡ ys
same_lists [] [] e same = refl
same_lists [] (y ∷ ys) e same = absurd (omega (arith, e))
same_lists (x ∷ xs) [] e same = absurd (omega (arith, e))
same_lists (x ∷ xs) (y ∷ ys) e same =
    (λ i. same 0 (omega arith) i ∷ same_lists xs ys (omega (arith, e))
    (λ k l. same (suc k) (omega (arith, l))) i)

-- all of them are a window of it
pub all_filled : (ws : List ℕ) (p n m : ℕ) (old new : List ℕ) → length old ≡ n → n ≤ m
    → AreWordsFilled ws p m old new → new ≡ window ws p n
all_filled ws p n m old new e more f = let z = f.len in let w = window_length ws p n in
    same_lists new (window ws p n) (omega (arith, z, w, e))
    (λ i l. let below : i < n = omega (arith, l, z, e) in
    f.below i (omega (arith, below, more)) ∙ sym (window_at ws p n i below))

module _ (c : Config) (ws : List ℕ) (d : Words) (settings : d.settings ≡ c) where
  abbrev with_objects : Words
  with_objects = record d {
    words = window ws 1 c.handles;
    versions = window ws (stamps c) c.handles;
  }

  -- a desk with the words of the objects put in is as large as before
  pub objects_sized : IsSized d → IsSized with_objects
  objects_sized sized = record {
    words = window_length ws 1 c.handles ∙ sym (ap (λ (k : Config). k.handles) settings);
    versions = window_length ws (stamps c) c.handles ∙ sym (ap (λ (k : Config). k.handles) settings);
    memory = sized.memory;
  }

  -- with those of the frames put in too it is the desk of the words
  pub all_put : (x z : Words) → x ≡ with_objects
      → z ≡ record x { memory = window ws (base c) (512 * c.frames) } → z ≡ desk_of c ws
  all_put x z a e = e
      ∙ ap (λ (q : Words). let r : Words = record q {
        memory = window ws (base c) (512 * c.frames);
      } in r) a
      ∙ ap (λ (k : Config). let r : Words = record {
        settings = k;
        words = window ws 1 c.handles;
        versions = window ws (stamps c) c.handles;
        memory = window ws (base c) (512 * c.frames);
      } in r) settings

-- the desk of no objects is as large as its configuration says
pub empty_sized : (c : Config) → IsSized (empty_words c)
empty_sized c = record {
  words = length-replicate c.handles 0;
  versions = length-replicate c.handles 0;
  memory = length-replicate (512 * c.frames) 0;
}

-- a far state that stands in a slot is there
abbrev is_there : LockSlot → Bool
is_there None = false
is_there (Some far) = true

pub not_none : (far : FarState) → Some far ≡ None → ⊥
not_none far e = true≢false (ap is_there e)
