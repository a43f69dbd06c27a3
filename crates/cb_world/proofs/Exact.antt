-- At the still desk, what was found and told is what there was.
use Rattle.std.proofs.Common.{◌≡◌, ℕ, ◌+◌, List, [], ◌∷◌, ◌++◌, get_or, set, sym, refl, ap, ◌∙◌, subst, inl, inr, get_or-set_other}
use Rattle.cb_ptr.specs.Word.{len_of, place_of}
use Rattle.cb_world.specs.declared.access.Access.{Access}
use Rattle.cb_world.specs.declared.access.Access.TheVariants.{Looked, Claimed, Told, Loaded, Stored, Stamped, Settled}
use Rattle.cb_world.specs.Memory.{window, words_for}
use Rattle.cb_world.specs.Plain.{Words, Plain}
use Rattle.cb_world.specs.Looks.{NoLook, NoClaim, IsFound, IsTaken, AreLooks, LooksFirst}

not_seen : (h w : ℕ) (es : List Access) → NoLook h es → IsFound h w es → ⊥
not_seen h w [] none found = found
not_seen h w (e ∷ es) none (inl found) = not_seen h w es none.1 found
not_seen h w (e ∷ es) none (inr found) = none.0 w found.0

pub found_exact : (es : List Access) (x y : Words) (h w : ℕ) → Plain x es y → LooksFirst es
    → IsFound h w es → get_or x.words h 0 ≡ w
found_exact [] x y h w run first found = absurd found
found_exact (Looked k u ∷ es) x y h w run first (inl found) =
    found_exact es x y h w run.1 first found
found_exact (Looked k u ∷ es) x y h w run first (inr found) =
    ap (λ (i : ℕ). get_or x.words i 0) (sym found.0.0) ∙ run.0.0 ∙ found.0.1
found_exact (Claimed k u v xs ∷ es) x y h w run first (inl found) =
    sym (get_or-set_other x.words k h (u + 1) 0 (λ e.
    not_seen h w es (subst (λ (i : ℕ). NoLook i es) (sym e) first.0) found))
    ∙ found_exact es (record x { words = set x.words k (u + 1) }) y h w run.1 first.1 found
found_exact (Claimed k u v xs ∷ es) x y h w run first (inr found) =
    ap (λ (i : ℕ). get_or x.words i 0) (sym found.0.0) ∙ run.0.found ∙ found.0.1
found_exact (Told k v ∷ es) x y h w run first (inl found) = found_exact es x y h w run.1 first found
found_exact (Told k v ∷ es) x y h w run first (inr found) = absurd found.0
found_exact (Loaded p u ∷ es) x y h w run first (inl found) =
    found_exact es x y h w run.1 first found
found_exact (Loaded p u ∷ es) x y h w run first (inr found) = absurd found.0
found_exact (Stored p u ∷ es) x y h w run first (inl found) =
    found_exact es (record x { memory = set x.memory p u }) y h w run first.1 found
found_exact (Stored p u ∷ es) x y h w run first (inr found) = absurd found.0
found_exact (Stamped k v ∷ es) x y h w run first (inl found) =
    found_exact es (record x { versions = set x.versions k v }) y h w run first.1 found
found_exact (Stamped k v ∷ es) x y h w run first (inr found) = absurd found.0
found_exact (Settled k u ∷ es) x y h w run first (inl found) =
    sym (get_or-set_other x.words k h u 0 (λ e.
    not_seen h w es (subst (λ (i : ℕ). NoLook i es) (sym e) first.0) found))
    ∙ found_exact es (record x { words = set x.words k u }) y h w run.1 first.1 found
found_exact (Settled k u ∷ es) x y h w run first (inr found) = absurd found.0

not_taken : (h v : ℕ) (words : List ℕ) (es : List Access) → NoClaim es → IsTaken h v words es → ⊥
not_taken h v words [] none taken = taken
not_taken h v words (Claimed k w u xs ∷ es) none taken = none
not_taken h v words (e ∷ es) none taken = not_taken h v words es none taken

-- the contents that a claim told are those of the words at the start
pub taken_exact : (es : List Access) (x y : Words) (h v : ℕ) (words : List ℕ) → Plain x es y
    → LooksFirst es → IsTaken h v words es
    → (w : ℕ) × IsFound h w es × (v ≡ get_or x.versions h 0)
    × (words ≡ window x.memory (place_of w) (words_for (len_of w)))
taken_exact [] x y h v words run first taken = absurd taken
taken_exact (Looked k u ∷ es) x y h v words run first taken = let t =
    taken_exact es x y h v words run.1 first taken in (t.0, inl t.1, t.2, t.3)
taken_exact (Claimed k u z xs ∷ es) x y h v words run first (inl taken) =
    let t = taken_exact es (record x {
      words =
          set x.words k (u + 1);
    }) y h v words run.1 first.1 taken in (t.0, inl t.1, t.2, t.3)
taken_exact (Claimed k u z xs ∷ es) x y h v words run first (inr taken) = (
  u,
  inr ((taken.0, refl), subst (λ (i : ℕ). NoLook i es) taken.0 first.0),
  sym taken.1
      ∙ sym run.0.version ∙ ap (λ (i : ℕ). get_or x.versions i 0) taken.0,
  sym taken.2
      ∙ run.0.contents,
)
taken_exact (Told k u ∷ es) x y h v words run first taken = let t =
    taken_exact es x y h v words run.1 first taken in (t.0, inl t.1, t.2, t.3)
taken_exact (Loaded p u ∷ es) x y h v words run first taken = let t =
    taken_exact es x y h v words run.1 first taken in (t.0, inl t.1, t.2, t.3)
taken_exact (Stored p u ∷ es) x y h v words run first taken =
    absurd (not_taken h v words es first.0 taken)
taken_exact (Stamped k u ∷ es) x y h v words run first taken =
    absurd (not_taken h v words es first.0 taken)
taken_exact (Settled k u ∷ es) x y h v words run first taken =
    let t = taken_exact es (record x { words = set x.words k u }) y h v words run.1 first.1 taken in
    (t.0, inl t.1, t.2, t.3)

pub first_claim : (h w v : ℕ) (words : List ℕ) (before es : List Access) → AreLooks h before
    → NoLook h es → LooksFirst es → LooksFirst ((before ++ Claimed h w v words ∷ []) ++ es)
first_claim h w v words [] es a b c = (b, c)
first_claim h w v words (Looked k x ∷ before) es a b c = first_claim h w v words before es a.1 b c
first_claim h w v words (e ∷ before) es a b c = absurd a

pub first_look : (h w : ℕ) (before es : List Access) → AreLooks h before → LooksFirst es
    → LooksFirst ((before ++ Looked h w ∷ []) ++ es)
first_look h w [] es a c = c
first_look h w (Looked k x ∷ before) es a c = first_look h w before es a.1 c
first_look h w (e ∷ before) es a c = absurd a
