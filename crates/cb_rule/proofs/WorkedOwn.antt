-- Worked own handles: what meets each definition, and what breaks one of its parts alone.
use Rattle.std.proofs.Common.{◌≡◌, ◌≢◌, ◌⊎◌, ℕ, zero, suc, ◌<◌, true, false, List, [], ◌∷◌, length}
use Rattle.std.proofs.Common.{sym, refl, ap, subst, inl, inr, ⊎_elim, arith}
use mathlib.Core.Option.{some, some-injective, some-ne-none}
use lib.ListN.{get_elem?}
use Rattle.cb_world.specs.declared.entry.Entry.{Entry}
use Rattle.cb_world.specs.declared.object.Object.{Object}
use Rattle.cb_world.specs.declared.object.Object.TheVariants as is
use Rattle.cb_world.specs.declared.shown.Shown.{Shown}
use Rattle.cb_world.specs.Shown.{never}
use Rattle.cb_world.specs.Written.{entry}
use Rattle.cb_rule.specs.declared.view.View.{View}
use Rattle.cb_rule.specs.Lists.{Has}
use Rattle.cb_rule.specs.Own.{AreBound, AreOwn, IsAlone, IsOwn, Make, MayWrite, traces}
use Rattle.cb_rule.specs.Steps.{blank, freed_seen, held_at, joined, left_of, right_of, stand}
use Rattle.cb_rule.proofs.WorkedHistory.{made, other, written}
use Rattle.cb_rule.proofs.WorkedViews.{pair_of}

-- ---- one seat made object 0, the other made object 1 and wrote it
abbrev pub mine : View
mine = record (blank pair_of) { share = 40; written = other ∷ []; own = 0 ∷ [] }

abbrev pub yours : View
yours = record (blank pair_of) { share = 24; written = written ∷ made ∷ []; own = 1 ∷ [] }

two_traces : traces 1 yours ≡ 2
two_traces = refl

nothing : (h : ℕ) → Make 3 h [] → ⊥
nothing h m = omega (arith, m)

are_own : AreOwn 3 (mine ∷ yours ∷ [])
are_own = record { made = makes; alone = apart; idle = rests }
  where
    both : (P : View → Type 0) → P mine → P yours → (j : ℕ) (u : View)
        → get_elem? (mine ∷ yours ∷ []) j ≡ some u → P u
    both P p q zero u e = subst P (some-injective mine u e) p
    both P p q (suc zero) u e = subst P (some-injective yours u e) q
    both P p q (suc (suc j)) u e = absurd (some-ne-none u (sym e))

    makes : (j : ℕ) (u : View) → get_elem? (mine ∷ yours ∷ []) j ≡ some u → (h : ℕ) → Has h u.own
        → Make 3 h u.written
    makes = both (λ u. (h : ℕ) → Has h u.own → Make 3 h u.written)
        (λ h has. of 0 (other ∷ []) h (omega arith) has)
        (λ h has. of 1 (written ∷ made ∷ []) h (omega arith) has)
      where
        of : (k : ℕ) (es : List Entry) (h : ℕ) → Make 3 k es → Has h (k ∷ []) → Make 3 h es
        of k es h m has = ⊎_elim (λ (e : k ≡ h). subst (λ (i : ℕ). Make 3 i es) e m)
            (λ (n : ⊥). absurd n) has

    only : (k : ℕ) (u w : View) (h : ℕ) → u.own ≡ k ∷ [] → u.fresh ≡ [] → traces k w ≡ 0
        → IsOwn 3 h u → traces h w ≡ 0
    only k u w h own fresh none is_own = ⊎_elim
        (λ (has : Has h u.own). ⊎_elim (λ (e : k ≡ h). subst (λ (i : ℕ). traces i w ≡ 0) e none)
        (λ (n : ⊥). absurd n) (subst (Has h) own has))
        (λ (m : Make 3 h u.fresh). absurd (nothing h (subst (Make 3 h) fresh m))) is_own

    apart : (i : ℕ) (u : View) → get_elem? (mine ∷ yours ∷ []) i ≡ some u → (j : ℕ) (w : View)
        → get_elem? (mine ∷ yours ∷ []) j ≡ some w → j ≢ i → (h : ℕ) → IsOwn 3 h u
        → traces h w ≡ 0
    apart zero u here zero w there ne h own = absurd (ne refl)
    apart zero u here (suc zero) w there ne h own =
        subst (λ (x : View). traces h x ≡ 0) (some-injective yours w there)
        (only 0 mine yours h refl refl refl
        (subst (IsOwn 3 h) (sym (some-injective mine u here)) own))
    apart zero u here (suc (suc j)) w there ne h own = absurd (some-ne-none w (sym there))
    apart (suc zero) u here zero w there ne h own =
        subst (λ (x : View). traces h x ≡ 0) (some-injective mine w there)
        (only 1 yours mine h refl refl refl
        (subst (IsOwn 3 h) (sym (some-injective yours u here)) own))
    apart (suc zero) u here (suc zero) w there ne h own = absurd (ne refl)
    apart (suc zero) u here (suc (suc j)) w there ne h own = absurd (some-ne-none w (sym there))
    apart (suc (suc i)) u here j w there ne h own = absurd (some-ne-none u (sym here))

    rests : (j : ℕ) (u : View) → get_elem? (mine ∷ yours ∷ []) j ≡ some u → u.holds ≡ false
        → u.fresh ≡ []
    rests = both (λ u. u.holds ≡ false → u.fresh ≡ []) (λ _. refl) (λ _. refl)

-- what it did not make is not its own
not_made : AreOwn 3 (record mine { own = 1 ∷ [] } ∷ []) → ⊥
not_made r = nothing 1 (r.made 0 record mine { own = 1 ∷ [] } refl 1 (inl refl))

-- another seat wrote it, read it, pins it or claims it
shared : (w : View) → 0 < traces 0 w → AreOwn 3 (mine ∷ w ∷ []) → ⊥
shared w some_of r = let none = r.alone 0 mine refl 1 w refl (λ e. omega (arith, e)) 0
    (inl (inl refl)) in omega (arith, some_of, none)

written_elsewhere : AreOwn 3 (mine ∷ record yours { written = entry 0 4 8 [] [] ∷ [] } ∷ []) → ⊥
written_elsewhere = shared record yours { written = entry 0 4 8 [] [] ∷ [] } (omega arith)

read_elsewhere : AreOwn 3 (mine ∷ record yours { seen = freed_seen 0 4 ∷ [] } ∷ []) → ⊥
read_elsewhere = shared record yours { seen = freed_seen 0 4 ∷ [] } (omega arith)

pinned_elsewhere : AreOwn 3 (mine ∷ record yours { pins = stand 0 8 0 3 [] ∷ [] } ∷ []) → ⊥
pinned_elsewhere = shared record yours { pins = stand 0 8 0 3 [] ∷ [] } (omega arith)

claimed_elsewhere : AreOwn 3 (mine ∷ record yours { claims = held_at 0 65538 3 [] ∷ [] } ∷ []) → ⊥
claimed_elsewhere = shared record yours { claims = held_at 0 65538 3 [] ∷ [] } (omega arith)

-- so while the turn that makes it runs
abbrev making : View
making = record (blank pair_of) { share = 40; holds = true; fresh = other ∷ [] }

read_while_made : AreOwn 3 (making ∷ record yours { seen = freed_seen 0 4 ∷ [] } ∷ []) → ⊥
read_while_made r = let none = r.alone 0 making refl 1 record yours { seen = freed_seen 0 4 ∷ [] }
    refl (λ e. omega (arith, e)) 0 (inr (let z : Make 3 0 making.fresh = omega arith in z)) in
    omega (arith, none)

-- entries of a turn stand with a seat that does not hold the lock
no_turn : AreOwn 3 (record making { holds = false } ∷ []) → ⊥
no_turn r = let e : 1 ≡ 0 =
    ap (λ (xs : List Entry). length xs) (r.idle 0 record making { holds = false } refl refl) in
    omega (arith, e)

-- what a turn wrote of an object counts while it runs
written_by_a_turn : AreOwn 3 (mine ∷ record yours { holds = true; fresh = entry 0 4 8 [] [] ∷ [] }
    ∷ []) → ⊥
written_by_a_turn = shared record yours { holds = true; fresh = entry 0 4 8 [] [] ∷ [] }
    (omega arith)

-- ---- the holder may write what it has an entry of, and what was never made
abbrev two_objects : ℕ → Shown
two_objects n = record {
  first = 3;
  objects = never ∷ is.Far 8 4 (9 ∷ []) ∷ [];
  hots = [];
  versions = 0 ∷ n ∷ [];
  memory = [];
}

writes_known : MayWrite 1 (two_objects 4) yours
writes_known = inl (omega arith)

writes_new : MayWrite 0 (two_objects 4) (blank pair_of)
writes_new = inr refl

abbrev is_far : Object → ℕ
is_far (is.Empty v) = 0
is_far (is.Far n v words) = 1
is_far (is.Here n place) = 0
is_far (is.Claimed n place v words) = 0

writes_unknown : MayWrite 1 (two_objects 4) mine → ⊥
writes_unknown m = ⊎_elim (λ (n : 0 < 0). omega (arith, n))
    (λ (e : is.Far 8 4 (9 ∷ []) ≡ never).
    let z : 1 ≡ 0 = ap is_far e in omega (arith, z)) m

-- so the version word of another is its last version, and that of one which it may write is any
bound_last : AreBound pair_of (two_objects 4) (record mine { holds = true } ∷ [])
bound_last zero l = inl refl
bound_last (suc zero) l = inl refl
bound_last (suc (suc h)) l = absurd (omega (arith, l))

bound_known : AreBound pair_of (two_objects 5) (record yours { holds = true } ∷ [])
bound_known zero l = inl refl
bound_known (suc zero) l = inr (inr (omega arith))
bound_known (suc (suc h)) l = absurd (omega (arith, l))

stamped_by_none : AreBound pair_of (two_objects 5) (yours ∷ []) → ⊥
stamped_by_none b = ⊎_elim (λ (e : 5 ≡ 4). omega (arith, e))
    (λ (o : (is.Far 8 4 (9 ∷ []) ≡ never) ⊎ (0 < 0)). ⊎_elim
    (λ (e : is.Far 8 4 (9 ∷ []) ≡ never). let z : 1 ≡ 0 = ap is_far e in omega (arith, z))
    (λ (n : 0 < 0). omega (arith, n)) o) (b 1 (omega arith))

-- ---- no other seat has the object
with_all : IsAlone 1 record (blank pair_of) { share = 64 }
with_all = inl refl

with_own : IsAlone 1 yours
with_own = inr (inl refl)

neither : IsAlone 0 yours → ⊥
neither a = ⊎_elim (λ (e : 24 ≡ 64). omega (arith, e))
    (λ (has : Has 0 (1 ∷ [])). ⊎_elim (λ (e : 1 ≡ 0). omega (arith, e)) (λ (n : ⊥). n) has) a

-- ---- split and joined, neither has own objects
split_keeps_none : (left_of 4 yours).own ≡ []
split_keeps_none = refl

split_gives_none : (right_of 4 yours).own ≡ []
split_gives_none = refl

joined_has_none : (joined yours mine).own ≡ []
joined_has_none = refl
