-- The order of groups tells them apart.
use Rattle.std.proofs.Common.{◌≡◌, ℕ, true, nat_cmp, refl}
use Rattle.std.specs.Ordering.{is_eq, ordering_then}
use Rattle.std.specs.declared.cmp.Ordering.{Ordering}
use Rattle.std.specs.declared.cmp.Ordering.TheVariants as is
use Rattle.std.proofs.lemmas.Bool.{false≢true}
use Rattle.std.proofs.lemmas.Map.Lookups.{exact_unsigned}
use Rattle.cb_world.specs.declared.groups.Group.{Group}

-- by k, then by r, then by the pages, then by the live positions
abbrev pub group_cmp : Group → Group → Ordering
group_cmp g h = ordering_then (nat_cmp g.k h.k) (ordering_then (nat_cmp g.r h.r)
    (ordering_then (nat_cmp g.pages h.pages) (nat_cmp g.live h.live)))

is_equal : (o : Ordering) → is_eq o ≡ true → o ≡ is.Equal
is_equal is.Less e = absurd (false≢true e)
is_equal is.Equal e = refl
is_equal is.Greater e = absurd (false≢true e)

both_equal : (a b : Ordering) → is_eq (ordering_then a b) ≡ true
    → (is_eq a ≡ true) × (is_eq b ≡ true)
both_equal is.Less b e = absurd (false≢true e)
both_equal is.Equal b e = (refl, e)
both_equal is.Greater b e = absurd (false≢true e)

same_number : (a b : ℕ) → is_eq (nat_cmp a b) ≡ true → a ≡ b
same_number a b e = exact_unsigned a b (is_equal (nat_cmp a b) e)

pub same_group : (g h : Group) → is_eq (group_cmp g h) ≡ true → g ≡ h
same_group g h e =
    let x = both_equal (nat_cmp g.k h.k) (ordering_then (nat_cmp g.r h.r)
    (ordering_then (nat_cmp g.pages h.pages) (nat_cmp g.live h.live))) e in
    let y = both_equal (nat_cmp g.r h.r)
    (ordering_then (nat_cmp g.pages h.pages) (nat_cmp g.live h.live)) x.1 in
    let z = both_equal (nat_cmp g.pages h.pages) (nat_cmp g.live h.live) y.1 in
    let k = same_number g.k h.k x.0 in let r = same_number g.r h.r y.0 in
    let pages = same_number g.pages h.pages z.0 in let live = same_number g.live h.live z.1 in
    λ i. record { k = k i; r = r i; pages = pages i; live = live i }
