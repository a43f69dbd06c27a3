-- A list of which one place was set: what stands there, and that every other place has its item.
use Rattle.std.proofs.Common.{◌≡◌, ◌≢◌, ℕ, ◌<◌, List, length, set, Some, sym, ap, ◌∙◌, arith, length-set, get_or-set_same, get_or-set_other}
use Rattle.std.specs.List.{slice_get}
use Rattle.std.proofs.lemmas.Option.{slice_get-get_or, slice_get_within, get_or_from_slice_get}

pub place_here : {X : Type 0} (xs : List X) (p : ℕ) (x : X) → p < length xs
    → slice_get (set xs p x) p ≡ Some x
place_here xs p x within =
    let n = length-set xs p x in
    slice_get-get_or (set xs p x) p x (omega (arith, n, within))
    ∙ ap Some (get_or-set_same xs p x x within)

pub place_on : {X : Type 0} (xs : List X) (p q : ℕ) (x y : X) → q ≢ p → slice_get xs q ≡ Some y
    → slice_get (set xs p x) q ≡ Some y
place_on xs p q x y off at =
    let n = length-set xs p x in
    let l = slice_get_within xs q y at in
    slice_get-get_or (set xs p x) q x (omega (arith, n, l))
    ∙ ap Some (get_or-set_other xs p q x x off ∙ get_or_from_slice_get xs q y x at)

pub place_back : {X : Type 0} (xs : List X) (p q : ℕ) (x y : X) → q ≢ p
    → slice_get (set xs p x) q ≡ Some y → slice_get xs q ≡ Some y
place_back xs p q x y off at =
    let n = length-set xs p x in
    let l = slice_get_within (set xs p x) q y at in
    slice_get-get_or xs q x (omega (arith, n, l))
    ∙ ap Some (sym (get_or-set_other xs p q x x off) ∙ get_or_from_slice_get (set xs p x) q y x at)
