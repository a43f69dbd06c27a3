-- What a drawn request may be.
use Rattle.std.proofs.Common.{◌≡◌, ℕ, ◌+◌, ◌-◌, ◌<◌, ◌≤◌, ◌==◌, ◌||◌, Bool, true, false, cond, min, nat_lt, List, length, get_or, refl, arith}
use Rattle.std.proofs.lemmas.Bool.Decides.{nat_tests}
use Rattle.std.specs.List.{All}
use Rattle.cb_types.specs.Config.{most_bytes}
use Rattle.cb_types.specs.declared.request.Request.{Request}
use Rattle.cb_types.specs.declared.request.Request.TheVariants as request
use Rattle.cb_gen.specs.Draws.{drawn, state_after}
use Rattle.cb_gen.specs.Drawn.{Drawn, object_name, drawn_make, drawn_write, drawn_seldom, drawn_action}
use Rattle.cb_gen.proofs.Drawing.{bytes_count, bytes_low, drawn_low}

-- The request of a line of the lane, which made objects of these lengths.
pub data IsKind (lane : ℕ) (lengths : List ℕ) : Request → Type 0 where
  makes : (bytes : List ℕ) → 1 ≤ length bytes → length bytes ≤ 120 → All (λ b. b < 256) bytes
      → IsKind lane lengths (request.Make (object_name lane (length lengths)) bytes)
  reads : (object : ℕ) → object < length lengths
      → IsKind lane lengths (request.Read (object_name lane object))
  writes : (object at : ℕ) (bytes : List ℕ) → object < length lengths → at ≤ most_bytes
      → length bytes ≤ most_bytes → All (λ b. b < 256) bytes
      → IsKind lane lengths (request.Write (object_name lane object) at bytes)
  frees : (object : ℕ) → object < length lengths
      → IsKind lane lengths (request.Free (object_name lane object))
  filters : (object : ℕ) → object < length lengths
      → IsKind lane lengths (request.Filter (object_name lane object))
  evicts : IsKind lane lengths request.Evict
  crashes : (node : ℕ) → node < 2 → IsKind lane lengths (request.Crash (record { n = node }))
  joins : (node : ℕ) → node < 2 → IsKind lane lengths (request.Join (record { n = node }))
  rebuilds : IsKind lane lengths request.Rebuild
  compacts : IsKind lane lengths request.Compact

-- what holds of either holds of the one that is taken
pub either : (P : Drawn → Type 0) (b : Bool) (one other : Drawn) → (b ≡ true → P one)
    → (b ≡ false → P other) → P (cond b one other)
either P true one other f g = f refl
either P false one other f g = g refl

module _ (x lane : ℕ) (lengths : List ℕ) where
  abbrev Fits : Drawn → Type 0
  Fits d = IsKind lane lengths d.request

  fits_make : Fits (drawn_make x lane (length lengths))
  fits_make =
      let low = drawn_low x 0 120 (omega arith) in
      let count = bytes_count (state_after x 1) (1 + drawn x 0 120) in
      makes _ (omega (arith, count)) (omega (arith, count, low)) (bytes_low (state_after x 1)
      (1 + drawn x 0 120))

  module _ (some : 1 ≤ length lengths) where
    fits_write : All (λ len. len ≤ 120) lengths → Fits (drawn_write x lane lengths)
    fits_write short =
        let object = drawn x 0 (length lengths) in
        let within : object < length lengths = drawn_low x 0 (length lengths) some in
        let len = get_or lengths object 0 in
        let small : len ≤ 120 = short object 0 within in
        let at = drawn x 1 (len + 1) in
        let at_low : at < len + 1 = drawn_low x 1 (len + 1) (omega arith) in
        let most = min (len - at) 32 + 1 in
        let count = drawn x 2 most in
        let low : count < most = drawn_low x 2 most (omega arith) in
        let all = bytes_count (state_after x 3) count in
        writes object at _ within (omega (arith, at_low, small)) (omega (arith, all, low, small))
        (bytes_low (state_after x 3) count)

    fits_seldom : (what : ℕ) → Fits (drawn_seldom what x lane (length lengths))
    fits_seldom what =
        let within = drawn_low x 0 (length lengths) some in
        let low = drawn_low x 0 2 (omega arith) in
        either Fits (what == 0) _ _ (λ t. frees _ within) (λ f. either Fits (what == 1) _ _
        (λ t. filters _ within) (λ f. either Fits (what == 2) _ _ (λ t. crashes _ low)
        (λ f. either Fits (what == 3) _ _ (λ t. joins _ low)
        (λ f. either Fits (what == 4) _ _ (λ t. rebuilds) (λ f. compacts)))))

one_at_least : (b : Bool) (n : ℕ) → (b || (n == 0)) ≡ false → 1 ≤ n
one_at_least true n e = absurd cc
one_at_least false n e = grind (arith, nat_tests)

-- each action's request is of one of these kinds
pub kind_of : (action x lane : ℕ) (lengths : List ℕ) → All (λ len. len ≤ 120) lengths
    → IsKind lane lengths (drawn_action action x lane lengths).request
kind_of action x lane lengths short =
    let P = Fits x lane lengths in
    either P (nat_lt action 4 || (length lengths == 0)) _ _ (λ t. fits_make x lane lengths) (λ f.
    let some = one_at_least (nat_lt action 4) (length lengths) f in
    either P (nat_lt action 10) _ _ (λ t. reads _ (drawn_low x 0 (length lengths) some))
    (λ f. either P (nat_lt action 14) _ _ (λ t. fits_write x lane lengths some short)
    (λ f. either P (action == 14) _ _ (λ t. evicts)
    (λ f. fits_seldom (state_after x 1) lane lengths some (drawn x 0 6)))))
