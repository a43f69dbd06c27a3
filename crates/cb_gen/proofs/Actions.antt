-- Which request an action has.
use Rattle.std.proofs.Common.{◌≡◌, ℕ, ◌+◌, ◌<◌, ◌==◌, ◌||◌, true, false, nat_lt, List, [], ◌∷◌, length, refl, sym, suc, zero, arith}
use Rattle.std.specs.List.{All}
use Rattle.cb_gen.specs.Draws.{next_state, state_after, drawn}
use Rattle.cb_gen.specs.Drawn.{Drawn, drawn_action, drawn_make, drawn_seldom, drawn_write, length_made}
use Rattle.cb_gen.proofs.Drawing.{bytes_count, drawn_low}
use Rattle.cb_gen.proofs.RequestKinds.{either}

module _ (action x lane : ℕ) (lengths : List ℕ) where
  pub action_makes : (nat_lt action 4 || (length lengths == 0)) ≡ true
      → drawn_action action x lane lengths ≡ drawn_make x lane (length lengths)
  action_makes is = rw is refl

  pub action_writes : (nat_lt action 4 || (length lengths == 0)) ≡ false
      → nat_lt action 10 ≡ false → nat_lt action 14 ≡ true
      → drawn_action action x lane lengths ≡ drawn_write x lane lengths
  action_writes a b c = rw (a, b, c) refl

  pub action_seldom : (what y : ℕ) → what ≡ drawn x 0 6 → y ≡ next_state x
      → (nat_lt action 4 || (length lengths == 0)) ≡ false → nat_lt action 10 ≡ false
      → nat_lt action 14 ≡ false → (action == 14) ≡ false
      → drawn_action action x lane lengths ≡ drawn_seldom what y lane (length lengths)
  action_seldom what y is left a b c d =
      rw (a, b, c, d) (λ i. drawn_seldom (sym is i) (sym left i) lane (length lengths))

  abbrev IsShort : Drawn → Type 0
  IsShort d = All (λ len. len < 256) (length_made d.request)

  none_long : All (λ len. len < 256) []
  none_long k d within = absurd (omega (arith, within))

  one_short : (len : ℕ) → len < 256 → All (λ n. n < 256) (len ∷ [])
  one_short len short zero d within = short
  one_short len short (suc k) d within = absurd (omega (arith, within))

  seldom_short : (what y : ℕ) → IsShort (drawn_seldom what y lane (length lengths))
  seldom_short what y =
      either IsShort (what == 0) _ _ (λ t. none_long) (λ f. either IsShort (what == 1) _ _
      (λ t. none_long) (λ f. either IsShort (what == 2) _ _ (λ t. none_long)
      (λ f. either IsShort (what == 3) _ _ (λ t. none_long)
      (λ f. either IsShort (what == 4) _ _ (λ t. none_long) (λ f. none_long)))))

  -- what is made is short
  pub made_short : IsShort (drawn_action action x lane lengths)
  made_short =
      let count = 1 + drawn x 0 120 in
      let low = drawn_low x 0 120 (omega arith) in
      either IsShort (nat_lt action 4 || (length lengths == 0)) _ _ (λ t. one_short _
      (omega (arith, low, bytes_count (state_after x 1) count)))
      (λ f. either IsShort (nat_lt action 10) _ _ (λ t. none_long)
      (λ f. either IsShort (nat_lt action 14) _ _ (λ t. none_long)
      (λ f. either IsShort (action == 14) _ _ (λ t. none_long)
      (λ f. seldom_short (drawn x 0 6) (state_after x 1)))))
