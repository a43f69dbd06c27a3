-- Sets that were looked up.
use Rattle.std.proofs.Common.{◌≡◌, ℕ, true, false, Option, None, Some, Bor, is_some, refl, sym, ap, ◌∙◌}
use Rattle.std.specs.Option.{IsSome, option_map}
use Rattle.cb_set.specs.SetState.{SetState}
use Rattle.cb_world.specs.Joining.{JoiningState}
use Rattle.cb_world.specs.Sets.{SetMap, set_in}

pub set_same : (a b : SetState) → Some a ≡ Some b → a ≡ b
set_same a b e = cc

-- the set that was looked up is the one that is there
pub found_set : (o : Option (Bor SetState)) (b : Bor SetState) (x : Option SetState)
    (set : SetState) → option_map (λ s. s.now) o ≡ x → o ≡ Some b → x ≡ Some set → b.now ≡ set
found_set o b x set e f there =
    set_same b.now set (sym (ap (λ q. option_map (λ s. s.now) q) f) ∙ e ∙ there)

pub found_there : (o : Option (Bor SetState)) (b : Bor SetState) (x : Option SetState)
    → option_map (λ s. s.now) o ≡ x → o ≡ Some b → x ≡ Some b.now
found_there o b x e f = sym e ∙ ap (λ q. option_map (λ s. s.now) q) f

-- an option that is some
pub some_pair : (o : Option JoiningState) → is_some o ≡ true → (x : JoiningState) × (o ≡ Some x)
some_pair None e = absurd (no_flag e)
  where
    no_flag : false ≡ true → ⊥
    no_flag e = cc
some_pair (Some x) e = (x, refl)

pub none_pair : (o : Option JoiningState) → is_some o ≡ false → o ≡ None
none_pair None e = refl
none_pair (Some x) e = absurd (no_flag e)
  where
    no_flag : true ≡ false → ⊥
    no_flag e = cc

-- a set that is there is found, and is the one that is there
pub looked_some : (o : Option (Bor SetState)) (inside sets : SetMap) (n m : ℕ) (set : SetState)
    → option_map (λ s. s.now) o ≡ set_in inside n → inside ≡ sets → n ≡ m
    → set_in sets m ≡ Some set → IsSome o
looked_some None inside sets n m set e same at there =
    absurd (none_some (e ∙ (λ i. set_in (same i) (at i)) ∙ there))
  where
    none_some : None ≡ Some set → ⊥
    none_some f = cc
looked_some (Some x) inside sets n m set e same at there = refl

pub looked_up : (o : Option (Bor SetState)) (u : Bor SetState) (inside sets : SetMap) (n m : ℕ)
    (set : SetState) → option_map (λ s. s.now) o ≡ set_in inside n → o ≡ Some u → inside ≡ sets
    → n ≡ m → set_in sets m ≡ Some set → u.now ≡ set
looked_up o u inside sets n m set e f same at there =
    found_set o u (set_in inside n) set e f ((λ i. set_in (same i) (at i)) ∙ there)
