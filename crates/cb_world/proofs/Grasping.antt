-- A second claim decides.
use Rattle.std.proofs.Common.{◌≡◌, ◌≢◌, ℕ, Bool, true, false, ◌<◌, [], ◌∷◌, length, get_or, set, sym, refl, ap, ◌∙◌, arith, get_or-set_same, length-set}
use Rattle.cb_ptr.specs.Word.{hot_of, flag_number}
use Rattle.cb_ptr.proofs.Laws.{same_but_hot}
use Rattle.cb_world.specs.declared.object.Object.{Object}
use Rattle.cb_world.specs.declared.object.Object.TheVariants as is
use Rattle.cb_world.specs.declared.access.Access.TheVariants.{Looked}
use Rattle.cb_world.specs.declared.shown.Shown.{Shown}
use Rattle.cb_world.specs.Shown.{Fits, object_at}
use Rattle.cb_world.specs.Played.{Agree}
use Rattle.cb_world.specs.Grasped.{IsFree}
use Rattle.cb_world.specs.StillDesk.{bits_here, bits_moving}

-- two words of one object that can be claimed and are equally hot are one
one_word : (o : Object) (v w : ℕ) → Fits o v → Fits o w → IsFree v → IsFree w → hot_of v ≡ hot_of w
    → v ≡ w
one_word (is.Empty u) v w a b p q e = a ∙ sym b
one_word (is.Far len u words) v w a b p q e =
    absurd (let x = bits_here v p.0 in let y = a.0 in omega (arith, x, y))
one_word (is.Here len place) v w a b p q e =
    let near =
    same_but_hot v w a.0 b.0 (p.0 ∙ sym q.0) (p.1 ∙ sym q.1) (a.1 ∙ sym b.1) (a.2 ∙ sym b.2) in
    let flags = ap flag_number e in omega (arith, near, flags)
one_word (is.Claimed len place u words) v w a b p q e =
    absurd (let x = bits_here v p.0 in let y = bits_moving v a.4 in omega (arith, x, y))

pub second_decides : (o : Object) (saw found last : ℕ) → Fits o saw → Fits o found → Fits o last
    → (hot_of saw ≡ true → hot_of found ≡ true) → (hot_of found ≡ true → hot_of last ≡ true)
    → IsFree saw → IsFree found → found ≢ saw → last ≢ found → IsFree last → ⊥
second_decides o saw found last a b c up₁ up₂ p q raced again r =
    by_hot (hot_of found) (hot_of saw) refl refl
  where
    by_hot : (x y : Bool) → hot_of found ≡ x → hot_of saw ≡ y → ⊥
    by_hot true y e f = again (one_word o last found c b r q (up₂ e ∙ sym e))
    by_hot false false e f = raced (one_word o found saw b a q p (e ∙ sym f))
    by_hot false true e f = raced (one_word o found saw b a q p (up₁ f ∙ sym f))

pub looks_decide : (s : Shown) (h saw found last : ℕ) → h < length s.hots
    → Agree s (Looked h saw ∷ Looked h found ∷ Looked h last ∷ [])
    → IsFree saw → IsFree found → found ≢ saw → last ≢ found → IsFree last → ⊥
looks_decide s h saw found last within a p q raced again =
    let hots = set s.hots h (hot_of saw) in
    let one : get_or hots h false ≡ hot_of saw =
    get_or-set_same s.hots h (hot_of saw) false within in
    let two : get_or (set hots h (hot_of found)) h false ≡ hot_of found =
    get_or-set_same hots h (hot_of found) false (omega (
      arith,
      within,
      length-set s.hots h (hot_of saw),
    )) in
    second_decides (object_at s h) saw found last a.0.0 a.1.0.0 a.1.1.0.0 (λ e.
    a.1.0.1 (one ∙ e)) (λ e. a.1.1.0.1 (two ∙ e)) p q raced again
