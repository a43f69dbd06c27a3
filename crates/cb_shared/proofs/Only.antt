-- The one claim of a seat.
use Rattle.std.proofs.Common.{◌≡◌, ℕ, List, [], ◌∷◌, cond, sym, refl, ap, ◌∙◌, subst, inl, eq-eqb}
use Rattle.cb_rule.specs.declared.view.Held.{Held}
use Rattle.cb_rule.specs.Lists.{Has, edited, removed}
use Rattle.cb_rule.specs.Seats.{claims_it}

pub has_only : (x : Held) (l : List Held) → l ≡ x ∷ [] → Has x l
has_only x l e = subst (Has x) (sym e) (inl refl)

pub edited_only : (x : Held) (h : ℕ) (f : Held → Held) (l : List Held) → l ≡ x ∷ []
    → x.handle ≡ h → edited (claims_it h) f l ≡ f x ∷ []
edited_only x h f l e is = ap (edited (claims_it h) f) e
    ∙ ap (λ b. cond b (f x ∷ []) (x ∷ [])) (eq-eqb x.handle h is)

pub removed_only : (x : Held) (h : ℕ) (l : List Held) → l ≡ x ∷ [] → x.handle ≡ h
    → removed (claims_it h) l ≡ []
removed_only x h l e is = ap (removed (claims_it h)) e
    ∙ ap (λ b. cond b [] (x ∷ [])) (eq-eqb x.handle h is)
