-- No version is above the number of calls.
use Rattle.std.proofs.Common.{◌≡◌, ◌⊎◌, ℕ, ◌+◌, ◌≤◌, Bool, true, false, List, [], ◌∷◌, ◌++◌, fold}
use Rattle.std.proofs.Common.{Option, None, Some, refl, sym, ap, ◌∙◌, subst, arith, inl, inr}
use Rattle.std.proofs.Common.{if◌then◌else◌, nat_eq}
use Rattle.std.proofs.lemmas.Bool.{cases_Bool, eqb-true}
use Rattle.cb_model.specs.declared.object.Object.TheVariants.{Held, Freed}
use Rattle.cb_model.specs.Now.{MapNow, Change, changed}
use Rattle.cb_model.specs.Event.{Event, change_of}
use Rattle.cb_model.specs.Event.Event.{Makes, Writes, Frees}
use Rattle.cb_model.specs.Called.{Called, change_to, is_about, makes, value, value_at}
use Rattle.cb_model.specs.Legal.{IsMapReply}
use Rattle.cb_model.specs.Replies.{MapReplies}
use Rattle.cb_model.proofs.Laws.{value-push}
use Rattle.cb_lanes.proofs.Stamps.{version_had}

-- a call makes it at most one higher
one_higher : (handles made : ℕ) (handle : Option ℕ) (now : MapNow) (event : Event)
    → MapReplies 1 handles made handle now event
    → version_had (fold changed now (change_of event)) ≤ version_had now + 1
one_higher handles made handle now (Makes bytes version) m = let one = m.2 in omega (arith, one)
one_higher handles made handle None (Writes at bytes version) m = absurd m
one_higher handles made handle (Some (Held v b)) (Writes at bytes version) m =
    let next = m.1 in omega (arith, next)
one_higher handles made handle (Some (Freed v)) (Writes at bytes version) m = absurd m
one_higher handles made handle None (Frees version) m = absurd m
one_higher handles made handle (Some (Held v b)) (Frees version) m = omega (arith, m)
one_higher handles made handle (Some (Freed v)) (Frees version) m = absurd m
one_higher handles made handle now event m = omega arith

pub version_more : (handles : ℕ) (calls : List Called) (c : Called) (h n : ℕ)
    → IsMapReply 1 handles calls c → version_had (value calls h) ≤ n
    → version_had (value (calls ++ c ∷ []) h) ≤ n + 1
version_more handles calls c h n reply low =
    let same = ap version_had (value-push calls c h) in
    let z = by c.handle refl in omega (arith, same, z, low)
  where
    changes : Bool → List (ℕ × Change)
    changes b = if b then change_of c.event else []

    after : List (ℕ × Change) → ℕ
    after cs = version_had (fold changed (value calls h) cs)

    still : (b : Bool) → b ≡ false → after (changes b) ≤ version_had (value calls h) + 1
    still true e = absurd cc
    still false e = omega arith

    on : (k : ℕ) → c.handle ≡ Some k → (nat_eq h k ≡ true) ⊎ (nat_eq h k ≡ false)
        → after (changes (nat_eq h k)) ≤ version_had (value calls h) + 1
    on k e (inl same) =
        let at : Some h ≡ c.handle = ap Some (eqb-true h k same) ∙ sym e in
        subst (λ (b : Bool). after (changes b) ≤ version_had (value calls h) + 1) (sym same)
        (one_higher handles (makes calls) (Some h) (value calls h) c.event
        (subst (λ (o : Option ℕ). MapReplies 1 handles (makes calls) o (value_at calls o) c.event)
        (sym at)
        reply.reply))
    on k e (inr off) = still (nat_eq h k) off

    by : (o : Option ℕ) → c.handle ≡ o → after (change_to h c) ≤ version_had (value calls h) + 1
    by None e = subst (λ (o : Option ℕ). after (changes (is_about h o)) ≤ version_had
        (value calls h) + 1)
        (sym e) (omega arith)
    by (Some k) e = subst (λ (o : Option ℕ). after (changes (is_about h o)) ≤ version_had
        (value calls h) + 1)
        (sym e) (on k e (cases_Bool (nat_eq h k)))
