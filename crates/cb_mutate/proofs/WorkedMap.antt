-- Worked examples of the plain map beside what objects hold: what meets each definition, and what
-- breaks one part.
use Rattle.std.proofs.Common.{◌≡◌, ◌≢◌, ℕ, zero, suc, List, [], ◌∷◌, None, Some, ne_eqb, refl, arith, lit≤}
use Rattle.cb_types.specs.declared.request.Request.TheVariants.{Make, Write}
use Rattle.cb_types.specs.declared.reply.Reply.TheVariants as answer
use Rattle.cb_model.specs.Called.{Called, value}
use Rattle.cb_model.specs.Event.Event.{Makes, Writes}
use Rattle.cb_model.specs.declared.object.Object.TheVariants.{Held}
use Rattle.cb_world.specs.Now.{Now}
use Rattle.cb_world.specs.Now.Now.{never, held, gone}
use Rattle.cb_mutate.specs.MapBeside.{IsMapOf}
use Rattle.cb_mutate.specs.MapCalls.{IsCallBetween, IsRefusedBetween, IsValue}
use Rattle.cb_mutate.proofs.WriteCall.{write_by}

-- object 0 holds this, and no other was made
abbrev first_holds : Now → ℕ → Now
first_holds n zero = n
first_holds n (suc h) = never

abbrev made : Called
made = record { lane = 0; handle = Some 0; event = Makes (7 ∷ []) 1 }

abbrev written : Called
written = record { lane = 3; handle = Some 0; event = Writes 0 (9 ∷ []) 2 }

-- the byte 7 at the version 1, and 9 at the version 2
abbrev seven : Now
seven = held 1 (7 ∷ [])

abbrev nine : Now
nine = held 2 (9 ∷ [])

-- ---- the map of calls
none_made : IsMapOf [] 0 (λ h. never)
none_made = record { made = refl; values = λ h. tt }

one_made : IsMapOf (made ∷ written ∷ []) 1 (first_holds nine)
one_made = record { made = refl; values = each }
  where
    each : (h : ℕ) → IsValue (value (made ∷ written ∷ []) h) (first_holds nine h)
    each zero = (refl, refl)
    each (suc h) = rw (ne_eqb (suc h) 0 (λ e. omega (arith, e))) tt

another_count : IsMapOf (made ∷ []) 2 (first_holds seven) → ⊥
another_count map = let e : 1 ≡ 2 = map.made in omega (arith, e)

another_version : IsMapOf (made ∷ written ∷ []) 1 (first_holds (held 1 (9 ∷ []))) → ⊥
another_version map = let e : 1 ≡ 2 = (map.values 0).0 in omega (arith, e)

other_bytes : IsMapOf (made ∷ written ∷ []) 1 (first_holds (held 2 (7 ∷ []))) → ⊥
other_bytes map = let e : ◌≡◌ {A = List ℕ} (7 ∷ []) (9 ∷ []) = (map.values 0).1 in absurd cc

-- of what is gone the version alone is told
gone_at_its_version : IsMapOf (made ∷ written ∷ []) 1 (first_holds (gone 1)) → ⊥
gone_at_its_version map = let e : 1 ≡ 2 = map.values 0 in omega (arith, e)

never_made : IsMapOf [] 0 (first_holds seven) → ⊥
never_made map = map.values 0

-- ---- a call on an object
writes_it : IsCallBetween 1 4 1 1 (first_holds seven) (first_holds nine) 0 (Write [] 0 (9 ∷ []))
    (answer.Version 2)
writes_it = record {
  own = write_by 1 0 (7 ∷ []) (9 ∷ []) 1 4 1 (Some 0) [] (answer.Version 2) (lit≤ tt) refl;
  others = others;
  counted = refl;
}
  where
    others : (k : ℕ) → k ≢ 0 → first_holds nine k ≡ first_holds seven k
    others zero off = absurd (off refl)
    others (suc k) off = refl

stays_as_it_was : IsCallBetween 1 4 1 1 (first_holds seven) (first_holds seven) 0
    (Write [] 0 (9 ∷ [])) (answer.Version 2) → ⊥
stays_as_it_was call =
    let e : 1 ≡ 2 = (call.own.value (Some (Held 1 (7 ∷ []))) (refl, refl)).0 in omega (arith, e)

tells_the_old_version : IsCallBetween 1 4 1 1 (first_holds seven) (first_holds nine) 0
    (Write [] 0 (9 ∷ [])) (answer.Version 1) → ⊥
tells_the_old_version call =
    let e : 1 ≡ 2 = (call.own.reply (Some (Held 1 (7 ∷ []))) (refl, refl)).1 in omega (arith, e)

writes_another_too : IsCallBetween 1 4 1 1 (first_holds seven) (λ h. nine) 0 (Write [] 0 (9 ∷ []))
    (answer.Version 2) → ⊥
writes_another_too call = let e : nine ≡ never = call.others 1 (λ e. omega (arith, e)) in cc

makes_one_too : IsCallBetween 1 4 1 2 (first_holds seven) (first_holds nine) 0 (Write [] 0 (9 ∷ []))
    (answer.Version 2) → ⊥
makes_one_too call = let e : 2 ≡ 1 = call.counted in omega (arith, e)

-- ---- a make that made no object
finds_full : IsRefusedBetween 1 1 1 1 (first_holds seven) (first_holds seven) (Make [] (5 ∷ []))
    (answer.Full 1)
finds_full = record { reply = λ m. (refl, refl); silent = refl; others = λ k. refl; counted = refl }

finds_full_too_early : IsRefusedBetween 1 2 1 1 (first_holds seven) (first_holds seven)
    (Make [] (5 ∷ [])) (answer.Full 2) → ⊥
finds_full_too_early call = let e : 1 ≡ 2 = (call.reply None).0 in omega (arith, e)

makes_one : IsRefusedBetween 1 2 1 2 (first_holds seven) (first_holds seven) (Make [] (5 ∷ []))
    (answer.Made (record { n = 1 }) 1) → ⊥
makes_one call = absurd (let e = call.silent in cc)

full_and_writes : IsRefusedBetween 1 1 1 1 (first_holds seven) (first_holds nine)
    (Make [] (5 ∷ [])) (answer.Full 1) → ⊥
full_and_writes call = let e : nine ≡ seven = call.others 0 in different e
  where
    different : nine ≡ seven → ⊥
    different e = cc

full_and_counts : IsRefusedBetween 1 1 1 2 (first_holds seven) (first_holds seven)
    (Make [] (5 ∷ [])) (answer.Full 1) → ⊥
full_and_counts call = let e : 2 ≡ 1 = call.counted in omega (arith, e)
