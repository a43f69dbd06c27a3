-- A plan of calls goes on.
use Rattle.std.proofs.Common.{◌≡◌, ℕ, zero, suc, ◌+◌, ◌<◌, List, [], ◌∷◌, ◌++◌, length, get_or, map, take, Option, Some, None, refl, sym, ap, ◌∙◌, subst, inl, inr, arith}
use Rattle.cb_types.specs.declared.config.Config.{Config}
use Rattle.cb_rule.specs.declared.view.View.{View}
use Rattle.cb_farmap.specs.declared.kept.Cannot.{Cannot}
use Rattle.cb_farmap.specs.declared.kept.KeptObject.{KeptObject}
use Rattle.cb_farmap.specs.Calls.{Ask, AskRead, Goes}
use Rattle.cb_farmap.specs.Objects.{blank}

module _ (c : Config) (first : ℕ) where
  -- behind calls that all succeeded
  pub goes_then : (plan more : List Ask) (t : Option Cannot) (v u w : View) → Goes c first plan None v u
      → Goes c first more t u w → Goes c first (plan ++ more) t v w
  goes_then [] more t v u w before behind = subst (λ (x : View). Goes c first more t x w) before behind
  goes_then (ask ∷ plan) more None v u w (x, done, rest) behind =
      (x, done, goes_then plan more None x u w rest behind)
  goes_then (ask ∷ plan) more (Some e) v u w (x, done, rest) behind =
      inr (x, done, goes_then plan more (Some e) x u w rest behind)

  -- and no further where one failed
  pub goes_stop : (plan more : List Ask) (e : Cannot) (v w : View) → Goes c first plan (Some e) v w
      → Goes c first (plan ++ more) (Some e) v w
  goes_stop [] more e v w none = absurd none
  goes_stop (ask ∷ plan) more e v w (inl fails) = inl fails
  goes_stop (ask ∷ plan) more e v w (inr (x, done, rest)) = inr (x, done, goes_stop plan more e x w rest)

  -- ---- reads of objects, one after another
  abbrev reads : ℕ → List KeptObject → List Ask
  reads n ks = map AskRead (take n ks)

  one_more : (o : ℕ) (ks : List KeptObject) → o < length ks
      → reads (suc o) ks ≡ reads o ks ++ AskRead (get_or ks o blank) ∷ []
  one_more o [] within = absurd (omega (arith, within))
  one_more zero (k ∷ ks) within = refl
  one_more (suc o) (k ∷ ks) within =
      ap (λ (l : List Ask). AskRead k ∷ l) (one_more o ks (omega (arith, within)))

  abbrev behind : ℕ → ℕ → List KeptObject → List Ask
  behind o n [] = []
  behind o zero ks = []
  behind zero (suc n) (k ∷ ks) = reads n ks
  behind (suc o) (suc n) (k ∷ ks) = behind o n ks

  some_more : (o n : ℕ) (ks : List KeptObject) → o < length ks → o < n
      → reads n ks ≡ reads o ks ++ (AskRead (get_or ks o blank) ∷ behind o n ks)
  some_more o n [] within less = absurd (omega (arith, within))
  some_more o zero (k ∷ ks) within less = absurd (omega (arith, less))
  some_more zero (suc n) (k ∷ ks) within less = refl
  some_more (suc o) (suc n) (k ∷ ks) within less =
      ap (λ (l : List Ask). AskRead k ∷ l) (some_more o n ks (omega (arith, within)) (omega (arith, less)))

  -- one object more was read
  pub read_more : (o n : ℕ) (ks : List KeptObject) (v u w : View) → o < length ks → n ≡ o + 1
      → Goes c first (reads o ks) None v u → Goes c first (AskRead (get_or ks o blank) ∷ []) None u w
      → Goes c first (reads n ks) None v w
  read_more o n ks v u w within is before one =
      subst (λ (l : List Ask). Goes c first l None v w)
      (sym (ap (λ (m : ℕ). reads m ks) (let e : n ≡ suc o = omega (arith, is) in e) ∙ one_more o ks within))
      (goes_then (reads o ks) (AskRead (get_or ks o blank) ∷ []) None v u w before one)

  -- the read of the next one failed
  pub read_fails : (o n : ℕ) (ks : List KeptObject) (e : Cannot) (v u w : View) → o < length ks → o < n
      → Goes c first (reads o ks) None v u → Goes c first (AskRead (get_or ks o blank) ∷ []) (Some e) u w
      → Goes c first (reads n ks) (Some e) v w
  read_fails o n ks e v u w within less before one =
      subst (λ (l : List Ask). Goes c first l (Some e) v w) (sym (some_more o n ks within less))
      (goes_then (reads o ks) (AskRead (get_or ks o blank) ∷ behind o n ks) (Some e) v u w before
      (goes_stop (AskRead (get_or ks o blank) ∷ []) (behind o n ks) e u w one))
