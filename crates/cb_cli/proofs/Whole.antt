-- Of an input that a source tells, these bytes are taken and no others.
use Rattle.std.proofs.Common.{◌≡◌, ℕ, ◌≤◌, ◌⊎◌, List, [], ◌++◌, length, Option, Some, None, sym, ap, ◌∙◌, inl, inr, arith}
use Rattle.std.proofs.lemmas.List.{append-nil, take-append-le, take_all}
use Rattle.cb_cli.specs.Taken.{AreBytesTaken, taken_of}

-- a front that ends at the end, or that is as long as may be, is what is taken
front_is : (all taken rest : List ℕ) → all ≡ taken ++ rest → length taken ≤ 1048577
    → (rest ≡ []) ⊎ (length taken ≡ 1048577) → taken ≡ taken_of all
front_is all taken rest front few (inl end) =
    let whole : all ≡ taken = front ∙ ap (λ (l : List ℕ). taken ++ l) end ∙ append-nil taken in
    sym (ap taken_of whole ∙ take_all 1048577 taken few)
front_is all taken rest front few (inr most) =
    sym (ap taken_of front ∙ take-append-le 1048577 taken rest (omega (arith, most)) ∙ take_all 1048577 taken few)

pub taken_is : (before after : Option (List ℕ)) (all taken : List ℕ) → before ≡ Some all
    → AreBytesTaken before after taken → taken ≡ taken_of all
taken_is None after all taken told is = absurd cc
taken_is (Some whole) None all taken told is = absurd is.front
taken_is (Some whole) (Some rest) all taken told is =
    let same : all ≡ whole = cc in
    front_is all taken rest (same ∙ is.front) is.few is.whole
