-- The pages for a job's object are those of the spans of its class.
use Rattle.std.proofs.Common.{◌≡◌, ℕ, get_or, leb, ap, arith}
use Rattle.std.proofs.lemmas.Bool.{le-leb, lt-leb}
use Rattle.std.proofs.lemmas.List.Sums.{position_or_len_is}
use Rattle.cb_class.specs.declared.class.Class.{Class}
use Rattle.cb_class.specs.Class.{IsClassOf, bytes_of, page_counts, pages_of, sizes}
use Rattle.cb_rule.specs.TriesAgain.{pages_for}

pub pages_for_class : (len : ℕ) (c : Class) → IsClassOf len c → pages_for len ≡ pages_of c
unfolding bytes_of pages_of
pages_for_class len c is = ap (λ (i : ℕ). get_or page_counts i 0)
    (position_or_len_is (λ size. leb len size) sizes c.index 0
    (let t = is.in_table in omega (arith, t))
    (λ k less. lt-leb len (get_or sizes k 0) (is.least (record { index = k }) less))
    (λ _. le-leb len (get_or sizes c.index 0) is.holds))
