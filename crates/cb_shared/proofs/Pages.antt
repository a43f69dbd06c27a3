-- The pages of a span of the class of a length.
use Rattle.std.proofs.Common.{◌≡◌, ℕ, leb, get_or, ap, sym, arith}
use Rattle.std.specs.Prelude.{slice_index}
use Rattle.std.specs.List.{position_or_len}
use Rattle.std.proofs.lemmas.Bool.{le-leb, lt-leb}
use Rattle.std.proofs.lemmas.List.Sums.{position_or_len_is}
use Rattle.cb_class.specs.declared.class.Class.{Class}
use Rattle.cb_class.specs.Class.{IsClassOf, bytes_of, page_counts, pages_of, sizes}
use Rattle.cb_rule.specs.TriesAgain.{pages_for}

place_is : (len : ℕ) (c : Class) → IsClassOf len c
    → position_or_len (λ (size : ℕ). leb len size) sizes ≡ c.index
unfolding bytes_of
place_is len c x = position_or_len_is (λ (size : ℕ). leb len size) sizes c.index 0
    (omega (arith, x.in_table))
    (λ k less. lt-leb len (get_or sizes k 0)
    (let smaller : Class = record { index = k } in x.least smaller less))
    (λ below. le-leb len (get_or sizes c.index 0) x.holds)

pub pages_of_class : (len : ℕ) (c : Class) → IsClassOf len c → pages_of c ≡ pages_for len
unfolding pages_of
pages_of_class len c x = sym (ap (λ (i : ℕ). slice_index page_counts i) (place_is len c x))
