-- Objects in local memory have 0 in the bytes past their length.
use Rattle.std.proofs.Common.{◌≡◌, ℕ, ◌+◌, ◌≤◌, List, length, sym, ◌∙◌, subst, inr, ⊎_elim, arith}
use Rattle.cb_ptr.specs.Word.{len_of, place_of}
use Rattle.cb_world.specs.declared.shown.Shown.{Shown}
use Rattle.cb_world.specs.Memory.{window, words_for, IsPacked}
use Rattle.cb_world.specs.Shown.{version_at}
use Rattle.cb_world.specs.Write.{IsWrite}
use Rattle.cb_world.specs.Settling.{HasContents}

pub packed_write : (len at : ℕ) (old bytes new : List ℕ) → IsPacked len old
    → IsWrite old at bytes new → at + length bytes ≤ len → IsPacked len new
packed_write len at old bytes new packed w inside p past below =
    let n = w.sized in w.outside p (omega arith) (inr (omega (arith, inside, past)))
    ∙ packed p past (omega arith)

pub contents_packed : (s : Shown) (h w len v : ℕ) (words : List ℕ) → HasContents s h w len v words
    → IsPacked len words → IsPacked (len_of w) (window s.memory (place_of w) (words_for (len_of w)))
contents_packed s h w len v words m k =
    subst (λ (n : ℕ). IsPacked n (window s.memory (place_of w) (words_for n))) (sym m.0)
    (⊎_elim (λ (a : (version_at s h ≡ v)
    × (window s.memory (place_of w) (words_for len) ≡ words)). subst (IsPacked len) (sym a.1) k)
    (λ (a : (version_at s h ≡ v + 1)
    × ((at : ℕ) × (bytes : List ℕ) × (at + length bytes ≤ len)
    × IsWrite words at bytes (window s.memory (place_of w) (words_for len)))).
    packed_write len a.1.0 words a.1.1 (window s.memory (place_of w) (words_for len)) k a.1.3
    a.1.2) m.1)
