-- A write on words is the map's write on bytes.
use Rattle.std.proofs.Common.{◌≡◌, ◌⊎◌, ℕ, ◌+◌, ◌-◌, ◌*◌, ◌<◌, ◌≤◌, List, ◌++◌, length, get_or, take, drop, sym, ap, ◌∙◌, arith, inl, inr}
use Rattle.std.proofs.lemmas.Bool.{cases_lt}
use Rattle.std.proofs.lemmas.List.{ext_get_or, get_or_append_left, get_or-append_right, get_or-take, get_or-drop, length-append, length-take-le}
use Rattle.std.proofs.lemmas.List.FromFn.{get_or-map-range_with_len, length-map-range_with_len}
use Rattle.cb_model.specs.Now.{overwritten}
use Rattle.cb_model.proofs.Laws.{length-overwritten}
use Rattle.cb_world.specs.Memory.{bytes_in, memory_byte}
use Rattle.cb_world.specs.Write.{IsWrite}

pub bytes_length : (words : List ℕ) (len : ℕ) → length (bytes_in words len) ≡ len
unfolding bytes_in
bytes_length words len = length-map-range_with_len (memory_byte words) 0 len

pub bytes_at : (words : List ℕ) (len k : ℕ) → k < len → get_or (bytes_in words len) k 0
    ≡ memory_byte words k
unfolding bytes_in
bytes_at words len k below = get_or-map-range_with_len (memory_byte words) 0 len k k 0 below
    (omega arith)

-- a list up to the end of others in its middle
fore : (old : List ℕ) (at : ℕ) (new : List ℕ) → at + length new ≤ length old
    → length (take at old ++ new) ≡ at + length new
fore old at new within = length-append (take at old) new
    ∙ ap (λ (n : ℕ). n + length new) (length-take-le at old (omega (arith, within)))

-- a byte before them, among them, and behind them
before_them : (old : List ℕ) (at k : ℕ) (new : List ℕ) → at + length new ≤ length old → k < at
    → get_or (overwritten old at new) k 0 ≡ get_or old k 0
before_them old at k new within less =
    get_or_append_left (take at old ++ new) (drop (at + length new) old) 0 k
    (omega (arith, less, fore old at new within))
    ∙ get_or_append_left (take at old) new 0 k
    (omega (arith, less, within, length-take-le at old (omega (arith, within))))
    ∙ get_or-take at old k 0 less

among_them : (old : List ℕ) (at k : ℕ) (new : List ℕ) → at + length new ≤ length old → at ≤ k
    → k < at + length new → get_or (overwritten old at new) k 0 ≡ get_or new (k - at) 0
among_them old at k new within more less =
    get_or_append_left (take at old ++ new) (drop (at + length new) old) 0 k
    (omega (arith, less, fore old at new within))
    ∙ get_or-append_right (take at old) new at k 0
    (length-take-le at old (omega (arith, within))) more

behind_them : (old : List ℕ) (at k : ℕ) (new : List ℕ) → at + length new ≤ length old
    → at + length new ≤ k → get_or (overwritten old at new) k 0 ≡ get_or old k 0
behind_them old at k new within more =
    get_or-append_right (take at old ++ new) (drop (at + length new) old) (at + length new) k 0
    (fore old at new within) more
    ∙ get_or-drop (at + length new) old (k - (at + length new)) 0
    ∙ ap (λ (i : ℕ). get_or old i 0)
    (let z : at + length new + (k - (at + length new)) ≡ k = omega (arith, more) in z)

pub write_bytes : (old new : List ℕ) (at len : ℕ) (bytes : List ℕ) → IsWrite old at bytes new
    → at + length bytes ≤ len → len ≤ 8 * length old
    → bytes_in new len ≡ overwritten (bytes_in old len) at bytes
write_bytes old new at len bytes w inside fits =
    ext_get_or 0 (bytes_in new len) (overwritten (bytes_in old len) at bytes)
    (bytes_length new len
    ∙ sym (length-overwritten (bytes_in old len) at bytes within ∙ bytes_length old len))
    (λ k below. let small : k < len = omega (arith, below, bytes_length new len) in
    bytes_at new len k small ∙ by k small (cases_lt k at) (cases_lt k (at + length bytes)))
  where
    within : at + length bytes ≤ length (bytes_in old len)
    within = omega (arith, inside, bytes_length old len)

    by : (k : ℕ) → k < len → (k < at) ⊎ (at ≤ k) → (k < at + length bytes) ⊎ (at + length bytes ≤ k)
        → memory_byte new k ≡ get_or (overwritten (bytes_in old len) at bytes) k 0
    by k small (inl less) other = w.outside k (omega (arith, small, fits)) (inl less)
        ∙ sym (before_them (bytes_in old len) at k bytes within less ∙ bytes_at old len k small)
    by k small (inr more) (inl less) =
        let i = k - at in let split : at + i ≡ k = omega (arith, more) in
        ap (memory_byte new) (sym split) ∙ w.inside i (omega (arith, more, less))
        ∙ sym (among_them (bytes_in old len) at k bytes within more less)
    by k small (inr more) (inr past) = w.outside k (omega (arith, small, fits)) (inr past)
        ∙ sym (behind_them (bytes_in old len) at k bytes within past ∙ bytes_at old len k small)
