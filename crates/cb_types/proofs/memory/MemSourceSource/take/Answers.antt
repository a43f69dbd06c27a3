use Rattle.std.proofs.Common.{◌≡◌, ℕ, ◌+◌, ◌-◌, List, ◌++◌, take, drop, length, ap, sym, ◌∙◌, arith, rules}
use Rattle.std.proofs.lemmas.List.{take_at, drop-drop, take-append-drop}
use Rattle.cb_types.proofs.memory.MemSourceSource.take.Goals as goal

-- the piece that was copied to the front of the buffer, and the bytes behind it, are the bytes that were left
joined : (bytes copied behind : List ℕ) (at n : ℕ) → copied ≡ take (at + n - at) (drop at bytes)
    → length copied ≡ n → drop at bytes ≡ take n (copied ++ behind) ++ drop (at + n) bytes
joined bytes copied behind at n e len =
    let same : at + n - at ≡ n = omega arith in
    rw (take_at copied behind n len, e, same, ← drop-drop n at bytes) (sym (take-append-drop n (drop at bytes)))

pub returns-clause-bytes : goal.returns-clause-bytes
returns-clause-bytes c =
    let s = c.self.inside in
    ap (λ v. v.left) (sym c.self.view_is) ∙ joined s.bytes.items c.copy_from_slice.new.self (drop c.min-count.result c.args.buf.now) s.at c.min-count.result (search rules) (search rules)
