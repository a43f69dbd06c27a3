use Rattle.std.proofs.Common.{ℕ, List, sym, subst, arith}
use Rattle.std.proofs.lemmas.Nat.{le_bytes_8}
use Rattle.std.specs.Int.{to_le_bytes, w64}
use Rattle.cb_mutate.specs.Merged.{IsMixed}
use Rattle.cb_mutate.proofs.Bytes.{mixed_all}
use Rattle.cb_mutate.proofs.merge.merged.Goals as goal

pub returns : goal.returns
returns c = let inv = c.loop-j.invariant in
    let same =
    le_bytes_8 c.loop-j.all c.from_le_bytes.result inv.sized inv.bytes_below
    c.from_le_bytes.ensures in
    subst (λ (l : List ℕ).
    IsMixed 8 (to_le_bytes w64 c.args.old) c.args.first c.args.at c.args.bytes.now l) (sym same)
    (mixed_all c.loop-j.j (to_le_bytes w64 c.args.old) c.args.first c.args.at c.args.bytes.now
    c.loop-j.all (omega (arith, c.loop-j-test.false)) inv)
