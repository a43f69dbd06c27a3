use Rattle.std.proofs.Common.{◌≡◌, ◌-◌, length, subst, arith}
use Rattle.cb_gf256.specs.InRange.{IsInRange}
use Rattle.cb_bench.proofs.in_place.is_word.Goals as goal

pub is_code_word-requires : goal.is_code_word-requires
is_code_word-requires c =
    let are : c.args.k ≡ length c.of-rows.result - c.args.r = omega (arith, c.count.ensures, c.if-count-k.false) in
    subst (λ n. IsInRange n c.args.r) are c.requires
