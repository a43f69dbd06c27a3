use Rattle.std.proofs.Common.{◌≡◌, ℕ, ◌*◌, ◌-◌, ◌%◌, ◌^◌, ◌<◌, List, Bool, true, false, not, ap, ◌∙◌, subst, arith}
use Rattle.std.specs.Prelude.{slice_index_or}
use Rattle.std.proofs.lemmas.Bool.{false≢true}
use Rattle.cb_compact.proofs.Within.{apart_within, bit_mask}
use Rattle.cb_compact.proofs.tables.meets_all.Goals as goal

marked_or_not : (marks : List Bool) (i : ℕ) (b : Bool) → b ≡ slice_index_or marks i b
    → slice_index_or marks i false ≡ true → not b ≡ true → ⊥
marked_or_not marks i true e on off = false≢true off
marked_or_not marks i false e on off = false≢true (e ∙ on)

pub returns : goal.returns
returns c on i d at k r pages none =
    let table = c.args.table.now in let p = table.k in let live = c.args.candidate.live in
    let most = c.requires.few in let low = c.requires.live in
    let e : 1 * 2 ^ p % 2 ^ 64 ≡ 2 ^ p = bit_mask p (omega (arith, most)) in
    let fits : d.live < 2 ^ p =
    subst (λ (n : ℕ). d.live < 2 ^ n) k (c.requires.masks i d at).1 in
    let hit = c.requires.table.marked i (2 ^ p - 1 - live) d at k r pages (omega (arith, low))
    (apart_within p live d.live low fits none) in
    marked_or_not table.marks.items (1 * 2 ^ p % 2 ^ 64 - 1 - live) c.index.result.now
    c.index.ensures (ap (λ (n : ℕ). slice_index_or table.marks.items (n - 1 - live) false) e ∙ hit)
    on
