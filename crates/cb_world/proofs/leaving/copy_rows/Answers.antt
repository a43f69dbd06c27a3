use Rattle.std.proofs.Common.{◌≡◌, ◌<◌, [], length, ap, sym, ◌∙◌, arith, rules}
use Rattle.cb_gf256.proofs.PublicLaws.{written_count, written_lengths}
use Rattle.cb_world.proofs.RoomRows.{all_copied, copied_more}
use Rattle.cb_world.proofs.leaving.copy_rows.Goals as goal

pub copy_from_slice-requires : goal.copy_from_slice-requires
copy_from_slice-requires c =
    let inv = c.loop-at.invariant in let x = c.requires.lengths in let at = c.loop-at.at in
    let inside : at < length c.args.from.now = search rules in
    let within : at < length c.loop-at.into = omega (arith, inside, inv.0) in
    ap length c.row_mut.ensures.value ∙ inv.1 x.0 x.2 at [] within
    ∙ sym (x.1 at [] inside) ∙ sym (ap length c.row.ensures.value)

pub loop-at-preserved : goal.loop-at-preserved
loop-at-preserved c =
    let inv = c.loop-at.invariant in let x = c.requires.lengths in let at = c.loop-at.at in
    let bytes = c.copy_from_slice.new.self in
    let inside : at < length c.args.from.now = search rules in
    let within : at < length c.loop-at.into = omega (arith, inside, inv.0) in
    let same : bytes ≡ c.row.result.now = search rules in
    let long = ap length (same ∙ c.row.ensures.value) in (
      written_count c.loop-at.into at bytes ∙ inv.0,
      λ len all. written_lengths len c.loop-at.into at bytes (inv.1 len all)
          (long ∙ x.1 at [] inside ∙ sym (x.2 0 [] (omega (arith, within)))
          ∙ all 0 [] (omega (arith, within))) within,
      copied_more x.0 c.args.from.now c.loop-at.into at bytes (inv.1 x.0 x.2)
          (long ∙ x.1 at [] inside) (same ∙ c.row.ensures.value) within inv.2,
    )

pub returns : goal.returns
returns c = let inv = c.loop-at.invariant in
    all_copied c.args.from.now c.loop-at.into c.loop-at.at inv.0 (search rules) inv.2
