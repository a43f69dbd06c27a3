-- Lost shards in a buffer, nine bytes each.
use Rattle.std.proofs.Common.{◌≡◌, ℕ, ◌+◌, ◌*◌, ◌<◌, ◌≤◌, List, [], ◌∷◌, ◌++◌, length, take, drop, get_or, refl, sym, ap, ap₂, ◌∙◌, arith}
use Rattle.std.proofs.lemmas.List.{append_assoc, append-nil, drop-drop, length-append, length-drop, length-take-le, take-append-drop, take_all, take_more}
use Rattle.std.proofs.lemmas.Slice.{drop-put_mid, take-put_mid}
use borrow.Rule.Slice.PartMut.{put_mid, same_len_mid}
use Rattle.cb_member.specs.declared.names.Loss.{Loss}
use Rattle.carbink_c.specs.Told.{loss_row, loss_rows}

pub rows_long : (lost : List Loss) → length (loss_rows lost) ≡ 9 * length lost
rows_long [] = refl
rows_long (loss ∷ lost) = omega (arith, length-append (loss_row loss) (loss_rows lost), row_long loss, rows_long lost)
  where
    row_long : (one : Loss) → length (loss_row one) ≡ 9
    row_long one = refl

rows_push : (lost : List Loss) (loss : Loss) → loss_rows (lost ++ loss ∷ []) ≡ loss_rows lost ++ loss_row loss
rows_push [] loss = append-nil (loss_row loss)
rows_push (one ∷ lost) loss =
    ap (λ xs. loss_row one ++ xs) (rows_push lost loss) ∙ sym (append_assoc (loss_row one) (loss_rows lost) (loss_row loss))

-- the first i lost shards are put, and what is behind them is as it was
pub record Put (i : ℕ) (lost : List Loss) (old now : List ℕ) : Type 0 where
  pub sized : length now ≡ length old
  pub front : take (9 * i) now ≡ loss_rows (take i lost)
  pub behind : drop (9 * i) now ≡ drop (9 * i) old

pub put_more : (i k : ℕ) (lost : List Loss) (old now row : List ℕ) (d : Loss) → i < length lost → 9 * length lost ≤ length old → row ≡ loss_row (get_or lost i d) → k ≡ 9
    → Put i lost old now → Put (i + 1) lost old (put_mid (9 * i) k now row)
put_more i k lost old now row d within fits is nine so_far =
    let long : length row ≡ 9 = ap length is in
    let inside : 9 * i ≤ length now = omega (arith, so_far.sized, fits, within) in
    let part : k ≤ length (drop (9 * i) now) = omega (arith, length-drop (9 * i) now, so_far.sized, fits, within, nine) in
    let same : length (put_mid (9 * i) k now row) ≡ length now =
    same_len_mid (9 * i) k now row (long ∙ sym nine ∙ sym (length-take-le k (drop (9 * i) now) part)) in
    let next : 9 * (i + 1) ≡ 9 * i + 9 = omega arith in
    record {
      sized = same ∙ so_far.sized;
      front = take-put_mid (9 * i) k now row (9 * (i + 1)) (omega (arith, long)) inside
          ∙ ap₂ ◌++◌ so_far.front is ∙ sym (rows_push (take i lost) (get_or lost i d)) ∙ ap loss_rows (sym (take_more lost i d within));
      behind = drop-put_mid (9 * i) k now row (9 * (i + 1)) (omega (arith, nine)) inside (omega (arith, long, nine))
          ∙ ap (λ n. drop n now) next ∙ sym (drop-drop 9 (9 * i) now) ∙ ap (drop 9) so_far.behind ∙ drop-drop 9 (9 * i) old ∙ ap (λ n. drop n old) (sym next);
    }

pub put_all : (i : ℕ) (lost : List Loss) (old now : List ℕ) → i ≡ length lost → Put i lost old now → now ≡ loss_rows lost ++ drop (length (loss_rows lost)) old
put_all i lost old now all put =
    let whole : take i lost ≡ lost = take_all i lost (omega (arith, all)) in
    let long : 9 * i ≡ length (loss_rows lost) = omega (arith, all, rows_long lost) in
    sym (take-append-drop (9 * i) now) ∙ ap₂ ◌++◌ (put.front ∙ ap loss_rows whole) (put.behind ∙ ap (λ n. drop n old) long)
