-- The delta of one data row, added to one parity after another.
use Rattle.std.proofs.Common.{◌≡◌, ◌≢◌, ℕ, ◌+◌, ◌<◌, ◌≤◌, List, [], length, set, sym, ap, ◌∙◌, subst, arith, inl, inr}
use Rattle.std.proofs.lemmas.Bool.{cases_eq}
use Rattle.std.proofs.lemmas.List.{get_or-set_same, get_or-set_other}
use Rattle.cb_gf256.specs.Block.{with_row}
use Rattle.cb_gf256.specs.Row.{row_sum, scaled_row}
use Rattle.cb_gf256.specs.Rows.{HaveLength, byte_at, row_at}
use Rattle.cb_gf256.proofs.PublicLaws.{row_sum_length, scaled_row_length, written_count, written_lengths, written_row}

-- it is added to the parities below this one
pub record IsAddedBelow (table : List (List ℕ)) (position : ℕ) (delta : List ℕ)
    (old new : List (List ℕ)) (n : ℕ) : Type 0 where
  pub count : length new ≡ length old
  pub wide : HaveLength (length delta) new
  pub front : (j : ℕ) → j < n → row_at new j
      ≡ row_sum (row_at old j) (scaled_row (byte_at table j position) delta)
  pub rest : (j : ℕ) → n ≤ j → row_at new j ≡ row_at old j

pub one_more : (table : List (List ℕ)) (position : ℕ) (delta : List ℕ) (old now : List (List ℕ))
    (n : ℕ) (row : List ℕ) → IsAddedBelow table position delta old now n → n < length old
    → row ≡ row_sum (row_at now n) (scaled_row (byte_at table n position) delta)
    → IsAddedBelow table position delta old (with_row now n row) (n + 1)
one_more table position delta old now n row g within is =
    let count = g.count in
    let inside : n < length now = omega (arith, count, within) in
    let c = byte_at table n position in
    let here : length (row_at now n) ≡ length delta = g.wide n [] inside in
    let long : length row ≡ length delta = ap length is
    ∙ row_sum_length (row_at now n) (scaled_row c delta) (here ∙ sym (scaled_row_length c delta))
    ∙ here in
    let lengths : HaveLength (length row) now = λ q d l. g.wide q d l ∙ sym long in
    let e = written_row now n row lengths inside in
    record {
      count = written_count now n row ∙ g.count;
      wide = written_lengths (length delta) now n row g.wide long inside;
      front = λ j l. ap (λ (t : List (List ℕ)). row_at t j) e ∙ elim (cases_eq j n) [
        | inl same ↦ subst (λ (m : ℕ). row_at (set now n row) m
            ≡ row_sum (row_at old m) (scaled_row (byte_at table m position) delta)) (sym same)
            (get_or-set_same now n row [] inside ∙ is
            ∙ ap (λ (r : List ℕ). row_sum r (scaled_row c delta)) (g.rest n (omega arith)))
        | inr off ↦ get_or-set_other now n j row [] off ∙ g.front j (earlier j l off)
      ];
      rest = λ j l. ap (λ (t : List (List ℕ)). row_at t j) e
          ∙ get_or-set_other now n j row [] (later j l) ∙ g.rest j (omega (arith, l));
    }
  where
    earlier : (j : ℕ) → j < n + 1 → j ≢ n → j < n
    earlier j l off = omega (arith, l, off)

    later : (j : ℕ) → n + 1 ≤ j → j ≢ n
    later j l e = omega (arith, l, e)
