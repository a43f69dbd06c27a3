-- Where a put ends, by the last line that ends among the bytes that it may take.
use Rattle.std.proofs.Common.{◌≡◌, ℕ, ◌+◌, ◌-◌, ◌<◌, ◌≤◌, min, List, length, get_or, take, drop, ◌⊎◌, inl, inr, Some, None, sym, ap, ◌∙◌, arith}
use Rattle.std.proofs.lemmas.Bool.{eq-eqb, eqb-true}
use Rattle.std.proofs.lemmas.Bool.Decides.{leb_tells}
use Rattle.std.proofs.lemmas.List.{get_or-drop, get_or-take, length-drop, length-take}
use Rattle.memchr.specs.Find.{IsLastByte, Nowhere, Passes, is_byte}
use Rattle.cb_cli.specs.Puts.{IsPutEnd}

-- Behind `done` a put may take so many bytes.
module _ (bytes : List ℕ) (done many : ℕ) (more : done < length bytes)
    (is : many ≡ min 4096 (length bytes - done)) where
  -- what it may take, as the code cuts it out
  abbrev ahead : List ℕ
  ahead = take (done + many - done) (drop done bytes)

  -- all that is left, or 4,096
  all : (many ≡ 4096) ⊎ (done + many ≡ length bytes)
  all = elim (leb_tells 4096 (length bytes - done)) [
    | inl whole ↦ let large = whole.1 in inl (omega (arith, is, large))
    | inr rest ↦ let small = rest.1 in inr (omega (arith, is, small))
  ]

  some : 0 < many
  some = omega (arith, is)

  few : many ≤ 4096
  few = omega (arith, is)

  within : done + many ≤ length bytes
  within = omega (arith, is)

  length_ahead : length ahead ≡ many
  length_ahead =
      let taken = length-take (done + many - done) (drop done bytes) in
      let left = length-drop done bytes in
      let inside = within in
      omega (arith, taken, left, inside)

  -- a byte among them is as many behind `done`
  byte_at : (k : ℕ) → k < many → get_or ahead k 0 ≡ get_or bytes (done + k) 0
  byte_at k near =
      get_or-take (done + many - done) (drop done bytes) k 0 (omega arith) ∙ get_or-drop done bytes k 0

  reaches : (i : ℕ) → i < done + 4096 → i < length bytes → i < done + many
  reaches i near inside = elim all [
    | inl whole ↦ omega (arith, whole)
    | inr last ↦ omega (arith, last)
  ]

  -- from a place on no line ends among them
  no_line : (from : ℕ) → Nowhere (Passes (is_byte 10) ahead) from (length ahead)
      → (i : ℕ) → done + from ≤ i → i < done + many → get_or bytes i 0 ≡ 10 → ⊥
  no_line from nowhere i behind near ends =
      let k = i - done in
      let place : done + k ≡ i = omega arith in
      let long = length_ahead in
      let inside : k < many = omega arith in
      nowhere k (omega arith) (omega (arith, long)) (eq-eqb (get_or ahead k 0) 10
      (byte_at k inside ∙ ap (λ (n : ℕ). get_or bytes n 0) place ∙ ends))

  pub behind_a_line : (last : ℕ) → IsLastByte (is_byte 10) ahead (Some last)
      → IsPutEnd bytes done (done + last + 1)
  behind_a_line last (found, passes) =
      let long = length_ahead in
      let high = found.high in
      let most = few in
      let inside : last < many = omega (arith, long, high) in
      let reach = within in
      let place : done + last + 1 - 1 ≡ done + last = omega arith in
      let ends : get_or bytes (done + last + 1 - 1) 0 ≡ 10 =
      ap (λ (n : ℕ). get_or bytes n 0) place ∙ sym (byte_at last inside)
      ∙ eqb-true (get_or ahead last 0) 10 passes in
      record {
        more = omega arith;
        within = omega (arith, inside, reach);
        few = omega (arith, inside, most);
        line = λ i from near short line. (
          elim (leb_tells (done + last + 1) i) [
            | inl behind ↦ let past = behind.1 in absurd (no_line (last + 1) found.after i (omega (arith, past)) (reaches i near short) line)
            | inr before ↦ before.1
          ],
          ends,
        );
        all = inl ends;
      }

  pub at_most : IsLastByte (is_byte 10) ahead None → IsPutEnd bytes done (done + many)
  at_most nowhere =
      let least = some in
      let most = few in
      record {
        more = omega (arith, least);
        within = within;
        few = omega (arith, most);
        line = λ i from near short line. absurd (no_line 0 nowhere i (omega arith) (reaches i near short) line);
        all = elim all [
          | inl whole ↦ inr (inr (ap (λ (n : ℕ). done + n) whole))
          | inr last ↦ inr (inl last)
        ];
      }
