-- The corner of a table that is wider and higher than what is used of it.
use Rattle.std.proofs.Common.{◌≡◌, ℕ, ◌<◌, ◌≤◌, zero, suc, List, [], ◌∷◌, length, get_or, take, refl, sym, ap, ext_get_or, ◌∙◌, arith}
use Rattle.std.proofs.lemmas.List.{get_or_default, get_or-take, get_or-map, length-take-le, length-take, length-map}
use Rattle.cb_gf256.specs.Rows.{row_at, byte_at, HaveLength, HoldBytes}
use Rattle.cb_gf256.specs.Corner.{corner}

pub length-corner : (k n : ℕ) (table : List (List ℕ)) → n ≤ length table → length (corner k n table) ≡ n
length-corner k n table h = length-map (take n table) (take k) ∙ length-take-le n table h

pub row_at-corner : (k n : ℕ) (table : List (List ℕ)) (j : ℕ) → j < length (corner k n table) → row_at (corner k n table) j ≡ take k (row_at table j)
row_at-corner k n table j h =
    let within : j < length (take n table) = omega (arith, length-map (take n table) (take k)) in
    get_or-map (take k) (take n table) j [] [] within ∙ ap (take k) (get_or-take n table j [] (omega (arith, length-take n table)))

-- a row of the corner has at most k places, and the table's own
pub row_of_corner : (k n : ℕ) (table : List (List ℕ)) (j i : ℕ) → j < length (corner k n table) → i < length (row_at (corner k n table) j) → i < k
row_of_corner k n table j i h l = omega (arith, ap length (row_at-corner k n table j h), length-take k (row_at table j))

pub byte_at-corner : (k n : ℕ) (table : List (List ℕ)) (j i : ℕ) → j < length (corner k n table) → i < k → byte_at (corner k n table) j i ≡ byte_at table j i
byte_at-corner k n table j i h l = ap (λ row. get_or row i 0) (row_at-corner k n table j h) ∙ get_or-take k (row_at table j) i 0 l

pub HaveLength-corner : (k n width : ℕ) (table : List (List ℕ)) → k ≤ width → n ≤ length table → HaveLength width table → HaveLength k (corner k n table)
HaveLength-corner k n width table h l wide j d m =
    let own : length (row_at table j) ≡ width = wide j [] (omega (arith, length-corner k n table l)) in
    ap length (get_or_default (corner k n table) j d [] m ∙ row_at-corner k n table j m) ∙ length-take-le k (row_at table j) (omega arith)

pub HoldBytes-corner : (k n width : ℕ) (table : List (List ℕ)) → k ≤ width → n ≤ length table → HaveLength width table → ((j i : ℕ) → j < n → i < k → byte_at table j i < 256) → HoldBytes (corner k n table)
HoldBytes-corner k n width table h l wide bytes j d m i z q =
    let row : get_or (corner k n table) j d ≡ row_at (corner k n table) j = get_or_default (corner k n table) j d [] m in
    let short : i < k = omega (arith, HaveLength-corner k n width table h l wide j d m) in
    omega (
      arith,
      ap (λ x. get_or x i z) row,
      get_or_default (row_at (corner k n table) j) i z 0 (omega (arith, ap length row)),
      byte_at-corner k n table j i m short,
      bytes j i (omega (arith, length-corner k n table l)) short,
    )

pub at_default : {X : Type 0} (xs : List X) (i : ℕ) (d e : X) → i < length xs → get_or xs i d ≡ get_or xs i e
at_default [] i d e h = absurd (omega arith)
at_default (x ∷ xs) zero d e h = refl
at_default (x ∷ xs) (suc i) d e h = at_default xs i d e (omega arith)

-- two tables whose used places hold the same have the same corner
pub same_corner : (k n width : ℕ) (a b : List (List ℕ)) → k ≤ width → n ≤ length a → n ≤ length b → HaveLength width a → HaveLength width b
    → ((j i : ℕ) → j < n → i < k → byte_at a j i ≡ byte_at b j i) → corner k n a ≡ corner k n b
same_corner k n width a b small ha hb wa wb same =
    let la = length-corner k n a ha in
    let lb = length-corner k n b hb in
    ext_get_or [] (corner k n a) (corner k n b) (la ∙ sym lb) (λ j h.
    let within : j < n = omega arith in
    let long_a : k ≤ length (row_at a j) = omega (arith, wa j [] (omega arith)) in
    let long_b : k ≤ length (row_at b j) = omega (arith, wb j [] (omega arith)) in
    row_at-corner k n a j h
    ∙ ext_get_or 0 (take k (row_at a j)) (take k (row_at b j)) (length-take-le k (row_at a j) long_a ∙ sym (length-take-le k (row_at b j) long_b))
    (λ i l.
    let place : i < k = omega (arith, length-take-le k (row_at a j) long_a) in
    get_or-take k (row_at a j) i 0 place ∙ same j i within place ∙ sym (get_or-take k (row_at b j) i 0 place))
    ∙ sym (row_at-corner k n b j (omega arith)))
