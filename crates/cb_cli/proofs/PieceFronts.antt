-- Fronts of texts in pieces.
use Rattle.std.proofs.Common.{◌≡◌, ℕ, ◌+◌, ◌<◌, List, [], ◌∷◌, ◌++◌, length, get_or, take, drop, Option, sym, ap, subst, ◌∙◌, arith}
use Rattle.std.specs.Io.KnownBytes.{Appends}
use Rattle.std.proofs.lemmas.Grind.{flat_map-append}
use Rattle.std.proofs.lemmas.List.{append-nil, length-append, take-append-drop, take-append-le, take_more}
use Rattle.std.proofs.Math.Seq.{take-append-add}
use Rattle.cb_cli.specs.Fronts.{GetsFront}
use Rattle.cb_cli.specs.Pieces.{joined_pieces}
use Rattle.cb_cli.proofs.Streams.{Appends-then}

-- a front of a text is one of a longer text
pub front_of_more : (held holds : Option (List ℕ)) (text more : List ℕ)
    → GetsFront held holds text → GetsFront held holds (text ++ more)
front_of_more held holds text more (n, short, put) =
    let whole = length-append text more in (
      n,
      omega (arith, whole, short),
      subst (Appends held holds)
          (sym (take-append-le n text more (omega (arith, short)))) put,
    )

-- behind a whole text, a front of the next is one of both
pub front_behind : (held between holds : Option (List ℕ)) (text more : List ℕ)
    → Appends held between text → GetsFront between holds more → GetsFront held holds (text ++ more)
front_behind held between holds text more first (n, short, put) =
    let whole = length-append text more in (
      length text + n,
      omega (arith, whole, short),
      subst (Appends held holds)
          (sym (take-append-add text more n))
          (Appends-then held between holds text (take n more) first put),
    )

-- the pieces before one, that piece, and those behind it
pub joined_at : (pieces : List (List ℕ)) (i : ℕ) (d : List ℕ) → i < length pieces
    → joined_pieces pieces ≡ (joined_pieces (take i pieces) ++ get_or pieces i d)
    ++ joined_pieces (drop (i + 1) pieces)
joined_at pieces i d within =
    let one = λ (piece : List ℕ). piece in
    let so_far = ap joined_pieces (take_more pieces i d within)
    ∙ flat_map-append one (take i pieces) (get_or pieces i d ∷ [])
    ∙ ap (λ (l : List ℕ). joined_pieces (take i pieces) ++ l) (append-nil (get_or pieces i d)) in
    ap joined_pieces (sym (take-append-drop (i + 1) pieces))
    ∙ flat_map-append one (take (i + 1) pieces) (drop (i + 1) pieces)
    ∙ ap (λ (l : List ℕ). l ++ joined_pieces (drop (i + 1) pieces)) so_far

-- so with the piece that stands there
pub joined_at_item : (pieces : List (List ℕ)) (i : ℕ) (piece : List ℕ) → i < length pieces
    → piece ≡ get_or pieces i piece
    → joined_pieces pieces ≡ (joined_pieces (take i pieces) ++ piece)
    ++ joined_pieces (drop (i + 1) pieces)
joined_at_item pieces i piece within is =
    joined_at pieces i piece within
    ∙ ap (λ (p : List ℕ). (joined_pieces (take i pieces) ++ p)
    ++ joined_pieces (drop (i + 1) pieces)) (sym is)
