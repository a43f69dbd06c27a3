-- Worked examples of a text in pieces.
use Rattle.std.proofs.Common.{◌≡◌, [], ◌∷◌, refl}
use Rattle.cb_cli.specs.Pieces.{joined_pieces}

-- each piece is there, in order, and an empty one adds nothing
three_pieces : joined_pieces ((1 ∷ 2 ∷ []) ∷ [] ∷ (3 ∷ []) ∷ []) ≡ 1 ∷ 2 ∷ 3 ∷ []
three_pieces = refl

no_piece : joined_pieces [] ≡ []
no_piece = refl
