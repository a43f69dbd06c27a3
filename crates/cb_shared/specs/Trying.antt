-- Whether the newest turn of a record is made again.
use Rattle.std.specs.Prelude.{Bool, false, List, [], ◌∷◌, Option, None, Some, unwrap_or}
use Rattle.cb_rule.specs.declared.turn.Turn.{Turn}
use Rattle.cb_rule.specs.declared.view.View.{View}
use Rattle.cb_rule.specs.TriesAgain.{tries_again}

-- whether the newest of these turns, the first one, is made again; None where there is none
abbrev pub newest_tries : List Turn → Option Bool
newest_tries [] = None
newest_tries (t ∷ ts) = Some (tries_again t)

-- so of the record of a pass
abbrev pub tries_of : View → Option Bool
tries_of v = newest_tries v.turns

-- whether the newest one is; false where there is none
abbrev pub again_in : List Turn → Bool
again_in ts = unwrap_or (newest_tries ts) false
