-- The answers that a closed record backs are legal.
use Rattle.std.proofs.Common.{◌≡◌, ℕ, List, [], ◌∷◌}
use Rattle.std.specs.List.{AllByRecursion}
use Rattle.cb_types.specs.declared.answer.Answer.{Answer}
use Rattle.cb_rule.specs.declared.view.View.{View}
use Rattle.cb_rule.specs.Promised.{EntriesStand}
use Rattle.cb_model.specs.Called.{Called, calls_of, changes_to, history}
use Rattle.cb_model.specs.Legal.{IsLegal, Rising}
use Rattle.cb_record.specs.Backs.{Backs}
use Rattle.cb_record.specs.Rises.{IsOnRecord}
use Rattle.cb_record.specs.Told.{tolds}
use Rattle.cb_record.specs.Upheld.{Upholds, as_part}
use Rattle.cb_record.proofs.Histories.{histories, linked}
use Rattle.cb_record.proofs.Known.{on_record}
use Rattle.cb_record.proofs.Links.{AreTrue}
use Rattle.cb_record.proofs.Making.{made}
use Rattle.cb_record.proofs.Pieces.{pieces}
use Rattle.cb_record.proofs.Replied.{all_told}

module _ (first handles : ℕ) (v : View) (answers : List Answer)
    (entries : EntriesStand first (v ∷ [])) (quiet : v.fresh ≡ [])
    (backs : Backs (as_part v) (tolds [] answers))
    (upheld : AllByRecursion (Upholds first handles (calls_of answers) v) (calls_of answers)) where
  -- the history of each object is that of its entries
  pub are_histories : (h : ℕ)
      → AreTrue first v.written h (linked first v entries quiet) (history (calls_of answers) h)
  are_histories h = histories first v entries quiet h (changes_to h (calls_of answers))
      (pieces first handles (calls_of answers) v h [] answers v.written backs.wrote upheld (λ e there. there))
      (made first handles (calls_of answers) v h [] answers (λ name e. absurd cc) upheld)

  -- so answers whose versions never fall are legal
  pub legal_of_backed : Rising (calls_of answers) → IsLegal first handles answers
  legal_of_backed rising = record {
    histories = λ h. (are_histories h).history;
    told = all_told first handles (calls_of answers) v entries quiet are_histories [] answers backs.tells upheld;
    rising = rising;
  }

-- what the answers told of versions stands in the record
pub known_of_backed : (first handles : ℕ) (calls : List Called) (v : View) (answers : List Answer)
    → Backs (as_part v) (tolds [] answers)
    → AllByRecursion (Upholds first handles calls v) (calls_of answers)
    → AllByRecursion (IsOnRecord v) (calls_of answers)
known_of_backed first handles calls v answers backs upheld =
    on_record first handles calls v [] answers v.written backs.wrote (λ e there. there) backs.tells upheld
