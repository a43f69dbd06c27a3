-- The text of answers, with one more at its end.
use Rattle.std.proofs.Common.{◌≡◌, ℕ, zero, suc, ◌+◌, ◌<◌, List, [], ◌∷◌, ◌++◌, length, get_or, take, sym, ap, ◌∙◌, arith}
use Rattle.std.specs.List.{AllByRecursion}
use Rattle.std.proofs.lemmas.Grind.{flat_map-append}
use Rattle.std.proofs.lemmas.List.{append-nil, take_more}
use Rattle.cb_types.specs.Table.{IsReplyOf}
use Rattle.cb_types.specs.declared.answer.Answer.{Answer}
use Rattle.cb_text.specs.Line.{answer_line, text_of}

-- each answer has a reply that its line may have
pub each_at : (answers : List Answer) (i : ℕ) (a d : Answer)
    → AllByRecursion (λ a. IsReplyOf a.request a.reply) answers → i < length answers
    → a ≡ get_or answers i d → IsReplyOf a.request a.reply
each_at [] i a d all within is = absurd (omega (arith, within))
each_at (x ∷ xs) zero a d all within is = rw is all.0
each_at (x ∷ xs) (suc i) a d all within is = each_at xs i a d all.1 (omega (arith, within)) is

-- one more answer adds its line
pub text_more : (answers : List Answer) (i : ℕ) (a d : Answer) → i < length answers
    → a ≡ get_or answers i d
    → text_of (take i answers) ++ answer_line a.lane a.request a.reply ≡ text_of (take (i + 1) answers)
text_more answers i a d within is =
    let line = λ (b : Answer). answer_line b.lane b.request b.reply in
    let longer = take_more answers i d within ∙ ap (λ (b : Answer). take i answers ++ b ∷ []) (sym is) in
    sym (ap text_of longer ∙ flat_map-append line (take i answers) (a ∷ []) ∙ ap (λ (l : List ℕ). text_of (take i answers) ++ l) (append-nil (line a)))
