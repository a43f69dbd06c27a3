-- Worked examples: what a run leaves and puts that draws a script.
use Rattle.std.proofs.Common.{◌≡◌, ℕ, List, [], ◌∷◌, Some, None, refl, sym, ap, ◌∙◌, subst, String, Global}
use Rattle.std.specs.Prelude.{codes}
use Rattle.std.specs.Fmt.{digits}
use Rattle.std.specs.List.{AllByRecursion}
use Rattle.cb_types.specs.declared.answer.Answer.{Answer}
use Rattle.cb_types.specs.declared.reply.Reply.TheVariants as replies
use Rattle.cb_types.specs.declared.request.Request.TheVariants as request
use Rattle.cb_script.proofs.PublicLaws.{differ}
use Rattle.cb_cli.specs.declared.words.Asked.TheVariants.{Draw}
use Rattle.cb_cli.specs.declared.words.Plan.{Plan}
use Rattle.cb_cli.specs.Words.{AskFor}
use Rattle.cb_cli.proofs.Laws.{no_word}
use Rattle.cb_lanes.specs.Alone.{IsCalmReply}
use Rattle.cb_lanes.specs.declared.side.Side.TheVariants.{Nodes}
use Rattle.cb_app.specs.declared.ending.Ending.{Ending}
use Rattle.cb_app.specs.Outcome.{IsDrawn, TellsSummary}
use Rattle.cb_app.specs.Scripts.{IsAnswered, IsSummed}
use Rattle.cb_gen.specs.Drawn.{drawn_config, made_script}
use Rattle.cb_gen.specs.Summary.{summary}

-- a script of no line, which is no plan's, shows what each part says
abbrev plan : Plan
plan = record { seed = 3; lines = 0; lanes = 2 }

abbrev text : List ℕ
text = codes "gen seed 3 lines 0 lanes 2\nmake 0 read 0 write 0 free 0 other 0\nrefused 0 text 0\n"

text_is : (end : Ending) → end.answers ≡ [] → text ≡ summary 3 0 2 end.answers
unfolding digits
text_is end none = ap (summary 3 0 2) (sym none)

summed : (end : Ending) → end.answers ≡ [] → IsAnswered Nodes (made_script 3 0 2) end → IsSummed plan end text
summed end none answered = record { answered = answered; calm = subst (AllByRecursion (λ a. IsCalmReply a.reply)) (sym none) tt; text_is = text_is end none }

-- another text
another_seed : (end : Ending) → end.answers ≡ [] → IsSummed plan end (codes "gen seed 4 lines 0 lanes 2\nmake 0 read 0 write 0 free 0 other 0\nrefused 0 text 0\n") → ⊥
another_seed end none is =
    differ (codes "gen seed 4 lines 0 lanes 2\nmake 0 read 0 write 0 free 0 other 0\nrefused 0 text 0\n") text (is.text_is ∙ sym (text_is end none)) refl

-- a line that found no room
no_room : (end : Ending) (told : List ℕ) → end.answers ≡ record { lane = record { n = 1 }; line = 2; request = request.Evict; reply = replies.NoRoom 12 0 8 } ∷ [] → IsSummed plan end told → ⊥
no_room end told one is =
    (subst (AllByRecursion (λ (a : Answer). IsCalmReply a.reply)) one is.calm).0

-- an ending that is not as `seq` leaves it
no_config : (end : Ending) (told : List ℕ) → end.config ≡ None → IsSummed plan end told → ⊥
no_config end told none is = absurd (let e : None ≡ Some drawn_config = sym none ∙ is.answered.config in cc)

drawn : (words : List (String Global)) (end : Ending) → AskFor words plan → IsSummed plan end text
    → IsDrawn words (Some (1 ∷ [])) (Some (1 ∷ [])) end text
drawn words end asks is = record { plan = plan; words_are = asks; nothing_taken = refl; summed = is }

-- a byte was taken
a_byte_taken : (words : List (String Global)) (end : Ending) (told : List ℕ) → IsDrawn words (Some (1 ∷ [])) (Some []) end told → ⊥
a_byte_taken words end told is = absurd (let e : Some [] ≡ Some (1 ∷ []) = is.nothing_taken in cc)

-- no words ask for it
without_words : (end : Ending) (told : List ℕ) → IsDrawn [] (Some []) (Some []) end told → ⊥
without_words end told is = no_word (Draw is.plan) is.words_are

-- the sink held a byte before
tells : (words : List (String Global)) (end : Ending) → AskFor words plan → IsSummed plan end text
    → TellsSummary words (Some (1 ∷ [])) (Some (1 ∷ [])) (Some (7 ∷ [])) (Some (7 ∷ text)) end
tells words end asks is = (text, drawn words end asks is, refl)
