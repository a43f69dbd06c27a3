-- What is read of a text so far.
use Rattle.std.proofs.Common.{◌≡◌, ℕ, ◌<◌, ◌≤◌, List, [], ◌∷◌, ◌++◌, length, map, append_assoc, refl, sym, ap, ◌∙◌, subst, true, arith}
use Rattle.std.specs.List.{AllByRecursion}
use Rattle.std.proofs.lemmas.List.{length_push, map_push}
use Rattle.cb_script.specs.Spelling.{lines_of, header_line}
use Rattle.cb_script.specs.Reading.{HeaderFault}
use Rattle.cb_script.specs.declared.fault.Reason.{Reason}
use Rattle.cb_script.proofs.PublicLaws.{header_refused}
use Rattle.cb_types.specs.Config.{IsAccepted}
use Rattle.cb_types.specs.declared.config.Config.{Config}
use Rattle.cb_map_text.specs.declared.command.FarCommand.{FarCommand}
use Rattle.cb_map_text.specs.First.{First}
use Rattle.cb_map_text.specs.First.First.{NoHeader}
use Rattle.cb_map_text.specs.Form.{IsInForm}
use Rattle.cb_map_text.specs.Reading.{IsCommandText, IsPushed}
use Rattle.cb_map_text.specs.Spelling.{command_line}

form_push : (commands : List FarCommand) (command : FarCommand) → AllByRecursion IsInForm commands → IsInForm command
    → AllByRecursion IsInForm (commands ++ command ∷ [])
form_push [] command all form = (form, tt)
form_push (first ∷ commands) command all form = (all.0, form_push commands command all.1 form)

-- the commands are read, and the rest of the text is left
pub record FrontIsRead (text : List ℕ) (commands : List FarCommand) (rest : List ℕ) : Type 0 where
  pub few : length commands ≤ 20000
  pub form : AllByRecursion IsInForm commands
  pub read : lines_of text ≡ map command_line commands ++ lines_of rest

module _ (text : List ℕ) (commands : List FarCommand) (rest : List ℕ) (front : FrontIsRead text commands rest) where
  next_text : (line behind : List ℕ) → lines_of rest ≡ line ∷ lines_of behind
      → lines_of text ≡ map command_line commands ++ line ∷ lines_of behind
  next_text line behind cut = front.read ∙ ap (λ (texts : List (List ℕ)). map command_line commands ++ texts) cut

  pub front_more : (line behind : List ℕ) (command : FarCommand) → lines_of rest ≡ line ∷ lines_of behind
      → length commands < 20000 → IsCommandText line command → FrontIsRead text (commands ++ command ∷ []) behind
  front_more line behind command cut few is = record {
    few = omega (arith, few, length_push commands command);
    form = form_push commands command front.form is.form;
    read = next_text line behind cut
        ∙ ap (λ (t : List ℕ). map command_line commands ++ t ∷ lines_of behind) is.spelled
        ∙ sym (append_assoc (map command_line commands) (command_line command ∷ []) (lines_of behind))
        ∙ ap (λ (ts : List (List ℕ)). ts ++ lines_of behind) (sym (map_push command_line commands command));
  }

  -- the line's command is added
  pub front_pushed : (line behind : List ℕ) (new : List FarCommand) → lines_of rest ≡ line ∷ lines_of behind
      → length commands < 20000 → IsPushed commands new line true → FrontIsRead text new behind
  front_pushed line behind new cut few pushed =
      subst (λ (cs : List FarCommand). FrontIsRead text cs behind) (sym pushed.2)
      (front_more line behind pushed.0 cut few pushed.1)

-- ---- a whole input

module _ (bytes header : List ℕ) (others : List (List ℕ)) (short : length bytes ≤ 1048576)
    (cut : lines_of bytes ≡ header ∷ others) where
  pub header_first : ((c : Config) → IsAccepted c × (header ≡ header_line c) → ⊥) → First bytes 1
  header_first none = NoHeader refl short (λ c has.
      let both : header ∷ others ≡ header_line c ∷ has.others = sym cut ∙ has.text in
      let same : header ≡ header_line c = cc in none c (has.accepted, same))

  pub header_refuses : (reason : Reason) → HeaderFault header reason → First bytes 1
  header_refuses reason fault = header_first (λ c is. header_refused header reason fault c is.0 is.1)
