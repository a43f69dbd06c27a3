-- The words of the commands, and the command that words name.
use Rattle.std.proofs.Common.{◌≡◌, ℕ, Bool, true, false, if◌then◌else◌, List, [], ◌∷◌, refl, sym, ap, ◌∙◌, true≢false, String, Global}
use Rattle.std.specs.List.{list_any}
use Rattle.std.specs.Str.{bytes_eq}
use Rattle.cb_cli.specs.declared.words.Command.{Command}
use Rattle.cb_cli.specs.declared.words.Command.TheVariants.{Seq, Threads, Local, Check, Rma, Scrub, Map}
use Rattle.cb_cli.specs.Words.{command_word, Name}

-- the commands
abbrev commands : List Command
commands = Seq ∷ Threads ∷ Local ∷ Check ∷ Rma ∷ Scrub ∷ Map ∷ []

-- the command of a text among these, Seq where it is the word of none
abbrev command_among : List Command → List ℕ → Command
command_among [] text = Seq
command_among (c ∷ others) text =
    if bytes_eq text (command_word c) then c else command_among others text

-- the text is a command's word
abbrev pub is_word : List ℕ → Bool
is_word text = list_any (λ c. bytes_eq text (command_word c)) commands

-- a command is that of its word
back : (c : Command) → command_among commands (command_word c) ≡ c
back Seq = refl
back Threads = refl
back Local = refl
back Check = refl
back Rma = refl
back Scrub = refl
back Map = refl

its_word : (c : Command) → is_word (command_word c) ≡ true
its_word Seq = refl
its_word Threads = refl
its_word Local = refl
its_word Check = refl
its_word Rma = refl
its_word Scrub = refl
its_word Map = refl

-- another text is no command's word
pub no_word_of : (text : List ℕ) → is_word text ≡ false → (c : Command) → text ≡ command_word c → ⊥
no_word_of text other c is = absurd (true≢false (sym (its_word c) ∙ ap is_word (sym is) ∙ other))

-- words name one command
pub one_command : (words : List (String Global)) (a b : Command) → Name words a → Name words b
    → a ≡ b
one_command words a b p q =
    let same : command_word a ≡ command_word b = (let both : command_word a ∷ [] ≡ command_word b ∷ [] = sym p ∙ q in cc) in
    sym (back a) ∙ ap (command_among commands) same ∙ back b
