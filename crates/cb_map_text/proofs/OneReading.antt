-- The same bytes spell one list of commands or have one first line outside the form, and never both.
use Rattle.std.proofs.Common.{◌≡◌, ℕ, ◌<◌, ◌≤◌, ◌⊎◌, List, [], ◌∷◌, ◌++◌, length, map, Result, Ok, Err, inl, inr, refl, sym, ap, ◌∙◌, arith}
use Rattle.std.specs.Prelude.{MatchResult}
use Rattle.std.specs.List.{AllByRecursion}
use Rattle.std.proofs.lemmas.Bool.{cases_lt}
use Rattle.std.proofs.lemmas.List.{append-nil, length-append, length-map}
use Rattle.cb_script.specs.Spelling.{header_line}
use Rattle.cb_types.specs.declared.config.Config.{Config}
use Rattle.cb_map_text.specs.declared.command.FarCommand.{FarCommand}
use Rattle.cb_map_text.specs.declared.read.FarText.{FarText}
use Rattle.cb_map_text.specs.declared.read.TextFault.{TextFault}
use Rattle.cb_map_text.specs.declared.read.TextFault.TheVariants.{Line, NoMemory}
use Rattle.cb_map_text.specs.First.{First, HasAcceptedHeader, IsBadLine, IsNoCommand}
use Rattle.cb_map_text.specs.First.First.{TooLong, NoHeader, AtLine}
use Rattle.cb_map_text.specs.Form.{IsInForm, Spells}
use Rattle.cb_map_text.specs.Spelling.{command_line}
use Rattle.cb_map_text.specs.Reading.{FaultIs}
use Rattle.cb_map_text.specs.Texts.{refusal_text}
use Rattle.cb_map_text.specs.Verdicts.{Accepts, Refuses}
use Rattle.cb_script.proofs.PublicLaws.{header_unique}
use Rattle.cb_map_text.proofs.Commands.{command_unique}

-- ---- lines with the same texts

-- no commands go on where a line is none
commands_end : (before others : List FarCommand) (text : List ℕ) (after rest : List (List ℕ))
    → AllByRecursion IsInForm others → IsNoCommand text → length before < length others
    → map command_line before ++ text ∷ after ≡ map command_line others ++ rest → ⊥
commands_end [] [] text after rest form no_command shorter e = absurd (omega (arith, shorter))
commands_end [] (command ∷ others) text after rest form no_command shorter e =
    let here : text ≡ command_line command = cc in no_command command form.0 here
commands_end (first ∷ before) [] text after rest form no_command shorter e = absurd (omega (arith, shorter))
commands_end (first ∷ before) (command ∷ others) text after rest form no_command shorter e =
    let behind : map command_line before ++ text ∷ after ≡ map command_line others ++ rest = cc in
    commands_end before others text after rest form.1 no_command (omega (arith, shorter)) behind

bad_ends : (before others : List FarCommand) (text : List ℕ) (after rest : List (List ℕ))
    → AllByRecursion IsInForm others → length others ≤ 20000 → (length before ≡ 20000) ⊎ IsNoCommand text
    → length before < length others → map command_line before ++ text ∷ after ≡ map command_line others ++ rest → ⊥
bad_ends before others text after rest form few (inl many) shorter e = omega (arith, many, few, shorter)
bad_ends before others text after rest form few (inr no_command) shorter e =
    commands_end before others text after rest form no_command shorter e

tails_same : (x y : List ℕ) (xs ys : List (List ℕ)) → x ∷ xs ≡ y ∷ ys → xs ≡ ys
tails_same x y xs ys e = cc

heads_same : (x y : List ℕ) (xs ys : List (List ℕ)) → x ∷ xs ≡ y ∷ ys → x ≡ y
heads_same x y xs ys e = cc

-- ---- never both

spells_not_bad : (bytes : List ℕ) (c : Config) (line : ℕ) (commands : List FarCommand) → Spells bytes c commands
    → IsBadLine bytes line → ⊥
spells_not_bad bytes c line commands spells bad =
    let texts : map command_line bad.before ++ bad.text ∷ bad.after ≡ map command_line commands ++ [] =
    tails_same (header_line bad.config) (header_line c) (map command_line bad.before ++ bad.text ∷ bad.after) (map command_line commands) (sym bad.lines ∙ spells.text)
    ∙ sym (append-nil (map command_line commands)) in
    let counts : length bad.before < length commands = omega (
      arith,
      ap length texts,
      length-append (map command_line bad.before) (bad.text ∷ bad.after),
      length-append (map command_line commands) [],
      length-map bad.before command_line,
      length-map commands command_line,
    ) in
    bad_ends bad.before commands bad.text bad.after [] spells.form spells.few bad.bad counts texts

pub spells_no_fault : (bytes : List ℕ) (c : Config) (line : ℕ) (commands : List FarCommand) → Spells bytes c commands
    → First bytes line → ⊥
spells_no_fault bytes c line commands spells (TooLong at long) = omega (arith, spells.short, long)
spells_no_fault bytes c line commands spells (NoHeader at short none) =
    none c (record { accepted = spells.accepted; others = map command_line commands; text = spells.text })
spells_no_fault bytes c line commands spells (AtLine short bad) =
    spells_not_bad bytes c line commands spells bad

-- what is accepted is not refused
pub accepted_not_refused : (bytes text : List ℕ) → Accepts bytes → Refuses bytes text → ⊥
accepted_not_refused bytes text accepted refused =
    spells_no_fault bytes accepted.config refused.line accepted.commands accepted.spelled refused.first

-- ---- one fault

bad_after : (bytes : List ℕ) (line other : ℕ) (a : IsBadLine bytes line) (b : IsBadLine bytes other)
    → length a.before < length b.before → ⊥
bad_after bytes line other a b shorter =
    bad_ends a.before b.before a.text a.after (b.text ∷ b.after) b.form b.few a.bad shorter
    (tails_same (header_line a.config) (header_line b.config) (map command_line a.before ++ a.text ∷ a.after) (map command_line b.before ++ b.text ∷ b.after) (sym a.lines ∙ b.lines))

bad_unique : (bytes : List ℕ) (line other : ℕ) → IsBadLine bytes line → IsBadLine bytes other → line ≡ other
bad_unique bytes line other a b =
    elim (cases_lt (length a.before) (length b.before)) [
      | inl shorter ↦ absurd (bad_after bytes line other a b shorter)
      | inr longer ↦ elim (cases_lt (length b.before) (length a.before)) [
        | inl shorter ↦ absurd (bad_after bytes other line b a shorter)
        | inr equal ↦ omega (arith, a.number, b.number, longer, equal)
      ]
    ]

bad_has_header : (bytes : List ℕ) (line : ℕ) (bad : IsBadLine bytes line) → HasAcceptedHeader bytes bad.config
bad_has_header bytes line bad = record {
  accepted = bad.accepted;
  others = map command_line bad.before ++ bad.text ∷ bad.after;
  text = bad.lines;
}

pub first_unique : (bytes : List ℕ) (line other : ℕ) → First bytes line → First bytes other → line ≡ other
first_unique bytes line other (TooLong at long) (TooLong at2 long2) = at ∙ sym at2
first_unique bytes line other (TooLong at long) (NoHeader at2 short none) = absurd (omega (arith, long, short))
first_unique bytes line other (TooLong at long) (AtLine short bad) = absurd (omega (arith, long, short))
first_unique bytes line other (NoHeader at short none) (TooLong at2 long) = absurd (omega (arith, long, short))
first_unique bytes line other (NoHeader at short none) (NoHeader at2 short2 none2) = at ∙ sym at2
first_unique bytes line other (NoHeader at short none) (AtLine short2 bad) =
    absurd (none bad.config (bad_has_header bytes other bad))
first_unique bytes line other (AtLine short bad) (TooLong at long) = absurd (omega (arith, long, short))
first_unique bytes line other (AtLine short bad) (NoHeader at short2 none) =
    absurd (none bad.config (bad_has_header bytes line bad))
first_unique bytes line other (AtLine short a) (AtLine short2 b) = bad_unique bytes line other a b

-- ---- one text

both_same : (x y : FarCommand) (xs ys : List FarCommand) → x ≡ y → xs ≡ ys → x ∷ xs ≡ y ∷ ys
both_same x y xs ys first rest = cc

commands_unique : (commands others : List FarCommand) → AllByRecursion IsInForm commands → AllByRecursion IsInForm others
    → map command_line commands ≡ map command_line others → commands ≡ others
commands_unique [] [] form other_form e = refl
commands_unique [] (y ∷ others) form other_form e = absurd cc
commands_unique (x ∷ commands) [] form other_form e = absurd cc
commands_unique (x ∷ commands) (y ∷ others) form other_form e =
    both_same x y commands others
    (command_unique x y form.0 other_form.0 (heads_same (command_line x) (command_line y) (map command_line commands) (map command_line others) e))
    (commands_unique commands others form.1 other_form.1 (tails_same (command_line x) (command_line y) (map command_line commands) (map command_line others) e))

pub text_unique : (bytes : List ℕ) (c d : Config) (commands others : List FarCommand)
    → Spells bytes c commands → Spells bytes d others → (c ≡ d) × (commands ≡ others)
text_unique bytes c d commands others a b =
    let texts = sym a.text ∙ b.text in (
      header_unique c d a.accepted b.accepted (heads_same (header_line c) (header_line d) (map command_line commands) (map command_line others) texts),
      commands_unique commands others a.form b.form (tails_same (header_line c) (header_line d) (map command_line commands) (map command_line others) texts),
    )

-- the same bytes are refused by one text
pub refusal_unique : (bytes text other : List ℕ) → Refuses bytes text → Refuses bytes other → text ≡ other
refusal_unique bytes text other a b =
    a.text_is ∙ ap refusal_text (first_unique bytes a.line b.line a.first b.first) ∙ sym b.text_is

-- ---- what is answered is the only answer

same_text : (t : FarText) (c : Config) (commands : List FarCommand) → t.config ≡ c → t.commands ≡ commands
    → t ≡ record { config = c; commands = commands }
same_text t c commands configs lists = λ i. record { config = configs i; commands = lists i }

module _ (bytes : List ℕ) where
  -- where the bytes spell commands, these are read
  pub only_read : (result : Result FarText TextFault) (c : Config) (commands : List FarCommand)
      → MatchResult result (λ t. Spells bytes t.config t.commands) (λ fault. FaultIs fault (First bytes))
      → Spells bytes c commands
      → (result ≡ Ok (record { config = c; commands = commands })) ⊎ (result ≡ Err NoMemory)
  only_read (Ok t) c commands right spells =
      let same = text_unique bytes t.config c t.commands commands right spells in
      inl (ap (λ (u : FarText). Ok u) (same_text t c commands same.0 same.1))
  only_read (Err NoMemory) c commands right spells = inr refl
  only_read (Err (Line line)) c commands right spells =
      absurd (spells_no_fault bytes c line commands spells right)

  -- where they have a first line outside the form, it is told
  pub only_refused : (result : Result FarText TextFault) (line : ℕ)
      → MatchResult result (λ t. Spells bytes t.config t.commands) (λ fault. FaultIs fault (First bytes))
      → First bytes line → (result ≡ Err (Line line)) ⊎ (result ≡ Err NoMemory)
  only_refused (Ok t) line right first =
      absurd (spells_no_fault bytes t.config line t.commands right first)
  only_refused (Err NoMemory) line right first = inr refl
  only_refused (Err (Line told)) line right first =
      inl (ap (λ (n : ℕ). Err (Line n)) (first_unique bytes told line right first))
