-- What asks for a drawn script has four words or more, and so no command's.
use Rattle.std.proofs.Common.{◌≡◌, ℕ, ◌+◌, ◌≤◌, List, [], ◌∷◌, length, map, refl, ap, inl, inr, String, Global, arith, length-append}
use Rattle.std.specs.List.{filter}
use Rattle.std.specs.Prelude.{string_bytes}
use Rattle.std.proofs.lemmas.List.{length-map}
use Rattle.cb_cli.specs.declared.words.Command.{Command}
use Rattle.cb_cli.specs.declared.words.Plan.{Plan}
use Rattle.cb_cli.specs.Words.{AreParts, AskFor, CommandPart, IsPart, Name, is_given, is_word}
use Rattle.cb_cli.specs.Words.CommandPart.{Word, Given}
use Rattle.cb_cli.specs.Words.Setting.{Seed, Lines, Lanes}

kinds_sum : (parts : List CommandPart) → length parts ≡ length (filter is_word parts) + (length (filter (is_given Seed) parts) + (length (filter (is_given Lines) parts) + length (filter (is_given Lanes) parts)))
kinds_sum [] = refl
kinds_sum (Word w ∷ parts) = omega (arith, kinds_sum parts)
kinds_sum (Given Seed v ∷ parts) = omega (arith, kinds_sum parts)
kinds_sum (Given Lines v ∷ parts) = omega (arith, kinds_sum parts)
kinds_sum (Given Lanes v ∷ parts) = omega (arith, kinds_sum parts)

front_some : (p : CommandPart) (front : List (List ℕ)) → IsPart p front → 1 ≤ length front
front_some (Word w) front is = omega (arith, ap length is)
front_some (Given o v) front (inl is) = omega (arith, ap length is)
front_some (Given o v) front (inr is) = omega (arith, ap length is)

few_parts : (parts : List CommandPart) (words : List (List ℕ)) → AreParts parts words → length parts ≤ length words
few_parts [] words are = omega arith
few_parts (p ∷ parts) words are =
    omega (arith, front_some p are.0 are.2, few_parts parts are.1 are.3, ap length are.4, length-append are.0 are.1)

pub four_words : (words : List (String Global)) (plan : Plan) → AskFor words plan → 4 ≤ length words
four_words words plan asks =
    omega (arith, kinds_sum asks.parts, few_parts asks.parts (map string_bytes words) asks.words_are, length-map words string_bytes, ap length asks.gen, ap length (asks.options Seed), ap length (asks.options Lines), ap length (asks.options Lanes))

-- a command has one
pub no_command_draws : (words : List (String Global)) (plan : Plan) (c : Command) → AskFor words plan → Name words c → ⊥
no_command_draws words plan c asks named =
    omega (arith, four_words words plan asks, length-map words string_bytes, ap length named)
