-- What clap makes of the words, part after part.
use Rattle.std.proofs.Common.{◌≡◌, ℕ, ◌+◌, ◌<◌, ◌≤◌, Bool, true, false, cond, inl, inr, List, [], ◌∷◌, ◌++◌, Option, Some, None, refl, sym, ap, ◌∙◌, codes, length, map, length-append, arith}
use Rattle.std.proofs.lemmas.List.{map-append}
use Rattle.std.proofs.lemmas.List.Elements.{filter-append}
use Rattle.std.specs.Prelude.{option_map}
use Rattle.std.specs.Option.{option_map_or}
use Rattle.std.specs.List.{filter}
use Rattle.std.specs.Str.{bytes_eq}
use Rattle.clap.specs.Lexer.{long_of, short_of}
use Rattle.clap.specs.Kinds.{Kinds, or_else}
use Rattle.clap.specs.Walk.{Held, Row, Rule, Text, Walk, after_flag, after_step, arg_by_long, has_row, idle, is_pending, long_met, option, plain_word, pushed, settled, short_or_plain, used, value, walked}
use Rattle.clap.specs.Faults.{bundle_fault, long_fault, settle_fault, step_fault, turn_fault, use_fault}
use Rattle.cb_cli.specs.Words.{CommandPart, Setting, is_given, is_word, setting_name}
use Rattle.cb_cli.specs.Words.CommandPart.{Word, Given}
use Rattle.cb_cli.specs.Words.Setting.{Seed, Lines, Lanes}
use Rattle.cb_cli.proofs.FlagWords.{IsNoFlag, dashes}
use Rattle.cb_cli.proofs.OptionReader.{a_kind, again, all_of, and_no, at_idle, at_waiting, fault_by, held_at, held_for, no_first, no_value, option_named, option_of, part_id, part_rule, part_value, row, rules, settled_is, shape, short_case, turn_is, use_free, used_is, walked_by, walked_is}

-- ---- how often a part stands among others

-- each kind of part stands once at the most
pub record AreOnce (parts : List CommandPart) : Type 0 where
  pub word : length (filter is_word parts) ≤ 1
  pub given : (o : Setting) → length (filter (is_given o) parts) ≤ 1

-- ---- rows and parts

-- a kind of part that has no row does not stand among them
pub no_word : (parts : List CommandPart) → has_row (codes "command") (map row parts) ≡ false → filter is_word parts ≡ []
no_word [] e = refl
no_word (Word w ∷ parts) e = absurd cc
no_word (Given Seed v ∷ parts) e = no_word parts e
no_word (Given Lines v ∷ parts) e = no_word parts e
no_word (Given Lanes v ∷ parts) e = no_word parts e

pub no_given : (o : Setting) (parts : List CommandPart) → has_row (setting_name o) (map row parts) ≡ false → filter (is_given o) parts ≡ []
no_given o [] e = refl
no_given Seed (Word w ∷ parts) e = no_given Seed parts e
no_given Seed (Given Seed v ∷ parts) e = absurd cc
no_given Seed (Given Lines v ∷ parts) e = no_given Seed parts e
no_given Seed (Given Lanes v ∷ parts) e = no_given Seed parts e
no_given Lines (Word w ∷ parts) e = no_given Lines parts e
no_given Lines (Given Seed v ∷ parts) e = no_given Lines parts e
no_given Lines (Given Lines v ∷ parts) e = absurd cc
no_given Lines (Given Lanes v ∷ parts) e = no_given Lines parts e
no_given Lanes (Word w ∷ parts) e = no_given Lanes parts e
no_given Lanes (Given Seed v ∷ parts) e = no_given Lanes parts e
no_given Lanes (Given Lines v ∷ parts) e = no_given Lanes parts e
no_given Lanes (Given Lanes v ∷ parts) e = absurd cc

-- and the other way round
word_row : (parts : List CommandPart) → length (filter is_word parts) < 1 → has_row (codes "command") (map row parts) ≡ false
word_row [] few = refl
word_row (Word w ∷ parts) few = absurd (omega (arith, few))
word_row (Given Seed v ∷ parts) few = word_row parts few
word_row (Given Lines v ∷ parts) few = word_row parts few
word_row (Given Lanes v ∷ parts) few = word_row parts few

given_row : (o : Setting) (parts : List CommandPart) → length (filter (is_given o) parts) < 1 → has_row (setting_name o) (map row parts) ≡ false
given_row o [] few = refl
given_row Seed (Word w ∷ parts) few = given_row Seed parts few
given_row Seed (Given Seed v ∷ parts) few = absurd (omega (arith, few))
given_row Seed (Given Lines v ∷ parts) few = given_row Seed parts few
given_row Seed (Given Lanes v ∷ parts) few = given_row Seed parts few
given_row Lines (Word w ∷ parts) few = given_row Lines parts few
given_row Lines (Given Seed v ∷ parts) few = given_row Lines parts few
given_row Lines (Given Lines v ∷ parts) few = absurd (omega (arith, few))
given_row Lines (Given Lanes v ∷ parts) few = given_row Lines parts few
given_row Lanes (Word w ∷ parts) few = given_row Lanes parts few
given_row Lanes (Given Seed v ∷ parts) few = given_row Lanes parts few
given_row Lanes (Given Lines v ∷ parts) few = given_row Lanes parts few
given_row Lanes (Given Lanes v ∷ parts) few = absurd (omega (arith, few))

-- how many parts of a kind there are in two lists
pub kind_count : (kind : CommandPart → Bool) (one other : List CommandPart) → length (filter kind (one ++ other)) ≡ length (filter kind one) + length (filter kind other)
kind_count kind one other = ap length (filter-append kind one other) ∙ length-append (filter kind one) (filter kind other)

one_more : (kind : CommandPart → Bool) (parts : List CommandPart) (p : CommandPart) → filter kind parts ≡ [] → length (filter kind (parts ++ p ∷ [])) ≤ 1
one_more kind parts p none =
    let few : length (filter kind (p ∷ [])) ≤ 1 = single (kind p) in
    omega (arith, kind_count kind parts (p ∷ []), ap length none, few)
  where
    single : (b : Bool) → length (cond b (p ∷ []) []) ≤ 1
    single true = omega arith
    single false = omega arith

same_more : (kind : CommandPart → Bool) (parts : List CommandPart) (p : CommandPart) → kind p ≡ false → length (filter kind (parts ++ p ∷ [])) ≡ length (filter kind parts)
same_more kind parts p other =
    let none : length (filter kind (p ∷ [])) ≡ 0 = ap (λ (b : Bool). length (cond b (p ∷ []) [])) other in
    omega (arith, kind_count kind parts (p ∷ []), none)

given_more : (q o : Setting) (parts : List CommandPart) (v : Text) → AreOnce parts → has_row (setting_name o) (map row parts) ≡ false → length (filter (is_given q) (parts ++ Given o v ∷ [])) ≤ 1
given_more Seed Seed parts v once none = one_more (is_given Seed) parts (Given Seed v) (no_given Seed parts none)
given_more Seed Lines parts v once none = omega (arith, once.given Seed, same_more (is_given Seed) parts (Given Lines v) refl)
given_more Seed Lanes parts v once none = omega (arith, once.given Seed, same_more (is_given Seed) parts (Given Lanes v) refl)
given_more Lines Seed parts v once none = omega (arith, once.given Lines, same_more (is_given Lines) parts (Given Seed v) refl)
given_more Lines Lines parts v once none = one_more (is_given Lines) parts (Given Lines v) (no_given Lines parts none)
given_more Lines Lanes parts v once none = omega (arith, once.given Lines, same_more (is_given Lines) parts (Given Lanes v) refl)
given_more Lanes Seed parts v once none = omega (arith, once.given Lanes, same_more (is_given Lanes) parts (Given Seed v) refl)
given_more Lanes Lines parts v once none = omega (arith, once.given Lanes, same_more (is_given Lanes) parts (Given Lines v) refl)
given_more Lanes Lanes parts v once none = one_more (is_given Lanes) parts (Given Lanes v) (no_given Lanes parts none)

-- one part more, of a kind that has no row
pub once_more : (parts : List CommandPart) (p : CommandPart) → AreOnce parts → has_row (part_id p) (map row parts) ≡ false → AreOnce (parts ++ p ∷ [])
once_more parts (Word w) once none = record {
  word = one_more is_word parts (Word w) (no_word parts none);
  given = λ o. omega (arith, once.given o, same_more (is_given o) parts (Word w) refl);
}
once_more parts (Given o v) once none = record {
  word = omega (arith, once.word, same_more is_word parts (Given o v) refl);
  given = λ q. given_more q o parts v once none;
}

self_count : (o : Setting) (v : Text) → length (filter (is_given o) (Given o v ∷ [])) ≡ 1
self_count Seed v = refl
self_count Lines v = refl
self_count Lanes v = refl

-- a part that stands once has no row before it
pub fresh : (done : List CommandPart) (p : CommandPart) (rest : List CommandPart) → AreOnce ((done ++ p ∷ []) ++ rest) → has_row (part_id p) (map row done) ≡ false
fresh done (Word w) rest once =
    word_row done (omega (arith, once.word, kind_count is_word (done ++ Word w ∷ []) rest, kind_count is_word done (Word w ∷ [])))
fresh done (Given o v) rest once =
    given_row o done (omega (arith, once.given o, kind_count (is_given o) (done ++ Given o v ∷ []) rest, kind_count (is_given o) done (Given o v ∷ []), self_count o v))

-- ---- a word where nothing waits for a value

module _ (done : List CommandPart) (pending : Option CommandPart) (w : Text) where
  abbrev rows : List Row
  rows = map row done

  abbrev pub pend : Option (Text × List Text)
  pend = option_map (λ p. (part_id p, part_value p ∷ [])) pending

  abbrev held : Held
  held = held_at done pending

  abbrev all : List CommandPart
  all = all_of done pending

  pub value_fault : step_fault shape 1 held value ≡ settle_fault rules again held
  value_fault = ap (λ (b : Bool). cond b [] (settle_fault rules again held)) (and_no (is_pending (part_rule (Word w)) pend))

  pub value_walk : settle_fault rules again held ≡ [] → after_step rules w (at_idle held 1) held value ≡ at_idle (held_at all (Some (Word w))) 2
  value_walk free =
      ap (λ (b : Bool). at_idle (pushed (codes "command") w (cond b held (settled rules held))) 2) (and_no (is_pending (part_rule (Word w)) pend))
      ∙ ap (λ (s : Held). at_idle (pushed (codes "command") w s) 2) (settled_is done pending free)

  abbrev by_short : ℕ → Option Text → Kinds
  by_short position short =
      or_else (option_map_or (λ flags. bundle_fault rules again flags held) short []) (step_fault shape position (short_or_plain rules idle w short held).0 (short_or_plain rules idle w short held).1)

  abbrev pub by_rule : ℕ → Option Rule → Option Text → Kinds
  by_rule position rule v =
      or_else (long_fault rules again rule v held) (step_fault shape position (after_flag rules idle w (long_met rules rule v held).0 (long_met rules rule v held).1).0 (after_flag rules idle w (long_met rules rule v held).0 (long_met rules rule v held).1).1)

  abbrev pub walk_rule : ℕ → Option Rule → Option Text → Walk
  walk_rule position rule v =
      after_step rules w (at_idle held position) (after_flag rules idle w (long_met rules rule v held).0 (long_met rules rule v held).1).0 (after_flag rules idle w (long_met rules rule v held).0 (long_met rules rule v held).1).1

  module _ (o : Setting) (v : Text) (free : settle_fault rules again held ≡ []) (none : has_row (setting_name o) (map row all) ≡ false) where
    pub joined_fault : (position : ℕ) → by_rule position (Some (option_of o)) (Some v) ≡ []
    joined_fault position =
        (λ i. or_else (or_else (free i) (use_fault again (option_of o) (v ∷ []) (settled_is done pending free i).rows)) [])
        ∙ ap (λ (ks : Kinds). or_else ks []) (use_free (Given o v) (map row all) none)

    pub joined_walk : (position : ℕ) → walk_rule position (Some (option_of o)) (Some v) ≡ at_idle (held_at (all ++ Given o v ∷ []) None) position
    joined_walk position =
        (λ i. at_idle (record { rows = used (option_of o) (v ∷ []) (settled_is done pending free i).rows; pending = None; skip = 0 }) position)
        ∙ ap (λ (rs : List Row). at_idle (record { rows = rs; pending = None; skip = 0 }) position) (used_is (Given o v) (map row all) none ∙ sym (map-append row all (Given o v ∷ [])))

  pub named_walk : (o : Setting) (position : ℕ) → settle_fault rules again held ≡ [] → walk_rule position (Some (option_of o)) None ≡ at_waiting all o position
  named_walk o position free =
      ap (λ (s : Held). record { held = record s { pending = Some (setting_name o, []) }; waiting = option (setting_name o); position = position; is_trailing = false; stopped = None }) (settled_is done pending free)

  module _ (position : ℕ) (other : bytes_eq w dashes ≡ false) where
    pub turned : turn_fault shape [] (at_idle held position) w ≡ fault_by w rows pend idle position (long_of w)
    turned = turn_is w rows pend idle position refl other

    pub went : walked rules [] (at_idle held position) w ≡ walked_by w rows pend idle position (long_of w)
    went = walked_is w rows pend idle position refl other

  -- the word that is to be there
  pub word_turn : IsNoFlag w → settle_fault rules again held ≡ [] → (turn_fault shape [] (at_idle held 1) w ≡ []) × (walked rules [] (at_idle held 1) w ≡ at_idle (held_at all (Some (Word w))) 2)
  word_turn plain free = (
    turned 1 plain.other ∙ ap (fault_by w rows pend idle 1) plain.long ∙ ap (by_short 1) plain.short ∙ value_fault ∙ free,
    went 1 plain.other ∙ ap (walked_by w rows pend idle 1) plain.long ∙ ap (λ (short : Option Text). after_step rules w (at_idle held 1) (short_or_plain rules idle w short held).0 (short_or_plain rules idle w short held).1) plain.short ∙ value_walk free,
  )

-- ---- a word where an option waits for its value

module _ (done : List CommandPart) (o : Setting) (position : ℕ) (w : Text) where
  abbrev waiting_pend : Option (Text × List Text)
  waiting_pend = Some (setting_name o, [])

  abbrev waiting_held : Held
  waiting_held = held_for done o

  given_walk : (q : Setting) → after_step rules w (at_waiting done q position) (plain_word rules (option (setting_name q)) w (held_for done q)).0 (plain_word rules (option (setting_name q)) w (held_for done q)).1 ≡ at_idle (held_at done (Some (Given q w))) position
  given_walk Seed = refl
  given_walk Lines = refl
  given_walk Lanes = refl

  pub value_turn : IsNoFlag w → (turn_fault shape [] (at_waiting done o position) w ≡ []) × (walked rules [] (at_waiting done o position) w ≡ at_idle (held_at done (Some (Given o w))) position)
  value_turn plain = (
    turn_is w (map row done) waiting_pend (option (setting_name o)) position refl plain.other ∙ ap (fault_by w (map row done) waiting_pend (option (setting_name o)) position) plain.long
        ∙ ap (λ (short : Option Text). or_else (option_map_or (λ flags. bundle_fault rules again flags waiting_held) short []) (step_fault shape position (short_or_plain rules (option (setting_name o)) w short waiting_held).0 (short_or_plain rules (option (setting_name o)) w short waiting_held).1)) plain.short,
    walked_is w (map row done) waiting_pend (option (setting_name o)) position refl plain.other ∙ ap (walked_by w (map row done) waiting_pend (option (setting_name o)) position) plain.long
        ∙ ap (λ (short : Option Text). after_step rules w (at_waiting done o position) (short_or_plain rules (option (setting_name o)) w short waiting_held).0 (short_or_plain rules (option (setting_name o)) w short waiting_held).1) plain.short
        ∙ given_walk o,
  )

  -- a word that is not refused there is the option's value
  pub value_taken : bytes_eq w dashes ≡ false → turn_fault shape [] (at_waiting done o position) w ≡ [] → walked rules [] (at_waiting done o position) w ≡ at_idle (held_at done (Some (Given o w))) position
  value_taken other e =
      by_look (long_of w) (sym (turn_is w (map row done) waiting_pend (option (setting_name o)) position refl other) ∙ e)
      (walked_is w (map row done) waiting_pend (option (setting_name o)) position refl other)
    where
      refused : (name : Text) (v : Option Text) → long_fault rules again (arg_by_long rules name) v waiting_held ≡ [] → ⊥
      refused name v e = elim (option_named name) [
        | inl unknown ↦ a_kind _ _ (sym (ap (λ (rule : Option Rule). long_fault rules again rule v waiting_held) unknown) ∙ e)
        | inr known_one ↦ no_value done o (settles known_one.0 v (sym (ap (λ (rule : Option Rule). long_fault rules again rule v waiting_held) known_one.2) ∙ e))
      ]
        where
          settles : (q : Setting) (v : Option Text) → long_fault rules again (Some (option_of q)) v waiting_held ≡ [] → settle_fault rules again waiting_held ≡ []
          settles q None e = e
          settles q (Some v) e = no_first _ _ e

      by_look : (found : Option (Text × Option Text)) → fault_by w (map row done) waiting_pend (option (setting_name o)) position found ≡ []
          → walked rules [] (at_waiting done o position) w ≡ walked_by w (map row done) waiting_pend (option (setting_name o)) position found
          → walked rules [] (at_waiting done o position) w ≡ at_idle (held_at done (Some (Given o w))) position
      by_look None e walk_is =
          let same = short_case w (map row done) waiting_pend (option (setting_name o)) (short_of w) (no_first _ _ e) in
          walk_is ∙ (λ i. after_step rules w (at_waiting done o position) (same i).0 (same i).1) ∙ given_walk o
      by_look (Some (name, v)) e walk_is = absurd (refused name v (no_first _ _ e))
