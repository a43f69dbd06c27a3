-- One step of clap's walk over the words, for a command of one required word and three options.
use Rattle.std.proofs.Common.{◌≡◌, ℕ, zero, suc, Bool, true, false, cond, ◌||◌, ◌&&◌, ◌⊎◌, inl, inr, List, [], ◌∷◌, ◌++◌, Option, Some, None, refl, sym, ap, ◌∙◌, codes, length, map, append-nil}
use Rattle.std.proofs.lemmas.Bool.{cases_Bool}
use Rattle.std.proofs.lemmas.List.{map-append}
use Rattle.std.proofs.lemmas.Slice.Eq.{bytes_eq-Decides}
use Rattle.std.specs.Option.{option_map_or}
use Rattle.std.specs.Prelude.{slice_get, option_map}
use Rattle.std.specs.Str.{bytes_eq, chars}
use Rattle.clap.specs.Lexer.{long_of}
use Rattle.clap.specs.Kinds.{Kinds, or_else}
use Rattle.clap.specs.Walk.{Held, Row, Rule, Step, Text, Waiting, Walk, after_flag, after_step, arg_by_id, arg_by_long, at_row, bundle_met, bundle_step, has_row, idle, long_or_other, more_values, option, plain, plain_word, reading_by, settled, short_or_plain, subcommand_met, subcommand_or_other, trailing, used, walked, with_values, without}
use Rattle.clap.specs.Simple.{App, Shape, app_of, app_of_fields, built, filled, new_app, with_index, with_rule}
use Rattle.clap.specs.Faults.{bundle_fault, bundle_step_fault, flag_word_fault, flags_fault, is_simple_and_free, other_fault, settle_fault, step_fault, turn_fault, use_fault}
use Rattle.clap.specs.declared.builder.command.Command.TheViews.{out-Command}
use Rattle.clap.specs.declared.builder.command.Command.{Command}
use Rattle.clap.specs.declared.builder.command.Command.TheOpen.{Command-F}
use Rattle.clap.specs.declared.error.kind.ErrorKind.{ErrorKind}
use Rattle.clap.specs.declared.parser.matches.ValueSource.TheVariants.{CommandLine}
use Rattle.clap.specs.declared.builder.value_parser.Reading.{Reading}
use Rattle.cb_cli.specs.Reader.{option_rule, quieted, reader, word_reader, word_rule}
use Rattle.cb_cli.specs.Words.{CommandPart, Setting, setting_name}
use Rattle.cb_cli.specs.Words.CommandPart.{Word, Given}
use Rattle.cb_cli.specs.Words.Setting.{Seed, Lines, Lanes}
use Rattle.cb_cli.proofs.FlagWords.{dashes}

-- what the calls that make the reader of one word leave
pub reader_made : (new named helpless quiet made : Command) → app_of new ≡ new_app (codes "carbink")
    → out-Command named ≡ record (out-Command new) { no_binary_name = true }
    → out-Command helpless ≡ record (out-Command named) { disable_help_flag = true }
    → out-Command quiet ≡ record (out-Command helpless) { disable_version_flag = true }
    → app_of made ≡ with_rule (app_of quiet) word_rule
    → app_of made ≡ word_reader
reader_made new named helpless quiet made is a b c more =
    let fields : out-Command quiet ≡ record (out-Command new) { no_binary_name = true; disable_help_flag = true; disable_version_flag = true } =
    c ∙ ap (λ (f : Command-F Command). record f { disable_version_flag = true }) b
    ∙ ap (λ (f : Command-F Command). record f { disable_help_flag = true; disable_version_flag = true }) a in
    let quiet_is : app_of quiet ≡ quieted (new_app (codes "carbink")) = ap app_of_fields fields ∙ ap quieted is in
    more ∙ ap (λ (q : App). with_rule q word_rule) quiet_is

-- and as it is built
abbrev pub shape : Shape
shape = (built reader).top

abbrev pub rules : List Rule
rules = shape.rules

abbrev pub again : Bool
again = shape.args_override_self

pub reader_is_simple : is_simple_and_free reader ≡ true
reader_is_simple = refl

-- ---- parts as rows

abbrev pub option_of : Setting → Rule
option_of o = with_index 2 (filled (option_rule (setting_name o)))

abbrev pub part_rule : CommandPart → Rule
part_rule (Word w) = with_index 1 (filled word_rule)
part_rule (Given o v) = option_of o

abbrev pub part_id : CommandPart → Text
part_id (Word w) = codes "command"
part_id (Given o v) = setting_name o

abbrev pub part_value : CommandPart → Text
part_value (Word w) = w
part_value (Given o v) = v

abbrev how : Reading
how = reading_by (with_index 1 (filled word_rule))

abbrev row_with : Text → Text → Row
row_with id v = record { id = id; values = v ∷ []; count = None; source = Some CommandLine; reading = how }

abbrev pub row : CommandPart → Row
row p = row_with (part_id p) (part_value p)

pub by_id : (p : CommandPart) → arg_by_id rules (part_id p) ≡ Some (part_rule p)
by_id (Word w) = refl
by_id (Given Seed v) = refl
by_id (Given Lines v) = refl
by_id (Given Lanes v) = refl

pub a_kind : (k : ErrorKind) (ks : Kinds) → k ∷ ks ≡ [] → ⊥
a_kind k ks e = absurd cc

pub no_first : (a b : Kinds) → or_else a b ≡ [] → a ≡ []
no_first [] b e = refl
no_first (k ∷ ks) b e = e

pub no_second : (a b : Kinds) → or_else a b ≡ [] → b ≡ []
no_second [] b e = e
no_second (k ∷ ks) b e = absurd cc

pub is_false_or : (a b : Bool) → (a || b) ≡ false → (a ≡ false) × (b ≡ false)
is_false_or false b e = (refl, e)
is_false_or true b e = absurd cc

pub and_no : (b : Bool) → (b && false) ≡ false
and_no true = refl
and_no false = refl

-- a row that is not there yet comes at the end
at_row_none : (id : Text) (change : Row → List Row) (missing rs : List Row) → has_row id rs ≡ false → at_row id change missing rs ≡ rs ++ missing
at_row_none id change missing [] none = refl
at_row_none id change missing (r ∷ rs) none =
    let both = is_false_or (bytes_eq r.id id) (has_row id rs) none in
    ap (λ (b : Bool). cond b (change r ++ rs) (r ∷ at_row id change missing rs)) both.0
    ∙ ap (λ (more : List Row). r ∷ more) (at_row_none id change missing rs both.1)

set_is : (id : Text) (v : Text) (rs : List Row) → has_row id rs ≡ false → with_values id how CommandLine (v ∷ []) (without id rs) ≡ rs ++ row_with id v ∷ []
set_is id v rs none =
    ap (with_values id how CommandLine (v ∷ [])) (at_row_none id (λ r. []) [] rs none ∙ append-nil rs)
    ∙ at_row_none id (more_values CommandLine (v ∷ [])) (row_with id v ∷ []) rs none

pub used_is : (p : CommandPart) (rs : List Row) → has_row (part_id p) rs ≡ false → used (part_rule p) (part_value p ∷ []) rs ≡ rs ++ row p ∷ []
used_is (Word w) rs none = set_is (codes "command") w rs none
used_is (Given o v) rs none = set_is (setting_name o) v rs none

repeat_is : (k : ErrorKind) (b : Bool) → cond (b && true) (k ∷ []) [] ≡ [] → b ≡ false
repeat_is k true e = absurd cc
repeat_is k false e = refl

pub use_is : (p : CommandPart) (rs : List Row) → use_fault again (part_rule p) (part_value p ∷ []) rs ≡ [] → has_row (part_id p) rs ≡ false
use_is (Word w) rs e = repeat_is _ (has_row (codes "command") rs) (no_first _ _ e)
use_is (Given o v) rs e = repeat_is _ (has_row (setting_name o) rs) (no_first _ _ e)

pub use_free : (p : CommandPart) (rs : List Row) → has_row (part_id p) rs ≡ false → use_fault again (part_rule p) (part_value p ∷ []) rs ≡ []
use_free (Word w) rs none = rw none refl
use_free (Given o v) rs none = rw none refl

-- ---- where the walk stands between two parts

abbrev pub all_of : List CommandPart → Option CommandPart → List CommandPart
all_of done None = done
all_of done (Some p) = done ++ p ∷ []

abbrev pub held_at : List CommandPart → Option CommandPart → Held
held_at done pending = record { rows = map row done; pending = option_map (λ p. (part_id p, part_value p ∷ [])) pending; skip = 0 }

pub settle_fault_is : (done : List CommandPart) (p : CommandPart) → settle_fault rules again (held_at done (Some p)) ≡ use_fault again (part_rule p) (part_value p ∷ []) (map row done)
settle_fault_is done p =
    ap (λ (found : Option Rule). option_map_or (λ a. use_fault again a (part_value p ∷ []) (map row done)) found []) (by_id p)

pub settled_is : (done : List CommandPart) (pending : Option CommandPart) → settle_fault rules again (held_at done pending) ≡ [] → settled rules (held_at done pending) ≡ held_at (all_of done pending) None
settled_is done None e = refl
settled_is done (Some p) e =
    let none = use_is p (map row done) (sym (settle_fault_is done p) ∙ e) in
    let rows : (settled rules (held_at done (Some p))).rows ≡ map row (done ++ p ∷ []) =
    ap (λ (found : Option Rule). Rattle.clap.specs.Walk.used_by_id found (part_value p ∷ []) (map row done)) (by_id p)
    ∙ used_is p (map row done) none ∙ sym (map-append row done (p ∷ [])) in
    (λ i. record { rows = rows i; pending = None; skip = 0 })

abbrev pub at_idle : Held → ℕ → Walk
at_idle held position = record { held = held; waiting = idle; position = position; is_trailing = false; stopped = None }

abbrev pub held_for : List CommandPart → Setting → Held
held_for done o = record { rows = map row done; pending = Some (setting_name o, []); skip = 0 }

abbrev pub at_waiting : List CommandPart → Setting → ℕ → Walk
at_waiting done o position = record { held = held_for done o; waiting = option (setting_name o); position = position; is_trailing = false; stopped = None }

-- an option without its value is refused
pub no_value : (done : List CommandPart) (o : Setting) → settle_fault rules again (held_for done o) ≡ [] → ⊥
no_value done Seed e = a_kind _ _ e
no_value done Lines e = a_kind _ _ e
no_value done Lanes e = a_kind _ _ e

-- ---- the name of an option

decided : (a b : Text) → bytes_eq a b ≡ true → b ≡ a
decided a b t = sym ((bytes_eq-Decides a b).0 t)

pub option_named : (name : Text) → (arg_by_long rules name ≡ None) ⊎ ((o : Setting) × (name ≡ setting_name o) × (arg_by_long rules name ≡ Some (option_of o)))
option_named name = elim (cases_Bool (bytes_eq (codes "seed") name)) [
  | inl t ↦ inr (Seed, decided (codes "seed") name t, rw t refl)
  | inr f ↦ elim (cases_Bool (bytes_eq (codes "lines") name)) [
    | inl t ↦ inr (Lines, decided (codes "lines") name t, rw (f, t) refl)
    | inr g ↦ elim (cases_Bool (bytes_eq (codes "lanes") name)) [
      | inl t ↦ inr (Lanes, decided (codes "lanes") name t, rw (f, g, t) refl)
      | inr h ↦ inl (rw (f, g, h) refl)
    ]
  ]
]

-- ---- a word that is no option's

module _ (w : Text) (rows : List Row) (pending : Option (Text × List Text)) (waiting : Waiting) where
  abbrev held : Held
  held = record { rows = rows; pending = pending; skip = 0 }

  step_case : (k : ℕ) (found : Option ℕ) (flags : Text)
      → bundle_step_fault rules again found flags 0 held (flags_fault rules again k) ≡ []
      → after_flag rules waiting w (bundle_step rules found flags 0 plain held (bundle_met rules k)).0 (bundle_step rules found flags 0 plain held (bundle_met rules k)).1 ≡ plain_word rules waiting w held
  step_case k None flags e = refl
  step_case k (Some x) flags e = absurd cc

  bundle_case : (k : ℕ) (flags : Text) → flags_fault rules again k flags 0 held ≡ []
      → after_flag rules waiting w (bundle_met rules k flags 0 plain held).0 (bundle_met rules k flags 0 plain held).1 ≡ plain_word rules waiting w held
  unfolding flags_fault bundle_met
  bundle_case zero flags e = refl
  bundle_case (suc k) flags e = step_case k (slice_get (chars flags) 0) flags e

  pub short_case : (found : Option Text) → option_map_or (λ flags. bundle_fault rules again flags held) found [] ≡ []
      → short_or_plain rules waiting w found held ≡ plain_word rules waiting w held
  short_case None e = refl
  short_case (Some flags) e = bundle_case (length flags) flags e

  -- what a word comes to, by what it looks like
  abbrev pub fault_by : ℕ → Option (Text × Option Text) → Kinds
  fault_by position found =
      or_else (flag_word_fault rules again found w held)
      (step_fault shape position (long_or_other rules waiting w found held).0 (long_or_other rules waiting w found held).1)

  abbrev pub at_word : ℕ → Walk
  at_word position = record { held = held; waiting = waiting; position = position; is_trailing = false; stopped = None }

  abbrev pub walked_by : ℕ → Option (Text × Option Text) → Walk
  walked_by position found =
      after_step rules w (at_word position) (long_or_other rules waiting w found held).0 (long_or_other rules waiting w found held).1

  abbrev met_with : ℕ → Option Text → Bool → Held × Step
  met_with position (Some name) b = (held, Rattle.clap.specs.Walk.subcommand name)
  met_with position None b = cond b (held, trailing position) (long_or_other rules waiting w (long_of w) held)

  abbrev fault_with : Option Text → Bool → Kinds
  fault_with (Some name) b = other_fault shape (Some name) w held
  fault_with None b = cond b [] (flag_word_fault rules again (long_of w) w held)

  pub turn_is : (position : ℕ) → subcommand_met [] waiting w ≡ None → bytes_eq w dashes ≡ false → turn_fault shape [] (at_word position) w ≡ fault_by position (long_of w)
  turn_is position none other =
      ap (λ (o : Option Text). or_else (other_fault shape o w held) (step_fault shape position (subcommand_or_other rules o waiting position w held).0 (subcommand_or_other rules o waiting position w held).1)) none
      ∙ ap (λ (b : Bool). or_else (fault_with None b) (step_fault shape position (met_with position None b).0 (met_with position None b).1)) other

  pub walked_is : (position : ℕ) → subcommand_met [] waiting w ≡ None → bytes_eq w dashes ≡ false → walked rules [] (at_word position) w ≡ walked_by position (long_of w)
  unfolding walked
  walked_is position none other =
      ap (λ (o : Option Text). after_step rules w (at_word position) (subcommand_or_other rules o waiting position w held).0 (subcommand_or_other rules o waiting position w held).1) none
      ∙ ap (λ (b : Bool). after_step rules w (at_word position) (met_with position None b).0 (met_with position None b).1) other
