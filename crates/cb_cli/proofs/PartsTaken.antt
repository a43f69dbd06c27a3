-- Which lists of words clap takes, and the parts that it finds in them.
use Rattle.std.proofs.Common.{◌≡◌, ℕ, ◌<◌, false, ◌⊎◌, inl, inr, List, [], ◌∷◌, ◌++◌, Option, Some, None, refl, sym, ap, ◌∙◌, subst, length, map, fold, append-nil, append_assoc, arith}
use Rattle.std.specs.List.{AllByRecursion, filter, list_any}
use Rattle.std.specs.Str.{bytes_eq}
use Rattle.clap.specs.Lexer.{long_of, short_of}
use Rattle.clap.specs.Kinds.{Kinds, or_else}
use Rattle.clap.specs.Walk.{Held, Rule, Text, Walk, after_step, arg_by_long, has_row, idle, settled, value, walked}
use Rattle.clap.specs.Faults.{long_fault, settle_fault, step_fault, turn_fault, use_fault, walk_fault}
use Rattle.cb_cli.specs.Words.{AreParts, CommandPart, Setting, is_word, setting_name}
use Rattle.cb_cli.specs.Words.CommandPart.{Word, Given}
use Rattle.cb_cli.specs.Words.Setting.{Seed, Lines, Lanes}
use Rattle.cb_cli.proofs.FlagWords.{IsLongFlag, IsNoFlag, dashes, long_is}
use Rattle.cb_cli.proofs.OptionReader.{a_kind, again, all_of, at_idle, at_waiting, fault_by, held_at, is_false_or, no_first, no_second, no_value, option_named, option_of, part_value, row, rules, settle_fault_is, settled_is, shape, short_case, use_free, use_is, walked_by}
use Rattle.cb_cli.proofs.PartsRead.{AreOnce, by_rule, fresh, joined_fault, joined_walk, kind_count, named_walk, once_more, pend, turned, value_fault, value_taken, value_turn, value_walk, walk_rule, went, word_turn}

-- where the walk stands: between two parts, or where an option waits for its value
pub data At : Type 0 where
  idle_at : (done : List CommandPart) (pending : Option CommandPart) (position : ℕ) → At
  waits_at : (done : List CommandPart) (o : Setting) (position : ℕ) → At

abbrev pub walk_of : At → Walk
walk_of (idle_at done pending position) = at_idle (held_at done pending) position
walk_of (waits_at done o position) = at_waiting done o position

abbrev IsFine : At → Type 0
IsFine (idle_at done pending position) = AreOnce done × ((position ≡ 1) ⊎ (position ≡ 2))
IsFine (waits_at done o position) = AreOnce done × ((position ≡ 1) ⊎ (position ≡ 2))

-- from there the words read as parts, and with those before they are these
abbrev pub ReadsParts : At → List Text → List CommandPart → Type 0
ReadsParts (idle_at done pending position) words total =
    (parts : List CommandPart) × AreParts parts words × (total ≡ all_of done pending ++ parts)
ReadsParts (waits_at done o position) words total =
    (v : Text) × (rest : List Text) × (parts : List CommandPart) × (words ≡ v ∷ rest) × AreParts parts rest × (total ≡ (done ++ Given o v ∷ []) ++ parts)

settled_once : (done : List CommandPart) (pending : Option CommandPart) → AreOnce done → settle_fault rules again (held_at done pending) ≡ [] → AreOnce (all_of done pending)
settled_once done None once e = once
settled_once done (Some p) once e = once_more done p once (use_is p (map row done) (sym (settle_fault_is done p) ∙ e))

-- ---- one word that is not refused

data Turns (done : List CommandPart) (pending : Option CommandPart) (position : ℕ) (w : Text) : At
    → Type 0 where
  to_word : Turns done pending position w (idle_at (all_of done pending) (Some (Word w)) 2)
  to_joined : (o : Setting) (v : Text) → w ≡ 45 ∷ 45 ∷ (setting_name o ++ 61 ∷ v) → Turns done pending position w (idle_at (all_of done pending ++ Given o v ∷ []) None position)
  to_name : (o : Setting) → w ≡ 45 ∷ 45 ∷ setting_name o → Turns done pending position w (waits_at (all_of done pending) o position)

record Turned (done : List CommandPart) (pending : Option CommandPart) (position : ℕ)
    (w : Text) : Type 0 where
  next : At
  walk : walked rules [] (at_idle (held_at done pending) position) w ≡ walk_of next
  fine : IsFine next
  turns : Turns done pending position w next

module _ (done : List CommandPart) (pending : Option CommandPart) (position : ℕ) (w : Text) (fine : AreOnce done × ((position ≡ 1) ⊎ (position ≡ 2))) where
  abbrev held : Held
  held = held_at done pending

  abbrev look_fault : Option (Text × Option Text) → Kinds
  look_fault = fault_by w (map row done) (pend done pending w) idle position

  abbrev look_walk : Option (Text × Option Text) → Walk
  look_walk = walked_by w (map row done) (pend done pending w) idle position

  on_word : look_fault None ≡ [] → walked rules [] (at_idle held position) w ≡ look_walk None → Turned done pending position w
  on_word e walk_is =
      let same = short_case w (map row done) (pend done pending w) idle (short_of w) (no_first _ _ e) in
      let step_free : step_fault shape position held value ≡ [] = sym (λ i. step_fault shape position (same i).0 (same i).1) ∙ no_second _ _ e in
      elim fine.1 [
        | inl one ↦
            let free : settle_fault rules again held ≡ [] = sym (value_fault done pending w) ∙ sym (ap (λ (n : ℕ). step_fault shape n held value) one) ∙ step_free in
            record {
              next = idle_at (all_of done pending) (Some (Word w)) 2;
              walk = walk_is ∙ (λ i. after_step rules w (at_idle held position) (same i).0 (same i).1) ∙ ap (λ (n : ℕ). after_step rules w (at_idle held n) held value) one ∙ value_walk done pending w free;
              fine = (settled_once done pending fine.0 free, inr refl);
              turns = to_word;
            }
        | inr two ↦ absurd (a_kind _ _ (sym (ap (λ (n : ℕ). step_fault shape n held value) two) ∙ step_free))
      ]

  on_option : (o : Setting) (name : Text) (v : Option Text) → name ≡ setting_name o → IsLongFlag w name v → by_rule done pending w position (Some (option_of o)) v ≡ []
      → walked rules [] (at_idle held position) w ≡ walk_rule done pending w position (Some (option_of o)) v → Turned done pending position w
  on_option o name None named long e walk_is =
      let free : settle_fault rules again held ≡ [] = no_first _ _ e in
      record {
        next = waits_at (all_of done pending) o position;
        walk = walk_is ∙ named_walk done pending w o position free;
        fine = (settled_once done pending fine.0 free, fine.1);
        turns = to_name o (long ∙ ap (λ (n : Text). 45 ∷ 45 ∷ n) named);
      }
  on_option o name (Some v) named long e walk_is =
      let react = no_first _ _ e in
      let free : settle_fault rules again held ≡ [] = no_first _ _ react in
      let settled_use = no_second _ _ react in
      let use_there : use_fault again (option_of o) (v ∷ []) (map row (all_of done pending)) ≡ [] =
      sym (ap (λ (s : Held). use_fault again (option_of o) (v ∷ []) s.rows) (settled_is done pending free)) ∙ settled_use in
      let none = use_is (Given o v) (map row (all_of done pending)) use_there in
      record {
        next = idle_at (all_of done pending ++ Given o v ∷ []) None position;
        walk = walk_is ∙ joined_walk done pending w o v free none position;
        fine = (once_more (all_of done pending) (Given o v) (settled_once done pending fine.0 free) none, fine.1);
        turns = to_joined o v (long ∙ ap (λ (n : Text). 45 ∷ 45 ∷ (n ++ 61 ∷ v)) named);
      }

  by_look : (found : Option (Text × Option Text)) → long_of w ≡ found → look_fault found ≡ [] → walked rules [] (at_idle held position) w ≡ look_walk found → Turned done pending position w
  by_look None is e walk_is = on_word e walk_is
  by_look (Some (name, v)) is e walk_is = elim (option_named name) [
    | inl unknown ↦ absurd (a_kind _ _ (sym (ap (λ (rule : Option Rule). long_fault rules again rule v held) unknown) ∙ no_first _ _ e))
    | inr found ↦
        on_option found.0 name v found.1 (long_is w name v is) (sym (ap (λ (rule : Option Rule). by_rule done pending w position rule v) found.2) ∙ e) (walk_is ∙ ap (λ (rule : Option Rule). walk_rule done pending w position rule v) found.2)
  ]

  idle_taken : bytes_eq w dashes ≡ false → turn_fault shape [] (at_idle held position) w ≡ [] → Turned done pending position w
  idle_taken other e =
      by_look (long_of w) refl (sym (turned done pending w position other) ∙ e) (went done pending w position other)

-- ---- all words, where clap takes them

first_turn : (w : Text) (rest : List Text) (at : Walk) → walk_fault shape [] at (w ∷ rest) ≡ []
    → (turn_fault shape [] at w ≡ []) × (walk_fault shape [] (walked rules [] at w) rest ≡ [])
unfolding walk_fault
first_turn w rest at e = (no_first _ _ e, no_second _ _ e)

-- What the words come to: these parts, each kind of them once at the most.
pub record Total (at : At) (words : List Text) : Type 0 where
  pub total : List CommandPart
  pub reads : ReadsParts at words total
  pub rows : settled rules (fold (walked rules []) (walk_of at) words).held ≡ held_at total None
  pub once : AreOnce total

module _ (done : List CommandPart) (pending : Option CommandPart) (position : ℕ) (w : Text) (rest : List Text) (total : List CommandPart) where
  abbrev all : List CommandPart
  all = all_of done pending

  joined : (next : At) → Turns done pending position w next → ReadsParts next rest total → ReadsParts (idle_at done pending position) (w ∷ rest) total
  joined _ to_word reads =
      (Word w ∷ reads.0, (w ∷ [], rest, refl, reads.1, refl), reads.2 ∙ append_assoc all (Word w ∷ []) reads.0)
  joined _ (to_joined o v is) reads =
      (Given o v ∷ reads.0, (w ∷ [], rest, inr (ap (λ (t : Text). t ∷ []) is), reads.1, refl), reads.2 ∙ append_assoc all (Given o v ∷ []) reads.0)
  joined _ (to_name o is) reads =
      (Given o reads.0 ∷ reads.2, (w ∷ reads.0 ∷ [], reads.1, inl (ap (λ (t : Text). t ∷ reads.0 ∷ []) is), reads.4, ap (λ (ws : List Text). w ∷ ws) reads.3), reads.5 ∙ append_assoc all (Given o reads.0 ∷ []) reads.2)

pub sound : (words : List Text) (at : At) → IsFine at → list_any (λ w. bytes_eq w dashes) words ≡ false → walk_fault shape [] (walk_of at) words ≡ []
    → settle_fault rules again (fold (walked rules []) (walk_of at) words).held ≡ [] → Total at words
sound [] (idle_at done pending position) fine others e free = record {
  total = all_of done pending;
  reads = ([], refl, sym (append-nil (all_of done pending)));
  rows = settled_is done pending free;
  once = settled_once done pending fine.0 free;
}
sound [] (waits_at done o position) fine others e free = absurd (no_value done o free)
sound (w ∷ rest) (idle_at done pending position) fine others e free =
    let either = is_false_or (bytes_eq w dashes) (list_any (λ w. bytes_eq w dashes) rest) others in
    let turns = first_turn w rest (at_idle (held_at done pending) position) e in
    let t = idle_taken done pending position w fine either.0 turns.0 in
    let more = sound rest t.next t.fine either.1 (subst (λ (at : Walk). walk_fault shape [] at rest ≡ []) t.walk turns.1)
    (subst (λ (at : Walk). settle_fault rules again (fold (walked rules []) at rest).held ≡ []) t.walk free) in
    record {
      total = more.total;
      reads = joined done pending position w rest more.total t.next t.turns more.reads;
      rows = subst (λ (at : Walk). settled rules (fold (walked rules []) at rest).held ≡ held_at more.total None) (sym t.walk) more.rows;
      once = more.once;
    }
sound (w ∷ rest) (waits_at done o position) fine others e free =
    let either = is_false_or (bytes_eq w dashes) (list_any (λ w. bytes_eq w dashes) rest) others in
    let turns = first_turn w rest (at_waiting done o position) e in
    let walk = value_taken done o position w either.0 turns.0 in
    let more = sound rest (idle_at done (Some (Given o w)) position) fine either.1 (subst (λ (at : Walk). walk_fault shape [] at rest ≡ []) walk turns.1)
    (subst (λ (at : Walk). settle_fault rules again (fold (walked rules []) at rest).held ≡ []) walk free) in
    record {
      total = more.total;
      reads = (w, rest, more.reads.0, refl, more.reads.1, more.reads.2);
      rows = subst (λ (at : Walk). settled rules (fold (walked rules []) at rest).held ≡ held_at more.total None) (sym walk) more.rows;
      once = more.once;
    }

-- ---- all words of parts, each once

-- The words are taken from here, and come to these parts.
pub record Finished (start : Walk) (words : List Text) (total : List CommandPart) : Type 0 where
  pub done : List CommandPart
  pub pending : Option CommandPart
  pub position : ℕ
  pub no_fault : walk_fault shape [] start words ≡ []
  pub walk : fold (walked rules []) start words ≡ at_idle (held_at done pending) position
  pub all_are : all_of done pending ≡ total
  pub free : settle_fault rules again (held_at done pending) ≡ []

no_words : (at : Walk) → walk_fault shape [] at [] ≡ []
unfolding walk_fault
no_words at = refl

one_word : (w : Text) (rest : List Text) (at : Walk) → walk_fault shape [] at (w ∷ rest) ≡ or_else (turn_fault shape [] at w) (walk_fault shape [] (walked rules [] at w) rest)
unfolding walk_fault
one_word w rest at = refl

one_step : (start next : Walk) (w : Text) (rest : List Text) (total : List CommandPart) → turn_fault shape [] start w ≡ [] → walked rules [] start w ≡ next → Finished next rest total → Finished start (w ∷ rest) total
one_step start next w rest total free walk f = record {
  done = f.done;
  pending = f.pending;
  position = f.position;
  no_fault = one_word w rest start ∙ (λ i. or_else (free i) (walk_fault shape [] (walk i) rest)) ∙ f.no_fault;
  walk = ap (λ (at : Walk). fold (walked rules []) at rest) walk ∙ f.walk;
  all_are = f.all_are;
  free = f.free;
}

free_at : (done : List CommandPart) (p : CommandPart) (rest : List CommandPart) → AreOnce ((done ++ p ∷ []) ++ rest) → settle_fault rules again (held_at done (Some p)) ≡ []
free_at done p rest once = settle_fault_is done p ∙ use_free p (map row done) (fresh done p rest once)

-- the words of an option
abbrev dashed : Setting → Text
dashed o = 45 ∷ 45 ∷ setting_name o

long_dashed : (o : Setting) → long_of (dashed o) ≡ Some (setting_name o, None)
long_dashed Seed = refl
long_dashed Lines = refl
long_dashed Lanes = refl

long_joined : (o : Setting) (v : Text) → long_of (45 ∷ 45 ∷ (setting_name o ++ 61 ∷ v)) ≡ Some (setting_name o, Some v)
long_joined Seed v = refl
long_joined Lines v = refl
long_joined Lanes v = refl

pub other_dashed : (o : Setting) → bytes_eq (dashed o) dashes ≡ false
other_dashed Seed = refl
other_dashed Lines = refl
other_dashed Lanes = refl

pub other_joined : (o : Setting) (v : Text) → bytes_eq (45 ∷ 45 ∷ (setting_name o ++ 61 ∷ v)) dashes ≡ false
other_joined Seed v = refl
other_joined Lines v = refl
other_joined Lanes v = refl

by_long : (o : Setting) → arg_by_long rules (setting_name o) ≡ Some (option_of o)
by_long Seed = refl
by_long Lines = refl
by_long Lanes = refl

module _ (done : List CommandPart) (pending : Option CommandPart) (position : ℕ) (o : Setting) (free : settle_fault rules again (held_at done pending) ≡ []) where
  name_fault : turn_fault shape [] (at_idle (held_at done pending) position) (dashed o) ≡ []
  name_fault =
      turned done pending (dashed o) position (other_dashed o) ∙ ap (fault_by (dashed o) (map row done) (pend done pending (dashed o)) idle position) (long_dashed o)
      ∙ ap (λ (rule : Option Rule). by_rule done pending (dashed o) position rule None) (by_long o) ∙ ap (λ (ks : Kinds). or_else ks []) free

  name_walk : walked rules [] (at_idle (held_at done pending) position) (dashed o) ≡ at_waiting (all_of done pending) o position
  name_walk =
      went done pending (dashed o) position (other_dashed o) ∙ ap (walked_by (dashed o) (map row done) (pend done pending (dashed o)) idle position) (long_dashed o)
      ∙ ap (λ (rule : Option Rule). walk_rule done pending (dashed o) position rule None) (by_long o) ∙ named_walk done pending (dashed o) o position free

  module _ (v : Text) (none : has_row (setting_name o) (map row (all_of done pending))
      ≡ false) where
    abbrev joint : Text
    joint = 45 ∷ 45 ∷ (setting_name o ++ 61 ∷ v)

    joint_fault : turn_fault shape [] (at_idle (held_at done pending) position) joint ≡ []
    joint_fault =
        turned done pending joint position (other_joined o v) ∙ ap (fault_by joint (map row done) (pend done pending joint) idle position) (long_joined o v)
        ∙ ap (λ (rule : Option Rule). by_rule done pending joint position rule (Some v)) (by_long o) ∙ joined_fault done pending joint o v free none position

    joint_walk : walked rules [] (at_idle (held_at done pending) position) joint ≡ at_idle (held_at (all_of done pending ++ Given o v ∷ []) None) position
    joint_walk =
        went done pending joint position (other_joined o v) ∙ ap (walked_by joint (map row done) (pend done pending joint) idle position) (long_joined o v)
        ∙ ap (λ (rule : Option Rule). walk_rule done pending joint position rule (Some v)) (by_long o) ∙ joined_walk done pending joint o v free none position

-- behind the word there is no second one
no_second_word : (all : List CommandPart) (w : Text) (parts : List CommandPart) → AreOnce (all ++ Word w ∷ parts) → 0 < length (filter is_word parts) → ◌≡◌ {A = ℕ} 2 1
no_second_word all w parts once some =
    absurd (omega (arith, some, once.word, kind_count is_word all (Word w ∷ parts)))

-- the value of a part is no option's word
abbrev pub IsPlainPart : CommandPart → Type 0
IsPlainPart p = IsNoFlag (part_value p)

pub complete : (parts done : List CommandPart) (pending : Option CommandPart) (position : ℕ) (words : List Text) → AreParts parts words → AllByRecursion IsPlainPart parts → AreOnce (all_of done pending ++ parts)
    → settle_fault rules again (held_at done pending) ≡ [] → (0 < length (filter is_word parts) → position ≡ 1) → Finished (at_idle (held_at done pending) position) words (all_of done pending ++ parts)
complete [] done pending position words are plain once free first =
    subst (λ (ws : List Text). Finished (at_idle (held_at done pending) position) ws (all_of done pending ++ [])) (sym are) (record {
      done = done;
      pending = pending;
      position = position;
      no_fault = no_words (at_idle (held_at done pending) position);
      walk = refl;
      all_are = sym (append-nil (all_of done pending));
      free = free;
    })
complete (Word w ∷ parts) done pending position words are plain once free first =
    let all = all_of done pending in
    let rest = are.1 in
    let regroup = append_assoc all (Word w ∷ []) parts in
    let once_there : AreOnce ((all ++ Word w ∷ []) ++ parts) = subst AreOnce (sym regroup) once in
    let last = no_second_word all w parts once in
    let more = complete parts all (Some (Word w)) 2 rest are.3 plain.1 once_there (free_at all (Word w) parts once_there) last in
    let turn = word_turn done pending w plain.0 free in
    let here : Finished (at_idle (held_at done pending) 1) (w ∷ rest) ((all ++ Word w ∷ []) ++ parts) = one_step (at_idle (held_at done pending) 1) (at_idle (held_at all (Some (Word w))) 2) w rest ((all ++ Word w ∷ []) ++ parts) turn.0 turn.1 more in
    let at : position ≡ 1 = first (omega arith) in
    let words_are : words ≡ w ∷ rest = are.4 ∙ ap (λ (front : List Text). front ++ rest) are.2 in
    subst (λ (n : ℕ). Finished (at_idle (held_at done pending) n) words (all ++ Word w ∷ parts)) (sym at)
    (subst (λ (ws : List Text). Finished (at_idle (held_at done pending) 1) ws (all ++ Word w ∷ parts)) (sym words_are)
    (subst (λ (total : List CommandPart). Finished (at_idle (held_at done pending) 1) (w ∷ rest) total) regroup here))
complete (Given o v ∷ parts) done pending position words are plain once free first =
    let all = all_of done pending in
    let rest = are.1 in
    let regroup = append_assoc all (Given o v ∷ []) parts in
    let total = (all ++ Given o v ∷ []) ++ parts in
    let once_there : AreOnce total = subst AreOnce (sym regroup) once in
    let start = at_idle (held_at done pending) position in
    elim are.2 [
      | inl two ↦
          let more = complete parts all (Some (Given o v)) position rest are.3 plain.1 once_there (free_at all (Given o v) parts once_there) first in
          let turn = value_turn all o position v plain.0 in
          let behind : Finished (at_waiting all o position) (v ∷ rest) total = one_step (at_waiting all o position) (at_idle (held_at all (Some (Given o v))) position) v rest total turn.0 turn.1 more in
          let here : Finished start (dashed o ∷ v ∷ rest) total = one_step start (at_waiting all o position) (dashed o) (v ∷ rest) total (name_fault done pending position o free) (name_walk done pending position o free) behind in
          let words_are : words ≡ dashed o ∷ v ∷ rest = are.4 ∙ ap (λ (front : List Text). front ++ rest) two in
          subst (λ (ws : List Text). Finished start ws (all ++ Given o v ∷ parts)) (sym words_are) (subst (λ (t : List CommandPart). Finished start (dashed o ∷ v ∷ rest) t) regroup here)
      | inr one ↦
          let none = fresh all (Given o v) parts once_there in
          let more = complete parts (all ++ Given o v ∷ []) None position rest are.3 plain.1 once_there refl first in
          let word = 45 ∷ 45 ∷ (setting_name o ++ 61 ∷ v) in
          let here : Finished start (word ∷ rest) total = one_step start (at_idle (held_at (all ++ Given o v ∷ []) None) position) word rest total (joint_fault done pending position o free v none) (joint_walk done pending position o free v none) more in
          let words_are : words ≡ word ∷ rest = are.4 ∙ ap (λ (front : List Text). front ++ rest) one in
          subst (λ (ws : List Text). Finished start ws (all ++ Given o v ∷ parts)) (sym words_are) (subst (λ (t : List CommandPart). Finished start (word ∷ rest) t) regroup here)
    ]
