-- Worked ends of runs: what is due, what is cut, and what is left, row by row; and what breaks one
-- part alone.
use Rattle.std.proofs.Common.{◌≡◌, ◌⊎◌, ℕ, suc, ◌<◌, List, [], ◌∷◌, ◌++◌, length, length-append, zero, Option, Some, None, Ok, Err, refl, sym, ap, ◌∙◌, subst, inl, inr, lit<, arith, String, Global}
use Rattle.std.proofs.lemmas.List.{length-take-le}
use Rattle.std.specs.Prelude.{codes, string_bytes, take}
use Rattle.std.specs.Fmt.{digits}
use Rattle.std.specs.Io.KnownBytes.{IsAtEnd}
use Rattle.cb_types.specs.declared.answer.Answer.{Answer}
use Rattle.cb_types.specs.declared.config.Config.{Config}
use Rattle.cb_script.specs.declared.fault.Reason.{Reason}
use Rattle.cb_script.specs.declared.fault.Reason.TheVariants.{Header}
use Rattle.cb_script.specs.declared.script.Script.{Script}
use Rattle.cb_script.proofs.PublicLaws.{empty_input, differ}
use Rattle.cb_cli.specs.Taken.{AreBytesTaken}
use Rattle.cb_cli.specs.Texts.{fault_text, words_refused}
use Rattle.cb_cli.specs.declared.outcome.Due.TheVariants as dues
use Rattle.cb_cli.specs.declared.outcome.Failure.TheVariants.{Read, Write, NoMemory}
use Rattle.cb_cli.specs.declared.words.Asked.TheVariants.{Draw, Run}
use Rattle.cb_cli.specs.declared.words.Command.{Command}
use Rattle.cb_cli.specs.declared.words.Command.TheVariants.{Seq, Local, Check}
use Rattle.cb_cli.proofs.Laws.{no_word, seq_named}
use Rattle.cb_gen.specs.Drawn.{drawn_config}
use Rattle.cb_lanes.specs.declared.side.Side.{Side}
use Rattle.cb_lanes.specs.declared.side.Side.TheVariants.{Nodes, Compute}
use Rattle.cb_world.specs.World.{IsSoundWorld, WorldState}
use Rattle.cb_app.specs.declared.ending.Ending.{Ending}
use Rattle.cb_app.specs.Modes.{Accepts, Refuses, Yields, command_of}
use Rattle.cb_app.specs.Outcome.{AreWordsRefused, IsCut, IsDone, IsDrawn, IsDue, IsScriptRefused, RefusesScript, RoseOnRead, RoseOnWrite, RunEnds, TellsSummary}
use Rattle.cb_app.specs.Outcome.IsDue.{WhereDone, WhereDrawn, WhereWordsRefused, WhereScriptRefused}
use Rattle.cb_app.specs.Scripts.{IsAnswered, TellsFault}
use Rattle.cb_app.proofs.Modes.{not_both}

abbrev small : Config
small = record { k = 2; r = 2; nodes = 6; frames = 8; room = 64; handles = 16; turns = 0 }

-- two endings
abbrev empty : Ending
empty = record { config = None; answers = []; losses = []; world = None; seal = None }

abbrev checked : Ending
checked = record empty { config = Some small }

changed : checked ≡ empty → ⊥
changed e = absurd (let c : Some small ≡ None = ap (λ (end : Ending). end.config) e in cc)

-- ---- the commands by the side that makes the parities
sides : (command_of Nodes ≡ Seq) × (command_of Compute ≡ Local)
sides = (refl, refl)

-- ---- an input without a header
abbrev fault : List ℕ
fault = codes "script line 1 reason 2 header\n"

fault_is : fault_text 1 Header ≡ fault
unfolding digits
fault_is = refl

refuses : Refuses Seq [] fault
refuses = (1, Header, empty_input, sym fault_is)

abbrev AtHeader : ℕ → Reason → Type 0
AtHeader line reason = (line ≡ 1) × (reason ≡ Header)

tells : TellsFault AtHeader fault
tells = (1, Header, (refl, refl), sym fault_is)

tells_another_line : TellsFault AtHeader (codes "script line 2 reason 2 header\n") → ⊥
tells_another_line t = differ (codes "script line 2 reason 2 header\n") fault
    (t.3 ∙ (λ i. fault_text (t.2.0 i) (t.2.1 i)) ∙ fault_is) refl

tells_no_fault : (text : List ℕ) → TellsFault (λ line reason. ⊥) text → ⊥
tells_no_fault text t = t.2

none_taken : AreBytesTaken (Some []) (Some []) []
none_taken = record { front = refl; few = omega arith; whole = inl refl }

-- ---- `seq` refuses it, whatever word spells that
module _ (w : String Global) (is : string_bytes w ≡ codes "seq") where
  refused : IsScriptRefused (w ∷ []) (Some []) (Some []) fault
  refused = record {
    command = Seq;
    words_are = seq_named w is;
    bytes = [];
    taken = none_taken;
    refused = refuses;
  }

  abbrev Refuses_by : Option (List ℕ) → Type 0
  Refuses_by after = RefusesScript (w ∷ []) (Some []) (Some []) (Some (7 ∷ [])) after

  refuses_script : Refuses_by (Some (7 ∷ fault))
  refuses_script = (fault, refused, refl)

  ends_refused : RunEnds (w ∷ []) (Some []) (Some []) (Some (7 ∷ []))
      (Some (7 ∷ fault)) checked checked
      (Ok dues.ScriptRefused)
  ends_refused = (refuses_script, refl)

  due_refused : IsDue (w ∷ []) (Some []) (Some []) checked checked fault
  due_refused = WhereScriptRefused refused refl

  -- the text was cut behind its first byte
  cut_refused : IsCut (w ∷ []) (Some []) (Some []) (Some (7 ∷ []))
      (Some (7 ∷ 115 ∷ [])) checked checked
  cut_refused = (fault, due_refused, (1, lit< tt, refl))

  cut_ends : RunEnds (w ∷ []) (Some []) (Some []) (Some (7 ∷ []))
      (Some (7 ∷ 115 ∷ [])) checked checked
      (Err Write)
  cut_ends = cut_refused

-- the ending changes
refused_and_changed : (words : List (String Global))
    (before after held_before held_after : Option (List ℕ))
    → RunEnds words before after held_before held_after empty checked (Ok dues.ScriptRefused) → ⊥
refused_and_changed words before after held_before held_after e = changed e.1

-- no words ask for it
refused_without_words : (before after held_before held_after : Option (List ℕ))
    → RefusesScript [] before after held_before held_after → ⊥
refused_without_words before after held_before held_after r =
    no_word (Run r.1.command) r.1.words_are

-- what is put is not the text
refused_and_put : (words : List (String Global)) (before after : Option (List ℕ))
    (r : RefusesScript words before after (Some (7 ∷ [])) (Some (8 ∷ []))) → ⊥
refused_and_put words before after r = absurd (let e = r.2 in cc)

-- what the command accepts is not refused
refused_and_accepted : (words : List (String Global)) (before after : Option (List ℕ))
    (text : List ℕ)
    → (r : IsScriptRefused words before after text) → Accepts r.command r.bytes → ⊥
refused_and_accepted words before after text r accepts =
    not_both r.command r.bytes text accepts r.refused

-- nothing was taken of an input that has a byte
taken_of_none : (bytes : List ℕ) → AreBytesTaken (Some (1 ∷ [])) (Some (1 ∷ [])) bytes → ⊥
taken_of_none bytes t =
    let all : 1 ≡ length (bytes ++ 1 ∷ []) = ap (λ (xs : List ℕ). length xs) t.front in
    let parts = length-append bytes (1 ∷ []) in at_end t.whole (omega (arith, all, parts))
  where
    at_end : IsAtEnd (Some (1 ∷ [])) ⊎ (length bytes ≡ 1048577) → length bytes ≡ 0 → ⊥
    at_end (inl e) none = absurd (let n : 1 ≡ 0 = ap (λ (xs : List ℕ). length xs) e in
        omega (arith, n))
    at_end (inr e) none = omega (arith, e, none)

refused_untaken : (words : List (String Global)) (text : List ℕ)
    → IsScriptRefused words (Some (1 ∷ [])) (Some (1 ∷ [])) text → ⊥
refused_untaken words text r = taken_of_none r.bytes r.taken

done_untaken : (words : List (String Global)) (old new : Ending) (text : List ℕ)
    → IsDone words (Some (1 ∷ [])) (Some (1 ∷ [])) old new text → ⊥
done_untaken words old new text d = taken_of_none d.bytes d.taken

-- a check leaves an answer
done_with_an_answer : (words : List (String Global)) (before after : Option (List ℕ))
    (old new : Ending) (text : List ℕ) (a : Answer) → new.answers ≡ a ∷ []
    → (d : IsDone words before after old new text) → d.command ≡ Check → ⊥
done_with_an_answer words before after old new text a one d is =
    let yields = subst (λ (c : Command). Yields c d.bytes old new text) is d.yields in
    absurd (let e : a ∷ [] ≡ [] = sym one ∙ yields.2.no_answers in cc)

-- a drawn script leaves no configuration
drawn_without_a_config : (words : List (String Global)) (before after : Option (List ℕ))
    (end : Ending) (text : List ℕ) → end.config ≡ None → IsDrawn words before after end text → ⊥
drawn_without_a_config words before after end text none d =
    absurd (let e : None ≡ Some drawn_config = sym none ∙ d.summed.answered.config in cc)

-- ---- no words
nothing_asked : AreWordsRefused [] (Some (1 ∷ [])) (Some (1 ∷ []))
nothing_asked = record { words_are_not = no_word; nothing_taken = refl }

ends_without_words : RunEnds [] (Some (1 ∷ [])) (Some (1 ∷ []))
    (Some []) (Some words_refused) checked checked
    (Ok dues.WordsRefused)
ends_without_words = (nothing_asked, refl, refl)

due_without_words : IsDue [] (Some (1 ∷ [])) (Some (1 ∷ [])) checked checked words_refused
due_without_words = WhereWordsRefused nothing_asked refl refl

abbrev Nothing : Option (List ℕ) → Option (List ℕ) → Ending → List ℕ → Type 0
Nothing before after new text = IsDue [] before after empty new text

due_by_words : (before after : Option (List ℕ)) (new : Ending) (text : List ℕ)
    → Nothing before after new text
    → (after ≡ before) × (new ≡ empty) × (text ≡ words_refused)
due_by_words before after new text (WhereDone d) = absurd (no_word (Run d.command) d.words_are)
due_by_words before after new text (WhereDrawn d) = absurd (no_word (Draw d.plan) d.words_are)
due_by_words before after new text (WhereWordsRefused r same is) = (r.nothing_taken, same, is)
due_by_words before after new text (WhereScriptRefused r same) =
    absurd (no_word (Run r.command) r.words_are)

due_another_text : Nothing (Some []) (Some []) empty fault → ⊥
due_another_text d = differ fault words_refused (due_by_words _ _ _ _ d).2 refl

due_another_ending : Nothing (Some []) (Some []) checked words_refused → ⊥
due_another_ending d = changed (due_by_words _ _ _ _ d).1

due_behind_a_byte : Nothing (Some (1 ∷ [])) (Some []) empty words_refused → ⊥
due_behind_a_byte d = absurd (let e : Some [] ≡ Some (1 ∷ []) = (due_by_words _ _ _ _ d).0 in cc)

-- such a run takes nothing, puts this text, and leaves the ending
abbrev Unasked : Option (List ℕ) → Option (List ℕ) → Ending → Type 0
Unasked after held new =
    RunEnds [] (Some (1 ∷ [])) after (Some []) held empty new (Ok dues.WordsRefused)

unasked_and_taken : Unasked (Some []) (Some words_refused) empty → ⊥
unasked_and_taken e = absurd (let t : Some [] ≡ Some (1 ∷ []) = e.0.nothing_taken in cc)

unasked_and_untold : Unasked (Some (1 ∷ [])) (Some []) empty → ⊥
unasked_and_untold e = differ [] words_refused e.1 refl

unasked_and_changed : Unasked (Some (1 ∷ [])) (Some words_refused) checked → ⊥
unasked_and_changed e = changed e.2

-- it is no run that is done
done_without_words : (before after held_before held_after : Option (List ℕ)) (old new : Ending)
    → RunEnds [] before after held_before held_after old new (Ok dues.Done) → ⊥
done_without_words before after held_before held_after old new (inl t) =
    no_word (Run t.1.command) t.1.words_are
done_without_words before after held_before held_after old new (inr t) =
    no_word (Draw t.1.plan) t.1.words_are

-- ---- a run that failed: reading and want of memory leave the ending
failed_reading : (words : List (String Global))
    (before after held_before held_after : Option (List ℕ))
    → RunEnds words before after held_before held_after empty empty (Err Read)
failed_reading words before after held_before held_after = refl

failed_reading_and_changed : (words : List (String Global))
    (before after held_before held_after : Option (List ℕ))
    → RunEnds words before after held_before held_after empty checked (Err Read) → ⊥
failed_reading_and_changed words before after held_before held_after e = changed e

failed_for_memory_and_changed : (words : List (String Global))
    (before after held_before held_after : Option (List ℕ))
    → RunEnds words before after held_before held_after empty checked (Err NoMemory) → ⊥
failed_for_memory_and_changed words before after held_before held_after e = changed e

-- what is cut is a front of what was due, and not all of it
abbrev Cut : Option (List ℕ) → Ending → Type 0
Cut held new = IsCut [] (Some []) (Some []) (Some []) held empty new

cut_before_any : Cut (Some []) empty
cut_before_any = (
  words_refused,
  WhereWordsRefused (record { words_are_not = no_word; nothing_taken = refl }) refl refl,
  (0, lit< tt, refl),
)

cut_and_changed : Cut (Some []) checked → ⊥
cut_and_changed c = changed (due_by_words _ _ _ _ c.1).1

cut_of_another_text : Cut (Some (7 ∷ [])) empty → ⊥
cut_of_another_text c = no_front c.0 (due_by_words _ _ _ _ c.1).2 c.2.0 c.2.2
  where
    first : List ℕ → ℕ
    first [] = 119
    first (x ∷ xs) = x

    front : (n : ℕ) → first (take n words_refused) ≡ 119
    front zero = refl
    front (suc n) = refl

    no_front : (text : List ℕ) → text ≡ words_refused → (n : ℕ) → 7 ∷ [] ≡ [] ++ take n text → ⊥
    no_front text is n put = let e : 7 ≡ 119 = ap first (put
        ∙ ap (λ (xs : List ℕ). take n xs) is) ∙ front n in omega (arith, e)

cut_of_nothing : Cut (Some words_refused) empty → ⊥
cut_of_nothing c = whole c.0 (due_by_words _ _ _ _ c.1).2 c.2.0 c.2.1 c.2.2
  where
    whole : (text : List ℕ) → text ≡ words_refused → (n : ℕ) → n < length text
        → words_refused ≡ [] ++ take n text → ⊥
    whole text is n few put =
        let all : 14 ≡ length (take n text) = ap (λ (xs : List ℕ). length xs) put in
        let size : length text ≡ 14 = ap (λ (xs : List ℕ). length xs) is in
        let part = length-take-le n text (omega (arith, few)) in
        omega (arith, all, size, few, part)

-- ---- counts of faults
rises_on_writing : RoseOnWrite (Err Write) 1 2
rises_on_writing = inl (omega arith)

no_rise_on_writing : RoseOnWrite (Err Write) 1 1 → ⊥
no_rise_on_writing (inl e) = omega (arith, e)
no_rise_on_writing (inr e) = omega (arith, e.1)

rises_on_no_other : RoseOnWrite (Ok dues.ScriptRefused) 1 1 × RoseOnWrite (Err NoMemory) 1 1
    × RoseOnRead (Err Write) 1 1 × RoseOnRead (Ok dues.WordsRefused) 1 1
rises_on_no_other = (refl, refl, refl, refl)

rises_on_memory : RoseOnWrite (Err NoMemory) 1 2 → ⊥
rises_on_memory e = omega (arith, e)

reading_rises_on_writing : RoseOnRead (Err Write) 1 2 → ⊥
reading_rises_on_writing e = omega (arith, e)

-- ---- a script that was answered in order: the lines lead to the world that is left, which is sound
-- and holds what the map has
abbrev left_by : WorldState → Ending
left_by world = record empty { config = Some small; world = Some world }

the_world : (side : Side) (s : Script) (world : WorldState)
    → (is : IsAnswered side s (left_by world)) → is.world ≡ world
the_world side s world is = same is.left
  where
    same : {w : WorldState} → Some world ≡ Some w → w ≡ world
    same e = cc

-- without lines no turn is counted
a_turn_of_no_line : (side : Side) (s : Script) (world : WorldState) → world.far.counts.turns ≡ 1
    → IsAnswered side s (left_by world) → ⊥
a_turn_of_no_line side s world one is =
    let none : is.world.far.counts.turns ≡ 0 =
    ap (λ (w : WorldState). w.far.counts.turns) is.leads in
    let same = ap (λ (w : WorldState). w.far.counts.turns) (the_world side s world is) in
    omega (arith, one, none, same)

an_unsound_world : (side : Side) (s : Script) (world : WorldState) → (IsSoundWorld world → ⊥)
    → IsAnswered side s (left_by world) → ⊥
an_unsound_world side s world unsound is =
    unsound (subst IsSoundWorld (the_world side s world is) is.sound)

-- no answer made an object
an_object_of_no_make : (side : Side) (s : Script) (world : WorldState) → world.far.made ≡ 1
    → IsAnswered side s (left_by world) → ⊥
an_object_of_no_make side s world one is =
    let none : 0 ≡ is.world.far.made = is.holds.beside.made in
    let same = ap (λ (w : WorldState). w.far.made) (the_world side s world is) in
    omega (arith, one, none, same)

-- a summary that no words ask for
summary_without_words : (before after held_before held_after : Option (List ℕ)) (new : Ending)
    → TellsSummary [] before after held_before held_after new → ⊥
summary_without_words before after held_before held_after new t =
    no_word (Draw t.1.plan) t.1.words_are

-- one of which nothing is put
summary_and_untold : (words : List (String Global)) (before after : Option (List ℕ)) (new : Ending)
    → (t : TellsSummary words before after (Some (7 ∷ [])) (Some (8 ∷ [])) new) → ⊥
summary_and_untold words before after new t = absurd (let e = t.2 in cc)
