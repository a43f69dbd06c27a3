-- Worked examples: what `map` refuses and accepts, what may be said to a command, and what it leaves;
-- and for each part what breaks it.
use Rattle.std.proofs.Common.{◌≡◌, ◌⊎◌, ℕ, suc, ◌+◌, ◌<◌, true, List, [], ◌∷◌, length, Some, None, inl, inr, refl, sym, ap, ◌∙◌, subst, arith}
use Rattle.std.proofs.lemmas.Bool.{false≢true}
use Rattle.std.proofs.lemmas.Option.{none-some, same_Some}
use Rattle.std.specs.Prelude.{codes, replicate}
use Rattle.std.specs.FinMap as map
use Rattle.std.specs.Fmt.{digits}
use Rattle.std.specs.Ordering.{nat_cmp}
use Rattle.std.specs.List.{AllByRecursion}
use Rattle.std.proofs.lemmas.List.{length-replicate}
use Rattle.cb_member.specs.declared.names.NodeId.{NodeId}
use Rattle.cb_types.specs.declared.config.Config.{Config}
use Rattle.cb_types.specs.declared.job.Job.{Job}
use Rattle.cb_types.specs.declared.job.Job.TheVariants as jobs
use Rattle.cb_types.specs.declared.reply.Reply.{Reply}
use Rattle.cb_types.specs.declared.reply.Reply.TheVariants.{Full, Moving, NoRoom, Worn}
use Rattle.cb_world.specs.World.{WorldState}
use Rattle.cb_world.specs.declared.entry.Entry.{Entry}
use Rattle.cb_rule.specs.Closing.{IsClosed}
use Rattle.cb_rule.specs.Lists.{Each}
use Rattle.cb_rule.specs.declared.turn.Turn.{Turn}
use Rattle.cb_rule.specs.Steps.{opener}
use Rattle.cb_rule.specs.declared.view.View.{View}
use Rattle.cb_shared.specs.Sealing.{sealed, sealed_record, sealed_world}
use Rattle.cb_shared.specs.Turning.{Did}
use Rattle.cb_shared.specs.declared.seal.Seal.{Seal}
use Rattle.cb_shared.specs.declared.sealed.Sealed.{Sealed}
use Rattle.cb_cli.specs.declared.words.Command.TheVariants.{Map}
use Rattle.cb_cli.specs.declared.verdict.Verdict.TheVariants.{Refused as Bad}
use Rattle.cb_farmap.specs.declared.kept.KeptObject.{KeptObject}
use Rattle.cb_farmap.specs.Arrays.{no_array}
use Rattle.cb_farmap.specs.BothNow.{AreBothNow}
use Rattle.cb_farmap.specs.Commands.{CommandGoes, HasOneHistory, HaveGone, IsMake, IsOnObject}
use Rattle.cb_farmap.specs.Maps.{no_map}
use Rattle.cb_farmap.specs.Objects.{IsObject}
use Rattle.cb_farmap.proofs.Laws.{fresh_stands}
use Rattle.cb_map_text.specs.Plain.{Plain, found_said, fresh, needs_object, objects}
use Rattle.cb_map_text.specs.declared.command.FarAnswer.{FarAnswer}
use Rattle.cb_map_text.specs.declared.command.FarAnswer.TheVariants.{Done, Nothing, Number, Refused}
use Rattle.cb_map_text.specs.declared.command.FarCommand.{FarCommand}
use Rattle.cb_map_text.specs.declared.command.FarCommand.TheVariants.{Get, Look, Pop, Push}
use Rattle.cb_map_text.proofs.PublicLaws.{bad_input, commands, input, small, spelled, spells_no_fault, at_line_3}
use Rattle.cb_app.specs.declared.ending.Ending.{Ending}
use Rattle.cb_app.specs.Mapped.{AreAnswered, AreTold, IsCause, IsMapped, IsNewestTold, IsTold}
use Rattle.cb_app.specs.Modes.{Accepts, IsVerdict, Refuses}
use Rattle.cb_app.proofs.MadeTurns.{all_made}
use Rattle.cb_app.proofs.Mapped.{is_mapped}

accepted : Accepts Map input
accepted = record { config = small; commands = commands; spelled = spelled }

refused : Refuses Map bad_input (codes "map line 3 refused\n")
unfolding digits
refused = record { line = 3; first = at_line_3; text_is = refl }

is_refused : (end : Ending) → IsVerdict Map bad_input end end (Bad (codes "map line 3 refused\n"))
is_refused end = (refused, refl)

refused_with_another_ending : (old new : Ending) (told : List ℕ) → (new ≡ old → ⊥)
    → IsVerdict Map bad_input old new (Bad told) → ⊥
refused_with_another_ending old new told other verdict = other verdict.1

module _ (c : Config) (v : View) (w : WorldState) (more : List Turn) where
  -- a pop of no number, and a look at no key, of a record without turns
  nothing_told : v.turns ≡ [] → AreTold c v w fresh [] (Pop ∷ Look 5 ∷ []) (Nothing ∷ Nothing ∷ [])
  nothing_told none = (
    [],
    (refl, λ e. absurd (false≢true e)),
    ([], (sym (ap found_said (map.get-empty nat_cmp 5)), λ e. absurd (false≢true e)), none),
  )

  -- another number, and too few answers
  another_told : IsTold c v w fresh Pop more (Number 7) → ⊥
  another_told (is, free) = absurd (let e : Number 7 ≡ Nothing = is in cc)

  too_few_told : AreTold c v w fresh [] (Pop ∷ Look 5 ∷ []) (Nothing ∷ []) → ⊥
  too_few_told told = told.2

  -- a turn of the record that no command made
  turn_of_none : (t : Turn) → v.turns ≡ t ∷ [] → AreTold c v w fresh [] [] [] → ⊥
  turn_of_none t one none = let e : 1 ≡ 0 = ap (λ (ts : List Turn). length ts) (sym one ∙ none) in
      omega (arith, e)

  -- one that calls nothing is not refused, and none is by another reply
  idle_refused : IsTold c v w fresh (Get 0) more (Refused (Full c.handles)) → ⊥
  idle_refused told = false≢true told.0

  moving_told : IsCause c v w fresh (Push 1) more Moving → ⊥
  moving_told cause = cause

  -- room for objects, and no more of them than none
  roomy_full : 1 < c.handles → IsCause c v w fresh (Push 1) more (Full c.handles) → ⊥
  roomy_full some (n, needs, made, turn) = omega (arith, some, made)

  wide_room : c.k < 5 → c.k + c.r < 5 → IsCause c v w fresh (Push 1) more (NoRoom c.frames 5 5) → ⊥
  wide_room few nodes (frames, lacks, made, turn) = by lacks
    where
      by : (5 < c.k) ⊎ (5 < c.k + c.r) → ⊥
      by (inl less) = omega (arith, few, less)
      by (inr less) = omega (arith, nodes, less)

  -- 128 numbers in one object: a number more needs an object
  abbrev filled : Plain
  filled = record fresh { list = replicate 128 7; longest = 128 }

  full_told : c.handles ≡ 1 → IsNewestTold more IsMake (Full 1)
      → IsCause c v w filled (Push 1) more (Full 1)
  full_told one turn = (sym one, refl, sym one, turn)

  -- a pop needs none, and is not told so
  full_pop : IsCause c v w filled Pop more (Full 1) → ⊥
  full_pop (n, needs, made, turn) = false≢true needs

  room_told : c.frames ≡ 1 → c.k ≡ 2 → IsNewestTold more (IsOnObject v) (NoRoom 1 0 9)
      → IsCause c v w filled (Get 5) more (NoRoom 1 0 9)
  room_told one two turn =
      (sym one, inl (omega (arith, two)), omega (arith, one), inl turn)

  -- fewer objects than frames, and a make where all handles are given
  early_room : c.frames ≡ 2 → IsCause c v w filled (Get 5) more (NoRoom 2 0 9) → ⊥
  early_room two (frames, lacks, made, turn) = omega (arith, two, made)

  late_make : c.handles ≡ 1 → (IsNewestTold more (IsOnObject v) (NoRoom 1 0 9) → ⊥)
      → IsCause c v w filled (Push 1) more (NoRoom 1 0 9) → ⊥
  late_make one none (frames, lacks, made, why) = by why
    where
      by : IsNewestTold more (IsOnObject v) (NoRoom 1 0 9)
          ⊎ ((needs_object filled (Push 1) ≡ true) × (objects filled < c.handles)
          × IsNewestTold more IsMake (NoRoom 1 0 9)) → ⊥
      by (inl turn) = none turn
      by (inr (needs, left, turn)) = omega (arith, one, left)

  early_worn : w.far.counts.turns ≡ 5 → IsCause c v w fresh (Push 1) more Worn → ⊥
  early_worn five (all, turn) = omega (arith, five, all)

  -- a get makes no object, so that a make does not tell it
  worn_make : (IsNewestTold more (IsOnObject v) Worn → ⊥) → IsCause c v w filled (Get 5) more Worn
      → ⊥
  worn_make none (all, why) = by why
    where
      by : IsNewestTold more (IsOnObject v) Worn
          ⊎ ((needs_object filled (Get 5) ≡ true) × IsNewestTold more IsMake Worn) → ⊥
      by (inl turn) = none turn
      by (inr (needs, turn)) = false≢true needs

-- ---- the newest turn of a command
module _ (t : Turn) where
  abbrev made_so : Reply → Turn
  made_so reply = record t { job = jobs.Make (replicate 1024 0); reply = Some reply }

  newest_full : IsNewestTold (made_so (Full 1) ∷ []) IsMake (Full 1)
  newest_full = record {
    turn = made_so (Full 1);
    before = [];
    newest = refl;
    job_is = length-replicate {A = ℕ} 1024 0;
    told = refl;
    answers = inl tt;
  }

  -- a command that made none, and one whose newest turn was told something else
  none_newest : (asked : Job → Type 0) (reply : Reply) → IsNewestTold [] asked reply → ⊥
  none_newest asked reply x = let e : 0 ≡ suc (length x.before) =
      ap (λ (ts : List Turn). length ts) x.newest in omega (arith, e)

  an_old_turn : IsNewestTold (made_so Worn ∷ made_so (Full 1) ∷ []) IsMake (Full 1) → ⊥
  an_old_turn x = let e = x.newest in let h : made_so Worn ≡ x.turn = cc in
      let z : Worn ≡ Full 1 = same_Some Worn (Full 1) (ap (λ (u : Turn). u.reply) h ∙ x.told) in cc

-- ---- what is left of a pop and a look, which call nothing

abbrev asked : List FarCommand
asked = Pop ∷ Look 5 ∷ []

abbrev saids : List FarAnswer
saids = Nothing ∷ Nothing ∷ []

abbrev ending_of : WorldState → Seal → Ending
ending_of world seal = record {
  config = Some small;
  answers = [];
  losses = [];
  world = Some world;
  seal = Some seal;
}

-- the world is one that a pass without a turn closed, and the seal shows both
record IsLeft (world : WorldState) (seal : Seal) : Type 0 where
  under : seal.mark.view ≡ sealed world (opener small)
  closed : IsClosed Did 1 small (opener small) world

-- no entry is there, and so no object
no_object : (ks : List KeptObject) → length ks ≡ 1 → AllByRecursion (IsObject []) ks → ⊥
no_object [] long all = omega (arith, long)
no_object (k ∷ ks) long all = none-some all.0.at all.0.is

module _ (world : WorldState) (seal : Seal) (there : IsLeft world seal) where
  history : HasOneHistory small 1 (opener small)
  history = (world.far.counts.turns, world.far, there.closed.turns)

  both : AreBothNow fresh (opener small) no_array (no_map 64)
  both = let x = fresh_stands small in record {
    array_is = x.array_is;
    map_is = x.map_is;
    other = x.other;
  }

  abbrev Idles : FarCommand → Type 0
  Idles ask = CommandGoes small 1 fresh ask Nothing (opener small) no_array (no_map 64)
      (opener small) no_array (no_map 64)

  popped : Idles Pop
  popped = record {
    calls = refl;
    both = both;
    entries = [];
    wrote = refl;
    few = omega arith;
    more = [];
    turned = refl;
    jobs_are = tt;
    history = history;
    made = refl;
    is_said = refl;
  }

  looked : Idles (Look 5)
  looked = record {
    calls = refl;
    both = both;
    entries = [];
    wrote = refl;
    few = omega arith;
    more = [];
    turned = refl;
    jobs_are = tt;
    history = history;
    made = refl;
    is_said = sym (ap found_said (map.get-empty nat_cmp 5));
  }

  gone : HaveGone small 1 asked saids (opener small) (opener small)
  gone = record {
    array = no_array;
    buckets = no_map 64;
    go = (
      opener small,
      no_array,
      no_map 64,
      popped,
      (opener small, no_array, no_map 64, looked, (refl, refl, refl)),
    );
    both = both;
  }

  shows : sealed_world seal ≡ world
  shows = ap (λ (x : Sealed). x.world) there.under

  record_is : sealed_record seal ≡ opener small
  record_is = ap (λ (x : Sealed). x.view) there.under

  answered : AreAnswered small asked saids world seal
  answered = record {
    shows = shows;
    closed = subst (λ (v : View). IsClosed Did 1 small v world) (sym record_is) there.closed;
    gone = subst (HaveGone small 1 asked saids (opener small)) (sym record_is) gone;
    turns_are = subst (λ (v : View). Each (λ (t : Turn). IsMake t.job ⊎ IsOnObject v t.job) v.turns)
        (sym record_is) tt;
    told = nothing_told small (sealed_record seal) world []
        (ap (λ (v : View). v.turns) record_is);
    made = all_made 1 small (opener small) world.far.counts.turns world.far there.closed.turns;
  }

  mapped : IsMapped small asked saids (ending_of world seal)
  mapped = is_mapped small asked saids world seal answered (ending_of world seal) refl

  -- the ending has another world than the seal's
  another_world_left : (other : WorldState) → (other ≡ world → ⊥)
      → IsMapped small asked saids (record (ending_of world seal) { world = Some other }) → ⊥
  another_world_left other off left =
      off (same_Some other left.world left.left ∙ sym left.answered.shows
      ∙ sym (ap sealed_world (same_Some seal left.seal left.sealed)) ∙ shows)

  no_world_left : IsMapped small asked saids (record (ending_of world seal) { world = None }) → ⊥
  no_world_left left = none-some left.world left.left

  no_seal_left : IsMapped small asked saids (record (ending_of world seal) { seal = None }) → ⊥
  no_seal_left left = none-some left.seal left.sealed

  no_config_left : IsMapped small asked saids (record (ending_of world seal) { config = None }) → ⊥
  no_config_left left = none-some small left.config

  -- a record in which a node crashed before the close
  node_crashed : (other : Seal) (t : Turn) (node : NodeId)
      → (sealed_record other).turns ≡ record t { job = jobs.Crash node } ∷ []
      → AreAnswered small asked saids world other → ⊥
  node_crashed other t node one all = by (subst
      (Each (λ (u : Turn). IsMake u.job ⊎ IsOnObject (sealed_record other) u.job)) one all.turns_are).0
    where
      by : IsMake (jobs.Crash node) ⊎ IsOnObject (sealed_record other) (jobs.Crash node) → ⊥
      by (inl x) = x
      by (inr x) = x

  -- a number that was pushed, of which the record has nothing
  kept_aside : (other : Seal) → (sealed_record other).written ≡ []
      → AreAnswered small (Push 7 ∷ []) (Done ∷ []) world other → ⊥
  kept_aside other none all = let x = all.gone.both.array_is in no_object all.gone.array.kept x.kept
      (subst (λ (es : List Entry). AllByRecursion (IsObject es) all.gone.array.kept) none
      x.array.objects)

  -- an object that no command needs
  object_made : (other : WorldState) → other.far.made ≡ 1 → AreAnswered small asked saids other seal → ⊥
  object_made other one all = let none = all.made in omega (arith, one, none)

-- what is refused is not accepted
bad_is_not_accepted : Accepts Map bad_input → ⊥
bad_is_not_accepted accepts = spells_no_fault bad_input accepts.config refused.line accepts.commands
    accepts.spelled refused.first

input_is_not_refused : (told : List ℕ) → Refuses Map input told → ⊥
input_is_not_refused told refuses = spells_no_fault input small refuses.line commands spelled refuses.first
