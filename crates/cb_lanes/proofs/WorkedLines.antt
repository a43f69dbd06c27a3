-- Worked examples: the losses of answers, the replies that lines may have, and the steps of lines.
use Rattle.std.proofs.Common.{◌≡◌, ℕ, suc, ◌+◌, List, [], ◌∷◌, length, map, Option, Some}
use Rattle.std.proofs.Common.{None, refl, sym, ap, ◌∙◌, subst, arith}
use Rattle.cb_member.specs.declared.names.Loss.{Loss}
use Rattle.cb_types.specs.declared.answer.Answer.{Answer}
use Rattle.cb_types.specs.declared.config.Config.{Config}
use Rattle.cb_types.specs.declared.job.Job.TheVariants as job
use Rattle.cb_types.specs.declared.request.Request.{Request}
use Rattle.cb_types.specs.declared.request.Request.TheVariants.{Read, Write, Filter, Pair, Merge}
use Rattle.cb_types.specs.declared.request.Request.TheVariants.{Part, Compact, Crash, Join, Evict}
use Rattle.cb_types.specs.declared.request.Request.TheVariants.{Begin, Ship, Commit, Abort}
use Rattle.cb_types.specs.declared.reply.Reply.{Reply}
use Rattle.cb_types.specs.declared.reply.Reply.TheVariants.{Bytes, Done, Batch, Shipped, NoBatch}
use Rattle.cb_types.specs.declared.reply.Reply.TheVariants.{Short, Joining, Stepped, Merged}
use Rattle.cb_types.specs.declared.reply.Reply.TheVariants.{EpochAt, Down, Up, Range, Unmade, Freed}
use Rattle.cb_script.specs.declared.script.Line.{Line}
use Rattle.cb_world.specs.FarState.{FarState}
use Rattle.cb_world.specs.World.{WorldState, IsSoundWorld, empty_world}
use Rattle.cb_core.specs.Membership.{JoinTurn, joined as joined_again, is_up}
use Rattle.cb_core.specs.declared.event.Event.TheVariants.{Turn}
use Rattle.cb_core.specs.Step.{Step, held, free, ordered, worn, done}
use Rattle.cb_core.specs.Turned.{counted}
use Rattle.cb_lanes.specs.Asked.{asked, HasLineReply}
use Rattle.cb_lanes.specs.LineGoes.{job_of, job_on}
use Rattle.cb_lanes.specs.LineStep.{LineStep, LinesLead, ObjectStep, OtherStep}
use Rattle.cb_lanes.specs.declared.side.Side.TheVariants.{Nodes}
use Rattle.cb_lanes.specs.LinesSoundly.{AreOnlyAnswers, LinesLeadSoundly}
use Rattle.cb_lanes.specs.LineAnswered.{LineAnswered}
use Rattle.cb_lanes.specs.Lost.{AreInOrder, told_loss, losses_of}
use Rattle.cb_lanes.specs.Names.{KeptNames, kept_number}
use Rattle.cb_lanes.proofs.Lone.{empty_lone, lone_other}

abbrev answer : Request → Reply → Answer
answer request reply = record
    { lane = record { n = 1 }; line = 2; request = request; reply = reply }

abbrev crash : ℕ → Reply → Answer
crash n reply = answer (Crash (record { n = n })) reply

abbrev epoch : ℕ → Reply
epoch n = EpochAt (record { n = n })

-- ---- losses

pub two_crashes : losses_of
    (crash 3 (epoch 1) ∷ answer (Join (record { n = 3 })) (epoch 2) ∷ crash 3 (epoch 3)
    ∷ crash 3 (Down (record { n = 3 })) ∷ [])
    ≡ record { node = record { n = 3 }; epoch = record { n = 1 } }
    ∷ record { node = record { n = 3 }; epoch = record { n = 3 } } ∷ []
two_crashes = refl

abbrev loss : ℕ → Loss
loss n = record { node = record { n = 3 }; epoch = record { n = n } }

ascending : AreInOrder (loss 1 ∷ loss 3 ∷ [])
ascending = ((omega arith, tt), (tt, tt))

-- the later of them first, and one epoch twice
falling : AreInOrder (loss 3 ∷ loss 1 ∷ []) → ⊥
falling is = let e = is.0.0 in omega (arith, e)

twice : AreInOrder (loss 3 ∷ loss 3 ∷ []) → ⊥
twice is = let e = is.0.0 in omega (arith, e)

-- the last two, behind one that is before both
falling_last : AreInOrder (loss 1 ∷ loss 3 ∷ loss 2 ∷ []) → ⊥
falling_last is = let e = is.1.0.0 in omega (arith, e)

a_join_loses_nothing : told_loss (Join (record { n = 3 })) (epoch 2) ≡ None
a_join_loses_nothing = refl

-- ---- replies of lines

shown : HasLineReply (answer (Read (97 ∷ [])) (Bytes 1 (7 ∷ [])))
shown = tt

no_read_is_out_of_range : HasLineReply (answer (Read (97 ∷ [])) (Range 1)) → ⊥
no_read_is_out_of_range is = is

no_join_is_down : HasLineReply (answer (Join (record { n = 3 })) (Down (record { n = 3 }))) → ⊥
no_join_is_down is = is

-- the four steps by which a batch leaves
begins : HasLineReply (answer Begin (Batch (record { n = 0 })))
begins = tt

no_begin_lacks_a_batch : HasLineReply (answer Begin NoBatch) → ⊥
no_begin_lacks_a_batch is = is

ships : HasLineReply (answer Ship (Shipped 3))
ships = tt

no_ship_is_short : HasLineReply (answer Ship (Short (0 ∷ []))) → ⊥
no_ship_is_short is = is

a_short_commit : HasLineReply (answer Commit (Short (0 ∷ 2 ∷ [])))
a_short_commit = tt

no_commit_is_done : HasLineReply (answer Commit Done) → ⊥
no_commit_is_done is = is

aborts : HasLineReply (answer Abort Done)
aborts = tt

no_abort_is_short : HasLineReply (answer Abort (Short (0 ∷ []))) → ⊥
no_abort_is_short is = is

-- two span-sets are joined, in steps and whole
pairs : HasLineReply (answer Pair (Joining (record { n = 1 }) (record { n = 2 })))
pairs = tt

no_pair_is_stepped : HasLineReply (answer Pair (Stepped 0)) → ⊥
no_pair_is_stepped is = is

merges : HasLineReply (answer Merge (Merged (record { n = 3 }) 1))
merges = tt

no_part_is_merged : HasLineReply (answer Part (Merged (record { n = 3 }) 1)) → ⊥
no_part_is_merged is = is

-- ---- steps of lines

-- each step is a turn with its own job
step_is_a_turn : (w new : WorldState) (r : Reply) → Step w (Turn 1 job.Ship) r new
    → LineStep Nodes 1 None Ship w r new
step_is_a_turn w new r step = step

a_write_is_a_write : job_on 4 (Write (97 ∷ []) 2 (9 ∷ []))
    ≡ Some (job.Write (record { n = 4 }) 2 (9 ∷ []))
a_write_is_a_write = refl

a_filter_is_a_filter : job_on 4 (Filter (97 ∷ [])) ≡ Some (job.Filter (record { n = 4 }))
a_filter_is_a_filter = refl

an_eviction_is_on_no_object : job_on 4 Evict ≡ None
an_eviction_is_on_no_object = refl

-- the five verbs by which two span-sets are joined, each a turn with its own job
a_merge_is_a_merge : job_of Merge ≡ Some job.Merge
a_merge_is_a_merge = refl

a_merge_is_no_part : job_of Merge ≡ Some job.Part → ⊥
a_merge_is_no_part e = cc

a_read_has_no_job_of_its_own : job_of (Read (97 ∷ [])) ≡ None
a_read_has_no_job_of_its_own = refl

joins_are_turns : (w new : WorldState) (r : Reply) → Step w (Turn 1 job.Compact) r new
    → LineStep Nodes 1 None Compact w r new
joins_are_turns w new r step = step

-- a line on an object without a job is none
no_line_on_an_object : (w : WorldState) → OtherStep Nodes 1 (Some 4) Pair None w Unmade w → ⊥
no_line_on_an_object w step = step

-- a name that has no handle is unmade, and nothing happens
unmade : (w : WorldState) → LineStep Nodes 1 None (Read (97 ∷ [])) w Unmade w
unmade w = (refl, refl)

another_reply : (w : WorldState) → LineStep Nodes 1 None (Read (97 ∷ [])) w Freed w → ⊥
another_reply w step = absurd (let e = step.0 in cc)

another_world : (w new : WorldState) → LineStep Nodes 1 None (Read (97 ∷ [])) w Unmade new
    → new.far.made ≡ w.far.made + 1 → ⊥
another_world w new step more = omega (arith, more, ap (λ (v : WorldState). v.far.made) step.1)

-- a join of a node that is up is a turn, and changes nothing else
abbrev pub small : Config
small = record { k = 2; r = 2; nodes = 4; frames = 2; room = 2; handles = 2; turns = 0 }

abbrev node : ℕ
node = 3

abbrev joined : WorldState
joined = record (empty_world small) {
  far = counted (empty_world small).far (job.Join (record { n = node }));
}

a_join : LineStep Nodes 1 None (Join (record { n = node })) (empty_world small)
    (Up (record { n = node })) joined
a_join = free (lone_other (empty_world small).seats 1 empty_lone)
    (done (omega arith) (
      refl,
      is_up refl refl refl,
      λ s k.
          (s, k, (λ h. refl), (λ seats open_writes. open_writes), λ o kept. kept),
    ) refl)

-- one that is not counted
uncounted : LineStep Nodes 1 None (Join (record { n = node })) (empty_world small)
    (Up (record { n = node }))
    (empty_world small) → ⊥
uncounted (held holder off holds reply same) = absurd (let e = reply in cc)
uncounted (free none (worn end reply same)) = absurd (let e = reply in cc)
uncounted (ordered keeps off none turn seats) = off tt
uncounted (free none (done few works seats)) = by works.1 where
  by : JoinTurn (record { n = node })
      (counted (empty_world small).far (job.Join (record { n = node })))
      (Up (record { n = node })) (empty_world small).far → ⊥
  by (is_up up reply same) = omega (arith, ap (λ (f : FarState). f.counts.turns) same)
  by (joined_again down reply same) = absurd (let e = reply in cc)

leads : LinesLead Nodes [] (empty_world small)
    (answer (Join (record { n = node })) (Up (record { n = node })) ∷ [])
    joined
leads = (joined, joined, a_join, refl, refl)

-- without lines the world stays
no_line : LinesLead Nodes [] (empty_world small) [] joined → ⊥
no_line is = omega (arith, ap (λ (v : WorldState). v.far.counts.turns) is)

-- a line behind which the world is not sound does not lead soundly
not_through_an_unsound_world : (before : List Answer) (a : Answer) (w new : WorldState)
    → (IsSoundWorld new → ⊥) → LinesLeadSoundly Nodes before w (a ∷ []) new → ⊥
not_through_an_unsound_world before a w new unsound x =
    unsound (subst IsSoundWorld (sym x.5) x.4.sound)

-- the lines have one answer and lead to one world
no_lines_lead_nowhere : AreOnlyAnswers Nodes (empty_world small) [] (empty_world small)
no_lines_lead_nowhere [] v lines leads = (refl, leads)
no_lines_lead_nowhere (a ∷ others) v lines leads =
    absurd (let n : suc (length (map asked others)) ≡ 0 =
    ap (λ (l : List Line). length l) lines in omega (arith, n))

not_the_only_answers : (w v new : WorldState) (answers others : List Answer)
    → map asked others ≡ map asked answers → LinesLead Nodes [] w others v
    → (others ≡ answers → ⊥) → AreOnlyAnswers Nodes w answers new → ⊥
not_the_only_answers w v new answers others lines leads off only = off (only others v lines leads).0

not_the_only_world : (w v new : WorldState) (answers : List Answer) → LinesLead Nodes [] w answers v
    → (v ≡ new → ⊥) → AreOnlyAnswers Nodes w answers new → ⊥
not_the_only_world w v new answers leads off only = off (only answers v refl leads).1

-- ---- a line that was answered

abbrev reading : Line
reading = record { lane = record { n = 1 }; line = 2; request = Read (97 ∷ []) }

abbrev read_as : Reply → List Answer
read_as reply = answer (Read (97 ∷ [])) reply ∷ []

abbrev first_reply : List Answer → Reply
first_reply [] = Unmade
first_reply (x ∷ xs) = x.reply

-- a name that has no handle, in a lane that has one more line
module _ (w : WorldState) (names : KeptNames) (none : kept_number names (97 ∷ []) ≡ None) where
  is_unmade : (new : WorldState) (other : KeptNames) (all : List Answer)
      → (line : LineAnswered Nodes reading (1 ∷ []) w names [] new other all)
      → (line.reply ≡ Unmade) × (new ≡ w) × (line.between ≡ w)
  is_unmade new other all line =
      let step = subst (λ (o : Option ℕ). ObjectStep Nodes 1 o
      (Read (97 ∷ [])) w line.reply line.between) none
      line.step in (step.0, line.rests ∙ step.1, step.1)

  is_answered : IsSoundWorld w → LineAnswered Nodes reading (1 ∷ []) w names [] w names
      (read_as Unmade)
  is_answered sound = record {
    reply = Unmade;
    between = w;
    step = subst (λ (o : Option ℕ). ObjectStep Nodes 1 o (Read (97 ∷ [])) w Unmade w) (sym none)
        (refl, refl);
    sound = sound;
    rests = refl;
    holds = λ q. refl;
    answer = refl;
  }

  answered_freed : LineAnswered Nodes reading (1 ∷ []) w names [] w names (read_as Freed) → ⊥
  answered_freed line = absurd (let e : Freed ≡ Unmade =
      ap first_reply line.answer ∙ (is_unmade w names (read_as Freed) line).0 in cc)

  not_answered : LineAnswered Nodes reading (1 ∷ []) w names [] w names [] → ⊥
  not_answered line = let told = line.answer in absurd cc

  in_an_unsound_world : (IsSoundWorld w → ⊥)
      → LineAnswered Nodes reading (1 ∷ []) w names [] w names (read_as Unmade) → ⊥
  in_an_unsound_world unsound line =
      unsound (subst IsSoundWorld (is_unmade w names (read_as Unmade) line).2 line.sound)

  in_another_world : (new : WorldState) → new.far.made ≡ w.far.made + 1
      → LineAnswered Nodes reading (1 ∷ []) w names [] new names (read_as Unmade) → ⊥
  in_another_world new more line =
      let same = (is_unmade new names (read_as Unmade) line).1 in
      omega (arith, more, ap (λ (v : WorldState). v.far.made) same)

  with_another_name : (other : KeptNames) → kept_number other (97 ∷ []) ≡ Some 4
      → LineAnswered Nodes reading (1 ∷ []) w names [] w other (read_as Unmade) → ⊥
  with_another_name other four line = absurd (let kept = line.holds (97 ∷ []) in
      let both : Some 4 ≡ None = sym four ∙ kept ∙ none in cc)
