-- Worked examples: what threads are given and what they leave.
use Rattle.std.proofs.Common.{◌≡◌, ℕ, ◌+◌, ◌<◌, ◌≤◌, Bool, cond, eqb, List, [], ◌∷◌, ◌++◌, length, map, Some, Ok, Err, inl, inr, refl, sym, ap, ◌∙◌, subst, lit≤, arith}
use Rattle.std.specs.Prelude.{nat_eq, slice_index_or}
use Rattle.cb_member.specs.declared.no_memory.NoMemory.{NoMemory}
use Rattle.cb_types.specs.declared.answer.Answer.{Answer}
use Rattle.cb_types.specs.declared.config.Config.{Config}
use Rattle.cb_types.specs.declared.job.Job.{Job}
use Rattle.cb_types.specs.declared.job.Job.TheVariants as job
use Rattle.cb_types.specs.Jobs.{job_index}
use Rattle.cb_types.specs.declared.reply.Reply.{Reply}
use Rattle.cb_types.specs.declared.reply.Reply.TheVariants.{Made, Left, Freed, Moving}
use Rattle.cb_types.specs.declared.request.Request.{Request}
use Rattle.cb_types.specs.declared.request.Request.TheVariants.{Crash, Make, Leave, Read}
use Rattle.cb_script.specs.declared.script.Line.{Line}
use Rattle.cb_script.specs.Form.{AreLines}
use Rattle.cb_world.specs.declared.entry.Entry.{Entry}
use Rattle.cb_rule.specs.declared.turn.Turn.{Turn}
use Rattle.cb_rule.specs.declared.view.Stand.{Stand}
use Rattle.cb_rule.specs.declared.view.View.{View}
use Rattle.cb_rule.specs.Lists.{times}
use Rattle.cb_rule.specs.Steps.{opener, right_of}
use Rattle.cb_rule.proofs.Laws.{by_case}
use Rattle.cb_record.specs.Backs.{Backs}
use Rattle.cb_record.specs.Parts.{nothing_more}
use Rattle.cb_record.specs.Told.{tolds}
use Rattle.cb_record.specs.Upheld.{as_part}
use Rattle.cb_text.specs.Line.{text_of}
use Rattle.cb_shared.specs.declared.pass.Pass.{Pass}
use Rattle.cb_shared.specs.declared.runtime.Shared.{Shared}
use Rattle.cb_shared.specs.Passes.{IsPassOf, record_of}
use Rattle.cb_lanes.specs.declared.body.LaneEnd.{LaneEnd}
use Rattle.cb_lanes.specs.declared.body.Named.{Named}
use Rattle.cb_lanes.specs.Asked.{asked}
use Rattle.cb_lanes.specs.Scoped.{AreOneToOne}
use Rattle.cb_workers.specs.Rules.{lane_of, visit}
use Rattle.cb_workers.specs.declared.worker.Worker.{Worker as Worker'}
use Rattle.cb_workers.specs.declared.worker.Worker.TheVariants as worker
use Rattle.cb_app.specs.Crew.{AllMade, AreKnownTo, AreMade, BodyIsReady, HasText, IsDealt, IsDealtOne, IsEnded, IsFreshRecord, IsLaneTold, IsTaskReady, TakesIn, TaskRuns, if_same, lines_in, turns_for, work_in}
use Rattle.cb_app.specs.CrewTurns.{IsWorkOf}
use Rattle.cb_app.specs.declared.crew.Body.{Body}
use Rattle.cb_app.specs.declared.crew.Body.TheVariants.{Lane, Worker}
use Rattle.cb_app.specs.declared.crew.Task.{Task}
use Rattle.cb_app.specs.declared.crew.ToldEnd.{ToldEnd}
use Rattle.cb_app.proofs.AnswersRise.{none_known, none_rise}
use Rattle.cb_app.proofs.CrewTaken.{idle_work}
use Rattle.cb_app.proofs.Crews.{dealt_none}
use Rattle.cb_app.proofs.LanesAlone.{none_alone}
use Rattle.cb_app.proofs.WorkedLanes.{on_no_name}
use Rattle.cb_app.proofs.Records.{fresh_idle}

abbrev a : List ℕ
a = 97 ∷ []

abbrev line : ℕ → Request → Line
line lane request = record { lane = record { n = lane }; line = 2; request = request }

abbrev lane : ℕ → Body
lane n = Lane (record { n = n })

-- a script
abbrev leaves : List Line
leaves = line 1 Leave ∷ line 2 Leave ∷ []

abbrev answer : ℕ → Request → Reply → Answer
answer lane request reply = record { lane = record { n = lane }; line = 2; request = request; reply = reply }

-- ---- the record of a new pass

abbrev clear : View → View
clear v = record v { pins = []; written = []; turns = []; own = [] }

pub is_fresh : (v : View) → IsFreshRecord (clear v)
is_fresh v = record { pins = refl; written = refl; turns = refl; own = refl }

a_pin_is_not_fresh : (v : View) (p : Stand) → IsFreshRecord (record (clear v) { pins = p ∷ [] }) → ⊥
a_pin_is_not_fresh v p fresh = absurd (let e = fresh.pins in cc)

an_entry_is_not_fresh : (v : View) (e : Entry)
    → IsFreshRecord (record (clear v) { written = e ∷ [] }) → ⊥
an_entry_is_not_fresh v e fresh = absurd (let e = fresh.written in cc)

a_turn_is_not_fresh : (v : View) (t : Turn) → IsFreshRecord (record (clear v) { turns = t ∷ [] })
    → ⊥
a_turn_is_not_fresh v t fresh = absurd (let e = fresh.turns in cc)

an_own_handle_is_not_fresh : (v : View) → IsFreshRecord (record (clear v) { own = 3 ∷ [] }) → ⊥
an_own_handle_is_not_fresh v fresh = absurd (let e = fresh.own in cc)

-- ---- what the record of a new pass has

nothing_yet : (c : Config) → as_part (opener c) ≡ nothing_more
nothing_yet c = refl

-- ---- lines of bodies

lines_of_a_lane : (lines_in leaves (lane 2) ≡ line 2 Leave ∷ []) × (lines_in leaves (lane 3) ≡ [])
lines_of_a_lane = (refl, refl)

a_worker_has_none : (w : Worker') → lines_in leaves (Worker w 3) ≡ []
a_worker_has_none w = refl

-- ---- bodies

abbrev crash : Request
crash = Crash (record { n = 5 })

abbrev none : List Named
none = []

abbrev named : List Named
named = record { name = a; handle = Some (record { n = 3 }) } ∷ []

worker_is_ready : (v : View) (w : Worker') → BodyIsReady 2 leaves named v (Worker w 3)
worker_is_ready v w = tt

lane_is_ready : (v : View) → BodyIsReady 2 leaves none v (lane 2)
lane_is_ready v = (((refl, tt), tt), tt, omega arith)

lane_0_runs_before : (v : View) → BodyIsReady 2 leaves none v (lane 0) → ⊥
lane_0_runs_before v ready = let low = ready.2 in absurd (omega (arith, low))

-- a crash of a node that there is not, among the lines of the lane and of another one
a_line_without_form : (v : View) → BodyIsReady 2 (line 1 crash ∷ []) none v (lane 1) → ⊥
a_line_without_form v ready = let low : 5 < 2 = ready.0.0.1 in absurd (omega (arith, low))

a_line_of_another_lane : (v : View) → BodyIsReady 2 (line 1 crash ∷ leaves) none v (lane 2)
a_line_of_another_lane v = (((refl, tt), tt), tt, omega arith)

-- the record knows no handle of the name
an_unknown_name : (v : View) → BodyIsReady 2 leaves named (record (clear v) { seen = [] }) (lane 2) → ⊥
an_unknown_name v ready = elim ready.1.0 [ inl written ↦ written.1 | inr seen ↦ seen.1 ]

-- ---- answers that are known

are_known : (v : View) → AreKnownTo v (answer 0 Leave (Left 0) ∷ [])
are_known v = (v, (λ h n freed has. has), ((λ h e. absurd cc), tt), (refl, tt))

of_another_lane : (v : View) → AreKnownTo v (answer 2 Leave (Left 0) ∷ []) → ⊥
of_another_lane v is = let e : 2 ≡ 0 = is.3.0 in absurd (omega (arith, e))

-- a make of which the record has nothing
not_on_record : (v : View) → AreKnownTo (record (clear v) { seen = [] })
    (answer 0 (Make a (1 ∷ [])) (Made (record { n = 0 }) 1) ∷ []) → ⊥
not_on_record v (w, has, stand, first) =
    let there = stand.0 0 refl 1 refl in
    elim (has 0 1 there.0 there.1) [ inl written ↦ written.1 | inr seen ↦ seen.1 ]

ends_in_one : (rest : List Entry) (e : Entry) → [] ≡ rest ++ e ∷ [] → ⊥
ends_in_one [] e is = absurd cc
ends_in_one (x ∷ rest) e is = absurd cc

-- ---- the turns of workers

-- what is due, and what is in a record: a turn of another worker is no turn of this one
filter_is_due : turns_for worker.Filter (Worker worker.Filter 3) ≡ 3
filter_is_due = refl

of_another_worker : turns_for worker.Rebuild (Worker worker.Filter 3) ≡ 0
of_another_worker = refl

of_a_lane : (w : Worker') → turns_for w (lane 2) ≡ 0
of_a_lane w = refl

abbrev is_like : Job → Turn → Bool
is_like j t = eqb (job_index t.job) (job_index j)

abbrev with_jobs : Turn → View → View
with_jobs t v = record v {
  turns = record t { job = job.Ship } ∷ record t { job = job.Evict } ∷ record t { job = job.Gather } ∷ [];
}

two_of_the_batches : (t : Turn) (v : View) → work_in worker.Evict (with_jobs t v) ≡ 2
two_of_the_batches t v = refl

none_of_the_pairs : (t : Turn) (v : View) → work_in worker.Compact (with_jobs t v) ≡ 0
none_of_the_pairs t v = refl

none_due : {n : ℕ} (w other : Worker') → if_same other w 0 ≤ n
none_due {n = n} w other = by_case (λ b. cond {A = ℕ} b 0 0 ≤ n) (eqb (lane_of other).n (lane_of w).n)
    (λ e. omega arith) (λ e. omega arith)

-- ---- with a runtime and a pass that has done nothing yet

module _ (s : Shared) (p : Pass) (of : IsPassOf s p) (fresh : IsFreshRecord (record_of p)) where
  abbrev task : Body → Task
  task body = record { body = body; pass = p }

  is_ready : (w : Worker') → IsTaskReady s leaves none (task (Worker w 3))
  is_ready w = record { of = of; fresh = fresh; body = tt }

  another_runtime : (w : Worker') (q : Pass) → (IsPassOf s q → ⊥)
      → IsTaskReady s leaves none (record { body = Worker w 3; pass = q }) → ⊥
  another_runtime w q not ready = not ready.of

  a_used_pass : (w : Worker') (q : Pass) → (IsFreshRecord (record_of q) → ⊥)
      → IsTaskReady s leaves none (record { body = Worker w 3; pass = q }) → ⊥
  a_used_pass w q not ready = not ready.fresh

  lane_0_is_not_ready : IsTaskReady s leaves none (task (lane 0)) → ⊥
  lane_0_is_not_ready ready = let low = ready.body.2 in absurd (omega (arith, low))

  -- ---- what a thread leaves

  abbrev end : List Answer → LaneEnd
  end answers = record { answers = answers; pass = p }

  abbrev told_end : List Answer → ToldEnd
  told_end answers = record { end = end answers; text = text_of answers }

  idle : Backs (as_part (record_of p)) []
  idle = fresh_idle (record_of p) fresh

  -- a line that needs nothing of the record
  left_backed : Backs (as_part (record_of p)) (tolds [] (answer 2 Leave (Left 0) ∷ []))
  left_backed = record {
    wrote = ([], [], fresh.written, refl, refl);
    tells = (tt, tt);
    pins = idle.pins;
    turned = idle.turned;
    happens = idle.happens;
  }

  is_told : IsLaneTold s [] (line 2 Leave ∷ []) (end (answer 2 Leave (Left 0) ∷ []))
  is_told = record {
    of = of;
    lines_are = refl;
    replies = (tt, tt);
    last = (tt, tt);
    backs = left_backed;
    suits = (tt, tt);
    rises = (tt, (tt, tt));
    scopes = λ one. (refl, tt);
    alone = λ one lines all whole among n own same room.
        (λ mine. absurd (on_no_name (nat_eq 2 n) mine), tt);
  }

  by_another_pass : (q : Pass) → (IsPassOf s q → ⊥) → IsLaneTold s [] [] (record { answers = []; pass = q }) → ⊥
  by_another_pass q not told = not told.of

  told_no_line : IsLaneTold s [] [] (end (answer 2 Leave (Left 0) ∷ [])) → ⊥
  told_no_line told = absurd (let e = told.lines_are in cc)

  told_another_lane : IsLaneTold s [] (line 1 Leave ∷ []) (end (answer 2 Leave (Left 0) ∷ [])) → ⊥
  told_another_lane told =
      let e : 2 ≡ 1 = ap (λ (ls : List Line). (slice_index_or ls 0 (line 1 Leave)).lane.n) told.lines_are in
      absurd (omega (arith, e))

  -- the record backs it as well, but no leave has this reply
  freed_backed : Backs (as_part (record_of p)) (tolds [] (answer 2 Leave Freed ∷ []))
  freed_backed = record {
    wrote = ([], [], fresh.written, refl, refl);
    tells = (tt, tt);
    pins = idle.pins;
    turned = idle.turned;
    happens = idle.happens;
  }

  no_reply_of_the_line : IsLaneTold s [] (line 2 Leave ∷ []) (end (answer 2 Leave Freed ∷ [])) → ⊥
  no_reply_of_the_line told = told.replies.0

  -- a read was told that its object is being moved, which is tried again
  told_of_a_move : IsLaneTold s [] (line 2 (Read a) ∷ []) (end (answer 2 (Read a) Moving ∷ [])) → ⊥
  told_of_a_move told = told.last.0

  -- a name without a handle was told that its object is freed
  freed_without_a_handle : IsLaneTold s [] (line 2 (Read a) ∷ []) (end (answer 2 (Read a) Freed ∷ [])) → ⊥
  freed_without_a_handle told = told.suits.0

  -- a lane that took no pin is told of one
  no_name : (r : Reply) → AreOneToOne (answer 2 Leave r ∷ [])
  no_name r x y g h (inl e) q = absurd cc
  no_name r x y g h (inr missing) q = absurd missing

  told_of_no_pin : IsLaneTold s [] (line 2 Leave ∷ []) (end (answer 2 Leave (Left 1) ∷ [])) → ⊥
  told_of_no_pin told = absurd (let e : Left 1 ≡ Left 0 = (told.scopes (no_name (Left 1))).0 in cc)

  -- who was told of a made object wrote it
  not_in_the_record : IsLaneTold s [] (line 2 (Make a (1 ∷ [])) ∷ [])
      (end (answer 2 (Make a (1 ∷ [])) (Made (record { n = 0 }) 1) ∷ [])) → ⊥
  not_in_the_record told =
      let wrote = told.backs.wrote in
      ends_in_one wrote.1 _ (sym fresh.written ∙ wrote.2 ∙ ap (λ (es : List Entry). wrote.1 ++ es) wrote.3.2)

  -- ---- how a thread ends

  none_told : (given : List Answer) → IsLaneTold s given [] (end [])
  none_told given = record {
    of = of;
    lines_are = refl;
    replies = tt;
    last = tt;
    backs = idle;
    suits = tt;
    rises = none_rise given [] refl;
    scopes = λ one. tt;
    alone = λ one. none_alone s.config.nodes given [] refl;
  }

  without_memory : (want : NoMemory) → IsEnded s leaves [] (record { body = lane 2; left = Err want })
  without_memory want = tt

  with_answers : IsEnded s leaves [] (record { body = lane 2; left = Ok (told_end (answer 2 Leave (Left 0) ∷ [])) })
  with_answers = is_told

  with_none : IsEnded s leaves [] (record { body = lane 2; left = Ok (told_end []) }) → ⊥
  with_none ended = absurd (let e = ended.lines_are in cc)

  runs : (w : Worker') → TaskRuns s leaves none (task (Worker w 0)) (record { body = Worker w 0; left = Ok (told_end []) })
  runs w = (
    refl,
    λ given named known. none_told given,
    λ other. none_due other w,
    refl,
    (refl, subst (IsWorkOf s.config.handles w 0) (sym fresh.turns) (idle_work s.config.handles w)),
  )

  ran_another_body : (w : Worker')
      → TaskRuns s leaves none (task (lane 2)) (record { body = Worker w 0; left = Ok (told_end []) })
      → ⊥
  ran_another_body w r = let e : Worker w 0 ≡ lane 2 = r.0 in absurd cc

  did_not_answer : TaskRuns s leaves none (task (lane 2)) (record { body = lane 2; left = Ok (told_end []) }) → ⊥
  did_not_answer r = with_none (r.1 [] (λ name. refl) (none_known (record_of p)))

  -- a worker that has made no turn
  made_none : TaskRuns s leaves none (task (Worker worker.Filter 3))
      (record { body = Worker worker.Filter 3; left = Ok (told_end []) }) → ⊥
  made_none r =
      let made : 3 ≤ work_in worker.Filter (record_of p) = r.2 worker.Filter in
      let nothing : work_in worker.Filter (record_of p) ≡ 0 =
      ap (λ (ts : List Turn). times (is_like (visit 0)) ts) fresh.turns in absurd (omega (arith, made, nothing))

  -- a thread whose text tells of more than it was answered
  wrote_more : (w : Worker') → TaskRuns s leaves none (task (Worker w 0)) (record {
    body = Worker w 0;
    left = Ok (record { end = end []; text = a });
  }) → ⊥
  wrote_more w r = let e : length a ≡ 0 = ap length r.3 in absurd (omega (arith, e))

  writes : (HasText (record { body = lane 2; left = Ok (told_end (answer 2 Leave (Left 0) ∷ [])) }))
      × ((want : NoMemory) → HasText (record { body = lane 2; left = Err want }))
  writes = (refl, λ want. tt)

  made_without_memory : (w : Worker') (want : NoMemory)
      → AreMade w (task (Worker w 3)) (record { body = Worker w 3; left = Err want })
  made_without_memory w want = tt

  each_made : (w : Worker')
      → AllMade w (task (lane 2) ∷ []) (record { body = lane 2; left = Ok (told_end []) } ∷ [])
  each_made w = (omega arith, tt)

  one_is_missing : (w : Worker') → AllMade w (task (Worker w 3) ∷ []) [] → ⊥
  one_is_missing w all = all

  -- ---- one task more

  dealt_one : (v : View) (old : List Task) (body : Body) → record_of p ≡ right_of 1 v
      → IsDealtOne s body v old (old ++ task body ∷ [])
  dealt_one v old body right = record { task = task body; tasks = refl; body_is = refl; of = of; right = right }

  no_task_more : (v : View) (body : Body) → IsDealtOne s body v [] [] → ⊥
  no_task_more v body one = absurd (let e = one.tasks in cc)

  the_task : (v : View) (body : Body) (t : Task) → (one : IsDealtOne s body v [] (t ∷ [])) → t ≡ one.task
  the_task v body t one = ap (λ (ts : List Task). slice_index_or ts 0 t) one.tasks

  with_another_body : (v : View) (w : Worker') → IsDealtOne s (lane 2) v [] (task (Worker w 3) ∷ []) → ⊥
  with_another_body v w one =
      let e : Worker w 3 ≡ lane 2 =
      ap (λ (t : Task). t.body) (the_task v (lane 2) (task (Worker w 3)) one) ∙ one.body_is in
      absurd cc

  of_another_runtime : (v : View) (body : Body) (q : Pass) → (IsPassOf s q → ⊥)
      → IsDealtOne s body v [] (record { body = body; pass = q } ∷ []) → ⊥
  of_another_runtime v body q not one = not (subst (λ (t : Task). IsPassOf s t.pass)
      (sym (the_task v body (record { body = body; pass = q }) one)) one.of)

  split_off_another : (v : View) (body : Body) → (record_of p ≡ right_of 1 v → ⊥)
      → IsDealtOne s body v [] (task body ∷ []) → ⊥
  split_off_another v body not one =
      not (ap (λ (t : Task). record_of t.pass) (the_task v body (task body) one) ∙ one.right)

  -- ---- all tasks

  is_dealt : (lines : List Line) → (record_of p).share ≡ 64 → IsDealt s lines 0 0 (record_of p) [] p
  is_dealt lines whole = dealt_none s lines p of whole

  by_a_pass_of_another : (lines : List Line) (q : Pass) → (IsPassOf s q → ⊥)
      → IsDealt s lines 0 0 (record_of q) [] q → ⊥
  by_a_pass_of_another lines q not dealt = not dealt.of

  too_much_split_off : (lines : List Line) → (record_of p).share ≡ 63
      → IsDealt s lines 0 0 (record_of p) [] p → ⊥
  too_much_split_off lines share dealt = let most = dealt.most in absurd (omega (arith, most, share))

  another_record : (lines : List Line) (ever : ℕ) → (record_of p).ever ≡ ever + 1
      → IsDealt s lines 0 0 (record (record_of p) { ever = ever }) [] p → ⊥
  another_record lines ever more dealt =
      let same : (record_of p).ever ≡ ever = ap (λ (v : View). v.ever) dealt.left in
      absurd (omega (arith, same, more))

  a_task_is_not_ready : (w : Worker') (q : Pass) → (IsPassOf s q → ⊥)
      → IsDealt s [] 0 1 (record_of p) (record { body = Worker w 3; pass = q } ∷ []) p → ⊥
  a_task_is_not_ready w q not dealt =
      not (dealt.ready none tt tt 0 (task (Worker w 3)) (lit≤ tt)).of

  a_lane_without_task : IsDealt s (line 1 Leave ∷ []) 1 1 (record_of p) [] p → ⊥
  a_lane_without_task dealt = absurd (let e = dealt.lines_are in cc)

  -- a lane that is dealt twice: the second time it is about a name that the first one makes
  abbrev makes_and_reads : List Line
  makes_and_reads = record { lane = record { n = 1 }; line = 2; request = Make a (1 ∷ []) }
      ∷ record { lane = record { n = 1 }; line = 3; request = Read a } ∷ []

  a_lane_dealt_twice : (v : View) → AreLines s.config.nodes [] makes_and_reads
      → IsDealt s makes_and_reads 1 2 v (task (lane 1) ∷ task (lane 1) ∷ []) p → ⊥
  a_lane_dealt_twice v are dealt = (dealt.apart are).2.0 a (inr (inl refl)) 1 (inl (refl, refl))

  -- ---- what is taken in

  takes_in : TakesIn s [] [] (line 2 Leave ∷ []) (end (answer 2 Leave (Left 0) ∷ []))
  takes_in = record {
    more = answer 2 Leave (Left 0) ∷ [];
    answers = refl;
    lines_are = refl;
    told = is_told;
  }

  lost_what_was_given : TakesIn s (answer 1 Leave (Left 0) ∷ []) [] [] (end []) → ⊥
  lost_what_was_given takes = absurd (let e = takes.answers in cc)

  took_no_line_in : TakesIn s [] [] [] (end (answer 2 Leave (Left 0) ∷ [])) → ⊥
  took_no_line_in takes =
      let lines : line 2 Leave ∷ [] ≡ [] = ap (map asked) takes.answers ∙ takes.lines_are in absurd cc

  took_a_wrong_reply_in : TakesIn s [] [] (line 2 Leave ∷ []) (end (answer 2 Leave Freed ∷ [])) → ⊥
  took_a_wrong_reply_in takes = takes.told.replies.0
