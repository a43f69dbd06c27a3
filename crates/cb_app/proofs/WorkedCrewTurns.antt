-- Worked examples: which turns of a record the workers made and which the lines; and what breaks each
-- part alone.
use Rattle.std.proofs.Common.{◌≡◌, ℕ, ◌+◌, ◌≤◌, List, [], ◌∷◌, ◌++◌, length, map, Some, Result, Ok, Err, refl, sym, ap, ◌∙◌, subst, arith}
use Rattle.std.proofs.lemmas.List.{length-append, length-map}
use Rattle.cb_member.specs.declared.no_memory.NoMemory.{NoMemory}
use Rattle.cb_types.specs.declared.answer.Answer.{Answer}
use Rattle.cb_types.specs.declared.config.Config.{Config}
use Rattle.cb_types.specs.declared.job.Job.TheVariants as job
use Rattle.cb_types.specs.declared.reply.Reply.TheVariants as answer
use Rattle.cb_script.specs.declared.script.Line.{Line}
use Rattle.cb_world.specs.World.{WorldState}
use Rattle.cb_rule.specs.declared.turn.Turn.{Turn}
use Rattle.cb_rule.specs.declared.view.View.{View}
use Rattle.cb_record.specs.Backs.{Backs, turn_needed}
use Rattle.cb_record.specs.Deeds.{deed}
use Rattle.cb_record.specs.Lists.{IsSublist, newest_first}
use Rattle.cb_record.specs.Lists.IsSublist.{both, ended}
use Rattle.cb_record.specs.Told.{tolds}
use Rattle.cb_record.specs.Upheld.{as_part}
use Rattle.cb_shared.specs.declared.seal.Seal.{Seal}
use Rattle.cb_shared.specs.Passes.{record_of}
use Rattle.cb_shared.specs.Sealing.{sealed_record}
use Rattle.cb_workers.specs.Rules.{visit}
use Rattle.cb_workers.specs.declared.worker.Worker.{Worker as Worker'}
use Rattle.cb_workers.specs.declared.worker.Worker.TheVariants as worker
use Rattle.cb_workers.proofs.Laws.{work_is_done}
use Rattle.cb_app.specs.CrewTurns.{HasCrew, IsCrew, IsLane, IsWorkOf, TurnsTaken, lines_taken, turns_of_lines}
use Rattle.cb_app.specs.Threaded.{IsRun}
use Rattle.cb_app.specs.declared.crew.Body.{Body}
use Rattle.cb_app.specs.declared.crew.Body.TheVariants.{Lane, Worker}
use Rattle.cb_app.specs.declared.crew.Ended.{Ended}
use Rattle.cb_app.specs.declared.crew.ToldEnd.{ToldEnd}
use Rattle.cb_app.proofs.WorkedThreaded.{evicted, small, told_of, view_of}

abbrev one_turn : Config
one_turn = record small { turns = 1 }

among_none : {A : Type 0} (xs : List A) → IsSublist xs [] → length xs ≡ 0
among_none xs ended = refl

-- ---- a turn of each worker, and behind them that of an evict line
module _ (t : Turn) where
  abbrev filtering : Turn
  filtering = record t { job = visit 0; reply = Some answer.Same }

  abbrev gathering : Turn
  gathering = record t { job = job.Gather; reply = Some (answer.NoSpans 0) }

  abbrev pairing : Turn
  pairing = record t { job = job.Pair; reply = Some answer.NoPair }

  abbrev rebuilding : Turn
  rebuilding = record t { job = job.Rebuild; reply = Some (answer.Whole 0) }

  abbrev evicting : Turn
  evicting = record t { job = job.Evict; reply = Some (answer.NoSpans 0) }

  abbrev by_workers : Worker' → List Turn
  by_workers worker.Filter = filtering ∷ []
  by_workers worker.Evict = gathering ∷ []
  by_workers worker.Compact = pairing ∷ []
  by_workers worker.Rebuild = rebuilding ∷ []

  works : (w : Worker') → IsWorkOf 16 w 1 (by_workers w)
  works worker.Filter = record {
    done = record { job = visit 0; reply = answer.Same } ∷ [];
    ending = [];
    work = record { number = refl; are_due = (refl, tt); ends = refl; are = refl };
  }
  works worker.Evict = record {
    done = record { job = job.Gather; reply = answer.NoSpans 0 } ∷ [];
    ending = [];
    work = record { number = refl; are_due = (refl, tt); ends = refl; are = refl };
  }
  works worker.Compact = record {
    done = record { job = job.Pair; reply = answer.NoPair } ∷ [];
    ending = [];
    work = record { number = refl; are_due = (refl, tt); ends = refl; are = refl };
  }
  works worker.Rebuild = record {
    done = record { job = job.Rebuild; reply = answer.Whole 0 } ∷ [];
    ending = [];
    work = record { number = refl; are_due = (refl, tt); ends = refl; are = refl };
  }

  abbrev all : List Turn
  all = rebuilding ∷ pairing ∷ gathering ∷ filtering ∷ evicting ∷ []

  backs : Backs (record (as_part (view_of all)) { turns = evicting ∷ [] }) (tolds [] (evicted ∷ []))
  backs = record {
    wrote = ([], [], refl, refl, refl);
    tells = (tt, tt);
    pins = omega arith;
    turned = both _ _ _ ended;
    happens = refl;
  }

  crew : HasCrew one_turn (view_of all) (evicted ∷ [])
  crew = record {
    lines = evicting ∷ [];
    made = by_workers;
    turns = refl;
    works = works;
    backs = backs;
  }

-- ---- what is not so

-- a worker that owes one made one at the least
some_made : (w : Worker') (ts : List Turn) → IsWorkOf 16 w 1 ts → 1 ≤ length ts
some_made w ts k =
    let some = work_is_done 16 w 1 k.done k.ending (map deed ts) k.work in
    let same = length-map ts deed in omega (arith, some, same)

-- so four are the workers'
no_more_lines : (v : View) (answers : List Answer) (n : ℕ) → length v.turns ≡ n + 4
    → (is : HasCrew one_turn v answers) → length is.lines ≤ n
no_more_lines v answers n all is =
    let e = ap (λ (ts : List Turn). length ts) is.turns in
    let r = length-append (is.made worker.Rebuild) (is.made worker.Compact
    ++ (is.made worker.Evict ++ (is.made worker.Filter ++ is.lines))) in
    let c = length-append (is.made worker.Compact) (is.made worker.Evict
    ++ (is.made worker.Filter ++ is.lines)) in
    let v = length-append (is.made worker.Evict) (is.made worker.Filter ++ is.lines) in
    let f = length-append (is.made worker.Filter) is.lines in
    let a = some_made worker.Filter (is.made worker.Filter) (is.works worker.Filter) in
    let b = some_made worker.Evict (is.made worker.Evict) (is.works worker.Evict) in
    let d = some_made worker.Compact (is.made worker.Compact) (is.works worker.Compact) in
    let g = some_made worker.Rebuild (is.made worker.Rebuild) (is.works worker.Rebuild) in
    omega (arith, all, e, r, c, v, f, a, b, d, g)

none_there : {A : Type 0} (xs : List A) → length xs ≤ 0 → xs ≡ []
none_there [] low = refl
none_there (x ∷ xs) low = absurd (omega (arith, low))

-- the turn of the line is the only one of its worker: it is counted twice
counted_twice : (v : View) → length v.turns ≡ 4 → HasCrew one_turn v (evicted ∷ []) → ⊥
counted_twice v four is =
    let none = none_there is.lines (no_more_lines v (evicted ∷ []) 0 (omega (arith, four)) is) in
    let needed = newest_first turn_needed (tolds [] (evicted ∷ [])) in
    let turned = subst (λ (ts : List Turn). IsSublist needed (map deed ts)) none is.backs.turned in
    let e : 1 ≡ 0 = among_none needed turned in omega (arith, e)

-- a run whose record has four turns is refused by this alone where its line made one of them,
-- however its world counts
a_worker_idles : (world : WorldState) (seal : Seal) (lines : List Line)
    → length (sealed_record seal).turns ≡ 4
    → IsRun (record { config = one_turn; lines = lines }) (told_of world seal (evicted ∷ []) []) → ⊥
a_worker_idles world seal lines four run = counted_twice (sealed_record seal) four run.crew

-- a worker made no turn
module _ (t : Turn) where
  made_none : (v : View) (is : HasCrew one_turn v []) → is.made worker.Filter ≡ [] → ⊥
  made_none v is none =
      let some = some_made worker.Filter (is.made worker.Filter) (is.works worker.Filter) in
      let e = ap (λ (ts : List Turn). length ts) none in omega (arith, some, e)

  -- a turn is no one's
  left_over : (is : HasCrew small (view_of (t ∷ [])) []) → is.lines ≡ []
      → ((w : Worker') → is.made w ≡ []) → ⊥
  left_over is none each =
      let e : t ∷ [] ≡ [] = is.turns ∙ (λ i. each worker.Rebuild i ++ (each worker.Compact i
      ++ (each worker.Evict i ++ (each worker.Filter i ++ none i)))) in absurd cc

-- ---- thread by thread
module _ (e : Ended) (told : ToldEnd) where
  abbrev by_lane : Ended
  by_lane = record e { body = Lane (record { n = 2 }); left = Ok told }

  abbrev by_worker : Ended
  by_worker = record e { body = Worker worker.Filter 1; left = Ok told }

  of_lines : (turns_of_lines by_lane.body by_lane.left ≡ (record_of told.end.pass).turns)
      × (turns_of_lines by_worker.body by_worker.left ≡ [])
  of_lines = (refl, refl)

  abbrev own : List Turn
  own = (record_of told.end.pass).turns

  -- the turns of the later one stand in front, and those of the worker are no lines'
  taken : TurnsTaken (by_lane ∷ by_worker ∷ []) [] (own ++ (own ++ []))
      × (lines_taken (by_lane ∷ by_worker ∷ []) [] ≡ own ++ [])
  taken = ((told, refl, (told, refl, refl)), refl)

  -- there was no memory for the one, or its turns did not come
  not_taken : (n : NoMemory) (after : List Turn)
      → TurnsTaken (record e { left = Err n } ∷ []) [] after → ⊥
  not_taken n after (x, is, rest) = absurd (let y : Err n ≡ Ok x = is in cc)

  dropped : (t : Turn) → own ≡ t ∷ [] → TurnsTaken (by_lane ∷ []) [] [] → ⊥
  dropped t some (x, is, rest) = absurd (let same : Ok told ≡ Ok x = is in
      let turns : own ≡ (record_of x.end.pass).turns =
      ap (λ (r : Result ToldEnd NoMemory). turns_of_lines (Lane (record { n = 2 })) r) same in
      let none : [] ≡ (record_of x.end.pass).turns ++ [] = rest in
      let e : [] ≡ (t ∷ []) ++ [] = none ∙ ap (λ (ts : List Turn). ts ++ []) (sym turns ∙ some) in cc)

-- ---- the bodies of the tasks
abbrev lane_2 : Body
lane_2 = Lane (record { n = 2 })

a_crew : IsCrew 3 (lane_2 ∷ Worker worker.Filter 3 ∷ Worker worker.Evict 3 ∷ Worker worker.Compact 3
    ∷ Worker worker.Rebuild 3 ∷ [])
a_crew = record { lanes = lane_2 ∷ []; all = (tt, tt); are = refl }

lanes_alone : (IsLane (Worker worker.Filter 3) → ⊥) × IsLane lane_2
lanes_alone = (λ is. is, tt)

-- one worker is left out
no_crew : IsCrew 3 (lane_2 ∷ Worker worker.Filter 3 ∷ []) → ⊥
no_crew is =
    let e = ap (λ bs. length bs) is.are in
    let more = length-append is.lanes (Worker worker.Filter 3 ∷ Worker worker.Evict 3
    ∷ Worker worker.Compact 3 ∷ Worker worker.Rebuild 3 ∷ []) in omega (arith, e, more)
