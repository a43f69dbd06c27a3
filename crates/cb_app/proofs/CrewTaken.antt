-- Which turns of the joined record the workers made, and which the lines.
use Rattle.std.proofs.Common.{◌≡◌, ℕ, suc, ◌<◌, List, [], ◌∷◌, ◌++◌, length, map, Result, Ok, refl, sym, ap, ◌∙◌, subst, append-nil, append_assoc, arith}
use Rattle.std.specs.Prelude.{IfOk, slice_index_or}
use Rattle.std.specs.List.{AllByRecursion}
use Rattle.std.proofs.lemmas.List.{map-append}
use Rattle.cb_member.specs.declared.no_memory.NoMemory.{NoMemory}
use Rattle.cb_types.specs.declared.answer.Answer.{Answer}
use Rattle.cb_types.specs.declared.config.Config.{Config}
use Rattle.cb_script.specs.declared.script.Line.{Line}
use Rattle.cb_rule.specs.declared.turn.Turn.{Turn}
use Rattle.cb_rule.specs.declared.view.View.{View}
use Rattle.cb_rule.specs.Steps.{joined}
use Rattle.cb_record.specs.Backs.{Backs, WroteLines}
use Rattle.cb_record.specs.Told.{Told, tolds}
use Rattle.cb_record.specs.Upheld.{as_part}
use Rattle.cb_record.proofs.Laws.{backs_sum, idle_backs, tolds-append}
use Rattle.cb_shared.specs.declared.pass.Pass.{Pass}
use Rattle.cb_shared.specs.declared.runtime.Shared.{Shared}
use Rattle.cb_shared.specs.Joining.{unpinned_all}
use Rattle.cb_shared.specs.Passes.{record_of}
use Rattle.cb_lanes.specs.declared.body.LaneEnd.{LaneEnd}
use Rattle.cb_lanes.specs.Asked.{asked}
use Rattle.cb_lanes.proofs.Laws.{all_both}
use Rattle.cb_workers.specs.Bodies.{WorkerWorks}
use Rattle.cb_workers.specs.Rules.{end_of, first_job}
use Rattle.cb_workers.specs.Work.{IsOnly}
use Rattle.cb_workers.specs.declared.worker.Worker.{Worker as Worker'}
use Rattle.cb_workers.specs.declared.worker.Worker.TheVariants as worker
use Rattle.cb_app.specs.ByLane.{IsApart}
use Rattle.cb_app.specs.Crew.{IsDealtOne, IsEnded, IsFreshRecord, IsLaneTold, lines_in, lines_left}
use Rattle.cb_app.specs.CrewTurns.{AllLeave, HasCrew, HasTaken, IsCrew, IsLane, IsWorkOf, JoinsEnded, LeavesWork, TurnsTaken, bodies_of, lines_taken, turns_of_lines, with_turns}
use Rattle.cb_app.specs.declared.crew.Body.{Body}
use Rattle.cb_app.specs.declared.crew.Body.TheVariants.{Lane, Worker}
use Rattle.cb_app.specs.declared.crew.Ended.{Ended}
use Rattle.cb_app.specs.declared.crew.Task.{Task}
use Rattle.cb_app.specs.declared.crew.ToldEnd.{ToldEnd}
use Rattle.cb_app.proofs.ToldApart.{tolds_apart}

-- ---- a worker

-- no turn is the work of one that owes none
pub idle_work : (handles : ℕ) (w : Worker') → IsWorkOf handles w 0 []
idle_work handles w = record {
  done = [];
  ending = [];
  work = record { number = refl; are_due = tt; ends = none_begun w; are = refl };
}
  where
    none_begun : (w : Worker') → IsOnly (end_of (first_job w)) []
    none_begun worker.Filter = refl
    none_begun worker.Evict = refl
    none_begun worker.Compact = refl
    none_begun worker.Rebuild = refl

-- workers that owe none left the record to the lines
pub idle_crew : (c : Config) (v : View) (answers : List Answer) → c.turns ≡ 0
    → Backs (as_part v) (tolds [] answers) → HasCrew c v answers
idle_crew c v answers none backs = record {
  lines = v.turns;
  made = λ w. [];
  turns = refl;
  works = λ w. subst (λ (n : ℕ). IsWorkOf c.handles w n []) (sym none) (idle_work c.handles w);
  backs = backs;
}

-- the turns of a worker that began with a new pass
pub worker_leaves : (s : Shared) (w : Worker') (turns : ℕ) (p q : Pass)
    → IsFreshRecord (record_of p) → WorkerWorks s w turns p q
    → IsWorkOf s.config.handles w turns (record_of q).turns
worker_leaves s w turns p q fresh works =
    let d = works.1.0 in
    let own : (record_of q).turns ≡ d.turns =
    ap (λ (v : View). v.turns) works.1.2 ∙ ap (λ (ts : List Turn). d.turns ++ ts) fresh.turns
    ∙ append-nil d.turns in
    subst (IsWorkOf s.config.handles w turns) (sym own) (record {
      done = works.1.1.done;
      ending = works.1.1.ending;
      work = works.1.1.work;
    })

-- ---- the tasks
pub bodies_more : (s : Shared) (body : Body) (v : View) (old new : List Task)
    → IsDealtOne s body v old new → bodies_of new ≡ bodies_of old ++ body ∷ []
bodies_more s body v old new one = ap bodies_of one.tasks
    ∙ map-append (λ (t : Task). t.body) old (one.task ∷ [])
    ∙ ap (λ (b : Body). bodies_of old ++ b ∷ []) one.body_is

pub lanes_more : (old new : List Body) (body : Body) → new ≡ old ++ body ∷ [] → IsLane body
    → AllByRecursion IsLane old → AllByRecursion IsLane new
lanes_more old new body is lane all = subst (AllByRecursion IsLane) (sym is)
    (all_both IsLane old (body ∷ []) all (lane, tt))

-- the workers behind the lanes
pub crew_of : (n : ℕ) (lanes a b c d : List Body) → AllByRecursion IsLane lanes
    → a ≡ lanes ++ Worker worker.Filter n ∷ [] → b ≡ a ++ Worker worker.Evict n ∷ []
    → c ≡ b ++ Worker worker.Compact n ∷ [] → d ≡ c ++ Worker worker.Rebuild n ∷ []
    → IsCrew n d
crew_of n lanes a b c d all one two three four = record {
  lanes = lanes;
  all = all;
  are = four ∙ ap (λ (xs : List Body). xs ++ Worker worker.Rebuild n ∷ [])
      (three ∙ ap (λ (xs : List Body). xs ++ Worker worker.Compact n ∷ [])
      (two ∙ ap (λ (xs : List Body). xs ++ Worker worker.Evict n ∷ []) one
      ∙ append_assoc lanes (Worker worker.Filter n ∷ []) (Worker worker.Evict n ∷ []))
      ∙ append_assoc lanes (Worker worker.Filter n ∷ Worker worker.Evict n ∷ [])
      (Worker worker.Compact n ∷ []))
      ∙ append_assoc lanes (Worker worker.Filter n ∷ Worker worker.Evict n
      ∷ Worker worker.Compact n ∷ []) (Worker worker.Rebuild n ∷ []);
}

-- each thread leaves what its task is for
pub all_leave : (handles : ℕ) (tasks : List Task) (ends : List Ended) → length ends ≡ length tasks
    → ((i : ℕ) (d : Ended) (t : Task) → i < length tasks
    → LeavesWork handles (slice_index_or tasks i t).body (slice_index_or ends i d))
    → AllLeave handles (bodies_of tasks) ends
all_leave handles [] [] len each = tt
all_leave handles [] (e ∷ es) len each = absurd (omega (arith, len))
all_leave handles (t ∷ ts) [] len each = absurd (omega (arith, len))
all_leave handles (t ∷ ts) (e ∷ es) len each = (
  each 0 e t (omega arith),
  all_leave handles ts es (omega (arith, len)) (λ i d u low. each (suc i) d u (omega (arith, low))),
)

-- ---- what one thread left is taken in
none_asked : (xs : List Answer) → map asked xs ≡ [] → xs ≡ []
none_asked [] e = refl
none_asked (x ∷ xs) e = absurd cc

-- its lines are backed by the turns of its lines
lines_backed : (s : Shared) (lines : List Line) (given : List Answer) (body : Body) (told : ToldEnd)
    → IsLaneTold s given (lines_in lines body) told.end
    → Backs (with_turns (record_of told.end.pass) (turns_of_lines body (Ok told)))
    (tolds given told.end.answers)
lines_backed s lines given (Lane lane) told t = t.backs
lines_backed s lines given (Worker w turns) told t =
    let v = record_of told.end.pass in
    let none : told.end.answers ≡ [] = none_asked told.end.answers t.lines_are in
    let wrote : v.written ≡ [] =
    subst (λ (xs : List Answer). WroteLines v.written (tolds given xs)) none t.backs.wrote in
    subst (λ (xs : List Answer). Backs (with_turns v []) (tolds given xs)) (sym none)
    (idle_backs (with_turns v []) wrote refl)

joined_backs : (s : Shared) (lines : List Line) (given others : List Answer) (a b : LaneEnd)
    (e : Ended) (ts : List Turn) → a.answers ≡ given ++ others → JoinsEnded e a b
    → IsEnded s lines given e → IsApart (map asked others) (lines_left lines e)
    → Backs (with_turns (record_of a.pass) ts) (tolds [] a.answers)
    → Backs (with_turns (record_of b.pass) (turns_of_lines e.body e.left ++ ts)) (tolds [] b.answers)
joined_backs s lines given others a b e ts are (told, is, joins) ended apart old =
    subst (λ (r : Result ToldEnd NoMemory). Backs (with_turns (record_of b.pass)
    (turns_of_lines e.body r ++ ts)) (tolds [] b.answers)) (sym is)
    (subst (λ (v : View). Backs (with_turns v (turns_of_lines e.body (Ok told) ++ ts))
    (tolds [] b.answers)) (sym joins.record_is)
    (subst (Backs (with_turns (joined (record_of a.pass) (unpinned_all (record_of told.end.pass)))
    (turns_of_lines e.body (Ok told) ++ ts))) all
    (backs_sum (with_turns (record_of a.pass) ts)
    (with_turns (record_of told.end.pass) (turns_of_lines e.body (Ok told)))
    (tolds [] a.answers) (tolds given told.end.answers) old
    (lines_backed s lines given e.body told t))))
  where
    t : IsLaneTold s given (lines_in lines e.body) told.end
    t = subst (λ (r : Result ToldEnd NoMemory).
        IfOk r (λ x. IsLaneTold s given (lines_in lines e.body) x.end)) is ended

    apart_so : IsApart (map asked others) (map asked told.end.answers)
    apart_so = subst (IsApart (map asked others)) (sym t.lines_are) apart

    behind : tolds a.answers told.end.answers ≡ tolds given told.end.answers
    behind = ap (λ (xs : List Answer). tolds xs told.end.answers) are
        ∙ tolds_apart given others told.end.answers apart_so

    all : tolds [] a.answers ++ tolds given told.end.answers ≡ tolds [] b.answers
    all = ap (λ (us : List Told). tolds [] a.answers ++ us) (sym behind)
        ∙ sym (tolds-append [] a.answers told.end.answers)
        ∙ ap (λ (xs : List Answer). tolds [] xs) (sym joins.answers)

-- ---- one after the other

-- some were taken in, and these are left
pub record IsTakingTurns (all left : List Ended) (a b : LaneEnd) : Type 0 where
  pub turns : (after : List Turn) → TurnsTaken left (record_of b.pass).turns after
      → TurnsTaken all (record_of a.pass).turns after
  pub lines : List Turn
  pub same : lines_taken left lines ≡ lines_taken all (record_of a.pass).turns
  pub backs : Backs (with_turns (record_of b.pass) lines) (tolds [] b.answers)

pub turns_from : (all : List Ended) (a : LaneEnd)
    → Backs (as_part (record_of a.pass)) (tolds [] a.answers) → IsTakingTurns all all a a
turns_from all a backs = record {
  turns = λ after taken. taken;
  lines = (record_of a.pass).turns;
  same = refl;
  backs = backs;
}

pub turns_more : (s : Shared) (lines : List Line) (given others : List Answer)
    (all left : List Ended) (e : Ended) (later : List Ended) (a b next : LaneEnd)
    → IsTakingTurns all left a b → left ≡ e ∷ later → b.answers ≡ given ++ others
    → JoinsEnded e b next → IsEnded s lines given e
    → IsApart (map asked others) (lines_left lines e) → IsTakingTurns all later a next
turns_more s lines given others all left e later a b next t is are joins ended apart = record {
  turns = λ after rest. t.turns after (subst (λ (es : List Ended).
      TurnsTaken es (record_of b.pass).turns after) (sym is) (
        joins.0,
        joins.1,
        subst (λ (ts : List Turn). TurnsTaken later ts after) grown rest,
      ));
  lines = turns_of_lines e.body e.left ++ t.lines;
  same = ap (λ (es : List Ended). lines_taken es t.lines) (sym is) ∙ t.same;
  backs = joined_backs s lines given others b next e t.lines are joins ended apart t.backs;
}
  where
    grown : (record_of next.pass).turns
        ≡ (record_of joins.0.end.pass).turns ++ (record_of b.pass).turns
    grown = ap (λ (v : View). v.turns) joins.2.record_is

pub turns_all : (all left : List Ended) (a b : LaneEnd) → IsTakingTurns all left a b → left ≡ []
    → HasTaken all a b
turns_all all left a b t none = record {
  turns = t.turns (record_of b.pass).turns
      (subst (λ (es : List Ended). TurnsTaken es (record_of b.pass).turns (record_of b.pass).turns)
      (sym none) refl);
  backs = subst (λ (ts : List Turn). Backs (with_turns (record_of b.pass) ts) (tolds [] b.answers))
      (ap (λ (es : List Ended). lines_taken es t.lines) (sym none) ∙ t.same) t.backs;
}

-- ---- all together

-- the turns are those of four workers, behind those of lines
record IsSplit (handles n : ℕ) (lines after : List Turn) : Type 0 where
  made : Worker' → List Turn
  turns : after ≡ made worker.Rebuild
      ++ (made worker.Compact ++ (made worker.Evict ++ (made worker.Filter ++ lines)))
  works : (w : Worker') → IsWorkOf handles w n (made w)

-- by worker
abbrev each_of : List Turn → List Turn → List Turn → List Turn → Worker' → List Turn
each_of f e c r worker.Filter = f
each_of f e c r worker.Evict = e
each_of f e c r worker.Compact = c
each_of f e c r worker.Rebuild = r

-- the turns of one worker
works_so : (handles n : ℕ) (w : Worker') (e : Ended) (told : ToldEnd) → e.left ≡ Ok told
    → LeavesWork handles (Worker w n) e → IsWorkOf handles w n (record_of told.end.pass).turns
works_so handles n w e told is leaves = subst (λ (r : Result ToldEnd NoMemory).
    IfOk r (λ x. IsWorkOf handles w n (record_of x.end.pass).turns)) is leaves.1

-- none of them is of lines
no_lines : (handles n : ℕ) (w : Worker') (e : Ended) → LeavesWork handles (Worker w n) e
    → turns_of_lines e.body e.left ≡ []
no_lines handles n w e leaves = ap (λ (b : Body). turns_of_lines b e.left) leaves.0

lane_lines : (b : Body) (r : Result ToldEnd NoMemory) (told : ToldEnd) → IsLane b → r ≡ Ok told
    → turns_of_lines b r ≡ (record_of told.end.pass).turns
lane_lines (Lane lane) r told lanes is = ap (turns_of_lines (Lane lane)) is
lane_lines (Worker w n) r told lanes is = absurd lanes

abbrev four : ℕ → List Body
four n = Worker worker.Filter n ∷ Worker worker.Evict n ∷ Worker worker.Compact n
    ∷ Worker worker.Rebuild n ∷ []

abbrev left : ToldEnd → List Turn
left told = (record_of told.end.pass).turns

workers_split : (handles n : ℕ) (ends : List Ended) (before after : List Turn)
    → AllLeave handles (four n) ends → TurnsTaken ends before after
    → IsSplit handles n (lines_taken ends before) after
workers_split handles n [] before after leaves taken = absurd leaves
workers_split handles n (f ∷ []) before after leaves taken = absurd leaves.1
workers_split handles n (f ∷ e ∷ []) before after leaves taken = absurd leaves.1.1
workers_split handles n (f ∷ e ∷ c ∷ []) before after leaves taken = absurd leaves.1.1.1
workers_split handles n (f ∷ e ∷ c ∷ r ∷ x ∷ more) before after leaves taken =
    absurd leaves.1.1.1.1
workers_split handles n (f ∷ e ∷ c ∷ r ∷ []) before after (lf, (le, (lc, (lr, end))))
    (tf, isf, (te, ise, (tc, isc, (tb, isr, taken)))) = record {
      made = each_of (left tf) (left te) (left tc) (left tb);
      turns = taken ∙ ap (λ (ts : List Turn).
          left tb ++ (left tc ++ (left te ++ (left tf ++ ts)))) (sym none);
      works = works;
    }
  where
    none : lines_taken (f ∷ e ∷ c ∷ r ∷ []) before ≡ before
    none = (λ i. no_lines handles n worker.Rebuild r lr i
        ++ (no_lines handles n worker.Compact c lc i
        ++ (no_lines handles n worker.Evict e le i
        ++ (no_lines handles n worker.Filter f lf i ++ before))))

    works : (w : Worker')
        → IsWorkOf handles w n (each_of (left tf) (left te) (left tc) (left tb) w)
    works worker.Filter = works_so handles n worker.Filter f tf isf lf
    works worker.Evict = works_so handles n worker.Evict e te ise le
    works worker.Compact = works_so handles n worker.Compact c tc isc lc
    works worker.Rebuild = works_so handles n worker.Rebuild r tb isr lr

crew_split : (handles n : ℕ) (lanes : List Body) (ends : List Ended) (before after : List Turn)
    → AllByRecursion IsLane lanes → AllLeave handles (lanes ++ four n) ends
    → TurnsTaken ends before after → IsSplit handles n (lines_taken ends before) after
crew_split handles n [] ends before after all leaves taken =
    workers_split handles n ends before after leaves taken
crew_split handles n (b ∷ lanes) [] before after all leaves taken = absurd leaves
crew_split handles n (b ∷ lanes) (e ∷ ends) before after all leaves (told, is, taken) =
    subst (λ (ts : List Turn). IsSplit handles n (lines_taken ends (ts ++ before)) after) (sym own)
    (crew_split handles n lanes ends ((record_of told.end.pass).turns ++ before) after all.1
    leaves.1 taken)
  where
    own : turns_of_lines e.body e.left ≡ (record_of told.end.pass).turns
    own = lane_lines e.body e.left told (subst IsLane (sym leaves.0.0) all.0) is

pub has_crew : (c : Config) (ends : List Ended) (bodies : List Body) (a b : LaneEnd)
    → IsCrew c.turns bodies → AllLeave c.handles bodies ends → HasTaken ends a b
    → HasCrew c (record_of b.pass) b.answers
has_crew c ends bodies a b crew leaves taken =
    let split = crew_split c.handles c.turns crew.lanes ends (record_of a.pass).turns
    (record_of b.pass).turns crew.all
    (subst (λ (bs : List Body). AllLeave c.handles bs ends) crew.are leaves) taken.turns in
    record {
      lines = lines_taken ends (record_of a.pass).turns;
      made = split.made;
      turns = split.turns;
      works = split.works;
      backs = taken.backs;
    }
