-- How turns come to be a worker's work.
use Rattle.std.proofs.Common.{◌≡◌, ℕ, ◌+◌, ◌<◌, List, [], ◌∷◌, ◌++◌, length, map, Option, None}
use Rattle.std.proofs.Common.{Some}
use Rattle.std.proofs.Common.{Result, Ok, Err, IsOk, OnErr, refl, sym, ap, ◌∙◌, subst, arith}
use Rattle.std.proofs.lemmas.Bool.{false≢true}
use Rattle.std.proofs.lemmas.List.{map-append}
use Rattle.std.proofs.lemmas.Option.{none-some}
use Rattle.cb_member.specs.declared.no_memory.NoMemory.{NoMemory}
use Rattle.cb_types.specs.declared.config.Config.{Config}
use Rattle.cb_types.specs.declared.config.Field.TheVariants.{Handles}
use Rattle.cb_types.specs.declared.job.Job.{Job}
use Rattle.cb_types.specs.declared.job.Job.TheVariants as job
use Rattle.cb_types.specs.declared.order.EncodeOrder.{EncodeOrder}
use Rattle.cb_types.specs.declared.reply.Reply.{Reply}
use Rattle.cb_types.specs.declared.reply.Reply.TheVariants as answer
use Rattle.cb_rule.specs.declared.view.View.{View}
use Rattle.cb_shared.specs.declared.pass.Pass.{Pass}
use Rattle.cb_shared.specs.declared.runtime.Shared.{Shared}
use Rattle.cb_record.specs.Deeds.{deed}
use Rattle.cb_record.specs.Parts.{Grows, Part}
use Rattle.cb_shared.specs.Passes.{IsPassOf}
use Rattle.cb_shared.specs.Turning.{answer_of}
use Rattle.cb_workers.specs.Rules.{after_batch, after_done, after_pair, end_of, first_job, next_job}
use Rattle.cb_workers.specs.Rules.{owner, visited}
use Rattle.cb_workers.specs.Work.{AnsweredTurn, IsOnly, deed_of, deeds_of, job_behind, lack_of}
use Rattle.cb_workers.specs.Bodies.{AddsTurns, AreCalls, Cuts, EndsBegun, HandsOver, HasMade, HasOrder, IsEnd}
use Rattle.cb_workers.specs.Bodies.{IsOwed, IsStopped, IsWorked, Lacks, Steps, one_deed}
use Rattle.cb_workers.specs.Bodies.{turns_alone}
use Rattle.cb_workers.specs.declared.worker.Worker.{Worker}
use Rattle.cb_workers.specs.declared.worker.Worker.TheVariants as worker
use Rattle.cb_workers.proofs.Visits.{next_visit_below}
use Rattle.cb_workers.proofs.Adding.{both_added, none_added}
use Rattle.cb_workers.proofs.Laws.{behind_of}

-- ---- the jobs that are due are a worker's
done_owed : (handles : ℕ) → (done : Job) → IsOwed handles (after_done done)
done_owed handles job.Install = tt
done_owed handles done = tt

batch_owed : (handles : ℕ) → (done : Job) → (r : Reply) → IsOwed handles (after_batch done r)
batch_owed handles done (answer.Batch set) = tt
batch_owed handles done answer.Done = done_owed handles done
batch_owed handles done (answer.Shipped position) = tt
batch_owed handles done (answer.Short positions) = tt
batch_owed handles done answer.AllShipped = tt
batch_owed handles done answer.NoNode = tt
batch_owed handles done r = tt

pair_owed : (handles : ℕ) → (r : Reply) → IsOwed handles (after_pair r)
pair_owed handles (answer.Pair a b) = tt
pair_owed handles (answer.Stepped position) = tt
pair_owed handles (answer.Unfinished positions) = tt
pair_owed handles answer.AllStepped = tt
pair_owed handles (answer.NodeFull node) = tt
pair_owed handles r = tt

next_owed : (handles : ℕ) → (w : Worker) → (before : Job) → (r : Reply) → 0 < handles
    → IsOwed handles (next_job handles w before r)
next_owed handles worker.Filter before r some = next_visit_below handles (visited before) r some
next_owed handles worker.Evict before r some = batch_owed handles before r
next_owed handles worker.Compact before r some = pair_owed handles r
next_owed handles worker.Rebuild before r some = tt

first_owed : (handles : ℕ) → (w : Worker) → 0 < handles → IsOwed handles (first_job w)
first_owed handles worker.Filter some = some
first_owed handles worker.Evict some = tt
first_owed handles worker.Compact some = tt
first_owed handles worker.Rebuild some = tt

behind_owed : (handles : ℕ) → (w : Worker) → (done : List AnsweredTurn) → 0 < handles
    → IsOwed handles (job_behind handles w done)
behind_owed handles w [] some = first_owed handles w some
behind_owed handles w (a ∷ earlier) some = next_owed handles w a.job a.reply some

pub due_owed : (c : Config) → (w : Worker) → (n : ℕ) → (due : Job) → (v u : View) → 0 < c.handles
    → HasMade c w n due v u → IsOwed c.handles due
due_owed c w n due v u some made =
    subst (λ j. IsOwed c.handles j) (sym made.due_is) (behind_owed c.handles w made.done some)

pub due_own : (c : Config) → (w : Worker) → (n : ℕ) → (due : Job) → (v u : View)
    → HasMade c w n due v u → owner due ≡ Some w
due_own c w n due v u made = ap (λ j. owner j) made.due_is ∙ behind_of c.handles w made.done

-- ---- the order of an install
done_order : (done : Job) → (order : Option EncodeOrder) → (v : View)
    → HasOrder (after_done done) order v
done_order job.Install order v = tt
done_order done order v = tt

batch_order : (done : Job) → (r : Reply) → (order : Option EncodeOrder) → (v : View)
    → owner done ≡ Some worker.Evict → HandsOver done r order v
    → HasOrder (after_batch done r) order v
batch_order done (answer.Batch set) order v own hands = hands own set refl
batch_order done answer.Done order v own hands = done_order done order v
batch_order done (answer.Shipped position) order v own hands = tt
batch_order done (answer.Short positions) order v own hands = tt
batch_order done answer.AllShipped order v own hands = tt
batch_order done answer.NoNode order v own hands = tt
batch_order done r order v own hands = tt

pair_order : (r : Reply) → (order : Option EncodeOrder) → (v : View)
    → HasOrder (after_pair r) order v
pair_order (answer.Pair a b) order v = tt
pair_order (answer.Stepped position) order v = tt
pair_order (answer.Unfinished positions) order v = tt
pair_order answer.AllStepped order v = tt
pair_order (answer.NodeFull node) order v = tt
pair_order r order v = tt

-- no worker begins with one
first_none : (w : Worker) → (order : Option EncodeOrder) → (v : View)
    → HasOrder (first_job w) order v
first_none worker.Filter order v = tt
first_none worker.Evict order v = tt
first_none worker.Compact order v = tt
first_none worker.Rebuild order v = tt

pub first_order : (w : Worker) → (due : Job) → (order : Option EncodeOrder) → (v : View)
    → due ≡ first_job w → HasOrder due order v
first_order w due order v first =
    subst (λ (j : Job). HasOrder j order v) (sym first) (first_none w order v)

-- an install is due where a batch began, and its order is at hand then
pub next_order : (handles : ℕ) → (w : Worker) → (done : Job) → (r : Reply)
    → (order : Option EncodeOrder) → (v : View) → owner done ≡ Some w → HandsOver done r order v
    → HasOrder (next_job handles w done r) order v
next_order handles worker.Filter done r order v own hands = tt
next_order handles worker.Evict done r order v own hands = batch_order done r order v own hands
next_order handles worker.Compact done r order v own hands = pair_order r order v
next_order handles worker.Rebuild done r order v own hands = tt

-- an install for which there was none made no turn
pub install_lacked : (c : Config) → (due : Job) → (r : Result Reply NoMemory) → (p q : Pass)
    → due ≡ job.Install → OnErr r (q ≡ p) → OnErr r (AddsTurns c (lack_of due) p.seat.me.0 q.seat.me.0)
install_lacked c due (Ok reply) p q is same = tt
install_lacked c due (Err e) p q is same =
    subst (λ (x : Pass). AddsTurns c (lack_of due) p.seat.me.0 x.seat.me.0) (sym same)
    (subst (λ (j : Job). AddsTurns c (lack_of j) p.seat.me.0 p.seat.me.0) (sym is)
    (none_added c p.seat.me.0))

-- ---- a loop over the turns

-- no turn was made yet
pub none_made : (c : Config) → (w : Worker) → (due : Job) → (v : View) → due ≡ first_job w
    → HasMade c w 0 due v v
none_made c w due v first = record {
  done = [];
  number = refl;
  are_due = tt;
  due_is = first;
  adds = none_added c v;
}

pub one_made : (c : Config) → (w : Worker) → (n : ℕ) → (due new : Job) → (v u t : View)
    → HasMade c w n due v u → Steps c w due new u t → HasMade c w (n + 1) new v t
one_made c w n due new v u t made (reply, next, adds) = record {
  done = record { job = due; reply = reply } ∷ made.done;
  number = let e : length made.done ≡ n = made.number in omega (arith, e);
  are_due = (made.due_is, made.are_due);
  due_is = next;
  adds = both_added c (deeds_of made.done) (one_deed due (Some reply)) v u t made.adds adds;
}

pub one_lacked : (c : Config) → (w : Worker) → (n turns : ℕ) → (due new : Job) → (v u t : View)
    → n < turns → HasMade c w n due v u → Lacks c due new u t → Cuts c w turns new v t
one_lacked c w n turns due new v u t few made (same, adds) = record {
  done = made.done;
  fewer = subst (λ k. k < turns) (sym made.number) few;
  are_due = made.are_due;
  due_is = same ∙ made.due_is;
  adds = subst (λ j. AddsTurns c (lack_of j ++ deeds_of made.done) v t) (sym same)
      (both_added c (deeds_of made.done) (lack_of due) v u t made.adds adds);
}

-- ---- the end
pub all_worked : (c : Config) → (w : Worker) → (turns : ℕ) → (due : Job) → (v u t : View)
    → HasMade c w turns due v u → EndsBegun c due u t
    → (d : Part) × IsWorked c.handles w turns d × Grows v d t
    × AreCalls c (map deed d.turns) v t
all_worked c w turns due v u t made (ending, only, adds) = (
  turns_alone all.turns,
  record {
    done = made.done;
    ending = ending;
    work = record {
      number = made.number;
      are_due = made.are_due;
      ends = subst (λ j. IsOnly (end_of j) ending) made.due_is only;
      are = all.are ∙ sym (map-append deed_of ending made.done);
    };
    alone = refl;
  },
  all.grows,
  subst (λ ds. AreCalls c ds v t) (sym all.are) all.calls,
)
  where
    all : AddsTurns c (deeds_of ending ++ deeds_of made.done) v t
    all = both_added c (deeds_of made.done) (deeds_of ending) v u t made.adds adds

pub all_stopped : (c : Config) → (w : Worker) → (turns : ℕ) → (due : Job) → (v u t : View)
    → Cuts c w turns due v u → EndsBegun c due u t
    → (d : Part) × IsStopped c.handles w turns d × Grows v d t
    × AreCalls c (map deed d.turns) v t
all_stopped c w turns due v u t cut (ending, only, adds) = (
  turns_alone all.turns,
  record {
    done = cut.done;
    ending = ending;
    work = record {
      fewer = cut.fewer;
      are_due = cut.are_due;
      ends = subst (λ j. IsOnly (end_of j) ending) cut.due_is only;
      are = subst (λ j. map deed all.turns ≡ deeds_of ending ++ (lack_of j ++ deeds_of cut.done))
          cut.due_is all.are;
    };
    alone = refl;
  },
  all.grows,
  subst (λ ds. AreCalls c ds v t) (sym all.are) all.calls,
)
  where
    all : AddsTurns c (deeds_of ending ++ (lack_of due ++ deeds_of cut.done)) v t
    all = both_added c (lack_of due ++ deeds_of cut.done) (deeds_of ending) v u t cut.adds adds

-- ---- one end

pub one_ended : (c : Config) → (due last : Job) → (reply : Reply) → (v u : View)
    → end_of due ≡ Some last → AddsTurns c (one_deed last (Some reply)) v u → EndsBegun c due v u
one_ended c due last reply v u some adds = (
  record { job = last; reply = reply } ∷ [],
  subst (λ o. IsOnly o (record { job = last; reply = reply } ∷ [])) (sym some) (reply, refl),
  adds,
)

pub none_ended : (c : Config) → (due : Job) → (v : View) → end_of due ≡ None → EndsBegun c due v v
none_ended c due v none = (
  [],
  subst (λ o. IsOnly o []) (sym none) refl,
  none_added c v,
)

-- a job that ends something is an abort or a parting
abbrev IsSomeEnd : Option Job → Type 0
IsSomeEnd (Some last) = IsEnd last
IsSomeEnd None = ⊥

pub is_end : (due last : Job) → end_of due ≡ Some last → IsEnd last
is_end job.Install last e = subst IsSomeEnd e tt
is_end job.Ship last e = subst IsSomeEnd e tt
is_end job.Commit last e = subst IsSomeEnd e tt
is_end job.Abort last e = subst IsSomeEnd e tt
is_end job.Patch last e = subst IsSomeEnd e tt
is_end job.Merge last e = subst IsSomeEnd e tt
is_end job.Part last e = subst IsSomeEnd e tt
is_end due last e = absurd (none-some last e)

pub end_answered : (c : Config) → (due last : Job) → (r : Result Reply NoMemory) → (v u : View)
    → end_of due ≡ Some last → (IsEnd last → IsOk r)
    → AddsTurns c (one_deed last (answer_of r)) v u → EndsBegun c due v u
end_answered c due last (Ok reply) v u some ok adds = one_ended c due last reply v u some adds
end_answered c due last (Err e) v u some ok adds = absurd (false≢true (ok (is_end due last some)))

-- ---- one pass of one runtime
pub some_handles : (s : Shared) → (p : Pass) → IsPassOf s p → 0 < s.config.handles
some_handles s p of = (of.accepted Handles).0

-- what holds of an error, where something holds whatever comes
pub any_err : {X E : Type 0} → (r : Result X E) → (P : Type 0) → P → OnErr r P
any_err (Ok x) P p = tt
any_err (Err e) P p = p
