-- What a plan of calls adds to a record, and what a command that made it comes to.
use Rattle.std.proofs.Common.{◌≡◌, ◌⊎◌, ℕ, ◌+◌, ◌-◌, ◌^◌, ◌<◌, ◌≤◌, Bool, true, false, if◌then◌else◌, cond, eqb, ◌&&◌, ne_eqb, List, [], ◌∷◌, ◌++◌, length, Option, None, Some, refl, sym, ap, ◌∙◌, subst, inl, inr, ⊎_elim, arith}
use Rattle.std.proofs.lemmas.List.{append-nil, append_assoc, length-append}
use Rattle.cb_types.specs.declared.config.Config.{Config}
use Rattle.cb_types.specs.declared.handle.Handle.{Handle}
use Rattle.cb_types.specs.declared.job.Job.{Job}
use Rattle.cb_types.specs.declared.job.Job.TheVariants as jobs
use Rattle.cb_types.specs.declared.reply.Reply.{Reply}
use Rattle.cb_types.specs.declared.reply.Reply.TheVariants as answer
use Rattle.cb_world.specs.declared.entry.Entry.{Entry}
use Rattle.cb_rule.specs.declared.turn.Turn.{Turn}
use Rattle.cb_rule.specs.declared.view.View.{View}
use Rattle.cb_rule.specs.History.{is_version}
use Rattle.cb_rule.specs.Lists.{Each, Has, times}
use Rattle.cb_rule.specs.TriesAgain.{tries_again}
use Rattle.cb_shared.specs.Calls.{IsAnswer, IsAnswerTo, IsLack, IsReadJob, IsWriteJob, the_handle}
use Rattle.cb_shared.specs.Making.{MakesNew}
use Rattle.cb_map_text.specs.Plain.{Plain, after_said, calls_something, needs_object, objects, plain_after, plain_said}
use Rattle.cb_map_text.specs.Tallied.{IsTallied}
use Rattle.cb_map_text.proofs.PublicLaws.{one_where_needed}
use Rattle.cb_map_text.specs.declared.command.FarAnswer.{FarAnswer}
use Rattle.cb_map_text.specs.declared.command.FarAnswer.TheVariants as saying
use Rattle.cb_map_text.specs.declared.command.FarCommand.{FarCommand}
use Rattle.cb_farmap.specs.Calls.{Ask, AskMake, AskRead, AskWrite, CallGives, Goes, IsRefusal, IsSuccess}
use Rattle.cb_farmap.specs.Changes.{IsCalm}
use Rattle.cb_farmap.specs.Commands.{HasOneHistory, HasWritten, IsMake, IsOnObject, IsOutOfPlace, IsSaid, IsToldByTurn, made_by_all, refusal_in}
use Rattle.cb_farmap.specs.declared.kept.Cannot.{Cannot}
use Rattle.cb_farmap.specs.declared.kept.Cannot.TheVariants as cannot
use Rattle.cb_farmap.specs.declared.kept.KeptObject.{KeptObject}
use Rattle.cb_farmap.proofs.Finds.{SawNewest, saw_before}
use Rattle.cb_shared.proofs.Laws.{of_read, of_write}
use Rattle.cb_farmap.proofs.Lists.{each_there, has_back}
use Rattle.cb_farmap.proofs.PlanTurns.{CallAdds, IsAskedBy, IsEntryOf, IsInPlace, IsSaidInPlace, IsToldBy, call_adds, each_both, each_weaker, entries_of, handle_of, made_both, made_of, version_told}

-- ---- plans
-- reads, and behind them at the most one call of another kind
abbrev pub IsShort : List Ask → Type 0
IsShort [] = Unit {0}
IsShort (AskRead k ∷ plan) = IsShort plan
IsShort (ask ∷ plan) = plan ≡ []

abbrev pub makes_of : Ask → ℕ
makes_of (AskMake bytes) = 1
makes_of ask = 0

-- how many objects it makes
abbrev pub makes_in : List Ask → ℕ
makes_in [] = 0
makes_in (ask ∷ plan) = makes_of ask + makes_in plan

-- how many entries it adds at the most
abbrev pub change_of : Ask → ℕ
change_of (AskRead k) = 0
change_of ask = 1

abbrev pub changes_in : List Ask → ℕ
changes_in [] = 0
changes_in (ask ∷ plan) = change_of ask + changes_in plan

pub short_few : (plan : List Ask) → IsShort plan → changes_in plan ≤ 1
short_few [] short = omega arith
short_few (AskRead k ∷ plan) short = let x = short_few plan short in omega (arith, x)
short_few (AskWrite k at bytes ∷ plan) short =
    let e = ap changes_in short in omega (arith, e)
short_few (AskMake bytes ∷ plan) short = let e = ap changes_in short in omega (arith, e)

entries_few : (ask : Ask) (r : Reply) → entries_of ask r ≤ change_of ask
entries_few (AskRead k) r = omega arith
entries_few (AskWrite k at bytes) (answer.Version n) = omega arith
entries_few (AskWrite k at bytes) r = omega arith
entries_few (AskMake bytes) (answer.Made handle n) = omega arith
entries_few (AskMake bytes) r = omega arith

-- a call on an object that the record wrote, whose next version is at most this one, or a make of
-- one of 1,024 bytes
abbrev pub IsOfRecord : View → ℕ → Ask → Type 0
IsOfRecord v most (AskRead k) = HasWritten v k.handle.n
IsOfRecord v most (AskWrite k at bytes) = HasWritten v k.handle.n × (k.version + 1 ≤ most)
IsOfRecord v most (AskMake bytes) = length bytes ≡ 1024

-- the job is that of a call of the plan
abbrev IsOfPlan : List Ask → Job → Type 0
IsOfPlan plan j = (ask : Ask) × Has ask plan × IsAskedBy ask j

-- the entry is of an object that the plan writes, or of one that the record did not know
abbrev pub IsEntryIn : List Ask → View → Entry → Type 0
IsEntryIn plan v e = ((k : KeptObject) × (at : ℕ) × (bytes : List ℕ)
    × Has (AskWrite k at bytes) plan × (e.handle ≡ k.handle.n))
    ⊎ ((bytes : List ℕ) × Has (AskMake bytes) plan × (HasWritten v e.handle → ⊥))

-- ---- what its calls add
-- a call of it was refused, which told so in place or by the newest turn
pub record IsRefusedBy (c : Config) (plan : List Ask) (r : Reply) (v : View) (more : List Turn) : Type 0
  where
    pub ask : Ask
    pub there : Has ask plan
    pub refusal : IsRefusal ask r
    pub told : IsInPlace ask r v ⊎ IsToldBy c ask r more

pub record PlanAdds (c : Config) (first : ℕ) (plan : List Ask) (made : ℕ) (v w : View) : Type 0 where
  pub entries : List Entry
  pub wrote : w.written ≡ entries ++ v.written
  pub few : length entries ≤ changes_in plan
  pub low : (most : ℕ) → first ≤ most → Each (IsOfRecord v most) plan
      → Each (λ (e : Entry). e.version ≤ most) entries
  pub entries_are : Each (IsEntryIn plan v) entries
  pub some : made ≤ length entries
  pub same : (w.share ≡ v.share) × (w.fresh ≡ v.fresh)
  pub more : List Turn
  pub turned : w.turns ≡ more ++ v.turns
  pub jobs_are : Each (λ (t : Turn). IsOfPlan plan t.job) more
  pub made_are : made_by_all more ≡ made

nothing_added : (c : Config) (first : ℕ) (v w : View) → w ≡ v → PlanAdds c first [] 0 v w
nothing_added c first v w is = record {
  entries = [];
  wrote = ap (λ (z : View). z.written) is;
  few = omega arith;
  low = λ most low of. tt;
  entries_are = tt;
  some = omega arith;
  same = (ap (λ (z : View). z.share) is, ap (λ (z : View). z.fresh) is);
  more = [];
  turned = ap (λ (z : View). z.turns) is;
  jobs_are = tt;
  made_are = refl;
}

written_more : (e : Entry) (entries old new : List Entry) → new ≡ entries ++ old → Has e old
    → Has e new
written_more e entries old new is there = let f = is in rw f (has_back e entries old there)

of_later : (most : ℕ) (v u : View) (entries : List Entry) → u.written ≡ entries ++ v.written
    → (plan : List Ask) → Each (IsOfRecord v most) plan → Each (IsOfRecord u most) plan
of_later most v u entries grew plan each =
    each_weaker (IsOfRecord v most) (IsOfRecord u most) later plan each
  where
    wrote : (h : ℕ) → HasWritten v h → HasWritten u h
    wrote h (e, there, is) = (e, written_more e entries v.written u.written grew there, is)

    later : (ask : Ask) → IsOfRecord v most ask → IsOfRecord u most ask
    later (AskRead k) x = wrote k.handle.n x
    later (AskWrite k at bytes) (x, le) = (wrote k.handle.n x, le)
    later (AskMake bytes) x = x

entry_in : (ask : Ask) (plan : List Ask) (v : View) (e : Entry) → IsEntryOf ask v e
    → IsEntryIn (ask ∷ plan) v e
entry_in (AskRead k) plan v e x = absurd x
entry_in (AskWrite k at bytes) plan v e x = inl (k, at, bytes, inl refl, x)
entry_in (AskMake bytes) plan v e x = inr (bytes, inl refl, x)

entry_later : (ask : Ask) (plan : List Ask) (v u : View) (e : Entry)
    → ((h : ℕ) → HasWritten v h → HasWritten u h) → IsEntryIn plan u e → IsEntryIn (ask ∷ plan) v e
entry_later ask plan v u e all (inl (k, at, bytes, there, is)) = inl (k, at, bytes, inr there, is)
entry_later ask plan v u e all (inr (bytes, there, off)) =
    inr (bytes, inr there, λ has. off (all e.handle has))

in_front : (ask : Ask) (plan : List Ask) (ts : List Turn)
    → Each (λ (t : Turn). IsAskedBy ask t.job) ts → Each (λ (t : Turn). IsOfPlan (ask ∷ plan) t.job) ts
in_front ask plan ts each = each_weaker (λ (t : Turn). IsAskedBy ask t.job)
    (λ (t : Turn). IsOfPlan (ask ∷ plan) t.job) (λ t asked. (ask, inl refl, asked)) ts each

further : (ask : Ask) (plan : List Ask) (ts : List Turn)
    → Each (λ (t : Turn). IsOfPlan plan t.job) ts → Each (λ (t : Turn). IsOfPlan (ask ∷ plan) t.job) ts
further ask plan ts each = each_weaker (λ (t : Turn). IsOfPlan plan t.job)
    (λ (t : Turn). IsOfPlan (ask ∷ plan) t.job)
    (λ t (other, there, asked). (other, inr there, asked)) ts each

lower : (n most : ℕ) → n ≤ most → (es : List Entry) → Each (λ (e : Entry). e.version ≤ n) es
    → Each (λ (e : Entry). e.version ≤ most) es
lower n most le es each = each_weaker (λ (e : Entry). e.version ≤ n)
    (λ (e : Entry). e.version ≤ most) (λ e low. omega (arith, le, low)) es each

module _ (c : Config) (first : ℕ) where
  success_made : (ask : Ask) (r : Reply) → IsSuccess ask r → made_of ask r ≡ makes_of ask
  success_made (AskRead k) r x = refl
  success_made (AskWrite k at bytes) r x = refl
  success_made (AskMake bytes) r (handle, version, is) = ap (made_of (AskMake bytes)) is

  success_low : (ask : Ask) (r : Reply) (v u x : View) (most : ℕ) → first ≤ most
      → IsOfRecord x most ask → IsSuccess ask r → CallGives c first ask r v u → version_told r ≤ most
  success_low (AskRead k) r v u x most low of (bytes, is) gives =
      let e = ap version_told is in omega (arith, e)
  success_low (AskWrite k at bytes) r v u x most low of is gives =
      let e = ap version_told is in let le = of.1 in omega (arith, e, le)
  success_low (AskMake bytes) r v u x most low of (handle, version, is) gives =
      let e = ap version_told is in
      let new = subst (λ (q : Reply). MakesNew first (jobs.Make bytes) q v) is gives.1 in
      let one = new.0 in omega (arith, e, one, low)

  -- one call that succeeded, and what came behind it
  module _ (ask : Ask) (plan : List Ask) (made : ℕ) (r : Reply) (v u w : View)
      (success : IsSuccess ask r) (gives : CallGives c first ask r v u)
      (b : PlanAdds c first plan made u w) where
    a : CallAdds c ask r v u
    a = call_adds c first ask r v u gives

    wrote_too : (h : ℕ) → HasWritten v h → HasWritten u h
    wrote_too h (e, there, is) =
        (e, written_more e a.entries v.written u.written a.wrote there, is)

    then_adds : PlanAdds c first (ask ∷ plan) (makes_of ask + made) v w
    then_adds = record {
      entries = b.entries ++ a.entries;
      wrote = b.wrote ∙ ap (λ (l : List Entry). b.entries ++ l) a.wrote
          ∙ sym (append_assoc b.entries a.entries v.written);
      few = let both = length-append b.entries a.entries in let x = a.few in let y = b.few in
          let z = entries_few ask r in omega (arith, both, x, y, z);
      low = λ most low of. each_both (λ (e : Entry). e.version ≤ most) b.entries a.entries
          (b.low most low (of_later most v u a.entries a.wrote plan of.1))
          (lower (version_told r) most
          (success_low ask r v u v most low of.0 success gives) a.entries a.low);
      entries_are = each_both (IsEntryIn (ask ∷ plan) v) b.entries a.entries
          (each_weaker (IsEntryIn plan u) (IsEntryIn (ask ∷ plan) v)
          (λ e x. entry_later ask plan v u e wrote_too x) b.entries b.entries_are)
          (each_weaker (IsEntryOf ask v) (IsEntryIn (ask ∷ plan) v)
          (λ e x. entry_in ask plan v e x) a.entries a.entries_are);
      some = let both = length-append b.entries a.entries in let x = a.some in let y = b.some in
          let s = success_made ask r success in omega (arith, both, x, y, s);
      same = (b.same.0 ∙ a.same.0, b.same.1 ∙ a.same.1);
      more = b.more ++ a.more;
      turned = b.turned ∙ ap (λ (l : List Turn). b.more ++ l) a.turned
          ∙ sym (append_assoc b.more a.more v.turns);
      jobs_are = each_both (λ (t : Turn). IsOfPlan (ask ∷ plan) t.job) b.more a.more
          (further ask plan b.more b.jobs_are) (in_front ask plan a.more a.jobs_are);
      made_are = let both = made_both b.more a.more in let x = a.made in let y = b.made_are in
          let s = success_made ask r success in omega (arith, both, x, y, s);
    }

  -- all calls of a plan succeeded
  pub all_done : (plan : List Ask) (v w : View) → Goes c first plan None v w
      → PlanAdds c first plan (makes_in plan) v w
  all_done [] v w go = nothing_added c first v w go
  all_done (ask ∷ plan) v w (u, (r, success, gives), rest) =
      then_adds ask plan (makes_in plan) r v u w success gives (all_done plan u w rest)

  -- ---- the last one was refused
  refusal_made : (ask : Ask) (r : Reply) → IsRefusal ask r → made_of ask r ≡ 0
  refusal_made (AskRead k) r x = refl
  refusal_made (AskWrite k at bytes) r x = refl
  refusal_made (AskMake bytes) (answer.Made handle version) x = absurd (x handle version refl)
  refusal_made (AskMake bytes) r x = refl

  refusal_none : (ask : Ask) (r : Reply) → IsRefusal ask r → entries_of ask r ≡ 0
  refusal_none (AskRead k) r x = refl
  refusal_none (AskWrite k at bytes) (answer.Version n) x = absurd (x n refl)
  refusal_none (AskWrite k at bytes) r x = refl
  refusal_none (AskMake bytes) (answer.Made handle n) x = absurd (x handle n refl)
  refusal_none (AskMake bytes) r x = refl

  none_there : (es : List Entry) → length es ≤ 0 → es ≡ []
  none_there [] few = refl
  none_there (e ∷ es) few = absurd (omega (arith, few))

  read_none : (k : KeptObject) (r : Reply) → entries_of (AskRead k) r ≡ 0
  read_none k r = refl

  -- what a refused plan adds: it makes nothing, and writes nothing
  pub record RefusedAdds (plan : List Ask) (r : Reply) (v w : View) : Type 0 where
    pub adds : PlanAdds c first plan 0 v w
    pub none : adds.entries ≡ []
    pub refused : IsRefusedBy c plan r v adds.more

  fails_at_once : (ask : Ask) (plan : List Ask) (r : Reply) (v w : View) → IsRefusal ask r
      → CallGives c first ask r v w → RefusedAdds (ask ∷ plan) r v w
  fails_at_once ask plan r v w refusal gives = record {
    adds = record {
      entries = a.entries;
      wrote = a.wrote;
      few = let n = ap (λ (es : List Entry). length es) empty in omega (arith, n);
      low = λ most low of. subst (λ (es : List Entry). Each (λ (e : Entry). e.version ≤ most) es)
          (sym empty) tt;
      entries_are = subst (λ (es : List Entry). Each (IsEntryIn (ask ∷ plan) v) es) (sym empty) tt;
      some = omega arith;
      same = a.same;
      more = a.more;
      turned = a.turned;
      jobs_are = in_front ask plan a.more a.jobs_are;
      made_are = a.made ∙ refusal_made ask r refusal;
    };
    none = empty;
    refused = record {
      ask = ask;
      there = inl refl;
      refusal = refusal;
      told = a.told;
    };
  }
    where
      a : CallAdds c ask r v w
      a = call_adds c first ask r v w gives

      empty : a.entries ≡ []
      empty = none_there a.entries (let n = a.few in let z = refusal_none ask r refusal in
          omega (arith, n, z))

  place_before : (ask : Ask) (r : Reply) (u v : View) → u.written ≡ v.written → u.fresh ≡ v.fresh
      → u.share ≡ v.share → IsInPlace ask r u → IsInPlace ask r v
  place_before ask r u v written fresh share (inl x) = inl x
  place_before ask r u v written fresh share (inr (is, saw)) =
      inr (is, saw_before (handle_of ask) (2 ^ 64 - 1) u v written fresh share saw)

  -- behind a read
  fails_later : (k : KeptObject) (plan : List Ask) (q r : Reply) (v u w : View)
      → IsSuccess (AskRead k) q → CallGives c first (AskRead k) q v u → RefusedAdds plan r u w
      → RefusedAdds (AskRead k ∷ plan) r v w
  unfolding then_adds a
  fails_later k plan q r v u w success gives b = record {
    adds = all;
    none = ap (λ (l : List Entry). b.adds.entries ++ l) empty ∙ append-nil b.adds.entries ∙ b.none;
    refused = record {
      ask = b.refused.ask;
      there = inr b.refused.there;
      refusal = b.refused.refusal;
      told = by b.refused.told;
    };
  }
    where
      a : CallAdds c (AskRead k) q v u
      a = call_adds c first (AskRead k) q v u gives

      empty : a.entries ≡ []
      empty = none_there a.entries (let n = a.few in let z = read_none k q in omega (arith, n, z))

      all : PlanAdds c first (AskRead k ∷ plan) 0 v w
      all = then_adds (AskRead k) plan 0 q v u w success gives b.adds

      by : IsInPlace b.refused.ask r u ⊎ IsToldBy c b.refused.ask r b.adds.more
          → IsInPlace b.refused.ask r v ⊎ IsToldBy c b.refused.ask r (b.adds.more ++ a.more)
      by (inl x) = inl (place_before b.refused.ask r u v
          (a.wrote ∙ ap (λ (l : List Entry). l ++ v.written) empty) a.same.1 a.same.0 x)
      by (inr x) = inr (record {
        turn = x.turn;
        before = x.before ++ a.more;
        newest = ap (λ (ts : List Turn). ts ++ a.more) x.newest;
        asked = x.asked;
        reply = x.reply;
        answers = x.answers;
      })

  no_further : (ask : Ask) (plan : List Ask) (r : Reply) (u w : View) → plan ≡ []
      → Goes c first plan (Some (cannot.Refused r)) u w → ⊥
  no_further ask plan r u w none go =
      subst (λ (p : List Ask). Goes c first p (Some (cannot.Refused r)) u w) none go

  pub all_refused : (plan : List Ask) (r : Reply) (v w : View) → IsShort plan
      → Goes c first plan (Some (cannot.Refused r)) v w → RefusedAdds plan r v w
  all_refused [] r v w short go = absurd go
  all_refused (ask ∷ plan) r v w short (inl (refusal, gives)) =
      fails_at_once ask plan r v w refusal gives
  all_refused (AskRead k ∷ plan) r v w short (inr (u, (q, success, gives), rest)) =
      fails_later k plan q r v u w success gives (all_refused plan r u w short rest)
  all_refused (AskWrite k at bytes ∷ plan) r v w short (inr (u, done, rest)) =
      absurd (no_further (AskWrite k at bytes) plan r u w short rest)
  all_refused (AskMake bytes ∷ plan) r v w short (inr (u, done, rest)) =
      absurd (no_further (AskMake bytes) plan r u w short rest)

-- ---- a command
-- A plan that the command may make where the list and the map are these, and its objects are of the
-- record, with next versions of at most so much.
pub record IsPlanFor (v : View) (most : ℕ) (s : Plain) (a : FarCommand) (plan : List Ask) : Type 0
  where
    pub short : IsShort plan
    pub of : Each (IsOfRecord v most) plan
    pub makes : makes_in plan ≡ (if needs_object s a then 1 else 0)
    pub calls : calls_something s a ≡ false → plan ≡ []

-- the jobs of a plan make objects, or are on those of the record
read_on : (w : View) (h : ℕ) (j : Job) → HasWritten w h → IsReadJob h j → IsOnObject w j
read_on w h j has asked = of_read h (IsOnObject w) has has (h, has) has j asked

write_on : (w : View) (h at : ℕ) (bytes : List ℕ) (j : Job) → HasWritten w h
    → IsWriteJob h at bytes j → IsOnObject w j
write_on w h at bytes j has asked = of_write h at bytes (IsOnObject w) has has (h, has) j asked

asked_job : (w : View) (most : ℕ) (ask : Ask) (j : Job) → IsOfRecord w most ask → IsAskedBy ask j
    → IsMake j ⊎ IsOnObject w j
asked_job w most (AskRead k) j of asked = inr (read_on w k.handle.n j of asked)
asked_job w most (AskWrite k at bytes) j of asked =
    inr (write_on w k.handle.n at bytes j of.0 asked)
asked_job w most (AskMake bytes) j of asked = inl (subst IsMake (sym asked) of)

pub some_make : (plan : List Ask) (bytes : List ℕ) → Has (AskMake bytes) plan → 1 ≤ makes_in plan
some_make [] bytes there = absurd there
some_make (ask ∷ plan) bytes (inl is) = let e = ap makes_of is in omega (arith, e)
some_make (ask ∷ plan) bytes (inr there) = let rest = some_make plan bytes there in
    omega (arith, rest)

one_needs : (b : Bool) → 1 ≤ (if b then 1 else 0) → b ≡ true
one_needs true some = refl
one_needs false some = absurd (omega (arith, some))

-- no version is above the most that the record has
none_above : (h n most : ℕ) → most < n → (es : List Entry)
    → Each (λ (e : Entry). e.version ≤ most) es → times (is_version h n) es ≡ 0
none_above h n most less [] low = refl
none_above h n most less (e ∷ es) low =
    let rest = none_above h n most less es low.1 in
    let le = low.0 in
    let off : eqb e.version n ≡ false = ne_eqb e.version n (λ is. omega (arith, is, le, less)) in
    let one : cond {A = ℕ} (is_version h n e) 1 0 ≡ 0 =
    ap (λ (b : Bool). cond {A = ℕ} (eqb e.handle h && b) 1 0) off ∙ and_false (eqb e.handle h) in
    omega (arith, rest, one)
  where
    and_false : (b : Bool) → cond {A = ℕ} (b && false) 1 0 ≡ 0
    and_false true = refl
    and_false false = refl

-- so no object of a pass with the whole share has its last version
never_last : (h most : ℕ) (v : View) → most < 2 ^ 64 - 1 → v.share ≡ 64 → v.fresh ≡ []
    → Each (λ (e : Entry). e.version ≤ most) v.written → SawNewest h (2 ^ 64 - 1) v → ⊥
never_last h most v less whole idle low saw =
    let some = saw.newest.lone (inl (saw.share ∙ whole)) in
    let a = ap (times (is_version h (2 ^ 64 - 1))) (saw.fresh ∙ idle) in
    let b = ap (times (is_version h (2 ^ 64 - 1))) saw.written in
    let none = none_above h (2 ^ 64 - 1) most less v.written low in
    omega (arith, some, a, b, none)

-- ---- what a refusal is not, where the objects are the pass's own
place_off : (ask : Ask) (r : Reply) → IsRefusal ask r → IsCalm (Some (cannot.Refused r))
    → IsSaidInPlace ask r → ⊥
place_off (AskRead k) (answer.Bytes version bytes) refusal calm x = refusal version bytes refl
place_off (AskRead k) answer.Freed refusal calm x = calm
place_off (AskWrite k at bytes) (answer.Version n) refusal calm x = refusal n refl
place_off (AskWrite k at bytes) answer.Freed refusal calm x = calm
place_off (AskWrite k at bytes) (answer.Range len) refusal calm x = calm
place_off (AskWrite k at bytes) (answer.Pinned count) refusal calm x = calm
place_off (AskRead k) r refusal calm x = x
place_off (AskWrite k at bytes) r refusal calm x = x
place_off (AskMake bytes) r refusal calm x = x

no_version : (again : Bool) (j : Job) (n : ℕ) → IsAnswerTo again j (answer.Version n)
    → (h : ℕ) → IsReadJob h j → ⊥
no_version again j n answers h asked =
    of_read h (λ (k : Job). IsAnswerTo again k (answer.Version n) → ⊥) (λ x. x) (λ x. x)
    (λ x. let e : answer.Version n ≡ answer.Worn = x in cc)
    (λ x. ⊎_elim (λ (y : ⊥). y) (λ (y : ⊥). y) x) j asked answers

-- the replies that are out of place for an object
abbrev IsOfOwn : Reply → Type 0
IsOfOwn (answer.Bytes version bytes) = Unit {0}
IsOfOwn (answer.Version version) = Unit {0}
IsOfOwn answer.Freed = Unit {0}
IsOfOwn (answer.Range len) = Unit {0}
IsOfOwn (answer.Pinned count) = Unit {0}
IsOfOwn r = ⊥

swap_own : (h : Handle) (r : Reply) → IsOutOfPlace (jobs.Swap h) r → IsOfOwn r
swap_own h r x = x

fetch_own : (h : Handle) (r : Reply) → IsOutOfPlace (jobs.Fetch h) r → IsOfOwn r
fetch_own h r x = x

land_own : (r : Reply) → IsOutOfPlace jobs.Land r → IsOfOwn r
land_own r x = x

read_own : (h : Handle) (r : Reply) → IsOutOfPlace (jobs.Read h) r → IsOfOwn r
read_own h r x = x

write_own : (h : Handle) (at : ℕ) (bytes : List ℕ) (r : Reply)
    → IsOutOfPlace (jobs.Write h at bytes) r → IsOfOwn r
write_own h at bytes r x = x

read_out : (h : ℕ) (j : Job) (r : Reply) → IsReadJob h j → IsOutOfPlace j r → IsOfOwn r
read_out h j r asked = of_read h (λ (k : Job). IsOutOfPlace k r → IsOfOwn r)
    (swap_own (the_handle h) r) (fetch_own (the_handle h) r) (land_own r) (read_own (the_handle h) r)
    j asked

write_out : (h at : ℕ) (bytes : List ℕ) (j : Job) (r : Reply) → IsWriteJob h at bytes j
    → IsOutOfPlace j r → IsOfOwn r
write_out h at bytes j r asked = of_write h at bytes (λ (k : Job). IsOutOfPlace k r → IsOfOwn r)
    (write_own (the_handle h) at bytes r) (fetch_own (the_handle h) r) (land_own r) j asked

write_told : (again : Bool) (h at : ℕ) (bytes : List ℕ) (j : Job) (r : Reply)
    → IsWriteJob h at bytes j → IsAnswerTo again j r → IsAnswer again r
write_told again h at bytes j r asked =
    of_write h at bytes (λ (k : Job). IsAnswerTo again k r → IsAnswer again r) (λ x. x) (λ x. inr x)
    (λ x. inr (subst (IsLack again) (sym x) tt)) j asked

read_off : (again : Bool) (k : KeptObject) (j : Job) (r : Reply) → IsRefusal (AskRead k) r
    → IsCalm (Some (cannot.Refused r)) → IsReadJob k.handle.n j → IsAnswerTo again j r → IsOfOwn r
    → ⊥
read_off again k j (answer.Bytes version bytes) refusal calm fetch answers x = refusal version bytes refl
read_off again k j (answer.Version n) refusal calm fetch answers x =
    no_version again j n answers k.handle.n fetch
read_off again k j answer.Freed refusal calm fetch answers x = calm
read_off again k j (answer.Range len) refusal calm fetch answers x = calm
read_off again k j (answer.Pinned count) refusal calm fetch answers x = calm
read_off again k j r refusal calm fetch answers x = x

no_bytes : (again : Bool) (version : ℕ) (bytes : List ℕ) → IsAnswer again (answer.Bytes version bytes) → ⊥
no_bytes again version bytes (inl x) = x
no_bytes again version bytes (inr x) = x

write_off : (again : Bool) (k : KeptObject) (at : ℕ) (bytes : List ℕ) (r : Reply)
    → IsRefusal (AskWrite k at bytes) r → IsCalm (Some (cannot.Refused r)) → IsAnswer again r
    → IsOfOwn r → ⊥
write_off again k at bytes (answer.Bytes version found) refusal calm answers x =
    no_bytes again version found answers
write_off again k at bytes (answer.Version n) refusal calm answers x = refusal n refl
write_off again k at bytes answer.Freed refusal calm answers x = calm
write_off again k at bytes (answer.Range len) refusal calm answers x = calm
write_off again k at bytes (answer.Pinned count) refusal calm answers x = calm
write_off again k at bytes r refusal calm answers x = x

make_off : (bytes : List ℕ) (r : Reply) → IsRefusal (AskMake bytes) r
    → IsOutOfPlace (jobs.Make bytes) r → ⊥
make_off bytes (answer.Made handle version) refusal x = refusal handle version refl
make_off bytes r refusal x = x

place_of : (again : Bool) (ask : Ask) (j : Job) (r : Reply) → IsRefusal ask r
    → IsCalm (Some (cannot.Refused r)) → IsAskedBy ask j → IsAnswerTo again j r → IsOutOfPlace j r → ⊥
place_of again (AskRead k) j r refusal calm asked answers x =
    read_off again k j r refusal calm asked answers (read_out k.handle.n j r asked x)
place_of again (AskWrite k at bytes) j r refusal calm asked answers x =
    write_off again k at bytes r refusal calm
    (write_told again k.handle.n at bytes j r asked answers)
    (write_out k.handle.n at bytes j r asked x)
place_of again (AskMake bytes) j r refusal calm asked answers x =
    make_off bytes r refusal (subst (λ (i : Job). IsOutOfPlace i r) asked x)

-- ---- what a command comes to
-- what the calls of a plan come to, by which a command that finds this list and map is told so
pub record PlanGoes (c : Config) (first : ℕ) (s : Plain) (a : FarCommand) (plan : List Ask)
    (said : FarAnswer) (v w : View) : Type 0 where
  pub calls : Goes c first plan (refusal_in said) v w
  pub entries : List Entry
  pub wrote : w.written ≡ entries ++ v.written
  pub few : length entries ≤ 1
  pub more : List Turn
  pub turned : w.turns ≡ more ++ v.turns
  pub jobs_are : Each (λ t. IsMake t.job ⊎ IsOnObject w t.job) more
  pub history : HasOneHistory c first w
  pub made : made_by_all w.turns ≡ objects (after_said s a said)
  pub is_said : IsSaid s a said w more

module _ (c : Config) (first most : ℕ) (low : first ≤ most) (s : Plain) (tallied : IsTallied s)
    (a : FarCommand) (plan : List Ask) (v w : View) (suits : IsPlanFor v most s a plan)
    (made : made_by_all v.turns ≡ objects s) (history : HasOneHistory c first w) where
  -- what holds of a plan's calls, whatever they came to
  module _ (n : ℕ) (x : PlanAdds c first plan n v w) where
    of_now : Each (IsOfRecord w most) plan
    of_now = of_later most v w x.entries x.wrote plan suits.of

    few_entries : length x.entries ≤ 1
    few_entries = let n = x.few in let m = short_few plan suits.short in omega (arith, n, m)

    for_objects : Each (λ (t : Turn). IsMake t.job ⊎ IsOnObject w t.job) x.more
    for_objects = each_weaker (λ (t : Turn). IsOfPlan plan t.job)
        (λ (t : Turn). IsMake t.job ⊎ IsOnObject w t.job)
        (λ t (ask, there, asked). asked_job w most ask t.job
        (each_there (IsOfRecord w most) ask plan of_now there) asked) x.more x.jobs_are

    made_now : made_by_all w.turns ≡ objects s + n
    made_now = let e = ap made_by_all x.turned in let both = made_both x.more v.turns in
        let m = x.made_are in omega (arith, e, both, m, made)

    pub still_low : Each (λ (e : Entry). e.version ≤ most) v.written
        → Each (λ (e : Entry). e.version ≤ most) w.written
    still_low old = subst (λ (es : List Entry). Each (λ (e : Entry). e.version ≤ most) es)
        (sym x.wrote) (each_both (λ (e : Entry). e.version ≤ most) x.entries v.written
        (x.low most low suits.of) old)

  -- it is told what the list and the map say
  record IsPlain (said : FarAnswer) : Type 0 where
    goes_on : refusal_in said ≡ None
    after : after_said s a said ≡ plain_after s a
    says : (u : View) (more : List Turn) → said ≡ plain_said s a → IsSaid s a said u more

  plain_one : (said : FarAnswer) → refusal_in said ≡ None → IsPlain said
  plain_one (saying.Refused r) is = absurd (let e : Some (cannot.Refused r) ≡ None = is in cc)
  plain_one saying.Done is = record { goes_on = refl; after = refl; says = λ u more e. e }
  plain_one (saying.Number n) is = record { goes_on = refl; after = refl; says = λ u more e. e }
  plain_one saying.Nothing is = record { goes_on = refl; after = refl; says = λ u more e. e }
  plain_one (saying.Outside len) is = record { goes_on = refl; after = refl; says = λ u more e. e }

  pub after_is : (said : FarAnswer) → refusal_in said ≡ None → after_said s a said ≡ plain_after s a
  after_is said none = (plain_one said none).after

  pub said_goes : (said : FarAnswer) → refusal_in said ≡ None → said ≡ plain_said s a
      → Goes c first plan None v w → PlanGoes c first s a plan said v w
  said_goes said none is go = record {
    calls = subst (λ (o : Option Cannot). Goes c first plan o v w) (sym none) go;
    entries = x.entries;
    wrote = x.wrote;
    few = few_entries (makes_in plan) x;
    more = x.more;
    turned = x.turned;
    jobs_are = for_objects (makes_in plan) x;
    history = history;
    made = now ∙ ap objects (sym p.after);
    is_said = p.says w x.more is;
  }
    where
      x : PlanAdds c first plan (makes_in plan) v w
      x = all_done c first plan v w go

      p : IsPlain said
      p = plain_one said none

      now : made_by_all w.turns ≡ objects (plain_after s a)
      now = let m = made_now (makes_in plan) x in let k = suits.makes in
          let o = one_where_needed s a tallied in omega (arith, m, k, o)

  pub low_after : Goes c first plan None v w → Each (λ (e : Entry). e.version ≤ most) v.written
      → Each (λ (e : Entry). e.version ≤ most) w.written
  low_after go old = still_low (makes_in plan) (all_done c first plan v w go) old

  -- or why one of its calls was refused
  module _ (r : Reply) (go : Goes c first plan (Some (cannot.Refused r)) v w)
      (calm : IsCalm (Some (cannot.Refused r))) (top : most < 2 ^ 64 - 1) (whole : v.share ≡ 64)
      (idle : v.fresh ≡ []) (old : Each (λ (e : Entry). e.version ≤ most) v.written) where
    y : RefusedAdds c first plan r v w
    y = all_refused c first plan r v w suits.short go

    abbrev z : PlanAdds c first plan 0 v w
    z = y.adds

    calls_it : (b : Bool) → calls_something s a ≡ b → b ≡ true
    calls_it true is = refl
    calls_it false is = absurd
        (subst (λ (p : List Ask). Goes c first p (Some (cannot.Refused r)) v w) (suits.calls is) go)

    by_turn : IsToldBy c y.refused.ask r z.more → IsToldByTurn s a r w z.more
    by_turn t = record {
      turn = t.turn;
      before = t.before;
      newest = t.newest;
      reply_is = t.reply;
      job_is = by y.refused.ask y.refused.there t.asked;
      answers = t.answers;
      lacks = place_of (tries_again t.turn) y.refused.ask t.turn.job r y.refused.refusal calm t.asked t.answers;
    }
      where
        by : (ask : Ask) → Has ask plan → IsAskedBy ask t.turn.job
            → (IsMake t.turn.job × (needs_object s a ≡ true)) ⊎ IsOnObject w t.turn.job
        by (AskMake bytes) there asked = inl (
          subst IsMake (sym asked)
              (each_there (IsOfRecord w most) (AskMake bytes) plan (of_now 0 z) there),
          one_needs (needs_object s a)
              (let some = some_make plan bytes there in let k = suits.makes in omega (arith, some, k)),
        )
        by (AskRead k) there asked = inr (read_on w k.handle.n t.turn.job
            (each_there (IsOfRecord w most) (AskRead k) plan (of_now 0 z) there) asked)
        by (AskWrite k at bytes) there asked = inr (write_on w k.handle.n at bytes t.turn.job
            (each_there (IsOfRecord w most) (AskWrite k at bytes) plan (of_now 0 z) there).0 asked)

    told : IsInPlace y.refused.ask r v ⊎ IsToldBy c y.refused.ask r z.more
        → IsToldByTurn s a r w z.more
    told (inl (inl x)) = absurd (place_off y.refused.ask r y.refused.refusal calm x)
    told (inl (inr (is, saw))) =
        absurd (never_last (handle_of y.refused.ask) most v top whole idle old saw)
    told (inr x) = by_turn x

    pub refused_goes : PlanGoes c first s a plan (saying.Refused r) v w
    refused_goes = record {
      calls = go;
      entries = z.entries;
      wrote = z.wrote;
      few = few_entries 0 z;
      more = z.more;
      turned = z.turned;
      jobs_are = for_objects 0 z;
      history = history;
      made = let m = made_now 0 z in omega (arith, m);
      is_said = (calls_it (calls_something s a) refl, told y.refused.told);
    }

    -- nothing was written
    pub written_same : w.written ≡ v.written
    written_same = z.wrote ∙ ap (λ (es : List Entry). es ++ v.written) y.none

-- what a plan adds that went, or of which a call was refused
pub adds_so : (c : Config) (first : ℕ) (plan : List Ask) (t : Option Cannot) (v w : View)
    → IsShort plan → Goes c first plan t v w
    → (t ≡ None) ⊎ ((r : Reply) × (t ≡ Some (cannot.Refused r)))
    → (n : ℕ) × PlanAdds c first plan n v w
adds_so c first plan t v w short goes (inl at) = (
  makes_in plan,
  all_done c first plan v w
      (subst (λ (o : Option Cannot). Goes c first plan o v w) at goes),
)
adds_so c first plan t v w short goes (inr (r, at)) = (
  0,
  (all_refused c first plan r v w short
      (subst (λ (o : Option Cannot). Goes c first plan o v w) at goes)).adds,
)
