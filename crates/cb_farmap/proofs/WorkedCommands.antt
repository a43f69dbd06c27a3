-- Worked examples of commands on an array and a map: what meets each definition, and what breaks one
-- part alone.
use Rattle.std.proofs.Common.{◌≡◌, ◌⊎◌, ℕ, suc, ◌+◌, ◌≤◌, Bool, true, false, List, [], ◌∷◌, ◌++◌, length, replicate, get_or, Option, None, Some, Ok, Err, refl, sym, ap, ◌∙◌, subst, inl, inr, arith}
use Rattle.std.proofs.lemmas.List.{append-nil, length-append, length-replicate}
use Rattle.std.specs.List.{AllByRecursion}
use Rattle.cb_types.specs.declared.config.Config.{Config}
use Rattle.cb_types.specs.declared.job.Job.{Job}
use Rattle.cb_types.specs.declared.job.Job.TheVariants as jobs
use Rattle.cb_types.specs.declared.reply.Reply.{Reply}
use Rattle.cb_types.specs.declared.reply.Reply.TheVariants as answer
use Rattle.cb_world.specs.declared.entry.Entry.{Entry}
use Rattle.cb_rule.specs.declared.turn.Turn.{Turn}
use Rattle.cb_rule.specs.declared.view.Look.{Look}
use Rattle.cb_rule.specs.declared.view.Stand.{Stand}
use Rattle.cb_rule.specs.declared.view.View.{View}
use Rattle.cb_rule.specs.Lists.{Each}
use Rattle.cb_rule.specs.Steps.{opener}
use Rattle.cb_rule.specs.TriesAgain.{tries_again}
use Rattle.cb_shared.specs.Calls.{IsAnswerTo}
use Rattle.cb_map_text.specs.Plain.{Plain, fresh}
use Rattle.cb_map_text.specs.declared.command.FarAnswer.{FarAnswer}
use Rattle.cb_map_text.specs.declared.command.FarAnswer.TheVariants.{Done, Number, Nothing, Outside, Refused}
use Rattle.cb_map_text.specs.declared.command.FarCommand.{FarCommand}
use Rattle.cb_map_text.specs.declared.command.FarCommand.TheVariants as command
use Rattle.cb_farmap.specs.Arrays.{get_plan, no_array}
use Rattle.cb_farmap.specs.BothNow.{AreBothNow, AreOther, IsArrayNow, IsMapNow}
use Rattle.cb_farmap.specs.Commands.{CommandGoes, CommandsGo, HasOneHistory, HasWritten, HaveGone, calls_of, IsMake, IsOnObject, IsOutOfPlace, IsSaid, IsToldByTurn, made_by_all, made_in, refusal_in}
use Rattle.cb_farmap.specs.Maps.{no_map}
use Rattle.cb_farmap.specs.Objects.{IsObject}
use Rattle.cb_farmap.specs.Stands.{AreReady, IsRecordAfter, Says, SaysWhy, Stands}
use Rattle.cb_farmap.specs.declared.array.FarArray.{FarArray}
use Rattle.cb_farmap.specs.declared.kept.Cannot.TheVariants as cannot
use Rattle.cb_farmap.specs.declared.kept.KeptObject.{KeptObject}
use Rattle.cb_farmap.specs.declared.kept.Stop.TheVariants as stop
use Rattle.cb_farmap.specs.declared.map.FarMap.{FarMap}
use Rattle.cb_farmap.proofs.Running.{fresh_stands}
use Rattle.cb_farmap.proofs.WorkedObjects.{early, kept, later}

abbrev two : Config
two = record { k = 1; r = 1; nodes = 2; frames = 1; room = 6; handles = 2; turns = 0 }

-- the record of a pass that just began, and of one that wrote object 5
abbrev v : View
v = opener two

abbrev wrote : View
wrote = record (opener two) { written = early ∷ [] }

-- ---- jobs
blank : List ℕ
blank = replicate 1024 0

made : IsMake (jobs.Make blank)
unfolding blank
made = length-replicate {A = ℕ} 1024 0

-- an object of other bytes
short_made : IsMake (jobs.Make []) → ⊥
short_made is = let z : 0 ≡ 1024 = is in omega (arith, z)

none_made : IsMake (jobs.Swap (record { n = 5 })) → ⊥
none_made is = is

has_five : HasWritten wrote 5
has_five = (early, inl refl, refl)

has_not_six : HasWritten wrote 6 → ⊥
has_not_six (e, inl is, of) = let z : 5 ≡ 6 = ap (λ (e : Entry). e.handle) is ∙ of in omega (arith, z)
has_not_six (e, inr there, of) = there

on_five : IsOnObject wrote (jobs.Write (record { n = 5 }) 8 (7 ∷ []))
on_five = has_five

not_on_six : IsOnObject wrote (jobs.Read (record { n = 6 })) → ⊥
not_on_six on = has_not_six on

-- rows are fetched for it, and landed where the record has one
fetched_five : IsOnObject wrote (jobs.Fetch (record { n = 5 }))
fetched_five = has_five

not_fetched_six : IsOnObject wrote (jobs.Fetch (record { n = 6 })) → ⊥
not_fetched_six on = has_not_six on

landed : IsOnObject wrote jobs.Land
landed = (5, has_five)

-- not by a pass that wrote nothing
none_to_land : IsOnObject v jobs.Land → ⊥
none_to_land (h, (e, there, is)) = there

not_a_make : IsOnObject wrote (jobs.Make []) → ⊥
not_a_make on = on

-- ---- objects that turns made
abbrev making : Turn → Reply → Turn
making t r = record t { job = jobs.Make blank; reply = Some r }

abbrev one : Reply
one = answer.Made (record { n = 6 }) 1

two_made : (t : Turn) → made_by_all (making t one ∷ making t (answer.Full 2) ∷ making t one ∷ []) ≡ 2
two_made t = refl

none_by_full : (t : Turn) → made_in (making t (answer.Full 2)) ≡ 0
none_by_full t = refl

-- ---- what is told of a command
refused_so : refusal_in (Refused (answer.Full 2)) ≡ Some (cannot.Refused (answer.Full 2))
refused_so = refl

not_refused : refusal_in (Outside 3) ≡ None
not_refused = refl

freed_misplaced : IsOutOfPlace (jobs.Swap (record { n = 5 })) answer.Freed
freed_misplaced = tt

pins_misplaced : IsOutOfPlace jobs.Land (answer.Pinned 1)
pins_misplaced = tt

worn_in_place : IsOutOfPlace (jobs.Fetch (record { n = 5 })) answer.Worn → ⊥
worn_in_place is = is

full_in_place : IsOutOfPlace (jobs.Make []) (answer.Full 2) → ⊥
full_in_place is = is

-- a push of the first number, where all handles are made
told_full : (t : Turn) → IsToldByTurn fresh (command.Push 7) (answer.Full 2) v
    (making t (answer.Full 2) ∷ [])
told_full t = record {
  turn = making t (answer.Full 2);
  before = [];
  newest = refl;
  reply_is = refl;
  job_is = inl (made, refl);
  answers = inl tt;
  lacks = λ x. x;
}

-- with no turn that tells it
no_turn : (r : Reply) → IsToldByTurn fresh (command.Push 7) r v [] → ⊥
no_turn r x = let z : 0 ≡ suc (length x.before) = ap (λ (l : List Turn). length l) x.newest in
    omega (arith, z)

-- where no object is needed
makes_needless : (t : Turn) (r : Reply) → IsToldByTurn fresh (command.Get 0) r v (making t r ∷ []) → ⊥
makes_needless t r x = by x.job_is
  where
    by : (IsMake x.turn.job × (false ≡ true)) ⊎ IsOnObject v x.turn.job → ⊥
    by (inl z) = let e = z.1 in cc
    by (inr z) = off (jobs.Make blank) (subst (IsOnObject v) (sym same) z)
      where
        same : jobs.Make blank ≡ x.turn.job
        same = let e = x.newest in let h : making t r ≡ x.turn = cc in ap (λ (t : Turn). t.job) h

        off : (j : Job) → IsOnObject v (jobs.Make blank) → ⊥
        off j on = on

-- the one turn that there is
the_turn : (t : Turn) (r q : Reply) → (x : IsToldByTurn fresh (command.Push 7) r v (making t q ∷ []))
    → making t q ≡ x.turn
the_turn t r q x = let e = x.newest in cc

abbrev handles_in : Option Reply → ℕ
handles_in (Some (answer.Full n)) = n
handles_in o = 0

-- it was told something else
other_reply : (t : Turn)
    → IsToldByTurn fresh (command.Push 7) (answer.Full 2) v (making t (answer.Full 3) ∷ []) → ⊥
other_reply t x = let z : 3 ≡ 2 = ap handles_in (ap (λ (t : Turn). t.reply)
    (the_turn t (answer.Full 2) (answer.Full 3) x) ∙ x.reply_is) in omega (arith, z)

-- or what does not answer the call
no_answer : (t : Turn)
    → IsToldByTurn fresh (command.Push 7) answer.Moving v (making t answer.Moving ∷ []) → ⊥
no_answer t x = by (tries_again x.turn) (subst (λ (j : Job). IsAnswerTo (tries_again x.turn) j answer.Moving)
    (sym (ap (λ (t : Turn). t.job) (the_turn t answer.Moving answer.Moving x))) x.answers)
  where
    by : (again : Bool) → IsAnswerTo again (jobs.Make blank) answer.Moving → ⊥
    by again (inl z) = z
    by again (inr z) = z

-- a turn that was made for the object that the record wrote, and told so
abbrev behind : Turn → Job → Reply → Turn
behind t j r = record t { job = j; reply = Some r }

-- a landing that is told that the count of turns is at its end
told_worn : (t : Turn) → IsToldByTurn fresh (command.Get 0) answer.Worn wrote
    (behind t jobs.Land answer.Worn ∷ [])
told_worn t = record {
  turn = behind t jobs.Land answer.Worn;
  before = [];
  newest = refl;
  reply_is = refl;
  job_is = inr landed;
  answers = refl;
  lacks = λ x. x;
}

-- a fetch that found the row at hand does not answer the call
told_direct : (t : Turn) → IsToldByTurn fresh (command.Get 0) answer.Direct wrote
    (behind t (jobs.Fetch (record { n = 5 })) answer.Direct ∷ []) → ⊥
told_direct t x = subst (λ (j : Job). IsAnswerTo (tries_again x.turn) j answer.Direct) (sym same)
    x.answers
  where
    same : jobs.Fetch (record { n = 5 }) ≡ x.turn.job
    same = let e = x.newest in
        let h : behind t (jobs.Fetch (record { n = 5 })) answer.Direct ≡ x.turn = cc in
        ap (λ (t : Turn). t.job) h

-- or that the object was made
told_made : (t : Turn) → IsToldByTurn fresh (command.Push 7) one v (making t one ∷ []) → ⊥
told_made t x = x.lacks (subst (λ (j : Job). IsOutOfPlace j one)
    (ap (λ (t : Turn). t.job) (the_turn t one one x)) tt)

full_said : (t : Turn) → IsSaid fresh (command.Push 7) (Refused (answer.Full 2)) v
    (making t (answer.Full 2) ∷ [])
full_said t = (refl, told_full t)

done_said : IsSaid fresh (command.Push 7) Done v []
done_said = refl

not_said : IsSaid fresh (command.Push 7) Nothing v [] → ⊥
not_said is = let z : Nothing ≡ Done = is in cc

-- nothing is refused that calls nothing
pop_not_refused : (r : Reply) (more : List Turn) → IsSaid fresh command.Pop (Refused r) v more → ⊥
pop_not_refused r more said = let z : false ≡ true = said.0 in cc

-- ---- the calls of a command
-- an array of one number, whose object is 5
abbrev one_number : FarArray
one_number = record { kept = kept 5 1 ∷ []; len = 1; stop = None }

gets_five : (m : FarMap) → calls_of v one_number m (command.Get 0) ≡ get_plan (kept 5 1 ∷ []) 0
gets_five m = refl

outside_calls_nothing : (m : FarMap) → calls_of v one_number m (command.Set 1 7) ≡ []
outside_calls_nothing m = refl

pop_of_none_calls_nothing : (m : FarMap) → calls_of v no_array m command.Pop ≡ []
pop_of_none_calls_nothing m = refl

look_in_none_calls_nothing : (a : FarArray) → calls_of v a (no_map 64) (command.Look 5) ≡ []
look_in_none_calls_nothing a = refl

-- ---- a command
both_empty : AreBothNow fresh v no_array (no_map 64)
both_empty = let x = fresh_stands two in record {
  array_is = x.array_is;
  map_is = x.map_is;
  other = x.other;
}

pops_nothing : HasOneHistory two 1 v
    → CommandGoes two 1 fresh command.Pop Nothing v no_array (no_map 64) v no_array (no_map 64)
pops_nothing history = record {
  calls = refl;
  both = both_empty;
  entries = [];
  wrote = refl;
  few = omega arith;
  more = [];
  turned = refl;
  jobs_are = tt;
  history = history;
  made = refl;
  is_said = refl;
}

-- which looked at an object, though its plan names none
looks_first : (l : Look) (b : FarArray) (o : FarMap) → CommandGoes two 1 fresh command.Pop Nothing
    v no_array (no_map 64) (record (opener two) { looks = l ∷ [] }) b o → ⊥
looks_first l b o go = let z : 1 ≡ 0 = ap (λ (z : View). length z.looks) go.calls in omega (arith, z)

-- behind which the numbers are kept aside: the array has none
abbrev any : FarArray → FarMap → View → View → FarArray → FarMap → FarAnswer → Type 0
any a m v w b o said = CommandGoes two 1 fresh command.Pop said v a m w b o

numbers_aside : (a : FarArray) (m o : FarMap) (v w : View)
    → CommandGoes two 1 fresh (command.Push 7) Done v a m w no_array o → ⊥
numbers_aside a m o v w go = let z : 0 ≡ 1 =
    ap (λ (l : List ℕ). length l) go.both.array_is.list in omega (arith, z)

-- and the pairs: the map has no bucket that counts one
pairs_aside : (a b : FarArray) (m : FarMap) (v w : View)
    → CommandGoes two 1 (record fresh { counts = 1 ∷ replicate 63 0 }) (command.Look 0) Nothing
    v a m w b (no_map 64) → ⊥
pairs_aside a b m v w go = let z : 0 ≡ 1 =
    ap (λ (l : List ℕ). get_or l 0 0) go.both.map_is.counts in omega (arith, z)

module _ (a b : FarArray) (m o : FarMap) where
  -- of which something else is said
  pops_seven : any a m v v b o (Number 7) → ⊥
  pops_seven go = let z : Number 7 ≡ Nothing = go.is_said in cc

  -- which lost an entry, or a turn
  forgets : (said : FarAnswer) → any a m wrote v b o said → ⊥
  forgets said go = let z : 0 ≡ length (go.entries ++ early ∷ []) =
      ap (λ (l : List Entry). length l) go.wrote in
      let l = length-append go.entries (early ∷ []) in omega (arith, z, l)

  forgets_turn : (said : FarAnswer) (t : Turn)
      → any a m (record (opener two) { turns = t ∷ [] }) v b o said → ⊥
  forgets_turn said t go = let z : 0 ≡ length (go.more ++ t ∷ []) =
      ap (λ (l : List Turn). length l) go.turned in
      let l = length-append go.more (t ∷ []) in omega (arith, z, l)

  -- which wrote two entries
  writes_two : (said : FarAnswer)
      → any a m v (record (opener two) { written = later ∷ early ∷ [] }) b o said → ⊥
  writes_two said go = let z : 2 ≡ length (go.entries ++ []) =
      ap (λ (l : List Entry). length l) go.wrote in
      let l = length-append go.entries [] in let f = go.few in omega (arith, z, l, f)

  -- behind which more objects were made than the list and the map need
  makes_more : (t : Turn)
      → any a m v (record (opener two) { turns = making t one ∷ [] }) b o Nothing → ⊥
  makes_more t go = let z : 1 ≡ 0 = go.made in omega (arith, z)

-- which freed an object
abbrev freeing : Turn → Turn
freeing t = record t { job = jobs.Free (record { n = 5 }) }

abbrev freed_by : Turn → View
freed_by t = record (opener two) { turns = freeing t ∷ [] }

frees : (s : Plain) (said : FarAnswer) (t : Turn) (a b : FarArray) (m o : FarMap)
    → CommandGoes two 1 s command.Pop said v a m (freed_by t) b o → ⊥
frees s said t a b m o go = by (subst
    (Each (λ (t : Turn). IsMake t.job ⊎ IsOnObject (record (opener two) { turns = [] }) t.job))
    (sym (go.turned ∙ append-nil go.more)) (each_on go.more go.jobs_are)).0
  where
    each_on : (ts : List Turn) → Each (λ (u : Turn). IsMake u.job ⊎ IsOnObject (freed_by t) u.job) ts
        → Each (λ (u : Turn). IsMake u.job ⊎ IsOnObject (record (opener two) { turns = [] }) u.job) ts
    each_on ts each = each

    by : IsMake (freeing t).job ⊎ IsOnObject (record (opener two) { turns = [] }) (freeing t).job → ⊥
    by (inl z) = z
    by (inr z) = z

-- ---- commands
abbrev Go : List FarCommand → List FarAnswer → View → FarArray → Type 0
Go asks saids w b = CommandsGo two 1 fresh v no_array (no_map 64) asks saids w b (no_map 64)

all_gone : Go [] [] v no_array
all_gone = (refl, refl, refl)

one_gone : HasOneHistory two 1 v → Go (command.Pop ∷ []) (Nothing ∷ []) v no_array
one_gone history = (v, no_array, no_map 64, pops_nothing history, (refl, refl, refl))

said_too_little : Go (command.Pop ∷ []) [] v no_array → ⊥
said_too_little go = go

said_too_much : Go [] (Nothing ∷ []) v no_array → ⊥
said_too_much go = go

-- another record, and another array, than the last command left
another_record : Go [] [] (record (opener two) { share = 63 }) no_array → ⊥
another_record go = let z : 63 ≡ 64 = ap (λ (z : View). z.share) go.0 in omega (arith, z)

another_array : Go [] [] v one_number → ⊥
another_array go = let z : 1 ≡ 0 = ap (λ (z : FarArray). z.len) go.1 in omega (arith, z)

have_gone : HasOneHistory two 1 v → HaveGone two 1 (command.Pop ∷ []) (Nothing ∷ []) v v
have_gone history = record {
  array = no_array;
  buckets = no_map 64;
  go = one_gone history;
  both = both_empty;
}

-- commands of which the record has nothing: a number was pushed, and no entry is there
left_aside : (begin : View) → HaveGone two 1 (command.Push 7 ∷ []) (Done ∷ []) begin v → ⊥
left_aside begin x = by x.array.kept x.both.array_is.kept x.both.array_is.array.objects
  where
    none_some : (e : Entry) → None ≡ Some e → ⊥
    none_some e is = cc

    by : (ks : List KeptObject) → length ks ≡ 1 → AllByRecursion (IsObject []) ks → ⊥
    by [] long all = omega (arith, long)
    by (k ∷ ks) long all = none_some all.0.at all.0.is

-- ---- the record between commands
record_well : IsRecordAfter 0 fresh v
record_well = (fresh_stands two).record_is

not_whole : (n : ℕ) (s : Plain) → IsRecordAfter n s (record (opener two) { share = 63 }) → ⊥
not_whole n s x = let z : 63 ≡ 64 = x.whole in omega (arith, z)

pinned : (n : ℕ) (s : Plain) (p : Stand) → IsRecordAfter n s (record (opener two) { pins = p ∷ [] }) → ⊥
pinned n s p x = let z : 1 ≡ 0 = ap (λ (l : List Stand). length l) x.loose in omega (arith, z)

under_way : (n : ℕ) (s : Plain) → IsRecordAfter n s (record (opener two) { fresh = early ∷ [] }) → ⊥
under_way n s x = let z : 1 ≡ 0 = ap (λ (l : List Entry). length l) x.idle in omega (arith, z)

-- an object at its second version before the first command
too_often : (s : Plain) → IsRecordAfter 0 s (record (opener two) { written = later ∷ early ∷ [] }) → ⊥
too_often s x = let z : 2 ≤ 0 + 1 = x.low.0 in omega (arith, z)

-- an object that nobody needs
one_more : (n : ℕ) (t : Turn)
    → IsRecordAfter n fresh (record (opener two) { turns = making t one ∷ [] }) → ⊥
one_more n t x = let z : 1 ≡ 0 = x.made in omega (arith, z)

-- ---- the array and the map between commands
array_well : IsArrayNow fresh v no_array
array_well = (fresh_stands two).array_is

other_list : IsArrayNow (record fresh { list = 7 ∷ [] }) v no_array → ⊥
other_list x = let z : 0 ≡ 1 = ap (λ (l : List ℕ). length l) x.list in omega (arith, z)

-- one that once had 129 numbers has two objects
few_objects : IsArrayNow (record fresh { longest = 129 }) v no_array → ⊥
few_objects x = let z : 0 ≡ 2 = x.kept in omega (arith, z)

-- one whose object was never made
abbrev array_of_five : FarArray
array_of_five = record { kept = kept 5 1 ∷ []; len = 0; stop = None }

never_made : IsArrayNow (record fresh { longest = 1 }) v array_of_five → ⊥
never_made x = none_some x.array.objects.0.at x.array.objects.0.is
  where
    none_some : (e : Entry) → None ≡ Some e → ⊥
    none_some e is = cc

-- one whose object was written since
written_since : IsArrayNow (record fresh { longest = 1 })
    (record (opener two) { written = later ∷ early ∷ [] }) array_of_five → ⊥
written_since x = let z : 2 ≤ 1 = x.sole.0.last.0 refl in omega (arith, z)

stopped : IsArrayNow fresh v (record { kept = []; len = 0; stop = Some stop.Freed }) → ⊥
stopped x = let z : Some stop.Freed ≡ None = x.going in cc

map_well : IsMapNow fresh v (no_map 64)
map_well = (fresh_stands two).map_is

other_buckets : IsMapNow fresh v (no_map 63) → ⊥
other_buckets x = let z : 63 ≡ 64 = ap (λ (l : List ℕ). length l) x.counts in omega (arith, z)

-- a bucket that has a pair less, and one that has an object less
fewer_pairs : IsMapNow (record fresh { counts = 1 ∷ replicate 63 0 }) v (no_map 64) → ⊥
fewer_pairs x = let z : 0 ≡ 1 = ap (λ (l : List ℕ). get_or l 0 0) x.counts in omega (arith, z)

fewer_objects : IsMapNow (record fresh { fullest = 1 ∷ replicate 63 0 }) v (no_map 64) → ⊥
fewer_objects x = let z : 0 ≡ 1 = ap (λ (l : List ℕ). get_or l 0 0) x.kept in omega (arith, z)

map_stopped : IsMapNow fresh v (record (no_map 64) { stop = Some stop.Freed }) → ⊥
map_stopped x = let z : Some stop.Freed ≡ None = x.going in cc

others : AreOther (kept 5 1 ∷ []) (kept 6 1 ∷ [])
others x y (inl here) (inl there) same =
    let z : ◌≡◌ {A = ℕ} 5 6 = ap (λ k. k.handle.n) here ∙ same ∙ sym (ap (λ k. k.handle.n) there) in
    omega (arith, z)
others x y (inr here) there same = here
others x y (inl here) (inr there) same = there

shared_object : AreOther (kept 5 1 ∷ []) (kept 6 1 ∷ kept 5 2 ∷ []) → ⊥
shared_object x = x (kept 5 1) (kept 5 2) (inl refl) (inr (inl refl)) refl

-- ---- both
ready : AreReady v no_array (no_map 64)
ready = (0, fresh, fresh_stands two, omega arith)

-- more numbers than there were commands
too_long : (v : View) (a : FarArray) (m : FarMap) → Stands 0 (record fresh { list = 7 ∷ [] }) v a m → ⊥
too_long v a m x = let z : 1 ≤ 0 = x.few in omega (arith, z)

too_many : (s : Plain) (v : View) (a : FarArray) (m : FarMap) → Stands 0 s v a (record m { len = 1 }) → ⊥
too_many s v a m x = let z : 1 ≤ 0 = x.few_keys in omega (arith, z)

-- a list that is longer than it ever was
never_so_long : (v : View) (a : FarArray) (m : FarMap)
    → Stands 5 (record fresh { list = 7 ∷ [] }) v a m → ⊥
never_so_long v a m x = let z : 1 ≤ 0 = x.tallied.longest in omega (arith, z)

-- ---- what is said of an answer
says_seven : Says (λ n. Number n) (Ok 7) (Number 7)
says_seven = refl

says_full : Says {X = ℕ} (λ n. Number n) (Err (cannot.Refused (answer.Full 2))) (Refused (answer.Full 2))
says_full = refl

says_other : SaysWhy (cannot.Refused (answer.Full 2)) Nothing → ⊥
says_other is = let z : Nothing ≡ Refused (answer.Full 2) = is in cc

-- where memory was wanting there is nothing to say
says_nothing : (said : FarAnswer) → SaysWhy cannot.NoMemory said → ⊥
says_nothing said is = is
