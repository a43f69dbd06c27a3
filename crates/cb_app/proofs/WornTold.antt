-- A line is answered Worn only where 2^40 turns were counted: else an object would have its last
-- version, and with it more entries than a script has lines.
use Rattle.std.proofs.Common.{◌≡◌, ◌⊎◌, ℕ, zero, suc, ◌+◌, ◌-◌, ◌*◌, ◌^◌, ◌<◌, ◌≤◌, ◌&&◌, Bool, true, false, cond, eqb, eq-eqb, List, [], ◌∷◌, ◌++◌, length, length-append, map, Option, None, Some, refl, sym, ap, ◌∙◌, subst, inl, inr, ⊎_elim, arith}
use Rattle.std.specs.Prelude.{nat_eq, nat_lt}
use Rattle.std.specs.List.{AllByRecursion}
use Rattle.std.proofs.lemmas.Bool.{cases_lt}
use Rattle.std.proofs.lemmas.Bool.Decides.{nat_tests}
use Rattle.std.proofs.lemmas.List.{length-map}
use Rattle.std.proofs.lemmas.Option.{same_Some}
use Rattle.cb_types.specs.declared.answer.Answer.{Answer}
use Rattle.cb_types.specs.declared.config.Config.{Config}
use Rattle.cb_types.specs.declared.handle.Handle.{Handle}
use Rattle.cb_types.specs.declared.job.Job.{Job}
use Rattle.cb_types.specs.declared.job.Job.TheVariants as job
use Rattle.cb_types.specs.declared.reply.Reply.{Reply}
use Rattle.cb_types.specs.declared.reply.Reply.TheVariants as answer
use Rattle.cb_types.specs.declared.request.Request.{Request}
use Rattle.cb_types.specs.declared.request.Request.TheVariants as line
use Rattle.cb_types.specs.Table.{IsReplyOf}
use Rattle.cb_script.specs.declared.script.Line.{Line}
use Rattle.cb_world.specs.declared.entry.Entry.{Entry}
use Rattle.cb_world.specs.declared.homes.Home.{Home}
use Rattle.cb_world.specs.Homes.{home_at}
use Rattle.cb_world.specs.World.{WorldState}
use Rattle.cb_mutate.specs.JobWrites.{TurnWrites}
use Rattle.cb_model.specs.Called.{handle_for}
use Rattle.cb_rule.specs.declared.turn.Turn.{Turn}
use Rattle.cb_rule.specs.declared.view.Seen.{Seen}
use Rattle.cb_rule.specs.declared.view.View.{View}
use Rattle.cb_rule.specs.Closing.{IsClosed}
use Rattle.cb_rule.specs.History.{is_version}
use Rattle.cb_rule.specs.Lists.{times, Has}
use Rattle.cb_rule.specs.Locking.{Stood, turn_number}
use Rattle.cb_rule.specs.OneHistory.{HasTurnNumber, IsOneHistory, Made}
use Rattle.cb_rule.specs.Promised.{EntriesStand, EntryGoesOn, Wrote}
use Rattle.cb_rule.proofs.Laws.{by_case, claimed_written, far_written, times_has}
use Rattle.cb_record.specs.Backs.{Backs, EntersAt, Tells, WroteLines}
use Rattle.cb_record.specs.Lists.{HasOne}
use Rattle.cb_record.specs.Needs.{IsJobFor, IsLastOf, IsTurnFor, MayBringIn, Meets}
use Rattle.cb_record.specs.Needs.{need_of, own_job, the_object}
use Rattle.cb_record.specs.Needs.Need.{AWorn}
use Rattle.cb_record.specs.Told.{Told, tolds}
use Rattle.cb_record.specs.Upheld.{as_part}
use Rattle.cb_core.specs.Jobs.{NeedsNoOrder}
use Rattle.cb_shared.proofs.Laws.{asked_alone}
use Rattle.cb_shared.specs.Turning.{Did, DidAs}
use Rattle.cb_lanes.specs.Asked.{HasLineReply, asked}
use Rattle.cb_core.proofs.Laws.{WritesNone}
use Rattle.cb_app.specs.ByLane.{by_lane, lanes_up_to, of_lane}
use Rattle.cb_app.specs.Telling.{TellsWorn}
use Rattle.cb_app.proofs.AnswersTold.{InThreads, RunsIn, find_for}
use Rattle.cb_app.proofs.RangeTold.{written}
use Rattle.cb_app.proofs.TurnHistory.{number_of, turn_leaves}
use Rattle.cb_app.proofs.WornLast.{ClaimsFoundHere, HadLast, free_last, write_last}

-- ---- one turn
turn_worn : (c : Config) (t : Turn) → Did c t → WritesNone t.job → t.reply ≡ Some answer.Worn
    → turn_number t ≡ 2 ^ 40
turn_worn c t did none is = (turn_leaves c t did).worn none is

-- ---- the turn that a line needs is of such a job, where the line's own is
abbrev IsNoWrite : Option Job → Type 0
IsNoWrite None = Unit {0}
IsNoWrite (Some j) = WritesNone j

own_turn : (own : Option Job) (j : Job) → IsNoWrite own → own ≡ Some j → WritesNone j
own_turn None j none is = absurd (let e : None ≡ Some j = is in cc)
own_turn (Some k) j none is = subst WritesNone (same_Some k j is) none

brought_none : (h : ℕ) (j : Job) → MayBringIn h j → WritesNone j
brought_none h j (inl swap) = subst WritesNone (sym swap) tt
brought_none h j (inr fetch) = subst WritesNone (sym fetch) tt

-- or a landing
brought_or_landed : (h : ℕ) (j : Job) → MayBringIn h j ⊎ (j ≡ job.Land) → WritesNone j
brought_or_landed h j (inl brings) = brought_none h j brings
brought_or_landed h j (inr land) = subst WritesNone (sym land) tt

for_it : (own : Option Job) (h : Option ℕ) (j : Job) → IsNoWrite own
    → IsJobFor own h answer.Worn j → WritesNone j
for_it own None j none is = own_turn own j none is
for_it own (Some h) j none (inl is) = own_turn own j none is
for_it own (Some h) j none (inr brings) = brought_or_landed h j brings

-- ---- lists
one_there : {A : Type 0} (P : A → Type 0) (xs : List A) → HasOne P xs → (x : A) × Has x xs × P x
one_there P [] one = absurd one
one_there P (x ∷ xs) (inl is) = (x, inl refl, is)
one_there P (x ∷ xs) (inr later) = let z = one_there P xs later in (z.0, inr z.1, z.2)

fewer : {A : Type 0} (t : A → Bool) (xs : List A) → times t xs ≤ length xs
fewer t [] = omega arith
fewer t (x ∷ xs) = let rest = fewer t xs in let one = at_most (t x) in omega (arith, rest, one)
  where
    at_most : (b : Bool) → cond {A = ℕ} b 1 0 ≤ 1
    at_most true = omega arith
    at_most false = omega arith

in_range : (homes : List (Option Home)) (h : ℕ) (home : Home) → home_at homes h ≡ Some home
    → h < length homes
in_range [] h home at = absurd (let e : None ≡ Some home = at in cc)
in_range (x ∷ homes) zero home at = omega arith
in_range (x ∷ homes) (suc h) home at = let less = in_range homes h home at in omega (arith, less)

-- ---- how many entries there are of an object that reached a version
-- the entries of an object below a version
abbrev below_it : ℕ → ℕ → Entry → Bool
below_it h n e = eqb e.handle h && nat_lt e.version n

one_more : (h n : ℕ) (es : List Entry)
    → times (below_it h n) es + times (is_version h n) es ≤ times (below_it h (suc n)) es
one_more h n [] = omega arith
one_more h n (e ∷ es) = let rest = one_more h n es in
    let now = step (eqb e.handle h) e.version in omega (arith, rest, now)
  where
    step : (b : Bool) (v : ℕ) → cond {A = ℕ} (b && nat_lt v n) 1 0 + cond (b && eqb v n) 1 0
        ≤ cond (b && nat_lt v (suc n)) 1 0
    step false v = omega arith
    step true v = grind (arith, nat_tests)

-- an entry stands there of each version up to one that was written
module _ (first : ℕ) (v : View) (entries : EntriesStand first (v ∷ [])) (quiet : v.fresh ≡ []) where
  -- the entry that an entry goes on from, unless it is the first
  before_it : (e : Entry) → Has e v.written → (e.version ≡ first)
      ⊎ ((x : Entry) × Has x v.written × (x.handle ≡ e.handle) × (x.version + 1 ≡ e.version))
  before_it e there = by (entries.goes_on e (
    v,
    (0, refl),
    subst (λ (fs : List Entry). Has e (fs ++ v.written)) (sym quiet) there,
  ))
    where
      by : EntryGoesOn first (v ∷ []) e → (e.version ≡ first)
          ⊎ ((x : Entry) × Has x v.written × (x.handle ≡ e.handle) × (x.version + 1 ≡ e.version))
      by (inl z) = inl z.0
      by (inr z) = inr (z.0, written first v entries quiet z.0 z.1, z.2, z.3)

  stands_at : (d k : ℕ) (e : Entry) → Has e v.written → first ≤ k → k + d ≡ e.version
      → (x : Entry) × Has x v.written × (x.handle ≡ e.handle) × (x.version ≡ k)
  stands_at zero k e there low is = (e, there, refl, omega (arith, is))
  stands_at (suc d) k e there low is = ⊎_elim
      (λ (a : e.version ≡ first). absurd (omega (arith, a, low, is)))
      (λ (z : (x : Entry) × Has x v.written × (x.handle ≡ e.handle) × (x.version + 1 ≡ e.version)).
      let n = z.3 in let y = stands_at d k z.0 z.1 low (omega (arith, n, is)) in
      (y.0, y.1, y.2 ∙ z.2, y.3)) (before_it e there)

  reached : (h n last : ℕ) → (e : Entry) × Has e v.written × (e.handle ≡ h) × (e.version ≡ last)
      → n ≤ last + 1 → n ≤ first + times (below_it h n) v.written
  reached h zero last e le = omega arith
  reached h (suc n) last e le =
      let before = reached h n last e (omega (arith, le)) in
      let more = one_more h n v.written in ⊎_elim
      (λ (less : n < first). omega (arith, less))
      (λ (low : first ≤ n).
      let is : e.0.version ≡ last = e.3 in
      let x = stands_at (last - n) n e.0 e.1 low (omega (arith, is, le)) in
      let one = times_has (is_version h n) x.0 v.written x.1
      (ap (λ (b : Bool). b && eqb x.0.version n) (eq-eqb x.0.handle h (x.2 ∙ e.2))
      ∙ eq-eqb x.0.version n x.3) in omega (arith, before, more, one)) (cases_lt n first)

  pub many : (h last : ℕ) → (e : Entry) × Has e v.written × (e.handle ≡ h) × (e.version ≡ last)
      → last + 1 ≤ first + length v.written
  many h last e = let some = reached h (last + 1) last e (omega arith) in
      let few = fewer (below_it h (last + 1)) v.written in omega (arith, some, few)

-- ---- a line writes one entry at the most
made_few : (bytes : List ℕ) (r : Reply) (es : List Entry) → TurnWrites (job.Make bytes) r es
    → length es ≤ 1
made_few bytes (answer.Made h n) es x = subst (λ (l : List Entry). length l ≤ 1) (sym x.2) (omega arith)
made_few bytes r es x = subst (λ (l : List Entry). length l ≤ 1) (sym x) (omega arith)

write_few : (h : Handle) (at : ℕ) (bytes : List ℕ) (r : Reply) (es : List Entry)
    → TurnWrites (job.Write h at bytes) r es → length es ≤ 1
write_few h at bytes (answer.Version n) es x =
    subst (λ (l : List Entry). length l ≤ 1) (sym x.5) (omega arith)
write_few h at bytes r es x = subst (λ (l : List Entry). length l ≤ 1) (sym x) (omega arith)

free_few : (h : Handle) (r : Reply) (es : List Entry) → TurnWrites (job.Free h) r es → length es ≤ 1
free_few h (answer.Version n) es x =
    subst (λ (l : List Entry). length l ≤ 1) (sym x.1) (omega arith)
free_few h r es x = subst (λ (l : List Entry). length l ≤ 1) (sym x) (omega arith)

enters_few : (h : Option ℕ) (q : Request) (r : Reply) (es : List Entry) → EntersAt h q r es
    → length es ≤ 1
enters_few h (line.Make name bytes) r es x = made_few bytes r es x
enters_few (Some h) (line.Write name at bytes) r es x = write_few _ at bytes r es x
enters_few (Some h) (line.Free name) r es x = free_few _ r es x
enters_few h q r es x = subst (λ (l : List Entry). length l ≤ 1) (sym x) (omega arith)

wrote_few : (es : List Entry) (ts : List Told) → WroteLines es ts → length es ≤ length ts
wrote_few es [] x = subst (λ (l : List Entry). length l ≤ 0) (sym x) (omega arith)
wrote_few es (t ∷ ts) (own, rest, is, enters, later) =
    let one = enters_few t.handle t.request t.reply own enters in
    let before = wrote_few rest ts later in
    let both : length es ≡ length rest + length own = ap length is ∙ length-append rest own in
    omega (arith, one, before, both)

tolds_many : (before after : List Answer) → length (tolds before after) ≡ length after
tolds_many before [] = refl
tolds_many before (a ∷ after) = ap suc (tolds_many (before ++ a ∷ []) after)

-- ---- and a script has few lines
lane_few : (n : ℕ) (lines : List Line) → length (of_lane n lines) ≤ length lines
lane_few n [] = omega arith
lane_few n (l ∷ lines) = let rest = lane_few n lines in by_case
    (λ b. length (cond b (l ∷ of_lane n lines) (of_lane n lines)) ≤ suc (length lines))
    (nat_eq l.lane.n n) (λ _. omega (arith, rest)) (λ _. omega (arith, rest))

lanes_few : (n : ℕ) (lines : List Line) → length (lanes_up_to n lines) ≤ n * length lines
lanes_few zero lines = omega arith
lanes_few (suc n) lines = let before = lanes_few n lines in let one = lane_few (suc n) lines in
    let both = length-append (lanes_up_to n lines) (of_lane (suc n) lines) in
    omega (arith, before, one, both)

pub few_answers : (lines : List Line) (answers : List Answer) → length lines ≤ 20000
    → map asked answers ≡ by_lane lines → length answers ≤ 320000
few_answers lines answers few same =
    let all : length answers ≡ length (by_lane lines) =
    sym (length-map answers asked) ∙ ap length same in
    let both = length-append (of_lane 0 lines) (lanes_up_to 15 lines) in
    let a = lane_few 0 lines in let b = lanes_few 15 lines in omega (arith, few, all, both, a, b)

-- ---- all answers of a closed record
module _ (c : Config) (v : View) (w : WorldState) (closed : IsClosed Did 1 c v w)
    (few : length v.written ≤ 320000) where
  abbrev count : ℕ
  count = w.far.counts.turns

  abbrev one : IsOneHistory Did 1 c (v ∷ []) count w.far
  one = closed.turns

  all_counted : (t : Turn) → Has t v.turns → turn_number t ≡ 2 ^ 40 → 2 ^ 40 ≤ count
  all_counted t there end = by (number_of 1 c v count w.far one t there)
    where
      by : HasTurnNumber count t → 2 ^ 40 ≤ count
      by (inl less) = omega (arith, less, end)
      by (inr z) = let e = z.1 in omega (arith, e)

  pub unwriting : (t : Turn) → Has t v.turns → WritesNone t.job → t.reply ≡ Some answer.Worn
      → 2 ^ 40 ≤ count
  unwriting t there none is = all_counted t there
      (turn_worn c t (one.did t (v, (0, refl), there)) none is)

  by_turn : (own : Option Job) (h : Option ℕ) → IsNoWrite own
      → HasOne (IsTurnFor own h answer.Worn) v.turns → 2 ^ 40 ≤ count
  by_turn own h none x =
      let z = find_for own h answer.Worn v.turns x in
      unwriting z.0 z.1 (for_it own h z.0.job none z.2.1) z.2.0

  -- no object has its last version: there would have to be as many entries
  no_last : (h : ℕ) → (e : Entry) × Wrote (v ∷ []) e × (e.handle ≡ h) × (e.version ≡ 2 ^ 64 - 1) → ⊥
  no_last h e = let lots = many 1 v closed.entries closed.calm h (2 ^ 64 - 1)
      (e.0, written 1 v closed.entries closed.calm e.0 e.1, e.2, e.3) in omega (arith, lots, few)

  unread : (h : ℕ) (s : Seen) → Has s v.seen → IsLastOf h s → ⊥
  unread h s there is = let e = closed.entries.read s (v, (0, refl), there) in
      no_last h (
        e.0,
        e.1,
        ap (λ (x : Seen). x.handle) (sym e.2) ∙ is.0,
        ap (λ (x : Seen). x.version) (sym e.2) ∙ is.1,
      )

  module _ (t : Turn) (there : Has t v.turns) where
    made : Made (v ∷ []) t
    made = (v, (0, refl), there)

    claims : ClaimsFoundHere t.acts
    claims h x n words has =
        (claimed_written 1 (omega arith) c (v ∷ []) closed.told t made h x n words has).0

    never_had : (h : ℕ) → HadLast h t.start t.acts → ⊥
    never_had h (inl (x, words, has)) = no_last h
        (claimed_written 1 (omega arith) c (v ∷ []) closed.told t made h x (2 ^ 64 - 1) words has).1
    never_had h (inr (len, words, far)) = no_last h
        (far_written 1 (omega arith) c (v ∷ []) closed.told t made h len (2 ^ 64 - 1) words below far)
      where
        stood : Stood c t.start t.took
        stood = one.sound t made

        below : h < c.handles
        below = let home = stood.sound.away.sound.away.away h len (2 ^ 64 - 1) words far in
            subst (λ (n : ℕ). h < n) stood.configured.homes (in_range t.took.homes h home.0 home.1)

    ends : (h : ℕ) → (t.took.counts.turns ≡ 2 ^ 40) ⊎ HadLast h t.start t.acts → 2 ^ 40 ≤ count
    ends h (inl end) = all_counted t there end
    ends h (inr had) = absurd (never_had h had)

    did : (j : Job) → t.job ≡ j → t.reply ≡ Some answer.Worn
        → NeedsNoOrder j → DidAs c j (Some answer.Worn) t.start t.acts t.took t.gave
    did j asked told alone = asked_alone c t j (Some answer.Worn) alone asked told (one.did t made)

    pub wrote_worn : (h at : ℕ) (bytes : List ℕ) → t.job ≡ job.Write (the_object h) at bytes
        → t.reply ≡ Some answer.Worn → 2 ^ 40 ≤ count
    wrote_worn h at bytes asked told = ends h (write_last c t.start t.acts t.took t.gave
        (one.sound t made).sound claims h at bytes (did _ asked told tt))

    freed_worn : (h : ℕ) → t.job ≡ job.Free (the_object h) → t.reply ≡ Some answer.Worn
        → 2 ^ 40 ≤ count
    freed_worn h asked told = ends h (free_last c t.start t.acts t.took t.gave
        (one.sound t made).sound claims h (did _ asked told tt))

  -- a write or a free told so by a turn for it
  told_by : (h : ℕ) (own : Job)
      → ((t : Turn) → Has t v.turns → t.job ≡ own → t.reply ≡ Some answer.Worn → 2 ^ 40 ≤ count)
      → HasOne (IsTurnFor (Some own) (Some h) answer.Worn) v.turns → 2 ^ 40 ≤ count
  told_by h own its x = by z.2.1
    where
      z : (t : Turn) × Has t v.turns × IsTurnFor (Some own) (Some h) answer.Worn t
      z = find_for (Some own) (Some h) answer.Worn v.turns x

      by : IsJobFor (Some own) (Some h) answer.Worn z.0.job → 2 ^ 40 ≤ count
      by (inl same) = its z.0 z.1 (sym (same_Some _ _ same)) z.2.0
      by (inr brings) = unwriting z.0 z.1 (brought_or_landed h z.0.job brings) z.2.0

  -- a write may have found it in place
  write_line : (h at : ℕ) (bytes : List ℕ)
      → Meets (as_part v) (AWorn (Some (job.Write (the_object h) at bytes)) h) → 2 ^ 40 ≤ count
  write_line h at bytes (inl x) = let z = one_there (IsLastOf h) v.seen x in
      absurd (unread h z.0 z.1 z.2)
  write_line h at bytes (inr x) = told_by h (job.Write (the_object h) at bytes)
      (λ t there. wrote_worn t there h at bytes) x

  free_line : (h : ℕ)
      → HasOne (IsTurnFor (Some (job.Free (the_object h))) (Some h) answer.Worn) v.turns
      → 2 ^ 40 ≤ count
  free_line h x =
      told_by h (job.Free (the_object h)) (λ t there. freed_worn t there h) x

  worn_line : (h : Option ℕ) (q : Request) → RunsIn q → IsReplyOf q answer.Worn
      → Meets (as_part v) (need_of h q answer.Worn) → 2 ^ 40 ≤ count
  worn_line (Some h) (line.Write name at bytes) runs may x = write_line h at bytes x
  worn_line (Some h) (line.Free name) runs may x = free_line h x
  worn_line h (line.Peek name) runs may x = absurd may
  worn_line h (line.Unpin name) runs may x = absurd may
  worn_line h line.Leave runs may x = absurd may
  worn_line h line.Begin runs may x = absurd (runs tt)
  worn_line h line.Ship runs may x = absurd (runs tt)
  worn_line h line.Commit runs may x = absurd (runs tt)
  worn_line h line.Abort runs may x = absurd (runs tt)
  worn_line h line.Pair runs may x = absurd (runs tt)
  worn_line h line.Patch runs may x = absurd (runs tt)
  worn_line h line.Merge runs may x = absurd (runs tt)
  worn_line h line.Part runs may x = absurd (runs tt)
  worn_line None q runs may x = by_turn (own_job None q) None tt x
  worn_line (Some h) q runs may x = by_turn (own_job (Some h) q) (Some h) tt x

  worn_reply : (h : Option ℕ) (q : Request) (r : Reply) → RunsIn q → IsReplyOf q r
      → Meets (as_part v) (need_of h q r) → TellsWorn count r
  worn_reply h q answer.Worn runs may x = worn_line h q runs may x
  worn_reply h q r runs may x = tt

  worns : (before after : List Answer) → AllByRecursion HasLineReply after
      → AllByRecursion InThreads after → AllByRecursion (Tells (as_part v)) (tolds before after)
      → AllByRecursion (λ a. TellsWorn count a.reply) after
  worns before [] replies runs each = tt
  worns before (a ∷ after) replies runs each = (
    worn_reply (handle_for before a.request a.reply) a.request a.reply runs.0 replies.0 each.0,
    worns (before ++ a ∷ []) after replies.1 runs.1 each.1,
  )

-- so of the answers of a script, which are not so many
pub answers_worn : (c : Config) (v : View) (w : WorldState) → IsClosed Did 1 c v w
    → (answers : List Answer) → AllByRecursion HasLineReply answers → AllByRecursion InThreads answers
    → Backs (as_part v) (tolds [] answers) → length answers ≤ 320000
    → AllByRecursion (λ a. TellsWorn w.far.counts.turns a.reply) answers
answers_worn c v w closed answers replies runs backs few =
    let wrote = wrote_few v.written (tolds [] answers) backs.wrote in
    let many = tolds_many [] answers in
    worns c v w closed (omega (arith, wrote, many, few)) [] answers replies runs backs.tells
