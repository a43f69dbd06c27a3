-- What lanes and workers leave, one after the other.
use Rattle.std.proofs.Common.{◌≡◌, ℕ, suc, true, false, ◌+◌, ◌-◌, ◌<◌, ◌≤◌, List, [], ◌∷◌, ◌++◌, length, map, inl, inr, refl, sym, ap, ◌∙◌, subst, append_assoc, arith}
use Rattle.std.specs.Prelude.{All, nat_eq, slice_index_or}
use Rattle.std.specs.List.{AllByRecursion}
use Rattle.std.proofs.lemmas.Bool.{cases_Bool}
use Rattle.std.proofs.lemmas.List.{append-nil, map-append}
use Rattle.std.proofs.lemmas.List.Elements.{All-head, All-nil, All-push, All-tail}
use Rattle.cb_types.specs.declared.answer.Answer.{Answer}
use Rattle.cb_types.specs.declared.handle.Lane.{Lane as Lane'}
use Rattle.cb_script.specs.declared.script.Line.{Line}
use Rattle.cb_script.specs.Form.{AreLines}
use Rattle.cb_rule.specs.declared.view.Seen.{Seen}
use Rattle.cb_rule.specs.declared.view.View.{View}
use Rattle.cb_rule.specs.Lists.{total}
use Rattle.cb_rule.specs.Steps.{joined, left_of, right_of}
use Rattle.cb_record.specs.Backs.{Backs}
use Rattle.cb_record.specs.Told.{Told, tolds}
use Rattle.cb_text.specs.Line.{answer_line, text_of}
use Rattle.std.proofs.lemmas.Grind.{flat_map-append}
use Rattle.cb_record.specs.Rises.{HasAllOf}
use Rattle.cb_record.specs.Upheld.{as_part}
use Rattle.cb_record.proofs.Laws.{backs_sum, has_left, has_right, tolds-append}
use Rattle.cb_shared.specs.declared.pass.Pass.{Pass}
use Rattle.cb_shared.specs.declared.runtime.Shared.{Shared}
use Rattle.cb_shared.specs.Joining.{unpinned_all}
use Rattle.cb_shared.specs.Passes.{IsPassOf, record_of}
use Rattle.cb_lanes.specs.declared.body.LaneEnd.{LaneEnd}
use Rattle.cb_lanes.specs.declared.body.Named.{Named}
use Rattle.cb_lanes.specs.Asked.{HasLineReply, asked}
use Rattle.cb_lanes.specs.LastTries.{HasLastTry}
use Rattle.cb_lanes.specs.Bodies.{AreLinesOf, KnowsNames}
use Rattle.cb_lanes.specs.Scoped.{AreScoped}
use Rattle.cb_lanes.specs.Suits.{AreSuited}
use Rattle.cb_lanes.proofs.Laws.{are_suited_both, are_suited_more, has_split, all_both}
use Rattle.cb_workers.specs.declared.worker.Worker.{Worker as Worker'}
use Rattle.cb_app.specs.ByLane.{AreLanesApart, AreOfOthers, IsApart, by_lane, flat, has_lines, lanes_up_to, of_lane}
use Rattle.cb_app.specs.Crew.{AllMade, AreFirst, AreMade, BodyIsReady, HasText, IsDealt, IsFreshRecord, IsDealtOne, IsEnded, IsTaskReady, IsLaneTold, NeverFall, TakesIn, lines_due, lines_in, lines_left, turns_due, work_in}
use Rattle.cb_app.specs.OwnLines.{KeepAloneWith}
use Rattle.cb_app.specs.declared.crew.Body.{Body}
use Rattle.cb_app.specs.declared.crew.Body.TheVariants.{Lane, Worker}
use Rattle.cb_app.specs.declared.crew.Ended.{Ended}
use Rattle.cb_app.specs.declared.crew.Task.{Task}
use Rattle.cb_app.proofs.AnswersRise.{never_fall_all}
use Rattle.cb_app.proofs.LanesAlone.{alone_joined}
use Rattle.cb_app.proofs.Lanes.{apart-push, flat-push, lane_is_apart, lane_is_of_others, no_lines_apart, no_lines_of_others}
use Rattle.cb_app.proofs.Records.{right_fresh, right_knows_names}
use Rattle.cb_app.proofs.ScopesTold.{scopes_joined}
use Rattle.cb_app.proofs.ToldApart.{tolds_apart}
use Rattle.cb_app.proofs.WorkDone.{AreOwed, owed_from, owed_more, owed_none}

-- ---- what one thread left is taken in

-- what suits the one record or the other suits both together
both_suit : (xs ys : List Seen) (ts us : List Told) → AreSuited xs ts → AreSuited ys us
    → AreSuited (ys ++ xs) (ts ++ us)
both_suit xs ys ts us a b = are_suited_both (ys ++ xs) ts us
    (are_suited_more xs (ys ++ xs) ts (λ s there. has_right s ys xs there) a)
    (are_suited_more ys (ys ++ xs) us (λ s there. has_left s ys xs there) b)

-- the answers and the record of both
pub taken_in : (s : Shared) (given others : List Answer) (lines : List Line) (a e b : LaneEnd)
    → a.answers ≡ given ++ others
    → IsLaneTold s [] (map asked a.answers) a → IsLaneTold s given lines e
    → IsApart (map asked others) lines → AreOfOthers (map asked others) lines → AreFirst given
    → IsPassOf s b.pass
    → record_of b.pass ≡ joined (record_of a.pass) (unpinned_all (record_of e.pass))
    → b.answers ≡ a.answers ++ e.answers → TakesIn s given others lines b
taken_in s given others lines a e b are told ended apart none first of pass answers =
    let apart_so : IsApart (map asked others) (map asked e.answers) =
    subst (IsApart (map asked others)) (sym ended.lines_are) apart in
    let behind : tolds a.answers e.answers ≡ tolds given e.answers =
    ap (λ (xs : List Answer). tolds xs e.answers) are
    ∙ tolds_apart given others e.answers apart_so in
    let none_so : AreOfOthers (map asked others) (map asked e.answers) =
    subst (AreOfOthers (map asked others)) (sym ended.lines_are) none in
    let all : tolds [] a.answers ++ tolds given e.answers ≡ tolds [] b.answers =
    ap (λ (ts : List Told). tolds [] a.answers ++ ts) (sym behind)
    ∙ sym (tolds-append [] a.answers e.answers)
    ∙ ap (λ (xs : List Answer). tolds [] xs) (sym answers) in
    record {
      more = e.answers;
      answers = answers ∙ ap (λ (xs : List Answer). xs ++ e.answers) are ∙ append_assoc given others e.answers;
      lines_are = ended.lines_are;
      told = record {
        of = of;
        lines_are = refl;
        replies = subst (AllByRecursion HasLineReply) (sym answers)
            (all_both HasLineReply a.answers e.answers told.replies ended.replies);
        last = subst (AllByRecursion HasLastTry) (sym answers)
            (all_both HasLastTry a.answers e.answers told.last ended.last);
        backs = subst (λ (v : View). Backs (as_part v) (tolds [] b.answers)) (sym pass)
            (subst (Backs (as_part (joined (record_of a.pass) (unpinned_all (record_of e.pass))))) all
            (backs_sum (as_part (record_of a.pass)) (as_part (record_of e.pass)) (tolds [] a.answers)
            (tolds given e.answers) told.backs ended.backs));
        suits = subst (λ (v : View). AreSuited v.seen (tolds [] b.answers)) (sym pass)
            (subst (AreSuited (joined (record_of a.pass) (unpinned_all (record_of e.pass))).seen) all
            (both_suit (record_of a.pass).seen (record_of e.pass).seen (tolds [] a.answers)
            (tolds given e.answers) told.suits ended.suits));
        rises = subst (NeverFall []) (sym answers) (never_fall_all given others e.answers a.answers are
            apart_so none_so told.rises ended.rises);
        scopes = subst (AreScoped []) (sym answers)
            (scopes_joined given others e.answers a.answers are apart_so none_so told.scopes ended.scopes);
        alone = λ one. subst (KeepAloneWith s.config.nodes []) (sym answers)
            (alone_joined s.config.nodes given others e.answers a.answers are first none_so
            (told.alone one) (ended.alone one));
      };
    }

-- ---- the text of answers

-- and of more answers behind them
pub text_behind : (xs ys zs : List Answer) (old more new : List ℕ) → old ≡ text_of xs → more ≡ text_of ys
    → new ≡ old ++ more → zs ≡ xs ++ ys → new ≡ text_of zs
text_behind xs ys zs old more new first behind is all = is
    ∙ (λ i. first i ++ behind i)
    ∙ sym (flat_map-append (λ (a : Answer). answer_line a.lane a.request a.reply) xs ys)
    ∙ sym (ap text_of all)

pub first_text : (left : List Ended) (e : Ended) (later : List Ended) → All HasText left → left ≡ e ∷ later
    → HasText e
first_text left e later all is = All-head HasText e later (subst (All HasText) is all)

pub others_text : (left : List Ended) (e : Ended) (later : List Ended) → All HasText left → left ≡ e ∷ later
    → All HasText later
others_text left e later all is = All-tail HasText e later (subst (All HasText) is all)

-- ---- one after the other

-- some were taken in, and these are left
pub record IsTaking (s : Shared) (script : List Line) (given : List Answer) (all left : List Ended) (first : LaneEnd)
    : Type 0 where
  pub others : List Answer
  pub answers : first.answers ≡ given ++ others
  pub told : IsLaneTold s [] (map asked first.answers) first
  pub ended : All (IsEnded s script given) left
  pub apart : AreLanesApart (map asked others) (map (lines_left script) left)
  pub lines : map asked others ++ flat (map (lines_left script) left) ≡ flat (map (lines_left script) all)
  pub work : (w : Worker') (tasks : List Task) → AllMade w tasks all
      → AreOwed w tasks left (record_of first.pass)

pub taking_from : (s : Shared) (lines : List Line) (all : List Ended) (first : LaneEnd)
    → IsLaneTold s [] (map asked first.answers) first → All (IsEnded s lines first.answers) all
    → AreLanesApart [] (map (lines_left lines) all) → IsTaking s lines first.answers all all first
taking_from s lines all first told ended apart = record {
  others = [];
  answers = sym (append-nil first.answers);
  told = told;
  ended = ended;
  apart = apart;
  lines = refl;
  work = λ w tasks made. owed_from w tasks all (record_of first.pass) made;
}

pub taking_more : (s : Shared) (lines : List Line) (given : List Answer) (all left : List Ended) (e : Ended) (later : List Ended)
    (first next : LaneEnd) → (t : IsTaking s lines given all left first) → left ≡ e ∷ later
    → TakesIn s given t.others (lines_left lines e) next → All (IsEnded s lines given) later
    → ((w : Worker') (k : Task) → AreMade w k e → work_in w (record_of first.pass) + turns_due w k
    ≤ work_in w (record_of next.pass)) → IsTaking s lines given all later next
taking_more s lines given all left e later first next t is takes ended work =
    let both : map asked (t.others ++ takes.more) ≡ map asked t.others ++ lines_left lines e =
    map-append asked t.others takes.more ∙ ap (λ (ls : List Line). map asked t.others ++ ls) takes.lines_are in
    let apart : AreLanesApart (map asked t.others) (map (lines_left lines) (e ∷ later)) =
    subst (λ (es : List Ended). AreLanesApart (map asked t.others) (map (lines_left lines) es)) is t.apart in
    record {
      others = t.others ++ takes.more;
      answers = takes.answers;
      told = takes.told;
      ended = ended;
      apart = subst (λ (ls : List Line). AreLanesApart ls (map (lines_left lines) later)) (sym both) apart.2;
      lines = ap (λ (ls : List Line). ls ++ flat (map (lines_left lines) later)) both
          ∙ append_assoc (map asked t.others) (lines_left lines e) (flat (map (lines_left lines) later))
          ∙ ap (λ (es : List Ended). map asked t.others ++ flat (map (lines_left lines) es)) (sym is) ∙ t.lines;
      work = λ w tasks made. owed_more w tasks left e later (record_of first.pass) (record_of next.pass) is
          (t.work w tasks made) (work w);
    }

pub taking_all : (s : Shared) (lines : List Line) (given : List Answer) (all left : List Ended) (first : LaneEnd)
    → IsTaking s lines given all left first → left ≡ []
    → IsLaneTold s [] (map asked given ++ flat (map (lines_left lines) all)) first
taking_all s lines given all left first t none =
    let others : map asked t.others ≡ flat (map (lines_left lines) all) =
    sym (append-nil (map asked t.others))
    ∙ ap (λ (es : List Ended). map asked t.others ++ flat (map (lines_left lines) es)) (sym none) ∙ t.lines in
    let lines : map asked first.answers ≡ map asked given ++ flat (map (lines_left lines) all) =
    ap (map asked) t.answers ∙ map-append asked given t.others
    ∙ ap (λ (ls : List Line). map asked given ++ ls) others in
    subst (λ (ls : List Line). IsLaneTold s [] ls first) lines t.told

-- and of the turns that the workers owe all are there
pub taken_work : (s : Shared) (lines : List Line) (given : List Answer) (all left : List Ended) (first : LaneEnd)
    → IsTaking s lines given all left first → left ≡ [] → (w : Worker') (tasks : List Task)
    → AllMade w tasks all → total (turns_due w) tasks ≤ work_in w (record_of first.pass)
taken_work s lines given all left first t none w tasks made =
    owed_none w tasks left (record_of first.pass) none (t.work w tasks made)

-- ---- tasks

next : (n : ℕ) → n + 1 ≡ suc n
next n = omega arith

-- the lines of a lane have its number and their form
pub of_lane_lines : (nodes n : ℕ) (before after : List Line) → AreLines nodes before after
    → AreLinesOf nodes n (of_lane n after)
of_lane_lines nodes n before [] are = tt
of_lane_lines nodes n before (l ∷ after) are =
    let later = of_lane_lines nodes n (before ++ l ∷ []) after are.1 in
    elim (cases_Bool (nat_eq l.lane.n n)) [
      | inl same ↦
          let at : l.lane.n ≡ n = grind (arith, same) in
          rw same ((at, are.0.request), later)
      | inr other ↦ rw other later
    ]

pub dealt_none : (s : Shared) (lines : List Line) (p : Pass) → IsPassOf s p
    → (record_of p).share ≡ 64 → IsDealt s lines 0 0 (record_of p) [] p
dealt_none s lines p of whole = record {
  of = of;
  most = omega (arith, whole);
  share = (record_of p).share;
  own = (record_of p).own;
  left = refl;
  starts = All-nil (λ (t : Task). HasAllOf (record_of p) (record_of t.pass));
  ready = λ names known are. All-nil (IsTaskReady s lines names);
  lines_are = refl;
  apart = λ are. tt;
}

-- a lane that no line is of has no lines
pub none_of : (n : ℕ) (lines : List Line) → has_lines n lines ≡ false → of_lane n lines ≡ []
none_of n [] none = refl
none_of n (l ∷ lines) none = elim (cases_Bool (nat_eq l.lane.n n)) [
  | inl same ↦ let e : true ≡ false = rw same at none in absurd cc
  | inr other ↦ rw other (none_of n lines (rw other at none))
]

-- it is passed over
pub dealt_over : (s : Shared) (lines : List Line) (n m : ℕ) (v : View) (tasks : List Task) (p : Pass)
    → IsDealt s lines n m v tasks p → has_lines (n + 1) lines ≡ false
    → IsDealt s lines (n + 1) (m + 1) v tasks p
dealt_over s lines n m v tasks p d off =
    let none : of_lane (suc n) lines ≡ [] =
    none_of (suc n) lines (ap (λ (k : ℕ). has_lines k lines) (sym (next n)) ∙ off) in
    subst (λ (k : ℕ). IsDealt s lines k (m + 1) v tasks p) (sym (next n))
    (subst (λ (k : ℕ). IsDealt s lines (suc n) k v tasks p) (sym (next m)) (record {
      of = d.of;
      most = let most = d.most in omega (arith, most);
      share = d.share;
      own = d.own;
      left = d.left;
      starts = d.starts;
      ready = d.ready;
      lines_are = d.lines_are ∙ sym (append-nil (lanes_up_to n lines))
          ∙ ap (λ (ls : List Line). lanes_up_to n lines ++ ls) (sym none);
      apart = d.apart;
    }))

-- the record of a pass that was split off one of which tasks were split off
abbrev rest : View → ℕ → List ℕ → View
rest v share own = record v { share = share; own = own }

module _ (s : Shared) (lines : List Line) (n m : ℕ) (v : View) (tasks new : List Task) (p q : Pass)
    (body : Body) (d : IsDealt s lines n m v tasks p)
    (one : IsDealtOne s body (record_of p) tasks new) (of : IsPassOf s q)
    (left : record_of q ≡ left_of 1 (record_of p)) (enough : 2 ≤ (record_of p).share) where
  left_so : record_of q ≡ record v { share = (record_of p).share - 1; own = [] }
  left_so = left ∙ (λ i. record (d.left i) { share = (record_of p).share - 1; own = [] })

  right_so : record_of one.task.pass ≡ right_of 1 (rest v d.share d.own)
  right_so = one.right ∙ ap (right_of 1) d.left

  most_so : 64 ≤ (record_of q).share + suc m
  most_so = let most = d.most in let e = ap (λ (w : View). w.share) left in omega (arith, most, e, enough)

  task_ready : (names : List Named) → KnowsNames v names
      → BodyIsReady s.config.nodes lines names (right_of 1 (rest v d.share d.own)) body
      → IsTaskReady s lines names one.task
  task_ready names known ready = record {
    of = one.of;
    fresh = subst IsFreshRecord (sym right_so) (right_fresh 1 (rest v d.share d.own));
    body = subst (λ (w : View). BodyIsReady s.config.nodes lines names w one.task.body) (sym right_so)
        (subst (BodyIsReady s.config.nodes lines names (right_of 1 (rest v d.share d.own))) (sym one.body_is) ready);
  }

  due_so : map (lines_due lines) new ≡ map (lines_due lines) tasks ++ lines_in lines body ∷ []
  due_so = ap (map (lines_due lines)) one.tasks ∙ map-append (lines_due lines) tasks (one.task ∷ [])
      ∙ ap (λ (b : Body). map (lines_due lines) tasks ++ lines_in lines b ∷ []) one.body_is

  flat_so : flat (map (lines_due lines) new) ≡ lanes_up_to n lines ++ lines_in lines body
  flat_so = ap flat due_so ∙ flat-push (map (lines_due lines) tasks) (lines_in lines body)
      ∙ ap (λ (ls : List Line). ls ++ lines_in lines body) d.lines_are

  apart_so : AreLines s.config.nodes [] lines → IsApart (lanes_up_to n lines) (lines_in lines body)
      → AreOfOthers (lanes_up_to n lines) (lines_in lines body) → AreLanesApart [] (map (lines_due lines) new)
  apart_so are is others = subst (AreLanesApart []) (sym due_so) (apart-push [] (map (lines_due lines) tasks) (lines_in lines body)
      (d.apart are) (subst (λ (ls : List Line). IsApart ls (lines_in lines body)) (sym d.lines_are) is)
      (subst (λ (ls : List Line). AreOfOthers ls (lines_in lines body)) (sym d.lines_are) others))

  start_so : HasAllOf v (record_of one.task.pass)
  start_so = subst (HasAllOf v) (sym right_so) (has_split 1 (rest v d.share d.own))

  dealt_as : (k : ℕ) → lanes_up_to n lines ++ lines_in lines body ≡ lanes_up_to k lines
      → ((names : List Named) → KnowsNames v names → AreLines s.config.nodes [] lines
      → BodyIsReady s.config.nodes lines names (right_of 1 (rest v d.share d.own)) body)
      → (AreLines s.config.nodes [] lines → IsApart (lanes_up_to n lines) (lines_in lines body))
      → AreOfOthers (lanes_up_to n lines) (lines_in lines body) → IsDealt s lines k (suc m) v new q
  dealt_as k lanes ready apart others = record {
    of = of;
    most = most_so;
    share = (record_of p).share - 1;
    own = [];
    left = left_so;
    starts = subst (All (λ (t : Task). HasAllOf v (record_of t.pass))) (sym one.tasks)
        (All-push (λ (t : Task). HasAllOf v (record_of t.pass)) tasks one.task d.starts start_so);
    ready = λ names known are. subst (All (IsTaskReady s lines names)) (sym one.tasks)
        (All-push (IsTaskReady s lines names) tasks one.task (d.ready names known are)
        (task_ready names known (ready names known are)));
    lines_are = flat_so ∙ lanes;
    apart = λ are. apart_so are (apart are) others;
  }

dealt_lane_so : (s : Shared) (lines : List Line) (n m : ℕ) (v : View) (tasks new : List Task)
    (p q : Pass) (lane : Lane') → IsDealt s lines n m v tasks p
    → IsDealtOne s (Lane lane) (record_of p) tasks new → IsPassOf s q
    → record_of q ≡ left_of 1 (record_of p) → 2 ≤ (record_of p).share
    → lane.n ≡ suc n → IsDealt s lines (n + 1) (m + 1) v new q
dealt_lane_so s lines n m v tasks new p q lane d one of left enough at =
    let is : of_lane lane.n lines ≡ of_lane (suc n) lines = ap (λ (k : ℕ). of_lane k lines) at in
    subst (λ (k : ℕ). IsDealt s lines k (m + 1) v new q) (sym (next n))
    (subst (λ (k : ℕ). IsDealt s lines (suc n) k v new q) (sym (next m))
    (dealt_as s lines n m v tasks new p q (Lane lane) d one of left enough (suc n)
    (ap (λ (ls : List Line). lanes_up_to n lines ++ ls) is)
    (λ names known are. (
      of_lane_lines s.config.nodes lane.n [] lines are,
      right_knows_names names 1 (rest v d.share d.own) known,
      omega (arith, at),
    ))
    (λ are. subst (IsApart (lanes_up_to n lines)) (sym is) (lane_is_apart s.config.nodes n lines are))
    (subst (AreOfOthers (lanes_up_to n lines)) (sym is) (lane_is_of_others n lines))))

-- the task of the next lane
pub dealt_lane : (s : Shared) (lines : List Line) (n m : ℕ) (v : View) (tasks new : List Task)
    (p q : Pass) (lane : Lane') → IsDealt s lines n m v tasks p
    → IsDealtOne s (Lane lane) (record_of p) tasks new → IsPassOf s q
    → record_of q ≡ left_of 1 (record_of p) → 2 ≤ (record_of p).share
    → lane.n ≡ n + 1 → IsDealt s lines (n + 1) (m + 1) v new q
dealt_lane s lines n m v tasks new p q lane d one of left enough at =
    dealt_lane_so s lines n m v tasks new p q lane d one of left enough (at ∙ next n)

-- the task of a worker
pub dealt_worker : (s : Shared) (lines : List Line) (n m : ℕ) (v : View) (tasks new : List Task)
    (p q : Pass) (worker : Worker') (turns : ℕ) → IsDealt s lines n m v tasks p
    → IsDealtOne s (Worker worker turns) (record_of p) tasks new → IsPassOf s q
    → record_of q ≡ left_of 1 (record_of p) → 2 ≤ (record_of p).share
    → IsDealt s lines n (m + 1) v new q
dealt_worker s lines n m v tasks new p q worker turns d one of left enough =
    subst (λ (k : ℕ). IsDealt s lines n k v new q) (sym (next m))
    (dealt_as s lines n m v tasks new p q (Worker worker turns) d one of left enough n
    (append-nil (lanes_up_to n lines)) (λ names known are. tt)
    (λ are. no_lines_apart (lanes_up_to n lines)) (no_lines_of_others (lanes_up_to n lines)))

-- ---- all together

-- of two lists of one length whose elements give the same, the maps are the same
pub same_maps : {A B C : Type 0} (f : A → C) (g : B → C) (xs : List A) (ys : List B)
    → length xs ≡ length ys
    → ((i : ℕ) (d : A) (e : B) → i < length ys → f (slice_index_or xs i d) ≡ g (slice_index_or ys i e))
    → map f xs ≡ map g ys
same_maps f g [] [] len each = refl
same_maps f g [] (y ∷ ys) len each = absurd (omega (arith, len))
same_maps f g (x ∷ xs) [] len each = absurd (omega (arith, len))
same_maps {C = C} f g (x ∷ xs) (y ∷ ys) len each =
    ap (λ (c : C). c ∷ map f xs) (each 0 x y (omega arith))
    ∙ ap (λ (cs : List C). g y ∷ cs) (same_maps f g xs ys (omega (arith, len))
    (λ i d e l. each (suc i) d e (omega (arith, l))))

-- the pass of which tasks were split off has all that it had
pub told_left : (s : Shared) (given : List Answer) (lines : List Line) (a b : LaneEnd) (share : ℕ) (own : List ℕ)
    → IsLaneTold s given lines a → b.answers ≡ a.answers → IsPassOf s b.pass
    → record_of b.pass ≡ record (record_of a.pass) { share = share; own = own }
    → IsLaneTold s given lines b
told_left s given lines a b share own told same of left = record {
  of = of;
  lines_are = ap (map asked) same ∙ told.lines_are;
  replies = subst (AllByRecursion HasLineReply) (sym same) told.replies;
  last = subst (AllByRecursion HasLastTry) (sym same) told.last;
  backs = subst (λ (v : View). Backs (as_part v) (tolds given b.answers)) (sym left)
      (subst (λ (xs : List Answer). Backs (as_part (record_of a.pass)) (tolds given xs)) (sym same) told.backs);
  suits = subst (λ (v : View). AreSuited v.seen (tolds given b.answers)) (sym left)
      (subst (λ (xs : List Answer). AreSuited (record_of a.pass).seen (tolds given xs)) (sym same) told.suits);
  rises = subst (NeverFall given) (sym same) told.rises;
  scopes = subst (AreScoped given) (sym same) told.scopes;
  alone = λ one. subst (KeepAloneWith s.config.nodes given) (sym same) (told.alone one);
}

pub told_again : (s : Shared) (given : List Answer) (lines : List Line) (e : LaneEnd)
    → IsLaneTold s given lines e → IsLaneTold s given (map asked e.answers) e
told_again s given lines e told =
    subst (λ (ls : List Line). IsLaneTold s given ls e) (sym told.lines_are) told

-- what is left of the tasks of all lanes and workers
pub left_apart : (s : Shared) (lines : List Line) (v : View) (tasks : List Task) (p : Pass)
    (ends : List Ended) → IsDealt s lines 15 19 v tasks p → AreLines s.config.nodes [] lines
    → map (lines_left lines) ends ≡ map (lines_due lines) tasks → AreLanesApart [] (map (lines_left lines) ends)
left_apart s lines v tasks p ends dealt are same =
    subst (AreLanesApart []) (sym same) (dealt.apart are)

pub all_told : (s : Shared) (lines : List Line) (a b c : LaneEnd) (tasks : List Task)
    (ends : List Ended) → IsLaneTold s [] (of_lane 0 lines) a → b.answers ≡ a.answers
    → IsDealt s lines 15 19 (record_of a.pass) tasks b.pass
    → map (lines_left lines) ends ≡ map (lines_due lines) tasks
    → IsLaneTold s [] (map asked b.answers ++ flat (map (lines_left lines) ends)) c
    → IsLaneTold s [] (by_lane lines) c
all_told s lines a b c tasks ends first same dealt lefts told =
    let own : map asked b.answers ≡ of_lane 0 lines = ap (map asked) same ∙ first.lines_are in
    let others : flat (map (lines_left lines) ends) ≡ lanes_up_to 15 lines = ap flat lefts ∙ dealt.lines_are in
    let lines_are : map asked b.answers ++ flat (map (lines_left lines) ends) ≡ by_lane lines =
    ap (λ (ls : List Line). ls ++ flat (map (lines_left lines) ends)) own
    ∙ ap (λ (ls : List Line). of_lane 0 lines ++ ls) others in
    subst (λ (ls : List Line). IsLaneTold s [] ls c) lines_are told

-- the first of those that are left, and the others
pub first_ended : (s : Shared) (lines : List Line) (given : List Answer) (left : List Ended) (e : Ended)
    (later : List Ended) → All (IsEnded s lines given) left → left ≡ e ∷ later → IsEnded s lines given e
first_ended s lines given left e later all is =
    All-head (IsEnded s lines given) e later (subst (All (IsEnded s lines given)) is all)

pub others_ended : (s : Shared) (lines : List Line) (given : List Answer) (left : List Ended) (e : Ended)
    (later : List Ended) → All (IsEnded s lines given) left → left ≡ e ∷ later
    → All (IsEnded s lines given) later
others_ended s lines given left e later all is =
    All-tail (IsEnded s lines given) e later (subst (All (IsEnded s lines given)) is all)

pub first_apart : (s : Shared) (lines : List Line) (given : List Answer) (all left : List Ended) (e : Ended)
    (later : List Ended) (first : LaneEnd) → (t : IsTaking s lines given all left first) → left ≡ e ∷ later
    → IsApart (map asked t.others) (lines_left lines e)
first_apart s lines given all left e later first t is =
    let apart : AreLanesApart (map asked t.others) (map (lines_left lines) (e ∷ later)) =
    subst (λ (es : List Ended). AreLanesApart (map asked t.others) (map (lines_left lines) es)) is t.apart in
    apart.0

pub first_of_others : (s : Shared) (lines : List Line) (given : List Answer) (all left : List Ended) (e : Ended)
    (later : List Ended) (first : LaneEnd) → (t : IsTaking s lines given all left first) → left ≡ e ∷ later
    → AreOfOthers (map asked t.others) (lines_left lines e)
first_of_others s lines given all left e later first t is =
    let apart : AreLanesApart (map asked t.others) (map (lines_left lines) (e ∷ later)) =
    subst (λ (es : List Ended). AreLanesApart (map asked t.others) (map (lines_left lines) es)) is t.apart in
    apart.1
