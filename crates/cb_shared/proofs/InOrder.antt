-- Turns that come in order: a wider order, more of them behind those that ask for these, and one
-- with the job that it asks for.
use Rattle.std.proofs.Common.{◌≡◌, ℕ, Bool, true, false, ◌||◌, List, [], ◌∷◌, ◌++◌, Option, Some}
use Rattle.std.proofs.Common.{append_assoc, sym, refl, ap, ◌∙◌, subst, true≢false}
use Rattle.std.proofs.lemmas.Bool.{eqb-false}
use Rattle.cb_types.specs.declared.job.Job.{Job}
use Rattle.cb_types.specs.declared.job.Job.TheVariants as jobs
use Rattle.cb_types.specs.Jobs.{job_index}
use Rattle.cb_types.specs.declared.order.DecodeOrder.{DecodeOrder}
use Rattle.cb_types.specs.declared.reply.Reply.{Reply}
use Rattle.cb_types.specs.declared.reply.Reply.TheVariants as answer
use Rattle.cb_rule.specs.declared.turn.Turn.{Turn}
use Rattle.cb_rule.specs.declared.view.View.{View}
use Rattle.cb_shared.specs.declared.ways.Landing.{Landing}
use Rattle.cb_shared.specs.declared.ways.Landing.TheVariants as landing
use Rattle.cb_shared.specs.declared.ways.Way.{Way}
use Rattle.cb_shared.specs.declared.ways.Way.TheVariants as ways
use Rattle.cb_shared.specs.Calls.{the_handle}
use Rattle.cb_shared.specs.Fetching.{AreBringing, AreBringingTo, AreDone, AreFetches, AreOneTry}
use Rattle.cb_shared.specs.Fetching.{AreTried, ComeInOrder, GetsTurns, IsOfTry, TriesOnward}
use Rattle.cb_shared.specs.Fetching.{brings, brought_in_by, finds_here, found_here_by}
use Rattle.cb_shared.specs.Fetching.{job_after_land, job_behind, job_behind_fetch}
use Rattle.cb_shared.specs.Fetching.{job_behind_turn, job_onward, job_to_fetch}
use Rattle.cb_shared.specs.Ways.{IsFound, IsLandedBy, IsLandingTold, IsWayTold}

-- ---- a wider order
pub in_order_wider : (may more : List Turn → Job → Type 0)
    → ((us : List Turn) (j : Job) → may us j → more us j)
    → (ts : List Turn) → ComeInOrder may ts → ComeInOrder more ts
in_order_wider may more f [] x = tt
in_order_wider may more f (t ∷ ts) x = (f ts t.job x.0, in_order_wider may more f ts x.1)

-- ---- what did not find the object here has not brought it in
or_left_false : (a b : Bool) → (a || b) ≡ false → a ≡ false
or_left_false true b e = e
or_left_false false b e = refl

or_right_false : (a b : Bool) → (a || b) ≡ false → b ≡ false
or_right_false true b e = absurd (true≢false e)
or_right_false false b e = e

here_brings : (o : Option Reply) → finds_here o ≡ false → brings o ≡ false
here_brings (Some answer.Stays) e = refl
here_brings o e = e

not_brought : (ts : List Turn) → found_here_by ts ≡ false → brought_in_by false ts ≡ false
not_brought [] e = refl
not_brought (t ∷ ts) e =
    let a = here_brings t.reply (or_left_false (finds_here t.reply) (found_here_by ts) e) in
    let b = not_brought ts (or_right_false (finds_here t.reply) (found_here_by ts) e) in
    λ i. a i || b i

here_more : (us ts : List Turn) → found_here_by ts ≡ false → found_here_by us ≡ false
    → found_here_by (us ++ ts) ≡ false
here_more [] ts x e = x
here_more (u ∷ us) ts x e =
    let a = or_left_false (finds_here u.reply) (found_here_by us) e in
    let b = here_more us ts x (or_right_false (finds_here u.reply) (found_here_by us) e) in
    λ i. a i || b i

-- one try is of a read, and of a call that never reads
pub try_fetches : (h : ℕ) (ts : List Turn) → AreOneTry h ts → AreFetches h false ts
try_fetches h ts x = in_order_wider (IsOfTry h (jobs.Fetch (the_handle h)))
    (λ us j. j ≡ job_to_fetch h (brought_in_by false us) us)
    (λ us j is. is.0 ∙ sym (ap (λ (b : Bool). job_to_fetch h b us) (not_brought us is.1))) ts x

try_brings : (h : ℕ) (ts : List Turn) → AreOneTry h ts → AreBringing h ts
try_brings h ts x = in_order_wider (IsOfTry h (jobs.Fetch (the_handle h)))
    (λ us j. j ≡ job_behind h us) (λ us j is. is.0) ts x

-- ---- one turn after the other
pub in_order_more : (may more : List Turn → Job → Type 0) (us ts : List Turn)
    → ((xs : List Turn) (j : Job) → may xs j → more (xs ++ ts) j)
    → ComeInOrder may us → ComeInOrder more ts → ComeInOrder more (us ++ ts)
in_order_more may more [] ts f x y = y
in_order_more may more (u ∷ us) ts f x y = (f us u.job x.0, in_order_more may more us ts f x.1 y)

-- behind turns that ask for this job the first one has the job that it has where this one comes first
pub onward_more : (h : ℕ) (first next : Job) (us ts : List Turn) → job_onward h first ts ≡ next
    → job_onward h next us ≡ job_onward h first (us ++ ts)
onward_more h first next [] ts on = sym on
onward_more h first next (u ∷ us) ts on = refl

pub behind_more : (h : ℕ) (us ts : List Turn) → AreDone h ts
    → job_behind h us ≡ job_behind h (us ++ ts)
behind_more h us ts done =
    onward_more h (jobs.Fetch (the_handle h)) (jobs.Fetch (the_handle h)) us ts done

-- where its job is as that one asks
pub order_more : (h : ℕ) (first next : Job) (may : Job → Job → Type 0) (us ts : List Turn)
    → job_onward h first ts ≡ next → ComeInOrder (λ xs j. may (job_onward h next xs) j) us
    → ComeInOrder (λ xs j. may (job_onward h first xs) j) ts
    → ComeInOrder (λ xs j. may (job_onward h first xs) j) (us ++ ts)
order_more h first next may us ts on x y = in_order_more
    (λ xs j. may (job_onward h next xs) j) (λ xs j. may (job_onward h first xs) j) us ts
    (λ xs j is. subst (λ (k : Job). may k j) (onward_more h first next xs ts on) is) x y

pub tries_more : (h : ℕ) (first next : Job) (us ts : List Turn) → job_onward h first ts ≡ next
    → found_here_by ts ≡ false → TriesOnward h next us → TriesOnward h first ts
    → TriesOnward h first (us ++ ts)
tries_more h first next us ts on here x y = in_order_more (IsOfTry h next) (IsOfTry h first) us ts
    (λ xs j is. (is.0 ∙ onward_more h first next xs ts on, here_more xs ts here is.1)) x y

pub done_more : (h : ℕ) (us ts : List Turn) → AreDone h ts → AreDone h us → AreDone h (us ++ ts)
done_more h us ts x y = sym (behind_more h us ts x) ∙ y

pub turns_then : (ts us : List Turn) (v w u : View) → w.turns ≡ ts ++ v.turns
    → u.turns ≡ us ++ w.turns → u.turns ≡ (us ++ ts) ++ v.turns
turns_then ts us v w u got more =
    more ∙ ap (λ (xs : List Turn). us ++ xs) got ∙ sym (append_assoc us ts v.turns)

-- those of a call that brings the object in: its tries so far, and a try behind them
bringing_more : (h : ℕ) (us ts : List Turn) → AreTried h ts → AreBringing h us
    → AreBringing h (us ++ ts)
bringing_more h us ts (are, done) new = order_more h (jobs.Fetch (the_handle h))
    (jobs.Fetch (the_handle h)) (λ k j. j ≡ k) us ts done new are

pub bringing_then : (h : ℕ) (v m w : View) → GetsTurns (AreTried h) v m
    → GetsTurns (AreBringing h) m w → GetsTurns (AreBringing h) v w
bringing_then h v m w (ts, got, tried) (us, more, new) =
    (us ++ ts, turns_then ts us v m w got more, bringing_more h us ts tried new)

pub tried_then : (h : ℕ) (v m w : View) → GetsTurns (AreTried h) v m → GetsTurns (AreTried h) m w
    → GetsTurns (AreTried h) v w
tried_then h v m w (ts, got, tried) (us, more, (new, ended)) = (
  us ++ ts,
  turns_then ts us v m w got more,
  (bringing_more h us ts tried new, done_more h us ts tried.1 ended),
)

pub none_tried : (h : ℕ) (v w : View) → w.turns ≡ v.turns → GetsTurns (AreTried h) v w
none_tried h v w same = ([], same, (tt, refl))

pub gets_bringing : (h : ℕ) (v w : View) → GetsTurns (AreOneTry h) v w
    → GetsTurns (AreBringing h) v w
gets_bringing h v w (ts, got, x) = (ts, got, try_brings h ts x)

pub gets_tried : (h : ℕ) (b m : Bool) (v w : View) → GetsTurns (AreBringingTo h b m) v w
    → GetsTurns (AreTried h) v w
gets_tried h b m v w (ts, got, (x, after, done)) = (ts, got, (try_brings h ts x, done))

-- ---- one turn, and the job that it asks for: it neither brought the object in nor found it here
pub record IsTurnTo (h : ℕ) (first next : Job) (before after : Bool) (ts : List Turn) : Type 0 where
  pub turn : Turn
  pub one : ts ≡ turn ∷ []
  pub of : turn.job ≡ first
  pub asks : job_behind_turn h first turn.reply ≡ next
  pub knows : after ≡ (brings turn.reply || before)
  pub here : finds_here turn.reply ≡ false

-- a fetch, by its way: an order was handed out, or the row is not lost
told_to : (h : ℕ) (way : Way) (told : Option Reply) (next : Job) (b m : Bool) (v w : View)
    → job_behind_fetch h told ≡ next → finds_here told ≡ false
    → ((r : Option Reply) → IsWayTold way r → r ≡ told) → GetsTurns (IsFound h way b m) v w
    → GetsTurns (IsTurnTo h (jobs.Fetch (the_handle h)) next b m) v w
told_to h way told next b m v w asks here only (ts, got, (t, one, of, reply, after)) = (
  ts,
  got,
  record {
    turn = t;
    one = one;
    of = of;
    asks = ap (job_behind_fetch h) (only t.reply reply) ∙ asks;
    knows = after;
    here = ap finds_here (only t.reply reply) ∙ here;
  },
)

pub made_to : (h : ℕ) (way : Way) (o : DecodeOrder) (b m : Bool) (v w : View) → way ≡ ways.Made o
    → GetsTurns (IsFound h way b m) v w
    → GetsTurns (IsTurnTo h (jobs.Fetch (the_handle h)) jobs.Land b m) v w
made_to h way o b m v w is x =
    told_to h way (Some (answer.Fetched (record { n = o.set }) o.position)) jobs.Land b m v w refl
    refl (λ r y. subst (λ (z : Way). IsWayTold z r) is y) x

pub direct_to : (h : ℕ) (way : Way) (b m : Bool) (v w : View) → way ≡ ways.Direct
    → GetsTurns (IsFound h way b m) v w
    → GetsTurns (IsTurnTo h (jobs.Fetch (the_handle h)) (jobs.Swap (the_handle h)) b m) v w
direct_to h way b m v w is x =
    told_to h way (Some answer.Direct) (jobs.Swap (the_handle h)) b m v w refl refl
    (λ r y. subst (λ (z : Way). IsWayTold z r) is y) x

-- a landing that lacks something
lacks_not_here : (h : ℕ) (o : Option Reply) → job_after_land h o ≡ jobs.Swap (the_handle h)
    → finds_here o ≡ false
lacks_not_here h (Some answer.Stays) e = absurd (eqb-false 21 4 refl (ap job_index e))
lacks_not_here h (Some (answer.Swapped frame)) e =
    absurd (eqb-false 21 4 refl (ap job_index e))
lacks_not_here h o e = refl

pub lacks_to : (h : ℕ) (l : Landing) (b m : Bool) (v w : View) → l ≡ landing.Lacks
    → GetsTurns (IsLandedBy l b m) v w
    → GetsTurns (IsTurnTo h jobs.Land (jobs.Swap (the_handle h)) b m) v w
lacks_to h l b m v w is (ts, got, (t, one, of, told, after)) =
    let asks = subst (λ (z : Landing). IsLandingTold z t.reply) is told h in (
      ts,
      got,
      record {
        turn = t;
        one = one;
        of = of;
        asks = asks;
        knows = after;
        here = lacks_not_here h t.reply asks;
      },
    )

-- behind it that job comes
pub asked_by : (h : ℕ) (first next : Job) (b m : Bool) (ts : List Turn)
    → IsTurnTo h first next b m ts → job_onward h first ts ≡ next
asked_by h first next b m ts x = ap (job_onward h first) x.one
    ∙ ap (λ (j : Job). job_behind_turn h j x.turn.reply) x.of ∙ x.asks

pub not_here : (h : ℕ) (first next : Job) (b m : Bool) (ts : List Turn)
    → IsTurnTo h first next b m ts → found_here_by ts ≡ false
not_here h first next b m ts x =
    ap found_here_by x.one ∙ ap (λ (z : Bool). z || false) x.here
