-- Times of answers give one order.
use Rattle.std.proofs.Common.{◌≡◌, ℕ, zero, suc, ◌≤◌, false, eqb, List, [], ◌∷◌, ◌++◌, refl, sym, ap, ◌∙◌, append_assoc, arith, inl, inr}
use Rattle.std.specs.Prelude.{◌≢◌}
use Rattle.std.specs.List.{AllByRecursion, filter}
use Rattle.std.proofs.lemmas.Bool.{cases_Bool, cases_order, cases_lt, eq-eqb, ne_eqb}
use Rattle.std.proofs.lemmas.List.{append-nil}
use Rattle.std.proofs.lemmas.List.Elements.{filter-append}
use Rattle.cb_types.specs.declared.answer.Answer.{Answer}
use Rattle.cb_model.proofs.Order.{legal_in_order}
use Rattle.cb_model.specs.Times.{Timed, AreTimes, IsInProgramOrder, AreInProgramOrder, untimed, changes, changes_at, tells_at, done_by}
use Rattle.cb_model.specs.Serial.{answers_of, IsSerial}
use Rattle.cb_model.proofs.Stages.{up_to, last, whole, is_of, lane_rises, filter-none, filter-all, all_filtered, weaker, tells_later, changes_later}
use Rattle.cb_model.proofs.Following.{follows_up_to, untimed-append}

-- none takes effect before
none_up_to : (n : ℕ) (ts : List Timed) → AllByRecursion (λ (t : Timed). n ≤ t.time) ts → up_to n ts ≡ []
none_up_to zero ts all = refl
none_up_to (suc n) ts all =
    let before = weaker (λ (t : Timed). suc n ≤ t.time) (λ (t : Timed). n ≤ t.time) (λ t le. omega (arith, le)) ts all in
    rw (none_up_to n ts before, filter-none (tells_at n) (λ (t : Timed). suc n ≤ t.time) (tells_later n) ts all, filter-none (changes_at n) (λ (t : Timed). suc n ≤ t.time) (changes_later n) ts all) refl

-- what is done changes nothing more, and behind that time takes no effect
changes_no_more : (n : ℕ) (t : Timed) → done_by t ≤ n → changes_at n t ≡ false
changes_no_more n t done =
    elim (cases_Bool (changes t)) [
      | inl is ↦ rw (ne_eqb t.time n (λ e. omega (arith, e, rw is at done))) refl
      | inr fails ↦ elim (cases_Bool (eqb t.time n)) [ inl here ↦ simp (here, fails) refl | inr not_here ↦ rw not_here refl ]
    ]

tells_no_more : (n : ℕ) (t : Timed) → suc (done_by t) ≤ n → tells_at n t ≡ false
tells_no_more n t done =
    elim (cases_Bool (changes t)) [
      | inl is ↦ rw (ne_eqb t.time n (λ e. omega (arith, e, rw is at done))) refl
      | inr fails ↦ rw (ne_eqb t.time n (λ e. omega (arith, e, rw fails at done))) refl
    ]

-- where the ones are done when the others begin, they come first
pub apart : (m n : ℕ) (zs us : List Timed) → AllByRecursion (λ (t : Timed). done_by t ≤ m) zs
    → AllByRecursion (λ (t : Timed). m ≤ t.time) us → up_to n (zs ++ us) ≡ up_to n zs ++ up_to n us
apart m zero zs us done later = refl
apart m (suc n) zs us done later =
    elim (cases_order n m) [
      | inl e ↦
          let none = none_up_to n us (weaker (λ (t : Timed). m ≤ t.time) (λ (t : Timed). n ≤ t.time) (λ t le. omega (arith, e, le)) us later) in
          let no_change = filter-none (changes_at n) (λ (t : Timed). done_by t ≤ m) (λ t d. changes_no_more n t (omega (arith, e, d))) zs done in
          rw (apart m n zs us done later, filter-append (tells_at n) zs us, filter-append (changes_at n) zs us) (simp (none, no_change, append-nil, append_assoc) refl)
      | inr differs ↦ elim differs [
        | inl lt ↦
            let past = weaker (λ (t : Timed). m ≤ t.time) (λ (t : Timed). suc n ≤ t.time) (λ t le. omega (arith, lt, le)) us later in
            let none = none_up_to n us (weaker (λ (t : Timed). suc n ≤ t.time) (λ (t : Timed). n ≤ t.time) (λ t le. omega (arith, le)) us past) in
            let no_tell = filter-none (tells_at n) (λ (t : Timed). suc n ≤ t.time) (tells_later n) us past in
            let no_change = filter-none (changes_at n) (λ (t : Timed). suc n ≤ t.time) (changes_later n) us past in
            rw (apart m n zs us done later, filter-append (tells_at n) zs us, filter-append (changes_at n) zs us) (simp (none, no_tell, no_change, append-nil) refl)
        | inr gt ↦
            let no_tell = filter-none (tells_at n) (λ (t : Timed). done_by t ≤ m) (λ t d. tells_no_more n t (omega (arith, gt, d))) zs done in
            let no_change = filter-none (changes_at n) (λ (t : Timed). done_by t ≤ m) (λ t d. changes_no_more n t (omega (arith, gt, d))) zs done in
            rw (apart m n zs us done later, filter-append (tells_at n) zs us, filter-append (changes_at n) zs us) (simp (no_tell, no_change, append-nil, append_assoc) refl)
      ]
    ]

all_append : {X : Type 0} (P : X → Type 0) (xs ys : List X) → AllByRecursion P xs
    → AllByRecursion P ys → AllByRecursion P (xs ++ ys)
all_append P [] ys all more = more
all_append P (x ∷ xs) ys all more = (all.0, all_append P xs ys all.1 more)

all_up_to : (P : Timed → Type 0) (n : ℕ) (ts : List Timed) → AllByRecursion P ts
    → AllByRecursion P (up_to n ts)
all_up_to P zero ts all = tt
all_up_to P (suc n) ts all =
    all_append P (up_to n ts) (filter (tells_at n) ts ++ filter (changes_at n) ts) (all_up_to P n ts all)
    (all_append P (filter (tells_at n) ts) (filter (changes_at n) ts) (all_filtered (tells_at n) P ts all) (all_filtered (changes_at n) P ts all))

-- a lane's answers, with and without their times
of_lane-untimed : (lane : ℕ) (ts : List Timed)
    → answers_of lane (untimed ts) ≡ untimed (filter (is_of lane) ts)
of_lane-untimed lane [] = refl
of_lane-untimed lane (t ∷ ts) =
    elim (cases_Bool (is_of lane t)) [
      | inl is ↦ rw is (ap (λ (xs : List Answer). t.answer ∷ xs) (of_lane-untimed lane ts))
      | inr fails ↦ rw fails (of_lane-untimed lane ts)
    ]

-- a time by which lane 0's calls were done, and at which no other one had taken effect
pub record PartsThem (zs us : List Timed) : Type 0 where
  pub parted : ℕ
  pub done : AllByRecursion (λ (t : Timed). done_by t ≤ parted) zs
  pub later : AllByRecursion (λ (t : Timed). parted ≤ t.time) us

from_start : (us : List Timed) → AllByRecursion (λ (t : Timed). 0 ≤ t.time) us
from_start [] = tt
from_start (u ∷ us) = (omega arith, from_start us)

behind_zero : (z : Timed) (zs us : List Timed) → z.answer.lane.n ≡ 0
    → AllByRecursion (IsInProgramOrder z) (zs ++ us) → AllByRecursion (λ (t : Timed). done_by z ≤ t.time) us
behind_zero z [] us of_zero all =
    weaker (IsInProgramOrder z) (λ (t : Timed). done_by z ≤ t.time) (λ t turn. turn (inr of_zero)) us all
behind_zero z (y ∷ zs) us of_zero all = behind_zero z zs us of_zero all.1

parts_them : (zs us : List Timed) → AllByRecursion (λ (t : Timed). t.answer.lane.n ≡ 0) zs
    → AreInProgramOrder (zs ++ us) → PartsThem zs us
parts_them [] us of_zero turn = record { parted = 0; done = tt; later = from_start us }
parts_them (z ∷ zs) us of_zero turn =
    let p = parts_them zs us of_zero.1 turn.1 in
    let behind = behind_zero z zs us of_zero.0 turn.0 in
    elim (cases_lt (done_by z) p.parted) [
      | inl lt ↦ record { parted = p.parted; done = (omega (arith, lt), p.done); later = p.later }
      | inr le ↦ record {
        parted = done_by z;
        done = (omega arith, weaker (λ (t : Timed). done_by t ≤ p.parted) (λ (t : Timed). done_by t ≤ done_by z) (λ t d. omega (arith, d, le)) zs p.done);
        later = behind;
      }
    ]

-- Answers with such times are those of one order, which is legal in order.
pub serial : (first handles : ℕ) (ts : List Timed) → AreTimes first handles ts
    → IsSerial first handles (untimed ts)
serial first handles ts times =
    let n = last ts in
    let z = times.zero_first in
    let is_zero = λ (t : Timed). t.answer.lane.n ≡ 0 in
    let p = parts_them z.zero z.others z.of_zero (rw z.parts at times.in_program_order) in
    let split : up_to n ts ≡ up_to n z.zero ++ up_to n z.others = ap (λ (us : List Timed). up_to n us) z.parts ∙ apart p.parted n z.zero z.others p.done p.later in
    let kept = λ (lane : ℕ). whole (is_of lane) ts (lane_rises lane ts times.in_program_order) in
    let all_zero = filter-all (is_of 0) is_zero (λ t e. eq-eqb t.answer.lane.n 0 e) (up_to n z.zero) (all_up_to is_zero n z.zero z.of_zero) in
    let no_zero = filter-none (is_of 0) (λ (t : Timed). t.answer.lane.n ≢ 0) (λ t e. ne_eqb t.answer.lane.n 0 e) (up_to n z.others) (all_up_to (λ (t : Timed). t.answer.lane.n ≢ 0) n z.others z.of_others) in
    let begins : up_to n z.zero ≡ filter (is_of 0) ts =
    sym (ap (λ (us : List Timed). filter (is_of 0) us) split ∙ filter-append (is_of 0) (up_to n z.zero) (up_to n z.others) ∙ rw (all_zero, no_zero, append-nil) refl) ∙ kept 0 in
    record {
      order = untimed (up_to n ts);
      is = record {
        kept = λ lane. of_lane-untimed lane (up_to n ts) ∙ ap (λ (us : List Timed). untimed us) (kept lane) ∙ sym (of_lane-untimed lane ts);
        others = untimed (up_to n z.others);
        begins = ap (λ (us : List Timed). untimed us) split ∙ untimed-append (up_to n z.zero) (up_to n z.others) ∙ ap (λ (xs : List Answer). xs ++ untimed (up_to n z.others)) (ap (λ (us : List Timed). untimed us) begins ∙ sym (of_lane-untimed 0 ts));
      };
      legal = legal_in_order first handles (untimed (up_to n ts)) (follows_up_to first handles ts times.one times.replies n).follows;
    }
