-- Lanes that run from clocks, the one order of their answers, and lanes and orders that break one part.
use Rattle.std.proofs.Common.{◌≡◌, ℕ, zero, suc, false, eqb, ◌≤◌, List, [], ◌∷◌, length, Some, refl, arith, inl, inr}
use Rattle.std.specs.List.{filter}
use Rattle.std.specs.Str.{bytes_eq}
use Rattle.std.proofs.lemmas.Bool.{cases_Bool, ne_eqb}
use Rattle.cb_types.specs.declared.answer.Answer.{Answer}
use Rattle.cb_types.specs.declared.request.Request.TheVariants.{Read}
use Rattle.cb_types.specs.declared.reply.Reply.TheVariants.{Bytes, Moving}
use Rattle.cb_model.specs.Now.Change.{Create, Overwrite}
use Rattle.cb_model.specs.Called.{calls_of, history}
use Rattle.cb_model.specs.History.{IsHistory}
use Rattle.cb_model.specs.Legal.{IsLegal}
use Rattle.cb_model.specs.Serial.{IsSerial}
use Rattle.cb_model.specs.Times.{Timed, changes_at, untimed}
use Rattle.cb_model.specs.Shown.{HandleChange, HaveKnownNames, IsMadeBefore, MakeHistory, makes_name, next_of}
use Rattle.cb_model.specs.Lanes.{LaneRun, RunsAlone, RunTogether, RunInLanes, AreDatedInLanes, all_calls}
use Rattle.cb_model.proofs.WorkedAnswers.{told, a}
use Rattle.cb_model.proofs.WorkedTimes.{at, make_a, write_a, not_told}
use Rattle.cb_model.proofs.Lanes.{serial_by_lanes}
use Rattle.cb_model.proofs.Stages.{up_to}

-- lane 0 makes an object; lane 1 writes it; lane 2 is refused a read and then reads the old bytes;
-- lane 3 has no lines
abbrev pub refused : Answer
refused = told 2 (Read a) Moving

abbrev pub read_old : Answer
read_old = told 2 (Read a) (Bytes 1 (1 ∷ []))

abbrev pub changes : List HandleChange
changes =
    record { handle = 0; change = (1, Create (1 ∷ [])) }
    ∷ record { handle = 0; change = (2, Overwrite 0 (2 ∷ [])) }
    ∷ []

abbrev pub lane_of : ℕ → List Timed → LaneRun
lane_of number calls = record { number = number; calls = calls }

abbrev pub lane_0 : LaneRun
lane_0 = lane_of 0 (at 0 make_a ∷ [])

abbrev pub lane_1 : LaneRun
lane_1 = lane_of 1 (at 1 write_a ∷ [])

abbrev lane_2 : LaneRun
lane_2 = lane_of 2 (at 1 refused ∷ at 1 read_old ∷ [])

abbrev lane_3 : LaneRun
lane_3 = lane_of 3 []

abbrev lanes : List LaneRun
lanes = lane_1 ∷ lane_2 ∷ lane_3 ∷ []

abbrev pub answers : List Answer
answers = make_a ∷ write_a ∷ refused ∷ read_old ∷ []

their_answers : untimed (all_calls lane_0 lanes) ≡ answers
their_answers = refl

are_legal : IsLegal 1 2 answers
are_legal = record {
  histories = each;
  told = (omega arith, (tt, (tt, (refl, tt))));
  rising = (
    (
      λ h teller earlier later v e. (let one : 1 ≡ v = cc in omega arith),
      (
        λ h teller earlier later v e. tt,
        (λ h teller earlier later v e. (let one : 1 ≡ v = cc in omega arith), tt),
      ),
    ),
    (
      (
        λ h teller earlier later. absurd (not_told teller),
        (λ h teller earlier later. absurd (not_told teller), tt),
      ),
      ((λ h teller earlier later v e. absurd cc, tt), (tt, tt)),
    ),
  );
} where
  each : (h : ℕ) → IsHistory 1 (history (calls_of answers) h)
  each zero = (refl, (refl, omega arith, tt))
  each (suc h) =
      let other : eqb (suc h) 0 ≡ false = ne_eqb (suc h) 0 (λ e. omega arith) in rw other tt

no_rest : (n : ℕ) → 0 ≡ length (next_of n [])
no_rest zero = refl
no_rest (suc n) = refl

none_later : (n : ℕ) → 2 ≤ n → filter (changes_at n) (all_calls lane_0 lanes) ≡ []
none_later n le =
    simp (ne_eqb 0 n (λ e. omega (arith, e, le)), ne_eqb 1 n (λ e. omega (arith, e, le))) refl

each_change : MakeHistory changes (all_calls lane_0 lanes)
each_change zero = refl
each_change (suc zero) = refl
each_change (suc (suc n)) =
    let none = none_later (suc (suc n)) (omega arith) in rw none (no_rest n)

once : (name : List ℕ) → length (filter (λ (x : Answer). makes_name name x.request) answers) ≤ 1
once name =
    elim (cases_Bool (bytes_eq a name)) [
      | inl is ↦ rw is (omega arith)
      | inr fails ↦ rw fails (omega arith)
    ]

made_a : (lane : ℕ) (later : List Answer) (name : List ℕ) → Some a ≡ Some name
    → IsMadeBefore (make_a ∷ later) lane name
made_a lane later name e = let same : a ≡ name = cc in inl (rw (← same) (refl, inr refl))

are_known : HaveKnownNames answers
are_known = record {
  once = once;
  known = (
    λ name e. absurd cc,
    (
      λ name e. made_a 1 [] name e,
      (
        λ name e. made_a 2 (write_a ∷ []) name e,
        (λ name e. made_a 2 (write_a ∷ refused ∷ []) name e, tt),
      ),
    ),
  );
}

zero_alone : RunsAlone 0 lane_0
zero_alone = record { own = (refl, tt); high = 1; runs = (omega arith, omega arith) }

they_run : RunInLanes lane_0 lanes
unfolding zero_alone
they_run = record { is_zero = refl; first = zero_alone; others = others } where
  others : RunTogether 1 lanes
  others = (
    record { own = (refl, tt); high = 2; runs = (omega arith, omega arith) },
    (λ e. omega (arith, e)),
    ((λ e. omega (arith, e)), ((λ e. omega (arith, e)), tt)),
    (
      record { own = (refl, (refl, tt)); high = 1; runs = (omega arith, (omega arith, omega arith)) },
      (λ e. omega (arith, e)),
      ((λ e. omega (arith, e)), tt),
      (record { own = tt; high = 1; runs = omega arith }, (λ e. omega (arith, e)), tt, tt),
    ),
  )

are_dated : AreDatedInLanes 1 2 changes lane_0 lanes
are_dated = record {
  legal = are_legal;
  run = they_run;
  each = each_change;
  dated = (
    record { tells = (refl, refl); next = λ e. refl },
    (
      record { tells = (1, refl, refl); next = λ e. refl },
      (
        record { tells = tt; next = λ e. absurd cc },
        (record { tells = refl; next = λ e. absurd cc }, tt),
      ),
    ),
  );
  names = are_known;
}

are_serial : IsSerial 1 2 answers
are_serial = serial_by_lanes 1 2 changes lane_0 lanes are_dated

-- the write comes last in their order
their_order : untimed (up_to 2 (all_calls lane_0 lanes)) ≡ make_a ∷ refused ∷ read_old ∷ write_a ∷ []
their_order = refl
