-- Answers with times, and the order that they give.
use Rattle.std.proofs.Common.{◌≡◌, ℕ, zero, suc, ◌≤◌, List, [], ◌∷◌, length, refl, arith, inl, inr}
use Rattle.std.specs.List.{filter}
use Rattle.std.proofs.lemmas.Bool.{ne_eqb}
use Rattle.cb_types.specs.declared.answer.Answer.{Answer}
use Rattle.cb_types.specs.declared.request.Request.TheVariants.{Make, Read, Write}
use Rattle.cb_types.specs.declared.reply.Reply.TheVariants.{Made, Version, Bytes}
use Rattle.cb_model.specs.Legal.{WasTold}
use Rattle.cb_model.proofs.WorkedAnswers.{told, a}
use Rattle.cb_model.specs.Serial.{IsSerial}
use Rattle.cb_model.specs.Times.{Timed, AreTimes, untimed, changes_at}
use Rattle.cb_model.proofs.Serial.{serial}
use Rattle.cb_model.proofs.Stages.{up_to}

abbrev pub b : List ℕ
b = 98 ∷ []

abbrev pub at : ℕ → Answer → Timed
at n answer = record { time = n; answer = answer }

-- lane 0 makes two objects
abbrev pub make_a : Answer
make_a = told 0 (Make a (1 ∷ [])) (Made (record { n = 0 }) 1)

abbrev pub make_b : Answer
make_b = told 0 (Make b (5 ∷ [])) (Made (record { n = 1 }) 1)

-- lane 1 writes both, and lane 2 reads both between the two writes
abbrev pub write_a : Answer
write_a = told 1 (Write a 0 (2 ∷ [])) (Version 2)

abbrev pub write_b : Answer
write_b = told 1 (Write b 0 (6 ∷ [])) (Version 2)

abbrev pub read_a : Answer
read_a = told 2 (Read a) (Bytes 2 (2 ∷ []))

abbrev pub read_b : Answer
read_b = told 2 (Read b) (Bytes 1 (5 ∷ []))

abbrev pub between : List Timed
between = at 0 make_a ∷ at 1 make_b ∷ at 2 write_a ∷ at 3 write_b ∷ at 3 read_a ∷ at 3 read_b ∷ []

-- the reads come before the write of their time
their_order : untimed (up_to 4 between) ≡ make_a ∷ make_b ∷ write_a ∷ read_a ∷ read_b ∷ write_b ∷ []
their_order = refl

pub none_later : (n : ℕ) → 4 ≤ n → filter (changes_at n) between ≡ []
none_later n le =
    simp (ne_eqb 0 n (λ e. omega (arith, e, le)), ne_eqb 1 n (λ e. omega (arith, e, le)), ne_eqb 2 n (λ e. omega (arith, e, le)), ne_eqb 3 n (λ e. omega (arith, e, le))) refl

one_change : (n : ℕ) → length (filter (changes_at n) between) ≤ 1
one_change zero = omega arith
one_change (suc zero) = omega arith
one_change (suc (suc zero)) = omega arith
one_change (suc (suc (suc zero))) = omega arith
one_change (suc (suc (suc (suc n)))) =
    rw (none_later (suc (suc (suc (suc n)))) (omega arith)) (omega arith)

pub not_told : WasTold 1 2 → ⊥
not_told (inl same) = omega (arith, same)
not_told (inr first) = omega (arith, first)

pub are_times : AreTimes 1 2 between
are_times = record {
  one = one_change;
  replies = (
    record { reply = (refl, omega arith, refl); unmade = tt },
    (
      record { reply = (refl, omega arith, refl); unmade = tt },
      (
        record { reply = (omega arith, refl); unmade = tt },
        (
          record { reply = (omega arith, refl); unmade = tt },
          (
            record { reply = (refl, refl); unmade = tt },
            (record { reply = (refl, refl); unmade = tt }, tt),
          ),
        ),
      ),
    ),
  );
  in_program_order = (
    (λ e. omega arith, (λ e. omega arith, (λ e. omega arith, (λ e. omega arith, (λ e. omega arith, tt))))),
    (
      (λ e. omega arith, (λ e. omega arith, (λ e. omega arith, (λ e. omega arith, tt)))),
      (
        (λ e. omega arith, (λ e. omega arith, (λ e. omega arith, tt))),
        ((λ e. absurd (not_told e), (λ e. absurd (not_told e), tt)), ((λ e. omega arith, tt), (tt, tt))),
      ),
    ),
  );
  zero_first = record {
    zero = at 0 make_a ∷ at 1 make_b ∷ [];
    others = at 2 write_a ∷ at 3 write_b ∷ at 3 read_a ∷ at 3 read_b ∷ [];
    parts = refl;
    of_zero = (refl, (refl, tt));
    of_others = (λ e. omega (arith, e), (λ e. omega (arith, e), (λ e. omega (arith, e), (λ e. omega (arith, e), tt))));
  };
}

is_serial : IsSerial 1 2 (untimed between)
is_serial = serial 1 2 between are_times
