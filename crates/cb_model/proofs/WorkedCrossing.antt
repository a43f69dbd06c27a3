-- Answers that are legal, object by object, and of which there is no one order.
use Rattle.std.proofs.Common.{◌≡◌, ℕ, zero, suc, false, true, eqb, List, [], ◌∷◌, ◌++◌, Some, refl, sym, ◌∙◌, arith, inl, inr}
use Rattle.std.specs.Prelude.{◌⊎◌, ◌≢◌}
use Rattle.std.specs.List.{AllByRecursion}
use Rattle.std.proofs.lemmas.Bool.{cases_Bool, cases_eq, eq-eqb, ne_eqb}
use Rattle.cb_types.specs.declared.answer.Answer.{Answer}
use Rattle.cb_types.specs.declared.request.Request.TheVariants.{Read, Write}
use Rattle.cb_types.specs.declared.reply.Reply.TheVariants.{Version, Bytes}
use Rattle.cb_model.specs.Called.{calls_of, history}
use Rattle.cb_model.specs.History.{IsHistory}
use Rattle.cb_model.specs.Legal.{Follow, IsLegal}
use Rattle.cb_model.proofs.WorkedAnswers.{told, a}
use Rattle.cb_model.specs.Serial.{answers_of, IsSerial}
use Rattle.cb_model.proofs.WorkedTimes.{b, make_a, make_b, not_told, write_a}

-- lane 1 writes a and reads the old b, lane 2 writes b and reads the old a
abbrev read_b : Answer
read_b = told 1 (Read b) (Bytes 1 (5 ∷ []))

abbrev write_b : Answer
write_b = told 2 (Write b 0 (6 ∷ [])) (Version 2)

abbrev read_a : Answer
read_a = told 2 (Read a) (Bytes 1 (1 ∷ []))

abbrev crossed : List Answer
crossed = make_a ∷ make_b ∷ write_a ∷ read_b ∷ write_b ∷ read_a ∷ []

crossed_is_legal : IsLegal 1 2 crossed
crossed_is_legal = record {
  histories = each;
  told = (omega arith, (omega arith, (tt, (refl, (tt, (refl, tt))))));
  rising = (
    (
      λ h teller earlier later. absurd (let e : Some 0 ≡ Some 1 = earlier ∙ sym later in cc),
      (
        λ h teller earlier later v e. (let one : 1 ≡ v = cc in omega arith),
        (
          λ h teller earlier later. absurd (let e : Some 0 ≡ Some 1 = earlier ∙ sym later in cc),
          (
            λ h teller earlier later. absurd (let e : Some 0 ≡ Some 1 = earlier ∙ sym later in cc),
            (λ h teller earlier later v e. (let one : 1 ≡ v = cc in omega arith), tt),
          ),
        ),
      ),
    ),
    (
      (
        λ h teller earlier later. absurd (let e : Some 1 ≡ Some 0 = earlier ∙ sym later in cc),
        (
          λ h teller earlier later v e. (let one : 1 ≡ v = cc in omega arith),
          (
            λ h teller earlier later v e. (let one : 1 ≡ v = cc in omega arith),
            (λ h teller earlier later. absurd (let e : Some 1 ≡ Some 0 = earlier ∙ sym later in cc), tt),
          ),
        ),
      ),
      (
        (
          λ h teller earlier later. absurd (let e : Some 0 ≡ Some 1 = earlier ∙ sym later in cc),
          (
            λ h teller earlier later. absurd (let e : Some 0 ≡ Some 1 = earlier ∙ sym later in cc),
            (λ h teller earlier later. absurd (not_told teller), tt),
          ),
        ),
        (
          (
            λ h teller earlier later. absurd (not_told teller),
            (λ h teller earlier later. absurd (let e : Some 1 ≡ Some 0 = earlier ∙ sym later in cc), tt),
          ),
          (
            (λ h teller earlier later. absurd (let e : Some 1 ≡ Some 0 = earlier ∙ sym later in cc), tt),
            (tt, tt),
          ),
        ),
      ),
    ),
  );
} where
  each : (h : ℕ) → IsHistory 1 (history (calls_of crossed) h)
  each zero = (refl, (refl, omega arith, tt))
  each (suc zero) = (refl, (refl, omega arith, tt))
  each (suc (suc h)) =
      let other : eqb (suc (suc h)) 0 ≡ false = ne_eqb (suc (suc h)) 0 (λ e. omega arith) in
      let no_other : eqb (suc (suc h)) 1 ≡ false = ne_eqb (suc (suc h)) 1 (λ e. omega arith) in
      simp (other, no_other) tt

-- ---- each order of two lanes' answers takes the next one of the one or of the other
abbrev Merges : List Answer → List Answer → List Answer → Type 0
Merges xs ys [] = (xs ≡ []) × (ys ≡ [])
Merges xs ys (z ∷ zs) =
    ((rest : List Answer) × (xs ≡ z ∷ rest) × Merges rest ys zs)
    ⊎ ((rest : List Answer) × (ys ≡ z ∷ rest) × Merges xs rest zs)

abbrev IsOfTwo : Answer → Type 0
IsOfTwo z = (z.lane.n ≡ 1) ⊎ (z.lane.n ≡ 2)

merges : (zs xs ys : List Answer) → answers_of 1 zs ≡ xs → answers_of 2 zs ≡ ys
    → AllByRecursion IsOfTwo zs → Merges xs ys zs
merges [] xs ys one two all = (sym one, sym two)
merges (z ∷ zs) xs ys one two all =
    elim all.0 [
      | inl is ↦
          let here : eqb z.lane.n 1 ≡ true = eq-eqb z.lane.n 1 is in
          let other : eqb z.lane.n 2 ≡ false = ne_eqb z.lane.n 2 (λ e. omega (arith, is, e)) in
          inl (answers_of 1 zs, sym (rw here at one), merges zs (answers_of 1 zs) ys refl (rw other at two) all.1)
      | inr is ↦
          let here : eqb z.lane.n 2 ≡ true = eq-eqb z.lane.n 2 is in
          let other : eqb z.lane.n 1 ≡ false = ne_eqb z.lane.n 1 (λ e. omega (arith, is, e)) in
          inr (answers_of 2 zs, sym (rw here at two), merges zs xs (answers_of 2 zs) (rw other at one) refl all.1)
    ]

none_behind : (lane : ℕ) (z : Answer) (zs : List Answer) → answers_of lane (z ∷ zs) ≡ []
    → (z.lane.n ≢ lane) × (answers_of lane zs ≡ [])
none_behind lane z zs none =
    elim (cases_Bool (eqb z.lane.n lane)) [
      | inl is ↦ absurd (let e : z ∷ answers_of lane zs ≡ [] = rw is at none in cc)
      | inr fails ↦ (λ e. absurd (let both : true ≡ false = sym (eq-eqb z.lane.n lane e) ∙ fails in cc), rw fails at none)
    ]

of_two : (zs : List Answer) → ((lane : ℕ) → lane ≢ 1 → lane ≢ 2 → answers_of lane zs ≡ [])
    → AllByRecursion IsOfTwo zs
of_two [] none = tt
of_two (z ∷ zs) none = (
  elim (cases_eq z.lane.n 1) [
    | inl e ↦ inl e
    | inr ne ↦ elim (cases_eq z.lane.n 2) [
      | inl e ↦ inr e
      | inr also ↦ absurd ((none_behind z.lane.n z zs (none z.lane.n ne also)).0 refl)
    ]
  ],
  of_two zs (λ lane one two. (none_behind lane z zs (none lane one two)).1),
)

head_is : (x y : Answer) (xs ys : List Answer) → x ∷ xs ≡ y ∷ ys → x ≡ y
head_is x y xs ys e = cc

tail_is : (x y : Answer) (xs ys : List Answer) → x ∷ xs ≡ y ∷ ys → xs ≡ ys
tail_is x y xs ys e = cc

-- no list goes on
abbrev NoneGoesOn : List Answer → List Answer → List Answer → Type 0
NoneGoesOn done xs ys = (zs : List Answer) → Merges xs ys zs
    → Follow 1 2 [] (calls_of (make_a ∷ make_b ∷ (done ++ zs))) → ⊥

-- behind both writes no old value is read
both_written : NoneGoesOn (write_a ∷ write_b ∷ []) (read_b ∷ []) (read_a ∷ [])
both_written [] m follow = absurd (let e : read_b ∷ [] ≡ [] = m.0 in cc)
both_written (z ∷ zs) (inl m) follow =
    let now = rw (← head_is read_b z [] m.0 m.1) at follow in
    absurd (let v : 1 ≡ 2 = now.1.1.1.1.0.reply.0 in omega (arith, v))
both_written (z ∷ zs) (inr m) follow =
    let now = rw (← head_is read_a z [] m.0 m.1) at follow in
    absurd (let v : 1 ≡ 2 = now.1.1.1.1.0.reply.0 in omega (arith, v))

both_written_again : NoneGoesOn (write_b ∷ write_a ∷ []) (read_b ∷ []) (read_a ∷ [])
both_written_again [] m follow = absurd (let e : read_b ∷ [] ≡ [] = m.0 in cc)
both_written_again (z ∷ zs) (inl m) follow =
    let now = rw (← head_is read_b z [] m.0 m.1) at follow in
    absurd (let v : 1 ≡ 2 = now.1.1.1.1.0.reply.0 in omega (arith, v))
both_written_again (z ∷ zs) (inr m) follow =
    let now = rw (← head_is read_a z [] m.0 m.1) at follow in
    absurd (let v : 1 ≡ 2 = now.1.1.1.1.0.reply.0 in omega (arith, v))

-- nor where one lane is done, and the other one is not
a_is_read : NoneGoesOn (write_a ∷ read_b ∷ write_b ∷ []) [] (read_a ∷ [])
a_is_read [] m follow = absurd (let e : read_a ∷ [] ≡ [] = m.1 in cc)
a_is_read (z ∷ zs) (inl m) follow = absurd (let e : [] ≡ z ∷ m.0 = m.1 in cc)
a_is_read (z ∷ zs) (inr m) follow =
    let now = rw (← head_is read_a z [] m.0 m.1) at follow in
    absurd (let v : 1 ≡ 2 = now.1.1.1.1.1.0.reply.0 in omega (arith, v))

b_is_read : NoneGoesOn (write_b ∷ read_a ∷ write_a ∷ []) (read_b ∷ []) []
b_is_read [] m follow = absurd (let e : read_b ∷ [] ≡ [] = m.0 in cc)
b_is_read (z ∷ zs) (inl m) follow =
    let now = rw (← head_is read_b z [] m.0 m.1) at follow in
    absurd (let v : 1 ≡ 2 = now.1.1.1.1.1.0.reply.0 in omega (arith, v))
b_is_read (z ∷ zs) (inr m) follow = absurd (let e : [] ≡ z ∷ m.0 = m.1 in cc)

lane_1_done : NoneGoesOn (write_a ∷ read_b ∷ []) [] (write_b ∷ read_a ∷ [])
lane_1_done [] m follow = absurd (let e : write_b ∷ read_a ∷ [] ≡ [] = m.1 in cc)
lane_1_done (z ∷ zs) (inl m) follow = absurd (let e : [] ≡ z ∷ m.0 = m.1 in cc)
lane_1_done (z ∷ zs) (inr m) follow =
    a_is_read zs (rw (← tail_is write_b z (read_a ∷ []) m.0 m.1) at m.2) (rw (← head_is write_b z (read_a ∷ []) m.0 m.1) at follow)

lane_2_done : NoneGoesOn (write_b ∷ read_a ∷ []) (write_a ∷ read_b ∷ []) []
lane_2_done [] m follow = absurd (let e : write_a ∷ read_b ∷ [] ≡ [] = m.0 in cc)
lane_2_done (z ∷ zs) (inl m) follow =
    b_is_read zs (rw (← tail_is write_a z (read_b ∷ []) m.0 m.1) at m.2) (rw (← head_is write_a z (read_b ∷ []) m.0 m.1) at follow)
lane_2_done (z ∷ zs) (inr m) follow = absurd (let e : [] ≡ z ∷ m.0 = m.1 in cc)

a_first : NoneGoesOn (write_a ∷ []) (read_b ∷ []) (write_b ∷ read_a ∷ [])
a_first [] m follow = absurd (let e : read_b ∷ [] ≡ [] = m.0 in cc)
a_first (z ∷ zs) (inl m) follow =
    lane_1_done zs (rw (← tail_is read_b z [] m.0 m.1) at m.2) (rw (← head_is read_b z [] m.0 m.1) at follow)
a_first (z ∷ zs) (inr m) follow =
    both_written zs (rw (← tail_is write_b z (read_a ∷ []) m.0 m.1) at m.2) (rw (← head_is write_b z (read_a ∷ []) m.0 m.1) at follow)

b_first : NoneGoesOn (write_b ∷ []) (write_a ∷ read_b ∷ []) (read_a ∷ [])
b_first [] m follow = absurd (let e : read_a ∷ [] ≡ [] = m.1 in cc)
b_first (z ∷ zs) (inl m) follow =
    both_written_again zs (rw (← tail_is write_a z (read_b ∷ []) m.0 m.1) at m.2) (rw (← head_is write_a z (read_b ∷ []) m.0 m.1) at follow)
b_first (z ∷ zs) (inr m) follow =
    lane_2_done zs (rw (← tail_is read_a z [] m.0 m.1) at m.2) (rw (← head_is read_a z [] m.0 m.1) at follow)

none_goes_on : NoneGoesOn [] (write_a ∷ read_b ∷ []) (write_b ∷ read_a ∷ [])
none_goes_on [] m follow = absurd (let e : write_a ∷ read_b ∷ [] ≡ [] = m.0 in cc)
none_goes_on (z ∷ zs) (inl m) follow =
    a_first zs (rw (← tail_is write_a z (read_b ∷ []) m.0 m.1) at m.2) (rw (← head_is write_a z (read_b ∷ []) m.0 m.1) at follow)
none_goes_on (z ∷ zs) (inr m) follow =
    b_first zs (rw (← tail_is write_b z (read_a ∷ []) m.0 m.1) at m.2) (rw (← head_is write_b z (read_a ∷ []) m.0 m.1) at follow)

-- lanes but 1 and 2 have no more answers
none_other : (order zs : List Answer) → ((lane : ℕ) → answers_of lane order ≡ answers_of lane crossed)
    → order ≡ make_a ∷ make_b ∷ zs → (lane : ℕ) → lane ≢ 1 → lane ≢ 2 → answers_of lane zs ≡ []
none_other order zs kept begins zero one two =
    let e : make_a ∷ make_b ∷ answers_of 0 zs ≡ make_a ∷ make_b ∷ [] = rw begins at (kept 0) in
    tail_is make_b make_b (answers_of 0 zs) [] (tail_is make_a make_a (make_b ∷ answers_of 0 zs) (make_b ∷ []) e)
none_other order zs kept begins (suc lane) one two =
    let k = rw begins at (kept (suc lane)) in
    let l0 : eqb 0 (suc lane) ≡ false = ne_eqb 0 (suc lane) (λ e. omega (arith, e)) in
    let l1 : eqb 1 (suc lane) ≡ false = ne_eqb 1 (suc lane) (λ e. one (sym e)) in
    let l2 : eqb 2 (suc lane) ≡ false = ne_eqb 2 (suc lane) (λ e. two (sym e)) in
    simp (l0, l1, l2) at k

-- so the crossed answers are legal, and there is no one order of them
crossed_is_not_serial : IsSerial 1 2 crossed → ⊥
crossed_is_not_serial serial =
    let zs = serial.is.others in
    let begins : serial.order ≡ make_a ∷ make_b ∷ zs = serial.is.begins in
    let one : answers_of 1 zs ≡ write_a ∷ read_b ∷ [] = rw begins at (serial.is.kept 1) in
    let two : answers_of 2 zs ≡ write_b ∷ read_a ∷ [] = rw begins at (serial.is.kept 2) in
    let all = of_two zs (none_other serial.order zs serial.is.kept begins) in
    none_goes_on zs (merges zs (write_a ∷ read_b ∷ []) (write_b ∷ read_a ∷ []) one two all) (rw begins at serial.legal.in_order)
