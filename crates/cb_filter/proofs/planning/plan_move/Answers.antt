use Rattle.std.proofs.Common.{◌≡◌, ◌≢◌, ℕ, Option, Some, Result, Ok, Err, refl, sym, ◌∙◌, ap, subst}
use Rattle.std.specs.Result.{OnErr}
use Rattle.std.proofs.lemmas.Result.{IfOk-from_err}
use Rattle.cb_ptr.specs.declared.word.PtrWord.{PtrWord}
use Rattle.cb_ptr.specs.Word.{hot_of, place_of}
use Rattle.cb_class.specs.declared.class.Class.{Class}
use Rattle.cb_span.specs.declared.temp.Temp.{Temp}
use Rattle.cb_world.specs.FarState.{FarState}
use Rattle.cb_world.specs.Placed.{IsChosen, IsCrammed, NeedsSpan, Places}
use Rattle.cb_filter.specs.Seats.{Seat, temp_for}
use Rattle.cb_filter.specs.Plans.{LiesAtPlace}
use Rattle.cb_filter.specs.declared.planning.Kind.{Kind}
use Rattle.cb_filter.proofs.planning.plan_move.Goals as goal

-- the class and the temperature of the span in which a slot lies
abbrev kind_of : Seat → Kind
kind_of seat = record { class = seat.span.class; temp = seat.span.temp }

-- what was found at the place of an object, and the temperature in which it belongs
record Looked (far : FarState) (word : ℕ) (temp : Temp) (found : Option Kind) : Type 0 where
  temp_is : temp ≡ temp_for (hot_of word)
  kind : (seat : Seat) → LiesAtPlace far (place_of word) seat → found ≡ Some (kind_of seat)

looked : (far : FarState) (word : ℕ) (fields : PtrWord) (temp : Temp) (found : Option Kind)
    → fields.place ≡ place_of word → fields.hot ≡ hot_of word → temp ≡ temp_for fields.hot
    → ((seat : Seat) → LiesAtPlace far fields.place seat → found ≡ Some (kind_of seat))
    → Looked far word temp found
looked far word fields temp found place hot belongs kind = record {
  temp_is = belongs ∙ ap temp_for hot;
  kind = λ seat x. kind seat (subst (λ (n : ℕ). LiesAtPlace far n seat) (sym place) x);
}

-- what was found is its class and its temperature
kind_is : {far : FarState} {word : ℕ} {temp : Temp} {found : Option Kind}
    → Looked far word temp found → (kind : Kind) → found ≡ Some kind → (seat : Seat)
    → LiesAtPlace far (place_of word) seat → kind ≡ kind_of seat
kind_is l kind e seat x = let f = l.kind seat x in cc

-- an object of another temperature
differs : {far : FarState} {word : ℕ} {temp : Temp} {found : Option Kind}
    → Looked far word temp found → (kind : Kind) → found ≡ Some kind → kind.temp ≢ temp
    → (seat : Seat) → LiesAtPlace far (place_of word) seat
    → (seat.span.temp ≢ temp_for (hot_of word)) × (kind.class ≡ seat.span.class)
differs l kind e other seat x =
    let k = kind_is l kind e seat x in (
      λ same. other (ap (λ (q : Kind). q.temp) k ∙ same ∙ sym l.temp_is),
      ap (λ (q : Kind). q.class) k,
    )

-- an error of which something holds anyway
at_error : {T E P : Type 0} (r : Result T E) → P → OnErr r P
at_error (Ok x) p = tt
at_error (Err x) p = p

pub returns-in_default-clause-plan : goal.returns-in_default-clause-plan
returns-in_default-clause-plan c =
    let l = looked c.args.far.now c.args.word c.unpack-fields.result c.temp_for-temp.result
    c.kind_at.result (ap (λ (p : PtrWord). p.place) c.unpack-fields.ensures.fields)
    (ap (λ (p : PtrWord). p.hot) c.unpack-fields.ensures.fields) c.temp_for-temp.ensures
    c.kind_at.ensures in
    λ seat x. absurd (c.in_default.not-Some (kind_of seat) (l.kind seat x))

pub returns-then-is_same-clause-plan : goal.returns-then-is_same-clause-plan
returns-then-is_same-clause-plan c =
    let l = looked c.args.far.now c.args.word c.unpack-fields.result c.temp_for-temp.result
    c.kind_at.result (ap (λ (p : PtrWord). p.place) c.unpack-fields.ensures.fields)
    (ap (λ (p : PtrWord). p.hot) c.unpack-fields.ensures.fields) c.temp_for-temp.ensures
    c.kind_at.ensures in
    λ seat x. (
      sym (ap (λ (q : Kind). q.temp) (kind_is l c.in-Some.kind c.in-Some.is seat x))
          ∙ c.is_same.ensures.same c.if-is_same.true ∙ l.temp_is,
      refl,
    )

pub returns-in_err-place-clause-plan : goal.returns-in_err-place-clause-plan
returns-in_err-place-clause-plan c = IfOk-from_err c.from_residual.result _ c.from_residual.ensures.0

pub returns-in_err-place-clause-far : goal.returns-in_err-place-clause-far
returns-in_err-place-clause-far c =
    at_error c.from_residual.result c.in_err-place.ensures.error.0

pub returns-in_err-place-clause-error : goal.returns-in_err-place-clause-error
returns-in_err-place-clause-error c =
    let l = looked c.args.far.now c.args.word c.unpack-fields.result c.temp_for-temp.result
    c.kind_at.result (ap (λ (p : PtrWord). p.place) c.unpack-fields.ensures.fields)
    (ap (λ (p : PtrWord). p.hot) c.unpack-fields.ensures.fields) c.temp_for-temp.ensures
    c.kind_at.ensures in
    at_error c.from_residual.result
    (λ (seat : Seat) (x : LiesAtPlace c.args.far.now (place_of c.args.word) seat).
    let d = differs l c.in-Some.kind c.in-Some.is
    (c.is_same.ensures.other c.if-is_same.false) seat x in (
      d.0,
      subst (λ (q : Class). NeedsSpan c.args.far.now q (temp_for (hot_of c.args.word))) d.1
          (subst (λ (t : Temp). NeedsSpan c.args.far.now c.in-Some.kind.class t) l.temp_is
          c.in_err-place.ensures.error.1),
    ))

pub returns-in_default-2-clause-plan : goal.returns-in_default-2-clause-plan
returns-in_default-2-clause-plan c =
    let l = looked c.args.far.now c.args.word c.unpack-fields.result c.temp_for-temp.result
    c.kind_at.result (ap (λ (p : PtrWord). p.place) c.unpack-fields.ensures.fields)
    (ap (λ (p : PtrWord). p.hot) c.unpack-fields.ensures.fields) c.temp_for-temp.ensures
    c.kind_at.ensures in
    let placed = subst (λ (p : Option ℕ). Places c.args.far.now c.in-Some.kind.class
    c.temp_for-temp.result c.args.handle c.place_object.new.far p) c.in_default-2.is
    c.in_ok-place.ensures.placed in
    λ seat x.
    let d = differs l c.in-Some.kind c.in-Some.is
    (c.is_same.ensures.other c.if-is_same.false) seat x in (
      d.0,
      subst (λ (q : Class). IsCrammed c.args.far.now q (temp_for (hot_of c.args.word))) d.1
          (subst (λ (t : Temp). IsCrammed c.args.far.now c.in-Some.kind.class t) l.temp_is
          placed.0),
      placed.1,
    )

pub returns-clause-plan : goal.returns-clause-plan
returns-clause-plan c =
    let l = looked c.args.far.now c.args.word c.unpack-fields.result c.temp_for-temp.result
    c.kind_at.result (ap (λ (p : PtrWord). p.place) c.unpack-fields.ensures.fields)
    (ap (λ (p : PtrWord). p.hot) c.unpack-fields.ensures.fields) c.temp_for-temp.ensures
    c.kind_at.ensures in
    let placed = subst (λ (p : Option ℕ). Places c.args.far.now c.in-Some.kind.class
    c.temp_for-temp.result c.args.handle c.place_object.new.far p) c.in-Some-2.is
    c.in_ok-place.ensures.placed in
    λ seat x.
    let d = differs l c.in-Some.kind c.in-Some.is
    (c.is_same.ensures.other c.if-is_same.false) seat x in (
      placed.slot,
      d.0,
      subst (λ (q : Class). IsChosen c.args.far.now q (temp_for (hot_of c.args.word)) placed.slot)
          d.1 (subst (λ (t : Temp). IsChosen c.args.far.now c.in-Some.kind.class t placed.slot) l.temp_is
          placed.chosen),
      placed.left,
      placed.place,
    )
