-- Worked lines that rise: what a call tells of versions, and what lines may not be answered.
use Rattle.std.proofs.Common.{Option}
use Rattle.std.proofs.Common.{◌≡◌, ℕ, Bool, true, false, List, [], ◌∷◌, None, Some, inl, inr}
use Rattle.std.proofs.Common.{refl, ap, ◌∙◌, arith, lit<, ⊎_elim}
use Rattle.std.specs.Prelude.{if◌then◌else◌}
use Rattle.std.specs.Str.{bytes_eq}
use Rattle.cb_types.specs.declared.answer.Answer.{Answer}
use Rattle.cb_types.specs.declared.handle.Handle.{Handle}
use Rattle.cb_types.specs.declared.job.Job.TheVariants as job
use Rattle.cb_types.specs.declared.request.Request.{Request}
use Rattle.cb_types.specs.declared.request.Request.TheVariants.{Make, Pin, Peek}
use Rattle.cb_types.specs.declared.order.Kept.{Kept}
use Rattle.cb_types.specs.declared.reply.Reply.{Reply}
use Rattle.cb_types.specs.declared.reply.Reply.TheVariants as answer
use Rattle.cb_ptr.specs.Word.{len_of}
use Rattle.cb_world.specs.Memory.{bytes_in}
use Rattle.cb_world.specs.declared.entry.Entry.{Entry}
use Rattle.cb_world.specs.Written.{entry}
use Rattle.cb_rule.specs.declared.turn.Turn.{Turn}
use Rattle.cb_rule.specs.declared.view.Seen.{Seen}
use Rattle.cb_rule.specs.declared.view.Stand.{Stand}
use Rattle.cb_rule.specs.declared.view.View.{View}
use Rattle.cb_rule.specs.Own.{IsAlone}
use Rattle.cb_rule.specs.Steps.{blank, stand, with_look, with_pin}
use Rattle.cb_model.specs.Called.{calls_behind, first_of}
use Rattle.cb_record.specs.Parts.{grown, nothing_more, sum}
use Rattle.cb_record.specs.Rises.{HasVersion, RisesAlone}
use Rattle.cb_shared.specs.Calls.{IsInVain}
use Rattle.cb_shared.specs.Joining.{unpinned_all}
use Rattle.cb_shared.specs.Reading.{read_once}
use Rattle.cb_lanes.specs.declared.body.Named.{Named}
use Rattle.cb_lanes.specs.Bodies.{AreNamesOf}
use Rattle.cb_lanes.specs.LineGoes.{Calls, Peeks}
use Rattle.cb_lanes.specs.Passing.{PeekGoes, PinGoes, peeks_of}
use Rattle.cb_lanes.specs.Rising.{LaneRises}
use Rattle.cb_lanes.proofs.LinesRise.{lane_rises}
use Rattle.cb_lanes.proofs.LineVersions.{bytes_version}
use Rattle.cb_lanes.proofs.TellingNew.{IsAbove, TellsNew}
use Rattle.cb_lanes.proofs.WorkedPassing.{two}

abbrev a : List ℕ
a = 97 ∷ []

abbrev of : ℕ → Handle
of h = record { n = h }

abbrev own_answer : Request → Reply → Answer
own_answer request reply =
    record { lane = record { n = 1 }; line = 2; request = request; reply = reply }

-- the pointer word of an object of 8 bytes at place 5, Here; made at version 3, by a pass with a
-- part of the share
abbrev calm : ℕ
calm = 2684420098

abbrev part : View
part = record (blank two) { share = 40; written = entry 1 3 8 [] (2826 ∷ []) ∷ [] }

-- ---- a version that the record does not have
has_third : HasVersion part 1 3 false
has_third = inl (entry 1 3 8 [] (2826 ∷ []), inl refl, refl, refl, refl)

not_above : IsAbove part 1 3 → ⊥
not_above x = let less = x 3 false has_third in omega (arith, less)

writes_no_new : TellsNew (Calls (job.Write (of 1) 0 [])) part (answer.Version 3) → ⊥
writes_no_new x = not_above x

frees_no_new : TellsNew (Calls (job.Free (of 1))) part (answer.Version 3) → ⊥
frees_no_new x = not_above x

makes_no_new : TellsNew (Calls (job.Make [])) part (answer.Made (of 1) 3) → ⊥
makes_no_new x = not_above x

peeks_less : TellsNew (Peeks 1) part (answer.Bytes 2 []) → ⊥
peeks_less x = let low = x 3 false has_third in omega (arith, low)

-- ---- a pin at version 3, a read of version 4 under it, and a peek of version 3
abbrev first_pin : View
first_pin = with_pin 1 calm 3 (2826 ∷ []) (with_look 1 calm part)

no_tries : {o : Option Kept} (h : ℕ) (j : Turn → Type 0) → IsInVain o (λ k. k ≡ h) j nothing_more
no_tries h j = record { looks = []; turns = []; at = tt; of = tt; idle = tt; kept = tt; part = refl }

shared : IsAlone 1 part → ⊥
shared l = ⊎_elim (λ (e : 40 ≡ 64). omega (arith, e)) (λ (n : ⊥). n) l

pins : PinGoes two 1 part (answer.Version 3) first_pin
pins = (
  lit< tt,
  record {
    between = part;
    in_vain = (nothing_more, no_tries 1 _, refl);
    ends_so = record {
      word = calm;
      words = 2826 ∷ [];
      here = refl;
      newest = record {
        written = ((λ _. omega arith), tt);
        seen = tt;
        lone = λ l. absurd (shared l);
      };
      left = refl;
    };
  },
)

abbrev seven : List ℕ
seven = bytes_in (7 ∷ []) (len_of calm)

abbrev then_read : View
then_read = grown (sum nothing_more (read_once 1 calm 4 (7 ∷ []))) first_pin

abbrev the_pin : Stand
the_pin = stand 1 8 5 3 (2826 ∷ [])

-- the pin is below what was read, so it can't be shown
peeks_less_than_read : (w : View) → PeekGoes 1 then_read (answer.Bytes 3 (bytes_in (2826 ∷ []) 8)) w
    → ⊥
peeks_less_than_read w (inl x) = absurd (let e = x.told in cc)
peeks_less_than_read w (inr x) = let low = x.above.seen.0 refl in
    let is : 3 ≡ x.pin.version = ap bytes_version x.peeks.told in omega (arith, low, is)

-- ---- a pin at version 3, and a peek of it
abbrev then_peeked : View
then_peeked = record first_pin { peeked = peeks_of the_pin 1 }

peeks : PeekGoes 1 first_pin (answer.Bytes 3 (bytes_in (2826 ∷ []) 8)) then_peeked
peeks = inr (record {
  pin = the_pin;
  newest = inl (refl, refl);
  above = record {
    written = ((λ _. omega arith), tt);
    seen = ((λ _. omega arith), tt);
    lone = λ l. absurd (shared l);
  };
  peeks = record { told = refl; left = refl };
})

abbrev names : List Named
names = record { name = a; handle = Some (of 1) } ∷ []

abbrev lines : List Answer
lines = own_answer (Pin a) (answer.Version 3) ∷ own_answer (Peek a)
    (answer.Bytes 3 (bytes_in (2826 ∷ []) 8)) ∷ []

abbrev at_end : View
at_end = unpinned_all then_peeked

-- nothing is freed in its record
none_freed : (h last : ℕ) → HasVersion then_peeked h last true → ⊥
none_freed h last (inl (e, inl is, handle, number, held)) =
    let z : false ≡ true = ap (λ (x : Entry). x.freed) is ∙ held in cc
none_freed h last (inl (e, inr none, handle, number, held)) = none
none_freed h last (inr (s, inl is, handle, number, held)) =
    let z : false ≡ true = ap (λ (x : Seen). x.freed) is ∙ held in cc
none_freed h last (inr (s, inr none, handle, number, held)) = none

rising : LaneRises 1 names lines part
rising given called = record {
  own = (refl, (refl, tt));
  rises = lane_rises two names lines part then_peeked then_peeked refl
      (first_pin, (pins, ([], refl, tt)), (then_peeked, peeks, refl)) (λ h n freed has. has)
      (λ h last n freed gone has. absurd (none_freed h last gone)) given called;
}

-- ---- and what would not rise: lines of another lane, a version below one that the record had, and
-- one below one that was told before
abbrev made_it : List Answer
made_it = own_answer (Make a []) (answer.Made (of 1) 3) ∷ []

is_made : AreNamesOf names made_it
is_made name = by (bytes_eq a name)
  where
    by : (b : Bool) → first_of None (if b then Some 1 else None) ≡ first_of None
        (if b then Some 1 else None)
    by b = refl

falls_alone : (lane : ℕ) (answers : List Answer) (v : View) → LaneRises lane names answers v
    → RisesAlone (record { number = lane; start = v; calls = calls_behind made_it answers })
falls_alone lane answers v rises = rises made_it is_made

of_another_lane : LaneRises 2 names lines part → ⊥
of_another_lane x = let e = (falls_alone 2 lines part x).own.0 in omega (arith, e)

abbrev less : List Answer
less = own_answer (Pin a) (answer.Version 2) ∷ []

below_the_record : LaneRises 1 names less part → ⊥
below_the_record x = let low = (falls_alone 1 less part x).rises.behind.0 1 3 false refl has_third
    in
    omega (arith, low)

abbrev falling : List Answer
falling = own_answer (Pin a) (answer.Version 4) ∷ own_answer (Pin a) (answer.Version 3) ∷ []

below_the_last : LaneRises 1 names falling (blank two) → ⊥
below_the_last x = let low = (falls_alone 1 falling (blank two) x).rises.rising.0.0 1
    (inl refl) refl refl 4 refl in
    omega (arith, low)
