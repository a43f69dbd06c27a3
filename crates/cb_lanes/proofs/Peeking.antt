-- The words of a pin are peeked one after another, and put into the room for its bytes.
use Rattle.std.proofs.Common.{◌≡◌, ℕ, zero, suc, ◌+◌, ◌<◌, List, [], ◌∷◌, ◌++◌, length, slice_index}
use Rattle.std.proofs.Common.{get_or, Option, Some, IfSome, Result, Ok, Err, inr, refl, sym, ap}
use Rattle.std.proofs.Common.{◌∙◌, subst, arith}
use Rattle.std.specs.Result.{IfOk}
use Rattle.cb_member.specs.declared.no_memory.NoMemory.{NoMemory}
use Rattle.cb_types.specs.declared.reply.Reply.{Reply}
use Rattle.cb_types.specs.declared.reply.Reply.TheVariants as answer
use Rattle.cb_world.specs.Memory.{bytes_in, words_for}
use Rattle.cb_mutate.proofs.Laws.{AreBytesFilled, IsPutInto, filled_all, filled_more}
use Rattle.cb_rule.specs.declared.view.Stand.{Stand}
use Rattle.cb_rule.specs.declared.view.View.{View}
use Rattle.cb_rule.specs.Lists.{Has}
use Rattle.cb_rule.specs.Steps.{IsNewest, with_peek}
use Rattle.cb_shared.specs.declared.pass.Pin.{Pin}
use Rattle.cb_shared.specs.Passes.{IsPinOf, stand_of}
use Rattle.cb_lanes.specs.Passing.{AreHeld, IsNewestAt, PeekGoes, PeeksAll, marks_of, peeks_of}
use Rattle.cb_lanes.proofs.LineParts.{newest_handle}
use Rattle.cb_lanes.proofs.PinsHeld.{IsPinThere, found_at, newest_below, pin_there}

-- the first words of a pin were peeked, and stand in the room
pub record PeeksSome (p : Stand) (i : ℕ) (room : List ℕ) (v w : View) : Type 0 where
  pub filled : AreBytesFilled p.words i room
  pub left : w ≡ record v { peeked = peeks_of p i ++ v.peeked }

pub peeks_none : (p : Stand) (room : List ℕ) (v w : View) → w ≡ v → PeeksSome p 0 room v w
peeks_none p room v w same = record {
  filled = λ k low within. absurd (omega (arith, low));
  left = same;
}

one_more : (p : Stand) (i x : ℕ) (v : View) → x ≡ slice_index p.words i
    → with_peek p.handle p.version i x (record v { peeked = peeks_of p i ++ v.peeked })
    ≡ record v { peeked = peeks_of p (suc i) ++ v.peeked }
one_more p i x v is = ap (λ (n : ℕ). with_peek p.handle p.version i n
    (record v { peeked = peeks_of p i ++ v.peeked })) is

pub peeks_more : (p : Stand) (i x : ℕ) (room later : List ℕ) (u v w : View)
    → x ≡ slice_index p.words i → IsPutInto room later i x
    → w ≡ with_peek p.handle p.version i x v → PeeksSome p i room u v
    → PeeksSome p (i + 1) later u w
peeks_more p i x room later u v w is put next so = record {
  filled = filled_more p.words room later i x is put so.filled;
  left = next ∙ ap (λ (z : View). with_peek p.handle p.version i x z) so.left
      ∙ one_more p i x u is
      ∙ (let e : suc i ≡ i + 1 = omega arith in
      ap (λ (n : ℕ). record u { peeked = peeks_of p n ++ u.peeked }) e);
}

pub peeks_all : (p : Stand) (i version : ℕ) (room : List ℕ) (v w : View) → length room ≡ p.len
    → i ≡ words_for p.len → version ≡ p.version → PeeksSome p i room v w
    → PeeksAll p (answer.Bytes version room) v w
peeks_all p i version room v w sized is told so = record {
  told = (λ k. answer.Bytes (told k) (whole k));
  left = so.left ∙ ap (λ (n : ℕ). record v { peeked = peeks_of p n ++ v.peeked }) is;
}
  where
    whole : room ≡ bytes_in p.words p.len
    whole = filled_all p.words room p.len i sized (omega (arith, is)) so.filled

-- which pins there are stays
pub peeks_leave : (p : Stand) (i : ℕ) (room : List ℕ) (v w : View) → PeeksSome p i room v w
    → w.pins ≡ v.pins
peeks_leave p i room v w so = ap (λ (z : View). z.pins) so.left

pub still_pin : (p : Pin) (v w : View) → w.pins ≡ v.pins → IsPinOf p v → IsPinOf p w
still_pin p v w same x = (x.0, subst (Has (stand_of p x.0)) (sym same) x.1)

-- ---- the newest pin on an object
same_there : (at : ℕ) (ps : List Pin) (d e : Pin) → at < length ps
    → get_or ps at d ≡ get_or ps at e
same_there at [] d e low = absurd (omega (arith, low))
same_there zero (q ∷ ps) d e low = refl
same_there (suc at) (q ∷ ps) d e low = same_there at ps d e (omega (arith, low))

module _ (h at : ℕ) (d : Pin) (xs ps : List Pin) (o : Option ℕ) (v : View) (held : AreHeld ps v)
    (is : o ≡ Some at) (same : xs ≡ ps)
    (some : IfSome o (λ k. IsNewestAt h (marks_of xs) k)) where
  new : IsNewestAt h (marks_of ps) at
  new = found_at h at xs ps o is same some

  there : IsPinThere h at (get_or xs at d) ps v.pins
  there = pin_there h at (get_or xs at d) ps v.pins held new
      (ap (λ (l : List Pin). get_or l at d) same
      ∙ same_there at ps d (get_or xs at d) (newest_below h at ps new))

  pub found_pin : IsPinOf (get_or xs at d) v
  found_pin = (there.words, there.has)

  pub shows_pin : (w : View) (result : Result Reply NoMemory)
      → IfOk result (λ r. (words : List ℕ) → Has (stand_of (get_or xs at d) words) v.pins
      → PeeksAll (stand_of (get_or xs at d) words) r v w)
      → IfOk result (λ r. IsNewest (get_or xs at d).handle.n (get_or xs at d).version v)
      → IfOk result (λ r. PeekGoes h v r w)
  shows_pin w (Err e) all above = tt
  shows_pin w (Ok r) all above = inr (record {
    pin = stand_of (get_or xs at d) there.words;
    newest = there.newest;
    above = subst (λ (n : ℕ). IsNewest n (get_or xs at d).version v)
        (newest_handle h (stand_of (get_or xs at d) there.words) v.pins there.newest) above;
    peeks = all there.words there.has;
  })

pub below_found : (h at : ℕ) (xs : List Pin) (o : Option ℕ) → o ≡ Some at
    → IfSome o (λ k. IsNewestAt h (marks_of xs) k) → at < length xs
below_found h at xs o is some = newest_below h at xs (found_at h at xs xs o is refl some)
