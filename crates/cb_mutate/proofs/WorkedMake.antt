-- Worked examples of the words of bytes, and of makes.
use Rattle.std.proofs.Common.{◌≡◌, ℕ, zero, suc, ◌+◌, ◌*◌, ◌<◌, ◌≤◌, true, false, List, [], ◌∷◌, Some, None, length, get_or, ◌^◌, refl, ap, subst, lit<, lit≤, arith, inr}
use Rattle.cb_class.specs.declared.class.Class.{Class}
use Rattle.cb_class.specs.Class.{IsClassOf, bytes_of, pages_of, words_of}
use Rattle.cb_class.proofs.Laws.{IsClassOf-unique}
use Rattle.cb_types.specs.declared.config.Config.{Config}
use Rattle.cb_span.specs.declared.temp.Temp.TheVariants.{Hot}
use Rattle.cb_span.specs.Contents.{new_span}
use Rattle.cb_types.specs.declared.reply.Reply.TheVariants as answer
use Rattle.cb_world.specs.declared.access.Access.{Access}
use Rattle.cb_world.specs.declared.access.Access.TheVariants.{Stored, Stamped, Settled}
use Rattle.cb_world.specs.Memory.{bytes_in, memory_byte}
use Rattle.cb_world.specs.Empty.{empty_far}
use Rattle.cb_world.specs.FarState.{FarState}
use Rattle.cb_world.specs.Placed.{Slot, HasRoom, IsCrammed}
use Rattle.cb_mutate.specs.WordsOf.{AreWordsOf}
use Rattle.cb_mutate.specs.MakeRule.{IsMake, MakeRule, make_events, with_made}

abbrev three : List ℕ
three = 1 ∷ 2 ∷ 3 ∷ []

-- three bytes are one word, the first byte lowest
three_words : AreWordsOf three (197121 ∷ [])
unfolding bytes_in
three_words = record {
  count = refl;
  first_bytes = refl;
  packed = λ p past below. packed p past below;
  below = λ i. below i;
}
  where
    packed : (p : ℕ) → 3 ≤ p → p < 8 → memory_byte (197121 ∷ []) p ≡ 0
    packed zero past below = absurd (omega (arith, past))
    packed (suc zero) past below = absurd (omega (arith, past))
    packed (suc (suc zero)) past below = absurd (omega (arith, past))
    packed (suc (suc (suc zero))) past below = refl
    packed (suc (suc (suc (suc zero)))) past below = refl
    packed (suc (suc (suc (suc (suc zero))))) past below = refl
    packed (suc (suc (suc (suc (suc (suc zero)))))) past below = refl
    packed (suc (suc (suc (suc (suc (suc (suc zero))))))) past below = refl
    packed (suc (suc (suc (suc (suc (suc (suc (suc p)))))))) past below =
        absurd (omega (arith, below))

    below : (i : ℕ) → get_or (197121 ∷ []) i 0 < 2 ^ 64
    below zero = lit< tt
    below (suc i) = lit< tt

-- more words than hold the bytes, other bytes, and bytes behind the last one that are not 0
two_words : ¬ (AreWordsOf three (197121 ∷ 0 ∷ []))
two_words x = absurd (let z : 2 ≡ 1 = x.count in omega (arith, z))

highest_first : ¬ (AreWordsOf three (66051 ∷ []))
unfolding bytes_in
highest_first x = absurd (let z : 3 ∷ 2 ∷ 1 ∷ [] ≡ 1 ∷ 2 ∷ 3 ∷ [] = x.first_bytes in
    let y : 3 ≡ 1 = ap (λ (l : List ℕ). get_or l 0 0) z in omega (arith, y))

filled : ¬ (AreWordsOf three (16974337 ∷ []))
filled x = absurd (let z : 1 ≡ 0 = x.packed 3 (lit≤ tt) (lit< tt) in omega (arith, z))

-- the events of a make
events : make_events 2 1 3 512 (197121 ∷ [])
    ≡ Stored 512 197121 ∷ Stamped 2 1 ∷ Settled 2 (2 + 3 * 8192 + 512 * 536870912) ∷ []
events = refl

-- the smallest slots, 256 a span
abbrev smallest : Class
smallest = record { index = 0 }

three_fit : IsClassOf 3 smallest
unfolding bytes_of
three_fit = record {
  in_table = lit< tt;
  holds = lit≤ tt;
  least = λ smaller less. absurd (omega (arith, less));
}

abbrev config : Config
config = record {
  k = 2;
  r = 1;
  nodes = 3;
  frames = 2;
  room = 4;
  handles = 3;
  turns = 0;
}

-- two of three handles were made, and of two frames the second is free
abbrev far : FarState
far = record (empty_far 1 config) { made = 2; frames = false ∷ true ∷ [] }

abbrev slot : Slot
slot = record {
  frame = 1;
  number = 0;
  span = new_span smallest Hot;
  free = false ∷ false ∷ [];
}

no_room : (class : Class) (f : ℕ) → ¬ (HasRoom far class Hot f)
no_room class zero may = absurd (let z : None ≡ Some (2 * class.index + 0) = may.0 in cc)
no_room class (suc zero) may = absurd (let z : None ≡ Some (2 * class.index + 0) = may.0 in cc)
no_room class (suc (suc f)) may = absurd (let z : None ≡ Some (2 * class.index + 0) = may.0 in cc)

abbrev done : List Access
done = make_events 2 1 3 512 (197121 ∷ [])

make : IsMake 2 1 three far (with_made far slot) done
unfolding bytes_of words_of pages_of
make = record {
  class = smallest;
  slot = slot;
  words = 197121 ∷ [];
  next = refl;
  first = refl;
  fits = three_fit;
  chosen = inr (record {
    full = no_room smallest;
    frame = refl;
    number = refl;
    span = refl;
    free = refl;
  });
  state = refl;
  packed = three_words;
  done = refl;
}

made : MakeRule 3 three far (with_made far slot) (answer.Made (record { n = 2 }) 1) done
made = (lit< tt, make)

-- another handle, another version, no change of the far state, and no events
another_handle : ¬ (IsMake 1 1 three far (with_made far slot) done)
another_handle x = absurd (let z : 1 ≡ 2 = x.next in omega (arith, z))

another_version : ¬ (IsMake 2 2 three far (with_made far slot) done)
another_version x = absurd (let z : 2 ≡ 1 = x.first in omega (arith, z))

not_counted : ¬ (IsMake 2 1 three far far done)
not_counted x = absurd (let z : 2 ≡ 3 = ap (λ (q : FarState). q.made) x.state in omega (arith, z))

-- full where all handles were made, and only there
full : MakeRule 2 three far far (answer.Full 2) []
full = (refl, refl, (refl, refl))

full_before_the_end : ¬ (MakeRule 3 three far far (answer.Full 3) [])
full_before_the_end x = absurd (let z : 2 ≡ 3 = x.0 in omega (arith, z))

of_another_number : ¬ (MakeRule 2 three far far (answer.Full 3) [])
of_another_number x = absurd (let z : 3 ≡ 2 = x.1 in omega (arith, z))

made_beyond_the_end : ¬ (MakeRule 2 three far (with_made far slot)
    (answer.Made (record { n = 2 }) 1) done)
made_beyond_the_end x = absurd (let z : 2 < 2 = x.0 in omega (arith, z))

refused_with_a_store : ¬ (MakeRule 2 three far far (answer.Full 2) (Stored 0 0 ∷ []))
refused_with_a_store x = absurd (let z : 1 ≡ 0 = ap (λ (es : List Access). length es) x.2.1 in
    omega (arith, z))

-- no frame where a frame is free
not_crammed : ¬ (IsCrammed far smallest Hot)
unfolding pages_of
not_crammed x = absurd (let z : Some 1 ≡ None = x.taken in cc)

no_frame : ¬ (MakeRule 3 three far far answer.NoFrame [])
no_frame x = not_crammed (subst (λ (c : Class). IsCrammed far c Hot)
    (IsClassOf-unique 3 x.1.0 smallest x.1.1 three_fit) x.1.2)
