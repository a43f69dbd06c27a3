-- The laws of pointer words that the crates above cite, on plain numbers.
use Rattle.std.proofs.Common.{◌≡◌, ℕ, zero, suc, ◌+◌, ◌-◌, ◌*◌, ◌/◌, ◌%◌, ◌^◌, ◌<◌, ◌≤◌, false, refl, ap, sym, ◌∙◌, arith, rules, eq-eqb}
use Rattle.std.proofs.lemmas.Grind.{common_steps}
use Rattle.cb_ptr.specs.declared.word.PtrWord.{PtrWord}
use Rattle.cb_ptr.specs.declared.word.State.TheVariants.{Far, Here}
use Rattle.cb_ptr.specs.Word.{IsInWidths, fields_of, flag_number, hot_of, len_of, numbered_state, pins_of, place_of, state_number, state_of, word_of}
use Rattle.cb_ptr.specs.Steps.{Claims, GivesPin, IsFarWord, Settles, TakesPin}

-- the state's number is the remainder by 4, and back
pub state_number-numbered : (n : ℕ) → n < 4 → state_number (numbered_state n) ≡ n
state_number-numbered zero h = refl
state_number-numbered (suc zero) h = refl
state_number-numbered (suc (suc zero)) h = refl
state_number-numbered (suc (suc (suc n))) h = omega arith

pub state_number-state_of : (w : ℕ) → state_number (state_of w) ≡ w % 4
state_number-state_of w = state_number-numbered (w % 4) (omega arith)

pub word_of-below : (p : PtrWord) → IsInWidths p → word_of p < 2 ^ 53
word_of-below p h = grind (arith, common_steps)

-- packed fields read back
pub fields_of-word_of : (p : PtrWord) → IsInWidths p → fields_of (word_of p) ≡ p
fields_of-word_of p h = grind (arith, common_steps)

pub IsInWidths-fields_of : (w : ℕ) → IsInWidths (fields_of w)
IsInWidths-fields_of w = search rules

-- a word of 53 bits is that of its fields
pub word_of-fields_of : (w : ℕ) → w < 2 ^ 53 → word_of (fields_of w) ≡ w
word_of-fields_of w h = grind (arith, common_steps, state_number-state_of w)

pub flag_number-hot_of : (w : ℕ) → flag_number (hot_of w) ≡ w / 4 % 2
flag_number-hot_of w = grind (arith, common_steps)

-- two words of 53 bits with the same fields are one
pub same_from_fields : (v w : ℕ) → v < 2 ^ 53 → w < 2 ^ 53 → fields_of v ≡ fields_of w
    → v ≡ w
same_from_fields v w below_v below_w same =
    sym (word_of-fields_of v below_v) ∙ ap word_of same ∙ word_of-fields_of w below_w

-- the bound of the length
pub len_of-below : (w : ℕ) → len_of w < 2 ^ 16
len_of-below w = omega arith

-- to set hot and add a pin: what a pin exchanges in
pub takes_pin : (old new : ℕ) → state_of old ≡ Here → pins_of old < 1023
    → new + flag_number (hot_of old) * 4 ≡ old + 12 → TakesPin old new
takes_pin old new here room number =
    let added : new + old / 4 % 2 * 4 ≡ old + 12 = omega (arith, flag_number-hot_of old) in
    record {
      state = let same : new % 4 ≡ old % 4 = omega arith in ap numbered_state same;
      hot = eq-eqb (new / 4 % 2) 1 (omega arith);
      pins = omega arith;
      len = omega arith;
      place = omega arith;
      number = number;
    }

-- what an unpin leaves, as it subtracts 8
pub gives_pin : (old : ℕ) → 1 ≤ pins_of old → GivesPin old (old - 8)
gives_pin old held = search rules

-- what a claim exchanges in
pub claims : (old : ℕ) → state_of old ≡ Here → pins_of old ≡ 0 → Claims old (old + 1)
claims old here none = search rules

-- the two low bits of a word that is Here
pub here_bits : (w : ℕ) → state_of w ≡ Here → w % 4 ≡ 2
here_bits w here = sym (state_number-state_of w) ∙ ap state_number here

-- a word that is Here has room for the claim's 1 within its 53 bits
pub claimed_below : (w : ℕ) → w < 2 ^ 53 → state_of w ≡ Here → w + 1 < 2 ^ 53
claimed_below w below here = omega (arith, here_bits w here)

-- the word of a Far object is 1 and its length from bit 13 on
pub far_word_is : (len w : ℕ) → len < 2 ^ 16 → w ≡ 1 + len * 8192 → IsFarWord len w
far_word_is len w fits number =
    let p : PtrWord = record { state = Far; hot = false; pins = 0; len = len; place = 0 } in
    let is : w ≡ word_of p = omega (arith, number) in
    let widths : IsInWidths p = record { pins = omega arith; len = fits; place = omega arith } in
    let fields : fields_of w ≡ p = ap fields_of is ∙ fields_of-word_of p widths in
    record {
      state = ap (λ (q : PtrWord). q.state) fields;
      hot = ap (λ (q : PtrWord). q.hot) fields;
      pins = ap (λ (q : PtrWord). q.pins) fields;
      len = ap (λ (q : PtrWord). q.len) fields;
      place = ap (λ (q : PtrWord). q.place) fields;
      number = number;
    }

-- an unpin after a pin leaves the word that was pinned, hot
pub pin_then_unpin : (a b c : ℕ) → TakesPin a b → GivesPin b c
    → c + flag_number (hot_of a) * 4 ≡ a + 4
pin_then_unpin a b c taken given = omega (arith, taken.number, given.number)

-- two words that are Here without pins and agree in length and place differ at most in the hot bit
pub same_but_hot : (v w : ℕ) → v < 2 ^ 53 → w < 2 ^ 53 → state_of v ≡ state_of w
    → pins_of v ≡ pins_of w → len_of v ≡ len_of w → place_of v ≡ place_of w
    → v + flag_number (hot_of w) * 4 ≡ w + flag_number (hot_of v) * 4
same_but_hot v w below_v below_w state pins len place =
    let bits : v % 4 ≡ w % 4 =
    sym (state_number-state_of v) ∙ ap state_number state ∙ state_number-state_of w in
    omega (arith, flag_number-hot_of v, flag_number-hot_of w)

-- a claimed word that is settled at its place, as hot as it was, is the word that was claimed
pub claim_then_settle : (a b c : ℕ) → a < 2 ^ 53 → state_of a ≡ Here → pins_of a ≡ 0
    → Claims a b → Settles b (place_of a) (hot_of a) c → c ≡ a
claim_then_settle a b c below here none claimed settled =
    let near : c + flag_number (hot_of a) * 4 ≡ a + flag_number (hot_of c) * 4 =
    same_but_hot c a settled.below below (settled.state ∙ sym here)
    (omega (arith, settled.pins, claimed.pins)) (settled.len ∙ claimed.len) settled.place in
    omega (arith, near, ap flag_number settled.hot)
