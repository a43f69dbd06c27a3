-- Worked pointer words: what meets each definition, and what breaks one of its parts alone.
use Rattle.std.proofs.Common.{◌≡◌, ◌+◌, ◌^◌, true, false, lit<, refl, arith}
use Rattle.cb_ptr.specs.declared.word.PtrWord.{PtrWord}
use Rattle.cb_ptr.specs.declared.word.State.TheVariants.{Empty, Here, Moving}
use Rattle.cb_ptr.specs.Word.{IsInWidths, IsPointer, fields_of, word_of}
use Rattle.cb_ptr.specs.Steps.{Claims, GivesPin, IsFarWord, Settles, TakesPin}

-- Here, hot, one pin, length 2, place 512
abbrev fields : PtrWord
fields = record { state = Here; hot = true; pins = 1; len = 2; place = 512 }

packed : word_of fields ≡ 274877923342
packed = refl

read_back : fields_of 274877923342 ≡ fields
read_back = refl

-- a Moving word, and the highest word of 53 bits
moving : fields_of 7 ≡ record { state = Moving; hot = true; pins = 0; len = 0; place = 0 }
moving = refl

highest : fields_of 9007199254740991
    ≡ record { state = Moving; hot = true; pins = 1023; len = 65535; place = 16777215 }
highest = refl

-- the bits from 53 on are not looked at
higher_bits : fields_of (2 ^ 53)
    ≡ record { state = Empty; hot = false; pins = 0; len = 0; place = 0 }
higher_bits = refl

in_widths : IsInWidths fields
in_widths = record { pins = lit< tt; len = lit< tt; place = lit< tt }

too_many_pins : ¬ (IsInWidths (record fields { pins = 1024 }))
too_many_pins h = absurd (omega (arith, h.pins))

too_long : ¬ (IsInWidths (record fields { len = 65536 }))
too_long h = absurd (omega (arith, h.len))

too_far : ¬ (IsInWidths (record fields { place = 16777216 }))
too_far h = absurd (omega (arith, h.place))

-- the word of an object
pointer : IsPointer 274877923342
pointer = record {
  below = lit< tt;
  empty = λ e. absurd (cc);
  far = λ e. absurd (cc);
  held = λ some. (refl, refl);
}

past_53_bits : ¬ (IsPointer (2 ^ 53 + 2))
past_53_bits h = absurd (omega (arith, h.below))

-- Empty with a length
empty_with_length : ¬ (IsPointer 16384)
empty_with_length h = absurd (omega (arith, h.empty refl))

-- Far and hot, Far with a pin, Far at a place
far_and_hot : ¬ (IsPointer 16389)
far_and_hot h = absurd (let hot = (h.far refl).0 in cc)

far_with_pin : ¬ (IsPointer 16393)
far_with_pin h = absurd (let pins = (h.far refl).1 in omega (arith, pins))

far_at_a_place : ¬ (IsPointer 536887297)
far_at_a_place h = absurd (let place = (h.far refl).2 in omega (arith, place))

-- a pin on a word that is Moving, and on one that is not hot
moving_with_pin : ¬ (IsPointer 274877923343)
moving_with_pin h = absurd (let state = (h.held (lit< tt)).0 in cc)

pinned_but_not_hot : ¬ (IsPointer 274877923338)
pinned_but_not_hot h = absurd (let hot = (h.held (lit< tt)).1 in cc)

-- a second pin
second_pin : TakesPin 274877923342 274877923350
second_pin = record {
  state = refl;
  hot = refl;
  pins = refl;
  len = refl;
  place = refl;
  number =
      refl;
}

-- a first pin on a word that is not hot sets hot
first_pin : TakesPin 274877923330 274877923342
first_pin = record {
  state = refl;
  hot = refl;
  pins = refl;
  len = refl;
  place = refl;
  number =
      refl;
}

pin_that_moves : ¬ (TakesPin 274877923330 274877923343)
pin_that_moves h = absurd (let state = h.state in cc)

pin_that_leaves_hot_clear : ¬ (TakesPin 274877923330 274877923338)
pin_that_leaves_hot_clear h = absurd (let hot = h.hot in cc)

two_pins_at_once : ¬ (TakesPin 274877923330 274877923350)
two_pins_at_once h = absurd (omega (arith, h.pins))

pin_that_lengthens : ¬ (TakesPin 274877923330 274877931534)
pin_that_lengthens h = absurd (omega (arith, h.len))

pin_that_displaces : ¬ (TakesPin 274877923330 275414794254)
pin_that_displaces h = absurd (omega (arith, h.place))

-- every field is right, and a bit past them is set
pin_with_a_high_bit : ¬ (TakesPin 274877923330 9007474132664334)
pin_with_a_high_bit h = absurd (omega (arith, h.number))

one_pin_less : GivesPin 274877923342 274877923334
one_pin_less = record {
  state = refl;
  hot = refl;
  pins = refl;
  len = refl;
  place = refl;
  number =
      refl;
}

unpin_that_cools : ¬ (GivesPin 274877923342 274877923330)
unpin_that_cools h = absurd (let hot = h.hot in cc)

unpin_that_keeps_the_pin : ¬ (GivesPin 274877923342 274877923342)
unpin_that_keeps_the_pin h = absurd (omega (arith, h.pins))

unpin_with_a_high_bit : ¬ (GivesPin 274877923342 9007474132664326)
unpin_with_a_high_bit h = absurd (omega (arith, h.number))

claim : Claims 274877923334 274877923335
claim = record { state = refl; hot = refl; pins = refl; len = refl; place = refl; number = refl }

claim_that_stays_here : ¬ (Claims 274877923334 274877923334)
claim_that_stays_here h = absurd (let state = h.state in cc)

claim_that_cools : ¬ (Claims 274877923334 274877923331)
claim_that_cools h = absurd (let hot = h.hot in cc)

claim_with_a_high_bit : ¬ (Claims 274877923334 9007474132664327)
claim_with_a_high_bit h = absurd (omega (arith, h.number))

-- settled at place 1024, not hot
settle : Settles 274877923335 1024 false 549755830274
settle = record { state = refl; hot = refl; pins = refl; len = refl; place = refl; below = lit< tt }

settle_that_stays_hot : ¬ (Settles 274877923335 1024 false 549755830278)
settle_that_stays_hot h = absurd (let hot = h.hot in cc)

settle_that_still_moves : ¬ (Settles 274877923335 1024 false 549755830275)
settle_that_still_moves h = absurd (let state = h.state in cc)

settle_with_a_pin : ¬ (Settles 274877923335 1024 false 549755830282)
settle_with_a_pin h = absurd (omega (arith, h.pins))

settle_with_another_length : ¬ (Settles 274877923335 1024 false 549755838466)
settle_with_another_length h = absurd (omega (arith, h.len))

settle_at_the_old_place : ¬ (Settles 274877923335 1024 false 274877923330)
settle_at_the_old_place h = absurd (omega (arith, h.place))

settle_past_53_bits : ¬ (Settles 274877923335 1024 false 9007749010571266)
settle_past_53_bits h = absurd (omega (arith, h.below))

-- two bytes, far away
far : IsFarWord 2 16385
far = record { state = refl; hot = refl; pins = refl; len = refl; place = refl; number = refl }

far_of_another_length : ¬ (IsFarWord 2 24577)
far_of_another_length h = absurd (omega (arith, h.len))

far_but_here : ¬ (IsFarWord 2 16386)
far_but_here h = absurd (let state = h.state in cc)

far_with_a_high_bit : ¬ (IsFarWord 2 9007199254757377)
far_with_a_high_bit h = absurd (omega (arith, h.number))
