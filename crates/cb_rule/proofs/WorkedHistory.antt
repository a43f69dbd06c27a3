-- Worked histories: what meets each definition, and what breaks one of its parts alone.
use Rattle.std.proofs.Common.{◌≡◌, ℕ, ◌+◌, ◌≤◌, true, List, [], ◌∷◌, length, sym, refl, ap, ◌∙◌}
use Rattle.std.proofs.Common.{inl, inr, true≢false, arith}
use Rattle.cb_world.specs.declared.entry.Entry.{Entry}
use Rattle.cb_world.specs.Written.{entry, gone}
use Rattle.cb_rule.specs.History.{IsChanged, IsEntryHistory, IsMadeEntry, Value, WasNow}
use Rattle.cb_rule.specs.History.{holding_words, is_version, newest, no_value, top}
use Rattle.cb_rule.specs.Lists.{times}

-- object 1 is made with 8 bytes, written and freed; object 0 is made between. Makes give version 3.
abbrev pub made : Entry
made = entry 1 3 8 [] (7 ∷ [])

abbrev pub other : Entry
other = entry 0 3 8 [] (5 ∷ [])

abbrev pub written : Entry
written = entry 1 4 8 (7 ∷ []) (9 ∷ [])

abbrev pub freed : Entry
freed = gone 1 5 (9 ∷ [])

abbrev pub first_one : List Entry
first_one = made ∷ []

abbrev pub some_entries : List Entry
some_entries = written ∷ other ∷ made ∷ []

abbrev pub all_entries : List Entry
all_entries = freed ∷ some_entries

top_never : top all_entries 2 ≡ 0
top_never = refl

top_other : top all_entries 0 ≡ 3
top_other = refl

top_written : top some_entries 1 ≡ 4
top_written = refl

newest_written : newest some_entries 1 ≡ holding_words 8 (9 ∷ [])
newest_written = refl

newest_freed : newest all_entries 1 ≡ no_value
newest_freed = refl

once_written : times (is_version 1 4) all_entries ≡ 1
once_written = refl

never_sixth : times (is_version 1 6) all_entries ≡ 0
never_sixth = refl

is_made : IsMadeEntry 3 0 made
is_made = record { never = refl; number = refl; kept = refl; nothing = refl }

is_other : IsMadeEntry 3 0 other
is_other = record { never = refl; number = refl; kept = refl; nothing = refl }

is_written : IsChanged 3 (holding_words 8 (7 ∷ [])) written
is_written = record {
  there = refl;
  number = refl;
  past = refl;
  same_len = λ kept. refl;
  ends = λ ended. absurd (true≢false (sym ended));
}

is_freed : IsChanged 4 (holding_words 8 (9 ∷ [])) freed
is_freed = record {
  there = refl;
  number = refl;
  past = refl;
  same_len = λ kept. absurd (true≢false kept);
  ends = λ ended. refl;
}

pub history : IsEntryHistory 3 all_entries
history = (inr is_freed, (inr is_written, (inl is_other, (inl is_made, tt))))

-- ---- a make, with one part off each
made_twice : IsMadeEntry 3 3 made → ⊥
made_twice m = let e = m.never in absurd (omega (arith, e))

made_at_another : IsMadeEntry 3 0 (entry 1 4 8 [] (7 ∷ [])) → ⊥
made_at_another m = let e = m.number in absurd (omega (arith, e))

made_freed : IsMadeEntry 3 0 record {
  handle = 1;
  version = 3;
  len = 8;
  freed = true;
  before = [];
  after = 7 ∷ [];
} → ⊥
made_freed m = true≢false m.kept

abbrev count_words : List ℕ → ℕ
count_words [] = 0
count_words (x ∷ xs) = 1 + count_words xs

made_of_old_words : IsMadeEntry 3 0 (entry 1 3 8 (1 ∷ []) (7 ∷ [])) → ⊥
made_of_old_words m = let e : 1 ≡ 0 = ap count_words m.nothing in absurd (omega (arith, e))

-- ---- a change, with one part off each: after a free, a version left out, another past, another
-- length, a free that keeps words
after_a_free : IsChanged 5 no_value (entry 1 6 8 [] (9 ∷ [])) → ⊥
after_a_free m = true≢false m.there

left_out : IsChanged 3 (holding_words 8 (7 ∷ [])) (entry 1 5 8 (7 ∷ []) (9 ∷ [])) → ⊥
left_out m = let e = m.number in absurd (omega (arith, e))

abbrev first_word : List ℕ → ℕ
first_word [] = 0
first_word (x ∷ xs) = x

another_past : IsChanged 3 (holding_words 8 (7 ∷ [])) (entry 1 4 8 (6 ∷ []) (9 ∷ [])) → ⊥
another_past m = let e : 6 ≡ 7 = ap first_word m.past in absurd (omega (arith, e))

another_length : IsChanged 3 (holding_words 8 (7 ∷ [])) (entry 1 4 7 (7 ∷ []) (9 ∷ [])) → ⊥
another_length m = let e : 7 ≡ 8 = m.same_len refl in absurd (omega (arith, e))

freed_with_words : IsChanged 4 (holding_words 8 (9 ∷ [])) record {
  handle = 1;
  version = 5;
  len = 0;
  freed = true;
  before = 9 ∷ [];
  after = 9 ∷ [];
} → ⊥
freed_with_words m = let e : 9 ≡ 0 = ap (λ (v : Value). first_word v.words) (m.ends refl) in
    absurd (omega (arith, e))

-- ---- what was the newest when the history had one entry to three
was_made : WasNow all_entries 1 1 1 3 (holding_words 8 (7 ∷ []))
was_made = record {
  newer = freed ∷ written ∷ other ∷ [];
  older = first_one;
  parts = refl;
  low = omega arith;
  high = omega arith;
  last = refl;
  has = refl;
}

was_written : WasNow all_entries 1 3 1 4 (holding_words 8 (9 ∷ []))
was_written = record {
  newer = freed ∷ [];
  older = some_entries;
  parts = refl;
  low = omega arith;
  high = omega arith;
  last = refl;
  has = refl;
}

-- before the turn, or after it
too_early : (w : WasNow first_one 2 2 1 3 (holding_words 8 (7 ∷ []))) → length w.older ≤ 1 → ⊥
too_early w short = let low = w.low in absurd (omega (arith, low, short))

too_late : (w : WasNow all_entries 1 2 1 4 (holding_words 8 (9 ∷ []))) → 3 ≤ length w.older → ⊥
too_late w long = let high = w.high in absurd (omega (arith, high, long))

-- another version, or another value
not_five : (w : WasNow all_entries 3 3 1 5 no_value) → w.older ≡ some_entries → ⊥
not_five w e = let v : 4 ≡ 5 = ap (λ (es : List Entry). top es 1) (sym e) ∙ w.last in
    absurd (omega (arith, v))

not_seven : (w : WasNow all_entries 3 3 1 4 (holding_words 8 (7 ∷ []))) → w.older ≡ some_entries → ⊥
not_seven w e =
    let v : 9 ≡ 7 = ap (λ (es : List Entry). first_word (newest es 1).words) (sym e)
    ∙ ap (λ (x : Value). first_word x.words) w.has in
    absurd (omega (arith, v))
