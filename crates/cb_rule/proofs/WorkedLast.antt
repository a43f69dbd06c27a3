-- Worked examples of what views found and wrote last, and of the words that stand for it: what
-- meets each definition, and what breaks one part alone.
use Rattle.std.proofs.Common.{◌≡◌, ℕ, ◌+◌, ◌≤◌, true, false, List, [], ◌∷◌, length, get_or, sym}
use Rattle.std.proofs.Common.{Option, Some, None, refl, ap, ◌∙◌, subst, inl, inr, ⊎_elim, true≢false, arith}
use Rattle.cb_ptr.specs.Word.{state_number}
use Rattle.cb_world.specs.declared.shown.Shown.{Shown}
use Rattle.cb_world.specs.declared.entry.Entry.{Entry}
use Rattle.cb_world.specs.declared.object.Object.{Object}
use Rattle.cb_world.specs.declared.object.Object.TheVariants as is
use Rattle.cb_world.specs.Memory.{window}
use Rattle.cb_world.specs.Shown.{never}
use Rattle.cb_types.specs.declared.order.Kept.{Kept}
use Rattle.cb_rule.specs.declared.turn.Turn.{Turn}
use Rattle.cb_rule.specs.declared.view.Held.{Held}
use Rattle.cb_rule.specs.declared.view.Stand.{Stand}
use Rattle.cb_rule.specs.declared.view.View.{View}
use Rattle.cb_rule.specs.Lists.{Has}
use Rattle.cb_rule.specs.Own.{entries_on, held_on, reads_it, writes_it}
use Rattle.cb_rule.specs.Promised.{FoundBy, HeldStands, HereStands, HolderClaims, IsLast, Looked}
use Rattle.cb_rule.specs.Promised.{MovingStands, PinStands}
use Rattle.cb_rule.specs.Ruled.{IsAlike}
use Rattle.cb_rule.specs.Seats.{claims_on, pins_it, share_of}
use Rattle.cb_rule.specs.Steps.{blank, freed_seen, look_at, nothing, opener, stand}
use Rattle.cb_rule.specs.Words.{stamps, words_at}
use Rattle.cb_rule.proofs.WorkedClosing.{claiming, here as there, is_made, maker, record_with}
use Rattle.cb_rule.proofs.WorkedClosing.{the_one, wrote_in}
use Rattle.cb_rule.proofs.WorkedHistory.{freed, made, written}
use Rattle.cb_rule.proofs.WorkedLocking.{far, never_drawn, turn}
use Rattle.cb_rule.proofs.WorkedStands.{here, table, two}
use Rattle.cb_rule.proofs.WorkedViews.{here_word, pair_of}

-- ---- what views count
abbrev holder : View
holder = record maker { holds = true; seen = freed_seen 1 5 ∷ [] }

abbrev claim : Held
claim = record {
  handle = 1;
  len = 8;
  place = 0;
  word = here;
  version = 3;
  old = 7 ∷ [];
  stamp = 3;
  memory = 7 ∷ [];
}

on_this : (writes_it 1 made ≡ true) × (reads_it 1 (freed_seen 1 5) ≡ true)
    × (pins_it 1 (stand 1 8 0 3 (7 ∷ [])) ≡ true)
on_this = (refl, refl, refl)

on_another : (writes_it 0 made ≡ false) × (reads_it 0 (freed_seen 1 5) ≡ false)
    × (pins_it 0 (stand 1 8 0 3 (7 ∷ [])) ≡ false)
on_another = (refl, refl, refl)

-- written, read, and written in a running turn
entries_counted : (entries_on 1 holder ≡ 2) × (entries_on 0 holder ≡ 0)
    × (entries_on 1 (record holder { fresh = written ∷ [] }) ≡ 3)
entries_counted = (refl, refl, refl)

-- those of the holder of the lock alone
held_counted : (held_on 1 holder ≡ 2) × (held_on 1 maker ≡ 0)
held_counted = (refl, refl)

claims_counted : (claims_on 1 (record maker { claims = claim ∷ [] }) ≡ 1)
    × (claims_on 0 (record maker { claims = claim ∷ [] }) ≡ 0)
claims_counted = (refl, refl)

shares_read : (share_of maker ≡ 64) × (share_of (blank pair_of) ≡ 0)
shares_read = (refl, refl)

-- ---- where words stand: the lock, two pointer words, two version words, the memory
stamps_begin : stamps two ≡ 3
stamps_begin = refl

words_of_nine_bytes : words_at two (0 ∷ 0 ∷ 0 ∷ 0 ∷ 0 ∷ 5 ∷ 7 ∷ 9 ∷ 11 ∷ []) 1 9 ≡ 7 ∷ 9 ∷ []
unfolding window
words_of_nine_bytes = refl

-- ---- a word that was found: by a look, or by a claim of a turn
abbrev looker : View
looker = record maker { looks = look_at 1 (here_word 8) ∷ [] }

found_by_look : FoundBy (look_at 1 (here_word 8)) looker
found_by_look = inl (inl refl)

found_by_claim : FoundBy (look_at 1 (here_word 9)) claiming
found_by_claim = inr (_, inl refl, _, inl refl, (refl, refl))

found_by_none : FoundBy (look_at 1 (here_word 8)) maker → ⊥
found_by_none (inl none) = none
found_by_none (inr (t, none, e, has, look)) = none

-- a turn that did nothing
abbrev still : View
still = record maker { turns = turn (far 0) (far 1) ∷ [] }

found_by_no_act : FoundBy (look_at 1 (here_word 8)) still → ⊥
found_by_no_act (inl none) = none
found_by_no_act (inr (t, inl is, e, has, look)) = subst (λ (u : Turn). Has e u.acts) (sym is) has
found_by_no_act (inr (t, inr none, e, has, look)) = none

found_by_the_second : Looked (maker ∷ claiming ∷ []) (look_at 1 (here_word 9))
found_by_the_second = (claiming, (1, refl), found_by_claim)

-- ---- the last entry of an object
is_last : IsLast (maker ∷ []) made
is_last = (
  (maker, there maker, inl refl),
  λ x wrote same. let v : x.version ≡ 3 = ap (λ (y : Entry). y.version) (is_made x wrote) in
      omega (arith, v),
)

last_unwritten : IsLast (opener pair_of ∷ []) made → ⊥
last_unwritten l = wrote_in (opener pair_of) made l.0

abbrev writer : View
writer = record_with (written ∷ made ∷ [])

last_below_another : IsLast (writer ∷ []) made → ⊥
last_below_another l = let e : 4 ≤ 3 = l.1 written (writer, there writer, inl refl) refl in
    omega (arith, e)

-- ---- an object that is here, with the words of its last entry
here_stands : HereStands two (table here 3 7) (maker ∷ []) 1
unfolding window
here_stands = record {
  last = made;
  is_last = is_last;
  handle = refl;
  held = refl;
  len = refl;
  version = refl;
  words = refl;
}

here_unwritten : HereStands two (table here 3 7) (opener pair_of ∷ []) 1 → ⊥
here_unwritten h = wrote_in (opener pair_of) h.last h.is_last.0

-- object 0 has these words, and was never made
here_of_another : HereStands two (0 ∷ here ∷ 0 ∷ 3 ∷ 0 ∷ 7 ∷ []) (maker ∷ []) 0 → ⊥
here_of_another h = let e : 1 ≡ 0 =
    ap (λ (x : Entry). x.handle) (sym (is_made h.last h.is_last.0)) ∙ h.handle in
    omega (arith, e)

-- it was freed, and its word says that it has no bytes
abbrev freer : View
freer = record_with (freed ∷ [])

here_freed : HereStands two (table 2 5 0) (freer ∷ []) 1 → ⊥
here_freed h = let is = the_one h.last freed (wrote_in freer h.last h.is_last.0) in
    true≢false (ap (λ (x : Entry). x.freed) (sym is) ∙ h.held)

here_shorter : HereStands two (table (here_word 7) 3 7) (maker ∷ []) 1 → ⊥
here_shorter h = let e : 8 ≡ 7 =
    ap (λ (x : Entry). x.len) (sym (is_made h.last h.is_last.0)) ∙ h.len in omega (arith, e)

here_later : HereStands two (table here 4 7) (maker ∷ []) 1 → ⊥
here_later h = let e : 4 ≡ 3 =
    h.version ∙ ap (λ (x : Entry). x.version) (is_made h.last h.is_last.0) in omega (arith, e)

here_other_words : HereStands two (table here 3 8) (maker ∷ []) 1 → ⊥
unfolding window
here_other_words h = let e : 8 ≡ 7 = ap (λ (xs : List ℕ). get_or xs 0 0)
    (h.words ∙ ap (λ (x : Entry). x.after) (is_made h.last h.is_last.0)) in omega (arith, e)

-- ---- a pin on it
abbrev pin : Stand
pin = stand 1 8 0 3 (7 ∷ [])

abbrev Pinned : ℕ → View → Stand → Type 0
Pinned w v p = PinStands (0 ∷ 0 ∷ w ∷ []) (v ∷ []) p

pin_stands : Pinned here maker pin
pin_stands = record {
  here = refl;
  place = refl;
  len = refl;
  last = made;
  is_last = is_last;
  handle = refl;
  version = refl;
  words = refl;
}

pinned_moving : Pinned (here + 1) maker pin → ⊥
pinned_moving p = let e : 3 ≡ 2 = ap state_number p.here in omega (arith, e)

pinned_elsewhere : Pinned here maker (stand 1 8 1 3 (7 ∷ [])) → ⊥
pinned_elsewhere p = let e : 1 ≡ 0 = p.place in omega (arith, e)

pinned_shorter : Pinned here maker (stand 1 7 0 3 (7 ∷ [])) → ⊥
pinned_shorter p = let e : 7 ≡ 8 = p.len in omega (arith, e)

pinned_unwritten : Pinned here (opener pair_of) pin → ⊥
pinned_unwritten p = wrote_in (opener pair_of) p.last p.is_last.0

-- object 0 has the word, and was never made
pinned_of_another : PinStands (0 ∷ here ∷ []) (maker ∷ []) (stand 0 8 0 3 (7 ∷ [])) → ⊥
pinned_of_another p = let e : 1 ≡ 0 =
    ap (λ (x : Entry). x.handle) (sym (is_made p.last p.is_last.0)) ∙ p.handle in
    omega (arith, e)

pinned_later : Pinned here maker (stand 1 8 0 4 (7 ∷ [])) → ⊥
pinned_later p = let e : 3 ≡ 4 =
    ap (λ (x : Entry). x.version) (sym (is_made p.last p.is_last.0)) ∙ p.version in
    omega (arith, e)

pinned_other_words : Pinned here maker (stand 1 8 0 3 (8 ∷ [])) → ⊥
pinned_other_words p = let e : 7 ≡ 8 = ap (λ (xs : List ℕ). get_or xs 0 0)
    (ap (λ (x : Entry). x.after) (sym (is_made p.last p.is_last.0)) ∙ p.words) in
    omega (arith, e)

-- ---- a claim of it
held_stands : HeldStands (maker ∷ []) claim
held_stands = record {
  last = made;
  is_last = is_last;
  handle = refl;
  version = refl;
  len = refl;
  words = refl;
}

held_unwritten : HeldStands (opener pair_of ∷ []) claim → ⊥
held_unwritten h = wrote_in (opener pair_of) h.last h.is_last.0

held_of_another : HeldStands (maker ∷ []) (record claim { handle = 0 }) → ⊥
held_of_another h = let e : 1 ≡ 0 =
    ap (λ (x : Entry). x.handle) (sym (is_made h.last h.is_last.0)) ∙ h.handle in
    omega (arith, e)

held_later : HeldStands (maker ∷ []) (record claim { version = 4 }) → ⊥
held_later h = let e : 3 ≡ 4 =
    ap (λ (x : Entry). x.version) (sym (is_made h.last h.is_last.0)) ∙ h.version in
    omega (arith, e)

held_shorter : HeldStands (maker ∷ []) (record claim { len = 7 }) → ⊥
held_shorter h = let e : 8 ≡ 7 =
    ap (λ (x : Entry). x.len) (sym (is_made h.last h.is_last.0)) ∙ h.len in omega (arith, e)

held_other_words : HeldStands (maker ∷ []) (record claim { old = 8 ∷ [] }) → ⊥
held_other_words h = let e : 7 ≡ 8 = ap (λ (xs : List ℕ). get_or xs 0 0)
    (ap (λ (x : Entry). x.after) (sym (is_made h.last h.is_last.0)) ∙ h.words) in
    omega (arith, e)

-- ---- what the holder of the lock has claimed of it
abbrev claims_it : ℕ → List ℕ → Shown
claims_it version words = record nothing {
  objects = never ∷ is.Claimed 8 0 version words ∷ [];
}

abbrev len_in : Object → ℕ
len_in (is.Claimed len place version words) = len
len_in o = 0

abbrev version_in : Object → ℕ
version_in (is.Claimed len place version words) = version
version_in o = 0

abbrev words_in : Object → List ℕ
words_in (is.Claimed len place version words) = words
words_in o = []

holder_claims : (len place version : ℕ) (words : List ℕ)
    → is.Claimed 8 0 3 (7 ∷ []) ≡ is.Claimed len place version words
    → HolderClaims (maker ∷ []) (claims_it 3 (7 ∷ [])) 1
holder_claims len place version words e = record {
  len = len;
  place = place;
  version = version;
  words = words;
  claimed = e;
  last = made;
  is_last = is_last;
  handle = refl;
  number = ap version_in e;
  long = ap len_in e;
  has = ap words_in e;
}

claims_nothing : HolderClaims (maker ∷ []) nothing 1 → ⊥
claims_nothing h = let e : 0 ≡ 1 = ap is_claimed h.claimed in omega (arith, e)
  where
    is_claimed : Object → ℕ
    is_claimed (is.Claimed len place version words) = 1
    is_claimed o = 0

claims_unwritten : HolderClaims (opener pair_of ∷ []) (claims_it 3 (7 ∷ [])) 1 → ⊥
claims_unwritten h = wrote_in (opener pair_of) h.last h.is_last.0

claims_of_another : HolderClaims (maker ∷ []) record nothing {
  objects = is.Claimed 8 0 3 (7 ∷ []) ∷ [];
} 0 → ⊥
claims_of_another h = let e : 1 ≡ 0 =
    ap (λ (x : Entry). x.handle) (sym (is_made h.last h.is_last.0)) ∙ h.handle in
    omega (arith, e)

claims_later : HolderClaims (maker ∷ []) (claims_it 4 (7 ∷ [])) 1 → ⊥
claims_later h = let e : 3 ≡ 4 =
    ap (λ (x : Entry). x.version) (sym (is_made h.last h.is_last.0)) ∙ h.number
    ∙ sym (ap version_in h.claimed) in omega (arith, e)

claims_shorter : HolderClaims (maker ∷ []) record nothing {
  objects = never ∷ is.Claimed 7 0 3 (7 ∷ []) ∷ [];
} 1 → ⊥
claims_shorter h = let e : 8 ≡ 7 =
    ap (λ (x : Entry). x.len) (sym (is_made h.last h.is_last.0)) ∙ h.long
    ∙ sym (ap len_in h.claimed) in omega (arith, e)

claims_other_words : HolderClaims (maker ∷ []) (claims_it 3 (8 ∷ [])) 1 → ⊥
claims_other_words h = let e : 7 ≡ 8 = ap (λ (xs : List ℕ). get_or xs 0 0)
    (ap (λ (x : Entry). x.after) (sym (is_made h.last h.is_last.0)) ∙ h.has
    ∙ sym (ap words_in h.claimed)) in omega (arith, e)

-- ---- its word is Moving for one reason
moving_stands : MovingStands (0 ∷ 0 ∷ (here + 1) ∷ []) (maker ∷ []) (claims_it 3 (7 ∷ [])) 1
moving_stands = record {
  moves = λ _. inr (holder_claims 8 0 3 (7 ∷ []) refl);
  claimed = λ len place version words e. (refl, refl, holder_claims len place version words e);
}

moving_for_none : MovingStands (0 ∷ 0 ∷ (here + 1) ∷ []) (maker ∷ []) nothing 1 → ⊥
moving_for_none m = ⊎_elim (λ (one : 0 ≡ 1). omega (arith, one))
    (λ (h : HolderClaims (maker ∷ []) nothing 1). claims_nothing h) (m.moves refl)

claimed_and_here : MovingStands (0 ∷ 0 ∷ here ∷ []) (maker ∷ []) (claims_it 3 (7 ∷ [])) 1 → ⊥
claimed_and_here m = let e : 2 ≡ 3 = ap state_number (m.claimed 8 0 3 (7 ∷ []) refl).0 in
    omega (arith, e)

claimed_by_two : MovingStands (0 ∷ 0 ∷ (here + 1) ∷ [])
    (record maker { claims = claim ∷ [] } ∷ []) (claims_it 3 (7 ∷ [])) 1 → ⊥
claimed_by_two m = let e : 1 ≡ 0 = (m.claimed 8 0 3 (7 ∷ []) refl).1 in omega (arith, e)

-- ---- two views with the same lock and turns
alike : IsAlike maker (record maker { share = 40; written = [] })
alike = record { holds = refl; start = refl; since = refl; took = refl; turns = refl; order = refl }

unlike_in_the_lock : IsAlike maker holder → ⊥
unlike_in_the_lock a = true≢false a.holds

unlike_in_what_it_began_with : IsAlike maker (record maker { start = record nothing { first = 4 } }) → ⊥
unlike_in_what_it_began_with a = let e : 4 ≡ 1 = ap (λ (s : Shown). s.first) a.start in
    omega (arith, e)

unlike_in_what_it_took : IsAlike (record maker { took = far 0 }) (record maker { took = far 1 }) → ⊥
unlike_in_what_it_took a = let e : 1 ≡ 0 = ap (λ f. f.counts.turns) a.took in omega (arith, e)

unlike_in_its_order : IsAlike maker (record maker { order = never_drawn }) → ⊥
unlike_in_its_order a = let e : 1 ≡ 0 = ap has_order a.order in omega (arith, e)
  where
    has_order : Option Kept → ℕ
    has_order None = 0
    has_order (Some o) = 1

unlike_in_turns : IsAlike maker claiming → ⊥
unlike_in_turns a = let e : 1 ≡ 0 = ap (λ (ts : List Turn). length ts) a.turns in omega (arith, e)

unlike_in_when_it_began : IsAlike maker (record maker { since = 1 }) → ⊥
unlike_in_when_it_began a = let e : 1 ≡ 0 = a.since in omega (arith, e)
