-- Worked records of seats: what meets each definition, and what breaks one of its parts alone.
use Rattle.std.proofs.Common.{◌≡◌, ◌≢◌, ℕ, zero, suc, ◌+◌, ◌*◌, ◌^◌, ◌<◌, ◌≤◌, false, [], ◌∷◌}
use Rattle.std.proofs.Common.{length, sym, refl, ap, ◌∙◌, subst, inl, inr, ⊎_elim, true≢false, lit<}
use Rattle.std.proofs.Common.{lit≤, arith}
use Rattle.std.proofs.lemmas.Bool.{eqb-false}
use mathlib.Core.Option.{some, none as no_slot, some-injective, some-ne-none}
use lib.ListN.{get_elem?}
use Rattle.atomic_table.specs.Table.{Step, step}
use Rattle.cb_types.specs.declared.config.Config.{Config}
use Rattle.cb_ptr.specs.declared.word.State.TheVariants as word
use Rattle.cb_ptr.specs.Word.{state_of}
use Rattle.cb_world.specs.declared.entry.Entry.{Entry}
use Rattle.cb_world.specs.declared.access.Access.TheVariants.{Looked}
use Rattle.cb_world.specs.declared.object.Object.TheVariants as is
use Rattle.cb_world.specs.Written.{entry, gone}
use Rattle.cb_rule.specs.declared.view.Peeked.{Peeked}
use Rattle.cb_rule.specs.declared.view.View.{View}
use Rattle.cb_rule.specs.History.{is_version}
use Rattle.cb_rule.specs.Lists.{times, Has}
use Rattle.cb_rule.specs.Own.{IsAlone}
use Rattle.cb_rule.specs.Records.{IsPeekedOf, LookOk, PeekedOk, SeenOk, seen_of}
use Rattle.cb_rule.specs.Ruled.{AreShares}
use Rattle.cb_rule.specs.Seats.{written_on}
use Rattle.cb_rule.specs.Slot.{LockSlot, Sat}
use Rattle.cb_rule.specs.Steps.{AreNew, FollowsLast, HasEvent, HasLast, IsNewVersion, IsNewest}
use Rattle.cb_rule.specs.Steps.{Knows, TellsPins, act, blank, claimed, freed_seen, joined, left_of}
use Rattle.cb_rule.specs.Steps.{look_at, looked, nothing, opener, right_of, stand, version_seen}
use Rattle.cb_rule.proofs.WorkedHistory.{all_entries, freed, made, written}

abbrev pub pair_of : Config
pair_of = record { k = 1; r = 1; nodes = 2; frames = 1; room = 6; handles = 2; turns = 0 }

-- ---- an entry that was read, and a word that was peeked
read_made : SeenOk all_entries (version_seen 1 3 8 (7 ∷ []))
read_made = (made, inr (inr (inr (inl refl))), refl)

read_freed : SeenOk all_entries (freed_seen 1 5)
read_freed = (freed, inl refl, refl)

abbrev a_peek : ℕ → ℕ → ℕ → ℕ → Peeked
a_peek h k j n = record { handle = h; version = k; index = j; word = n }

peeked_made : PeekedOk all_entries (a_peek 1 3 0 7)
peeked_made = (
  made,
  inr (inr (inr (inl refl))),
  record {
    handle = refl;
    version = refl;
    within = omega arith;
    word = refl;
  },
)

of_another_object : IsPeekedOf made (a_peek 0 3 0 7) → ⊥
of_another_object w = let e = w.handle in omega (arith, e)

of_another_version : IsPeekedOf made (a_peek 1 4 0 7) → ⊥
of_another_version w = let e = w.version in omega (arith, e)

past_the_end : IsPeekedOf made (a_peek 1 3 1 0) → ⊥
past_the_end w = let e = w.within in omega (arith, e)

another_word : IsPeekedOf made (a_peek 1 3 0 8) → ⊥
another_word w = let e = w.word in omega (arith, e)

-- ---- looks at the pointer word of object 1, which is Here with 8 bytes, or with 9
abbrev pub here_word : ℕ → ℕ
here_word len = 2 + len * 8192

pub here_full : (w : ℕ) → state_of w ≡ word.Here → state_of w ≢ word.Empty
here_full w here e = not_empty (sym here ∙ e)
  where
    not_empty : word.Here ≡ word.Empty → ⊥
    not_empty f = absurd cc

looked_at : LookOk all_entries (look_at 1 (here_word 8))
looked_at full = (made, inr (inr (inr (inl refl))), refl, refl, refl)

looked_at_none : LookOk [] (look_at 1 0)
looked_at_none full = absurd (full refl)

of_another_length : LookOk (made ∷ []) (look_at 1 (here_word 9)) → ⊥
of_another_length o = let z = o (here_full (here_word 9) refl) in ⊎_elim
    (λ (is : made ≡ z.0). let e : 8 ≡ z.0.len = ap (λ (x : Entry). x.len) is in
    let n = z.4 in omega (arith, e, n))
    (λ (none : ⊥). none) z.1

-- the freed entry tells no length
of_a_freed_one : LookOk (freed ∷ []) (look_at 1 (here_word 0)) → ⊥
of_a_freed_one o = let z = o (here_full (here_word 0) refl) in ⊎_elim
    (λ (is : freed ≡ z.0). true≢false (ap (λ (x : Entry). x.freed) is ∙ z.3))
    (λ (none : ⊥). none) z.1

-- ---- the first seat, after it made object 1 and wrote it
abbrev first_seat : View
first_seat = record (opener pair_of) { written = written ∷ made ∷ [] }

newest_is_written : IsNewest 1 4 first_seat
newest_is_written = record {
  written = ((λ _. omega arith), ((λ _. omega arith), tt));
  seen = tt;
  lone = λ _. omega arith;
}

not_made : IsNewest 1 3 first_seat → ⊥
not_made n = let e = n.written.0 refl in omega (arith, e)

not_what_was_read : IsNewest 1 3 record (blank pair_of) { seen = freed_seen 1 5 ∷ [] } → ⊥
not_what_was_read n = let e = n.seen.0 refl in omega (arith, e)

not_another_seat_s : IsNewest 1 5 first_seat → ⊥
not_another_seat_s n = let e = n.lone (inl refl) in omega (arith, e)

-- nor of its own object
abbrev owner : View
owner = record (blank pair_of) { written = written ∷ made ∷ []; own = 1 ∷ [] }

not_its_own : IsNewest 1 5 owner → ⊥
not_its_own n = let e = n.lone (inr (inl refl)) in omega (arith, e)

-- ---- a version that is new to the first seat
is_next : IsNewVersion 1 5 first_seat
is_next = record { written = ((λ _. omega arith), ((λ _. omega arith), tt)); seen = tt }

-- of another object any version is
of_another : IsNewVersion 0 3 first_seat
of_another = record {
  written = ((λ e. omega (arith, e)), ((λ e. omega (arith, e)), tt));
  seen = tt;
}

not_what_it_wrote : IsNewVersion 1 4 first_seat → ⊥
not_what_it_wrote n = let e = n.written.0 refl in omega (arith, e)

-- nor what its running turn did
not_what_is_fresh : IsNewVersion 1 3 record (blank pair_of) { fresh = made ∷ [] } → ⊥
not_what_is_fresh n = let e = n.written.0 refl in omega (arith, e)

not_what_it_read : IsNewVersion 1 5 record (blank pair_of) { seen = freed_seen 1 5 ∷ [] } → ⊥
not_what_it_read n = let e = n.seen.0 refl in omega (arith, e)

knows_made : Knows 1 first_seat
knows_made = inl (made, inr (inl refl), refl)

-- ---- it is one above the last
follows_written : FollowsLast freed [] first_seat
follows_written = λ _ _. (4, refl, omega arith)

-- which an entry before it may be
abbrev maker : View
maker = record (opener pair_of) { written = made ∷ [] }

follows_the_one_before : FollowsLast freed (written ∷ []) maker
follows_the_one_before = λ _ _. (4, refl, omega arith)

-- no record says how an object goes on that it doesn't know, or that others may have
abbrev sharer : View
sharer = record (blank pair_of) { share = 24; written = made ∷ [] }

shares_it : IsAlone 1 sharer → ⊥
shares_it l = ⊎_elim (λ (e : 24 ≡ 64). omega (arith, e)) (λ (n : ⊥). n) l

knows_no_other : (h : ℕ) → Knows h maker → 1 ≡ h
knows_no_other h (inl (e, inl is, at)) = ap (λ (x : Entry). x.handle) is ∙ at
knows_no_other h (inl (e, inr none, at)) = absurd none
knows_no_other h (inr (s, none, at)) = absurd none

follows_what_others_wrote : FollowsLast freed [] sharer
follows_what_others_wrote = λ alone _. absurd (shares_it alone)

follows_nothing : FollowsLast (entry 0 3 8 [] []) [] maker
follows_nothing = λ _ knows. absurd (let e = knows_no_other 0 knows in omega (arith, e))

-- a version is left out
leaves_one_out : FollowsLast freed [] maker → ⊥
leaves_one_out f = let z = f (inl refl) (inl (made, inl refl, refl)) in let e = z.1 in
    let four : z.0 ≡ 4 = omega (arith, e) in
    let some : 0 < 0 = subst (λ (n : ℕ). 0 < times (is_version 1 n) (made ∷ [])) four z.2 in
    omega (arith, some)

-- so of an object of its own
leaves_one_of_its_own_out : FollowsLast (gone 1 6 (9 ∷ [])) [] owner → ⊥
leaves_one_of_its_own_out f = let z = f (inr (inl refl)) (inl (made, inr (inl refl), refl)) in
    let e = z.1 in let five : z.0 ≡ 5 = omega (arith, e) in
    let some : 0 < 0 = subst (λ (n : ℕ). 0 < times (is_version 1 n) (written ∷ made ∷ [])) five z.2 in
    omega (arith, some)

are_next : AreNew (freed ∷ []) first_seat
are_next = (is_next, follows_written, tt)

are_both_next : AreNew (freed ∷ written ∷ []) maker
are_both_next = (
  record { written = ((λ _. omega arith), tt); seen = tt },
  follows_the_one_before,
  (
    record { written = ((λ _. omega arith), tt); seen = tt },
    λ _ _. (3, refl, omega arith),
    tt,
  ),
)

not_both : AreNew (freed ∷ written ∷ []) first_seat → ⊥
not_both n = not_what_it_wrote n.2.0

not_without_the_one_between : AreNew (freed ∷ []) maker → ⊥
not_without_the_one_between n = leaves_one_out n.1

-- ---- what a pointer word tells of the pins on object 1: Here with none, or with one
abbrev one_pin : ℕ
one_pin = here_word 8 + 8

abbrev pinner : View
pinner = record sharer { pins = stand 1 8 0 3 (7 ∷ []) ∷ [] }

not_here : state_of 65537 ≢ word.Here
not_here e = far_here e
  where
    far_here : word.Far ≡ word.Here → ⊥
    far_here f = absurd cc

tells_its_pin : TellsPins 1 one_pin pinner
tells_its_pin = record {
  here = λ _. (lit< tt, lit≤ tt, λ _. refl);
  away = λ off. absurd (off refl);
  last = λ _ alone. absurd (shares_it alone);
}

-- others may have pinned it too, where they may have it
tells_another_pin : TellsPins 1 one_pin sharer
tells_another_pin = record {
  here = λ _. (lit< tt, lit≤ tt, λ alone. absurd (shares_it alone));
  away = λ off. absurd (off refl);
  last = λ _ alone. absurd (shares_it alone);
}

-- the last entry that the maker wrote, which is of 8 bytes
made_last : HasLast 1 8 maker
made_last = record {
  last = made;
  wrote = inl refl;
  handle = refl;
  newest = record { written = ((λ _. omega arith), tt); seen = tt; lone = λ _. omega arith };
  held = refl;
  long = refl;
}

tells_of_no_pins : TellsPins 1 65537 maker
tells_of_no_pins =
    record { here = λ e. absurd (not_here e); away = λ _. refl; last = λ _ _. made_last }

-- a word that is Empty tells no length
tells_no_length : TellsPins 1 0 maker
tells_no_length = record {
  here = λ e. absurd (empty_here e);
  away = λ _. refl;
  last = λ full. absurd (full refl);
}
  where
    empty_here : word.Empty ≡ word.Here → ⊥
    empty_here f = absurd cc

too_wide_a_word : TellsPins 1 (2 ^ 53 + one_pin) pinner → ⊥
too_wide_a_word t = let less : 2 ^ 53 + one_pin < 2 ^ 53 = (t.here refl).0 in omega (arith, less)

without_its_pin : TellsPins 1 (here_word 8) pinner → ⊥
without_its_pin t = let less = (t.here refl).1 in omega (arith, less)

with_a_foreign_pin : TellsPins 1 one_pin maker → ⊥
with_a_foreign_pin t = let same : 1 ≡ 0 = (t.here refl).2 (inl refl) in omega (arith, same)

with_a_foreign_pin_on_its_own : TellsPins 1 one_pin owner → ⊥
with_a_foreign_pin_on_its_own t =
    let same : 1 ≡ 0 = (t.here refl).2 (inr (inl refl)) in omega (arith, same)

pinned_and_away : TellsPins 1 65537 pinner → ⊥
pinned_and_away t = let none : 1 ≡ 0 = t.away not_here in omega (arith, none)

-- ---- the last entry: the record wrote it, it is this object's, none is newer, it is not the freed
-- one, and so long
made_is : (e : Entry) → Has e (made ∷ []) → made ≡ e
made_is e (inl is) = is
made_is e (inr none) = absurd none

last_unwritten : HasLast 1 8 (opener pair_of) → ⊥
last_unwritten x = x.wrote

last_of_another : HasLast 0 8 maker → ⊥
last_of_another x = eqb-false 1 0 refl
    (ap (λ (e : Entry). e.handle) (made_is x.last x.wrote) ∙ x.handle)

last_but_one : HasLast 1 8 (record maker { seen = freed_seen 1 5 ∷ [] }) → ⊥
last_but_one x = let high : 5 ≤ x.last.version = x.newest.seen.0 refl in
    let is : 3 ≡ x.last.version = ap (λ (e : Entry). e.version) (made_is x.last x.wrote) in
    omega (arith, high, is)

last_shorter : HasLast 1 7 maker → ⊥
last_shorter x =
    eqb-false 8 7 refl (ap (λ (e : Entry). e.len) (made_is x.last x.wrote) ∙ x.long)

abbrev freed_only : View
freed_only = record maker { written = gone 1 4 (7 ∷ []) ∷ [] }

last_is_freed : HasLast 1 0 freed_only → ⊥
last_is_freed x = by x.last x.wrote x.held
  where
    by : (e : Entry) → Has e (gone 1 4 (7 ∷ []) ∷ []) → e.freed ≡ false → ⊥
    by e (inl is) off = true≢false (ap (λ (z : Entry). z.freed) is ∙ off)
    by e (inr none) off = none

-- no word that is not Empty tells another length, of an object that no other view has
of_another_length_than_its_last : TellsPins 1 57345 maker → ⊥
of_another_length_than_its_last t = last_shorter (t.last off (inl refl))
  where
    off : state_of 57345 ≢ word.Empty
    off e = absurd (far_empty e)
      where
        far_empty : word.Far ≡ word.Empty → ⊥
        far_empty f = absurd cc

-- what a running turn wrote does not count
knows_no_fresh : Knows 1 record (blank pair_of) { fresh = made ∷ [] } → ⊥
knows_no_fresh k = ⊎_elim (λ (z : _). z.1) (λ (z : _). z.1) k

-- ---- so a look of the holder, and a claim, at the pointer word of object 1
abbrev worker : View
worker = record pinner { known = record nothing { objects = is.Here 8 0 ∷ is.Here 8 0 ∷ [] } }

abbrev at_word : ℕ → Step LockSlot
at_word first = step 1 2 first 0 no_slot

looks_there : looked (at_word 0) (worker, []) one_pin (act (Looked 1 one_pin) worker, [])
looks_there h e = let same : 1 ≡ h = omega (arith, e) in
    subst (λ (j : ℕ). HasEvent (worker, []) (Looked j one_pin) (act (Looked 1 one_pin) worker, [])
    × TellsPins j one_pin worker) same (
      (refl, ((lit< tt, refl, refl, inl refl), λ hot. absurd (true≢false (sym hot)))),
      record {
        here = λ _. (lit< tt, lit≤ tt, λ _. refl);
        away = λ off. absurd (off refl);
        last = λ _ alone. absurd (shares_it alone);
      },
    )

looks_unnoted : looked (at_word 0) (worker, []) one_pin (worker, []) → ⊥
looks_unnoted l = eqb-false 0 1 refl (ap (λ (m : Sat). length m.0.acts) (l 1 refl).0.0)

looks_past_its_pin : (m : Sat) → looked (at_word 0) (pinner, []) (here_word 8) m → ⊥
looks_past_its_pin m l = without_its_pin (l 1 refl).1

-- a claim that another word stopped is such a look; none is made under a pin of its own
finds_another : claimed (at_word (here_word 8)) (worker, []) one_pin (act (Looked 1 one_pin) worker, [])
finds_another h e = let z = looks_there h e in
    ((λ same. absurd (eqb-false one_pin (here_word 8) refl same)), (λ _. z.0), z.1)

claims_past_its_pin : (m : Sat) → claimed (at_word (here_word 8)) (pinner, []) (here_word 8) m → ⊥
claims_past_its_pin m c = without_its_pin (c 1 refl).2

-- ---- a seat that is split off has seen what the first has, and wrote nothing
splits_seen : (right_of 24 first_seat).seen ≡ seen_of written ∷ seen_of made ∷ []
splits_seen = refl

splits_nothing_written : written_on 1 4 (right_of 24 first_seat) ≡ 0
splits_nothing_written = refl

splits_share : (left_of 24 first_seat).share ≡ 40
splits_share = refl

-- joined again, each entry is there once, and the other's lists stand in front
joins_share : (joined (left_of 24 first_seat) (right_of 24 first_seat)).share ≡ 64
joins_share = refl

joins_written : written_on 1 4 (joined (left_of 24 first_seat) (right_of 24 first_seat)) ≡ 1
joins_written = refl

-- ---- shares
shares : AreShares pair_of (first_seat ∷ blank pair_of ∷ [])
shares = record { whole = refl; spent = spent }
  where
    spent : (j : ℕ) (u : View) → get_elem? (first_seat ∷ blank pair_of ∷ []) j ≡ some u
        → u.share ≡ 0 → u ≡ blank pair_of
    spent zero u e z = absurd (let q : 64 ≡ 0 =
        ap (λ (x : View). x.share) (some-injective first_seat u e) ∙ z in omega (arith, q))
    spent (suc zero) u e z = sym (some-injective (blank pair_of) u e)
    spent (suc (suc j)) u e z = absurd (some-ne-none u (sym e))

too_many_shares : AreShares pair_of (first_seat ∷ first_seat ∷ []) → ⊥
too_many_shares a = let e = a.whole in omega (arith, e)

spent_with_pins : AreShares pair_of (first_seat ∷ record (blank pair_of) { ever = 1 } ∷ []) → ⊥
spent_with_pins a = let e : 1 ≡ 0 =
    ap (λ (x : View). x.ever) (a.spent 1 record (blank pair_of) { ever = 1 } refl refl) in
    omega (arith, e)
