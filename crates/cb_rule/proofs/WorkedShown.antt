-- Worked examples of the world that a table shows: what meets the definition, and what breaks one
-- part alone.
use Rattle.std.proofs.Common.{◌≡◌, ℕ, ◌<◌, ◌++◌, true, false, Bool, List, [], ◌∷◌, Some, length}
use Rattle.std.proofs.Common.{replicate, subst, sym, refl, ap, ◌∙◌, inl, ⊎_elim, true≢false, lit<}
use Rattle.std.proofs.Common.{lit≤, arith}
use mathlib.Core.Option.{Option as Maybe, some, none, some-injective, some-ne-none}
use Rattle.cb_ptr.specs.declared.word.State.TheVariants as word
use Rattle.cb_ptr.specs.Word.{state_number, state_of}
use Rattle.cb_world.specs.declared.entry.Entry.{Entry}
use Rattle.cb_world.specs.declared.object.Object.{Object}
use Rattle.cb_world.specs.declared.object.Object.TheVariants as is
use Rattle.cb_world.specs.Empty.{empty_far}
use Rattle.cb_world.specs.FarState.{FarState}
use Rattle.cb_world.specs.Now.{Now}
use Rattle.cb_world.specs.Now.Now.{freed as ended}
use Rattle.cb_world.specs.OpenWrites.{IsLeavingNow}
use Rattle.cb_world.specs.Plain.{stamp_at, word_at}
use Rattle.cb_world.specs.Shown.{Fits, object_at}
use Rattle.cb_world.specs.StillDesk.{window_length}
use Rattle.cb_world.proofs.Laws.{empty_now, empty_value, window_at}
use Rattle.cb_rule.specs.declared.view.View.{View}
use Rattle.cb_rule.specs.Closing.{desk_of}
use Rattle.cb_rule.specs.Lists.{Has}
use Rattle.cb_rule.specs.Promised.{Wrote}
use Rattle.cb_rule.specs.ShownWorld.{IsMovedByOne, ShowsWorld}
use Rattle.cb_rule.specs.Slot.{LockSlot, Table}
use Rattle.cb_rule.specs.Steps.{opener}
use Rattle.cb_rule.proofs.Opening.{opens, same_each}
use Rattle.cb_rule.proofs.ShownWorld.{world_shown}
use Rattle.cb_rule.proofs.WorkedClosing.{far_in, here, is_held, is_made, maker, not_held}
use Rattle.cb_rule.proofs.WorkedHistory.{made}
use Rattle.cb_rule.proofs.WorkedLocking.{accepted, never_drawn, one_view, quiet}
use Rattle.cb_rule.proofs.WorkedPromise.{one_claim}
use Rattle.cb_rule.proofs.WorkedViews.{pair_of}

abbrev zeros : List ℕ
zeros = replicate 517 0

abbrev empty : FarState
empty = empty_far 3 pair_of

abbrev table : List ℕ → Maybe LockSlot → View → Table
table words home v = record { words = words; homes = home ∷ []; views = v ∷ [] }

abbrev home : FarState → Maybe LockSlot
home f = some (Some f)

-- ---- at the start the table shows the empty world
shows : ShowsWorld pair_of (table zeros (home empty) (opener pair_of)) empty
shows = let x = world_shown quiet 3 pair_of (table zeros (home empty) (opener pair_of))
    (opens 3 (omega arith) pair_of zeros refl (same_each 517 0) quiet accepted) refl in
    subst (ShowsWorld pair_of (table zeros (home empty) (opener pair_of)))
    (sym (ap far_in x.home)) x

not_at_home : ShowsWorld pair_of (table zeros none (opener pair_of)) empty → ⊥
not_at_home x = some-ne-none _ (sym (some-injective _ _ x.home))

-- of two frames
another_size : ShowsWorld record pair_of { frames = 2 } (table zeros (home empty) (opener pair_of))
    empty → ⊥
another_size x = let e : 1 ≡ 2 = x.configured.frames in omega (arith, e)

-- a turn that is of no job
abbrev miscounted : FarState
miscounted = record empty {
  counts = record { turns = 1; by_job = replicate 24 0; sets = 0; keys = 0 };
}

counts_else : ShowsWorld pair_of (table zeros (home miscounted) (opener pair_of)) miscounted → ⊥
counts_else x = let e : 0 ≡ 1 = x.counted.jobs in omega (arith, e)

-- ---- the pointer word of object 0 is one that no object has
abbrev no_word : List ℕ
no_word = 0 ∷ 5 ∷ replicate 515 0

fits_none : (o : Object) → Fits o 5 → ⊥
fits_none (is.Empty v) f = omega (arith, f)
fits_none (is.Far len v words) f = let e : 5 ≡ 1 = f.0 in omega (arith, e)
fits_none (is.Here len place) f = ⊎_elim
    (λ (s : state_of 5 ≡ word.Here). let e : 1 ≡ 2 = ap state_number s in omega (arith, e))
    (λ (s : state_of 5 ≡ word.Moving). let e : 1 ≡ 3 = ap state_number s in omega (arith, e)) f.3
fits_none (is.Claimed len place v words) f =
    let e : 1 ≡ 3 = ap state_number f.4 in omega (arith, e)

not_known : ShowsWorld pair_of (table no_word (home empty) (opener pair_of)) empty → ⊥
not_known x = fits_none (object_at x.shown 0)
    (subst (Fits (object_at x.shown 0)) (window_at no_word 1 2 0 (lit< tt))
    (x.known.shows.fit 0 (subst (λ (n : ℕ). 0 < n) (sym (window_length no_word 1 2)) (lit< tt))))

-- ---- the word of object 0 is Moving: a view claims it
abbrev Moved : ℕ → View → FarState → Type 0
Moved w v f = IsMovedByOne (table (0 ∷ w ∷ []) (home f) v) f 0

moved_well : Moved 65539 one_claim empty
moved_well = record {
  moves = λ _. inl refl;
  claimed = λ _. refl;
  leaves = λ leaving. absurd (let e = leaving.1 in cc);
}

moved_for_none : Moved 65539 (opener pair_of) empty → ⊥
moved_for_none m = ⊎_elim (λ (one : 0 ≡ 1). omega (arith, one))
    (λ (leaving : IsLeavingNow empty 0). absurd (let e = leaving.1 in cc)) (m.moves refl)

claimed_and_here : Moved 65538 one_claim empty → ⊥
claimed_and_here m = let e : 2 ≡ 3 = ap state_number (m.claimed (lit≤ tt)) in omega (arith, e)

-- it is leaving too, or leaving and not Moving
claimed_and_leaving : (f : FarState) → IsLeavingNow f 0 → Moved 65539 one_claim f → ⊥
claimed_and_leaving f leaving m = let e : 1 ≡ 0 = (m.leaves leaving).1 in omega (arith, e)

leaving_and_here : (f : FarState) → IsLeavingNow f 0 → Moved 65538 (opener pair_of) f → ⊥
leaving_and_here f leaving m = let e : 2 ≡ 3 = ap state_number (m.leaves leaving).0 in
    omega (arith, e)

-- ---- an object with an entry whose word is Empty
without_its_object : ShowsWorld pair_of (table zeros (home empty) maker) empty → ⊥
without_its_object x = let desk = desk_of pair_of zeros in
    let last = x.last made (
      (maker, here maker, inl refl),
      λ e wrote same. let v : e.version ≡ 3 =
          ap (λ (y : Entry). y.version) (is_made e wrote) in omega (arith, v),
    ) refl in
    let below : 1 < length desk.words =
    subst (λ (n : ℕ). 1 < n) (sym (window_length zeros 1 2)) (lit< tt) in
    let bare : state_of (word_at desk 1) ≡ state_of 0 =
    ap state_of (window_at zeros 1 2 1 (lit< tt) ∙ same_each 517 0 2) in
    let nothing = empty_now desk empty x.shown 1 x.known.shows x.known.sound below bare in
    true≢false (sym (ap is_held last) ∙ ap is_held nothing ∙ not_held (stamp_at desk 1))

-- ---- an object without an entry whose version word is that of a freed one
abbrev a_version : List ℕ
a_version = 0 ∷ 0 ∷ 0 ∷ 5 ∷ replicate 513 0

abbrev is_freed : Now → Bool
is_freed (ended v) = true
is_freed _ = false

freed_unmade : ShowsWorld pair_of (table a_version (home empty) (opener pair_of)) empty → ⊥
freed_unmade x = let desk = desk_of pair_of a_version in
    let below : 0 < length desk.words =
    subst (λ (n : ℕ). 0 < n) (sym (window_length a_version 1 2)) (lit< tt) in
    let bare : state_of (word_at desk 0) ≡ state_of 0 =
    ap state_of (window_at a_version 1 2 0 (lit< tt)) in
    let freed = empty_now desk empty x.shown 0 x.known.shows x.known.sound below bare in
    let five : stamp_at desk 0 ≡ 5 = window_at a_version 3 2 0 (lit< tt) in
    true≢false (sym (ap is_freed (freed ∙ ap empty_value five))
    ∙ ap is_freed (x.none 0 (lit< tt) (λ e wrote. absurd (nothing e wrote))))
  where
    nothing : (e : Entry) → Wrote (opener pair_of ∷ []) e → ⊥
    nothing e w = one_view (λ u. Has e (u.fresh ++ u.written) → ⊥) (opener pair_of) (λ none. none)
        w.1.0 w.0 w.1.1 w.2

-- a view keeps an order of a number that was not drawn
keeps_what_was_not_drawn : ShowsWorld pair_of
    (table zeros (home empty) record (opener pair_of) { order = never_drawn }) empty → ⊥
keeps_what_was_not_drawn x = let d : 0 < 0 = (x.orders 0 _ refl).drawn in omega (arith, d)
