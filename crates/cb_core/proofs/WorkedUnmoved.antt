-- Worked examples of a pinned object that stays where it is, and of each part alone that breaks.
use Rattle.std.proofs.Common.{◌≡◌, ℕ, List, [], ◌∷◌, refl, ap, sym, subst, arith, lit≤}
use Rattle.cb_types.specs.declared.config.Config.{Config}
use Rattle.cb_types.specs.declared.reply.Reply.{Reply}
use Rattle.cb_world.specs.Memory.{bytes_in, window}
use Rattle.cb_world.specs.Plain.{Words}
use Rattle.cb_world.specs.World.{WorldState, empty_world}
use Rattle.cb_core.specs.declared.event.Event.{Event}
use Rattle.cb_core.specs.Unmoved.{IsUnmoved, HasPin, KeepsPinned, LeadsPinned, StaysPinned}

abbrev c : Config
c = record { k = 1; r = 1; nodes = 2; frames = 2; room = 4; handles = 2; turns = 0 }

-- words of an object of two bytes with one pin: at place 0, and at place 2; of three bytes; without pins
abbrev pinned : ℕ
pinned = 16398

abbrev further : ℕ
further = 1073758222

abbrev longer : ℕ
longer = 24590

abbrev free : ℕ
free = 16390

-- the desk with this word and version, and this first memory word and third
abbrev desk : ℕ → ℕ → ℕ → ℕ → Words
desk word version first third = record {
  settings = c;
  words = word ∷ 0 ∷ [];
  versions = version ∷ 0 ∷ [];
  memory = first ∷ 0 ∷ third ∷ [];
}

stays : IsUnmoved 0 (desk pinned 3 2826 0) (desk pinned 3 2826 0)
stays = record { place = refl; len = refl; version = refl; bytes = refl }

-- bytes beside it are no part of it
stays_beside : IsUnmoved 0 (desk pinned 3 2826 0) (desk pinned 3 2826 7)
unfolding bytes_in window
stays_beside = record { place = refl; len = refl; version = refl; bytes = refl }

goes_on : IsUnmoved 0 (desk pinned 3 2826 2826) (desk further 3 2826 2826) → ⊥
goes_on x = let e : 2 ≡ 0 = x.place in omega (arith, e)

grows : IsUnmoved 0 (desk pinned 3 2826 0) (desk longer 3 2826 0) → ⊥
grows x = let e : 3 ≡ 2 = x.len in omega (arith, e)

gets_a_version : IsUnmoved 0 (desk pinned 3 2826 0) (desk pinned 4 2826 0) → ⊥
gets_a_version x = let e : 4 ≡ 3 = x.version in omega (arith, e)

abbrev head : List ℕ → ℕ
head [] = 0
head (byte ∷ bytes) = byte

is_written : IsUnmoved 0 (desk pinned 3 2826 0) (desk pinned 3 2827 0) → ⊥
unfolding bytes_in window
is_written x = let e : 11 ≡ 10 = ap head x.bytes in omega (arith, e)

abbrev world : ℕ → ℕ → WorldState
world word version = record (empty_world c) { desk = desk word version 2826 0 }

has_a_pin : HasPin 0 (world pinned 3)
has_a_pin = lit≤ tt

has_none : HasPin 0 (world free 3) → ⊥
has_none some = omega (arith, some)

-- an object without a pin before may be written, and one with pins before and after may not
free_is_written : HasPin 0 (world free 3) → IsUnmoved 0 (world free 3).desk (world pinned 4).desk
free_is_written some = absurd (has_none some)

pinned_is_written : KeepsPinned (world pinned 3) (world pinned 4) → ⊥
pinned_is_written keeps = let e : 4 ≡ 3 = (keeps 0 (lit≤ tt) (lit≤ tt)).version in omega (arith, e)

-- a pin before an event and after it is one in each world of that run
stays_pinned : (e : Event) (r : Reply)
    → (leads : LeadsPinned (world pinned 3) (e ∷ []) (r ∷ []) (world pinned 3))
    → StaysPinned 0 (world pinned 3) (e ∷ []) (r ∷ []) (world pinned 3) leads
stays_pinned e r leads = (has_a_pin, subst (HasPin 0) leads.3 has_a_pin)

pinned_late : (e : Event) (r : Reply)
    → (leads : LeadsPinned (world free 3) (e ∷ []) (r ∷ []) (world pinned 3))
    → StaysPinned 0 (world free 3) (e ∷ []) (r ∷ []) (world pinned 3) leads → ⊥
pinned_late e r leads pinned = has_none pinned.0

unpinned_at_the_end : (e : Event) (r : Reply)
    → (leads : LeadsPinned (world pinned 3) (e ∷ []) (r ∷ []) (world free 3))
    → StaysPinned 0 (world pinned 3) (e ∷ []) (r ∷ []) (world free 3) leads → ⊥
unpinned_at_the_end e r leads stays = has_none (subst (HasPin 0) (sym leads.3) stays.1)

unpinned_between : (e f : Event) (r s : Reply)
    → (leads : LeadsPinned (world pinned 3) (e ∷ f ∷ []) (r ∷ s ∷ []) (world pinned 3))
    → leads.0 ≡ world free 3
    → StaysPinned 0 (world pinned 3) (e ∷ f ∷ []) (r ∷ s ∷ []) (world pinned 3) leads → ⊥
unpinned_between e f r s leads free_then stays = has_none (subst (HasPin 0) free_then stays.1.0)
