-- What the record of one view has of any object, without a look at any other view.
use Rattle.std.specs.Prelude.{◌≡◌, ◌⊎◌, ℕ, ◌+◌, ◌≤◌, Bool, true, false}
use Rattle.cb_world.specs.declared.entry.Entry.{Entry}
use Rattle.cb_rule.specs.declared.view.Seen.{Seen}
use Rattle.cb_rule.specs.declared.view.View.{View}
use Rattle.cb_rule.specs.Lists.{Has}
use Rattle.cb_rule.specs.OwnStands.{WroteItself}
use Rattle.cb_rule.specs.Records.{seen_of}

-- the record has this version of the object, and whether it is the freed one
abbrev pub HasVersion : View → ℕ → ℕ → Bool → Type 0
HasVersion v h version freed =
    ((e : Entry) × Has e v.written × (e.handle ≡ h) × (e.version ≡ version) × (e.freed ≡ freed))
    ⊎ ((s : Seen) × Has s v.seen × (s.handle ≡ h) × (s.version ≡ version) × (s.freed ≡ freed))

-- no version of an object is above its freed one, and the freed one is no other
abbrev pub FreedIsLast : View → Type 0
FreedIsLast v = (h last n : ℕ) (freed : Bool) → HasVersion v h last true → HasVersion v h n freed
    → (n ≤ last) × (n ≡ last → freed ≡ true)

-- What was read at a version that the view wrote is that entry, and two entries of one version are
-- the same. An entry goes on from the one before it, where the view wrote both. What was read or
-- written of an object ends at its freed version. Two reads of one version are the same, and an
-- entry goes on from what the view read at the version before it.
pub record RecordStands (u : View) : Type 0 where
  pub read : (s : Seen) (e : Entry) → Has s u.seen → WroteItself u e → s.handle ≡ e.handle
      → s.version ≡ e.version → s ≡ seen_of e
  pub same : (e x : Entry) → WroteItself u e → WroteItself u x → e.handle ≡ x.handle
      → e.version ≡ x.version → e ≡ x
  pub goes_on : (e x : Entry) → WroteItself u e → WroteItself u x → e.handle ≡ x.handle
      → e.version ≡ x.version + 1
      → (x.after ≡ e.before) × (x.freed ≡ false) × (e.freed ≡ false → e.len ≡ x.len)
  pub ends : FreedIsLast u
  pub same_read : (s t : Seen) → Has s u.seen → Has t u.seen → s.handle ≡ t.handle
      → s.version ≡ t.version → s ≡ t
  pub keeps_read : (e : Entry) (s : Seen) → WroteItself u e → Has s u.seen → s.handle ≡ e.handle
      → e.version ≡ s.version + 1
      → (s.words ≡ e.before) × (s.freed ≡ false) × (e.freed ≡ false → e.len ≡ s.len)
