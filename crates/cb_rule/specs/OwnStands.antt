-- What the record of one view has of its own objects, without a look at any other view.
use Rattle.std.specs.Prelude.{◌≡◌, ◌≢◌, ℕ, ◌≤◌, false, [], ◌∷◌}
use Rattle.cb_ptr.specs.declared.word.State.TheVariants as word
use Rattle.cb_ptr.specs.Word.{len_of, state_of}
use Rattle.cb_world.specs.declared.entry.Entry.{Entry}
use Rattle.cb_rule.specs.declared.view.Look.{Look}
use Rattle.cb_rule.specs.declared.view.Seen.{Seen}
use Rattle.cb_rule.specs.declared.view.View.{View}
use Rattle.cb_rule.specs.Lists.{Has}
use Rattle.cb_rule.specs.Promised.{EntryGoesOn, FoundBy, Wrote}
use Rattle.cb_rule.specs.Records.{seen_of}

-- the view itself wrote the entry
abbrev pub WroteItself : View → Entry → Type 0
WroteItself u e = Wrote (u ∷ []) e

-- What a view read of its own objects it wrote itself, and so it did the entry whose length a word
-- tells that it found not Empty. No entry is below the first version, two of one version are the
-- same, and each one of an own object goes on from one that the view wrote itself.
pub record OwnStands (first : ℕ) (u : View) : Type 0 where
  pub read : (s : Seen) → Has s u.seen → Has s.handle u.own
      → (e : Entry) × WroteItself u e × (s ≡ seen_of e)
  pub looked : (l : Look) → FoundBy l u → Has l.handle u.own → state_of l.word ≢ word.Empty
      → (e : Entry) × WroteItself u e × (e.handle ≡ l.handle) × (e.freed ≡ false)
      × (e.len ≡ len_of l.word)
  pub born : (e : Entry) → WroteItself u e → first ≤ e.version
  pub same : (e x : Entry) → WroteItself u e → WroteItself u x → e.handle ≡ x.handle
      → e.version ≡ x.version → e ≡ x
  pub goes_on : (e : Entry) → WroteItself u e → Has e.handle u.own → EntryGoesOn first (u ∷ []) e
