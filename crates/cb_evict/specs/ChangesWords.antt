-- A change of words of objects alone.
use Rattle.std.specs.Prelude.{◌≡◌, ℕ, length}
use Rattle.cb_world.specs.Plain.{Words}
use Rattle.cb_world.specs.World.{word_at}

-- So the words of some objects changed. Those of the others are as they were, and so are the
-- settings and all version words and memory words.
pub record ChangesWords (x y : Words) (so : Type 0) (other : ℕ → Type 0) : Type 0 where
  pub changed : so
  pub others : (h : ℕ) → other h → word_at y h ≡ word_at x h
  pub count : length y.words ≡ length x.words
  pub settings : y.settings ≡ x.settings
  pub versions : y.versions ≡ x.versions
  pub memory : y.memory ≡ x.memory
