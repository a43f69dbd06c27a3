-- What the words of the still desk say of an object.
use Rattle.std.specs.Prelude.{ℕ, true}
use Rattle.cb_ptr.specs.Word.{word_of, fields_of}
pub use Rattle.cb_world.specs.Plain.{stamp_at, contents_at}

-- the pointer word with all its fields, and hot
abbrev pub with_hot : ℕ → ℕ
with_hot w = word_of (record (fields_of w) { hot = true })
