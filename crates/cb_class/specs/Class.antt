use Rattle.std.specs.Prelude.{◌≡◌, ◌*◌, ◌/◌, ◌<◌, ◌≤◌, List, [], ◌∷◌, ℕ, length, slice_index}
use Rattle.cb_class.specs.declared.class.Class.{Class}

-- the bytes of a slot of each class, by the class's index
abbrev pub sizes : List ℕ
sizes = 16 ∷ 32 ∷ 48 ∷ 64 ∷ 96 ∷ 128 ∷ 192 ∷ 256 ∷ 384 ∷ 512 ∷ 768 ∷ 1024
    ∷ 1536 ∷ 2048 ∷ 3072 ∷ 4096 ∷ []

-- the pages of a span of each class, by the class's index
abbrev pub page_counts : List ℕ
page_counts = 1 ∷ 1 ∷ 1 ∷ 1 ∷ 1 ∷ 1 ∷ 1 ∷ 1 ∷ 1 ∷ 1 ∷ 1 ∷ 1 ∷ 2 ∷ 2 ∷ 4 ∷ 4 ∷ []

-- the bytes of the largest slots, those of the last class: no object is longer
abbrev pub largest : ℕ
largest = 4096

-- the index stands in the table
abbrev pub IsClass : Class → Type 0
IsClass c = c.index < length sizes

-- the bytes of a slot
unfoldable pub bytes_of : Class → ℕ
bytes_of c = slice_index sizes c.index

-- the pages of a span, of 4,096 bytes each
unfoldable pub pages_of : Class → ℕ
pages_of c = slice_index page_counts c.index

-- the slots of a span: as many as lie whole in the bytes of its pages
unfoldable pub slots_of : Class → ℕ
slots_of c = 4096 * pages_of c / bytes_of c

-- the words of eight bytes in a slot
unfoldable pub words_of : Class → ℕ
words_of c = bytes_of c / 8

-- the class of objects of this length: the least one whose slots hold it
pub record IsClassOf (len : ℕ) (c : Class) : Type 0 where
  pub in_table : IsClass c
  pub holds : len ≤ bytes_of c
  pub least : (smaller : Class) → smaller.index < c.index → bytes_of smaller < len

-- a class whose spans have so many pages, and so many slots
pub record IsClassOfSpan (pages slots : ℕ) (c : Class) : Type 0 where
  pub in_table : IsClass c
  pub paged : pages_of c ≡ pages
  pub counted : slots_of c ≡ slots
