-- Loose spans by their lengths.
use Rattle.std.specs.Prelude.{◌≡◌, ℕ, ◌+◌, ◌<◌, Bool, max, not, nat_eq, nat_le, List, Option, None, Some, filter, length, if◌then◌else◌}
use Rattle.cb_span.specs.Contents.{Contents}
use Rattle.cb_world.specs.FarState.{pages_at}
use Rattle.cb_evict.specs.declared.lengths.LengthCounts.{LengthCounts}

-- whether the span in a frame has so many pages
abbrev pub has_pages : List (Option Contents) → ℕ → ℕ → Bool
has_pages spans pages f = nat_eq (pages_at spans f) pages

-- those of some frames whose spans have so many pages, in order
abbrev pub loose_of : List (Option Contents) → ℕ → List ℕ → List ℕ
loose_of spans pages loose = filter (has_pages spans pages) loose

-- how many have so many pages
abbrev pub count_of : List (Option Contents) → ℕ → List ℕ → ℕ
count_of spans pages loose = length (loose_of spans pages loose)

-- the most spans of one length that some frames have: of 4 pages, of 2 or of 1
unfoldable pub most_loose : List (Option Contents) → List ℕ → ℕ
most_loose spans loose =
    max (count_of spans 4 loose) (max (count_of spans 2 loose) (count_of spans 1 loose))

-- the greatest length of which some frames have k spans at least, if there is one
unfoldable pub batch_pages : ℕ → List (Option Contents) → List ℕ → Option ℕ
batch_pages k spans loose =
    if nat_le k (count_of spans 4 loose) then Some 4
    else if nat_le k (count_of spans 2 loose) then Some 2
    else if nat_le k (count_of spans 1 loose) then Some 1
    else None

-- those of some frames that are not lost
abbrev pub without : (ℕ → Bool) → List ℕ → List ℕ
without lost loose = filter (λ f. not (lost f)) loose

-- how many of the spans in some frames have each length
pub record AreLengthCounts (spans : List (Option Contents)) (frames : List ℕ)
    (counts : LengthCounts) : Type 0 where
  pub fours : counts.fours ≡ count_of spans 4 frames
  pub twos : counts.twos ≡ count_of spans 2 frames
  pub ones : counts.ones ≡ count_of spans 1 frames

-- each count is below a number
abbrev pub AreFew : ℕ → LengthCounts → Type 0
AreFew n counts = (counts.fours < n) × (counts.twos < n) × (counts.ones < n)

abbrev pub one_if : Bool → ℕ
one_if b = if b then 1 else 0

-- the counts, where one more span has so many pages
abbrev pub with_span : LengthCounts → ℕ → LengthCounts
with_span counts pages = record {
  fours = counts.fours + one_if (nat_eq pages 4);
  twos = counts.twos + one_if (nat_eq pages 2);
  ones = counts.ones + one_if (nat_eq pages 1);
}

-- the most spans of one length
abbrev pub most_of : LengthCounts → ℕ
most_of counts = max counts.fours (max counts.twos counts.ones)
