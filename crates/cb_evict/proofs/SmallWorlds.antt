-- The ground of the worked examples: small worlds, their words, spans, nodes and sets.
use Rattle.std.proofs.Common.{All, List, None, Option, Some, [], ap, arith, false, get_or, length, lit<, refl, replicate, suc, sym, true, zero, ℕ, ◌*◌, ◌/◌, ◌<◌, ◌^◌, ◌∙◌, ◌∷◌, ◌≡◌}
use Rattle.std.proofs.lemmas.List.Elements.{All-cons, All-nil, All-replicate}
use Rattle.std.proofs.lemmas.List.{get_or-replicate, length-replicate}
use Rattle.std.specs.FinMap as map
use Rattle.std.specs.List.{Contains, slice_get}
use Rattle.cb_class.specs.Class.{bytes_of, pages_of, words_of}
use Rattle.cb_evict.proofs.Options.{none_some, some_same}
use Rattle.cb_evict.specs.Candidates.{SpanNames}
use Rattle.cb_evict.specs.Closing.{HaveHomes}
use Rattle.cb_evict.specs.Looking.{IsIn}
use Rattle.cb_gf256.proofs.PublicLaws.{product_with_zero, sum_over_zeros}
use Rattle.cb_gf256.specs.Power.{power}
use Rattle.cb_gf256.specs.Product.{◌⊗◌}
use Rattle.cb_gf256.specs.Rows.{byte_at}
use Rattle.cb_member.specs.Membership.{fresh_members}
use Rattle.cb_member.specs.declared.names.Shard.{Shard}
use Rattle.cb_node.specs.NodesState.{empty_nodes, held}
use Rattle.cb_span.specs.Contents.{Contents, span_of}
use Rattle.cb_span.specs.declared.temp.Temp.TheVariants.{Cold, Hot}
use Rattle.cb_span.specs.declared.temp.Temp.{Temp}
use Rattle.cb_types.specs.declared.config.Config.{Config}
use Rattle.cb_world.specs.Choices.{numbered, room_count}
use Rattle.cb_world.specs.FarState.{FarState, handle_in, pages_at, resident, span_in}
use Rattle.cb_world.specs.Homes.{home_at}
use Rattle.cb_world.specs.Leaving.{LeavingState}
use Rattle.cb_world.specs.Memory.{window}
use Rattle.cb_world.specs.Plain.{Words}
use Rattle.cb_evict.specs.Loading.{AreOfLength}
use Rattle.cb_world.specs.RowWords.{row_of, words_from, words_in}
use Rattle.cb_world.specs.SetWord.{IsSpanWord}
use Rattle.cb_world.specs.Survey.{no_survey}
use Rattle.cb_world.specs.declared.homes.Home.{Home}

-- the words of an object of 8 bytes at place 0: here; with a pin, and so hot; claimed; far
abbrev pub calm : ℕ
calm = 65538

abbrev pub pinned : ℕ
pinned = 65550

abbrev pub moving : ℕ
moving = 65539

abbrev pub away : ℕ
away = 65537

-- here, at place 1
abbrev pub further : ℕ
further = 536936450

abbrev pub settings : Config
settings = record { k = 1; r = 1; nodes = 2; frames = 5; room = 2; handles = 4; turns = 0 }

abbrev pub desk : List ℕ → Words
desk words = record {
  settings = settings;
  words = words;
  versions = 3 ∷ 3 ∷ 3 ∷ 3 ∷ [];
  memory = 0 ∷ 0 ∷ [];
}

-- a span with two slots, of which the second has an object
abbrev pub span_with : Temp → ℕ → Contents
span_with temp h = span_of (record { index = 0 }) temp (None ∷ Some h ∷ [])

-- a far state with these spans, where these frames are leaving, and with so many nodes
abbrev pub far_with : List (Option Contents) → Option LeavingState → ℕ → FarState
far_with spans leaving nodes = record {
  first = 1;
  made = 4;
  frames = false ∷ false ∷ true ∷ false ∷ false ∷ [];
  spans = spans;
  sets = map.empty;
  homes = None ∷ None ∷ None ∷ None ∷ [];
  nodes = empty_nodes nodes 2;
  members = fresh_members nodes;
  code = record { k = 1; r = 1 };
  leaving = leaving;
  joining = None;
  counts = record { turns = 0; by_job = []; sets = 0; keys = 0 };
  survey = no_survey;
}

-- ---- the pages of such a span
pub one_page : pages_of (record { index = 0 }) ≡ 1
unfolding pages_of
one_page = refl

-- ---- two spans
-- one span leaves, and another one stays
abbrev pub pair : FarState
pair = far_with (Some (span_with Cold 0) ∷ Some (span_with Hot 1) ∷ []) None 2

abbrev pub before : Words
before = desk (calm ∷ pinned ∷ [])

abbrev pub after : Words
after = desk (away ∷ pinned ∷ [])

-- the first span's object is the first one
pub only_object : (h : ℕ) → IsIn pair.spans (0 ∷ []) h → 0 ≡ h
only_object h (f, (zero, l, e), (slot, named)) =
    go slot (ap (λ (n : ℕ). handle_in (span_in pair.spans n) slot) e ∙ named)
  where
    go : (slot : ℕ) → handle_in (span_in pair.spans 0) slot ≡ Some h → 0 ≡ h
    go zero e = absurd (none_some h e)
    go (suc zero) e = some_same 0 h e
    go (suc (suc n)) e = absurd (none_some h e)
only_object h (f, (suc k, l, e), named) = absurd (omega (arith, l))

pub first_object : IsIn pair.spans (0 ∷ []) 0
first_object = (0, (0, lit< tt, refl), (1, refl))

-- the first span has one page
pub one_long : AreOfLength pair.spans 1 (0 ∷ [])
one_long = All-cons (λ (f : ℕ). pages_at pair.spans f ≡ 1) 0 [] one_page
    (All-nil (λ (f : ℕ). pages_at pair.spans f ≡ 1))

pub heads : (a b : ℕ) → a ∷ [] ≡ b ∷ [] → a ≡ b
heads a b e = cc

-- each of the two spans has one object
pub only_first : (h : ℕ) → SpanNames pair.spans 0 h → 0 ≡ h
only_first h (zero, e) = absurd (none_some h e)
only_first h (suc zero, e) = some_same 0 h e
only_first h (suc (suc n), e) = absurd (none_some h e)

pub only_second : (h : ℕ) → SpanNames pair.spans 1 h → 1 ≡ h
only_second h (zero, e) = absurd (none_some h e)
only_second h (suc zero, e) = some_same 1 h e
only_second h (suc (suc n), e) = absurd (none_some h e)

-- ---- where nothing leaves
abbrev pub busy : Words
busy = desk (pinned ∷ pinned ∷ [])

-- one node where two are needed: the one has room
abbrev pub lone : FarState
lone = far_with pair.spans None 1

pub one_node : room_count lone.nodes lone.members ≡ 1
one_node = grind (arith, map.gets)

-- ---- the code word: a row of zeros and its parity
unfoldable pub row : List ℕ
row = replicate 4096 0

abbrev pub rows : List (List ℕ)
rows = row ∷ row ∷ []

-- the bytes of a frame of zeros
pub zero_row : row_of (window [] 0 512) ≡ row
unfolding row window
zero_row = refl

row_length : length row ≡ 4096
unfolding row
row_length = length-replicate {A = ℕ} 4096 0

row_zeros : (column : ℕ) → column < 4096 → get_or row column 0 ≡ 0
unfolding row
row_zeros column below = get_or-replicate 4096 column 0 0 below

row_bytes : All (λ (b : ℕ). b < 2 ^ 8) row
unfolding row
row_bytes = All-replicate (λ (b : ℕ). b < 2 ^ 8) 4096 0 (lit< tt)

front_words : window (words_from 512 row) (1 * words_of (record { index = 0 })) 1 ≡ 0 ∷ []
unfolding row words_of bytes_of window words_from
front_words = refl

pub row_words : window (words_in row) (1 * words_of (record { index = 0 })) 1 ≡ 0 ∷ []
row_words =
    ap (λ (n : ℕ). window (words_from (n / 8) row) (1 * words_of (record { index = 0 })) 1)
    row_length ∙ front_words

bytes_zero : (column i : ℕ) → column < 4096 → byte_at rows i column ≡ 0
bytes_zero column zero below = row_zeros column below
bytes_zero column (suc zero) below = row_zeros column below
bytes_zero column (suc (suc i)) below = refl

pub is_word : IsSpanWord 1 1 1 rows
is_word = record {
  is_word = record {
    count = refl;
    equal_lengths = All-cons (λ (r : List ℕ). length r ≡ length row) row (row ∷ []) refl
        (All-cons (λ (r : List ℕ). length r ≡ length row) row [] refl
        (All-nil (λ (r : List ℕ). length r ≡ length row)));
    syndromes_zero = λ j column low below.
        sum_over_zeros 2 (λ i. power 2 (i * j) ⊗ byte_at rows i column)
        (λ i l. ap (λ (b : ℕ). power 2 (i * j) ⊗ b)
        (bytes_zero column i (omega (arith, below, row_length)))
        ∙ product_with_zero (power 2 (i * j)));
  };
  bytes = All-cons (All (λ (b : ℕ). b < 2 ^ 8)) row (row ∷ []) row_bytes
      (All-cons (All (λ (b : ℕ). b < 2 ^ 8)) row [] row_bytes
      (All-nil (All (λ (b : ℕ). b < 2 ^ 8))));
  wide = row_length;
}

-- ---- the shards: both nodes are empty, and the one with the least number comes first
abbrev pub shard : ℕ → Shard
shard n = record { node = numbered n; incarnation = 0; key = n }

abbrev pub shards : List Shard
shards = shard 0 ∷ shard 1 ∷ []

pub none_held : (n : ℕ) → held pair.nodes (numbered n) ≡ 0
none_held zero = grind (arith, map.gets)
none_held (suc zero) = grind (arith, map.gets)
none_held (suc (suc n)) = grind (arith, map.gets)

pub two_nodes : room_count pair.nodes pair.members ≡ 2
two_nodes = let a = none_held 0 in let b = none_held 1 in grind (arith, a, b)

-- ---- the home of the object
abbrev pub homes : List (Option Home)
homes = Some (record { set = 0; position = 0; slot = 1 }) ∷ None ∷ None ∷ None ∷ []

pub homed : HaveHomes pair.spans (0 ∷ []) 0 pair.homes homes
homed = record {
  count = refl;
  here = λ p f slot h at named. here p f slot h at named;
  others = λ h none. others h none;
}
  where
    by_slot : (slot h : ℕ) → handle_in (span_in pair.spans 0) slot ≡ Some h
        → home_at homes h ≡ Some (record { set = 0; position = 0; slot = slot })
    by_slot zero h e = absurd (none_some h e)
    by_slot (suc zero) h e = ap (home_at homes) (sym (some_same 0 h e))
    by_slot (suc (suc n)) h e = absurd (none_some h e)

    here : (p f slot h : ℕ) → slice_get (0 ∷ []) p ≡ Some f → resident pair.spans f slot ≡ Some h
        → home_at homes h ≡ Some (record { set = 0; position = p; slot = slot })
    here zero f slot h at named = by_slot slot h
        (ap (λ (n : ℕ). handle_in (span_in pair.spans n) slot) (some_same 0 f at) ∙ named)
    here (suc p) f slot h at named = absurd (none_some f at)

    others : (h : ℕ) → ((f : ℕ) → Contains (0 ∷ []) f → SpanNames pair.spans f h → ⊥)
        → home_at homes h ≡ home_at pair.homes h
    others zero none = absurd (none 0 (0, lit< tt, refl) (1, refl))
    others (suc h) none = refl
