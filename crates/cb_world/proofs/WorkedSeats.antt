-- Worked examples of seats, pins and counts: what meets each definition, and what breaks one
-- part.
use Rattle.std.proofs.Common.{◌≡◌, ℕ, zero, suc, ◌+◌, ◌^◌, ◌<◌, ◌≤◌, true, false, List, [], ◌∷◌, ◌++◌, Option, None, Some, length, replicate, get_or, slice_get, refl, ap, sym, ◌∙◌, lit<, lit≤, arith}
use Rattle.std.specs.FinMap as map
use Rattle.std.specs.List.{All}
use Rattle.std.proofs.lemmas.Option.{slice_get_within}
use Rattle.std.proofs.lemmas.List.Elements.{All-cons, All-replicate}
use Rattle.cb_ptr.specs.declared.word.State.TheVariants as word
use Rattle.cb_ptr.specs.Word.{state_of, hot_of, pins_of}
use Rattle.cb_types.specs.declared.config.Config.{Config}
use Rattle.cb_types.specs.declared.order.Kept.{Kept}
use Rattle.cb_types.specs.declared.order.Kept.TheVariants as kept
use Rattle.cb_world.specs.declared.seats.SeatPin.{SeatPin}
use Rattle.cb_set.specs.SetState.{SetState}
use Rattle.cb_world.specs.Codes.{HaveCodes, IsCodeOf}
use Rattle.cb_member.specs.Membership.{fresh_members}
use Rattle.cb_node.specs.NodesState.{empty_nodes}
use Rattle.cb_world.specs.FarState.{FarState}
use Rattle.cb_world.specs.Joining.{JoiningState}
use Rattle.cb_world.specs.Leaving.{LeavingState}
use Rattle.cb_world.specs.Pinned.{IsPinned, IsUnpinned}
use Rattle.cb_world.specs.Plain.{Words}
use Rattle.cb_world.specs.Seats.{SeatState, idle_seat, order_of, with_order, with_pins, IsNewestOf, NoneOn, pins_among, all_pins_on}
use Rattle.cb_world.specs.Sets.{set_in}
use Rattle.cb_world.specs.World.{ArePinned, AreCounted, IsConfigured, word_at}
use Rattle.cb_world.proofs.WorkedWorld.{far}

abbrev pin_on : ℕ → ℕ → SeatPin
pin_on h version = record { handle = h; version = version }

abbrev seat_with : List SeatPin → SeatState
seat_with pins = record { pins = pins; claims = []; holds = false; order = None }

-- ---- the pins of a seat
abbrev three : List SeatPin
three = pin_on 0 3 ∷ pin_on 1 5 ∷ pin_on 0 3 ∷ []

last_is_newest : IsNewestOf three 0 2
last_is_newest = record { pin = pin_on 0 3; there = refl; on = refl; newest = behind }
  where
    behind : (later : ℕ) (other : SeatPin) → 2 < later → slice_get three later ≡ Some other
        → other.handle ≡ 0 → ⊥
    behind later other less at on =
        let n = slice_get_within three later other at in omega (arith, less, n)

older_is_not : IsNewestOf three 0 0 → ⊥
older_is_not n = n.newest 2 (pin_on 0 3) (lit< tt) refl refl

another_is_not : IsNewestOf three 0 1 → ⊥
another_is_not n = let e : 1 ≡ n.pin.handle = ap handle_of n.there in
    let on = n.on in omega (arith, e, on)
  where
    handle_of : Option SeatPin → ℕ
    handle_of (Some pin) = pin.handle
    handle_of None = 0

past_is_not : IsNewestOf three 0 3 → ⊥
past_is_not n = let past = slice_get_within three 3 n.pin n.there in omega (arith, past)

some_on : NoneOn three 1 → ⊥
some_on none = none 1 (pin_on 1 5) refl refl

two_on_it : pins_among 0 three ≡ 2
two_on_it = refl

none_on_another : pins_among 2 three ≡ 0
none_on_another = refl

all_seats_count : all_pins_on 0 (seat_with three ∷ idle_seat ∷ seat_with (pin_on 0 3 ∷ []) ∷ []) ≡ 3
all_seats_count = refl

-- other pins of one seat; what else it has stays, and so do the other seats
abbrev an_order : Option Kept
an_order = Some (kept.Encode (record { set = 3; k = 1; r = 1; rows = [] }))

one_seat : with_pins (record { pins = three; claims = []; holds = true; order = an_order } ∷ idle_seat ∷ []) 0 []
    ≡ record { pins = []; claims = []; holds = true; order = an_order } ∷ idle_seat ∷ []
one_seat = refl

-- its order taken out of it, and kept by another seat
abbrev keeping : Option Kept → SeatState
keeping order = record { pins = three; claims = []; holds = true; order = order }

order_taken : with_order (keeping an_order ∷ idle_seat ∷ []) 0 None ≡ keeping None ∷ idle_seat ∷ []
order_taken = refl

order_kept : order_of (with_order (keeping None ∷ idle_seat ∷ []) 1 an_order) 1 ≡ an_order
order_kept = refl

order_of_the_first : order_of (with_order (keeping an_order ∷ idle_seat ∷ []) 1 None) 0 ≡ an_order
order_of_the_first = refl

-- ---- words and pins
abbrev settings : Config
settings =
    record { k = 1; r = 1; nodes = 1; frames = 2; room = 1; handles = 3; turns = 0 }

abbrev desk : ℕ → Words
desk word =
    record { settings = settings; words = word ∷ 0 ∷ []; versions = 3 ∷ 0 ∷ []; memory = [] }

-- words of an object of two bytes: here, with no pin, one and two; with one pin and cold, or
-- moving
abbrev hot : ℕ
hot = 16390

abbrev pinned : ℕ
pinned = 16398

abbrev twice : ℕ
twice = 16406

abbrev pinned_cold : ℕ
pinned_cold = 16394

abbrev pinned_moving : ℕ
pinned_moving = 16399

pin_more : IsPinned (desk hot) 0 (desk pinned)
pin_more = record {
  word = pinned;
  takes = record {
    state = refl;
    hot = refl;
    pins = refl;
    len = refl;
    place = refl;
    number = refl;
  };
  words = refl;
}

two_more : IsPinned (desk hot) 0 (desk twice) → ⊥
two_more p = let e : 16406 ≡ p.word = ap (λ (x : Words). get_or x.words 0 0) p.words in
    let n : p.word + 4 ≡ 16402 = p.takes.number in omega (arith, e, n)

pin_and_stamp : IsPinned (desk hot) 0 (record (desk pinned) { versions = 4 ∷ 0 ∷ [] }) → ⊥
pin_and_stamp p = let e : 4 ≡ 3 = ap (λ (x : Words). get_or x.versions 0 0) p.words in
    omega (arith, e)

pin_less : IsUnpinned (desk twice) 0 (desk pinned)
pin_less = record {
  word = pinned;
  gives = record {
    state = refl;
    hot = refl;
    pins = refl;
    len = refl;
    place = refl;
    number = refl;
  };
  words = refl;
}

all_less : IsUnpinned (desk twice) 0 (desk hot) → ⊥
all_less p = let e : 16390 ≡ p.word = ap (λ (x : Words). get_or x.words 0 0) p.words in
    let n : p.word + 8 ≡ 16406 = p.gives.number in omega (arith, e, n)

-- one seat of 64 has these pins
abbrev seats : List SeatPin → List SeatState
seats pins = seat_with pins ∷ replicate 63 idle_seat

of_seats : (P : SeatState → Type 0) (pins : List SeatPin) → P (seat_with pins) → P idle_seat
    → All P (seats pins)
of_seats P pins first idle =
    All-cons P (seat_with pins) (replicate 63 idle_seat) first (All-replicate P 63 idle_seat idle)

none_of : (P : SeatPin → Type 0) → All P []
none_of P = λ k d below. absurd (omega (arith, below))

are_pinned : ArePinned (desk pinned) (seats (pin_on 0 3 ∷ []))
are_pinned = record {
  count = refl;
  few = of_seats (λ (seat : SeatState). length seat.pins ≤ 16) one
      (lit≤ tt) (lit≤ tt);
  counted = counted;
  known = of_seats (λ (seat : SeatState). All (λ (pin : SeatPin). pin.handle < 2) seat.pins) one
      (All-cons (λ (pin : SeatPin). pin.handle < 2) (pin_on 0 3) [] (lit< tt) (none_of _)) (none_of _);
  here = here;
  versions = of_seats (λ (seat : SeatState).
      All (λ (pin : SeatPin). pin.version ≡ get_or (3 ∷ 0 ∷ []) pin.handle 0) seat.pins) one
      (All-cons (λ (pin : SeatPin). pin.version ≡ get_or (3 ∷ 0 ∷ []) pin.handle 0) (pin_on 0 3) [] refl
      (none_of _)) (none_of _);
}
  where
    one : List SeatPin
    one = pin_on 0 3 ∷ []

    counted : (h : ℕ) → h < 2 → pins_of (word_at (desk pinned) h) ≡ all_pins_on h (seats (pin_on 0 3 ∷ []))
    counted zero below = refl
    counted (suc zero) below = refl
    counted (suc (suc h)) below = absurd (omega (arith, below))

    here : (h : ℕ) → h < 2 → 1 ≤ pins_of (word_at (desk pinned) h)
        → (state_of (word_at (desk pinned) h) ≡ word.Here) × (hot_of (word_at (desk pinned) h) ≡ true)
    here zero below some = (refl, refl)
    here (suc zero) below some = absurd (omega (arith, some))
    here (suc (suc h)) below some = absurd (omega (arith, below))

too_few_seats : ArePinned (desk pinned) (seat_with (pin_on 0 3 ∷ []) ∷ []) → ⊥
too_few_seats p = let n : 1 ≡ 64 = p.count in omega (arith, n)

too_many_pins : (w : ℕ) → ArePinned (desk w) (seats (replicate 17 (pin_on 0 3))) → ⊥
too_many_pins w p = let n : 17 ≤ 16 = p.few 0 idle_seat (lit< tt) in omega (arith, n)

word_counts_two : ArePinned (desk twice) (seats (pin_on 0 3 ∷ [])) → ⊥
word_counts_two p = let n : 2 ≡ 1 = p.counted 0 (lit< tt) in omega (arith, n)

word_counts_none : ArePinned (desk hot) (seats (pin_on 0 3 ∷ [])) → ⊥
word_counts_none p = let n : 0 ≡ 1 = p.counted 0 (lit< tt) in omega (arith, n)

pin_on_nothing : ArePinned (desk pinned) (seats (pin_on 0 3 ∷ pin_on 2 0 ∷ [])) → ⊥
pin_on_nothing p =
    let n : 2 < 2 = p.known 0 idle_seat (lit< tt) 1 (pin_on 0 3) (lit< tt) in omega (arith, n)

pinned_and_cold : ArePinned (desk pinned_cold) (seats (pin_on 0 3 ∷ [])) → ⊥
pinned_and_cold p = absurd (let e = (p.here 0 (lit< tt) (lit≤ tt)).1 in cc)

pinned_and_moving : ArePinned (desk pinned_moving) (seats (pin_on 0 3 ∷ [])) → ⊥
pinned_and_moving p = absurd (let e = (p.here 0 (lit< tt) (lit≤ tt)).0 in cc)

pinned_at_another_version : ArePinned (desk pinned) (seats (pin_on 0 2 ∷ [])) → ⊥
pinned_at_another_version p =
    let e : 2 ≡ 3 = p.versions 0 idle_seat (lit< tt) 0 (pin_on 0 3) (lit< tt) in omega (arith, e)

-- ---- what is counted: three reads and a crash
abbrev by_job : List ℕ
by_job = 0 ∷ 3 ∷ replicate 15 0 ++ 1 ∷ replicate 5 0

abbrev after_four : FarState
after_four = record far {
  members = record far.members { epoch = 1 };
  counts = record { turns = 4; by_job = by_job; sets = 0; keys = 0 };
}

no_note : (n : ℕ) → None ≡ Some n → ⊥
no_note n e = cc

are_counted : AreCounted after_four
are_counted = record {
  kinds = refl;
  jobs = refl;
  turns = lit≤ tt;
  sets = lit≤ tt;
  keys = lit≤ tt;
  epoch = lit≤ tt;
  given = lit≤ tt;
  no_pair = λ n e. absurd (no_note n e);
}

abbrev with_counts : ℕ → List ℕ → ℕ → ℕ → FarState
with_counts turns jobs sets keys =
    record after_four { counts = record { turns = turns; by_job = jobs; sets = sets; keys = keys } }

too_few_kinds : AreCounted (with_counts 4 (0 ∷ 4 ∷ []) 0 0) → ⊥
too_few_kinds c = let n : 2 ≡ 24 = c.kinds in omega (arith, n)

turn_of_no_kind : AreCounted (with_counts 5 by_job 0 0) → ⊥
turn_of_no_kind c = let n : 4 ≡ 5 = c.jobs in omega (arith, n)

turn_too_many : (jobs : List ℕ) → AreCounted (with_counts (2 ^ 40 + 1) jobs 0 0) → ⊥
turn_too_many jobs c = let n = c.turns in omega (arith, n)

sets_too_many : AreCounted (with_counts 4 by_job (2 ^ 22 + 1) 0) → ⊥
sets_too_many c = let n = c.sets in omega (arith, n)

keys_too_many : AreCounted (with_counts 4 by_job 0 (2 ^ 22 + 1)) → ⊥
keys_too_many c = let n = c.keys in omega (arith, n)

epoch_too_high : AreCounted (record after_four {
  members = record far.members { epoch = 2 ^ 22 + 1 };
}) → ⊥
epoch_too_high c = let n = c.epoch in omega (arith, n)

given_too_many : AreCounted (record after_four {
  nodes = record far.nodes { given = 2 ^ 22 + 1 };
}) → ⊥
given_too_many c = let n = c.given in omega (arith, n)

-- it can't have been noted after more turns than there were
noted_too_late : AreCounted (record after_four {
  survey = record { below = 0; gone = 0; no_pair = Some 5 };
}) → ⊥
noted_too_late c = let n = (c.no_pair 5 refl).0 in omega (arith, n)

-- ---- two frames, three homes, two nodes with room for one row, and no set
abbrev allowing : Config
allowing = record settings { nodes = 2 }

abbrev over_two : FarState
over_two = record far { nodes = empty_nodes 2 1; members = fresh_members 2 }

is_configured : IsConfigured allowing over_two
is_configured = record { frames = refl; homes = refl; nodes = refl; room = refl; codes = no_sets }
  where
    nothing : (id : ℕ) → set_in map.empty id ≡ None
    nothing id = grind (arith, map.gets)

    none_set : (x : SetState) → None ≡ Some x → ⊥
    none_set x e = cc

    none_batch : (x : LeavingState) → None ≡ Some x → ⊥
    none_batch x e = cc

    none_pair : (x : JoiningState) → None ≡ Some x → ⊥
    none_pair x e = cc

    no_sets : HaveCodes (IsCodeOf allowing) over_two
    no_sets = record {
      force = record {
        range = record {
          data_least = lit≤ tt;
          data_most = lit≤ tt;
          parities_least = lit≤ tt;
          parities_most = lit≤ tt;
        };
        places = lit≤ tt;
      };
      sets = λ id x e. absurd (none_set x (sym (nothing id) ∙ e));
      batch = λ b e. absurd (none_batch b e);
      pair = λ p e. absurd (none_pair p e);
      own = λ id x e. absurd (none_set x (sym (nothing id) ∙ e));
    }

frame_too_few : IsConfigured allowing (record over_two { spans = None ∷ [] }) → ⊥
frame_too_few c = let n : 1 ≡ 2 = c.frames in omega (arith, n)

home_too_few : IsConfigured allowing (record over_two { homes = [] }) → ⊥
home_too_few c = let n : 0 ≡ 3 = c.homes in omega (arith, n)

node_too_few : IsConfigured (record allowing { nodes = 3 }) over_two → ⊥
node_too_few c = let n : 2 ≡ 3 = c.nodes in omega (arith, n)

row_too_few : IsConfigured (record allowing { room = 9 }) over_two → ⊥
row_too_few c = let n : 1 ≡ 9 = c.room in omega (arith, n)

-- a batch of two data positions and a parity, where there are two nodes
abbrev wide : LeavingState
wide = record {
  set = 0;
  pages = 1;
  frames = 0 ∷ 1 ∷ [];
  words = [];
  made = true;
  parities = [] ∷ [];
  shards = [];
}

more_positions_than_nodes : IsConfigured allowing (record over_two { leaving = Some wide }) → ⊥
more_positions_than_nodes c =
    let n : 3 ≤ 2 = (c.codes.batch wide refl).places in omega (arith, n)

-- a code is in force that has no parity
no_parity_in_force : IsConfigured allowing (record over_two { code = record { k = 2; r = 0 } }) → ⊥
no_parity_in_force c = let n : 1 ≤ 0 = c.codes.force.range.parities_least in omega (arith, n)

-- and one that has no data
no_data_in_force : IsConfigured allowing (record over_two { code = record { k = 0; r = 2 } }) → ⊥
no_data_in_force c = let n : 1 ≤ 0 = c.codes.force.range.data_least in omega (arith, n)
