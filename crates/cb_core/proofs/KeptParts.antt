-- What a part of a turn leaves: all is known, and the numbers that are drawn rose by little.
use Rattle.std.proofs.Common.{◌≡◌, ℕ, ◌+◌, ◌^◌, ◌<◌, ◌≤◌, List, length, get_or, refl, ap, ◌∙◌, sym, subst, arith, length-set}
use Rattle.std.specs.List.{sum_by}
use Rattle.std.proofs.lemmas.List.Sums.{sum_by-set}
use Rattle.cb_types.specs.declared.config.Config.{Config}
use Rattle.cb_world.specs.declared.access.Access.{Access}
use Rattle.cb_world.specs.declared.shown.Shown.{Shown}
use Rattle.cb_world.specs.Counts.{with_turn}
use Rattle.cb_world.specs.FarState.{FarState}
use Rattle.cb_world.specs.Orders.{AreOrdersKept, LeavesOrders}
use Rattle.cb_world.specs.Plain.{Words}
use Rattle.cb_world.specs.Seats.{SeatState}
use Rattle.cb_world.specs.OpenWrites.{AreOpen}
use Rattle.cb_world.specs.World.{IsKnown, ArePinned, AreCounted, IsConfigured}
use Rattle.cb_world.specs.Pairs.{HoldsNoPair}
pub use Rattle.cb_world.proofs.Laws.{KeepsNote, Rises, RisesBy, rises_more, rises_then, StaysIf}
use Rattle.cb_world.proofs.Laws.{IsStepKnown, KeepsPins, PerformsStill, keeps_pinned, open_kept, orders_then}
use Rattle.cb_core.specs.Parts.{Holding}
use Rattle.cb_core.specs.Step.{HoldOn}
use Rattle.cb_core.proofs.Carried.{KeepsAlong}
use Rattle.cb_core.proofs.StillOrders.{FindsKept}

-- all is known of a holding with this configuration, its pins are those of these seats, and so are
-- the orders that are kept
pub record IsGood (c : Config) (seats : List SeatState) (a : Holding Words) : Type 0 where
  pub settings : a.desk.settings ≡ c
  pub configured : IsConfigured c a.far
  pub shown : Shown
  pub known : IsKnown a.desk a.far shown
  pub pinned : ArePinned a.desk seats
  pub ongoing : AreOpen a.desk a.far seats
  pub orders : AreOrdersKept shown a.far seats

-- what a part comes to: this holds of it, all is known, the numbers rose by at most n, and so does
-- this of what is noted of a search for a pair
pub record ArrivesBy (N : FarState → FarState → Type 0) (c : Config) (seats : List SeatState) (n : ℕ)
    (a b : Holding Words) (Z : Type 0) : Type 0 where
  pub is : Z
  pub good : IsGood c seats b
  pub rises : RisesBy N n a.far b.far

-- of a part that looks for no pair
abbrev pub Arrives : Config → List SeatState → ℕ → Holding Words → Holding Words → Type 0 → Type 0
Arrives = ArrivesBy KeepsNote

-- each part that is P comes to Q, where all was known
abbrev pub Carries : {A : Type 0} → Config → List SeatState → ℕ
    → (Holding Words → A → Holding Words → Type 0) → (Holding Words → A → Holding Words → Type 0)
    → Type 0
Carries {A = A} c seats n P Q =
    (a b : Holding Words) (r : A) → IsGood c seats a → P a r b → Arrives c seats n a b (Q a r b)

-- so does each that found no memory
abbrev pub CarriesLack : Config → List SeatState → ℕ
    → (Holding Words → Holding Words → Type 0) → (Holding Words → Holding Words → Type 0) → Type 0
CarriesLack c seats n L M =
    (a b : Holding Words) → IsGood c seats a → L a b → Arrives c seats n a b (M a b)

-- one after another
pub arrives_then : (c : Config) (seats : List SeatState) (n m k : ℕ) (a b d : Holding Words)
    (Y Z W : Type 0) → n + m ≤ k → Arrives c seats n a b Y → Arrives c seats m b d Z → W
    → Arrives c seats k a d W
arrives_then c seats n m k a b d Y Z W most p q w = record {
  is = w;
  good = q.good;
  rises = rises_then n m k a.far b.far d.far most p.rises q.rises;
}

pub arrives_more : (c : Config) (seats : List SeatState) (n k : ℕ) (a b : Holding Words)
    (Z W : Type 0) → n ≤ k → Arrives c seats n a b Z → W → Arrives c seats k a b W
arrives_more c seats n k a b Z W most p w = record {
  is = w;
  good = p.good;
  rises = rises_more n k a.far b.far most p.rises;
}

-- along the parts of a job
pub good_along : (c : Config) (seats : List SeatState) → KeepsAlong (IsGood c seats) (Arrives c seats)
good_along c seats = record {
  is = λ n a b Z z. z.is;
  next = λ n a b Z good z. z.good;
  more = arrives_more c seats;
  both = arrives_then c seats;
}

-- nothing changed
pub arrives_same : (c : Config) (seats : List SeatState) (n : ℕ) (a b : Holding Words) (Z : Type 0)
    → IsGood c seats a → b ≡ a → Z → Arrives c seats n a b Z
arrives_same c seats n a b Z good same z = record {
  is = z;
  good = subst (IsGood c seats) (sym same) good;
  rises = subst (λ (d : Holding Words). Rises n a.far d.far) (sym same) (record {
    turns = refl;
    by_job = refl;
    sets = omega arith;
    keys = omega arith;
    epoch = omega arith;
    given = omega arith;
    note = λ n e. e;
  });
}

-- a part after which all is known, that keeps the pins, the open writes and the orders, and leaves
-- the far state as it is configured
pub arrives_stays : (c : Config) (seats : List SeatState) (n : ℕ) (a b : Holding Words) (t : Shown)
    (Z : Type 0) → (good : IsGood c seats a) → StaysIf c n a.far b.far → IsKnown b.desk b.far t
    → b.desk.settings ≡ a.desk.settings → ArePinned b.desk seats → AreOpen b.desk b.far seats
    → LeavesOrders good.shown a.far t b.far → Z → Arrives c seats n a b Z
arrives_stays c seats n a b t Z good stays known settings pinned ongoing orders z =
    let x = stays good.configured in record {
      is = z;
      good = record {
        settings = settings ∙ good.settings;
        configured = x.configured;
        shown = t;
        known = known;
        pinned = pinned;
        ongoing = ongoing;
        orders = orders_then good.shown t a.far b.far seats orders good.orders;
      };
      rises = x.rises;
    }

-- a part that is a step of an operation, which keeps the pins
pub arrives_held : (c : Config) (seats : List SeatState) (n : ℕ) (a b : Holding Words) (S : Type 0)
    → IsGood c seats a → StaysIf c n a.far b.far → (S → KeepsPins a.desk b.desk) → S × HoldOn a b
    → Arrives c seats n a b (S × HoldOn a b)
arrives_held c seats n a b S good stays keeps (step, hold) =
    let then = hold good.shown good.known in let pins = keeps step in
    arrives_stays c seats n a b then.0 (S × HoldOn a b) good stays then.1 pins.settings
    (keeps_pinned a.desk b.desk seats pins good.pinned) (then.3 seats good.ongoing) then.4 (step, hold)

-- who knows all before knows all after, and open writes and orders stay
pub holds_on : {rules : List Access → Type 0} {does : List Access → Shown → Shown → Type 0}
    (a b : Holding Words) → PerformsStill a.desk b.desk a.far b.far rules does → FindsKept a b
    → ((s : Shown) → IsKnown a.desk a.far s → IsStepKnown b.desk a.far b.far s) → HoldOn a b
holds_on {rules} {does} a b p orders after s k = let z = after s k in (
  z.shown,
  z.known,
  z.same_now,
  λ others ongoing. open_kept a.desk b.desk a.far b.far rules does s others k p ongoing,
  orders s z.shown k z.known,
)

-- so is an operation over the still desk, by its step
pub arrives_step : {rules : List Access → Type 0} {does : List Access → Shown → Shown → Type 0}
    (c : Config) (seats : List SeatState) (n : ℕ) (a b : Holding Words) (S : Type 0)
    → IsGood c seats a → StaysIf c n a.far b.far
    → PerformsStill a.desk b.desk a.far b.far rules does → FindsKept a b
    → ((s : Shown) → IsKnown a.desk a.far s → S × IsStepKnown b.desk a.far b.far s)
    → (S → KeepsPins a.desk b.desk) → Arrives c seats n a b (S × HoldOn a b)
arrives_step c seats n a b S good stays p orders step keeps =
    arrives_held c seats n a b S good stays keeps
    ((step good.shown good.known).0, holds_on a b p orders (λ s k. (step s k).1))

-- what was counted, after a turn in which the numbers rose by little
pub counted_rises : {N : FarState → FarState → Type 0} (far mid new : FarState) (kind : ℕ)
    → AreCounted far → far.counts.turns < 2 ^ 40 → kind < 24
    → mid ≡ record far { counts = with_turn far.counts kind } → RisesBy N (2 ^ 20) mid new
    → HoldsNoPair new → AreCounted new
counted_rises far mid new kind c few below is rises holds =
    let old = far.counts in
    let lt : kind < length old.by_job = (let n = c.kinds in omega (arith, n, below)) in
    let sum = sum_by-set (λ (n : ℕ). n) old.by_job kind (get_or old.by_job kind 0 + 1) 0 lt in
    let jobs = c.jobs in let sets = c.sets in let keys = c.keys in let e = c.epoch in let g = c.given in
    let by_job : new.counts.by_job ≡ (with_turn old kind).by_job =
    rises.by_job ∙ ap (λ (f : FarState). f.counts.by_job) is in
    let turns : new.counts.turns ≡ old.turns + 1 =
    rises.turns ∙ ap (λ (f : FarState). f.counts.turns) is in
    let ms : mid.counts.sets ≡ old.sets = ap (λ (f : FarState). f.counts.sets) is in
    let mk : mid.counts.keys ≡ old.keys = ap (λ (f : FarState). f.counts.keys) is in
    let me : mid.members.epoch ≡ far.members.epoch = ap (λ (f : FarState). f.members.epoch) is in
    let mg : mid.nodes.given ≡ far.nodes.given = ap (λ (f : FarState). f.nodes.given) is in
    let rs = rises.sets in let rk = rises.keys in let re = rises.epoch in let rg = rises.given in
    record {
      kinds = ap (λ (l : List ℕ). length l) by_job ∙ length-set old.by_job kind _ ∙ c.kinds;
      jobs = ap (sum_by (λ (n : ℕ). n)) by_job
          ∙ (let total : sum_by (λ (n : ℕ). n) (with_turn old kind).by_job ≡ old.turns + 1 =
          omega (arith, sum, jobs) in total)
          ∙ sym turns;
      turns = omega (arith, turns, few);
      sets = omega (arith, turns, sets, ms, rs);
      keys = omega (arith, turns, keys, mk, rk);
      epoch = omega (arith, turns, e, me, re);
      given = omega (arith, turns, g, mg, rg);
      no_pair = holds;
    }
