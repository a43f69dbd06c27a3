-- What the steps of open writes ask for, from a sound world.
use Rattle.std.proofs.Common.{◌≡◌, ℕ, zero, suc, ◌+◌, ◌-◌, ◌/◌, ◌^◌, ◌<◌, ◌≤◌, List, Some, length, refl, sym, ap, ◌∙◌, subst, arith}
use native.Mathlib.Decide.{ℕ_discrete}
use Rattle.std.specs.Prelude.{slice_get, slice_set}
use Rattle.cb_ptr.specs.declared.word.State.TheVariants as state
use Rattle.cb_ptr.specs.Word.{state_of, len_of, place_of}
use Rattle.cb_ptr.proofs.Laws.{len_of-below}
use Rattle.cb_types.specs.declared.reply.Reply.TheVariants as answer
use Rattle.cb_world.specs.Memory.{words_for}
use Rattle.cb_world.specs.OpenSteps.{IsClaimOn, next_word, stored_once}
use Rattle.cb_world.specs.OpenWrites.{stores_left, touched}
use Rattle.cb_world.specs.Seats.{OpenWriteState, IsClaimAt, claims_of_seat, with_claims}
use Rattle.cb_world.specs.Shown.{object_at}
use Rattle.cb_world.specs.StillDesk.{here_is}
use Rattle.cb_world.specs.World.{WorldState, IsSoundWorld, word_at}
use Rattle.cb_world.proofs.Laws.{lies, lies_within, open_here, some_same}
use Rattle.cb_core.specs.Claiming.{IsWordStored, IsVersionStored, next_place, StoreStep, nothing_left, stored, stamped, IsClaimSettled, SettleStep, not_stored, settled}

-- the words of an object that is here lie in the memory
pub here_within : (w : WorldState) (h : ℕ) → IsSoundWorld w → h < w.desk.settings.handles
    → state_of (word_at w.desk h) ≡ state.Here
    → place_of (word_at w.desk h) + words_for (len_of (word_at w.desk h)) ≤ length w.desk.memory
here_within w h sound below here =
    let n = word_at w.desk h in
    let lt : h < length w.desk.words = (let k = sound.known.sized.words in omega (arith, below, k)) in
    let at = here_is (object_at sound.shown h) n (sound.known.shows.fit h lt) here in
    let within = (lies_within w.far sound.shown h (len_of n) (place_of n) sound.known.sound.here
    (lies sound.shown h (len_of n) (place_of n) at)).0 in
    let e = ap (λ (l : List ℕ). length l) sound.known.shows.memory in omega (arith, within, e)

touched_few : (at n : ℕ) → touched at n ≤ at + n + 1
touched_few at zero = omega arith
touched_few at (suc n) = omega arith

touches_within : (at n len : ℕ) → at + n ≤ len → (k : ℕ) → k < touched at n → at / 8 + k < words_for len
touches_within at zero len fits k less = absurd (omega (arith, less))
touches_within at (suc n) len fits k less = omega (arith, fits, less)

-- the numbers of an open write are small
pub record IsSmallWrite (c : OpenWriteState) : Type 0 where
  pub end : c.at + length c.bytes < 2 ^ 16
  pub few : c.stored ≤ touched c.at (length c.bytes) + 1
  pub stored : c.stored < 2 ^ 18
  pub next : next_word c < 2 ^ 18
  pub version : c.version < 2 ^ 64 - 1

pub open_small : (w : WorldState) (seat at : ℕ) (c : OpenWriteState) → IsSoundWorld w
    → IsClaimAt w.seats seat at c → IsSmallWrite c
open_small w seat at c sound there =
    let o = sound.ongoing.each seat at c there in
    let inside = o.inside in let len = o.len in let few = o.few in
    let most = len_of-below (word_at w.desk c.handle) in
    let touches = touched_few c.at (length c.bytes) in record {
      end = omega (arith, inside, len, most);
      few = o.few;
      stored = omega (arith, inside, len, most, few, touches);
      next = omega (arith, inside, len, most, few, touches);
      version = o.next;
    }

-- the memory word that is stored next lies in the memory
pub next_within : (w : WorldState) (seat at : ℕ) (c : OpenWriteState) → IsSoundWorld w
    → IsClaimAt w.seats seat at c → c.stored < touched c.at (length c.bytes)
    → place_of (word_at w.desk c.handle) + next_word c < length w.desk.memory
next_within w seat at c sound there less =
    let o = sound.ongoing.each seat at c there in let n = word_at w.desk c.handle in
    let here = open_here w.desk w.far sound.shown w.seats seat at c sound.known sound.ongoing there in
    let within = (lies_within w.far sound.shown c.handle (len_of n) (place_of n)
    sound.known.sound.here (lies sound.shown c.handle (len_of n) (place_of n) here)).0 in
    let e = ap (λ (l : List ℕ). length l) sound.known.shows.memory in
    let i = touches_within c.at (length c.bytes) (len_of n)
    (let a = o.inside in let b = o.len in omega (arith, a, b)) c.stored less in
    omega (arith, within, e, i)

-- ---- what the calls of open writes come to
-- the open write that was read is the one that was found
claim_is : (claims : List OpenWriteState) (h at : ℕ) (c : OpenWriteState) → IsClaimOn claims h at
    → slice_get claims at ≡ Some c → c.handle ≡ h
claim_is claims h at c x there =
    ap (λ (z : OpenWriteState). z.handle) (some_same c x.ongoing (sym there ∙ x.there)) ∙ x.on

-- where two words or more are left, the next one lies in the memory
pub store_within : (w : WorldState) (seat h at left : ℕ) (c : OpenWriteState) → IsSoundWorld w
    → IsClaimOn (claims_of_seat w.seats seat) h at → IsClaimAt w.seats seat at c
    → left ≡ stores_left c
    → 2 ≤ left → next_place w.desk h c < length w.desk.memory
store_within w seat h at left c sound x there is two =
    subst (λ (k : ℕ). place_of (word_at w.desk k) + next_word c < length w.desk.memory)
    (claim_is (claims_of_seat w.seats seat) h at c x there)
    (next_within w seat at c sound there (omega (arith, is, two)))

pub store_done : (w new : WorldState) (seat h at left : ℕ) (c : OpenWriteState)
    → IsClaimOn (claims_of_seat w.seats seat) h at → IsClaimAt w.seats seat at c
    → left ≡ stores_left c
    → 1 ≤ left → (2 ≤ left → IsWordStored h c w.desk new.desk)
    → (left ≡ 1 → IsVersionStored h c w.desk new.desk)
    → new.seats ≡ with_claims w.seats seat (slice_set (claims_of_seat w.seats seat) at (stored_once c))
    → new.far ≡ w.far → StoreStep seat h w (answer.Stored (left - 1)) new
store_done w new seat h at left c x there is some word version seats far = by (ℕ_discrete left 1)
  where
    y : IsClaimOn (claims_of_seat w.seats seat) h at
    y = record {
      ongoing = c;
      there = there;
      on = claim_is (claims_of_seat w.seats seat) h at c x there;
    }

    by : Dec (left ≡ 1) → StoreStep seat h w (answer.Stored (left - 1)) new
    by (yes one) = stamped at y (sym is ∙ one)
        (ap answer.Stored (let z : left - 1 ≡ 0 = omega (arith, one) in z)) (version one)
        (record { seats = seats; far = far })
    by (no more) = stored at y (subst (λ (n : ℕ). 2 ≤ n) is (omega (arith, some, more)))
        (ap (λ (n : ℕ). answer.Stored (n - 1)) is) (word (omega (arith, some, more)))
        (record { seats = seats; far = far })

pub store_nothing : (w : WorldState) (seat h at left : ℕ) (c : OpenWriteState)
    → IsClaimOn (claims_of_seat w.seats seat) h at → IsClaimAt w.seats seat at c
    → left ≡ stores_left c
    → left ≡ 0 → StoreStep seat h w (answer.Stored left) w
store_nothing w seat h at left c x there is none =
    let y : IsClaimOn (claims_of_seat w.seats seat) h at = record {
      ongoing = c;
      there = there;
      on = claim_is (claims_of_seat w.seats seat) h at c x there;
    } in
    nothing_left at y (sym is ∙ none) (ap answer.Stored none) refl

pub settle_refused : (w : WorldState) (seat h at left : ℕ) (c : OpenWriteState)
    → IsClaimOn (claims_of_seat w.seats seat) h at → IsClaimAt w.seats seat at c
    → left ≡ stores_left c
    → 1 ≤ left → SettleStep seat h w (answer.NotStored left) w
settle_refused w seat h at left c x there is some =
    let y : IsClaimOn (claims_of_seat w.seats seat) h at = record {
      ongoing = c;
      there = there;
      on = claim_is (claims_of_seat w.seats seat) h at c x there;
    } in
    not_stored at y (subst (λ (n : ℕ). 1 ≤ n) is some) (ap answer.NotStored is) refl

pub settle_done : (w new : WorldState) (seat h at left version : ℕ) (c : OpenWriteState)
    → IsClaimOn (claims_of_seat w.seats seat) h at → IsClaimAt w.seats seat at c
    → left ≡ stores_left c
    → left ≡ 0 → version ≡ c.version → IsClaimSettled seat h at w new
    → SettleStep seat h w (answer.Version (version + 1)) new
settle_done w new seat h at left version c x there is none same done =
    let y : IsClaimOn (claims_of_seat w.seats seat) h at = record {
      ongoing = c;
      there = there;
      on = claim_is (claims_of_seat w.seats seat) h at c x there;
    } in
    settled at y (sym is ∙ none) (ap (λ (n : ℕ). answer.Version (n + 1)) same) done
