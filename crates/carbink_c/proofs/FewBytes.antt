-- No reply of a sound world has more than 4,096 bytes.
use Rattle.std.proofs.Common.{◌≡◌, ℕ, zero, suc, ◌+◌, ◌-◌, ◌^◌, ◌≤◌, ◌==◌, nat_lt, Bool, true, false, List, [], ◌∷◌, length, get_or, set, filter, refl, sym, ap, subst, arith, inl, inr}
use Rattle.std.specs.Prelude.{Option, None, Some, if◌then◌else◌}
use Rattle.std.specs.List.{cons_option, filter_map, range_with_len}
use Rattle.std.proofs.lemmas.Bool.{cases_lt}
use Rattle.std.proofs.lemmas.List.{get_or-set_same, set_past}
use Rattle.std.proofs.lemmas.List.FromFn.{length-map-range_with_len, length-range_with_len}
use Rattle.std.proofs.lemmas.List.Sums.{count_by-le-length, length-filter}
use Rattle.cb_member.specs.declared.names.Loss.{Loss}
use Rattle.cb_ptr.specs.declared.word.PtrWord.{PtrWord}
use Rattle.cb_ptr.specs.declared.word.State.{State}
use Rattle.cb_ptr.specs.declared.word.State.TheVariants as state
use Rattle.cb_ptr.specs.Word.{fields_of, len_of, pins_of, state_of}
use Rattle.cb_ptr.proofs.Laws.{fields_of-word_of, IsInWidths-fields_of}
use Rattle.cb_types.specs.Config.{most_bytes}
use Rattle.cb_types.specs.declared.handle.SetId.{SetId}
use Rattle.cb_types.specs.declared.reply.Reply.{Reply}
use Rattle.cb_types.specs.declared.reply.Reply.TheVariants as answer
use Rattle.cb_world.specs.Memory.{bytes_in, memory_byte}
use Rattle.cb_world.specs.StillWords.{with_hot}
use Rattle.cb_mutate.specs.StillReplies.{change_reply, empty_reply, free_as, free_reply, next_reply, read_reply, reply_as, write_reply}
use Rattle.cb_core.specs.Claiming.{claim_reply}
use Rattle.cb_core.specs.Declining.{write_refusal}
use Rattle.cb_core.specs.Pinning.{pin_refusal}
use Rattle.cb_swapin.specs.SwapRule.{frame_answer}
use Rattle.carbink_c.specs.Told.{bytes_of}
use Rattle.carbink_c.proofs.Losses.{rows_long}

-- the bytes or positions of the reply are few; lost shards are counted apart
abbrev pub HasFew : Reply → Type 0
HasFew (answer.Bytes version bytes) = length bytes ≤ most_bytes
HasFew (answer.Short positions) = length positions ≤ most_bytes
HasFew (answer.Unfinished positions) = length positions ≤ most_bytes
HasFew reply = Unit {0}

pub few_bytes : (r : Reply) → HasFew r → ((id : SetId) (losses : List Loss) → r ≡ answer.Unavailable id losses → length losses ≤ 20) → length (bytes_of r) ≤ most_bytes
few_bytes (answer.Bytes version bytes) few lost = few
few_bytes (answer.Short positions) few lost = few
few_bytes (answer.Unfinished positions) few lost = few
few_bytes (answer.Unavailable id losses) few lost = omega (arith, rows_long losses, lost id losses refl)
few_bytes reply few lost = omega arith

-- ---- counts

pub filter_map_few : {X Y : Type 0} (f : X → Option Y) (xs : List X) → length (filter_map f xs) ≤ length xs
filter_map_few {Y = Y} f [] = omega arith
filter_map_few {Y = Y} f (x ∷ xs) = by (f x) (filter_map_few f xs)
  where
    by : (o : Option Y) → length (filter_map f xs) ≤ length xs → length (cons_option o (filter_map f xs)) ≤ suc (length xs)
    by None few = omega (arith, few)
    by (Some y) few = omega (arith, few)

-- the numbers below n that pass are at most n
pub passing_few : (p : ℕ → Bool) (n : ℕ) → length (filter p (range_with_len 0 n)) ≤ n
passing_few p n =
    let all = range_with_len 0 n in
    omega (arith, length-filter p all, count_by-le-length p all, length-range_with_len 0 n)

bytes_long : (words : List ℕ) (len : ℕ) → length (bytes_in words len) ≡ len
unfolding bytes_in
bytes_long words len = length-map-range_with_len (memory_byte words) 0 len

-- ---- replies of calls on objects

empty_few : (version : ℕ) → HasFew (empty_reply version)
empty_few zero = tt
empty_few (suc version) = tt

pub by_few : (b : Bool) (x y : Reply) → HasFew x → HasFew y → HasFew (if b then x else y)
by_few true x y a b = a
by_few false x y a b = b

pub state_few : (s : State) (version : ℕ) (here : Reply) → HasFew here → HasFew (reply_as s version here)
state_few state.Empty version here few = empty_few version
state_few state.Far version here few = tt
state_few state.Here version here few = few
state_few state.Moving version here few = tt

next_few : (version : ℕ) → HasFew (next_reply version)
next_few version = by_few (version == 2 ^ 64 - 1) answer.Worn (answer.Version (version + 1)) tt tt

change_few : (w version : ℕ) → HasFew (change_reply w version)
change_few w version = by_few (pins_of w == 0) (next_reply version) (answer.Pinned (pins_of w)) (next_few version) tt

pub write_few : (w version at count : ℕ) → HasFew (write_reply w version at count)
write_few w version at count =
    let rest = by_few (nat_lt (len_of w) (at + count)) (answer.Range (len_of w)) (change_reply w version) tt (change_few w version) in
    state_few (state_of w) version (if nat_lt (len_of w) (at + count) then answer.Range (len_of w) else change_reply w version) rest

pub free_few : (w version : ℕ) → HasFew (free_reply w version)
free_few w version = by (state_of w)
  where
    by : (s : State) → HasFew (free_as s version (change_reply w version))
    by state.Empty = empty_few version
    by state.Far = next_few version
    by state.Here = change_few w version
    by state.Moving = tt

pub claim_few : (r : Reply) → HasFew r → HasFew (claim_reply r)
claim_few (answer.Version version) few = tt
claim_few r few = few

pub pin_few : (s : State) (version pins : ℕ) → HasFew (pin_refusal s version pins)
pin_few state.Empty version pins = empty_few version
pin_few state.Far version pins = tt
pin_few state.Moving version pins = tt
pin_few state.Here version pins = tt

-- a refusal, if there is one
abbrev pub HasFewIn : Option Reply → Type 0
HasFewIn None = Unit {0}
HasFewIn (Some r) = HasFew r

in_few : (b : Bool) (x y : Option Reply) → HasFewIn x → HasFewIn y → HasFewIn (if b then x else y)
in_few true x y a b = a
in_few false x y a b = b

pub refusal_few : (gone : Bool) (len version at count : ℕ) → HasFewIn (write_refusal gone len version at count)
refusal_few gone len version at count =
    let worn = in_few (version == 2 ^ 64 - 1) (Some answer.Worn) None tt tt in
    let far = in_few (nat_lt len (at + count)) (Some (answer.Range len)) (if version == 2 ^ 64 - 1 then Some answer.Worn else None) tt worn in
    in_few gone None (if nat_lt len (at + count) then Some (answer.Range len) else if version == 2 ^ 64 - 1 then Some answer.Worn else None) tt far

-- a swap-in
pub frame_few : (broken : Bool) (id : SetId) (losses : List Loss) (frame : Option ℕ) → HasFew (if broken then answer.Unavailable id losses else frame_answer frame)
frame_few true id losses frame = tt
frame_few false id losses None = tt
frame_few false id losses (Some f) = tt

-- a read, of an object that has few bytes where it is here
pub read_few : (w version : ℕ) (words : List ℕ) → (state_of w ≡ state.Here → len_of w ≤ most_bytes) → HasFew (read_reply w version words)
read_few w version words short = by (state_of w) short
  where
    by : (s : State) → (s ≡ state.Here → len_of w ≤ most_bytes) → HasFew (reply_as s version (answer.Bytes version (bytes_in words (len_of w))))
    by state.Empty f = empty_few version
    by state.Far f = tt
    by state.Here f = subst (λ (n : ℕ). n ≤ most_bytes) (sym (bytes_long words (len_of w))) (f refl)
    by state.Moving f = tt

-- ---- a word that was made hot

hot_fields : (w : ℕ) → fields_of (with_hot w) ≡ record (fields_of w) { hot = true }
hot_fields w = let b = IsInWidths-fields_of w in
    fields_of-word_of (record (fields_of w) { hot = true }) (record { pins = b.pins; len = b.len; place = b.place })

-- a word with the state and the length of another
abbrev pub IsLike : ℕ → ℕ → Type 0
IsLike v w = (state_of v ≡ state_of w) × (len_of v ≡ len_of w)

pub seen_like : (b : Bool) (w : ℕ) → IsLike (if b then with_hot w else w) w
seen_like true w = (ap (λ (p : PtrWord). p.state) (hot_fields w), ap (λ (p : PtrWord). p.len) (hot_fields w))
seen_like false w = (refl, refl)

-- a word that takes the place of one like it, or of none where there is no place
pub put_like : (words : List ℕ) (h v : ℕ) → IsLike v (get_or words h 0) → IsLike (get_or (set words h v) h 0) (get_or words h 0)
put_like words h v like = elim (cases_lt h (length words)) [
  | inl within ↦ subst (λ (w : ℕ). IsLike w (get_or words h 0)) (sym (get_or-set_same words h v 0 within)) like
  | inr past ↦ subst (λ (ws : List ℕ). IsLike (get_or ws h 0) (get_or words h 0)) (sym (set_past words h v past)) (refl, refl)
]
