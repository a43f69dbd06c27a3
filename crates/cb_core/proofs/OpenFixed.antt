-- A step of an open write has one reply, and leads from a sound world to one world.
use Rattle.std.proofs.Common.{◌≡◌, ◌⊎◌, ℕ, ◌+◌, ◌-◌, ◌*◌, ◌^◌, ◌<◌, ◌≤◌, Bool, true, List, length, get_or, set, slice_get, sym, ap, ◌∙◌, subst, arith, inl, inr}
use Rattle.std.specs.Int.{to_le_bytes, from_le_bytes, w64}
use Rattle.std.specs.List.{remove}
use Rattle.std.proofs.lemmas.Bool.{cases_lt}
use Rattle.std.proofs.lemmas.List.{ext_get_or}
use Rattle.std.proofs.lemmas.Nat.{from_le_bytes-to_le_bytes_8}
use Rattle.cb_ptr.specs.Steps.{Settles}
use Rattle.cb_ptr.specs.Word.{place_of}
use Rattle.cb_ptr.proofs.Laws.{same_from_fields}
use Rattle.cb_types.specs.declared.reply.Reply.{Reply}
use Rattle.cb_types.specs.declared.reply.Reply.TheVariants as answer
use Rattle.cb_world.specs.OpenSteps.{IsClaimOn, next_word, stored_once}
use Rattle.cb_world.specs.OpenWrites.{stores_left}
use Rattle.cb_world.specs.Pinned.{with_word}
use Rattle.cb_world.specs.Seats.{OpenWriteState, claims_of_seat, with_claims}
use Rattle.cb_world.specs.World.{WorldState, IsSoundWorld, word_at}
use Rattle.cb_world.proofs.Laws.{some_same}
use Rattle.cb_mutate.specs.Merged.{IsWordMerged}
use Rattle.cb_core.specs.Claiming.{ClaimStep, refused, taken, next_place, StoreStep, not_claimed, nothing_left, stored, stamped, SettleStep, not_stored, settled}

-- a word with one write is one word
merged_one : (old first at : ℕ) (bytes : List ℕ) (a b : ℕ) → a < 2 ^ 64 → b < 2 ^ 64
    → IsWordMerged old first at bytes a → IsWordMerged old first at bytes b → a ≡ b
merged_one old first at bytes a b low_a low_b x y =
    sym (from_le_bytes-to_le_bytes_8 a low_a)
    ∙ ap (from_le_bytes w64) (ext_get_or 0 (to_le_bytes w64 a) (to_le_bytes w64 b) (x.sized ∙ sym y.sized)
    (λ j within. byte j (let n = x.sized in omega (arith, within, n)) (cases_lt (first + j) at)
    (cases_lt (first + j) (at + length bytes))))
    ∙ from_le_bytes-to_le_bytes_8 b low_b
  where
    byte : (j : ℕ) → j < 8 → (first + j < at) ⊎ (at ≤ first + j)
        → (first + j < at + length bytes) ⊎ (at + length bytes ≤ first + j)
        → get_or (to_le_bytes w64 a) j 0 ≡ get_or (to_le_bytes w64 b) j 0
    byte j below (inl before) side =
        x.outside j below (inr (inl before)) ∙ sym (y.outside j below (inr (inl before)))
    byte j below (inr from) (inl less) =
        x.inside j below from less ∙ sym (y.inside j below from less)
    byte j below (inr from) (inr past) =
        x.outside j below (inr (inr past)) ∙ sym (y.outside j below (inr (inr past)))

-- a word that is settled is one word
settled_one : (old a b : ℕ) (at : ℕ) (hot : Bool) → Settles old at hot a → Settles old at hot b → a ≡ b
settled_one old a b at hot x y = same_from_fields a b x.below y.below (λ i. record {
  state = (x.state ∙ sym y.state) i;
  hot = (x.hot ∙ sym y.hot) i;
  pins = (x.pins ∙ sym y.pins) i;
  len = (x.len ∙ sym y.len) i;
  place = (x.place ∙ sym y.place) i;
})

world_is : (a b : WorldState) → a.desk ≡ b.desk → a.far ≡ b.far → a.seats ≡ b.seats → a ≡ b
world_is a b desks fars seats = λ i. record { desk = desks i; far = fars i; seats = seats i }

module _ (w a b : WorldState) (sound : IsSoundWorld w) (seat h : ℕ) where
  abbrev cs : List OpenWriteState
  cs = claims_of_seat w.seats seat

  -- the seat has one open write of the object
  one_claim : (i j : ℕ) (x : IsClaimOn cs h i) (y : IsClaimOn cs h j)
      → (i ≡ j) × (x.ongoing ≡ y.ongoing)
  one_claim i j x y =
      let at = (sound.ongoing.once seat seat i j x.ongoing y.ongoing x.there y.there
      (x.on ∙ sym y.on)).1 in
      (at, some_same x.ongoing y.ongoing (sym x.there ∙ ap (slice_get cs) at ∙ y.there))

  -- as many words are left of it
  one_left : (i j : ℕ) (x : IsClaimOn cs h i) (y : IsClaimOn cs h j)
      → stores_left x.ongoing ≡ stores_left y.ongoing
  one_left i j x y = ap stores_left (one_claim i j x y).1

  pub claim_fixed : (at : ℕ) (bytes : List ℕ) (r q : Reply) → ClaimStep seat h at bytes w r a
      → ClaimStep seat h at bytes w q b → (r ≡ q) × (a ≡ b)
  claim_fixed at bytes r q (refused n e s) (refused m f t) = (e ∙ sym f, s ∙ sym t)
  claim_fixed at bytes r q (refused n e s) (taken may is f t) = absurd (n (e ∙ sym f ∙ is))
  claim_fixed at bytes r q (taken may is e s) (refused n f t) = absurd (n (f ∙ sym e ∙ is))
  claim_fixed at bytes r q (taken may is e s) (taken can on f t) =
      let words : s.word.word ≡ t.word.word = s.word.claims.number ∙ sym t.word.claims.number in (
        e ∙ sym f,
        world_is a b (s.word.words ∙ ap (with_word w.desk h) words ∙ sym t.word.words)
            (s.far ∙ sym t.far) (s.seats ∙ sym t.seats),
      )

  pub store_fixed : (r q : Reply) → StoreStep seat h w r a → StoreStep seat h w q b
      → (r ≡ q) × (a ≡ b)
  store_fixed r q (not_claimed n e s) (not_claimed m f t) = (e ∙ sym f, s ∙ sym t)
  store_fixed r q (not_claimed n e s) (nothing_left j y u f t) = absurd (n j y.ongoing y.there y.on)
  store_fixed r q (not_claimed n e s) (stored j y u f m t) = absurd (n j y.ongoing y.there y.on)
  store_fixed r q (not_claimed n e s) (stamped j y u f m t) = absurd (n j y.ongoing y.there y.on)
  store_fixed r q (nothing_left i x z e s) (not_claimed n f t) = absurd (n i x.ongoing x.there x.on)
  store_fixed r q (stored i x z e m s) (not_claimed n f t) = absurd (n i x.ongoing x.there x.on)
  store_fixed r q (stamped i x z e m s) (not_claimed n f t) = absurd (n i x.ongoing x.there x.on)
  store_fixed r q (nothing_left i x z e s) (nothing_left j y u f t) = (e ∙ sym f, s ∙ sym t)
  store_fixed r q (nothing_left i x z e s) (stored j y u f m t) =
      absurd (let l = one_left i j x y in omega (arith, l, z, u))
  store_fixed r q (nothing_left i x z e s) (stamped j y u f m t) =
      absurd (let l = one_left i j x y in omega (arith, l, z, u))
  store_fixed r q (stored i x z e m s) (nothing_left j y u f t) =
      absurd (let l = one_left i j x y in omega (arith, l, z, u))
  store_fixed r q (stamped i x z e m s) (nothing_left j y u f t) =
      absurd (let l = one_left i j x y in omega (arith, l, z, u))
  store_fixed r q (stored i x z e m s) (stamped j y u f n t) =
      absurd (let l = one_left i j x y in omega (arith, l, z, u))
  store_fixed r q (stamped i x z e m s) (stored j y u f n t) =
      absurd (let l = one_left i j x y in omega (arith, l, z, u))
  store_fixed r q (stored i x z e m s) (stored j y u f n t) =
      let one = one_claim i j x y in let c = x.ongoing in
      let word : m.word ≡ n.word =
      merged_one (get_or w.desk.memory (next_place w.desk h c) 0) (8 * next_word c) c.at c.bytes m.word
      n.word m.small n.small m.merged
      (subst (λ (d : OpenWriteState). IsWordMerged (get_or w.desk.memory (next_place w.desk h d) 0)
      (8 * next_word d) d.at d.bytes n.word) (sym one.1) n.merged) in (
        e ∙ ap (λ (d : OpenWriteState). answer.Stored (stores_left d - 1)) one.1 ∙ sym f,
        world_is a b (m.words
            ∙ (λ k. record w.desk { memory = set w.desk.memory (next_place w.desk h (one.1 k)) (word k) })
            ∙ sym n.words) (s.far ∙ sym t.far) (s.seats
            ∙ (λ k. with_claims w.seats seat (set cs (one.0 k) (stored_once (one.1 k)))) ∙ sym t.seats),
      )
  store_fixed r q (stamped i x z e m s) (stamped j y u f n t) =
      let one = one_claim i j x y in (
        e ∙ sym f,
        world_is a b (m
            ∙ ap (λ (d : OpenWriteState). record w.desk {
              versions = set w.desk.versions h (d.version + 1);
            }) one.1
            ∙ sym n) (s.far ∙ sym t.far) (s.seats
            ∙ (λ k. with_claims w.seats seat (set cs (one.0 k) (stored_once (one.1 k)))) ∙ sym t.seats),
      )

  pub settle_fixed : (r q : Reply) → SettleStep seat h w r a → SettleStep seat h w q b
      → (r ≡ q) × (a ≡ b)
  settle_fixed r q (not_claimed n e s) (not_claimed m f t) = (e ∙ sym f, s ∙ sym t)
  settle_fixed r q (not_claimed n e s) (not_stored j y u f t) = absurd (n j y.ongoing y.there y.on)
  settle_fixed r q (not_claimed n e s) (settled j y u f t) = absurd (n j y.ongoing y.there y.on)
  settle_fixed r q (not_stored i x z e s) (not_claimed n f t) = absurd (n i x.ongoing x.there x.on)
  settle_fixed r q (settled i x z e s) (not_claimed n f t) = absurd (n i x.ongoing x.there x.on)
  settle_fixed r q (not_stored i x z e s) (not_stored j y u f t) = (
    e ∙ ap answer.NotStored (one_left i j x y) ∙ sym f,
    s ∙ sym t,
  )
  settle_fixed r q (not_stored i x z e s) (settled j y u f t) =
      absurd (let l = one_left i j x y in omega (arith, l, z, u))
  settle_fixed r q (settled i x z e s) (not_stored j y u f t) =
      absurd (let l = one_left i j x y in omega (arith, l, z, u))
  settle_fixed r q (settled i x z e s) (settled j y u f t) =
      let one = one_claim i j x y in
      let words = settled_one (word_at w.desk h) s.word.word t.word.word (place_of (word_at w.desk h)) true
      s.word.settles t.word.settles in (
        e ∙ ap (λ (d : OpenWriteState). answer.Version (d.version + 1)) one.1 ∙ sym f,
        world_is a b (s.word.words ∙ ap (with_word w.desk h) words ∙ sym t.word.words)
            (s.far ∙ sym t.far)
            (s.seats ∙ ap (λ (k : ℕ). with_claims w.seats seat (remove cs k)) one.0 ∙ sym t.seats),
      )
