-- Worked passes and claims: what meets each definition, and what breaks one of its parts alone.
use Rattle.std.proofs.Common.{◌≡◌, ℕ, zero, suc, ◌+◌, ◌^◌, ◌<◌, ◌≤◌, true, List, [], ◌∷◌, length}
use Rattle.std.proofs.Common.{replicate, get_or, refl, sym, ap, ◌∙◌, subst, inr, true≢false, lit<}
use Rattle.std.proofs.Common.{lit≤, arith, ◌++◌, Option, None, Some}
use Rattle.std.proofs.lemmas.Bool.{eqb-false}
use Rattle.std.proofs.lemmas.Option.{none-some}
use Rattle.atomic_table.specs.Seated.{TableId}
use Rattle.atomic_table.specs.Table.{Step}
use Rattle.cb_types.specs.declared.config.Config.{Config}
use Rattle.cb_types.specs.declared.order.Kept.{Kept}
use Rattle.cb_ptr.specs.Word.{state_number}
use Rattle.cb_world.specs.declared.access.Access.{Access}
use Rattle.cb_world.specs.declared.access.Access.TheVariants.{Looked}
use Rattle.cb_world.specs.declared.shown.Shown.{Shown}
use Rattle.cb_world.specs.Empty.{empty_far, empty_shown}
use Rattle.cb_world.specs.FarState.{FarState}
use Rattle.cb_world.specs.Written.{entry}
use Rattle.cb_rule.specs.declared.turn.Turn.{Turn}
use Rattle.cb_rule.specs.declared.view.Held.{Held}
use Rattle.cb_rule.specs.declared.view.View.{View}
use Rattle.cb_rule.specs.Slot.{LockSlot, Sat}
use Rattle.cb_rule.specs.Steps.{freed_seen, held_at, joined, left_of, right_of, stand}
use Rattle.cb_shared.specs.declared.pass.Pass.{Pass}
use Rattle.cb_shared.specs.declared.runtime.Shared.{Shared}
use Rattle.cb_shared.specs.Claims.{IsAsClaimed, IsFreshClaim, IsNextOf, IsWithin}
use Rattle.cb_shared.specs.Handles.{IsFirstAt}
use Rattle.cb_shared.specs.Joining.{IsSpare, unpinned_all}
use Rattle.cb_shared.specs.OrdersKept.{AreOfPasses, begun, took_in, turned}
use Rattle.cb_shared.specs.Passes.{IsAtRest, IsPassOf, IsRuntimeBegun, record_of}
use Rattle.cb_shared.specs.Seats.{SeatAt, record_at}
use Rattle.cb_shared.specs.Tallies.{tallied}
use Rattle.cb_shared.proofs.WorkedGround.{a_stand, calm, made, part, pinned, two, whole}
use Rattle.cb_shared.proofs.WorkedWrites.{write_it}

abbrev roomy : Config
roomy = record two { room = 7 }

abbrev no_frames : Config
no_frames = record two { frames = 0 }

-- ---- a record between calls
lies : (place j : ℕ) → place < 512 → j < 1 → place + j < 512
lies place j a b = omega (arith, a, b)

at_rest : IsAtRest two record part { pins = a_stand ∷ [] }
at_rest = record {
  config = refl;
  live = lit≤ tt;
  most = lit≤ tt;
  claims = refl;
  out = (refl, refl, refl, refl, refl, refl, refl, refl, refl, refl);
  fresh = refl;
  written = (lit< tt, tt);
  seen = tt;
  pins = ((lit< tt, λ j below. lies 5 j (lit< tt) below), tt);
  orders = begun;
}

another_config : IsAtRest roomy part → ⊥
another_config r = eqb-false 6 7 refl (ap (λ (c : Config). c.room) r.config)

no_share : IsAtRest two record part { share = 0 } → ⊥
no_share r = let e : 1 ≤ 0 = r.live in omega (arith, e)

too_much_share : IsAtRest two record part { share = 65 } → ⊥
too_much_share r = let e : 65 ≤ 64 = r.most in omega (arith, e)

claims_one : IsAtRest two record part { claims = held_at 1 calm 3 (2826 ∷ []) ∷ [] } → ⊥
claims_one r = eqb-false 1 0 refl (ap (λ (xs : List Held). length xs) r.claims)

holds_the_lock : IsAtRest two record part { holds = true } → ⊥
holds_the_lock r = true≢false r.out.0

began_a_turn : IsAtRest two record part { start = empty_shown 1 two } → ⊥
began_a_turn r = eqb-false 2 0 refl (ap (λ (s : Shown). length s.objects) r.out.1)

began_later : IsAtRest two record part { since = 1 } → ⊥
began_later r = eqb-false 1 0 refl r.out.2

did_something : IsAtRest two record part { acts = Looked 0 0 ∷ [] } → ⊥
did_something r = eqb-false 1 0 refl (ap (λ (es : List Access). length es) r.out.3)

knows_the_words : IsAtRest two record part { known = empty_shown 1 two } → ⊥
knows_the_words r = eqb-false 2 0 refl (ap (λ (s : Shown). length s.objects) r.out.4)

took_a_far_state : IsAtRest two record part { took = empty_far 3 two } → ⊥
took_a_far_state r = eqb-false 3 1 refl (ap (λ (f : FarState). f.first) r.out.5)

had_an_entry : IsAtRest two record part { had = made ∷ [] } → ⊥
had_an_entry r = eqb-false 1 0 refl (ap length r.out.6)

had_an_old_entry : IsAtRest two record part { old = made ∷ [] } → ⊥
had_an_old_entry r = eqb-false 1 0 refl (ap length r.out.7)

ended_one_before : IsAtRest two record part { ended = 1 } → ⊥
ended_one_before r = eqb-false 1 0 refl r.out.8

had_read_one : IsAtRest two record part { had_seen = freed_seen 1 4 ∷ [] } → ⊥
had_read_one r = eqb-false 1 0 refl (ap length r.out.9)

within_a_turn : IsAtRest two record part { fresh = made ∷ [] } → ⊥
within_a_turn r = eqb-false 1 0 refl (ap length r.fresh)

wrote_no_object : IsAtRest two record part { written = entry 2 3 8 [] (2826 ∷ []) ∷ [] } → ⊥
wrote_no_object r = let e : 2 < 2 = r.written.0 in omega (arith, e)

read_no_object : IsAtRest two record part { seen = freed_seen 2 4 ∷ [] } → ⊥
read_no_object r = let e : 2 < 2 = r.seen.0 in omega (arith, e)

pins_no_object : IsAtRest two record part { pins = stand 2 8 5 3 (2826 ∷ []) ∷ [] } → ⊥
pins_no_object r = let e : 2 < 2 = r.pins.0.0 in omega (arith, e)

pins_past_memory : IsAtRest two record part { pins = stand 1 8 512 3 (2826 ∷ []) ∷ [] } → ⊥
pins_past_memory r = let e : 512 + 0 < 512 = r.pins.0.1 0 (lit< tt) in omega (arith, e)

-- the turns of a record, and the order that its pass keeps: none where there is no turn
pub none_kept : (ts : List Turn) (o : Option Kept) → AreOfPasses ts o → ts ≡ [] → o ≡ None
none_kept _ _ begun none = refl
none_kept _ _ (turned t ts x) none = absurd (let e = none in cc)
none_kept _ _ (took_in us ts other own x y) none = none_kept ts own y (last_none us ts none)
  where
    last_none : (us ts : List Turn) → us ++ ts ≡ [] → ts ≡ []
    last_none [] ts e = e
    last_none (u ∷ us) ts e = absurd (let z = e in cc)

keeps_an_order_of_no_turn : (o : Kept) → IsAtRest two record part { order = Some o } → ⊥
keeps_an_order_of_no_turn o r = none-some o (sym (none_kept [] (Some o) r.orders refl))

-- a pass that took another one in keeps its own order, and has the turns of both
took_another_in : (t u : Turn) → t.order ≡ None → u.order ≡ None → AreOfPasses (u ∷ t ∷ []) t.keeps
took_another_in t u first other = took_in (u ∷ []) (t ∷ []) u.keeps t.keeps
    (turned u [] (subst (AreOfPasses []) (sym other) begun))
    (turned t [] (subst (AreOfPasses []) (sym first) begun))

-- ---- a pass of a runtime: each part is one that cannot be left out
of_another_table : (s : Shared) (p : Pass) → (p.seat.table_id ≡ s.board.shared.table_id → ⊥)
    → IsPassOf s p → ⊥
of_another_table s p n f = n f.table

spent_pass : (s : Shared) (p : Pass) → (record_of p).share ≡ 0 → IsPassOf s p → ⊥
spent_pass s p e f = let live = f.rest.live in omega (arith, e, live)

-- ---- the start
of_another_config : (s : Shared) (p : Pass) → s.config ≡ roomy → IsRuntimeBegun 3 two s p → ⊥
of_another_config s p e b = eqb-false 7 6 refl (ap (λ (c : Config). c.room) (sym e ∙ b.config))

of_another_first : (s : Shared) (p : Pass) → s.board.shared.key.first ≡ 4 → IsRuntimeBegun 3 two s p
    → ⊥
of_another_first s p e b = eqb-false 4 3 refl (sym e ∙ b.first_is)

begun_with_an_entry : (s : Shared) (p : Pass) → record_of p ≡ whole → IsRuntimeBegun 3 two s p → ⊥
begun_with_an_entry s p e b =
    eqb-false 1 0 refl (ap (λ (v : View). length v.written) (sym e ∙ b.begun))

begun_of_another : (s : Shared) (p : Pass) → (IsPassOf s p → ⊥) → IsRuntimeBegun 3 two s p → ⊥
begun_of_another s p n b = n b.of

-- ---- a claim directly after the exchange
abbrev claim : Held
claim = held_at 1 calm 3 (2826 ∷ [])

fresh_claim : (p : SeatAt) → (record_at p).claims ≡ claim ∷ []
    → IsFreshClaim two 1 calm 3 (2826 ∷ []) p
fresh_claim p e = record {
  only = e;
  lies = λ j below. lies 5 j (lit< tt) below;
  below = lit< tt;
  whole = refl;
}

no_claim : (p : SeatAt) → (record_at p).claims ≡ [] → IsFreshClaim two 1 calm 3 (2826 ∷ []) p → ⊥
no_claim p e f = eqb-false 0 1 refl (ap (λ (xs : List Held). length xs) (sym e ∙ f.only))

claimed_past_memory : (p : SeatAt) → IsFreshClaim no_frames 1 calm 3 (2826 ∷ []) p → ⊥
claimed_past_memory p f = let e : 5 + 0 < 0 = f.lies 0 (lit< tt) in omega (arith, e)

too_wide : (p : SeatAt) → IsFreshClaim two 1 (calm + 2 ^ 53) 3 (2826 ∷ []) p → ⊥
too_wide p f = let e = f.below in omega (arith, e)

no_words : (p : SeatAt) → IsFreshClaim two 1 calm 3 [] p → ⊥
no_words p f = eqb-false 0 1 refl (f.whole)

-- ---- a claim under which one write and the next version were stored, and the hot word
abbrev stored : Held
stored = record claim { stamp = 4; memory = 3082 ∷ [] }

abbrev warm : ℕ
warm = 2684420102

is_next : IsNextOf stored warm
is_next = record {
  below = lit< tt;
  here = refl;
  bare = refl;
  hot = refl;
  len = refl;
  place = refl;
  next = refl;
  write = (1, 12 ∷ [], lit≤ tt, write_it);
}

next_too_wide : IsNextOf stored (warm + 2 ^ 53) → ⊥
next_too_wide n = let e = n.below in omega (arith, e)

next_moving : IsNextOf stored (warm + 1) → ⊥
next_moving n = eqb-false 3 2 refl (ap state_number n.here)

next_pinned : IsNextOf stored pinned → ⊥
next_pinned n = eqb-false 1 0 refl (n.bare)

next_cold : IsNextOf stored calm → ⊥
next_cold n = true≢false (sym n.hot)

next_longer : IsNextOf record stored { len = 16 } warm → ⊥
next_longer n = eqb-false 8 16 refl (n.len)

next_elsewhere : IsNextOf record stored { place = 6 } warm → ⊥
next_elsewhere n = eqb-false 5 6 refl (n.place)

next_same_version : IsNextOf record stored { stamp = 3 } warm → ⊥
next_same_version n = eqb-false 3 4 refl (n.next)

next_of_another_size : IsNextOf record stored { memory = 3082 ∷ 0 ∷ [] } warm → ⊥
next_of_another_size n = eqb-false 2 1 refl (n.write.3.sized)

-- an object of one byte, whose byte 1 is changed
next_past_the_end : IsNextOf record stored { len = 1 } 2684362758 → ⊥
next_past_the_end n = eqb-false 12 11 refl (n.write.3.outside 1 (lit< tt) (inr n.write.2))

-- ---- a claim with nothing stored
as_before : IsAsClaimed claim calm
as_before = record { word = refl; version = refl; memory = refl }

another_word : IsAsClaimed claim warm → ⊥
another_word b = eqb-false warm calm refl (b.word)

another_stamp : IsAsClaimed record claim { stamp = 4 } calm → ⊥
another_stamp b = eqb-false 4 3 refl (b.version)

another_memory : IsAsClaimed record claim { memory = 3082 ∷ [] } calm → ⊥
another_memory b = eqb-false 3082 2826 refl (ap (λ (xs : List ℕ). get_or xs 0 0) b.memory)

-- ---- bytes of a claimed object
is_within : IsWithin two claim 5 1 1
is_within = record {
  there = refl;
  inside = lit≤ tt;
  short = lit< tt;
  lies = λ j below. lies 5 j (lit< tt) below;
  whole = refl;
}

elsewhere : IsWithin two claim 6 1 1 → ⊥
elsewhere w = eqb-false 5 6 refl (w.there)

past_the_end : IsWithin two claim 5 8 1 → ⊥
past_the_end w = let e : 9 ≤ 8 = w.inside in omega (arith, e)

too_long : IsWithin (record two { frames = 20 })
    record claim { len = 65536; memory = replicate 8192 0 } 5 1 1 → ⊥
too_long w = let e : 65536 < 65536 = w.short in omega (arith, e)

past_memory : IsWithin no_frames claim 5 1 1 → ⊥
past_memory w = let e : 5 + 0 < 0 = w.lies 0 (lit< tt) in omega (arith, e)

without_words : IsWithin two record claim { memory = [] } 5 1 1 → ⊥
without_words w = eqb-false 0 1 refl (w.whole)

-- ---- a look at how large the share may be
tallied_whole : (st : Step LockSlot) → tallied st (whole, []) 0 (whole, [])
tallied_whole st = (refl, lit≤ tt)

tallied_another : (st : Step LockSlot) → tallied st (whole, []) 0 (part, []) → ⊥
tallied_another st t = eqb-false 40 64 refl (ap (λ (m : Sat). m.0.share) t.0)

tallied_over : (st : Step LockSlot)
    → tallied st (record whole { share = 65 }, []) 0 (record whole { share = 65 }, []) → ⊥
tallied_over st t = let e : 65 ≤ 64 = t.1 in omega (arith, e)

-- ---- a seat that may be taken in
abbrev spare_view : View
spare_view = right_of 24 part

spare : (z : TableId) (p : SeatAt) → p.table_id ≡ z → p.me ≡ (spare_view, []) → IsSpare z p
spare z p t e = record {
  table = t;
  carries = ap (λ (m : Sat). m.1) e;
  live = subst (λ (m : Sat). 1 ≤ m.0.share) (sym e) (lit≤ tt);
  no_pins = ap (λ (m : Sat). m.0.pins) e;
  no_claims = ap (λ (m : Sat). m.0.claims) e;
  free = ap (λ (m : Sat). m.0.holds) e;
}

spare_elsewhere : (z : TableId) (p : SeatAt) → (p.table_id ≡ z → ⊥) → IsSpare z p → ⊥
spare_elsewhere z p n s = n s.table

spare_spent : (z : TableId) (p : SeatAt) → (record_at p).share ≡ 0 → IsSpare z p → ⊥
spare_spent z p e s = let live = s.live in omega (arith, e, live)

spare_pinning : (z : TableId) (p : SeatAt) → (record_at p).pins ≡ a_stand ∷ [] → IsSpare z p → ⊥
spare_pinning z p e s = eqb-false 1 0 refl (ap length (sym e ∙ s.no_pins))

spare_claiming : (z : TableId) (p : SeatAt) → (record_at p).claims ≡ claim ∷ [] → IsSpare z p → ⊥
spare_claiming z p e s = eqb-false 1 0 refl (ap length (sym e ∙ s.no_claims))

spare_locking : (z : TableId) (p : SeatAt) → (record_at p).holds ≡ true → IsSpare z p → ⊥
spare_locking z p e s = true≢false (sym e ∙ s.free)

-- the other's pins are given back before, and its share and what it read are taken in
joins_no_pins : (joined part (unpinned_all record spare_view { pins = a_stand ∷ [] })).pins ≡ []
joins_no_pins = refl

joins_share : (joined (left_of 24 part) (unpinned_all spare_view)).share ≡ 40
joins_share = refl

joins_read : (joined part (unpinned_all spare_view)).seen ≡ spare_view.seen
joins_read = refl

-- ---- the first place of a handle
abbrev three : List ℕ
three = 4 ∷ 1 ∷ 1 ∷ []

second_is_first : IsFirstAt three 1 1
second_is_first = record { within = lit< tt; here = refl; before = before }
  where
    before : (i : ℕ) → i < 1 → get_or three i 0 ≡ 1 → ⊥
    before zero below = λ e. eqb-false 4 1 refl e
    before (suc i) below = absurd (omega (arith, below))

third_is_not : IsFirstAt three 1 2 → ⊥
third_is_not f = f.before 1 (lit< tt) refl

another_handle : IsFirstAt three 1 0 → ⊥
another_handle f = eqb-false 4 1 refl (f.here)

behind_the_last : IsFirstAt (4 ∷ []) 0 1 → ⊥
behind_the_last f = let e : 1 < 1 = f.within in omega (arith, e)
