-- A filter over a still desk is a step, and leaves all known.
use Rattle.std.proofs.Common.{ℕ, ◌+◌, List, [], ◌∷◌, set, refl, sym, subst, inl, inr}
use Rattle.cb_ptr.specs.Word.{hot_of}
use Rattle.cb_types.specs.declared.config.Config.{Config}
use Rattle.cb_world.specs.declared.access.Access.{Access}
use Rattle.cb_world.specs.declared.access.Access.TheVariants.{Looked, Claimed, Told, Loaded, Stored, Stamped, Settled}
use Rattle.cb_world.specs.Grasped.{IsFree}
use Rattle.cb_world.specs.Looks.{NoLook, IsFound, IsTaken, LooksFirst}
use Rattle.cb_world.specs.Plain.{Words, Plain}
use Rattle.cb_world.specs.Seats.{SeatState}
use Rattle.cb_world.specs.World.{word_at}
use Rattle.cb_world.proofs.Laws.{found_exact, PerformsStill}
use Rattle.cb_filter.specs.FilterEffect.{FilterEffect}
use Rattle.cb_filter.specs.FilterRule.{FilterRule}
use Rattle.cb_filter.specs.FilterStep.{IsFilterStep, IsFreeIn, temp_of}
use Rattle.cb_filter.specs.Plans.{Wants}
use Rattle.cb_filter.specs.Seats.{temp_for}
use Rattle.cb_filter.proofs.Laws.{filter_keeps, filter_leaves_words, filter_step, filter_stopped, filter_stays}
use Rattle.cb_core.specs.Step.{StillFilter, StillFilterLacks}
use Rattle.cb_core.specs.Turned.{Filters, FilterLacks}
use Rattle.cb_core.proofs.KeptParts.{Carries, CarriesLack, arrives_same, arrives_step}
use Rattle.cb_core.proofs.StillOrders.{Ran, SaysAll, performs_orders}
use Rattle.cb_core.proofs.TurnCallsKept.{same_holding}
use Rattle.cb_core.proofs.WordsOwned.{filter_words}
use Rattle.cb_core.proofs.WordsTold.{by_words}

pub filter_part : (c : Config) (seats : List SeatState) (h : ℕ)
    → Carries c seats 1 (Filters Ran SaysAll c h) (StillFilter h)
filter_part c seats h a b r good p =
    let x = a.desk in let y = b.desk in let far = a.far in let new = b.far in
    let q = subst (λ (d : Config). PerformsStill x y far new (FilterRule d.frames h far new r)
    (FilterEffect h far new r)) (sym good.settings) p in
    arrives_step c seats 1 a b (IsFilterStep x y far new h r) good
    (filter_stays c c.frames h far new r p.events p.rule) q
    (performs_orders a b p
    (λ s k. filter_leaves_words c.frames h far new r p.events p.rule)
    (by_words far new p.events (FilterEffect h far new r) (filter_words h far new r p.events)))
    (λ s k. filter_step x y far new s h r k q) (λ z. (filter_keeps x y far new h r z).words)

-- ---- want of memory
-- an object that was claimed was found free
claim_free : (es : List Access) (x y : Words) (h v : ℕ) (words : List ℕ) → Plain x es y
    → LooksFirst es → IsTaken h v words es → (w : ℕ) × IsFound h w es × IsFree w
claim_free [] x y h v words run first taken = absurd taken
claim_free (Looked k u ∷ es) x y h v words run first taken =
    let t = claim_free es x y h v words run.1 first taken in (t.0, inl t.1, t.2)
claim_free (Claimed k u n xs ∷ es) x y h v words run first (inl taken) =
    let t = claim_free es (record x { words = set x.words k (u + 1) }) y h v words run.1 first.1
    taken in (t.0, inl t.1, t.2)
claim_free (Claimed k u n xs ∷ es) x y h v words run first (inr taken) = (
  u,
  inr ((taken.0, refl), subst (λ (i : ℕ). NoLook i es) taken.0 first.0),
  (run.0.here, run.0.no_pins),
)
claim_free (Told k u ∷ es) x y h v words run first taken =
    let t = claim_free es x y h v words run.1 first taken in (t.0, inl t.1, t.2)
claim_free (Loaded p u ∷ es) x y h v words run first taken =
    let t = claim_free es x y h v words run.1 first taken in (t.0, inl t.1, t.2)
claim_free (Stored p u ∷ es) x y h v words run first taken =
    let t = claim_free es (record x { memory = set x.memory p u }) y h v words run first.1 taken in
    (t.0, inl t.1, t.2)
claim_free (Stamped k u ∷ es) x y h v words run first taken =
    let t = claim_free es (record x { versions = set x.versions k u }) y h v words run first.1 taken
    in (t.0, inl t.1, t.2)
claim_free (Settled k u ∷ es) x y h v words run first taken =
    let t = claim_free es (record x { words = set x.words k u }) y h v words run.1 first.1 taken in
    (t.0, inl t.1, t.2)

pub filter_lack : (c : Config) (seats : List SeatState) (h : ℕ)
    → CarriesLack c seats 1 (FilterLacks Ran SaysAll h) (StillFilterLacks h)
filter_lack c seats h a b good p =
    let e = filter_stopped a.desk b.desk a.far b.far good.shown h good.known p in
    let same = same_holding a b e.0 e.1 in
    arrives_same c seats 1 a b (StillFilterLacks h a b) good same (same, (p.rule.seat, is, wants))
  where
    free : IsFree (word_at a.desk h)
    free = let claim = p.rule.claimed.1 in
        let t = claim_free p.events a.desk b.desk h claim.0 claim.1 p.ran.0 p.looks_first claim.2 in
        subst IsFree (sym (found_exact p.events a.desk b.desk h t.0 p.ran.0 p.looks_first t.1)) t.2

    is : IsFreeIn a.desk a.far h p.rule.seat
    is = record { free = free; stands = p.rule.stands }

    wants : Wants a.far (temp_of a.desk h) p.rule.seat
    wants = subst (λ (w : ℕ). Wants a.far (temp_for (hot_of w)) p.rule.seat)
        (sym (found_exact p.events a.desk b.desk h p.rule.word p.ran.0 p.looks_first p.rule.found))
        (p.rule.other, p.rule.needs)
