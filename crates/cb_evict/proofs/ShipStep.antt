-- Over a still desk a ship is a step.
use Rattle.std.proofs.Common.{◌≡◌, ℕ, ◌*◌, List, map, ap, ◌∙◌, subst, inl, inr}
use Rattle.cb_types.specs.declared.reply.Reply.{Reply}
use Rattle.cb_world.specs.declared.shown.Shown.{Shown}
use Rattle.cb_world.specs.FarSound.{rows_in}
use Rattle.cb_world.specs.FarState.{FarState}
use Rattle.cb_world.specs.Leaving.{LeavingState}
use Rattle.cb_world.specs.Memory.{window}
use Rattle.cb_world.specs.Now.{now}
use Rattle.cb_world.specs.Placed.{leaving_frames}
use Rattle.cb_world.specs.Plain.{Words}
use Rattle.cb_world.specs.Played.{played}
use Rattle.cb_world.specs.RowWords.{row_of}
use Rattle.cb_world.specs.Still.{IsStill}
use Rattle.cb_world.specs.World.{IsKnown}
use Rattle.cb_world.proofs.Laws.{IsStepKnown, PerformsStill, runs_still, known_then, stays_still}
use Rattle.cb_evict.specs.Loading.{LiesInOne}
use Rattle.cb_evict.specs.ShipRule.{ReadsLeaving, ShipEffect, ShipRule, ShipsRow}
use Rattle.cb_evict.specs.ShipStep.{IsShipStep}
use Rattle.cb_evict.proofs.Events.{are_reads}

-- what every object has stays
pub ships_now : (s : Shown) (far new : FarState) (r : Reply) (rows : LeavingState → List (List ℕ))
    → ShipsRow far new r rows → (h : ℕ) → now s new h ≡ now s far h
ships_now s far new r rows (inl x) h = ap (λ (f : FarState). now s f h) x.state
ships_now s far new r rows (inr (inl x)) h = ap (λ (f : FarState). now s f h) x.state
ships_now s far new r rows (inr (inr (inl x))) h = ap (λ (f : FarState). now s f h) x.state
ships_now s far new r rows (inr (inr (inr x))) h = ap (λ (f : FarState). now s f h) x.state

-- ---- the step
-- the rows of the spans of a batch, where this is the memory
abbrev rows_there : List ℕ → LeavingState → List (List ℕ)
rows_there memory batch =
    map (λ f. row_of (window memory (512 * f) (512 * batch.pages))) batch.frames

-- Over a still desk of which all is known a ship is a step, and all is known of it afterwards.
pub ship_step : (x y : Words) (far new : FarState) (r : Reply) (s : Shown)
    → PerformsStill x y far new (ShipRule far new r) (ShipEffect far new r)
    → IsKnown x far s → IsShipStep x y far new r × IsStepKnown y far new s
ship_step x y far new r s p k =
    let rules = ShipRule far new r in let does = ShipEffect far new r in
    let effect = p.effect s ((k.sized, k.shows), k.sound) in
    let reads = are_reads (LiesInOne far.spans (leaving_frames far.leaving)) p.events p.rule.reads in (
      record {
        words = stays_still x y far s p.events (runs_still x y far new rules does s k p) effect.still;
        ships = subst (λ (memory : List ℕ). ShipsRow far new r (rows_there memory)) k.shows.memory
            effect.ships;
      },
      record {
        shown = played p.events s;
        known = known_then x y far new rules does s k p;
        same_now = λ h. ap (λ (t : Shown). now t new h) (reads.stays s)
            ∙ ships_now s far new r (λ b. rows_in s b.pages b.frames) effect.ships h;
      },
    )

-- One that found no memory changes no word.
pub ship_stopped : (x y : Words) (far : FarState) (s : Shown)
    → PerformsStill x y far far (ReadsLeaving far) IsStill → IsKnown x far s → y ≡ x
ship_stopped x y far s p k =
    stays_still x y far s p.events (runs_still x y far far (ReadsLeaving far) IsStill s k p)
    (p.effect s ((k.sized, k.shows), k.sound))
