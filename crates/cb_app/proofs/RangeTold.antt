-- A write whose turn is told the end of its object found that end in a word of the object, which has
-- an entry of that length.
use Rattle.std.proofs.Common.{◌≡◌, ℕ, zero, suc, ◌+◌, ◌<◌, List, [], ◌∷◌, ◌++◌, length, Some, refl, sym, ◌∙◌, subst, inr}
use mathlib.Core.Option.{some-injective, some-ne-none}
use Rattle.cb_types.specs.declared.config.Config.{Config}
use Rattle.cb_types.specs.declared.job.Job.TheVariants as job
use Rattle.cb_types.specs.declared.reply.Reply.TheVariants as answer
use Rattle.cb_world.specs.declared.entry.Entry.{Entry}
use Rattle.cb_world.specs.Played.{played}
use Rattle.cb_world.specs.World.{WorldState}
use Rattle.cb_core.specs.Turned.{Turned}
use Rattle.cb_rule.specs.declared.turn.Turn.{Turn}
use Rattle.cb_rule.specs.declared.view.View.{View}
use Rattle.cb_rule.specs.Closing.{IsClosed}
use Rattle.cb_rule.specs.Lists.{Has}
use Rattle.cb_rule.specs.Promised.{EntriesStand, Is, Wrote}
use Rattle.cb_record.specs.Needs.{the_object}
use Rattle.cb_record.specs.Upheld.{IsLong}
use Rattle.cb_shared.proofs.Laws.{asked_alone}
use Rattle.cb_shared.specs.Turning.{Did, ReadsByPin, held_by, slate_run, slate_shows}
use Rattle.cb_lanes.proofs.Laws.{FoundIn, turned_in}

-- ---- a closed record
module _ (first : ℕ) (v : View) (entries : EntriesStand first (v ∷ [])) (quiet : v.fresh ≡ []) where
  only : (u : View) → Is (v ∷ []) u → u ≡ v
  only u (zero, e) = sym (some-injective v u e)
  only u (suc j, e) = absurd (some-ne-none u (sym e))

  pub written : (e : Entry) → Wrote (v ∷ []) e → Has e v.written
  written e w = subst (λ (fs : List Entry). Has e (fs ++ v.written)) quiet
      (subst (λ (u : View). Has e (u.fresh ++ u.written)) (only w.0 w.1) w.2)

  end_long : (t : Turn) → Has t v.turns → (h at : ℕ) (bytes : List ℕ) (len : ℕ)
      → FoundIn h at bytes (answer.Range len) tt t.acts
      → IsLong v.written h len × (len < at + length bytes)
  end_long t there h at bytes len x =
      let e = entries.looked (record { handle = h; word = x.word })
      (v, (0, refl), inr (t, there, x.event, x.there, x.looks)) x.some in
      ((e.0, written e.0 e.1, e.2, e.3, e.4 ∙ x.says.0), x.says.1)

-- the end that a turn of a write told
pub range_told : (first : ℕ) (c : Config) (v : View) (w : WorldState) → IsClosed Did first c v w
    → (t : Turn) → Has t v.turns → (h at : ℕ) (bytes : List ℕ) (len : ℕ)
    → t.job ≡ job.Write (the_object h) at bytes → t.reply ≡ Some (answer.Range len)
    → IsLong v.written h len × (len < at + length bytes)
range_told first c v w closed t there h at bytes len asked told =
    let did : Turned slate_run slate_shows ReadsByPin c (job.Write (the_object h) at bytes)
    (held_by t.start [] t.took) (answer.Range len)
    (held_by (played t.acts t.start) t.acts t.gave) =
    asked_alone c t (job.Write (the_object h) at bytes) (Some (answer.Range len)) tt asked told
    (closed.turns.did t (v, (0, refl), there)) in
    end_long first v closed.entries closed.calm t there h at bytes len
    (turned_in h at bytes (answer.Range len) tt c _ _ did)
