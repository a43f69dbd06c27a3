-- What an object that is brought in is answered over a desk of plain data.
use Rattle.std.proofs.Common.{ℕ, List, sym, subst}
use Rattle.cb_member.specs.declared.names.Loss.{Loss}
use Rattle.cb_types.specs.declared.config.Config.{Config}
use Rattle.cb_types.specs.declared.handle.SetId.{SetId}
use Rattle.cb_types.specs.declared.reply.Reply.{Reply}
use Rattle.cb_types.specs.declared.reply.Reply.TheVariants as answer
use Rattle.cb_swapin.proofs.Laws.{by_answer}
use Rattle.cb_core.specs.Parts.{Holding, most_evictions}
use Rattle.cb_core.specs.Turned.{Brings, Swaps, WinsRoom}
use Rattle.cb_core.proofs.Laws.{room_reply}
use Rattle.cb_shared.specs.Turning.{Slate, slate_run, slate_shows}

-- what holds of each reply that a bringing in may have holds of its reply
module _ (C : Reply → Type 0) (lost : (id : SetId) (losses : List Loss) → C (answer.Unavailable id losses))
    (full : C answer.NoFrame) (comes : (f : ℕ) → C (answer.Swapped f))
    (no_rooms : (frames loose nodes : ℕ) → C (answer.NoRoom frames loose nodes)) where
  swap_gives : (h : ℕ) (a b : Holding Slate) (r : Reply) → Swaps slate_run slate_shows h a r b → C r
  swap_gives h a b r (home, at, x) = let z = x.rule in
      subst C (sym z.reply) (by_answer C a.far home.set z.set (λ broken. lost _ _) (λ fine free. full)
      (λ f fine free. comes f))

  pub bring_gives : (c : Config) (h : ℕ) (a b : Holding Slate) (r : Reply)
      → Brings slate_run slate_shows c h a r b → C r
  bring_gives c h a b r bring = room_reply c.frames (Swaps slate_run slate_shows h)
      (WinsRoom slate_run slate_shows c) C (λ n b r x off. swap_gives h n b r x) (no_rooms c.frames)
      most_evictions a b r bring
