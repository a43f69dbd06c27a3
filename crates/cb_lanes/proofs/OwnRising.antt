-- Versions of objects rise in the record of a lane, and so it keeps what it has of its own objects.
use Rattle.std.proofs.Common.{◌≡◌, ℕ, List, [], ◌∷◌, ◌++◌, length, Option, None, Some, inl, sym}
use Rattle.std.proofs.Common.{refl, ap, ◌∙◌, subst}
use Rattle.cb_types.specs.declared.answer.Answer.{Answer}
use Rattle.cb_types.specs.declared.config.Config.{Config}
use Rattle.cb_types.specs.declared.job.Job.TheVariants as job
use Rattle.cb_types.specs.declared.reply.Reply.{Reply}
use Rattle.cb_types.specs.declared.reply.Reply.TheVariants as answer
use Rattle.cb_types.specs.declared.request.Request.{Request}
use Rattle.cb_types.specs.declared.request.Request.TheVariants.{Make, Write, Free}
use Rattle.cb_types.specs.Requests.{name_of}
use Rattle.cb_world.specs.declared.entry.Entry.{Entry}
use Rattle.cb_world.specs.Written.{entry, gone}
use Rattle.cb_rule.specs.declared.view.View.{View}
use Rattle.cb_rule.specs.Lists.{Has}
use Rattle.cb_record.specs.Backs.{EntersAt}
use Rattle.cb_shared.specs.Recalls.{Recalls}
use Rattle.cb_lanes.specs.declared.body.Named.{Named}
use Rattle.cb_lanes.specs.Bodies.{LaneGoes, LinesGo, handle_behind}
use Rattle.cb_lanes.specs.KeepsOwn.{KeepsOwn}
use Rattle.cb_lanes.specs.LineGoes.{Calls, LineGoes}
use Rattle.cb_lanes.specs.Passing.{goes_in}
use Rattle.cb_lanes.proofs.LineParts.{LineAdds, about, line_adds, make_handle, told_as}
use Rattle.cb_lanes.proofs.OwnKept.{AreRising, keeps_own}
use Rattle.cb_lanes.proofs.OwnLines.{enters_none}
use Rattle.cb_lanes.proofs.TellingNew.{IsAbove, TellsNew, ask_new}

module _ (mine : ℕ → Type 0) where
  -- one entry more, above all that the record has of its object
  rises_one : (v : View) (es : List Entry) (e : Entry) → es ≡ e ∷ [] → IsAbove v e.handle e.version
      → AreRising mine v.written → AreRising mine (es ++ v.written)
  rises_one v es e one above rising = subst (λ (l : List Entry). AreRising mine (l ++ v.written))
      (sym one)
      (λ own x has same. above x.version x.freed (inl (x, has, same, refl, refl)), rising)

  rises_none : (v : View) (es : List Entry) → es ≡ [] → AreRising mine v.written
      → AreRising mine (es ++ v.written)
  rises_none v es none rising =
      subst (λ (l : List Entry). AreRising mine (l ++ v.written)) (sym none) rising

  make_rises : (v : View) (p bytes : List ℕ) (r : Reply) (es : List Entry)
      → EntersAt (make_handle r) (Make p bytes) r es → TellsNew (Calls (job.Make bytes)) v r
      → AreRising mine v.written → AreRising mine (es ++ v.written)
  make_rises v p bytes (answer.Made hd version) es x new rising =
      rises_one v es (entry hd.n version (length bytes) [] x.0) x.2 new rising
  make_rises v p bytes r es x new rising = rises_none v es x rising

  write_rises : (v : View) (h at : ℕ) (p bytes : List ℕ) (r : Reply) (es : List Entry)
      → EntersAt (Some h) (Write p at bytes) r es
      → TellsNew (Calls (job.Write (record { n = h }) at bytes)) v r
      → AreRising mine v.written → AreRising mine (es ++ v.written)
  write_rises v h at p bytes (answer.Version n) es x new rising =
      rises_one v es (entry h n x.0 x.1 x.2) x.5 new rising
  write_rises v h at p bytes r es x new rising = rises_none v es x rising

  free_rises : (v : View) (h : ℕ) (p : List ℕ) (r : Reply) (es : List Entry)
      → EntersAt (Some h) (Free p) r es → TellsNew (Calls (job.Free (record { n = h }))) v r
      → AreRising mine v.written → AreRising mine (es ++ v.written)
  free_rises v h p (answer.Version n) es x new rising = rises_one v es (gone h n x.0) x.1 new rising
  free_rises v h p r es x new rising = rises_none v es x rising

  -- a line, by its request
  enters_rises : (c : Config) (v m : View) (r : Reply) (o : Option ℕ) (q : Request)
      (es : List Entry)
      → LineGoes (goes_in c) o q v r m → EntersAt (about o q r) q r es → AreRising mine v.written
      → AreRising mine (es ++ v.written)
  enters_rises c v m r o (Make p bytes) es x enters rising = make_rises v p bytes r es enters
      (ask_new c (Calls (job.Make bytes)) v r m x) rising
  enters_rises c v m r None (Write p at bytes) es x enters rising = rises_none v es enters rising
  enters_rises c v m r (Some h) (Write p at bytes) es x enters rising =
      write_rises v h at p bytes r es enters
      (ask_new c (Calls (job.Write (record { n = h }) at bytes)) v r m x) rising
  enters_rises c v m r None (Free p) es x enters rising = rises_none v es enters rising
  enters_rises c v m r (Some h) (Free p) es x enters rising = free_rises v h p r es enters
      (ask_new c (Calls (job.Free (record { n = h }))) v r m x) rising
  enters_rises c v m r o q es x enters rising =
      rises_none v es (enters_none (about o q r) q r es tt enters) rising

  line_rises : (c : Config) (o : Option ℕ) (q : Request) (r : Reply) (v m : View)
      → LineGoes (goes_in c) o q v r m → AreRising mine v.written → AreRising mine m.written
  line_rises c o q r v m x rising =
      let adds : LineAdds v m (told_as (about o q r) q r) = line_adds c o q r v m x in
      let b = adds.2.wrote in
      subst (AreRising mine) (sym (ap (λ (z : View). z.written) adds.1
      ∙ ap (λ (l : List Entry). l ++ v.written) (b.2 ∙ ap (λ (l : List Entry). l ++ b.0) b.4)))
      (enters_rises c v m r o q b.0 x b.3 rising)

  pub lines_rising : (c : Config) (names : List Named) (before after : List Answer) (v w : View)
      → LinesGo (goes_in c) names before v after w → AreRising mine v.written
      → AreRising mine w.written
  lines_rising c names before [] v w is rising =
      subst (λ (z : View). AreRising mine z.written) (sym is) rising
  lines_rising c names before (a ∷ after) v w (m, one, rest) rising =
      lines_rising c names (before ++ a ∷ []) after m w rest
      (line_rises c (handle_behind names before (name_of a.request)) a.request a.reply v m one
      rising)

-- the own objects of a record
abbrev Mine : View → ℕ → Type 0
Mine w h = Has h w.own

-- a lane that began with nothing written keeps what it has of its own objects
pub lane_keeps_own : (c : Config) (names : List Named) (answers : List Answer) (v w : View)
    → v.written ≡ [] → LaneGoes c names v answers w → Recalls 1 w → w.fresh ≡ [] → KeepsOwn w
lane_keeps_own c names answers v w none (m, goes, left) told calm = keeps_own w told calm
    (subst (λ (z : View). AreRising (Mine w) z.written) (sym left)
    (lines_rising (Mine w) c names [] answers v m goes (subst (AreRising (Mine w)) (sym none) tt)))
