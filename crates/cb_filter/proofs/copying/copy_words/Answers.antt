use Rattle.std.proofs.Common.{ℕ, ◌+◌, List, [], ◌∷◌, ◌++◌, refl, sym, ap, ◌∙◌, subst, arith}
use Rattle.cb_types.specs.declared.config.Field.TheVariants.{Frames}
use Rattle.cb_world.specs.declared.access.Access.{Access}
use Rattle.cb_world.specs.declared.access.Access.TheVariants.{Loaded, Stored}
use Rattle.cb_world.specs.declared.shown.Shown.{Shown}
use Rattle.cb_world.specs.Shown.{Owns}
use Rattle.cb_world.specs.Played.{played}
use Rattle.cb_world.proofs.Laws.{played_append}
use Rattle.cb_filter.specs.Copies.{copied_from}
use Rattle.cb_filter.proofs.Copied.{copied_then, copied_played, owns_put, length_then}
use Rattle.cb_filter.proofs.copying.copy_words.Goals as goal

pub loop-i-init : goal.loop-i-init
loop-i-init g c = ([], refl, g.met.D.Desk.none _)

pub overflow_add-from : goal.overflow_add-from
overflow_add-from g c =
    omega (arith, (c.requires.config Frames).1, c.loop-i-test.true, c.requires.read)

pub overflow_add-to : goal.overflow_add-to
overflow_add-to g c =
    omega (arith, (c.requires.config Frames).1, c.loop-i-test.true, c.requires.stored)

pub store-requires-clause-owned : goal.store-requires-clause-owned
store-requires-clause-owned g c =
    let inv = c.loop-i.invariant in let had = c.requires.owned in let s = had.0 in
    let from = c.args.from in let to = c.args.to in let i = c.loop-i.i in
    let last = Loaded (from + i) c.load-word.result ∷ [] in
    let es = copied_from from to inv.0 ++ last in
    let ran = g.met.D.Desk.more _ _ _ _ _ inv.2 c.load-word.ensures in (
      played es s,
      (g.met.D.Desk.follows _ _ es s ran had.1).1,
      subst (λ (t : Shown). Owns t (to + i))
          (sym (played_append (copied_from from to inv.0) last s ∙ copied_played from to inv.0 s))
          (owns_put s to (to + i) inv.0
          (had.2 (to + i) (omega arith) (omega (arith, c.loop-i-test.true)))),
    )

pub loop-i-preserved : goal.loop-i-preserved
loop-i-preserved g c =
    let inv = c.loop-i.invariant in let x = c.load-word.result in
    let from = c.args.from in let to = c.args.to in (
      inv.0 ++ x ∷ [],
      length_then inv.0 x ∙ ap (λ (n : ℕ). n + 1) inv.1,
      subst (λ (es : List Access). g.D.Desk.run c.args.desk.now es c.store.new.self)
          (copied_then from to inv.0 x)
          (g.met.D.Desk.more _ _ _ _ _ inv.2
          (subst (λ (n : ℕ). g.D.Desk.run c.loop-i.desk
          (Loaded (from + n) x ∷ Stored (to + n) x ∷ []) c.store.new.self) (sym inv.1)
          (g.met.D.Desk.more _ _ _ _ _ c.load-word.ensures c.store.ensures))),
    )
