use Rattle.std.proofs.Common.{◌≡◌, ◌∙◌, ℕ, Option, None, Some, refl, sym, ap, subst}
use Rattle.cb_ptr.specs.declared.word.PtrWord.{PtrWord}
use Rattle.cb_record.specs.Parts.{nothing_more}
use Rattle.cb_shared.specs.Seats.{record_at}
use Rattle.cb_shared.specs.Seeking.{FindsKnown, KnownMoves}
use Rattle.cb_shared.specs.UnderLock.{IsBelow}
use Rattle.cb_shared.proofs.ReadParts.{no_looks, not_moved, of_grown}
use Rattle.cb_shared.proofs.Seeking.{known_again, known_found}
use Rattle.cb_shared.proofs.freed.find_known.Goals as goal

none_is : (o : Option ℕ) → ((h : ℕ) → o ≡ Some h → ⊥) → o ≡ None
none_is None not = refl
none_is (Some h) not = absurd (not h refl)

pub returns-in_default : goal.returns-in_default
returns-in_default g c = (
  nothing_more,
  not_moved c.args.seat.now,
  (refl, refl),
  tt,
  subst (λ (o : Option ℕ). FindsKnown o (record_at c.args.seat.now) nothing_more)
      (sym (none_is c.args.freed c.in_default.not-Some)) refl,
)

pub loop-init : goal.loop-init
loop-init g c = (nothing_more, no_looks c.in-Some.h, not_moved c.args.seat.now)

pub glance_any-found-requires-clause-of : goal.glance_any-found-requires-clause-of
glance_any-found-requires-clause-of g c = let i = c.loop.invariant in
    of_grown c.args.top.now.table_id c.args.top.now.key c.args.config.now c.args.seat.now c.loop.seat
    i.0 c.requires.of i.2

pub glance_any-found-requires-clause-handle : goal.glance_any-found-requires-clause-handle
glance_any-found-requires-clause-handle g c =
    subst (λ (o : Option ℕ). IsBelow c.args.config.now o) c.in-Some.is c.requires.handle

pub returns-in-Empty : goal.returns-in-Empty
returns-in-Empty g c = let i = c.loop.invariant in let h = c.in-Some.h in
    subst (λ (o : Option ℕ). KnownMoves c.args.config.now o c.args.seat.now
    c.glance_any-found.new.seat) (sym c.in-Some.is)
    (known_found c.args.config.now h c.glance_any-found.result c.args.seat.now c.loop.seat
    c.glance_any-found.new.seat i.0
    (subst (λ (o : Option ℕ). IsBelow c.args.config.now o) c.in-Some.is c.requires.handle) i.1 i.2
    c.glance_any-found.ensures
    (sym (ap (λ (w : PtrWord). w.state) c.unpack.ensures.fields) ∙ c.in-Empty.is))

pub loop-preserved : goal.loop-preserved
loop-preserved g c = let i = c.loop.invariant in
    known_again c.in-Some.h c.glance_any-found.result c.args.seat.now c.loop.seat
    c.glance_any-found.new.seat i.0 i.1 i.2 c.glance_any-found.ensures
    (λ e _. c.in_default-state.not-Empty
    (ap (λ (w : PtrWord). w.state) c.unpack.ensures.fields ∙ e))
