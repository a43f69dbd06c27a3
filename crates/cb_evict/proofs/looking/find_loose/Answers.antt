use Rattle.std.proofs.Common.{ℕ, List, [], ◌∷◌, ◌++◌, take, get_or, sym, subst, arith, rules}
use Rattle.std.proofs.lemmas.List.{take_all, take_more}
use Rattle.cb_types.specs.declared.config.Config.{Config}
use Rattle.cb_evict.specs.Candidates.{SpanNames, AreLoose, AreUnique}
use Rattle.cb_evict.specs.Events.{TouchesOnly}
use Rattle.cb_evict.specs.Looking.{IsIn}
use Rattle.cb_evict.proofs.Events.{touches_append, touches_more, looks_append, looks_are_first}
use Rattle.cb_evict.proofs.Loose.{frame_looked, in_more, in_last}
use Rattle.cb_evict.proofs.looking.find_loose.Goals as goal

pub loop-frame-init : goal.loop-frame-init
loop-frame-init g c = (
  [],
  g.met.D.Desk.none _,
  tt,
  tt,
  subst (λ (l : List ℕ). AreLoose [] c.args.spans.now [] l) (sym c.requires.empty) tt,
  omega arith,
  search rules,
)

pub look_at-requires-clause-unique : goal.look_at-requires-clause-unique
look_at-requires-clause-unique g c =
    let inv = c.loop-frame.invariant in
    subst (λ (n : Config). AreUnique c.args.spans.now n.handles)
    (sym (g.met.D.Desk.stays _ _ inv.0 inv.1)) c.requires.unique

pub loop-frame-preserved : goal.loop-frame-preserved
loop-frame-preserved g c =
    let inv = c.loop-frame.invariant in let x = c.look_at.ensures.looks in
    let spans = c.args.spans.now in let frames = c.args.frames.now in
    let i = c.loop-frame.frame-index in let f = get_or frames i 0 in
    let within = c.loop-frame-test.true in
    let more = take_more frames i 0 within in (
      inv.0 ++ x.events,
      g.met.D.Desk.more _ _ _ _ _ inv.1 x.ran,
      looks_append inv.0 x.events inv.2 x.done.0,
      subst (λ (l : List ℕ). TouchesOnly (IsIn spans l) (λ p. ⊥) (inv.0 ++ x.events)) (sym more)
          (touches_append (IsIn spans (take i frames ++ f ∷ [])) (λ p. ⊥) inv.0 x.events
          (touches_more (IsIn spans (take i frames)) (IsIn spans (take i frames ++ f ∷ [])) (λ p. ⊥) (λ p. ⊥)
          inv.0 (in_more spans (take i frames) f) (λ p y. y) inv.3)
          (touches_more (SpanNames spans f) (IsIn spans (take i frames ++ f ∷ [])) (λ p. ⊥) (λ p. ⊥)
          x.events (in_last spans (take i frames) f) (λ p y. y) x.touches)),
      subst (λ (l : List ℕ). AreLoose (inv.0 ++ x.events) spans l c.look_at.new.loose.items) (sym more)
          (frame_looked spans _ frames i inv.0 x.events c.loop-frame.loose.items
          c.look_at.new.loose.items c.requires.unique c.requires.apart within inv.4 x.touches x.done.1),
      omega (arith, inv.5, c.look_at.ensures.capacity),
      omega (arith, inv.6, c.look_at.ensures.more),
    )

pub returns : goal.returns
returns g c =
    let inv = c.loop-frame.invariant in
    let all = take_all c.loop-frame.frame-index c.args.frames.now (search rules) in record {
      looks = record {
        events = inv.0;
        ran = inv.1;
        touches = subst (λ (l : List ℕ). TouchesOnly (IsIn c.args.spans.now l) (λ p. ⊥) inv.0) all inv.3;
        first = looks_are_first inv.0 inv.2;
        done = (inv.2, subst (λ (l : List ℕ). AreLoose inv.0 c.args.spans.now l c.loop-frame.loose.items) all inv.4);
      };
      few = search rules;
    }
