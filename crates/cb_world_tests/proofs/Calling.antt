-- A caller goes on being one.
use Rattle.std.proofs.Common.{◌≡◌, ℕ, ◌<◌, List, [], ◌∷◌, ◌++◌, sym, subst, arith, inl, inr}
use Rattle.std.proofs.lemmas.List.Elements.{All-push}
use Rattle.cb_types.specs.declared.handle.Handle.{Handle}
use Rattle.cb_world.specs.declared.entry.Entry.{Entry}
use Rattle.cb_rule.specs.declared.view.Seen.{Seen}
use Rattle.cb_rule.specs.Steps.{Knows}
use Rattle.cb_rule.proofs.Laws.{each_has}
use Rattle.cb_shared.specs.declared.pass.Pass.{Pass}
use Rattle.cb_shared.specs.declared.runtime.Shared.{Shared}
use Rattle.cb_shared.specs.Passes.{IsPassOf}
use Rattle.cb_world_tests.specs.Callers.{IsCaller, KnowsAll}
use Rattle.cb_shared.proofs.Laws.{Keeps}

pub caller_keeps : (s : Shared) (objects : List Handle) (p q : Pass) → IsCaller s objects p
    → IsPassOf s q → Keeps p.seat.me.0 q.seat.me.0 → IsCaller s objects q
caller_keeps s objects p q c of more = record {
  of = of;
  knows = λ i d below. more _ (c.knows i d below);
}

-- at first it knows none
pub first_caller : (s : Shared) (p : Pass) → IsPassOf s p → IsCaller s [] p
first_caller s p of = record { of = of; knows = λ i d below. absurd (omega (arith, below)) }

-- ---- an object that a pass knows is one of the runtime
pub known_in_range : (s : Shared) (p : Pass) (h : ℕ) → IsPassOf s p → Knows h p.seat.me.0
    → h < s.config.handles
known_in_range s p h of (inl (e, has, is)) = subst (λ (n : ℕ). n < s.config.handles) is
    (each_has (λ (x : Entry). x.handle < s.config.handles) e p.seat.me.0.written of.rest.written
    has)
known_in_range s p h of (inr (x, has, is)) = subst (λ (n : ℕ). n < s.config.handles) is
    (each_has (λ (y : Seen). y.handle < s.config.handles) x p.seat.me.0.seen of.rest.seen has)

-- ---- one object more
pub caller_more : (s : Shared) (objects more : List Handle) (h : Handle) (p : Pass)
    → IsCaller s objects p → Knows h.n p.seat.me.0 → more ≡ objects ++ h ∷ [] → IsCaller s more p
caller_more s objects more h p c is grown = record {
  of = c.of;
  knows = subst (λ (all : List Handle). KnowsAll all p.seat.me.0) (sym grown)
      (All-push (λ (x : Handle). Knows x.n p.seat.me.0) objects h c.knows is);
}

-- by a list that is the same
pub caller_of : (s : Shared) (objects others : List Handle) (p : Pass) → objects ≡ others
    → IsCaller s objects p → IsCaller s others p
caller_of s objects others p same c = subst (λ (all : List Handle). IsCaller s all p) same c
