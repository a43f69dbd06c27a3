use Rattle.std.proofs.Common.{◌≡◌, ◌+◌, ℕ, List, [], ◌∷◌, sym, subst, arith}
use Rattle.cb_types.specs.declared.config.Config.{Config}
use Rattle.cb_rule.specs.declared.view.Stand.{Stand}
use Rattle.cb_rule.specs.declared.view.View.{View}
use Rattle.cb_rule.specs.Lists.{Each}
use Rattle.cb_rule.specs.Steps.{IsNewest, TellsPin}
use Rattle.cb_rule.specs.Words.{stamps}
use Rattle.cb_shared.specs.Seats.{record_at}
use Rattle.cb_shared.proofs.PinsAlone.{dates_at}
use Rattle.cb_shared.proofs.pins.tell_version.Goals as goal

pub load-requires : goal.load-requires
load-requires c = let o = c.requires.of in (
  o.table,
  (let z = o.words in let l = c.requires.handle in omega arith),
  dates_at c.args.top.now.key.first c.args.config.now _ o.key _ _ _ o.live _,
)

tells : (k c : Config) (h n : ℕ) (ps : List Stand) → k ≡ c
    → Each (TellsPin k (stamps c + h) n) ps → Each (λ (s : Stand). s.handle ≡ h → n ≡ s.version) ps
tells k c h n [] e each = tt
tells k c h n (p ∷ ps) e each = (
  λ same. each.0 (λ i. stamps (sym e i) + sym same i),
  tells k c h n ps e each.1,
)

newest : (h : ℕ) (v : View) (ps : List Stand)
    → Each (λ (s : Stand). IsNewest s.handle s.version v) ps
    → Each (λ (s : Stand). s.handle ≡ h → IsNewest h s.version v) ps
newest h v [] each = tt
newest h v (p ∷ ps) each = (
  λ same. subst (λ (n : ℕ). IsNewest n p.version v) same each.0,
  newest h v ps each.1,
)

pub returns : goal.returns
returns c = let t = c.load.ensures.0 in let i = c.load.ensures.1 in record {
  moves = (t, i, c.load.ensures.2.0);
  tells = tells (record_at c.args.seat.now).config c.args.config.now c.args.h c.load.result
      (record_at c.args.seat.now).pins c.requires.of.config c.load.ensures.2.1;
  newest = newest c.args.h (record_at c.args.seat.now) (record_at c.args.seat.now).pins
      c.load.ensures.2.3;
}
