-- What stands of a record that was split off, and of one that took another in.
use Rattle.std.proofs.Common.{◌≡◌, ℕ, ◌+◌, ◌<◌, ◌≤◌, List, [], ◌∷◌, ◌++◌, map, sym, refl, ap}
use Rattle.std.proofs.Common.{◌∙◌, subst, arith}
use Rattle.std.specs.Option.{option_or}
use Rattle.cb_types.specs.declared.config.Config.{Config}
use Rattle.cb_world.specs.declared.entry.Entry.{Entry}
use Rattle.cb_world.specs.Empty.{empty_far}
use Rattle.cb_rule.specs.declared.view.Seen.{Seen}
use Rattle.cb_rule.specs.declared.turn.Turn.{Turn}
use Rattle.cb_rule.specs.declared.view.View.{View}
use Rattle.cb_rule.specs.Lists.{Each}
use Rattle.cb_rule.specs.Records.{seen_of}
use Rattle.cb_rule.specs.Steps.{joined, right_of}
use Rattle.cb_shared.specs.Joining.{unpinned_all}
use Rattle.cb_shared.specs.OrdersKept.{begun, took_in}
use Rattle.cb_shared.specs.Passes.{IsAtRest}
use Rattle.cb_shared.specs.Trying.{newest_tries, tries_of}

each_both : {A : Type 0} (P : A → Type 0) (xs ys : List A) → Each P xs → Each P ys
    → Each P (xs ++ ys)
each_both P [] ys a b = b
each_both P (x ∷ xs) ys a b = (a.0, each_both P xs ys a.1 b)

each_seen : (n : ℕ) (es : List Entry) → Each (λ (e : Entry). e.handle < n) es
    → Each (λ (s : Seen). s.handle < n) (map seen_of es)
each_seen n [] each = tt
each_seen n (e ∷ es) each = (each.0, each_seen n es each.1)

pub rest_right : (c : Config) (given : ℕ) (v : View) → IsAtRest c v → 1 ≤ given → given < v.share
    → IsAtRest c (right_of given v)
rest_right c given v rest some less = record {
  config = rest.config;
  live = some;
  most = let m = rest.most in omega (arith, m, less);
  claims = refl;
  out = (
    refl,
    refl,
    refl,
    refl,
    refl,
    ap (λ (k : Config). empty_far 1 k) rest.config,
    refl,
    refl,
    refl,
    refl,
  );
  fresh = refl;
  written = tt;
  seen = each_both (λ (s : Seen). s.handle < c.handles) (map seen_of (v.fresh ++ v.written)) v.seen
      (each_seen c.handles (v.fresh ++ v.written)
      (subst (λ (l : List Entry). Each (λ (e : Entry). e.handle < c.handles) (l ++ v.written))
      (sym rest.fresh) rest.written)) rest.seen;
  pins = tt;
  orders = begun;
}

pub rest_joined : (c : Config) (v w : View) → IsAtRest c v → IsAtRest c w → v.share + w.share ≤ 64
    → IsAtRest c (joined v (unpinned_all w))
rest_joined c v w a b most = record {
  config = a.config;
  live = let l = a.live in omega (arith, l);
  most = most;
  claims = ap (λ l. l ++ v.claims) b.claims ∙ a.claims;
  out = a.out;
  fresh = ap (λ (l : List Entry). l ++ v.fresh) b.fresh ∙ a.fresh;
  written = each_both (λ (e : Entry). e.handle < c.handles) w.written v.written b.written a.written;
  seen = each_both (λ (s : Seen). s.handle < c.handles) w.seen v.seen b.seen a.seen;
  pins = a.pins;
  orders = took_in w.turns v.turns w.order v.order b.orders a.orders;
}

-- the newest turn is the other one's, if that had any
pub tries_joined : (v w : View)
    → option_or (tries_of w) (tries_of v) ≡ tries_of (joined v (unpinned_all w))
tries_joined v w = go w.turns
  where
    go : (ts : List Turn)
        → option_or (newest_tries ts) (tries_of v) ≡ newest_tries (ts ++ v.turns)
    go [] = refl
    go (t ∷ ts) = refl
