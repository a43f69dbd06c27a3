use Rattle.std.proofs.Common.{ℕ, ◌<◌, List, [], ◌∷◌, ◌++◌, refl, sym, subst, rules}
use Rattle.std.proofs.lemmas.List.{append-nil}
use Rattle.cb_world.specs.declared.access.Access.{Access}
use Rattle.cb_world.specs.declared.access.Access.TheVariants.{Looked}
use Rattle.cb_evict.proofs.Claims.{claim_of, claim_one, left_one}
use Rattle.cb_evict.proofs.Slots.{claim_touches, claim_looks_first, look_touches, looks_first}
use Rattle.cb_world.proofs.Laws.{found_last}
use Rattle.cb_evict.proofs.claiming.claim_object.Goals as goal

pub returns-in-Claimed-clause-claims : goal.returns-in-Claimed-clause-claims
returns-in-Claimed-clause-claims g c =
    let h = c.args.n in let w = c.in-Claimed.word in let got = c.in-Claimed.ensures in
    let tried = got.2 in let v = tried.1 in let words = tried.2 in
    let es = claim_of tried.0 h w v words in
    let ran = subst (λ (l : List Access). g.D.Desk.run c.args.desk.now l c.try_claim.new.desk)
    tried.3 got.1 in
    record {
      more = record { handle = h; word = w } ∷ [];
      noted = (search rules);
      part = record {
        events = es;
        ran = ran;
        touches = claim_touches tried.0 h w v words tried.4;
        first = claim_looks_first tried.0 h w v words tried.4;
        done = (
          (w, refl),
          λ far s a sound.
              let sized = g.met.D.Desk.sized _ s a in
              claim_one far s tried.0 h w v words sound
              (subst (λ (n : ℕ). h < n) (sym sized.0) c.requires.handle)
              (subst (λ (n : ℕ). h < n) (sym sized.2) c.requires.handle)
              (subst (λ (n : ℕ). h < n) (sym sized.1) c.requires.handle)
              tried.4 (g.met.D.Desk.follows _ _ es s ran a).0 tried.5,
        );
      };
    }

pub returns-in-Left-clause-claims : goal.returns-in-Left-clause-claims
returns-in-Left-clause-claims g c =
    let h = c.args.n in let w = c.in-Left.word in let got = c.in-Left.ensures in
    let tried = got.2 in
    let es = tried.0 ++ Looked h w ∷ [] in
    let ran = subst (λ (l : List Access). g.D.Desk.run c.args.desk.now l c.try_claim.new.desk)
    tried.1 got.1 in
    record {
      more = [];
      noted = sym (append-nil c.args.formers.now.items);
      part = record {
        events = es;
        ran = ran;
        touches = look_touches tried.0 h w tried.2;
        first = looks_first tried.0 h w tried.2;
        done = (
          (refl, (h, w, refl, found_last h w tried.0 (Looked h w) (refl, refl), tried.3)),
          λ far s a sound. left_one far s tried.0 h w sound tried.2,
        );
      };
    }
