use Rattle.std.proofs.Common.{[], refl, sym}
use Rattle.std.proofs.lemmas.List.{append-nil}
use Rattle.cb_evict.proofs.Claims.{claims_nothing}
use Rattle.cb_evict.proofs.claiming.claim_slot.Goals as goal

pub returns-in-None-clause-claims : goal.returns-in-None-clause-claims
returns-in-None-clause-claims g c = rw c.in-None.is (record {
  more = [];
  noted = sym (append-nil c.args.formers.now.items);
  part = record {
    events = [];
    ran = g.met.D.Desk.none _;
    touches = tt;
    first = tt;
    done = (refl, λ far s a sound. claims_nothing far s [] tt sound);
  };
})
