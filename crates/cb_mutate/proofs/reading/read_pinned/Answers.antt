use Rattle.cb_types.specs.Config.{IsAccepted}
use Rattle.std.proofs.Common.{◌≡◌, ◌∷◌, refl, subst, ◌∙◌, ap, inr, sym}
use Rattle.cb_ptr.specs.declared.word.PtrWord.{PtrWord}
use Rattle.cb_world.specs.declared.access.Access.TheVariants.{Told}
use Rattle.cb_world.specs.Memory.{words_for, bytes_in}
use Rattle.cb_mutate.specs.ReadRule.{AreLoaded}
use Rattle.cb_mutate.proofs.SettledHot.{loads_are_reads, bytes_are}
use Rattle.cb_mutate.proofs.Settling.{touches_at}
use Rattle.cb_mutate.proofs.reading.read_pinned.Goals as goal

pub returns : goal.returns
returns g c =
    let h = c.args.h.n in let x = c.version-version.result in
    let l = c.load_into.ensures in let f = c.unpack-fields.ensures.fields in record {
      events = Told h x ∷ l.events;
      ran = g.met.D.Desk.more _ _ _ _ _ c.version-version.ensures l.ran;
      reads = (refl, loads_are_reads h l.events l.loads);
      touches = (refl, touches_at h c.args.word c.unpack-fields.result f l.events (l.touches h));
      shown = (
        x,
        l.words,
        inr (refl, refl),
        l.count ∙ ap (λ (p : PtrWord). words_for p.len) f,
        subst (λ (p : PtrWord). AreLoaded p.place l.words l.events) f l.loaded,
        bytes_are refl (subst (λ (p : PtrWord). c.load_into.new.room ≡ bytes_in l.words p.len) f
            l.bytes),
      );
    }

pub version-version-requires : goal.version-version-requires
version-version-requires g c = c.requires.handle

pub load_into-requires-clause-config : goal.load_into-requires-clause-config
load_into-requires-clause-config g c = subst IsAccepted (sym (g.met.D.Desk.stays _ _ _ c.version-version.ensures)) c.requires.config
