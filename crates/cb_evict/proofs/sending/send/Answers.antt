use Rattle.std.proofs.Common.{◌+◌, ◌<◌, List, [], ◌∷◌, ◌++◌, take, get_or, refl, sym, ap, ◌∙◌, subst, rules}
use Rattle.std.proofs.lemmas.List.{take_all}
use Rattle.cb_ptr.specs.Word.{len_of}
use Rattle.cb_ptr.specs.Steps.{IsFarWord}
use Rattle.cb_types.specs.declared.config.Config.{Config}
use Rattle.cb_world.specs.declared.entry.Entry.{Entry}
use Rattle.cb_world.specs.declared.leaving.Former.{Former}
use Rattle.cb_world.specs.declared.access.Access.TheVariants.{Settled}
use Rattle.cb_world.specs.declared.shown.Shown.{Shown}
use Rattle.cb_world.specs.Played.{played}
use Rattle.cb_world.specs.Written.{written_by}
use Rattle.cb_world.proofs.Laws.{played_append, written_append, allowed_append}
use Rattle.cb_evict.specs.Claiming.{IsOne}
use Rattle.cb_evict.specs.Sending.{AreSent, IsSending, IsSent}
use Rattle.cb_evict.proofs.Events.{touches_append, no_look_append, first_append}
use Rattle.cb_evict.proofs.Claims.{no_former, former_at}
use Rattle.cb_evict.proofs.ChangedObjects.{changed_none}
use Rattle.cb_evict.proofs.Sends.{may_send, sent_written, still_told, sent_more}
use Rattle.cb_evict.proofs.sending.send.Goals as goal

pub loop-former-init : goal.loop-former-init
loop-former-init g c = (
  [],
  g.met.D.Desk.none _,
  tt,
  (λ k. tt),
  tt,
  λ s a told.
      record { sent = changed_none s (IsSent s s); allowed = tt; nothing = λ old. refl },
)

pub settle-requires-clause-handle : goal.settle-requires-clause-handle
settle-requires-clause-handle g c =
    let inv = c.loop-former.invariant in
    subst (λ (n : Config). (get_or c.args.formers.now c.loop-former.former-index no_former).handle < n.handles)
    (sym (g.met.D.Desk.stays _ _ inv.0 inv.1))
    (c.requires.handles c.loop-former.former-index no_former c.loop-former-test.true)

pub settle-requires-clause-may : goal.settle-requires-clause-may
settle-requires-clause-may g c =
    let inv = c.loop-former.invariant in let had = c.requires.told in let s = had.0 in
    let fs = c.args.formers.now in let i = c.loop-former.former-index in
    let so = inv.5 s had.1 had.2 in
    let x = still_told s (played inv.0 s) fs i no_former c.requires.apart c.loop-former-test.true had.2 so.sent in (
      played inv.0 s,
      (g.met.D.Desk.follows _ _ inv.0 s inv.1 had.1).1,
      may_send (played inv.0 s) (get_or fs i no_former) c.far_word.result x (search rules),
    )

pub loop-former-preserved : goal.loop-former-preserved
loop-former-preserved g c =
    let inv = c.loop-former.invariant in let es = inv.0 in
    let fs = c.args.formers.now in let i = c.loop-former.former-index in
    let f = get_or fs i no_former in
    let last = Settled f.handle c.far_word.result ∷ [] in
    let one : IsOne fs f.handle = (f, (i, c.loop-former-test.true, former_at fs i c.loop-former-test.true), refl) in
    let far : IsFarWord (len_of f.word) c.far_word.result = search rules in (
      es ++ last,
      g.met.D.Desk.more _ _ _ _ _ inv.1 c.settle.ensures,
      touches_append (IsOne fs) (λ p. ⊥) es last inv.2 (one, tt),
      λ k. no_look_append k es last (inv.3 k) ((λ w e. e), tt),
      first_append (IsOne fs) (λ p. ⊥) es last inv.2 inv.4 (tt, tt) (λ h o. ((λ w e. e), tt)),
      λ s a told.
          let so = inv.5 s a told in
          let x = still_told s (played es s) fs i no_former c.requires.apart c.loop-former-test.true told so.sent in record {
            sent = subst (λ (q : Shown). AreSent s q (take (i + 1) fs)) (sym (played_append es last s))
                (sent_more s (played es s) fs i c.far_word.result no_former c.requires.apart
                c.loop-former-test.true told so.sent far);
            allowed = allowed_append es last s so.allowed (may_send (played es s) f c.far_word.result x far, tt);
            nothing = λ old. written_append es last s old
                ∙ ap (λ (l : List Entry). written_by last (played es s) l) (so.nothing old)
                ∙ sent_written (played es s) f.handle c.far_word.result (len_of f.word) far old;
          },
    )

pub returns : goal.returns
returns g c =
    let inv = c.loop-former.invariant in
    let all = take_all c.loop-former.former-index c.args.formers.now (search rules) in record {
      events = inv.0;
      ran = inv.1;
      touches = inv.2;
      first = inv.4;
      done = (
        inv.3,
        λ s a told.
            subst (λ (l : List Former). IsSending inv.0 s l) all (inv.5 s a told),
      );
    }
