use Rattle.std.proofs.lemmas.Bool.{false≢true}
use Rattle.std.proofs.lemmas.List.{length-append, take_at}
use Rattle.std.proofs.Common.{◌≡◌, ◌<◌, ℕ, List, true, false, length, get_or, take, All, refl, sym, ap, ◌∙◌, subst, arith, rules, inl, inr}
use Rattle.cb_member.specs.declared.names.Code.{Code}
use Rattle.cb_world.specs.declared.leaving.Former.{Former}
use Rattle.cb_world.specs.Played.{played}
use Rattle.cb_world.specs.FarState.{FarState, span_in}
use Rattle.cb_evict.specs.Candidates.{AreUnique}
use Rattle.cb_evict.specs.Claims.{AreApart, IsHeldAt}
use Rattle.cb_evict.specs.Claiming.{GivesBack}
use Rattle.cb_evict.specs.Lengths.{count_of}
use Rattle.cb_evict.proofs.Composed.{are_taken, back_tried, claims_as, claims_none, claims_tried, fewer_left, nothing_lost}
use Rattle.cb_evict.proofs.Ending.{handles_all}
use Rattle.cb_evict.proofs.LooseLengths.{filter_all}
use Rattle.cb_evict.proofs.Standing.{are_unique, ready_frame}
use Rattle.cb_evict.proofs.CallParts.{joins}
use Rattle.cb_evict.proofs.taking.claim_length.Goals as goal

pub claim_spans-requires-clause-there : goal.claim_spans-requires-clause-there
claim_spans-requires-clause-there g c = λ k d l.
    let x = ready_frame c.args.far.now c.requires.sound.0 _ c.requires.sound.2.here
    (c.requires.among k d l) in (
      x.span,
      ap (λ (far : FarState). span_in far.spans (get_or c.args.loose.now k d)) c.far.view_is ∙ x.there,
      x.valid,
    )

pub claim_spans-requires-clause-unique : goal.claim_spans-requires-clause-unique
claim_spans-requires-clause-unique g c =
    let sized = g.met.D.Desk.sized _ c.requires.sound.0 c.requires.sound.1 in
    subst (λ (far : FarState). AreUnique far.spans (g.D.Desk.settings c.args.desk.now).handles)
    (sym c.far.view_is)
    (are_unique c.args.far.now c.requires.sound.0 _ c.requires.sound.2.here sized.0)

pub claim_spans-requires-clause-sound : goal.claim_spans-requires-clause-sound
claim_spans-requires-clause-sound g c =
    (c.requires.sound.0, c.requires.sound.1, (c.args.far.now, c.requires.sound.2.here))

pub claim_spans-requires-clause-apart : goal.claim_spans-requires-clause-apart
claim_spans-requires-clause-apart g c = c.requires.apart

pub give_back-requires-clause-handles : goal.give_back-requires-clause-handles
give_back-requires-clause-handles g c =
    let s = c.requires.sound.0 in let x = c.claim_spans.ensures.claims.part in
    let a = x.done.1 c.args.far.now s c.requires.sound.1 c.requires.sound.2.here in
    let sized = g.met.D.Desk.sized _ (played x.events s)
    (g.met.D.Desk.follows _ _ x.events s x.ran c.requires.sound.1).1 in
    subst (λ (l : List Former). All (λ f. f.handle < (g.D.Desk.settings c.claim_spans.new.desk).handles) l)
    (sym c.deref.ensures.value) (handles_all x.events s (played x.events s) _ _ a.0 sized.0)

pub give_back-requires-clause-apart : goal.give_back-requires-clause-apart
give_back-requires-clause-apart g c =
    subst (λ (l : List Former). AreApart l) (sym c.deref.ensures.value) c.claim_spans.ensures.claims.each_once

pub give_back-requires-clause-held : goal.give_back-requires-clause-held
give_back-requires-clause-held g c =
    let s = c.requires.sound.0 in let x = c.claim_spans.ensures.claims.part in
    let a = x.done.1 c.args.far.now s c.requires.sound.1 c.requires.sound.2.here in (
      played x.events s,
      (g.met.D.Desk.follows _ _ x.events s x.ran c.requires.sound.1).1,
      (
        c.args.far.now,
        a.1,
        subst (λ (l : List Former). All (IsHeldAt (played x.events s)) l) (sym c.deref.ensures.value)
            (λ k d l. (a.0.taken k d l).at),
      ),
    )

pub claim_spans-requires-clause-empty : goal.claim_spans-requires-clause-empty
claim_spans-requires-clause-empty g c = c.requires.empty

pub claim_spans-requires-clause-room : goal.claim_spans-requires-clause-room
claim_spans-requires-clause-room g c =
    let k = ap (λ (n : Code). n.k) c.in_force-k.ensures in
    let r = c.requires.room in (omega (arith, k, r.0), omega (arith, k, r.1))

pub returns-then-there-k-clause-claims : goal.returns-then-there-k-clause-claims
returns-then-there-k-clause-claims g c =
    let far = c.args.far.now in let loose = c.args.loose.now in
    let k = ap (λ (n : Code). n.k) c.in_force-k.ensures in
    record {
      lost = λ f. false;
      long = λ f e. absurd (false≢true e);
      tries = claims_none _ c.requires.empty.1
          (nothing_lost far loose c.args.pages (g.met.D.Desk.none _));
      came = inl (record {
        few = omega (arith, k, c.if-there-k.true);
        counted = c.requires.there ∙ ap (λ (l : List ℕ). count_of far.spans c.args.pages l)
            (sym (filter_all (λ f. true) loose (λ f d. refl)));
        none = c.requires.empty;
      });
    }

pub returns-then-claimed-k-clause-claims : goal.returns-then-claimed-k-clause-claims
returns-then-claimed-k-clause-claims g c =
    let far = c.args.far.now in let loose = c.args.loose.now in
    let x = claims_as _ _ _ _ loose c.args.pages c.in_force-k.result.k _ _
    (ap (λ (f : FarState). f.spans) c.far.view_is) c.claim_spans.ensures.claims in
    let k = ap (λ (n : Code). n.k) c.in_force-k.ensures in
    let few : length c.claim_spans.new.frames.items < c.in_force-k.result.k =
    omega (arith, c.if-claimed-k.true, c.len-claimed.ensures, c.claim_spans.new.frames.ok) in
    let left = ap (λ (l : List ℕ). length l) (fewer_left far x few) in record {
      lost = x.lost;
      long = x.long;
      tries = claims_none _ (search rules) (back_tried far (joins (λ es fs a b. g.met.D.Desk.more _ _ _ _ _ a b)
          (λ es s ran a. (g.met.D.Desk.follows _ _ es s ran a).1)) x
          (subst (λ (l : List Former). GivesBack
          (λ es. g.D.Desk.run c.claim_spans.new.desk es c.give_back.new.desk)
          (λ s. g.D.Desk.shows c.claim_spans.new.desk s) l) c.deref.ensures.value c.give_back.ensures));
      came = inl (record {
        few = omega (arith, few, k, c.len-claimed.ensures, c.claim_spans.new.frames.ok);
        counted = omega (arith, left, c.len-claimed.ensures, c.claim_spans.new.frames.ok);
        none = (search rules, search rules);
      });
    }

pub returns-clause-claims : goal.returns-clause-claims
returns-clause-claims g c =
    let far = c.args.far.now in let loose = c.args.loose.now in
    let frames = c.claim_spans.new.frames.items in
    let x = claims_as _ _ _ _ loose c.args.pages c.in_force-k.result.k _ _
    (ap (λ (f : FarState). f.spans) c.far.view_is) c.claim_spans.ensures.claims in
    let k = ap (λ (n : Code). n.k) c.in_force-k.ensures in
    let count : length frames ≡ c.args.far.now.code.k =
    omega (arith, c.if-claimed-k.false, c.len-claimed.ensures, x.few, c.claim_spans.new.frames.ok, k) in
    let all = ap (λ (l : List ℕ). length l) x.chosen in
    let more = length-append frames x.rest in record {
      lost = x.lost;
      long = x.long;
      tries = claims_tried far x;
      came = inr (record {
        all = omega (arith, c.len-claimed.ensures, count, c.claim_spans.new.frames.ok);
        enough = omega (arith, all, more, count);
        first = sym (ap (take far.code.k) x.chosen ∙ take_at frames x.rest far.code.k count);
        taken = are_taken far loose _ _ _ _ c.args.pages c.in_force-k.result.k x c.requires.among count;
      });
    }

pub returns-then-there-k-clause-room : goal.returns-then-there-k-clause-room
returns-then-there-k-clause-room g c = (omega arith, omega arith)
