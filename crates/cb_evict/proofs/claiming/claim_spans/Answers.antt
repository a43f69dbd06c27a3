use Rattle.std.proofs.Common.{◌≡◌, ℕ, ◌<◌, List, [], ◌++◌, length, sym, ap, subst, arith, rules, inl, inr, vec_len}
use Rattle.std.proofs.lemmas.List.{drop_all}
use Rattle.cb_types.specs.declared.config.Config.{Config}
use Rattle.cb_world.specs.declared.leaving.Former.{Former}
use Rattle.cb_world.specs.declared.access.Access.{Access}
use Rattle.cb_world.specs.declared.shown.Shown.{Shown}
use Rattle.cb_world.specs.Played.{played}
use Rattle.cb_evict.specs.Candidates.{AreUnique}
use Rattle.cb_evict.proofs.Claims.{claims_nothing}
use Rattle.cb_evict.proofs.Trying.{Tried, tried_none, tried_more, tried_passed, all_tried}
use Rattle.cb_evict.proofs.CallParts.{joins}
use Rattle.cb_evict.proofs.claiming.claim_spans.Goals as goal

pub loop-frame-init : goal.loop-frame-init
loop-frame-init g c = let runs = λ (fs : List Access). g.D.Desk.run c.args.desk.now fs c.args.desk.now in
    let shows = λ (s : Shown). g.D.Desk.shows c.args.desk.now s in
    let spans = c.args.spans.now in let loose = c.args.loose.now in (
      [],
      subst (λ (l : List ℕ). Tried runs shows spans loose c.args.pages 0 [] l c.args.formers.now.items)
          (sym c.requires.empty.0)
          (subst (λ (l : List Former). Tried runs shows spans loose c.args.pages 0 [] [] l)
          (sym c.requires.empty.1) (tried_none runs shows spans loose c.args.pages (g.met.D.Desk.none _)
          (λ far s a sound. claims_nothing far s [] tt sound))),
      let e = ap (λ (l : List ℕ). length l) c.requires.empty.0 in omega (arith, e),
      c.requires.room.0,
      c.requires.room.1,
      let e = ap (λ (l : List Former). length l) c.requires.empty.1 in omega (arith, e),
      omega arith,
      omega arith,
    )

pub claim_frame-requires-clause-enough : goal.claim_frame-requires-clause-enough
claim_frame-requires-clause-enough g c =
    let inv = c.loop-frame.invariant in
    let few : length c.loop-frame.frames.items < c.args.k = search rules in
    let len : vec_len c.loop-frame.formers ≡ length c.loop-frame.formers.items = search rules in
    omega (arith, few, len, inv.4, inv.5)

pub claim_frame-requires-clause-unique : goal.claim_frame-requires-clause-unique
claim_frame-requires-clause-unique g c =
    let inv = c.loop-frame.invariant in
    subst (λ (n : Config). AreUnique c.args.spans.now n.handles)
    (sym (g.met.D.Desk.stays _ _ inv.0 inv.1.gathers.ran)) c.requires.unique

pub claim_frame-requires-clause-sound : goal.claim_frame-requires-clause-sound
claim_frame-requires-clause-sound g c =
    let inv = c.loop-frame.invariant in let had = c.requires.sound in (
      played inv.0 had.0,
      (g.met.D.Desk.follows _ _ inv.0 had.0 inv.1.gathers.ran had.1).1,
      (had.2.0, (inv.1.gathers.claims had.2.0 had.0 had.1 had.2.1).1),
    )

pub loop-frame-preserved : goal.loop-frame-preserved
loop-frame-preserved g c =
    let inv = c.loop-frame.invariant in let x = c.claim_frame.ensures.claims in
    let few : length c.loop-frame.frames.items < c.args.k = search rules in (
      inv.0 ++ x.part.events,
      tried_more _ _ _ _ _ c.args.spans.now _ c.args.loose.now c.args.pages c.loop-frame.frame-index
          inv.0 c.loop-frame.frames.items c.claim_frame.new.frames.items c.loop-frame.formers.items
          c.claim_frame.new.formers.items inv.1 (search rules) x c.requires.unique c.requires.apart
          c.loop-frame-test.true
          (joins (λ es fs a b. g.met.D.Desk.more _ _ _ _ _ a b)
          (λ es s ran a. (g.met.D.Desk.follows _ _ es s ran a).1)),
      omega (arith, few, c.claim_frame.ensures.count),
      omega (arith, inv.3, c.claim_frame.ensures.room),
      omega (arith, inv.4, c.claim_frame.ensures.capacity),
      omega (arith, inv.5, c.claim_frame.ensures.more),
      omega (arith, inv.6, c.claim_frame.ensures.room),
      omega (arith, inv.7, c.claim_frame.ensures.capacity),
    )

pub returns-then-len-k-clause-claims : goal.returns-then-len-k-clause-claims
returns-then-len-k-clause-claims g c =
    let inv = c.loop-frame.invariant in
    all_tried _ _ c.args.spans.now c.args.loose.now c.args.pages c.args.k c.loop-frame.frame-index
    inv.0 c.loop-frame.frames.items c.loop-frame.formers.items inv.1 inv.2 (inl (search rules))

pub returns-clause-claims : goal.returns-clause-claims
returns-clause-claims g c =
    let inv = c.loop-frame.invariant in
    all_tried _ _ c.args.spans.now c.args.loose.now c.args.pages c.args.k c.loop-frame.frame-index
    inv.0 c.loop-frame.frames.items c.loop-frame.formers.items inv.1 inv.2
    (inr (drop_all c.loop-frame.frame-index c.args.loose.now (search rules)))

pub returns-then-len-k-clause-room : goal.returns-then-len-k-clause-room
returns-then-len-k-clause-room g c =
    let inv = c.loop-frame.invariant in (inv.6, inv.7)

pub returns-clause-room : goal.returns-clause-room
returns-clause-room g c = let inv = c.loop-frame.invariant in (inv.6, inv.7)

pub has_pages-requires : goal.has_pages-requires
has_pages-requires g c = record {
  there = let x = c.requires.there c.loop-frame.frame-index 0 c.loop-frame-test.true in (x.0, x.1);
}

pub loop-frame-preserved-then-not-has_pages : goal.loop-frame-preserved-then-not-has_pages
loop-frame-preserved-then-not-has_pages g c =
    let inv = c.loop-frame.invariant in (
      inv.0,
      tried_passed _ _ c.args.spans.now c.args.loose.now c.args.pages c.loop-frame.frame-index inv.0
          c.loop-frame.frames.items c.loop-frame.formers.items inv.1 c.loop-frame-test.true
          (search rules),
      inv.2,
      inv.3,
      inv.4,
      inv.5,
      inv.6,
      inv.7,
    )
