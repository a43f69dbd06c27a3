use Rattle.cb_types.specs.declared.config.Config.{Config}
use Rattle.std.proofs.Common.{ℕ, ◌+◌, ◌<◌, List, [], ◌∷◌, ◌++◌, sym, refl, ap, ◌∙◌, subst, inl, inr}
use Rattle.cb_ptr.specs.declared.word.State.{State}
use Rattle.cb_ptr.specs.Word.{state_of, len_of, place_of}
use Rattle.cb_world.specs.declared.access.Access.{Access}
use Rattle.cb_world.specs.declared.access.Access.TheVariants.{Told}
use Rattle.cb_world.specs.declared.shown.Shown.{Shown}
use Rattle.cb_world.specs.Played.{played}
use Rattle.cb_world.specs.Sound.{Sound}
use Rattle.cb_world.proofs.Laws.{claim_after, after_claim, claim_found, claim_taken, claim_first, claim_all_allowed, look_after, look_found, look_first, look_allowed, look_sound, look_still, claim_touches, claim_settles_last, look_touches, look_settles_last, looks_played}
use Rattle.cb_mutate.specs.FreeRule.{FreeAs}
use Rattle.cb_mutate.specs.FreeEnds.{FreeEnds}
use Rattle.cb_mutate.proofs.FreeSound.{slot_here, slot_at, free_done, free_before, free_refused}
use Rattle.cb_mutate.proofs.FarFreed.{far_at, far_events, far_freed, far_freed_done, far_worn, far_worn_done, found_far, its_home, no_more, one_look_more}
use Rattle.cb_mutate.proofs.freeing.freed.Goals as goal

pub free_claimed-requires-clause-claimed : goal.free_claimed-requires-clause-claimed
free_claimed-requires-clause-claimed g c =
    let h = c.args.h.n in let w = c.in-Claimed.word in let got = c.in-Claimed.ensures in
    let tried = got.2 in let v = tried.1 in let words = tried.2 in
    let first = claim_after tried.0 h w v words in
    let had = c.requires.sound in let s = had.0 in
    let ran = subst (λ (l : List Access). g.D.Desk.run c.args.desk.now l c.try_claim.new.desk)
    tried.3 got.1 in
    let follows = g.met.D.Desk.follows _ _ first s ran had.1 in
    let sized = g.met.D.Desk.sized _ s had.1 in (
      played first s,
      follows.1,
      (
        v,
        words,
        (after_claim c.args.far.now s tried.0 [] h w v words had.2.here
            (subst (λ (n : ℕ). h < n) (sym sized.0) c.requires.handle)
            (subst (λ (n : ℕ). h < n) (sym sized.2) c.requires.handle)
            tried.4 tried.5 follows.0 (λ t. refl)).claimed,
      ),
    )

pub free_claimed-requires-clause-slot : goal.free_claimed-requires-clause-slot
free_claimed-requires-clause-slot g c =
    let h = c.args.h.n in let w = c.in-Claimed.word in let got = c.in-Claimed.ensures in
    let tried = got.2 in let v = tried.1 in let words = tried.2 in
    let first = claim_after tried.0 h w v words in
    let had = c.requires.sound in let s = had.0 in
    let ran = subst (λ (l : List Access). g.D.Desk.run c.args.desk.now l c.try_claim.new.desk)
    tried.3 got.1 in
    let follows = g.met.D.Desk.follows _ _ first s ran had.1 in
    let sized = g.met.D.Desk.sized _ s had.1 in
    let x = after_claim c.args.far.now s tried.0 [] h w v words had.2.here
    (subst (λ (n : ℕ). h < n) (sym sized.0) c.requires.handle)
    (subst (λ (n : ℕ). h < n) (sym sized.2) c.requires.handle)
    tried.4 tried.5 follows.0 (λ t. refl) in
    let slot = slot_here c.args.far.now s h (len_of w) (place_of w) had.2 x.here in (
      slot.frame,
      slot.slot,
      slot.span,
      slot_at c.args.far.now s h (len_of w) (place_of w) had.2 slot,
    )

pub returns-in-Claimed : goal.returns-in-Claimed
returns-in-Claimed g c =
    let h = c.args.h.n in let w = c.in-Claimed.word in let got = c.in-Claimed.ensures in
    let tried = got.2 in let before = tried.0 in let v = tried.1 in let words = tried.2 in
    let first = claim_after before h w v words in
    let ran = subst (λ (l : List Access). g.D.Desk.run c.args.desk.now l c.try_claim.new.desk)
    tried.3 got.1 in
    let rest = c.free_claimed.ensures.ends in let done = rest.events in
    let r = c.free_claimed.result in
    let found = claim_found before done h w v words rest.no_look in
    let taken = claim_taken before done h w v words tried.4 in
    let after = λ (s : Shown) (a : g.D.Desk.shows c.args.desk.now s)
    (sound : Sound s c.args.far.now).
    let follows = g.met.D.Desk.follows _ _ first s ran a in
    let sized = g.met.D.Desk.sized _ s a in
    after_claim c.args.far.now s before done h w v words sound.here
    (subst (λ (n : ℕ). h < n) (sym sized.0) c.requires.handle)
    (subst (λ (n : ℕ). h < n) (sym sized.2) c.requires.handle)
    tried.4 tried.5 follows.0 rest.quiet in
    let ended = λ (s : Shown) (a : g.D.Desk.shows c.args.desk.now s)
    (sound : Sound s c.args.far.now).
    let follows = g.met.D.Desk.follows _ _ first s ran a in
    let sized = g.met.D.Desk.sized _ s a in
    let x = after s a sound in
    let slot = slot_here c.args.far.now s h (len_of w) (place_of w) sound x.here in
    free_done c.args.far.now c.free_claimed.new.far s (played (first ++ done) s) first done h w
    v words r sound slot x tried.5 taken
    (subst (λ (n : ℕ). h < n) (sym sized.0) c.requires.handle)
    (subst (λ (n : ℕ). h < n) (sym sized.2) c.requires.handle)
    c.free_claimed.ensures.stays
    (λ n e. c.free_claimed.ensures.released n slot.frame slot.slot slot.span e
    (slot_at c.args.far.now s h (len_of w) (place_of w) sound slot))
    (subst (λ (t : Shown). FreeEnds h w r done (played first s) v words t)
    (sym x.at_end) (rest.ends_so (played first s) v words (follows.1, x.claimed))) in
    let had = c.requires.sound in
    record {
      free = record {
        events = first ++ done;
        ran = g.met.D.Desk.more _ _ _ _ _ ran rest.ran;
        looks_first = claim_first before done h w v words tried.4 rest.no_look rest.looks_first;
        rule = record {
          reply = record {
            word = w;
            found = found;
            touches = claim_touches h w v (place_of w) (len_of w) words before done tried.4
                rest.touches;
            settles_last = claim_settles_last h w v words before done tried.4 rest.settles_last;
            answer = subst (λ (q : State). FreeAs q w h (first ++ done) r) (sym tried.5.0)
                (ended had.0 had.1 had.2).rule;
          };
          state = (ended had.0 had.1 had.2).state;
        };
        allowed = λ s k. claim_all_allowed before done h w v words s tried.4
            (rest.allowed (played first s) v words
            ((g.met.D.Desk.follows _ _ first s ran k.0).1, (after s k.0 k.1).claimed));
        sound_after = λ s k. (ended s k.0 k.1).sound;
        effect = λ s k. (ended s k.0 k.1).effect;
      };
    }

pub free_far-requires-clause-away : goal.free_far-requires-clause-away
free_far-requires-clause-away g c =
    let h = c.args.h.n in let w = c.in-Left.word in let got = c.in-Left.ensures in
    let tried = got.2 in let first = look_after tried.0 h w in
    let had = c.requires.sound in let s = had.0 in
    let ran = subst (λ (l : List Access). g.D.Desk.run c.args.desk.now l c.try_claim.new.desk)
    tried.1 got.1 in
    let follows = g.met.D.Desk.follows _ _ first s ran had.1 in
    let p = looks_played h first s (one_look_more h w tried.0 tried.2) in
    let away = found_far s tried.0 h w tried.2 follows.0 (c.is_far.ensures.far c.if-is_far.true) in (
      record s { hots = p.0 },
      subst (λ (t : Shown). g.D.Desk.shows c.try_claim.new.desk t) p.2 follows.1,
      subst (λ (t : Shown). Sound t c.args.far.now)
          (ap (λ (l : List Access). played l s) (no_more first) ∙ p.2)
          (look_sound c.args.far.now s tried.0 [] h w had.2 tried.2 tt),
      (away.0, away.1, away.2, away.3),
    )

pub returns-then-is_far : goal.returns-then-is_far
returns-then-is_far g c =
    let h = c.args.h.n in let w = c.in-Left.word in let got = c.in-Left.ensures in
    let tried = got.2 in let before = tried.0 in let far = c.args.far.now in
    let first = look_after before h w in
    let new = c.free_far.new.far in let r = c.free_far.result in
    let is_far = c.is_far.ensures.far c.if-is_far.true in
    let ran = subst (λ (l : List Access). g.D.Desk.run c.args.desk.now l c.try_claim.new.desk)
    tried.1 got.1 in
    let had = c.requires.sound in
    let frees = c.free_far.ensures.frees in let x = frees.0 in
    elim frees.1 [
      | inl z ↦
          let same = c.free_far.ensures.stays z.1 in
          let rule = far_worn far new before h w x r tried.2 is_far z.0 z.1 same in
          let done = λ (s : Shown) (sound : Sound s far).
          far_worn_done far new s before h w x r sound tried.2 z.1 same in
          record {
            free = record {
              events = first ++ Told h x ∷ [];
              ran = g.met.D.Desk.more _ _ _ _ _ ran z.2;
              looks_first = rule.looks_first;
              rule = record {
                reply = record {
                  word = w;
                  found = rule.found;
                  touches = rule.touches;
                  settles_last = rule.settles_last;
                  answer = rule.answer;
                };
                state = rule.state;
              };
              allowed = λ s k. (done s k.1).allowed;
              sound_after = λ s k. (done s k.1).sound;
              effect = λ s k. (done s k.1).effect;
            };
          }
      | inr z ↦
          let away = λ (s : Shown) (a : g.D.Desk.shows c.args.desk.now s) (sound : Sound s far).
          let follows = g.met.D.Desk.follows _ _ first s ran a in
          let told = g.met.D.Desk.follows _ _ (far_events h x) (played first s) z.2 follows.1 in
          far_at s far before h w x sound tried.2 follows.0 is_far told.0.0 in
          let left = λ (s : Shown) (a : g.D.Desk.shows c.args.desk.now s) (sound : Sound s far).
          let y = away s a sound in
          let k = its_home s far h y.0 x y.1 sound y.2 in
          c.free_far.ensures.removed (x + 1) k.home k.set z.1 k.lies in
          let mine = away had.0 had.1 had.2 in
          let k = its_home had.0 far h mine.0 x mine.1 had.2 mine.2 in
          let rule = far_freed far new before h w x r had.0 tried.2 is_far z.0 z.1 k
          (left had.0 had.1 had.2) in
          let done = λ (s : Shown) (a : g.D.Desk.shows c.args.desk.now s) (sound : Sound s far).
          let sized = g.met.D.Desk.sized _ s a in
          let y = away s a sound in
          far_freed_done far new s before h w y.0 x y.1 r sound tried.2 y.2
          (subst (λ (n : ℕ). h < n) (sym sized.0) c.requires.handle)
          (subst (λ (n : ℕ). h < n) (sym sized.2) c.requires.handle)
          z.1 (its_home s far h y.0 x y.1 sound y.2) (left s a sound) in
          record {
            free = record {
              events = first ++ far_events h x;
              ran = g.met.D.Desk.more _ _ _ _ _ ran z.2;
              looks_first = rule.looks_first;
              rule = record {
                reply = record {
                  word = w;
                  found = rule.found;
                  touches = rule.touches;
                  settles_last = rule.settles_last;
                  answer = rule.answer;
                };
                state = rule.state;
              };
              allowed = λ s k. (done s k.0 k.1).allowed;
              sound_after = λ s k. (done s k.0 k.1).sound;
              effect = λ s k. (done s k.0 k.1).effect;
            };
          }
    ]

pub returns-else-is_far : goal.returns-else-is_far
returns-else-is_far g c =
    let h = c.args.h.n in let w = c.in-Left.word in let got = c.in-Left.ensures in
    let tried = got.2 in let before = tried.0 in
    let first = look_after before h w in
    let ran = subst (λ (l : List Access). g.D.Desk.run c.args.desk.now l c.try_claim.new.desk)
    tried.1 got.1 in
    let rest = c.refuse_free.ensures in let r = c.refuse_free.result in
    let near = c.is_far.ensures.other c.if-is_far.false in
    let refused = λ (s : Shown). free_refused (state_of w) h w c.args.far.now rest.0
    (first ++ rest.0) s (played (first ++ rest.0) s) r near rest.2 rest.4
    (look_still s before rest.0 h w tried.2 rest.2) in
    record {
      free = record {
        events = first ++ rest.0;
        ran = g.met.D.Desk.more _ _ _ _ _ ran rest.1;
        looks_first = look_first before rest.0 h w tried.2 rest.2;
        rule = record {
          reply = record {
            word = w;
            found = look_found before rest.0 h w rest.2;
            touches = look_touches h w (place_of w) (len_of w) before rest.0 tried.2 rest.3;
            settles_last = look_settles_last h w before rest.0 tried.2 rest.2;
            answer = free_before (state_of w) h w first rest.0 r near rest.4;
          };
          state = (refused c.requires.sound.0).state;
        };
        allowed = λ s k. look_allowed before rest.0 h w s tried.2 rest.2;
        sound_after = λ s k. look_sound c.args.far.now s before rest.0 h w k.1 tried.2 rest.2;
        effect = λ s k. (refused s).effect;
      };
    }

pub try_claim-requires-clause-handle : goal.try_claim-requires-clause-handle
try_claim-requires-clause-handle g c = c.requires.handle

pub try_claim-requires-clause-shown : goal.try_claim-requires-clause-shown
try_claim-requires-clause-shown g c = (c.requires.sound.0, c.requires.sound.1)

pub free_claimed-requires-clause-handle : goal.free_claimed-requires-clause-handle
free_claimed-requires-clause-handle g c =
    subst (λ (q : Config). c.args.h.n < q.handles)
    (sym (g.met.D.Desk.stays _ _ _ c.in-Claimed.ensures.1)) c.requires.handle

pub refuse_free-requires-clause-handle : goal.refuse_free-requires-clause-handle
refuse_free-requires-clause-handle g c =
    subst (λ (q : Config). c.args.h.n < q.handles)
    (sym (g.met.D.Desk.stays _ _ _ c.in-Left.ensures.1)) c.requires.handle

pub refuse_free-requires-clause-left : goal.refuse_free-requires-clause-left
refuse_free-requires-clause-left g c = c.in-Left.ensures.2.3

pub free_far-requires-clause-handle : goal.free_far-requires-clause-handle
free_far-requires-clause-handle g c =
    subst (λ (q : Config). c.args.h.n < q.handles)
    (sym (g.met.D.Desk.stays _ _ _ c.in-Left.ensures.1)) c.requires.handle
