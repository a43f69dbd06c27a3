use Rattle.cb_types.specs.Config.{IsAccepted}
use Rattle.cb_types.specs.declared.config.Config.{Config}
use Rattle.std.proofs.Common.{ℕ, ◌<◌, List, [], ◌++◌, sym, refl, subst}
use Rattle.cb_ptr.specs.declared.word.State.{State}
use Rattle.cb_ptr.specs.Word.{state_of, len_of, place_of}
use Rattle.cb_world.specs.declared.access.Access.{Access}
use Rattle.cb_world.specs.declared.shown.Shown.{Shown}
use Rattle.cb_world.specs.Played.{played}
use Rattle.cb_world.specs.Sound.{Sound}
use Rattle.cb_world.proofs.Laws.{claim_after, after_claim, claim_found, claim_taken, claim_first, claim_all_allowed, look_after, look_found, look_first, look_allowed, look_sound, look_still, claim_touches, claim_settles_last, look_touches, look_settles_last}
use Rattle.cb_mutate.specs.Answered.{AnsweredAs}
use Rattle.cb_mutate.specs.WriteRule.{WriteHere}
use Rattle.cb_mutate.specs.WriteEnds.{WriteEnds}
use Rattle.cb_mutate.proofs.FarFreed.{found_far}
use Rattle.cb_mutate.proofs.FarSeen.{write_far}
use Rattle.cb_mutate.proofs.WriteSound.{write_done, write_before, refused_effect}
use Rattle.cb_mutate.proofs.writing.written.Goals as goal

pub write_claimed-requires-clause-claimed : goal.write_claimed-requires-clause-claimed
write_claimed-requires-clause-claimed g c =
    let h = c.args.h.n in let w = c.in-Claimed.word in let got = c.in-Claimed.ensures in
    let tried = got.2 in let v = tried.1 in let words = tried.2 in
    let first = claim_after tried.0 h w v words in
    let had = c.requires.sound in let s = had.0 in
    let ran = subst (λ (l : List Access). g.D.Desk.run c.args.desk.now l c.try_claim.new.desk)
    tried.3 got.1 in
    let follows = g.met.D.Desk.follows _ _ first s ran had.1 in
    let sized = g.met.D.Desk.sized _ s had.1 in (
      played first s,
      follows.1,
      (
        v,
        words,
        (after_claim c.args.far.now s tried.0 [] h w v words had.2.here
            (subst (λ (n : ℕ). h < n) (sym sized.0) c.requires.handle)
            (subst (λ (n : ℕ). h < n) (sym sized.2) c.requires.handle)
            tried.4 tried.5 follows.0 (λ t. refl)).claimed,
      ),
    )

pub returns-in-Claimed-clause-write : goal.returns-in-Claimed-clause-write
returns-in-Claimed-clause-write g c =
    let h = c.args.h.n in let w = c.in-Claimed.word in let got = c.in-Claimed.ensures in
    let tried = got.2 in let before = tried.0 in let v = tried.1 in let words = tried.2 in
    let first = claim_after before h w v words in
    let ran = subst (λ (l : List Access). g.D.Desk.run c.args.desk.now l c.try_claim.new.desk)
    tried.3 got.1 in
    let rest = c.write_claimed.ensures.ends in let done = rest.events in
    let r = c.write_claimed.result in
    let found = claim_found before done h w v words rest.no_look in
    let taken = claim_taken before done h w v words tried.4 in
    let after = λ (s : Shown) (a : g.D.Desk.shows c.args.desk.now s)
    (sound : Sound s c.args.far.now).
    let follows = g.met.D.Desk.follows _ _ first s ran a in
    let sized = g.met.D.Desk.sized _ s a in
    after_claim c.args.far.now s before done h w v words sound.here
    (subst (λ (n : ℕ). h < n) (sym sized.0) c.requires.handle)
    (subst (λ (n : ℕ). h < n) (sym sized.2) c.requires.handle)
    tried.4 tried.5 follows.0 rest.quiet in
    let ended = λ (s : Shown) (a : g.D.Desk.shows c.args.desk.now s)
    (sound : Sound s c.args.far.now).
    let follows = g.met.D.Desk.follows _ _ first s ran a in
    let x = after s a sound in
    write_done c.args.far.now s (played (first ++ done) s) first done h w v c.args.at words
    c.args.bytes.now r sound x tried.5 found taken
    (subst (λ (t : Shown). WriteEnds h w c.args.at c.args.bytes.now r done (played first s)
    v words t)
    (sym x.at_end) (rest.ends_so (played first s) v words (follows.1, x.claimed))) in
    let had = c.requires.sound in
    record {
      events = first ++ done;
      ran = g.met.D.Desk.more _ _ _ _ _ ran rest.ran;
      looks_first = claim_first before done h w v words tried.4 rest.no_look rest.looks_first;
      rule = record {
        word = w;
        found = found;
        touches = claim_touches h w v (place_of w) (len_of w) words before done tried.4 rest.touches;
        settles_last = claim_settles_last h w v words before done tried.4 rest.settles_last;
        answer = subst (λ (q : State). AnsweredAs q
            (WriteHere h c.args.at c.args.bytes.now (first ++ done) r) w h (first ++ done) r)
            (sym tried.5.0) (ended had.0 had.1 had.2).rule;
      };
      allowed = λ s k. claim_all_allowed before done h w v words s tried.4
          (rest.allowed (played first s) v words
          ((g.met.D.Desk.follows _ _ first s ran k.0).1, (after s k.0 k.1).claimed));
      sound_after = λ s k. (ended s k.0 k.1).sound;
      effect = λ s k. (ended s k.0 k.1).effect;
    }

pub returns-in-Left-clause-write : goal.returns-in-Left-clause-write
returns-in-Left-clause-write g c =
    let h = c.args.h.n in let w = c.in-Left.word in let got = c.in-Left.ensures in
    let tried = got.2 in let before = tried.0 in
    let first = look_after before h w in
    let ran = subst (λ (l : List Access). g.D.Desk.run c.args.desk.now l c.try_claim.new.desk)
    tried.1 got.1 in
    let rest = c.refuse_write.ensures in let r = c.refuse_write.result in
    record {
      events = first ++ rest.0;
      ran = g.met.D.Desk.more _ _ _ _ _ ran rest.1;
      looks_first = look_first before rest.0 h w tried.2 rest.2;
      rule = record {
        word = w;
        found = look_found before rest.0 h w rest.2;
        touches = look_touches h w (place_of w) (len_of w) before rest.0 tried.2 rest.3;
        settles_last = look_settles_last h w before rest.0 tried.2 rest.2;
        answer = write_before (state_of w) h w c.args.at c.args.bytes.now first rest.0 r rest.4;
      };
      allowed = λ s k. look_allowed before rest.0 h w s tried.2 rest.2;
      sound_after = λ s k. look_sound c.args.far.now s before rest.0 h w k.1 tried.2 rest.2;
      effect = λ s k. refused_effect (state_of w) h w c.args.at c.args.bytes.now rest.0
          (first ++ rest.0) s (played (first ++ rest.0) s) r rest.2 rest.4
          (look_still s before rest.0 h w tried.2 rest.2);
    }

pub returns-in-Left-clause-away : goal.returns-in-Left-clause-away
returns-in-Left-clause-away g c = λ e s shown.
    let h = c.args.h.n in let w = c.in-Left.word in let got = c.in-Left.ensures in
    let tried = got.2 in let before = tried.0 in
    let ran = subst (λ (l : List Access). g.D.Desk.run c.args.desk.now l c.try_claim.new.desk)
    tried.1 got.1 in
    let rest = c.refuse_write.ensures in
    found_far s before h w tried.2 (g.met.D.Desk.follows _ _ (look_after before h w) s ran shown).0
    (write_far (state_of w) w h c.args.at c.args.bytes.now rest.0 c.refuse_write.result rest.4 e)

pub try_claim-requires-clause-handle : goal.try_claim-requires-clause-handle
try_claim-requires-clause-handle g c = c.requires.handle

pub try_claim-requires-clause-shown : goal.try_claim-requires-clause-shown
try_claim-requires-clause-shown g c = (c.requires.sound.0, c.requires.sound.1)

pub write_claimed-requires-clause-handle : goal.write_claimed-requires-clause-handle
write_claimed-requires-clause-handle g c =
    subst (λ (q : Config). c.args.h.n < q.handles)
    (sym (g.met.D.Desk.stays _ _ _ c.in-Claimed.ensures.1)) c.requires.handle

pub write_claimed-requires-clause-config : goal.write_claimed-requires-clause-config
write_claimed-requires-clause-config g c = subst IsAccepted (sym (g.met.D.Desk.stays _ _ _ c.in-Claimed.ensures.1)) c.requires.config

pub refuse_write-requires-clause-handle : goal.refuse_write-requires-clause-handle
refuse_write-requires-clause-handle g c =
    subst (λ (q : Config). c.args.h.n < q.handles)
    (sym (g.met.D.Desk.stays _ _ _ c.in-Left.ensures.1)) c.requires.handle

pub refuse_write-requires-clause-left : goal.refuse_write-requires-clause-left
refuse_write-requires-clause-left g c = c.in-Left.ensures.2.3
