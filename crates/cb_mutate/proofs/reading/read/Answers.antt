use Rattle.std.proofs.Common.{ℕ, ◌*◌, ◌<◌, List, [], ◌∷◌, ◌++◌, refl, sym, subst}
use Rattle.cb_types.specs.declared.config.Config.{Config}
use Rattle.cb_ptr.specs.declared.word.State.{State}
use Rattle.cb_ptr.specs.Word.{state_of, len_of, place_of}
use Rattle.cb_world.specs.declared.access.Access.{Access}
use Rattle.cb_world.specs.declared.access.Access.TheVariants.{Looked}
use Rattle.cb_world.specs.declared.shown.Shown.{Shown}
use Rattle.cb_world.specs.Played.{played}
use Rattle.cb_world.specs.Performs.{Performs}
use Rattle.cb_world.specs.Sound.{Sound}
use Rattle.cb_world.specs.Grasped.{Grasps}
use Rattle.cb_world.proofs.Laws.{claim_after, after_claim, claim_found, claim_taken, claim_first, claim_all_allowed, look_after, look_found, look_first, look_allowed, look_sound, look_still, claim_touches, claim_settles_last, look_touches, look_settles_last}
use Rattle.cb_mutate.specs.Answered.{AnsweredAs}
use Rattle.cb_mutate.specs.Reaches.{grasp_of, room_of, HasReadRoom}
use Rattle.cb_mutate.specs.ReadRule.{ReadHere, ReadRule, ReadEffect}
use Rattle.cb_mutate.specs.ReadEnds.{ReadEnds, LiesInMemory}
use Rattle.cb_mutate.specs.declared.reaching.Reached.{Reached}
use Rattle.cb_mutate.proofs.FarFreed.{found_far}
use Rattle.cb_mutate.proofs.FarSeen.{read_far, bytes_not}
use Rattle.cb_mutate.proofs.ReadSound.{read_done, read_before, left_effect, seen_within}
use Rattle.cb_mutate.proofs.Rooms.{on_err_so}
use Rattle.cb_mutate.proofs.reading.read.Goals as goal
use Rattle.cb_mutate.proofs.reading.read.Goals.{in-Claimed, in-Left}

pub returns-in_err-word-clause-error : goal.returns-in_err-word-clause-error
returns-in_err-word-clause-error g c = let e = c.in_err-word.ensures.error in
    let h = c.args.h.n in let w = e.0 in
    on_err_so c.from_residual.result (record {
      events = Looked h w ∷ [];
      ran = e.1;
      looks_first = tt;
      rule = (w, refl, e.2);
      allowed = λ s k. look_allowed [] [] h w s tt tt;
      sound_after = λ s k. look_sound c.args.far.now s [] [] h w k.1 tt tt;
      effect = λ s k. look_still s [] [] h w tt tt;
    })

pub read_claimed-requires-clause-claimed : goal.read_claimed-requires-clause-claimed
read_claimed-requires-clause-claimed g c =
    let h = c.args.h.n in let w = c.in-Claimed.word in
    let got = subst (λ (q : Reached). (es : List Access) × g.D.Desk.run c.args.desk.now es c.reach.new.desk
    × Grasps h es (grasp_of q)) c.in-Claimed.is c.in_ok-word.ensures.reached in
    let tried = got.2 in let v = tried.1 in let words = tried.2 in
    let first = claim_after tried.0 h w v words in
    let had = c.requires.sound in let s = had.0 in
    let ran = subst (λ (l : List Access). g.D.Desk.run c.args.desk.now l c.reach.new.desk)
    tried.3 got.1 in
    let follows = g.met.D.Desk.follows _ _ first s ran had.1 in
    let sized = g.met.D.Desk.sized _ s had.1 in (
      played first s,
      follows.1,
      (
        v,
        words,
        (after_claim c.args.far.now s tried.0 [] h w v words had.2.here
            (subst (λ (n : ℕ). h < n) (sym sized.0) c.requires.handle)
            (subst (λ (n : ℕ). h < n) (sym sized.2) c.requires.handle)
            tried.4 tried.5 follows.0 (λ t. refl)).claimed,
      ),
    )

pub read_claimed-requires-clause-room : goal.read_claimed-requires-clause-room
read_claimed-requires-clause-room g c =
    subst (λ (q : Reached). HasReadRoom (grasp_of q) (room_of q)) c.in-Claimed.is c.in_ok-word.ensures.room

pub read_left-requires-clause-room : goal.read_left-requires-clause-room
read_left-requires-clause-room g c =
    subst (λ (q : Reached). HasReadRoom (grasp_of q) (room_of q)) c.in-Left.is
    c.in_ok-word.ensures.room

pub read_left-requires-clause-left : goal.read_left-requires-clause-left
read_left-requires-clause-left g c = (subst (λ (q : Reached). (es : List Access)
    × g.D.Desk.run c.args.desk.now es c.reach.new.desk × Grasps c.args.h.n es (grasp_of q))
    c.in-Left.is c.in_ok-word.ensures.reached).2.3

pub read_left-requires-clause-within : goal.read_left-requires-clause-within
read_left-requires-clause-within g c =
    let h = c.args.h.n in let w = c.in-Left.word in
    let got = subst (λ (q : Reached). (es : List Access) × g.D.Desk.run c.args.desk.now es c.reach.new.desk
    × Grasps h es (grasp_of q)) c.in-Left.is c.in_ok-word.ensures.reached in
    let tried = got.2 in let before = tried.0 in
    let first = look_after before h w in
    let ran = subst (λ (l : List Access). g.D.Desk.run c.args.desk.now l c.reach.new.desk)
    tried.1 got.1 in
    let had = c.requires.sound in let s = had.0 in
    let follows = g.met.D.Desk.follows _ _ first s ran had.1 in
    let sized = g.met.D.Desk.sized _ s had.1 in
    let stays = g.met.D.Desk.stays _ _ _ ran in λ here.
    subst (λ (q : Config). LiesInMemory w (512 * q.frames)) (sym stays)
    (seen_within c.args.far.now s before h w _ had.2 tried.2 follows.0 here sized.3)

pub returns-clause-read : goal.returns-clause-read
returns-clause-read g c = let h = c.args.h.n in
    elim c.match-branch-2.branch [
      | in-Claimed u ↦
          let w = u.in-Claimed.word in
          let got = subst (λ (q : Reached). (es : List Access)
          × g.D.Desk.run c.args.desk.now es c.reach.new.desk × Grasps h es (grasp_of q))
          u.in-Claimed.is c.in_ok-word.ensures.reached in
          let tried = got.2 in let before = tried.0 in let v = tried.1 in let words = tried.2 in
          let first = claim_after before h w v words in
          let ran = subst (λ (l : List Access). g.D.Desk.run c.args.desk.now l c.reach.new.desk)
          tried.3 got.1 in
          let rest = u.read_claimed.ensures.ends in let done = rest.events in
          let r = u.read_claimed.result in
          let found = claim_found before done h w v words rest.no_look in
          let taken = claim_taken before done h w v words tried.4 in
          let after = λ (s : Shown) (a : g.D.Desk.shows c.args.desk.now s)
          (sound : Sound s c.args.far.now).
          let follows = g.met.D.Desk.follows _ _ first s ran a in
          let sized = g.met.D.Desk.sized _ s a in
          after_claim c.args.far.now s before done h w v words sound.here
          (subst (λ (n : ℕ). h < n) (sym sized.0) c.requires.handle)
          (subst (λ (n : ℕ). h < n) (sym sized.2) c.requires.handle)
          tried.4 tried.5 follows.0 rest.quiet in
          let ended = λ (s : Shown) (a : g.D.Desk.shows c.args.desk.now s)
          (sound : Sound s c.args.far.now).
          let follows = g.met.D.Desk.follows _ _ first s ran a in
          let x = after s a sound in
          read_done c.args.far.now s (played (first ++ done) s) first done h w v words r
          sound x tried.5 found taken
          (subst (λ (t : Shown). ReadEnds h w r done (played first s) v words t)
          (sym x.at_end) (rest.ends_so (played first s) v words (follows.1, x.claimed))) in
          let had = c.requires.sound in
          let all : Performs (λ es. g.D.Desk.run c.args.desk.now es u.read_claimed.new.desk)
          (λ s. g.D.Desk.shows c.args.desk.now s × Sound s c.args.far.now) (ReadRule h r)
          (λ t. Sound t c.args.far.now) (ReadEffect h r) = record {
            events = first ++ done;
            ran = g.met.D.Desk.more _ _ _ _ _ ran rest.ran;
            looks_first = claim_first before done h w v words tried.4 rest.no_look rest.looks_first;
            rule = record {
              word = w;
              found = found;
              touches = claim_touches h w v (place_of w) (len_of w) words before done tried.4
                  rest.touches;
              settles_last = claim_settles_last h w v words before done tried.4 rest.settles_last;
              answer = subst (λ (q : State).
                  AnsweredAs q (ReadHere h (first ++ done) r) w h (first ++ done) r)
                  (sym tried.5.0) (ended had.0 had.1 had.2).rule;
            };
            allowed = λ s k. claim_all_allowed before done h w v words s tried.4
                (rest.allowed (played first s) v words
                ((g.met.D.Desk.follows _ _ first s ran k.0).1, (after s k.0 k.1).claimed));
            sound_after = λ s k. (ended s k.0 k.1).sound;
            effect = λ s k. (ended s k.0 k.1).effect;
          } in
          rw u.result-is (rw u.desk-is all)
      | in-Left u ↦
          let w = u.in-Left.word in
          let got = subst (λ (q : Reached). (es : List Access)
          × g.D.Desk.run c.args.desk.now es c.reach.new.desk × Grasps h es (grasp_of q))
          u.in-Left.is c.in_ok-word.ensures.reached in
          let tried = got.2 in let before = tried.0 in
          let first = look_after before h w in
          let ran = subst (λ (l : List Access). g.D.Desk.run c.args.desk.now l c.reach.new.desk)
          tried.1 got.1 in
          let rest = u.read_left.ensures in
          let r = u.read_left.result in
          let found = look_found before rest.0 h w rest.2 in
          let all : Performs (λ es. g.D.Desk.run c.args.desk.now es u.read_left.new.desk)
          (λ s. g.D.Desk.shows c.args.desk.now s × Sound s c.args.far.now) (ReadRule h r)
          (λ t. Sound t c.args.far.now) (ReadEffect h r) = record {
            events = first ++ rest.0;
            ran = g.met.D.Desk.more _ _ _ _ _ ran rest.1;
            looks_first = look_first before rest.0 h w tried.2 rest.2;
            rule = record {
              word = w;
              found = found;
              touches = look_touches h w (place_of w) (len_of w) before rest.0 tried.2 rest.3;
              settles_last = look_settles_last h w before rest.0 tried.2 rest.2;
              answer = read_before (state_of w) h w first rest.0 r rest.4;
            };
            allowed = λ s k. look_allowed before rest.0 h w s tried.2 rest.2;
            sound_after = λ s k. look_sound c.args.far.now s before rest.0 h w k.1 tried.2 rest.2;
            effect = λ s k. left_effect (state_of w) h w rest.0 (first ++ rest.0) s
                (played (first ++ rest.0) s) r refl tried.3 found rest.4
                (look_still s before rest.0 h w tried.2 rest.2);
          } in
          rw u.result-is (rw u.desk-is all)
    ]

pub returns-clause-away : goal.returns-clause-away
returns-clause-away g c = let h = c.args.h.n in
    elim c.match-branch-2.branch [
      | in-Claimed u ↦
          let shown = u.read_claimed.ensures.shown in
          rw u.result-is (λ e s knows. absurd (bytes_not u.read_claimed.result shown.0 shown.1 shown.2 e))
      | in-Left u ↦
          let w = u.in-Left.word in
          let got = subst (λ (q : Reached). (es : List Access)
          × g.D.Desk.run c.args.desk.now es c.reach.new.desk × Grasps h es (grasp_of q))
          u.in-Left.is c.in_ok-word.ensures.reached in
          let tried = got.2 in let before = tried.0 in
          let ran = subst (λ (l : List Access). g.D.Desk.run c.args.desk.now l c.reach.new.desk)
          tried.1 got.1 in
          let rest = u.read_left.ensures in
          rw u.result-is (λ e s knows.
          found_far s before h w tried.2
          (g.met.D.Desk.follows _ _ (look_after before h w) s ran knows).0
          (read_far (state_of w) w h rest.0 u.read_left.result rest.4 e))
    ]
