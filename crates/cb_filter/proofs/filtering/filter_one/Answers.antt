use Rattle.std.proofs.Common.{◌≡◌, ℕ, ◌<◌, List, [], ◌∷◌, ◌++◌, refl, sym, ◌∙◌, subst, arith}
use Rattle.std.proofs.lemmas.Result.{IfOk-weaker, on_err_weaker}
use Rattle.cb_ptr.specs.declared.word.State.{State}
use Rattle.cb_ptr.specs.Word.{state_of, hot_of, len_of, place_of}
use Rattle.cb_types.specs.declared.config.Config.{Config}
use Rattle.cb_types.specs.declared.config.Field.TheVariants.{Frames}
use Rattle.cb_types.specs.declared.reply.Reply.{Reply}
use Rattle.cb_world.specs.declared.access.Access.{Access}
use Rattle.cb_world.specs.declared.access.Access.TheVariants.{Settled}
use Rattle.cb_world.specs.declared.shown.Shown.{Shown}
use Rattle.cb_world.specs.Played.{played}
use Rattle.cb_world.specs.Sound.{Sound}
use Rattle.cb_world.proofs.Laws.{claim_after, after_claim, claim_found, claim_taken, claim_first, claim_all_allowed, look_after, look_found, look_first, look_allowed, look_sound, look_still, may_put_back, settled_here, back_written, claim_settles_last, look_settles_last}
use Rattle.cb_filter.specs.Seats.{Seat, temp_for}
use Rattle.cb_filter.specs.FilterRule.{FilterAs}
use Rattle.cb_filter.specs.Plans.{LiesAtPlace, Wants}
use Rattle.cb_filter.specs.ClaimEnds.{ClaimEnds, FilterEnds, SeatEnds, IsKnownAt}
use Rattle.cb_filter.proofs.Moved.{slot_here, seat_of, seat_lies}
use Rattle.cb_filter.proofs.Settled.{settled_well, is_still}
use Rattle.cb_filter.proofs.FilterSound.{IsFilterBegun, filter_done, no_memory, known_at, refused_effect, refused_rule}
use Rattle.cb_filter.proofs.Unmade.{here_made, look_tells}
use Rattle.cb_filter.proofs.filtering.filter_one.Goals as goal

pub filter_claimed-requires-clause-numbered : goal.filter_claimed-requires-clause-numbered
filter_claimed-requires-clause-numbered g c =
    let had = c.requires.sound in let sized = g.met.D.Desk.sized _ _ had.1 in
    omega (
      arith,
      sized.3,
      had.2.here.placed.memory,
      had.2.here.frames.sized,
      (c.requires.config Frames).1,
    )

pub filter_claimed-requires-clause-seat : goal.filter_claimed-requires-clause-seat
filter_claimed-requires-clause-seat g c =
    let h = c.args.h.n in let w = c.in-Claimed.word in let got = c.in-Claimed.ensures in
    let tried = got.2 in let v = tried.1 in let words = tried.2 in
    let first = claim_after tried.0 h w v words in
    let had = c.requires.sound in let s = had.0 in
    let ran = subst (λ (l : List Access). g.D.Desk.run c.args.desk.now l c.try_claim.new.desk)
    tried.3 got.1 in
    let follows = g.met.D.Desk.follows _ _ first s ran had.1 in
    let sized = g.met.D.Desk.sized _ s had.1 in
    let x = after_claim c.args.far.now s tried.0 [] h w v words had.2.here
    (subst (λ (n : ℕ). h < n) (sym sized.0) c.requires.handle)
    (subst (λ (n : ℕ). h < n) (sym sized.2) c.requires.handle)
    tried.4 tried.5 follows.0 (λ t. refl) in
    let slot = slot_here c.args.far.now s h (len_of w) (place_of w) had.2 x.here in (
      seat_of c.args.far.now.spans h (len_of w) (place_of w) slot,
      seat_lies c.args.far.now s h (len_of w) (place_of w) had.2 slot,
    )

pub filter_claimed-requires-clause-ready : goal.filter_claimed-requires-clause-ready
filter_claimed-requires-clause-ready g c =
    let h = c.args.h.n in let w = c.in-Claimed.word in let got = c.in-Claimed.ensures in
    let tried = got.2 in let v = tried.1 in let words = tried.2 in
    let first = claim_after tried.0 h w v words in
    let had = c.requires.sound in let s = had.0 in
    let ran = subst (λ (l : List Access). g.D.Desk.run c.args.desk.now l c.try_claim.new.desk)
    tried.3 got.1 in
    let follows = g.met.D.Desk.follows _ _ first s ran had.1 in
    let sized = g.met.D.Desk.sized _ s had.1 in
    let range = subst (λ (n : ℕ). h < n) (sym sized.0) c.requires.handle in
    let stamp = subst (λ (n : ℕ). h < n) (sym sized.2) c.requires.handle in
    let x = after_claim c.args.far.now s tried.0 [] h w v words had.2.here range stamp
    tried.4 tried.5 follows.0 (λ t. refl) in (
      played first s,
      follows.1,
      (
        v,
        words,
        known_at c.args.far.now s first [] h w v words (record {
          sound = had.2;
          claim = x;
          free = tried.5;
          found = claim_found tried.0 [] h w v words tt;
          taken = claim_taken tried.0 [] h w v words tried.4;
          range = range;
          stamp = stamp;
          c = slot_here c.args.far.now s h (len_of w) (place_of w) had.2 x.here;
        }),
      ),
    )

pub returns-in-Left-clause-filter : goal.returns-in-Left-clause-filter
returns-in-Left-clause-filter g c =
    let h = c.args.h.n in let w = c.in-Left.word in let got = c.in-Left.ensures in
    let tried = got.2 in let before = tried.0 in let far = c.args.far.now in
    let first = look_after before h w in
    let ran = subst (λ (l : List Access). g.D.Desk.run c.args.desk.now l c.try_claim.new.desk)
    tried.1 got.1 in
    let rest = c.refuse.ensures in let r = c.refuse.result in
    record {
      events = first ++ rest.0;
      ran = g.met.D.Desk.more _ _ _ _ _ ran rest.1;
      looks_first = look_first before rest.0 h w tried.2 rest.2;
      rule = record {
        word = w;
        found = look_found before rest.0 h w rest.2;
        settles_last = look_settles_last h w before rest.0 tried.2 rest.2;
        unmade = λ is. look_tells h w before rest.0 tried.2 rest.2;
        answer = refused_rule (state_of w) _ h w far first rest.0 r rest.3;
      };
      allowed = λ s k. look_allowed before rest.0 h w s tried.2 rest.2;
      sound_after = λ s k. look_sound far s before rest.0 h w k.1 tried.2 rest.2;
      effect = λ s k. refused_effect (state_of w) h w far rest.0 (first ++ rest.0) s
          (played (first ++ rest.0) s) r rest.3
          (look_still s before rest.0 h w tried.2 rest.2);
    }

pub returns-in-Claimed-clause-filter : goal.returns-in-Claimed-clause-filter
returns-in-Claimed-clause-filter g c =
    let h = c.args.h.n in let w = c.in-Claimed.word in let got = c.in-Claimed.ensures in
    let far = c.args.far.now in let new = c.filter_claimed.new.far in
    let tried = got.2 in let before = tried.0 in let v = tried.1 in let words = tried.2 in
    let first = claim_after before h w v words in
    let ran = subst (λ (l : List Access). g.D.Desk.run c.args.desk.now l c.try_claim.new.desk)
    tried.3 got.1 in
    let had = c.requires.sound in
    let same = g.met.D.Desk.stays _ _ _ ran in
    IfOk-weaker c.filter_claimed.result
    (λ (r : Reply).
    ClaimEnds (λ (es : List Access). g.D.Desk.run c.try_claim.new.desk es c.filter_claimed.new.desk)
    (λ (s : Shown) (v : ℕ) (words : List ℕ).
    g.D.Desk.shows c.try_claim.new.desk s × IsKnownAt s far h w v words) h
    (FilterEnds (g.D.Desk.settings c.try_claim.new.desk).frames far new h w r)) _
    (λ r rest.
    let done = rest.events in
    let begun = λ (s : Shown) (a : g.D.Desk.shows c.args.desk.now s) (sound : Sound s far).
    let follows = g.met.D.Desk.follows _ _ first s ran a in
    let sized = g.met.D.Desk.sized _ s a in
    let range = subst (λ (n : ℕ). h < n) (sym sized.0) c.requires.handle in
    let stamp = subst (λ (n : ℕ). h < n) (sym sized.2) c.requires.handle in
    let claim = after_claim far s before done h w v words sound.here range stamp tried.4 tried.5
    follows.0 rest.quiet in
    let b : IsFilterBegun far s first done h w v words = record {
      sound = sound;
      claim = claim;
      free = tried.5;
      found = claim_found before done h w v words rest.no_look;
      taken = claim_taken before done h w v words tried.4;
      range = range;
      stamp = stamp;
      c = slot_here far s h (len_of w) (place_of w) sound claim.here;
    } in b in
    let ended = λ (s : Shown) (a : g.D.Desk.shows c.args.desk.now s) (sound : Sound s far).
    let follows = g.met.D.Desk.follows _ _ first s ran a in
    let b = begun s a sound in
    let slot = seat_of far.spans h (len_of w) (place_of w) b.c in
    filter_done far s first done h w v words b (g.D.Desk.settings c.args.desk.now).frames new
    (played (first ++ done) s) r
    (subst (λ (q : Config). SeatEnds q.frames far new h w slot r done (played first s)
    (played (first ++ done) s) words) same
    (subst (λ (t : Shown). SeatEnds (g.D.Desk.settings c.try_claim.new.desk).frames far new h w slot
    r done (played first s) t words) (sym b.claim.at_end)
    (rest.ends_so (played first s) v words
    (follows.1, known_at far s first done h w v words b) slot
    (seat_lies far s h (len_of w) (place_of w) sound b.c)))) in
    record {
      events = first ++ done;
      ran = g.met.D.Desk.more _ _ _ _ _ ran rest.ran;
      looks_first = claim_first before done h w v words tried.4 rest.no_look rest.looks_first;
      rule = record {
        word = w;
        found = claim_found before done h w v words rest.no_look;
        settles_last = claim_settles_last h w v words before done tried.4 rest.settles_last;
        unmade = λ is. absurd (here_made (g.D.Desk.settings c.args.desk.now).frames h w far new r
            (first ++ done) (ended had.0 had.1 had.2).rule is);
        answer = subst (λ (q : State). FilterAs q (g.D.Desk.settings c.args.desk.now).frames h w far
            new r (first ++ done)) (sym tried.5.0) (ended had.0 had.1 had.2).rule;
      };
      allowed = λ s k. claim_all_allowed before done h w v words s tried.4
          (rest.allowed (played first s) v words (
            (g.met.D.Desk.follows _ _ first s ran k.0).1,
            known_at far s first done h w v words (begun s k.0 k.1),
          ));
      sound_after = λ s k. (ended s k.0 k.1).sound;
      effect = λ s k. (ended s k.0 k.1).effect;
    }) c.filter_claimed.ensures.ends

pub returns-in-Claimed-clause-error : goal.returns-in-Claimed-clause-error
returns-in-Claimed-clause-error g c =
    let h = c.args.h.n in let w = c.in-Claimed.word in let got = c.in-Claimed.ensures in
    let far = c.args.far.now in let new = c.filter_claimed.new.far in
    let tried = got.2 in let before = tried.0 in let v = tried.1 in let words = tried.2 in
    let first = claim_after before h w v words in let done = Settled h w ∷ [] in
    let ran = subst (λ (l : List Access). g.D.Desk.run c.args.desk.now l c.try_claim.new.desk)
    tried.3 got.1 in
    let had = c.requires.sound in
    let begun = λ (s : Shown) (a : g.D.Desk.shows c.args.desk.now s) (sound : Sound s far).
    let follows = g.met.D.Desk.follows _ _ first s ran a in
    let sized = g.met.D.Desk.sized _ s a in
    let range = subst (λ (n : ℕ). h < n) (sym sized.0) c.requires.handle in
    let stamp = subst (λ (n : ℕ). h < n) (sym sized.2) c.requires.handle in
    let claim = after_claim far s before done h w v words sound.here range stamp tried.4 tried.5
    follows.0 (λ t. refl) in
    let b : IsFilterBegun far s first done h w v words = record {
      sound = sound;
      claim = claim;
      free = tried.5;
      found = claim_found before done h w v words ((λ x e. e), tt);
      taken = claim_taken before done h w v words tried.4;
      range = range;
      stamp = stamp;
      c = slot_here far s h (len_of w) (place_of w) sound claim.here;
    } in b in
    on_err_weaker c.filter_claimed.result
    (λ (x : (new ≡ far) × ((seat : Seat) → LiesAtPlace far (place_of w) seat
    → Wants far (temp_for (hot_of w)) seat)
    × g.D.Desk.run c.try_claim.new.desk done c.filter_claimed.new.desk).
    let back = λ (s : Shown) (a : g.D.Desk.shows c.args.desk.now s) (sound : Sound s far).
    let b = begun s a sound in
    settled_well far s (played (first ++ done) s) first done h w v words (hot_of w) sound b.claim
    (record {
      settled = b.claim.at_end ∙ settled_here (played first s) h w tried.5.0;
      nothing = back_written (played first s) h w v words b.claim.claimed;
    }) in
    let b = begun had.0 had.1 had.2 in
    record {
      events = first ++ done;
      ran = g.met.D.Desk.more _ _ _ _ _ ran x.2;
      looks_first = claim_first before done h w v words tried.4 ((λ y e. e), tt) (tt, tt);
      rule = no_memory far had.0 first done h w v words b new
          (x.1 _ (seat_lies far had.0 h (len_of w) (place_of w) had.2 b.c)) x.0;
      allowed = λ s k. claim_all_allowed before done h w v words s tried.4
          (may_put_back (played first s) h w v words (begun s k.0 k.1).claim.claimed, tt);
      sound_after = λ s k. subst (Sound (played (first ++ done) s)) (sym x.0)
          (back s k.0 k.1).sound;
      effect = λ s k. is_still far s (played (first ++ done) s) first done h w v words
          (begun s k.0 k.1).claim (back s k.0 k.1);
    }) c.filter_claimed.ensures.error
