use Rattle.std.proofs.lemmas.Result.{IfOk-from_err}
use Rattle.std.proofs.lemmas.List.{append-nil}
use Rattle.std.proofs.Common.{◌≢◌, ℕ, List, All, sym, subst}
use Rattle.std.specs.List.{Contains, AllPairs}
use Rattle.cb_world.specs.declared.access.Access.{Access}
use Rattle.cb_world.specs.declared.shown.Shown.{Shown}
use Rattle.cb_world.specs.Played.{played}
use Rattle.cb_evict.specs.Candidates.{candidates}
use Rattle.cb_evict.specs.Finding.{FindsSpans}
use Rattle.cb_evict.specs.Lengths.{AreLengthCounts}
use Rattle.cb_evict.specs.Taking.{AreLooseStill, Takes}
use Rattle.cb_evict.proofs.Composed.{any_err, found_loose, if_map, looked_fails, looked_takes, loose_apart, nothing_done, on_err}
use Rattle.cb_evict.proofs.Loose.{loose_among}
use Rattle.cb_evict.proofs.Ending.{place_in}
use Rattle.cb_evict.proofs.Restored.{looked}
use Rattle.cb_evict.proofs.Standing.{candidates_apart}
use Rattle.cb_evict.proofs.CallParts.{joins}
use Rattle.cb_evict.proofs.taking.take_spans.Goals as goal

pub find_spans-requires-clause-config : goal.find_spans-requires-clause-config
find_spans-requires-clause-config g c = c.requires.config

pub find_spans-requires-clause-configured : goal.find_spans-requires-clause-configured
find_spans-requires-clause-configured g c = c.requires.configured

pub find_spans-requires-clause-sound : goal.find_spans-requires-clause-sound
find_spans-requires-clause-sound g c = c.requires.sound

pub returns-in_err-found-clause-taken : goal.returns-in_err-found-clause-taken
returns-in_err-found-clause-taken g c = IfOk-from_err _ _ c.from_residual.ensures.0

pub returns-in_err-found-clause-error : goal.returns-in_err-found-clause-error
returns-in_err-found-clause-error g c = any_err _ _ (nothing_done c.args.far.now
    (λ es. g.D.Desk.run c.args.desk.now es c.find_spans.new.desk)
    (λ s. g.D.Desk.shows c.args.desk.now s) c.in_err-found.ensures.error)

pub returns-in-Few-clause-taken : goal.returns-in-Few-clause-taken
returns-in-Few-clause-taken g c =
    let runs = λ (es : List Access). g.D.Desk.run c.args.desk.now es c.find_spans.new.desk in
    let shows = λ (s : Shown). g.D.Desk.shows c.args.desk.now s in
    subst (FindsSpans runs shows c.args.far.now) c.in-Few.is c.in_ok-found.ensures.found

pub returns-in-Few-clause-error : goal.returns-in-Few-clause-error
returns-in-Few-clause-error g c = tt

pub claim_first-requires-clause-range : goal.claim_first-requires-clause-range
claim_first-requires-clause-range g c =
    c.requires.configured.codes.force.range

pub claim_first-requires-clause-sound : goal.claim_first-requires-clause-sound
claim_first-requires-clause-sound g c =
    let found = found_loose _ _ _ _ _ _ _ c.in-Loose.is c.in_ok-found.ensures.found in
    let x = found.looks in let s = c.requires.sound.0 in (
      played x.events s,
      (g.met.D.Desk.follows _ _ x.events s x.ran c.requires.sound.1).1,
      (looked c.args.far.now x.events s c.requires.sound.2 x.done.0).0,
    )

pub claim_first-requires-clause-among : goal.claim_first-requires-clause-among
claim_first-requires-clause-among g c =
    let found = found_loose _ _ _ _ _ _ _ c.in-Loose.is c.in_ok-found.ensures.found in
    let x = found.looks in
    subst (λ (l : List ℕ). All (Contains (candidates c.args.far.now)) l) (sym c.deref.ensures.value)
    (λ k d l. loose_among x.events c.args.far.now.spans (candidates c.args.far.now)
    c.in-Loose.frames.items _ x.done.1 (place_in c.in-Loose.frames.items k d l))

pub claim_first-requires-clause-apart : goal.claim_first-requires-clause-apart
claim_first-requires-clause-apart g c =
    let found = found_loose _ _ _ _ _ _ _ c.in-Loose.is c.in_ok-found.ensures.found in
    let x = found.looks in
    subst (λ (l : List ℕ). AllPairs (λ f h. f ≢ h) l) (sym c.deref.ensures.value)
    (loose_apart x.events c.args.far.now (candidates c.args.far.now) c.in-Loose.frames.items
    (candidates_apart c.args.far.now) x.done.1)

pub claim_first-requires-clause-room : goal.claim_first-requires-clause-room
claim_first-requires-clause-room g c =
    let found = found_loose _ _ _ _ _ _ _ c.in-Loose.is c.in_ok-found.ensures.found in found.room

pub claim_first-requires-clause-nodes : goal.claim_first-requires-clause-nodes
claim_first-requires-clause-nodes g c =
    let found = found_loose _ _ _ _ _ _ _ c.in-Loose.is c.in_ok-found.ensures.found in found.nodes

pub returns-in-Loose-clause-taken : goal.returns-in-Loose-clause-taken
returns-in-Loose-clause-taken g c =
    let found = found_loose _ _ _ _ _ _ _ c.in-Loose.is c.in_ok-found.ensures.found in
    if_map _ _ c.claim_first.result c.claim_first.ensures.taken (λ taken y.
    looked_takes c.args.far.now c.in-Loose.frames.items (joins (λ es fs a b. g.met.D.Desk.more _ _ _ _ _ a b)
    (λ es s ran a. (g.met.D.Desk.follows _ _ es s ran a).1)) found.looks
    taken
    (subst (λ (l : List ℕ). Takes (λ es. g.D.Desk.run c.find_spans.new.desk es c.claim_first.new.desk)
    (λ s. g.D.Desk.shows c.find_spans.new.desk s) c.args.far.now
    (AreLooseStill c.args.far.now l) taken) c.deref.ensures.value y))

pub returns-in-Loose-clause-error : goal.returns-in-Loose-clause-error
returns-in-Loose-clause-error g c =
    let found = found_loose _ _ _ _ _ _ _ c.in-Loose.is c.in_ok-found.ensures.found in
    on_err _ _ c.claim_first.result c.claim_first.ensures.error (λ ran.
    looked_fails c.args.far.now c.in-Loose.frames.items found.looks
    (λ es a. subst (λ (l : List Access). g.D.Desk.run c.args.desk.now l c.claim_first.new.desk)
    (append-nil es) (g.met.D.Desk.more _ _ _ _ _ a ran)))

pub claim_first-requires-clause-counts : goal.claim_first-requires-clause-counts
claim_first-requires-clause-counts g c =
    let found = found_loose _ _ _ _ _ _ _ c.in-Loose.is c.in_ok-found.ensures.found in
    subst (λ (l : List ℕ). AreLengthCounts c.args.far.now.spans l c.in-Loose.counts)
    (sym c.deref.ensures.value) found.counted
