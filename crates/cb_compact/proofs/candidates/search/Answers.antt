use Rattle.std.proofs.Common.{List, Option, Some, None, IfNone, IfSome, sym, subst}
use Rattle.cb_set.specs.SetState.{SetState}
use Rattle.cb_world.specs.declared.shown.Shown.{Shown}
use Rattle.cb_world.specs.FarState.{FarState}
use Rattle.cb_world.specs.FarSound.{AwaySound}
use Rattle.cb_compact.specs.declared.candidates.Candidate.{Candidate}
use Rattle.cb_compact.specs.declared.candidates.Match.{Match}
use Rattle.cb_compact.specs.Candidates.{AreFirsts, IsFirstMatch, NoneMatch}
use Rattle.cb_compact.specs.PairStep.{IsFirstPair, NoneCanJoin}
use Rattle.cb_compact.specs.Tables.{AreMasks}
use Rattle.cb_compact.proofs.Choosing.{are_masks, none_found, pair_found}
use Rattle.cb_compact.proofs.candidates.search.Goals as goal

found_in : (s : Shown) (far : FarState) (found : List Candidate) (o : Option Match) → AwaySound s
    far
    → AreFirsts far far.counts.sets found → IfSome o (λ m. IsFirstMatch found m.a m.b)
    → IfSome o (λ m. (a : SetState) × (b : SetState) × IsFirstPair far m.a.id m.b.id a b)
found_in s far found None sound x y = tt
found_in s far found (Some m) sound x y = pair_found s far sound found x m.a m.b y

none_in : (s : Shown) (far : FarState) (found : List Candidate) (o : Option Match) → AwaySound s
    far
    → AreFirsts far far.counts.sets found → IfNone o (NoneMatch found)
    → IfNone o (NoneCanJoin far)
none_in s far found None sound x y = none_found s far sound found x y
none_in s far found (Some m) sound x y = tt

pub match_among-requires : goal.match_among-requires
match_among-requires c =
    let s = c.requires.sound in let far = c.args.far.now in record {
      masks = subst AreMasks (sym c.deref.ensures.value)
          (are_masks s.0 far far.counts.sets c.in_ok-firsts.firsts.found.items s.1
          c.in_ok-firsts.ensures.found);
    }

pub returns-clause-found : goal.returns-clause-found
returns-clause-found c =
    let s = c.requires.sound in let far = c.args.far.now in
    found_in s.0 far c.deref.result.now c.in_ok-pair.pair s.1
    (subst (AreFirsts far far.counts.sets) (sym c.deref.ensures.value) c.in_ok-firsts.ensures.found)
    c.in_ok-pair.ensures.found

pub returns-clause-none : goal.returns-clause-none
returns-clause-none c =
    let s = c.requires.sound in let far = c.args.far.now in
    none_in s.0 far c.deref.result.now c.in_ok-pair.pair s.1
    (subst (AreFirsts far far.counts.sets) (sym c.deref.ensures.value) c.in_ok-firsts.ensures.found)
    c.in_ok-pair.ensures.none
