use Rattle.std.proofs.Common.{◌<◌, length, get_or, sym, ap, ◌∙◌, arith, inl, inr}
use Rattle.std.specs.List.{slice_get}
use Rattle.std.proofs.lemmas.Bool.{cases_eq}
use Rattle.std.proofs.lemmas.Option.{slice_get-get_or}
use Rattle.cb_member.specs.declared.names.Shard.{Shard}
use Rattle.cb_compact.specs.PatchStep.{is_undone}
use Rattle.cb_compact.proofs.Laws.{few_steps}
use Rattle.cb_local.proofs.PutStep.{at_places}
use Rattle.cb_local.proofs.rooms.full_node.Goals as goal

pub step_count-position-end-requires : goal.step_count-position-end-requires
step_count-position-end-requires c =
    let s = c.requires.sound in let x = c.requires.fresh in
    (x.0, x.3.was, few_steps s.0 c.args.far.now x.0 s.1 x.3.was)

pub loop-position-init : goal.loop-position-init
loop-position-init c pair a b fresh q old l m = absurd (omega (arith, m))

pub returns-in-Some-clause-full : goal.returns-in-Some-clause-full
returns-in-Some-clause-full c pair a b fresh =
    let s = c.requires.sound in let n = c.loop-position.position in
    let within : n < length pair.steps =
    let l = c.loop-position-test.true in
    let e = c.step_count-position-end.ensures pair fresh.was in omega (arith, l, e) in
    let places = at_places s.0 c.args.far.now pair a b s.1 fresh in
    let d : Shard = record { node = record { n = 0 }; incarnation = 0; key = 0 } in
    let old = get_or pair.shards_a n d in
    let at = slice_get-get_or pair.shards_a n d (omega (arith, within, places)) in
    let y = c.in-Some.ensures.full pair a b old fresh at in record {
      position = n;
      within = within;
      undone = y.0;
      old = old;
      at = at;
      name = y.1;
      full = y.2;
      before = c.loop-position.invariant pair a b fresh;
    }

pub loop-position-preserved : goal.loop-position-preserved
loop-position-preserved c pair a b fresh q old l m undone at =
    elim (cases_eq q c.loop-position.position) [
      | inl e ↦ c.in_default.ensures.room pair a b old fresh
          (ap (slice_get pair.shards_a) (sym e) ∙ at)
          (ap (is_undone pair (length a.positions)) (sym e) ∙ undone)
      | inr off ↦ c.loop-position.invariant pair a b fresh q old l (omega (arith, m, off)) undone at
    ]

pub returns-clause-room : goal.returns-clause-room
returns-clause-room c pair a b fresh q old l m undone at =
    let end = c.loop-position-test.false in
    let e = c.step_count-position-end.ensures pair fresh.was in
    c.loop-position.invariant pair a b fresh q old l (omega (arith, m, end, e)) undone at
