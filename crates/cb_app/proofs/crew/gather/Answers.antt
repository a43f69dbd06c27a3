use Rattle.std.proofs.Common.{List, sym, ◌∙◌, subst}
use Rattle.std.specs.Prelude.{All}
use Rattle.std.proofs.lemmas.List.{nil_from_length}
use Rattle.cb_app.specs.Crew.{HasText}
use Rattle.cb_app.specs.declared.crew.Ended.{Ended}
use Rattle.cb_app.proofs.CrewTaken.{IsTakingTurns, turns_all, turns_from, turns_more}
use Rattle.cb_app.proofs.Crews.{IsTaking, first_apart, first_ended, first_of_others, first_text, others_ended, others_text, taken_work, taking_all, taking_from, taking_more}
use Rattle.cb_app.proofs.crew.gather.Goals as goal

pub loop-ended-init : goal.loop-ended-init
loop-ended-init c =
    let same = sym c.into_iter-ended-iterator.ensures.into_iter_gives.0 in
    record {
      taking = subst (λ (left : List Ended).
          IsTaking c.args.shared.now c.args.lines.now c.args.first.now.answers c.args.ends.items left c.args.first.now)
          same (taking_from c.args.shared.now c.args.lines.now c.args.ends.items c.args.first.now c.requires.first
          c.requires.ended c.requires.apart);
      text = c.requires.text;
      texts = subst (All HasText) same c.requires.texts;
      turns = subst (λ (left : List Ended).
          IsTakingTurns c.args.ends.items left c.args.first.now c.args.first.now) same
          (turns_from c.args.ends.items c.args.first.now c.requires.first.backs);
    }

pub loop-ended-preserved : goal.loop-ended-preserved
loop-ended-preserved c =
    let s = c.args.shared.now in
    let lines = c.args.lines.now in
    let given = c.args.first.now.answers in
    let all = c.args.ends.items in
    let left = c.loop-ended.ended-iterator.rest.items in
    let e = c.in-Some.ended in
    let later = c.next.new.self.rest.items in
    let first = c.loop-ended.first in
    let t = c.loop-ended.invariant.taking in
    let is = c.in-Some.ensures.steps.0 in
    let texts = c.loop-ended.invariant.texts in
    record {
      taking = taking_more s lines given all left e later first c.take_in.new.first t is
          (c.in_ok-take_in.ensures.told given t.others lines t.answers t.told
          (first_ended s lines given left e later t.ended is) (first_apart s lines given all left e later first t is)
          (first_of_others s lines given all left e later first t is) c.requires.of_first)
          (others_ended s lines given left e later t.ended is) c.in_ok-take_in.ensures.work;
      text = c.in_ok-take_in.ensures.text c.loop-ended.invariant.text (first_text left e later texts is);
      texts = others_text left e later texts is;
      turns = turns_more s lines given t.others all left e later c.args.first.now first
          c.take_in.new.first c.loop-ended.invariant.turns is t.answers
          c.in_ok-take_in.ensures.joins (first_ended s lines given left e later t.ended is)
          (first_apart s lines given all left e later first t is);
    }

pub returns-clause-told : goal.returns-clause-told
returns-clause-told c = taking_all c.args.shared.now c.args.lines.now c.args.first.now.answers c.args.ends.items
    c.loop-ended.ended-iterator.rest.items c.loop-ended.first c.loop-ended.invariant.taking
    (nil_from_length c.loop-ended.ended-iterator.rest.items
    (sym c.loop-ended.ended-iterator.rest.ok.0 ∙ c.in-None.ensures.steps.0))

pub returns-clause-work : goal.returns-clause-work
returns-clause-work c = taken_work c.args.shared.now c.args.lines.now c.args.first.now.answers c.args.ends.items
    c.loop-ended.ended-iterator.rest.items c.loop-ended.first c.loop-ended.invariant.taking
    (nil_from_length c.loop-ended.ended-iterator.rest.items
    (sym c.loop-ended.ended-iterator.rest.ok.0 ∙ c.in-None.ensures.steps.0))

pub returns-clause-taken : goal.returns-clause-taken
returns-clause-taken c = turns_all c.args.ends.items c.loop-ended.ended-iterator.rest.items
    c.args.first.now c.loop-ended.first c.loop-ended.invariant.turns
    (nil_from_length c.loop-ended.ended-iterator.rest.items
    (sym c.loop-ended.ended-iterator.rest.ok.0 ∙ c.in-None.ensures.steps.0))
