use Rattle.std.proofs.Common.{◌≡◌, ◌≤◌, [], map, refl, sym, ◌∙◌, arith}
use Rattle.std.proofs.lemmas.Result.{IfOk-weaker}
use Rattle.cb_shared.specs.Passes.{record_of}
use Rattle.cb_lanes.specs.declared.body.LaneEnd.{LaneEnd}
use Rattle.cb_app.specs.ByLane.{by_lane, of_lane}
use Rattle.cb_app.specs.Crew.{IsLaneTold, lines_due, lines_left, work_in}
use Rattle.cb_app.specs.CrewTurns.{HasCrew, bodies_of}
use Rattle.cb_app.proofs.CrewTaken.{all_leave, has_crew}
use Rattle.cb_app.proofs.Crews.{all_told, left_apart, same_maps, told_again, told_left}
use Rattle.cb_app.proofs.ScopesTold.{first_answers}
use Rattle.cb_app.proofs.WorkDone.{all_made, for_each}
use Rattle.cb_app.proofs.crew.run_crew.Goals as goal

pub gather-requires-clause-apart : goal.gather-requires-clause-apart
gather-requires-clause-apart g c =
    let ends = c.in_ok-ends.ends.items in
    let tasks = c.in_ok-tasks.tasks.items in
    let lines = c.args.lines.now in
    let same : map (lines_left lines) ends ≡ map (lines_due lines) tasks =
    same_maps (lines_left lines) (lines_due lines) ends tasks
    (sym c.in_ok-ends.ends.ok.0 ∙ c.in_ok-ends.ensures.len ∙ c.in_ok-tasks.tasks.ok.0)
    (λ i d e low. c.in_ok-ends.ensures.lines i d e (omega (arith, low, c.in_ok-tasks.tasks.ok.0))) in
    left_apart c.args.shared.now c.args.lines.now (record_of c.args.first.now.pass) tasks
    c.deal.new.pass ends c.in_ok-tasks.ensures.dealt c.requires.lines same

pub gather-requires-clause-first : goal.gather-requires-clause-first
gather-requires-clause-first g c =
    let s = c.args.shared.now in
    let lines = of_lane 0 c.args.lines.now in
    let a = c.args.first.now in
    let b : LaneEnd = record { answers = a.answers; pass = c.deal.new.pass } in
    let d = c.in_ok-tasks.ensures.dealt in
    told_again s [] lines b (told_left s [] lines a b d.share d.own c.requires.first refl d.of d.left)

pub gather-requires-clause-of_first : goal.gather-requires-clause-of_first
gather-requires-clause-of_first g c =
    first_answers c.args.lines.now c.args.first.now.answers c.requires.first.lines_are

pub gather-requires-clause-ended : goal.gather-requires-clause-ended
gather-requires-clause-ended g c = c.in_ok-ends.ensures.ended c.args.first.now.answers c.requires.names
    (λ k t low. (
      record_of c.args.first.now.pass,
      c.in_ok-tasks.ensures.dealt.starts k t low,
      c.requires.stand,
      first_answers c.args.lines.now c.args.first.now.answers c.requires.first.lines_are,
    ))

pub returns : goal.returns
returns g c =
    let s = c.args.shared.now in
    let lines = c.args.lines.now in
    let ends = c.in_ok-ends.ends.items in
    let tasks = c.in_ok-tasks.tasks.items in
    let same : map (lines_left lines) ends ≡ map (lines_due lines) tasks =
    same_maps (lines_left lines) (lines_due lines) ends tasks
    (sym c.in_ok-ends.ends.ok.0 ∙ c.in_ok-ends.ensures.len ∙ c.in_ok-tasks.tasks.ok.0)
    (λ i d e low. c.in_ok-ends.ensures.lines i d e (omega (arith, low, c.in_ok-tasks.tasks.ok.0))) in
    let a = c.args.first.now in
    let b : LaneEnd = record { answers = a.answers; pass = c.deal.new.pass } in
    record {
      told = IfOk-weaker c.gather.result _ (λ x. IsLaneTold s [] (by_lane lines) c.gather.new.first)
          (λ x told. all_told s lines a b c.gather.new.first tasks ends c.requires.first refl
          c.in_ok-tasks.ensures.dealt same told) c.gather.ensures.told;
      work = for_each c.gather.result (λ w. s.config.turns ≤ work_in w (record_of c.gather.new.first.pass)) (λ w.
          IfOk-weaker c.gather.result _ (λ x. s.config.turns ≤ work_in w (record_of c.gather.new.first.pass))
          (λ x done. let due = c.in_ok-tasks.ensures.work w in omega (arith, done, due))
          (c.gather.ensures.work w tasks (all_made w tasks ends
          (sym c.in_ok-ends.ends.ok.0 ∙ c.in_ok-ends.ensures.len ∙ c.in_ok-tasks.tasks.ok.0)
          (λ i d t low. c.in_ok-ends.ensures.made w i d t (omega (arith, low, c.in_ok-tasks.tasks.ok.0))))));
      text = c.gather.ensures.text;
      crew = IfOk-weaker c.gather.result _
          (λ x. HasCrew s.config (record_of c.gather.new.first.pass) c.gather.new.first.answers)
          (λ x taken. has_crew s.config ends (bodies_of tasks) b c.gather.new.first
          c.in_ok-tasks.ensures.crew (all_leave s.config.handles tasks ends
          (sym c.in_ok-ends.ends.ok.0 ∙ c.in_ok-ends.ensures.len ∙ c.in_ok-tasks.tasks.ok.0)
          (λ i d t low. c.in_ok-ends.ensures.leaves i d t
          (omega (arith, low, c.in_ok-tasks.tasks.ok.0)))) taken) c.gather.ensures.taken;
    }
