use Rattle.std.proofs.Common.{rules, sym, ap, ◌∙◌, subst, arith, ◌≡◌, ℕ, ◌+◌, ◌<◌, ◌≤◌, [], ◌∷◌}
use Rattle.std.proofs.Common.{List, length, take, drop, get_or, length-take}
use Rattle.std.proofs.lemmas.List.{length-map, take_all, drop_all}
use Rattle.cb_types.specs.declared.config.Config.{Config}
use Rattle.cb_script.specs.declared.script.Line.{Line}
use Rattle.cb_script.specs.Form.{IsRequest}
use Rattle.cb_model.proofs.Laws.{legal_in_order}
use Rattle.cb_lanes.specs.Asked.{asked}
use Rattle.cb_lanes.proofs.Along.{Along, along_answered, along_ready, along_none, along_holds}
use Rattle.cb_lanes.proofs.Along.{lines_push, line_form}
use Rattle.cb_lanes.proofs.Eases.{eases_answered, eases_none}
use Rattle.cb_lanes.specs.LinesLeft.{AreLeft, lanes_of}
use Rattle.cb_lanes.proofs.ScopesKept.{line_known, fresh_by, lines_lanes, lines_own, leads_end}
use Rattle.cb_lanes.proofs.ScopesKept.{split_line, LeadsOn, soundly_end}
use Rattle.cb_world.specs.World.{empty_world}
use Rattle.cb_world.proofs.Laws.{empty_world_sound}
use Rattle.cb_lanes.proofs.LinesFixed.{only_lines}
use Rattle.cb_lanes.specs.GivingBack.{lines_by}
use Rattle.cb_lanes.specs.Lost.{AreInOrder}
use Rattle.cb_lanes.proofs.LossOrder.{losses_in_order}
use Rattle.cb_lanes.specs.Names.{kept_number}
use Rattle.cb_lanes.proofs.seq.run_lines.Goals as goal

pub lines_by_lane-left-requires-clause-lanes : goal.lines_by_lane-left-requires-clause-lanes
lines_by_lane-left-requires-clause-lanes c = rw c.as_slice.ensures.items
    (lines_lanes c.args.s.now.config.nodes [] c.args.s.now.lines c.requires.script.lines)

pub loop-line-init : goal.loop-line-init
loop-line-init c = record {
  along = rw c.new-answers.ensures.empty
      (along_none c.args.side c.args.s.now.config (lanes_of c.args.s.now.lines)
      c.in_ok-world.world c.new-names.result c.requires.script.config c.in_ok-world.ensures.empty
      (lines_lanes c.args.s.now.config.nodes [] c.args.s.now.lines c.requires.script.lines)
      (search rules));
  lines = search rules;
  losses = rw c.new-answers.ensures.empty c.new-losses.ensures.items;
  left = rw c.as_slice.ensures.items at c.lines_by_lane-left.ensures.left;
  ease = λ ease. rw c.new-answers.ensures.empty
      (eases_none c.args.s.now c.in_ok-world.world c.in_ok-world.ensures.empty);
}

pub answer_line-requires-clause-lane : goal.answer_line-requires-clause-lane
answer_line-requires-clause-lane c =
    let form = line_form c.args.s.now.config.nodes [] c.args.s.now.lines c.loop-line.line-index
    c.line-item.result c.requires.script.lines (search rules) (search rules) in
    let low = form.1 in omega (arith, low)

pub answer_line-requires-clause-some : goal.answer_line-requires-clause-some
answer_line-requires-clause-some c =
    let lines = c.args.s.now.lines in
    let i = c.loop-line.line-index in
    let l = c.line-item.result in
    let form = line_form c.args.s.now.config.nodes [] lines i l c.requires.script.lines
    (search rules)
    (search rules) in
    let low = form.1 in
    let at = c.loop-line.invariant.left.counts l.lane.n (omega (arith, low)) in
    let split = ap (lines_by l.lane.n) (split_line lines i l (search rules) (search rules)) in
    let own = lines_own l.lane.n (lanes_of (drop (i + 1) lines)) in
    omega (arith, at, split, own)

pub answer_line-requires-clause-request : goal.answer_line-requires-clause-request
answer_line-requires-clause-request c =
    subst (λ (d : Config). IsRequest d.nodes c.line-item.result.request)
    (sym c.loop-line.invariant.along.settings)
    (line_form c.args.s.now.config.nodes [] c.args.s.now.lines c.loop-line.line-index
    c.line-item.result c.requires.script.lines (search rules) (search rules)).0

pub answer_line-requires-clause-ready : goal.answer_line-requires-clause-ready
answer_line-requires-clause-ready c = along_ready c.args.side c.args.s.now.config _
    c.loop-line.answers c.loop-line.world
    c.loop-line.names c.loop-line.invariant.along

pub answer_line-requires-clause-sound : goal.answer_line-requires-clause-sound
answer_line-requires-clause-sound c = c.loop-line.invariant.along.sound

pub loop-line-preserved : goal.loop-line-preserved
loop-line-preserved c =
    let config = c.args.s.now.config in
    let lines = c.args.s.now.lines in
    let i = c.loop-line.line-index in
    let l = c.line-item.result in
    let answers = c.loop-line.answers in
    let lt : i < length lines = search rules in
    let at : l ≡ get_or lines i l = search rules in
    let form = line_form config.nodes [] lines i l c.requires.script.lines lt at in
    let low = form.1 in
    let later : List ℕ = lanes_of (drop (i + 1) lines) in
    let split = split_line lines i l lt at in
    let so_far = c.loop-line.invariant.lines in
    let few : length answers ≤ i = omega (
      arith,
      ap length so_far,
      length-take i lines,
      length-map answers asked,
    ) in
    let most = c.requires.script.few in
    let along : Along c.args.side config (l.lane.n ∷ later) answers c.loop-line.world
    c.loop-line.names =
    subst (λ (lanes : List ℕ). Along c.args.side config lanes answers c.loop-line.world
    c.loop-line.names) split
    c.loop-line.invariant.along in
    let left : AreLeft (l.lane.n ∷ later) c.loop-line.left =
    subst (λ (lanes : List ℕ). AreLeft lanes c.loop-line.left) split c.loop-line.invariant.left in
    let fresh = fresh_by answers (take i lines) l.lane.n l.request
    (kept_number c.loop-line.names) along.kept
    so_far (line_known config.nodes [] lines i l c.requires.script.lines lt at) in
    let done = c.in_ok-answer_line.ensures.line later left in
    let then : Along c.args.side config later c.answer_line.new.answers c.answer_line.new.world
    c.answer_line.new.names =
    along_answered c.args.side config later answers c.answer_line.new.answers l c.loop-line.world
    c.answer_line.new.world c.loop-line.names c.answer_line.new.names along
    (omega (arith, lt, few, most)) (omega (arith, low)) form.0 fresh done in record {
      along = then;
      lines = lines_push lines i answers c.answer_line.new.answers l done.reply lt at so_far
          done.answer;
      losses = c.in_ok-answer_line.ensures.losses c.loop-line.invariant.losses;
      left = c.in_ok-answer_line.ensures.left later left;
      ease = λ ease. eases_answered c.args.side c.args.s.now i later answers
          c.answer_line.new.answers l
          c.loop-line.world c.answer_line.new.world c.loop-line.names c.answer_line.new.names
          c.requires.script ease lt at so_far along then done (c.loop-line.invariant.ease ease);
    }

pub returns-clause-lines : goal.returns-clause-lines
returns-clause-lines c =
    let past : length c.args.s.now.lines ≤ c.loop-line.line-index = search rules in
    c.loop-line.invariant.lines ∙ take_all c.loop-line.line-index c.args.s.now.lines past

pub returns-clause-legal : goal.returns-clause-legal
returns-clause-legal c =
    legal_in_order 1 c.args.s.now.config.handles c.loop-line.answers
    c.loop-line.invariant.along.follow

pub returns-clause-answered : goal.returns-clause-answered
returns-clause-answered c = c.loop-line.invariant.along.answered

pub returns-clause-leads : goal.returns-clause-leads
returns-clause-leads c =
    let past : length c.args.s.now.lines ≤ c.loop-line.line-index = search rules in
    leads_end c.args.side [] c.loop-line.answers (empty_world c.args.s.now.config) c.loop-line.world
    (subst (λ (ls : List Line). LeadsOn c.args.side (lanes_of ls) []
    (empty_world c.args.s.now.config) c.loop-line.answers
    c.loop-line.world) (drop_all c.loop-line.line-index c.args.s.now.lines past)
    c.loop-line.invariant.along.leads)

pub returns-clause-along : goal.returns-clause-along
returns-clause-along c =
    let past : length c.args.s.now.lines ≤ c.loop-line.line-index = search rules in
    soundly_end c.args.side [] c.loop-line.answers
    (empty_world c.args.s.now.config) c.loop-line.world
    (subst (λ (ls : List Line). LeadsOn c.args.side (lanes_of ls) []
    (empty_world c.args.s.now.config) c.loop-line.answers
    c.loop-line.world) (drop_all c.loop-line.line-index c.args.s.now.lines past)
    c.loop-line.invariant.along.leads)

pub returns-clause-fixes : goal.returns-clause-fixes
returns-clause-fixes c = only_lines c.args.side (empty_world c.args.s.now.config) c.loop-line.world
    c.loop-line.answers (empty_world_sound c.args.s.now.config c.requires.script.config)
    (returns-clause-along c)

pub returns-clause-sound : goal.returns-clause-sound
returns-clause-sound c = c.loop-line.invariant.along.sound

pub returns-clause-holds : goal.returns-clause-holds
returns-clause-holds c = along_holds c.args.side c.args.s.now.config _ c.loop-line.answers
    c.loop-line.world
    c.loop-line.names c.loop-line.invariant.along

pub returns-clause-losses : goal.returns-clause-losses
returns-clause-losses c = c.from.ensures ∙ c.loop-line.invariant.losses

pub returns-clause-in_order : goal.returns-clause-in_order
returns-clause-in_order c = subst AreInOrder (sym (returns-clause-losses c))
    (losses_in_order c.args.side c.loop-line.answers
    (empty_world c.args.s.now.config) c.loop-line.world
    (returns-clause-leads c))

pub returns-clause-scopes : goal.returns-clause-scopes
returns-clause-scopes c = c.loop-line.invariant.along.keep

pub returns-clause-idle : goal.returns-clause-idle
returns-clause-idle c =
    let past : length c.args.s.now.lines ≤ c.loop-line.line-index = search rules in
    λ seat. c.loop-line.invariant.along.scopes.gone seat
    (ap (λ (ls : List Line). lines_by seat (lanes_of ls))
    (drop_all c.loop-line.line-index c.args.s.now.lines past))

pub returns-clause-calm : goal.returns-clause-calm
returns-clause-calm c = λ ease. (c.loop-line.invariant.ease ease).calm

pub returns-clause-alone : goal.returns-clause-alone
returns-clause-alone c = λ ease lane has. ((c.loop-line.invariant.ease ease).alone lane has).kept
