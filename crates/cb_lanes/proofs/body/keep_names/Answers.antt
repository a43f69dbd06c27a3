use Rattle.std.proofs.Common.{rules, ◌≡◌, ◌<◌, [], length, get_or}
use Rattle.cb_lanes.proofs.NamesAmong.{kept_all, keeps_more, keeps_none}
use Rattle.cb_lanes.proofs.NamesKept.{made_names}
use Rattle.cb_lanes.proofs.body.keep_names.Goals as goal
use Rattle.cb_lanes.proofs.body.keep_names.Goals.{in-Some+in_ok-insert, in_default}

pub loop-named-init : goal.loop-named-init
loop-named-init c = λ name. c.requires.none name

pub loop-named-preserved : goal.loop-named-preserved
loop-named-preserved c =
    let i = c.loop-named.named-index in
    let n = c.named-item.result in
    let low : i < length c.args.names.now = search rules in
    let at : n ≡ get_or c.args.names.now i n = search rules in
    elim c.match-named.branch [
      | in-Some+in_ok-insert w ↦ rw w.kept-is (
          keeps_more c.args.names.now i n w.in-Some.handle c.loop-named.kept w.insert.new.self low
          at
          w.in-Some.is c.loop-named.invariant
          (made_names c.loop-named.kept w.insert.new.self n.name
          [] w.as_slice.result.now w.in-Some.handle
          0 w.as_slice.ensures.items w.in_ok-insert.ensures.updates))
      | in_default w ↦ rw w.kept-is (
          keeps_none c.args.names.now i n c.loop-named.kept low at w.in_default.is
          c.loop-named.invariant)
    ]

pub returns : goal.returns
returns c = record {
  kept = kept_all c.args.names.now c.loop-named.named-index c.loop-named.kept
      c.loop-named-test.false
      c.loop-named.invariant;
}
