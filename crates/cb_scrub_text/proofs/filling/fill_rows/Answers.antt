use Rattle.std.proofs.Common.{◌≡◌, ◌<◌, ℕ, length, sym, ◌∙◌, subst, arith, rules}
use Rattle.cb_script.specs.Spelling.{lines_of}
use Rattle.cb_scrub_text.specs.Reading.{StopsAt}
use Rattle.cb_scrub_text.proofs.RowsRead.{filling_none, filling_more, stops_missing, stops_over}
use Rattle.cb_scrub_text.proofs.filling.fill_rows.Goals as goal

pub loop-i-init : goal.loop-i-init
loop-i-init c = record { count = sym c.count-count.ensures; filling = λ len lengths bytes. filling_none len c.args.text.now c.args.rows.now lengths bytes }

pub loop-i-preserved : goal.loop-i-preserved
loop-i-preserved c = record {
  count = c.read_row.ensures.count ∙ c.loop-i.invariant.count;
  filling = λ len lengths bytes.
      let so_far = c.loop-i.invariant.filling len lengths bytes in
      let read = rw c.if-not-branch.false at (c.in_ok-read_row.ensures.read len so_far.lengths) in
      filling_more len (length c.args.rows.now) c.loop-i.i c.args.text.now c.loop-i.rows c.loop-i.rest.now so_far c.first_line.result.0.now c.first_line.result.1.now c.read_row.new.rows
      (omega (arith, c.loop-i-test.true, c.count-count.ensures)) c.first_line.ensures.lines read;
}

pub returns-then-is_empty : goal.returns-then-is_empty
returns-then-is_empty c = λ len lengths bytes.
    let so_far = c.loop-i.invariant.filling len lengths bytes in
    stops_missing len (length c.args.rows.now) c.loop-i.i c.args.text.now c.loop-i.rows c.loop-i.rest.now so_far (omega (arith, c.loop-i-test.true, c.count-count.ensures)) (search rules)

pub returns : goal.returns
returns c = λ len lengths bytes.
    let so_far = c.loop-i.invariant.filling len lengths bytes in
    let all : c.loop-i.i ≡ c.count-count.result = omega (arith, c.loop-i-test.false, c.loop-i.auto.i-end) in
    let some : 0 < length c.loop-i.rest.now = search rules in
    subst (λ (n : ℕ). StopsAt len (length c.args.rows.now) (lines_of c.args.text.now) n) all
    (stops_over len (length c.args.rows.now) c.loop-i.i c.args.text.now c.loop-i.rows c.loop-i.rest.now so_far (all ∙ c.count-count.ensures) some)
