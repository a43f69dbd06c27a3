use Rattle.std.proofs.Common.{Ok, Err, sym, ◌∙◌}
use Rattle.cb_cli.specs.declared.outcome.Due.TheVariants.{Done, WordsRefused, ScriptRefused}
use Rattle.cb_cli.specs.declared.outcome.Failure.TheVariants.{Read, Write, NoMemory}
use Rattle.cb_cli.proofs.Laws.{same_outcome, status_of-le}
use Rattle.cb_app.proofs.OwnTexts.{texts_alike}
use Rattle.cb_app.proofs.Tops.{ends_at, rose_at_read, rose_at_write, stays_but_read, stays_but_write, words_status, drawn_status, due_status}
use Rattle.cb_app.proofs.top.carbink_run.Goals as goal

pub returns-clause-statuses : goal.returns-clause-statuses
returns-clause-statuses g c = rw c.status.ensures (status_of-le c.run.result)

pub returns-clause-done : goal.returns-clause-done
returns-clause-done g c = λ is.
    let left = g.S.Source.left in
    let held = g.K.Sink.held in
    ends_at c.args.words.now (left c.args.src.now) (left c.run.new.source) (held c.args.out.now) (held c.run.new.sink) c.args.end.now c.run.new.end c.run.result (Ok Done) c.status.result c.run.ensures.ends c.status.ensures is

pub returns-clause-words_refused : goal.returns-clause-words_refused
returns-clause-words_refused g c = λ is.
    let left = g.S.Source.left in
    let held = g.K.Sink.held in
    (ends_at c.args.words.now (left c.args.src.now) (left c.run.new.source) (held c.args.out.now) (held c.run.new.sink) c.args.end.now c.run.new.end c.run.result (Ok WordsRefused) c.status.result c.run.ensures.ends c.status.ensures is).0

pub returns-clause-words_text : goal.returns-clause-words_text
returns-clause-words_text g c = λ is.
    let left = g.S.Source.left in
    let held = g.K.Sink.held in
    (ends_at c.args.words.now (left c.args.src.now) (left c.run.new.source) (held c.args.out.now) (held c.run.new.sink) c.args.end.now c.run.new.end c.run.result (Ok WordsRefused) c.status.result c.run.ensures.ends c.status.ensures is).1

pub returns-clause-words_end : goal.returns-clause-words_end
returns-clause-words_end g c = λ is.
    let left = g.S.Source.left in
    let held = g.K.Sink.held in (
      c.run.ensures.untaken (same_outcome c.run.result (Ok WordsRefused) (sym c.status.ensures ∙ is)),
      (ends_at c.args.words.now (left c.args.src.now) (left c.run.new.source) (held c.args.out.now) (held c.run.new.sink) c.args.end.now c.run.new.end c.run.result (Ok WordsRefused) c.status.result c.run.ensures.ends c.status.ensures is).2,
    )

pub returns-clause-refuses : goal.returns-clause-refuses
returns-clause-refuses g c = λ none. (
  c.run.ensures.unread none,
  words_status c.run.result c.status.result c.status.ensures (c.run.ensures.refuses none),
)

pub returns-clause-script_refused : goal.returns-clause-script_refused
returns-clause-script_refused g c = λ is.
    let left = g.S.Source.left in
    let held = g.K.Sink.held in
    (ends_at c.args.words.now (left c.args.src.now) (left c.run.new.source) (held c.args.out.now) (held c.run.new.sink) c.args.end.now c.run.new.end c.run.result (Ok ScriptRefused) c.status.result c.run.ensures.ends c.status.ensures is).0

pub returns-clause-script_end : goal.returns-clause-script_end
returns-clause-script_end g c = λ is.
    let left = g.S.Source.left in
    let held = g.K.Sink.held in
    (ends_at c.args.words.now (left c.args.src.now) (left c.run.new.source) (held c.args.out.now) (held c.run.new.sink) c.args.end.now c.run.new.end c.run.result (Ok ScriptRefused) c.status.result c.run.ensures.ends c.status.ensures is).1

pub returns-clause-read_fault : goal.returns-clause-read_fault
returns-clause-read_fault g c = λ is.
    rose_at_read c.run.result c.status.result (g.S.Source.faults c.args.src.now) (g.S.Source.faults c.run.new.source) c.status.ensures c.run.ensures.reads is

pub returns-clause-no_read_fault : goal.returns-clause-no_read_fault
returns-clause-no_read_fault g c = λ other.
    stays_but_read c.run.result c.status.result (g.S.Source.faults c.args.src.now) (g.S.Source.faults c.run.new.source) c.status.ensures c.run.ensures.reads other

pub returns-clause-read_end : goal.returns-clause-read_end
returns-clause-read_end g c = λ is.
    let left = g.S.Source.left in
    let held = g.K.Sink.held in (
      c.run.ensures.read_puts (same_outcome c.run.result (Err Read) (sym c.status.ensures ∙ is)),
      ends_at c.args.words.now (left c.args.src.now) (left c.run.new.source) (held c.args.out.now) (held c.run.new.sink) c.args.end.now c.run.new.end c.run.result (Err Read) c.status.result c.run.ensures.ends c.status.ensures is,
    )

pub returns-clause-write_fault : goal.returns-clause-write_fault
returns-clause-write_fault g c = λ is.
    rose_at_write c.run.result c.status.result (g.K.Sink.faults c.args.out.now) (g.K.Sink.faults c.run.new.sink) c.status.ensures c.run.ensures.writes is

pub returns-clause-no_write_fault : goal.returns-clause-no_write_fault
returns-clause-no_write_fault g c = λ other.
    stays_but_write c.run.result c.status.result (g.K.Sink.faults c.args.out.now) (g.K.Sink.faults c.run.new.sink) c.status.ensures c.run.ensures.writes other

pub returns-clause-cut : goal.returns-clause-cut
returns-clause-cut g c = λ is.
    let left = g.S.Source.left in
    let held = g.K.Sink.held in
    ends_at c.args.words.now (left c.args.src.now) (left c.run.new.source) (held c.args.out.now) (held c.run.new.sink) c.args.end.now c.run.new.end c.run.result (Err Write) c.status.result c.run.ensures.ends c.status.ensures is

pub returns-clause-memory_end : goal.returns-clause-memory_end
returns-clause-memory_end g c = λ is.
    let left = g.S.Source.left in
    let held = g.K.Sink.held in (
      c.run.ensures.memory_puts (same_outcome c.run.result (Err NoMemory) (sym c.status.ensures ∙ is)),
      ends_at c.args.words.now (left c.args.src.now) (left c.run.new.source) (held c.args.out.now) (held c.run.new.sink) c.args.end.now c.run.new.end c.run.result (Err NoMemory) c.status.result c.run.ensures.ends c.status.ensures is,
    )

pub returns-clause-most : goal.returns-clause-most
returns-clause-most g c = c.run.ensures.most

pub returns-clause-complete : goal.returns-clause-complete
returns-clause-complete g c = λ command named bytes told accepted.
    due_status c.run.result Done c.status.result c.status.ensures ((c.run.ensures.decided command named).accepted bytes told accepted)

pub returns-clause-refused : goal.returns-clause-refused
returns-clause-refused g c = λ command named bytes text told refuses.
    due_status c.run.result ScriptRefused c.status.result c.status.ensures ((c.run.ensures.decided command named).refused bytes text told refuses)

pub returns-clause-draws : goal.returns-clause-draws
returns-clause-draws g c = λ plan asks.
    let drawn = c.run.ensures.draws plan asks in
    (drawn.0, drawn_status c.run.result c.status.result c.status.ensures drawn.1 drawn.2)

pub returns-clause-alike : goal.returns-clause-alike
returns-clause-alike g c = texts_alike
