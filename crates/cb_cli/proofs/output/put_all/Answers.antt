use Rattle.std.proofs.Common.{List, ℕ, ◌-◌, ◌≤◌, take, drop, subst, ◌∙◌, rules}
use Rattle.std.proofs.lemmas.List.{take-take}
use Rattle.std.specs.Io.KnownBytes.{Appends}
use Rattle.cb_cli.proofs.Streams.{Appends-then, take-add}
use Rattle.cb_cli.proofs.output.put_all.Goals as goal

pub puts-preserved : goal.puts-preserved
puts-preserved g c =
    let held = g.K.Sink.held in
    let done = c.puts.done in
    let count = c.in-Sent.count in
    let bytes = c.args.bytes.now in
    let room : count ≤ c.put_end-end.result - done = search rules in
    let more = subst (λ (piece : List ℕ). Appends (held c.puts.sink) (held c.put.new.self) piece) (take-take count (c.put_end-end.result - done) (drop done bytes) room) c.in-Sent.ensures.bytes in
    let both = Appends-then (held c.args.sink.now) (held c.puts.sink) (held c.put.new.self) (take done bytes) (take count (drop done bytes)) c.puts.invariant.front more in
    record {
      within = search rules;
      front =
          subst (λ (l : List ℕ). Appends (held c.args.sink.now) (held c.put.new.self) l) (take-add done count bytes) both;
      no_fault = c.in-Sent.ensures.no_fault ∙ c.puts.invariant.no_fault;
    }
