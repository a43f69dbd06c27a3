use Rattle.std.proofs.Common.{ℕ, List, refl, arith, subst}
use Rattle.std.proofs.lemmas.Bool.{false≢true}
use Rattle.cb_types.specs.declared.job.Job.TheVariants as job
use Rattle.cb_lanes.specs.LineGoes.{Calls}
use Rattle.cb_lanes.proofs.NamesKept.{made_behind, made_names, made_ready, refused_names}
use Rattle.cb_lanes.proofs.NamesKept.{refused_ready, reordered}
use Rattle.cb_lanes.proofs.answering.make_named.Goals as goal

pub returns-in_ok-insert-in-Made-clause-names : goal.returns-in_ok-insert-in-Made-clause-names
returns-in_ok-insert-in-Made-clause-names g c =
    made_behind c.args.names.now c.reserve.new.self c.insert.new.self c.args.name.now
    c.args.bytes.now
    c.in-Made.handle c.in-Made.version
    (reordered c.args.names.now c.reserve.new.self c.in_ok-reserve.ensures.entries)
    (made_names c.reserve.new.self c.insert.new.self c.args.name.now c.args.bytes.now
    c.as_slice.result.now c.in-Made.handle c.in-Made.version c.as_slice.ensures.items
    c.in_ok-insert-in-Made.ensures.updates)

pub returns-in_ok-insert-in-Made-clause-ready : goal.returns-in_ok-insert-in-Made-clause-ready
returns-in_ok-insert-in-Made-clause-ready g c =
    made_ready (g.C.Caller.may_name c.args.caller.now c.args.lane.now)
    (g.C.Caller.may_name c.args.caller.now c.turn.new.lane) c.args.names.now c.insert.new.self
    c.args.name.now c.args.bytes.now c.in-Made.handle c.in-Made.version c.requires.ready
    c.in_ok-reply.ensures.stays
    (c.in_ok-reply.ensures.made _ c.in-Made.handle c.in-Made.version refl c.in-Made.is)
    (returns-in_ok-insert-in-Made-clause-names g c)

pub returns-in_err-insert-in-Made-clause-error : goal.returns-in_err-insert-in-Made-clause-error
returns-in_err-insert-in-Made-clause-error g c = let room = c.in_ok-reserve.ensures.ok in
    absurd (false≢true (c.in_err-insert-in-Made.ensures.succeeds (omega (arith, room))))

pub returns-in_default : goal.returns-in_default
returns-in_default g c =
    let same = reordered c.args.names.now c.reserve.new.self
    c.in_ok-reserve.ensures.entries in record {
      step = subst (λ (l : List ℕ). g.C.Caller.goes c.args.caller.now (Calls (job.Make l))
          c.args.lane.now c.in_ok-reply.reply c.turn.new.lane) c.in_ok-copy.ensures.items
          c.in_ok-reply.ensures.goes;
      names = refused_names c.args.names.now c.reserve.new.self c.args.name.now c.args.bytes.now
          c.in_ok-reply.reply c.in_default.not-Made same;
      ready = refused_ready (g.C.Caller.may_name c.args.caller.now c.args.lane.now)
          (g.C.Caller.may_name c.args.caller.now c.turn.new.lane) c.args.names.now
          c.reserve.new.self
          c.requires.ready c.in_ok-reply.ensures.stays same;
      error = tt;
      well = c.in_ok-reply.ensures.well;
    }
