use Rattle.std.proofs.Common.{rules, ◌≡◌, ◌<◌, length, get_or}
use Rattle.cb_model.proofs.map.MapState.read.Goals as goal
use Rattle.cb_model.proofs.Reading.{shows}

pub returns-in-Some : goal.returns-in-Some
returns-in-Some c =
    let old = c.args.self.now in
    let object = c.in-Some.object.now in
    let lt : c.args.handle.n < length old.objects = search rules in
    let at : object ≡ get_or old.objects c.args.handle.n object = search rules in
    record { reply = shows old c.args.handle object c.read.result lt at c.read.ensures.reply c.read.ensures.effect }
