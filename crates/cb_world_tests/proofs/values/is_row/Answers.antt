use Rattle.cb_world_tests.proofs.values.is_row.Goals as goal

pub foul-is_done-requires : goal.foul-is_done-requires
foul-is_done-requires g c = g.met.N.Numbers.again _ _ c.say-made.ensures

pub say-told-requires : goal.say-told-requires
say-told-requires g c = g.met.N.Numbers.again _ _ c.foul-is_done.ensures

pub all_say-is_for_good-requires : goal.all_say-is_for_good-requires
all_say-is_for_good-requires g c = g.met.N.Numbers.again _ _ c.say-told.ensures

pub returns : goal.returns
returns g c =
    let foul = g.met.N.Numbers.more _ _ _ c.say-made.ensures c.foul-is_done.ensures in
    let told = g.met.N.Numbers.more _ _ _ foul c.say-told.ensures in
    g.met.N.Numbers.more _ _ _ told c.all_say-is_for_good.ensures
