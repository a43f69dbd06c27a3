use Rattle.cb_world_tests.proofs.tables.are_both_answered.Goals as goal

pub are_answered-requires-2 : goal.are_answered-requires-2
are_answered-requires-2 g c = g.met.A.Asks.again _ _ c.are_answered.ensures

pub returns-in_err-is_then : goal.returns-in_err-is_then
returns-in_err-is_then g c = g.met.A.Asks.more _ _ _ c.are_answered.ensures c.are_answered-2.ensures

pub returns-then-is_first : goal.returns-then-is_first
returns-then-is_first g c = g.met.A.Asks.more _ _ _ c.are_answered.ensures c.are_answered-2.ensures

pub returns-else-is_first : goal.returns-else-is_first
returns-else-is_first g c = g.met.A.Asks.more _ _ _ c.are_answered.ensures c.are_answered-2.ensures
