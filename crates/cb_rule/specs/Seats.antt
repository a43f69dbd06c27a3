-- What the views count.
use Rattle.std.specs.Prelude.{ℕ, ◌+◌, Bool, cond, eqb}
use Rattle.cb_rule.specs.declared.view.Held.{Held}
use Rattle.cb_rule.specs.declared.view.Stand.{Stand}
use Rattle.cb_rule.specs.declared.view.View.{View}
use Rattle.cb_rule.specs.History.{is_version}
use Rattle.cb_rule.specs.Lists.{times}

abbrev pub pins_it : ℕ → Stand → Bool
pins_it h p = eqb p.handle h

abbrev pub claims_it : ℕ → Held → Bool
claims_it h x = eqb x.handle h

-- its pins on an object
abbrev pub pins_on : ℕ → View → ℕ
pins_on h v = times (pins_it h) v.pins

-- its claims of an object
abbrev pub claims_on : ℕ → View → ℕ
claims_on h v = times (claims_it h) v.claims

-- its written entries of a version
abbrev pub written_on : ℕ → ℕ → View → ℕ
written_on h k v = times (is_version h k) v.fresh + times (is_version h k) v.written

abbrev pub holding : View → ℕ
holding v = cond v.holds 1 0

abbrev pub share_of : View → ℕ
share_of v = v.share
