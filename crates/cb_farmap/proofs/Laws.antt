-- What other crates cite.
pub use Rattle.cb_farmap.proofs.Arrays.{array_on, array_stays, list_stays}
pub use Rattle.cb_farmap.proofs.Behind.{on_then}
pub use Rattle.cb_farmap.proofs.Keeping.{knows_it}
pub use Rattle.cb_farmap.proofs.MapEnds.{map_on}
pub use Rattle.cb_farmap.proofs.Running.{fresh_stands}
