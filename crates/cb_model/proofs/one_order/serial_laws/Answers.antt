use Rattle.cb_model.proofs.Laws.{serial, serial_by_history, serial_by_versions, serial_by_lanes}
use Rattle.cb_model.proofs.one_order.serial_laws.Goals as goal

pub returns-clause-serial_by_times : goal.returns-clause-serial_by_times
returns-clause-serial_by_times c = serial

pub returns-clause-serial_by_history : goal.returns-clause-serial_by_history
returns-clause-serial_by_history c = serial_by_history

pub returns-clause-serial_by_versions : goal.returns-clause-serial_by_versions
returns-clause-serial_by_versions c = serial_by_versions

pub returns-clause-serial_by_lanes : goal.returns-clause-serial_by_lanes
returns-clause-serial_by_lanes c = serial_by_lanes
