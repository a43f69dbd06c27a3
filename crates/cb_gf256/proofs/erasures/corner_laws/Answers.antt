use Rattle.cb_gf256.proofs.PublicLaws.{corner_count, corner_row, corner_width, corner_byte, corner_lengths, corner_bytes}
use Rattle.cb_gf256.proofs.erasures.corner_laws.Goals as goal

pub returns-clause-corner_count : goal.returns-clause-corner_count
returns-clause-corner_count c = corner_count

pub returns-clause-corner_row : goal.returns-clause-corner_row
returns-clause-corner_row c = corner_row

pub returns-clause-corner_width : goal.returns-clause-corner_width
returns-clause-corner_width c = corner_width

pub returns-clause-corner_byte : goal.returns-clause-corner_byte
returns-clause-corner_byte c = corner_byte

pub returns-clause-corner_lengths : goal.returns-clause-corner_lengths
returns-clause-corner_lengths c = corner_lengths

pub returns-clause-corner_bytes : goal.returns-clause-corner_bytes
returns-clause-corner_bytes c = corner_bytes
