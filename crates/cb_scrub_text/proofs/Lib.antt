pub mod RowTexts
pub mod HeaderText
pub mod RowsRead
pub mod Fronts
pub mod OneReading
pub mod WorkedRows
pub mod Laws
