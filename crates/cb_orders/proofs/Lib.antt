mod DecodedRow
mod WorkedOrders
mod WorkedDone
