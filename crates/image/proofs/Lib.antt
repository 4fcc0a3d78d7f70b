mod Attached
mod Holder
mod Placed
mod RowTables
