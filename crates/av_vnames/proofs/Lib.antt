pub mod RowWalks
pub mod Table
pub mod Walks
pub mod KindTables
pub mod SeenMentions
pub mod RepeatedParts
