pub mod Reader
pub mod IndexReader
pub mod ExpressionReader
pub mod ProgramReader
pub mod Views
