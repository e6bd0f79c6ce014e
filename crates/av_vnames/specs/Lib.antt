pub mod inner
pub mod KindPorts
pub mod Kinds
pub mod Numbered
pub mod Scoped
