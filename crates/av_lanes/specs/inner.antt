pub mod Forms
pub mod Engine
pub mod Order
pub mod Taking
