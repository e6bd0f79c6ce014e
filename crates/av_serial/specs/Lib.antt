pub mod Lines
pub mod SerialForm
pub mod SerialFaults
pub mod Dependences
pub mod inner
