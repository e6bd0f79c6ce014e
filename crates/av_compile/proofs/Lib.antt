pub mod FirstFaults
pub mod OneChain
pub mod OneRefusal
mod OneUnscheduled
pub mod Pipelined
mod OneUnmapped
pub mod OnlySolution
mod Unscheduled
mod TextProper
pub mod Meant
pub mod Promised
