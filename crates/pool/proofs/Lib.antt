pub mod AfterStores
pub mod Growth
pub mod Nodes
pub mod RecordStores
pub mod RunStores
mod Samples
pub mod Sets
pub mod SlotStores
pub mod Slots
