pub mod Cursors
pub mod Events
pub mod Items
pub mod Moves
pub mod Walks
