pub mod Fronts
pub mod BytesRead
pub mod Following
pub mod Streams
