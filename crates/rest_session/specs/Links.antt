pub mod Links
pub mod Replies
pub mod Steps
pub use Rattle.edge_traits.specs.Causes
pub use Rattle.http_wire.specs.Messages
pub use Rattle.http_wire.specs.Heard
pub use Rattle.http_wire.specs.Replies as WireReplies
