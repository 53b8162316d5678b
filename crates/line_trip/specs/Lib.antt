-- Document 01, "The ihave line": the writer's order, of a line that was read.
pub mod Order
