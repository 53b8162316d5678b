-- Document 01, "Numbers the node says no with": the refusals of a line in their order.
pub mod Order
