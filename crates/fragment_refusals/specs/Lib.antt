-- Document 01, "Fragments": what refuses a call on the groups, in the order of the paper's table.
pub mod Order
