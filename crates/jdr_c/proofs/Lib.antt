-- How a question about no part is answered.
pub mod RefusedRows
