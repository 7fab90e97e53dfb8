mod Examples
pub mod NumberLaws
