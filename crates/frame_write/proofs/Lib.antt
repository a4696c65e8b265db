pub mod Stands
pub mod Rows
pub mod Limits
pub mod WriteCases
pub mod WriteThenRead
pub mod ReadThenWrite
pub mod HeadCases
pub mod ByExampleProfile
