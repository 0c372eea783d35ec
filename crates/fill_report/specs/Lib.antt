pub mod Report
pub mod Writing
pub mod RulesReport
pub mod BookReport
