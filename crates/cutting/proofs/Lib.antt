pub mod Answers
pub mod Rounding
pub mod Summed
pub mod Plans
pub mod Carried
pub mod PlanFields
pub mod Transported
pub mod Agreement
