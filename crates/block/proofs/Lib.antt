pub mod PlanFields
pub mod ReceivedBlock
