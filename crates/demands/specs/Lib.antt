-- The statements that the theorems over the decided results share.
pub mod Kept
pub mod Cause
pub mod Order
pub mod LoadOrder
pub mod LoadDemand
pub mod NamePart
pub mod OrderAfter
pub mod Demand1
pub mod Recognized
pub mod Taken
pub mod Points
pub mod LearnOrder
pub mod Learn
pub mod PointsHistory
