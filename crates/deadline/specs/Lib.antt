pub mod Queues
pub mod DeadlineBoards
pub mod Deadlines
