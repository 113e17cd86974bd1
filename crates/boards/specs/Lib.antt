pub mod Boards
pub mod JoinedBoards
pub mod EitherBoards
pub mod Joins
