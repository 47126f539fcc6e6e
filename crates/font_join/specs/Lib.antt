pub mod Inside
pub mod Join
pub mod JoinList
pub mod JoinText
pub mod KindInside
pub mod Union
