pub mod Compared
pub mod Judged
pub mod Told
pub mod Answers
pub mod Judging
