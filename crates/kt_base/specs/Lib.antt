pub mod Numbers
pub mod Sets
