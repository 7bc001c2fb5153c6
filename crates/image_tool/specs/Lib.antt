pub mod FirstFault
pub mod Image
