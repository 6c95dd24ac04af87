pub mod Permitted
pub mod PermittedWorked
pub mod RightsTold
pub mod NoSetUid
pub mod NoSetUidWorked
