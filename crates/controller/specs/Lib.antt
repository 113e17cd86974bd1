pub mod Rules
pub mod Components
pub mod Draft
pub mod View
