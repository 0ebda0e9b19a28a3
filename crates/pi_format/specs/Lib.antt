-- What the bytes of a file say.
pub mod Tables
pub mod Core
pub mod Rules
pub mod Says
