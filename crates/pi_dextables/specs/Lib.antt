-- The bytes of tables, what must hold of tables so that bytes can spell them, and what bytes say of them.
pub mod Items
pub mod Codes
pub mod Rows
pub mod Image
pub mod Writable
pub mod Said
