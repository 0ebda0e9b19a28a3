pub mod Five
mod Ruled
pub mod Said
pub mod Every
pub mod Loops
pub mod Held
