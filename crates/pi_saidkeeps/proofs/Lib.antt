-- Why what the format asks holds of the classes that a file says.
pub mod Each
pub mod Texts
pub mod Methods
pub mod Fittings
pub mod Values
pub mod Defaults
pub mod Given
pub mod Inits
pub mod Ranges
pub mod Catches
pub mod Bodies
pub mod Opcodes
pub mod Payloads
pub mod Pieces
pub mod Lines
pub mod Keys
pub mod Items
pub mod Switches
mod Lists
mod Spelled
mod Apart
mod Rising
mod Entries
mod Lowest
mod FieldNames
mod InsnNames
mod CatchNames
mod MethodNames
mod Naming
mod Classes
mod ListedFields
mod ListedMethods
mod Members
mod Whole
mod Frame
mod Files
