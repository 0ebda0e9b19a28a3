-- That a file which says closed tables keeps the rules.
pub mod TypesKept
pub mod ProtosKept
pub mod FieldsKept
pub mod MethodsKept
pub mod EachCode
pub mod ClassesKept
pub mod ValuesKept
mod RowsApart
mod FieldsListed
mod MethodsListed
pub mod MembersKept
pub mod MethodsClosed
pub mod RangesHeld
pub mod ArgumentWords
pub mod CodesKept
pub mod WalksKept
pub mod IndicesKept
pub mod PayloadsKept
pub mod TextsSaid
pub mod InsnsSaid
pub mod CodesSaid
pub mod ValuesSaid
pub mod Unbroken
pub mod ClassesSaid
