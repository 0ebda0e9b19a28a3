-- Why tables are not written, and where the tables of a file begin.
use Rattle.std.specs.Prelude.{◌≡◌, ◌<◌, ◌≤◌, length}
use Rattle.pi_bytes.specs.Numbers.{most_bytes}
use Rattle.pi_dextables.specs.Image.{types_begin, protos_begin, fields_begin, methods_begin, classes_begin, map_begin, image}
use Rattle.pi_dextables.specs.Writable.{IsShort, PlacesFit}
use Rattle.pi_dextables.specs.declared.tables.Tables.{Tables}
use Rattle.pi_dexlay.specs.declared.begins.Begins.{Begins}
use Rattle.pi_dexlay.specs.declared.fault.LayError.{LayError}
use Rattle.pi_dexlay.specs.declared.fault.LayError.TheVariants.{OutOfMemory, TooLong, HandlerOffset}

-- The file is longer than a file may be; or it is not, and the place of some list of handlers does not fit its 16 bits. A
-- want of memory says nothing.
abbrev pub IsCause : Tables → LayError → Type 0
IsCause t OutOfMemory = Unit {0}
IsCause t TooLong = most_bytes < length (image t)
IsCause t HandlerOffset = IsShort t × (PlacesFit t → ⊥)

-- the tables begin there, and the map
pub record AreBegins (t : Tables) (b : Begins) : Type 0 where
  pub types : b.types ≡ types_begin t
  pub protos : b.protos ≡ protos_begin t
  pub fields : b.fields ≡ fields_begin t
  pub methods : b.methods ≡ methods_begin t
  pub classes : b.classes ≡ classes_begin t
  pub map : b.map ≡ map_begin t
  pub few : map_begin t ≤ most_bytes
