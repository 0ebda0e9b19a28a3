-- What is asked of closed tables of each method that a class lists, direct or virtual.
use Rattle.std.proofs.Common.{◌<◌, ◌++◌, length, true, false}
use Rattle.std.specs.Prelude.{All, IfSome}
use Rattle.std.proofs.lemmas.List.Elements.{All-append}
use Rattle.pi_format.proofs.Every.{all_weaker}
use Rattle.pi_dextables.specs.declared.tables.Class.{Class}
use Rattle.pi_dextables.specs.declared.tables.MethodRow.{MethodRow}
use Rattle.pi_dextables.specs.declared.tables.Tables.{Tables}
use Rattle.pi_tablesaid.specs.Closed.{BodyCloses, MethodListed, ClassCloses, IsClosed}
use Rattle.pi_tablesaid.proofs.EachCode.{EachMethod}

-- there is such a method, and what its code names is there
pub record MethodThere (t : Tables) (m : MethodRow) : Type 0 where
  pub id : m.id < length t.methods
  pub code : IfSome m.code (BodyCloses t)

class_there : (t : Tables) (c : Class) → ClassCloses t c → All (MethodThere t) (c.directs ++ c.virtuals)
class_there t c closes =
    All-append (MethodThere t) c.directs c.virtuals
    (all_weaker (MethodListed t c.class true) (MethodThere t) c.directs (λ m listed. record { id = listed.id; code = listed.code }) closes.directs)
    (all_weaker (MethodListed t c.class false) (MethodThere t) c.virtuals (λ m listed. record { id = listed.id; code = listed.code }) closes.virtuals)

pub methods_there : (t : Tables) → IsClosed t → EachMethod (MethodThere t) t.classes
methods_there t closed = all_weaker (ClassCloses t) (λ (c : Class). All (MethodThere t) (c.directs ++ c.virtuals)) t.classes (class_there t) closed.classes
