-- Files whose classes can be said: members, codes and values are there.
use Rattle.std.specs.Prelude.{◌<◌, ℕ, List, Option, Some, None}
use Rattle.std.specs.List.{All}
use Rattle.pi_model.specs.declared.describe.Init.{Init}
use Rattle.pi_model.specs.declared.describe.Init.TheVariants.{Zero}
use Rattle.pi_format.specs.Tables.{count_at, class_defs}
use Rattle.pi_format.specs.Rules.ClassData.{rows_of, methods_in}
use Rattle.pi_format.specs.Rules.Values.{EncodedValue, class_values}
use Rattle.pi_format.specs.Says.Classes.{values_in, init_of}
use Rattle.pi_format.specs.Says.Names.{Named}
use Rattle.pi_dex.specs.Judged.{SaysMethod, IsField, IsInit}
use Rattle.std.specs.Prelude.{slice_get}

pub record SaysClass (file : List ℕ) (i : ℕ) : Type 0 where
  pub statics : All (IsField file) (rows_of file i).statics
  pub instances : All (IsField file) (rows_of file i).instances
  pub methods : All (SaysMethod file) (methods_in (rows_of file i))
  pub values : All (IsInit file) (values_in (class_values file i))

pub record SaysClasses (file : List ℕ) : Type 0 where
  pub each : (i : ℕ) → i < count_at file class_defs → SaysClass file i

-- what the value of a number sets a field to, zero where there is none
abbrev pub init_at : Named → List EncodedValue → ℕ → Init
init_at n values i = by_value n (slice_get values i)
  where
    by_value : Named → Option EncodedValue → Init
    by_value n None = Zero
    by_value n (Some v) = init_of n v
