-- What an instruction names is said again, and its index names an entry.
use Rattle.std.proofs.Common.{◌≡◌, ℕ, ◌<◌, Bool, true, nat_lt, List, length, map, refl, ap}
use Rattle.std.specs.List.{All, AllByRecursion}
use Rattle.std.proofs.lemmas.Bool.{lt-ltb}
use Rattle.std.proofs.lemmas.List.{length-map}
use Rattle.std.proofs.lemmas.List.Elements.{All-from_recursion}
use Rattle.pi_model.specs.declared.insn.Insn.{Insn}
use Rattle.pi_model.specs.declared.insn.Insn.TheVariants as insn
use Rattle.pi_insn.specs.declared.raw.RawBody.{RawBody}
use Rattle.pi_insn.specs.declared.raw.RawBody.TheVariants.{Filled, Invoke}
use Rattle.pi_dextables.specs.declared.tables.Class.{Class}
use Rattle.pi_contents.specs.Contents.{Naming, NoName, OfText, OfType, OfField, OfMethod}
use Rattle.pi_tablesaid.specs.Entries.{text_at, type_at, field_at, method_at}
use Rattle.pi_tablesaid.specs.Content.{naming_said}
use Rattle.pi_tablesaid.specs.Closed.{index_closes}
use Rattle.pi_classtables.specs.Numbers.{Pools, index_of, string_no, type_no, field_no, method_no, field_entry, method_entry}
use Rattle.pi_classtables.specs.Forms.{raw_bodies}
use Rattle.pi_classtables.specs.Whole.{tables_with}
use Rattle.pi_classtables.specs.Sized.{is_text, is_type, is_field, is_method, is_nothing, names_alike}
use Rattle.pi_classlaws.proofs.Known.{HoldsNaming, text_again, type_again, field_again, method_again}
use Rattle.pi_classlaws.proofs.Registers.{all_listings}

-- a naming that is said again, and a test of its index that holds
record IsNamed (naming said : Naming) (closes : Bool) : Type 0 where
  again : said ≡ naming
  passes : closes ≡ true

-- an index below the count of a table is below that of the entries that are made of it
there_mapped : {A B : Type 0} (f : A → B) (xs : List A) (n : ℕ) → n < length xs → nat_lt n (length (map f xs)) ≡ true
there_mapped f xs n less = lt-ltb n (length (map f xs)) (simp length-map less)

module _ (p : Pools) (classes : List Class) where
  -- by the kind of what is named
  text_named : (naming : Naming) → is_text naming ≡ true → HoldsNaming p naming
      → IsNamed naming (OfText (text_at (tables_with p classes) (index_of p naming))) (nat_lt (index_of p naming) (length p.strings))
  text_named (OfText s) alike held = record {
    again = ap OfText (text_again p classes s held);
    passes = lt-ltb (string_no p s) (length p.strings) held.number;
  }
  text_named _ alike held = cc

  type_named : (naming : Naming) → is_type naming ≡ true → HoldsNaming p naming
      → IsNamed naming (OfType (type_at (tables_with p classes) (index_of p naming))) (nat_lt (index_of p naming) (length (map (string_no p) p.types)))
  type_named (OfType u) alike held = record {
    again = ap OfType (type_again p classes u held);
    passes = there_mapped (string_no p) p.types (type_no p u) held.number;
  }
  type_named _ alike held = cc

  field_named : (naming : Naming) → is_field naming ≡ true → HoldsNaming p naming
      → IsNamed naming (OfField (field_at (tables_with p classes) (index_of p naming))) (nat_lt (index_of p naming) (length (map (field_entry p) p.fields)))
  field_named (OfField f) alike held = record {
    again = ap OfField (field_again p classes f held);
    passes = there_mapped (field_entry p) p.fields (field_no p f) held.number;
  }
  field_named _ alike held = cc

  method_named : (naming : Naming) → is_method naming ≡ true → HoldsNaming p naming
      → IsNamed naming (OfMethod (method_at (tables_with p classes) (index_of p naming))) (nat_lt (index_of p naming) (length (map (method_entry p) p.methods)))
  method_named (OfMethod m) alike held = record {
    again = ap OfMethod (method_again p classes m held);
    passes = there_mapped (method_entry p) p.methods (method_no p m) held.number;
  }
  method_named _ alike held = cc

  nothing_named : (naming : Naming) → is_nothing naming ≡ true → IsNamed naming NoName true
  nothing_named NoName alike = record { again = refl; passes = refl }
  nothing_named _ alike = cc

  -- by the instruction
  abbrev Names : Naming → RawBody → Type 0
  Names naming body = IsNamed naming (naming_said (tables_with p classes) body) (index_closes (tables_with p classes) body)

  each_names : (at payload : ℕ) (x : Insn) (naming : Naming) → names_alike x naming ≡ true → HoldsNaming p naming
      → AllByRecursion (Names naming) (raw_bodies (index_of p naming) at payload x)
  unfolding raw_bodies naming_said
  each_names at payload (insn.ConstString a s) naming alike held = (text_named naming alike held, tt)
  each_names at payload (insn.ConstClass a u) naming alike held = (type_named naming alike held, tt)
  each_names at payload (insn.CheckCast a u) naming alike held = (type_named naming alike held, tt)
  each_names at payload (insn.InstanceOf a b u) naming alike held = (type_named naming alike held, tt)
  each_names at payload (insn.NewInstance a u) naming alike held = (type_named naming alike held, tt)
  each_names at payload (insn.NewArray a b u) naming alike held = (type_named naming alike held, tt)
  each_names at payload (insn.Filled u regs) naming alike held =
      all_listings (Names naming) (λ raw. Filled (index_of p naming) raw) regs (λ raw s. type_named naming alike held)
  each_names at payload (insn.Iget kind a b f) naming alike held = (field_named naming alike held, tt)
  each_names at payload (insn.Iput kind a b f) naming alike held = (field_named naming alike held, tt)
  each_names at payload (insn.Sget kind a f) naming alike held = (field_named naming alike held, tt)
  each_names at payload (insn.Sput kind a f) naming alike held = (field_named naming alike held, tt)
  each_names at payload (insn.Invoke how m regs) naming alike held =
      all_listings (Names naming) (λ raw. Invoke how (index_of p naming) raw) regs (λ raw s. method_named naming alike held)
  each_names at payload _ naming alike held = (nothing_named naming alike, tt)

  all_names : (at payload : ℕ) (x : Insn) (naming : Naming) → names_alike x naming ≡ true → HoldsNaming p naming
      → All (Names naming) (raw_bodies (index_of p naming) at payload x)
  all_names at payload x naming alike held =
      All-from_recursion (Names naming) (raw_bodies (index_of p naming) at payload x) (each_names at payload x naming alike held)

  pub naming_again : (at payload : ℕ) (x : Insn) (naming : Naming) → names_alike x naming ≡ true → HoldsNaming p naming
      → All (λ body. naming_said (tables_with p classes) body ≡ naming) (raw_bodies (index_of p naming) at payload x)
  naming_again at payload x naming alike held = λ k d less. (all_names at payload x naming alike held k d less).again

  pub closes_again : (at payload : ℕ) (x : Insn) (naming : Naming) → names_alike x naming ≡ true → HoldsNaming p naming
      → All (λ body. index_closes (tables_with p classes) body ≡ true) (raw_bodies (index_of p naming) at payload x)
  closes_again at payload x naming alike held = λ k d less. (all_names at payload x naming alike held k d less).passes
