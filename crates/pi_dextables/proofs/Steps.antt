-- Where the parts of a file begin, as equations.
use Rattle.std.proofs.Common.{◌≡◌, ◌+◌, ◌*◌, length, refl}
use Rattle.pi_dextables.specs.declared.tables.Tables.{Tables}
use Rattle.pi_dextables.specs.Image.{kind_counts, positive, types_begin, protos_begin, fields_begin, methods_begin, classes_begin, map_begin, lists_begin, lists_part, codes_begin, codes_part, strings_begin, strings_part, members_begin, members_part, arrays_begin, arrays_part, file_end}

pub record Steps (t : Tables) : Type 0 where
  pub types : types_begin t ≡ 112 + 4 * length t.strings
  pub protos : protos_begin t ≡ types_begin t + 4 * length t.types
  pub fields : fields_begin t ≡ protos_begin t + 12 * length t.protos
  pub methods : methods_begin t ≡ fields_begin t + 8 * length t.fields
  pub classes : classes_begin t ≡ methods_begin t + 8 * length t.methods
  pub map : map_begin t ≡ classes_begin t + 32 * length t.classes
  pub lists : lists_begin t ≡ map_begin t + 4 + 12 * positive (kind_counts t)
  pub codes : codes_begin t ≡ lists_begin t + length (lists_part t)
  pub strings : strings_begin t ≡ codes_begin t + length (codes_part t)
  pub members : members_begin t ≡ strings_begin t + length (strings_part t)
  pub arrays : arrays_begin t ≡ members_begin t + length (members_part t)
  pub end : file_end t ≡ arrays_begin t + length (arrays_part t)

pub steps : (t : Tables) → Steps t
unfolding types_begin protos_begin fields_begin methods_begin classes_begin map_begin lists_begin codes_begin strings_begin members_begin arrays_begin file_end
steps t = record { types = refl; protos = refl; fields = refl; methods = refl; classes = refl; map = refl; lists = refl; codes = refl; strings = refl; members = refl; arrays = refl; end = refl }
