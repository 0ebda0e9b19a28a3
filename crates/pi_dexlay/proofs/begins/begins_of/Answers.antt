use Rattle.std.proofs.Common.{◌≡◌, ◌+◌, ◌*◌, ◌<◌, refl, arith}
use Rattle.pi_bytes.specs.Numbers.{most_bytes}
use Rattle.pi_dextables.specs.Image.{types_begin, protos_begin, fields_begin, methods_begin, classes_begin, map_begin, file_end}
use Rattle.pi_dextables.proofs.Head.{ordered}
use Rattle.pi_dexlay.proofs.Ends.{at_types, at_protos, at_fields, at_methods, at_classes, at_map, beyond, any_none}
use Rattle.pi_dexlay.proofs.begins.begins_of.Goals as goal

pub returns-in_err-types-clause-long : goal.returns-in_err-types-clause-long
returns-in_err-types-clause-long c =
    let t = c.args.tables.now in
    let o = ordered t in
    let is : 112 + 4 * c.len.result ≡ types_begin t = at_types t c.len.result (112 + 4 * c.len.result) c.len.ensures refl in
    any_none c.from_residual.result (most_bytes < file_end t)
    (beyond (112 + 4 * c.len.result) (types_begin t) (file_end t) most_bytes is (omega (arith, o.protos, o.fields, o.methods, o.classes, o.map, o.lists, o.codes, o.strings, o.members, o.arrays, o.end)) c.in_err-types.ensures.long)

pub returns-in_err-protos-clause-long : goal.returns-in_err-protos-clause-long
returns-in_err-protos-clause-long c =
    let t = c.args.tables.now in
    let o = ordered t in
    let types_is : c.in_ok-types.types ≡ types_begin t = at_types t c.len.result c.in_ok-types.types c.len.ensures c.in_ok-types.ensures.end in
    let is : c.in_ok-types.types + 4 * c.len-2.result ≡ protos_begin t = at_protos t c.in_ok-types.types c.len-2.result (c.in_ok-types.types + 4 * c.len-2.result) types_is c.len-2.ensures refl in
    any_none c.from_residual-in_err-protos.result (most_bytes < file_end t)
    (beyond (c.in_ok-types.types + 4 * c.len-2.result) (protos_begin t) (file_end t) most_bytes is (omega (arith, o.fields, o.methods, o.classes, o.map, o.lists, o.codes, o.strings, o.members, o.arrays, o.end)) c.in_err-protos.ensures.long)

pub returns-in_err-fields-clause-long : goal.returns-in_err-fields-clause-long
returns-in_err-fields-clause-long c =
    let t = c.args.tables.now in
    let o = ordered t in
    let types_is : c.in_ok-types.types ≡ types_begin t = at_types t c.len.result c.in_ok-types.types c.len.ensures c.in_ok-types.ensures.end in
    let protos_is : c.in_ok-protos.protos ≡ protos_begin t = at_protos t c.in_ok-types.types c.len-2.result c.in_ok-protos.protos types_is c.len-2.ensures c.in_ok-protos.ensures.end in
    let is : c.in_ok-protos.protos + 12 * c.len-3.result ≡ fields_begin t = at_fields t c.in_ok-protos.protos c.len-3.result (c.in_ok-protos.protos + 12 * c.len-3.result) protos_is c.len-3.ensures refl in
    any_none c.from_residual-in_err-fields.result (most_bytes < file_end t)
    (beyond (c.in_ok-protos.protos + 12 * c.len-3.result) (fields_begin t) (file_end t) most_bytes is (omega (arith, o.methods, o.classes, o.map, o.lists, o.codes, o.strings, o.members, o.arrays, o.end)) c.in_err-fields.ensures.long)

pub returns-in_err-methods-clause-long : goal.returns-in_err-methods-clause-long
returns-in_err-methods-clause-long c =
    let t = c.args.tables.now in
    let o = ordered t in
    let types_is : c.in_ok-types.types ≡ types_begin t = at_types t c.len.result c.in_ok-types.types c.len.ensures c.in_ok-types.ensures.end in
    let protos_is : c.in_ok-protos.protos ≡ protos_begin t = at_protos t c.in_ok-types.types c.len-2.result c.in_ok-protos.protos types_is c.len-2.ensures c.in_ok-protos.ensures.end in
    let fields_is : c.in_ok-fields.fields ≡ fields_begin t = at_fields t c.in_ok-protos.protos c.len-3.result c.in_ok-fields.fields protos_is c.len-3.ensures c.in_ok-fields.ensures.end in
    let is : c.in_ok-fields.fields + 8 * c.len-4.result ≡ methods_begin t = at_methods t c.in_ok-fields.fields c.len-4.result (c.in_ok-fields.fields + 8 * c.len-4.result) fields_is c.len-4.ensures refl in
    any_none c.from_residual-in_err-methods.result (most_bytes < file_end t)
    (beyond (c.in_ok-fields.fields + 8 * c.len-4.result) (methods_begin t) (file_end t) most_bytes is (omega (arith, o.classes, o.map, o.lists, o.codes, o.strings, o.members, o.arrays, o.end)) c.in_err-methods.ensures.long)

pub returns-in_err-classes-clause-long : goal.returns-in_err-classes-clause-long
returns-in_err-classes-clause-long c =
    let t = c.args.tables.now in
    let o = ordered t in
    let types_is : c.in_ok-types.types ≡ types_begin t = at_types t c.len.result c.in_ok-types.types c.len.ensures c.in_ok-types.ensures.end in
    let protos_is : c.in_ok-protos.protos ≡ protos_begin t = at_protos t c.in_ok-types.types c.len-2.result c.in_ok-protos.protos types_is c.len-2.ensures c.in_ok-protos.ensures.end in
    let fields_is : c.in_ok-fields.fields ≡ fields_begin t = at_fields t c.in_ok-protos.protos c.len-3.result c.in_ok-fields.fields protos_is c.len-3.ensures c.in_ok-fields.ensures.end in
    let methods_is : c.in_ok-methods.methods ≡ methods_begin t = at_methods t c.in_ok-fields.fields c.len-4.result c.in_ok-methods.methods fields_is c.len-4.ensures c.in_ok-methods.ensures.end in
    let is : c.in_ok-methods.methods + 8 * c.len-5.result ≡ classes_begin t = at_classes t c.in_ok-methods.methods c.len-5.result (c.in_ok-methods.methods + 8 * c.len-5.result) methods_is c.len-5.ensures refl in
    any_none c.from_residual-in_err-classes.result (most_bytes < file_end t)
    (beyond (c.in_ok-methods.methods + 8 * c.len-5.result) (classes_begin t) (file_end t) most_bytes is (omega (arith, o.map, o.lists, o.codes, o.strings, o.members, o.arrays, o.end)) c.in_err-classes.ensures.long)

pub returns-in_err-map-clause-long : goal.returns-in_err-map-clause-long
returns-in_err-map-clause-long c =
    let t = c.args.tables.now in
    let o = ordered t in
    let types_is : c.in_ok-types.types ≡ types_begin t = at_types t c.len.result c.in_ok-types.types c.len.ensures c.in_ok-types.ensures.end in
    let protos_is : c.in_ok-protos.protos ≡ protos_begin t = at_protos t c.in_ok-types.types c.len-2.result c.in_ok-protos.protos types_is c.len-2.ensures c.in_ok-protos.ensures.end in
    let fields_is : c.in_ok-fields.fields ≡ fields_begin t = at_fields t c.in_ok-protos.protos c.len-3.result c.in_ok-fields.fields protos_is c.len-3.ensures c.in_ok-fields.ensures.end in
    let methods_is : c.in_ok-methods.methods ≡ methods_begin t = at_methods t c.in_ok-fields.fields c.len-4.result c.in_ok-methods.methods fields_is c.len-4.ensures c.in_ok-methods.ensures.end in
    let classes_is : c.in_ok-classes.classes ≡ classes_begin t = at_classes t c.in_ok-methods.methods c.len-5.result c.in_ok-classes.classes methods_is c.len-5.ensures c.in_ok-classes.ensures.end in
    let is : c.in_ok-classes.classes + 32 * c.len-6.result ≡ map_begin t = at_map t c.in_ok-classes.classes c.len-6.result (c.in_ok-classes.classes + 32 * c.len-6.result) classes_is c.len-6.ensures refl in
    any_none c.from_residual-in_err-map.result (most_bytes < file_end t)
    (beyond (c.in_ok-classes.classes + 32 * c.len-6.result) (map_begin t) (file_end t) most_bytes is (omega (arith, o.lists, o.codes, o.strings, o.members, o.arrays, o.end)) c.in_err-map.ensures.long)

pub returns-clause-begins : goal.returns-clause-begins
returns-clause-begins c =
    let t = c.args.tables.now in
    let o = ordered t in
    let types_is : c.in_ok-types.types ≡ types_begin t = at_types t c.len.result c.in_ok-types.types c.len.ensures c.in_ok-types.ensures.end in
    let protos_is : c.in_ok-protos.protos ≡ protos_begin t = at_protos t c.in_ok-types.types c.len-2.result c.in_ok-protos.protos types_is c.len-2.ensures c.in_ok-protos.ensures.end in
    let fields_is : c.in_ok-fields.fields ≡ fields_begin t = at_fields t c.in_ok-protos.protos c.len-3.result c.in_ok-fields.fields protos_is c.len-3.ensures c.in_ok-fields.ensures.end in
    let methods_is : c.in_ok-methods.methods ≡ methods_begin t = at_methods t c.in_ok-fields.fields c.len-4.result c.in_ok-methods.methods fields_is c.len-4.ensures c.in_ok-methods.ensures.end in
    let classes_is : c.in_ok-classes.classes ≡ classes_begin t = at_classes t c.in_ok-methods.methods c.len-5.result c.in_ok-classes.classes methods_is c.len-5.ensures c.in_ok-classes.ensures.end in
    let map_is : c.in_ok-map.map ≡ map_begin t = at_map t c.in_ok-classes.classes c.len-6.result c.in_ok-map.map classes_is c.len-6.ensures c.in_ok-map.ensures.end in
    record {
      types = types_is;
      protos = protos_is;
      fields = fields_is;
      methods = methods_is;
      classes = classes_is;
      map = map_is;
      few = (let e = map_is in let le = c.in_ok-map.ensures.within in omega (arith, e, le));
    }
