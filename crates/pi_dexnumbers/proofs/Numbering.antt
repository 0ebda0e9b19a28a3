-- That ranked rows are the tables and the numbers of what is gathered.
use Rattle.std.proofs.Common.{◌≡◌, ℕ, ◌<◌, ◌≤◌, ◌^◌, List, [], ◌∷◌, map, length, refl, ap, ◌∙◌, arith}
use Rattle.std.specs.List.{All}
use Rattle.std.proofs.lemmas.List.{length-map}
use Rattle.std.proofs.lemmas.List.Elements.{All-head, All-tail, All-map, All-weaker}
use Rattle.pi_contents.specs.Naming.{short_form}
use Rattle.pi_classtables.specs.Sorted.{sorted, text_order}
use Rattle.pi_classtables.specs.Numbers.{string_no, type_no, proto_no, field_no, method_no, proto_order, field_order, method_order, proto_entry, field_entry, method_entry}
use Rattle.pi_classtables.proofs.Held.{HoldsText, HoldsType, HoldsProto, HoldsField, HoldsMethod}
use Rattle.pi_dexpools.specs.declared.gathered.Gathered.{Gathered}
use Rattle.pi_dexpools.specs.declared.gathered.ProtoParts.{ProtoParts}
use Rattle.pi_dexpools.specs.Ranked.{text_at, type_at, proto_of, field_of, method_of, contents, sorted_pools, numbering, ProtoIsWhole, FieldIsWhole, MethodIsWhole, AreWhole}
use Rattle.pi_dexnumbers.specs.Rows.{rank_at, row_places, type_row, proto_row, proto_lines, member_row, type_of_row, proto_of_line, member_of_row}
use Rattle.pi_dexnumbers.proofs.Mapped.{map_through, entries_mapped, ranks_mapped, sorted_short}
use Rattle.pi_dexnumbers.proofs.Holds.{numbering_rises, types_numbered, protos_numbered, types_hold, protos_hold, fields_hold, methods_hold}
use Rattle.pi_dexnumbers.proofs.Ranks.{text_ranks, type_ranks, proto_ranks, text_rank, type_rank, proto_rank, type_image, proto_image, line_image, field_image, method_image, type_images_rise, proto_images_rise, line_images_rise, field_images_rise, method_images_rise}

module _ (g : Gathered) (whole : AreWhole g) where
  -- rows of numbers at places are those of the things there
  type_rows_same : map (type_row (text_ranks g)) g.types ≡ map (type_image (numbering g)) (contents g).types
  type_rows_same =
      map_through (type_row (text_ranks g)) (text_at g) (type_image (numbering g)) (λ k. k < length g.texts)
      (λ k lt. ap (λ n. n ∷ []) (text_rank g k lt)) g.types whole.types

  params_same : (ks : List ℕ) → All (λ k. k < length g.types) ks → map (rank_at (type_ranks g)) ks ≡ map (type_no (numbering g)) (map (type_at g) ks)
  params_same ks all = map_through (rank_at (type_ranks g)) (type_at g) (type_no (numbering g)) (λ k. k < length g.types) (type_rank g) ks all

  proto_row_same : (q : ProtoParts) → ProtoIsWhole g q → proto_row (type_ranks g) q ≡ proto_image (numbering g) (proto_of g q)
  proto_row_same q w = λ i. type_rank g q.ret w.ret i ∷ params_same q.params w.params i

  proto_rows_same : map (proto_row (type_ranks g)) g.protos ≡ map (proto_image (numbering g)) (contents g).protos
  proto_rows_same = map_through (proto_row (type_ranks g)) (proto_of g) (proto_image (numbering g)) (ProtoIsWhole g) proto_row_same g.protos whole.protos

  short_same : (q : ProtoParts) → ProtoIsWhole g q → rank_at (text_ranks g) q.short ≡ string_no (numbering g) (short_form (proto_of g q))
  short_same q w = text_rank g q.short w.short ∙ ap (string_no (numbering g)) w.form

  lines_same : (qs : List ProtoParts) → All (ProtoIsWhole g) qs
      → proto_lines (text_ranks g) (type_ranks g) (map (proto_no (numbering g)) (map (proto_of g) qs)) qs ≡ map (line_image (numbering g)) (map (proto_of g) qs)
  lines_same [] all = refl
  lines_same (q ∷ qs) all =
      let w = All-head (ProtoIsWhole g) q qs all in
      let rest = lines_same qs (All-tail (ProtoIsWhole g) q qs all) in
      λ i. (proto_no (numbering g) (proto_of g q) ∷ short_same q w i ∷ proto_row_same q w i) ∷ rest i

  field_rows_same : map (member_row (type_ranks g) (text_ranks g) (type_ranks g)) g.fields ≡ map (field_image (numbering g)) (contents g).fields
  field_rows_same =
      map_through (member_row (type_ranks g) (text_ranks g) (type_ranks g)) (field_of g) (field_image (numbering g)) (FieldIsWhole g)
      (λ f w i. type_rank g f.class w.class i ∷ text_rank g f.name w.name i ∷ type_rank g f.kind w.kind i ∷ []) g.fields whole.fields

  method_rows_same : map (member_row (type_ranks g) (text_ranks g) (proto_ranks g)) g.methods ≡ map (method_image (numbering g)) (contents g).methods
  method_rows_same =
      map_through (member_row (type_ranks g) (text_ranks g) (proto_ranks g)) (method_of g) (method_image (numbering g)) (MethodIsWhole g)
      (λ m w i. type_rank g m.class w.class i ∷ text_rank g m.name w.name i ∷ proto_rank g m.kind w.kind i ∷ []) g.methods whole.methods

  types_text : All (HoldsText (numbering g)) (contents g).types
  types_text = All-weaker (HoldsType (numbering g)) (HoldsText (numbering g)) (λ u h. h.text) (contents g).types (types_hold g whole)

  -- so they give the tables and the numbers
  pub types_entered : map type_of_row (sorted text_order (map (type_row (text_ranks g)) g.types)) ≡ map (string_no (numbering g)) (numbering g).types
  unfolding sorted_pools
  types_entered =
      entries_mapped text_order (type_image (numbering g)) (HoldsText (numbering g)) (type_images_rise (numbering g) (numbering_rises g))
      type_of_row (map (type_row (text_ranks g)) g.types) (contents g).types types_text type_rows_same

  pub types_ranked : row_places (map (type_row (text_ranks g)) g.types) ≡ type_ranks g
  unfolding sorted_pools
  types_ranked =
      ranks_mapped text_order (type_image (numbering g)) (HoldsText (numbering g)) (type_images_rise (numbering g) (numbering_rises g))
      (map (type_row (text_ranks g)) g.types) (contents g).types types_text type_rows_same

  pub protos_ranked : row_places (map (proto_row (type_ranks g)) g.protos) ≡ proto_ranks g
  unfolding sorted_pools
  protos_ranked =
      ranks_mapped proto_order (proto_image (numbering g)) (HoldsProto (numbering g)) (proto_images_rise (numbering g) (numbering_rises g))
      (map (proto_row (type_ranks g)) g.protos) (contents g).protos (protos_hold g whole) proto_rows_same

  pub protos_entered : map proto_of_line (sorted text_order (proto_lines (text_ranks g) (type_ranks g) (row_places (map (proto_row (type_ranks g)) g.protos)) g.protos))
      ≡ map (proto_entry (numbering g)) (numbering g).protos
  unfolding sorted_pools
  protos_entered =
      let lines = ap (λ ranks. proto_lines (text_ranks g) (type_ranks g) ranks g.protos) protos_ranked ∙ lines_same g.protos whole.protos in
      entries_mapped proto_order (line_image (numbering g)) (HoldsProto (numbering g)) (line_images_rise (numbering g) (numbering_rises g))
      proto_of_line (proto_lines (text_ranks g) (type_ranks g) (row_places (map (proto_row (type_ranks g)) g.protos)) g.protos)
      (contents g).protos (protos_hold g whole) lines

  pub fields_entered : map member_of_row (sorted text_order (map (member_row (type_ranks g) (text_ranks g) (type_ranks g)) g.fields))
      ≡ map (field_entry (numbering g)) (numbering g).fields
  unfolding sorted_pools
  fields_entered =
      entries_mapped field_order (field_image (numbering g)) (HoldsField (numbering g)) (field_images_rise (numbering g) (numbering_rises g))
      member_of_row (map (member_row (type_ranks g) (text_ranks g) (type_ranks g)) g.fields) (contents g).fields (fields_hold g whole) field_rows_same

  pub fields_ranked : row_places (map (member_row (type_ranks g) (text_ranks g) (type_ranks g)) g.fields) ≡ map (field_no (numbering g)) (contents g).fields
  unfolding sorted_pools
  fields_ranked =
      ranks_mapped field_order (field_image (numbering g)) (HoldsField (numbering g)) (field_images_rise (numbering g) (numbering_rises g))
      (map (member_row (type_ranks g) (text_ranks g) (type_ranks g)) g.fields) (contents g).fields (fields_hold g whole) field_rows_same

  pub methods_entered : map member_of_row (sorted text_order (map (member_row (type_ranks g) (text_ranks g) (proto_ranks g)) g.methods))
      ≡ map (method_entry (numbering g)) (numbering g).methods
  unfolding sorted_pools
  methods_entered =
      entries_mapped method_order (method_image (numbering g)) (HoldsMethod (numbering g)) (method_images_rise (numbering g) (numbering_rises g))
      member_of_row (map (member_row (type_ranks g) (text_ranks g) (proto_ranks g)) g.methods) (contents g).methods (methods_hold g whole) method_rows_same

  pub methods_ranked : row_places (map (member_row (type_ranks g) (text_ranks g) (proto_ranks g)) g.methods) ≡ map (method_no (numbering g)) (contents g).methods
  unfolding sorted_pools
  methods_ranked =
      ranks_mapped method_order (method_image (numbering g)) (HoldsMethod (numbering g)) (method_images_rise (numbering g) (numbering_rises g))
      (map (member_row (type_ranks g) (text_ranks g) (proto_ranks g)) g.methods) (contents g).methods (methods_hold g whole) method_rows_same

-- numbers of types and prototypes have 16 bits where there are no more than those count
module _ (g : Gathered) where
  types_short : length (numbering g).types ≤ length g.types
  unfolding sorted_pools
  types_short = omega (arith, sorted_short text_order (contents g).types, length-map g.types (text_at g))

  protos_short : length (numbering g).protos ≤ length g.protos
  unfolding sorted_pools
  protos_short = omega (arith, sorted_short proto_order (contents g).protos, length-map g.protos (proto_of g))

  pub type_ranks_fit : length g.types ≤ 65535 → All (λ n. n < 2 ^ 16) (type_ranks g)
  type_ranks_fit few =
      All-map (λ n. n < 2 ^ 16) (type_no (numbering g)) (contents g).types
      (All-weaker (λ u. type_no (numbering g) u < length (numbering g).types) (λ u. type_no (numbering g) u < 2 ^ 16)
      (λ u lt. omega (arith, types_short)) (contents g).types (types_numbered g))

  pub proto_ranks_fit : length g.protos ≤ 65535 → All (λ n. n < 2 ^ 16) (proto_ranks g)
  proto_ranks_fit few =
      All-map (λ n. n < 2 ^ 16) (proto_no (numbering g)) (contents g).protos
      (All-weaker (λ q. proto_no (numbering g) q < length (numbering g).protos) (λ q. proto_no (numbering g) q < 2 ^ 16)
      (λ q lt. omega (arith, protos_short)) (contents g).protos (protos_numbered g))
