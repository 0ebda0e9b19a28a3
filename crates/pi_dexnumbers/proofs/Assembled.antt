-- The tables and the numbers of what is gathered, each kind made from the numbers of those before it.
use Rattle.std.proofs.Common.{◌≡◌, ℕ, List, map, ◌∙◌}
use Rattle.pi_dextables.specs.declared.tables.Member.{Member}
use Rattle.pi_dextables.specs.declared.tables.Proto.{Proto}
use Rattle.pi_classtables.specs.Sorted.{sorted, place_in, text_order}
use Rattle.pi_classtables.specs.Numbers.{string_no, field_no, method_no, proto_entry, field_entry, method_entry}
use Rattle.pi_dexpools.specs.declared.gathered.Gathered.{Gathered}
use Rattle.pi_dexpools.specs.declared.gathered.MemberParts.{MemberParts}
use Rattle.pi_dexpools.specs.declared.gathered.ProtoParts.{ProtoParts}
use Rattle.pi_dexpools.specs.Ranked.{contents, sorted_pools, numbering, AreWhole}
use Rattle.pi_dexnumbers.specs.Rows.{row_places, type_row, proto_row, proto_lines, member_row, type_of_row, proto_of_line, member_of_row}
use Rattle.pi_dexnumbers.proofs.Numbering.{types_entered, types_ranked, protos_entered, protos_ranked, fields_entered, fields_ranked, methods_entered, methods_ranked}
use Rattle.pi_dexnumbers.proofs.Ranks.{text_ranks, type_ranks, proto_ranks}

module _ (g : Gathered) where
  pub strings_are : (entries : List (List ℕ)) → entries ≡ sorted text_order g.texts → entries ≡ (numbering g).strings
  unfolding sorted_pools
  strings_are entries made = made

  pub texts_are : (ranks : List ℕ) → ranks ≡ map (λ s. place_in text_order s (sorted text_order g.texts)) g.texts → ranks ≡ text_ranks g
  unfolding sorted_pools
  texts_are ranks made = made

  module _ (whole : AreWhole g) where
    pub type_entries_are : (texts things entries : List ℕ) → texts ≡ text_ranks g → things ≡ g.types
        → entries ≡ map type_of_row (sorted text_order (map (type_row texts) things)) → entries ≡ map (string_no (numbering g)) (numbering g).types
    type_entries_are texts things entries e f made =
        made ∙ (λ i. map type_of_row (sorted text_order (map (type_row (e i)) (f i)))) ∙ types_entered g whole

    pub types_are : (texts things ranks : List ℕ) → texts ≡ text_ranks g → things ≡ g.types
        → ranks ≡ row_places (map (type_row texts) things) → ranks ≡ type_ranks g
    types_are texts things ranks e f made = made ∙ (λ i. row_places (map (type_row (e i)) (f i))) ∙ types_ranked g whole

    pub proto_entries_are : (texts types : List ℕ) (things : List ProtoParts) (entries : List Proto) → texts ≡ text_ranks g → types ≡ type_ranks g → things ≡ g.protos
        → entries ≡ map proto_of_line (sorted text_order (proto_lines texts types (row_places (map (proto_row types) things)) things))
        → entries ≡ map (proto_entry (numbering g)) (numbering g).protos
    proto_entries_are texts types things entries e f h made =
        made
        ∙ (λ i. map proto_of_line (sorted text_order (proto_lines (e i) (f i) (row_places (map (proto_row (f i)) (h i))) (h i))))
        ∙ protos_entered g whole

    pub protos_are : (types ranks : List ℕ) (things : List ProtoParts) → types ≡ type_ranks g → things ≡ g.protos
        → ranks ≡ row_places (map (proto_row types) things) → ranks ≡ proto_ranks g
    protos_are types ranks things e f made = made ∙ (λ i. row_places (map (proto_row (e i)) (f i))) ∙ protos_ranked g whole

    pub field_entries_are : (texts types : List ℕ) (things : List MemberParts) (entries : List Member) → texts ≡ text_ranks g → types ≡ type_ranks g → things ≡ g.fields
        → entries ≡ map member_of_row (sorted text_order (map (member_row types texts types) things))
        → entries ≡ map (field_entry (numbering g)) (numbering g).fields
    field_entries_are texts types things entries e f h made =
        made ∙ (λ i. map member_of_row (sorted text_order (map (member_row (f i) (e i) (f i)) (h i)))) ∙ fields_entered g whole

    pub fields_are : (texts types ranks : List ℕ) (things : List MemberParts) → texts ≡ text_ranks g → types ≡ type_ranks g → things ≡ g.fields
        → ranks ≡ row_places (map (member_row types texts types) things) → ranks ≡ map (field_no (numbering g)) (contents g).fields
    fields_are texts types ranks things e f h made =
        made ∙ (λ i. row_places (map (member_row (f i) (e i) (f i)) (h i))) ∙ fields_ranked g whole

    pub method_entries_are : (texts types protos : List ℕ) (things : List MemberParts) (entries : List Member)
        → texts ≡ text_ranks g → types ≡ type_ranks g → protos ≡ proto_ranks g → things ≡ g.methods
        → entries ≡ map member_of_row (sorted text_order (map (member_row types texts protos) things))
        → entries ≡ map (method_entry (numbering g)) (numbering g).methods
    method_entries_are texts types protos things entries e f h k made =
        made ∙ (λ i. map member_of_row (sorted text_order (map (member_row (f i) (e i) (h i)) (k i)))) ∙ methods_entered g whole

    pub methods_are : (texts types protos ranks : List ℕ) (things : List MemberParts)
        → texts ≡ text_ranks g → types ≡ type_ranks g → protos ≡ proto_ranks g → things ≡ g.methods
        → ranks ≡ row_places (map (member_row types texts protos) things) → ranks ≡ map (method_no (numbering g)) (contents g).methods
    methods_are texts types protos ranks things e f h k made =
        made ∙ (λ i. row_places (map (member_row (f i) (e i) (h i)) (k i))) ∙ methods_ranked g whole
