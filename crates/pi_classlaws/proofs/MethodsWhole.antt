-- The rows of the methods of a class: each says its method again, and its body keeps what is known of its code.
use Rattle.std.proofs.Common.{◌≡◌, ℕ, Bool, true, List, ◌++◌, map, IfSome, sym, ap, subst, ◌∙◌}
use Rattle.std.specs.List.{All, AllZip}
use Rattle.std.proofs.lemmas.List.Elements.{All-append}
use Rattle.std.proofs.lemmas.List.Sums.{AllPass-from_list_all, list_all-from_AllPass}
use Rattle.pi_format.proofs.Every.{all_both}
use Rattle.pi_dextables.specs.declared.tables.Class.{Class}
use Rattle.pi_dextables.specs.declared.tables.MethodRow.{MethodRow}
use Rattle.pi_dextables.specs.declared.tables.Tables.{Tables}
use Rattle.pi_contents.specs.Contents.{MethodContent}
use Rattle.pi_contents.specs.Naming.{own_method}
use Rattle.pi_contents.specs.Asked.{argument_words, body_fits, bodies_fit, lines_fit, codes_fit}
use Rattle.pi_tablesaid.specs.Entries.{method_at}
use Rattle.pi_tablesaid.specs.Content.{method_said}
use Rattle.pi_tablesaid.specs.Kept.{body_holds, method_holds, class_codes_hold, WalkEnds, PointsWell}
use Rattle.pi_classtables.specs.Numbers.{Pools}
use Rattle.pi_classtables.specs.Whole.{Added, Method, directs_of, virtuals_of, tables_with}
use Rattle.pi_classtables.specs.Spelled.{MethodSpelled, IsSpelled}
use Rattle.pi_classtables.specs.Sized.{MethodSized, IsSized, code_rises, sparse_rises}
use Rattle.pi_classlaws.proofs.Known.{method_again}
use Rattle.pi_classlaws.proofs.ClassRows.{MethodRowIs, ClassRowIs, method_rows_beside, all_beside, map_beside, beside_known, beside_joined}
use Rattle.pi_classlaws.proofs.CodesWhole.{code_keeps}
use Rattle.pi_classlaws.proofs.MembersFiled.{bodies_filed, codes_filed, sparse_filed}
use Rattle.pi_classlaws.proofs.MembersHold.{directs_spelled, virtuals_spelled, directs_sized, virtuals_sized}
use Rattle.pi_classlaws.proofs.NamingsFiled.{MethodHeld, ClassHeld, directs_held, virtuals_held}
use Rattle.pi_classlaws.proofs.RowsListed.{CodeCloses}

-- what is known of a method
record MethodGiven (p : Pools) (class : List ℕ) (m : Method) : Type 0 where
  spelled : MethodSpelled m
  sized : MethodSized m.content
  held : MethodHeld p class m.content

-- what its row keeps
pub record MethodKeeps (t : Tables) (m : Method) (r : MethodRow) : Type 0 where
  pub said : method_said t r ≡ m.content
  pub closes : CodeCloses t r
  pub ends : IfSome r.code WalkEnds
  pub points : lines_fit m.content.code ≡ true → code_rises m.sparse m.content.code ≡ true → IfSome r.code PointsWell
  pub holds : body_fits (argument_words m.content) m.content.code ≡ true → method_holds t r ≡ true

method_keeps : (p : Pools) (classes : List Class) (class : List ℕ) (m : Method) (r : MethodRow) → MethodRowIs p class m r → MethodGiven p class m
    → MethodKeeps (tables_with p classes) m r
method_keeps p classes class m r is given =
    let t : Tables = tables_with p classes in
    let code = code_keeps p classes m.sparse m.content.code r.code is.code given.spelled given.sized.code given.held.code in
    let name : method_at t r.id ≡ own_method class m.content = ap (method_at t) is.id ∙ method_again p classes (own_method class m.content) given.held.method in
    let said : method_said t r ≡ m.content = λ i. record { name = (name i).name; proto = (name i).proto; flags = is.flags i; code = code.said i } in
    record {
      said = said;
      closes = code.closes;
      ends = code.ends;
      points = code.points;
      holds = λ fits. subst (λ (n : MethodContent). body_holds (argument_words n) r.code ≡ true) (sym said) (code.holds (argument_words m.content) fits);
    }

abbrev pub methods_of : Added → List Method
methods_of e = directs_of e ++ virtuals_of e

all_given : (p : Pools) (e : Added) → IsSpelled e → IsSized e.class → ClassHeld p e.class → All (MethodGiven p e.class.name) (methods_of e)
all_given p e spelled sized held =
    let Sized : Method → Type 0 = λ (m : Method). MethodSized m.content in
    let Held : Method → Type 0 = λ (m : Method). MethodHeld p e.class.name m.content in
    all_both MethodSpelled (λ (m : Method). Sized m × Held m) (MethodGiven p e.class.name) (methods_of e)
    (λ m s both. record { spelled = s; sized = both.0; held = both.1 })
    (All-append MethodSpelled (directs_of e) (virtuals_of e) (directs_spelled e spelled) (virtuals_spelled e spelled))
    (all_both Sized Held (λ (m : Method). Sized m × Held m) (methods_of e) (λ m s h. (s, h))
    (All-append Sized (directs_of e) (virtuals_of e) (directs_sized e sized) (virtuals_sized e sized))
    (All-append Held (directs_of e) (virtuals_of e) (directs_held p e held) (virtuals_held p e held)))

-- so all rows of a class
pub methods_keep : (p : Pools) (classes : List Class) (e : Added) (c : Class) → IsSpelled e → IsSized e.class → ClassHeld p e.class → ClassRowIs p e c
    → AllZip (MethodKeeps (tables_with p classes)) (methods_of e) (c.directs ++ c.virtuals)
methods_keep p classes e c spelled sized held is =
    let class : List ℕ = e.class.name in
    beside_known (MethodRowIs p class) (MethodGiven p class) (MethodKeeps (tables_with p classes)) (method_keeps p classes class)
    (methods_of e) (c.directs ++ c.virtuals)
    (beside_joined (MethodRowIs p class) (directs_of e) (virtuals_of e) c.directs c.virtuals
    (method_rows_beside p class (directs_of e) c.directs is.directs) (method_rows_beside p class (virtuals_of e) c.virtuals is.virtuals))
    (all_given p e spelled sized held)

-- what they say and keep together
module _ (t : Tables) (e : Added) (c : Class) (keep : AllZip (MethodKeeps t) (methods_of e) (c.directs ++ c.virtuals)) where
  abbrev rows : List MethodRow
  rows = c.directs ++ c.virtuals

  pub methods_said : map (method_said t) rows ≡ map (λ (m : Method). m.content) (methods_of e)
  methods_said = map_beside (MethodKeeps t) (λ (m : Method). m.content) (method_said t) (λ m r k. k.said) (methods_of e) rows keep

  all_rows : (P : MethodRow → Type 0) → ((m : Method) (r : MethodRow) → MethodKeeps t m r → P r) → All P rows
  all_rows P tells = all_beside (MethodKeeps t) (λ (m : Method). Unit {0}) P (λ m r k known. tells m r k) (methods_of e) rows keep (λ k d less. tt)

  pub codes_close : All (CodeCloses t) rows
  codes_close = all_rows (CodeCloses t) (λ m r k. k.closes)

  pub walks_end : All (λ (r : MethodRow). IfSome r.code WalkEnds) rows
  walks_end = all_rows (λ (r : MethodRow). IfSome r.code WalkEnds) (λ m r k. k.ends)

  pub codes_hold : bodies_fit e.class ≡ true → class_codes_hold t c ≡ true
  codes_hold fit =
      let fits : Method → Bool = λ (m : Method). body_fits (argument_words m.content) m.content.code in
      list_all-from_AllPass (method_holds t) rows
      (all_beside (MethodKeeps t) (λ (m : Method). fits m ≡ true) (λ (r : MethodRow). method_holds t r ≡ true) (λ m r k known. k.holds known) (methods_of e) rows keep
      (AllPass-from_list_all fits (methods_of e) (bodies_filed e fit)))

  pub codes_point : codes_fit e.class ≡ true → sparse_rises e ≡ true → All (λ (r : MethodRow). IfSome r.code PointsWell) rows
  codes_point fit rise =
      let Fits : Method → Type 0 = λ (m : Method). lines_fit m.content.code ≡ true in
      let Rises : Method → Type 0 = λ (m : Method). code_rises m.sparse m.content.code ≡ true in
      all_beside (MethodKeeps t) (λ (m : Method). Fits m × Rises m) (λ (r : MethodRow). IfSome r.code PointsWell) (λ m r k known. k.points known.0 known.1)
      (methods_of e) rows keep
      (all_both Fits Rises (λ (m : Method). Fits m × Rises m) (methods_of e) (λ m f s. (f, s))
      (AllPass-from_list_all (λ (m : Method). lines_fit m.content.code) (methods_of e) (codes_filed e fit))
      (AllPass-from_list_all (λ (m : Method). code_rises m.sparse m.content.code) (methods_of e) (sparse_filed e rise)))
