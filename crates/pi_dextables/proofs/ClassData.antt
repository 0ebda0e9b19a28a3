-- Class data that stands in a file is read again.
use Rattle.std.proofs.Common.{◌≡◌, ℕ, ◌+◌, ◌<◌, List, [], ◌∷◌, ◌++◌, length, Some, None, Bool, true, false, refl, sym, ap, subst, ◌∙◌, length-append, arith}
use Rattle.std.specs.Prelude.{◌&&◌, ◌==◌}
use Rattle.std.specs.List.{list_all}
use Rattle.std.proofs.lemmas.Bool.Decides.{nat_tests}
use Rattle.std.proofs.Math.Bool.{and_assoc}
use Rattle.pi_bytes.specs.Leb.{uleb_at}
use Rattle.pi_format.specs.declared.lists.MemberList.TheVariants.{StaticFields, InstanceFields, DirectMethods, VirtualMethods}
use Rattle.pi_format.specs.Rules.Rows.{MemberRow}
use Rattle.pi_format.specs.Rules.ClassData.{ClassRows, RowCounts, Owner, row_holds, row_counts, are_apart, rows_of_list, rows_at, no_rows, class_rows, class_data_at, owner}
use Rattle.pi_format.proofs.Held.{both}
use Rattle.pi_parts.specs.Lebs.{uleb_bytes}
use Rattle.pi_parts.proofs.Stands.{Stands, stands_left, stands_right}
use Rattle.pi_parts.proofs.ReadBack.{place, uleb_reads, few_uleb}
use Rattle.pi_dextables.specs.Rows.{rows_bytes, count_bytes, class_item, has_no_rows, class_data}
use Rattle.pi_dextables.specs.Said.{held, ids_rise, rows_hold}
use Rattle.pi_dextables.proofs.Readers.{ReadsSome, held_then, held_test}
use Rattle.pi_dextables.proofs.MemberRows.{RowsFit, tests_crossed, list_read, rows_long}

pub record AllFit (rows : ClassRows) : Type 0 where
  pub statics : RowsFit StaticFields rows.statics
  pub instances : RowsFit InstanceFields rows.instances
  pub directs : RowsFit DirectMethods rows.directs
  pub virtuals : RowsFit VirtualMethods rows.virtuals

abbrev counts_of : ClassRows → RowCounts
counts_of rows = record {
  statics = length rows.statics;
  instances = length rows.instances;
  directs = length rows.directs;
  virtuals = length rows.virtuals;
}

counts_read : (rows : ClassRows) → AllFit rows → ReadsSome row_counts (count_bytes rows) (counts_of rows)
unfolding row_counts
counts_read rows fit file at s =
    let a : List ℕ = uleb_bytes (length rows.statics) in
    let b : List ℕ = uleb_bytes (length rows.instances) in
    let c : List ℕ = uleb_bytes (length rows.directs) in
    let d : List ℕ = uleb_bytes (length rows.virtuals) in
    let n1 : ℕ = at + length a in
    let n2 : ℕ = n1 + length b in
    let n3 : ℕ = n2 + length c in
    let s1 : Stands file n1 (b ++ (c ++ d)) = stands_right file a (b ++ (c ++ d)) at n1 refl s in
    let s2 : Stands file n2 (c ++ d) = stands_right file b (c ++ d) n1 n2 refl s1 in
    let r1 : uleb_at (place file at) ≡ _ = uleb_reads (length rows.statics) fit.statics.few file at (stands_left file a (b ++ (c ++ d)) at s) in
    let r2 : uleb_at (place file n1) ≡ _ = uleb_reads (length rows.instances) fit.instances.few file n1 (stands_left file b (c ++ d) n1 s1) in
    let r3 : uleb_at (place file n2) ≡ _ = uleb_reads (length rows.directs) fit.directs.few file n2 (stands_left file c d n2 s2) in
    let r4 : uleb_at (place file n3) ≡ _ = uleb_reads (length rows.virtuals) fit.virtuals.few file n3 (stands_right file c d n2 n3 refl s2) in
    let long : n3 + length d ≡ at + length (a ++ (b ++ (c ++ d))) =
    omega (arith, length-append a (b ++ (c ++ d)), length-append b (c ++ d), length-append c d) in
    rw (r1, r2, r3, r4, ← long) refl

-- the tests of list after list, joined by what they test: that ids rise, and what holds of the rows
tests_gathered : (r1 h1 r2 h2 r3 h3 r4 h4 apart : Bool)
    → (r1 && h1) && ((r2 && h2) && ((r3 && h3) && ((r4 && h4) && apart))) ≡ (r1 && (r2 && (r3 && r4))) && (h1 && (h2 && (h3 && (h4 && apart))))
tests_gathered r1 h1 r2 h2 r3 h3 r4 h4 apart =
    ap (λ t. (r1 && h1) && ((r2 && h2) && ((r3 && h3) && t))) (and_assoc r4 h4 apart)
    ∙ ap (λ t. (r1 && h1) && ((r2 && h2) && t)) (tests_crossed r3 h3 r4 (h4 && apart))
    ∙ ap (λ t. (r1 && h1) && t) (tests_crossed r2 h2 (r3 && r4) (h3 && (h4 && apart)))
    ∙ tests_crossed r1 h1 (r2 && (r3 && r4)) (h2 && (h3 && (h4 && apart)))

class_item_read : (file : List ℕ) (o : Owner) (at : ℕ) (rows : ClassRows) → AllFit rows → Stands file at (class_item rows)
    → rows_at file o (place file at) ≡ held (rows_hold file o rows) rows
unfolding rows_at class_item rows_hold
class_item_read file o at rows fit s =
    let h : List ℕ = count_bytes rows in
    let a : List ℕ = rows_bytes StaticFields None rows.statics in
    let b : List ℕ = rows_bytes InstanceFields None rows.instances in
    let c : List ℕ = rows_bytes DirectMethods None rows.directs in
    let d : List ℕ = rows_bytes VirtualMethods None rows.virtuals in
    let n0 : ℕ = at + length h in
    let n1 : ℕ = n0 + length a in
    let n2 : ℕ = n1 + length b in
    let n3 : ℕ = n2 + length c in
    let s0 : Stands file n0 (a ++ (b ++ (c ++ d))) = stands_right file h (a ++ (b ++ (c ++ d))) at n0 refl s in
    let s1 : Stands file n1 (b ++ (c ++ d)) = stands_right file a (b ++ (c ++ d)) n0 n1 refl s0 in
    let s2 : Stands file n2 (c ++ d) = stands_right file b (c ++ d) n1 n2 refl s1 in
    let r0 : row_counts (place file at) ≡ Some (counts_of rows, place file n0) = counts_read rows fit file at (stands_left file h (a ++ (b ++ (c ++ d))) at s) in
    let u1 : Bool = ids_rise None rows.statics in
    let h1 : Bool = list_all (row_holds file o StaticFields) rows.statics in
    let t1 : Bool = u1 && h1 in
    let u2 : Bool = ids_rise None rows.instances in
    let h2 : Bool = list_all (row_holds file o InstanceFields) rows.instances in
    let t2 : Bool = u2 && h2 in
    let u3 : Bool = ids_rise None rows.directs in
    let h3 : Bool = list_all (row_holds file o DirectMethods) rows.directs in
    let t3 : Bool = u3 && h3 in
    let u4 : Bool = ids_rise None rows.virtuals in
    let h4 : Bool = list_all (row_holds file o VirtualMethods) rows.virtuals in
    let t4 : Bool = u4 && h4 in
    let t5 : Bool = are_apart rows.statics rows.instances && are_apart rows.directs rows.virtuals in
    let r1 : rows_of_list file o StaticFields (length rows.statics) (place file n0) ≡ held t1 (rows.statics, place file n1) =
    list_read (row_holds file o StaticFields) StaticFields rows.statics fit.statics file n0 (stands_left file a (b ++ (c ++ d)) n0 s0) in
    let r2 : rows_of_list file o InstanceFields (length rows.instances) (place file n1) ≡ held t2 (rows.instances, place file n2) =
    list_read (row_holds file o InstanceFields) InstanceFields rows.instances fit.instances file n1 (stands_left file b (c ++ d) n1 s1) in
    let r3 : rows_of_list file o DirectMethods (length rows.directs) (place file n2) ≡ held t3 (rows.directs, place file n3) =
    list_read (row_holds file o DirectMethods) DirectMethods rows.directs fit.directs file n2 (stands_left file c d n2 s2) in
    let r4 : rows_of_list file o VirtualMethods (length rows.virtuals) (place file n3) ≡ held t4 (rows.virtuals, place file (n3 + length d)) =
    list_read (row_holds file o VirtualMethods) VirtualMethods rows.virtuals fit.virtuals file n3 (stands_right file c d n2 n3 refl s2) in
    rw r0 (held_then t1 (t2 && (t3 && (t4 && t5))) (rows.statics, place file n1) rows _ _ r1
    (held_then t2 (t3 && (t4 && t5)) (rows.instances, place file n2) rows _ _ r2
    (held_then t3 (t4 && t5) (rows.directs, place file n3) rows _ _ r3
    (held_then t4 t5 (rows.virtuals, place file (n3 + length d)) rows _ _ r4 (held_test t5 rows))))
    ∙ ap (λ t. held t rows) (tests_gathered u1 h1 u2 h2 u3 h3 u4 h4 t5))

-- a class without members
is_none : (xs : List MemberRow) → (length xs == 0) ≡ true → xs ≡ []
is_none [] e = refl
is_none (x ∷ xs) e = absurd (grind (arith, nat_tests))

made_none : (s i d v : List MemberRow) → s ≡ [] → i ≡ [] → d ≡ [] → v ≡ []
    → (let rows : ClassRows = record { statics = s; instances = i; directs = d; virtuals = v } in rows) ≡ no_rows
made_none s i d v es ei ed ev = rw (es, ei, ed, ev) refl

none_are : (rows : ClassRows) → has_no_rows rows ≡ true → rows ≡ no_rows
none_are rows e =
    let a = both (length rows.statics == 0) ((length rows.instances == 0) && ((length rows.directs == 0) && (length rows.virtuals == 0))) e in
    let b = both (length rows.instances == 0) ((length rows.directs == 0) && (length rows.virtuals == 0)) a.1 in
    let c = both (length rows.directs == 0) (length rows.virtuals == 0) b.1 in
    made_none rows.statics rows.instances rows.directs rows.virtuals (is_none rows.statics a.0) (is_none rows.instances b.0) (is_none rows.directs c.0) (is_none rows.virtuals c.1)

pub no_rows_read : (file : List ℕ) (i : ℕ) (rows : ClassRows) → has_no_rows rows ≡ true → class_data_at file i ≡ 0
    → class_rows file i ≡ held (rows_hold file (owner file i) rows) rows
unfolding class_rows rows_hold
no_rows_read file i rows e zero_is = rw (zero_is, none_are rows e) refl

-- the class data of a class that has some
pub class_data_read : (file : List ℕ) (i : ℕ) (rows : ClassRows) → AllFit rows → 0 < class_data_at file i → Stands file (class_data_at file i) (class_item rows)
    → class_rows file i ≡ held (rows_hold file (owner file i) rows) rows
unfolding class_rows
class_data_read file i rows fit behind s =
    let some : (class_data_at file i == 0) ≡ false = grind (arith, nat_tests) in
    rw some (class_item_read file (owner file i) (class_data_at file i) rows fit s)

pub no_class_data : (rows : ClassRows) → has_no_rows rows ≡ true → class_data rows ≡ []
unfolding class_data
no_class_data rows e = rw e refl

pub some_class_data : (rows : ClassRows) → has_no_rows rows ≡ false → class_data rows ≡ class_item rows
unfolding class_data
some_class_data rows e = rw e refl

class_item_long : (rows : ClassRows) → 0 < length (class_item rows)
unfolding class_item
class_item_long rows = simp length-append (omega (arith, few_uleb (length rows.statics)))

pub class_data_long : (rows : ClassRows) → has_no_rows rows ≡ false → 0 < length (class_data rows)
class_data_long rows e = rw (some_class_data rows e) (class_item_long rows)

-- each list has fewer rows than a bound
pub record AllFew (rows : ClassRows) (bound : ℕ) : Type 0 where
  pub statics : length rows.statics < bound
  pub instances : length rows.instances < bound
  pub directs : length rows.directs < bound
  pub virtuals : length rows.virtuals < bound

few_in_item : (rows : ClassRows) (bound : ℕ) → length (class_item rows) < bound → AllFew rows bound
unfolding class_item
few_in_item rows bound lt =
    let all = simp length-append at lt in
    record {
      statics = omega (arith, all, rows_long StaticFields None rows.statics);
      instances = omega (arith, all, rows_long InstanceFields None rows.instances);
      directs = omega (arith, all, rows_long DirectMethods None rows.directs);
      virtuals = omega (arith, all, rows_long VirtualMethods None rows.virtuals);
    }

pub few_in_data : (rows : ClassRows) (bound : ℕ) → 0 < bound → length (class_data rows) < bound → AllFew rows bound
few_in_data rows bound some lt = by_test (has_no_rows rows) refl
  where
    by_test : (b : Bool) → has_no_rows rows ≡ b → AllFew rows bound
    by_test false e =
        let same : length (class_data rows) ≡ length (class_item rows) = ap length (some_class_data rows e) in
        few_in_item rows bound (omega arith)
    by_test true e = subst (λ r. AllFew r bound) (sym (none_are rows e)) (record { statics = some; instances = some; directs = some; virtuals = some })
