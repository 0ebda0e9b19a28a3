-- The units of a code that is laid out: their walk ends, they say its lines again, each index names an entry, and what points
-- at a payload points at one that fits.
use Rattle.std.proofs.Common.{◌≡◌, ◌⊎◌, inl, inr, ℕ, ◌+◌, ◌^◌, ◌≤◌, ◌==◌, Bool, true, false, List, [], ◌∷◌, length, Some, None, refl, sym, subst, ◌∙◌}
use Rattle.std.specs.Prelude.{◌&&◌, nat_lt}
use Rattle.std.specs.List.{All}
use Rattle.std.proofs.lemmas.Bool.{cases_Bool}
use Rattle.pi_insn.specs.Payloads.{Data}
use Rattle.pi_format.specs.Rules.Pieces.{walk, first_insn, points_well}
use Rattle.pi_format.proofs.Every.{all_left}
use Rattle.pi_dextables.specs.declared.tables.Class.{Class}
use Rattle.pi_contents.specs.Contents.{LineContent, CodeContent}
use Rattle.pi_tablesaid.specs.Content.{lines_said}
use Rattle.pi_tablesaid.specs.Closed.{index_closes}
use Rattle.pi_classtables.specs.Numbers.{Pools}
use Rattle.pi_classtables.specs.Layout.{is_sparse, data_end, front, lines_follow, code_units, pad_lines}
use Rattle.pi_classtables.specs.Whole.{tables_with}
use Rattle.pi_classtables.specs.Spelled.{IsLaid, front_end}
use Rattle.pi_classtables.specs.Sized.{LineSized, CodeSized}
use Rattle.pi_classlaws.proofs.Known.{HoldsNaming}
use Rattle.pi_classlaws.proofs.PayloadsLaid.{PayloadReads}
use Rattle.pi_classlaws.proofs.WalkAgain.{walk_ends, code_long}
use Rattle.pi_classlaws.proofs.LinesAgain.{IsKnown, lines_said_again}
use Rattle.pi_classlaws.proofs.TestsAgain.{indices_close}
use Rattle.pi_classlaws.proofs.PointsAgain.{PayloadFits, points_again}

-- the instructions before payloads follow each other
pub front_follows : (at : ℕ) (ls : List LineContent) → lines_follow at (front at ls) ≡ true
front_follows at [] = refl
front_follows at (l ∷ ls) = by_test (cases_Bool ((l.at == at) && nat_lt 0 l.units)) (front_follows (at + l.units) ls)
  where
    split : (a b c : Bool) → (a && b) ≡ true → c ≡ true → (a && (b && c)) ≡ true
    split true true c both more = more
    split true false c both more = both
    split false b c both more = both

    by_test : (((l.at == at) && nat_lt 0 l.units) ≡ true) ⊎ (((l.at == at) && nat_lt 0 l.units) ≡ false)
        → lines_follow (at + l.units) (front (at + l.units) ls) ≡ true → lines_follow at (front at (l ∷ ls)) ≡ true
    by_test (inl h) more = rw h (split (l.at == at) (nat_lt 0 l.units) (lines_follow (at + l.units) (front (at + l.units) ls)) h more)
    by_test (inr h) more = rw h refl

module _ (p : Pools) (listed : List ℕ) (said : LineContent → Data) (c : CodeContent) (units : List ℕ) (laid : IsLaid listed c)
    (is : code_units p listed (front 0 c.lines) ≡ Some units) where
  -- what holds of all lines holds of those
  pub in_front : (P : LineContent → Type 0) → All P c.lines → All P (front 0 c.lines)
  in_front P h = all_left P (front 0 c.lines) (pad_lines listed (front_end c) (front 0 c.lines)) (subst (λ ls. All P ls) laid.lines h)

  follow : lines_follow 0 (front 0 c.lines) ≡ true
  follow = front_follows 0 c.lines

  pub units_long : length units ≡ c.units
  units_long = code_long p listed (front 0 c.lines) units is ∙ laid.units

  pub code_ends : All (PayloadReads listed said) (front 0 c.lines) → (walk units).stop ≡ None
  code_ends reads = walk_ends p listed said (front 0 c.lines) units follow reads is

  all_known : CodeSized c → All (λ (l : LineContent). HoldsNaming p l.naming) c.lines → All (PayloadReads listed said) (front 0 c.lines)
      → All (IsKnown p listed said) (front 0 c.lines)
  all_known sized held reads = λ k d less. record {
    sized = in_front LineSized sized.lines k d less;
    held = in_front (λ l. HoldsNaming p l.naming) held k d less;
    reads = reads k d less;
  }

  pub near_end : data_end listed (front_end c) (front 0 c.lines) ≤ 2 ^ 31
  near_end = rw laid.units laid.near

  pub code_lines : (classes : List Class) → CodeSized c → All (λ (l : LineContent). HoldsNaming p l.naming) c.lines
      → All (PayloadReads listed said) (front 0 c.lines) → lines_said (tables_with p classes) units ≡ c.lines
  code_lines classes sized held reads =
      lines_said_again p classes listed said (front 0 c.lines) units follow near_end (all_known sized held reads) is ∙ sym laid.lines

  pub code_closes : (classes : List Class) → CodeSized c → All (λ (l : LineContent). HoldsNaming p l.naming) c.lines
      → All (PayloadReads listed said) (front 0 c.lines)
      → first_insn (λ at i. index_closes (tables_with p classes) i.body) (walk units).pieces ≡ None
  code_closes classes sized held reads =
      indices_close p classes listed said (front 0 c.lines) units follow (all_known sized held reads) is

  pub code_points : All (PayloadReads listed said) (front 0 c.lines)
      → All (λ (l : LineContent). PayloadFits (is_sparse listed l) l.insn (Some (said l))) (front 0 c.lines)
      → first_insn (points_well (walk units).pieces) (walk units).pieces ≡ None
  code_points reads fits = points_again p listed said (front 0 c.lines) units follow near_end reads fits is
