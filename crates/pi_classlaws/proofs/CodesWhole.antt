-- The body of a code that is laid out: it says the code again, what it names is there, and it keeps each rule of which what it
-- asks of codes holds.
use Rattle.std.proofs.Common.{◌≡◌, ℕ, Bool, true, false, List, Option, Some, None, IfSome, length, option_map, refl, sym, ap, subst, ◌∙◌}
use Rattle.std.specs.Prelude.{◌==◌, ◌&&◌, nat_lt, nat_le}
use Rattle.std.specs.List.{All, flat_map, list_all}
use Rattle.std.proofs.lemmas.Bool.{and_from}
use Rattle.pi_insn.proofs.Steps.{bind_some}
use Rattle.pi_dextables.specs.declared.tables.Body.{Body}
use Rattle.pi_dextables.specs.declared.tables.Catches.{Catches}
use Rattle.pi_dextables.specs.declared.tables.Class.{Class}
use Rattle.pi_dextables.specs.declared.tables.Tables.{Tables}
use Rattle.pi_contents.specs.Contents.{CodeContent}
use Rattle.pi_contents.specs.Asked.{catch_fits, ranges_rise, body_fits, lines_fit}
use Rattle.pi_tablesaid.specs.Content.{lines_said, range_said, code_said}
use Rattle.pi_tablesaid.specs.Closed.{BodyCloses}
use Rattle.pi_tablesaid.specs.Kept.{ranges_lie, handlers_stand, body_holds, WalkEnds, PointsWell}
use Rattle.pi_classtables.specs.Numbers.{Pools}
use Rattle.pi_classtables.specs.Layout.{front, code_units}
use Rattle.pi_classtables.specs.Ranges.{groups_of, lists_of, ranges_of}
use Rattle.pi_classtables.specs.Whole.{body_of, optional_body, tables_with}
use Rattle.pi_classtables.specs.Spelled.{IsLaid}
use Rattle.pi_classtables.specs.Sized.{CodeSized, code_rises}
use Rattle.pi_classlaws.proofs.CatchesAgain.{catches_again}
use Rattle.pi_classlaws.proofs.CatchesHold.{handlers_named, handlers_lie}
use Rattle.pi_classlaws.proofs.ClassRows.{body_found}
use Rattle.pi_classlaws.proofs.CodeAgain.{units_long, code_ends, code_lines, code_closes, code_points}
use Rattle.pi_classlaws.proofs.NamingsFiled.{CodeHeld}
use Rattle.pi_classlaws.proofs.PayloadsAgain.{said_by, all_read, all_point}
use Rattle.pi_classlaws.proofs.PayloadsLaid.{PayloadReads}
use Rattle.pi_classlaws.proofs.RangesLie.{ranges_in_code}

-- the body of a code
pub record BodyIs (p : Pools) (listed : List ℕ) (c : CodeContent) (b : Body) : Type 0 where
  pub registers : b.registers ≡ c.regs
  pub ins : b.ins ≡ c.ins
  pub outs : b.outs ≡ c.outs
  pub units : code_units p listed (front 0 c.lines) ≡ Some b.units
  pub ranges : b.ranges ≡ ranges_of (groups_of p c.catches)
  pub lists : b.lists ≡ lists_of (groups_of p c.catches)

pub body_is : (p : Pools) (listed : List ℕ) (c : CodeContent) (b : Body) → body_of p listed c ≡ Some b → BodyIs p listed c b
unfolding body_of
body_is p listed c b e =
    let made : List ℕ → Body = λ units. record {
      registers = c.regs;
      ins = c.ins;
      outs = c.outs;
      units = units;
      ranges = ranges_of (groups_of p c.catches);
      lists = lists_of (groups_of p c.catches);
    } in
    let units = bind_some (code_units p listed (front 0 c.lines)) (λ us. Some (made us)) b e in
    let same : made units.0 ≡ b = cc (units.1.1) in
    subst (BodyIs p listed c) same (record { registers = refl; ins = refl; outs = refl; units = units.1.0; ranges = refl; lists = refl })

-- what a body keeps of its code
pub record BodyKeeps (t : Tables) (listed : List ℕ) (c : CodeContent) (b : Body) : Type 0 where
  pub said : code_said t b ≡ c
  pub closes : BodyCloses t b
  pub ends : WalkEnds b
  pub points : lines_fit (Some c) ≡ true → code_rises listed (Some c) ≡ true → PointsWell b
  pub holds : (words : ℕ) → body_fits words (Some c) ≡ true → body_holds words (Some b) ≡ true

-- tests that begin alike
begins_alike : (a b c d e f g : Bool) → (d ≡ true → e ≡ true → (f && g) ≡ true) → (a && (b && (c && (d && e)))) ≡ true
    → (a && (b && (c && (f && g)))) ≡ true
begins_alike true true true true true f g more h = more refl refl
begins_alike true true true true false f g more h = cc
begins_alike true true true false e f g more h = cc
begins_alike true true false d e f g more h = cc
begins_alike true false c d e f g more h = cc
begins_alike false b c d e f g more h = cc

module _ (p : Pools) (classes : List Class) (listed : List ℕ) (c : CodeContent) (b : Body) (laid : IsLaid listed c) (sized : CodeSized c)
    (held : CodeHeld p c) (is : BodyIs p listed c b) where
  long : length b.units ≡ c.units
  long = units_long p listed (said_by listed) c b.units laid is.units

  read : All (PayloadReads listed (said_by listed)) (front 0 c.lines)
  read = all_read p listed c b.units laid is.units sized

  lines_again : lines_said (tables_with p classes) b.units ≡ c.lines
  lines_again = code_lines p listed (said_by listed) c b.units laid is.units classes sized held.lines read

  handlers_again : flat_map (range_said (tables_with p classes) b.lists) b.ranges ≡ c.catches
  handlers_again =
      ap (λ (ls : List Catches). flat_map (range_said (tables_with p classes) ls) b.ranges) is.lists
      ∙ ap (flat_map (range_said (tables_with p classes) (lists_of (groups_of p c.catches)))) is.ranges
      ∙ catches_again p classes c.catches held.catches laid.catches

  said_again : code_said (tables_with p classes) b ≡ c
  unfolding code_said
  said_again = λ i. record {
    regs = is.registers i;
    ins = is.ins i;
    outs = is.outs i;
    units = long i;
    lines = lines_again i;
    catches = handlers_again i;
  }

  body_closes : BodyCloses (tables_with p classes) b
  body_closes = record {
    insns = code_closes p listed (said_by listed) c b.units laid is.units classes sized held.lines read;
    lists = rw is.lists (handlers_named p classes c.catches held.catches);
  }

  ranges_hold : list_all (catch_fits c.units) c.catches ≡ true → ranges_rise c.catches ≡ true
      → (ranges_lie c.units 0 (ranges_of (groups_of p c.catches)) && list_all (handlers_stand c.units) (lists_of (groups_of p c.catches))) ≡ true
  ranges_hold fit rise =
      and_from (ranges_lie c.units 0 (ranges_of (groups_of p c.catches))) (list_all (handlers_stand c.units) (lists_of (groups_of p c.catches)))
      (ranges_in_code p c.units c.catches fit rise) (handlers_lie p c.units c.catches fit)

  body_kept : (words : ℕ) → body_fits words (Some c) ≡ true → body_holds words (Some b) ≡ true
  body_kept words fits =
      rw (is.ins, is.registers, long, is.ranges, is.lists)
      (begins_alike (c.ins == words) (nat_le words c.regs) (nat_lt 0 c.units) (list_all (catch_fits c.units) c.catches) (ranges_rise c.catches)
      (ranges_lie c.units 0 (ranges_of (groups_of p c.catches))) (list_all (handlers_stand c.units) (lists_of (groups_of p c.catches))) ranges_hold fits)

  pub body_keeps : BodyKeeps (tables_with p classes) listed c b
  body_keeps = record {
    said = said_again;
    closes = body_closes;
    ends = code_ends p listed (said_by listed) c b.units laid is.units read;
    points = λ fit rise. code_points p listed (said_by listed) c b.units laid is.units read (all_point p listed c b.units laid is.units fit rise);
    holds = body_kept;
  }

-- the same of a code that a method has or has not
pub record CodeKeeps (t : Tables) (listed : List ℕ) (code : Option CodeContent) (made : Option Body) : Type 0 where
  pub said : option_map (code_said t) made ≡ code
  pub closes : IfSome made (BodyCloses t)
  pub ends : IfSome made WalkEnds
  pub points : lines_fit code ≡ true → code_rises listed code ≡ true → IfSome made PointsWell
  pub holds : (words : ℕ) → body_fits words code ≡ true → body_holds words made ≡ true

pub code_keeps : (p : Pools) (classes : List Class) (listed : List ℕ) (code : Option CodeContent) (made : Option Body)
    → optional_body p listed code ≡ Some made → IfSome code (IsLaid listed) → IfSome code CodeSized → IfSome code (CodeHeld p)
    → CodeKeeps (tables_with p classes) listed code made
code_keeps p classes listed None made e laid sized held =
    let none : None ≡ made = cc in
    subst (CodeKeeps (tables_with p classes) listed None) none (record { said = refl; closes = tt; ends = tt; points = λ fit rise. tt; holds = λ words fits. refl })
code_keeps p classes listed (Some c) made e laid sized held =
    let found = body_found (body_of p listed c) made e in
    let keeps = body_keeps p classes listed c found.0 laid sized held (body_is p listed c found.0 found.1) in
    subst (CodeKeeps (tables_with p classes) listed (Some c)) (sym found.2)
    (record { said = ap Some keeps.said; closes = keeps.closes; ends = keeps.ends; points = keeps.points; holds = keeps.holds })
