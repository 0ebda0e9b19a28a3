-- What a lazy run owes, by what was read and by how the run ended.
use Rattle.std.proofs.Common.{◌≡◌, ℕ, zero, suc, ◌<◌, ◌≤◌, List, [], ◌∷◌, ◌++◌, length, Option, Some, None, Result, Ok, Err, Bool, true, false, IsTrue, refl, ap, sym, ◌∙◌, subst, arith, codes}
use Rattle.std.specs.Prelude.{nat_lt, IsSomeAnd}
use Rattle.std.proofs.lemmas.Bool.Decides.{nat_tests}
use Rattle.pi_base.specs.declared.status.Status.{Status}
use Rattle.pi_base.specs.declared.status.Status.TheVariants as statuses
use Rattle.pi_base.specs.Views.{StoreView, SinkView}
use Rattle.pi_base.specs.Outside.{Keeps}
use Rattle.pi_base.specs.Writes.{Write, MakesAll}
use Rattle.pi_base.proofs.Taken.{took_nothing}
use Rattle.pi_base.proofs.Writing.{stands}
use Rattle.pi_model.specs.Program.{Program}
use Rattle.pi_format.specs.Core.{core_program}
use Rattle.pi_format.specs.Rules as rules
use Rattle.pi_format.specs.Rules.{broken_rule}
use Rattle.pi_format.specs.Says.{SaysNext, with_said}
use Rattle.pi_dexraw.specs.declared.fault.DexFault.{DexFault}
use Rattle.pi_dexraw.specs.declared.fault.DexFault.TheVariants as dex
use Rattle.pi_dexraw.specs.Asked.{Tells}
use Rattle.pi_duty.specs.Small.{is_small}
use Rattle.pi_top.specs.Faults.{fault_of}
use Rattle.pi_machine.specs.Start.{main_of}
use Rattle.pi_machine.specs.Ends as ends
use Rattle.pi_machine.specs.Ends.{End, Finish, EndsWith}
use Rattle.pi_duty.specs.Words.{LazyWords}
use Rattle.pi_duty.specs.Command.{Command, Lazy}
use Rattle.pi_duty.specs.Lines.{usage_line, missing_line, dex_line, made_line, too_large_line, not_built_line}
use Rattle.pi_bytes.specs.Numbers.{most_bytes}
use Rattle.pi_duty.specs.Duty.{Owed, RunOwes, ProgramOwes, FileOwes, LengthOwes, LazyOwes, owed_of_run, end_status, end_lines, lazy_setting, refusal}
use Rattle.pi_top.specs.declared.plain.run.RunEnd.{RunEnd}
use Rattle.pi_top.specs.declared.plain.run.RunEnd.TheVariants.{Returned, Limited, OutFault}
use Rattle.pi_top.specs.declared.file.fault.FileFault.{FileFault}
use Rattle.pi_top.specs.declared.file.fault.FileFault.TheVariants as fault
use Rattle.pi_top.specs.Statuses.{ends_run}
use Rattle.pi_top.specs.Answer.{OwesOver}
use Rattle.pi_top.specs.SmallCall.{RunEnds}
use Rattle.pi_top.specs.Run.{AnswersRun}
use Rattle.pi_top.specs.Outcome.{Gives, EndGives, FileGives, NoWrite}

run_owes : (p : Program) (steps : ℕ) (main : Option ℕ) (method : ℕ) (f : Finish) → main ≡ Some method → EndsWith p (lazy_setting steps) method [] f → RunOwes p steps main (owed_of_run p f)
run_owes p steps None method f is h = absurd (cc)
run_owes p steps (Some m) method f is h =
    let e : method ≡ m = cc in
    (f, (subst (λ k. EndsWith p (lazy_setting steps) k [] f) e h, refl))

-- a small program owes what its run ends with, and another a refusal
program_owes : (small : Bool) (l : LazyWords) (p : Program) (f : Finish) → small ≡ true → RunEnds p l.main l.steps f → ProgramOwes small l p (owed_of_run p f)
program_owes true l p f is h = run_owes p l.steps (main_of p l.main) h.method f h.found h.ends
program_owes false l p f is h = absurd (cc)

other_owes : (small : Bool) (l : LazyWords) (p : Program) → small ≡ false → ProgramOwes small l p (refusal statuses.NotBuilt not_built_line)
other_owes false l p is = refl
other_owes true l p is = absurd (cc)

-- a file that breaks no rule owes what the program does that it says, and another a refusal
kept_owes : (l : LazyWords) (broken : Option rules.Broken) (p : Program) (o : Owed) → broken ≡ None → ProgramOwes (is_small l.main p) l p o → FileOwes l broken p o
kept_owes l None p o is h = h
kept_owes l (Some b) p o is h = absurd (cc)

broken_owes : (l : LazyWords) (broken : Option rules.Broken) (p : Program) (b : rules.Broken) → broken ≡ Some b → FileOwes l broken p (refusal statuses.Dex (dex_line l.file b.rule b.at))
broken_owes l None p b is = absurd (cc)
broken_owes l (Some x) p b is =
    let same : x ≡ b = cc in
    ap (λ (y : rules.Broken). refusal statuses.Dex (dex_line l.file y.rule y.at)) (sym same)

by_length : (long : Bool) (l : LazyWords) (file : List ℕ) (o : Owed) → long ≡ false → FileOwes l (broken_rule file) (with_said core_program file) o → LengthOwes long l file o
by_length true l file o is h = absurd (cc)
by_length false l file o is h = h

-- a file within the limit owes what its content does
short_owes : (l : LazyWords) (file : List ℕ) (o : Owed) → length file ≤ most_bytes → FileOwes l (broken_rule file) (with_said core_program file) o → LazyOwes l (Some file) o
short_owes l file o short h =
    let e : nat_lt most_bytes (length file) ≡ false = grind (arith, nat_tests) in
    by_length _ l file o e h

long_length : (long : Bool) (l : LazyWords) (file : List ℕ) → long ≡ true → LengthOwes long l file (refusal statuses.TooLarge (too_large_line l.file))
long_length true l file is = refl
long_length false l file is = absurd (cc)

-- and one past the limit a refusal
long_owes : (l : LazyWords) (file : List ℕ) → most_bytes < length file → LazyOwes l (Some file) (refusal statuses.TooLarge (too_large_line l.file))
long_owes l file long =
    let e : nat_lt most_bytes (length file) ≡ true = grind (arith, nat_tests) in
    long_length _ l file e

-- a run ends with one of its statuses
run_status : (end : End) → IsTrue (ends_run (end_status end))
run_status ends.Returned = refl
run_status (ends.Uncaught c message) = refl
run_status ends.StepLimit = refl
run_status ends.HeapLimit = refl
run_status ends.FrameLimit = refl

-- what the answer of a run says of what is owed
end_gives : (owes : Owed → Type 0) (p : Program) (end : RunEnd) (f : Finish) (before now : SinkView) → owes (owed_of_run p f) → AnswersRun end f before now → EndGives owes NoWrite end before now
end_gives owes p (Returned n) f before now due a = record {
  owed = owed_of_run p f;
  due = due;
  has_status = ap end_status a.0;
  made = refl;
  printed = a.2;
  told = ap (λ e. end_lines p e ++ made_line f.steps) a.0 ∙ ap made_line a.1;
}
end_gives owes p (Limited n) f before now due a = record {
  owed = owed_of_run p f;
  due = due;
  has_status = ap end_status a.0;
  made = refl;
  printed = a.2;
  told = ap (λ e. end_lines p e ++ made_line f.steps) a.0 ∙ ap (λ k. codes "limit steps\n" ++ made_line k) a.1;
}
end_gives owes p OutFault f before now due a = record { owed = owed_of_run p f; due = due; of_run = run_status f.end; begun = a }

-- a file that says a program behind the first file owes what that program does
said_owes : (l : LazyWords) (file : List ℕ) (p : Program) (o : Owed) → length file ≤ most_bytes → SaysNext core_program file p → ProgramOwes (is_small l.main p) l p o → LazyOwes l (Some file) o
said_owes l file p o short says due =
    let there : ProgramOwes (is_small l.main (with_said core_program file)) l (with_said core_program file) o =
    subst (λ (q : Program). ProgramOwes (is_small l.main q) l q o) says.chain due in
    short_owes l file o short (kept_owes l (broken_rule file) (with_said core_program file) o says.kept there)

pub run_gives : (name main text file : List ℕ) (steps : ℕ) (p : Program) (end : RunEnd) (before now : SinkView) → text ≡ main → length file ≤ most_bytes
    → SaysNext core_program file p → is_small text p ≡ true → ((f : Finish) × (RunEnds p text steps f × AnswersRun end f before now))
    → EndGives (LazyOwes (record { file = name; main = main; steps = steps }) (Some file)) NoWrite end before now
run_gives name main text file steps p end before now is short says small ends =
    let l : LazyWords = record { file = name; main = main; steps = steps } in
    let small' : is_small main p ≡ true = subst (λ m. is_small m p ≡ true) is small in
    let h : RunEnds p main steps ends.0 = subst (λ m. RunEnds p m steps ends.0) is ends.1.0 in
    end_gives (LazyOwes l (Some file)) p end ends.0 before now (said_owes l file p _ short says (program_owes (is_small main p) l p ends.0 small' h)) ends.1.1

-- a refusal is a line and nothing else
refused_gives : (owes : Owed → Type 0) (status : Status) (line : List ℕ) (before : SinkView) → owes (refusal status line) → Gives owes status NoWrite line before before
refused_gives owes status line before due = record {
  owed = refusal status line;
  due = due;
  has_status = refl;
  made = refl;
  printed = took_nothing before;
  told = refl;
}

-- a program that is not small
pub other_gives : (name main text file : List ℕ) (steps : ℕ) (p : Program) (before : SinkView) → text ≡ main → length file ≤ most_bytes
    → SaysNext core_program file p → is_small text p ≡ false
    → Gives (LazyOwes (record { file = name; main = main; steps = steps }) (Some file)) statuses.NotBuilt NoWrite not_built_line before before
other_gives name main text file steps p before is short says small =
    let l : LazyWords = record { file = name; main = main; steps = steps } in
    let small' : is_small main p ≡ false = subst (λ m. is_small m p ≡ false) is small in
    refused_gives _ _ _ before (said_owes l file p _ short says (other_owes (is_small main p) l p small'))

-- a file that breaks a rule
pub broken_gives : (l : LazyWords) (file : List ℕ) (rule at : ℕ) (before : SinkView) → length file ≤ most_bytes
    → broken_rule file ≡ Some (record { rule = rule; at = at }) → Gives (LazyOwes l (Some file)) statuses.Dex NoWrite (dex_line l.file rule at) before before
broken_gives l file rule at before short is =
    refused_gives _ _ _ before (short_owes l file _ short (broken_owes l (broken_rule file) (with_said core_program file) (record { rule = rule; at = at }) is))

-- what the reader answers, where it refuses the file
pub reader_gives : (A : Type 0) (name main file : List ℕ) (steps : ℕ) (before : SinkView) (f : DexFault) (e : FileFault) (r : Result RunEnd FileFault) → r ≡ Err e → e ≡ fault_of f
    → length file ≤ most_bytes → Tells {A = A} (broken_rule file) (Err f) → FileGives name (LazyOwes (record { file = name; main = main; steps = steps }) (Some file)) NoWrite r before before
reader_gives A name main file steps before f e (Ok end) is of short told = absurd (cc)
reader_gives A name main file steps before dex.OutOfMemory e (Err fault.OutOfMemory) is of short told = refl
reader_gives A name main file steps before dex.OutOfMemory e (Err (fault.Broken rule at)) is of short told = absurd (cc)
reader_gives A name main file steps before dex.OutOfMemory e (Err fault.NotBuilt) is of short told = absurd (cc)
reader_gives A name main file steps before (dex.Rule rule at) e (Err fault.OutOfMemory) is of short told = absurd (cc)
reader_gives A name main file steps before (dex.Rule rule at) e (Err fault.NotBuilt) is of short told = absurd (cc)
reader_gives A name main file steps before (dex.Rule rule at) e (Err (fault.Broken r2 a2)) is of short told =
    let same_rule : rule ≡ r2 = cc in
    let same_at : at ≡ a2 = cc in
    subst (λ a. Gives (LazyOwes (record { file = name; main = main; steps = steps }) (Some file)) statuses.Dex NoWrite (dex_line name r2 a) before before) same_at
    (subst (λ r. Gives (LazyOwes (record { file = name; main = main; steps = steps }) (Some file)) statuses.Dex NoWrite (dex_line name r at) before before) same_rule
    (broken_gives (record { file = name; main = main; steps = steps }) file rule at before short told))

-- a store that shows what was found, or that shows nothing
over : (store : StoreView) (l : LazyWords) (found : Option (List ℕ)) (o : Owed) → (IsTrue store.shown → store.contents l.file ≡ found) → LazyOwes l found o → OwesOver store (Some (Lazy l)) o
over store l found o h due = by_shown store.shown refl
  where
    by_shown : (shown : Bool) → store.shown ≡ shown → OwesOver store (Some (Lazy l)) o
    by_shown true is = record { contents = store.contents; as_shown = λ _. refl; owes = subst (λ c. LazyOwes l c o) (sym (h is)) due }
    by_shown false is = record { contents = λ _. found; as_shown = λ s. absurd (cc); owes = due }

longer : (n : ℕ) → (xs : List ℕ) × (n < length xs)
longer zero = (0 ∷ [], omega arith)
longer (suc n) = (0 ∷ (longer n).0, omega (arith, (longer n).1))

large_owes : (l : LazyWords) (found : Option (List ℕ)) → IsSomeAnd found (λ file. most_bytes < length file) → LazyOwes l found (refusal statuses.TooLarge (too_large_line l.file))
large_owes l None h = absurd h
large_owes l (Some file) h = long_owes l file h

large_over : (store : StoreView) (l : LazyWords) → (IsTrue store.shown → IsSomeAnd (store.contents l.file) (λ file. most_bytes < length file)) → OwesOver store (Some (Lazy l)) (refusal statuses.TooLarge (too_large_line l.file))
large_over store l h = by_shown store.shown refl
  where
    by_shown : (shown : Bool) → store.shown ≡ shown → OwesOver store (Some (Lazy l)) (refusal statuses.TooLarge (too_large_line l.file))
    by_shown true is = record { contents = store.contents; as_shown = λ _. refl; owes = large_owes l (store.contents l.file) (h is) }
    by_shown false is =
        let other : (xs : List ℕ) × (most_bytes < length xs) = longer most_bytes in
        record { contents = λ _. Some other.0; as_shown = λ s. absurd (cc); owes = long_owes l other.0 other.1 }

-- what is said of one thing that is owed is said of another that it makes owed
module _ (P Q : Owed → Type 0) (M N : List Write → Type 0) (k : (o : Owed) → P o → Q o) (m : (ws : List Write) → M ws → N ws) (before now : SinkView) where
  gives_map : (status : Status) (lines : List ℕ) → Gives P status M lines before now → Gives Q status N lines before now
  gives_map status lines g = record {
    owed = g.owed;
    due = k g.owed g.due;
    has_status = g.has_status;
    made = m g.owed.writes g.made;
    printed = g.printed;
    told = g.told;
  }

  end_map : (end : RunEnd) → EndGives P M end before now → EndGives Q N end before now
  end_map (Returned n) g = gives_map statuses.Done _ g
  end_map (Limited n) g = gives_map statuses.Steps _ g
  end_map OutFault g = record { owed = g.owed; due = k g.owed g.due; of_run = g.of_run; begun = g.begun }

  file_map : (name : List ℕ) (r : Result RunEnd FileFault) → FileGives name P M r before now → FileGives name Q N r before now
  file_map name (Ok end) g = end_map end g
  file_map name (Err fault.OutOfMemory) g = g
  file_map name (Err (fault.Broken rule at)) g = gives_map statuses.Dex _ g
  file_map name (Err fault.NotBuilt) g = gives_map statuses.NotBuilt _ g

-- a store that kept its contents made all writes of a command that has none
module _ (store store_now : StoreView) (keeps : Keeps store store_now) where
  abbrev Made : List Write → Type 0
  Made writes = MakesAll writes store store_now

  refused_made : (owes : Owed → Type 0) (status : Status) (line : List ℕ) (before : SinkView) → owes (refusal status line) → Gives owes status Made line before before
  refused_made owes status line before due = record {
    owed = refusal status line;
    due = due;
    has_status = refl;
    made = keeps;
    printed = took_nothing before;
    told = refl;
  }

  pub file_over : (l : LazyWords) (file text : List ℕ) (r : Result RunEnd FileFault) (before now : SinkView) → text ≡ file
      → (IsTrue store.shown → store.contents l.file ≡ Some file) → FileGives l.file (LazyOwes l (Some text)) NoWrite r before now → FileGives l.file (OwesOver store (Some (Lazy l))) Made r before now
  file_over l file text r before now same h g =
      file_map (LazyOwes l (Some text)) (OwesOver store (Some (Lazy l))) NoWrite Made
      (λ o due. over store l (Some file) o h (subst (λ t. LazyOwes l (Some t) o) same due))
      (λ ws none. subst (λ (xs : List Write). MakesAll xs store store_now) (sym none) keeps)
      before now l.file r g

  pub missing_gives : (l : LazyWords) (before : SinkView) → (IsTrue store.shown → store.contents l.file ≡ None) → Gives (OwesOver store (Some (Lazy l))) statuses.Missing Made (missing_line l.file) before before
  missing_gives l before h = refused_made _ _ _ before (over store l None _ h refl)

  pub large_gives : (l : LazyWords) (before : SinkView) → (IsTrue store.shown → IsSomeAnd (store.contents l.file) (λ file. most_bytes < length file))
      → Gives (OwesOver store (Some (Lazy l))) statuses.TooLarge Made (too_large_line l.file) before before
  large_gives l before h = refused_made _ _ _ before (large_over store l h)

pub usage_gives : (store : StoreView) (command : Option Command) (before : SinkView) → None ≡ command → Gives (OwesOver store command) statuses.Usage (λ writes. MakesAll writes store store) usage_line before before
usage_gives store None before is = refused_made store store (stands store) _ _ _ before (record { contents = store.contents; as_shown = λ _. refl; owes = refl })
usage_gives store (Some l) before is = absurd (cc)
