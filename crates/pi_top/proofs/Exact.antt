-- The status is the one that is owed, but for the faults and want of memory.
use Rattle.std.proofs.Common.{◌≡◌, ℕ, List, Bool, true, false, ◌||◌, IsTrue, refl, ap, sym, ◌∙◌, subst}
use Rattle.pi_base.specs.declared.status.Status.{Status}
use Rattle.pi_base.specs.declared.status.Status.TheVariants as statuses
use Rattle.pi_base.specs.Views.{Contents, StoreView, SinkView}
use Rattle.pi_base.specs.Writes.{Write, MakesAll}
use Rattle.pi_duty.specs.Command.{command_of}
use Rattle.pi_duty.specs.Duty.{Owed, WordsOwe, Owes, OwesOnce}
use Rattle.pi_top.specs.declared.plain.run.RunEnd.TheVariants.{Returned, Limited, OutFault}
use Rattle.pi_top.specs.declared.outcome.Outcome.{Outcome}
use Rattle.pi_top.specs.declared.outcome.Outcome.TheVariants.{Usage, Missing, ReadFault, TooLarge, Memory, Broken, NotBuilt, Ran}
use Rattle.pi_top.specs.Statuses.{ends_run, is_status}
use Rattle.pi_top.specs.Answer.{OwesOver}
use Rattle.pi_top.specs.Obeys.{IsExact, is_as_owed, may_stop}
use Rattle.pi_top.specs.Outcome.{Gives, OutcomeGives, status_of}

or_right : (a b : Bool) → b ≡ true → IsTrue (a || b)
or_right true b e = refl
or_right false b e = e

module _ (once : OwesOnce) (store store_now : StoreView) (words : List (List ℕ)) (before now : SinkView) (shows : IsTrue store.shown) (o : Owed) (due : Owes words store.contents o) where
  abbrev Made : List Write → Type 0
  Made writes = MakesAll writes store store_now

  same : (a : Owed) → OwesOver store (command_of words) a → a ≡ o
  same a over = once words store.contents a o (subst (λ (c : Contents). WordsOwe (command_of words) c a) (over.as_shown shows) over.owes) due

  as_owed : (s : Status) → s ≡ o.status → IsTrue (is_status s s) → IsTrue (is_as_owed o s)
  as_owed s e itself =
      let is : is_status s o.status ≡ true = subst (λ (t : Status). IsTrue (is_status s t)) e itself in
      or_right (may_stop o s) (is_status s o.status) is

  given : (s : Status) (lines : List ℕ) → IsTrue (is_status s s) → Gives (OwesOver store (command_of words)) s Made lines before now → IsTrue (is_as_owed o s)
  given s lines itself g = as_owed s (sym g.has_status ∙ ap (λ (a : Owed). a.status) (same g.owed g.due)) itself

  cut : (a : Owed) → OwesOver store (command_of words) a → IsTrue (ends_run a.status) → IsTrue (is_as_owed o statuses.OutFault)
  cut a over run =
      let ends : ends_run o.status ≡ true = subst (λ (x : Owed). IsTrue (ends_run x.status)) (same a over) run in
      rw ends refl

  by_outcome : (r : Outcome) → OutcomeGives store store_now (command_of words) r before now → IsTrue (is_as_owed o (status_of r))
  by_outcome Usage g = given statuses.Usage _ refl g
  by_outcome (Missing name) g = given statuses.Missing _ refl g
  by_outcome (ReadFault name) g = refl
  by_outcome (TooLarge name) g = given statuses.TooLarge _ refl g
  by_outcome Memory g = refl
  by_outcome (Broken name rule at) g = given statuses.Dex _ refl g
  by_outcome NotBuilt g = given statuses.NotBuilt _ refl g
  by_outcome (Ran (Returned steps)) g = given statuses.Done _ refl g
  by_outcome (Ran (Limited steps)) g = given statuses.Steps _ refl g
  by_outcome (Ran OutFault) g = cut g.owed g.due g.of_run

-- the answer of an outcome is as owed
pub exact_of : (once : OwesOnce) (store store_now : StoreView) (words : List (List ℕ)) (before now : SinkView) (status : Status) (r : Outcome) → status ≡ status_of r
    → OutcomeGives store store_now (command_of words) r before now → IsExact store words status
exact_of once store store_now words before now status r is g = λ shows o due.
    subst (λ (s : Status). IsTrue (is_as_owed o s)) (sym is) (by_outcome once store store_now words before now shows o due r g)
