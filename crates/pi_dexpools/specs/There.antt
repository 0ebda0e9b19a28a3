-- What is there to be found: a text among the texts, and a type behind its descriptor.
use Rattle.std.specs.Prelude.{ℕ, nat_eq, List, IsTrue}
use Rattle.std.specs.List.{list_any}
use Rattle.pi_model.specs.Texts.{same_text}
use Rattle.pi_dexpools.specs.declared.gathered.Gathered.{Gathered}
use Rattle.pi_dexpools.specs.Gathered.{text_place}

pub record HasText (g : Gathered) (s : List ℕ) : Type 0 where
  pub text : IsTrue (list_any (same_text s) g.texts)

pub record HasType (g : Gathered) (t : List ℕ) : Type 0 where
  pub text : IsTrue (list_any (same_text t) g.texts)
  pub type : IsTrue (list_any (nat_eq (text_place g t)) g.types)
