-- What holds of an answer holds where it follows from what a call said.
use Rattle.std.specs.Prelude.{Result, Ok, Err, OnOk, IfOk}

pub on_ok : {A E : Type 0} {P Q : Type 0} (r : Result A E) → OnOk r P → (P → Q) → OnOk r Q
on_ok (Ok a) p f = f p
on_ok (Err e) p f = tt

pub if_ok : {A E : Type 0} {P : Type 0} {R S : A → Type 0} (r : Result A E) → OnOk r P → IfOk r R → (P → (a : A) → R a → S a) → IfOk r S
if_ok (Ok a) p q f = f p a q
if_ok (Err e) p q f = tt
