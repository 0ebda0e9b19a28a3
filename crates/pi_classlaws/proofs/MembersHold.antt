-- What holds of each member of a class holds of those of each kind; and what the kinds are.
use Rattle.std.proofs.Common.{◌≡◌, ℕ, Bool, true, false, not, List, [], ◌∷◌, filter, IsTrue}
use Rattle.std.specs.List.{All, list_all}
use Rattle.std.proofs.lemmas.Bool.{not-true}
use Rattle.std.proofs.lemmas.List.Elements.{All-nil, All-cons, All-head, All-tail, All-weaker, All-filter, filter_passes}
use Rattle.std.proofs.lemmas.List.Sums.{AllPass-from_list_all, list_all-from_AllPass}
use Rattle.pi_model.specs.Flags.{is_static}
use Rattle.pi_contents.specs.Contents.{FieldContent, MethodContent, ClassContent}
use Rattle.pi_contents.specs.Asked.{is_direct}
use Rattle.pi_classtables.specs.Sized.{FieldSized, MethodSized, IsSized}
use Rattle.pi_classtables.specs.Spelled.{field_spelled, MethodSpelled, IsSpelled}
use Rattle.pi_classtables.specs.Whole.{Added, Method, methods_with, added_methods, field_rank, method_rank, statics_of, instances_of, directs_of, virtuals_of}
use Rattle.pi_classtables.proofs.Arranged.{all_arranged}

module _ (P : FieldContent → Type 0) (c : ClassContent) (all : All P c.fields) where
  pub all_statics : All P (statics_of c)
  all_statics =
      all_arranged field_rank P (filter (λ (f : FieldContent). is_static f.flags) c.fields)
      (All-filter (λ (f : FieldContent). is_static f.flags) P c.fields all)

  pub all_instances : All P (instances_of c)
  all_instances =
      all_arranged field_rank P (filter (λ (f : FieldContent). not (is_static f.flags)) c.fields)
      (All-filter (λ (f : FieldContent). not (is_static f.flags)) P c.fields all)

module _ (P : Method → Type 0) (e : Added) (all : All P (added_methods e)) where
  pub all_directs : All P (directs_of e)
  all_directs =
      all_arranged method_rank P (filter (λ (m : Method). is_direct m.content) (added_methods e))
      (All-filter (λ (m : Method). is_direct m.content) P (added_methods e) all)

  pub all_virtuals : All P (virtuals_of e)
  all_virtuals =
      all_arranged method_rank P (filter (λ (m : Method). not (is_direct m.content)) (added_methods e))
      (All-filter (λ (m : Method). not (is_direct m.content)) P (added_methods e) all)

-- what holds of the methods of a class holds of those that are added
all_with : (P : MethodContent → Type 0) (ms : List MethodContent) (sparse : List (List ℕ)) → All P ms → All (λ (m : Method). P m.content) (methods_with ms sparse)
all_with P [] sparse all = All-nil (λ (m : Method). P m.content)
all_with P (m ∷ ms) [] all =
    All-cons (λ (m : Method). P m.content) (record { content = m; sparse = [] }) (methods_with ms []) (All-head P m ms all) (all_with P ms [] (All-tail P m ms all))
all_with P (m ∷ ms) (s ∷ ss) all =
    All-cons (λ (m : Method). P m.content) (record { content = m; sparse = s }) (methods_with ms ss) (All-head P m ms all) (all_with P ms ss (All-tail P m ms all))

pub all_added : (P : MethodContent → Type 0) (e : Added) → All P e.class.methods → All (λ (m : Method). P m.content) (added_methods e)
all_added P e all = all_with P e.class.methods e.sparse all

-- numbers fit
pub statics_sized : (c : ClassContent) → IsSized c → All FieldSized (statics_of c)
statics_sized c sized = all_statics FieldSized c sized.fields

pub instances_sized : (c : ClassContent) → IsSized c → All FieldSized (instances_of c)
instances_sized c sized = all_instances FieldSized c sized.fields

pub directs_sized : (e : Added) → IsSized e.class → All (λ (m : Method). MethodSized m.content) (directs_of e)
directs_sized e sized = all_directs (λ (m : Method). MethodSized m.content) e (all_added MethodSized e sized.methods)

pub virtuals_sized : (e : Added) → IsSized e.class → All (λ (m : Method). MethodSized m.content) (virtuals_of e)
virtuals_sized e sized = all_virtuals (λ (m : Method). MethodSized m.content) e (all_added MethodSized e sized.methods)

-- a file can say them
fields_pass : (p : FieldContent → Bool) (c : ClassContent) → list_all p c.fields ≡ true → (list_all p (statics_of c) ≡ true) × (list_all p (instances_of c) ≡ true)
fields_pass p c h =
    let each = AllPass-from_list_all p c.fields h in (
      list_all-from_AllPass p (statics_of c) (all_statics (λ f. p f ≡ true) c each),
      list_all-from_AllPass p (instances_of c) (all_instances (λ f. p f ≡ true) c each),
    )

pub statics_spelled : (e : Added) → IsSpelled e → IsTrue (list_all field_spelled (statics_of e.class))
statics_spelled e spelled = (fields_pass field_spelled e.class spelled.fields).0

pub instances_spelled : (e : Added) → IsSpelled e → IsTrue (list_all field_spelled (instances_of e.class))
instances_spelled e spelled = (fields_pass field_spelled e.class spelled.fields).1

pub directs_spelled : (e : Added) → IsSpelled e → All MethodSpelled (directs_of e)
directs_spelled e spelled = all_directs MethodSpelled e spelled.codes

pub virtuals_spelled : (e : Added) → IsSpelled e → All MethodSpelled (virtuals_of e)
virtuals_spelled e spelled = all_virtuals MethodSpelled e spelled.codes

-- each list has members of its kind
fails : {A : Type 0} (p : A → Bool) (xs : List A) → All (λ x. p x ≡ false) (filter (λ x. not (p x)) xs)
fails p xs =
    All-weaker (λ x. not (p x) ≡ true) (λ x. p x ≡ false) (λ x h. not-true (p x) h) (filter (λ x. not (p x)) xs) (filter_passes (λ x. not (p x)) xs)

pub statics_static : (c : ClassContent) → All (λ (f : FieldContent). is_static f.flags ≡ true) (statics_of c)
statics_static c =
    all_arranged field_rank (λ (f : FieldContent). is_static f.flags ≡ true) (filter (λ (f : FieldContent). is_static f.flags) c.fields)
    (filter_passes (λ (f : FieldContent). is_static f.flags) c.fields)

pub instances_not_static : (c : ClassContent) → All (λ (f : FieldContent). is_static f.flags ≡ false) (instances_of c)
instances_not_static c =
    all_arranged field_rank (λ (f : FieldContent). is_static f.flags ≡ false) (filter (λ (f : FieldContent). not (is_static f.flags)) c.fields)
    (fails (λ (f : FieldContent). is_static f.flags) c.fields)

pub directs_direct : (e : Added) → All (λ (m : Method). is_direct m.content ≡ true) (directs_of e)
directs_direct e =
    all_arranged method_rank (λ (m : Method). is_direct m.content ≡ true) (filter (λ (m : Method). is_direct m.content) (added_methods e))
    (filter_passes (λ (m : Method). is_direct m.content) (added_methods e))

pub virtuals_not_direct : (e : Added) → All (λ (m : Method). is_direct m.content ≡ false) (virtuals_of e)
virtuals_not_direct e =
    all_arranged method_rank (λ (m : Method). is_direct m.content ≡ false) (filter (λ (m : Method). not (is_direct m.content)) (added_methods e))
    (fails (λ (m : Method). is_direct m.content) (added_methods e))
