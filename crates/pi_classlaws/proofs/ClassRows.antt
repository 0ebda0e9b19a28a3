-- What the row of a class is, field by field, and what the rows of its methods are.
use Rattle.std.proofs.Common.{◌≡◌, ℕ, List, [], ◌∷◌, ◌++◌, map, Option, Some, None, IfSome, option_map, refl, sym, subst}
use Rattle.std.specs.List.{All, AllZip}
use Rattle.std.proofs.lemmas.List.Elements.{All-nil, All-cons, All-head, All-tail}
use Rattle.pi_insn.specs.Chain.{◌>>=◌}
use Rattle.pi_insn.proofs.Steps.{bind_some}
use Rattle.pi_dextables.specs.declared.tables.Body.{Body}
use Rattle.pi_dextables.specs.declared.tables.Class.{Class}
use Rattle.pi_dextables.specs.declared.tables.MethodRow.{MethodRow}
use Rattle.pi_contents.specs.Contents.{CodeContent}
use Rattle.pi_contents.specs.Naming.{own_method}
use Rattle.pi_classtables.specs.Numbers.{Pools, type_no, method_no}
use Rattle.pi_classtables.specs.Values.{values_of}
use Rattle.pi_classtables.specs.Whole.{Added, Method, statics_of, instances_of, directs_of, virtuals_of, field_row, body_of, optional_body, method_row, for_each, class_row}

-- what is given for each thing of a list stands beside it
pub each_given : {A B : Type 0} (f : A → Option B) (xs : List A) (ys : List B) → for_each f xs ≡ Some ys → AllZip (λ x y. f x ≡ Some y) xs ys
each_given f [] [] e = tt
each_given f [] (y ∷ ys) e = cc
each_given f (x ∷ xs) zs e =
    let first = bind_some (f x) (λ y. for_each f xs >>= (λ ys. Some (y ∷ ys))) zs e in
    let rest = bind_some (for_each f xs) (λ ys. Some (first.0 ∷ ys)) zs first.1.1 in
    let same : first.0 ∷ rest.0 ≡ zs = cc (rest.1.1) in
    subst (AllZip (λ x y. f x ≡ Some y) (x ∷ xs)) same (first.1.0, each_given f xs rest.0 rest.1.0)

module _ {A B : Type 0} (R : A → B → Type 0) where
  -- so what holds of each thing tells what holds of what stands beside it
  pub all_beside : (P : A → Type 0) (Q : B → Type 0) → ((x : A) (y : B) → R x y → P x → Q y) → (xs : List A) (ys : List B) → AllZip R xs ys → All P xs → All Q ys
  all_beside P Q tells [] [] beside all = All-nil Q
  all_beside P Q tells [] (y ∷ ys) beside all = absurd beside
  all_beside P Q tells (x ∷ xs) [] beside all = absurd beside
  all_beside P Q tells (x ∷ xs) (y ∷ ys) beside all =
      All-cons Q y ys (tells x y beside.0 (All-head P x xs all)) (all_beside P Q tells xs ys beside.1 (All-tail P x xs all))

  pub map_beside : {C : Type 0} (g : A → C) (h : B → C) → ((x : A) (y : B) → R x y → h y ≡ g x) → (xs : List A) (ys : List B) → AllZip R xs ys → map h ys ≡ map g xs
  map_beside g h tells [] [] beside = refl
  map_beside g h tells [] (y ∷ ys) beside = absurd beside
  map_beside g h tells (x ∷ xs) [] beside = absurd beside
  map_beside g h tells (x ∷ xs) (y ∷ ys) beside =
      let first = tells x y beside.0 in
      let rest = map_beside g h tells xs ys beside.1 in
      cc

  -- and what is known of all that stand side by side may be said otherwise
  pub beside_weaker : (S : A → B → Type 0) → ((x : A) (y : B) → R x y → S x y) → (xs : List A) (ys : List B) → AllZip R xs ys → AllZip S xs ys
  beside_weaker S tells [] [] beside = tt
  beside_weaker S tells [] (y ∷ ys) beside = absurd beside
  beside_weaker S tells (x ∷ xs) [] beside = absurd beside
  beside_weaker S tells (x ∷ xs) (y ∷ ys) beside = (tells x y beside.0, beside_weaker S tells xs ys beside.1)

  -- by what is known of each thing
  pub beside_known : (P : A → Type 0) (S : A → B → Type 0) → ((x : A) (y : B) → R x y → P x → S x y) → (xs : List A) (ys : List B) → AllZip R xs ys → All P xs
      → AllZip S xs ys
  beside_known P S tells [] [] beside all = tt
  beside_known P S tells [] (y ∷ ys) beside all = absurd beside
  beside_known P S tells (x ∷ xs) [] beside all = absurd beside
  beside_known P S tells (x ∷ xs) (y ∷ ys) beside all =
      (tells x y beside.0 (All-head P x xs all), beside_known P S tells xs ys beside.1 (All-tail P x xs all))

  -- and two pairs of lists may be joined
  pub beside_joined : (xs xs' : List A) (ys ys' : List B) → AllZip R xs ys → AllZip R xs' ys' → AllZip R (xs ++ xs') (ys ++ ys')
  beside_joined [] xs' [] ys' first second = second
  beside_joined [] xs' (y ∷ ys) ys' first second = absurd first
  beside_joined (x ∷ xs) xs' [] ys' first second = absurd first
  beside_joined (x ∷ xs) xs' (y ∷ ys) ys' first second = (first.0, beside_joined xs xs' ys ys' first.1 second)

-- the row of a method
pub record MethodRowIs (p : Pools) (class : List ℕ) (m : Method) (r : MethodRow) : Type 0 where
  pub id : r.id ≡ method_no p (own_method class m.content)
  pub flags : r.flags ≡ m.content.flags
  pub code : optional_body p m.sparse m.content.code ≡ Some r.code

pub method_row_is : (p : Pools) (class : List ℕ) (m : Method) (r : MethodRow) → method_row p class m ≡ Some r → MethodRowIs p class m r
method_row_is p class m r e =
    let made : Option Body → MethodRow = λ code. record { id = method_no p (own_method class m.content); flags = m.content.flags; code = code } in
    let code = bind_some (optional_body p m.sparse m.content.code) (λ c. Some (made c)) r e in
    let same : made code.0 ≡ r = cc (code.1.1) in
    subst (MethodRowIs p class m) same (record { id = refl; flags = refl; code = code.1.0 })

-- the row of a class
pub record ClassRowIs (p : Pools) (e : Added) (c : Class) : Type 0 where
  pub class : c.class ≡ type_no p e.class.name
  pub flags : c.flags ≡ e.class.flags
  pub parent : c.parent ≡ option_map (type_no p) e.class.parent
  pub faces : c.faces ≡ map (type_no p) e.class.faces
  pub values : c.values ≡ values_of p (statics_of e.class)
  pub statics : c.statics ≡ map (field_row p e.class.name) (statics_of e.class)
  pub instances : c.instances ≡ map (field_row p e.class.name) (instances_of e.class)
  pub directs : for_each (method_row p e.class.name) (directs_of e) ≡ Some c.directs
  pub virtuals : for_each (method_row p e.class.name) (virtuals_of e) ≡ Some c.virtuals

pub class_row_is : (p : Pools) (e : Added) (c : Class) → class_row p e ≡ Some c → ClassRowIs p e c
unfolding class_row
class_row_is p e c is =
    let made : List MethodRow → List MethodRow → Class = λ directs virtuals. record {
      class = type_no p e.class.name;
      flags = e.class.flags;
      parent = option_map (type_no p) e.class.parent;
      faces = map (type_no p) e.class.faces;
      values = values_of p (statics_of e.class);
      statics = map (field_row p e.class.name) (statics_of e.class);
      instances = map (field_row p e.class.name) (instances_of e.class);
      directs = directs;
      virtuals = virtuals;
    } in
    let directs = bind_some (for_each (method_row p e.class.name) (directs_of e)) (λ ds. for_each (method_row p e.class.name) (virtuals_of e) >>= (λ vs. Some (made ds vs))) c is in
    let virtuals = bind_some (for_each (method_row p e.class.name) (virtuals_of e)) (λ vs. Some (made directs.0 vs)) c directs.1.1 in
    let same : made directs.0 virtuals.0 ≡ c = cc (virtuals.1.1) in
    subst (ClassRowIs p e) same (record {
      class = refl;
      flags = refl;
      parent = refl;
      faces = refl;
      values = refl;
      statics = refl;
      instances = refl;
      directs = directs.1.0;
      virtuals = virtuals.1.0;
    })

-- the rows of methods stand beside these
pub method_rows_beside : (p : Pools) (class : List ℕ) (ms : List Method) (rs : List MethodRow) → for_each (method_row p class) ms ≡ Some rs
    → AllZip (MethodRowIs p class) ms rs
method_rows_beside p class ms rs e =
    beside_weaker (λ m r. method_row p class m ≡ Some r) (MethodRowIs p class) (method_row_is p class) ms rs (each_given (method_row p class) ms rs e)

-- a body that is made of a code
pub body_found : (o made : Option Body) → option_map Some o ≡ Some made → (b : Body) × (o ≡ Some b) × (made ≡ Some b)
body_found None made e = cc
body_found (Some b) made e = (b, refl, cc)

-- and so do the codes: what holds of each code tells what holds of each body
body_made : (p : Pools) (m : Method) (code : Option CodeContent) (made : Option Body) (P : CodeContent → Type 0) (Q : Body → Type 0)
    → ((c : CodeContent) (b : Body) → P c → body_of p m.sparse c ≡ Some b → Q b) → optional_body p m.sparse code ≡ Some made → IfSome code P → IfSome made Q
body_made p m None made P Q tells e all = (let none : None ≡ made = cc in subst (λ (o : Option Body). IfSome o Q) none tt)
body_made p m (Some c) made P Q tells e all =
    let found = body_found (body_of p m.sparse c) made e in
    subst (λ (o : Option Body). IfSome o Q) (sym found.2) (tells c found.0 all found.1)

pub bodies_made : (p : Pools) (class : List ℕ) (P : Method → CodeContent → Type 0) (Q : Body → Type 0)
    → ((m : Method) (c : CodeContent) (b : Body) → P m c → body_of p m.sparse c ≡ Some b → Q b)
    → (ms : List Method) (rs : List MethodRow) → for_each (method_row p class) ms ≡ Some rs
    → All (λ (m : Method). IfSome m.content.code (P m)) ms → All (λ (r : MethodRow). IfSome r.code Q) rs
bodies_made p class P Q tells ms rs e =
    all_beside (MethodRowIs p class) (λ (m : Method). IfSome m.content.code (P m)) (λ (r : MethodRow). IfSome r.code Q)
    (λ m r is all. body_made p m m.content.code r.code (P m) Q (tells m) is.code all) ms rs (method_rows_beside p class ms rs e)
