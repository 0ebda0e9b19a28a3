-- Prototypes, fields and methods of a file that breaks no rule: two numbers have two entries, as the tables rise.
use Rattle.std.proofs.Common.{◌≡◌, ℕ, suc, ◌-◌, ◌<◌, List, true, inl, inr, subst}
use Rattle.std.specs.Prelude.{◌==◌, ◌||◌}
use Rattle.std.specs.declared.cmp.Ordering.{Ordering}
use Rattle.std.specs.declared.cmp.Ordering.TheVariants.{Less, Equal}
use Rattle.std.specs.Cmp.{IsTotalOrder}
use Rattle.std.specs.Cmp.Lexicographic.{slice_cmp}
use Rattle.std.specs.Ordering.{is_lt, nat_cmp}
use Rattle.std.proofs.lemmas.Bool.{and_parts, cases_order}
use Rattle.std.proofs.lemmas.Cmp.{nat_cmp_total, nat_list_cmp_total, on_total, then_total, tied_itself, tied_back}
use Rattle.pi_format.specs.Tables.{count_at, proto_ids, field_ids, method_ids}
use Rattle.pi_format.specs.Rules.Entries.{list_at}
use Rattle.pi_format.specs.Rules.Members.{ProtoEntry, MemberEntry, proto_entry, protos_compared, proto_rises, proto_fits, proto_holds, member_entry, members_compared, member_rises, field_fits, field_holds, method_fits, method_holds}
use Rattle.pi_format.proofs.Held.{TablesHold, entry_holds}
use Rattle.pi_said.proofs.Lists.{rises}
use Rattle.pi_said.proofs.Types.{not_first, one_back, less_is}

-- entries that rise from each to the next have one number where they tie
follows : (compared : ℕ → ℕ → Ordering) (k : ℕ) → ((suc k == 0) || is_lt (compared (suc k - 1) (suc k))) ≡ true → compared k (suc k) ≡ Less
follows compared k h =
    less_is (compared k (suc k))
    (subst (λ (j : ℕ). is_lt (compared j (suc k)) ≡ true) (one_back k) (not_first k (is_lt (compared (suc k - 1) (suc k))) h))

once : {A : Type 0} (R : A → A → Ordering) → IsTotalOrder R → (f : ℕ → A) (n : ℕ) → ((k : ℕ) → suc k < n → R (f k) (f (suc k)) ≡ Less)
    → (i j : ℕ) → i < n → j < n → R (f i) (f j) ≡ Equal → i ≡ j
once {A = A} R total f n next i j a b tie =
    let rising : (j k : ℕ) → j < k → k < n → R (f j) (f k) ≡ Less = rises (λ (x y : A). R x y ≡ Less) total.trans f n next in
    elim (cases_order i j) [
      | inl h ↦ h
      | inr h ↦ elim h [
        | inl less ↦ let k = rising i j less b in cc
        | inr less ↦ let k = rising j i less a in let back = tied_back total (f i) (f j) tie in cc
      ]
    ]

nat_tied : (a b : ℕ) → a ≡ b → nat_cmp a b ≡ Equal
nat_tied a b e = subst (λ (x : ℕ). nat_cmp a x ≡ Equal) e (tied_itself nat_cmp_total a)

list_tied : (a b : List ℕ) → a ≡ b → slice_cmp nat_cmp a b ≡ Equal
list_tied a b e = subst (λ (x : List ℕ). slice_cmp nat_cmp a x ≡ Equal) e (tied_itself nat_list_cmp_total a)

-- prototypes, by the result and the parameters
protos_total : (file : List ℕ) → IsTotalOrder (protos_compared file)
unfolding protos_compared
protos_total file = then_total (on_total (λ (e : ProtoEntry). e.ret) nat_cmp_total) (on_total (λ (e : ProtoEntry). list_at file e.params) nat_list_cmp_total)

proto_follows : (file : List ℕ) → TablesHold file → (k : ℕ) → suc k < count_at file proto_ids → protos_compared file (proto_entry file k) (proto_entry file (suc k)) ≡ Less
proto_follows file tables k lt =
    let holds : proto_holds file (suc k) ≡ true = entry_holds file proto_ids 12 (proto_holds file) tables.protos (suc k) lt in
    follows (λ i j. protos_compared file (proto_entry file i) (proto_entry file j)) k ((and_parts (proto_fits file (proto_entry file (suc k))) (proto_rises file (suc k)) holds).1)

protos_tied : (file : List ℕ) (e f : ProtoEntry) → e.ret ≡ f.ret → list_at file e.params ≡ list_at file f.params → protos_compared file e f ≡ Equal
unfolding protos_compared
protos_tied file e f ret params = rw (nat_tied e.ret f.ret ret) (list_tied (list_at file e.params) (list_at file f.params) params)

pub proto_once : (file : List ℕ) → TablesHold file → (i j : ℕ) → i < count_at file proto_ids → j < count_at file proto_ids
    → (proto_entry file i).ret ≡ (proto_entry file j).ret → list_at file (proto_entry file i).params ≡ list_at file (proto_entry file j).params → i ≡ j
proto_once file tables i j a b ret params =
    once (protos_compared file) (protos_total file) (proto_entry file) (count_at file proto_ids) (proto_follows file tables) i j a b
    (protos_tied file (proto_entry file i) (proto_entry file j) ret params)

-- fields and methods, by the class, the name, and the type or the prototype
members_total : IsTotalOrder members_compared
members_total =
    then_total (on_total (λ (e : MemberEntry). e.class) nat_cmp_total)
    (then_total (on_total (λ (e : MemberEntry). e.name) nat_cmp_total) (on_total (λ (e : MemberEntry). e.kind) nat_cmp_total))

members_tied : (e f : MemberEntry) → e.class ≡ f.class → e.name ≡ f.name → e.kind ≡ f.kind → members_compared e f ≡ Equal
members_tied e f class name kind = rw (nat_tied e.class f.class class, nat_tied e.name f.name name) (nat_tied e.kind f.kind kind)

field_follows : (file : List ℕ) → TablesHold file → (k : ℕ) → suc k < count_at file field_ids → members_compared (member_entry file field_ids k) (member_entry file field_ids (suc k)) ≡ Less
field_follows file tables k lt =
    let holds : field_holds file (suc k) ≡ true = entry_holds file field_ids 8 (field_holds file) tables.fields (suc k) lt in
    follows (λ i j. members_compared (member_entry file field_ids i) (member_entry file field_ids j)) k
    ((and_parts (field_fits file (member_entry file field_ids (suc k))) (member_rises file field_ids (suc k)) holds).1)

method_follows : (file : List ℕ) → TablesHold file → (k : ℕ) → suc k < count_at file method_ids → members_compared (member_entry file method_ids k) (member_entry file method_ids (suc k)) ≡ Less
method_follows file tables k lt =
    let holds : method_holds file (suc k) ≡ true = entry_holds file method_ids 8 (method_holds file) tables.methods (suc k) lt in
    follows (λ i j. members_compared (member_entry file method_ids i) (member_entry file method_ids j)) k
    ((and_parts (method_fits file (member_entry file method_ids (suc k))) (member_rises file method_ids (suc k)) holds).1)

-- two entries of a table of members are of one thing
pub record SameMember (e f : MemberEntry) : Type 0 where
  pub class : e.class ≡ f.class
  pub name : e.name ≡ f.name
  pub kind : e.kind ≡ f.kind

pub field_once : (file : List ℕ) → TablesHold file → (i j : ℕ) → i < count_at file field_ids → j < count_at file field_ids
    → SameMember (member_entry file field_ids i) (member_entry file field_ids j) → i ≡ j
field_once file tables i j a b same =
    once members_compared members_total (member_entry file field_ids) (count_at file field_ids) (field_follows file tables) i j a b
    (members_tied (member_entry file field_ids i) (member_entry file field_ids j) same.class same.name same.kind)

pub method_once : (file : List ℕ) → TablesHold file → (i j : ℕ) → i < count_at file method_ids → j < count_at file method_ids
    → SameMember (member_entry file method_ids i) (member_entry file method_ids j) → i ≡ j
method_once file tables i j a b same =
    once members_compared members_total (member_entry file method_ids) (count_at file method_ids) (method_follows file tables) i j a b
    (members_tied (member_entry file method_ids i) (member_entry file method_ids j) same.class same.name same.kind)
