-- What reading leaves ahead, and handlers one by one.
use Rattle.std.proofs.Common.{◌≡◌, ℕ, suc, ◌+◌, ◌-◌, ◌<◌, ◌≤◌, List, [], ◌∷◌, ◌++◌, length, Bool, true, false, Option, Some, None, refl, sym, ap, ◌∙◌, arith, subst, length-append, append_assoc}
use Rattle.std.specs.Prelude.{ℤ, nat_abs, option_map, IfSome, OnSome, if◌then◌else◌}
use Rattle.pi_bytes.specs.Place.{Place}
use Rattle.pi_bytes.specs.Leb.{IsWhole, sleb_at}
use Rattle.pi_format.specs.Rules.Rows.{readable}
use Rattle.pi_insn.specs.Chain.{◌>>=◌}
use Rattle.pi_format.specs.Rules.CodeItems.{Handler, HandlerList, handler_at, handler_holds, handlers_from, has_last, last_handler, handler_list, lists_from}
use Rattle.pi_codeitem.specs.Places.{ArePlaces, AreBelow}
use Rattle.pi_codeitem.proofs.Finds.{places_push, below_push}
use Rattle.pi_codeitem.specs.Finding.{Finds, held_handler}

pub whole_is_long : (ends : ℕ → Bool) (more : ℕ) (bytes : List ℕ) → IsWhole ends more bytes → 1 ≤ length bytes
whole_is_long ends more bytes w = rw w.parts (omega (arith, length-append w.front (w.last ∷ [])))

-- things before those that were read
abbrev pub in_front : {A : Type 0} → List A → (List A × Place) → (List A × Place)
in_front done r = (done ++ r.0, r.1)

in_front_twice : {A : Type 0} (done : List A) (x : A) (o : Option (List A × Place)) → option_map (in_front (done ++ x ∷ [])) o ≡ option_map (in_front done) (option_map (in_front (x ∷ [])) o)
in_front_twice done x None = refl
in_front_twice {A = A} done x (Some r) = ap (λ (xs : List A). Some (xs, r.1)) (append_assoc done (x ∷ []) r.0)

handlers_none : (file : List ℕ) (units n : ℕ) (p : Place) → held_handler file units p ≡ None → handlers_from file units (suc n) p ≡ None
unfolding held_handler
handlers_none file units n p e = by_read (handler_at p) e
  where
    others : (Handler × Place) → Option (List Handler × Place)
    others first = handlers_from file units n first.1 >>= (λ o. Some (first.0 ∷ o.0, o.1))

    by_test : (b : Bool) (x : Handler × Place) → (if b then Some x else None) ≡ None → (if b then others x else None) ≡ None
    by_test true x e = cc
    by_test false x e = refl

    by_read : (r : Option (Handler × Place)) → (r >>= (λ first. if handler_holds file units first.0 then Some first else None)) ≡ None
        → (r >>= (λ first. if handler_holds file units first.0 then others first else None)) ≡ None
    by_read None e = refl
    by_read (Some x) e = by_test (handler_holds file units x.0) x e

handlers_some : (file : List ℕ) (units n : ℕ) (p q : Place) (h : Handler) → held_handler file units p ≡ Some (h, q)
    → handlers_from file units (suc n) p ≡ option_map (in_front (h ∷ [])) (handlers_from file units n q)
unfolding held_handler
handlers_some file units n p q h e = by_read (handler_at p) e
  where
    others : (Handler × Place) → Option (List Handler × Place)
    others first = handlers_from file units n first.1 >>= (λ o. Some (first.0 ∷ o.0, o.1))

    mapped : (x : Handler) (o : Option (List Handler × Place)) → (o >>= (λ o. Some (x ∷ o.0, o.1))) ≡ option_map (in_front (x ∷ [])) o
    mapped x None = refl
    mapped x (Some r) = refl

    by_test : (b : Bool) (x : Handler × Place) → (if b then Some x else None) ≡ Some (h, q)
        → (if b then others x else None) ≡ option_map (in_front (h ∷ [])) (handlers_from file units n q)
    by_test true x e =
        let same : x ≡ (h, q) = cc in
        subst (λ (y : Handler × Place). others x ≡ option_map (in_front (y.0 ∷ [])) (handlers_from file units n y.1)) same (mapped x.0 (handlers_from file units n x.1))
    by_test false x e = cc

    by_read : (r : Option (Handler × Place)) → (r >>= (λ first. if handler_holds file units first.0 then Some first else None)) ≡ Some (h, q)
        → (r >>= (λ first. if handler_holds file units first.0 then others first else None)) ≡ option_map (in_front (h ∷ [])) (handlers_from file units n q)
    by_read None e = cc
    by_read (Some x) e = by_test (handler_holds file units x.0) x e

pub typed_goes : (file : List ℕ) (units i n : ℕ) (p q : Place) (done : List Handler) (h : Handler) → i < n → held_handler file units p ≡ Some (h, q)
    → option_map (in_front (done ++ h ∷ [])) (handlers_from file units (n - (i + 1)) q) ≡ option_map (in_front done) (handlers_from file units (n - i) p)
typed_goes file units i n p q done h lt e =
    let more : n - i ≡ suc (n - (i + 1)) = omega arith in
    in_front_twice done h (handlers_from file units (n - (i + 1)) q)
    ∙ ap (option_map (in_front done)) (sym (handlers_some file units (n - (i + 1)) p q h e) ∙ ap (λ (k : ℕ). handlers_from file units k p) (sym more))

pub typed_stops : (file : List ℕ) (units i n : ℕ) (p : Place) (done : List Handler) → i < n → held_handler file units p ≡ None
    → option_map (in_front done) (handlers_from file units (n - i) p) ≡ None
typed_stops file units i n p done lt e =
    let more : n - i ≡ suc (n - (i + 1)) = omega arith in
    rw (more, handlers_none file units (n - (i + 1)) p e) refl

-- lists before those that were read
abbrev pub before : List HandlerList → List HandlerList → List HandlerList
before done ls = done ++ ls

pub lists_goes : (file : List ℕ) (units i n : ℕ) (p q : Place) (done : List HandlerList) (l : HandlerList) → i < n → handler_list file units p ≡ Some (l, q)
    → option_map (before (done ++ l ∷ [])) (lists_from file units (n - (i + 1)) q) ≡ option_map (before done) (lists_from file units (n - i) p)
lists_goes file units i n p q done l lt e =
    let more : n - i ≡ suc (n - (i + 1)) = omega arith in
    rw (more, e) (mapped (lists_from file units (n - (i + 1)) q))
  where
    mapped : (o : Option (List HandlerList)) → option_map (before (done ++ l ∷ [])) o ≡ option_map (before done) (o >>= (λ others. Some (l ∷ others)))
    mapped None = refl
    mapped (Some ls) = ap Some (append_assoc done (l ∷ []) ls)

pub lists_stops : (file : List ℕ) (units i n : ℕ) (p : Place) (done : List HandlerList) → i < n → handler_list file units p ≡ None
    → option_map (before done) (lists_from file units (n - i) p) ≡ None
lists_stops file units i n p done lt e =
    let more : n - i ≡ suc (n - (i + 1)) = omega arith in
    rw (more, e) refl

-- lists that were read, with their places, and what the rest is
pub record AreListed (file : List ℕ) (units n i : ℕ) (begin p : Place) (starts : List ℕ) (lists : List HandlerList) : Type 0 where
  pub same : p.bytes ≡ begin.bytes
  pub places : ArePlaces (λ (l : HandlerList). l.at) starts lists
  pub below : AreBelow p.at starts
  pub so_far : option_map (before lists) (lists_from file units (n - i) p) ≡ lists_from file units n begin

pub lists_more : (file : List ℕ) (units n i : ℕ) (begin p q : Place) (places : List ℕ) (lists : List HandlerList) (o : Option HandlerList) (l : HandlerList)
    → AreListed file units n i begin p places lists → i < n → Finds (handler_list file units p) q o → q.bytes ≡ p.bytes → OnSome o (p.at < q.at)
    → IfSome o (λ l. l.at ≡ p.at) → o ≡ Some l → AreListed file units n (i + 1) begin q (places ++ l.at ∷ []) (lists ++ l ∷ [])
lists_more file units n i begin p q places lists o l are lt f same behind begins is =
    let found : handler_list file units p ≡ Some (l, q) = subst (λ (o : Option HandlerList). Finds (handler_list file units p) q o) is f in
    let further : p.at < q.at = subst (λ (o : Option HandlerList). OnSome o (p.at < q.at)) is behind in
    let at : l.at ≡ p.at = subst (λ (o : Option HandlerList). IfSome o (λ l. l.at ≡ p.at)) is begins in
    record {
      same = same ∙ are.same;
      places = places_push (λ (l : HandlerList). l.at) p.at l.at places lists l are.places are.below (omega arith) refl;
      below = below_push p.at q.at l.at places are.below (omega arith) (omega arith);
      so_far = lists_goes file units i n p q lists l lt found ∙ are.so_far;
    }

-- what was found, by equal numbers
typed_found : (file : List ℕ) (units n m : ℕ) (q r : Place) (o : Option (List Handler)) (typed : List Handler) → Finds (handlers_from file units n q) r o → n ≡ m → o ≡ Some typed
    → handlers_from file units m q ≡ Some (typed, r)
typed_found file units n m q r o typed f same is =
    subst (λ (k : ℕ). handlers_from file units k q ≡ Some (typed, r)) same
    (subst (λ (o : Option (List Handler)). Finds (handlers_from file units n q) r o) is f)

pub no_last : (file : List ℕ) (units n : ℕ) (p q r : Place) (size : ℤ) (o : Option (List Handler)) (typed : List Handler) (has : Bool)
    → readable (sleb_at p) ≡ Some (size, q) → Finds (handlers_from file units n q) r o → n ≡ nat_abs size → o ≡ Some typed
    → last_handler file units has r ≡ None → has ≡ has_last size → handler_list file units p ≡ None
unfolding handler_list
no_last file units n p q r size o typed has e1 f en is l eb =
    let e2 = typed_found file units n (nat_abs size) q r o typed f en is in
    let e3 : last_handler file units (has_last size) r ≡ None = subst (λ (b : Bool). last_handler file units b r ≡ None) eb l in
    rw (e1, e2, e3) refl

pub whole_list : (file : List ℕ) (units n : ℕ) (p q r s : Place) (size : ℤ) (o : Option (List Handler)) (typed : List Handler) (has : Bool) (last : Option ℕ)
    → readable (sleb_at p) ≡ Some (size, q) → Finds (handlers_from file units n q) r o → n ≡ nat_abs size → o ≡ Some typed
    → last_handler file units has r ≡ Some (last, s) → has ≡ has_last size → handler_list file units p ≡ Some (record { at = p.at; typed = typed; last = last }, s)
unfolding handler_list
whole_list file units n p q r s size o typed has last e1 f en is l eb =
    let e2 = typed_found file units n (nat_abs size) q r o typed f en is in
    let e3 : last_handler file units (has_last size) r ≡ Some (last, s) = subst (λ (b : Bool). last_handler file units b r ≡ Some (last, s)) eb l in
    rw (e1, e2, e3) refl
