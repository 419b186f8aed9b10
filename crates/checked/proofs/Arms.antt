-- What follows a part of a node that was found as it must be, and where it stops else.
use Rattle.std.proofs.Common.{◌≡◌, ℕ, Bool, true, false, cond, Some, None, Ok, Err, Option, Result, refl, ap}
use Rattle.book.specs.declared.node.Node.{Node}
use Rattle.book.specs.declared.node.«Type».{«Type» as BType}
use Rattle.book.specs.declared.node.«Type».TheVariants.{Int, Boolean, Class}
use Rattle.checker.specs.declared.fault.TypeFault.{TypeFault}
use Rattle.checker.specs.declared.fault.TypeFault.TheVariants.{Part, Argument}
use Rattle.checker.specs.Checking.{same, an_int, a_boolean, of_class, of_type, member, inside, before}
use Rattle.checker.proofs.Depth.{type_step, com_step}
use Rattle.checked.specs.declared.types.Typing.{Typing}
use Rattle.cool.specs.Nodes.{Where, at_top, in_method}
use Rattle.checked.specs.Needing.{needs}
use Rattle.checked.specs.Typing.{NodeAt, book_typed, place_typed, type_at, command_at}

module _ {A : Type 0} (k : ℕ) (e : TypeFault) where
  pub int_stops : (x : Result BType TypeFault) (r : Result A TypeFault) → needs x Int (Part k) ≡ Err e → an_int k x r ≡ Err e
  int_stops (Err f) r h = cc
  int_stops (Ok Int) r h = cc
  int_stops (Ok Boolean) r h = cc
  int_stops (Ok (Class c)) r h = cc

  pub boolean_stops : (x : Result BType TypeFault) (r : Result A TypeFault) → needs x Boolean (Part k) ≡ Err e → a_boolean k x r ≡ Err e
  boolean_stops (Err f) r h = cc
  boolean_stops (Ok Int) r h = cc
  boolean_stops (Ok Boolean) r h = cc
  boolean_stops (Ok (Class c)) r h = cc

  pub class_stops : (x : Result BType TypeFault) (f : ℕ → Result A TypeFault) → of_class k x (λ c. Ok c) ≡ Err e → of_class k x f ≡ Err e
  class_stops (Err g) f h = cc
  class_stops (Ok Int) f h = cc
  class_stops (Ok Boolean) f h = cc
  class_stops (Ok (Class c)) f h = cc

  typed_stops_by : (b : Bool) (r : Result A TypeFault) → ◌≡◌ {A = Result (Unit {0}) TypeFault} (cond b (Ok tt) (Err (Argument k))) (Err e) → cond b r (Err (Argument k)) ≡ Err e
  typed_stops_by true r h = cc
  typed_stops_by false r h = cc

  pub typed_stops : (x : Result BType TypeFault) (u : BType) (r : Result A TypeFault) → needs x u (Argument k) ≡ Err e → of_type k x u r ≡ Err e
  typed_stops (Err f) u r h = cc
  typed_stops (Ok t) u r h = typed_stops_by (same t u) r h

  pub inside_stops : (Γ : Where) (f : ℕ → BType → Result A TypeFault) → inside {A = ℕ × BType} k Γ (λ c u. Ok (c, u)) ≡ Err e → inside k Γ f ≡ Err e
  inside_stops at_top f h = cc
  inside_stops (in_method c u) f h = cc

  pub member_stops : {M : Type 0} (o : Option M) (f : M → Result A TypeFault) → member k o (λ m. Ok m) ≡ Err e → member k o f ≡ Err e
  member_stops None f h = cc
  member_stops (Some m) f h = cc

module _ {A : Type 0} (k : ℕ) where
  pub int_goes : (x : Result BType TypeFault) (r : Result A TypeFault) → needs x Int (Part k) ≡ Ok tt → an_int k x r ≡ r
  int_goes (Err f) r h = cc
  int_goes (Ok Int) r h = refl
  int_goes (Ok Boolean) r h = cc
  int_goes (Ok (Class c)) r h = cc

  pub boolean_goes : (x : Result BType TypeFault) (r : Result A TypeFault) → needs x Boolean (Part k) ≡ Ok tt → a_boolean k x r ≡ r
  boolean_goes (Err f) r h = cc
  boolean_goes (Ok Int) r h = cc
  boolean_goes (Ok Boolean) r h = refl
  boolean_goes (Ok (Class c)) r h = cc

  pub class_goes : (c : ℕ) (x : Result BType TypeFault) (f : ℕ → Result A TypeFault) → of_class k x (λ d. Ok d) ≡ Ok c → of_class k x f ≡ f c
  class_goes c (Err g) f h = cc
  class_goes c (Ok Int) f h = cc
  class_goes c (Ok Boolean) f h = cc
  class_goes c (Ok (Class d)) f h = let s : d ≡ c = cc in ap f s

  typed_goes_by : (b : Bool) (r : Result A TypeFault) → ◌≡◌ {A = Result (Unit {0}) TypeFault} (cond b (Ok tt) (Err (Argument k))) (Ok tt) → cond b r (Err (Argument k)) ≡ r
  typed_goes_by true r h = refl
  typed_goes_by false r h = cc

  pub typed_goes : (x : Result BType TypeFault) (u : BType) (r : Result A TypeFault) → needs x u (Argument k) ≡ Ok tt → of_type k x u r ≡ r
  typed_goes (Err f) u r h = cc
  typed_goes (Ok t) u r h = typed_goes_by (same t u) r h

  pub inside_goes : (c : ℕ) (u : BType) (Γ : Where) (f : ℕ → BType → Result A TypeFault) → inside {A = ℕ × BType} k Γ (λ c u. Ok (c, u)) ≡ Ok (c, u) → inside k Γ f ≡ f c u
  inside_goes c u at_top f h = cc
  inside_goes c u (in_method d v) f h = let same : ◌≡◌ {A = ℕ × BType} (d, v) (c, u) = cc in ap (λ y. f y.0 y.1) same

  pub member_goes : {M : Type 0} (m : M) (o : Option M) (f : M → Result A TypeFault) → member k o (λ m. Ok m) ≡ Ok m → member k o f ≡ f m
  member_goes m None f h = cc
  member_goes m (Some n) f h = let s : n ≡ m = cc in ap f s

pub ruleset arms = (int_stops, boolean_stops, class_stops, typed_stops, inside_stops, member_stops, int_goes, boolean_goes, class_goes, typed_goes, inside_goes, member_goes)

module _ (t : Typing) (k : ℕ) where
  pub node_at : (n : Node) → (book_typed t).node k ≡ Some n → before k n ≡ true → NodeAt t k n
  unfolding type_at command_at
  node_at n there early = record { early = early; type_by_parts = type_step (book_typed t) (place_typed t) k n there early; command_by_parts = com_step (book_typed t) (place_typed t) k n there early }
