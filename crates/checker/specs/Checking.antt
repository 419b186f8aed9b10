-- The type of a node as a function, found from the types of its parts, which lie before it. What it is worth is said by
-- the rules: see Exact, at the end.
use Rattle.std.specs.Prelude.{◌≡◌, ℕ, zero, suc, Bool, true, false, cond, ◌&&◌, ◌↔◌, Some, None, Ok, Err, Option, Result, ◌==◌, nat_lt}
use Rattle.book.specs.declared.node.Node.{Node}
use Rattle.book.specs.declared.node.Node.TheVariants.{Literal, Minus, Less, Equal, IsNull, This, Parameter, FieldRead, Call, New, Reading, FieldWrite, Sequence, If, While, Skip}
use Rattle.book.specs.declared.node.«Type».{«Type» as BType}
use Rattle.book.specs.declared.node.«Type».TheVariants.{Int, Boolean, Class}
use Rattle.cool.specs.Syntax.{Name, find}
use Rattle.cool.specs.Book.{Book, ExpressionAt, CommandAt, fields_of, method_of}
use Rattle.cool.specs.Nodes.{Where, at_top, in_method, ◌∣◌⊩◌∶◌, ◌∣◌⊩◌∶com}
use Rattle.checker.specs.declared.fault.TypeFault.{TypeFault}
use Rattle.checker.specs.declared.fault.TypeFault.TheVariants.{Part, Member, Argument, Top}
use Rattle.checker.specs.Causes.{place_of, HoldsAt}

abbrev pub same : BType → BType → Bool
same Int Int = true
same Int Boolean = false
same Int (Class d) = false
same Boolean Int = false
same Boolean Boolean = true
same Boolean (Class d) = false
same (Class c) Int = false
same (Class c) Boolean = false
same (Class c) (Class d) = c == d

module _ {A : Type 0} where
  -- A part of node k that must be an int, a boolean, of a class; then go on.
  abbrev pub an_int : ℕ → Result BType TypeFault → Result A TypeFault → Result A TypeFault
  an_int k (Err e) r = Err e
  an_int k (Ok Int) r = r
  an_int k (Ok Boolean) r = Err (Part k)
  an_int k (Ok (Class c)) r = Err (Part k)

  abbrev pub a_boolean : ℕ → Result BType TypeFault → Result A TypeFault → Result A TypeFault
  a_boolean k (Err e) r = Err e
  a_boolean k (Ok Int) r = Err (Part k)
  a_boolean k (Ok Boolean) r = r
  a_boolean k (Ok (Class c)) r = Err (Part k)

  abbrev pub of_class : ℕ → Result BType TypeFault → (ℕ → Result A TypeFault) → Result A TypeFault
  of_class k (Err e) f = Err e
  of_class k (Ok Int) f = Err (Part k)
  of_class k (Ok Boolean) f = Err (Part k)
  of_class k (Ok (Class c)) f = f c

  -- An argument or a written value of node k that must have the type u.
  abbrev pub of_type : ℕ → Result BType TypeFault → BType → Result A TypeFault → Result A TypeFault
  of_type k (Err e) u r = Err e
  of_type k (Ok t) u r = cond (same t u) r (Err (Argument k))

  -- A field or a method that must be there.
  abbrev pub member : {M : Type 0} → ℕ → Option M → (M → Result A TypeFault) → Result A TypeFault
  member k None f = Err (Member k)
  member k (Some m) f = f m

  -- The class and the parameter type of the method that a strip stands in.
  abbrev pub inside : ℕ → Where → (ℕ → BType → Result A TypeFault) → Result A TypeFault
  inside k at_top f = Err (Top k)
  inside k (in_method c u) f = f c u

-- A field of class c that may be read and written here: c must be the current class.
abbrev pub own_field : Book → Where → ℕ → Name → Option BType
own_field B at_top c f = None
own_field B (in_method d u) c f = cond (c == d) (find (fields_of (B.class c)) f) None

-- Both commands.
abbrev pub then_com : Result (Unit {0}) TypeFault → Result (Unit {0}) TypeFault → Result (Unit {0}) TypeFault
then_com (Err e) r = Err e
then_com (Ok u) r = r

-- The type of node k, by t, the types of its parts. A command has none.
abbrev pub type_by : Book → Where → ℕ → (ℕ → Result BType TypeFault) → Node → Result BType TypeFault
type_by B Γ k t (Literal v) = Ok Int
type_by B Γ k t (Minus a b) = an_int k (t a) (an_int k (t b) (Ok Int))
type_by B Γ k t (Less a b) = an_int k (t a) (an_int k (t b) (Ok Boolean))
type_by B Γ k t (Equal a b) = an_int k (t a) (an_int k (t b) (Ok Boolean))
type_by B Γ k t (IsNull a) = of_class k (t a) (λ c. Ok Boolean)
type_by B Γ k t This = inside k Γ (λ c u. Ok (Class c))
type_by B Γ k t Parameter = inside k Γ (λ c u. Ok u)
type_by B Γ k t (FieldRead a f) = of_class k (t a) (λ c. member k (own_field B Γ c f) (λ u. Ok u))
type_by B Γ k t (Call a b m) = of_class k (t a) (λ c. member k (method_of (B.class c) m) (λ q. of_type k (t b) q.takes (Ok q.gives)))
type_by B Γ k t (New c) = Ok (Class c)
type_by B Γ k t (Reading a) = an_int k (t a) (Ok Int)
type_by B Γ k t (FieldWrite a b f) = Err (Part k)
type_by B Γ k t (Sequence a b) = Err (Part k)
type_by B Γ k t (If a b d) = Err (Part k)
type_by B Γ k t (While a b) = Err (Part k)
type_by B Γ k t Skip = Err (Part k)

-- Whether node k is a well typed command, by t and c of its parts. An expression is none.
abbrev pub com_by : Book → Where → ℕ → (ℕ → Result BType TypeFault) → (ℕ → Result (Unit {0}) TypeFault) → Node → Result (Unit {0}) TypeFault
com_by B Γ k t c (FieldWrite a b f) = of_class k (t a) (λ d. member k (own_field B Γ d f) (λ u. of_type k (t b) u (Ok tt)))
com_by B Γ k t c (Sequence a b) = then_com (c a) (c b)
com_by B Γ k t c (If a b d) = a_boolean k (t a) (then_com (c b) (c d))
com_by B Γ k t c (While a b) = a_boolean k (t a) (c b)
com_by B Γ k t c Skip = Ok tt
com_by B Γ k t c (Literal v) = Err (Part k)
com_by B Γ k t c (Minus a b) = Err (Part k)
com_by B Γ k t c (Less a b) = Err (Part k)
com_by B Γ k t c (Equal a b) = Err (Part k)
com_by B Γ k t c (IsNull a) = Err (Part k)
com_by B Γ k t c This = Err (Part k)
com_by B Γ k t c Parameter = Err (Part k)
com_by B Γ k t c (FieldRead a f) = Err (Part k)
com_by B Γ k t c (Call a b m) = Err (Part k)
com_by B Γ k t c (New e) = Err (Part k)
com_by B Γ k t c (Reading a) = Err (Part k)

-- The parts of a node lie before node k.
abbrev pub before : ℕ → Node → Bool
before k (Literal v) = true
before k (Minus a b) = nat_lt a k && nat_lt b k
before k (Less a b) = nat_lt a k && nat_lt b k
before k (Equal a b) = nat_lt a k && nat_lt b k
before k (IsNull a) = nat_lt a k
before k This = true
before k Parameter = true
before k (FieldRead a f) = nat_lt a k
before k (Call a b m) = nat_lt a k && nat_lt b k
before k (New c) = true
before k (Reading a) = nat_lt a k
before k (FieldWrite a b f) = nat_lt a k && nat_lt b k
before k (Sequence a b) = nat_lt a k && nat_lt b k
before k (If a b d) = nat_lt a k && (nat_lt b k && nat_lt d k)
before k (While a b) = nat_lt a k && nat_lt b k
before k Skip = true

-- What is found at node k, if there is a node and its parts lie before it.
abbrev pub at_node : {A : Type 0} → ℕ → Option Node → (Node → Result A TypeFault) → Result A TypeFault
at_node k None f = Err (Part k)
at_node k (Some n) f = cond (before k n) (f n) (Err (Part k))

-- The first number bounds the depth.
abbrev pub type_in : ℕ → Book → Where → ℕ → Result BType TypeFault
type_in zero B Γ k = Err (Part k)
type_in (suc n) B Γ k = at_node k (B.node k) (type_by B Γ k (type_in n B Γ))

abbrev pub com_in : ℕ → Book → Where → ℕ → Result (Unit {0}) TypeFault
com_in zero B Γ k = Err (Part k)
com_in (suc n) B Γ k = at_node k (B.node k) (com_by B Γ k (type_in n B Γ) (com_in n B Γ))

-- The function is exact on a well-formed book: it finds a type, or finds a command well typed, exactly when the rules give
-- it; and what it refuses with holds at that spot, where the strip stands as the node's holder says.
pub record Exact (B : Book) (Γ : Where) (k : ℕ) : Type 0 where
  pub types : (u : BType) → (type_in (suc k) B Γ k ≡ Ok u) ↔ (B ∣ Γ ⊩ B.node k ∶ u)
  pub commands : (com_in (suc k) B Γ k ≡ Ok tt) ↔ (B ∣ Γ ⊩ B.node k ∶com)
  pub no_type : (e : TypeFault) → place_of B k ≡ Γ → ExpressionAt B k → type_in (suc k) B Γ k ≡ Err e → HoldsAt B e
  pub no_command : (e : TypeFault) → place_of B k ≡ Γ → CommandAt B k → com_in (suc k) B Γ k ≡ Err e → HoldsAt B e
