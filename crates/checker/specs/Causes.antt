-- What a typing refusal says of a book, and when that holds.
use Rattle.std.specs.Prelude.{◌≡◌, ℕ, ◌⊎◌, Some, None, ◌≢◌}
use Rattle.book.specs.declared.fault.Refusal.{Refusal}
use Rattle.book.specs.declared.node.Node.{Node}
use Rattle.book.specs.declared.node.Node.TheVariants.{Minus, Less, Equal, IsNull, This, Parameter, FieldRead, Call, Reading, FieldWrite, If, While}
use Rattle.book.specs.declared.node.«Type».{«Type» as BType}
use Rattle.book.specs.declared.node.«Type».TheVariants.{Int, Boolean, Class}
use Rattle.cool.specs.Syntax.{Name, find}
use Rattle.cool.specs.Book.{Meth, Book, fields_of, method_of}
use Rattle.cool.specs.Nodes.{Where, at_top, in_method, where_held, ◌∣◌⊩◌∶◌}
use Rattle.checker.specs.declared.fault.TypeFault.{TypeFault}
use Rattle.checker.specs.declared.fault.TypeFault.TheVariants.{Repeated, Part, Member, Argument, Top, Returned}

-- The number under which a typing fault is refused, and its place.
abbrev pub number : TypeFault → ℕ
number (Repeated i) = 11
number (Part k) = 12
number (Member k) = 13
number (Argument k) = 14
number (Top k) = 15
number (Returned k) = 16

abbrev pub place : TypeFault → ℕ
place (Repeated i) = i
place (Part k) = k
place (Member k) = k
place (Argument k) = k
place (Top k) = k
place (Returned k) = k

abbrev pub refusal : TypeFault → Refusal
refusal e = record { number = number e; place = place e }

-- A type that is no class, no int, no boolean.
abbrev pub NoClass : BType → Type 0
NoClass t = (c : ℕ) → t ≢ Class c

-- The part a of a node, and what its kind needs of the part's type: so much is wrong with a type.
pub data Misplaced (t : BType) : Node → ℕ → Type 0 where
  minus_left : {a b : ℕ} → (t ≢ Int) → Misplaced t (Minus a b) a
  minus_right : {a b : ℕ} → (t ≢ Int) → Misplaced t (Minus a b) b
  less_left : {a b : ℕ} → (t ≢ Int) → Misplaced t (Less a b) a
  less_right : {a b : ℕ} → (t ≢ Int) → Misplaced t (Less a b) b
  equal_left : {a b : ℕ} → (t ≢ Int) → Misplaced t (Equal a b) a
  equal_right : {a b : ℕ} → (t ≢ Int) → Misplaced t (Equal a b) b
  null_operand : {a : ℕ} → NoClass t → Misplaced t (IsNull a) a
  read_target : {a : ℕ} {f : Name} → NoClass t → Misplaced t (FieldRead a f) a
  call_target : {a b : ℕ} {m : Name} → NoClass t → Misplaced t (Call a b m) a
  reading_index : {a : ℕ} → (t ≢ Int) → Misplaced t (Reading a) a
  write_target : {a b : ℕ} {f : Name} → NoClass t → Misplaced t (FieldWrite a b f) a
  if_test : {a b d : ℕ} → (t ≢ Boolean) → Misplaced t (If a b d) a
  while_test : {a b : ℕ} → (t ≢ Boolean) → Misplaced t (While a b) a

-- A field that cannot be read or written here on a target of class c: of another class than the current one, or not there.
abbrev pub NoField : Book → Where → ℕ → Name → Type 0
NoField B Γ c f = ((t : BType) → Γ ≢ in_method c t) ⊎ (find (fields_of (B.class c)) f ≡ None)

-- Where node k stands.
abbrev pub place_of : Book → ℕ → Where
place_of B k = where_held (B.holder k)

-- A typing fault holds at a node. It is judged over parts that have types.
pub data HoldsAt (B : Book) : TypeFault → Type 0 where
  wrong_part : {k a : ℕ} {n : Node} {t : BType}
      → B.node k ≡ Some n → B ∣ place_of B k ⊩ B.node a ∶ t → Misplaced t n a → HoldsAt B (Part k)
  no_field_read : {k a c : ℕ} {f : Name}
      → B.node k ≡ Some (FieldRead a f) → B ∣ place_of B k ⊩ B.node a ∶ Class c → NoField B (place_of B k) c f → HoldsAt B (Member k)
  no_field_written : {k a b c : ℕ} {f : Name}
      → B.node k ≡ Some (FieldWrite a b f) → B ∣ place_of B k ⊩ B.node a ∶ Class c → NoField B (place_of B k) c f → HoldsAt B (Member k)
  no_method : {k a b c : ℕ} {m : Name}
      → B.node k ≡ Some (Call a b m) → B ∣ place_of B k ⊩ B.node a ∶ Class c → method_of (B.class c) m ≡ None → HoldsAt B (Member k)
  other_argument : {k a b c : ℕ} {m : Name} {q : Meth} {t : BType}
      → B.node k ≡ Some (Call a b m) → B ∣ place_of B k ⊩ B.node a ∶ Class c → method_of (B.class c) m ≡ Some q
      → B ∣ place_of B k ⊩ B.node b ∶ t → (t ≢ q.takes) → HoldsAt B (Argument k)
  other_value : {k a b c : ℕ} {f : Name} {t u : BType}
      → B.node k ≡ Some (FieldWrite a b f) → B ∣ place_of B k ⊩ B.node a ∶ Class c → find (fields_of (B.class c)) f ≡ Some u
      → B ∣ place_of B k ⊩ B.node b ∶ t → (t ≢ u) → HoldsAt B (Argument k)
  this_at_top : {k : ℕ}
      → B.node k ≡ Some This → place_of B k ≡ at_top → HoldsAt B (Top k)
  parameter_at_top : {k : ℕ}
      → B.node k ≡ Some Parameter → place_of B k ≡ at_top → HoldsAt B (Top k)
  other_result : {c : ℕ} (m : Name) {q : Meth} {t : BType}
      → method_of (B.class c) m ≡ Some q → B ∣ in_method c q.takes ⊩ B.node q.result ∶ t → (t ≢ q.gives) → HoldsAt B (Returned q.result)
