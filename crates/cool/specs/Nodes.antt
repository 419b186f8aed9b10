-- The type of a node, found from the types of its parts. The types are the book's, with class numbers.
use Rattle.std.specs.Prelude.{◌≡◌, ℕ, ℤ, Some, None, Option}
use Rattle.book.specs.declared.node.Node.{Node}
use Rattle.book.specs.declared.node.Node.TheVariants.{Literal, Minus, Less, Equal, IsNull, This, Parameter, FieldRead, Call, New, Reading, FieldWrite, Sequence, If, While, Skip}
use Rattle.book.specs.declared.node.Type.{«Type» as BType}
use Rattle.book.specs.declared.node.Type.TheVariants.{Int, Boolean, Class}
use Rattle.cool.specs.Syntax.{Name, find}
use Rattle.cool.specs.Book.{Meth, Part, Book, fields_of, method_of}

-- Where a strip stands: at the top, or in a method of a class, with its parameter's type.
pub data Where : Type 0 where
  at_top : Where
  in_method : ℕ → BType → Where

abbrev pub where_held : Option (ℕ × Meth) → Where
where_held None = at_top
where_held (Some x) = in_method x.0 x.1.takes

infix 20 ◌∣◌⊩◌∶◌
infix 20 ◌∣◌⊩◌∶com
pub data ◌∣◌⊩◌∶◌ (B : Book) (Γ : Where) : Option Node → BType → Type 0 where
  n_literal : {n : ℤ} → B ∣ Γ ⊩ Some (Literal n) ∶ Int
  n_minus : {a b : ℕ} → B ∣ Γ ⊩ B.node a ∶ Int → B ∣ Γ ⊩ B.node b ∶ Int → B ∣ Γ ⊩ Some (Minus a b) ∶ Int
  n_less : {a b : ℕ} → B ∣ Γ ⊩ B.node a ∶ Int → B ∣ Γ ⊩ B.node b ∶ Int → B ∣ Γ ⊩ Some (Less a b) ∶ Boolean
  n_equal : {a b : ℕ} → B ∣ Γ ⊩ B.node a ∶ Int → B ∣ Γ ⊩ B.node b ∶ Int → B ∣ Γ ⊩ Some (Equal a b) ∶ Boolean
  n_is_null : {a c : ℕ} → B ∣ Γ ⊩ B.node a ∶ Class c → B ∣ Γ ⊩ Some (IsNull a) ∶ Boolean
  n_this : {c : ℕ} {t : BType} → Γ ≡ in_method c t → B ∣ Γ ⊩ Some This ∶ Class c
  n_parameter : {c : ℕ} {t : BType} → Γ ≡ in_method c t → B ∣ Γ ⊩ Some Parameter ∶ t
  n_field : {a c : ℕ} {f : Name} {t u : BType} → B ∣ Γ ⊩ B.node a ∶ Class c → Γ ≡ in_method c t → find (fields_of (B.class c)) f ≡ Some u → B ∣ Γ ⊩ Some (FieldRead a f) ∶ u
  n_call : {a b c : ℕ} {m : Name} {q : Meth} → B ∣ Γ ⊩ B.node a ∶ Class c → B ∣ Γ ⊩ B.node b ∶ q.takes → method_of (B.class c) m ≡ Some q → B ∣ Γ ⊩ Some (Call a b m) ∶ q.gives
  n_new : {c : ℕ} {p : Part} → B.class c ≡ Some p → B ∣ Γ ⊩ Some (New c) ∶ Class c
  n_reading : {a : ℕ} → B ∣ Γ ⊩ B.node a ∶ Int → B ∣ Γ ⊩ Some (Reading a) ∶ Int

pub data ◌∣◌⊩◌∶com (B : Book) (Γ : Where) : Option Node → Type 0 where
  n_assign : {a b c : ℕ} {f : Name} {t u : BType} → B ∣ Γ ⊩ B.node a ∶ Class c → B ∣ Γ ⊩ B.node b ∶ u → Γ ≡ in_method c t → find (fields_of (B.class c)) f ≡ Some u → B ∣ Γ ⊩ Some (FieldWrite a b f) ∶com
  n_seq : {a b : ℕ} → B ∣ Γ ⊩ B.node a ∶com → B ∣ Γ ⊩ B.node b ∶com → B ∣ Γ ⊩ Some (Sequence a b) ∶com
  n_if : {a b d : ℕ} → B ∣ Γ ⊩ B.node a ∶ Boolean → B ∣ Γ ⊩ B.node b ∶com → B ∣ Γ ⊩ B.node d ∶com → B ∣ Γ ⊩ Some (If a b d) ∶com
  n_while : {a b : ℕ} → B ∣ Γ ⊩ B.node a ∶ Boolean → B ∣ Γ ⊩ B.node b ∶com → B ∣ Γ ⊩ Some (While a b) ∶com
  n_skip : B ∣ Γ ⊩ Some Skip ∶com

-- Every method's two strips are well typed, and the top root has the type z.
pub record Well (B : Book) (z : BType) : Type 0 where
  pub top : B ∣ at_top ⊩ B.node B.root ∶ z
  pub body : (c : ℕ) (m : Name) (q : Meth) → method_of (B.class c) m ≡ Some q → B ∣ in_method c q.takes ⊩ B.node q.body ∶com
  pub result : (c : ℕ) (m : Name) (q : Meth) → method_of (B.class c) m ≡ Some q → B ∣ in_method c q.takes ⊩ B.node q.result ∶ q.gives
