-- A rule book as the rules see it, whatever its bytes: nodes, classes, and the strip that holds a node.
use Rattle.std.specs.Prelude.{◌≡◌, ℕ, suc, ◌<◌, ◌≤◌, Bool, true, false, cond, List, [], ◌∷◌, Some, None, Option, ◌==◌}
use Rattle.std.specs.Option.{option_map}
use Rattle.std.specs.List.{slice_get}
use Rattle.book.specs.declared.node.Node.{Node}
use Rattle.book.specs.declared.node.Node.TheVariants.{Literal, Minus, Less, Equal, IsNull, This, Parameter, FieldRead, Call, New, Reading, FieldWrite, Sequence, If, While, Skip}
use Rattle.book.specs.declared.node.Type.{«Type» as BType}
use Rattle.book.specs.declared.node.Type.TheVariants.{Int, Boolean, Class}
use Rattle.cool.specs.Syntax.{Name, Ty, int, boolean, class, find}

-- A method: parameter type and result type, the root nodes of its command and of its returned expression.
pub record Meth : Type 0 where
  pub takes : BType
  pub gives : BType
  pub body : ℕ
  pub result : ℕ

-- A class: the number of its name, its fields and its methods in order.
pub record Part : Type 0 where
  pub called : Name
  pub fields : List (Name × BType)
  pub methods : List (Name × Meth)

-- A book: what stands at a node number, the classes by their numbers and how many there are, the top expression's root,
-- and the bytes of a name. `holder` is the method, with its class number, whose strip holds a node; none for the top strip.
pub record Book : Type 0 where
  pub node : ℕ → Option Node
  pub class : ℕ → Option Part
  pub classes : ℕ
  pub root : ℕ
  pub holder : ℕ → Option (ℕ × Meth)
  pub text : Name → List ℕ

abbrev pub fields_of : Option Part → List (Name × BType)
fields_of None = []
fields_of (Some p) = p.fields

-- The place of a field, counted from 0.
abbrev pub place : List (Name × BType) → Name → Option ℕ
place [] f = None
place (x ∷ fs) f = cond (f == x.0) (Some 0) (option_map suc (place fs f))

abbrev pub method_of : Option Part → Name → Option Meth
method_of None m = None
method_of (Some p) m = find p.methods m

-- The type that a type of the book stands for: a class by its name in place of its number.
abbrev pub type_of : Book → BType → Option Ty
type_of B Int = Some int
type_of B Boolean = Some boolean
type_of B (Class c) = option_map (λ p. class p.called) (B.class c)

-- The parts of a node, by their sort: targets, values, arguments and tests are expressions.
abbrev pub expressions : Node → List ℕ
expressions (Literal v) = []
expressions (Minus a b) = a ∷ b ∷ []
expressions (Less a b) = a ∷ b ∷ []
expressions (Equal a b) = a ∷ b ∷ []
expressions (IsNull a) = a ∷ []
expressions This = []
expressions Parameter = []
expressions (FieldRead a f) = a ∷ []
expressions (Call a b m) = a ∷ b ∷ []
expressions (New c) = []
expressions (Reading a) = a ∷ []
expressions (FieldWrite a b f) = a ∷ b ∷ []
expressions (Sequence a b) = []
expressions (If a b d) = a ∷ []
expressions (While a b) = a ∷ []
expressions Skip = []

abbrev pub commands : Node → List ℕ
commands (Literal v) = []
commands (Minus a b) = []
commands (Less a b) = []
commands (Equal a b) = []
commands (IsNull a) = []
commands This = []
commands Parameter = []
commands (FieldRead a f) = []
commands (Call a b m) = []
commands (New c) = []
commands (Reading a) = []
commands (FieldWrite a b f) = []
commands (Sequence a b) = a ∷ b ∷ []
commands (If a b d) = b ∷ d ∷ []
commands (While a b) = b ∷ []
commands Skip = []

-- P holds of each.
abbrev pub Each : {A : Type 0} → (A → Type 0) → List A → Type 0
Each P [] = Unit {0}
Each P (x ∷ xs) = P x × Each P xs

-- A node is an expression, or else a command.
abbrev pub is_expression : Node → Bool
is_expression (Literal v) = true
is_expression (Minus a b) = true
is_expression (Less a b) = true
is_expression (Equal a b) = true
is_expression (IsNull a) = true
is_expression This = true
is_expression Parameter = true
is_expression (FieldRead a f) = true
is_expression (Call a b m) = true
is_expression (New c) = true
is_expression (Reading a) = true
is_expression (FieldWrite a b f) = false
is_expression (Sequence a b) = false
is_expression (If a b d) = false
is_expression (While a b) = false
is_expression Skip = false

abbrev pub ExpressionAt : Book → ℕ → Type 0
ExpressionAt B k = (n : Node) × (B.node k ≡ Some n) × (is_expression n ≡ true)

abbrev pub CommandAt : Book → ℕ → Type 0
CommandAt B k = (n : Node) × (B.node k ≡ Some n) × (is_expression n ≡ false)

-- A part lies before its node, in the same strip.
abbrev pub Lies : Book → ℕ → ℕ → Type 0
Lies B k a = (a < k) × (B.holder a ≡ B.holder k)

-- The class of a new expression is there.
abbrev pub ClassThere : Book → Node → Type 0
ClassThere B n = (c : ℕ) → n ≡ New c → (p : Part) × (B.class c ≡ Some p)

-- A type that is there.
abbrev pub TypeThere : Book → BType → Type 0
TypeThere B t = (u : Ty) × (type_of B t ≡ Some u)

-- A book clear of the file's faults: classes are numbered through; every node has its parts and its class; types and
-- roots are there; the strip of a method's two roots is that method's, and the top root's no method's.
pub record Formed (B : Book) : Type 0 where
  pub all_classes : (c : ℕ) → c < B.classes → (p : Part) × (B.class c ≡ Some p)
  pub no_others : (c : ℕ) → B.classes ≤ c → B.class c ≡ None
  pub parts : (k : ℕ) (n : Node) → B.node k ≡ Some n
      → Each (λ a. Lies B k a × ExpressionAt B a) (expressions n) × Each (λ a. Lies B k a × CommandAt B a) (commands n)
  pub made : (k : ℕ) (n : Node) → B.node k ≡ Some n → ClassThere B n
  pub top : ExpressionAt B B.root
  pub top_held : B.holder B.root ≡ None
  pub field_types : (c i : ℕ) (p : Part) (f : Name) (t : BType) → B.class c ≡ Some p → slice_get p.fields i ≡ Some (f, t) → TypeThere B t
  pub method_types : (c i : ℕ) (p : Part) (m : Name) (q : Meth) → B.class c ≡ Some p → slice_get p.methods i ≡ Some (m, q)
      → TypeThere B q.takes × TypeThere B q.gives
  pub roots : (c i : ℕ) (p : Part) (m : Name) (q : Meth) → B.class c ≡ Some p → slice_get p.methods i ≡ Some (m, q)
      → CommandAt B q.body × ExpressionAt B q.result
  pub roots_held : (c i : ℕ) (p : Part) (m : Name) (q : Meth) → B.class c ≡ Some p → slice_get p.methods i ≡ Some (m, q)
      → (B.holder q.body ≡ Some (c, q)) × (B.holder q.result ≡ Some (c, q))

-- No two classes have one name.
abbrev pub ClassesDistinct : Book → Type 0
ClassesDistinct B = (c d : ℕ) (p q : Part) → B.class c ≡ Some p → B.class d ≡ Some q → p.called ≡ q.called → c ≡ d

-- No two types of the book stand for one type.
abbrev pub TypesOneToOne : Book → Type 0
TypesOneToOne B = (t t' : BType) (u : Ty) → type_of B t ≡ Some u → type_of B t' ≡ Some u → t ≡ t'
