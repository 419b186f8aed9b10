-- Which program a book stands for: node by node, then fields, methods and classes in order.
use Rattle.std.specs.Prelude.{◌≡◌, ℕ, zero, suc, List, [], ◌∷◌, ◌++◌, ℤ, Some, Option}
use Rattle.book.specs.declared.node.Node.{Node}
use Rattle.book.specs.declared.node.Node.TheVariants.{Literal, Minus, Less, Equal, IsNull, This, Parameter, FieldRead, Call, New, Reading, FieldWrite, Sequence, If, While, Skip}
use Rattle.book.specs.declared.node.Type.{«Type» as BType}
use Rattle.cool.specs.Syntax.{Name, Ty, Expr, literal, minus, this, parameter, field, call, new, less, equal, is_null, reading, Com, assign, seq, if_else, while, skip, Decls, ε, ◌▸◌, FieldDecl, private, MethodDecl, public, ClassDecl, class_decl, Program, program, CE}
use Rattle.cool.specs.Program.{◌⇝◌∣◌}
use Rattle.cool.specs.Book.{Meth, Part, Book, type_of, Formed}

-- What stands at a node stands for an expression; for a command.
infix 20 ◌⊩◌▷◌
infix 20 ◌⊩◌▷com◌
pub data ◌⊩◌▷◌ (B : Book) : Option Node → Expr → Type 0 where
  is_literal : {n : ℤ} → B ⊩ Some (Literal n) ▷ literal n
  is_minus : {a b : ℕ} {e₁ e₂ : Expr} → B ⊩ B.node a ▷ e₁ → B ⊩ B.node b ▷ e₂ → B ⊩ Some (Minus a b) ▷ minus e₁ e₂
  is_less : {a b : ℕ} {e₁ e₂ : Expr} → B ⊩ B.node a ▷ e₁ → B ⊩ B.node b ▷ e₂ → B ⊩ Some (Less a b) ▷ less e₁ e₂
  is_equal : {a b : ℕ} {e₁ e₂ : Expr} → B ⊩ B.node a ▷ e₁ → B ⊩ B.node b ▷ e₂ → B ⊩ Some (Equal a b) ▷ equal e₁ e₂
  is_is_null : {a : ℕ} {e : Expr} → B ⊩ B.node a ▷ e → B ⊩ Some (IsNull a) ▷ is_null e
  is_this : B ⊩ Some This ▷ this
  is_parameter : B ⊩ Some Parameter ▷ parameter
  is_field : {a : ℕ} {f : Name} {e : Expr} → B ⊩ B.node a ▷ e → B ⊩ Some (FieldRead a f) ▷ field e f
  is_call : {a b : ℕ} {m : Name} {e₁ e₂ : Expr} → B ⊩ B.node a ▷ e₁ → B ⊩ B.node b ▷ e₂ → B ⊩ Some (Call a b m) ▷ call e₁ m e₂
  is_new : {c : ℕ} {p : Part} → B.class c ≡ Some p → B ⊩ Some (New c) ▷ new p.called
  is_reading : {a : ℕ} {e : Expr} → B ⊩ B.node a ▷ e → B ⊩ Some (Reading a) ▷ reading e

pub data ◌⊩◌▷com◌ (B : Book) : Option Node → Com → Type 0 where
  is_assign : {a b : ℕ} {f : Name} {e₁ e₂ : Expr} → B ⊩ B.node a ▷ e₁ → B ⊩ B.node b ▷ e₂ → B ⊩ Some (FieldWrite a b f) ▷com assign e₁ f e₂
  is_seq : {a b : ℕ} {c₁ c₂ : Com} → B ⊩ B.node a ▷com c₁ → B ⊩ B.node b ▷com c₂ → B ⊩ Some (Sequence a b) ▷com seq c₁ c₂
  is_if : {a b d : ℕ} {e : Expr} {c₁ c₂ : Com} → B ⊩ B.node a ▷ e → B ⊩ B.node b ▷com c₁ → B ⊩ B.node d ▷com c₂ → B ⊩ Some (If a b d) ▷com if_else e c₁ c₂
  is_while : {a b : ℕ} {e : Expr} {c : Com} → B ⊩ B.node a ▷ e → B ⊩ B.node b ▷com c → B ⊩ Some (While a b) ▷com while e c
  is_skip : B ⊩ Some Skip ▷com skip

-- A field and a method stand for their declarations.
pub data FieldSays (B : Book) : Name × BType → FieldDecl → Type 0 where
  field_says : {f : Name} {t : BType} {u : Ty} → type_of B t ≡ Some u → FieldSays B (f, t) (private u f)

pub data MethodSays (B : Book) : Name × Meth → MethodDecl → Type 0 where
  method_says : {m : Name} {q : Meth} {u v : Ty} {c : Com} {e : Expr}
      → type_of B q.takes ≡ Some v → type_of B q.gives ≡ Some u → B ⊩ B.node q.body ▷com c → B ⊩ B.node q.result ▷ e
      → MethodSays B (m, q) (public u m v c e)

-- A list and a sequence of declarations, one by one in order.
pub data InOrder {A D : Type 0} (R : A → D → Type 0) : List A → Decls D → Type 0 where
  nothing : InOrder R [] ε
  one_more : {xs xs' : List A} {ds : Decls D} {a : A} {d : D} → InOrder R xs ds → R a d → xs' ≡ xs ++ (a ∷ []) → InOrder R xs' (ds ▸ d)

-- The first n classes, in order.
pub data ClassesSay (B : Book) : ℕ → Decls ClassDecl → Type 0 where
  no_classes : ClassesSay B zero ε
  a_class : {n : ℕ} {p : Part} {cds : Decls ClassDecl} {fds : Decls FieldDecl} {mds : Decls MethodDecl}
      → ClassesSay B n cds → B.class n ≡ Some p → InOrder (FieldSays B) p.fields fds → InOrder (MethodSays B) p.methods mds
      → ClassesSay B (suc n) (cds ▸ class_decl p.called fds mds)

-- The book stands for this program.
pub data Says (B : Book) : Program → Type 0 where
  says : {cds : Decls ClassDecl} {e : Expr} → ClassesSay B B.classes cds → B ⊩ B.node B.root ▷ e → Says B (program cds e)

-- There is one program that the book stands for, and only one.
abbrev pub OneProgram : Book → Type 0
OneProgram B = (p : Program) × Says B p × ((p' : Program) → Says B p' → p ≡ p')

-- A book that may be worked: clear of the file's faults, and the program that it stands for has a type.
pub record Accepted (B : Book) (ce : CE) (e : Expr) (u : Ty) : Type 0 where
  pub formed : Formed B
  pub decls : Decls ClassDecl
  pub stands_for : Says B (program decls e)
  pub has_type : program decls e ⇝ ce ∣ u
