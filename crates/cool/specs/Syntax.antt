-- COOL: its syntax, and the environments of its typing rules.
use Rattle.std.specs.Prelude.{ℕ, cond, List, [], ◌∷◌, ℤ, Some, None, Option, ◌==◌}

-- Identifiers, for fields, methods and classes: a number for each name. The one parameter of a method has no name of
-- its own: as an expression it is `parameter`.
abbrev pub Name : Type 0
Name = ℕ

-- type ::= int | name_class; added: boolean
pub data Ty : Type 0 where
  int : Ty
  class : Name → Ty
  boolean : Ty

-- expr ::= n | expr - expr | this | name_param | expr.name_field | expr.name_meth(expr) | new name_class()
-- added: expr < expr | expr == expr | expr == null | reading(expr)
pub data Expr : Type 0 where
  literal : ℤ → Expr
  minus : Expr → Expr → Expr
  this : Expr
  parameter : Expr
  field : Expr → Name → Expr
  call : Expr → Name → Expr → Expr
  new : Name → Expr
  less : Expr → Expr → Expr
  equal : Expr → Expr → Expr
  is_null : Expr → Expr
  reading : Expr → Expr

-- com ::= expr.name_field = expr | com ; com
-- added: if (expr) com else com | while (expr) com | skip
pub data Com : Type 0 where
  assign : Expr → Name → Expr → Com
  seq : Com → Com → Com
  if_else : Expr → Com → Com → Com
  while : Expr → Com → Com
  skip : Com

-- A sequence of declarations: ε, or one more at the end.
infixl 40 ◌▸◌
pub data Decls (A : Type 0) : Type 0 where
  ε : Decls A
  ◌▸◌ : Decls A → A → Decls A

-- field-decl ::= private type name_field ;
pub data FieldDecl : Type 0 where
  private : Ty → Name → FieldDecl

-- method-decl ::= public type name_meth (type name_param) { com ; return expr }
-- result type, name, parameter type, command, returned expression
pub data MethodDecl : Type 0 where
  public : Ty → Name → Ty → Com → Expr → MethodDecl

-- class-decl ::= class name_class { field-decls method-decls }
pub data ClassDecl : Type 0 where
  class_decl : Name → Decls FieldDecl → Decls MethodDecl → ClassDecl

-- program ::= class-decls expr
pub data Program : Type 0 where
  program : Decls ClassDecl → Expr → Program

-- FE: a list of field names with their types.
abbrev pub FE : Type 0
FE = List (Name × Ty)

-- What a method environment has for a name: parameter type and result type, command, returned expression.
pub record Method : Type 0 where
  pub param : Ty
  pub result : Ty
  pub command : Com
  pub returned : Expr

-- ME: a partial function.
abbrev pub ME : Type 0
ME = Name → Option Method

-- What a class environment has for a name: CE_F and CE_M of it.
pub record Class : Type 0 where
  pub fields : FE
  pub methods : ME

-- CE: a partial function.
abbrev pub CE : Type 0
CE = Name → Option Class

-- PE: the parameter's type, none at the top.
abbrev pub PE : Type 0
PE = Option Ty

-- What a list of pairs has for a name: FE(f), r(f).
abbrev pub find : {A : Type 0} → List (Name × A) → Name → Option A
find [] f = None
find (x ∷ xs) f = cond (f == x.0) (Some x.1) (find xs f)

-- E[n ↦ a], for a partial function E: E ⟨ n ⟼ a ⟩.
infixl 40 ◌⟨◌⟼◌⟩
abbrev pub ◌⟨◌⟼◌⟩ : {A : Type 0} → (Name → Option A) → Name → A → (Name → Option A)
◌⟨◌⟼◌⟩ E n a = λ k. cond (k == n) (Some a) (E k)

-- ∅: the partial function defined nowhere.
abbrev pub ∅ : {A : Type 0} → Name → Option A
∅ = λ n. None
