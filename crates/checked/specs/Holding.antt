-- When a typing refusal holds of a book, repeated names among them.
use Rattle.std.specs.Prelude.{◌≡◌, ℕ, ◌+◌, List, [], length, Some, None, Option, ◌≢◌}
use Rattle.book.specs.Counting.{total}
use Rattle.std.specs.List.{slice_get}
use Rattle.book.specs.declared.node.«Type».{«Type» as BType}
use Rattle.cool.specs.Syntax.{Name}
use Rattle.cool.specs.Book.{Meth, Part as APart, Book, fields_of}
use Rattle.checker.specs.declared.fault.TypeFault.{TypeFault}
use Rattle.checker.specs.declared.fault.TypeFault.TheVariants.{Repeated}
use Rattle.checker.specs.Causes.{HoldsAt}

-- Entries are counted through: the classes, then all fields, then all methods.
abbrev pub methods_of : Option APart → List (Name × Meth)
methods_of None = []
methods_of (Some p) = p.methods

abbrev pub fields_before : Book → ℕ → ℕ
fields_before B = total (λ d. length (fields_of (B.class d)))

abbrev pub methods_before : Book → ℕ → ℕ
methods_before B = total (λ d. length (methods_of (B.class d)))

abbrev pub field_entry : Book → ℕ → ℕ → ℕ
field_entry B c i = B.classes + fields_before B c + i

abbrev pub method_entry : Book → ℕ → ℕ → ℕ
method_entry B c i = B.classes + fields_before B B.classes + methods_before B c + i

-- A typing fault holds: two entries of a kind have one name, at the entry of one of them; all others at a node.
pub data Holds (B : Book) : TypeFault → Type 0 where
  same_class : {c d : ℕ} {p q : APart}
      → B.class c ≡ Some p → B.class d ≡ Some q → (c ≢ d) → p.called ≡ q.called → Holds B (Repeated c)
  same_field : {c i j : ℕ} {p : APart} {f : Name} {t u : BType}
      → B.class c ≡ Some p → slice_get p.fields i ≡ Some (f, t) → slice_get p.fields j ≡ Some (f, u) → (i ≢ j) → Holds B (Repeated (field_entry B c i))
  same_method : {c i j : ℕ} {p : APart} {m : Name} {q r : Meth}
      → B.class c ≡ Some p → slice_get p.methods i ≡ Some (m, q) → slice_get p.methods j ≡ Some (m, r) → (i ≢ j) → Holds B (Repeated (method_entry B c i))
  at_a_node : {e : TypeFault} → HoldsAt B e → Holds B e
