-- The book that the bytes of a file are.
use Rattle.std.specs.Prelude.{ℕ, zero, suc, ◌+◌, ◌-◌, cond, ◌&&◌, List, [], ◌∷◌, Some, None, Option, nat_le, nat_lt}
use Rattle.std.specs.Option.{option_map, unwrap_or}
use Rattle.book.specs.declared.entry.Strip.{Strip}
use Rattle.book.specs.declared.node.Type.{«Type» as BType}
use Rattle.book.specs.Counting.{total}
use Rattle.book.specs.Layout.{class_count, method_count, class_name, class_fields, class_methods, field_name, field_type, method_name, method_result, method_parameter, method_nodes, typed}
use Rattle.book.specs.Names.{and_then, name_at}
use Rattle.book.specs.Strips.{command_strip, returned_strip, top_strip, node_at}
use Rattle.cool.specs.Syntax.{Name}
use Rattle.cool.specs.Book.{Meth, Part, Book}

-- The entries from number j on, n of them.
abbrev pub run : {A : Type 0} → (ℕ → A) → ℕ → ℕ → List A
run entry j zero = []
run entry j (suc n) = entry j ∷ run entry (j + 1) n

-- The root of a strip: its last node.
abbrev pub root_of : Strip → ℕ
root_of s = s.first + s.nodes - 1

-- Field j: its name and its type.
abbrev pub field : List ℕ → ℕ → Name × BType
field bs j = (field_name bs j, typed (field_type bs j))

-- Method m.
abbrev pub method : List ℕ → ℕ → Meth
method bs m = record {
  takes = typed (method_parameter bs m);
  gives = typed (method_result bs m);
  body = root_of (command_strip bs m);
  result = root_of (returned_strip bs m);
}

-- Method m with its name.
abbrev pub named_method : List ℕ → ℕ → Name × Meth
named_method bs m = (method_name bs m, method bs m)

-- Class c. Class 0's fields and methods come first in their parts, then class 1's.
abbrev pub part : List ℕ → ℕ → Part
part bs c = record {
  called = class_name bs c;
  fields = run (field bs) (total (class_fields bs) c) (class_fields bs c);
  methods = run (named_method bs) (total (class_methods bs) c) (class_methods bs c);
}

-- Owners 0 to n - 1 have f 0, f 1, .. things, numbered through in that order: the owner of thing k.
abbrev pub owner : (ℕ → ℕ) → ℕ → ℕ → Option ℕ
owner f zero k = None
owner f (suc n) k = cond (nat_le (total f n) k && nat_lt k (total f n + f n)) (Some n) (owner f n k)

-- Method m, with the class that has it.
abbrev pub with_class : List ℕ → ℕ → Option (ℕ × Meth)
with_class bs m = option_map (λ c. (c, method bs m)) (owner (class_methods bs) (class_count bs) m)

-- The method that has node k in its command or its returned expression, with its class; none where the top-level expression has it.
abbrev pub holding : List ℕ → ℕ → Option (ℕ × Meth)
holding bs k = and_then (owner (method_nodes bs) (method_count bs) k) (with_class bs)

-- The book.
abbrev pub view : List ℕ → Book
view bs = record {
  node = node_at bs;
  class = λ c. cond (nat_lt c (class_count bs)) (Some (part bs c)) None;
  classes = class_count bs;
  root = root_of (top_strip bs);
  holder = holding bs;
  text = λ n. unwrap_or (name_at bs n) [];
}
