-- Where a book's numbers, entries and nodes stand in the bytes of its file.
-- Every definition is total: a byte past the end counts as 0.
use Rattle.std.specs.Prelude.{ℕ, ◌+◌, ◌-◌, ◌*◌, cond, List, drop, Some, None, Option, ◌==◌, nat_lt, slice_index}
use Rattle.book.specs.declared.entry.Counts.{Counts}
use Rattle.book.specs.declared.entry.Class.{Class}
use Rattle.book.specs.declared.entry.Field.{Field}
use Rattle.book.specs.declared.node.«Type».{«Type» as BookType}
use Rattle.book.specs.declared.node.«Type».TheVariants.{Int, Boolean, Class as OfClass}
use Rattle.book.specs.declared.node.Raw.{Raw}
use Rattle.book.specs.Counting.{total}

-- The number at a byte offset: unsigned, 16 bits, low byte first.
unfoldable pub word : List ℕ → ℕ → ℕ
word bs i = slice_index bs i + 256 * slice_index bs (i + 1)

-- The header: twelve numbers, at places 0 to 11.
abbrev pub header : List ℕ → ℕ → ℕ
header bs p = word bs (2 * p)

abbrev pub version : List ℕ → ℕ
version bs = header bs 0

-- The counts.
abbrev pub class_count : List ℕ → ℕ
class_count bs = header bs 1

abbrev pub field_count : List ℕ → ℕ
field_count bs = header bs 2

abbrev pub method_count : List ℕ → ℕ
method_count bs = header bs 3

abbrev pub node_count : List ℕ → ℕ
node_count bs = header bs 4

abbrev pub name_count : List ℕ → ℕ
name_count bs = header bs 5

abbrev pub counts_of : List ℕ → Counts
counts_of bs = record { classes = class_count bs; fields = field_count bs; methods = method_count bs; nodes = node_count bs; names = name_count bs }

-- The byte offsets of the five parts.
abbrev pub class_part : List ℕ → ℕ
class_part bs = header bs 6

abbrev pub field_part : List ℕ → ℕ
field_part bs = header bs 7

abbrev pub method_part : List ℕ → ℕ
method_part bs = header bs 8

abbrev pub node_part : List ℕ → ℕ
node_part bs = header bs 9

abbrev pub name_part : List ℕ → ℕ
name_part bs = header bs 10

-- How many nodes the top-level expression has.
abbrev pub top_count : List ℕ → ℕ
top_count bs = header bs 11

-- One number of entry i of a part, where that number of entry 0 stands at an offset and entries have a size.
abbrev pub entry_word : List ℕ → ℕ → ℕ → ℕ → ℕ
entry_word bs offset size i = word bs (offset + size * i)

-- A class is 6 bytes: name number, count of fields, count of methods.
abbrev pub class_name : List ℕ → ℕ → ℕ
class_name bs = entry_word bs (class_part bs) 6

abbrev pub class_fields : List ℕ → ℕ → ℕ
class_fields bs = entry_word bs (class_part bs + 2) 6

abbrev pub class_methods : List ℕ → ℕ → ℕ
class_methods bs = entry_word bs (class_part bs + 4) 6

-- A field is 4 bytes: name number, type.
abbrev pub field_name : List ℕ → ℕ → ℕ
field_name bs = entry_word bs (field_part bs) 4

abbrev pub field_type : List ℕ → ℕ → ℕ
field_type bs = entry_word bs (field_part bs + 2) 4

-- A method is 10 bytes: name number, result type, parameter type, nodes of its command, nodes of its returned expression.
abbrev pub method_name : List ℕ → ℕ → ℕ
method_name bs = entry_word bs (method_part bs) 10

abbrev pub method_result : List ℕ → ℕ → ℕ
method_result bs = entry_word bs (method_part bs + 2) 10

abbrev pub method_parameter : List ℕ → ℕ → ℕ
method_parameter bs = entry_word bs (method_part bs + 4) 10

abbrev pub command_nodes : List ℕ → ℕ → ℕ
command_nodes bs = entry_word bs (method_part bs + 6) 10

abbrev pub returned_nodes : List ℕ → ℕ → ℕ
returned_nodes bs = entry_word bs (method_part bs + 8) 10

-- The nodes of a method's command and of its returned expression together.
abbrev pub method_nodes : List ℕ → ℕ → ℕ
method_nodes bs m = command_nodes bs m + returned_nodes bs m

-- A node is 8 bytes: a kind and the numbers a, b and d.
abbrev pub raw_node : List ℕ → ℕ → Raw
raw_node bs k = record {
  kind = word bs (node_part bs + 8 * k);
  a = word bs (node_part bs + 2 + 8 * k);
  b = word bs (node_part bs + 4 + 8 * k);
  d = word bs (node_part bs + 6 + 8 * k);
}

-- The bytes from the name part on.
abbrev pub name_bytes : List ℕ → List ℕ
name_bytes bs = drop (name_part bs) bs

-- Type 0 is int, 1 boolean, 2 + c class c.
abbrev pub typed : ℕ → BookType
typed t = cond (t == 0) Int (cond (t == 1) Boolean (OfClass (t - 2)))

-- Class i, with the numbers of its first field and method: class 0's fields and methods come first in their parts, then class 1's.
abbrev pub class_at : List ℕ → ℕ → Option Class
class_at bs i = cond (nat_lt i (class_count bs)) (Some (record {
  name = class_name bs i;
  first_field = total (class_fields bs) i;
  fields = class_fields bs i;
  first_method = total (class_methods bs) i;
  methods = class_methods bs i;
})) None

abbrev pub field_at : List ℕ → ℕ → Option Field
field_at bs j = cond (nat_lt j (field_count bs)) (Some (record { name = field_name bs j; typed = typed (field_type bs j) })) None
