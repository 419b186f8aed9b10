-- The listing of a book: what is in the file, for a person to read.
use Rattle.std.specs.Prelude.{ℕ, List, [], ◌∷◌, Some, None, codes, Option}
use Rattle.std.specs.Option.{unwrap_or}
use Rattle.book.specs.declared.entry.Counts.{Counts}
use Rattle.book.specs.declared.entry.Class.{Class}
use Rattle.book.specs.declared.entry.Field.{Field}
use Rattle.book.specs.declared.entry.Method.{Method}
use Rattle.book.specs.declared.node.«Type».{«Type» as BookType}
use Rattle.book.specs.declared.node.«Type».TheVariants.{Int, Boolean, Class as OfClass}
use Rattle.book.specs.Layout.{counts_of, class_at, field_at}
use Rattle.book.specs.Strips.{method_at, top_strip}
use Rattle.book.specs.Names.{name_at}
use Rattle.std.specs.List.{concat}
use Rattle.listing.specs.Text.{each, labelled}

-- The bytes of a name, by its number.
abbrev pub name_text : List ℕ → ℕ → List ℕ
name_text bs n = unwrap_or (name_at bs n) []

abbrev pub class_text : List ℕ → Option Class → List ℕ
class_text bs None = []
class_text bs (Some c) = name_text bs c.name

abbrev pub nth_class_text : List ℕ → ℕ → List ℕ
nth_class_text bs i = class_text bs (class_at bs i)

-- int, boolean, or what class_name says of a class
abbrev pub type_text : (ℕ → List ℕ) → BookType → List ℕ
type_text class_name Int = codes "int"
type_text class_name Boolean = codes "boolean"
type_text class_name (OfClass c) = class_name c

-- A field's line: two blanks, `field`, its type and its name.
abbrev pub field_line : List ℕ → Option Field → List ℕ
field_line bs None = []
field_line bs (Some f) = concat (codes "  field " ∷ type_text (nth_class_text bs) f.typed ∷ codes " " ∷ name_text bs f.name ∷ codes "\n" ∷ [])

abbrev pub nth_field_line : List ℕ → ℕ → List ℕ
nth_field_line bs j = field_line bs (field_at bs j)

-- A method's line: two blanks, `method`, its result type, name and parameter type, and the nodes of its two strips.
abbrev pub method_line : List ℕ → Option Method → List ℕ
method_line bs None = []
method_line bs (Some m) = concat (
    codes "  method " ∷ type_text (nth_class_text bs) m.result ∷ codes " " ∷ name_text bs m.name ∷ codes "(" ∷ type_text (nth_class_text bs) m.parameter
    ∷ labelled (codes ") command ") m.command.nodes ∷ labelled (codes " returned ") m.returned.nodes ∷ codes "\n" ∷ [])

abbrev pub nth_method_line : List ℕ → ℕ → List ℕ
nth_method_line bs m = method_line bs (method_at bs m)

-- A class's lines: its name, its fields, its methods.
abbrev pub class_lines : List ℕ → Option Class → List ℕ
class_lines bs None = []
class_lines bs (Some c) = concat (
    codes "class " ∷ name_text bs c.name ∷ codes "\n"
    ∷ each (nth_field_line bs) c.first_field c.fields ∷ each (nth_method_line bs) c.first_method c.methods ∷ [])

abbrev pub nth_class_lines : List ℕ → ℕ → List ℕ
nth_class_lines bs i = class_lines bs (class_at bs i)

-- The first line: how many of each the book has.
abbrev pub counts_line : Counts → List ℕ
counts_line n = concat (
    labelled (codes "classes ") n.classes ∷ labelled (codes " fields ") n.fields ∷ labelled (codes " methods ") n.methods
    ∷ labelled (codes " nodes ") n.nodes ∷ labelled (codes " names ") n.names ∷ codes "\n" ∷ [])

-- The whole listing: the counts, the classes, the nodes of the top-level expression.
abbrev pub listing : List ℕ → List ℕ
listing bs = concat (counts_line (counts_of bs) ∷ each (nth_class_lines bs) 0 (counts_of bs).classes ∷ labelled (codes "top ") (top_strip bs).nodes ∷ codes "\n" ∷ [])

-- The number n of readings, and the listing of the book that the bytes bs are.
abbrev pub day_text : ℕ → List ℕ → List ℕ
day_text n bs = concat (labelled (codes "readings ") n ∷ codes "\n" ∷ listing bs ∷ [])
