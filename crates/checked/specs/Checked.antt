-- What a decoded and a checked book mean: the book that the rules speak of.
use Rattle.std.specs.Prelude.{ℕ, List, take, drop, Option}
use Rattle.std.specs.List.{slice_get}
use Rattle.book.specs.declared.entry.Class.{Class}
use Rattle.book.specs.declared.entry.Field.{Field}
use Rattle.book.specs.declared.node.«Type».{«Type» as BType}
use Rattle.book.specs.Books.{bytes_of}
use Rattle.cool.specs.Book.{Part, Book}
use Rattle.checked.specs.declared.base.Decoded.{Decoded}
use Rattle.checked.specs.declared.base.CheckedBook.{CheckedBook}
use Rattle.checked.specs.declared.table.Method.{Method}
use Rattle.checked.specs.Tables.{part_in, book_in}
pub use Rattle.checked.specs.Tables.{named_field, meth, named_method}

abbrev pub decoded_bytes : Decoded → List ℕ
decoded_bytes d = bytes_of d.book

-- A class's own fields and methods, as decoded.
abbrev pub own_fields : Decoded → Class → List Field
own_fields d k = take k.fields (drop k.first_field d.fields.items)

abbrev pub own_methods : Decoded → Class → List Method
own_methods d k = take k.methods (drop k.first_method d.methods.items)

abbrev pub part_of : Decoded → Class → Part
part_of d = part_in d.fields.items d.methods.items

abbrev pub class_there : Decoded → ℕ → Option Class
class_there d = slice_get d.classes.items

abbrev pub decoded_book : Decoded → Book
decoded_book d = book_in (decoded_bytes d) d.classes.items d.fields.items d.methods.items d.nodes.items d.root

-- The bytes of a checked book, the book that they are, and the type of its top-level expression.
abbrev pub checked_bytes : CheckedBook → List ℕ
checked_bytes b = decoded_bytes b.decoded

abbrev pub book_of : CheckedBook → Book
book_of b = decoded_book b.decoded

abbrev pub top_type : CheckedBook → BType
top_type b = b.top
