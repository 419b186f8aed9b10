-- What a read book stands for: the bytes of its file.
use Rattle.std.specs.Prelude.{ℕ, List}
use Rattle.book.specs.declared.base.ReadBook.{ReadBook}

abbrev pub bytes_of : ReadBook → List ℕ
bytes_of b = b.bytes.now
