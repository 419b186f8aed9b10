-- Worked specimens: the slips of small stores.
use Rattle.std.specs.Prelude.{◌≡◌, ℕ, true, false, List, [], ◌∷◌, length, pos, negsuc, None, codes}
use Rattle.std.specs.List.{slice_get}
use Rattle.std.specs.Option.{unwrap_or}
use Rattle.book.specs.declared.node.Type.TheVariants as T
use Rattle.store.specs.declared.Value.TheVariants.{Int, Boolean, Null, Handle}
use Rattle.store.specs.Meaning.{Rec, Store, store, made}
use Rattle.cool.specs.Book.{Book}
use Rattle.machine.specs.declared.state.Hand.TheVariants.{Go, Have}
use Rattle.machine.specs.declared.state.End.TheVariants.{Unfinished, Finished, NullTarget}
use Rattle.machine.specs.Specimens.{set_412}
use Rattle.slips.specs.Slip.{slip}

-- A store with these records.
abbrev pub with_records : List (ℕ × Rec) → Store
with_records rs = store (record { records = rs; most_records = 256; most_cells = 2048 })

-- One Tide, high 412.
abbrev pub one_tide : Store
one_tide = with_records ((7, made 0 (Int (pos 412) ∷ Null ∷ [])) ∷ [])

-- Class 0, Turn, has `Turn left`, `Turn right` and `boolean late`. Names: 0 left, 1 right, 2 late, 3 Turn.
abbrev pub turn_book : Book
turn_book = record {
  node = λ k. None;
  class = slice_get (record { called = 3; fields = (0, T.Class 0) ∷ (1, T.Class 0) ∷ (2, T.Boolean) ∷ []; methods = [] } ∷ []);
  classes = 1;
  root = 0;
  holder = λ k. None;
  text = λ n. unwrap_or (slice_get (codes "left" ∷ codes "right" ∷ codes "late" ∷ codes "Turn" ∷ []) n) [];
}

-- Four Turns: one points at two others, of which one points at a fourth and the other back. A fifth is not reached.
abbrev pub five_turns : Store
five_turns = with_records (
    (2, made 0 (Null ∷ Null ∷ Boolean false ∷ []))
    ∷ (6, made 0 (Null ∷ Handle 9 ∷ Boolean true ∷ []))
    ∷ (8, made 0 (Handle 8 ∷ Handle 2 ∷ Boolean true ∷ []))
    ∷ (9, made 0 (Handle 4 ∷ Handle 6 ∷ Boolean false ∷ []))
    ∷ (4, made 0 (Handle 2 ∷ Null ∷ Boolean false ∷ []))
    ∷ [])

-- Ends without a value; a negative int; a record of n bytes in all; records breadth first.
pub record Specimens (n : ℕ) : Type 0 where
  pub unfinished : slip turn_book five_turns Unfinished 200000 (Go 3) ≡ codes "end 1 node - steps 200000\n"
  pub on_null : slip turn_book five_turns (NullTarget 4) 12 (Have Null) ≡ codes "end 31 node 4 steps 12\n"
  pub negative : slip set_412 one_tide Finished 5 (Have (Int (negsuc 4))) ≡ codes "end 0 node - steps 5\nint -5\n"
  pub truth : slip set_412 one_tide Finished 5 (Have (Boolean true)) ≡ codes "end 0 node - steps 5\nboolean true\n"
  pub nothing : slip set_412 one_tide Finished 1 (Have Null) ≡ codes "end 0 node - steps 1\nnull\n"
  pub tide : slip set_412 one_tide Finished 13 (Have (Handle 7)) ≡ codes "end 0 node - steps 13\nobject 0\n0 Tide high=412 next=null\n"
  pub bytes : length (slip set_412 one_tide Finished 13 (Have (Handle 7))) ≡ n
  pub turns : slip turn_book five_turns Finished 55 (Have (Handle 9))
      ≡ codes "end 0 node - steps 55\nobject 0\n0 Turn left=#1 right=#2 late=false\n1 Turn left=#3 right=null late=false\n2 Turn left=null right=#0 late=true\n3 Turn left=null right=null late=false\n"
