-- The slip: how a run ended and, if it is finished, its value and the records reached from it, as bytes.
use Rattle.std.specs.Prelude.{ℕ, zero, suc, Bool, true, false, cond, List, [], ◌∷◌, ◌++◌, length, Some, None, codes, decimal, Option, ◌==◌, nat_lt}
use Rattle.std.specs.List.{slice_get}
use Rattle.std.specs.Fmt.{signed_decimal}
use Rattle.book.specs.declared.node.Type.{«Type» as BType}
use Rattle.store.specs.declared.Value.{Value}
use Rattle.store.specs.declared.Value.TheVariants.{Int, Boolean, Null, Handle}
use Rattle.store.specs.Meaning.{Rec, Store, Means, store}
use Rattle.cool.specs.Syntax.{Name}
use Rattle.cool.specs.Book.{Part, Book, fields_of}
use Rattle.checked.specs.Checked.{book_of}
use Rattle.machine.specs.declared.state.Hand.{Hand}
use Rattle.machine.specs.declared.state.Hand.TheVariants.{Go, Have, Done}
use Rattle.machine.specs.declared.state.End.{End}
use Rattle.machine.specs.declared.state.End.TheVariants.{Unfinished, Finished, NullTarget, NoReading, BeyondEnds, NoRoom, NoPlace}
use Rattle.machine.specs.Ends.{end_number, ended_at}
use Rattle.slips.specs.declared.print.Slip.{Slip}
use Rattle.slips.specs.Text.{joined, each}

-- A handle is among those found.
unfoldable pub has : List ℕ → ℕ → Bool
has [] h = false
has (k ∷ ks) h = cond (h == k) true (has ks h)

-- A value's handle, if it has one that is not among those found.
abbrev pub unfound : List ℕ → Value → Option ℕ
unfound ks (Int n) = None
unfound ks (Boolean b) = None
unfound ks Null = None
unfound ks (Handle h) = cond (has ks h) None (Some h)

abbrev pub and_last : List ℕ → Option ℕ → List ℕ
and_last ks None = ks
and_last ks (Some h) = ks ++ h ∷ []

-- The handles found so far, and a value's own behind them unless it was found before.
unfoldable pub noted : List ℕ → Value → List ℕ
noted ks v = and_last ks (unfound ks v)

-- The same for the values of a record, in order.
unfoldable pub all_noted : List ℕ → List Value → List ℕ
all_noted ks [] = ks
all_noted ks (v ∷ vs) = all_noted (noted ks v) vs

abbrev pub values_of : Option Rec → List Value
values_of None = []
values_of (Some o) = o.values

-- The values of the record that was found at a place, if one was.
abbrev pub values_at : Store → Option ℕ → List Value
values_at S None = []
values_at S (Some h) = values_of (S.look h)

-- The handles found from a value after n turns: its own first; then each turn goes through one record, the one found at
-- the turn's place.
unfoldable pub turns : Store → Value → ℕ → List ℕ
turns S v zero = noted [] v
turns S v (suc i) = all_noted (turns S v i) (values_at S (slice_get (turns S v i) i))

-- The handles found from a value: there are no more turns than records.
abbrev pub found_from : Store → Value → List ℕ
found_from S v = turns S v S.count

-- The handle is the one that stands there.
abbrev pub holds : Option ℕ → ℕ → Bool
holds None h = false
holds (Some k) h = h == k

-- A record's label: its place among those found.
unfoldable pub label : List ℕ → ℕ → ℕ
label [] h = 0
label (k ∷ ks) h = cond (h == k) 0 (suc (label ks h))

abbrev pub truth : Bool → List ℕ
truth true = codes "true"
truth false = codes "false"

-- A value in a record's line; a record as # and its label.
unfoldable pub cell_words : List ℕ → Value → List ℕ
cell_words all (Int n) = signed_decimal n
cell_words all (Boolean b) = truth b
cell_words all Null = codes "null"
cell_words all (Handle h) = joined (codes "#" ∷ decimal (label all h) ∷ [])

-- A field with its value: blank, name, =, value.
unfoldable pub cell_text : Book → List ℕ → Option (Name × BType) → Option Value → List ℕ
cell_text B all None v = []
cell_text B all (Some f) None = []
cell_text B all (Some f) (Some v) = joined (codes " " ∷ B.text f.0 ∷ codes "=" ∷ cell_words all v ∷ [])

abbrev pub class_name : Book → Option Part → List ℕ
class_name B None = []
class_name B (Some p) = B.text p.called

-- All fields of a record, in order.
abbrev pub cells_text : Book → List ℕ → List (Name × BType) → List Value → List ℕ
cells_text B all fs vs = each (λ i. cell_text B all (slice_get fs i) (slice_get vs i)) (length vs)

-- A record's line: label, class, fields.
unfoldable pub record_line : Book → List ℕ → ℕ → Option Rec → List ℕ
record_line B all i None = []
record_line B all i (Some o) =
    joined (decimal i ∷ codes " " ∷ class_name B (B.class o.class) ∷ cells_text B all (fields_of (B.class o.class)) o.values ∷ codes "\n" ∷ [])

-- The line of the record that was found at place i.
abbrev pub nth_line : Book → Store → List ℕ → ℕ → Option ℕ → List ℕ
nth_line B S all i None = []
nth_line B S all i (Some h) = record_line B all i (S.look h)

-- int N, boolean true or false, null, or object 0
unfoldable pub value_words : Value → List ℕ
value_words (Int n) = joined (codes "int " ∷ signed_decimal n ∷ [])
value_words (Boolean b) = joined (codes "boolean " ∷ truth b ∷ [])
value_words Null = codes "null"
value_words (Handle h) = codes "object 0"

-- The lines of the records found, in order of finding.
abbrev pub record_lines : Book → Store → List ℕ → List ℕ
record_lines B S all = each (λ i. nth_line B S all i (slice_get all i)) (length all)

-- The value's line, and the lines of the records found.
unfoldable pub value_lines : Book → Store → List ℕ → Value → List ℕ
value_lines B S all v = joined (value_words v ∷ codes "\n" ∷ record_lines B S all ∷ [])

abbrev pub node_words : Option ℕ → List ℕ
node_words None = codes "-"
node_words (Some k) = decimal k

-- end E node K steps S
unfoldable pub first_line : End → ℕ → List ℕ
first_line e n = joined (codes "end " ∷ decimal (end_number e) ∷ codes " node " ∷ node_words (ended_at e) ∷ codes " steps " ∷ decimal n ∷ codes "\n" ∷ [])

-- The value that is shown: what a finished run has in hand.
abbrev pub shown : End → Hand → Option Value
shown Finished (Have v) = Some v
shown Finished (Go k) = None
shown Finished Done = None
shown Unfinished x = None
shown (NullTarget k) x = None
shown (NoReading k) x = None
shown (BeyondEnds k) x = None
shown (NoRoom k) x = None
shown (NoPlace k) x = None

-- A value that is shown, and the records found.
abbrev pub shown_lines : Book → Store → List ℕ → Option Value → List ℕ
shown_lines B S all None = []
shown_lines B S all (Some v) = value_lines B S all v

abbrev pub found_with : Store → Option Value → List ℕ
found_with S None = []
found_with S (Some v) = found_from S v

-- The slip's bytes, where these handles were found.
unfoldable pub printed : Book → Store → List ℕ → End → ℕ → Option Value → List ℕ
printed B S all e n v = first_line e n ++ shown_lines B S all v

-- The slip of a run with this end, steps and hand, by a book and a store.
abbrev pub slip : Book → Store → End → ℕ → Hand → List ℕ
slip B S e n x = printed B S (found_with S (shown e x)) e n (shown e x)

-- What is printed of a slip in code, where a store means so.
abbrev pub text_of : {S : Type 0} → (S → Means) → Slip S → List ℕ
text_of meant s = printed (book_of s.book.now) (store (meant s.objects.now)) s.found.now s.end s.steps s.shown
