-- The seven faults of a file, and the first of them.
use Rattle.std.specs.Prelude.{◌≡◌, ℕ, ◌+◌, ◌-◌, ◌*◌, ◌<◌, Bool, true, false, cond, not, ◌&&◌, ◌||◌, ◌⊎◌, List, [], ◌∷◌, ◌++◌, length, codes, decimal, is_some, Some, None, Option, ◌==◌, nat_le, nat_lt, ⊤, Result, MatchResult}
use Rattle.book.specs.declared.fault.Fault.{Fault}
use Rattle.book.specs.declared.fault.Fault.TheVariants.{Version, Limit, Offset, Name, Total, Entry, Node}
use Rattle.book.specs.declared.fault.Refusal.{Refusal}
use Rattle.book.specs.declared.node.Part.{Part}
use Rattle.book.specs.declared.node.Parts.{Parts}
use Rattle.book.specs.declared.node.Node.{Node as ANode}
use Rattle.book.specs.Counting.{total, at_place}
use Rattle.book.specs.Layout.{version, class_count, field_count, method_count, node_count, name_count, top_count, class_part, field_part, method_part, node_part, name_part, name_bytes, class_name, class_fields, class_methods, field_name, field_type, method_name, method_result, method_parameter, command_nodes, returned_nodes, method_nodes, raw_node}
use Rattle.book.specs.Kinds.{decoded, of_sort, parts, numbers_right}
use Rattle.book.specs.Names.{nth_name, after_names, repeats, some_left}
use Rattle.book.specs.Strips.{strip_of, holds_node, is_root}

-- The number under which a fault is refused, and its place.
abbrev pub number : Fault → ℕ
number Version = 1
number (Limit p) = 2
number (Offset p) = 3
number (Name n) = 4
number (Total p) = 5
number (Entry i) = 6
number (Node k) = 7

abbrev pub place : Fault → ℕ
place Version = 0
place (Limit p) = p
place (Offset p) = p
place (Name n) = n
place (Total p) = p
place (Entry i) = i
place (Node k) = k

abbrev pub refusal : Fault → Refusal
refusal f = record { number = number f; place = place f }

-- What is printed of a refusal.
abbrev pub refusal_text : Refusal → List ℕ
refusal_text r = codes "refused " ++ decimal r.number ++ codes " at " ++ decimal r.place

abbrev pub differs : ℕ → ℕ → Bool
differs m n = not (m == n)

-- 1. The file has under 24 bytes, or its version is not 1.
abbrev pub wrong_version : List ℕ → Bool
wrong_version bs = nat_lt (length bs) 24 || differs (version bs) 1

-- 2, at a header place. A count is above its limit, or the top-level expression is empty.
abbrev pub limits : List ℕ → List (ℕ × Bool)
limits bs =
    (1, nat_lt 64 (class_count bs))
    ∷ (2, nat_lt 512 (field_count bs))
    ∷ (3, nat_lt 256 (method_count bs))
    ∷ (4, nat_lt 4000 (node_count bs))
    ∷ (5, nat_lt 512 (name_count bs))
    ∷ (11, (top_count bs == 0))
    ∷ []

-- 3, at a header place. An offset is not the sum of what precedes, or the names lie beyond the file's end.
abbrev pub offsets : List ℕ → List (ℕ × Bool)
offsets bs =
    (6, differs (class_part bs) 24)
    ∷ (7, differs (field_part bs) (24 + 6 * class_count bs))
    ∷ (8, differs (method_part bs) (24 + 6 * class_count bs + 4 * field_count bs))
    ∷ (9, differs (node_part bs) (24 + 6 * class_count bs + 4 * field_count bs + 10 * method_count bs))
    ∷ (10, differs (name_part bs) (24 + 6 * class_count bs + 4 * field_count bs + 10 * method_count bs + 8 * node_count bs) || nat_lt (length bs) (name_part bs))
    ∷ []

-- 4, at a name among so many. It is faulty, cut, or the same as an earlier one; or, at the number after the last, bytes follow.
abbrev pub wrong_name_in : ℕ → List ℕ → ℕ → Bool
wrong_name_in count bs n = cond (nat_lt n count) (not (is_some (nth_name n bs)) || repeats bs n) (n == count && some_left (after_names n bs))

abbrev pub wrong_name : List ℕ → ℕ → Bool
wrong_name bs = wrong_name_in (name_count bs) (name_bytes bs)

-- 5, at the header place of a count. The classes' counts of fields or of methods, or the strips' counts of nodes, do not add up to it.
abbrev pub totals : List ℕ → List (ℕ × Bool)
totals bs =
    (2, differs (total (class_fields bs) (class_count bs)) (field_count bs))
    ∷ (3, differs (total (class_methods bs) (class_count bs)) (method_count bs))
    ∷ (4, differs (total (method_nodes bs) (method_count bs) + top_count bs) (node_count bs))
    ∷ []

abbrev pub no_name : List ℕ → ℕ → Bool
no_name bs n = nat_le (name_count bs) n

abbrev pub no_type : List ℕ → ℕ → Bool
no_type bs t = nat_le (2 + class_count bs) t

abbrev pub wrong_class : List ℕ → ℕ → Bool
wrong_class bs i = no_name bs (class_name bs i)

abbrev pub wrong_field : List ℕ → ℕ → Bool
wrong_field bs j = no_name bs (field_name bs j) || no_type bs (field_type bs j)

abbrev pub wrong_method : List ℕ → ℕ → Bool
wrong_method bs m =
    no_name bs (method_name bs m)
    || (no_type bs (method_result bs m)
    || (no_type bs (method_parameter bs m)
    || (command_nodes bs m == 0
    || returned_nodes bs m == 0)))

-- 6, at an entry; classes, fields and methods are counted through. A name or a type is not there, or a strip is empty.
abbrev pub wrong_entry : List ℕ → ℕ → Bool
wrong_entry bs i =
    cond (nat_lt i (class_count bs)) (wrong_class bs i)
    (cond (nat_lt i (class_count bs + field_count bs)) (wrong_field bs (i - class_count bs))
    (cond (nat_lt i (class_count bs + field_count bs + method_count bs)) (wrong_method bs (i - (class_count bs + field_count bs))) false))

-- A part lies right where it stands in the same strip as node k, before it.
abbrev pub lies_right : List ℕ → ℕ → ℕ → Bool
lies_right bs k p = holds_node (strip_of bs k) p && nat_lt p k

-- A part of node k is as it must be: it lies right, and is of the sort that the kind asks for.
abbrev pub part_right : List ℕ → ℕ → Option Part → Bool
part_right bs k None = true
part_right bs k (Some p) = lies_right bs k p.node && of_sort p.sort (raw_node bs p.node).kind

abbrev pub parts_right : List ℕ → ℕ → Parts → Bool
parts_right bs k ps = part_right bs k ps.a && (part_right bs k ps.b && part_right bs k ps.d)

-- Node k is of a kind, and its numbers are as its kind asks.
abbrev pub shape_right : List ℕ → ℕ → Option ANode → Bool
shape_right bs k None = false
shape_right bs k (Some n) = numbers_right (class_count bs) (name_count bs) (raw_node bs k) n && parts_right bs k (parts n)

-- Whether a part of node j lies right and is node k: 1 or 0.
abbrev pub names_node : List ℕ → ℕ → ℕ → Option Part → ℕ
names_node bs k j None = 0
names_node bs k j (Some p) = cond (lies_right bs j p.node && p.node == k) 1 0

-- How often node k is a part of node j; references lying wrongly do not count.
abbrev pub uses_by : List ℕ → ℕ → ℕ → Option ANode → ℕ
uses_by bs k j None = 0
uses_by bs k j (Some n) = names_node bs k j (parts n).a + names_node bs k j (parts n).b + names_node bs k j (parts n).d

abbrev pub uses_in : List ℕ → ℕ → ℕ → ℕ
uses_in bs k j = uses_by bs k j (decoded (raw_node bs j))

abbrev pub uses : List ℕ → ℕ → ℕ
uses bs k = total (uses_in bs k) (node_count bs)

-- A root is of its strip's sort; any other node is a part exactly once.
abbrev pub use_right : List ℕ → ℕ → Bool
use_right bs k = cond (is_root (strip_of bs k) k) (of_sort (strip_of bs k).sort (raw_node bs k).kind) (uses bs k == 1)

-- 7, at a node. It is against the node rules, or not once a part.
abbrev pub wrong_node : List ℕ → ℕ → Bool
wrong_node bs k = nat_lt k (node_count bs) && not (shape_right bs k (decoded (raw_node bs k)) && use_right bs k)

-- Whether a fault is there.
abbrev pub is_there : List ℕ → Fault → Bool
is_there bs Version = wrong_version bs
is_there bs (Limit p) = at_place (limits bs) p
is_there bs (Offset p) = at_place (offsets bs) p
is_there bs (Name n) = wrong_name bs n
is_there bs (Total p) = at_place (totals bs) p
is_there bs (Entry i) = wrong_entry bs i
is_there bs (Node k) = wrong_node bs k

-- A fault comes before another: by its number, and under one number by its place.
abbrev pub Before : Fault → Fault → Type 0
Before f g = (number f < number g) ⊎ ((number f ≡ number g) × (place f < place g))

-- The first fault of a file: it is there, and none before it is.
pub record First (bs : List ℕ) (f : Fault) : Type 0 where
  pub there : is_there bs f ≡ true
  pub none_before : (g : Fault) → Before g f → is_there bs g ≡ false

-- No fault with a number below n is there.
pub record FreeBelow (bs : List ℕ) (n : ℕ) : Type 0 where
  pub none : (f : Fault) → number f < n → is_there bs f ≡ false

-- What a look for the faults with number n comes to, once none below is there: none of these is there either, or the first fault.
abbrev pub Looks : List ℕ → ℕ → Result ⊤ Fault → Type 0
Looks bs n r = MatchResult r (λ _. FreeBelow bs (n + 1)) (First bs)

-- A file clear of all faults.
pub record Clear (bs : List ℕ) : Type 0 where
  pub none : (f : Fault) → is_there bs f ≡ false

-- The law of faults: a file is clear of all of them, or has a first one; never both, and never two first ones.
-- So no fault refuses a file exactly when all conditions are clear.
pub record Decided (bs : List ℕ) : Type 0 where
  pub either : Clear bs ⊎ ((f : Fault) × First bs f)
  pub not_both : (f : Fault) → Clear bs → First bs f → ⊥
  pub one_first : (f g : Fault) → First bs f → First bs g → f ≡ g

abbrev pub FaultsDecide : Type 0
FaultsDecide = (bs : List ℕ) → Decided bs
