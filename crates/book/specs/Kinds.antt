-- The sixteen kinds of nodes, and what each kind's numbers mean.
use Rattle.std.specs.Prelude.{ℕ, ◌+◌, ◌*◌, ◌^◌, Bool, true, cond, ◌&&◌, List, [], ◌∷◌, ℤ, pos, ◌-ℤ◌, Some, None, Option, ◌==◌, nat_le, nat_lt}
use Rattle.std.specs.List.{slice_get}
use Rattle.book.specs.declared.node.Node.{Node}
use Rattle.book.specs.declared.node.Node.TheVariants.{Literal, Minus, Less, Equal, IsNull, This, Parameter, FieldRead, Call, New, Reading, FieldWrite, Sequence, If, While, Skip}
use Rattle.book.specs.declared.node.Raw.{Raw}
use Rattle.book.specs.declared.node.Sort.{Sort}
use Rattle.book.specs.declared.node.Sort.TheVariants.{Expression, Command}
use Rattle.book.specs.declared.node.Part.{Part}
use Rattle.book.specs.declared.node.Parts.{Parts}

-- A number of 32 bits read as two's complement.
abbrev pub signed32 : ℕ → ℤ
signed32 n = cond (nat_lt n (2 ^ 31)) (pos n) (pos n -ℤ pos (2 ^ 32))

-- The kinds in the order of their numbers, from 0 to 15, each with its numbers.
abbrev pub kinds : ℕ → ℕ → ℕ → List Node
kinds a b d =
    Literal (signed32 (b + 65536 * d)) ∷ Minus a b ∷ Less a b ∷ Equal a b ∷ IsNull a ∷ This ∷ Parameter ∷ FieldRead a d
    ∷ Call a b d ∷ New d ∷ Reading a ∷ FieldWrite a b d ∷ Sequence a b ∷ If a b d ∷ While a b ∷ Skip ∷ []

-- The node that a kind and three numbers stand for; none where there is no such kind.
unfoldable pub decoded : Raw → Option Node
decoded r = slice_get (kinds r.a r.b r.d) r.kind

-- Kinds 0 to 10 are expressions, 11 to 15 commands.
abbrev pub of_sort : Sort → ℕ → Bool
of_sort Expression kind = nat_lt kind 11
of_sort Command kind = nat_le 11 kind && nat_lt kind 16

abbrev pub expression : ℕ → Option Part
expression k = Some (record { node = k; sort = Expression })

abbrev pub command : ℕ → Option Part
command k = Some (record { node = k; sort = Command })

abbrev pub three : Option Part → Option Part → Option Part → Parts
three x y z = record { a = x; b = y; d = z }

-- The parts of a node, by the number that names them: targets, values, arguments, operands and tests are expressions.
abbrev pub parts : Node → Parts
parts (Literal value) = three None None None
parts (Minus left right) = three (expression left) (expression right) None
parts (Less left right) = three (expression left) (expression right) None
parts (Equal left right) = three (expression left) (expression right) None
parts (IsNull operand) = three (expression operand) None None
parts This = three None None None
parts Parameter = three None None None
parts (FieldRead target name) = three (expression target) None None
parts (Call target argument name) = three (expression target) (expression argument) None
parts (New class) = three None None None
parts (Reading index) = three (expression index) None None
parts (FieldWrite target value name) = three (expression target) (expression value) None
parts (Sequence first second) = three (command first) (command second) None
parts (If test then otherwise) = three (expression test) (command then) (command otherwise)
parts (While test body) = three (expression test) (command body) None
parts Skip = three None None None

-- The numbers that name no part are right, among so many classes and names:
-- one that the kind does not list is 0, and a class or a name is there.
abbrev pub numbers_right : ℕ → ℕ → Raw → Node → Bool
numbers_right classes names r (Literal value) = r.a == 0
numbers_right classes names r (Minus left right) = r.d == 0
numbers_right classes names r (Less left right) = r.d == 0
numbers_right classes names r (Equal left right) = r.d == 0
numbers_right classes names r (IsNull operand) = r.b == 0 && r.d == 0
numbers_right classes names r This = r.a == 0 && (r.b == 0 && r.d == 0)
numbers_right classes names r Parameter = r.a == 0 && (r.b == 0 && r.d == 0)
numbers_right classes names r (FieldRead target name) = r.b == 0 && nat_lt name names
numbers_right classes names r (Call target argument name) = nat_lt name names
numbers_right classes names r (New class) = r.a == 0 && (r.b == 0 && nat_lt class classes)
numbers_right classes names r (Reading index) = r.b == 0 && r.d == 0
numbers_right classes names r (FieldWrite target value name) = nat_lt name names
numbers_right classes names r (Sequence first second) = r.d == 0
numbers_right classes names r (If test then otherwise) = true
numbers_right classes names r (While test body) = r.d == 0
numbers_right classes names r Skip = r.a == 0 && (r.b == 0 && r.d == 0)
