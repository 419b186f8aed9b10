-- Strips: stretches of nodes. For each method its command, then its returned expression; last the top-level expression.
use Rattle.std.specs.Prelude.{ℕ, zero, suc, ◌+◌, Bool, cond, ◌&&◌, List, Some, None, Option, ◌==◌, nat_le, nat_lt}
use Rattle.book.specs.declared.entry.Method.{Method}
use Rattle.book.specs.declared.entry.Strip.{Strip}
use Rattle.book.specs.declared.node.Node.{Node}
use Rattle.book.specs.declared.node.Sort.TheVariants.{Expression, Command}
use Rattle.book.specs.Counting.{total}
use Rattle.book.specs.Layout.{method_count, node_count, top_count, method_name, method_result, method_parameter, command_nodes, returned_nodes, method_nodes, raw_node, typed}
use Rattle.book.specs.Kinds.{decoded}

-- A strip has a first node, a number of nodes, and the sort that its last node, the root, must be of.
abbrev pub command_strip : List ℕ → ℕ → Strip
command_strip bs m = record { first = total (method_nodes bs) m; nodes = command_nodes bs m; sort = Command }

abbrev pub returned_strip : List ℕ → ℕ → Strip
returned_strip bs m = record { first = total (method_nodes bs) m + command_nodes bs m; nodes = returned_nodes bs m; sort = Expression }

abbrev pub top_strip : List ℕ → Strip
top_strip bs = record { first = total (method_nodes bs) (method_count bs); nodes = top_count bs; sort = Expression }

abbrev pub holds_node : Strip → ℕ → Bool
holds_node s k = nat_le s.first k && nat_lt k (s.first + s.nodes)

abbrev pub is_root : Strip → ℕ → Bool
is_root s k = k + 1 == s.first + s.nodes

-- The strip that holds node k, sought in n methods from method m on, and else the top-level expression.
abbrev pub strip_from : List ℕ → ℕ → ℕ → ℕ → Strip
strip_from bs k m zero = top_strip bs
strip_from bs k m (suc n) =
    cond (holds_node (command_strip bs m) k) (command_strip bs m)
    (cond (holds_node (returned_strip bs m) k) (returned_strip bs m)
    (strip_from bs k (m + 1) n))

-- The strip that holds node k.
unfoldable pub strip_of : List ℕ → ℕ → Strip
strip_of bs k = strip_from bs k 0 (method_count bs)

abbrev pub method_at : List ℕ → ℕ → Option Method
method_at bs m = cond (nat_lt m (method_count bs)) (Some (record {
  name = method_name bs m;
  result = typed (method_result bs m);
  parameter = typed (method_parameter bs m);
  command = command_strip bs m;
  returned = returned_strip bs m;
})) None

-- Node k; none where it is not there, or of no kind.
abbrev pub node_at : List ℕ → ℕ → Option Node
node_at bs k = cond (nat_lt k (node_count bs)) (decoded (raw_node bs k)) None
