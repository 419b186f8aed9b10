-- What the reader notes of each node while it looks for a wrong one: how often it is a part.
-- No public call's contract rests on these.
use Rattle.std.specs.Prelude.{◌≡◌, ℕ, ◌+◌, ◌<◌, ◌≤◌, min, Bool, true, false, List, length, Some, None, Option, slice_index}
use Rattle.book.specs.declared.node.Part.{Part}
use Rattle.book.specs.declared.entry.Strip.{Strip}
use Rattle.book.specs.Counting.{total}
use Rattle.book.specs.Strips.{strip_of, holds_node}
use Rattle.book.specs.Faults.{names_node, uses_in}

-- A strip that holds its nodes.
abbrev pub Proper : List ℕ → Strip → Type 0
Proper bs s = (k : ℕ) → holds_node s k ≡ true → strip_of bs k ≡ s

-- How often each node is a part, by one part of node j and by all of its parts.
abbrev pub named_by : List ℕ → ℕ → Option Part → ℕ → ℕ
named_by bs j part k = names_node bs k j part

abbrev pub used_by : List ℕ → ℕ → ℕ → ℕ
used_by bs j k = uses_in bs k j

-- Marks before and after some uses are counted: so many more of each node, up to 255.
abbrev pub Counted : List ℕ → List ℕ → (ℕ → ℕ) → Type 0
Counted old new more = (k : ℕ) → k < length old → slice_index new k ≡ min (slice_index old k + more k) 255

-- The uses of each node in the first n nodes are marked, up to 255.
abbrev pub Marked : List ℕ → List ℕ → ℕ → Type 0
Marked bs marks n = (k : ℕ) → k < length marks → slice_index marks k ≡ min (total (uses_in bs k) n) 255

-- The lowest number from a to below b of which the test holds, or none.
abbrev pub LowestIn : (ℕ → Bool) → ℕ → ℕ → Option ℕ → Type 0
LowestIn t a b None = (q : ℕ) → q < b → a ≤ q → t q ≡ false
LowestIn t a b (Some p) = (t p ≡ true) × ((q : ℕ) → q < p → a ≤ q → t q ≡ false)
