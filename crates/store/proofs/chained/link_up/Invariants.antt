use Rattle.std.proofs.Common.{◌≡◌, ◌+◌, List, ◌++◌, length, vec_items, vec_len, vec_capacity}
use Rattle.std.specs.Iterator.Adapters.{rev_source}
use Rattle.std.specs.Slice.Iter.{iter_rest}
use Rattle.store.specs.declared.Value.{Value}
use Rattle.store.specs.Chaining.{ChainFrom}
use Rattle.store.proofs.chained.link_up.Given as goal

-- the values from the last on that are linked are those that the iterator has no more
abbrev pub invariant-loop-value : goal.invariant-loop-value
invariant-loop-value l = record {
  capacity : vec_capacity l.cells ≡ vec_capacity l.initial.cells;
  count : vec_len l.cells + length (iter_rest (rev_source l.value-iterator)) ≡ vec_len l.initial.cells + length l.values;
  linked : (vs : List Value) × (iter_rest (rev_source l.value-iterator) ++ vs ≡ l.values) × ChainFrom (vec_items l.initial.cells) (vec_items l.cells) l.next vs;
}
