-- Two records made in any store, the first written to, and both read back.
use Rattle.std.specs.Prelude.{◌≡◌, ℕ, ◌+◌, Bool, true, false, ◌&&◌, [], ◌∷◌, Some, None, Option, ◌≢◌, nat_le}
use Rattle.store.specs.declared.Value.{Value}
use Rattle.store.specs.Meaning.{Rec, Store, Means, store, added, written, made}

-- There is room for two records of one cell each.
abbrev pub room_for_two : Store → Bool
room_for_two S = nat_le (S.count + 2) S.most_records && nat_le (S.used + 2) S.most_cells

-- Both records x made, under h and k, and v written into the first.
abbrev pub two_made : Store → Rec → ℕ → ℕ → Value → Store
two_made S x h k v = written (added (added S h x) k x) h 0 v

-- What this answers for the class c, with `old` in the new records and `new` written, and what the store then means, n:
-- none, and m, exactly when there is no room for two; else what was written, what was not, and both records.
abbrev pub Tries : Means → ℕ → Value → Value → Option (Value × Value) → Means → Type 0
Tries m c old new None n = (room_for_two (store m) ≡ false) × (n ≡ m)
Tries m c old new (Some (first, second)) n =
    (room_for_two (store m) ≡ true) × (first ≡ new) × (second ≡ old)
    × ((h : ℕ) × (k : ℕ) × ((store m).look h ≡ None) × ((store m).look k ≡ None) × (h ≢ k) × (store n ≡ two_made (store m) (made c (old ∷ [])) h k new))
