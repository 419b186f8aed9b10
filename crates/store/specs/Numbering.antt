-- Records in the order in which they were made, under handles that count up from 0.
use Rattle.std.specs.Prelude.{◌≡◌, ℕ, suc, List, [], ◌∷◌}
use Rattle.store.specs.Meaning.{Rec, Means, Store}

-- The records that the heads stand for by f, under handles from k on.
abbrev pub numbered : {X : Type 0} → (X → Rec) → ℕ → List X → List (ℕ × Rec)
numbered f k [] = []
numbered f k (x ∷ xs) = (k, f x) ∷ numbered f (suc k) xs

-- What a store with these heads and these limits means.
abbrev pub counted : {X : Type 0} → (X → Rec) → List X → ℕ → ℕ → Means
counted f xs r q = record { records = numbered f 0 xs; most_records = r; most_cells = q }

-- The store S has n records and u cells, and may have r and q.
abbrev pub Counts : Store → ℕ → ℕ → ℕ → ℕ → Type 0
Counts S n u r q = (S.count ≡ n) × (S.used ≡ u) × (S.most_records ≡ r) × (S.most_cells ≡ q)
