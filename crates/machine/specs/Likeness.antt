-- States alike up to the naming of handles, whatever the order of records.
use Rattle.std.specs.Prelude.{◌≡◌, ℕ, Bool, List, [], ◌∷◌, length, ℤ, Some, None, Option, ◌==◌}
use Rattle.store.specs.declared.Value.{Value}
use Rattle.store.specs.declared.Value.TheVariants.{Int, Boolean, Null, Handle}
use Rattle.store.specs.Meaning.{Rec, Store}
use Rattle.machine.specs.declared.state.Around.{Around}
use Rattle.machine.specs.declared.state.Hand.{Hand}
use Rattle.machine.specs.declared.state.Hand.TheVariants.{Go, Have, Done}
use Rattle.machine.specs.declared.state.Stage.{Stage}
use Rattle.machine.specs.declared.state.Stage.TheVariants.{First, Second, Turn, Third, Fourth}
use Rattle.machine.specs.declared.state.Row.{Row}
use Rattle.machine.specs.Machine.{State, state, row}

infix 30 ◌↔◌
infix 20 ◌∋◌
infix 20 ◌⊨◌≈◌
infix 20 ◌≅◌
-- Pairs of handles, one of each store.
pub data Pair : Type 0 where
  ◌↔◌ : ℕ → ℕ → Pair

abbrev pub Naming : Type 0
Naming = List Pair

pub data ◌∋◌ : Naming → Pair → Type 0 where
  here : {p : Pair} {β : Naming} → (p ∷ β) ∋ p
  there : {p q : Pair} {β : Naming} → β ∋ p → (q ∷ β) ∋ p

-- One to one.
pub record Exact (β : Naming) : Type 0 where
  pub exact : (x y x' y' : ℕ) → β ∋ (x ↔ y) → β ∋ (x' ↔ y') → (x == x') ≡ (y == y')

-- The same value, or paired handles.
pub data ◌⊨◌≈◌ (β : Naming) : Value → Value → Type 0 where
  ≈-int : {n : ℤ} → β ⊨ Int n ≈ Int n
  ≈-boolean : {b : Bool} → β ⊨ Boolean b ≈ Boolean b
  ≈-null : β ⊨ Null ≈ Null
  ≈-handle : {x y : ℕ} → β ∋ (x ↔ y) → β ⊨ Handle x ≈ Handle y

pub data Lists (β : Naming) : List Value → List Value → Type 0 where
  nil : Lists β [] []
  cons : {v w : Value} {vs ws : List Value} → β ⊨ v ≈ w → Lists β vs ws → Lists β (v ∷ vs) (w ∷ ws)

-- The same class, values alike.
pub data Recs (β : Naming) : Rec → Rec → Type 0 where
  same_class : {c : ℕ} {vs ws : List Value} → Lists β vs ws → Recs β (record { class = c; values = vs }) (record { class = c; values = ws })

-- Both none, or alike.
pub data Both {A B : Type 0} (R : A → B → Type 0) : Option A → Option B → Type 0 where
  neither : Both R None None
  both : {a : A} {b : B} → R a b → Both R (Some a) (Some b)

-- Stores by lookup: paired handles look up to records alike, every handle that is there is paired, there are as many
-- pairs as records, counts and limits are the same. A record that leaves takes its pair along.
pub record Stores (β : Naming) (S T : Store) : Type 0 where
  pub pairs : (x y : ℕ) → β ∋ (x ↔ y) → (o : Rec) × (p : Rec) × (S.look x ≡ Some o) × (T.look y ≡ Some p) × Recs β o p
  pub left : (x : ℕ) (o : Rec) → S.look x ≡ Some o → (y : ℕ) × (β ∋ (x ↔ y))
  pub right : (y : ℕ) (p : Rec) → T.look y ≡ Some p → (x : ℕ) × (β ∋ (x ↔ y))
  pub paired : length β ≡ S.count
  pub count : S.count ≡ T.count
  pub used : S.used ≡ T.used
  pub most_records : S.most_records ≡ T.most_records
  pub most_cells : S.most_cells ≡ T.most_cells

pub record Arounds (β : Naming) (ε δ : Around) : Type 0 where
  pub object : Both (λ x y. β ∋ (x ↔ y)) ε.object δ.object
  pub parameter : Both (λ v w. β ⊨ v ≈ w) ε.parameter δ.parameter

pub data Stages (β : Naming) : Stage → Stage → Type 0 where
  is_first : Stages β First First
  is_second : {v w : Value} → β ⊨ v ≈ w → Stages β (Second v) (Second w)
  is_turn : Stages β Turn Turn
  is_third : {ε δ : Around} → Arounds β ε δ → Stages β (Third ε) (Third δ)
  is_fourth : {ε δ : Around} → Arounds β ε δ → Stages β (Fourth ε) (Fourth δ)

-- The same nodes, stages alike.
pub data Rows (β : Naming) : List Row → List Row → Type 0 where
  no_rows : Rows β [] []
  a_row : {k : ℕ} {s t : Stage} {ρ σ : List Row} → Stages β s t → Rows β ρ σ → Rows β (row k s ∷ ρ) (row k t ∷ σ)

pub data Hands (β : Naming) : Hand → Hand → Type 0 where
  both_go : {k : ℕ} → Hands β (Go k) (Go k)
  both_have : {v w : Value} → β ⊨ v ≈ w → Hands β (Have v) (Have w)
  both_done : Hands β Done Done

pub data States (β : Naming) : State → State → Type 0 where
  alike : {x y : Hand} {ε δ : Around} {ρ σ : List Row} {S T : Store} → Hands β x y → Arounds β ε δ → Rows β ρ σ → Stores β S T → States β (state x ε ρ S) (state y δ σ T)

-- Alike under some naming.
pub data ◌≅◌ (s t : State) : Type 0 where
  by_naming : {β : Naming} → Exact β → States β s t → s ≅ t
