-- COOL: values, heaps, and the evaluation rules of expressions and commands.
use Rattle.std.specs.Prelude.{◌≡◌, ℕ, Bool, true, false, cond, List, [], ◌∷◌, take, ℤ, pos, negsuc, Some, None, Option, ◌==◌, int_lt}
use Rattle.std.specs.List.{slice_get}
use Rattle.numbers.specs.Rule.{Rule, within}
use Rattle.store.specs.declared.Value.{Value}
use Rattle.store.specs.declared.Value.TheVariants.{Int, Boolean, Null, Handle}
use Rattle.cool.specs.Syntax.{Name, Ty, int, boolean, class, Expr, literal, minus, this, parameter, field, call, new, less, equal, is_null, reading, Com, assign, seq, if_else, while, skip, Method, Class, CE, FE, find, ◌⟨◌⟼◌⟩}

-- L, the locations. A value is an int n, a location ℓ, null, or a boolean: `Int n`, `Handle ℓ`, `Null`, `Boolean b`.
abbrev pub Loc : Type 0
Loc = ℕ

-- R, the records: field names with their values.
abbrev pub Record : Type 0
Record = List (Name × Value)

-- An object: its class beside its record.
pub data Object : Type 0 where
  object : Name → Record → Object

-- H, the heaps: partial functions. ∅ is the empty one, h ⟨ ℓ ⟼ o ⟩ has o at ℓ and else is h.
abbrev pub Heap : Type 0
Heap = Loc → Option Object

-- default(int) = 0, default(c) = null; added: default(boolean) = false
abbrev pub default : Ty → Value
default int = Int (pos 0)
default (class c) = Null
default boolean = Boolean false

-- Default([(f₁, u₁), .., (f_k, u_k)]) = [(f₁, default(u₁)), .., (f_k, default(u_k))]
abbrev pub Default : FE → Record
Default [] = []
Default (x ∷ fe) = (x.0, default x.1) ∷ Default fe

-- r[f ↦ v], where r has the field f.
abbrev pub with_field : Record → Name → Value → Record
with_field [] f v = []
with_field (x ∷ r) f v = cond (f == x.0) ((x.0, v) ∷ r) (x ∷ with_field r f v)

-- m = n, of two ints.
abbrev pub equal_ints : ℤ → ℤ → Bool
equal_ints (pos m) (pos n) = m == n
equal_ints (pos m) (negsuc n) = false
equal_ints (negsuc m) (pos n) = false
equal_ints (negsuc m) (negsuc n) = m == n

-- Entry i, counted from 0, of the day's first 4,096 readings.
abbrev pub reading_at : List ℤ → ℤ → Option ℤ
reading_at day (pos i) = slice_get (take 4096 day) i
reading_at day (negsuc i) = None

-- h, ℘, ℓ ⊢ expr ⇓ v, h' and h, ℘, ℓ ⊢ com ⇓ h', for a class environment CE; beside it a number rule and the day's
-- readings. ℘ is the parameter's value, ℓ the location of `this`, both none at the top. Where there is no rule, nothing is
-- derived: at null, beyond the number rule's ends, without a difference or a reading.
module _ (ce : CE) (R : Rule) (day : List ℤ) where
  infix 20 ◌∣◌∣◌⊢◌⇓◌∣◌
  infix 20 ◌∣◌∣◌⊢◌⇓◌
  mutual
    pub data ◌∣◌∣◌⊢◌⇓◌∣◌ : Heap → Option Value → Option Loc → Expr → Value → Heap → Type 0 where
      -- n ⇓ n, h; of a number rule: n lies within its ends
      e_literal : {h : Heap} {℘ : Option Value} {ℓ : Option Loc} {n : ℤ}
          → within R n ≡ true
          → h ∣ ℘ ∣ ℓ ⊢ literal n ⇓ Int n ∣ h
      -- expr₁ ⇓ n₁, h₁, expr₂ ⇓ n₂, h₂, n = n₁ - n₂  ⟹  expr₁ - expr₂ ⇓ n, h₂; the difference is the number rule's
      e_minus : {h₀ h₁ h₂ : Heap} {℘ : Option Value} {ℓ : Option Loc} {e₁ e₂ : Expr} {n₁ n₂ n : ℤ}
          → h₀ ∣ ℘ ∣ ℓ ⊢ e₁ ⇓ Int n₁ ∣ h₁ → h₁ ∣ ℘ ∣ ℓ ⊢ e₂ ⇓ Int n₂ ∣ h₂
          → R.difference n₁ n₂ ≡ Some n
          → h₀ ∣ ℘ ∣ ℓ ⊢ minus e₁ e₂ ⇓ Int n ∣ h₂
      -- ℓ ∈ L  ⟹  this ⇓ ℓ, h
      e_this : {h : Heap} {℘ : Option Value} {ℓ : Option Loc} {l : Loc}
          → ℓ ≡ Some l
          → h ∣ ℘ ∣ ℓ ⊢ this ⇓ Handle l ∣ h
      -- ℘ = (p, v)  ⟹  p ⇓ v, h
      e_parameter : {h : Heap} {℘ : Option Value} {ℓ : Option Loc} {v : Value}
          → ℘ ≡ Some v
          → h ∣ ℘ ∣ ℓ ⊢ parameter ⇓ v ∣ h
      -- expr ⇓ ℓ', h₁, h₁(ℓ') = (-, r), r(f) = v  ⟹  expr.f ⇓ v, h₁
      e_field : {h₀ h₁ : Heap} {℘ : Option Value} {ℓ : Option Loc} {e : Expr} {f c : Name} {l : Loc} {r : Record} {v : Value}
          → h₀ ∣ ℘ ∣ ℓ ⊢ e ⇓ Handle l ∣ h₁
          → h₁ l ≡ Some (object c r) → find r f ≡ Some v
          → h₀ ∣ ℘ ∣ ℓ ⊢ field e f ⇓ v ∣ h₁
      -- expr₁ ⇓ ℓ', h₁, expr₂ ⇓ v, h₂, and with ℘' = (p, v) and ℓ': com ⇓ h₃, expr₃ ⇓ v', h₄;
      -- h₁(ℓ') = (c, -), CE_M(c)(m) = (-, -, p, com, expr₃)  ⟹  expr₁.m(expr₂) ⇓ v', h₄
      e_call : {h₀ h₁ h₂ h₃ h₄ : Heap} {℘ : Option Value} {ℓ : Option Loc} {e₁ e₂ : Expr} {m c : Name} {l : Loc} {r : Record} {k : Class} {q : Method} {v v' : Value}
          → h₀ ∣ ℘ ∣ ℓ ⊢ e₁ ⇓ Handle l ∣ h₁ → h₁ ∣ ℘ ∣ ℓ ⊢ e₂ ⇓ v ∣ h₂
          → h₂ ∣ Some v ∣ Some l ⊢ q.command ⇓ h₃ → h₃ ∣ Some v ∣ Some l ⊢ q.returned ⇓ v' ∣ h₄
          → h₁ l ≡ Some (object c r) → ce c ≡ Some k → k.methods m ≡ Some q
          → h₀ ∣ ℘ ∣ ℓ ⊢ call e₁ m e₂ ⇓ v' ∣ h₄
      -- ℓ' ∉ dom h₀, h₁ = h₀[ℓ' ↦ (c, r)], r = Default(CE_F(c))  ⟹  new c() ⇓ ℓ', h₁
      e_new : {h₀ h₁ : Heap} {℘ : Option Value} {ℓ : Option Loc} {c : Name} {k : Class} {l : Loc}
          → h₀ l ≡ None → h₁ ≡ h₀ ⟨ l ⟼ object c (Default k.fields) ⟩ → ce c ≡ Some k
          → h₀ ∣ ℘ ∣ ℓ ⊢ new c ⇓ Handle l ∣ h₁
      -- Added.
      -- expr₁ ⇓ n₁, h₁, expr₂ ⇓ n₂, h₂  ⟹  expr₁ < expr₂ ⇓ (n₁ < n₂), h₂
      e_less : {h₀ h₁ h₂ : Heap} {℘ : Option Value} {ℓ : Option Loc} {e₁ e₂ : Expr} {n₁ n₂ : ℤ}
          → h₀ ∣ ℘ ∣ ℓ ⊢ e₁ ⇓ Int n₁ ∣ h₁ → h₁ ∣ ℘ ∣ ℓ ⊢ e₂ ⇓ Int n₂ ∣ h₂
          → h₀ ∣ ℘ ∣ ℓ ⊢ less e₁ e₂ ⇓ Boolean (int_lt n₁ n₂) ∣ h₂
      -- expr₁ ⇓ n₁, h₁, expr₂ ⇓ n₂, h₂  ⟹  expr₁ == expr₂ ⇓ (n₁ = n₂), h₂
      e_equal : {h₀ h₁ h₂ : Heap} {℘ : Option Value} {ℓ : Option Loc} {e₁ e₂ : Expr} {n₁ n₂ : ℤ}
          → h₀ ∣ ℘ ∣ ℓ ⊢ e₁ ⇓ Int n₁ ∣ h₁ → h₁ ∣ ℘ ∣ ℓ ⊢ e₂ ⇓ Int n₂ ∣ h₂
          → h₀ ∣ ℘ ∣ ℓ ⊢ equal e₁ e₂ ⇓ Boolean (equal_ints n₁ n₂) ∣ h₂
      -- expr ⇓ null, h₁  ⟹  expr == null ⇓ true, h₁
      e_null : {h₀ h₁ : Heap} {℘ : Option Value} {ℓ : Option Loc} {e : Expr}
          → h₀ ∣ ℘ ∣ ℓ ⊢ e ⇓ Null ∣ h₁
          → h₀ ∣ ℘ ∣ ℓ ⊢ is_null e ⇓ Boolean true ∣ h₁
      -- expr ⇓ ℓ', h₁  ⟹  expr == null ⇓ false, h₁
      e_object : {h₀ h₁ : Heap} {℘ : Option Value} {ℓ : Option Loc} {e : Expr} {l : Loc}
          → h₀ ∣ ℘ ∣ ℓ ⊢ e ⇓ Handle l ∣ h₁
          → h₀ ∣ ℘ ∣ ℓ ⊢ is_null e ⇓ Boolean false ∣ h₁
      -- expr ⇓ i, h₁, n is entry i of the readings and lies within the number rule's ends  ⟹  reading(expr) ⇓ n, h₁
      e_reading : {h₀ h₁ : Heap} {℘ : Option Value} {ℓ : Option Loc} {e : Expr} {i n : ℤ}
          → h₀ ∣ ℘ ∣ ℓ ⊢ e ⇓ Int i ∣ h₁
          → reading_at day i ≡ Some n → within R n ≡ true
          → h₀ ∣ ℘ ∣ ℓ ⊢ reading e ⇓ Int n ∣ h₁

    pub data ◌∣◌∣◌⊢◌⇓◌ : Heap → Option Value → Option Loc → Com → Heap → Type 0 where
      -- expr₁ ⇓ ℓ', h₁, expr₂ ⇓ v, h₂, h₂(ℓ') = (c, r), r' = r[f ↦ v], h₃ = h₂[ℓ' ↦ (c, r')]  ⟹  expr₁.f = expr₂ ⇓ h₃;
      -- r has the field f
      e_assign : {h₀ h₁ h₂ h₃ : Heap} {℘ : Option Value} {ℓ : Option Loc} {e₁ e₂ : Expr} {f c : Name} {l : Loc} {r : Record} {u v : Value}
          → h₀ ∣ ℘ ∣ ℓ ⊢ e₁ ⇓ Handle l ∣ h₁ → h₁ ∣ ℘ ∣ ℓ ⊢ e₂ ⇓ v ∣ h₂
          → h₂ l ≡ Some (object c r) → find r f ≡ Some u → h₃ ≡ h₂ ⟨ l ⟼ object c (with_field r f v) ⟩
          → h₀ ∣ ℘ ∣ ℓ ⊢ assign e₁ f e₂ ⇓ h₃
      -- com₁ ⇓ h₁, com₂ ⇓ h₂  ⟹  com₁ ; com₂ ⇓ h₂
      e_seq : {h₀ h₁ h₂ : Heap} {℘ : Option Value} {ℓ : Option Loc} {c₁ c₂ : Com}
          → h₀ ∣ ℘ ∣ ℓ ⊢ c₁ ⇓ h₁ → h₁ ∣ ℘ ∣ ℓ ⊢ c₂ ⇓ h₂
          → h₀ ∣ ℘ ∣ ℓ ⊢ seq c₁ c₂ ⇓ h₂
      -- Added.
      -- expr ⇓ true, h₁, com₁ ⇓ h₂  ⟹  if (expr) com₁ else com₂ ⇓ h₂
      e_then : {h₀ h₁ h₂ : Heap} {℘ : Option Value} {ℓ : Option Loc} {e : Expr} {c₁ c₂ : Com}
          → h₀ ∣ ℘ ∣ ℓ ⊢ e ⇓ Boolean true ∣ h₁ → h₁ ∣ ℘ ∣ ℓ ⊢ c₁ ⇓ h₂
          → h₀ ∣ ℘ ∣ ℓ ⊢ if_else e c₁ c₂ ⇓ h₂
      -- expr ⇓ false, h₁, com₂ ⇓ h₂  ⟹  if (expr) com₁ else com₂ ⇓ h₂
      e_else : {h₀ h₁ h₂ : Heap} {℘ : Option Value} {ℓ : Option Loc} {e : Expr} {c₁ c₂ : Com}
          → h₀ ∣ ℘ ∣ ℓ ⊢ e ⇓ Boolean false ∣ h₁ → h₁ ∣ ℘ ∣ ℓ ⊢ c₂ ⇓ h₂
          → h₀ ∣ ℘ ∣ ℓ ⊢ if_else e c₁ c₂ ⇓ h₂
      -- expr ⇓ false, h₁  ⟹  while (expr) com ⇓ h₁
      e_stop : {h₀ h₁ : Heap} {℘ : Option Value} {ℓ : Option Loc} {e : Expr} {c : Com}
          → h₀ ∣ ℘ ∣ ℓ ⊢ e ⇓ Boolean false ∣ h₁
          → h₀ ∣ ℘ ∣ ℓ ⊢ while e c ⇓ h₁
      -- expr ⇓ true, h₁, com ⇓ h₂, while (expr) com ⇓ h₃  ⟹  while (expr) com ⇓ h₃
      e_turn : {h₀ h₁ h₂ h₃ : Heap} {℘ : Option Value} {ℓ : Option Loc} {e : Expr} {c : Com}
          → h₀ ∣ ℘ ∣ ℓ ⊢ e ⇓ Boolean true ∣ h₁ → h₁ ∣ ℘ ∣ ℓ ⊢ c ⇓ h₂ → h₂ ∣ ℘ ∣ ℓ ⊢ while e c ⇓ h₃
          → h₀ ∣ ℘ ∣ ℓ ⊢ while e c ⇓ h₃
      -- skip ⇓ h
      e_skip : {h : Heap} {℘ : Option Value} {ℓ : Option Loc}
          → h ∣ ℘ ∣ ℓ ⊢ skip ⇓ h
