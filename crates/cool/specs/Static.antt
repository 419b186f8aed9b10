-- COOL: the typing rules of expressions and commands.
use Rattle.std.specs.Prelude.{◌≡◌, ℤ, Some, Option}
use Rattle.cool.specs.Syntax.{Name, Ty, int, boolean, class, Expr, literal, minus, this, parameter, field, call, new, less, equal, is_null, reading, Com, assign, seq, if_else, while, skip, Method, Class, CE, PE, find}

-- CE, PE, θ ⊢ expr : u and CE, PE, θ ⊢ com : com. θ is the class of `this`, none at the top.
infix 20 ◌∣◌∣◌⊢◌∶◌
infix 20 ◌∣◌∣◌⊢◌∶com
pub data ◌∣◌∣◌⊢◌∶◌ (ce : CE) (pe : PE) (θ : Option Name) : Expr → Ty → Type 0 where
  -- CE, PE, θ ⊢ n : int
  t_literal : {n : ℤ}
      → ce ∣ pe ∣ θ ⊢ literal n ∶ int
  -- expr₁ : int, expr₂ : int  ⟹  expr₁ - expr₂ : int
  t_minus : {e₁ e₂ : Expr}
      → ce ∣ pe ∣ θ ⊢ e₁ ∶ int → ce ∣ pe ∣ θ ⊢ e₂ ∶ int
      → ce ∣ pe ∣ θ ⊢ minus e₁ e₂ ∶ int
  -- θ ∈ I_class  ⟹  this : θ
  t_this : {c : Name}
      → θ ≡ Some c
      → ce ∣ pe ∣ θ ⊢ this ∶ class c
  -- PE = (p, u)  ⟹  p : u
  t_parameter : {u : Ty}
      → pe ≡ Some u
      → ce ∣ pe ∣ θ ⊢ parameter ∶ u
  -- expr : u_target, u_target = θ, CE_F(u_target)(f) = u_field  ⟹  expr.f : u_field
  t_field : {e : Expr} {f c : Name} {k : Class} {u : Ty}
      → ce ∣ pe ∣ θ ⊢ e ∶ class c
      → θ ≡ Some c → ce c ≡ Some k → find k.fields f ≡ Some u
      → ce ∣ pe ∣ θ ⊢ field e f ∶ u
  -- expr₁ : u_target, expr₂ : u_param, CE_M(u_target)(m) = (u_param, u_result, -, -, -)  ⟹  expr₁.m(expr₂) : u_result
  t_call : {e₁ e₂ : Expr} {m c : Name} {k : Class} {q : Method}
      → ce ∣ pe ∣ θ ⊢ e₁ ∶ class c → ce ∣ pe ∣ θ ⊢ e₂ ∶ q.param
      → ce c ≡ Some k → k.methods m ≡ Some q
      → ce ∣ pe ∣ θ ⊢ call e₁ m e₂ ∶ q.result
  -- c ∈ dom CE  ⟹  new c() : c
  t_new : {c : Name} {k : Class}
      → ce c ≡ Some k
      → ce ∣ pe ∣ θ ⊢ new c ∶ class c
  -- Added.
  -- expr₁ : int, expr₂ : int  ⟹  expr₁ < expr₂ : boolean
  t_less : {e₁ e₂ : Expr}
      → ce ∣ pe ∣ θ ⊢ e₁ ∶ int → ce ∣ pe ∣ θ ⊢ e₂ ∶ int
      → ce ∣ pe ∣ θ ⊢ less e₁ e₂ ∶ boolean
  -- expr₁ : int, expr₂ : int  ⟹  expr₁ == expr₂ : boolean
  t_equal : {e₁ e₂ : Expr}
      → ce ∣ pe ∣ θ ⊢ e₁ ∶ int → ce ∣ pe ∣ θ ⊢ e₂ ∶ int
      → ce ∣ pe ∣ θ ⊢ equal e₁ e₂ ∶ boolean
  -- expr : c  ⟹  expr == null : boolean
  t_is_null : {e : Expr} {c : Name}
      → ce ∣ pe ∣ θ ⊢ e ∶ class c
      → ce ∣ pe ∣ θ ⊢ is_null e ∶ boolean
  -- expr : int  ⟹  reading(expr) : int
  t_reading : {e : Expr}
      → ce ∣ pe ∣ θ ⊢ e ∶ int
      → ce ∣ pe ∣ θ ⊢ reading e ∶ int

pub data ◌∣◌∣◌⊢◌∶com (ce : CE) (pe : PE) (θ : Option Name) : Com → Type 0 where
  -- expr₁ : u_target, expr₂ : u_field, u_target = θ, CE_F(u_target)(f) = u_field  ⟹  expr₁.f = expr₂ : com
  t_assign : {e₁ e₂ : Expr} {f c : Name} {k : Class} {u : Ty}
      → ce ∣ pe ∣ θ ⊢ e₁ ∶ class c → ce ∣ pe ∣ θ ⊢ e₂ ∶ u
      → θ ≡ Some c → ce c ≡ Some k → find k.fields f ≡ Some u
      → ce ∣ pe ∣ θ ⊢ assign e₁ f e₂ ∶com
  -- com₁ : com, com₂ : com  ⟹  com₁ ; com₂ : com
  t_seq : {c₁ c₂ : Com}
      → ce ∣ pe ∣ θ ⊢ c₁ ∶com → ce ∣ pe ∣ θ ⊢ c₂ ∶com
      → ce ∣ pe ∣ θ ⊢ seq c₁ c₂ ∶com
  -- Added.
  -- expr : boolean, com₁ : com, com₂ : com  ⟹  if (expr) com₁ else com₂ : com
  t_if : {e : Expr} {c₁ c₂ : Com}
      → ce ∣ pe ∣ θ ⊢ e ∶ boolean → ce ∣ pe ∣ θ ⊢ c₁ ∶com → ce ∣ pe ∣ θ ⊢ c₂ ∶com
      → ce ∣ pe ∣ θ ⊢ if_else e c₁ c₂ ∶com
  -- expr : boolean, com : com  ⟹  while (expr) com : com
  t_while : {e : Expr} {c : Com}
      → ce ∣ pe ∣ θ ⊢ e ∶ boolean → ce ∣ pe ∣ θ ⊢ c ∶com
      → ce ∣ pe ∣ θ ⊢ while e c ∶com
  -- skip : com
  t_skip : ce ∣ pe ∣ θ ⊢ skip ∶com
