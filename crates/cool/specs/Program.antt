-- COOL: how declarations give rise to environments, and whole programs. The environment that a rule gives rise to is named,
-- and an equation says what it is.
use Rattle.std.specs.Prelude.{◌≡◌, List, [], ◌∷◌, ◌++◌, ℤ, Some, None}
use Rattle.numbers.specs.Rule.{Rule}
use Rattle.store.specs.declared.Value.{Value}
use Rattle.cool.specs.Syntax.{Name, Ty, Expr, Com, Decls, ε, ◌▸◌, FieldDecl, private, MethodDecl, public, ClassDecl, class_decl, Program, program, FE, ME, CE, find, ◌⟨◌⟼◌⟩, ∅}
use Rattle.cool.specs.Static.{◌∣◌∣◌⊢◌∶◌, ◌∣◌∣◌⊢◌∶com}
use Rattle.cool.specs.Dynamic.{Heap, ◌∣◌∣◌⊢◌⇓◌∣◌}

infix 20 ◌⊢fields◌⇒◌
infix 20 ◌∣◌⊢methods◌⇒◌
infix 20 ◌⊢classes◌⇒◌
infix 20 ◌⇝◌∣◌
-- CE ⊢ fds ⇒ FE
pub data ◌⊢fields◌⇒◌ (ce : CE) : Decls FieldDecl → FE → Type 0 where
  -- CE ⊢ ε ⇒ []
  no_fields : ce ⊢fields ε ⇒ []
  -- CE ⊢ fds ⇒ FE, f ∉ dom FE  ⟹  CE ⊢ fds private u f ; ⇒ FE; (f, u)
  a_field : {fds : Decls FieldDecl} {fe fe' : FE} {u : Ty} {f : Name}
      → ce ⊢fields fds ⇒ fe
      → find fe f ≡ None → fe' ≡ fe ++ ((f, u) ∷ [])
      → ce ⊢fields fds ▸ private u f ⇒ fe'

-- CE, θ ⊢ mds ⇒ ME
pub data ◌∣◌⊢methods◌⇒◌ (ce : CE) (θ : Name) : Decls MethodDecl → ME → Type 0 where
  -- CE, θ ⊢ ε ⇒ ∅
  no_methods : {me : ME}
      → me ≡ ∅
      → ce ∣ θ ⊢methods ε ⇒ me
  -- CE, θ ⊢ mds ⇒ ME, and with PE = (p, u_param): CE, PE, θ ⊢ com : com, CE, PE, θ ⊢ expr : u_result; m ∉ dom ME
  -- ⟹  CE, θ ⊢ mds public u_result m (u_param p) {com ; return expr} ⇒ ME; [m ↦ (u_param, u_result, p, com, expr)]
  a_method : {mds : Decls MethodDecl} {me me' : ME} {u v : Ty} {m : Name} {c : Com} {e : Expr}
      → ce ∣ θ ⊢methods mds ⇒ me → ce ∣ Some v ∣ Some θ ⊢ c ∶com → ce ∣ Some v ∣ Some θ ⊢ e ∶ u
      → me m ≡ None → me' ≡ me ⟨ m ⟼ record { param = v; result = u; command = c; returned = e } ⟩
      → ce ∣ θ ⊢methods mds ▸ public u m v c e ⇒ me'

-- CE ⊢ cds ⇒ CE'
pub data ◌⊢classes◌⇒◌ (ce : CE) : Decls ClassDecl → CE → Type 0 where
  -- CE ⊢ ε ⇒ ∅
  no_classes : {ce' : CE}
      → ce' ≡ ∅
      → ce ⊢classes ε ⇒ ce'
  -- CE ⊢ cds ⇒ CE', CE ⊢ fds ⇒ FE, CE, c ⊢ mds ⇒ ME, c ∉ dom CE'  ⟹  CE ⊢ cds class c {fds mds} ⇒ CE'[c ↦ (FE, ME)]
  a_class : {cds : Decls ClassDecl} {ce' ce'' : CE} {fds : Decls FieldDecl} {mds : Decls MethodDecl} {fe : FE} {me : ME} {c : Name}
      → ce ⊢classes cds ⇒ ce' → ce ⊢fields fds ⇒ fe → ce ∣ c ⊢methods mds ⇒ me
      → ce' c ≡ None → ce'' ≡ ce' ⟨ c ⟼ record { fields = fe; methods = me } ⟩
      → ce ⊢classes cds ▸ class_decl c fds mds ⇒ ce''

-- program ⇝ CE, u
pub data ◌⇝◌∣◌ : Program → CE → Ty → Type 0 where
  -- CE ⊢ cds ⇒ CE, CE, none, none ⊢ expr : u  ⟹  cds expr ⇝ CE, u
  typed : {cds : Decls ClassDecl} {e : Expr} {ce : CE} {u : Ty}
      → ce ⊢classes cds ⇒ ce → ce ∣ None ∣ None ⊢ e ∶ u
      → program cds e ⇝ ce ∣ u

-- program ⇓ v, of a number rule and the day's readings
module _ (R : Rule) (day : List ℤ) where
  infix 20 ◌⇓◌
  pub data ◌⇓◌ : Program → Value → Type 0 where
    -- cds expr ⇝ (CE, u), ∅, none, none ⊢_CE expr ⇓ v  ⟹  cds expr ⇓ v
    evaluated : {cds : Decls ClassDecl} {e : Expr} {ce : CE} {u : Ty} {v : Value} {h : Heap}
        → program cds e ⇝ ce ∣ u → ◌∣◌∣◌⊢◌⇓◌∣◌ ce R day ∅ None None e v h
        → program cds e ⇓ v

-- Two programs give rise to one pair (CE, u) at most. For any program p there is at most one: SameType p p.
abbrev pub SameType : Program → Program → Type 0
SameType p p' = (ce ce' : CE) (u u' : Ty) → p ⇝ ce ∣ u → p' ⇝ ce' ∣ u' → (ce ≡ ce') × (u ≡ u')
