-- A program gives rise to at most one class environment and type.
use Rattle.std.proofs.Common.{◌≡◌, None, Option, sym, refl, ap, ◌∙◌}
use Rattle.cool.specs.Syntax.{Name, Ty, Expr, Decls, FieldDecl, MethodDecl, ClassDecl, Program, FE, ME, CE, PE, ◌⟨◌⟼◌⟩}
use Rattle.cool.specs.Static.{◌∣◌∣◌⊢◌∶◌, t_literal, t_minus, t_this, t_parameter, t_field, t_call, t_new, t_less, t_equal, t_is_null, t_reading}
use Rattle.cool.specs.Program.{◌⊢fields◌⇒◌, no_fields, a_field, ◌∣◌⊢methods◌⇒◌, no_methods, a_method, ◌⊢classes◌⇒◌, no_classes, a_class, ◌⇝◌∣◌, typed, SameType}

pub fields_once : {ce ce' : CE} {fds : Decls FieldDecl} {fe fe' : FE} → ce ⊢fields fds ⇒ fe → ce' ⊢fields fds ⇒ fe' → fe ≡ fe'
fields_once no_fields no_fields = refl
fields_once (a_field x n q) (a_field y n' q') = let i = fields_once x y in cc

pub methods_once : {ce ce' : CE} {θ θ' : Name} {mds : Decls MethodDecl} {me me' : ME} → ce ∣ θ ⊢methods mds ⇒ me → ce' ∣ θ' ⊢methods mds ⇒ me' → me ≡ me'
methods_once (no_methods q) (no_methods q') = q ∙ sym q'
methods_once (a_method {u = u} {v} {m} {c} {e} x tc te n q) (a_method y tc' te' n' q') =
    let i = methods_once x y in q ∙ ap (λ (g : ME). g ⟨ m ⟼ record { param = v; result = u; command = c; returned = e } ⟩) i ∙ sym q'

pub classes_once : {ce ce' ce₁ ce₂ : CE} {cds : Decls ClassDecl} → ce ⊢classes cds ⇒ ce₁ → ce' ⊢classes cds ⇒ ce₂ → ce₁ ≡ ce₂
classes_once (no_classes q) (no_classes q') = q ∙ sym q'
classes_once (a_class {fe = fe} {me} {c} x f m n q) (a_class {ce' = g} {fe = fe'} {me = me'} x' f' m' n' q') =
    let i = classes_once x x' in
    let j = fields_once f f' in
    let k = methods_once m m' in
    q ∙ ap (λ (g : CE). g ⟨ c ⟼ record { fields = fe; methods = me } ⟩) i ∙ ap (λ (fs : FE). g ⟨ c ⟼ record { fields = fs; methods = me } ⟩) j
    ∙ ap (λ (ms : ME). g ⟨ c ⟼ record { fields = fe'; methods = ms } ⟩) k ∙ sym q'

pub type_once : {ce : CE} {pe : PE} {θ : Option Name} {e : Expr} {u u' : Ty} → ce ∣ pe ∣ θ ⊢ e ∶ u → ce ∣ pe ∣ θ ⊢ e ∶ u' → u ≡ u'
type_once t_literal t_literal = refl
type_once (t_minus a b) (t_minus a' b') = refl
type_once (t_this p) (t_this q) = cc
type_once (t_parameter p) (t_parameter q) = cc
type_once (t_field a p q r) (t_field a' p' q' r') = let i = type_once a a' in cc
type_once (t_call a b p q) (t_call a' b' p' q') = let i = type_once a a' in cc
type_once (t_new p) (t_new q) = refl
type_once (t_less a b) (t_less a' b') = refl
type_once (t_equal a b) (t_equal a' b') = refl
type_once (t_is_null a) (t_is_null a') = refl
type_once (t_reading a) (t_reading a') = refl

pub at_most_one : (p : Program) → SameType p p
at_most_one p ce ce' u u' x y = by x y
  where
    at : {ce ce' : CE} {e : Expr} {u : Ty} → ce ≡ ce' → ce ∣ None ∣ None ⊢ e ∶ u → ce' ∣ None ∣ None ⊢ e ∶ u
    at i t = rw i at t

    by : {p : Program} {ce ce' : CE} {u u' : Ty} → p ⇝ ce ∣ u → p ⇝ ce' ∣ u' → (ce ≡ ce') × (u ≡ u')
    by (typed x t) (typed y s) = let i = classes_once x y in (i, type_once (at i t) s)
