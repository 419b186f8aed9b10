-- Fields and methods, looked up in the class that a record has.
use Rattle.std.proofs.Common.{◌≡◌, ℕ, cond, is_some, Some, None, Option, sym, refl, ap, arith}
use Rattle.std.specs.Option.{option_map}
use Rattle.std.specs.List.{slice_get}
use Rattle.store.specs.declared.Value.{Value}
use Rattle.store.specs.Meaning.{Rec, Store, class_at, value_at, value_in}
use Rattle.cool.specs.Syntax.{Name}
use Rattle.cool.specs.Book.{Meth, Book, fields_of, method_of, place}
use Rattle.machine.specs.Machine.{Outcome, misfit, or_misfit, the_cell}
use Rattle.engine.specs.Moves.{place_in, method_in}

pub none_not : {X P : Type 0} {x : X} → None ≡ Some x → P
none_not e = let z : ◌≡◌ {A = ℕ} 0 1 = cc in absurd (omega arith)

no_record : (x : Option Rec) → option_map (λ o. o.class) x ≡ None → x ≡ None
no_record None e = refl
no_record (Some o) e = none_not (sym e)

place_by : (B : Book) (x : Option Rec) (c : ℕ) (f : Name) → option_map (λ o. o.class) x ≡ Some c → place_in B x f ≡ place (fields_of (B.class c)) f
place_by B None c f e = none_not e
place_by B (Some o) c f e = let z : o.class ≡ c = cc in ap (λ d. place (fields_of (B.class d)) f) z

method_by : (B : Book) (x : Option Rec) (c : ℕ) (m : Name) → option_map (λ o. o.class) x ≡ Some c → method_in B x m ≡ method_of (B.class c) m
method_by B None c m e = none_not e
method_by B (Some o) c m e = let z : o.class ≡ c = cc in ap (λ d. method_of (B.class d) m) z

-- by the class that the store tells
pub no_place : (B : Book) (S : Store) (h : ℕ) (f : Name) → class_at S h ≡ None → place_in B (S.look h) f ≡ None
unfolding class_at
no_place B S h f e = ap (λ x. place_in B x f) (no_record (S.look h) e)

pub a_place : (B : Book) (S : Store) (h c : ℕ) (f : Name) → class_at S h ≡ Some c → place_in B (S.look h) f ≡ place (fields_of (B.class c)) f
unfolding class_at
a_place B S h c f e = place_by B (S.look h) c f e

pub no_method : (B : Book) (S : Store) (h : ℕ) (m : Name) → class_at S h ≡ None → method_in B (S.look h) m ≡ None
unfolding class_at
no_method B S h m e = ap (λ x. method_in B x m) (no_record (S.look h) e)

pub a_method : (B : Book) (S : Store) (h c : ℕ) (m : Name) → class_at S h ≡ Some c → method_in B (S.look h) m ≡ method_of (B.class c) m
unfolding class_at
a_method B S h c m e = method_by B (S.look h) c m e

-- the machine's way to a method and to a cell
pub by_method : (B : Book) (x : Option Rec) (m : Name) (f : Meth → Outcome) → or_misfit x (λ o. or_misfit (method_of (B.class o.class) m) f) ≡ or_misfit (method_in B x m) f
unfolding or_misfit
by_method B None m f = refl
by_method B (Some o) m f = refl

module _ (B : Book) (f : Name) (g : ℕ → Value → Outcome) where
  abbrev the_way : Option Rec → Outcome
  the_way x = or_misfit x (λ o. the_cell (fields_of (B.class o.class)) o.values f g)

  pub no_cell : (x : Option Rec) → place_in B x f ≡ None → the_way x ≡ misfit
  unfolding or_misfit the_cell
  no_cell None e = refl
  no_cell (Some o) e = ap (λ p. or_misfit p (λ i. or_misfit (slice_get o.values i) (λ v. g i v))) e

  the_place : (x : Option Rec) (i : ℕ) → place_in B x f ≡ Some i → the_way x ≡ or_misfit (value_in x i) (λ v. g i v)
  unfolding or_misfit the_cell
  the_place None i e = none_not e
  the_place (Some o) i e = ap (λ p. or_misfit p (λ i. or_misfit (slice_get o.values i) (λ v. g i v))) e

  pub a_cell : (S : Store) (h i : ℕ) → place_in B (S.look h) f ≡ Some i → the_way (S.look h) ≡ or_misfit (value_at S h i) (λ v. g i v)
  unfolding value_at
  a_cell S h i e = the_place (S.look h) i e

-- a cell that is there, whatever it holds
pub if_there : (x : Option Value) (o : Outcome) → or_misfit x (λ v. o) ≡ cond (is_some x) o misfit
unfolding or_misfit
if_there None o = refl
if_there (Some v) o = refl
