-- The bound on the depth does not matter where it suffices.
use Rattle.std.proofs.Common.{◌≡◌, ℕ, zero, suc, ◌<◌, Bool, true, false, cond, ltb, Some, None, Option, Result, refl, ◌∙◌, arith}
use Rattle.std.proofs.lemmas.Bool.{and_parts, ltb-true}
use Rattle.book.specs.declared.node.Node.{Node}
use Rattle.book.specs.declared.node.Node.TheVariants.{Literal, Minus, Less, Equal, IsNull, This, Parameter, FieldRead, Call, New, Reading, FieldWrite, Sequence, If, While, Skip}
use Rattle.book.specs.declared.node.«Type».{«Type» as BType}
use Rattle.cool.specs.Book.{Book}
use Rattle.cool.specs.Nodes.{Where}
use Rattle.checker.specs.declared.fault.TypeFault.{TypeFault}
use Rattle.checker.specs.Checking.{before, at_node, type_by, com_by, type_in, com_in}
use Rattle.checker.proofs.Complete.{at_node_by}

-- parts that lie before node k
one : (a k : ℕ) → ltb a k ≡ true → a < k
one a k h = ltb-true a k h

module _ (B : Book) (Γ : Where) (k : ℕ) (t u : ℕ → Result BType TypeFault) (same : (a : ℕ) → a < k → t a ≡ u a) where
  types_same : (n : Node) → before k n ≡ true → type_by B Γ k t n ≡ type_by B Γ k u n
  types_same (Literal v) h = refl
  types_same (Minus a b) h = let p = and_parts _ _ h in rw (same a (one a k p.0), same b (one b k p.1))
  types_same (Less a b) h = let p = and_parts _ _ h in rw (same a (one a k p.0), same b (one b k p.1))
  types_same (Equal a b) h = let p = and_parts _ _ h in rw (same a (one a k p.0), same b (one b k p.1))
  types_same (IsNull a) h = rw (same a (one a k h))
  types_same This h = refl
  types_same Parameter h = refl
  types_same (FieldRead a f) h = rw (same a (one a k h))
  types_same (Call a b m) h = let p = and_parts _ _ h in let e = same a (one a k p.0) in let g = same b (one b k p.1) in simp (e, g)
  types_same (New c) h = refl
  types_same (Reading a) h = rw (same a (one a k h))
  types_same (FieldWrite a b f) h = refl
  types_same (Sequence a b) h = refl
  types_same (If a b d) h = refl
  types_same (While a b) h = refl
  types_same Skip h = refl

  module _ (c d : ℕ → Result (Unit {0}) TypeFault) (coms : (a : ℕ) → a < k → c a ≡ d a) where
    coms_same : (n : Node) → before k n ≡ true → com_by B Γ k t c n ≡ com_by B Γ k u d n
    coms_same (FieldWrite a b f) h = let p = and_parts _ _ h in let e = same a (one a k p.0) in let g = same b (one b k p.1) in simp (e, g)
    coms_same (Sequence a b) h = let p = and_parts _ _ h in rw (coms a (one a k p.0), coms b (one b k p.1))
    coms_same (If a b e) h = let p = and_parts _ _ h in let q = and_parts _ _ p.1 in rw (same a (one a k p.0), coms b (one b k q.0), coms e (one e k q.1))
    coms_same (While a b) h = let p = and_parts _ _ h in rw (same a (one a k p.0), coms b (one b k p.1))
    coms_same Skip h = refl
    coms_same (Literal v) h = refl
    coms_same (Minus a b) h = refl
    coms_same (Less a b) h = refl
    coms_same (Equal a b) h = refl
    coms_same (IsNull a) h = refl
    coms_same This h = refl
    coms_same Parameter h = refl
    coms_same (FieldRead a f) h = refl
    coms_same (Call a b m) h = refl
    coms_same (New e) h = refl
    coms_same (Reading a) h = refl

cond_same : {A : Type 0} (b : Bool) (x y z : A) → (b ≡ true → x ≡ y) → cond b x z ≡ cond b y z
cond_same true x y z h = h refl
cond_same false x y z h = refl

at_same : {A : Type 0} (k : ℕ) (o : Option Node) (f g : Node → Result A TypeFault) → ((n : Node) → before k n ≡ true → f n ≡ g n) → at_node k o f ≡ at_node k o g
at_same k None f g h = refl
at_same k (Some n) f g h = cond_same (before k n) (f n) (g n) _ (h n)

module _ (B : Book) (Γ : Where) where
  same_type : (f g k : ℕ) → k < f → k < g → type_in f B Γ k ≡ type_in g B Γ k
  same_type zero g k h l = absurd (omega arith)
  same_type (suc f) zero k h l = absurd (omega arith)
  same_type (suc f) (suc g) k h l =
      at_same k (B.node k) _ _ (types_same B Γ k (type_in f B Γ) (type_in g B Γ) (λ a p. same_type f g a (omega arith) (omega arith)))

  same_com : (f g k : ℕ) → k < f → k < g → com_in f B Γ k ≡ com_in g B Γ k
  same_com zero g k h l = absurd (omega arith)
  same_com (suc f) zero k h l = absurd (omega arith)
  same_com (suc f) (suc g) k h l =
      at_same k (B.node k) _ _ (coms_same B Γ k (type_in f B Γ) (type_in g B Γ) (λ a p. same_type f g a (omega arith) (omega arith))
      (com_in f B Γ) (com_in g B Γ) (λ a p. same_com f g a (omega arith) (omega arith)))

  -- a node's answer from its parts', each with just the depth that it needs
  pub type_step : (k : ℕ) (n : Node) → B.node k ≡ Some n → before k n ≡ true → type_in (suc k) B Γ k ≡ type_by B Γ k (λ a. type_in (suc a) B Γ a) n
  type_step k n e h =
      at_node_by k (B.node k) _ n e h
      ∙ types_same B Γ k (type_in k B Γ) (λ a. type_in (suc a) B Γ a) (λ a p. same_type k (suc a) a p (omega arith)) n h

  pub com_step : (k : ℕ) (n : Node) → B.node k ≡ Some n → before k n ≡ true
      → com_in (suc k) B Γ k ≡ com_by B Γ k (λ a. type_in (suc a) B Γ a) (λ a. com_in (suc a) B Γ a) n
  com_step k n e h =
      at_node_by k (B.node k) _ n e h
      ∙ coms_same B Γ k (type_in k B Γ) (λ a. type_in (suc a) B Γ a) (λ a p. same_type k (suc a) a p (omega arith))
      (com_in k B Γ) (λ a. com_in (suc a) B Γ a) (λ a p. same_com k (suc a) a p (omega arith)) n h
