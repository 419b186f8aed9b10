-- Types of nodes: one at most, none for a command; what is typed stands for something.
use Rattle.std.proofs.Common.{◌≡◌, Option, refl}
use Rattle.book.specs.declared.node.Node.{Node}
use Rattle.book.specs.declared.node.Type.{«Type» as BType}
use Rattle.cool.specs.Syntax.{Expr, Com}
use Rattle.cool.specs.Book.{Book}
use Rattle.cool.specs.Says.{◌⊩◌▷◌, ◌⊩◌▷com◌, is_literal, is_minus, is_less, is_equal, is_is_null, is_this, is_parameter, is_field, is_call, is_new, is_reading, is_assign, is_seq, is_if, is_while, is_skip}
use Rattle.cool.specs.Nodes.{Where, ◌∣◌⊩◌∶◌, ◌∣◌⊩◌∶com, n_literal, n_minus, n_less, n_equal, n_is_null, n_this, n_parameter, n_field, n_call, n_new, n_reading, n_assign, n_seq, n_if, n_while, n_skip}

pub node_type_once : {B : Book} {Γ : Where} {n : Option Node} {t t' : BType} → B ∣ Γ ⊩ n ∶ t → B ∣ Γ ⊩ n ∶ t' → t ≡ t'
node_type_once n_literal n_literal = refl
node_type_once (n_minus a b) (n_minus a' b') = refl
node_type_once (n_less a b) (n_less a' b') = refl
node_type_once (n_equal a b) (n_equal a' b') = refl
node_type_once (n_is_null a) (n_is_null a') = refl
node_type_once (n_this p) (n_this q) = cc
node_type_once (n_parameter p) (n_parameter q) = cc
node_type_once (n_field a p f) (n_field a' p' f') = let i = node_type_once a a' in cc
node_type_once (n_call a b m) (n_call a' b' m') = let i = node_type_once a a' in cc
node_type_once (n_new p) (n_new q) = refl
node_type_once (n_reading a) (n_reading a') = refl

pub node_apart : {A : Type 0} {B : Book} {Γ Δ : Where} {n : Option Node} {t : BType} → B ∣ Γ ⊩ n ∶ t → B ∣ Δ ⊩ n ∶com → A
node_apart n_literal x = elim x [ ]
node_apart (n_minus a b) x = elim x [ ]
node_apart (n_less a b) x = elim x [ ]
node_apart (n_equal a b) x = elim x [ ]
node_apart (n_is_null a) x = elim x [ ]
node_apart (n_this p) x = elim x [ ]
node_apart (n_parameter p) x = elim x [ ]
node_apart (n_field a p f) x = elim x [ ]
node_apart (n_call a b m) x = elim x [ ]
node_apart (n_new p) x = elim x [ ]
node_apart (n_reading a) x = elim x [ ]

pub expr_of : {B : Book} {Γ : Where} {n : Option Node} {t : BType} → B ∣ Γ ⊩ n ∶ t → (e : Expr) × (B ⊩ n ▷ e)
expr_of n_literal = (_, is_literal)
expr_of (n_minus a b) = (_, is_minus (expr_of a).1 (expr_of b).1)
expr_of (n_less a b) = (_, is_less (expr_of a).1 (expr_of b).1)
expr_of (n_equal a b) = (_, is_equal (expr_of a).1 (expr_of b).1)
expr_of (n_is_null a) = (_, is_is_null (expr_of a).1)
expr_of (n_this p) = (_, is_this)
expr_of (n_parameter p) = (_, is_parameter)
expr_of (n_field a p f) = (_, is_field (expr_of a).1)
expr_of (n_call a b m) = (_, is_call (expr_of a).1 (expr_of b).1)
expr_of (n_new p) = (_, is_new p)
expr_of (n_reading a) = (_, is_reading (expr_of a).1)

pub com_of : {B : Book} {Γ : Where} {n : Option Node} → B ∣ Γ ⊩ n ∶com → (c : Com) × (B ⊩ n ▷com c)
com_of (n_assign a b p f) = (_, is_assign (expr_of a).1 (expr_of b).1)
com_of (n_seq a b) = (_, is_seq (com_of a).1 (com_of b).1)
com_of (n_if a b d) = (_, is_if (expr_of a).1 (com_of b).1 (com_of d).1)
com_of (n_while a b) = (_, is_while (expr_of a).1 (com_of b).1)
com_of n_skip = (_, is_skip)
