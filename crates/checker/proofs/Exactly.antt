-- The checker is exact.
use Rattle.std.proofs.Common.{ℕ, suc, refl, arith}
use Rattle.cool.specs.Book.{Book, Formed}
use Rattle.cool.specs.Nodes.{Where}
use Rattle.checker.specs.Checking.{Exact}
use Rattle.checker.proofs.Sound.{type_sound, com_sound}
use Rattle.checker.proofs.Complete.{type_complete, com_complete}
use Rattle.checker.proofs.Caused.{type_cause, com_cause}

pub exact : (B : Book) → Formed B → (Γ : Where) (k : ℕ) → Exact B Γ k
exact B formed Γ k = record {
  types = λ u. (type_sound B formed Γ (suc k) k u, λ d. type_complete B formed Γ d k (suc k) refl (omega arith));
  commands = (com_sound B formed Γ (suc k) k, λ d. com_complete B formed Γ d k (suc k) refl (omega arith));
  no_type = λ e here at. type_cause B formed Γ (suc k) k e here at (omega arith);
  no_command = λ e here at. com_cause B formed Γ (suc k) k e here at (omega arith);
}
