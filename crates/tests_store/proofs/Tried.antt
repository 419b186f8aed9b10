-- In an empty store with room for two records the trial succeeds.
use Rattle.std.proofs.Common.{◌≡◌, ℕ, true, false, Some, None, Option, sym, ap, ◌∙◌, arith}
use Rattle.store.specs.declared.Value.{Value}
use Rattle.store.specs.Meaning.{Means, store, empty}
use Rattle.store.specs.Trying.{Tries, room_for_two}

pub tried : (m n : Means) (c : ℕ) (old new : Value) (r : Option (Value × Value)) → m ≡ empty 2 2 → Tries m c old new r n → r ≡ Some (new, old)
unfolding store
tried m n c old new None e t =
    let f : true ≡ false = sym (ap (λ k. room_for_two (store k)) e) ∙ t.0 in
    let z : ◌≡◌ {A = ℕ} 0 1 = cc in
    absurd (omega arith)
tried m n c old new (Some (first, second)) e t = cc (t.1, t.2)
