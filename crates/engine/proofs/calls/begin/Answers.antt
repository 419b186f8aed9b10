use Rattle.std.proofs.Common.{◌≡◌, ltb, true, false, ℕ, sym, ◌∙◌, arith}
use Rattle.std.proofs.lemmas.Bool.Decides.{nat_tests}
use Rattle.engine.specs.Calls.{wrong_rows, has_records, begins}
use Rattle.engine.proofs.calls.begin.Goals as goal

none_or_some : (n : ℕ) → (ltb 0 n ≡ false → n ≡ 0) × (ltb 0 n ≡ true → n ≡ 0 → ⊥)
none_or_some n = (λ e. grind (arith, nat_tests), λ e z. grind (arith, nat_tests))

pub returns-then-not-are_fresh : goal.returns-then-not-are_fresh
returns-then-not-are_fresh g c = wrong_rows (sym c.are_fresh.ensures ∙ c.if-not-are_fresh.true)

pub returns-then-has_records : goal.returns-then-has_records
returns-then-has_records g c = has_records (sym c.are_fresh.ensures ∙ c.if-not-are_fresh.false) ((none_or_some _).1 (sym c.has_records.ensures ∙ c.if-has_records.true))

pub returns : goal.returns
returns g c =
    rw (c.root.ensures, c.places.ensures) (begins (sym c.are_fresh.ensures ∙ c.if-not-are_fresh.false) ((none_or_some _).0 (sym c.has_records.ensures ∙ c.if-has_records.false)))
