-- Pieces written one after another.
use Rattle.std.proofs.Common.{◌≡◌, ℕ, zero, suc, ◌+◌, ◌-◌, ◌^◌, ◌<◌, ◌≤◌, List, [], ◌∷◌, ◌++◌, length, take, drop, sym, refl, ap, ◌∙◌, inl, inr, append_assoc, add-zero, zero-add, add-one, arith}
use Rattle.std.proofs.lemmas.List.{append-nil, length-append, length-take-le, take_at, drop_at, drop-drop, take-append-drop}
use Rattle.std.proofs.lemmas.Bool.{cases_lt}
use Rattle.slips.specs.declared.writer.Writer.{Writer}
use Rattle.slips.specs.Text.{joined, each}
use Rattle.slips.specs.Writing.{told, over, Puts}

over_nothing : (bs : List ℕ) (a : ℕ) → over bs a [] ≡ bs
over_nothing bs a = rw add-zero (take-append-drop a bs)

over_over : (bs : List ℕ) (a : ℕ) (s t : List ℕ) → a + (length s + length t) ≤ length bs → over (over bs a s) (a + length s) t ≡ over bs a (s ++ t)
over_over bs a s t h =
    let front : length (take a bs ++ s) ≡ a + length s = length-append (take a bs) s ∙ ap (λ n. n + length s) (length-take-le a bs (omega arith)) in
    let back = drop (a + length s) bs in
    let whole : over bs a s ≡ (take a bs ++ s) ++ back = sym (append_assoc (take a bs) s back) in
    let taken : take (a + length s) (over bs a s) ≡ take a bs ++ s = ap (take (a + length s)) whole ∙ take_at (take a bs ++ s) back (a + length s) front in
    let left : drop (a + length s) (over bs a s) ≡ back = ap (drop (a + length s)) whole ∙ drop_at (take a bs ++ s) back (a + length s) front in
    let dropped : drop ((a + length s) + length t) (over bs a s) ≡ drop ((a + length s) + length t) bs =
    sym (drop-drop (length t) (a + length s) (over bs a s)) ∙ (ap (drop (length t)) left ∙ drop-drop (length t) (a + length s) bs) in
    let long : (a + length s) + length t ≡ a + length (s ++ t) = omega (arith, length-append s t) in
    ap (λ x. x ++ (t ++ drop ((a + length s) + length t) (over bs a s))) taken
    ∙ ap (λ x. (take a bs ++ s) ++ (t ++ x)) (dropped ∙ ap (λ n. drop n bs) long)
    ∙ append_assoc (take a bs) s (t ++ drop (a + length (s ++ t)) bs)
    ∙ ap (λ x. take a bs ++ x) (sym (append_assoc s t (drop (a + length (s ++ t)) bs)))

-- one text after another
pub nothing : {w : Writer} → Puts w w []
nothing {w} = record { lent = refl; size = refl; count = ap told (sym (add-zero w.at)); written = λ l h. sym (over_nothing w.out.now w.at) }

pub then_puts : {w₀ w₁ w₂ : Writer} {s t : List ℕ} → Puts w₀ w₁ s → Puts w₁ w₂ t → Puts w₀ w₂ (s ++ t)
then_puts {w₀} {w₁} {w₂} {s} {t} p q =
    let long = length-append s t in
    record {
      lent = q.lent ∙ p.lent;
      size = q.size ∙ p.size;
      count = omega (arith, long, p.count, q.count);
      written = λ l h.
          let start : w₁.at ≡ w₀.at + length s = omega (arith, long, p.count) in
          q.written (omega (arith, long, p.size)) (omega (arith, long))
          ∙ (ap (λ a. over w₁.out.now a t) start ∙ (ap (λ bs. over bs (w₀.at + length s) t) (p.written (omega (arith, long)) (omega (arith, long))) ∙ over_over w₀.out.now w₀.at s t (omega (arith, long))));
    }

-- pieces added one after another
pub record Pieces (old new : Writer) (ts : List (List ℕ)) : Type 0 where
  pub are : Puts old new (joined ts)

pub no_more : {w : Writer} → Pieces w w []
unfolding joined
no_more = record { are = nothing }

infixr 30 ◌▸◌
pub ◌▸◌ : {w₀ w₁ w : Writer} {t : List ℕ} {ts : List (List ℕ)} → Puts w₀ w₁ t → Pieces w₁ w ts → Pieces w₀ w (t ∷ ts)
unfolding joined
p ▸ q = record { are = then_puts p q.are }

-- no piece, and a piece more
pub each_none : (f : ℕ → List ℕ) {w : Writer} → Puts w w (each f 0)
unfolding each
each_none f = nothing

pub each_more : (f : ℕ → List ℕ) (n : ℕ) {w₀ w₁ w : Writer} → Puts w₀ w₁ (each f n) → Puts w₁ w (f n) → Puts w₀ w (each f (n + 1))
unfolding each
each_more f n p q = rw add-one (then_puts p q)

-- pieces that are empty from place m on
pub each_quiet : (f : ℕ → List ℕ) (m n : ℕ) → m ≤ n → ((j : ℕ) → m ≤ j → f j ≡ []) → each f n ≡ each f m
unfolding each
each_quiet f m zero l q = let z : zero ≡ m = omega arith in ap (each f) z
each_quiet f m (suc n) l q = elim (cases_lt n m) [
  | inl a ↦ let z : suc n ≡ m = omega arith in ap (each f) z
  | inr a ↦ ap (λ t. each f n ++ t) (q n a) ∙ (append-nil (each f n) ∙ each_quiet f m n a q)
]

-- a text that was printed to bytes with room for it
pub printed_all : {old new : Writer} (text : List ℕ) → Puts old new text → old.at ≡ 0 → length text ≤ length old.out.now → length text < 2 ^ 64 - 1 → new.out.now ≡ text ++ drop (length text) old.out.now
printed_all {old} {new} text p e l h = p.written (omega arith) (omega arith) ∙ (ap (λ a. over old.out.now a text) e ∙ ap (λ k. text ++ drop k old.out.now) (zero-add (length text)))
