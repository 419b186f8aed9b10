-- What is found: exactly what is reached, each once, in as many turns as there are records.
use Rattle.std.proofs.Common.{◌≡◌, ℕ, zero, suc, ◌+◌, ◌-◌, ◌<◌, ◌≤◌, Bool, true, false, cond, eqb, ◌⊎◌, List, [], ◌∷◌, ◌++◌, length, Some, None, Option, sym, refl, ap, ◌∙◌, inl, inr, arith}
use Rattle.std.specs.List.{slice_get}
use Rattle.std.proofs.lemmas.List.{length_push}
use Rattle.std.proofs.lemmas.Option.{slice_get_within, slice_get_past}
use Rattle.store.specs.declared.Value.{Value}
use Rattle.store.specs.declared.Value.TheVariants.{Int, Boolean, Null, Handle}
use Rattle.store.specs.Meaning.{Rec, Store, Means, Sound, store, handles}
use Rattle.cool.proofs.Base.{no_some, some_same, unlike, eqb_self, eqb_eq}
use Rattle.slips.specs.Slip.{has, and_last, noted, all_noted, values_of, values_at, turns, found_from, label}
use Rattle.slips.specs.Reached.{Reaches, its_own, through, GoesThrough, at_end, onward, Listed}
use Rattle.slips.specs.Fitting.{Found, no_record, a_record}

-- a list and one more
pub has_more : (ks : List ℕ) (k h : ℕ) → has ks h ≡ true → has (ks ++ k ∷ []) h ≡ true
unfolding has
has_more [] k h e = unlike e
has_more (j ∷ ks) k h e = by (eqb h j) e (λ e. has_more ks k h e)
  where
    by : (b : Bool) → cond b true (has ks h) ≡ true → (has ks h ≡ true → has (ks ++ k ∷ []) h ≡ true) → cond b true (has (ks ++ k ∷ []) h) ≡ true
    by true e f = refl
    by false e f = f e

either : (b : Bool) {c : Bool} → c ≡ true → cond b true c ≡ true
either true e = refl
either false e = e

pub has_last : (ks : List ℕ) (h : ℕ) → has (ks ++ h ∷ []) h ≡ true
unfolding has
has_last [] h = let e = eqb_self h in rw e
has_last (j ∷ ks) h = either (eqb h j) (has_last ks h)

pub has_either : (ks : List ℕ) (k h : ℕ) → has (ks ++ k ∷ []) h ≡ true → (has ks h ≡ true) ⊎ (h ≡ k)
unfolding has
has_either [] k h = by (eqb h k) refl
  where
    by : (b : Bool) → eqb h k ≡ b → cond b true false ≡ true → (false ≡ true) ⊎ (h ≡ k)
    by true q e = inr (eqb_eq h k q)
    by false q e = unlike e
has_either (j ∷ ks) k h = by (eqb h j) (λ e. has_either ks k h e)
  where
    by : (b : Bool) → (has (ks ++ k ∷ []) h ≡ true → (has ks h ≡ true) ⊎ (h ≡ k)) → cond b true (has (ks ++ k ∷ []) h) ≡ true → (cond b true (has ks h) ≡ true) ⊎ (h ≡ k)
    by true f e = inl refl
    by false f e = f e

pub nth_has : (ks : List ℕ) (i h : ℕ) → slice_get ks i ≡ Some h → has ks h ≡ true
unfolding has
nth_has [] i h e = no_some e
nth_has (j ∷ ks) zero h e = let q = some_same e in rw q (let p = eqb_self h in rw p)
nth_has (j ∷ ks) (suc i) h e = either (eqb h j) (nth_has ks i h e)

pub has_nth : (ks : List ℕ) (h : ℕ) → has ks h ≡ true → (i : ℕ) × (slice_get ks i ≡ Some h)
unfolding has
has_nth [] h e = unlike e
has_nth (j ∷ ks) h e = by (eqb h j) refl e (λ e. has_nth ks h e)
  where
    by : (b : Bool) → eqb h j ≡ b → cond b true (has ks h) ≡ true → (has ks h ≡ true → (i : ℕ) × (slice_get ks i ≡ Some h)) → (i : ℕ) × (slice_get (j ∷ ks) i ≡ Some h)
    by true q e f = (0, ap Some (sym (eqb_eq h j q)))
    by false q e f = let i = f e in (suc i.0, i.1)

label_nth : (ks : List ℕ) (h : ℕ) → has ks h ≡ true → slice_get ks (label ks h) ≡ Some h
unfolding has label
label_nth [] h e = unlike e
label_nth (j ∷ ks) h e = by (eqb h j) refl e (λ e. label_nth ks h e)
  where
    by : (b : Bool) → eqb h j ≡ b → cond b true (has ks h) ≡ true → (has ks h ≡ true → slice_get ks (label ks h) ≡ Some h) → slice_get (j ∷ ks) (cond b 0 (suc (label ks h))) ≡ Some h
    by true q e f = ap Some (sym (eqb_eq h j q))
    by false q e f = f e

-- what stands at a place stays there
pub nth_more : (ks : List ℕ) (k i h : ℕ) → slice_get ks i ≡ Some h → slice_get (ks ++ k ∷ []) i ≡ Some h
nth_more [] k i h e = no_some e
nth_more (j ∷ ks) k zero h e = e
nth_more (j ∷ ks) k (suc i) h e = nth_more ks k i h e

pub nth_either : (ks : List ℕ) (k i h : ℕ) → slice_get (ks ++ k ∷ []) i ≡ Some h → (slice_get ks i ≡ Some h) ⊎ ((i ≡ length ks) × (h ≡ k))
nth_either [] k zero h e = inr (refl, sym (some_same e))
nth_either [] k (suc i) h e = no_some e
nth_either (j ∷ ks) k zero h e = inl e
nth_either (j ∷ ks) k (suc i) h e = elim (nth_either ks k i h e) [ inl q ↦ inl q | inr q ↦ inr (ap suc q.0, q.1) ]

-- places past a list
pub nth_none : {A : Type 0} (xs : List A) (i : ℕ) → slice_get xs i ≡ None → length xs ≤ i
nth_none [] i e = omega arith
nth_none (x ∷ xs) zero e = no_some (sym e)
nth_none (x ∷ xs) (suc i) e = let l = nth_none xs i e in omega arith

-- one list goes on from another
pub record Grows (ks ls : List ℕ) : Type 0 where
  pub keeps : (h : ℕ) → has ks h ≡ true → has ls h ≡ true
  pub stays : (i h : ℕ) → slice_get ks i ≡ Some h → slice_get ls i ≡ Some h

pub same_grows : (ks : List ℕ) → Grows ks ks
same_grows ks = record { keeps = λ h e. e; stays = λ i h e. e }

pub then_grows : {ks ls ms : List ℕ} → Grows ks ls → Grows ls ms → Grows ks ms
then_grows f g = record { keeps = λ h e. g.keeps h (f.keeps h e); stays = λ i h e. g.stays i h (f.stays i h e) }

pub noted_grows : (ks : List ℕ) (v : Value) → Grows ks (noted ks v)
unfolding noted
noted_grows ks (Int n) = same_grows ks
noted_grows ks (Boolean b) = same_grows ks
noted_grows ks Null = same_grows ks
noted_grows ks (Handle h) = by (has ks h)
  where
    by : (b : Bool) → Grows ks (and_last ks (cond b None (Some h)))
    by true = same_grows ks
    by false = record { keeps = λ k e. has_more ks h k e; stays = λ i k e. nth_more ks h i k e }

pub all_grows : (vs : List Value) (ks : List ℕ) → Grows ks (all_noted ks vs)
unfolding all_noted
all_grows [] ks = same_grows ks
all_grows (v ∷ vs) ks = then_grows (noted_grows ks v) (all_grows vs (noted ks v))

-- a handle that was noted is found
pub noted_has : (ks : List ℕ) (h : ℕ) → has (noted ks (Handle h)) h ≡ true
unfolding noted
noted_has ks h = by (has ks h) refl
  where
    by : (b : Bool) → has ks h ≡ b → has (and_last ks (cond b None (Some h))) h ≡ true
    by true q = q
    by false q = has_last ks h

pub all_has : (vs : List Value) (ks : List ℕ) (i h : ℕ) → slice_get vs i ≡ Some (Handle h) → has (all_noted ks vs) h ≡ true
unfolding all_noted
all_has [] ks i h e = no_some e
all_has (v ∷ vs) ks zero h e = let q = some_same e in (all_grows vs (noted ks v)).keeps h (rw q (noted_has ks h))
all_has (v ∷ vs) ks (suc i) h e = all_has vs (noted ks v) i h e

-- what is found was found before, or is noted now
pub noted_from : (ks : List ℕ) (v : Value) (h : ℕ) → has (noted ks v) h ≡ true → (has ks h ≡ true) ⊎ (v ≡ Handle h)
unfolding noted
noted_from ks (Int n) h e = inl e
noted_from ks (Boolean b) h e = inl e
noted_from ks Null h e = inl e
noted_from ks (Handle k) h e = by (has ks k) e
  where
    by : (b : Bool) → has (and_last ks (cond b None (Some k))) h ≡ true → (has ks h ≡ true) ⊎ (Handle k ≡ Handle h)
    by true e = inl e
    by false e = elim (has_either ks k h e) [ inl q ↦ inl q | inr q ↦ inr (ap Handle (sym q)) ]

pub all_from : (vs : List Value) (ks : List ℕ) (h : ℕ) → has (all_noted ks vs) h ≡ true → (has ks h ≡ true) ⊎ ((i : ℕ) × (slice_get vs i ≡ Some (Handle h)))
unfolding all_noted
all_from [] ks h e = inl e
all_from (v ∷ vs) ks h e = by (all_from vs (noted ks v) h e)
  where
    now : (has ks h ≡ true) ⊎ (v ≡ Handle h) → (has ks h ≡ true) ⊎ ((i : ℕ) × (slice_get (v ∷ vs) i ≡ Some (Handle h)))
    now (inl q) = inl q
    now (inr q) = inr (0, ap Some q)

    by : (has (noted ks v) h ≡ true) ⊎ ((i : ℕ) × (slice_get vs i ≡ Some (Handle h))) → (has ks h ≡ true) ⊎ ((i : ℕ) × (slice_get (v ∷ vs) i ≡ Some (Handle h)))
    by (inl q) = now (noted_from ks v h q)
    by (inr q) = inr (suc q.0, q.1)

module _ (S : Store) where
  -- what is found is reached
  own_reached : (v : Value) (h : ℕ) → v ≡ Handle h → Reaches S v h
  own_reached v h e = rw e its_own

  pub found_reached : (v : Value) (i h : ℕ) → has (turns S v i) h ≡ true → Reaches S v h
  unfolding turns has
  found_reached v zero h e = elim (noted_from [] v h e) [ inl q ↦ unlike q | inr q ↦ own_reached v h q ]
  found_reached v (suc i) h e = by (slice_get (turns S v i) i) refl (λ k q. found_reached v i k q) (all_from (values_at S (slice_get (turns S v i) i)) (turns S v i) h e)
    where
      in_cell : (k : ℕ) → Reaches S v k → (o : Option Rec) → S.look k ≡ o → (j : ℕ) → slice_get (values_of o) j ≡ Some (Handle h) → Reaches S v h
      in_cell k r None q j e = no_some e
      in_cell k r (Some o) q j e = through r q j e

      by : (p : Option ℕ) → slice_get (turns S v i) i ≡ p → ((k : ℕ) → has (turns S v i) k ≡ true → Reaches S v k) → (has (turns S v i) h ≡ true) ⊎ ((j : ℕ) × (slice_get (values_at S p) j ≡ Some (Handle h)))
          → Reaches S v h
      by p q f (inl e) = f h e
      by None q f (inr e) = no_some e.1
      by (Some k) q f (inr e) = in_cell k (f k (nth_has (turns S v i) i k q)) (S.look k) refl e.0 e.1

  turn_grows : (v : Value) (i : ℕ) → Grows (turns S v i) (turns S v (suc i))
  unfolding turns
  turn_grows v i = all_grows (values_at S (slice_get (turns S v i) i)) (turns S v i)

  -- the value's own is found at once, and the cells of the records gone through
  own_found : (h i : ℕ) → has (turns S (Handle h) i) h ≡ true
  unfolding turns
  own_found h zero = noted_has [] h
  own_found h (suc i) = (turn_grows (Handle h) i).keeps h (own_found h i)

  -- a turn finds the cells of its record, and they stay found
  turn_found : (v : Value) (i k h n : ℕ) (o : Rec) → slice_get (turns S v i) i ≡ Some k → S.look k ≡ Some o → slice_get o.values n ≡ Some (Handle h) → has (turns S v (suc i)) h ≡ true
  unfolding turns
  turn_found v i k h n o p q e = rw (p, q) (all_has o.values (turns S v i) n h e)

  later_grows : (v : Value) (d i n : ℕ) → n ≡ d + i → Grows (turns S v i) (turns S v n)
  later_grows v zero i n e = let q : n ≡ i = omega arith in rw q (same_grows (turns S v i))
  later_grows v (suc d) i n e = then_grows (turn_grows v i) (later_grows v d (suc i) n (omega arith))

  -- at the end of the list nothing more is found
  no_more : (v : Value) (i : ℕ) → slice_get (turns S v i) i ≡ None → turns S v (suc i) ≡ turns S v i
  unfolding turns all_noted
  no_more v i e = rw e

  pub stays_found : (v : Value) (d i n : ℕ) → n ≡ d + i → slice_get (turns S v i) i ≡ None → turns S v n ≡ turns S v i
  stays_found v zero i n e q = let p : n ≡ i = omega arith in rw p
  stays_found v (suc d) i n e q =
      let p = no_more v i q in
      let ended : slice_get (turns S v (suc i)) (suc i) ≡ None = rw p (slice_get_past (turns S v i) (suc i) (omega (arith, nth_none (turns S v i) i q))) in
      stays_found v d (suc i) n (omega arith) ended ∙ p

  module _ (v : Value) (n : ℕ) (ended : slice_get (turns S v n) n ≡ None) where
    -- what stands at a place in the end stood there at its turn
    pub at_turn : (i k : ℕ) → slice_get (turns S v n) i ≡ Some k → i < n × (slice_get (turns S v i) i ≡ Some k)
    at_turn i k e = let low : i < n = omega (arith, slice_get_within (turns S v n) i k e, nth_none (turns S v n) n ended) in (low, by low (slice_get (turns S v i) i) refl)
      where
        by : i < n → (o : Option ℕ) → slice_get (turns S v i) i ≡ o → slice_get (turns S v i) i ≡ Some k
        by low None q = no_some (sym q ∙ (ap (λ l. slice_get l i) (sym (stays_found v (n - i) i n (omega arith) q)) ∙ e))
        by low (Some j) q = q ∙ (sym ((later_grows v (n - i) i n (omega arith)).stays i j q) ∙ e)

    reached_found : {w : Value} {h : ℕ} → Reaches S w h → w ≡ v → has (turns S v n) h ≡ true
    reached_found (its_own {h}) e = rw (sym e) (own_found h n)
    reached_found (through {v = w} {h = k} {k = h} {o} r q j c) e =
        let i = has_nth (turns S v n) k (reached_found r e) in
        let t = at_turn i.0 k i.1 in
        (later_grows v (n - suc i.0) (suc i.0) n (omega (arith, t.0))).keeps h (turn_found v i.0 k h j o t.1 q c)

    pub every_found : {h : ℕ} → Reaches S v h → has (turns S v n) h ≡ true
    every_found r = reached_found r refl

    pub goes : (d i : ℕ) → n ≡ d + i → GoesThrough S (turns S v i) i (turns S v n)
    unfolding turns
    goes zero i e = let q : n ≡ i = omega arith in rw (sym q) (at_end ended)
    goes (suc d) i e = by (slice_get (turns S v i) i) refl (goes d (suc i) (omega arith))
      where
        by : (o : Option ℕ) → slice_get (turns S v i) i ≡ o → GoesThrough S (turns S v (suc i)) (suc i) (turns S v n) → GoesThrough S (turns S v i) i (turns S v n)
        by None q g = let p = stays_found v (suc d) i n e q in rw p (at_end q)
        by (Some h) q g = onward q (rw q at g)

-- as many handles as records at most
without : (ls : List ℕ) (h : ℕ) → has ls h ≡ true → (ms : List ℕ) × (length ls ≡ suc (length ms)) × ((k : ℕ) → has ls k ≡ true → eqb k h ≡ false → has ms k ≡ true)
unfolding has
without [] h e = unlike e
without (j ∷ ls) h e = by (eqb h j) refl e (λ e. without ls h e)
  where
    gone : (k : ℕ) → h ≡ j → eqb k h ≡ false → cond (eqb k j) true (has ls k) ≡ true → has ls k ≡ true
    gone k z q e = let p = rw z at q in rw p at e

    kept : (k : ℕ) (b : Bool) (ms : List ℕ) → (has ls k ≡ true → eqb k h ≡ false → has ms k ≡ true) → cond b true (has ls k) ≡ true → eqb k h ≡ false → cond b true (has ms k) ≡ true
    kept k true ms f e q = refl
    kept k false ms f e q = f e q

    by : (b : Bool) → eqb h j ≡ b → cond b true (has ls h) ≡ true
        → (has ls h ≡ true → (ms : List ℕ) × (length ls ≡ suc (length ms)) × ((k : ℕ) → has ls k ≡ true → eqb k h ≡ false → has ms k ≡ true))
        → (ms : List ℕ) × (suc (length ls) ≡ suc (length ms)) × ((k : ℕ) → cond (eqb k j) true (has ls k) ≡ true → eqb k h ≡ false → has ms k ≡ true)
    by true q e f = (ls, refl, λ k p z. gone k (eqb_eq h j q) z p)
    by false q e f = let r = f e in (j ∷ r.0, ap suc r.1, λ k p z. kept k (eqb k j) r.0 (r.2 k) p z)

has_neither : (ks : List ℕ) (k h : ℕ) → has (ks ++ k ∷ []) h ≡ false → (has ks h ≡ false) × (eqb h k ≡ false)
unfolding has
has_neither [] k h e = (refl, by (eqb h k) e)
  where
    by : (b : Bool) → cond b true false ≡ false → b ≡ false
    by true e = unlike (sym e)
    by false e = refl
has_neither (j ∷ ks) k h e = by (eqb h j) e (λ e. has_neither ks k h e)
  where
    by : (b : Bool) → cond b true (has (ks ++ k ∷ []) h) ≡ false → (has (ks ++ k ∷ []) h ≡ false → (has ks h ≡ false) × (eqb h k ≡ false)) → (cond b true (has ks h) ≡ false) × (eqb h k ≡ false)
    by true e f = unlike (sym e)
    by false e f = f e

module _ (S : Store) where
  abbrev There : ℕ → Type 0
  There h = (o : Rec) × (S.look h ≡ Some o)

  -- those not found yet
  left : (hs : List ℕ) → ((h : ℕ) → There h → has hs h ≡ true) → {ks : List ℕ} → Found S ks
      → (ls : List ℕ) × (length hs ≡ length ks + length ls) × ((h : ℕ) → has hs h ≡ true → has ks h ≡ false → has ls h ≡ true)
  unfolding has
  left hs f no_record = (hs, omega arith, λ h e q. e)
  left hs f (a_record {ks} {h} {o} before new e) =
      let r = left hs f before in
      let w = without r.0 h (r.2 h (f h (o, e)) new) in
      (w.0, omega (arith, length_push ks h, r.1, w.1), λ k p q. let n = has_neither ks h k q in w.2 k (r.2 k p n.0) n.1)

  pub found_noted : {ks : List ℕ} (v : Value) → ((h : ℕ) → v ≡ Handle h → There h) → Found S ks → Found S (noted ks v)
  unfolding noted
  found_noted (Int n) t f = f
  found_noted (Boolean b) t f = f
  found_noted Null t f = f
  found_noted {ks} (Handle h) t f = by (has ks h) refl
    where
      by : (b : Bool) → has ks h ≡ b → Found S (and_last ks (cond b None (Some h)))
      by true q = f
      by false q = a_record f q (t h refl).1

  pub found_all : (vs : List Value) {ks : List ℕ} → ((i h : ℕ) → slice_get vs i ≡ Some (Handle h) → There h) → Found S ks → Found S (all_noted ks vs)
  unfolding all_noted
  found_all [] t f = f
  found_all (v ∷ vs) t f = found_all vs (λ i h e. t (suc i) h e) (found_noted v (λ h e. t 0 h (ap Some e)) f)

  found_once : {ks : List ℕ} → Found S ks → (i j h : ℕ) → slice_get ks i ≡ Some h → slice_get ks j ≡ Some h → i ≡ j
  found_once no_record i j h p q = no_some p
  found_once (a_record {ks} {h = k} before new e) i j h p q = by (nth_either ks k i h p) (nth_either ks k j h q) (λ p q. found_once before i j h p q)
    where
      clash : {A : Type 0} (i : ℕ) → slice_get ks i ≡ Some h → h ≡ k → A
      clash i p z = unlike (sym new ∙ (ap (has ks) (sym z) ∙ nth_has ks i h p))

      by : (slice_get ks i ≡ Some h) ⊎ ((i ≡ length ks) × (h ≡ k)) → (slice_get ks j ≡ Some h) ⊎ ((j ≡ length ks) × (h ≡ k)) → (slice_get ks i ≡ Some h → slice_get ks j ≡ Some h → i ≡ j) → i ≡ j
      by (inl p) (inl q) f = f p q
      by (inl p) (inr q) f = clash i p q.1
      by (inr p) (inl q) f = clash j q p.1
      by (inr p) (inr q) f = p.0 ∙ sym q.0

pub few : (m : Means) → Sound m → {ks : List ℕ} → Found (store m) ks → length ks ≤ (store m).count
few m s f =
    let r = left (store m) (handles m) (λ h t. let n = s.each_once.listed h (rw t.1) in nth_has (handles m) n.0 h n.1) f in
    omega (arith, r.1, s.each_once.many)

-- where all that is reached is there, what is found is there
turns_found : (S : Store) (v : Value) → ((h : ℕ) → Reaches S v h → There S h) → (i : ℕ) → Found S (turns S v i)
unfolding turns
turns_found S v t zero = found_noted S v (λ h e. t h (own_reached S v h e)) no_record
turns_found S v t (suc i) = found_all S (values_at S (slice_get (turns S v i) i)) (λ j h e. t h (found_reached S v (suc i) h (all_has (values_at S (slice_get (turns S v i) i)) (turns S v i) j h e))) (turns_found S v t i)

pub listed : (m : Means) → Sound m → (v : Value) → ((h : ℕ) → Reaches (store m) v h → There (store m) h) → Listed (store m) v (found_from (store m) v)
unfolding turns
listed m s v t =
    let S = store m in
    let f = turns_found S v t S.count in
    let ended : slice_get (turns S v S.count) S.count ≡ None = slice_get_past (turns S v S.count) S.count (few m s f) in
    record {
      reached = found_reached S v S.count;
      every = λ h r. every_found S v S.count ended r;
      once = found_once S f;
      labelled = λ h e. label_nth (turns S v S.count) h e;
      order = goes S v S.count ended S.count 0 (omega arith);
    }
