-- The laws of the machine.
use Rattle.std.proofs.Common.{◌≡◌, ℕ, zero, suc, ◌+◌, ◌<◌, ◌≤◌, ◌⊎◌, [], None, sym, refl, ap, ◌∙◌, inl, inr, eq-or-lt_of_le, arith}
use Rattle.book.specs.declared.node.Type.{«Type» as BType}
use Rattle.store.specs.declared.Value.{Value}
use Rattle.store.specs.Meaning.{Store, nothing}
use Rattle.cool.specs.Syntax.{Ty, Expr, CE}
use Rattle.cool.specs.Dynamic.{Heap}
use Rattle.cool.specs.Book.{Formed}
use Rattle.cool.specs.Says.{◌⊩◌▷◌, Accepted}
use Rattle.cool.specs.Nodes.{Well}
use Rattle.cool.proofs.Base.{no_some}
use Rattle.cool.proofs.Stands.{Stands, Agreed}
use Rattle.cool.proofs.Programs.{accepted}
use Rattle.cool.proofs.Typing.{well_typed}
use Rattle.machine.specs.declared.state.Around.{Around}
use Rattle.machine.specs.declared.state.Hand.TheVariants.{Go, Have}
use Rattle.machine.specs.Fields.{heap_of}
use Rattle.machine.specs.Machine.{State, state, store_of, around, Outcome, next, makes, ends, finished, misfit, Given, step, Line, line_next, line_make, start, Reached, at_start, one_more}
use Rattle.machine.specs.Likeness.{◌≅◌}
use Rattle.machine.specs.Causes.{Cause}
use Rattle.machine.specs.Runs.{Worked, used_up, was_finished, was_ended, Finished, Ended, Unfinished, OneOf}
use Rattle.machine.specs.Laws.{StaysFitting, Derived, FinishedIsDerived, ComesTo, DerivedIsReached, RunsAlike, OneOfThree}
use Rattle.machine.proofs.Fits.{Fine, fine_next, fine_ends, fine_finished, fine_makes, fine, line_fits, start_fits, reached_fits, no_misfit, done_with}
use Rattle.machine.proofs.Alike.{sort, sorts, line_both, no_line_both, end_both, line_low, start_alike, reached_alike}
use Rattle.machine.proofs.Causes.{caused, cause_range, cause_node}
use Rattle.machine.proofs.Back.{derived}
use Rattle.machine.proofs.Forth.{Leads, here, limit, on, sim}
use Rattle.machine.proofs.Limits.{fresh, reached_limits}

-- fitting states
pub stays_fitting : (G : Given) {ce : CE} {e : Expr} {u : Ty} → Accepted G.book ce e u → StaysFitting G
stays_fitting G A = let B = accepted A in by B.formed (well_typed B).0 (well_typed B).1
  where
    by : (F : Formed G.book) (z : BType) → Well G.book z → StaysFitting G
    by F z W = ((λ r q. start_fits G F z W r q), λ s f. ((λ e. no_misfit G F z W f e), λ t l. line_fits G F z W l f))

-- what finishes is derived
pub finished_is_derived : (G : Given) {ce : CE} {e : Expr} {u : Ty} → Accepted G.book ce e u → FinishedIsDerived G ce e
finished_is_derived G {ce} {e} {u} A r q n s x f = by (accepted A)
  where
    by : Agreed G.book ce e u → (v : Value) × (ε : Around) × (S : Store) × (s ≡ state (Have v) ε [] S) × Derived G ce e v (heap_of G.book S)
    by B =
        let W = well_typed B in
        let d = done_with G B.formed W.0 W.1 (reached_fits G B.formed W.0 W.1 x) f in
        let i = d.is in
        (d.value, d.around, d.store, d.is, derived G B.stands B.formed W.1 B.root (rw i at x))

-- what is derived is reached: a run stays alike to the derived way
module _ (G : Given) (r q : ℕ) {ce : CE} {e : Expr} {v : Value} {h : Heap} (st : Stands G.book ce) (root : G.book ⊩ G.book.node G.book.root ▷ e) (d : Derived G ce e v h) where
  record Final (s : State) : Type 0 where
    store : Store
    heap_is : h ≡ heap_of G.book store
    is : s ≡ state (Have v) (around None None) [] store

  -- the lines that the derived way has still to work
  left : {s : State} → Leads G Final s → ℕ
  left (here p) = 0
  left (limit p i) = 0
  left (on l L) = suc (left L)

  way : Leads G Final (start G r q)
  way = sim G Final st d root refl [] (λ S i K. here (record { store = S; heap_is = i; is = refl })) (nothing r q) refl (record { known = λ l o e. no_some e })

  -- a state on the derived way that is alike, with n lines worked
  data OnWay (n : ℕ) (t : State) : Type 0 where
    on_way : {s : State} → s ≅ t → (L : Leads G Final s) → left L + n ≡ left way → OnWay n t

  is_final : {s : State} → Final s → sort (step G s) ≡ 3
  is_final p = let q = p.is in rw q

  on_the_way : {n : ℕ} {t : State} → Reached G r q n t → OnWay n t
  unfolding left
  on_the_way (at_start p) = on_way (rw p (start_alike G r q)) way (omega arith)
  on_the_way (one_more x l) = more (on_the_way x) l
    where
      more : {n : ℕ} {t t' : State} → OnWay n t → Line G t t' → OnWay (suc n) t'
      more (on_way i (here p) c) l = let a = is_final p in let b = line_low G l in let z = sorts G i refl refl in absurd (omega arith)
      more (on_way i (limit p j) c) l = absurd (no_line_both G i p l)
      more (on_way i (on k L) c) l = on_way (line_both G i k l) L (omega arith)

  -- a run that ends was stopped by a limit
  ends_at_limit : {n m k : ℕ} {t : State} → Reached G r q n t → step G t ≡ ends m k → (m ≡ 34) ⊎ (m ≡ 35)
  ends_at_limit {m = m} {k} x p = last (on_the_way x) p
    where
      last : {n : ℕ} {t : State} → OnWay n t → step G t ≡ ends m k → (m ≡ 34) ⊎ (m ≡ 35)
      last (on_way i (here f) c) p = let a = is_final f in let z = sorts G i refl p in absurd (omega arith)
      last (on_way i (limit f j) c) p = let z = (end_both G i f p).0 in rw (← z) j
      last (on_way i (on k L) c) p = let a = line_low G k in let z = sorts G i refl p in absurd (omega arith)

  -- a run that finishes has the derived value and heap
  finishes_alike : {n : ℕ} {t : State} → Reached G r q n t → step G t ≡ finished → ComesTo G.book v h t
  finishes_alike x p = last (on_the_way x) p
    where
      last : {n : ℕ} {t : State} → OnWay n t → step G t ≡ finished → ComesTo G.book v h t
      last (on_way i (here f) c) p = let j = f.is in (f.store, f.heap_is, rw j at i)
      last (on_way i (limit f j) c) p = let z = sorts G i f p in absurd (omega arith)
      last (on_way i (on k L) c) p = let a = line_low G k in let z = sorts G i refl p in absurd (omega arith)

  -- no run works more lines than the derived way has
  in_time : {n : ℕ} {t : State} → Reached G r q n t → n ≤ left way
  in_time x = last (on_the_way x)
    where
      last : {n : ℕ} {t : State} → OnWay n t → n ≤ left way
      last (on_way i L c) = omega arith

  reaches : {b n m k : ℕ} {s : State} → Worked G r q b s n m k → ((b < suc (left way)) × (m ≡ 1)) ⊎ (((m ≡ 34) ⊎ (m ≡ 35)) ⊎ ((m ≡ 0) × ComesTo G.book v h s))
  reaches (used_up x f) = let l = in_time x in inl (omega arith, refl)
  reaches (was_finished x f l) = inr (inr (refl, finishes_alike x f))
  reaches (was_ended x f l) = inr (inl (ends_at_limit x f))

pub derived_is_reached : (G : Given) {ce : CE} {e : Expr} {u : Ty} → Accepted G.book ce e u → DerivedIsReached G ce e
derived_is_reached G A r q v h d =
    let B = accepted A in (suc (left G r q B.stands B.root d (way G r q B.stands B.root d)), λ b n m k s w. reaches G r q B.stands B.root d w)

-- a state on the way to another
before : {G : Given} {r q n : ℕ} {s : State} → Reached G r q n s → (m : ℕ) → m < n → (u : State) × (t : State) × Reached G r q m u × Line G u t
before (at_start e) m l = absurd (omega arith)
before {G} {r} {q} (one_more {n = n} {s = s} {t = t} x y) m l = let i : m ≤ n = omega arith in by (eq-or-lt_of_le i) (λ j. before x m j)
  where
    by : (m ≡ n) ⊎ (m < n) → (m < n → (u : State) × (v : State) × Reached G r q m u × Line G u v) → (u : State) × (v : State) × Reached G r q m u × Line G u v
    by (inr j) f = f j
    by (inl j) f = (s, t, rw j x, y)

-- where a run is finished or ends, none works more lines
no_more : {G : Given} {r q n m : ℕ} {s t : State} → Reached G r q n s → Reached G r q m t → 2 ≤ sort (step G t) → m < n → ⊥
no_more {G} x y k l = let b = before x _ l in let a = line_low G b.3 in let z = sorts G (reached_alike b.2 y) refl refl in omega arith

sort_3 : (o : Outcome) → sort o ≡ 3 → o ≡ finished
sort_3 (next s) e = absurd (omega arith)
sort_3 (makes c) e = absurd (omega arith)
sort_3 (ends n k) e = absurd (omega arith)
sort_3 finished e = refl
sort_3 misfit e = absurd (omega arith)

-- two runs worked with the same allowance
module _ {G : Given} {r q : ℕ} {s t : State} where
  lines_same : {n m : ℕ} → Reached G r q n s → Reached G r q m t → (n < m → ⊥) → (m < n → ⊥) → (n ≡ m) × (s ≅ t)
  lines_same {n} {m} x y a b = let e = both_not n m a b in (e, reached_alike (rw e at x) y)
    where
      both_not : (n m : ℕ) → (n < m → ⊥) → (m < n → ⊥) → n ≡ m
      both_not n m a b = omega arith

  worked_same : {b n m d e j k : ℕ} → Worked G r q b s n d j → Worked G r q b t m e k → (n ≡ m) × (d ≡ e) × (j ≡ k) × (s ≅ t)
  worked_same (used_up x i) (used_up y j) = (refl, refl, refl, reached_alike x y)
  worked_same (used_up x i) (was_finished y j l) =
      let k = ap sort j in
      let z = lines_same x y (λ h. omega arith) (λ h. no_more x y (omega arith) h) in
      absurd (i (sort_3 _ (sorts G z.1 refl refl ∙ k)))
  worked_same (used_up x i) (was_ended y j l) = let k = ap sort j in absurd (no_more x y (omega arith) (omega arith))
  worked_same (was_finished x i l) (used_up y j) =
      let k = ap sort i in
      let z = lines_same x y (λ h. no_more y x (omega arith) h) (λ h. omega arith) in
      absurd (j (sort_3 _ (sym (sorts G z.1 refl refl) ∙ k)))
  worked_same (was_finished x i l) (was_finished y j l') =
      let k = ap sort i in
      let k' = ap sort j in
      let z = lines_same x y (λ h. no_more y x (omega arith) h) (λ h. no_more x y (omega arith) h) in
      (z.0, refl, refl, z.1)
  worked_same (was_finished x i l) (was_ended y j l') =
      let k = ap sort i in
      let k' = ap sort j in
      let z = lines_same x y (λ h. no_more y x (omega arith) h) (λ h. no_more x y (omega arith) h) in
      let w = sorts G z.1 i j in
      absurd (omega arith)
  worked_same (was_ended x i l) (used_up y j) = let k = ap sort i in absurd (no_more y x (omega arith) (omega arith))
  worked_same (was_ended x i l) (was_finished y j l') =
      let k = ap sort i in
      let k' = ap sort j in
      let z = lines_same x y (λ h. no_more y x (omega arith) h) (λ h. no_more x y (omega arith) h) in
      let w = sorts G z.1 i j in
      absurd (omega arith)
  worked_same (was_ended x i l) (was_ended y j l') =
      let k = ap sort i in
      let k' = ap sort j in
      let z = lines_same x y (λ h. no_more y x (omega arith) h) (λ h. no_more x y (omega arith) h) in
      let w = end_both G z.1 i j in
      (ap suc z.0, w.0, w.1, z.1)

pub runs_alike : (G : Given) (r q : ℕ) → RunsAlike G r q r q
runs_alike G r q = ((λ n s t x y. reached_alike x y), λ b n m d e j k s t x y. worked_same x y)

-- exactly one of three
is_finished? : (o : Outcome) → (o ≡ finished) ⊎ (o ≡ finished → ⊥)
is_finished? (next s) = inr (λ e. let z : ◌≡◌ {A = ℕ} 0 1 = cc in omega arith)
is_finished? (makes c) = inr (λ e. let z : ◌≡◌ {A = ℕ} 0 1 = cc in omega arith)
is_finished? (ends n k) = inr (λ e. let z : ◌≡◌ {A = ℕ} 0 1 = cc in omega arith)
is_finished? finished = inl refl
is_finished? misfit = inr (λ e. let z : ◌≡◌ {A = ℕ} 0 1 = cc in omega arith)

-- a further line, or an end
data Further (G : Given) (s : State) : Type 0 where
  a_line : {t : State} → Line G s t → Further G s
  an_end : {e k : ℕ} → step G s ≡ ends e k → Further G s

module _ (G : Given) (F : Formed G.book) (z : BType) (W : Well G.book z) (r q : ℕ) (few : r ≤ 4096) where
  goes_further : {n : ℕ} {s : State} {o : Outcome} → Reached G r q n s → Fine G.book G.rule z s o → step G s ≡ o → (step G s ≡ finished → ⊥) → Further G s
  goes_further x (fine_next f) e c = a_line (line_next e)
  goes_further x fine_ends e c = an_end e
  goes_further x (fine_finished i f C) e c = absurd (c e)
  goes_further x (fine_makes {k = k} {ε = ε} {ρ = ρ} {S = S} i j l m) e c = by i (reached_alike x x) (reached_limits x).0
    where
      by : {s : State} → s ≡ state (Go k) ε ρ S → s ≅ s → (store_of s).most_records ≡ r → Further G s
      by i a l' =
          let a' = rw i at a in
          let l'' : S.most_records ≡ r = sym (ap (λ (s : State). (store_of s).most_records) i) ∙ l' in
          let h = fresh {x = Go k} {ε = ε} {ρ = ρ} {S = S} _ a' m (omega arith) in
          rw i (a_line (line_make h.0 j l m h.1 h.2))

  further : {n : ℕ} {s : State} → Reached G r q n s → (step G s ≡ finished → ⊥) → Further G s
  further {s = s} x c = goes_further x (fine G F z W s (reached_fits G F z W x)) refl c

  one_of : {b n e k : ℕ} {s : State} → Worked G r q b s n e k → OneOf (Finished G z s e) (Ended G s e k) (Unfinished G s e)
  one_of {s = s} (used_up x f) = inr (inr (record { end = refl; further = by (further x f) }, (λ a. let i = a.end in omega arith), (λ a. let i = a.low in omega arith)))
    where
      by : Further G s → ((t : State) × Line G s t) ⊎ ((d : ℕ) × (k : ℕ) × Cause G s d k)
      by (a_line {t = t} l) = inl (t, l)
      by (an_end {e = e} {k = k} i) = inr (e, k, caused G s i)
  one_of {s = s} (was_finished x f l) =
      let d = done_with G F z W (reached_fits G F z W x) f in
      inl (record { end = refl; value = d.value; around = d.around; store = d.store; stands = d.is; fits = d.fits }, (λ a. let i = a.low in omega arith), (λ a. let i = a.end in omega arith))
  one_of {s = s} (was_ended x f l) =
      let c = caused G s f in
      let j = cause_range G c in
      inr (inl (record { low = j.0; high = j.1; cause = c; node = cause_node G c }, (λ a. let i = a.end in omega arith), (λ a. let i = a.end in omega arith)))

  -- every allowance can be worked
  abbrev SomeRun : ℕ → Type 0
  SomeRun b = (s : State) × (n : ℕ) × (e : ℕ) × (k : ℕ) × Worked G r q b s n e k

  reached_run : {b : ℕ} {s : State} → Reached G r q b s → SomeRun b
  reached_run {b} {s} x = by (is_finished? (step G s))
    where
      by : (step G s ≡ finished) ⊎ (step G s ≡ finished → ⊥) → SomeRun b
      by (inl f) = (s, b, 0, 0, was_finished x f (omega arith))
      by (inr f) = (s, b, 1, 0, used_up x f)

  some_run : (b : ℕ) → SomeRun b
  some_run zero = reached_run (at_start refl)
  some_run (suc b) = by (some_run b).4
    where
      one_on : {s : State} → Reached G r q b s → Further G s → SomeRun (suc b)
      one_on x (a_line l) = reached_run (one_more x l)
      one_on {s} x (an_end {e = e} {k = k} i) = (s, suc b, e, k, was_ended x i (omega arith))

      by : {s : State} {n e k : ℕ} → Worked G r q b s n e k → SomeRun (suc b)
      by (used_up x f) = one_on x (further x f)
      by (was_finished {s = s} {n = n} x f l) = (s, n, 0, 0, was_finished x f (omega arith))
      by (was_ended {s = s} {n = n} {e = e} {k = k} x f l) = (s, suc n, e, k, was_ended x f (omega arith))

pub one_of_three : (G : Given) (r q : ℕ) {ce : CE} {e : Expr} {u : Ty} → Accepted G.book ce e u → r ≤ 4096 → OneOfThree G r q u
one_of_three G r q A few =
    let B = accepted A in
    let W = well_typed B in
    ((λ b. some_run G B.formed W.0 W.1 r q few b), (W.0, W.2, λ b n e k s w. one_of G B.formed W.0 W.1 r q few w))
