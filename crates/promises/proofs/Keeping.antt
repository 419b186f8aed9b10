-- Every call keeps a run as promised.
use Rattle.std.proofs.Common.{◌≡◌, ℕ, ◌+◌, ◌≤◌, true, false, ◌⊎◌, List, [], ◌∷◌, reverse, length, Some, None, Ok, Err, sym, refl, ap, ◌∙◌, subst, inl, inr, arith}
use Rattle.std.proofs.lemmas.Bool.{and_parts, eqb-true, leb-true}
use Rattle.book.specs.declared.node.Type.{«Type» as BType}
use Rattle.pile.specs.declared.base.Pile.{Pile}
use Rattle.pile.specs.Pile.{items, size}
use Rattle.store.specs.Meaning.{Means, Sound, store, nothing, empty, store_empty}
use Rattle.cool.specs.Book.{Book, Formed, type_of}
use Rattle.cool.specs.Nodes.{Well}
use Rattle.cool.proofs.Programs.{accepted}
use Rattle.cool.proofs.Typing.{well_typed}
use Rattle.checked.specs.Accepting.{HasType}
use Rattle.machine.specs.declared.state.End.TheVariants.{Unfinished}
use Rattle.machine.specs.declared.state.Row.{Row}
use Rattle.machine.specs.declared.state.Hand.TheVariants.{Go}
use Rattle.machine.specs.Ends.{end_number}
use Rattle.machine.specs.Machine.{state, around, step, finished, start, at_start}
use Rattle.machine.specs.Runs.{used_up}
use Rattle.machine.proofs.Fits.{reached_fits, done_with}
use Rattle.engine.specs.declared.base.Run.{Run}
use Rattle.engine.specs.declared.refused.Refused.TheVariants.{Misfit}
use Rattle.engine.specs.Runs.{state_of}
use Rattle.engine.specs.Calls.{Answer, begun, fresh, Advances, goes_too_far, other_rows, stays, works, WorkedFrom}
use Rattle.promises.specs.Lists.{Own, given_with, own_given, Standing, standing, Call, accepted as counted, Does, advances, advances_elsewhere, questions, settles, slips}
use Rattle.promises.specs.Promises.{IsWorked}
use Rattle.promises.proofs.Working.{answers, unfinished, not_ended, stays_ended, worked_on, misfits_nowhere}

-- what is kept of each run: its book is accepted, its store has few records, and it is where the step rules lead
pub record Good (s : Standing) : Type 0 where
  pub typed : HasType s.own.book s.own.top
  pub few : s.own.most_records ≤ 4096
  pub places : s.run.places ≡ s.own.places
  pub worked : IsWorked s

pub formed_of : (B : Book) (z : BType) → HasType B z → Formed B
formed_of B z h = (accepted h.2.2).formed

pub well_of : (B : Book) (z : BType) (h : HasType B z) → (y : BType) × Well B y × (type_of B y ≡ Some h.0)
well_of B z h = well_typed (accepted h.2.2)

-- an empty store is one with its limits and nothing else
no_items : {A : Type 0} (xs : List A) → length xs ≡ 0 → xs ≡ []
no_items [] h = refl
no_items (x ∷ xs) h = absurd (omega arith)

count_is : (m : Means) → (store m).count ≡ length m.records
unfolding store
count_is m = refl

store_none : (m : Means) → (store m).count ≡ 0 → store m ≡ nothing m.most_records m.most_cells
store_none m h =
    let e = no_items m.records (sym (count_is m) ∙ h) in
    let i : m ≡ empty m.most_records m.most_cells = ap (λ xs. record { records = xs; most_records = m.most_records; most_cells = m.most_cells }) e in
    ap store i ∙ store_empty m.most_records m.most_cells

records_limit : (m : Means) → (store m).most_records ≡ m.most_records
unfolding store
records_limit m = refl

few_records : (m : Means) → Sound m → m.most_records ≤ 4096
few_records m h =
    let b = (and_parts _ _ h.bounded.bounds).0 in
    let l = leb-true (store m).most_records 4096 b in
    let e = records_limit m in
    omega arith

-- a run as it begins
module _ (o : Own) (p : Pile Row) (m : Means) (typed : HasType o.book o.top) (h : fresh p ≡ true) (c : (store m).count ≡ 0)
    (places : o.places ≡ size p) (records : o.most_records ≡ m.most_records) (cells : o.most_cells ≡ m.most_cells) where
  no_rows : items p ≡ []
  no_rows = no_items (items p) (eqb-true _ _ (and_parts _ _ h).0)

  starts : state_of (begun o.book p) p m ≡ start (own_given o) o.most_records o.most_cells
  starts =
      ap (λ xs. state (Go o.book.root) (around None None) (reverse xs) (store m)) no_rows
      ∙ (ap (λ S. state (Go o.book.root) (around None None) [] S) (store_none m c)
      ∙ (ap (λ r. state (Go o.book.root) (around None None) [] (nothing r m.most_cells)) (sym records)
      ∙ ap (λ q. state (Go o.book.root) (around None None) [] (nothing o.most_records q)) (sym cells)))

  not_yet : step (own_given o) (state_of (begun o.book p) p m) ≡ finished → ⊥
  not_yet f =
      let W = well_of o.book o.top typed in
      let d = done_with (own_given o) (formed_of o.book o.top typed) W.0 W.1 (reached_fits (own_given o) (formed_of o.book o.top typed) W.0 W.1 (at_start starts)) f in
      let i = d.is in
      let z : ◌≡◌ {A = ℕ} 0 1 = cc in
      omega arith

  pub begins_good : Sound m → Good (standing o (begun o.book p) p m false 0)
  begins_good sound = record { typed = typed; few = let f = few_records m sound in omega arith; places = sym places; worked = used_up (at_start starts) not_yet }

-- the run as the machine works it, with the limits that its store has
module _ (o : Own) (typed : HasType o.book o.top) where
  F : Formed o.book
  F = formed_of o.book o.top typed

  W : (y : BType) × Well o.book y × (type_of o.book y ≡ Some typed.0)
  W = well_of o.book o.top typed

  -- nothing accepted, nothing changed
  no_more : (u : Run) (p : Pile Row) (m : Means) (c : ℕ) → IsWorked (standing o u p m false c) → IsWorked (standing o u p m false (c + 0))
  no_more u p m c w = let e : c ≡ c + 0 = omega arith in subst (λ k. IsWorked (standing o u p m false k)) e w

  -- working goes on where the run was left
  goes_on : (u v : Run) (p q : Pile Row) (m n : Means) (b c : ℕ) {a : Answer}
      → IsWorked (standing o u p m false c) → u.end ≡ Unfinished → size p ≡ o.places → a ≡ Ok tt
      → WorkedFrom (given_with o (size p)) b (state_of u p m) u.steps a (state_of v q n) v.steps v.end → IsWorked (standing o v q n false (c + b))
  goes_on u v p q m n b c {a} w going same ok y =
      let x = not_ended w (ap end_number going) in
      worked_on {G = own_given o} F W.0 W.1 x.0 x.1 (subst (λ k. WorkedFrom (given_with o k) b (state_of u p m) u.steps a (state_of v q n) v.steps v.end) same y) ok

  -- no advance of a run given its own rows is a misfit, and each leaves it where the step rules lead
  pub advance_good : (u v : Run) (p q : Pile Row) (m n : Means) (b c : ℕ) {a : Answer}
      → u.places ≡ o.places → IsWorked (standing o u p m false c) → Advances (given_with o (size p)) b u p m a v q n
      → (a ≡ Err Misfit → ⊥) × (v.places ≡ o.places) × IsWorked (standing o v q n false (c + counted a b))
  advance_good u v p q m n b c at w (goes_too_far h) = ((λ e. let z : ◌≡◌ {A = ℕ} 0 1 = cc in omega arith), at, no_more u p m c w)
  advance_good u v p q m n b c at w (other_rows h other) = ((λ e. let z : ◌≡◌ {A = ℕ} 0 1 = cc in omega arith), at, no_more u p m c w)
  advance_good u v p q m n b c at w (stays h same ended) = ((λ e. let z : ◌≡◌ {A = ℕ} 0 1 = cc in omega arith), at, stays_ended b w (λ e. ended (unfinished u.end e)))
  advance_good u v p q m n b c {a} at w (works h same going y places kept) = by (answers y)
    where
      by : (a ≡ Ok tt) ⊎ (a ≡ Err Misfit) → (a ≡ Err Misfit → ⊥) × (v.places ≡ o.places) × IsWorked (standing o v q n false (c + counted a b))
      by (inl ok) = (
        (λ bad. let z : ◌≡◌ {A = ℕ} 0 1 = cc in omega arith),
        places ∙ at,
        subst (λ k. IsWorked (standing o v q n false (c + k))) (ap (λ x. counted x b) (sym ok)) (goes_on u v p q m n b c w going (same ∙ at) ok y),
      )
      by (inr bad) =
          let x = not_ended w (ap end_number going) in
          let y' = subst (λ k. WorkedFrom (given_with o k) b (state_of u p m) u.steps a (state_of v q n) v.steps v.end) (same ∙ at) y in
          absurd (misfits_nowhere {G = own_given o} F W.0 W.1 x.0 y' bad)

  -- given other rows, an advance is refused and leaves all as it was
  pub elsewhere_good : (u v : Run) (p q r : Pile Row) (m n : Means) (b c : ℕ) {a : Answer}
      → u.places ≡ o.places → IsWorked (standing o u p m false c) → (size q ≡ u.places → ⊥) → Advances (given_with o (size q)) b u q m a v r n
      → (a ≡ Err Misfit → ⊥) × (v.places ≡ o.places) × IsWorked (standing o v p n false (c + counted a b))
  elsewhere_good u v p q r m n b c at w other (goes_too_far h) = ((λ e. let z : ◌≡◌ {A = ℕ} 0 1 = cc in omega arith), at, no_more u p m c w)
  elsewhere_good u v p q r m n b c at w other (other_rows h also) = ((λ e. let z : ◌≡◌ {A = ℕ} 0 1 = cc in omega arith), at, no_more u p m c w)
  elsewhere_good u v p q r m n b c at w other (stays h same ended) = absurd (other same)
  elsewhere_good u v p q r m n b c at w other (works h same going y places kept) = absurd (other same)

-- every call keeps what is kept of a run
pub does_good : {s t : Standing} {c : Call} → Does s c t → Good s → Good t
does_good (advances {o = o} {u} {v} {p} {q} {m} {n} {b} {c} adv sound) g =
    let a = advance_good o g.typed u v p q m n b c g.places g.worked adv in
    record { typed = g.typed; few = g.few; places = a.1; worked = a.2 }
does_good (advances_elsewhere {o = o} {u} {v} {p} {q} {r} {m} {n} {b} {c} other adv sound) g =
    let a = elsewhere_good o g.typed u v p q r m n b c g.places g.worked other adv in
    record { typed = g.typed; few = g.few; places = a.1; worked = a.2 }
does_good (questions a) g = g
does_good (settles {o = o} {u = u} {w = w} {p = p} {m = m} {c = c} e) g =
    record {
      typed = g.typed;
      few = g.few;
      places = ap (λ v. v.places) e ∙ g.places;
      worked = subst (λ v. IsWorked (standing o v p m true c)) (sym e) g.worked;
    }
does_good (slips x) g = g
