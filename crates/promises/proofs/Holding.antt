-- The promises hold after every list of calls.
use Rattle.std.proofs.Common.{◌≡◌, ℕ, zero, suc, List, [], ◌∷◌, ◌++◌, length, take, drop, set, Some, Ok, sym, refl, ap, ◌∙◌, subst, inl, inr, arith}
use Rattle.std.specs.List.{slice_get}
use Rattle.std.proofs.lemmas.List.{take_at}
use Rattle.book.specs.declared.node.Type.{«Type» as BType}
use Rattle.store.specs.declared.Value.{Value}
use Rattle.numbers.specs.Rule.{Rule}
use Rattle.store.specs.Meaning.{Store, store}
use Rattle.cool.specs.Book.{Book, type_of}
use Rattle.cool.proofs.Programs.{accepted}
use Rattle.cool.proofs.Says.{types_one_to_one}
use Rattle.machine.specs.declared.state.Around.{Around}
use Rattle.machine.specs.declared.state.Row.{Row}
use Rattle.machine.specs.declared.state.Hand.{Hand}
use Rattle.machine.specs.declared.state.Hand.TheVariants.{Have}
use Rattle.machine.specs.Ends.{end_number, end_node}
use Rattle.machine.specs.Fields.{heap_of}
use Rattle.machine.specs.Fit.{Fits, RecordsFit, Fitting, fitting}
use Rattle.machine.specs.Likeness.{◌≅◌, by_naming, alike}
use Rattle.machine.specs.Machine.{state}
use Rattle.machine.specs.Runs.{Worked, Finished, Ended, Unfinished, OneOf}
use Rattle.machine.specs.Laws.{Derived}
use Rattle.machine.proofs.Fits.{reached_fits, done_with}
use Rattle.machine.proofs.Laws as law
use Rattle.slips.specs.Answer.{Shows}
use Rattle.slips.specs.Slip.{slip as slip_bytes}
use Rattle.slips.proofs.Alike.{same_slip}
use Rattle.engine.specs.declared.question.Told.{Told}
use Rattle.engine.specs.Calls.{Begins}
use Rattle.engine.specs.Calls as call
use Rattle.promises.specs.Lists.{Own, own_given, Standing, Call, question, slip, Does, advances, advances_elsewhere, questions, settles, slips, Event, on, After, nothing_yet, begins, begin_refused, calls}
use Rattle.promises.specs.Promises.{given_to, stands_in, Gave23, by_advance, by_slip, KeptOf, Alike, defined_slip, SameAnswers, IsDerived, IsReached, EveryListOfCalls}
use Rattle.promises.proofs.Working.{same_end, was_reached, was_done}
use Rattle.promises.proofs.Showing.{shows}
use Rattle.promises.proofs.Keeping.{Good, formed_of, well_of, begins_good, does_good, advance_good, elsewhere_good}

-- what stands in a list with one more, or with another in one place
nth_more : {A : Type 0} (P : A → Type 0) (xs : List A) (x : A) → ((i : ℕ) (a : A) → slice_get xs i ≡ Some a → P a) → P x → (i : ℕ) (a : A) → slice_get (xs ++ x ∷ []) i ≡ Some a → P a
nth_more P [] x all here zero a h = let e : x ≡ a = cc in subst P e here
nth_more P [] x all here (suc i) a h = let z : ◌≡◌ {A = ℕ} 0 1 = cc in absurd (omega arith)
nth_more P (y ∷ xs) x all here zero a h = all zero a h
nth_more P (y ∷ xs) x all here (suc i) a h = nth_more P xs x (λ j. all (suc j)) here i a h

nth_with : {A : Type 0} (P : A → Type 0) (xs : List A) (k : ℕ) (x : A) → ((i : ℕ) (a : A) → slice_get xs i ≡ Some a → P a) → P x → (i : ℕ) (a : A) → slice_get (set xs k x) i ≡ Some a → P a
nth_with P [] k x all here i a h = let z : ◌≡◌ {A = ℕ} 0 1 = cc in absurd (omega arith)
nth_with P (y ∷ xs) zero x all here zero a h = let e : x ≡ a = cc in subst P e here
nth_with P (y ∷ xs) zero x all here (suc i) a h = all (suc i) a h
nth_with P (y ∷ xs) (suc k) x all here zero a h = all zero a h
nth_with P (y ∷ xs) (suc k) x all here (suc i) a h = nth_with P xs k x (λ j. all (suc j)) here i a h

-- every run is good
all_good : {es : List Event} {ss : List Standing} → After es ss → (i : ℕ) (s : Standing) → slice_get ss i ≡ Some s → Good s
all_good nothing_yet i s h = let z : ◌≡◌ {A = ℕ} 0 1 = cc in absurd (omega arith)
all_good (begins {ss = ss} {p = p} {m = m} o x typed (call.begins fresh none) sound places records cells) i s h = nth_more Good ss _ (all_good x) (begins_good o p m typed fresh none places records cells sound) i s h
all_good (begin_refused x r) i s h = all_good x i s h
all_good (calls {ss = ss} {s = s} {t = t} k x there d) i a h = nth_with Good ss k t (all_good x) (does_good d (all_good x k s there)) i a h

records_of : {B : Book} {R : Rule} {x : Hand} {ε : Around} {ρ : List Row} {S : Store} → Fitting B R (state x ε ρ S) → RecordsFit B R S
records_of (fitting r h a C) = C

module _ (s : Standing) (g : Good s) where
  -- the state that a run stands in fits
  fits : Fitting s.own.book s.own.rule (stands_in s)
  fits =
      let W = well_of s.own.book s.own.top g.typed in
      reached_fits (given_to s) (formed_of s.own.book s.own.top g.typed) W.0 W.1 (was_reached g.worked).1

  -- the top's type is the one that the checker found
  top_is : (z : BType) → type_of s.own.book z ≡ Some g.typed.0 → z ≡ s.own.top
  top_is z e = types_one_to_one s.own.book (accepted g.typed.2.2).stands.distinct z s.own.top g.typed.0 e g.typed.1

  one_of : OneOf (Finished (given_to s) s.own.top (stands_in s) (end_number s.run.end)) (Ended (given_to s) (stands_in s) (end_number s.run.end) (end_node s.run.end)) (Unfinished (given_to s) (stands_in s) (end_number s.run.end))
  one_of =
      let t = (law.one_of_three (given_to s) s.own.most_records s.own.most_cells g.typed.2.2 g.few).1 in
      subst (λ z. OneOf (Finished (given_to s) z (stands_in s) (end_number s.run.end)) (Ended (given_to s) (stands_in s) (end_number s.run.end) (end_node s.run.end)) (Unfinished (given_to s) (stands_in s) (end_number s.run.end)))
      (top_is t.0 t.1) (t.2 s.allowed s.run.steps (end_number s.run.end) (end_node s.run.end) (stands_in s) g.worked)

  kept_of : KeptOf s
  kept_of = record { fits = fits; worked = g.worked; one_of_three = one_of }

  derived : IsDerived s
  derived ce e u A f =
      let d = was_done g.worked f.end in
      let x = law.finished_is_derived (given_to s) A s.own.most_records s.own.most_cells s.run.steps (stands_in s) d.0 d.1 in
      let y = f.stands in
      let v : x.0 ≡ f.value = cc (x.3, y) in
      let m : x.2 ≡ f.store = cc (x.3, y) in
      subst (λ w. Derived (given_to s) ce e w (heap_of s.own.book f.store)) v (subst (λ S. Derived (given_to s) ce e x.0 (heap_of s.own.book S)) m x.4)

  -- what the run shows fits
  done : end_number s.run.end ≡ 0 → (v : Value) × (s.run.hand ≡ Have v) × Fits s.own.rule (store s.store) v s.own.top
  done e =
      let W = well_of s.own.book s.own.top g.typed in
      let x = was_done g.worked e in
      let d = done_with (given_to s) (formed_of s.own.book s.own.top g.typed) W.0 W.1 fits x.1 in
      let i = d.is in
      let h : s.run.hand ≡ Have d.value = cc in
      let m : d.store ≡ store s.store = cc in
      (d.value, h, subst (Fits s.own.rule (store s.store) d.value) (top_is W.0 W.2) (subst (λ S. Fits s.own.rule S d.value W.0) m d.fits))

  shown : Shows s.own.book s.own.rule (store s.store) s.own.top s.run.end s.run.hand
  shown = shows (records_of fits) s.own.top s.run.end s.run.hand done

-- no call gives 23
no_23 : {s t : Standing} {c : Call} → Good s → Does s c t → Gave23 c → ⊥
no_23 g (advances {o = o} {u} {v} {p} {q} {m} {n} {b} {c} adv sound) by_advance = (advance_good o g.typed u v p q m n b c g.places g.worked adv).0 refl
no_23 g (advances_elsewhere {o = o} {u} {v} {p} {q} {r} {m} {n} {b} {c} other adv sound) by_advance = (elsewhere_good o g.typed u v p q r m n b c g.places g.worked other adv).0 refl
no_23 g (questions a) x = elim x [ ]
no_23 g (settles e) x = elim x [ ]
no_23 {s} g (slips x) by_slip = x.answer.1 (shown s g)

none_gave_23 : {es : List Event} {ss : List Standing} → After es ss → (j i : ℕ) (c : Call) → slice_get es j ≡ Some (on i c) → Gave23 c → ⊥
none_gave_23 nothing_yet j i c h x = let z : ◌≡◌ {A = ℕ} 0 1 = cc in omega arith
none_gave_23 (begins o x typed b sound places records cells) zero i c h y = let z : ◌≡◌ {A = ℕ} 0 1 = cc in omega arith
none_gave_23 (begins o x typed b sound places records cells) (suc j) i c h y = none_gave_23 x j i c h y
none_gave_23 (begin_refused x r) zero i c h y = let z : ◌≡◌ {A = ℕ} 0 1 = cc in omega arith
none_gave_23 (begin_refused x r) (suc j) i c h y = none_gave_23 x j i c h y
none_gave_23 (calls {s = s} {c = d} k x there does) zero i c h y = let e : c ≡ d = cc in no_23 (all_good x k s there) does (subst Gave23 e y)
none_gave_23 (calls k x there does) (suc j) i c h y = none_gave_23 x j i c h y

-- two runs alike
module _ (s t : Standing) (g : Good s) (h : Good t) (a : Alike s t) where
  worked_alike : Worked (given_to s) s.own.most_records s.own.most_cells s.allowed (stands_in t) t.run.steps (end_number t.run.end) (end_node t.run.end)
  worked_alike =
      subst (λ o. Worked (own_given o) o.most_records o.most_cells s.allowed (stands_in t) t.run.steps (end_number t.run.end) (end_node t.run.end)) (sym a.own)
      (subst (λ b. Worked (given_to t) t.own.most_records t.own.most_cells b (stands_in t) t.run.steps (end_number t.run.end) (end_node t.run.end)) (sym a.allowed) h.worked)

  both : (s.run.steps ≡ t.run.steps) × (end_number s.run.end ≡ end_number t.run.end) × (end_node s.run.end ≡ end_node t.run.end) × (stands_in s ≅ stands_in t)
  both =
      (law.runs_alike (given_to s) s.own.most_records s.own.most_cells).1 s.allowed s.run.steps t.run.steps (end_number s.run.end) (end_number t.run.end)
      (end_node s.run.end) (end_node t.run.end) (stands_in s) (stands_in t) g.worked worked_alike

  ends_same : s.run.end ≡ t.run.end
  ends_same = same_end s.run.end t.run.end both.1 both.2

  slips_by : stands_in s ≅ stands_in t → slip_bytes s.own.book (store s.store) s.run.end s.run.steps s.run.hand ≡ slip_bytes s.own.book (store t.store) s.run.end s.run.steps t.run.hand
  slips_by (by_naming {β = β} exact (alike hands arounds rows stores)) =
      (same_slip s.own.book s.own.rule s.own.top β (store s.store) (store t.store) s.run.end s.run.steps s.run.hand t.run.hand exact stores hands).bytes

  slips_same : defined_slip s ≡ defined_slip t
  slips_same =
      slips_by both.3
      ∙ (ap (λ B. slip_bytes B (store t.store) s.run.end s.run.steps t.run.hand) (ap (λ o. o.book) a.own)
      ∙ (ap (λ e. slip_bytes t.own.book (store t.store) e s.run.steps t.run.hand) ends_same
      ∙ ap (λ n. slip_bytes t.own.book (store t.store) t.run.end n t.run.hand) both.0))

  same_told : (a b : Told) → a ≡ record { steps = s.run.steps; end = end_number s.run.end; node = end_node s.run.end }
      → b ≡ record { steps = t.run.steps; end = end_number t.run.end; node = end_node t.run.end } → a ≡ b
  same_told a b x y = let n = both.0 in let e = both.1 in let k = both.2 in cc

-- what question and slip were asked of
told_of : {s s' : Standing} {a : Told} → Does s (question a) s' → a ≡ record { steps = s.run.steps; end = end_number s.run.end; node = end_node s.run.end }
told_of (questions x) = x

written_of : {s s' : Standing} {n : ℕ} {x x' : List ℕ} → Does s (slip x (Ok n) x') s' → (n ≡ length (defined_slip s)) × (take n x' ≡ defined_slip s)
written_of {s} {n = n} {x} {x'} (slips p) =
    let w = p.answer in
    (w.2, ap (take n) w.4 ∙ take_at (defined_slip s) (drop n x) n (sym w.2))

same_answers : (s t : Standing) → Good s → Good t → Alike s t → SameAnswers s t
same_answers s t g h a =
    record {
      told = λ s' t' x y d e. same_told s t g h a x y (told_of d) (told_of e);
      slips = λ s' t' m n x x' y y' d e.
          let p = written_of d in
          let q = written_of e in
          let same = slips_same s t g h a in
          (p.0 ∙ (ap length same ∙ sym q.0), p.1, q.1, same);
    }

reached : (o : Own) → IsReached o
reached o ce e u A v h d =
    let far = law.derived_is_reached (own_given o) A o.most_records o.most_cells v h d in (
      far.0,
      λ es ss i s x there own_is enough.
          let w = subst (λ o. Worked (own_given o) o.most_records o.most_cells s.allowed (stands_in s) s.run.steps (end_number s.run.end) (end_node s.run.end)) own_is (all_good x i s there).worked in
          elim (far.1 s.allowed s.run.steps (end_number s.run.end) (end_node s.run.end) (stands_in s) w) [
            | inl early ↦ absurd (omega arith)
            | inr late ↦ late
          ],
    )

pub every_list_of_calls : EveryListOfCalls
every_list_of_calls =
    record {
      no_misfit = λ es ss x. none_gave_23 x;
      each_run = λ es ss x i s there. let g = all_good x i s there in (kept_of s g, derived s g);
      two_runs = λ es es' ss ss' x y i j s t hs ht a. same_answers s t (all_good x i s hs) (all_good y j t ht) a;
      derived_is_reached = reached;
    }
