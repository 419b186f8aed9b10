-- What is derived, the machine can do with the same handles, unless a limit stops it.
use Rattle.std.proofs.Common.{◌≡◌, ℕ, Bool, true, false, ltb, ◌⊎◌, List, ◌∷◌, length, set, Some, None, Option, sym, refl, ap, ◌∙◌, inl, inr}
use Rattle.std.specs.List.{slice_get}
use Rattle.book.specs.declared.node.Node.{Node}
use Rattle.book.specs.declared.node.Node.TheVariants.{New, While, FieldWrite}
use Rattle.store.specs.declared.Value.{Value}
use Rattle.store.specs.declared.Value.TheVariants.{Handle}
use Rattle.store.specs.Meaning.{Store, room, added, written}
use Rattle.cool.specs.Syntax.{Name, Expr, Com, while, Method, Class, CE, find, ◌⟨◌⟼◌⟩}
use Rattle.cool.specs.Dynamic.{Loc, Record, object, Heap, Default, with_field, ◌∣◌∣◌⊢◌⇓◌∣◌, ◌∣◌∣◌⊢◌⇓◌, e_literal, e_minus, e_this, e_parameter, e_field, e_call, e_new, e_less, e_equal, e_null, e_object, e_reading, e_assign, e_seq, e_then, e_else, e_stop, e_turn, e_skip}
use Rattle.cool.specs.Book.{Meth, Part, Book, method_of, place}
use Rattle.cool.specs.Says.{◌⊩◌▷◌, ◌⊩◌▷com◌, is_literal, is_minus, is_less, is_equal, is_is_null, is_this, is_parameter, is_field, is_call, is_new, is_reading, is_assign, is_seq, is_if, is_while, is_skip}
use Rattle.cool.proofs.Stands.{Stands, Meant, FieldsAre}
use Rattle.cool.proofs.Keeps.{keeps, keeps_com}
use Rattle.machine.specs.declared.state.Around.{Around}
use Rattle.machine.specs.declared.state.Hand.{Hand}
use Rattle.machine.specs.declared.state.Hand.TheVariants.{Go, Have, Done}
use Rattle.machine.specs.declared.state.Stage.{Stage}
use Rattle.machine.specs.declared.state.Stage.TheVariants.{First, Second, Third, Fourth}
use Rattle.machine.specs.declared.state.Row.{Row}
use Rattle.machine.specs.Fields.{first_values, named, heap_of}
use Rattle.machine.specs.Machine.{row, around, State, state, next, ends, Given, frame, or_ends, or_misfit, unless, two_ints, an_int, a_test, null_or, not_null, the_cell, put_on, step_go, step_have, step_done, step, LineWith, line_next, line_make}
use Rattle.machine.proofs.Stores.{rec}
use Rattle.machine.proofs.Heaps.{find_back, write_named, first_named, Known, known_added, known_written, InStore, look_none, look_some, heap_added, heap_written}

-- every way to go on, opened at once
unfoldable opened : Type 0
unfolding or_ends or_misfit unless two_ints an_int a_test null_or not_null the_cell put_on
opened = Unit {0}

-- any handle will do
abbrev pub Any : ℕ → Type 0
Any l = Unit {0}

module _ (G : Given) where
  -- from s the machine comes to a state of P, or stops at a limit before
  pub data Leads (P : State → Type 0) : State → Type 0 where
    here : {s : State} → P s → Leads P s
    limit : {s : State} {e k : ℕ} → step G s ≡ ends e k → (e ≡ 34) ⊎ (e ≡ 35) → Leads P s
    on : {s t : State} → LineWith Any G s t → Leads P t → Leads P s

  abbrev Bk : Book
  Bk = G.book

  abbrev hp : Store → Heap
  hp S = heap_of G.book S

  module _ (P : State → Type 0) where
    -- a step at a node, by what the node is
    on_go : {k : ℕ} {n : Option Node} {ε : Around} {ρ : List Row} {S : Store} {t : State} → Bk.node k ≡ n → step_go G n k ε ρ S ≡ next t
        → Leads P t → Leads P (state (Go k) ε ρ S)
    on_go {k} {n} {ε} {ρ} {S} e q t = on (line_next (ap (λ x. step_go G x k ε ρ S) e ∙ q)) t

    on_have : {k : ℕ} {n : Option Node} {s : Stage} {v : Value} {ε : Around} {ρ : List Row} {S : Store} {t : State} → Bk.node k ≡ n
        → step_have G (frame n s) k v ε ρ S ≡ next t → Leads P t → Leads P (state (Have v) ε (row k s ∷ ρ) S)
    on_have {k} {n} {s} {v} {ε} {ρ} {S} e q t = on (line_next (ap (λ x. step_have G (frame x s) k v ε ρ S) e ∙ q)) t

    on_done : {k : ℕ} {n : Option Node} {s : Stage} {ε : Around} {ρ : List Row} {S : Store} {t : State} → Bk.node k ≡ n
        → step_done G (frame n s) k ε ρ S ≡ next t → Leads P t → Leads P (state Done ε (row k s ∷ ρ) S)
    on_done {k} {n} {s} {ε} {ρ} {S} e q t = on (line_next (ap (λ x. step_done G (frame x s) k ε ρ S) e ∙ q)) t

    on_push : {k a : ℕ} {n : Option Node} {ε : Around} {ρ : List Row} {S : Store} → Bk.node k ≡ n → step_go G n k ε ρ S ≡ put_on G k a ε ρ S
        → Leads P (state (Go a) ε (row k First ∷ ρ) S) → Leads P (state (Go k) ε ρ S)
    unfolding opened
    on_push {k} {a} {n} {ε} {ρ} {S} e q t = by (ltb (length ρ) G.places) refl
      where
        by : (b : Bool) → ltb (length ρ) G.places ≡ b → Leads P (state (Go k) ε ρ S)
        by true z = on_go e (q ∙ rw z) t
        by false z = limit {k = k} (ap (λ x. step_go G x k ε ρ S) e ∙ (q ∙ rw z)) (inr refl)

    on_new : {k c : ℕ} {p : Part} {ε : Around} {ρ : List Row} {S : Store} (l : ℕ) → Bk.node k ≡ Some (New c) → Bk.class c ≡ Some p → S.look l ≡ None
        → Leads P (state (Have (Handle l)) ε ρ (added S l (rec c (first_values p.fields)))) → Leads P (state (Go k) ε ρ S)
    unfolding opened
    on_new {k} {c} {p} {ε} {ρ} {S} l e i n t = by (room S (length p.fields)) refl
      where
        by : (b : Bool) → room S (length p.fields) ≡ b → Leads P (state (Go k) ε ρ S)
        by true z = on (line_make l e i z tt n) t
        by false z = limit {k = k} (ap (λ x. step_go G x k ε ρ S) e ∙ rw (i, z)) (inl refl)

    module _ {ce : CE} (st : Stands G.book ce) where
      -- an object of the heap, in the store
      found : {h : Heap} {l : ℕ} {x : Name} {r : Record} (S : Store) → h ≡ hp S → h l ≡ Some (object x r) → InStore Bk S l x r
      found {h} {l} {x} {r} S q o = look_some Bk S l x r (sym (ap (λ (g : Heap). g l) q) ∙ o)

      -- a method of the class environment, in the book
      pub record Entry (c : ℕ) (m : Name) (n : Method) : Type 0 where
        pub q : Meth
        pub is : method_of (Bk.class c) m ≡ Some q
        pub means : Meant Bk q n

      entry : {S : Store} {l : ℕ} {x : Name} {r : Record} {k : Class} {n : Method} (m : Name) (I : InStore Bk S l x r) → ce x ≡ Some k → k.methods m ≡ Some n → Entry I.class m n
      entry {k = k} {n} m I e f =
          let s = I.name_is in
          let y = st.method_back I.class I.part k m n I.class_is (ap ce s ∙ e) f in
          let i = I.class_is in
          let j = y.1 in
          record { q = y.0; is = rw (i, j); means = y.2 }

      made_heap : {h h₁ : Heap} (l c : ℕ) (k : Class) (p : Part) (S : Store) → h ≡ hp S → Bk.class c ≡ Some p → FieldsAre Bk p.fields k.fields
          → h₁ ≡ h ⟨ l ⟼ object p.called (Default k.fields) ⟩ → h₁ ≡ hp (added S l (rec c (first_values p.fields)))
      made_heap {h} {h₁} l c k p S q i f e =
          let a = ap (λ (g : Heap). g ⟨ l ⟼ object p.called (Default k.fields) ⟩) q in
          let b = ap (λ (r : Record). hp S ⟨ l ⟼ object p.called r ⟩) (sym (first_named f)) in
          e ∙ a ∙ b ∙ sym (heap_added Bk S l c (first_values p.fields) p i)

      write_heap : {h h₁ : Heap} {l : ℕ} {x : Name} {r : Record} (S : Store) (I : InStore Bk S l x r) (f : Name) {i : ℕ} {u : Value} (v : Value) → h ≡ hp S
          → place I.part.fields f ≡ Some i → slice_get I.values i ≡ Some u
          → h₁ ≡ h ⟨ l ⟼ object x (with_field r f v) ⟩ → h₁ ≡ hp (written S l i v)
      write_heap {h} {h₁} {l} {x} {r} S I f {i} {u} v q y z e =
          let a = ap (λ (g : Heap). g ⟨ l ⟼ object x (with_field r f v) ⟩) q in
          let d = ap (λ (s : Record). with_field s f v) I.record_is ∙ write_named I.part.fields I.values f i u v y z in
          let b = ap (λ (s : Record). hp S ⟨ l ⟼ object x s ⟩) d in
          let c = ap (λ y. hp S ⟨ l ⟼ object y (named I.part.fields (set I.values i v)) ⟩) (sym I.name_is) in
          e ∙ a ∙ b ∙ c ∙ sym (heap_written Bk S l i v I.class I.values I.part I.looks I.class_is)

      -- over every store with that heap
      abbrev Goes : Hand → Around → List Row → Heap → Type 0
      Goes x ε ρ h = (S : Store) → h ≡ hp S → Known Bk S → Leads P (state x ε ρ S)

      -- a field written
      write_at : {h₁ h₂ : Heap} {k a b l : ℕ} {f x : Name} {r : Record} {u : Value} {ε : Around} {ρ : List Row} (v : Value) (S : Store) → Bk.node k ≡ Some (FieldWrite a b f) → h₁ ≡ hp S → Known Bk S
          → InStore Bk S l x r → find r f ≡ Some u → h₂ ≡ h₁ ⟨ l ⟼ object x (with_field r f v) ⟩ → Goes Done ε ρ h₂
          → Leads P (state (Have v) ε (row k (Second (Handle l)) ∷ ρ) S)
      unfolding opened
      write_at {l = l} {f} {u = u} v S n q K I g e t =
          let r_is = I.record_is in
          let z = find_back I.part.fields I.values f u (rw r_is at g) in
          let a = I.looks in
          let b = I.class_is in
          let c = z.1 in
          let d = z.2 in
          on_have n (rw (a, b, c, d)) (t (written S l z.0 v) (write_heap S I f v q z.1 z.2 e) (known_written l z.0 v _ K a))

      mutual
        unfolding opened

        pub sim : {k : ℕ} {n : Option Node} {e : Expr} {h h' : Heap} {℘ : Option Value} {ℓ : Option Loc} {v : Value} → ◌∣◌∣◌⊢◌⇓◌∣◌ ce G.rule G.day h ℘ ℓ e v h' → Bk ⊩ n ▷ e → Bk.node k ≡ n
            → (ρ : List Row) → Goes (Have v) (around ℓ ℘) ρ h' → Goes (Go k) (around ℓ ℘) ρ h
        sim (e_literal w) is_literal n ρ t S q K = on_go n (rw w) (t S q K)
        sim (e_minus x y g) (is_minus a b) n ρ t S q K = on_push n refl (sim x a refl _ (λ S₁ q₁ K₁. on_have n refl (sim y b refl _ (λ S₂ q₂ K₂. on_have n (rw g) (t S₂ q₂ K₂)) S₁ q₁ K₁)) S q K)
        sim (e_less x y) (is_less a b) n ρ t S q K = on_push n refl (sim x a refl _ (λ S₁ q₁ K₁. on_have n refl (sim y b refl _ (λ S₂ q₂ K₂. on_have n refl (t S₂ q₂ K₂)) S₁ q₁ K₁)) S q K)
        sim (e_equal x y) (is_equal a b) n ρ t S q K = on_push n refl (sim x a refl _ (λ S₁ q₁ K₁. on_have n refl (sim y b refl _ (λ S₂ q₂ K₂. on_have n refl (t S₂ q₂ K₂)) S₁ q₁ K₁)) S q K)
        sim (e_null x) (is_is_null a) n ρ t S q K = on_push n refl (sim x a refl _ (λ S₁ q₁ K₁. on_have n refl (t S₁ q₁ K₁)) S q K)
        sim (e_object x) (is_is_null a) n ρ t S q K = on_push n refl (sim x a refl _ (λ S₁ q₁ K₁. on_have n refl (t S₁ q₁ K₁)) S q K)
        sim (e_this e) is_this n ρ t S q K = on_go n (rw e) (t S q K)
        sim (e_parameter e) is_parameter n ρ t S q K = on_go n (rw e) (t S q K)
        sim (e_field {f = f} {v = v} x o g) (is_field a) n ρ t S q K =
            on_push n refl
            (sim x a refl _
            (λ S₁ q₁ K₁.
            let I = found S₁ q₁ o in
            let r_is = I.record_is in
            let z = find_back I.part.fields I.values f v (rw r_is at g) in
            let l_is = I.looks in let c_is = I.class_is in let p_is = z.1 in let g_is = z.2 in on_have n (rw (l_is, c_is, p_is, g_is)) (t S₁ q₁ K₁))
            S q K)
        sim {k = k} {℘ = ℘} {ℓ = ℓ} (e_call {m = m} x y z w o i j) (is_call a b) n ρ t S q K =
            let o₂ = (keeps y).kept _ _ _ o in
            let o₃ = (keeps_com z).kept _ _ _ o₂.1 in
            on_push n refl
            (sim x a refl _
            (λ S₁ q₁ K₁.
            on_have n refl
            (sim y b refl _
            (λ S₂ q₂ K₂.
            let I = found S₂ q₂ o₂.1 in
            let g = entry m I i j in
            let l_is = I.looks in
            let m_is = g.is in
            on_have n (rw (l_is, m_is))
            (sim_com z g.means.body refl (row k (Third (around ℓ ℘)) ∷ ρ)
            (λ S₃ q₃ K₃.
            let J = found S₃ q₃ o₃.1 in
            let f = entry m J i j in
            let l₃ = J.looks in
            let m₃ = f.is in
            on_done n (rw (l₃, m₃)) (sim w f.means.result refl (row k (Fourth (around ℓ ℘)) ∷ ρ) (λ S₄ q₄ K₄. on_have n refl (t S₄ q₄ K₄)) S₃ q₃ K₃))
            S₂ q₂ K₂))
            S₁ q₁ K₁))
            S q K)
        sim (e_new {k = kl} {l = l} f e i) (is_new {c = c} {p = p} j) n ρ t S q K =
            let k' = st.class c p j in
            let same : Some kl ≡ Some k'.0 = sym i ∙ k'.1 in
            let kl_is : kl ≡ k'.0 = cc in
            let fs = k'.2 in
            on_new l n j (look_none Bk S l K (sym (ap (λ (g : Heap). g l) q) ∙ f)) (t _ (made_heap l c kl p S q j (rw kl_is fs) e) (known_added l c (first_values p.fields) K j))
        sim (e_reading x d w) (is_reading a) n ρ t S q K = on_push n refl (sim x a refl _ (λ S₁ q₁ K₁. on_have n (rw (d, w)) (t S₁ q₁ K₁)) S q K)

        pub sim_com : {k : ℕ} {n : Option Node} {c : Com} {h h' : Heap} {℘ : Option Value} {ℓ : Option Loc} → ◌∣◌∣◌⊢◌⇓◌ ce G.rule G.day h ℘ ℓ c h' → Bk ⊩ n ▷com c → Bk.node k ≡ n
            → (ρ : List Row) → Goes Done (around ℓ ℘) ρ h' → Goes (Go k) (around ℓ ℘) ρ h
        sim_com (e_assign {v = v} x y o g e) (is_assign a b) n ρ t S q K =
            on_push n refl (sim x a refl _ (λ S₁ q₁ K₁. on_have n refl (sim y b refl _ (λ S₂ q₂ K₂. write_at v S₂ n q₂ K₂ (found S₂ q₂ o) g e t) S₁ q₁ K₁)) S q K)
        sim_com (e_seq x y) (is_seq a b) n ρ t S q K = on_push n refl (sim_com x a refl _ (λ S₁ q₁ K₁. on_done n refl (sim_com y b refl _ t S₁ q₁ K₁)) S q K)
        sim_com (e_then x y) (is_if a b d) n ρ t S q K = on_push n refl (sim x a refl _ (λ S₁ q₁ K₁. on_have n refl (sim_com y b refl _ t S₁ q₁ K₁)) S q K)
        sim_com (e_else x y) (is_if a b d) n ρ t S q K = on_push n refl (sim x a refl _ (λ S₁ q₁ K₁. on_have n refl (sim_com y d refl _ t S₁ q₁ K₁)) S q K)
        sim_com (e_stop x) (is_while a b) n ρ t S q K = on_push n refl (sim x a refl _ (λ S₁ q₁ K₁. on_have n refl (t S₁ q₁ K₁)) S q K)
        sim_com (e_turn x y z) (is_while a b) n ρ t S q K =
            on_push n refl (sim x a refl _ (λ S₁ q₁ K₁. on_have n refl (sim_com y b refl _ (λ S₂ q₂ K₂. on_done n refl (sim_loop z n a b ρ t S₂ q₂ K₂)) S₁ q₁ K₁)) S q K)
        sim_com e_skip is_skip n ρ t S q K = on_go n refl (t S q K)

        -- a loop whose row stands
        sim_loop : {k i j : ℕ} {e : Expr} {c : Com} {h h' : Heap} {℘ : Option Value} {ℓ : Option Loc} → ◌∣◌∣◌⊢◌⇓◌ ce G.rule G.day h ℘ ℓ (while e c) h' → Bk.node k ≡ Some (While i j)
            → Bk ⊩ Bk.node i ▷ e → Bk ⊩ Bk.node j ▷com c → (ρ : List Row) → Goes Done (around ℓ ℘) ρ h' → Goes (Go i) (around ℓ ℘) (row k First ∷ ρ) h
        sim_loop (e_stop x) n a b ρ t S q K = sim x a refl _ (λ S₁ q₁ K₁. on_have n refl (t S₁ q₁ K₁)) S q K
        sim_loop (e_turn x y z) n a b ρ t S q K = sim x a refl _ (λ S₁ q₁ K₁. on_have n refl (sim_com y b refl _ (λ S₂ q₂ K₂. on_done n refl (sim_loop z n a b ρ t S₂ q₂ K₂)) S₁ q₁ K₁)) S q K
