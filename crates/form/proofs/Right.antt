-- Reading undoes writing, and writing reading.
use Rattle.std.proofs.Common.{◌≡◌, ℕ, suc, ◌+◌, ◌-◌, ◌*◌, ◌/◌, ◌%◌, ◌<◌, ◌≤◌, Bool, true, false, cond, ◌&&◌, eqb, ltb, leb, ◌⊎◌, List, [], ◌∷◌, ◌++◌, length, Some, None, decimal, fold, Option, sym, refl, ap, ◌∙◌, subst, inl, inr, append_assoc, arith}
use Rattle.std.proofs.lemmas.List.{append-nil}
use Rattle.std.proofs.lemmas.Fmt.{decimal_digit, decimal_step, decimal_by_steps}
use Rattle.std.proofs.lemmas.Bool.{eqb-true, leb-true, ltb-true, le-leb, lt-ltb, and_parts, and_from, cond-true}
use Rattle.form.specs.Forms.{Parts, none, number, inner, Tree, written, line_of, bytes_of, letter, depth, Letters, Word, Sound, Good}
use Rattle.form.specs.Reading.{with, Frame, State, start, heading, gap, counting, after, done, bad, digit, is_empty, closed, ended, step, made, form_of, ReadingRight}

-- parts after parts
written_with : (ps qs : Parts) → written (with ps qs) ≡ written ps ++ written qs
written_with none qs = refl
written_with (number n ps) qs = ap (λ x. 32 ∷ decimal n ++ x) (written_with ps qs) ∙ simp append_assoc
written_with (inner h rs ps) qs = simp (written_with ps qs, append_assoc)

with_none : (ps : Parts) → with ps none ≡ ps
with_none none = refl
with_none (number n ps) = ap (number n) (with_none ps)
with_none (inner h rs ps) = ap (inner h rs) (with_none ps)

with_with : (ps qs rs : Parts) → with (with ps qs) rs ≡ with ps (with qs rs)
with_with none qs rs = refl
with_with (number n ps) qs rs = ap (number n) (with_with ps qs rs)
with_with (inner h os ps) qs rs = ap (inner h os) (with_with ps qs rs)

-- what the open brackets and what follows them have spelled
abbrev opening : List Frame → List ℕ
opening [] = []
opening (f ∷ fs) = opening fs ++ 40 ∷ (f.head ++ (written f.parts ++ 32 ∷ []))

abbrev spelled : State → List ℕ
spelled start = []
spelled (heading fs h) = opening fs ++ 40 ∷ h
spelled (gap fs h ps) = opening fs ++ 40 ∷ (h ++ (written ps ++ 32 ∷ []))
spelled (counting fs h ps n) = opening fs ++ 40 ∷ (h ++ (written ps ++ 32 ∷ decimal n))
spelled (after fs h ps) = opening fs ++ 40 ∷ (h ++ written ps)
spelled (done h ps) = line_of h ps
spelled bad = []

-- what holds of brackets that are open
abbrev Frames : List Frame → Type 0
Frames [] = Unit {0}
Frames (f ∷ fs) = Word f.head × Sound f.parts × (depth f.parts + suc (length fs) ≤ 16) × Frames fs

abbrev Fine : State → Type 0
Fine start = Unit {0}
Fine (heading fs h) = Letters h × (suc (length fs) ≤ 16) × Frames fs
Fine (gap fs h ps) = Word h × Sound ps × (depth ps + suc (length fs) ≤ 16) × Frames fs
Fine (counting fs h ps n) = Word h × Sound ps × (depth ps + suc (length fs) ≤ 16) × Frames fs × (n < 1000000)
Fine (after fs h ps) = Word h × Sound ps × (depth ps + suc (length fs) ≤ 16) × Frames fs
Fine (done h ps) = Word h × Sound ps × (suc (depth ps) ≤ 16)
Fine bad = Unit {0}

-- a step from s by b comes to u: the bytes grow by b, and what is open stays fine
record Steps (s : State) (b : ℕ) (u : State) : Type 0 where
  grows : spelled u ≡ spelled s ++ b ∷ []
  fine : Fine u

abbrev Stepped : State → ℕ → State → Type 0
Stepped s b u = (u ≡ bad) ⊎ Steps s b u

letters_push : (h : List ℕ) (b : ℕ) → Letters h → letter b ≡ true → Letters (h ++ b ∷ [])
letters_push [] b l e = (e, tt)
letters_push (x ∷ h) b l e = (l.0, letters_push h b l.1 e)

sound_with : (ps qs : Parts) → Sound ps → Sound qs → Sound (with ps qs)
sound_with none qs p q = q
sound_with (number n ps) qs p q = (p.0, sound_with ps qs p.1 q)
sound_with (inner h rs ps) qs p q = (p.0, p.1, sound_with ps qs p.2 q)

depth_with : (ps qs : Parts) (k : ℕ) → depth ps ≤ k → depth qs ≤ k → depth (with ps qs) ≤ k
depth_with none qs k p q = q
depth_with (number n ps) qs k p q = depth_with ps qs k p q
depth_with (inner h rs ps) qs k p q = let e = depth_with ps qs k (omega arith) q in omega arith

-- by a test
by_cond : (b : Bool) (s : State) (x : ℕ) (u v : State) → (b ≡ true → Stepped s x u) → (b ≡ false → Stepped s x v) → Stepped s x (cond b u v)
by_cond true s x u v p q = p refl
by_cond false s x u v p q = q refl

-- the bytes of s, one by one
closed_spelled : (fs : List Frame) (h : List ℕ) (ps : Parts) → spelled (closed fs h ps) ≡ (opening fs ++ 40 ∷ (h ++ written ps)) ++ 41 ∷ []
closed_spelled [] h ps = simp append_assoc
closed_spelled (f ∷ fs) h ps = simp (written_with f.parts (inner h ps none), append_assoc)

closed_fine : (fs : List Frame) (h : List ℕ) (ps : Parts) → Word h → Sound ps → depth ps + suc (length fs) ≤ 16 → Frames fs → Fine (closed fs h ps)
closed_fine [] h ps w o d f = (w, o, omega arith)
closed_fine (g ∷ fs) h ps w o d f = (
  f.0,
  sound_with g.parts (inner h ps none) f.1 (w, o, tt),
  (let k = depth_with g.parts (inner h ps none) (15 - length fs) (omega (arith, f.2)) (omega arith) in omega (arith, f.2)),
  f.3,
)

-- a part has ended at s
ended_steps : (s : State) (b : ℕ) (fs : List Frame) (h : List ℕ) (ps : Parts) → spelled s ≡ opening fs ++ 40 ∷ (h ++ written ps)
    → Word h → Sound ps → depth ps + suc (length fs) ≤ 16 → Frames fs → Stepped s b (ended b fs h ps)
ended_steps s b fs h ps e w o d f =
    by_cond (eqb b 32) s b _ _
    (λ t. inr (record { grows = simp (eqb-true b 32 t, e, append_assoc); fine = (w, o, d, f) }))
    (λ _. by_cond (eqb b 41) s b _ _
    (λ t. inr (record { grows = closed_spelled fs h ps ∙ simp (eqb-true b 41 t, e); fine = closed_fine fs h ps w o d f }))
    (λ _. inl refl))

digit_parts : (b : ℕ) → digit b ≡ true → (48 ≤ b) × (b ≤ 57)
digit_parts b t = let p = and_parts (leb 48 b) (leb b 57) t in (leb-true 48 b p.0, leb-true b 57 p.1)

some_from : (h : List ℕ) → is_empty h ≡ false → 0 < length h
some_from [] e = let z : ◌≡◌ {A = ℕ} 0 1 = cc in omega arith
some_from (x ∷ h) e = omega arith

first_digit : (b : ℕ) → 48 ≤ b → b ≤ 57 → decimal (b - 48) ≡ b ∷ []
first_digit b l u = decimal_digit (b - 48) (omega arith) ∙ ap (λ x. x ∷ []) (omega arith)

next_digit : (n b : ℕ) → 0 < n → n < 100000 → 48 ≤ b → b ≤ 57 → decimal (n * 10 + (b - 48)) ≡ decimal n ++ b ∷ []
next_digit n b p q l u =
    decimal_step (n * 10 + (b - 48)) (omega arith) (omega arith)
    ∙ ap (λ x. decimal x ++ ((48 + (n * 10 + (b - 48)) % 10) ∷ [])) (omega arith)
    ∙ ap (λ x. decimal n ++ x ∷ []) (omega arith)

step_steps : (s : State) (b : ℕ) → Fine s → Stepped s b (step s b)
step_steps start b f = by_cond (eqb b 40) start b _ _ (λ t. inr (record { grows = simp (eqb-true b 40 t); fine = (tt, omega arith, tt) })) (λ _. inl refl)
step_steps (heading fs h) b f =
    by_cond (letter b) (heading fs h) b _ _
    (λ t. inr (record { grows = simp append_assoc; fine = (letters_push h b f.0 t, f.1, f.2) }))
    (λ _. by_cond (is_empty h) (heading fs h) b _ _
    (λ _. inl refl)
    (λ e. ended_steps (heading fs h) b fs h none (simp append-nil) (record { some = some_from h e; letters = f.0 }) tt (omega (arith, f.1)) f.2))
step_steps (gap fs h ps) b f =
    by_cond (digit b) (gap fs h ps) b _ _
    (λ t. let d = digit_parts b t in inr (record { grows = simp (first_digit b d.0 d.1, append_assoc); fine = (f.0, f.1, f.2, f.3, omega (arith, d.0, d.1)) }))
    (λ _. by_cond (eqb b 40 && ltb (length fs) 15) (gap fs h ps) b _ _
    (λ t. let p = and_parts (eqb b 40) (ltb (length fs) 15) t in
    inr (record { grows = simp (eqb-true b 40 p.0); fine = (tt, omega (arith, ltb-true (length fs) 15 p.1), (f.0, f.1, f.2, f.3)) }))
    (λ _. inl refl))
step_steps (counting fs h ps n) b f =
    by_cond (digit b && (ltb 0 n && ltb n 100000)) (counting fs h ps n) b _ _
    (λ t. let p = and_parts (digit b) (ltb 0 n && ltb n 100000) t in
    let q = and_parts (ltb 0 n) (ltb n 100000) p.1 in
    let d = digit_parts b p.0 in
    let lo = ltb-true 0 n q.0 in
    let hi = ltb-true n 100000 q.1 in
    inr (record { grows = simp (next_digit n b lo hi d.0 d.1, append_assoc); fine = (f.0, f.1, f.2, f.3, omega (arith, d.0, d.1)) }))
    (λ _. ended_steps (counting fs h ps n) b fs h (with ps (number n none))
    (simp (written_with ps (number n none), append-nil)) f.0 (sound_with ps (number n none) f.1 (f.4, tt))
    (let k = depth_with ps (number n none) (15 - length fs) (omega (arith, f.2)) (omega arith) in omega (arith, f.2)) f.3)
step_steps (after fs h ps) b f = ended_steps (after fs h ps) b fs h ps refl f.0 f.1 f.2 f.3
step_steps (done h ps) b f = inl refl
step_steps bad b f = inl refl

-- a whole run
bad_stays : (t : List ℕ) → fold step bad t ≡ bad
bad_stays [] = refl
bad_stays (b ∷ t) = bad_stays t

record Ran (s : State) (t : List ℕ) (u : State) : Type 0 where
  grows : spelled u ≡ spelled s ++ t
  fine : Fine u

run : (t : List ℕ) (s : State) → Fine s → (fold step s t ≡ bad) ⊎ Ran s t (fold step s t)
run [] s f = inr (record { grows = sym (append-nil (spelled s)); fine = f })
run (b ∷ t) s f =
    elim (step_steps s b f) [
      | inl e ↦ inl (ap (λ u. fold step u t) e ∙ bad_stays t)
      | inr g ↦ elim (run t (step s b) g.fine) [
        | inl e ↦ inl e
        | inr r ↦ inr (record { grows = r.grows ∙ (ap (λ x. x ++ t) g.grows ∙ append_assoc (spelled s) (b ∷ []) t); fine = r.fine })
      ]
    ]

not_some : {X : Type 0} (o : Option X) (x : X) → o ≡ None → o ≡ Some x → ⊥
not_some o x n e = let z : ◌≡◌ {A = ℕ} 0 1 = cc in omega arith

pub same_some : {X : Type 0} (x y : X) → Some x ≡ Some y → x ≡ y
same_some x y e = cc

done_writes : (h : List ℕ) (ps : Parts) (t : List ℕ) → (done h ps ≡ bad) ⊎ Ran start t (done h ps) → (t ≡ line_of h ps) × Good (record { head = h; parts = ps })
done_writes h ps t (inl e) = let z : ◌≡◌ {A = ℕ} 0 1 = cc in absurd (omega arith)
done_writes h ps t (inr r) = (sym r.grows, record { word = r.fine.0; sound = r.fine.1; deep = r.fine.2 })

made_writes : (u : State) (t : List ℕ) (f : Tree) → (u ≡ bad) ⊎ Ran start t u → made u ≡ Some f → (t ≡ bytes_of f) × Good f
made_writes start t f r e = absurd (not_some _ f refl e)
made_writes (heading fs h) t f r e = absurd (not_some _ f refl e)
made_writes (gap fs h ps) t f r e = absurd (not_some _ f refl e)
made_writes (counting fs h ps n) t f r e = absurd (not_some _ f refl e)
made_writes (after fs h ps) t f r e = absurd (not_some _ f refl e)
made_writes (done h ps) t f r e = subst (λ (x : Tree). (t ≡ bytes_of x) × Good x) (same_some (record { head = h; parts = ps }) f e) (done_writes h ps t r)
made_writes bad t f r e = absurd (not_some _ f refl e)

writes : (t : List ℕ) (f : Tree) → form_of t ≡ Some f → (t ≡ bytes_of f) × Good f
writes t f e = made_writes (fold step start t) t f (run t start tt) e

-- a state at which a head or a part has ended
record Ready (s : State) (fs : List Frame) (h : List ℕ) (ps : Parts) : Type 0 where
  space : step s 32 ≡ gap fs h ps
  close : step s 41 ≡ closed fs h ps

folded_append : (xs ys : List ℕ) (s : State) → fold step s (xs ++ ys) ≡ fold step (fold step s xs) ys
folded_append [] ys s = refl
folded_append (x ∷ xs) ys s = folded_append xs ys (step s x)

letter_steps : (g h : List ℕ) (fs : List Frame) → Letters g → fold step (heading fs h) g ≡ heading fs (h ++ g)
letter_steps [] h fs l = ap (heading fs) (sym (append-nil h))
letter_steps (b ∷ g) h fs l =
    ap (λ u. fold step u g) (cond-true (letter b) _ _ l.0)
    ∙ (letter_steps g (h ++ b ∷ []) fs l.1 ∙ ap (heading fs) (append_assoc h (b ∷ []) g))

pub is_digit : (d : ℕ) → d < 10 → digit (48 + d) ≡ true
is_digit d h = and_from (leb 48 (48 + d)) (leb (48 + d) 57) (le-leb _ _ (omega arith)) (le-leb _ _ (omega arith))

digit_steps : (n : ℕ) (fs : List Frame) (h : List ℕ) (ps : Parts) → n < 1000000 → fold step (gap fs h ps) (decimal n) ≡ counting fs h ps n
digit_steps n fs h ps small =
    decimal_by_steps (λ m ds. m < 1000000 → fold step (gap fs h ps) ds ≡ counting fs h ps m)
    (λ m l _. cond-true (digit (48 + m)) _ _ (is_digit m l) ∙ ap (counting fs h ps) (omega arith))
    (λ m ds l before bound.
    let r : m % 10 < 10 = omega arith in
    let lo : 0 < m / 10 = omega arith in
    let hi : m / 10 < 100000 = omega arith in
    folded_append ds ((48 + m % 10) ∷ []) (gap fs h ps)
    ∙ (ap (λ u. step u (48 + m % 10)) (before (omega arith))
    ∙ (cond-true _ _ _ (and_from _ _ (is_digit (m % 10) r) (and_from _ _ (lt-ltb _ _ lo) (lt-ltb _ _ hi)))
    ∙ ap (counting fs h ps) (omega arith))))
    n (omega arith) small

word_ready : (h : List ℕ) (fs : List Frame) → 0 < length h → Ready (heading fs h) fs h none
word_ready [] fs l = absurd (omega arith)
word_ready (b ∷ h) fs l = record { space = refl; close = refl }

-- what reading parts comes to
record Read (s : State) (t : List ℕ) (fs : List Frame) (h : List ℕ) (ps : Parts) : Type 0 where
  at : State
  ready : Ready at fs h ps
  comes : fold step s t ≡ at

parts_steps : (ps : Parts) (s : State) (fs : List Frame) (h : List ℕ) (qs : Parts) → Ready s fs h qs → Sound ps → depth ps + suc (length fs) ≤ 16
    → Read s (written ps) fs h (with qs ps)
parts_steps none s fs h qs r o d = record { at = s; ready = subst (λ x. Ready s fs h x) (sym (with_none qs)) r; comes = refl }
parts_steps (number n ps) s fs h qs r o d =
    let m = parts_steps ps (counting fs h qs n) fs h (with qs (number n none)) (record { space = refl; close = refl }) o.1 d in
    record {
      at = m.at;
      ready = subst (λ x. Ready m.at fs h x) (with_with qs (number n none) ps) m.ready;
      comes = ap (λ u. fold step u (decimal n ++ written ps)) r.space
          ∙ (folded_append (decimal n) (written ps) (gap fs h qs)
          ∙ (ap (λ u. fold step u (written ps)) (digit_steps n fs h qs o.0) ∙ m.comes));
    }
parts_steps (inner g rs ps) s fs h qs r o d =
    let here : Frame = record { head = h; parts = qs } in
    let low : length fs < 15 = omega arith in
    let i = parts_steps rs (heading (here ∷ fs) g) (here ∷ fs) g none (word_ready g (here ∷ fs) o.0.some) o.1 (omega arith) in
    let m = parts_steps ps (after fs h (with qs (inner g rs none))) fs h (with qs (inner g rs none)) (record { space = refl; close = refl }) o.2 (omega arith) in
    record {
      at = m.at;
      ready = subst (λ x. Ready m.at fs h x) (with_with qs (inner g rs none) ps) m.ready;
      comes = ap (λ u. fold step u (40 ∷ g ++ (written rs ++ 41 ∷ written ps))) r.space
          ∙ (ap (λ u. fold step u (g ++ (written rs ++ 41 ∷ written ps))) (cond-true (ltb (length fs) 15) _ _ (lt-ltb _ _ low))
          ∙ (folded_append g (written rs ++ 41 ∷ written ps) (heading (here ∷ fs) [])
          ∙ (ap (λ u. fold step u (written rs ++ 41 ∷ written ps)) (letter_steps g [] (here ∷ fs) o.0.letters)
          ∙ (folded_append (written rs) (41 ∷ written ps) (heading (here ∷ fs) g)
          ∙ (ap (λ u. fold step (step u 41) (written ps)) i.comes
          ∙ (ap (λ u. fold step u (written ps)) i.ready.close ∙ m.comes))))));
    }

reads : (f : Tree) → Good f → form_of (bytes_of f) ≡ Some f
reads f g =
    let h = f.head in
    let i = parts_steps f.parts (heading [] h) [] h none (word_ready h [] g.word.some) g.sound (omega (arith, g.deep)) in
    ap made
    (folded_append h (written f.parts ++ 41 ∷ []) (heading [] [])
    ∙ (ap (λ u. fold step u (written f.parts ++ 41 ∷ [])) (letter_steps h [] [] g.word.letters)
    ∙ (folded_append (written f.parts) (41 ∷ []) (heading [] h)
    ∙ (ap (λ u. step u 41) i.comes ∙ i.ready.close))))

pub reading_right : ReadingRight
reading_right = record { reads = reads; writes = writes }
