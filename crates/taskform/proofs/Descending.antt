-- What the bytes after a head say of the form's operators.
use Rattle.std.proofs.Common.{◌≡◌, ℕ, ◌+◌, ◌-◌, ◌*◌, ◌%◌, ◌<◌, ◌≤◌, ◌&&◌, ltb, leb, List, [], ◌∷◌, ◌++◌, length, take, drop, IfOk, Some, None, Ok, Err, decimal, Option, Result, sym, refl, ap, ◌∙◌, subst, inl, inr, append_assoc, arith, length-drop, Bor, MatchResult}
use Rattle.std.specs.List.{prefix_len}
use Rattle.std.proofs.lemmas.Fmt.{decimal_by_steps}
use Rattle.std.proofs.lemmas.Bool.{and_parts, leb-true, ltb-true, cases_Bool, cond-true, cond-false}
use Rattle.form.specs.Forms.{Parts, none, number, inner, written, letter, Sound}
use Rattle.form.specs.Reading.{digit}
use Rattle.form.specs.Viewing.{counted, uncounted}
use Rattle.form.proofs.Walking.{letter_stops, digit_stops, word_front, word_rest, number_value, number_rest}
use Rattle.ltlf.specs.declared.operator.Operator.{Operator}
use Rattle.ltlf.specs.declared.operator.Operator.TheVariants.{True, Mark}
use Rattle.taskform.specs.declared.sort.Sort.{Sort}
use Rattle.taskform.specs.declared.sort.Sort.TheVariants as sort
use Rattle.taskform.specs.declared.fault.Fault.{Fault}
use Rattle.taskform.specs.declared.fault.Fault.TheVariants.{NotATask}
use Rattle.taskform.specs.declared.gathered.Gathered.{Gathered}
use Rattle.taskform.specs.Descent.{Descended}
use Rattle.taskform.specs.Gathering.{Holds, Spelt}
use Rattle.taskform.specs.Words.{sort_of}
use Rattle.taskform.specs.Spelling.{alone, numbered, under, under_both, before, before_both, operators_in}

-- the head, and what follows it
pub spelt_head : (h : List ℕ) (ps : Parts) (y t : List ℕ) → Spelt h ps y t → take (prefix_len letter t) t ≡ h
spelt_head h ps y t s =
    ap (λ x. take (prefix_len letter x) x) s.whole ∙ word_front h (written ps ++ 41 ∷ y) s.word.letters (letter_stops ps y)

pub spelt_rest : (h : List ℕ) (ps : Parts) (y t : List ℕ) → Spelt h ps y t → drop (prefix_len letter t) t ≡ written ps ++ 41 ∷ y
spelt_rest h ps y t s =
    ap (λ x. drop (prefix_len letter x) x) s.whole ∙ word_rest h (written ps ++ 41 ∷ y) s.word.letters (letter_stops ps y)

no_bracket : (n : ℕ) → n < 1000000 → (u r : List ℕ) → decimal n ++ u ≡ 40 ∷ r → ⊥
no_bracket n l =
    decimal_by_steps (λ m ds. (u r : List ℕ) → ds ++ u ≡ 40 ∷ r → ⊥)
    (λ m k u r e. let d : 48 + m ≡ 40 = cc in omega arith)
    (λ m ds k f u r e. f ((48 + m % 10) ∷ u) r (sym (append_assoc ds ((48 + m % 10) ∷ []) u) ∙ e))
    n (omega arith)

-- the next byte is a closing bracket only where no part is left
abbrev Closes : Parts → List ℕ → Type 0
Closes ps y = (z : List ℕ) → written ps ++ 41 ∷ y ≡ 41 ∷ z → (ps ≡ none) × (z ≡ y)

closes : (ps : Parts) (y : List ℕ) → Closes ps y
closes none y z e = let k : z ≡ y = cc in (refl, k)
closes (number n ps) y z e = let k : ◌≡◌ {A = ℕ} 32 41 = cc in absurd (omega arith)
closes (inner h rs ps) y z e = let k : ◌≡◌ {A = ℕ} 32 41 = cc in absurd (omega arith)

-- the first part, a form, and what follows it
pub record Opens (ps : Parts) (y r : List ℕ) : Type 0 where
  pub head : List ℕ
  pub parts : Parts
  pub rest : Parts
  pub is : ps ≡ inner head parts rest
  pub sound : Sound rest
  pub spelt : Spelt head parts (written rest ++ 41 ∷ y) r

pub opens : (ps : Parts) (y r : List ℕ) → Sound ps → written ps ++ 41 ∷ y ≡ 32 ∷ (40 ∷ r) → Opens ps y r
opens none y r s e = let k : ◌≡◌ {A = ℕ} 41 32 = cc in absurd (omega arith)
opens (number n ps) y r s e =
    let k : (decimal n ++ written ps) ++ 41 ∷ y ≡ 40 ∷ r = cc in
    absurd (no_bracket n s.0 (written ps ++ 41 ∷ y) r (sym (append_assoc (decimal n) (written ps) (41 ∷ y)) ∙ k))
opens (inner h rs ps) y r s e =
    let k : (h ++ (written rs ++ 41 ∷ written ps)) ++ 41 ∷ y ≡ r = cc in
    record {
      head = h;
      parts = rs;
      rest = ps;
      is = refl;
      sound = s.2;
      spelt = record {
        word = s.0;
        sound = s.1;
        whole = sym k ∙ (append_assoc h (written rs ++ 41 ∷ written ps) (41 ∷ y)
            ∙ ap (λ x. h ++ x) (append_assoc (written rs) (41 ∷ written ps) (41 ∷ y)));
      };
    }

-- a form with a word of no operator
pub no_sort : (h : List ℕ) (ps : Parts) → sort_of h ≡ None → operators_in h ps ≡ None
no_sort h none e = ap alone e
no_sort h (number m none) e = ap (λ s. numbered s m) e
no_sort h (number m (number k ps)) e = refl
no_sort h (number m (inner g rs ps)) e = refl
no_sort h (inner g rs none) e = ap (λ s. under s (operators_in g rs)) e
no_sort h (inner g rs (number m ps)) e = refl
no_sort h (inner g rs (inner k ss none)) e = ap (λ s. under_both s (operators_in g rs) (operators_in k ss)) e
no_sort h (inner g rs (inner k ss (number m ps))) e = refl
no_sort h (inner g rs (inner k ss (inner j ts ps))) e = refl

-- `true`
pub truth_yes : (h : List ℕ) (ps : Parts) (y z : List ℕ) → sort_of h ≡ Some sort.Truth → written ps ++ 41 ∷ y ≡ 41 ∷ z → (operators_in h ps ≡ Some (True ∷ [])) × (z ≡ y)
truth_yes h ps y z e k = let c = closes ps y z k in (ap (operators_in h) c.0 ∙ ap alone e, c.1)

pub truth_no : (h : List ℕ) (ps : Parts) (y : List ℕ) → sort_of h ≡ Some sort.Truth → ((z : List ℕ) → written ps ++ 41 ∷ y ≡ 41 ∷ z → ⊥) → operators_in h ps ≡ None
truth_no h none y e k = absurd (k y refl)
truth_no h (number m none) y e k = ap (λ s. numbered s m) e
truth_no h (number m (number n ps)) y e k = refl
truth_no h (number m (inner g rs ps)) y e k = refl
truth_no h (inner g rs none) y e k = ap (λ s. under s (operators_in g rs)) e
truth_no h (inner g rs (number m ps)) y e k = refl
truth_no h (inner g rs (inner n ss none)) y e k = ap (λ s. under_both s (operators_in g rs) (operators_in n ss)) e
truth_no h (inner g rs (inner n ss (number m ps))) y e k = refl
truth_no h (inner g rs (inner n ss (inner j ts ps))) y e k = refl

-- a mark
module _ (h : List ℕ) (e : sort_of h ≡ Some sort.Marked) where
  mark_form : (g : List ℕ) (rs qs : Parts) → operators_in h (inner g rs qs) ≡ None
  mark_form g rs none = ap (λ s. under s (operators_in g rs)) e
  mark_form g rs (number m ps) = refl
  mark_form g rs (inner n ss none) = ap (λ s. under_both s (operators_in g rs) (operators_in n ss)) e
  mark_form g rs (inner n ss (number m ps)) = refl
  mark_form g rs (inner n ss (inner j ts ps)) = refl

  mark_more : (m : ℕ) (qs : Parts) → (qs ≡ none → ⊥) → operators_in h (number m qs) ≡ None
  mark_more m none k = absurd (k refl)
  mark_more m (number n ps) k = refl
  mark_more m (inner g rs ps) k = refl

  digits : (m : ℕ) (qs : Parts) (y r : List ℕ) → written (number m qs) ++ 41 ∷ y ≡ 32 ∷ r → r ≡ decimal m ++ (written qs ++ 41 ∷ y)
  digits m qs y r k =
      let j : (decimal m ++ written qs) ++ 41 ∷ y ≡ r = cc in
      sym j ∙ append_assoc (decimal m) (written qs) (41 ∷ y)

  value : (m : ℕ) (qs : Parts) (y r : List ℕ) → m < 1000000 → written (number m qs) ++ 41 ∷ y ≡ 32 ∷ r → counted 0 r ≡ m
  value m qs y r l k = ap (counted 0) (digits m qs y r k) ∙ number_value m (written qs ++ 41 ∷ y) l (digit_stops qs y)

  left : (m : ℕ) (qs : Parts) (y r : List ℕ) → m < 1000000 → written (number m qs) ++ 41 ∷ y ≡ 32 ∷ r → uncounted 0 r ≡ written qs ++ 41 ∷ y
  left m qs y r l k = ap (uncounted 0) (digits m qs y r k) ∙ number_rest m (written qs ++ 41 ∷ y) l (digit_stops qs y)

  bracket : (g : List ℕ) (rs qs : Parts) (y r : List ℕ) → written (inner g rs qs) ++ 41 ∷ y ≡ 32 ∷ r → (z : List ℕ) → uncounted 0 r ≡ 41 ∷ z → ⊥
  bracket g rs qs y r k z u =
      let j : 40 ∷ ((g ++ (written rs ++ 41 ∷ written qs)) ++ 41 ∷ y) ≡ r = cc in
      let v : 40 ∷ ((g ++ (written rs ++ 41 ∷ written qs)) ++ 41 ∷ y) ≡ 41 ∷ z = ap (uncounted 0) j ∙ u in
      let w : ◌≡◌ {A = ℕ} 40 41 = cc in omega arith

  pub mark_yes : (ps : Parts) (y r z : List ℕ) → Sound ps → written ps ++ 41 ∷ y ≡ 32 ∷ r → uncounted 0 r ≡ 41 ∷ z → (operators_in h ps ≡ Some (Mark (counted 0 r) ∷ [])) × (z ≡ y)
  mark_yes none y r z s k u = let j : ◌≡◌ {A = ℕ} 41 32 = cc in absurd (omega arith)
  mark_yes (number m qs) y r z s k u =
      let c = closes qs y z (sym (left m qs y r s.0 k) ∙ u) in
      (ap (λ x. operators_in h (number m x)) c.0 ∙ (ap (λ s. numbered s m) e ∙ ap (λ x. Some (Mark x ∷ [])) (sym (value m qs y r s.0 k))), c.1)
  mark_yes (inner g rs ps) y r z s k u = absurd (bracket g rs ps y r k z u)

  pub mark_no : (ps : Parts) (y r : List ℕ) → Sound ps → written ps ++ 41 ∷ y ≡ 32 ∷ r → ((z : List ℕ) → uncounted 0 r ≡ 41 ∷ z → ⊥) → operators_in h ps ≡ None
  mark_no none y r s k u = ap alone e
  mark_no (number m qs) y r s k u = mark_more m qs (λ n. u y (left m qs y r s.0 k ∙ ap (λ x. written x ++ 41 ∷ y) n))
  mark_no (inner g rs ps) y r s k u = mark_form g rs ps

-- an operator of one operand
module _ (h : List ℕ) (o : Operator) (e : sort_of h ≡ Some (sort.Unary o)) where
  pub one_bare : (ps : Parts) (y : List ℕ) → ((r : List ℕ) → written ps ++ 41 ∷ y ≡ 32 ∷ (40 ∷ r) → ⊥) → operators_in h ps ≡ None
  one_bare none y k = ap alone e
  one_bare (number m none) y k = ap (λ s. numbered s m) e
  one_bare (number m (number n ps)) y k = refl
  one_bare (number m (inner g rs ps)) y k = refl
  one_bare (inner g rs ps) y k = absurd (k _ refl)

  one_more : (g : List ℕ) (rs qs : Parts) → (qs ≡ none → ⊥) → operators_in h (inner g rs qs) ≡ None
  one_more g rs none k = absurd (k refl)
  one_more g rs (number m ps) k = refl
  one_more g rs (inner n ss none) k = ap (λ s. under_both s (operators_in g rs) (operators_in n ss)) e
  one_more g rs (inner n ss (number m ps)) k = refl
  one_more g rs (inner n ss (inner j ts ps)) k = refl

  one_form : (g : List ℕ) (rs : Parts) → operators_in h (inner g rs none) ≡ before o (operators_in g rs)
  one_form g rs = ap (λ s. under s (operators_in g rs)) e

  module _ (ps : Parts) (y r : List ℕ) (i : Opens ps y r) where
    pub one_none : operators_in i.head i.parts ≡ None → operators_in h ps ≡ None
    one_none n = ap (operators_in h) i.is ∙ by i.rest n where
      by : (qs : Parts) → operators_in i.head i.parts ≡ None → operators_in h (inner i.head i.parts qs) ≡ None
      by none n = one_form i.head i.parts ∙ ap (before o) n
      by (number m ps) n = refl
      by (inner k ss none) n = ap (λ s. under_both s (operators_in i.head i.parts) (operators_in k ss)) e
      by (inner k ss (number m ps)) n = refl
      by (inner k ss (inner j ts ps)) n = refl

    pub one_yes : (os : List Operator) (z : List ℕ) → operators_in i.head i.parts ≡ Some os → written i.rest ++ 41 ∷ y ≡ 41 ∷ z → (operators_in h ps ≡ Some (o ∷ os)) × (z ≡ y)
    one_yes os z n k =
        let c = closes i.rest y z k in
        (ap (operators_in h) (i.is ∙ ap (inner i.head i.parts) c.0) ∙ (one_form i.head i.parts ∙ ap (before o) n), c.1)

    pub one_no : ((z : List ℕ) → written i.rest ++ 41 ∷ y ≡ 41 ∷ z → ⊥) → operators_in h ps ≡ None
    one_no k = ap (operators_in h) i.is ∙ one_more i.head i.parts i.rest (λ n. k y (ap (λ x. written x ++ 41 ∷ y) n))

-- an operator of two operands
module _ (h : List ℕ) (o : Operator) (e : sort_of h ≡ Some (sort.Binary o)) where
  pub two_bare : (ps : Parts) (y : List ℕ) → ((r : List ℕ) → written ps ++ 41 ∷ y ≡ 32 ∷ (40 ∷ r) → ⊥) → operators_in h ps ≡ None
  two_bare none y k = ap alone e
  two_bare (number m none) y k = ap (λ s. numbered s m) e
  two_bare (number m (number n ps)) y k = refl
  two_bare (number m (inner g rs ps)) y k = refl
  two_bare (inner g rs ps) y k = absurd (k _ refl)

  module _ (ps : Parts) (y r : List ℕ) (i : Opens ps y r) where
    both : (k : List ℕ) (ss : Parts) → operators_in h (inner i.head i.parts (inner k ss none)) ≡ before_both o (operators_in i.head i.parts) (operators_in k ss)
    both k ss = ap (λ s. under_both s (operators_in i.head i.parts) (operators_in k ss)) e

    pub two_none : operators_in i.head i.parts ≡ None → operators_in h ps ≡ None
    two_none n = ap (operators_in h) i.is ∙ by i.rest n where
      by : (qs : Parts) → operators_in i.head i.parts ≡ None → operators_in h (inner i.head i.parts qs) ≡ None
      by none n = ap (λ s. under s (operators_in i.head i.parts)) e
      by (number m ps) n = refl
      by (inner k ss none) n = both k ss ∙ ap (λ x. before_both o x (operators_in k ss)) n
      by (inner k ss (number m ps)) n = refl
      by (inner k ss (inner j ts ps)) n = refl

    pub two_single : ((r : List ℕ) → written i.rest ++ 41 ∷ y ≡ 32 ∷ (40 ∷ r) → ⊥) → operators_in h ps ≡ None
    two_single n = ap (operators_in h) i.is ∙ by i.rest n where
      by : (qs : Parts) → ((r : List ℕ) → written qs ++ 41 ∷ y ≡ 32 ∷ (40 ∷ r) → ⊥) → operators_in h (inner i.head i.parts qs) ≡ None
      by none n = ap (λ s. under s (operators_in i.head i.parts)) e
      by (number m ps) n = refl
      by (inner k ss ps) n = absurd (n _ refl)

    module _ (t : List ℕ) (j : Opens i.rest y t) where
      whole : ps ≡ inner i.head i.parts (inner j.head j.parts j.rest)
      whole = i.is ∙ ap (inner i.head i.parts) j.is

      more : (qs : Parts) → (qs ≡ none → ⊥) → operators_in h (inner i.head i.parts (inner j.head j.parts qs)) ≡ None
      more none k = absurd (k refl)
      more (number m ps) k = refl
      more (inner n ss ps) k = refl

      pub two_second : (os : List Operator) → operators_in i.head i.parts ≡ Some os → operators_in j.head j.parts ≡ None → operators_in h ps ≡ None
      two_second os m n = ap (operators_in h) whole ∙ by j.rest where
        by : (qs : Parts) → operators_in h (inner i.head i.parts (inner j.head j.parts qs)) ≡ None
        by none = both j.head j.parts ∙ (ap (λ x. before_both o x (operators_in j.head j.parts)) m ∙ ap (before_both o (Some os)) n)
        by (number m ps) = refl
        by (inner n ss ps) = refl

      pub two_yes : (os us : List Operator) (z : List ℕ) → operators_in i.head i.parts ≡ Some os → operators_in j.head j.parts ≡ Some us → written j.rest ++ 41 ∷ y ≡ 41 ∷ z → (operators_in h ps ≡ Some (o ∷ (os ++ us))) × (z ≡ y)
      two_yes os us z m n k =
          let c = closes j.rest y z k in (
            ap (operators_in h) (whole ∙ ap (λ x. inner i.head i.parts (inner j.head j.parts x)) c.0)
                ∙ (both j.head j.parts ∙ (ap (λ x. before_both o x (operators_in j.head j.parts)) m ∙ ap (before_both o (Some os)) n)),
            c.1,
          )

      pub two_no : ((z : List ℕ) → written j.rest ++ 41 ∷ y ≡ 41 ∷ z → ⊥) → operators_in h ps ≡ None
      two_no k = ap (operators_in h) whole ∙ more j.rest (λ n. k y (ap (λ x. written x ++ 41 ∷ y) n))

-- a number has at most six digits
pub counted_small : (t : List ℕ) (n : ℕ) → n ≤ 999999 → counted n t ≤ 999999
counted_small [] n l = l
counted_small (b ∷ t) n l =
    elim (cases_Bool (digit b && ltb n 100000)) [
      | inl e ↦ (let p = and_parts (digit b) (ltb n 100000) e in
          let q = and_parts (leb 48 b) (leb b 57) p.0 in
          let small : n * 10 + (b - 48) ≤ 999999 = omega (arith, ltb-true n 100000 p.1, leb-true b 57 q.1) in
          subst (λ (x : ℕ). x ≤ 999999) (sym (cond-true _ (counted (n * 10 + (b - 48)) t) n e)) (counted_small t (n * 10 + (b - 48)) small))
      | inr e ↦ subst (λ (x : ℕ). x ≤ 999999) (sym (cond-false _ (counted (n * 10 + (b - 48)) t) n e)) l
    ]

-- the closing bracket
module _ (h : List ℕ) (ps : Parts) (y : List ℕ) (os us : List Operator) (g : Gathered) (t : List ℕ) where
  pub closing : (r : Result (Bor (List ℕ)) Fault) → MatchResult r (λ rest. t ≡ 41 ∷ rest.now) (λ e. (e ≡ NotATask) × ((z : List ℕ) → t ≡ 41 ∷ z → ⊥))
      → ((z : List ℕ) → t ≡ 41 ∷ z → (operators_in h ps ≡ Some us) × (z ≡ y)) → (((z : List ℕ) → t ≡ 41 ∷ z → ⊥) → operators_in h ps ≡ None)
      → Holds (os ++ us) g → Descended h ps y os g r
  closing (Ok rest) c f n k = let p = f rest.now c in record { operators = us; are = p.0; held = k; left = p.1 }
  closing (Err e) c f n k = (n c.1, c.0)

pub closing_shorter : (s t : List ℕ) (r : Result (Bor (List ℕ)) Fault) → MatchResult r (λ rest. t ≡ 41 ∷ rest.now) (λ e. (e ≡ NotATask) × ((z : List ℕ) → t ≡ 41 ∷ z → ⊥))
    → length t ≤ length s → IfOk r (λ rest. length rest.now ≤ length s)
closing_shorter s t (Ok rest) c l = omega (arith, ap length c)
closing_shorter s t (Err e) c l = tt

-- what is left after a word or a number is no longer than before it
pub word_shorter : (t : List ℕ) → length (drop (prefix_len letter t) t) ≤ length t
word_shorter t = omega (arith, length-drop (prefix_len letter t) t)

pub uncounted_shorter : (t : List ℕ) (n : ℕ) → length (uncounted n t) ≤ length t
uncounted_shorter [] n = omega arith
uncounted_shorter (b ∷ t) n =
    elim (cases_Bool (digit b && ltb n 100000)) [
      | inl e ↦ omega (arith, ap length (cond-true _ (uncounted (n * 10 + (b - 48)) t) (b ∷ t) e), uncounted_shorter t (n * 10 + (b - 48)))
      | inr e ↦ omega (arith, ap length (cond-false _ (uncounted (n * 10 + (b - 48)) t) (b ∷ t) e))
    ]

-- a head that was read, the bytes after it, and what the head takes
pub record Headed (h : List ℕ) (ps : Parts) (y w u : List ℕ) : Type 0 where
  pub word : w ≡ h
  pub rest : u ≡ written ps ++ 41 ∷ y
  pub sound : Sound ps

pub headed : (h : List ℕ) (ps : Parts) (y t w u : List ℕ) → w ≡ take (prefix_len letter t) t → u ≡ drop (prefix_len letter t) t → Spelt h ps y t → Headed h ps y w u
headed h ps y t w u e f s = record { word = e ∙ spelt_head h ps y t s; rest = f ∙ spelt_rest h ps y t s; sound = s.sound }

pub sorted : (h : List ℕ) (ps : Parts) (y w u : List ℕ) (s : Option Sort) → Headed h ps y w u → s ≡ sort_of w → sort_of h ≡ s
sorted h ps y w u s k e = sym (e ∙ ap sort_of k.word)

pub held_as : (os us : List Operator) (o : Operator) (g : Gathered) → Holds ((os ++ o ∷ []) ++ us) g → Holds (os ++ (o ∷ us)) g
held_as os us o g k = subst (λ (x : List Operator). Holds x g) (append_assoc os (o ∷ []) us) k

pub held_both : (os us vs : List Operator) (o : Operator) (g : Gathered) → Holds (((os ++ o ∷ []) ++ us) ++ vs) g → Holds (os ++ (o ∷ (us ++ vs))) g
held_both os us vs o g k = let e : ((os ++ o ∷ []) ++ us) ++ vs ≡ os ++ (o ∷ (us ++ vs)) = simp append_assoc in subst (λ (x : List Operator). Holds x g) e k
