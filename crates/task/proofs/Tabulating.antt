-- Tables that are filled while states are met: letter by letter, and then state by state.
use Rattle.std.proofs.Common.{◌≡◌, ℕ, ◌+◌, ◌<◌, ◌≤◌, ◌≢◌, List, [], length, get_or, set, sym, ap, ◌∙◌, subst, inl, inr, arith, get_or-set_other, get_or-set_same, below_more}
use Rattle.std.proofs.lemmas.Bool.{cases_lt}
use Rattle.ltlf.specs.Ltlf.{Ltlf}
use Rattle.ltlf.specs.Automaton.{first, step}
use Rattle.ltlf.specs.Numbering.{place, meet, met, states}
use Rattle.ltlf.proofs.Places.{Begins, begins_length, begins_at, begins_place, begins_has, meet_keeps, front_length}
use Rattle.ltlf.proofs.Meeting.{meets_begins, meets_has, once_more, followed, all_met}
use Rattle.task.specs.Listed.{listed}
use Rattle.task.specs.Rows.{entry}
use Rattle.task.specs.Tables.{Tabled, Tabulates}
use Rattle.task.specs.declared.tables.Tables.{Tables}
use Rattle.task.proofs.Places.{meet_place}

-- letter by letter
tabled_known : (g : ℕ → ℕ) (n : ℕ) (ss ts : List ℕ) (h : ℕ → ℕ) → Tabled g n ss ts h → (a : ℕ) → a < n → place (g a) ts < length ts
tabled_known g n ss ts h t a l =
    let P : List ℕ → Type 0 = λ x. place (g a) x < length x in
    subst P (sym t.lists) (meets_has g n ss a l)

tabled_more : (g : ℕ → ℕ) (a s v : ℕ) (ss ms ts : List ℕ) (h k : ℕ → ℕ) → Tabled g a ss ms h → s ≡ g a → v ≡ place s ms → ts ≡ meet ms s
    → ((b : ℕ) → b < a → k b ≡ h b) → k a ≡ v → Tabled g (a + 1) ss ts k
tabled_more g a s v ss ms ts h k t is number e kept here = record {
  lists = once_more g a s ss ms ts t.lists is e;
  numbers = below_more (λ b. k b ≡ place (g b) ts) a
      (λ b l. kept b l ∙ (t.numbers b l ∙ sym (ap (place (g b)) e ∙ meet_keeps ms (g b) s (tabled_known g a ss ms h t b l))))
      (here ∙ (number ∙ (sym (meet_place ms s) ∙ (ap (place s) (sym e) ∙ ap (λ x. place x ts) is))));
}

pub row_more : (g : ℕ → ℕ) (a s v : ℕ) (ss ms ts xs : List ℕ) → s ≡ g a → v ≡ place s ms → ts ≡ meet ms s → a < length xs
    → Tabled g a ss ms (λ b. get_or xs b 0) → Tabled g (a + 1) ss ts (λ b. get_or (set xs a v) b 0)
row_more g a s v ss ms ts xs is number e h t =
    tabled_more g a s v ss ms ts (λ b. get_or xs b 0) (λ b. get_or (set xs a v) b 0) t is number e
    (λ b l. let ne : b ≢ a = omega arith in get_or-set_other xs a b v 0 ne)
    (get_or-set_same xs a v 0 h)

-- state by state: the states once those numbered below q are followed, the table of the first letters, and the rows below q
pub record Built (f : Ltlf) (n q : ℕ) (ss xs : List ℕ) (ys : List (List ℕ)) : Type 0 where
  pub lists : ss ≡ met f n q
  pub reached : q ≤ length ss
  pub starts : (a : ℕ) → a < n → (get_or xs a 0 ≡ place (first f a) ss) × (place (first f a) ss < length ss)
  pub steps : (p a : ℕ) → p < q → a < n
      → (entry ys p a ≡ place (step f (get_or ss p 0) a) ss) × (place (step f (get_or ss p 0) a) ss < length ss)

pub built_first : (f : Ltlf) (n : ℕ) (ss xs : List ℕ) (ys : List (List ℕ)) → Tabled (first f) n [] ss (λ a. get_or xs a 0) → Built f n 0 ss xs ys
built_first f n ss xs ys t = record {
  lists = t.lists;
  reached = omega arith;
  starts = λ a l. (t.numbers a l, tabled_known (first f) n [] ss (λ a. get_or xs a 0) t a l);
  steps = λ p a h l. let z : ⊥ = omega arith in elim z [ ];
}

module _ (f : Ltlf) (n q : ℕ) (ss ts xs us : List ℕ) (ys zs : List (List ℕ)) (built : Built f n q ss xs ys) (known : q < length ss)
    (t : Tabled (step f (get_or ss q 0)) n ss ts (entry zs q)) (same : us ≡ xs)
    (kept : (k : ℕ) → k < q → get_or zs k [] ≡ get_or ys k []) where
  begins : Begins ss ts
  begins = subst (Begins ss) (sym t.lists) (meets_begins (step f (get_or ss q 0)) 0 n ss (omega arith))

  Step : ℕ → ℕ → ℕ → Type 0
  Step p a s = (entry zs p a ≡ place (step f s a) ts) × (place (step f s a) ts < length ts)

  step_old : (p a : ℕ) → p < q → a < n → Step p a (get_or ss p 0)
  unfolding Step
  step_old p a h l =
      let at = built.steps p a h l in (
        ap (λ row. get_or row a 0) (kept p h) ∙ (at.0 ∙ sym (begins_place ss ts begins (step f (get_or ss p 0) a) at.1)),
        begins_has ss ts begins (step f (get_or ss p 0) a) at.1,
      )

  step_new : (a : ℕ) → a < n → Step q a (get_or ss q 0)
  unfolding Step
  step_new a l = (t.numbers a l, tabled_known (step f (get_or ss q 0)) n ss ts (entry zs q) t a l)

  step_each : (p a : ℕ) → p < q + 1 → a < n → Step p a (get_or ts p 0)
  step_each p a h l =
      subst (Step p a) (sym (begins_at ss ts begins p (omega arith)))
      (elim (cases_lt p q) [
        | inl old ↦ step_old p a old l
        | inr last ↦ (let e : q ≡ p = omega arith in subst (λ x. Step x a (get_or ss x 0)) e (step_new a l))
      ])

  pub built_more : Built f n (q + 1) ts us zs
  unfolding Step
  built_more = record {
    lists = followed f n q ss ts built.lists known t.lists;
    reached = omega (arith, begins_length ss ts begins);
    starts = λ a l. let at = built.starts a l in
        (ap (λ x. get_or x a 0) same ∙ (at.0 ∙ sym (begins_place ss ts begins (first f a) at.1)), begins_has ss ts begins (first f a) at.1);
    steps = step_each;
  }

pub tabulates : (f : Ltlf) (n q : ℕ) (t : Tables) → Built f n q (listed t.numbered) t.first t.next → t.numbered.count ≤ q → q ≤ 64
    → Tabulates f n t
tabulates f n q t built last low =
    let m = t.numbered in
    let fits : m.count ≤ length m.states = omega (arith, m.fits, m.whole) in
    let long = front_length 0 m.count m.states fits in
    let all : listed m ≡ states f n = all_met f n q (listed m) built.lists (omega arith) low in
    record {
      lists = all;
      starts = λ a h. (built.starts a h).0 ∙ ap (place (first f a)) all;
      steps = λ p a h l. (built.steps p a (omega arith) l).0 ∙ ap (λ ss. place (step f (get_or ss p 0) a) ss) all;
    }
