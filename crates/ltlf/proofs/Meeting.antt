-- Meeting one state after the other.
use Rattle.std.proofs.Common.{◌≡◌, ℕ, zero, suc, ◌+◌, ◌-◌, ◌<◌, ◌≤◌, ltb, List, [], length, get_or, sym, ap, ◌∙◌, inl, inr, add-one, arith}
use Rattle.std.proofs.lemmas.Bool.{lt-ltb, le-ltb, cases_lt, cond-true, cond-false, cond_both}
use Rattle.ltlf.specs.Ltlf.{Ltlf}
use Rattle.ltlf.specs.Automaton.{first, step}
use Rattle.ltlf.specs.Numbering.{place, meet, meets, follow, met, states}
use Rattle.ltlf.proofs.Places.{Begins, begins_same, begins_then, begins_length, begins_has, meet_begins, meet_has}

-- more letters: the states met before stay, and each one met has a place
pub meets_begins : (g : ℕ → ℕ) (m n : ℕ) (ss : List ℕ) → m ≤ n → Begins (meets g m ss) (meets g n ss)
meets_begins g m zero ss h = let e : m ≡ 0 = omega arith in rw e (begins_same ss)
meets_begins g m (suc n) ss h = elim (cases_lt n m) [
  | inl l ↦ (let e : m ≡ suc n = omega arith in rw e (begins_same (meets g (suc n) ss)))
  | inr l ↦ begins_then (meets g m ss) (meets g n ss) (meets g (suc n) ss) (meets_begins g m n ss l) (meet_begins (meets g n ss) (g n))
]

pub meets_mono : (g : ℕ → ℕ) (m n : ℕ) (ss : List ℕ) → m ≤ n → length (meets g m ss) ≤ length (meets g n ss)
meets_mono g m n ss h = begins_length (meets g m ss) (meets g n ss) (meets_begins g m n ss h)

pub meets_has : (g : ℕ → ℕ) (n : ℕ) (ss : List ℕ) (a : ℕ) → a < n → place (g a) (meets g n ss) < length (meets g n ss)
meets_has g n ss a h =
    begins_has (meets g (suc a) ss) (meets g n ss) (meets_begins g (suc a) n ss h) (g a) (meet_has (meets g a ss) (g a))

-- the loop over the letters
pub once_more : (g : ℕ → ℕ) (a s : ℕ) (ss ms ms' : List ℕ) → ms ≡ meets g a ss → s ≡ g a → ms' ≡ meet ms s → ms' ≡ meets g (a + 1) ss
once_more g a s ss ms ms' e h t = t ∙ (ap (λ x. meet x s) e ∙ (ap (meet (meets g a ss)) h ∙ ap (λ x. meets g x ss) (sym (add-one a))))

pub too_many : (g : ℕ → ℕ) (a n s : ℕ) (ss ms : List ℕ) → a < n → ms ≡ meets g a ss → s ≡ g a → 64 < length (meet ms s) → 64 < length (meets g n ss)
too_many g a n s ss ms h e t l =
    let is : length (meet ms s) ≡ length (meets g (suc a) ss) = ap (λ x. length (meet x s)) e ∙ ap (λ x. length (meet (meets g a ss) x)) t in
    omega (arith, is, meets_mono g (suc a) n ss h)

-- more states followed: those met before stay, and once none is left to follow nothing changes
pub follow_known : (f : Ltlf) (n q : ℕ) (ss : List ℕ) → q < length ss → meets (step f (get_or ss q 0)) n ss ≡ follow f n q ss
follow_known f n q ss h = sym (cond-true (ltb q (length ss)) (meets (step f (get_or ss q 0)) n ss) ss (lt-ltb _ _ h))

follow_begins : (f : Ltlf) (n q : ℕ) (ss : List ℕ) → Begins ss (follow f n q ss)
follow_begins f n q ss =
    cond_both (ltb q (length ss)) (meets (step f (get_or ss q 0)) n ss) ss (λ x. Begins ss x)
    (λ e. meets_begins (step f (get_or ss q 0)) 0 n ss (omega arith)) (λ e. begins_same ss)

pub met_begins : (f : Ltlf) (n p q : ℕ) → p ≤ q → Begins (met f n p) (met f n q)
met_begins f n p zero h = let e : p ≡ 0 = omega arith in rw e (begins_same (met f n 0))
met_begins f n p (suc q) h = elim (cases_lt q p) [
  | inl l ↦ (let e : p ≡ suc q = omega arith in rw e (begins_same (met f n (suc q))))
  | inr l ↦ begins_then (met f n p) (met f n q) (met f n (suc q)) (met_begins f n p q l) (follow_begins f n q (met f n q))
]

met_mono : (f : Ltlf) (n p q : ℕ) → p ≤ q → length (met f n p) ≤ length (met f n q)
met_mono f n p q h = begins_length (met f n p) (met f n q) (met_begins f n p q h)

met_closed : (f : Ltlf) (n q d : ℕ) → length (met f n q) ≤ q → met f n (d + q) ≡ met f n q
met_closed f n q zero h = let e : 0 + q ≡ q = omega arith in ap (met f n) e
met_closed f n q (suc d) h =
    let e : suc d + q ≡ suc (d + q) = omega arith in
    let ih : met f n (d + q) ≡ met f n q = met_closed f n q d h in
    ap (met f n) e ∙ (ap (follow f n (d + q)) ih
    ∙ cond-false (ltb (d + q) (length (met f n q))) (meets (step f (get_or (met f n q) (d + q) 0)) n (met f n q)) (met f n q) (le-ltb _ _ (omega arith)))

pub met_whole : (f : Ltlf) (n p q : ℕ) → length (met f n p) ≤ p → p ≤ q → met f n q ≡ met f n p
met_whole f n p q h l =
    let e : q ≡ (q - p) + p = omega arith in
    ap (met f n) e ∙ met_closed f n p (q - p) h

-- the loop over the states
pub followed : (f : Ltlf) (n q : ℕ) (ms ms' : List ℕ) → ms ≡ met f n q → q < length ms → ms' ≡ meets (step f (get_or ms q 0)) n ms → ms' ≡ met f n (q + 1)
followed f n q ms ms' e h t = t ∙ (follow_known f n q ms h ∙ (ap (follow f n q) e ∙ ap (met f n) (sym (add-one q))))

pub all_met : (f : Ltlf) (n q : ℕ) (ms : List ℕ) → ms ≡ met f n q → length ms ≤ q → q ≤ 64 → ms ≡ states f n
unfolding states
all_met f n q ms e h l =
    let low : length (met f n q) ≤ q = omega (arith, ap length e) in
    e ∙ sym (met_whole f n q 64 low l)

pub too_many_first : (f : Ltlf) (n : ℕ) → 64 < length (meets (first f) n []) → 64 < length (states f n)
unfolding states
too_many_first f n h = let m : length (met f n 0) ≤ length (met f n 64) = met_mono f n 0 64 (omega arith) in omega (arith, h, m)

pub too_many_later : (f : Ltlf) (n q : ℕ) (ms : List ℕ) → ms ≡ met f n q → q < length ms → q < 64 → 64 < length (meets (step f (get_or ms q 0)) n ms) → 64 < length (states f n)
unfolding states
too_many_later f n q ms e h l big =
    let m : length (met f n (suc q)) ≤ length (met f n 64) = met_mono f n (suc q) 64 l in
    let is : length (meets (step f (get_or ms q 0)) n ms) ≡ length (met f n (suc q)) = ap length (follow_known f n q ms h ∙ ap (follow f n q) e) in
    omega (arith, big, m, is)
