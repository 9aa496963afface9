-- Keeping one operator more.
use Rattle.std.proofs.Common.{◌≡◌, ℕ, ◌+◌, ◌<◌, ◌≤◌, min, max, List, [], ◌∷◌, ◌++◌, length, set, take, sym, ap, ◌∙◌, arith}
use Rattle.std.proofs.lemmas.List.{take_more_set, take_all, length-set, take-append-le, length_push}
use Rattle.ltlf.specs.declared.operator.Operator.{Operator}
use Rattle.taskform.specs.declared.gathered.Gathered.{Gathered}
use Rattle.taskform.specs.Gathering.{marks_for, marks_in, Holds}

marks_push : (os : List Operator) (o : Operator) → marks_in (os ++ o ∷ []) ≡ max (marks_in os) (marks_for o)
marks_push [] o = omega arith
marks_push (p ∷ os) o = omega (arith, marks_push os o)

module _ (os : List Operator) (g : Gathered) (h : Holds os g) (o p : Operator) (n m : ℕ) (e : marks_for o ≡ n) (s : n ≤ 256 → p ≡ o) (k : m ≡ max g.marks n) where
  needs : m ≡ marks_in (os ++ o ∷ [])
  needs = omega (arith, marks_push os o, h.marks)

  few : marks_in (os ++ o ∷ []) ≤ 256 → marks_in os ≤ 256
  few l = omega (arith, marks_push os o)

  module _ (count : ℕ) (counted : count ≡ min (g.count + 1) 18446744073709551615) where
    -- where there is room
    pub held_more : g.count < 64 → Holds (os ++ o ∷ []) (record { operators = set g.operators g.count p; count = count; marks = m })
    held_more l =
        let short : length os < 64 = omega (arith, h.count) in
        let next : count ≡ g.count + 1 = omega (arith, counted) in
        record {
          long = length-set g.operators g.count p ∙ h.long;
          count = omega (arith, counted, h.count, length_push os o);
          marks = needs;
          kept = λ b. ap (λ n. take n (set g.operators g.count p)) next
              ∙ (take_more_set g.operators g.count p (omega (arith, h.long))
              ∙ (ap (λ x. x ++ p ∷ []) (h.kept (few b) ∙ take_all 64 os (omega arith))
              ∙ (ap (λ x. os ++ x ∷ []) (s (omega (arith, marks_push os o)))
              ∙ sym (take_all 64 (os ++ o ∷ []) (omega (arith, length_push os o))))));
        }

    -- where there is none
    pub held_over : 64 ≤ g.count → Holds (os ++ o ∷ []) (record { operators = g.operators; count = count; marks = m })
    held_over l =
        let many : 64 ≤ length os = omega (arith, h.count) in
        let all = take_all count g.operators (omega (arith, h.long, counted)) in
        let before = take_all g.count g.operators (omega (arith, h.long)) in
        record {
          long = h.long;
          count = omega (arith, counted, h.count, length_push os o);
          marks = needs;
          kept = λ b. all ∙ (sym before ∙ (h.kept (few b) ∙ sym (take-append-le 64 os (o ∷ []) many)));
        }
