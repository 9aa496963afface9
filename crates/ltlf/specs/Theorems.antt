-- What is proved of the definitions, in the subject's words.
use Rattle.std.specs.Prelude.{◌≡◌, ℕ, ◌<◌, ◌≤◌, List, length, Some, Decides, slice_index}
use Rattle.std.specs.List.{AllByRecursion}
use Rattle.ltlf.specs.Ltlf.{Ltlf, Satisfies}
use Rattle.ltlf.specs.Automaton.{first, steps, accepts}
use Rattle.ltlf.specs.Numbering.{place, states, accepts_by_number}
use Rattle.ltlf.specs.declared.operator.Operator.{Operator}
use Rattle.ltlf.specs.Prefix.{formula}
use Rattle.ltlf.specs.Grammar.{Writes}

-- the automaton accepts exactly the letters that satisfy the formula
abbrev pub AcceptsSatisfying : Type 0
AcceptsSatisfying = (f : Ltlf) (xs : List ℕ) → Decides (accepts f xs) (Satisfies xs f)

-- each letter is below n
abbrev pub LettersBelow : ℕ → List ℕ → Type 0
LettersBelow n xs = AllByRecursion (λ a. a < n) xs

-- a list of states of the automaton over the letters below n, no state twice, and all of them if there are at most 64
pub record ListsStates (f : Ltlf) (n : ℕ) (ss : List ℕ) : Type 0 where
  pub reached : (q : ℕ) → q < length ss
      → (a : ℕ) × (xs : List ℕ) × (a < n) × LettersBelow n xs × (slice_index ss q ≡ steps f (first f a) xs)
  pub apart : (p q : ℕ) → p < length ss → q < length ss → slice_index ss p ≡ slice_index ss q → p ≡ q
  pub whole : length ss ≤ 64 → (a : ℕ) (xs : List ℕ) → a < n → LettersBelow n xs → place (steps f (first f a) xs) ss < length ss

abbrev pub NumbersStates : Type 0
NumbersStates = (f : Ltlf) (n : ℕ) → ListsStates f n (states f n)

-- with at most 64 states, the numbered automaton accepts exactly the letters that satisfy the formula
abbrev pub AcceptsByNumber : Type 0
AcceptsByNumber = (f : Ltlf) (n : ℕ) → length (states f n) ≤ 64
    → (xs : List ℕ) → LettersBelow n xs → Decides (accepts_by_number f n xs) (Satisfies xs f)

-- the formula of a list of operators is the one that the grammar gives it
abbrev pub ReadsGrammar : Type 0
ReadsGrammar = (os : List Operator) (f : Ltlf) → (formula os ≡ Some f → Writes os f) × (Writes os f → formula os ≡ Some f)
