-- A text that is known byte by byte.
use Rattle.std.proofs.Common.{◌≡◌, ℕ, ◌+◌, List, [], ◌∷◌, length, get_or, drop, ap, ◌∙◌, arith}
use Rattle.std.proofs.lemmas.List.{drop_more, drop_all}

-- the bytes stand in the text from i on, up to its end
abbrev pub Stand : List ℕ → ℕ → List ℕ → Type 0
Stand t i [] = length t ≡ i
Stand t i (b ∷ bs) = (get_or t i 0 ≡ b) × Stand t (i + 1) bs

long : (t : List ℕ) (i : ℕ) (bs : List ℕ) → Stand t i bs → length t ≡ i + length bs
long t i [] h = omega arith
long t i (b ∷ bs) h = omega (arith, long t (i + 1) bs h.1)

from_place : (t : List ℕ) (i : ℕ) (bs : List ℕ) → Stand t i bs → drop i t ≡ bs
from_place t i [] h = drop_all i t (omega arith)
from_place t i (b ∷ bs) h =
    drop_more t i 0 (omega (arith, long t i (b ∷ bs) h)) ∙ (ap (λ x. x ∷ drop (i + 1) t) h.0 ∙ ap (λ x. b ∷ x) (from_place t (i + 1) bs h.1))

pub spelt : (t bs : List ℕ) → Stand t 0 bs → t ≡ bs
spelt t bs h = from_place t 0 bs h
