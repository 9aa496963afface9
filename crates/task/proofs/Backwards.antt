-- A slice gone over from its last element to its first.
use Rattle.std.proofs.Common.{◌≡◌, List, [], ◌∷◌, ◌++◌, length, ap, ◌∙◌, append_assoc}
use Rattle.std.proofs.lemmas.List.{nil_from_length}

-- the last of those that are left goes over to the rest
pub one_moved : {A : Type 0} (all left less rest : List A) (x : A) → all ≡ left ++ rest → left ≡ less ++ x ∷ [] → all ≡ less ++ x ∷ rest
one_moved all left less rest x front is = front ∙ (ap (λ ys. ys ++ rest) is ∙ append_assoc less (x ∷ []) rest)

pub none_left : {A : Type 0} (all left rest : List A) → all ≡ left ++ rest → length left ≡ 0 → all ≡ rest
none_left all left rest front none = front ∙ ap (λ ys. ys ++ rest) (nil_from_length left none)
