-- A text cut at its first line feed.
use Rattle.std.specs.List.{AllWithin, HoldsAt}
use Rattle.std.proofs.Common.{◌≡◌, ℕ, zero, suc, Some, None, Option, MatchOption, ◌+◌, ◌-◌, ◌<◌, ◌≤◌, Bool, true, false, cond, leb, List, [], ◌∷◌, ◌++◌, length, get_or, take, drop, sym, refl, ap, ◌∙◌, subst, arith, length-drop}
use Rattle.std.proofs.lemmas.List.{take_more, drop_more, take-append-drop, take_all}
use Rattle.std.proofs.lemmas.Bool.{and_parts, leb-true}
use Rattle.form.specs.Viewing.{printed, plain}
use Rattle.job.specs.Texts.{Unbroken}

unbroken_push : (bs : List ℕ) (b : ℕ) → Unbroken bs → (b ≡ 10 → ⊥) → Unbroken (bs ++ b ∷ [])
unbroken_push [] b u n = (n, tt)
unbroken_push (x ∷ bs) b u n = (u.0, unbroken_push bs b u.1 n)

unbroken_more : (t : List ℕ) (i : ℕ) → i < length t → Unbroken (take i t) → (get_or t i 0 ≡ 10 → ⊥) → Unbroken (take (i + 1) t)
unbroken_more t i h u n = subst (λ (x : List ℕ). Unbroken x) (sym (take_more t i 0 h)) (unbroken_push (take i t) (get_or t i 0) u n)

unbroken_within : (t : List ℕ) (n : ℕ) → n ≤ length t → AllWithin (λ b. b ≡ 10 → ⊥) t 0 n → Unbroken (take n t)
unbroken_within t zero h all = tt
unbroken_within t (suc n) h all =
    subst (λ (k : ℕ). Unbroken (take k t)) (let e : n + 1 ≡ suc n = omega arith in e)
    (unbroken_more t n (omega arith) (unbroken_within t n (omega arith) (λ k d low high. all k d low (omega arith))) (all n 0 (omega arith) (omega arith)))

-- the text is what stands before the line feed at i, and it, and what stands after it
cut_at : (t : List ℕ) (i : ℕ) → i < length t → get_or t i 0 ≡ 10 → t ≡ take i t ++ 10 ∷ take (length t - (i + 1)) (drop (i + 1) t)
cut_at t i h e =
    sym (take-append-drop i t)
    ∙ ap (λ x. take i t ++ x) (drop_more t i 0 h ∙ (ap (λ x. x ∷ drop (i + 1) t) e ∙ ap (λ x. 10 ∷ x) (sym (take_all _ (drop (i + 1) t) (omega (arith, length-drop (i + 1) t))))))

-- the first line feed, if there is one, cuts the text
abbrev pub Cuts : List ℕ → Option ℕ → Type 0
Cuts t None = Unbroken t
Cuts t (Some i) = (t ≡ take i t ++ 10 ∷ take (length t - (i + 1)) (drop (i + 1) t)) × Unbroken (take i t)

pub first_cut : (t : List ℕ) (r : Option ℕ)
    → MatchOption r (AllWithin (λ b. b ≡ 10 → ⊥) t 0 (length t)) (λ i. (i < length t) × HoldsAt (λ b. b ≡ 10) t i × AllWithin (λ b. b ≡ 10 → ⊥) t 0 i)
    → Cuts t r
first_cut t None all = subst Unbroken (take_all (length t) t (omega arith)) (unbroken_within t (length t) (omega arith) all)
first_cut t (Some i) (within, at, before) = (cut_at t i within (at 0), unbroken_within t i (omega arith) before)

-- a line feed breaks what it stands in
pub broken : (a s : List ℕ) → Unbroken (a ++ 10 ∷ s) → ⊥
broken [] s u = u.0 refl
broken (x ∷ a) s u = broken a s u.1

-- there is one first line feed
pub cut_once : (a b s t : List ℕ) → Unbroken a → Unbroken b → a ++ 10 ∷ s ≡ b ++ 10 ∷ t → (a ≡ b) × (s ≡ t)
cut_once [] [] s t u v e = let k : s ≡ t = cc in (refl, k)
cut_once [] (y ∷ b) s t u v e = let k : y ≡ 10 = cc in absurd (v.0 k)
cut_once (x ∷ a) [] s t u v e = let k : x ≡ 10 = cc in absurd (u.0 k)
cut_once (x ∷ a) (y ∷ b) s t u v e =
    let k : x ≡ y = cc in
    let f : a ++ 10 ∷ s ≡ b ++ 10 ∷ t = cc in
    let r = cut_once a b s t u.1 v.1 f in
    (ap (λ z. z ∷ a) k ∙ ap (λ z. y ∷ z) r.0, r.1)

cond_parts : (x y : Bool) → cond x y false ≡ true → (x ≡ true) × (y ≡ true)
cond_parts true y e = (refl, e)
cond_parts false y e = let z : ◌≡◌ {A = ℕ} 0 1 = cc in absurd (omega arith)

-- a printed byte is no line feed
pub unbroken_plain : (t : List ℕ) → plain t ≡ true → Unbroken t
unbroken_plain [] p = tt
unbroken_plain (b ∷ t) p =
    let q = cond_parts (printed b) (plain t) p in
    let r = and_parts (leb 32 b) (leb b 126) q.0 in
    ((λ e. omega (arith, leb-true 32 b r.0)), unbroken_plain t q.1)
