-- A form is written in printed bytes.
use Rattle.std.proofs.Common.{◌≡◌, ℕ, ◌+◌, ◌%◌, ◌^◌, ◌<◌, ◌≤◌, true, leb, List, [], ◌∷◌, ◌++◌, decimal, refl, ap, ◌∙◌, append_assoc, arith}
use Rattle.std.proofs.lemmas.Fmt.{decimal_by_steps}
use Rattle.std.proofs.lemmas.Bool.{leb-true, le-leb, and_parts, and_from, cond-true}
use Rattle.form.specs.Forms.{Parts, none, number, inner, Tree, written, bytes_of, Letters, Sound, Good}
use Rattle.form.specs.Viewing.{printed, plain}

is_printed : (b : ℕ) → 32 ≤ b → b ≤ 126 → printed b ≡ true
is_printed b l h = and_from (leb 32 b) (leb b 126) (le-leb _ _ l) (le-leb _ _ h)

plain_cons : (b : ℕ) (t : List ℕ) → 32 ≤ b → b ≤ 126 → plain t ≡ true → plain (b ∷ t) ≡ true
plain_cons b t l h p = cond-true (printed b) _ _ (is_printed b l h) ∙ p

letters_plain : (h t : List ℕ) → Letters h → plain t ≡ true → plain (h ++ t) ≡ true
letters_plain [] t l p = p
letters_plain (b ∷ h) t l p =
    let q = and_parts (leb 97 b) (leb b 122) l.0 in
    plain_cons b (h ++ t) (omega (arith, leb-true 97 b q.0)) (omega (arith, leb-true b 122 q.1)) (letters_plain h t l.1 p)

decimal_plain : (n : ℕ) (t : List ℕ) → n < 2 ^ 64 → plain t ≡ true → plain (decimal n ++ t) ≡ true
decimal_plain n t h p =
    decimal_by_steps (λ m ds. (u : List ℕ) → plain u ≡ true → plain (ds ++ u) ≡ true)
    (λ m l u q. plain_cons (48 + m) u (omega arith) (omega arith) q)
    (λ m ds l before u q. ap plain (append_assoc ds ((48 + m % 10) ∷ []) u) ∙ before ((48 + m % 10) ∷ u) (plain_cons (48 + m % 10) u (omega arith) (omega arith) q))
    n h t p

written_plain : (ps : Parts) (t : List ℕ) → Sound ps → plain t ≡ true → plain (written ps ++ t) ≡ true
written_plain none t o p = p
written_plain (number n ps) t o p =
    plain_cons 32 ((decimal n ++ written ps) ++ t) (omega arith) (omega arith)
    (ap plain (append_assoc (decimal n) (written ps) t) ∙ decimal_plain n (written ps ++ t) (omega (arith, o.0)) (written_plain ps t o.1 p))
written_plain (inner h rs ps) t o p =
    let u = (h ++ (written rs ++ 41 ∷ written ps)) ++ t in
    plain_cons 32 (40 ∷ u) (omega arith) (omega arith)
    (plain_cons 40 u (omega arith) (omega arith)
    (ap plain (append_assoc h (written rs ++ 41 ∷ written ps) t)
    ∙ letters_plain h ((written rs ++ 41 ∷ written ps) ++ t) o.0.letters
    (ap plain (append_assoc (written rs) (41 ∷ written ps) t)
    ∙ written_plain rs (41 ∷ (written ps ++ t)) o.1 (plain_cons 41 (written ps ++ t) (omega arith) (omega arith) (written_plain ps t o.2 p)))))

-- the bytes of a form are all printed
pub good_plain : (f : Tree) → Good f → plain (bytes_of f) ≡ true
good_plain f g =
    plain_cons 40 (f.head ++ (written f.parts ++ 41 ∷ [])) (omega arith) (omega arith)
    (letters_plain f.head (written f.parts ++ 41 ∷ []) g.word.letters (written_plain f.parts (41 ∷ []) g.sound refl))
