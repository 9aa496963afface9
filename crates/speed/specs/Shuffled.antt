-- A net for measuring: one chain through all of its 16,384 nodes, in an order that has nothing to do with their numbers, and
-- three arcs from each node to itself.
use Rattle.std.specs.Prelude.{◌≡◌, ℕ, ◌+◌, ◌*◌, ◌%◌, ◌<◌, Bool, true, false, cond, ◌&&◌, Some, None, Option, ◌==◌, nat_lt, refl}
use Rattle.std.proofs.Common.{sym, ◌∙◌, ap, arith}
use Rattle.std.proofs.lemmas.Nat.{mod_below}
use Rattle.std.proofs.lemmas.Bool.{eqb-true, cond-true, and_from, lt-ltb}
use Rattle.best.specs.Paths.{Meaning, Closed, Reverses}

-- the node after u on the chain
abbrev pub after : ℕ → ℕ
after u = (5 * u + 1) % 16384

-- the node before v; 3,277 is the inverse of 5
abbrev pub before : ℕ → ℕ
before v = (3277 * (v + 16383)) % 16384

abbrev pub chain_arc : ℕ → ℕ → Option (ℕ × Unit)
chain_arc u k = cond (nat_lt u 16384 && nat_lt k 4) (Some (cond (k == 0) (after u) u, tt)) None

abbrev pub shuffled : Meaning Unit
shuffled = record { nodes = 16384; numbers = λ _. 4; arc = chain_arc }

-- the other way round; an arc is there only if it is one of the chain
abbrev pub chain_back : ℕ → ℕ → Option (ℕ × Unit)
chain_back v k = cond (nat_lt v 16384 && k == 0) (cond (after (before v) == v) (Some (before v, tt)) None) None

abbrev pub shuffled_back : Meaning Unit
shuffled_back = record { nodes = 16384; numbers = λ _. 1; arc = chain_back }

below : (k u : ℕ) → u < 16384 → cond (k == 0) (after u) u < 16384
below k u h = lower (k == 0)
  where
    lower : (b : Bool) → cond b (after u) u < 16384
    lower true = mod_below (5 * u + 1) 16384 (omega arith)
    lower false = h

pair_is : {a v : ℕ} {w : Unit} (b : Bool) → cond {A = Option (ℕ × Unit)} b (Some (a, tt)) None ≡ Some (v, w) → (b ≡ true) × (a ≡ v)
pair_is {a} {v} {w} true e = let p : ◌≡◌ {A = ℕ × Unit} (a, tt) (v, w) = cc in (refl, ap (λ (t : ℕ × Unit). t.0) p)
pair_is false e = absurd cc

pub shuffled_closed : Closed shuffled
shuffled_closed u k v w h l e = let p = pair_is (nat_lt u 16384 && nat_lt k 4) e in omega (arith, below k u h, p.1)

nested : (b : Bool) (x : Option (ℕ × Unit)) {v : ℕ} {w : Unit} → cond b x None ≡ Some (v, w) → x ≡ Some (v, w)
nested true x e = e
nested false x e = cc

pub shuffled_reverses : Reverses shuffled shuffled_back
shuffled_reverses v k u w h l e =
    let p = pair_is (after (before v) == v) (nested (nat_lt v 16384 && k == 0) (cond (after (before v) == v) (Some (before v, tt)) None) e) in
    let low : u < 16384 = omega (arith, mod_below (3277 * (v + 16383)) 16384 (omega arith), p.1) in
    let to : after u ≡ v = ap after (sym p.1) ∙ eqb-true (after (before v)) v p.0 in
    (low, (0, omega arith, cond-true {A = Option (ℕ × Unit)} (nat_lt u 16384 && nat_lt 0 4) (Some (after u, tt)) None (and_from (nat_lt u 16384) (nat_lt 0 4) (lt-ltb u 16384 low) refl) ∙ ap (λ x. Some (x, tt)) to))
