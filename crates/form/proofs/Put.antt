-- Bytes put into memory, one after another.
use Rattle.std.proofs.Common.{◌≡◌, ℕ, ◌+◌, ◌≤◌, min, List, [], ◌∷◌, ◌++◌, length, take, drop, decimal, refl, sym, ap, ◌∙◌, subst, inl, inr, append_assoc, arith, length-append, length-drop, length-take}
use Rattle.std.proofs.lemmas.List.{append-nil, take_all, take_at, drop_at, drop-drop, take-append-le, take-append-drop}
use Rattle.std.proofs.lemmas.Bool.{cases_lt}
use Rattle.form.specs.Forms.{written}
use Rattle.form.specs.declared.writer.Writer.{Writer}
use Rattle.form.specs.Putting.{put, Puts, Wrote, numbers_of}

put_none : (at : ℕ) (m : List ℕ) → put at [] m ≡ m
put_none at m = ap (λ x. take (length m) (take at m ++ drop x m)) (omega arith) ∙ (ap (take (length m)) (take-append-drop at m) ∙ take_all _ m (omega arith))

-- all of the bytes fit
put_fits : (at : ℕ) (bs m : List ℕ) → at + length bs ≤ length m → put at bs m ≡ take at m ++ (bs ++ drop (at + length bs) m)
put_fits at bs m h = take_all _ _ (simp (length-append, length-take, length-drop) (omega arith))

-- the bytes reach the end of the memory, or go past it
put_past : (at : ℕ) (bs m : List ℕ) → length m ≤ at + length bs → put at bs m ≡ take (length m) (take at m ++ bs)
put_past at bs m h =
    ap (take (length m)) (sym (append_assoc (take at m) bs (drop (at + length bs) m)))
    ∙ take-append-le (length m) (take at m ++ bs) _ (simp (length-append, length-take) (omega arith))

-- the bytes begin past the memory
put_beyond : (at : ℕ) (bs m : List ℕ) → length m ≤ at → put at bs m ≡ m
put_beyond at bs m h =
    put_past at bs m (omega arith) ∙ (ap (λ x. take (length m) (x ++ bs)) (take_all at m h) ∙ take_at m bs (length m) (omega arith))

length_put : (at : ℕ) (bs m : List ℕ) → length (put at bs m) ≡ length m
length_put at bs m = simp (length-append, length-take, length-drop) (omega arith)

-- bytes after bytes, where the first fit
put_inside : (at n : ℕ) (xs ys m : List ℕ) → n ≡ at + length xs → n ≤ length m → put n ys (put at xs m) ≡ put at (xs ++ ys) m
put_inside at n xs ys m e h =
    let p = take at m ++ xs in
    let r = drop (at + length xs) m in
    let k : length p ≡ n = simp (length-append, length-take) (omega arith) in
    let j : at + length xs + length ys ≡ at + length (xs ++ ys) = simp length-append (omega arith) in
    let w : put at xs m ≡ p ++ r = put_fits at xs m (omega arith) ∙ sym (append_assoc (take at m) xs r) in
    let t : take n (put at xs m) ≡ p = ap (take n) w ∙ take_at p r n k in
    let d : drop (n + length ys) (put at xs m) ≡ drop (at + length (xs ++ ys)) m =
    sym (drop-drop (length ys) n (put at xs m))
    ∙ (ap (drop (length ys)) (ap (drop n) w ∙ drop_at p r n k) ∙ (drop-drop (length ys) (at + length xs) m ∙ ap (λ x. drop x m) j)) in
    let rest = drop (at + length (xs ++ ys)) m in
    ap (λ x. take x (take n (put at xs m) ++ (ys ++ drop (n + length ys) (put at xs m)))) (length_put at xs m)
    ∙ ap (take (length m))
    (ap (λ x. x ++ (ys ++ drop (n + length ys) (put at xs m))) t
    ∙ (ap (λ x. p ++ (ys ++ x)) d
    ∙ (append_assoc (take at m) xs (ys ++ rest) ∙ ap (λ x. take at m ++ x) (sym (append_assoc xs ys rest)))))

-- bytes after bytes, where the first do not fit
put_outside : (at n : ℕ) (xs ys m : List ℕ) → length m ≤ at + length xs → length m ≤ n → put n ys (put at xs m) ≡ put at (xs ++ ys) m
put_outside at n xs ys m h l =
    put_beyond n ys (put at xs m) (omega (arith, length_put at xs m))
    ∙ (put_past at xs m h
    ∙ sym (put_past at (xs ++ ys) m (omega (arith, length-append xs ys))
    ∙ (ap (take (length m)) (sym (append_assoc (take at m) xs ys))
    ∙ take-append-le (length m) (take at m ++ xs) ys (simp (length-append, length-take) (omega arith)))))

put_put : (at n : ℕ) (xs ys m : List ℕ) → n ≡ min (at + length xs) 18446744073709551615 → length m ≤ 18446744073709551615
    → put n ys (put at xs m) ≡ put at (xs ++ ys) m
put_put at n xs ys m e h =
    elim (cases_lt (length m) (at + length xs)) [
      | inl p ↦ put_outside at n xs ys m (omega arith) (omega arith)
      | inr p ↦ put_inside at n xs ys m (omega arith) (omega arith)
    ]

puts_none : (at : ℕ) (m : List ℕ) → at ≤ 18446744073709551615 → Puts at [] m at m
puts_none at m h = record { place = omega arith; after = sym (put_none at m) }

puts_then : {at r s : ℕ} {xs ys m n o : List ℕ} → Puts at xs m r n → Puts r ys n s o → length m ≤ 18446744073709551615 → Puts at (xs ++ ys) m s o
puts_then {at} {r} {s} {xs} {ys} {m} {n} {o} p q h =
    record {
      place = q.place ∙ omega (arith, p.place, length-append xs ys);
      after = q.after ∙ (ap (put r ys) p.after ∙ put_put at r xs ys m p.place h);
    }

-- the writer as it was
pub wrote_none : (w : Writer) → Wrote [] w w
wrote_none w = record { same = refl; puts = puts_none w.place w.memory.now w.low }

-- bytes, and then others after them
pub wrote_then : {xs ys : List ℕ} {u v w : Writer} → Wrote xs u v → Wrote ys v w → Wrote (xs ++ ys) u w
wrote_then {xs} {ys} {u} p q = record { same = q.same ∙ p.same; puts = puts_then p.puts q.puts u.long }

-- the same bytes, put by a writer with the same memory at the same place
pub wrote_at : {bs : List ℕ} {u v w : Writer} → v.memory.ghost_name ≡ u.memory.ghost_name → v.memory.now ≡ u.memory.now → v.place ≡ u.place
    → Wrote bs v w → Wrote bs u w
wrote_at {bs} {u} {v} {w} name now place p = record {
  same = p.same ∙ name;
  puts = subst (λ (k : ℕ). Puts k bs u.memory.now w.place w.memory.now) place
      (subst (λ (m : List ℕ). Puts v.place bs m w.place w.memory.now) now p.puts);
}

-- the same bytes by another name
pub wrote_as : {xs ys : List ℕ} {u v : Writer} → xs ≡ ys → Wrote xs u v → Wrote ys u v
wrote_as {xs} {ys} {u} {v} e p = subst (λ (x : List ℕ). Wrote x u v) e p

-- where all of the bytes fit, they stand in the memory, and nothing is cut
pub puts_fits : {at r : ℕ} {bs m n : List ℕ} → Puts at bs m r n → at + length bs ≤ length m → length m ≤ 18446744073709551615
    → (r ≡ at + length bs) × (n ≡ take at m ++ (bs ++ drop (at + length bs) m))
puts_fits {at} {r} {bs} {m} {n} p h l = (p.place ∙ omega arith, p.after ∙ put_fits at bs m h)

-- one more number
pub numbers_more : (ns : List ℕ) (n : ℕ) → written (numbers_of ns) ++ (32 ∷ decimal n) ≡ written (numbers_of (ns ++ n ∷ []))
numbers_more [] n = ap (λ x. 32 ∷ x) (sym (append-nil (decimal n)))
numbers_more (k ∷ ns) n = ap (λ x. 32 ∷ x) (append_assoc (decimal k) (written (numbers_of ns)) (32 ∷ decimal n)) ∙ ap (λ x. 32 ∷ decimal k ++ x) (numbers_more ns n)
