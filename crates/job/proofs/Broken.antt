-- A job's text and its lines, whatever a line is asked.
use Rattle.std.proofs.Common.{◌≡◌, ℕ, suc, ◌+◌, ◌<◌, Bool, true, false, cond, eqb, List, [], ◌∷◌, ◌++◌, length, Ok, Err, Result, sym, refl, ap, ◌∙◌, append_assoc, arith, length-append}
use Rattle.std.specs.List.{flat_map}
use Rattle.std.proofs.lemmas.List.{append-nil}
use Rattle.std.proofs.lemmas.Bool.{cond-true, cond-false, eqb-true, ne_eqb}
use Rattle.form.specs.Forms.{Good, bytes_of}
use Rattle.job.specs.declared.fault.Fault.{Fault}
use Rattle.job.specs.Contents.{Contents}
use Rattle.job.specs.Rows.{Row, tree_of, row_bytes, asked}
use Rattle.job.specs.Taking.{Draft, rank, taken}
use Rattle.job.specs.Texts.{Unbroken, then, line_taken, on, unended, read_on}
use Rattle.job.proofs.Lined.{unbroken_row, asked_row, asked_came}

-- whether a job was read to its end
abbrev pub whole : Draft → Bool
whole d = eqb (rank d.place) 8

-- a whole line
line_read : (as' t : List ℕ) (d : Draft) (bs : List ℕ) (n : ℕ) → Unbroken as'
    → read_on d bs n (as' ++ 10 ∷ t) ≡ on (line_taken d (bs ++ as')) n t (λ e. read_on e [] (suc n) t)
line_read [] t d bs n u = ap (λ x. on (line_taken d x) n t (λ e. read_on e [] (suc n) t)) (sym (append-nil bs))
line_read (a ∷ as') t d bs n u =
    cond-false (eqb a 10) _ _ (ne_eqb a 10 u.0)
    ∙ (line_read as' t d (bs ++ a ∷ []) n u.1
    ∙ ap (λ x. on (line_taken d x) n t (λ e. read_on e [] (suc n) t)) (append_assoc bs (a ∷ []) as'))

-- what has no line feed
pub end_read : (as' : List ℕ) (d : Draft) (bs : List ℕ) (n : ℕ) → Unbroken as' → read_on d bs n as' ≡ Err (record { fault = unended (bs ++ as'); line = n })
end_read [] d bs n u = ap (λ x. Err (record { fault = unended x; line = n })) (sym (append-nil bs))
end_read (a ∷ as') d bs n u =
    cond-false (eqb a 10) _ _ (ne_eqb a 10 u.0)
    ∙ (end_read as' d (bs ++ a ∷ []) n u.1 ∙ ap (λ x. Err (record { fault = unended x; line = n })) (append_assoc bs (a ∷ []) as'))

-- one line, by what it makes of the job
module _ (d : Draft) (left bs rest : List ℕ) (n : ℕ) (e : left ≡ bs ++ 10 ∷ rest) (u : Unbroken bs) where
  step : (r : Result Draft Fault) → line_taken d bs ≡ r → read_on d [] n left ≡ on r n rest (λ m. read_on m [] (suc n) rest)
  step r g = ap (read_on d [] n) e ∙ (line_read bs rest d [] n u ∙ ap (λ x. on x n rest (λ m. read_on m [] (suc n) rest)) g)

  pub line_refused : (f : Fault) → line_taken d bs ≡ Err f → read_on d [] n left ≡ Err (record { fault = f; line = n })
  line_refused f g = step (Err f) g

  pub line_done : (m : Draft) → line_taken d bs ≡ Ok m → whole m ≡ true → read_on d [] n left ≡ Ok (m.job, rest)
  line_done m g t = step (Ok m) g ∙ cond-true (whole m) _ _ t

  pub line_next : (m : Draft) → line_taken d bs ≡ Ok m → whole m ≡ false → read_on d [] n left ≡ read_on m [] (n + 1) rest
  line_next m g t = step (Ok m) g ∙ (cond-false (whole m) _ _ t ∙ ap (λ x. read_on m [] x rest) (omega arith))

  pub line_shorter : length rest < length left
  line_shorter = omega (arith, ap length e, length-append bs (10 ∷ rest))

-- lines that are taken one after the other, none of them when the job is whole, lead from one draft to another
pub data Takes : Draft → List Row → Draft → Type 0 where
  stay : {d : Draft} → Takes d [] d
  go : {d m e : Draft} {r : Row} {rows : List Row} → Good (tree_of r) → whole d ≡ false → taken d r ≡ Ok m → Takes m rows e → Takes d (r ∷ rows) e

pub takes_append : {d m e : Draft} {xs ys : List Row} → Takes d xs m → Takes m ys e → Takes d (xs ++ ys) e
takes_append stay v = v
takes_append (go g p k w) v = go g p k (takes_append w v)

-- none is taken of a whole job
takes_none : {d e : Draft} {rows : List Row} → Takes d rows e → whole d ≡ true → (rows ≡ []) × (d ≡ e)
takes_none stay y = (refl, refl)
takes_none (go _ n _ _) y = let z : ◌≡◌ {A = ℕ} 0 1 = cc in absurd (omega arith)

-- the text of lines that lead to a whole job is read as that job
pub takes_read : (d e : Draft) (rows : List Row) (n : ℕ) (rest : List ℕ) → Takes d rows e → whole d ≡ false → whole e ≡ true
    → read_on d [] n (flat_map row_bytes rows ++ rest) ≡ Ok (e.job, rest)
takes_read d _ _ n rest stay p q = cc
takes_read d e _ n rest (go {m = m} {r = r} {rows = rows} g _ k w) p q = by (whole m) refl (λ y. takes_read m e rows (n + 1) rest w y q) where
  text : flat_map row_bytes (r ∷ rows) ++ rest ≡ bytes_of (tree_of r) ++ 10 ∷ (flat_map row_bytes rows ++ rest)
  text = append_assoc (row_bytes r) (flat_map row_bytes rows) rest ∙ append_assoc (bytes_of (tree_of r)) (10 ∷ []) (flat_map row_bytes rows ++ rest)

  line : line_taken d (bytes_of (tree_of r)) ≡ Ok m
  line = ap (λ x. then x d) (asked_row r g) ∙ k

  by : (b : Bool) → whole m ≡ b → (whole m ≡ false → read_on m [] (n + 1) (flat_map row_bytes rows ++ rest) ≡ Ok (e.job, rest))
      → read_on d [] n (flat_map row_bytes (r ∷ rows) ++ rest) ≡ Ok (e.job, rest)
  by true y f =
      let l = takes_none w y in
      line_done d _ (bytes_of (tree_of r)) _ n text (unbroken_row r g) m line y
      ∙ (ap (λ x. Ok (x.job, flat_map row_bytes rows ++ rest)) l.1 ∙ ap (λ x. Ok (e.job, flat_map row_bytes x ++ rest)) l.0)
  by false y f = line_next d _ (bytes_of (tree_of r)) _ n text (unbroken_row r g) m line y ∙ f y

-- what was read as a job is the text of lines that lead to it
pub record Came (d : Draft) (t : List ℕ) (j : Contents) (rest : List ℕ) : Type 0 where
  pub rows : List Row
  pub end : Draft
  pub text : t ≡ flat_map row_bytes rows ++ rest
  pub takes : Takes d rows end
  pub ends : whole end ≡ true
  pub job : end.job ≡ j

-- a line before them
came_more : (d m : Draft) (bs t : List ℕ) (j : Contents) (rest : List ℕ) → whole d ≡ false → line_taken d bs ≡ Ok m → Came m t j rest
    → Came d (bs ++ 10 ∷ t) j rest
came_more d m bs t j rest p k c = by (asked bs) refl k where
  by : (x : Result Row Fault) → asked bs ≡ x → then x d ≡ Ok m → Came d (bs ++ 10 ∷ t) j rest
  by (Err f) a k = let z : ◌≡◌ {A = ℕ} 0 1 = cc in absurd (omega arith)
  by (Ok r) a k =
      let q = asked_came bs r a in
      record {
        rows = r ∷ c.rows;
        end = c.end;
        text =
            ap (λ x. x ++ 10 ∷ t) q.0
            ∙ (ap (λ x. bytes_of (tree_of r) ++ 10 ∷ x) c.text
            ∙ (sym (append_assoc (bytes_of (tree_of r)) (10 ∷ []) (flat_map row_bytes c.rows ++ rest))
            ∙ sym (append_assoc (row_bytes r) (flat_map row_bytes c.rows) rest)));
        takes = go q.1 p k c.takes;
        ends = c.ends;
        job = c.job;
      }

pub read_came : (t : List ℕ) (d : Draft) (bs : List ℕ) (n : ℕ) (j : Contents) (rest : List ℕ) → whole d ≡ false → read_on d bs n t ≡ Ok (j, rest)
    → Came d (bs ++ t) j rest
read_came [] d bs n j rest p e = let z : ◌≡◌ {A = ℕ} 0 1 = cc in absurd (omega arith)
read_came (b ∷ t) d bs n j rest p e =
    by (eqb b 10) refl (λ m y f. read_came t m [] (suc n) j rest y f) (λ f. read_came t d (bs ++ b ∷ []) n j rest p f) e where
      Next : Type 0
      Next = (m : Draft) → whole m ≡ false → read_on m [] (suc n) t ≡ Ok (j, rest) → Came m t j rest

      ended : Next → (m : Draft) (x : Bool) → whole m ≡ x → cond x (Ok (m.job, t)) (read_on m [] (suc n) t) ≡ Ok (j, rest) → Came m t j rest
      ended next m true y e =
          let q : ◌≡◌ {A = Contents × List ℕ} (m.job, t) (j, rest) = cc in
          record { rows = []; end = m; text = ap (λ x. x.1) q; takes = stay; ends = y; job = ap (λ x. x.0) q }
      ended next m false y e = next m y e

      took : Next → (x : Result Draft Fault) → line_taken d bs ≡ x → on x n t (λ m. read_on m [] (suc n) t) ≡ Ok (j, rest) → Came d (bs ++ 10 ∷ t) j rest
      took next (Err f) k e = let z : ◌≡◌ {A = ℕ} 0 1 = cc in absurd (omega arith)
      took next (Ok m) k e = came_more d m bs t j rest p k (ended next m (whole m) refl e)

      by : (x : Bool) → eqb b 10 ≡ x → Next → (read_on d (bs ++ b ∷ []) n t ≡ Ok (j, rest) → Came d ((bs ++ b ∷ []) ++ t) j rest)
          → cond x (on (line_taken d bs) n t (λ m. read_on m [] (suc n) t)) (read_on d (bs ++ b ∷ []) n t) ≡ Ok (j, rest) → Came d (bs ++ b ∷ t) j rest
      by true y next later e = rw (eqb-true b 10 y) (took next (line_taken d bs) refl e)
      by false y next later e = rw append_assoc at (later e)
