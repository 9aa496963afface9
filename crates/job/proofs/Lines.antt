-- Lines, put one after another.
use Rattle.std.proofs.Common.{◌≡◌, ℕ, suc, ◌+◌, ◌<◌, Bool, true, false, cond, eqb, List, [], ◌∷◌, ◌++◌, map, length, get_or, take, sym, refl, ap, ◌∙◌, append_assoc, arith}
use Rattle.std.specs.List.{flat_map}
use Rattle.std.proofs.lemmas.List.{append-nil, flat_map_more, length-take, map_more, take_more}
use Rattle.std.proofs.lemmas.Bool.{cond-true, cond-false, ne_eqb}
use Rattle.chart.specs.declared.leg.Leg.{Leg}
use Rattle.taskform.specs.Spelling.{task_tree}
use Rattle.job.specs.Contents.{table, Contents}
use Rattle.job.specs.Rows.{Row, version, marks, stations, label, leg, task, start, lookahead, row_bytes, label_rows, layout_rows, writing}

-- one line more
pub rows_more : {X : Type 0} (f : X → Row) (xs : List X) (i : ℕ) (d : X) → i < length xs
    → flat_map row_bytes (map f (take i xs)) ++ row_bytes (f (get_or xs i d)) ≡ flat_map row_bytes (map f (take (i + 1) xs))
rows_more f xs i d h = flat_map_more row_bytes [] (map f (take i xs)) (f (get_or xs i d)) ∙ ap (flat_map row_bytes) (sym (map_more f xs i d h))

-- one letter more
labels_push : (b : ℕ) (letters : List ℕ) (a : ℕ) → label_rows b (letters ++ a ∷ []) ≡ label_rows b letters ++ label_rows (b + length letters) (a ∷ [])
labels_push b [] a = ap (λ n. label_rows n (a ∷ [])) (omega arith)
labels_push b (x ∷ letters) a = by (eqb x 0) (labels_push (suc b) letters a ∙ ap (λ n. label_rows (suc b) letters ++ label_rows n (a ∷ [])) (omega arith)) where
  by : (y : Bool) → label_rows (suc b) (letters ++ a ∷ []) ≡ label_rows (suc b) letters ++ label_rows (b + suc (length letters)) (a ∷ [])
      → cond y (label_rows (suc b) (letters ++ a ∷ [])) (label b x ∷ label_rows (suc b) (letters ++ a ∷ []))
      ≡ cond y (label_rows (suc b) letters) (label b x ∷ label_rows (suc b) letters) ++ label_rows (b + suc (length letters)) (a ∷ [])
  by true e = e
  by false e = ap (λ l. label b x ∷ l) e

labels_take : (letters : List ℕ) (s : ℕ) → s < length letters
    → label_rows 0 (take (s + 1) letters) ≡ label_rows 0 (take s letters) ++ label_rows s (get_or letters s 0 ∷ [])
labels_take letters s h =
    ap (label_rows 0) (take_more letters s 0 h)
    ∙ (labels_push 0 (take s letters) (get_or letters s 0)
    ∙ ap (λ n. label_rows 0 (take s letters) ++ label_rows n (get_or letters s 0 ∷ [])) (omega (arith, length-take s letters)))

-- a letter that is not 0 has a line, and 0 has none
pub label_more : (letters : List ℕ) (s : ℕ) → s < length letters → (get_or letters s 0 ≡ 0 → ⊥)
    → flat_map row_bytes (label_rows 0 (take s letters)) ++ row_bytes (label s (get_or letters s 0)) ≡ flat_map row_bytes (label_rows 0 (take (s + 1) letters))
label_more letters s h n =
    flat_map_more row_bytes [] (label_rows 0 (take s letters)) (label s (get_or letters s 0))
    ∙ ap (flat_map row_bytes) (sym (labels_take letters s h ∙ ap (λ l. label_rows 0 (take s letters) ++ l) (cond-false (eqb (get_or letters s 0) 0) _ _ (ne_eqb _ 0 n))))

pub label_none : (letters : List ℕ) (s : ℕ) → s < length letters → get_or letters s 0 ≡ 0 → label_rows 0 (take s letters) ≡ label_rows 0 (take (s + 1) letters)
label_none letters s h e =
    sym (labels_take letters s h
    ∙ (ap (λ l. label_rows 0 (take s letters) ++ l) (cond-true (eqb (get_or letters s 0) 0) _ _ (ap (λ a. eqb a 0) e)) ∙ append-nil (label_rows 0 (take s letters))))

-- the lines of two lists, one after the other
joined_append : (rows more : List Row) → flat_map row_bytes (rows ++ more) ≡ flat_map row_bytes rows ++ flat_map row_bytes more
joined_append [] more = refl
joined_append (r ∷ rows) more = ap (λ x. row_bytes r ++ x) (joined_append rows more) ∙ sym (append_assoc (row_bytes r) (flat_map row_bytes rows) (flat_map row_bytes more))

-- the lines of a table
pub table_lines : (letters : List ℕ) (legs : List Leg)
    → (row_bytes (stations (length letters)) ++ flat_map row_bytes (label_rows 0 letters)) ++ flat_map row_bytes (map leg legs)
    ≡ flat_map row_bytes (layout_rows (table letters legs))
table_lines letters legs =
    append_assoc (row_bytes (stations (length letters))) (flat_map row_bytes (label_rows 0 letters)) (flat_map row_bytes (map leg legs))
    ∙ ap (λ x. row_bytes (stations (length letters)) ++ x) (sym (joined_append (label_rows 0 letters) (map leg legs)))

pieces : (a b c d e f : List ℕ) → ((((a ++ b) ++ c) ++ d) ++ e) ++ f ≡ a ++ (b ++ (c ++ (d ++ (e ++ (f ++ [])))))
pieces a b c d e f = simp (append_assoc, append-nil)

-- the lines of a job
pub job_lines : (j : Contents)
    → ((((row_bytes (version 1) ++ row_bytes (marks j.marks)) ++ flat_map row_bytes (layout_rows j.chart))
    ++ row_bytes (task (task_tree j.task))) ++ row_bytes (start j.start)) ++ row_bytes (lookahead j.lookahead) ≡ writing j
job_lines j =
    let last = task (task_tree j.task) ∷ (start j.start ∷ (lookahead j.lookahead ∷ [])) in
    pieces (row_bytes (version 1)) (row_bytes (marks j.marks)) (flat_map row_bytes (layout_rows j.chart))
    (row_bytes (task (task_tree j.task))) (row_bytes (start j.start)) (row_bytes (lookahead j.lookahead))
    ∙ ap (λ x. row_bytes (version 1) ++ (row_bytes (marks j.marks) ++ x)) (sym (joined_append (layout_rows j.chart) last))
