-- The lines of a job text, as forms.
use Rattle.std.specs.Prelude.{ℕ, suc, cond, List, [], ◌∷◌, ◌++◌, map, length, Some, None, Ok, Err, codes, Option, Result, ◌==◌}
use Rattle.std.specs.List.{flat_map}
use Rattle.std.specs.Option.{option_and_then}
use Rattle.std.specs.Str.{bytes_eq}
use Rattle.chart.specs.declared.leg.Leg.{Leg}
use Rattle.chart.specs.declared.leg.Zone.{Zone}
use Rattle.form.specs.Forms.{Parts, none, number, inner, Tree, bytes_of}
use Rattle.form.specs.Putting.{numbers_of}
use Rattle.form.specs.Reading.{form_of}
use Rattle.form.specs.Viewing.{plain}
use Rattle.form.specs.declared.fault.Fault.TheVariants.{Byte, Shape}
use Rattle.taskform.specs.Spelling.{task_tree}
use Rattle.job.specs.declared.fault.Fault.{Fault}
use Rattle.job.specs.declared.fault.Fault.TheVariants as fault
use Rattle.job.specs.declared.line.Head.{Head}
use Rattle.job.specs.declared.line.Head.TheVariants as head
use Rattle.job.specs.Contents.{Layout, unset, table, bore, Contents}

-- a line of a job; the task's by its form
pub data Row : Type 0 where
  version : ℕ → Row
  marks : ℕ → Row
  stations : ℕ → Row
  label : ℕ → ℕ → Row
  leg : Leg → Row
  boring : ℕ → ℕ → ℕ → Row
  zone : Zone → Row
  task : Tree → Row
  start : ℕ → Row
  lookahead : ℕ → Row

-- a form of a word and numbers
abbrev pub of_numbers : List ℕ → List ℕ → Tree
of_numbers h ns = record { head = h; parts = numbers_of ns }

-- a line's form
abbrev pub tree_of : Row → Tree
tree_of (version n) = of_numbers (codes "job") (n ∷ [])
tree_of (marks n) = of_numbers (codes "marks") (n ∷ [])
tree_of (stations n) = of_numbers (codes "stations") (n ∷ [])
tree_of (label s a) = of_numbers (codes "label") (s ∷ (a ∷ []))
tree_of (leg l) = of_numbers (codes "leg") (l.from ∷ (l.to ∷ (l.seconds ∷ [])))
tree_of (boring n d u) = of_numbers (codes "bore") (n ∷ (d ∷ (u ∷ [])))
tree_of (zone z) = of_numbers (codes "zone") (z.first ∷ (z.last ∷ (z.mark ∷ [])))
tree_of (task f) = record { head = codes "task"; parts = inner f.head f.parts none }
tree_of (start n) = of_numbers (codes "start") (n ∷ [])
tree_of (lookahead n) = of_numbers (codes "lookahead") (n ∷ [])

-- a line's bytes, with its line feed
abbrev pub row_bytes : Row → List ℕ
row_bytes r = bytes_of (tree_of r) ++ 10 ∷ []

-- a label line for each letter but 0, from station s on
abbrev pub label_rows : ℕ → List ℕ → List Row
label_rows s [] = []
label_rows s (a ∷ letters) = cond (a == 0) (label_rows (suc s) letters) (label s a ∷ label_rows (suc s) letters)

-- the lines of a chart
abbrev pub layout_rows : Layout → List Row
layout_rows unset = []
layout_rows (table letters legs) = stations (length letters) ∷ (label_rows 0 letters ++ map leg legs)
layout_rows (bore n d u zones) = boring n d u ∷ map zone zones

-- the lines of a job, in their order
abbrev pub rows_of : Contents → List Row
rows_of j =
    version 1 ∷ (marks j.marks ∷ (layout_rows j.chart
    ++ (task (task_tree j.task) ∷ (start j.start ∷ (lookahead j.lookahead ∷ [])))))

-- the text of a job
abbrev pub writing : Contents → List ℕ
writing j = flat_map row_bytes (rows_of j)

-- what the head of a line stands for
abbrev pub head_of : List ℕ → Option Head
head_of h =
    cond (bytes_eq h (codes "leg")) (Some head.Leg)
    (cond (bytes_eq h (codes "label")) (Some head.Label)
    (cond (bytes_eq h (codes "zone")) (Some head.Zone)
    (cond (bytes_eq h (codes "job")) (Some head.Version)
    (cond (bytes_eq h (codes "marks")) (Some head.Marks)
    (cond (bytes_eq h (codes "stations")) (Some head.Stations)
    (cond (bytes_eq h (codes "bore")) (Some head.Bore)
    (cond (bytes_eq h (codes "task")) (Some head.Task)
    (cond (bytes_eq h (codes "start")) (Some head.Start)
    (cond (bytes_eq h (codes "lookahead")) (Some head.Lookahead) None)))))))))

-- a line of one number, two or three, or of one form
abbrev pub one : (ℕ → Row) → Parts → Option Row
one f none = None
one f (number a none) = Some (f a)
one f (number a (number b ps)) = None
one f (number a (inner h rs ps)) = None
one f (inner h rs ps) = None

abbrev pub two : (ℕ → ℕ → Row) → Parts → Option Row
two f none = None
two f (number a none) = None
two f (number a (number b none)) = Some (f a b)
two f (number a (number b (number c ps))) = None
two f (number a (number b (inner h rs ps))) = None
two f (number a (inner h rs ps)) = None
two f (inner h rs ps) = None

abbrev pub three : (ℕ → ℕ → ℕ → Row) → Parts → Option Row
three f none = None
three f (number a none) = None
three f (number a (number b none)) = None
three f (number a (number b (number c none))) = Some (f a b c)
three f (number a (number b (number c (number d ps)))) = None
three f (number a (number b (number c (inner h rs ps)))) = None
three f (number a (number b (inner h rs ps))) = None
three f (number a (inner h rs ps)) = None
three f (inner h rs ps) = None

abbrev pub single : (Tree → Row) → Parts → Option Row
single f none = None
single f (number a ps) = None
single f (inner h rs none) = Some (f (record { head = h; parts = rs }))
single f (inner h rs (number a ps)) = None
single f (inner h rs (inner g ss ps)) = None

-- the line that a head and parts are, if they are known, of the right sort and count
abbrev pub row_in : Head → Parts → Option Row
row_in head.Version ps = one version ps
row_in head.Marks ps = one marks ps
row_in head.Stations ps = one stations ps
row_in head.Label ps = two label ps
row_in head.Leg ps = three (λ s t w. leg (record { from = s; to = t; seconds = w })) ps
row_in head.Bore ps = three boring ps
row_in head.Zone ps = three (λ a b m. zone (record { first = a; last = b; mark = m })) ps
row_in head.Task ps = single task ps
row_in head.Start ps = one start ps
row_in head.Lookahead ps = one lookahead ps

abbrev pub known : Option Row → Result Row Fault
known None = Err fault.Unknown
known (Some r) = Ok r

abbrev pub formed : Option Tree → Result Row Fault
formed None = Err (fault.Form Shape)
formed (Some f) = known (option_and_then (λ h. row_in h f.parts) (head_of f.head))

-- the first three questions of a line: its bytes, its form, its head and parts
abbrev pub asked : List ℕ → Result Row Fault
asked t = cond (plain t) (formed (form_of t)) (Err (fault.Form Byte))
