-- From what a form's reader shows to the line.
use Rattle.std.proofs.Common.{◌≡◌, ℕ, ◌<◌, true, List, [], ◌∷◌, length, Some, None, Ok, Err, Option, Result, sym, refl, ap, ◌∙◌, subst, arith}
use Rattle.std.specs.Option.{option_and_then}
use Rattle.std.proofs.lemmas.Bool.{cond-true}
use Rattle.form.specs.Forms.{Parts, none, number, inner, Tree, Good, bytes_of, line_of as form_bytes}
use Rattle.form.specs.Reading.{form_of}
use Rattle.form.specs.Viewing.{Piece, value, bracketed, pieces, piece, Shows, plain}
use Rattle.form.specs.declared.view.Part.{Part}
use Rattle.form.specs.declared.view.Part.TheVariants as part
use Rattle.form.specs.declared.view.Parts.{Parts as Shown}
use Rattle.form.specs.declared.view.Parts.TheVariants as shown
use Rattle.form.proofs.Right.{reading_right}
use Rattle.form.proofs.Walking.{sub_good}
use Rattle.job.specs.declared.fault.Fault.{Fault}
use Rattle.job.specs.declared.fault.Fault.TheVariants as fault
use Rattle.job.specs.declared.line.Head.{Head}
use Rattle.job.specs.declared.line.Head.TheVariants as head
use Rattle.job.specs.declared.line.Line.{Line}
use Rattle.job.specs.declared.line.Line.TheVariants as line
use Rattle.job.specs.declared.line.Values.{Values}
use Rattle.job.specs.declared.line.Values.TheVariants.{One, Two, Three, Form}
use Rattle.job.specs.Rows.{Row, version, marks, stations, label, leg, boring, zone, task, start, lookahead, head_of, one, two, three, single, row_in, known, formed, asked}
use Rattle.job.specs.Lining.{seen, one_of, two_of, three_of, form_in, line_of, Is, Asks}

-- parts, from their pieces
pieces_nil : (ps : Parts) → pieces ps ≡ [] → ps ≡ none
pieces_nil none e = refl
pieces_nil (number n ps) e = let z : ◌≡◌ {A = ℕ} 0 1 = cc in absurd (omega arith)
pieces_nil (inner h rs ps) e = let z : ◌≡◌ {A = ℕ} 0 1 = cc in absurd (omega arith)

record Valued (ps : Parts) (m : ℕ) (qs : List Piece) : Type 0 where
  rest : Parts
  whole : ps ≡ number m rest
  left : pieces rest ≡ qs

pieces_value : (ps : Parts) (m : ℕ) (qs : List Piece) → pieces ps ≡ value m ∷ qs → Valued ps m qs
pieces_value none m qs e = let z : ◌≡◌ {A = ℕ} 0 1 = cc in absurd (omega arith)
pieces_value (number n ps) m qs e = let k : n ≡ m = cc in let q : pieces ps ≡ qs = cc in record { rest = ps; whole = ap (λ x. number x ps) k; left = q }
pieces_value (inner h rs ps) m qs e = let z : ◌≡◌ {A = ℕ} 0 1 = cc in absurd (omega arith)

record Inside (ps : Parts) (t : List ℕ) (qs : List Piece) : Type 0 where
  head : List ℕ
  parts : Parts
  rest : Parts
  whole : ps ≡ inner head parts rest
  text : t ≡ form_bytes head parts
  left : pieces rest ≡ qs

pieces_inner : (ps : Parts) (t : List ℕ) (qs : List Piece) → pieces ps ≡ bracketed t ∷ qs → Inside ps t qs
pieces_inner none t qs e = let z : ◌≡◌ {A = ℕ} 0 1 = cc in absurd (omega arith)
pieces_inner (number n ps) t qs e = let z : ◌≡◌ {A = ℕ} 0 1 = cc in absurd (omega arith)
pieces_inner (inner h rs ps) t qs e =
    let k : t ≡ form_bytes h rs = cc in let q : pieces ps ≡ qs = cc in record { head = h; parts = rs; rest = ps; whole = refl; text = k; left = q }

-- parts that no line has
abbrev Unfit : Parts → Type 0
Unfit ps =
    ((f : ℕ → Row) → one f ps ≡ None) × ((f : ℕ → ℕ → Row) → two f ps ≡ None)
    × ((f : ℕ → ℕ → ℕ → Row) → three f ps ≡ None) × ((f : Tree → Row) → single f ps ≡ None)

unfit_none : Unfit none
unfit_none = ((λ f. refl), (λ f. refl), (λ f. refl), (λ f. refl))

unfit_form : (m : ℕ) (h : List ℕ) (rs ps : Parts) → Unfit (number m (inner h rs ps))
unfit_form m h rs ps = ((λ f. refl), (λ f. refl), (λ f. refl), (λ f. refl))

unfit_form_2 : (m n : ℕ) (h : List ℕ) (rs ps : Parts) → Unfit (number m (number n (inner h rs ps)))
unfit_form_2 m n h rs ps = ((λ f. refl), (λ f. refl), (λ f. refl), (λ f. refl))

unfit_after : (h : List ℕ) (rs ps : Parts) → 0 < length (pieces ps) → Unfit (inner h rs ps)
unfit_after h rs none l = absurd (omega arith)
unfit_after h rs (number m ps) l = ((λ f. refl), (λ f. refl), (λ f. refl), (λ f. refl))
unfit_after h rs (inner g ss ps) l = ((λ f. refl), (λ f. refl), (λ f. refl), (λ f. refl))

unfit_many : (ps : Parts) → 3 < length (pieces ps) → Unfit ps
unfit_many none l = absurd (omega arith)
unfit_many (inner h rs ps) l = unfit_after h rs ps (omega arith)
unfit_many (number a none) l = absurd (omega arith)
unfit_many (number a (inner h rs ps)) l = unfit_form a h rs ps
unfit_many (number a (number b none)) l = absurd (omega arith)
unfit_many (number a (number b (inner h rs ps))) l = unfit_form_2 a b h rs ps
unfit_many (number a (number b (number c none))) l = absurd (omega arith)
unfit_many (number a (number b (number c (number d ps)))) l = ((λ f. refl), (λ f. refl), (λ f. refl), (λ f. refl))
unfit_many (number a (number b (number c (inner h rs ps)))) l = ((λ f. refl), (λ f. refl), (λ f. refl), (λ f. refl))

unfit_as : (ps qs : Parts) → ps ≡ qs → Unfit qs → Unfit ps
unfit_as ps qs e u = subst (λ (x : Parts). Unfit x) (sym e) u

-- what the parts are, by what is held of them
abbrev ValuesOf : Option Values → Parts → Type 0
ValuesOf None ps = Unfit ps
ValuesOf (Some (One a)) ps = ps ≡ number a none
ValuesOf (Some (Two a b)) ps = ps ≡ number a (number b none)
ValuesOf (Some (Three a b c)) ps = ps ≡ number a (number b (number c none))
ValuesOf (Some (Form t)) ps = (f : Tree) × (ps ≡ inner f.head f.parts none) × (t.now ≡ bytes_of f)

seen_one : (p : Part) (ps : Parts) → pieces ps ≡ piece p ∷ [] → ValuesOf (seen (shown.One p)) ps
seen_one (part.Number m) ps e = let v = pieces_value ps m [] e in v.whole ∙ ap (number m) (pieces_nil v.rest v.left)
seen_one (part.Form t) ps e =
    let i = pieces_inner ps t.now [] e in
    (record { head = i.head; parts = i.parts }, i.whole ∙ ap (inner i.head i.parts) (pieces_nil i.rest i.left), i.text)

seen_two : (p q : Part) (ps : Parts) → pieces ps ≡ piece p ∷ (piece q ∷ []) → ValuesOf (seen (shown.Two p q)) ps
seen_two (part.Number m) (part.Number n) ps e =
    let v = pieces_value ps m (value n ∷ []) e in
    let w = pieces_value v.rest n [] v.left in
    v.whole ∙ ap (number m) (w.whole ∙ ap (number n) (pieces_nil w.rest w.left))
seen_two (part.Number m) (part.Form t) ps e =
    let v = pieces_value ps m (bracketed t.now ∷ []) e in
    let i = pieces_inner v.rest t.now [] v.left in
    unfit_as ps _ (v.whole ∙ ap (number m) i.whole) (unfit_form m i.head i.parts i.rest)
seen_two (part.Form t) q ps e =
    let i = pieces_inner ps t.now (piece q ∷ []) e in
    unfit_as ps _ i.whole (unfit_after i.head i.parts i.rest (omega (arith, ap length i.left)))

seen_three : (p q r : Part) (ps : Parts) → pieces ps ≡ piece p ∷ (piece q ∷ (piece r ∷ [])) → ValuesOf (seen (shown.Three p q r)) ps
seen_three (part.Number m) (part.Number n) (part.Number k) ps e =
    let v = pieces_value ps m (value n ∷ (value k ∷ [])) e in
    let w = pieces_value v.rest n (value k ∷ []) v.left in
    let x = pieces_value w.rest k [] w.left in
    v.whole ∙ ap (number m) (w.whole ∙ ap (number n) (x.whole ∙ ap (number k) (pieces_nil x.rest x.left)))
seen_three (part.Number m) (part.Number n) (part.Form t) ps e =
    let v = pieces_value ps m (value n ∷ (bracketed t.now ∷ [])) e in
    let w = pieces_value v.rest n (bracketed t.now ∷ []) v.left in
    let i = pieces_inner w.rest t.now [] w.left in
    unfit_as ps _ (v.whole ∙ ap (number m) (w.whole ∙ ap (number n) i.whole)) (unfit_form_2 m n i.head i.parts i.rest)
seen_three (part.Number m) (part.Form t) r ps e =
    let v = pieces_value ps m (bracketed t.now ∷ (piece r ∷ [])) e in
    let i = pieces_inner v.rest t.now (piece r ∷ []) v.left in
    unfit_as ps _ (v.whole ∙ ap (number m) i.whole) (unfit_form m i.head i.parts i.rest)
seen_three (part.Form t) q r ps e =
    let i = pieces_inner ps t.now (piece q ∷ (piece r ∷ [])) e in
    unfit_as ps _ i.whole (unfit_after i.head i.parts i.rest (omega (arith, ap length i.left)))

seen_is : (s : Shown) (ps : Parts) → Shows s (pieces ps) → ValuesOf (seen s) ps
seen_is shown.Zero ps e = unfit_as ps none (pieces_nil ps e) unfit_none
seen_is (shown.One p) ps e = seen_one p ps e
seen_is (shown.Two p q) ps e = seen_two p q ps e
seen_is (shown.Three p q r) ps e = seen_three p q r ps e
seen_is shown.More ps l = unfit_many ps l

-- a line that was made, and the row that it is
abbrev LineIs : Option Line → Option Row → Type 0
LineIs None None = Unit {0}
LineIs None (Some r) = ⊥
LineIs (Some l) None = ⊥
LineIs (Some l) (Some r) = Is l r

is_some : (l : Line) (w : Row) (r : Option Row) → r ≡ Some w → Is l w → LineIs (Some l) r
is_some l w r e k = subst (λ (y : Option Row). LineIs (Some l) y) (sym e) k

is_none : (r : Option Row) → r ≡ None → LineIs None r
is_none r e = subst (λ (y : Option Row). LineIs None y) (sym e) tt

one_is : (f : ℕ → Line) (g : ℕ → Row) → ((a : ℕ) → Is (f a) (g a)) → (v : Values) (ps : Parts) → ValuesOf (Some v) ps → LineIs (one_of f v) (one g ps)
one_is f g k (One a) ps e = is_some (f a) (g a) (one g ps) (ap (one g) e) (k a)
one_is f g k (Two a b) ps e = is_none (one g ps) (ap (one g) e)
one_is f g k (Three a b c) ps e = is_none (one g ps) (ap (one g) e)
one_is f g k (Form t) ps e = is_none (one g ps) (ap (one g) e.1)

two_is : (f : ℕ → ℕ → Line) (g : ℕ → ℕ → Row) → ((a b : ℕ) → Is (f a b) (g a b)) → (v : Values) (ps : Parts) → ValuesOf (Some v) ps → LineIs (two_of f v) (two g ps)
two_is f g k (One a) ps e = is_none (two g ps) (ap (two g) e)
two_is f g k (Two a b) ps e = is_some (f a b) (g a b) (two g ps) (ap (two g) e) (k a b)
two_is f g k (Three a b c) ps e = is_none (two g ps) (ap (two g) e)
two_is f g k (Form t) ps e = is_none (two g ps) (ap (two g) e.1)

three_is : (f : ℕ → ℕ → ℕ → Line) (g : ℕ → ℕ → ℕ → Row) → ((a b c : ℕ) → Is (f a b c) (g a b c)) → (v : Values) (ps : Parts) → ValuesOf (Some v) ps
    → LineIs (three_of f v) (three g ps)
three_is f g k (One a) ps e = is_none (three g ps) (ap (three g) e)
three_is f g k (Two a b) ps e = is_none (three g ps) (ap (three g) e)
three_is f g k (Three a b c) ps e = is_some (f a b c) (g a b c) (three g ps) (ap (three g) e) (k a b c)
three_is f g k (Form t) ps e = is_none (three g ps) (ap (three g) e.1)

form_is : (h : List ℕ) (v : Values) (ps : Parts) → Good (record { head = h; parts = ps }) → ValuesOf (Some v) ps → LineIs (form_in line.Task v) (single task ps)
form_is h (One a) ps g e = is_none (single task ps) (ap (single task) e)
form_is h (Two a b) ps g e = is_none (single task ps) (ap (single task) e)
form_is h (Three a b c) ps g e = is_none (single task ps) (ap (single task) e)
form_is h (Form t) ps g e =
    let f = e.0 in
    is_some (line.Task t) (task f) (single task ps) (ap (single task) e.1)
    (f, refl, e.2, sub_good h f.head f.parts none (subst (λ (x : Parts). Good (record { head = h; parts = x })) e.1 g))

line_is : (d : Head) (h : List ℕ) (v : Values) (ps : Parts) → Good (record { head = h; parts = ps }) → ValuesOf (Some v) ps → LineIs (line_of d v) (row_in d ps)
line_is head.Version h v ps g k = one_is line.Version version (λ a. refl) v ps k
line_is head.Marks h v ps g k = one_is line.Marks marks (λ a. refl) v ps k
line_is head.Stations h v ps g k = one_is line.Stations stations (λ a. refl) v ps k
line_is head.Label h v ps g k = two_is line.Label label (λ a b. refl) v ps k
line_is head.Leg h v ps g k = three_is _ (λ s t w. leg (record { from = s; to = t; seconds = w })) (λ a b c. refl) v ps k
line_is head.Bore h v ps g k = three_is _ boring (λ a b c. refl) v ps k
line_is head.Zone h v ps g k = three_is _ (λ a b m. zone (record { first = a; last = b; mark = m })) (λ a b c. refl) v ps k
line_is head.Task h v ps g k = form_is h v ps g k
line_is head.Start h v ps g k = one_is line.Start start (λ a. refl) v ps k
line_is head.Lookahead h v ps g k = one_is line.Lookahead lookahead (λ a. refl) v ps k

-- parts that no line has make no row
unfit_is : (d : Head) (ps : Parts) → Unfit ps → row_in d ps ≡ None
unfit_is head.Version ps u = u.0 version
unfit_is head.Marks ps u = u.0 marks
unfit_is head.Stations ps u = u.0 stations
unfit_is head.Label ps u = u.1 label
unfit_is head.Leg ps u = u.2 _
unfit_is head.Bore ps u = u.2 boring
unfit_is head.Zone ps u = u.2 _
unfit_is head.Task ps u = u.3 task
unfit_is head.Start ps u = u.0 start
unfit_is head.Lookahead ps u = u.0 lookahead

-- the line of what may be a head and what may be its parts
abbrev pub lined : Option Head → Option Values → Option Line
lined None v = None
lined (Some d) None = None
lined (Some d) (Some v) = line_of d v

lined_is : (d : Option Head) (h : List ℕ) (v : Option Values) (ps : Parts) → Good (record { head = h; parts = ps }) → ValuesOf v ps
    → LineIs (lined d v) (option_and_then (λ w. row_in w ps) d)
lined_is None h v ps g k = tt
lined_is (Some d) h None ps g k = is_none (row_in d ps) (unfit_is d ps k)
lined_is (Some d) h (Some v) ps g k = line_is d h v ps g k

-- what the reader of a line answers, from the form that was read
abbrev pub answered : Option Line → Result Line Fault
answered None = Err fault.Unknown
answered (Some l) = Ok l

asks_known : (t : List ℕ) (x : Option Line) (r : Option Row) → asked t ≡ known r → LineIs x r → Asks t (answered x)
asks_known t None None e k = e
asks_known t None (Some r) e k = absurd k
asks_known t (Some l) None e k = absurd k
asks_known t (Some l) (Some r) e k = (r, e, k)

pub asks_line : (t : List ℕ) (f : Tree) (w : List ℕ) (s : Shown) (x : Option Line)
    → plain t ≡ true → form_of t ≡ Some f → w ≡ f.head → Shows s (pieces f.parts) → x ≡ lined (head_of w) (seen s) → Asks t (answered x)
asks_line t f w s x p r ew es ex =
    let g = (reading_right.writes t f r).1 in
    let k = lined_is (head_of f.head) f.head (seen s) f.parts g (seen_is s f.parts es) in
    let e : x ≡ lined (head_of f.head) (seen s) = ex ∙ ap (λ z. lined (head_of z) (seen s)) ew in
    asks_known t x (option_and_then (λ d. row_in d f.parts) (head_of f.head)) (cond-true (plain t) (formed (form_of t)) _ p ∙ ap formed r)
    (subst (λ (z : Option Line). LineIs z (option_and_then (λ d. row_in d f.parts) (head_of f.head))) (sym e) k)
