-- A line as the code holds it.
use Rattle.std.specs.Prelude.{◌≡◌, ℕ, List, Some, None, Ok, Err, Option, Result}
use Rattle.std.specs.Borrow.{Bor}
use Rattle.form.specs.Forms.{Tree, Good, bytes_of}
use Rattle.form.specs.declared.view.Part.TheVariants as part
use Rattle.form.specs.declared.view.Parts.{Parts as Shown}
use Rattle.form.specs.declared.view.Parts.TheVariants as shown
use Rattle.job.specs.declared.fault.Fault.{Fault}
use Rattle.job.specs.declared.line.Head.{Head}
use Rattle.job.specs.declared.line.Head.TheVariants as head
use Rattle.job.specs.declared.line.Line.{Line}
use Rattle.job.specs.declared.line.Line.TheVariants as line
use Rattle.job.specs.declared.line.Values.{Values}
use Rattle.job.specs.declared.line.Values.TheVariants.{One, Two, Three, Form}
use Rattle.job.specs.Rows.{Row, version, marks, stations, label, leg, boring, zone, task, start, lookahead, asked}

-- the parts of a line, as its form's reader shows them
abbrev pub seen : Shown → Option Values
seen shown.Zero = None
seen (shown.One (part.Number a)) = Some (One a)
seen (shown.One (part.Form t)) = Some (Form t)
seen (shown.Two (part.Number a) (part.Number b)) = Some (Two a b)
seen (shown.Two (part.Number a) (part.Form t)) = None
seen (shown.Two (part.Form t) q) = None
seen (shown.Three (part.Number a) (part.Number b) (part.Number c)) = Some (Three a b c)
seen (shown.Three (part.Number a) (part.Number b) (part.Form t)) = None
seen (shown.Three (part.Number a) (part.Form t) r) = None
seen (shown.Three (part.Form t) q r) = None
seen shown.More = None

-- a line of one number, two or three, or of one form
abbrev pub one_of : (ℕ → Line) → Values → Option Line
one_of f (One a) = Some (f a)
one_of f (Two a b) = None
one_of f (Three a b c) = None
one_of f (Form t) = None

abbrev pub two_of : (ℕ → ℕ → Line) → Values → Option Line
two_of f (One a) = None
two_of f (Two a b) = Some (f a b)
two_of f (Three a b c) = None
two_of f (Form t) = None

abbrev pub three_of : (ℕ → ℕ → ℕ → Line) → Values → Option Line
three_of f (One a) = None
three_of f (Two a b) = None
three_of f (Three a b c) = Some (f a b c)
three_of f (Form t) = None

abbrev pub form_in : (Bor (List ℕ) → Line) → Values → Option Line
form_in f (One a) = None
form_in f (Two a b) = None
form_in f (Three a b c) = None
form_in f (Form t) = Some (f t)

abbrev pub line_of : Head → Values → Option Line
line_of head.Version v = one_of line.Version v
line_of head.Marks v = one_of line.Marks v
line_of head.Stations v = one_of line.Stations v
line_of head.Label v = two_of line.Label v
line_of head.Leg v = three_of (λ s t w. line.Leg (record { from = s; to = t; seconds = w })) v
line_of head.Bore v = three_of (λ n d u. line.Bore (record { stations = n; down = d; up = u })) v
line_of head.Zone v = three_of (λ a b m. line.Zone (record { first = a; last = b; mark = m })) v
line_of head.Task v = form_in line.Task v
line_of head.Start v = one_of line.Start v
line_of head.Lookahead v = one_of line.Lookahead v

-- the line of a text that a line stands for
abbrev pub Is : Line → Row → Type 0
Is (line.Version n) r = r ≡ version n
Is (line.Marks n) r = r ≡ marks n
Is (line.Stations n) r = r ≡ stations n
Is (line.Label s a) r = r ≡ label s a
Is (line.Leg l) r = r ≡ leg l
Is (line.Bore s) r = r ≡ boring s.stations s.down s.up
Is (line.Zone z) r = r ≡ zone z
Is (line.Task t) r = (f : Tree) × (r ≡ task f) × (t.now ≡ bytes_of f) × Good f
Is (line.Start n) r = r ≡ start n
Is (line.Lookahead n) r = r ≡ lookahead n

-- what the reader of a line answers
abbrev pub Asks : List ℕ → Result Line Fault → Type 0
Asks t (Ok l) = (r : Row) × (asked t ≡ Ok r) × Is l r
Asks t (Err e) = asked t ≡ Err e
