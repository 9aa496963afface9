-- What a scan keeps of what was read: where it stands, and how many brackets are open around the innermost.
use Rattle.std.specs.Prelude.{ℕ, ◌+◌, ◌-◌, ◌*◌, cond, ◌&&◌, List, [], ◌∷◌, length, Some, None, Option, ◌==◌, nat_lt}
use Rattle.form.specs.declared.scan.Scan.{Scan}
use Rattle.form.specs.declared.scan.Scan.TheVariants.{Start, Opened, Word, Gap, Number, After, Done}
use Rattle.form.specs.Forms.{letter}
use Rattle.form.specs.Reading.{State, start, heading, gap, counting, after, done, bad, digit}

-- after a head or a part
abbrev pub stopped : ℕ → ℕ → Option Scan
stopped around b = cond (b == 32) (Some (Gap around)) (cond (b == 41) (cond (around == 0) (Some Done) (Some (After (around - 1)))) None)

-- one byte more
abbrev pub moved : Scan → ℕ → Option Scan
moved Start b = cond (b == 40) (Some (Opened 0)) None
moved (Opened around) b = cond (letter b) (Some (Word around)) None
moved (Word around) b = cond (letter b) (Some (Word around)) (stopped around b)
moved (Gap around) b = cond (digit b) (Some (Number around (b - 48))) (cond (b == 40 && nat_lt around 15) (Some (Opened (around + 1))) None)
moved (Number around n) b = cond (digit b && (nat_lt 0 n && nat_lt n 100000)) (Some (Number around (n * 10 + (b - 48)))) (stopped around b)
moved (After around) b = stopped around b
moved Done b = None

-- within a head, of which no letter was read yet, or some were
abbrev pub named : List ℕ → ℕ → Scan
named [] around = Opened around
named (b ∷ h) around = Word around

-- what a scan keeps of a state; none where no form begins so
abbrev pub viewed : State → Option Scan
viewed start = Some Start
viewed (heading fs h) = Some (named h (length fs))
viewed (gap fs h ps) = Some (Gap (length fs))
viewed (counting fs h ps n) = Some (Number (length fs) n)
viewed (after fs h ps) = Some (After (length fs))
viewed (done h ps) = Some Done
viewed bad = None
