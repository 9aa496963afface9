-- States of which none stands twice.
use Rattle.std.specs.Prelude.{◌≡◌, ℕ, ◌<◌, List, take, slice_index}
use Rattle.ltlf.specs.Numbering.{place}

-- each of the first n states stands nowhere before its place, so no state stands twice among them
abbrev pub Apart : ℕ → List ℕ → Type 0
Apart n ss = (q : ℕ) → q < n → place (slice_index ss q) (take n ss) ≡ q
