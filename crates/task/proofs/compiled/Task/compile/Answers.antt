use Rattle.std.proofs.Common.{◌≡◌, ℕ, ◌^◌, ◌<◌, ◌≤◌, ◌&&◌, ltb, leb, List, length, get_or, sym, ap, ◌∙◌, subst, arith, rules}
use Rattle.std.proofs.lemmas.Result.{err_from_is_err_and}
use Rattle.ltlf.specs.declared.operator.Operator.{Operator}
use Rattle.ltlf.specs.Distance.{within}
use Rattle.ltlf.specs.Grammar.{Writes}
use Rattle.ltlf.specs.Numbering.{states}
use Rattle.ltlf.specs.Prefix.{meaning}
use Rattle.ltlf.proofs.Numbers.{numbers_states}
use Rattle.ltlf.proofs.Reading.{reads_grammar}
use Rattle.task.specs.declared.fault.Fault.TheVariants.{TooManyStates}
use Rattle.task.specs.Tables.{Tabulates}
use Rattle.task.specs.Written.{formula_of}
use Rattle.task.proofs.Compiling.{many_states, few_states, no_formula, checked_writes, built_right, built_none, same_states, listed_few, tables_inside}
use Rattle.task.proofs.compiled.Task.compile.Goals as goal

pub returns-in_err-formula : goal.returns-in_err-formula
returns-in_err-formula c =
    let os = c.args.operators.now in
    let p = c.args.marks in
    let e = err_from_is_err_and c.from_residual.result c.from_residual.ensures.1 in
    rw (e.1, e.2) (record {
      answer = c.in_err-formula.ensures _;
      grammar = no_formula p os c.in_err-formula.field-0.0 c.in_err-formula.ensures;
      theorems = (reads_grammar, numbers_states);
    })

pub returns-in_err-tables : goal.returns-in_err-tables
returns-in_err-tables c =
    let os = c.args.operators.now in
    let p = c.args.marks in
    let f = c.in_ok-formula.formula in
    let ok = c.in_ok-formula.ensures in
    let fits : c.letter_count-letters.result ≤ length c.letters.result = search rules in
    let many = built_none f c.letter_count-letters.result c.letters.result c.build.result c.letter_count-letters.ensures.is fits c.letters.ensures c.build.ensures
    c.in_err-tables.ensures.ok_part in
    let e = err_from_is_err_and c.from_residual-in_err-tables.result c.from_residual-in_err-tables.ensures.1 in
    let told = rw c.in_err-tables.ensures.ok_part at c.in_err-tables.ensures.value in
    let refused : c.in_err-tables.field-0.0 ≡ TooManyStates = cc in
    rw (e.1, e.2, refused) (record {
      answer = many_states p os ok.0 (omega (arith, many, ap length (same_states f p os ok.1 ok.2)));
      grammar = λ e. let z : ◌≡◌ {A = ℕ} 0 1 = cc in let none : ⊥ = omega arith in absurd none;
      theorems = (reads_grammar, numbers_states);
    })

pub distances-distances-requires : goal.distances-distances-requires
distances-distances-requires c =
    let f = c.in_ok-formula.formula in
    let t = c.in_ok-tables.tables in
    let n = c.letter_count-letters.result in
    let is = c.letter_count-letters.ensures.is in
    let fits : n ≤ length c.letters.result = search rules in
    let right = built_right f n c.letters.result c.build.result is fits c.letters.ensures c.build.ensures t c.in_ok-tables.ensures.ok_part in
    record {
      short = c.letter_count-letters.ensures.few;
      inside = tables_inside (formula_of f) n t (subst (λ k. Tabulates (formula_of f) k t) (sym is) right);
    }

pub invariant_of-result : goal.invariant_of-result
invariant_of-result c =
    let f = c.in_ok-formula.formula in
    let t = c.in_ok-tables.tables in
    let n = c.letter_count-letters.result in
    let is = c.letter_count-letters.ensures.is in
    let fits : n ≤ length c.letters.result = search rules in
    let right = built_right f n c.letters.result c.build.result is fits c.letters.ensures c.build.ensures t c.in_ok-tables.ensures.ok_part in
    let ds = c.distances-distances.result in
    let tests = c.distances-distances.ensures (formula_of f) (subst (λ k. Tabulates (formula_of f) k t) (sym is) right) c.ending-ending.ensures.value in
    let T : ℕ → Type 0 = λ k. (q j : ℕ) → q < t.numbered.count → within (formula_of f) k j q ≡ (ltb (get_or ds q 0) 4294967295 && leb (get_or ds q 0) j) in
    record {
      tabulated = right;
      ends = c.ending-ending.ensures.value;
      low = c.ending-ending.ensures.small;
      many = search rules;
      tests = subst T is tests;
    }

pub returns : goal.returns
returns c =
    let os = c.args.operators.now in
    let p = c.args.marks in
    let f = c.in_ok-formula.formula in
    let t = c.in_ok-tables.tables in
    let ok = c.in_ok-formula.ensures in
    let fits : c.letter_count-letters.result ≤ length c.letters.result = search rules in
    let right = built_right f c.letter_count-letters.result c.letters.result c.build.result c.letter_count-letters.ensures.is fits c.letters.ensures c.build.ensures
    t c.in_ok-tables.ensures.ok_part in
    let W : List Operator → Type 0 = λ x. Writes x (formula_of f) in
    record {
      answer = (few_states p os ok.0 (listed_few t.numbered (states (meaning os) (2 ^ p)) (right.lists ∙ same_states f p os ok.1 ok.2)), ok.1, ok.2);
      grammar = subst W ok.1 (checked_writes f);
      theorems = (reads_grammar, numbers_states);
    }
