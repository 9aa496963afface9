-- A formula evaluated from its last operator to its first.
use Rattle.std.proofs.Common.{◌≡◌, ℕ, zero, suc, ◌+◌, ◌-◌, ◌*◌, ◌^◌, ◌<◌, ◌≤◌, Bool, true, false, cond, List, [], ◌∷◌, ◌++◌, map, length, get_or, drop, replicate, is_some, Some, None, Option, sym, refl, ap, ◌∙◌, inl, inr, zero-mul, arith, length-append}
use Rattle.std.proofs.lemmas.List.{append-nil}
use Rattle.std.proofs.lemmas.Bool.{cases_lt}
use Rattle.ltlf.specs.Bits.{bit, number}
use Rattle.ltlf.specs.Ltlf.{Ltlf}
use Rattle.ltlf.specs.Forecasts.{temporal, truth, earlier, earlier_bits, ending}
use Rattle.ltlf.specs.declared.operator.Operator.{Operator}
use Rattle.ltlf.specs.Operators.{operands, is_temporal}
use Rattle.ltlf.specs.Prefix.{made as made_by, made_of, formulas, formula, meaning, temporals}
use Rattle.ltlf.specs.Evaluation.{truths, earlier_of, Evaluates}
use Rattle.ltlf.proofs.Packs.{bit_none, number_append}
use Rattle.ltlf.proofs.Right.{earlier_length}
use Rattle.ltlf.proofs.Counts.{end_bit, ends_of, ends_small, ends_formula, temporals_append}
use Rattle.ltlf.proofs.Suffixes.{made_enough, made_short, end_known, formula_known, formulas_known}
use Rattle.task.specs.declared.words.Words.{Words}
use Rattle.task.specs.Held.{held}
use Rattle.task.proofs.Backwards.{one_moved, none_left}

-- the operators after those that are left are evaluated: t is the number of temporal operators of all
pub record Seen (all left : List Operator) (t a : ℕ) (s : Words) : Type 0 where
  pub rest : List Operator
  pub front : all ≡ left ++ rest
  pub made : List Ltlf
  pub are : formulas rest ≡ Some made
  pub tall : length made + s.stack.top ≡ 64
  pub room : length left ≤ s.stack.top
  pub counted : s.earlier.top + temporals rest ≡ t
  pub holds : Evaluates made (replicate (6 - t) false) s.earlier.top a (held s.stack) (held s.earlier)

zeros : (n w : ℕ) → map (bit w) (replicate n 0) ≡ replicate n false
zeros zero w = refl
zeros (suc n) w = let e = zeros n w in let z = bit_none w in cc

pub seen_none : (all : List Operator) (t a : ℕ) (s : Words) → length all ≤ 64
    → held s.stack ≡ [] → s.stack.top ≡ 64 → held s.earlier ≡ replicate (6 - t) 0 → s.earlier.top ≡ t → Seen all all t a s
seen_none all t a s few held_is top_is told_is number_is = record {
  rest = [];
  front = sym (append-nil all);
  made = [];
  are = refl;
  tall = omega arith;
  room = omega arith;
  counted = omega arith;
  holds = record {
    here = λ w h. ap (map (bit w)) held_is;
    before = λ w h. ap (map (bit w)) told_is ∙ zeros (6 - t) w;
  };
}

-- one operator more
module _ (all left less : List Operator) (o : Operator) (fs : List Ltlf) (t a : ℕ) (s : Words) (is : left ≡ less ++ o ∷ [])
    (whole : formulas all ≡ Some fs) (t_is : t ≡ temporals all) (seen : Seen all left t a s) where
  all_is : all ≡ less ++ o ∷ seen.rest
  all_is = one_moved all left less seen.rest o seen.front is

  one_less : length left ≡ length less + 1
  one_less = omega (arith, ap length is, length-append less (o ∷ []))

  more : (gs : List Ltlf) × (formulas (o ∷ seen.rest) ≡ Some gs)
  more = end_known less (o ∷ seen.rest) fs (ap formulas (sym all_is) ∙ whole)

  makes : made_by o seen.made ≡ Some more.0
  makes = sym (ap (made_of o) seen.are) ∙ more.1

  enough : operands o ≤ length seen.made
  enough = elim (cases_lt (length seen.made) (operands o)) [
    | inl l ↦ absurd (clash (sym (made_short o seen.made l) ∙ makes))
    | inr l ↦ l
  ]
    where
      clash : ◌≡◌ {A = Option (List Ltlf)} None (Some more.0) → ⊥
      clash z = let y : ◌≡◌ {A = ℕ} 0 1 = cc in omega arith

  many : length more.0 + operands o ≡ suc (length seen.made)
  many =
      let m = made_enough o seen.made enough in
      let same : m.result ≡ more.0 = unsome (sym m.is ∙ makes) in
      omega (arith, m.length_is, ap length same)
    where
      unsome : {x y : List Ltlf} → ◌≡◌ {A = Option (List Ltlf)} (Some x) (Some y) → x ≡ y
      unsome e = cc

  -- what the operator asks of the words
  pub ready : (s.stack.top + operands o ≤ 64) × (0 < s.stack.top) × (cond (is_temporal o) 1 0 ≤ s.earlier.top)
  ready = (
    omega (arith, enough, seen.tall),
    omega (arith, seen.room, one_less),
    omega (arith, seen.counted, ap temporals all_is, temporals_append less (o ∷ seen.rest)),
  )

  pub seen_more : (s' : Words) → s'.stack.top + 1 ≡ s.stack.top + operands o
      → s'.earlier.top + cond (is_temporal o) 1 0 ≡ s.earlier.top
      → ((fs gs : List Ltlf) (zs : List Bool) → made_by o fs ≡ Some gs
      → Evaluates fs zs s.earlier.top a (held s.stack) (held s.earlier) → Evaluates gs zs s'.earlier.top a (held s'.stack) (held s'.earlier))
      → Seen all less t a s'
  seen_more s' top_is number_is turn = record {
    rest = o ∷ seen.rest;
    front = all_is;
    made = more.0;
    are = more.1;
    tall = omega (arith, many, seen.tall, top_is);
    room = omega (arith, seen.room, top_is, one_less);
    counted = omega (arith, seen.counted, number_is);
    holds = turn seen.made more.0 (replicate (6 - t) false) makes seen.holds;
  }

head_bit : (w : ℕ) (hs : List ℕ) (b : Bool) (bs : List Bool) → map (bit w) hs ≡ b ∷ bs → bit w (get_or hs 0 0) ≡ b
head_bit w [] b bs e = cc
head_bit w (h ∷ hs) b bs e = cc

number_zeros : (n : ℕ) → number (replicate n false) ≡ 0
number_zeros zero = refl
number_zeros (suc n) = omega (arith, number_zeros n)

-- the whole list
module _ (all left : List Operator) (t a : ℕ) (s : Words) (done : length left ≡ 0) (one : is_some (formula all) ≡ true) (t_is : t ≡ temporals all)
    (seen : Seen all left t a s) where
  same : all ≡ seen.rest
  same = none_left all left seen.rest seen.front done

  made_is : seen.made ≡ meaning all ∷ []
  made_is = unsome (sym seen.are ∙ (ap formulas (sym same) ∙ formulas_known all one))
    where
      unsome : {x y : List Ltlf} → ◌≡◌ {A = Option (List Ltlf)} (Some x) (Some y) → x ≡ y
      unsome e = cc

  number_is : s.earlier.top ≡ 0
  number_is = omega (arith, seen.counted, ap temporals same)

  pub seen_truth : (w : ℕ) → w < 64 → bit w (get_or (held s.stack) 0 0) ≡ truth (meaning all) 0 a w
  seen_truth w h =
      head_bit w (held s.stack) (truth (meaning all) 0 a w) []
      (seen.holds.here w h ∙ (ap (λ fs. truths fs s.earlier.top a w) made_is ∙ ap (λ n. truths (meaning all ∷ []) n a w) number_is))

  pub seen_earlier : (w : ℕ) → w < 64 → number (map (bit w) s.earlier.words) ≡ earlier (meaning all) a w
  seen_earlier w h =
      let zs : List Bool = replicate (6 - t) false in
      let bits : map (bit w) s.earlier.words ≡ earlier_bits (meaning all) 0 a w ++ zs
      = ap (λ k. map (bit w) (drop k s.earlier.words)) (sym number_is)
      ∙ (seen.holds.before w h ∙ (ap (λ fs. earlier_of fs s.earlier.top a w zs) made_is ∙ ap (λ n. earlier_of (meaning all ∷ []) n a w zs) number_is)) in
      let none : number zs * 2 ^ temporal (meaning all) ≡ 0 = ap (λ x. x * 2 ^ temporal (meaning all)) (number_zeros (6 - t)) ∙ zero-mul _ in
      ap number bits
      ∙ (number_append (earlier_bits (meaning all) 0 a w) zs (temporal (meaning all)) (earlier_length (meaning all) 0 a w) ∙ omega (arith, none))

-- the end forecast: v has the bits of the operators after those that are left
pub record Ends (all left : List Operator) (v : ℕ) : Type 0 where
  pub rest : List Operator
  pub front : all ≡ left ++ rest
  pub is : v ≡ number (ends_of rest)
  pub small : v < 64

pub ends_more : (all left less : List Operator) (o : Operator) (v : ℕ) → left ≡ less ++ o ∷ [] → temporals all ≤ 6 → (e : Ends all left v)
    → (bs : List Bool) → end_bit o ≡ bs → (u : ℕ) → u ≡ number (bs ++ ends_of e.rest) → Ends all less u
ends_more all left less o v is few e bs bit_is u u_is =
    let front = one_moved all left less e.rest o e.front is in
    let same : u ≡ number (ends_of (o ∷ e.rest)) = u_is ∙ ap (λ cs. number (cs ++ ends_of e.rest)) (sym bit_is) in
    record {
      rest = o ∷ e.rest;
      front = front;
      is = same;
      small = omega (arith, same, ends_small (o ∷ e.rest) (omega (arith, few, ap temporals front, temporals_append less (o ∷ e.rest))));
    }

pub ends_all : (all left : List Operator) (v : ℕ) → length left ≡ 0 → is_some (formula all) ≡ true → Ends all left v → v ≡ ending (meaning all)
ends_all all left v done one e =
    e.is ∙ (ap (λ os. number (ends_of os)) (sym (none_left all left e.rest e.front done)) ∙ ends_formula all (meaning all) (formula_known all one))
